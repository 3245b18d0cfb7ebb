-- Where what is told stands in a text.
use Rattle.std.specs.Prelude.{ℕ, ◌≤◌, List}
use Rattle.std.specs.List.{All}
use Rattle.lucy_tree.specs.declared.span.Span.{Span}

-- the span is a part of a text of so many bytes
pub record IsWithin (bytes : ℕ) (span : Span) : Type 0 where
  pub from : span.from ≤ span.to
  pub to : span.to ≤ bytes

-- each of them is
abbrev pub AreWithin : (bytes : ℕ) → List Span → Type 0
AreWithin bytes spans = All (IsWithin bytes) spans
