-- A node is written exactly where no span keeps it from being so.
use Rattle.std.proofs.Common.{◌≡◌, List, [], ◌∷◌, Some, None, refl, ap, nat_lt, Bool, true, false, if◌then◌else◌}
use Rattle.std.specs.Prelude.{fold}
use Rattle.lucy_tree.specs.declared.span.Span.{Span}
use Rattle.lucy_tree.specs.View.{NodeTree}
use Rattle.lucy_naming.specs.Written.{earlier, unwritten_spans, first_unwritten}

-- of spans and one before them there is a first one
some_first : (s : Span) (spans : List Span) → fold earlier (Some s) spans ≡ None → ⊥
some_first s [] h = cc
some_first s (t ∷ ts) h = by (nat_lt t.from s.from) (some_first t ts) (some_first s ts) h
  where
    by : (b : Bool) → (fold earlier (Some t) ts ≡ None → ⊥) → (fold earlier (Some s) ts ≡ None → ⊥) → fold earlier (if b then Some t else Some s) ts ≡ None → ⊥
    by true f g = f
    by false f g = g

none_none : (spans : List Span) → fold earlier None spans ≡ None → spans ≡ []
none_none [] h = refl
none_none (s ∷ ss) h = absurd (some_first s ss h)

pub written : (n : NodeTree) → first_unwritten n ≡ None → unwritten_spans n ≡ []
written n h = none_none (unwritten_spans n) h

pub unwritten : (n : NodeTree) → unwritten_spans n ≡ [] → first_unwritten n ≡ None
unwritten n h = ap (fold earlier None) h
