-- Where places begin in a text.
use Rattle.std.specs.Prelude.{ℕ, Option, Some, None}
use Rattle.lucy_tree.specs.Tree.{Tree, literal, variable, operator, host, sampled, merged, followed, buffered, call}
use Rattle.lucy_tree.specs.declared.span.Span.{Span}
use Rattle.lucy_tree.specs.declared.span.Name.{Name}
use Rattle.lucy_place.specs.declared.entry.PlaceEntry.{PlaceEntry}

-- the span of a form: of its operator, its literal or its name; of `when` and `whenot`, which stand behind their operand, that of the operand
abbrev pub span_of : Tree → Span
span_of (literal l span) = span
span_of (variable n) = n.span
span_of (operator op args span) = span
span_of (host n args) = n.span
span_of (sampled flip e w) = span_of e
span_of (merged w a b span) = span
span_of (followed l e span) = span
span_of (buffered most e span) = span
span_of (call n at args) = n.span

-- the offset of a form, where there is one
abbrev pub form_offset : Option Tree → ℕ
form_offset None = 0
form_offset (Some t) = (span_of t).from

-- where a place begins, in bytes from 0: a stream with its name where it is declared, any other place with its form
abbrev pub named_offset : Option Name → Option Tree → ℕ
named_offset (Some name) form = name.span.from
named_offset None form = form_offset form

-- that of a place
abbrev pub offset_of : PlaceEntry → Option Tree → ℕ
offset_of entry form = named_offset entry.name form
