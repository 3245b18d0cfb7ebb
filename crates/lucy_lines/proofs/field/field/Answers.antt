use Rattle.std.proofs.Common.{◌≡◌, ap, ◌-◌, ◌<◌, ◌≤◌, ℕ, true, false, List, take, drop, sym, ◌∙◌, arith, length}
use Rattle.std.specs.Prelude.{◌==◌}
use Rattle.std.proofs.lemmas.Bool.{eqb-true, eqb-false}
use Rattle.std.proofs.lemmas.List.{take_rest, length-drop}
use Rattle.lucy_lines.proofs.FieldLaws.{fields_none, first_field}
use Rattle.lucy_lines.proofs.field.field.Goals as goal

-- what is left behind n bytes
rest_length : (line : List ℕ) (n : ℕ) → length (take (length line - n) (drop n line)) ≡ length line - n
rest_length line n = ap length (take_rest line n) ∙ length-drop n line

all_passed : (line : List ℕ) (n : ℕ) → n ≤ length line → true ≡ (length (take (length line - n) (drop n line)) == 0) → n ≡ length line
all_passed line n h e = let z = eqb-true (length (take (length line - n) (drop n line))) 0 (sym e) in omega (arith, h, z, rest_length line n)

some_left : (line : List ℕ) (n : ℕ) → false ≡ (length (take (length line - n) (drop n line)) == 0) → 0 < length (take (length line - n) (drop n line))
some_left line n e = let z = eqb-false (length (take (length line - n) (drop n line))) 0 (sym e) in omega arith

pub returns-then-is_empty : goal.returns-then-is_empty
returns-then-is_empty c = fields_none c.args.line.now (sym c.blanks.ensures.blanks ∙ all_passed c.args.line.now c.blanks.result c.blanks.ensures.within (c.if-is_empty.ensures))

pub returns : goal.returns
returns c =
    first_field c.args.line.now _ c.blanks.result c.unwrap_or-end.result c.find_byteset.result
    c.blanks.ensures.blanks (take_rest c.args.line.now c.blanks.result) (some_left c.args.line.now c.blanks.result c.if-is_empty.ensures) c.find_byteset.ensures c.unwrap_or-end.ensures
