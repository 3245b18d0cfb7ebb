-- What the lines of a short input say.
use Rattle.std.proofs.Common.{ℕ, ◌≡◌, List, [], ◌∷◌, Some, None, refl, ap, ◌∙◌, inl, inr, arith}
use Rattle.std.specs.Prelude.{codes, pos, negsuc}
use Rattle.std.specs.Str.Lines.{lines}
use Rattle.lucy_host.specs.declared.data_type.DataType.TheVariants.{Int}
use Rattle.lucy_lines.specs.declared.input.InputSpec.{InputSpec}
use Rattle.lucy_lines.specs.Fields.{line_fields}
use Rattle.lucy_lines.specs.Kinds.{stream_named}
use Rattle.lucy_lines.specs.Cuts.{ItemOf}
use Rattle.lucy_right.specs.Right.{LineSays, LineFails, LinesSay}

abbrev x_input : InputSpec
x_input = record { name = codes "x"; holds = Int }

abbrev one : ItemOf
one = record { stream = 0; value = pos 1 }

abbrev minus_two : ItemOf
minus_two = record { stream = 0; value = negsuc 1 }

first_says : LineSays (x_input ∷ []) (codes "x 1") one
unfolding line_fields
first_says = (codes "x", codes "1", x_input, refl, record { found = refl; there = refl }, (((omega arith, (omega arith, tt)), record { sfits = omega arith }, refl)))

last_says : LineSays (x_input ∷ []) (codes " x\t-2 ") minus_two
unfolding line_fields
last_says = (codes "x", codes "-2", x_input, refl, record { found = refl; there = refl }, (((omega arith, (omega arith, tt)), record { sfits = omega arith }, refl)))

-- three lines, of which one is empty and the last lacks its end, say two items
three_lines : LinesSay (x_input ∷ []) (lines (codes "x 1\r\n\n x\t-2 ")) (one ∷ minus_two ∷ [])
unfolding line_fields
three_lines = (omega arith, inr (one, minus_two ∷ [], first_says, (omega arith, inl (refl, (omega arith, inr (minus_two, [], last_says, refl, refl)))), refl))

-- where main has no inputs they say none
no_inputs : LinesSay [] (lines (codes "x 1\n")) []
no_inputs = refl

-- a name that no input has, and a name alone, are refused
unknown_fails : LineFails (x_input ∷ []) (codes "y 1")
unfolding line_fields
unknown_fails = (
  λ none. cc none,
  inr (
    λ e. let split : codes "y" ∷ codes "1" ∷ [] ≡ [] = e in cc split,
    λ x says.
        let split : codes "y" ∷ codes "1" ∷ [] ≡ says.0 ∷ says.1 ∷ [] = says.3 in
        let name : codes "y" ≡ says.0 = cc split in
        let bad : None ≡ Some x.stream = ap (stream_named (x_input ∷ [])) name ∙ says.4.found in
        cc bad,
  ),
)

name_fails : LineFails (x_input ∷ []) (codes "x")
unfolding line_fields
name_fails = (
  λ none. cc none,
  inr (
    λ e. let split : codes "x" ∷ [] ≡ [] = e in cc split,
    λ x says. let split : codes "x" ∷ [] ≡ says.0 ∷ says.1 ∷ [] = says.3 in cc split,
  ),
)

-- no line that fails is passed over
fails_unsaid : (input : InputSpec) (others : List InputSpec) (line : List ℕ) (lines : List (List ℕ)) (items : List ItemOf) → LineFails (input ∷ others) line → LinesSay (input ∷ others) (line ∷ lines) items → ⊥
fails_unsaid input others line lines items (some, inl far) (short, rest) = omega (arith, far, short)
fails_unsaid input others line lines items (some, inr (full, unsaid)) (short, inl (blank, say)) = full blank
fails_unsaid input others line lines items (some, inr (full, unsaid)) (short, inr (item, more, says, say, is)) = unsaid item says

-- and none fails where main has no inputs
none_fails : (line : List ℕ) → LineFails [] line → ⊥
none_fails line fails = fails.0 refl
