-- How a word is spelled: the items of the prefix, then those of the period in parentheses, as `0(01)` (the notation u(v) of Cohen and
-- others 2006), or with counts, which are this project's own, as `0(1{720}0{3})`.
use Rattle.std.specs.Prelude.{ℕ, ◌+◌, ◌≡◌, Bool, true, false, List, [], ◌∷◌, ◌++◌, replicate, if◌then◌else◌, ◌==◌, ◌||◌, nat_le}
use Rattle.std.specs.Fmt.{decimal}
use Rattle.lucy_word.specs.Bits.{Bits}
use Rattle.lucy_word.specs.Items.{digit_of, WordForm, form_text, form_bits, IsForm, HasCounts}

-- the digit 0 or the digit 1
abbrev pub is_digit : ℕ → Bool
is_digit byte = byte == 48 || byte == 49

-- two bits are equal
abbrev pub same_bit : Bool → Bool → Bool
same_bit true b = b
same_bit false true = false
same_bit false false = true

-- a run of one bit, so many times: up to four as so many digits, more as one digit with its count
abbrev pub run_text : Bool → ℕ → List ℕ
run_text bit n = if nat_le n 4 then replicate n (digit_of bit) else (digit_of bit ∷ 123 ∷ (decimal n ++ 125 ∷ []))

-- the text of bits behind n that are one run with their first: greatest runs, each by `run_text`
abbrev pub runs_text : Bool → ℕ → List Bool → List ℕ
runs_text bit n [] = run_text bit n
runs_text bit n (b ∷ bits) = if same_bit bit b then runs_text bit (n + 1) bits else (run_text bit n ++ runs_text b 1 bits)

-- the text of bits, by their greatest runs
abbrev pub spelled : List Bool → List ℕ
spelled [] = []
spelled (bit ∷ bits) = runs_text bit 1 bits

-- the text of a word
abbrev pub text_of : Bits → List ℕ
text_of w = spelled w.prefix ++ 40 ∷ (spelled w.period ++ 41 ∷ [])

-- the text spells the word
pub record Spells (text : List ℕ) (w : Bits) : Type 0 where
  pub form : WordForm
  pub is_form : IsForm form
  pub counts : HasCounts form
  pub shape : text ≡ form_text form
  pub bits : w ≡ form_bits form
