use Rattle.std.proofs.Common.{ℕ, ◌≤◌, ◌≡◌, Bool, true, false, List, [], ◌∷◌, Option, Some, None, length, refl, sym, subst}
use Rattle.std.specs.Prelude.{◌&&◌, nat_le, if◌then◌else◌, IfSome}
use Rattle.std.specs.Str.{all_ascii_digits}
use Rattle.std.specs.Str.Parse.{digits_value}
use Rattle.std.proofs.lemmas.Bool.{and_parts, leb-true}
use Rattle.lucy_fields.specs.Numbers.{is_number, number_of}
use Rattle.lucy_command.specs.Names.{most_buffer}
use Rattle.lucy_asking.proofs.words.buffer_number.Goals as goal

told_so : (few : Bool) (n : ℕ) → (few ≡ true → n ≤ most_buffer) → IfSome (if few then Some n else None) (λ n. n ≤ most_buffer)
told_so true n h = h refl
told_so false n h = tt

few_so : (b : ℕ) (bytes : List ℕ) → is_number 7 0 most_buffer (b ∷ bytes) ≡ true → digits_value 10 (b ∷ bytes) ≤ most_buffer
few_so b bytes e =
    let v : ℕ = digits_value 10 (b ∷ bytes) in
    let spelled = and_parts (nat_le (length (b ∷ bytes)) 7) (all_ascii_digits (b ∷ bytes) && (nat_le 0 v && nat_le v most_buffer)) e in
    let within = and_parts (all_ascii_digits (b ∷ bytes)) (nat_le 0 v && nat_le v most_buffer) spelled.1 in
    leb-true v most_buffer (and_parts (nat_le 0 v) (nat_le v most_buffer) within.1).1

number_few : (bytes : List ℕ) → IfSome (number_of 7 0 most_buffer bytes) (λ n. n ≤ most_buffer)
number_few [] = tt
number_few (b ∷ bytes) = told_so (is_number 7 0 most_buffer (b ∷ bytes)) (digits_value 10 (b ∷ bytes)) (few_so b bytes)

pub returns-clause-most : goal.returns-clause-most
returns-clause-most c =
    let P : Option ℕ → Type 0 = λ o. IfSome o (λ n. n ≤ most_buffer) in
    subst P (sym c.number.ensures) (number_few c.as_bytes.result.now)
