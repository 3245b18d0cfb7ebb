-- Where the first line of a text ends.
use Rattle.std.proofs.Common.{◌≡◌, ◌==◌, ℕ, ◌<◌, ◌≤◌, List, length, take, get_or, false, sym, ap, arith, eq-eqb}
use Rattle.std.proofs.lemmas.Bool.Decides.{nat_tests}
use Rattle.std.proofs.lemmas.List.Sums.{position_or_len_is}
use Rattle.lucy_explain.specs.Begins.{first_line}

no_end : (x : ℕ) → (x ≡ 10 → ⊥) → (x == 10) ≡ false
no_end x other = grind (arith, nat_tests)

pub first_line_is : (text : List ℕ) (n : ℕ) → n ≤ length text → ((k : ℕ) → k < n → get_or text k 0 ≡ 10 → ⊥) → (n < length text → get_or text n 0 ≡ 10) → take n text ≡ first_line text
first_line_is text n within front end =
    ap (λ (m : ℕ). take m text) (sym (position_or_len_is (λ byte. byte == 10) text n 0 within (λ k l. no_end (get_or text k 0) (front k l)) (λ l. eq-eqb (get_or text n 0) 10 (end l))))
