-- Words that are the same have one shortest form, the same counts, and all or none of them a one in the period.
use Rattle.std.proofs.Common.{ℕ, suc, zero, ◌+◌, ◌*◌, ◌-◌, ◌%◌, ◌<◌, ◌≤◌, ◌≡◌, false, length, get_or, ap, sym, ◌∙◌, inl, inr, arith, add-one}
use Rattle.std.proofs.Math.Nat.{mod-eq_of_lt}
use Rattle.std.proofs.lemmas.List.{ext_get_or}
use Rattle.std.proofs.lemmas.Nat.{mul-le}
use Rattle.std.proofs.lemmas.Bool.{cases_eq}
use Rattle.lucy_word.specs.Bits.{Bits, bit_at, one_if, ones_to, ones_in}
use Rattle.lucy_word.specs.Shortest.{Same, IsShortest, IsShortForm}
use Rattle.lucy_word.proofs.BitsLaws.{bit_at-prefix, bit_at-period, ones_to-none, ones_to-more, ones_to-turns}

pub same_sym : (v w : Bits) → Same v w → Same w v
same_sym v w same i h = sym (same i h)

pub same_trans : (u v w : Bits) → Same u v → Same v w → Same u w
same_trans u v w first second i h = first i h ∙ second i h

-- a bit of the period, at its first instant
period_bit : (w : Bits) (i : ℕ) → i < length w.period → bit_at w (length w.prefix + i + 1) ≡ get_or w.period i false
period_bit w i h =
    bit_at-period w (length w.prefix + i + 1) (omega arith)
    ∙ ap (λ n. get_or w.period n false) (ap (λ n. n % length w.period) (let e : length w.prefix + i + 1 - length w.prefix - 1 ≡ i = omega arith in e) ∙ mod-eq_of_lt h)

-- words that are the same are one in shortest form
pub shortest_one : (v w : Bits) → IsShortest v → IsShortest w → 0 < length v.period → 0 < length w.period → Same v w → v ≡ w
shortest_one v w short_v short_w some_v some_w same =
    let back : Same w v = same_sym v w same in
    let periods : length v.period ≡ length w.period = omega (arith, short_v.period w some_w back, short_w.period v some_v same) in
    let prefixes : length v.prefix ≡ length w.prefix = omega (arith, short_v.prefix w (sym periods) back, short_w.prefix v periods same) in
    let prefix : v.prefix ≡ w.prefix =
    ext_get_or false v.prefix w.prefix prefixes
    (λ i h.
    let e : i ≡ i + 1 - 1 = omega arith in
    ap (λ n. get_or v.prefix n false) e ∙ sym (bit_at-prefix v (i + 1) (omega arith)) ∙ same (i + 1) (omega arith) ∙ bit_at-prefix w (i + 1) (omega arith)
    ∙ ap (λ n. get_or w.prefix n false) (sym e)) in
    let period : v.period ≡ w.period =
    ext_get_or false v.period w.period periods
    (λ i h.
    sym (period_bit v i h) ∙ same (length v.prefix + i + 1) (omega arith) ∙ ap (λ n. bit_at w (n + i + 1)) prefixes ∙ period_bit w i (omega arith)) in
    ap (λ x. let r : Bits = record { prefix = x; period = v.period } in r) prefix ∙ ap (λ x. let r : Bits = record { prefix = w.prefix; period = x } in r) period

-- a word has one shortest form
pub short_form_one : (bits v w : Bits) → IsShortForm bits v → IsShortForm bits w → v ≡ w
short_form_one bits v w h k =
    shortest_one v w h.shortest k.shortest h.nonempty k.nonempty (same_trans v bits w (same_sym bits v h.same) k.same)

pub same_counts : (v w : Bits) → Same v w → (i : ℕ) → ones_to v i ≡ ones_to w i
same_counts v w same zero = ones_to-none v ∙ sym (ones_to-none w)
same_counts v w same (suc i) =
    let a : ones_to v (suc i) ≡ ones_to v (i + 1) = ap (ones_to v) (sym (add-one i)) in
    let b : ones_to w (suc i) ≡ ones_to w (i + 1) = ap (ones_to w) (sym (add-one i)) in
    let c : one_if (bit_at v (i + 1)) ≡ one_if (bit_at w (i + 1)) = ap one_if (same (i + 1) (omega arith)) in
    omega (arith, ones_to-more v i, ones_to-more w i, same_counts v w same i)

-- counts do not fall
pub ones_to-later : (w : Bits) (i k : ℕ) → ones_to w i ≤ ones_to w (i + k)
ones_to-later w i zero = omega (arith, ap (ones_to w) (let e : i + 0 ≡ i = omega arith in e))
ones_to-later w i (suc k) =
    let e : ones_to w (i + suc k) ≡ ones_to w (i + k + 1) = ap (ones_to w) (omega arith) in
    omega (arith, ones_to-later w i k, ones_to-more w (i + k))

-- a word that is the same as one with ones for ever has them too
pub one_by_same : (v w : Bits) → Same v w → 0 < length w.period → 0 < ones_in v.period → 0 < ones_in w.period
one_by_same v w same some one =
    elim (cases_eq (ones_in w.period) 0) [
      | inr more ↦ omega arith
      | inl none ↦
          let most : ℕ = ones_to w (length w.prefix + 0) in
          let q : ℕ = most + 1 in
          let i : ℕ = length v.prefix + 0 + q * length v.period in
          let enough : q ≤ q * ones_in v.period = omega (arith, mul-le q 1 q (ones_in v.period) (omega arith) one) in
          let many : ones_to v i ≡ ones_to v (length v.prefix + 0) + q * ones_in v.period = ones_to-turns v 0 q in
          let far : i ≤ i * length w.period = omega (arith, mul-le i 1 i (length w.period) (omega arith) some) in
          let end : ℕ = length w.prefix + 0 + i * length w.period in
          let later : ones_to w i ≤ ones_to w (i + (end - i)) = ones_to-later w i (end - i) in
          let at : ones_to w (i + (end - i)) ≡ ones_to w end = ap (ones_to w) (omega arith) in
          let bound : ones_to w end ≡ most + i * ones_in w.period = ones_to-turns w 0 i in
          let nothing : i * ones_in w.period ≡ 0 = ap (λ n. i * n) none ∙ omega arith in
          absurd (omega (arith, same_counts v w same i))
    ]
