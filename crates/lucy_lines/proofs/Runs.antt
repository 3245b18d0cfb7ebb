-- The first byte that passes a test ends the run of those that don't.
use Rattle.std.proofs.Common.{◌≡◌, ℕ, zero, suc, drop, ◌+◌, ◌<◌, ◌≤◌, Bool, true, false, not, cond, List, [], ◌∷◌, length, get_or, Option, Some, None, refl, ap, sym, ◌∙◌, inl, inr, arith}
use Rattle.std.specs.Prelude.{nat_lt, MatchOption}
use Rattle.std.specs.Option.{unwrap_or}
use Rattle.std.specs.List.{prefix_len}
use Rattle.std.proofs.lemmas.Bool.{ltb-true, ltb-false, cases_Bool, not-false}
use Rattle.std.proofs.lemmas.List.Sums.{prefix_len-le-length, prefix_len_passes, prefix_len_stops}
use Rattle.memchr.specs.Find.{IsFirstByte}

both_ways : (b : Bool) → b ≡ true → not b ≡ true → ⊥
both_ways true e f = cc
both_ways false e f = cc

-- the run goes to the first byte that passes the test, or to the end
pub run_to : (p : ℕ → Bool) (bytes : List ℕ) (r : Option ℕ) → IsFirstByte p bytes r →
    MatchOption r (prefix_len (λ c. not (p c)) bytes ≡ length bytes) (λ k. (prefix_len (λ c. not (p c)) bytes ≡ k) × (k < length bytes))
run_to p bytes None nowhere =
    let q : ℕ → Bool = λ c. not (p c) in
    let w = prefix_len-le-length q bytes in
    elim (cases_Bool (nat_lt (prefix_len q bytes) (length bytes))) [
      | inl h ↦
          let k : prefix_len q bytes < length bytes = ltb-true (prefix_len q bytes) (length bytes) h in
          absurd (nowhere (prefix_len q bytes) (omega arith) k (not-false (p (get_or bytes (prefix_len q bytes) 0)) (prefix_len_stops q bytes 0 k)))
      | inr h ↦ let k : length bytes ≤ prefix_len q bytes = ltb-false (prefix_len q bytes) (length bytes) h in omega arith
    ]
run_to p bytes (Some k) (none, found) =
    let q : ℕ → Bool = λ c. not (p c) in
    let w = prefix_len-le-length q bytes in
    let high = none.high in
    elim (cases_Bool (nat_lt k (prefix_len q bytes))) [
      | inl h ↦ absurd (both_ways (p (get_or bytes k 0)) found (prefix_len_passes q bytes k 0 (ltb-true k (prefix_len q bytes) h)))
      | inr h ↦
          let a : prefix_len q bytes ≤ k = ltb-false k (prefix_len q bytes) h in
          elim (cases_Bool (nat_lt (prefix_len q bytes) k)) [
            | inl g ↦
                let b : prefix_len q bytes < k = ltb-true (prefix_len q bytes) k g in
                absurd (none.before (prefix_len q bytes) (omega arith) b (not-false (p (get_or bytes (prefix_len q bytes) 0)) (prefix_len_stops q bytes 0 (omega arith))))
            | inr g ↦ let b : k ≤ prefix_len q bytes = ltb-false (prefix_len q bytes) k g in (omega arith, high)
          ]
    ]

pub run_value : (p : ℕ → Bool) (bytes : List ℕ) (r : Option ℕ) → IsFirstByte p bytes r → unwrap_or r (length bytes) ≡ prefix_len (λ c. not (p c)) bytes
run_value p bytes None h = sym (run_to p bytes None h)
run_value p bytes (Some k) h = sym (run_to p bytes (Some k) h).0

-- runs of tests that agree are the same
pub run_same : (p q : ℕ → Bool) → ((c : ℕ) → p c ≡ q c) → (bytes : List ℕ) → prefix_len p bytes ≡ prefix_len q bytes
run_same p q e [] = refl
run_same p q e (c ∷ bytes) = ap (λ b. cond b (1 + prefix_len p bytes) 0) (e c) ∙ ap (λ n. cond (q c) (1 + n) 0) (run_same p q e bytes)

-- a run goes on behind the part of it that was seen
pub run_behind : (p : ℕ → Bool) (bytes : List ℕ) (n : ℕ) → n ≤ prefix_len p bytes → n + prefix_len p (drop n bytes) ≡ prefix_len p bytes
run_behind p bytes zero h = omega arith
run_behind p [] (suc n) h = absurd (omega arith)
run_behind p (c ∷ bytes) (suc n) h = elim (cases_Bool (p c)) [
  | inl e ↦
      let long : prefix_len p (c ∷ bytes) ≡ 1 + prefix_len p bytes = ap (λ b. cond b (1 + prefix_len p bytes) 0) e in
      let later = run_behind p bytes n (omega (arith, h, long)) in
      omega (arith, later, long)
  | inr e ↦
      let none : prefix_len p (c ∷ bytes) ≡ 0 = ap (λ b. cond b (1 + prefix_len p bytes) 0) e in
      absurd (omega (arith, h, none))
]
