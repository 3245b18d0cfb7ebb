-- A circle of parents is a negative cycle: round it the values would rise above themselves.
use Rattle.std.proofs.Common.{◌-◌, ◌≡◌, ℕ, ◌+◌, ◌<◌, ◌≤◌, ℤ, pos, negsuc, ◌+ℤ◌, ◌≤ℤ◌, ◌<ℤ◌, List, length, take, get_or, zero, suc, ap, ◌∙◌, subst, refl, arith}
use Rattle.std.proofs.lemmas.Int.{ints}
use Rattle.std.proofs.lemmas.List.{take_all}
use Rattle.lucy_solve.specs.System.{DifferenceSystem, diff_at, IsSystem, HasNoSolution, constants, IsNegativeCycle, most_inequalities}
use Rattle.lucy_solve.specs.Search.{IsLift, IsReached}
use Rattle.lucy_solve.proofs.Chains.{constants_more, refuted}
use Rattle.lucy_solve.specs.Parents.{IsRound, HasTargets}
use Rattle.lucy_solve.proofs.Lifts.{proper, shifted_is}

by_cases : (z a : ℤ) → (a +ℤ z) ≤ℤ a → (z ≡ pos 0 → ⊥) → z <ℤ pos 0
by_cases (pos zero) a h n = absurd (n refl)
by_cases (pos (suc n)) a h m = absurd (omega (arith, ints))
by_cases (negsuc n) a h m = omega (arith, ints)

-- what a circle of parents adds up to, as far as its position j
record IsFalling (s : DifferenceSystem) (x : List ℕ) (rank : ℕ → ℕ) (cycle : List ℕ) (j : ℕ) : Type 0 where
  most : (pos (get_or x (diff_at s.list (get_or cycle j 0)).right 0) +ℤ constants s.list (take (j + 1) cycle)) ≤ℤ pos (get_or x (diff_at s.list (get_or cycle 0 0)).left 0)
  strict : (pos (get_or x (diff_at s.list (get_or cycle j 0)).right 0) +ℤ constants s.list (take (j + 1) cycle)) ≡ pos (get_or x (diff_at s.list (get_or cycle 0 0)).left 0) →
      rank (diff_at s.list (get_or cycle 0 0)).left < rank (diff_at s.list (get_or cycle j 0)).right

link : (s : DifferenceSystem) (x parents : List ℕ) (h : IsReached s x parents) → IsSystem s → (i : ℕ) → i < length s.list → get_or parents (diff_at s.list i).right 0 ≡ i → IsLift s.list x h.rank (diff_at s.list i).right i
link s x parents h p i l e =
    let r = (diff_at s.list i).right in
    subst (λ (j : ℕ). IsLift s.list x h.rank r j) e (h.lifted r (proper s p i l).right (omega arith))

falling : (s : DifferenceSystem) (x parents cycle : List ℕ) (h : IsReached s x parents) → IsSystem s → IsRound s parents cycle → (j : ℕ) → j < length cycle → IsFalling s x h.rank cycle j
falling s x parents cycle h p r zero l =
    let i = get_or cycle 0 0 in
    let in' = r.within 0 l in
    let k = link s x parents h p i in' (r.kept 0 l) in
    let sh = shifted_is (diff_at s.list i).most (proper s p i in').low in
    let b = constants_more s.list cycle 0 l in
    let c : constants s.list (take 0 cycle) ≡ pos 0 = refl in
    let most = k.most in
    record { most = omega (arith, ints); strict = λ e. k.strict (omega (arith, ints)) }
falling s x parents cycle h p r (suc j) l =
    let i = get_or cycle (suc j) 0 in
    let in' = r.within (suc j) l in
    let k = link s x parents h p i in' (r.kept (suc j) l) in
    let sh = shifted_is (diff_at s.list i).most (proper s p i in').low in
    let same : j + 1 ≡ suc j = omega arith in
    let a = subst (λ (m : ℕ). (pos (get_or x (diff_at s.list (get_or cycle j 0)).right 0) +ℤ constants s.list (take m cycle)) ≤ℤ pos (get_or x (diff_at s.list (get_or cycle 0 0)).left 0)) same (falling s x parents cycle h p r j (omega arith)).most in
    let b = constants_more s.list cycle (suc j) l in
    let d : (diff_at s.list (get_or cycle j 0)).right ≡ (diff_at s.list i).left = r.joined j (omega arith) ∙ ap (λ m. (diff_at s.list (get_or cycle m 0)).left) same in
    let e : get_or x (diff_at s.list (get_or cycle j 0)).right 0 ≡ get_or x (diff_at s.list i).left 0 = ap (λ v. get_or x v 0) d in
    let f : h.rank (diff_at s.list (get_or cycle j 0)).right ≡ h.rank (diff_at s.list i).left = ap h.rank d in
    let most = k.most in
    let strict = subst (λ (m : ℕ). (pos (get_or x (diff_at s.list (get_or cycle j 0)).right 0) +ℤ constants s.list (take m cycle)) ≡ pos (get_or x (diff_at s.list (get_or cycle 0 0)).left 0) → h.rank (diff_at s.list (get_or cycle 0 0)).left < h.rank (diff_at s.list (get_or cycle j 0)).right) same (falling s x parents cycle h p r j (omega arith)).strict in
    record { most = omega (arith, ints); strict = λ g. let u = strict (omega (arith, ints)) in let w = k.strict (omega (arith, ints)) in omega arith }

pub negative : (s : DifferenceSystem) (x parents cycle : List ℕ) → IsReached s x parents → IsSystem s → length s.list ≤ most_inequalities → IsRound s parents cycle → IsNegativeCycle s.list cycle
negative s x parents cycle h p few r =
    let k = length cycle - 1 in
    let some : 0 < length cycle = r.some in
    let same : k + 1 ≡ length cycle = omega arith in
    let c = falling s x parents cycle h p r k (omega arith) in
    let most = c.most in
    let strict = c.strict in
    let b : (diff_at s.list (get_or cycle k 0)).right ≡ (diff_at s.list (get_or cycle 0 0)).left = r.closed k same in
    let e : get_or x (diff_at s.list (get_or cycle k 0)).right 0 ≡ get_or x (diff_at s.list (get_or cycle 0 0)).left 0 = ap (λ v. get_or x v 0) b in
    let g : h.rank (diff_at s.list (get_or cycle k 0)).right ≡ h.rank (diff_at s.list (get_or cycle 0 0)).left = ap h.rank b in
    let f : constants s.list (take (k + 1) cycle) ≡ constants s.list cycle = ap (constants s.list) (take_all (k + 1) cycle (omega arith)) in
    record {
      some = r.some;
      few = let q = r.few in omega arith;
      within = r.within;
      joined = r.joined;
      closed = r.closed;
      negative = by_cases (constants s.list cycle) (pos (get_or x (diff_at s.list (get_or cycle k 0)).right 0)) (omega (arith, ints)) (λ z. let u = strict (omega (arith, ints)) in absurd (omega arith));
    }

pub targets : (s : DifferenceSystem) (x parents : List ℕ) → IsReached s x parents → HasTargets s parents
targets s x parents h v k l = (h.lifted v k l).target

pub refuses : (s : DifferenceSystem) (x parents cycle : List ℕ) → IsReached s x parents → IsSystem s → length s.list ≤ most_inequalities → IsRound s parents cycle → IsNegativeCycle s.list cycle × HasNoSolution s
refuses s x parents cycle h p few r = let a = negative s x parents cycle h p few r in (a, refuted s cycle a)
