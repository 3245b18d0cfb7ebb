use Rattle.std.proofs.Common.{◌≡◌, ℕ, replicate, List, sym, ap, ◌∙◌, subst, arith}
use Rattle.lucy_solve.specs.System.{DifferenceSystem, IsGrounded}
use Rattle.lucy_solve.specs.Search.{IsReached}
use Rattle.lucy_solve.proofs.Lifts.{reached_first}
use Rattle.lucy_solve.proofs.solver.solve.Goals as goal

first : (s : DifferenceSystem) (n : ℕ) (x parents : List ℕ) → IsGrounded s → n ≡ s.count → x ≡ replicate n 0 → parents ≡ replicate n 4294967295 → IsReached s x parents
first s n x parents ready e f g =
    let few = ready.few in
    let P : List ℕ → List ℕ → Type 0 = λ x parents. IsReached s x parents in
    let a : x ≡ replicate s.count 0 = f ∙ ap (λ n. replicate n 0) e in
    let b : parents ≡ replicate s.count 4294967295 = g ∙ ap (λ n. replicate n 4294967295) e in
    subst (P x) (sym b) (subst (λ (x : List ℕ). P x (replicate s.count 4294967295)) (sym a) (reached_first s 4294967295 ready (omega arith)))

pub settle-requires-clause-reached : goal.settle-requires-clause-reached
settle-requires-clause-reached c =
    first _ c.count-count.result _ _ c.requires c.count-count.ensures.count
    (c.deref_mut.ensures.value ∙ c.in_ok-values.ensures.items_if_clones_equal (λ y e. e))
    (c.deref_mut-2.ensures.value ∙ c.in_ok-parents.ensures.items_if_clones_equal (λ y e. e))
