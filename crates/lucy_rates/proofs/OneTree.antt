-- The tree of a root is one.
use Rattle.std.proofs.Common.{◌≡◌, ℕ, ◌+◌, ◌<◌, ◌≤◌, zero, suc, List, [], ◌∷◌, ◌++◌, length, get_or, take, inl, inr, sym, ap, ◌∙◌, subst, refl, arith}
use Rattle.std.proofs.lemmas.Bool.{cases_lt}
use Rattle.std.proofs.lemmas.List.{take_all, take_more}
use Rattle.lucy_need.specs.declared.need.Need.{Need}
use Rattle.lucy_rates.specs.Walks.{need_at}
use Rattle.lucy_rates.specs.Trees.{IsTree, JoinsMore}

-- what comes next in a tree that has the same front isn't passed by the other
not_before : (needs : List Need) (root : ℕ) (t u : List ℕ) (i : ℕ) → IsTree needs root t → IsTree needs root u → i < length t → i < length u → take i t ≡ take i u → get_or t i 0 < get_or u i 0 → ⊥
not_before needs root t u i h k l m e less =
    k.first i (get_or t i 0) m less (subst (λ (z : List ℕ). JoinsMore needs root z (need_at needs (get_or t i 0))) e (h.joins i l))

longer : (needs : List Need) (root : ℕ) (t u : List ℕ) (i : ℕ) → IsTree needs root t → IsTree needs root u → i < length t → length u ≤ i → i ≤ length u → take i t ≡ take i u → ⊥
longer needs root t u i h k l m n e =
    k.done (get_or t i 0) (h.within i l) (subst (λ (z : List ℕ). JoinsMore needs root z (need_at needs (get_or t i 0))) (e ∙ take_all i u (omega arith)) (h.joins i l))

front : (needs : List Need) (root : ℕ) (t u : List ℕ) → IsTree needs root t → IsTree needs root u → (i : ℕ) → i ≤ length t → (i ≤ length u) × (take i t ≡ take i u)
front needs root t u h k zero l = (omega arith, refl)
front needs root t u h k (suc i) l =
    let r = front needs root t u h k i (omega arith) in
    let in_t : i < length t = omega arith in
    elim (cases_lt i (length u)) [
      | inr m ↦ absurd (longer needs root t u i h k in_t m r.0 r.1)
      | inl m ↦ elim (cases_lt (get_or t i 0) (get_or u i 0)) [
        | inl a ↦ absurd (not_before needs root t u i h k in_t m r.1 a)
        | inr a ↦ elim (cases_lt (get_or u i 0) (get_or t i 0)) [
          | inl b ↦ absurd (not_before needs root u t i k h m in_t (sym r.1) b)
          | inr b ↦
              let same : get_or t i 0 ≡ get_or u i 0 = omega arith in (
                omega arith,
                ap (λ z. take z t) (let e : suc i ≡ i + 1 = omega arith in e) ∙ take_more t i 0 in_t ∙ ap (λ z. z ++ get_or t i 0 ∷ []) r.1 ∙ ap (λ z. take i u ++ z ∷ []) same
                    ∙ sym (take_more u i 0 m) ∙ ap (λ z. take z u) (let e : i + 1 ≡ suc i = omega arith in e),
              )
        ]
      ]
    ]

pub one_tree : (needs : List Need) (root : ℕ) (t u : List ℕ) → IsTree needs root t → IsTree needs root u → t ≡ u
one_tree needs root t u h k =
    let a = front needs root t u h k (length t) (omega arith) in
    let b = front needs root u t k h (length u) (omega arith) in
    sym (take_all (length t) t (omega arith)) ∙ a.1 ∙ take_all (length t) u (let l = a.0 in let m = b.0 in omega arith)
