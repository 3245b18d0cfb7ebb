-- Lists: one element set, counts of actors, and maps.
use Rattle.std.proofs.Common.{ℕ, suc, zero, ◌+◌, ◌<◌, ◌≤◌, ◌≡◌, ◌⊎◌, cond, List, [], ◌∷◌, ◌++◌, map, length, get_or, set, ap, sym, refl, ◌∙◌, subst, inl, inr}
use Rattle.std.specs.Prelude.{ℤ, All, Option, Some, slice_get, slice_index}
use Rattle.std.proofs.lemmas.Bool.{cases_eq, eq-eqb, ne_eqb}
use Rattle.std.proofs.lemmas.List.{get_or_default, get_or-set_same, get_or-set_other}
use Rattle.std.proofs.lemmas.List.Elements.{All-head, All-tail}
use Rattle.lucy_stream.specs.Runs.{step}
use Rattle.lucy_stream.specs.Plans.{times}
use Rattle.lucy_stream.proofs.CountLaws.{step-same, step-other}
use Rattle.lucy_stream.proofs.CoverLaws.{once_at}
use Rattle.lucy_net.specs.States.{took_more}
use Rattle.lucy_net.proofs.OperandLaws.{ring_more, operand_more}
use Rattle.lucy_core.specs.Seen.{done_of, one_more}

pub get_set_other : {X : Type 0} (xs : List X) (i j : ℕ) (y : X) → (i ≡ j → ⊥) → slice_get (set xs i y) j ≡ slice_get xs j
get_set_other [] i j y ne = refl
get_set_other (z ∷ zs) zero zero y ne = absurd (ne refl)
get_set_other (z ∷ zs) zero (suc j) y ne = refl
get_set_other (z ∷ zs) (suc i) zero y ne = refl
get_set_other (z ∷ zs) (suc i) (suc j) y ne = get_set_other zs i j y (λ (e : i ≡ j). ne (ap suc e))

pub some_same : {X : Type 0} (o : Option X) (x y : X) → o ≡ Some x → o ≡ Some y → x ≡ y
some_same o x y e f = cc

-- one operation more
pub one_more_done : (done : List ℕ) (a b : ℕ) → a < length done → done_of (one_more done a) b ≡ step (done_of done) a b
unfolding done_of
one_more_done done a b l =
    let v : ℕ = slice_index done a + 1 in
    let f : ℕ → ℕ = λ (c : ℕ). get_or done c 0 in
    elim (cases_eq a b) [
      | inl e ↦ subst (λ (c : ℕ). get_or (set done a v) c 0 ≡ step f a c) e (get_or-set_same done a v 0 l ∙ sym (step-same f a))
      | inr ne ↦ get_or-set_other done a b v 0 (λ (e : b ≡ a). ne (sym e)) ∙ sym (step-other f a b ne)
    ]

-- functions that are alike on a list
pub map_same : (f g : ℕ → List ℤ) (xs : List ℕ) → All (λ r. f r ≡ g r) xs → map f xs ≡ map g xs
map_same f g [] all = refl
map_same f g (x ∷ xs) all =
    let first : f x ≡ g x = All-head (λ r. f r ≡ g r) x xs all in
    let rest : map f xs ≡ map g xs = map_same f g xs (All-tail (λ r. f r ≡ g r) x xs all) in
    cc

pub all_of : (P : ℕ → Type 0) (xs : List ℕ) → ((i : ℕ) → i < length xs → P (get_or xs i 0)) → All P xs
all_of P xs h = λ k d l. subst P (get_or_default xs k 0 d l) (h k l)

-- one list more from one operand
pub map_more : (f g : ℕ → List ℤ) (xs : List ℕ) (j r : ℕ) (v : ℤ) → j < length xs → get_or xs j 0 ≡ r → times r xs ≤ 1 → g r ≡ f r ++ v ∷ [] → ((q : ℕ) → (r ≡ q → ⊥) → g q ≡ f q) →
    map g xs ≡ took_more (map f xs) j v
map_more f g xs j r v l e most here other =
    let each : (q : ℕ) → g q ≡ ring_more f r v q = λ q. elim (cases_eq r q) [
      | inl same ↦ ap g (sym same) ∙ here ∙ ap (λ p. f p ++ v ∷ []) same ∙ sym (ap (λ b. cond b (f q ++ v ∷ []) (f q)) (eq-eqb r q same))
      | inr ne ↦ other q ne ∙ sym (ap (λ b. cond b (f q ++ v ∷ []) (f q)) (ne_eqb r q ne))
    ] in
    map_same g (ring_more f r v) xs (all_of (λ q. g q ≡ ring_more f r v q) xs (λ i k. each (get_or xs i 0)))
    ∙ operand_more f r v xs j l e (once_at xs j r l e most)

-- an element put behind the others
pub get_push : {X : Type 0} (xs : List X) (x y : X) (i : ℕ) → slice_get (xs ++ x ∷ []) i ≡ Some y → (slice_get xs i ≡ Some y) ⊎ ((i ≡ length xs) × (y ≡ x))
get_push [] x y zero e = inr (refl, cc)
get_push [] x y (suc i) e = absurd (cc)
get_push (z ∷ zs) x y zero e = inl e
get_push (z ∷ zs) x y (suc i) e = elim (get_push zs x y i e) [
  | inl old ↦ inl old
  | inr new ↦ inr (ap suc new.0, new.1)
]

-- a count that is read
pub done_read : (done : List ℕ) (a v : ℕ) → a < length done → v ≡ get_or done a v → v ≡ done_of done a
unfolding done_of
done_read done a v l e = e ∙ get_or_default done a v 0 l
