-- How many items a run gives to their first rings: at most as many as its actors have firings.
use Rattle.std.proofs.Common.{ℕ, suc, zero, ◌+◌, ◌*◌, ◌<◌, ◌≤◌, ◌≡◌, List, [], ◌∷◌, length, take, ap, refl, ◌∙◌, subst, inl, inr, arith}
use Rattle.std.specs.Prelude.{sum_by}
use Rattle.std.proofs.lemmas.List.Sums.{sum_by_more}
use Rattle.std.proofs.lemmas.Bool.{cases_lt, cases_eq}
use Rattle.lucy_stream.specs.Systems.{Takes, System, op_at}
use Rattle.lucy_stream.specs.Runs.{none_done, step, IsRun, after}
use Rattle.lucy_stream.proofs.CountLaws.{step-same, step-other}
use Rattle.lucy_stream.proofs.TurnLaws.{fresh, items_in}

-- the sum of the first terms
abbrev pub sum_to : ℕ → (ℕ → ℕ) → ℕ
sum_to zero f = 0
sum_to (suc n) f = sum_to n f + f n

sum_same : (n : ℕ) (f g : ℕ → ℕ) → ((a : ℕ) → a < n → g a ≡ f a) → sum_to n g ≡ sum_to n f
sum_same zero f g h = refl
sum_same (suc n) f g h = omega (arith, sum_same n f g (λ a l. h a (omega arith)), h n (omega arith))

-- one term grows
sum_one : (n a d : ℕ) (f g : ℕ → ℕ) → a < n → g a ≡ f a + d → ((b : ℕ) → (a ≡ b → ⊥) → g b ≡ f b) → sum_to n g ≡ sum_to n f + d
sum_one zero a d f g l e h = absurd (omega arith)
sum_one (suc n) a d f g l e h = elim (cases_eq a n) [
  | inl k ↦
      let x : g n ≡ f n + d = subst (λ (t : ℕ). g t ≡ f t + d) k e in
      omega (arith, sum_same n f g (λ b m. h b (λ (z : a ≡ b). absurd (omega arith))))
  | inr k ↦ omega (arith, sum_one n a d f g (elim (cases_lt a n) [ inl m ↦ m | inr m ↦ absurd (k (omega arith)) ]) e h, h n k)
]

pub sum_most : (n most : ℕ) (f : ℕ → ℕ) → ((a : ℕ) → f a ≤ most) → sum_to n f ≤ n * most
sum_most zero most f h = omega arith
sum_most (suc n) most f h = omega (arith, sum_most n most f h, h n)

-- the items that an actor gave first, by its operations done
abbrev pub items_done : System → (ℕ → ℕ) → (ℕ → ℕ) → ℕ → ℕ
items_done sys lead s a = sum_by (fresh lead) (take (s a) (sys.ops a))

items_step : (sys : System) (lead s : ℕ → ℕ) (a count : ℕ) → s a < length (sys.ops a) → (count ≤ a → fresh lead (op_at sys a (s a)) ≡ 0) →
    sum_to count (items_done sys lead (step s a)) ≡ sum_to count (items_done sys lead s) + fresh lead (op_at sys a (s a))
items_step sys lead s a count l gives_none =
    let here : items_done sys lead (step s a) a ≡ items_done sys lead s a + fresh lead (op_at sys a (s a)) =
    ap (λ n. sum_by (fresh lead) (take n (sys.ops a))) (step-same s a) ∙ sum_by_more (fresh lead) (sys.ops a) (s a) (Takes 0) l in
    let other : (b : ℕ) → (a ≡ b → ⊥) → items_done sys lead (step s a) b ≡ items_done sys lead s b = λ b n. ap (λ n. sum_by (fresh lead) (take n (sys.ops b))) (step-other s a b n) in
    elim (cases_lt a count) [
      | inl x ↦ sum_one count a (fresh lead (op_at sys a (s a))) (items_done sys lead s) (items_done sys lead (step s a)) x here other
      | inr x ↦ omega (arith, gives_none x, sum_same count (items_done sys lead s) (items_done sys lead (step s a)) (λ b m. other b (λ (z : a ≡ b). absurd (omega arith))))
    ]

-- the items of a run are those of its actors, of which only the first `count` give
pub items_in-done : (sys : System) (lead s : ℕ → ℕ) (picks : List ℕ) (count : ℕ) → IsRun sys s picks → ((a k : ℕ) → count ≤ a → k < length (sys.ops a) → fresh lead (op_at sys a k) ≡ 0) →
    items_in sys lead s picks + sum_to count (items_done sys lead s) ≡ sum_to count (items_done sys lead (after s picks))
items_in-done sys lead s [] count run h = omega arith
items_in-done sys lead s (a ∷ picks) count run h =
    omega (arith, items_in-done sys lead (step s a) picks count run.1 h, items_step sys lead s a count run.0.left (λ x. h a (s a) x run.0.left))

-- so few turns suffice, where each actor gives at most so many items
pub few_turns : (sys : System) (lead : ℕ → ℕ) (picks : List ℕ) (count most : ℕ) → IsRun sys none_done picks → ((a k : ℕ) → count ≤ a → k < length (sys.ops a) → fresh lead (op_at sys a k) ≡ 0) →
    ((a : ℕ) → items_done sys lead (after none_done picks) a ≤ most) → items_in sys lead none_done picks ≤ count * most
few_turns sys lead picks count most run h le =
    omega (arith, items_in-done sys lead none_done picks count run h, sum_most count most (items_done sys lead (after none_done picks)) le)
