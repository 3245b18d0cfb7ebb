-- Actors that are plugged together, shown one after another.
use Rattle.std.proofs.Common.{ℕ, zero, suc, ◌+◌, ◌≤◌, ◌≡◌, true, false, cond, eqb, List, [], ◌∷◌, length, sym, ◌∙◌, subst, inl, inr, arith}
use Rattle.std.specs.Prelude.{Some, slice_get}
use Rattle.std.proofs.lemmas.Bool.{cases_Bool, eqb-true}
use Rattle.std.specs.List.{AllByRecursion}
use Rattle.std.proofs.lemmas.List.Elements.{All-from_recursion}
use Rattle.lucy_stream.specs.Forms.{operands}
use Rattle.lucy_stream.specs.Plans.{Task, Plan, times, IsPluggedAt, IsPlugged}

-- each of the actors is plugged, the first of them with this number
abbrev pub ArePluggedFrom : Plan → ℕ → List Task → Type 0
ArePluggedFrom plan a [] = Unit {0}
ArePluggedFrom plan a (task ∷ tasks) = IsPluggedAt plan a task × ArePluggedFrom plan (a + 1) tasks

plugged_at : (plan : Plan) (a : ℕ) (tasks : List Task) → ArePluggedFrom plan a tasks → (i : ℕ) (task : Task) → slice_get tasks i ≡ Some task → IsPluggedAt plan (a + i) task
plugged_at plan a [] h i task e = cc
plugged_at plan a (t ∷ tasks) h zero task e =
    (let same : t ≡ task = cc in let here : a ≡ a + 0 = omega arith in subst (λ n. IsPluggedAt plan n task) here (subst (IsPluggedAt plan a) same h.0))
plugged_at plan a (t ∷ tasks) h (suc i) task e =
    (let here : a + 1 + i ≡ a + suc i = omega arith in subst (λ n. IsPluggedAt plan n task) here (plugged_at plan (a + 1) tasks h.1 i task e))

-- then all are
pub IsPlugged-from : (plan : Plan) → ArePluggedFrom plan 0 plan.tasks → IsPlugged plan
IsPlugged-from plan h a task e = (let here : 0 + a ≡ a = omega arith in subst (λ n. IsPluggedAt plan n task) here (plugged_at plan 0 plan.tasks h a task e))

-- an actor by the parts of it, its rings one after another
pub IsPluggedAt-from : (plan : Plan) (a : ℕ) (task : Task) → AllByRecursion (λ r. plan.from r ≡ a) task.gives → AllByRecursion (λ r. plan.to r ≡ a) task.takes →
    ((r : ℕ) → times r task.gives ≤ 1) → ((r : ℕ) → times r task.takes ≤ 1) → length task.takes ≡ operands task.form → IsPluggedAt plan a task
IsPluggedAt-from plan a task gives takes gives_once takes_once arity = record {
  gives = All-from_recursion (λ r. plan.from r ≡ a) task.gives gives;
  takes = All-from_recursion (λ r. plan.to r ≡ a) task.takes takes;
  gives_once = gives_once;
  takes_once = takes_once;
  arity = arity;
}

-- no number is twice in a list of none, of one, or of two different ones
pub once_in_none : (r : ℕ) → times r [] ≤ 1
once_in_none r = omega arith

pub once_in_one : (x r : ℕ) → times r (x ∷ []) ≤ 1
once_in_one x r = elim (eqb x r) as (λ b. 0 + cond b 1 0 ≤ 1) [ true ↦ omega arith | false ↦ omega arith ]

pub once_in_two : (x y : ℕ) → (x ≡ y → ⊥) → (r : ℕ) → times r (x ∷ y ∷ []) ≤ 1
once_in_two x y other r = elim (cases_Bool (eqb x r)) [
  | inr h ↦ subst (λ b. 0 + cond b 1 0 + cond (eqb y r) 1 0 ≤ 1) (sym h) (elim (eqb y r) as (λ b. 0 + 0 + cond b 1 0 ≤ 1) [ true ↦ omega arith | false ↦ omega arith ])
  | inl h ↦ elim (cases_Bool (eqb y r)) [
    | inl k ↦ absurd (other (eqb-true x r h ∙ sym (eqb-true y r k)))
    | inr k ↦ subst (λ b. 0 + cond b 1 0 + cond (eqb y r) 1 0 ≤ 1) (sym h) (subst (λ b. 0 + 1 + cond b 1 0 ≤ 1) (sym k) (omega arith))
  ]
]
