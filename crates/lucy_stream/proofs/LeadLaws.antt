-- The first ring of each actor, to which each of its items goes first.
use Rattle.std.proofs.Common.{ℕ, suc, zero, ◌+◌, ◌<◌, ◌≡◌, true, cond, eqb, List, [], ◌∷◌, ◌++◌, map, length, get_or, take, ap, sym, refl, ◌∙◌, subst, arith}
use Rattle.std.specs.Prelude.{count_by, All, Option, Some, None, slice_get}
use Rattle.std.proofs.lemmas.List.Sums.{sum_by-cons}
use Rattle.std.proofs.lemmas.List.Elements.{All-head}
use Rattle.lucy_word.specs.Bits.{bit_at, one_if}
use Rattle.lucy_stream.specs.Forms.{Form, Kept, Merged, Delayed}
use Rattle.lucy_stream.specs.Systems.{RingOp, Takes, Gives, is_give, gives_before}
use Rattle.lucy_stream.specs.Operations.{firing_ops}
use Rattle.lucy_stream.specs.Plans.{Task, Plan, task_ops, system, times, IsPluggedAt, IsPlugged}
use Rattle.lucy_stream.proofs.CountLaws.{eqb-same}
use Rattle.lucy_stream.proofs.GiveCounts.{gives_in_ops, does_give}
use Rattle.lucy_stream.proofs.CoverLaws.{once_at, GivesAt, gives_at}
use Rattle.lucy_stream.proofs.PlanLaws.{IsWired-plan}
use Rattle.lucy_stream.proofs.TurnLaws.{IsLead}

abbrev pub first_of : List ℕ → ℕ → ℕ
first_of [] r = r
first_of (g ∷ gives) r = g

abbrev pub lead_in : Option Task → ℕ → ℕ
lead_in None r = r
lead_in (Some task) r = first_of task.gives r

-- the first ring of a ring's giver
abbrev pub lead : Plan → ℕ → ℕ
lead plan r = lead_in (slice_get plan.tasks (plan.from r)) r

first_own : (plan : Plan) (r a : ℕ) → plan.from r ≡ a → (gives : List ℕ) → All (λ q. plan.from q ≡ a) gives → plan.from (first_of gives r) ≡ a
first_own plan r a e [] all = e
first_own plan r a e (g ∷ gives) all = All-head (λ q. plan.from q ≡ a) g gives all

lead_same : (plan : Plan) (r a : ℕ) → IsPlugged plan → plan.from r ≡ a → (task : Option Task) → slice_get plan.tasks a ≡ task → plan.from (lead_in task r) ≡ a
lead_same plan r a is e None o = e
lead_same plan r a is e (Some task) o = first_own plan r a e task.gives (is a task o).gives

-- a give that isn't the first one of its firing has the first one before it
later_give : (r g : ℕ) (ts gs : List ℕ) (i : ℕ) → i < length (map Takes ts ++ map Gives (g ∷ gs)) → get_or (map Takes ts ++ map Gives (g ∷ gs)) i (Takes 0) ≡ Gives r → (g ≡ r → ⊥) →
    0 < count_by (is_give g) (take i (map Takes ts ++ map Gives (g ∷ gs)))
later_give r g [] gs zero l e n = (let same : g ≡ r = cc in absurd (n same))
later_give r g [] gs (suc i) l e n =
    let rest : count_by (is_give g) (Gives g ∷ take i (map Gives gs)) ≡ one_if (eqb g g) + count_by (is_give g) (take i (map Gives gs)) = sum_by-cons (λ x. cond (is_give g x) 1 0) (Gives g) (take i (map Gives gs)) in
    let one : one_if (eqb g g) ≡ 1 = ap one_if (eqb-same g) in
    omega arith
later_give r g (t ∷ ts) gs zero l e n = cc
later_give r g (t ∷ ts) gs (suc i) l e n =
    let xs : List RingOp = map Takes ts ++ map Gives (g ∷ gs) in
    let rest : count_by (is_give g) (Takes t ∷ take i xs) ≡ 0 + count_by (is_give g) (take i xs) = sum_by-cons (λ x. cond (is_give g x) 1 0) (Takes t) (take i xs) in
    omega (arith, later_give r g ts gs i (omega arith) e n)

later_give_first : (r g : ℕ) (ts gs : List ℕ) (i : ℕ) → get_or (map Gives (g ∷ gs) ++ map Takes ts) i (Takes 0) ≡ Gives r → (g ≡ r → ⊥) →
    0 < count_by (is_give g) (take i (map Gives (g ∷ gs) ++ map Takes ts))
later_give_first r g ts gs zero e n = (let same : g ≡ r = cc in absurd (n same))
later_give_first r g ts gs (suc i) e n =
    let xs : List RingOp = map Gives gs ++ map Takes ts in
    let rest : count_by (is_give g) (Gives g ∷ take i xs) ≡ one_if (eqb g g) + count_by (is_give g) (take i xs) = sum_by-cons (λ x. cond (is_give g x) 1 0) (Gives g) (take i xs) in
    let one : one_if (eqb g g) ≡ 1 = ap one_if (eqb-same g) in
    omega arith

lead_before : (form : Form) (ts : List ℕ) (g : ℕ) (gs : List ℕ) (k i r : ℕ) → i < length (firing_ops form ts (g ∷ gs) k) → get_or (firing_ops form ts (g ∷ gs) k) i (Takes 0) ≡ Gives r → (g ≡ r → ⊥) →
    0 < count_by (is_give g) (take i (firing_ops form ts (g ∷ gs) k))
lead_before (Kept word) ts g gs k i r l e n =
    let one : bit_at word (k + 1) ≡ true = does_give (Kept word) ts (g ∷ gs) k i r e in
    let ops : firing_ops (Kept word) ts (g ∷ gs) k ≡ map Takes ts ++ map Gives (g ∷ gs) = ap (λ c. map Takes ts ++ cond c (map Gives (g ∷ gs)) []) one in
    subst (λ (xs : List RingOp). 0 < count_by (is_give g) (take i xs)) (sym ops)
    (later_give r g ts gs i (subst (λ (xs : List RingOp). i < length xs) ops l) (ap (λ xs. get_or xs i (Takes 0)) (sym ops) ∙ e) n)
lead_before (Merged word) ts g gs k i r l e n = later_give r g (cond (bit_at word (k + 1)) (get_or ts 0 0) (get_or ts 1 0) ∷ []) gs i l e n
lead_before (Delayed first) ts g gs k i r l e n = later_give_first r g ts gs i e n
lead_before form ts g gs k i r l e n = later_give r g ts gs i l e n

lead_task : (plan : Plan) (a k r : ℕ) (task : Task) (gives : List ℕ) → task.gives ≡ gives → IsPluggedAt plan a task → k < length (task_ops (Some task)) → get_or (task_ops (Some task)) k (Takes 0) ≡ Gives r →
    (first_of gives r ≡ r → ⊥) → count_by (is_give r) (take k (task_ops (Some task))) < count_by (is_give (first_of gives r)) (take k (task_ops (Some task)))
lead_task plan a k r task [] same is l op n = absurd (n refl)
lead_task plan a k r task (g ∷ gs) same is l op n =
    let found = gives_at task k r (is.gives_once r) l op in
    let fired : ℕ = found.0 in
    let i : ℕ = found.1 in
    let give : GivesAt task k r fired i = found.2 in
    let ops : List ℕ → List RingOp = λ (gives : List ℕ). firing_ops task.form task.takes gives fired in
    let one_g : times g task.gives ≡ 1 = once_at task.gives 0 g (omega (arith, ap length same)) (ap (λ xs. get_or xs 0 0) same) (is.gives_once g) in
    let first : 0 < count_by (is_give g) (take i (ops (g ∷ gs))) =
    lead_before task.form task.takes g gs fired i r (subst (λ gives. i < length (ops gives)) same give.at.within) (ap (λ gives. get_or (ops gives) i (Takes 0)) (sym same) ∙ give.here) n in
    let first_here : 0 < count_by (is_give g) (take i (ops task.gives)) = subst (λ gives. 0 < count_by (is_give g) (take i (ops gives))) (sym same) first in
    omega (arith, give.before, give.at.before (is_give g), gives_in_ops task.form task.takes task.gives fired g one_g)

lead_at : (plan : Plan) (a k r : ℕ) → IsPlugged plan → (task : Option Task) → slice_get plan.tasks a ≡ task → k < length (task_ops task) → get_or (task_ops task) k (Takes 0) ≡ Gives r →
    (lead_in task r ≡ r → ⊥) → count_by (is_give r) (take k (task_ops task)) < count_by (is_give (lead_in task r)) (take k (task_ops task))
lead_at plan a k r is None e l op n = absurd (n refl)
lead_at plan a k r is (Some task) e l op n = lead_task plan a k r task task.gives refl (is a task e) l op n

pub IsLead-plan : (plan : Plan) → IsPlugged plan → IsLead (system plan) (lead plan)
IsLead-plan plan is = record {
  same = λ r. lead_same plan r (plan.from r) is refl (slice_get plan.tasks (plan.from r)) refl;
  first = λ a k r l op n.
      let from : plan.from r ≡ a = (IsWired-plan plan is).giver a k r l op in
      let same : lead plan r ≡ lead_in (slice_get plan.tasks a) r = ap (λ b. lead_in (slice_get plan.tasks b) r) from in
      subst (λ (q : ℕ). gives_before (system plan) a k r < gives_before (system plan) a k q) (sym same)
      (lead_at plan a k r is (slice_get plan.tasks a) refl l op (λ z. n (same ∙ z)));
}
