-- What was given to a ring, in any run of plugged actors, is a front of its giver's list in an iterate of their places.
use Rattle.std.proofs.Common.{ℕ, suc, zero, ◌+◌, ◌*◌, ◌<◌, ◌≤◌, ◌≡◌, true, cond, eqb, List, [], ◌∷◌, length, get_or, take, ap, sym, refl, ◌∙◌, subst, inl, inr, arith}
use Rattle.std.specs.Prelude.{ℤ, count_by, sum_by, Option, Some, None, slice_get}
use Rattle.std.proofs.lemmas.Bool.{cases_Bool, eq-eqb, eqb-true}
use Rattle.std.proofs.Math.Nat.{mul-le-mul_left}
use Rattle.std.proofs.lemmas.List.{take_all}
use Rattle.std.proofs.lemmas.List.Sums.{sum_by-cons, sum_by-take-le}
use Rattle.lucy_word.specs.Bits.{one_if}
use Rattle.lucy_host.specs.declared.kind.HostKind.{HostKind}
use Rattle.lucy_stream.specs.Items.{list_at}
use Rattle.lucy_stream.specs.Fronts.{IsFront}
use Rattle.lucy_stream.specs.Forms.{Form}
use Rattle.lucy_stream.specs.Iterates.{iterate}
use Rattle.lucy_stream.specs.Firings.{gave_in, took_in}
use Rattle.lucy_stream.proofs.FrontLaws.{IsFront-trans, IsFront-cut, IsFront-length}
use Rattle.lucy_stream.proofs.IterateLaws.{iterate-fronts}
use Rattle.lucy_stream.specs.Systems.{RingOp, Takes, Gives, is_give, is_take, given, taken}
use Rattle.lucy_stream.specs.Runs.{none_done, IsRun, after, IsFinished, IsWhole, between}
use Rattle.lucy_stream.specs.States.{Machine, State, start, events, IsState, Reaches}
use Rattle.lucy_stream.specs.Operations.{firing_ops, ops_of}
use Rattle.lucy_stream.specs.Plans.{Task, Plan, task_ops, system, machine, times, IsOperand, IsPluggedAt, IsPlugged, places_of, kahn_list, QuotasWithin, GiveBelow, IsRunnable}
use Rattle.lucy_stream.proofs.CountLaws.{count_take-lt, eqb-same, given-none}
use Rattle.lucy_stream.proofs.StateLaws.{IsState-start, IsState-events}
use Rattle.lucy_stream.proofs.GiveCounts.{gives_in_firing, gives_in_ops, count_append}
use Rattle.lucy_stream.proofs.TakeCounts.{takes_in_ops}
use Rattle.lucy_stream.proofs.EventLaws.{events-done}
use Rattle.lucy_stream.proofs.PlanLaws.{IsWired-plan, IsLocal-plan}
use Rattle.lucy_stream.proofs.ReachLaws.{converse-start}
use Rattle.lucy_stream.proofs.TurnLaws.{fresh, items_in, turn_law}
use Rattle.lucy_stream.proofs.TurnCounts.{few_turns}
use Rattle.lucy_stream.proofs.CoverLaws.{gives_in-le, KeepsTo-plan}
use Rattle.lucy_stream.proofs.LeadLaws.{first_of, lead_in, lead, IsLead-plan}

-- with no gives to any ring no operation gives
all_takes : (ops : List RingOp) → ((r : ℕ) → count_by (is_give r) ops ≡ 0) → (k r : ℕ) → k < length ops → get_or ops k (Takes 0) ≡ Gives r → ⊥
all_takes ops h k r l e =
    let is : is_give r (get_or ops k (Takes 0)) ≡ true = ap (is_give r) e ∙ eqb-same r in
    let some : count_by (is_give r) (take k ops) < count_by (is_give r) (take (length ops) ops) = count_take-lt (is_give r) ops k (length ops) (Takes 0) l l is in
    let all : count_by (is_give r) (take (length ops) ops) ≡ count_by (is_give r) ops = ap (count_by (is_give r)) (take_all (length ops) ops (omega arith)) in
    absurd (omega (arith, h r))

gives_most : (form : Form) (ts gs : List ℕ) (q r : ℕ) → count_by (is_give r) (ops_of form ts gs q) ≤ q * times r gs
gives_most form ts gs zero r = omega arith
gives_most form ts gs (suc q) r =
    omega (arith, count_append (is_give r) (ops_of form ts gs q) (firing_ops form ts gs q), gives_most form ts gs q r, gives_in_firing form ts gs q r, gives_in-le form gs q r)

-- a task that gives to no ring has no give
pub no_gives : (task : Task) (k r : ℕ) → task.gives ≡ [] → k < length (task_ops (Some task)) → get_or (task_ops (Some task)) k (Takes 0) ≡ Gives r → ⊥
no_gives task k r none l op =
    all_takes (task_ops (Some task)) (λ q. let zero_times : times q task.gives ≡ 0 = ap (times q) none in let nothing : task.quota * times q task.gives ≡ task.quota * 0 = ap (λ n. task.quota * n) zero_times in omega (arith, gives_most task.form task.takes task.gives task.quota q)) k r l op

-- what is no give is none to a first ring
pub fresh_take : (lead_of : ℕ → ℕ) (op : RingOp) → ((r : ℕ) → op ≡ Gives r → ⊥) → fresh lead_of op ≡ 0
fresh_take lead_of (Takes r) h = refl
fresh_take lead_of (Gives r) h = absurd (h r refl)

-- an actor that gives to no ring gives nothing first
pub quiet_at : (plan : Plan) (count a k : ℕ) → GiveBelow plan count → count ≤ a → (task : Option Task) → slice_get plan.tasks a ≡ task → k < length (task_ops task) → fresh (lead plan) (get_or (task_ops task) k (Takes 0)) ≡ 0
quiet_at plan count a k below c None e l = absurd (omega arith)
quiet_at plan count a k below c (Some task) e l =
    fresh_take (lead plan) (get_or (task_ops (Some task)) k (Takes 0)) (λ r op. no_gives task k r (below a task e c) l op)

-- an actor's first gives are those to its first ring
pub fresh_give : (lead_of : ℕ → ℕ) (g : ℕ) (op : RingOp) → ((r : ℕ) → op ≡ Gives r → lead_of r ≡ g) → fresh lead_of op ≤ one_if (is_give g op)
fresh_give lead_of g (Takes r) h = omega arith
fresh_give lead_of g (Gives r) h = elim (cases_Bool (eqb (lead_of r) r)) [
  | inl y ↦
      let same : r ≡ g = sym (eqb-true (lead_of r) r y) ∙ h r refl in
      let mine : one_if (eqb (lead_of r) r) ≡ 1 = ap one_if y in
      let first : one_if (eqb r g) ≡ 1 = ap one_if (eq-eqb r g same) in
      omega arith
  | inr z ↦ (let none : one_if (eqb (lead_of r) r) ≡ 0 = ap one_if z in omega arith)
]

-- all its first gives are at most its gives to that ring
pub fresh_gives : (lead_of : ℕ → ℕ) (g : ℕ) (ops : List RingOp) → ((k r : ℕ) → k < length ops → get_or ops k (Takes 0) ≡ Gives r → lead_of r ≡ g) → sum_by (fresh lead_of) ops ≤ count_by (is_give g) ops
fresh_gives lead_of g [] h = omega arith
fresh_gives lead_of g (op ∷ ops) h =
    let firsts : sum_by (fresh lead_of) (op ∷ ops) ≡ fresh lead_of op + sum_by (fresh lead_of) ops = sum_by-cons (fresh lead_of) op ops in
    let gives : count_by (is_give g) (op ∷ ops) ≡ one_if (is_give g op) + count_by (is_give g) ops = sum_by-cons (λ x. cond (is_give g x) 1 0) op ops in
    omega (arith, fresh_gives lead_of g ops (λ k r l e. h (suc k) r (omega arith) e), fresh_give lead_of g op (λ r e. h 0 r (omega arith) e))

first_same : (gives : List ℕ) (r : ℕ) → (gives ≡ [] → ⊥) → first_of gives r ≡ first_of gives 0
first_same [] r h = absurd (h refl)
first_same (g ∷ gives) r h = refl

-- an actor gives first at most as often as it fires
pub few_at : (plan : Plan) (most a n : ℕ) → IsPlugged plan → QuotasWithin plan most → (task : Option Task) → slice_get plan.tasks a ≡ task → sum_by (fresh (lead plan)) (take n (task_ops task)) ≤ most
few_at plan most a n is within None e = omega (arith, sum_by-take-le (fresh (lead plan)) [] n)
few_at plan most a n is within (Some task) e =
    let ops : List RingOp = task_ops (Some task) in
    let plugged : IsPluggedAt plan a task = is a task e in
    let g : ℕ = first_of task.gives 0 in
    let mine : (k r : ℕ) → k < length ops → get_or ops k (Takes 0) ≡ Gives r → lead plan r ≡ g = λ k r l op.
    let from : plan.from r ≡ a = (IsWired-plan plan is).giver a k r (subst (λ (t : Option Task). k < length (task_ops t)) (sym e) l) (ap (λ t. get_or (task_ops t) k (Takes 0)) e ∙ op) in
    ap (λ b. lead_in (slice_get plan.tasks b) r) from ∙ ap (λ t. lead_in t r) e ∙ first_same task.gives r (λ none. no_gives task k r none l op) in
    let once : task.quota * times g task.gives ≤ task.quota * 1 = mul-le-mul_left task.quota (plugged.gives_once g) in
    omega (arith, sum_by-take-le (fresh (lead plan)) ops n, fresh_gives (lead plan) g ops mine, gives_most task.form task.takes task.gives task.quota g, within a task e)

-- one turn for each firing of each actor that gives suffices
pub kahn_front : (kinds : List HostKind) (inputs : List (List ℤ)) (plan : Plan) (count most : ℕ) (picks : List ℕ) → IsRunnable inputs plan count most → IsRun (system plan) none_done picks →
    (r : ℕ) → IsFront ((events (machine kinds inputs plan) start picks).gave r) (kahn_list kinds inputs plan (count * most) r)
kahn_front kinds inputs plan count most picks able run r =
    let m : Machine = machine kinds inputs plan in
    let lists : ℕ → List (List ℤ) = iterate kinds inputs (places_of plan) in
    let a : ℕ = plan.from r in
    let n : ℕ = items_in (system plan) (lead plan) none_done picks in
    let few : n ≤ count * most =
    few_turns (system plan) (lead plan) picks count most run (λ b k c l. quiet_at plan count b k able.give_below c (slice_get plan.tasks b) refl l) (λ b. few_at plan most b (after none_done picks b) able.plugged able.quotas (slice_get plan.tasks b) refl) in
    IsFront-trans ((events m start picks).gave r) (list_at (lists (n + 0)) a) (list_at (lists (count * most)) a)
    (turn_law m (lead plan) (λ (k b : ℕ). list_at (lists k) b) start picks 0 (IsWired-plan plan able.plugged) (IsLocal-plan kinds inputs plan able.plugged) (IsLead-plan plan able.plugged) (KeepsTo-plan kinds inputs plan able.plugged able.fed) run
    (IsState-start m) (λ q. omega (arith, given-none (system plan) none_done q refl)) (λ q. tt) r)
    (iterate-fronts kinds inputs (places_of plan) (n + 0) (count * most) (omega arith) a)

-- in every state, since a run reaches it
pub kahn_state : (kinds : List HostKind) (inputs : List (List ℤ)) (plan : Plan) (count most : ℕ) (order : List ℕ) (s : State) → IsRunnable inputs plan count most → IsWhole (system plan) order →
    IsState (machine kinds inputs plan) s → (r : ℕ) → IsFront (s.gave r) (kahn_list kinds inputs plan (count * most) r)
kahn_state kinds inputs plan count most order s able whole state r =
    let way : Reaches (machine kinds inputs plan) start (between none_done s.done order) s = converse-start (machine kinds inputs plan) s order (IsWired-plan plan able.plugged) (IsLocal-plan kinds inputs plan able.plugged) whole state in
    subst (λ xs. IsFront xs (kahn_list kinds inputs plan (count * most) r)) (way.ends.gave r)
    (kahn_front kinds inputs plan count most (between none_done s.done order) able way.run r)

-- a whole run gives to a ring all that its giver's firings give
given_all : (plan : Plan) (done : ℕ → ℕ) (r : ℕ) (task : Task) → IsFinished (system plan) done → slice_get plan.tasks (plan.from r) ≡ Some task → times r task.gives ≡ 1 → given (system plan) done r ≡ gave_in task.form task.quota
unfolding given
given_all plan done r task finished e once =
    let a : ℕ = plan.from r in
    let ops : List RingOp = task_ops (slice_get plan.tasks a) in
    ap (λ n. count_by (is_give r) (take n ops)) (finished a) ∙ ap (count_by (is_give r)) (take_all (length ops) ops (omega arith))
    ∙ ap (λ t. count_by (is_give r) (task_ops t)) e ∙ gives_in_ops task.form task.takes task.gives task.quota r once

-- and takes from it all that its taker's firings take
pub taken_all : (plan : Plan) (done : ℕ → ℕ) (r j : ℕ) (task : Task) → IsPlugged plan → IsFinished (system plan) done → slice_get plan.tasks (plan.to r) ≡ Some task → IsOperand task.takes j r → taken (system plan) done r ≡ took_in task.form task.quota j
unfolding taken
taken_all plan done r j task is finished e operand =
    let a : ℕ = plan.to r in
    let ops : List RingOp = task_ops (slice_get plan.tasks a) in
    ap (λ n. count_by (is_take r) (take n ops)) (finished a) ∙ ap (count_by (is_take r)) (take_all (length ops) ops (omega arith))
    ∙ ap (λ t. count_by (is_take r) (task_ops t)) e ∙ takes_in_ops task.form task.takes task.gives task.quota j r (is a task e).arity operand

-- in every state what was taken is a front of the same list
pub kahn_state_took : (kinds : List HostKind) (inputs : List (List ℤ)) (plan : Plan) (count most : ℕ) (order : List ℕ) (s : State) → IsRunnable inputs plan count most → IsWhole (system plan) order →
    IsState (machine kinds inputs plan) s → (r : ℕ) → IsFront (s.took r) (kahn_list kinds inputs plan (count * most) r)
kahn_state_took kinds inputs plan count most order s able whole state r =
    IsFront-trans (s.took r) (s.gave r) (kahn_list kinds inputs plan (count * most) r) (state.fronts r) (kahn_state kinds inputs plan count most order s able whole state r)

-- so in a finished state the lists given and taken are the giver's list, cut at these numbers
pub kahn_finished_gave : (kinds : List HostKind) (inputs : List (List ℤ)) (plan : Plan) (count most : ℕ) (order : List ℕ) (s : State) (r : ℕ) (task : Task) → IsRunnable inputs plan count most → IsWhole (system plan) order →
    IsState (machine kinds inputs plan) s → IsFinished (system plan) s.done → slice_get plan.tasks (plan.from r) ≡ Some task → times r task.gives ≡ 1 →
    s.gave r ≡ take (gave_in task.form task.quota) (kahn_list kinds inputs plan (count * most) r)
kahn_finished_gave kinds inputs plan count most order s r task able whole state finished e once =
    let list : List ℤ = kahn_list kinds inputs plan (count * most) r in
    IsFront-cut (s.gave r) list (kahn_state kinds inputs plan count most order s able whole state r)
    ∙ ap (λ n. take n list) (state.gave_count r ∙ given_all plan s.done r task finished e once)

pub kahn_finished_took : (kinds : List HostKind) (inputs : List (List ℤ)) (plan : Plan) (count most : ℕ) (order : List ℕ) (s : State) (r j : ℕ) (task : Task) → IsRunnable inputs plan count most → IsWhole (system plan) order →
    IsState (machine kinds inputs plan) s → IsFinished (system plan) s.done → slice_get plan.tasks (plan.to r) ≡ Some task → IsOperand task.takes j r →
    s.took r ≡ take (took_in task.form task.quota j) (kahn_list kinds inputs plan (count * most) r)
kahn_finished_took kinds inputs plan count most order s r j task able whole state finished e operand =
    let list : List ℤ = kahn_list kinds inputs plan (count * most) r in
    IsFront-cut (s.took r) list (kahn_state_took kinds inputs plan count most order s able whole state r)
    ∙ ap (λ n. take n list) (state.took_count r ∙ taken_all plan s.done r j task able.plugged finished e operand)

-- after a whole run the list given is the giver's list cut there, and the iterate has so many items
pub kahn_whole : (kinds : List HostKind) (inputs : List (List ℤ)) (plan : Plan) (count most : ℕ) (order : List ℕ) → IsRunnable inputs plan count most → IsWhole (system plan) order →
    (r : ℕ) (task : Task) → slice_get plan.tasks (plan.from r) ≡ Some task → times r task.gives ≡ 1 →
    ((events (machine kinds inputs plan) start order).gave r ≡ take (gave_in task.form task.quota) (kahn_list kinds inputs plan (count * most) r))
    × (gave_in task.form task.quota ≤ length (kahn_list kinds inputs plan (count * most) r))
kahn_whole kinds inputs plan count most order able whole r task e once =
    let m : Machine = machine kinds inputs plan in
    let s : State = events m start order in
    let list : List ℤ = kahn_list kinds inputs plan (count * most) r in
    let front : IsFront (s.gave r) list = kahn_front kinds inputs plan count most order able whole.run r in
    let state : IsState m s = IsState-events m start order (IsWired-plan plan able.plugged) (IsLocal-plan kinds inputs plan able.plugged) whole.run (IsState-start m) in
    let finished : IsFinished (system plan) s.done = λ b. events-done m start order b ∙ whole.all b in
    let size : length (s.gave r) ≡ gave_in task.form task.quota = state.gave_count r ∙ given_all plan s.done r task finished e once in
    (IsFront-cut (s.gave r) list front ∙ ap (λ n. take n list) size, omega (arith, IsFront-length (s.gave r) list front))
