-- After a whole run each actor's list, also of one that gives to no ring, has what the actor's firings give.
use Rattle.std.proofs.Common.{ℕ, suc, zero, ◌+◌, ◌*◌, ◌<◌, ◌≤◌, ◌≡◌, List, [], ◌∷◌, map, length, get_or, take}
use Rattle.std.proofs.Common.{ap, sym, refl, ◌∙◌, subst, inl, inr, arith}
use Rattle.std.specs.Prelude.{ℤ, sum_by, Option, Some, slice_get, option_map}
use Rattle.lucy_stream.specs.Plans.{Task, Plan, task_ops, system, machine, times, HasInput, IsOperand, IsPluggedAt}
use Rattle.lucy_stream.specs.Plans.{IsPlugged, place_of, places_of, IsRunnable}
use Rattle.std.proofs.lemmas.Bool.{cases_eq, cases_lt}
use Rattle.std.proofs.lemmas.List.{length-map, get_or-map}
use Rattle.std.proofs.lemmas.List.Sums.{sum_by-cons, sum_by-take-le}
use Rattle.std.proofs.lemmas.List.Elements.{All-get_or}
use Rattle.std.proofs.lemmas.Option.{slice_get-map}
use Rattle.lucy_host.specs.declared.kind.HostKind.{HostKind}
use Rattle.lucy_stream.specs.Items.{list_at}
use Rattle.lucy_stream.specs.Fronts.{IsFront}
use Rattle.lucy_stream.specs.Forms.{operands}
use Rattle.lucy_stream.specs.Lists.{form_list}
use Rattle.lucy_stream.specs.Iterates.{lists_of, iterate}
use Rattle.lucy_stream.specs.Firings.{gave_in, took_in}
use Rattle.lucy_stream.proofs.FrontLaws.{IsFront-length}
use Rattle.lucy_stream.proofs.IterateLaws.{iterate-at, iterate-fronts}
use Rattle.lucy_results.proofs.EnoughLaws.{form_list-enough}
use Rattle.lucy_stream.specs.Systems.{RingOp, Takes, Gives}
use Rattle.lucy_stream.specs.Runs.{none_done, after, IsFinished, IsWhole}
use Rattle.lucy_stream.specs.States.{Machine, State, start, events, IsState}
use Rattle.lucy_stream.proofs.GiveCounts.{gives_in_ops}
use Rattle.lucy_stream.proofs.CountLaws.{given-none}
use Rattle.lucy_stream.proofs.StateLaws.{IsState-start, IsState-events}
use Rattle.lucy_stream.proofs.EventLaws.{events-done}
use Rattle.lucy_stream.proofs.PlanLaws.{IsWired-plan, IsLocal-plan}
use Rattle.lucy_stream.proofs.TurnLaws.{fresh, items_in, turn_law}
use Rattle.lucy_stream.proofs.TurnCounts.{sum_to, sum_most, items_done, items_in-done}
use Rattle.lucy_stream.proofs.CoverLaws.{once_at, KeepsTo-plan}
use Rattle.lucy_stream.proofs.LeadLaws.{first_of, lead_in, lead, IsLead-plan}
use Rattle.lucy_stream.proofs.KahnLaws.{kahn_whole, no_gives, fresh_take, fresh_gives, quiet_at, few_at, taken_all}
use Rattle.lucy_net.proofs.CountLaws.{gave_le}

-- a sum of which one term is 0
sum_but : (n a most : ℕ) (f : ℕ → ℕ) → a < n → f a ≡ 0 → ((b : ℕ) → f b ≤ most) → sum_to n f + most ≤ n * most
sum_but zero a most f l e h = absurd (omega arith)
sum_but (suc n) a most f l e h = elim (cases_eq a n) [
  | inl same ↦ omega (arith, sum_most n most f h, ap f (sym same) ∙ e)
  | inr other ↦ omega (arith, sum_but n a most f (elim (cases_lt a n) [ inl m ↦ m | inr m ↦ absurd (other (omega arith)) ]) e h, h n)
]

-- what is no give is none to a first ring
none_first : (lead_of : ℕ → ℕ) (ops : List RingOp) → ((k r : ℕ) → k < length ops → get_or ops k (Takes 0) ≡ Gives r → ⊥) →
    sum_by (fresh lead_of) ops ≡ 0
none_first lead_of [] h = refl
none_first lead_of (op ∷ ops) h =
    omega (
      arith,
      sum_by-cons (fresh lead_of) op ops,
      fresh_take lead_of op (λ r e. h 0 r (omega arith) e),
      none_first lead_of ops (λ k r l e. h (suc k) r (omega arith) e),
    )

-- so an actor gives first at most as often as it fires
module _ (plan : Plan) (plugs : IsPlugged plan) (a : ℕ) (task : Task) (here : slice_get plan.tasks a ≡ Some task) where
  lead_is : (k r : ℕ) → k < length (task_ops (Some task)) → get_or (task_ops (Some task)) k (Takes 0) ≡ Gives r →
      lead plan r ≡ first_of task.gives r
  lead_is k r l op =
      let from : plan.from r ≡ a = (IsWired-plan plan plugs).giver a k r
      (subst (λ (t : Option Task). k < length (task_ops t)) (sym here) l)
      (ap (λ t. get_or (task_ops t) k (Takes 0)) here ∙ op) in
      ap (λ b. lead_in (slice_get plan.tasks b) r) from ∙ ap (λ t. lead_in t r) here

  few_by : (gives : List ℕ) → task.gives ≡ gives → sum_by (fresh (lead plan)) (task_ops (Some task)) ≤ task.quota
  few_by [] e = omega (arith, none_first (lead plan) (task_ops (Some task)) (λ k r l op. no_gives task k r e l op))
  few_by (g ∷ gives) e =
      let plugged : IsPluggedAt plan a task = plugs a task here in
      let first : get_or task.gives 0 0 ≡ g = ap (λ xs. get_or xs 0 0) e in
      let once : times g task.gives ≡ 1 = once_at task.gives 0 g (omega (arith, ap length e)) first (plugged.gives_once g) in
      omega (
        arith,
        fresh_gives (lead plan) g (task_ops (Some task)) (λ k r l op. lead_is k r l op ∙ ap (λ xs. first_of xs r) e),
        gives_in_ops task.form task.takes task.gives task.quota g once,
        gave_le task.form task.quota,
      )

  few_firsts : (n : ℕ) → sum_by (fresh (lead plan)) (take n (task_ops (Some task))) ≤ task.quota
  few_firsts n = omega (arith, sum_by-take-le (fresh (lead plan)) (task_ops (Some task)) n, few_by task.gives refl)

-- an actor after a whole run
module _ (kinds : List HostKind) (inputs : List (List ℤ)) (plan : Plan) (count most : ℕ) (order : List ℕ)
    (able : IsRunnable inputs plan count most) (whole : IsWhole (system plan) order) (a : ℕ) (task : Task)
    (here : slice_get plan.tasks a ≡ Some task) where
  abbrev lists : ℕ → List (List ℤ)
  lists n = iterate kinds inputs (places_of plan) n

  abbrev from : ℕ → ℕ
  from q = plan.from q

  abbrev turns : ℕ
  turns = items_in (system plan) (lead plan) none_done order

  -- where it gives to no ring, one turn for each firing of each other actor suffices
  few : task.gives ≡ [] → a < count → turns + most ≤ count * most
  few none low =
      let none_before : (n : ℕ) → sum_by (fresh (lead plan)) (take n (task_ops (Some task))) ≡ 0 = λ n.
      omega (
        arith,
        sum_by-take-le (fresh (lead plan)) (task_ops (Some task)) n,
        none_first (lead plan) (task_ops (Some task)) (λ k r l op. no_gives task k r none l op),
      ) in
      let done : ℕ → ℕ = items_done (system plan) (lead plan) (after none_done order) in
      let nothing : done a ≡ 0 = ap (λ t. sum_by (fresh (lead plan)) (take (after none_done order a) (task_ops t))) here
      ∙ none_before (after none_done order a) in
      omega (
        arith,
        items_in-done (system plan) (lead plan) none_done order count whole.run
            (λ b k c l. quiet_at plan count b k able.give_below c (slice_get plan.tasks b) refl l),
        sum_but count a most done low nothing (λ b. few_at plan most b (after none_done order b) able.plugged able.quotas
            (slice_get plan.tasks b) refl),
      )

  -- what it takes from an operand is in the operand's list by then
  operand : (j : ℕ) → j < operands task.form → took_in task.form task.quota j
      ≤ length (list_at (lists (turns + 0)) (from (get_or task.takes j 0)))
  operand j l =
      let m : Machine = machine kinds inputs plan in
      let s : State = events m start order in
      let q : ℕ = get_or task.takes j 0 in
      let plugged : IsPluggedAt plan a task = able.plugged a task here in
      let within : j < length task.takes = omega (arith, plugged.arity) in
      let is_operand : IsOperand task.takes j q = record {
        there = within;
        is = refl;
        once =
            once_at task.takes j q within refl (plugged.takes_once q);
      } in
      let to : plan.to q ≡ a = All-get_or (λ r. plan.to r ≡ a) task.takes j 0 within plugged.takes in
      let state : IsState m s = IsState-events m start order (IsWired-plan plan able.plugged)
      (IsLocal-plan kinds inputs plan able.plugged) whole.run (IsState-start m) in
      let finished : IsFinished (system plan) s.done = λ b. events-done m start order b ∙ whole.all b in
      let front : IsFront (s.gave q) (list_at (lists (turns + 0)) (from q)) =
      turn_law m (lead plan) (λ (k b : ℕ). list_at (lists k) b) start order 0 (IsWired-plan plan able.plugged)
      (IsLocal-plan kinds inputs plan able.plugged) (IsLead-plan plan able.plugged)
      (KeepsTo-plan kinds inputs plan able.plugged able.fed) whole.run
      (IsState-start m) (λ r. omega (arith, given-none (system plan) none_done r refl)) (λ r. tt) q in
      let took : length (s.took q) ≡ took_in task.form task.quota j =
      state.took_count q ∙ taken_all plan s.done q j task able.plugged finished (ap (slice_get plan.tasks) to ∙ here) is_operand in
      omega (
        arith,
        took,
        IsFront-length (s.took q) (s.gave q) (state.fronts q),
        IsFront-length (s.gave q) (list_at (lists (turns + 0)) (from q)) front,
      )

  -- and in every later iterate
  operand_later : (n j : ℕ) → turns ≤ n → j < operands task.form →
      took_in task.form task.quota j ≤ length (list_at (lists_of (lists n) (map from task.takes)) j)
  operand_later n j l m =
      let q : ℕ = get_or task.takes j 0 in
      let within : j < length task.takes = omega (arith, (able.plugged a task here).arity) in
      let read : list_at (lists_of (lists n) (map from task.takes)) j ≡ list_at (lists n) (from q) =
      get_or-map (list_at (lists n)) (map from task.takes) j 0 [] (omega (arith, within, length-map task.takes from))
      ∙ ap (list_at (lists n)) (get_or-map from task.takes j 0 0 within) in
      let later : IsFront (list_at (lists (turns + 0)) (from q)) (list_at (lists n) (from q)) =
      iterate-fronts kinds inputs (places_of plan) (turns + 0) n (omega arith) (from q) in
      omega (arith, operand j m, IsFront-length (list_at (lists (turns + 0)) (from q)) (list_at (lists n) (from q)) later, ap length read)

  -- so its own list is whole a turn later
  unread : task.gives ≡ [] → a < count → 0 < most → (n : ℕ) → count * most ≡ n → gave_in task.form task.quota ≤ length (list_at (lists n) a)
  unread none low some zero e = absurd (omega (arith, few none low))
  unread none low some (suc n) e =
      let fits = few none low in
      let quota : task.quota ≤ most = able.quotas a task here in
      let made : list_at (lists (suc n)) a ≡ form_list kinds inputs n task.form (lists_of (lists n) (map from task.takes)) =
      iterate-at kinds inputs (places_of plan) n a (place_of plan task)
      (slice_get-map (place_of plan) plan.tasks a ∙ ap (option_map (place_of plan)) here) in
      omega (
        arith,
        form_list-enough kinds inputs n task.form (lists_of (lists n) (map from task.takes)) task.quota
            (λ input f. subst (λ form. HasInput inputs form task.quota) f (able.fed a task here)) (omega arith)
            (λ j l. operand_later n j (omega arith) l),
        ap length made,
      )

  -- one that gives to some ring
  read : 0 < length task.gives → gave_in task.form task.quota ≤ length (list_at (lists (count * most)) a)
  read some =
      let r : ℕ = get_or task.gives 0 0 in
      let plugged : IsPluggedAt plan a task = able.plugged a task here in
      let mine : from r ≡ a = All-get_or (λ q. from q ≡ a) task.gives 0 0 some plugged.gives in
      let once : times r task.gives ≡ 1 = once_at task.gives 0 r some refl (plugged.gives_once r) in
      subst (λ b. gave_in task.form task.quota ≤ length (list_at (lists (count * most)) b)) mine
      (kahn_whole kinds inputs plan count most order able whole r task (ap (slice_get plan.tasks) mine ∙ here) once).1

  by_gives : (gives : List ℕ) → task.gives ≡ gives → a < count → gave_in task.form task.quota ≤ length (list_at (lists (count * most)) a)
  by_gives (g ∷ gives) e low = read (omega (arith, ap length e))
  by_gives [] e low = elim (cases_lt 0 most) [
    | inl some ↦ unread e low some (count * most) refl
    | inr none ↦ omega (arith, gave_le task.form task.quota, able.quotas a task here)
  ]

  -- its list has what its firings give, in the iterate of one turn for each firing of each actor that may give
  pub list_whole : a < count → gave_in task.form task.quota ≤ length (list_at (iterate kinds inputs (places_of plan) (count * most)) a)
  list_whole low = by_gives task.gives refl low
