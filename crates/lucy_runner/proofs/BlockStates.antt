-- In a block more the state of the same counts has the same lists.
use Rattle.std.proofs.Common.{ℕ, ◌+◌, ◌≡◌, Bool, true, false, cond, List, [], ◌++◌, length, ap, sym, ◌∙◌, subst, inl, inr, arith}
use Rattle.std.specs.Prelude.{ℤ}
use Rattle.std.proofs.lemmas.Bool.{cases_lt}
use Rattle.std.proofs.lemmas.List.{nil_from_length}
use Rattle.lucy_host.specs.Operators.{kinds_of}
use Rattle.lucy_stream.specs.Fronts.{IsFront, AreFronts}
use Rattle.lucy_stream.specs.Items.{list_at}
use Rattle.lucy_stream.proofs.FrontLaws.{IsFront-append}
use Rattle.lucy_stream.specs.Systems.{IsWired}
use Rattle.lucy_stream.specs.Runs.{Leads, IsWithin, between}
use Rattle.lucy_stream.specs.States.{Machine, IsLocal, State, events, IsSame, IsState, Reaches}
use Rattle.lucy_stream.specs.Horizons.{IsLongerPlan}
use Rattle.lucy_stream.specs.Plans.{machine}
use Rattle.lucy_stream.specs.Totals.{OnlyFirst}
use Rattle.lucy_stream.proofs.CountedLaws.{within_later}
use Rattle.lucy_stream.proofs.EventLaws.{events-done}
use Rattle.lucy_stream.proofs.HorizonLaws.{IsState-longer}
use Rattle.lucy_stream.proofs.LongerPlans.{IsLonger-plan, KeepsValues-plan}
use Rattle.lucy_stream.proofs.PlanLaws.{IsWired-plan, IsLocal-plan}
use Rattle.lucy_stream.proofs.ReachLaws.{converse}
use Rattle.lucy_stream.proofs.TotalLaws.{events_counted, total-same}
use Rattle.lucy_net.specs.Plans.{plan}
use Rattle.lucy_net.proofs.BackLaws.{fed}
use Rattle.lucy_net.proofs.NetLaws.{longer_planned, plugged, only_planned}
use Rattle.lucy_core.specs.Seen as core
use Rattle.lucy_core.specs.Seen.{machine_on, done_of}
use Rattle.lucy_core.proofs.SeenLaws.{IsMachineOf, machine_is, state_is, state_done}
use Rattle.lucy_runner.specs.Views.{is_read, input_count}
use Rattle.lucy_runner.specs.Crews.{items_of}
use Rattle.lucy_runner.specs.Blocks.{longer_for}
use Rattle.lucy_runner.proofs.InputLaws.{numbered, unnumbered}
use Rattle.lucy_runner.proofs.Blocks.{Block, then, fixed, items_before}

-- the actors with their values, and the states of the counts, before and then
abbrev pub short : Block → Machine
short b = machine (kinds_of b.seen.operators) b.seen.inputs (plan b.seen.net b.seen.instants)

abbrev pub long : Block → Machine
long b = machine (kinds_of b.seen.operators) (then b).inputs (plan b.seen.net b.instants)

abbrev pub first : Block → State
first b = core.state_of b.seen

abbrev pub last : Block → State
last b = core.state_of (then b)

pub short_is : (b : Block) → IsMachineOf b.seen.net (core.machine_of b.seen) (core.order_of b.seen) b.seen.inputs (kinds_of b.seen.operators) b.seen.instants
short_is b = machine_is b.seen.net b.seen.schedule b.seen.inputs b.seen.operators b.seen.instants b.standing.fixed

long_is : (b : Block) → IsMachineOf b.seen.net (core.machine_of (then b)) (core.order_of (then b)) (then b).inputs (kinds_of b.seen.operators) b.instants
long_is b = machine_is b.seen.net b.seen.schedule (then b).inputs b.seen.operators b.instants (fixed b)

pub wired : (b : Block) → IsWired (long b).sys
wired b = IsWired-plan (plan b.seen.net b.instants) (plugged b.seen.net b.instants b.standing.fixed.proper)

pub local : (b : Block) → IsLocal (long b)
local b = IsLocal-plan (kinds_of b.seen.operators) (then b).inputs (plan b.seen.net b.instants) (plugged b.seen.net b.instants b.standing.fixed.proper)

longer_plan : (b : Block) → IsLongerPlan (plan b.seen.net b.seen.instants) (plan b.seen.net b.instants)
longer_plan b = longer_planned b.seen.net b.seen.instants b.instants b.later

-- the inputs go on
goes_on : (c : Bool) (items added : List ℤ) → IsFront (cond c items []) (cond c (items ++ added) [])
goes_on true items added = IsFront-append items added
goes_on false items added = tt

inputs_go_on : (b : Block) → AreFronts b.seen.inputs (then b).inputs
inputs_go_on b i = elim (cases_lt i (input_count b.seen.net.actors)) [
  | inl l ↦
      let old : list_at b.seen.inputs i ≡ cond (is_read i b.seen.net.actors) (list_at b.seen.inputs i) [] =
      ap (λ ls. list_at ls i) b.inputs ∙ numbered (items_of b.crew b.places) (input_count b.seen.net.actors) i l ∙ items_before b i in
      let new : list_at (then b).inputs i ≡ longer_for b.seen.net.actors b.seen.inputs b.added i = numbered (longer_for b.seen.net.actors b.seen.inputs b.added) (input_count b.seen.net.actors) i l in
      subst (λ (xs : List ℤ). IsFront xs (list_at (then b).inputs i)) (sym old) (subst (λ (xs : List ℤ). IsFront (cond (is_read i b.seen.net.actors) (list_at b.seen.inputs i) []) xs) (sym new)
      (goes_on (is_read i b.seen.net.actors) (list_at b.seen.inputs i) (list_at b.added i)))
  | inr past ↦
      let none : list_at b.seen.inputs i ≡ [] = ap (λ ls. list_at ls i) b.inputs ∙ unnumbered (items_of b.crew b.places) (input_count b.seen.net.actors) i past in
      subst (λ (xs : List ℤ). IsFront xs (list_at (then b).inputs i)) (sym none) tt
]

pub first_state : (b : Block) → IsState (short b) (first b)
unfolding machine_on
first_state b = (let is = short_is b in state_is (core.machine_of b.seen) (core.order_of b.seen) b.seen.done is.wired is.local is.whole b.standing.within)

pub first_done : (b : Block) (a : ℕ) → (first b).done a ≡ done_of b.seen.done a
first_done b a = (let is = short_is b in state_done (core.machine_of b.seen) (core.order_of b.seen) b.seen.done a is.wired is.whole b.standing.within)

-- the state stays one
stays : (b : Block) → IsState (long b) (first b)
stays b =
    IsState-longer (short b) (long b) (first b) (IsLonger-plan (plan b.seen.net b.seen.instants) (plan b.seen.net b.instants) (longer_plan b))
    (KeepsValues-plan (kinds_of b.seen.operators) b.seen.inputs (then b).inputs (plan b.seen.net b.seen.instants) (plan b.seen.net b.instants) (longer_plan b) (fed b.seen.inputs b.seen.net b.seen.instants b.standing.fixed.supplied) (inputs_go_on b))
    (local b) (first_state b)

pub then_within : (b : Block) → IsWithin (core.machine_of (then b)).sys (done_of b.seen.done)
unfolding machine_on
then_within b = within_later (long b).sys (first b).done (done_of b.seen.done) [] (stays b).within tt (first_done b)

pub last_state : (b : Block) → IsState (long b) (last b)
unfolding machine_on
last_state b = (let is = long_is b in state_is (core.machine_of (then b)) (core.order_of (then b)) b.seen.done is.wired is.local is.whole (then_within b))

same_counts : (b : Block) (a : ℕ) → (last b).done a ≡ (first b).done a
same_counts b a = (let is = long_is b in state_done (core.machine_of (then b)) (core.order_of (then b)) b.seen.done a is.wired is.whole (then_within b)) ∙ sym (first_done b a)

-- from it no event leads to the state of the same counts
no_events : (m : Machine) (s t : State) (n : ℕ) (picks : List ℕ) → OnlyFirst m.sys n → ((a : ℕ) → t.done a ≡ s.done a) → Reaches m s picks t → IsSame s t
no_events m s t n picks only same reach =
    let leads : Leads m.sys s.done picks t.done = record { run = reach.run; ends = λ a. sym (events-done m s picks a) ∙ reach.ends.done a } in
    let none : length picks ≡ 0 = omega (arith, events_counted m.sys n s.done t.done picks only leads, total-same n t.done s.done (λ a l. same a)) in
    subst (λ xs. IsSame (events m s xs) t) (nil_from_length picks none) reach.ends

-- so the lists are the same
pub same_state : (b : Block) → IsSame (first b) (last b)
unfolding machine_on
same_state b =
    let order : List ℕ = core.order_of (then b) in
    no_events (long b) (first b) (last b) (length b.seen.net.actors) (between (first b).done (last b).done order) (only_planned b.seen.net b.instants) (same_counts b)
    (converse (long b) (first b) (last b) order (wired b) (local b) (long_is b).whole (stays b) (last_state b) (λ a. omega (arith, same_counts b a)))
