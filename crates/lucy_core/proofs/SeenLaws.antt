-- The machine of a net, and what an event of it changes.
use Rattle.std.proofs.Common.{ℕ, ◌<◌, ◌≤◌, ◌≡◌, true, List, [], ◌∷◌, ◌++◌, map, length, drop, ap, sym, ◌∙◌, subst, arith}
use Rattle.std.specs.Prelude.{ℤ, All, Some, None, slice_get, slice_index_or, count_by}
use Rattle.std.specs.Option.{option_map}
use Rattle.std.proofs.lemmas.Option.{slice_get-map}
use Rattle.std.proofs.lemmas.List.{take_all}
use Rattle.lucy_word.specs.Bits.{ones_to}
use Rattle.lucy_host.specs.declared.kind.HostKind.{HostKind}
use Rattle.lucy_host.specs.Operators.{Operator, kinds_of}
use Rattle.lucy_stream.specs.Items.{item_at}
use Rattle.lucy_stream.specs.Forms.{Form, operands}
use Rattle.lucy_stream.specs.Firings.{fire_value, took_in}
use Rattle.lucy_stream.specs.Systems.{RingOp, Takes, Gives, op_at, IsWired, is_take, takes_before, taken}
use Rattle.lucy_stream.specs.Runs.{IsPossible, IsWhole, IsWithin}
use Rattle.lucy_stream.specs.States.{Machine, IsLocal, State, held, event, IsSame, IsState}
use Rattle.lucy_stream.specs.Operations.{ops_of, fired_at}
use Rattle.lucy_stream.specs.Plans.{task_ops, task_value, times, IsOperand, HasInput}
use Rattle.lucy_stream.proofs.CountLaws.{count_take-lt, eqb-same, taken-is}
use Rattle.lucy_stream.proofs.PlanLaws.{IsWired-plan, IsLocal-plan}
use Rattle.lucy_stream.proofs.TakeCounts.{takes_in_ops}
use Rattle.lucy_stream.proofs.AlikeLaws.{IsRun-same}
use Rattle.lucy_stream.proofs.CountedLaws.{within_later, counted_done, counted_state, counted_later}
use Rattle.lucy_stream.proofs.HoldingLaws.{held_before, took_item, gave_item, held_other, took_other, takes_not_gives}
use Rattle.lucy_net.specs.declared.net.Actor.{Actor}
use Rattle.lucy_net.specs.declared.net.RingSpec.{RingSpec}
use Rattle.lucy_net.specs.declared.net.Net.{Net}
use Rattle.lucy_net.specs.declared.kind.ActorKind.TheVariants.{Output}
use Rattle.lucy_net.specs.Plans.{form_of, task_of, plan}
use Rattle.lucy_net.specs.States.{IsUsable}
use Rattle.lucy_net.specs.Schedules.{Timetable}
use Rattle.lucy_net.proofs.NetLaws.{task_at, size_here, planned, plugged, usable}
use Rattle.lucy_net.proofs.NumberedLaws.{outputs_apart}
use Rattle.lucy_core.specs.Seen.{machine_on, order_on, done_of, state_on, one_more, CanMakeCore}
use Rattle.lucy_core.proofs.ListLaws.{one_more_done}

-- what the machine of a net is
pub record IsMachineOf (net : Net) (m : Machine) (order : List ℕ) (inputs : List (List ℤ)) (kinds : List HostKind) (instants : ℕ) : Type 0 where
  pub wired : IsWired m.sys
  pub local : IsLocal m
  pub whole : IsWhole m.sys order
  pub ops : (a : ℕ) (actor : Actor) → slice_get net.actors a ≡ Some actor → m.sys.ops a ≡ ops_of (form_of actor.kind) actor.takes actor.gives (ones_to actor.firing instants)
  pub ops_none : (a : ℕ) → slice_get net.actors a ≡ None → m.sys.ops a ≡ []
  pub values : (a k : ℕ) (actor : Actor) (took : ℕ → List ℤ) → slice_get net.actors a ≡ Some actor →
      m.value a k took ≡ fire_value kinds inputs (form_of actor.kind) (slice_index_or (fired_at (form_of actor.kind) actor.takes actor.gives (ones_to actor.firing instants)) k 0) (map took actor.takes)
  pub takers : (a : ℕ) (actor : Actor) → slice_get net.actors a ≡ Some actor → All (λ r. m.sys.to r ≡ a) actor.takes
  pub once : (a : ℕ) (actor : Actor) → slice_get net.actors a ≡ Some actor → (r : ℕ) → times r actor.takes ≤ 1
  pub usable : (a : ℕ) (actor : Actor) → slice_get net.actors a ≡ Some actor → IsUsable actor
  pub sizes : (r : ℕ) (ring : RingSpec) → slice_get net.rings r ≡ Some ring → m.sys.size r ≡ ring.size
  pub fed : (a : ℕ) (actor : Actor) → slice_get net.actors a ≡ Some actor → HasInput inputs (form_of actor.kind) (ones_to actor.firing instants)
  pub apart : (a b n : ℕ) (x y : Actor) → slice_get net.actors a ≡ Some x → slice_get net.actors b ≡ Some y → x.kind ≡ Output n → y.kind ≡ Output n → a ≡ b

pub machine_is : (net : Net) (schedule : Timetable) (inputs : List (List ℤ)) (operators : List Operator) (instants : ℕ) → CanMakeCore net schedule inputs operators instants →
    IsMachineOf net (machine_on net inputs (kinds_of operators) instants) (order_on schedule instants) inputs (kinds_of operators) instants
unfolding machine_on order_on
machine_is net schedule inputs operators instants is = record {
  wired = IsWired-plan (plan net instants) (plugged net instants is.proper);
  local = IsLocal-plan (kinds_of operators) inputs (plan net instants) (plugged net instants is.proper);
  whole = subst (λ sys. IsWhole sys (order_on schedule instants)) (sym (planned net instants)) (is.sound instants);
  ops = λ a actor e. ap task_ops (task_at net instants a actor e);
  ops_none = λ a e. ap task_ops (slice_get-map (task_of instants) net.actors a ∙ ap (option_map (task_of instants)) e);
  values = λ a k actor took e. ap (λ t. task_value (kinds_of operators) inputs t k took) (task_at net instants a actor e);
  takers = λ a actor e. (plugged net instants is.proper a (task_of instants actor) (task_at net instants a actor e)).takes;
  once = λ a actor e. (plugged net instants is.proper a (task_of instants actor) (task_at net instants a actor e)).takes_once;
  usable = λ a actor e. usable net a actor is.proper e;
  sizes = size_here net instants;
  fed = is.supplied;
  apart = λ a b n x y e f k l. outputs_apart net.actors a b n x y is.proper.outputs e f k l;
}

-- the state of the counts
pub state_is : (m : Machine) (order done : List ℕ) → IsWired m.sys → IsLocal m → IsWhole m.sys order → IsWithin m.sys (done_of done) → IsState m (state_on m order done)
unfolding state_on
state_is m order done wired local whole w = counted_state m order (done_of done) wired local whole w

pub state_done : (m : Machine) (order done : List ℕ) (a : ℕ) → IsWired m.sys → IsWhole m.sys order → IsWithin m.sys (done_of done) → (state_on m order done).done a ≡ done_of done a
unfolding state_on
state_done m order done a wired whole w = counted_done m order (done_of done) a wired whole w

pub next_same : (m : Machine) (order done : List ℕ) (a : ℕ) → IsWired m.sys → IsLocal m → IsWhole m.sys order → IsWithin m.sys (done_of done) → a < length done → IsPossible m.sys (done_of done) a →
    IsSame (state_on m order (one_more done a)) (event m (state_on m order done) a)
unfolding state_on
next_same m order done a wired local whole w l can =
    counted_later m order (done_of done) (done_of (one_more done a)) (a ∷ []) wired local whole w (can, tt) (λ b. sym (one_more_done done a b l))

pub next_within : (m : Machine) (done : List ℕ) (a : ℕ) → IsWithin m.sys (done_of done) → a < length done → IsPossible m.sys (done_of done) a → IsWithin m.sys (done_of (one_more done a))
next_within m done a w l can = within_later m.sys (done_of done) (done_of (one_more done a)) (a ∷ []) w (can, tt) (λ b. sym (one_more_done done a b l))

-- states that are the same hold as much
pub held_same : (s t : State) (r : ℕ) → IsSame s t → held s r ≡ held t r
held_same s t r same = ap (λ xs. drop (length xs) (s.gave r)) (same.took r) ∙ ap (drop (length (t.took r))) (same.gave r)

-- what a take changes
pub record TookFrom (s t : State) (r : ℕ) : Type 0 where
  pub took : t.took r ≡ s.took r ++ item_at (held s r) 0 ∷ []
  pub took_other : (q : ℕ) → (r ≡ q → ⊥) → t.took q ≡ s.took q
  pub rest : held s r ≡ item_at (held s r) 0 ∷ held t r
  pub others : (q : ℕ) → (r ≡ q → ⊥) → held t q ≡ held s q

-- what a give changes
pub record GaveTo (s t : State) (r : ℕ) (v : ℤ) : Type 0 where
  pub took : (q : ℕ) → t.took q ≡ s.took q
  pub more : held t r ≡ held s r ++ v ∷ []
  pub others : (q : ℕ) → (r ≡ q → ⊥) → held t q ≡ held s q

possible_there : (m : Machine) (s : State) (d : ℕ → ℕ) (a : ℕ) → ((b : ℕ) → s.done b ≡ d b) → IsPossible m.sys d a → IsPossible m.sys s.done a
possible_there m s d a h can = (IsRun-same m.sys d s.done (a ∷ []) (λ b. sym (h b)) (can, tt)).0

takes_one : (op : RingOp) (r q : ℕ) → op ≡ Takes r → op ≡ Takes q → r ≡ q
takes_one op r q e f = cc

gives_one : (op : RingOp) (r q : ℕ) → op ≡ Gives r → op ≡ Gives q → r ≡ q
gives_one op r q e f = cc

pub took_from : (m : Machine) (order done : List ℕ) (a r : ℕ) → IsWired m.sys → IsLocal m → IsWhole m.sys order → IsWithin m.sys (done_of done) → a < length done → IsPossible m.sys (done_of done) a → op_at m.sys a (done_of done a) ≡ Takes r →
    TookFrom (state_on m order done) (state_on m order (one_more done a)) r
took_from m order done a r wired local whole w l can op =
    let s : State = state_on m order done in
    let t : State = state_on m order (one_more done a) in
    let same : IsSame t (event m s a) = next_same m order done a wired local whole w l can in
    let is : IsState m s = state_is m order done wired local whole w in
    let counts : (b : ℕ) → s.done b ≡ done_of done b = λ b. state_done m order done b wired whole w in
    let here : IsPossible m.sys s.done a = possible_there m s (done_of done) a counts can in
    let it : op_at m.sys a (s.done a) ≡ Takes r = ap (op_at m.sys a) (counts a) ∙ op in
    record {
      took = same.took r ∙ took_item m s a r is here it;
      took_other = λ q ne. same.took q ∙ took_other m s a q (λ (e : op_at m.sys a (s.done a) ≡ Takes q). ne (takes_one (op_at m.sys a (s.done a)) r q it e));
      rest = held_before m s a r is here it ∙ ap (λ xs. item_at (held s r) 0 ∷ xs) (sym (held_same t (event m s a) r same));
      others = λ q ne. held_same t (event m s a) q same ∙ held_other m s a q (λ (e : op_at m.sys a (s.done a) ≡ Takes q). ne (takes_one (op_at m.sys a (s.done a)) r q it e)) (takes_not_gives (op_at m.sys a (s.done a)) r q it);
    }

pub gave_to : (m : Machine) (order done : List ℕ) (a r : ℕ) → IsWired m.sys → IsLocal m → IsWhole m.sys order → IsWithin m.sys (done_of done) → a < length done → IsPossible m.sys (done_of done) a → op_at m.sys a (done_of done a) ≡ Gives r →
    GaveTo (state_on m order done) (state_on m order (one_more done a)) r (m.value a (done_of done a) (state_on m order done).took)
gave_to m order done a r wired local whole w l can op =
    let s : State = state_on m order done in
    let t : State = state_on m order (one_more done a) in
    let same : IsSame t (event m s a) = next_same m order done a wired local whole w l can in
    let is : IsState m s = state_is m order done wired local whole w in
    let counts : (b : ℕ) → s.done b ≡ done_of done b = λ b. state_done m order done b wired whole w in
    let it : op_at m.sys a (s.done a) ≡ Gives r = ap (op_at m.sys a) (counts a) ∙ op in
    record {
      took = λ q. same.took q ∙ took_other m s a q (λ (e : op_at m.sys a (s.done a) ≡ Takes q). takes_not_gives (op_at m.sys a (s.done a)) q r e it);
      more = held_same t (event m s a) r same ∙ gave_item m s a r is it ∙ ap (λ k. held s r ++ m.value a k s.took ∷ []) (counts a);
      others = λ q ne. held_same t (event m s a) q same ∙ held_other m s a q (λ (e : op_at m.sys a (s.done a) ≡ Takes q). takes_not_gives (op_at m.sys a (s.done a)) q r e it) (λ (e : op_at m.sys a (s.done a) ≡ Gives q). ne (gives_one (op_at m.sys a (s.done a)) r q it e));
    }

-- an output has room for the item that it takes
pub took_room : (m : Machine) (s : State) (a n r : ℕ) (form : Form) (ts gs : List ℕ) (q : ℕ) → IsWired m.sys → IsState m s → s.done a ≡ n → m.sys.ops a ≡ ops_of form ts gs q → n < length (m.sys.ops a) → op_at m.sys a n ≡ Takes r →
    length ts ≡ operands form → IsOperand ts 0 r → length (s.took r) < took_in form q 0
took_room m s a n r form ts gs q wired is count ops l op arity operand =
    let own : m.sys.to r ≡ a = wired.taker a n r l op in
    let here : takes_before m.sys a n r ≡ taken m.sys s.done r = taken-is m.sys s.done a n r own count in
    let y : is_take r (op_at m.sys a n) ≡ true = ap (is_take r) op ∙ eqb-same r in
    let below : takes_before m.sys a n r < takes_before m.sys a (length (m.sys.ops a)) r = count_take-lt (is_take r) (m.sys.ops a) n (length (m.sys.ops a)) (Takes 0) l l y in
    let all : takes_before m.sys a (length (m.sys.ops a)) r ≡ count_by (is_take r) (m.sys.ops a) = ap (count_by (is_take r)) (take_all (length (m.sys.ops a)) (m.sys.ops a) (omega arith)) in
    let total : count_by (is_take r) (m.sys.ops a) ≡ took_in form q 0 = ap (count_by (is_take r)) ops ∙ takes_in_ops form ts gs q 0 r arity operand in
    omega (arith, is.took_count r)
