-- What follows from a net's being proper.
use Rattle.std.proofs.Common.{ℕ, suc, zero, ◌+◌, ◌-◌, ◌<◌, ◌≤◌, ◌≡◌, ◌⊎◌, true, false, eqb, List, [], ◌∷◌, map, length, get_or, ap, sym, refl, ◌∙◌, subst, inl, inr, arith}
use Rattle.std.specs.Prelude.{Option, Some, None, slice_get, All, count_by}
use Rattle.std.specs.Option.{option_map}
use Rattle.std.specs.List.{AllZip}
use Rattle.std.proofs.lemmas.Bool.{eq-eqb, eqb-true}
use Rattle.std.proofs.Math.Path.{fun_ext}
use Rattle.std.proofs.lemmas.Option.{slice_get-map, get_or_from_slice_get, slice_get_within, slice_get_past}
use Rattle.std.proofs.lemmas.List.{take_all}
use Rattle.std.proofs.lemmas.List.Elements.{All-nil}
use Rattle.lucy_word.specs.Bits.{Bits, bit_at, one_if, ones_to}
use Rattle.lucy_word.proofs.ComplementLaws.{ones_to-complement}
use Rattle.lucy_word.proofs.BitsLaws.{ones_to-more}
use Rattle.lucy_word.proofs.SamplingLaws.{ones_to-on}
use Rattle.lucy_word.proofs.ShortLaws.{same_counts, ones_to-later}
use Rattle.lucy_stream.specs.Forms.{Form, Kept, Merged}
use Rattle.lucy_stream.specs.Firings.{gave_in, took_in}
use Rattle.lucy_stream.specs.Systems.{System, RingOp, is_give, is_take, IsWired, given, taken}
use Rattle.lucy_stream.specs.Runs.{IsWithin}
use Rattle.lucy_stream.specs.Operations.{IsOnRings}
use Rattle.lucy_stream.specs.Instants.{IsInstant}
use Rattle.lucy_stream.specs.Horizons.{IsLonger, IsLongerTask, IsLongerPlan}
use Rattle.lucy_stream.specs.Plans.{Task, task_ops, system, times, IsOperand, IsPluggedAt, IsPlugged}
use Rattle.lucy_stream.proofs.PlanLaws.{IsWired-plan}
use Rattle.lucy_stream.proofs.LongerPlans.{IsLonger-plan}
use Rattle.lucy_stream.proofs.HorizonLaws.{given-longer, taken-longer}
use Rattle.lucy_stream.proofs.GiveCounts.{gives_in_ops}
use Rattle.lucy_stream.proofs.TakeCounts.{takes_in_ops}
use Rattle.lucy_stream.proofs.OperationLaws.{ops_rings, no_gives, no_takes}
use Rattle.lucy_net.specs.declared.net.Actor.{Actor}
use Rattle.lucy_net.specs.declared.net.RingSpec.{RingSpec}
use Rattle.lucy_net.specs.declared.net.Net.{Net}
use Rattle.lucy_net.specs.Plans.{form_of, task_of, actor_ops, giver, taker, plan, net_system, done_by}
use Rattle.lucy_stream.specs.Totals.{OnlyFirst}
use Rattle.lucy_net.specs.States.{IsUsable}
use Rattle.lucy_net.specs.Proper.{IsWriteWord, IsReadWord, IsProper, IsProperActor, IsProperRing}
use Rattle.lucy_net.proofs.WhereLaws.{times_yes, times_le, where_all, where_length, operand_of}

-- the task of an actor, and the numbers of a ring
pub task_at : (net : Net) (n a : ℕ) (actor : Actor) → slice_get net.actors a ≡ Some actor → slice_get (plan net n).tasks a ≡ Some (task_of n actor)
task_at net n a actor e = slice_get-map (task_of n) net.actors a ∙ ap (option_map (task_of n)) e

pub number_at : (f : RingSpec → ℕ) (rings : List RingSpec) (r : ℕ) (ring : RingSpec) → slice_get rings r ≡ Some ring → get_or (map f rings) r 0 ≡ f ring
number_at f rings r ring e = get_or_from_slice_get (map f rings) r (f ring) 0 (slice_get-map f rings r ∙ ap (option_map f) e)

pub from_here : (net : Net) (r : ℕ) (ring : RingSpec) → slice_get net.rings r ≡ Some ring → giver net r ≡ ring.from
from_here net r ring e = number_at (λ x. x.from) net.rings r ring e

pub to_here : (net : Net) (r : ℕ) (ring : RingSpec) → slice_get net.rings r ≡ Some ring → taker net r ≡ ring.to
to_here net r ring e = number_at (λ x. x.to) net.rings r ring e

pub size_here : (net : Net) (n r : ℕ) (ring : RingSpec) → slice_get net.rings r ≡ Some ring → (plan net n).size r ≡ ring.size
size_here net n r ring e = number_at (λ x. x.size) net.rings r ring e

plugged_task : (net : Net) (n a : ℕ) (actor : Actor) → IsProperActor net a actor → IsPluggedAt (plan net n) a (task_of n actor)
plugged_task net n a actor is = record {
  gives = subst (All (λ r. (plan net n).from r ≡ a)) (sym is.gives) (where_all (λ r. (plan net n).from r ≡ a) (λ r. eqb (giver net r) a) (length net.rings) (λ r l y. eqb-true (giver net r) a y));
  takes = subst (All (λ r. (plan net n).to r ≡ a)) (sym is.takes) (where_all (λ r. (plan net n).to r ≡ a) (λ r. eqb (taker net r) a) (length net.rings) (λ r l y. eqb-true (taker net r) a y));
  gives_once = λ r. subst (λ xs. times r xs ≤ 1) (sym is.gives) (times_le (λ r. eqb (giver net r) a) (length net.rings) r);
  takes_once = λ r. subst (λ xs. times r xs ≤ 1) (sym is.takes) (times_le (λ r. eqb (taker net r) a) (length net.rings) r);
  arity = is.arity;
}

plugged_at : (net : Net) (n a : ℕ) (task : Task) → IsProper net → (o : Option Actor) → slice_get net.actors a ≡ o → option_map (task_of n) o ≡ Some task → IsPluggedAt (plan net n) a task
plugged_at net n a task is None e h = absurd (cc)
plugged_at net n a task is (Some actor) e h = (let same : task_of n actor ≡ task = cc in subst (IsPluggedAt (plan net n) a) same (plugged_task net n a actor (is.actors a actor e)))

pub plugged : (net : Net) (n : ℕ) → IsProper net → IsPlugged (plan net n)
plugged net n is a task e = plugged_at net n a task is (slice_get net.actors a) refl (sym (slice_get-map (task_of n) net.actors a) ∙ e)

-- the operations of an actor, if it is there
abbrev pub ops_in : ℕ → Option Actor → List RingOp
ops_in n None = []
ops_in n (Some actor) = actor_ops n actor

ops_among : (n : ℕ) (actors : List Actor) (a : ℕ) → get_or (map (actor_ops n) actors) a [] ≡ ops_in n (slice_get actors a)
ops_among n [] a = refl
ops_among n (actor ∷ actors) zero = refl
ops_among n (actor ∷ actors) (suc a) = ops_among n actors a

pub ops_at : (net : Net) (n a : ℕ) → (net_system net n).ops a ≡ ops_in n (slice_get net.actors a)
unfolding net_system
ops_at net n a = ops_among n net.actors a

tasks_at : (n : ℕ) (actors : List Actor) (a : ℕ) → task_ops (slice_get (map (task_of n) actors) a) ≡ get_or (map (actor_ops n) actors) a []
tasks_at n [] a = refl
tasks_at n (actor ∷ actors) zero = refl
tasks_at n (actor ∷ actors) (suc a) = tasks_at n actors a

-- the net's system is that of its plan
pub planned : (net : Net) (n : ℕ) → system (plan net n) ≡ net_system net n
unfolding net_system
planned net n = ap (λ (ops : ℕ → List RingOp). let sys : System = record { ops = ops; from = giver net; to = taker net; size = (plan net n).size } in sys) (fun_ext (tasks_at n net.actors))

pub wired : (net : Net) (n : ℕ) → IsProper net → IsWired (net_system net n)
wired net n is = subst IsWired (planned net n) (IsWired-plan (plan net n) (plugged net n is))

-- under a later horizon the actors have longer lists
pub longer_tasks : (n m : ℕ) → n ≤ m → (actors : List Actor) → AllZip IsLongerTask (map (task_of n) actors) (map (task_of m) actors)
longer_tasks n m l [] = tt
longer_tasks n m l (actor ∷ actors) = (
  record {
    form = refl;
    takes = refl;
    gives = refl;
    quota = (let e : ones_to actor.firing (n + (m - n)) ≡ ones_to actor.firing m = ap (ones_to actor.firing) (omega arith) in omega (arith, ones_to-later actor.firing n (m - n)));
  },
  longer_tasks n m l actors,
)

pub longer_planned : (net : Net) (n m : ℕ) → n ≤ m → IsLongerPlan (plan net n) (plan net m)
longer_planned net n m l = record { tasks = longer_tasks n m l net.actors; from = λ r. refl; to = λ r. refl; size = λ r. refl }

pub longer : (net : Net) (n m : ℕ) → n ≤ m → IsLonger (net_system net n) (net_system net m)
longer net n m l =
    subst (λ sys. IsLonger sys (net_system net m)) (planned net n)
    (subst (IsLonger (system (plan net n))) (planned net m) (IsLonger-plan (plan net n) (plan net m) (longer_planned net n m l)))

pub done_is : (net : Net) (n a : ℕ) → done_by net n a ≡ length (ops_in n (slice_get net.actors a))
unfolding done_by
done_is net n a = ap length (ops_at net n a)

-- all that is given and taken by a horizon
all_given : (net : Net) (n m r : ℕ) → n ≤ m → given (net_system net m) (done_by net n) r ≡ count_by (is_give r) ((net_system net n).ops (giver net r))
unfolding net_system done_by given
all_given net n m r l =
    given-longer (net_system net n) (net_system net m) (done_by net n) r (longer net n m l) (omega arith)
    ∙ ap (count_by (is_give r)) (take_all (length ((net_system net n).ops (giver net r))) ((net_system net n).ops (giver net r)) (omega arith))

all_taken : (net : Net) (n m r : ℕ) → n ≤ m → taken (net_system net m) (done_by net n) r ≡ count_by (is_take r) ((net_system net n).ops (taker net r))
unfolding net_system done_by taken
all_taken net n m r l =
    taken-longer (net_system net n) (net_system net m) (done_by net n) r (longer net n m l) (omega arith)
    ∙ ap (count_by (is_take r)) (take_all (length ((net_system net n).ops (taker net r))) ((net_system net n).ops (taker net r)) (omega arith))

-- the words of a ring count what its giver gives and what its taker takes
pub write_counts : (form : Form) (firing write : Bits) (t : ℕ) → IsWriteWord form firing write → gave_in form (ones_to firing t) ≡ ones_to write t
write_counts (Kept word) firing write t is = sym (ones_to-on firing word write t is)
write_counts form firing write t is = same_counts firing write is t

pub read_counts : (form : Form) (firing read : Bits) (j t : ℕ) → IsReadWord form firing j read → took_in form (ones_to firing t) j ≡ ones_to read t
read_counts (Merged word) firing read zero t is = sym (ones_to-on firing word read t is)
read_counts (Merged word) firing read (suc j) t is = omega (arith, ones_to-on firing is.0 read t is.2, ones_to-complement word is.0 (ones_to firing t) is.1)
read_counts form firing read j t is = same_counts firing read is t

pub given_times : (net : Net) (r a : ℕ) (ring : RingSpec) (actor : Actor) → IsProperActor net a actor → slice_get net.rings r ≡ Some ring → ring.from ≡ a → times r actor.gives ≡ 1
given_times net r a ring actor is e same =
    ap (times r) is.gives ∙ times_yes (λ s. eqb (giver net s) a) (length net.rings) r (slice_get_within net.rings r ring e) (eq-eqb (giver net r) a (from_here net r ring e ∙ same))

pub taken_times : (net : Net) (r a : ℕ) (ring : RingSpec) (actor : Actor) → IsProperActor net a actor → slice_get net.rings r ≡ Some ring → ring.to ≡ a → times r actor.takes ≡ 1
taken_times net r a ring actor is e same =
    ap (times r) is.takes ∙ times_yes (λ s. eqb (taker net s) a) (length net.rings) r (slice_get_within net.rings r ring e) (eq-eqb (taker net r) a (to_here net r ring e ∙ same))

-- a ring's counts after the first instants are those of its words, under each horizon from there on
pub given_by_word : (net : Net) (n m r : ℕ) (ring : RingSpec) → n ≤ m → IsProper net → slice_get net.rings r ≡ Some ring → given (net_system net m) (done_by net n) r ≡ ones_to ring.write n
given_by_word net n m r ring l is e =
    let here : IsProperRing net r ring = is.rings r ring e in
    let by : Actor = here.giver in
    let f : giver net r ≡ ring.from = from_here net r ring e in
    let one : times r by.gives ≡ 1 = given_times net r ring.from ring by (is.actors ring.from by here.gives_here) e refl in
    all_given net n m r l ∙ ap (λ a. count_by (is_give r) ((net_system net n).ops a)) f ∙ ap (count_by (is_give r)) (ops_at net n ring.from ∙ ap (ops_in n) here.gives_here)
    ∙ gives_in_ops (form_of by.kind) by.takes by.gives (ones_to by.firing n) r one ∙ write_counts (form_of by.kind) by.firing ring.write n here.write

pub taken_by_word : (net : Net) (n m r : ℕ) (ring : RingSpec) → n ≤ m → IsProper net → slice_get net.rings r ≡ Some ring → taken (net_system net m) (done_by net n) r ≡ ones_to ring.read n
taken_by_word net n m r ring l is e =
    let here : IsProperRing net r ring = is.rings r ring e in
    let by : Actor = here.taker in
    let actor : IsProperActor net ring.to by = is.actors ring.to by here.takes_here in
    let f : taker net r ≡ ring.to = to_here net r ring e in
    let operand = operand_of r by.takes (taken_times net r ring.to ring by actor e refl) in
    let o : IsOperand by.takes operand.0 r = operand.1 in
    all_taken net n m r l ∙ ap (λ a. count_by (is_take r) ((net_system net n).ops a)) f ∙ ap (count_by (is_take r)) (ops_at net n ring.to ∙ ap (ops_in n) here.takes_here)
    ∙ takes_in_ops (form_of by.kind) by.takes by.gives (ones_to by.firing n) operand.0 r actor.arity o
    ∙ read_counts (form_of by.kind) by.firing ring.read operand.0 n (here.read operand.0 o.there o.is)

pub gives_there : (net : Net) (a : ℕ) (actor : Actor) → IsProperActor net a actor → All (λ r. r < length net.rings) actor.gives
gives_there net a actor is = subst (All (λ r. r < length net.rings)) (sym is.gives) (where_all (λ r. r < length net.rings) (λ r. eqb (giver net r) a) (length net.rings) (λ r l y. l))

pub takes_there : (net : Net) (a : ℕ) (actor : Actor) → IsProperActor net a actor → All (λ r. r < length net.rings) actor.takes
takes_there net a actor is = subst (All (λ r. r < length net.rings)) (sym is.takes) (where_all (λ r. r < length net.rings) (λ r. eqb (taker net r) a) (length net.rings) (λ r l y. l))

actor_there : (net : Net) (n a : ℕ) → IsProper net → (o : Option Actor) → slice_get net.actors a ≡ o → All (IsOnRings (length net.rings)) (ops_in n o)
actor_there net n a is None e = All-nil (IsOnRings (length net.rings))
actor_there net n a is (Some actor) e =
    let p : IsProperActor net a actor = is.actors a actor e in
    ops_rings (length net.rings) (form_of actor.kind) actor.takes actor.gives (ones_to actor.firing n) p.arity (takes_there net a actor p) (gives_there net a actor p)

-- a ring that isn't there is never used
pub given_past : (net : Net) (n m r : ℕ) → n ≤ m → IsProper net → length net.rings ≤ r → given (net_system net m) (done_by net n) r ≡ 0
given_past net n m r l is past =
    let a : ℕ = giver net r in
    all_given net n m r l ∙ ap (count_by (is_give r)) (ops_at net n a) ∙ no_gives (length net.rings) r (ops_in n (slice_get net.actors a)) past (actor_there net n a is (slice_get net.actors a) refl)

pub taken_past : (net : Net) (n m r : ℕ) → n ≤ m → IsProper net → length net.rings ≤ r → taken (net_system net m) (done_by net n) r ≡ 0
taken_past net n m r l is past =
    let a : ℕ = taker net r in
    all_taken net n m r l ∙ ap (count_by (is_take r)) (ops_at net n a) ∙ no_takes (length net.rings) r (ops_in n (slice_get net.actors a)) past (actor_there net n a is (slice_get net.actors a) refl)

ring_in : (rings : List RingSpec) (r : ℕ) → ((ring : RingSpec) × (slice_get rings r ≡ Some ring)) ⊎ (length rings ≤ r)
ring_in [] r = inr (omega arith)
ring_in (ring ∷ rings) zero = inl (ring, refl)
ring_in (ring ∷ rings) (suc r) = elim (ring_in rings r) [ inl x ↦ inl x | inr past ↦ inr (omega arith) ]

done_listed : (net : Net) (n a : ℕ) → done_by net n a ≤ length ((net_system net n).ops a)
unfolding done_by
done_listed net n a = omega arith

done_later : (net : Net) (n m : ℕ) → n ≤ m → (a : ℕ) → done_by net n a ≤ length ((net_system net m).ops a)
unfolding done_by
done_later net n m l a = (longer net n m l).lengths a

-- a ring is there, or past the last one
pub ring_cases : (net : Net) (r : ℕ) → ((ring : RingSpec) × (slice_get net.rings r ≡ Some ring)) ⊎ (length net.rings ≤ r)
ring_cases net r = ring_in net.rings r

pub size_is : (net : Net) (n r : ℕ) (ring : RingSpec) → slice_get net.rings r ≡ Some ring → (net_system net n).size r ≡ ring.size
unfolding net_system
size_is net n r ring e = size_here net n r ring e

pub one_more : (w : Bits) (n : ℕ) → ones_to w (n + 1) ≤ ones_to w n + 1
one_more w n = (let h : one_if (bit_at w (n + 1)) ≤ 1 = elim (bit_at w (n + 1)) as (λ b. one_if b ≤ 1) [ true ↦ omega arith | false ↦ omega arith ] in omega (arith, ones_to-more w n))

-- what adaptability says of an instant
pub is_instant : (net : Net) (n : ℕ) → IsProper net → IsInstant (net_system net (n + 1)) (done_by net n) (done_by net (n + 1))
is_instant net n is = record {
  listed = λ a. done_listed net (n + 1) a;
  fits = λ r. elim (ring_cases net r) [
    | inl x ↦ omega (arith, given_by_word net n (n + 1) r x.0 (omega arith) is x.1, taken_by_word net n (n + 1) r x.0 (omega arith) is x.1, size_is net (n + 1) r x.0 x.1, (is.rings r x.0 x.1).size.passed n)
    | inr past ↦ omega (arith, given_past net n (n + 1) r (omega arith) is past)
  ];
  one = λ r. elim (ring_cases net r) [
    | inl x ↦ omega (arith, given_by_word net n (n + 1) r x.0 (omega arith) is x.1, given_by_word net (n + 1) (n + 1) r x.0 (omega arith) is x.1, one_more x.0.write n)
    | inr past ↦ omega (arith, given_past net (n + 1) (n + 1) r (omega arith) is past)
  ];
  there = λ r. elim (ring_cases net r) [
    | inl x ↦ omega (arith, given_by_word net (n + 1) (n + 1) r x.0 (omega arith) is x.1, taken_by_word net (n + 1) (n + 1) r x.0 (omega arith) is x.1, (is.rings r x.0 x.1).adaptable.1 (n + 1))
    | inr past ↦ omega (arith, taken_past net (n + 1) (n + 1) r (omega arith) is past)
  ];
}

pub within_before : (net : Net) (n m : ℕ) → n ≤ m → IsProper net → IsWithin (net_system net m) (done_by net n)
within_before net n m l is = record {
  listed = λ a. done_later net n m l a;
  behind = λ r. elim (ring_cases net r) [
    | inl x ↦ omega (arith, given_by_word net n m r x.0 l is x.1, taken_by_word net n m r x.0 l is x.1, (is.rings r x.0 x.1).adaptable.1 n)
    | inr past ↦ omega (arith, taken_past net n m r l is past)
  ];
  fits = λ r. elim (ring_cases net r) [
    | inl x ↦ omega (arith, given_by_word net n m r x.0 l is x.1, taken_by_word net n m r x.0 l is x.1, size_is net m r x.0 x.1, (is.rings r x.0 x.1).size.passed n)
    | inr past ↦ omega (arith, given_past net n m r l is past)
  ];
}

pub gives_short : (net : Net) (a : ℕ) (actor : Actor) → IsProperActor net a actor → length actor.gives ≤ length net.rings
gives_short net a actor is = subst (λ xs. length xs ≤ length net.rings) (sym is.gives) (where_length _ (length net.rings))

-- an actor of a proper net is usable
pub usable : (net : Net) (a : ℕ) (actor : Actor) → IsProper net → slice_get net.actors a ≡ Some actor → IsUsable actor
usable net a actor is e =
    let p : IsProperActor net a actor = is.actors a actor e in
    record { arity = p.arity; few = omega (arith, gives_short net a actor p, is.few_rings); gives_none = p.gives_none }

-- actors that aren't there have nothing to do
pub only_planned : (net : Net) (n : ℕ) → OnlyFirst (system (plan net n)) (length net.actors)
only_planned net n a past = ap (λ o. length (task_ops o)) (slice_get-map (task_of n) net.actors a ∙ ap (option_map (task_of n)) (slice_get_past net.actors a past))

pub only_first : (net : Net) (n : ℕ) → OnlyFirst (net_system net n) (length net.actors)
only_first net n = subst (λ sys. OnlyFirst sys (length net.actors)) (planned net n) (only_planned net n)
