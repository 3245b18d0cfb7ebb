-- No item that a whole run gives reaches itself: it stands in an iterate (Kahn 1974).
use Rattle.std.proofs.Common.{ℕ, suc, zero, ◌+◌, ◌*◌, ◌<◌, ◌≤◌, ◌≡◌, List, [], ◌∷◌, map, length, ap, sym, refl, ◌∙◌, subst, inl, inr, arith}
use Rattle.std.specs.Prelude.{ℤ, pos, Option, Some, None, slice_get, replicate}
use Rattle.std.specs.Option.{option_map}
use Rattle.std.proofs.lemmas.List.{length-map, length-replicate, get_or-replicate}
use Rattle.std.proofs.lemmas.List.Elements.{All-get_or}
use Rattle.std.proofs.lemmas.Option.{slice_get_within, slice_get-map, get_or_from_slice_get}
use Rattle.lucy_word.specs.Bits.{ones_to}
use Rattle.lucy_word.proofs.BitsLaws.{ones_to-le}
use Rattle.lucy_stream.specs.Items.{list_at}
use Rattle.lucy_stream.specs.Iterates.{Place, iterate}
use Rattle.lucy_stream.specs.Firings.{gave_in}
use Rattle.lucy_stream.specs.Needs.{StreamItem, Needs, IsWalk, ReachesItself}
use Rattle.lucy_stream.proofs.NeedLaws.{no_cycle}
use Rattle.lucy_stream.specs.Runs.{IsWhole}
use Rattle.lucy_stream.specs.Plans.{Task, times, HasInput, IsFed, QuotasWithin, GiveBelow, IsRunnable, place_of, places_of}
use Rattle.lucy_stream.proofs.KahnLaws.{kahn_whole}
use Rattle.lucy_net.specs.declared.net.Net.{Net}
use Rattle.lucy_net.specs.declared.net.Actor.{Actor}
use Rattle.lucy_net.specs.declared.net.RingSpec.{RingSpec}
use Rattle.lucy_net.specs.declared.kind.ActorKind.{ActorKind}
use Rattle.lucy_net.specs.declared.kind.ActorKind.TheVariants.{Input, Lit, Op, Host, When, Merge, Fby, Pass, Output}
use Rattle.lucy_net.specs.Plans.{form_of, task_of, giver, plan, net_system}
use Rattle.lucy_net.specs.Proper.{IsProper, IsProperRing, IsSupplied}
use Rattle.lucy_net.specs.Causal.{actor_place, net_places, items_by}
use Rattle.lucy_net.proofs.NetLaws.{task_at, planned, plugged, ring_cases, from_here, given_times, takes_there}

-- the places of the plan are those of the net
places_at : (net : Net) (n : ℕ) (actors : List Actor) → map (place_of (plan net n)) (map (task_of n) actors) ≡ map (actor_place net) actors
places_at net n [] = refl
places_at net n (actor ∷ actors) = ap (λ ps. actor_place net actor ∷ ps) (places_at net n actors)

pub same_places : (net : Net) (n : ℕ) → places_of (plan net n) ≡ net_places net
same_places net n = places_at net n net.actors

task_from : (net : Net) (n a : ℕ) (task : Task) (P : Task → Type 0) → ((actor : Actor) → slice_get net.actors a ≡ Some actor → P (task_of n actor)) → (o : Option Actor) → slice_get net.actors a ≡ o → option_map (task_of n) o ≡ Some task → P task
task_from net n a task P h None e f = absurd (cc)
task_from net n a task P h (Some actor) e f = (let same : task_of n actor ≡ task = cc in subst P same (h actor e))

pub quotas : (net : Net) (n : ℕ) → QuotasWithin (plan net n) n
quotas net n a task e = task_from net n a task (λ (t : Task). t.quota ≤ n) (λ actor x. ones_to-le actor.firing n) (slice_get net.actors a) refl (sym (slice_get-map (task_of n) net.actors a) ∙ e)

pub below : (net : Net) (n : ℕ) → GiveBelow (plan net n) (length net.actors)
below net n a task e l = absurd (omega (arith, slice_get_within (plan net n).tasks a task e, length-map net.actors (task_of n)))

pub fed : (inputs : List (List ℤ)) (net : Net) (n : ℕ) → IsSupplied inputs net n → IsFed inputs (plan net n)
fed inputs net n supplied a task e = task_from net n a task (λ (t : Task). HasInput inputs t.form t.quota) (λ actor x. supplied a actor x) (slice_get net.actors a) refl (sym (slice_get-map (task_of n) net.actors a) ∙ e)

pub runnable : (inputs : List (List ℤ)) (net : Net) (n : ℕ) → IsProper net → IsSupplied inputs net n → IsRunnable inputs (plan net n) (length net.actors) n
runnable inputs net n is supplied = record { plugged = plugged net n is; fed = fed inputs net n supplied; give_below = below net n; quotas = quotas net n }

-- inputs that have so many items each, for all actors
input_bound : ActorKind → ℕ
input_bound (Input input) = input + 1
input_bound kind = 0

inputs_bound : List Actor → ℕ
inputs_bound [] = 0
inputs_bound (actor ∷ actors) = input_bound actor.kind + inputs_bound actors

bound_le : (actors : List Actor) (a : ℕ) (actor : Actor) → slice_get actors a ≡ Some actor → input_bound actor.kind ≤ inputs_bound actors
unfolding inputs_bound
bound_le [] a actor e = cc
bound_le (x ∷ actors) zero actor e = (let same : x ≡ actor = cc in omega (arith, ap (λ (y : Actor). input_bound y.kind) same))
bound_le (x ∷ actors) (suc a) actor e = omega (arith, bound_le actors a actor e)

full : List Actor → ℕ → List (List ℤ)
full actors n = replicate (inputs_bound actors) (replicate n (pos 0))

has_input : (actors : List Actor) (n quota : ℕ) (kind : ActorKind) → input_bound kind ≤ inputs_bound actors → quota ≤ n → HasInput (full actors n) (form_of kind) quota
unfolding full input_bound
has_input actors n quota (Input input) b l =
    let same : list_at (replicate (inputs_bound actors) (replicate n (pos 0))) input ≡ replicate n (pos 0) = get_or-replicate (inputs_bound actors) input (replicate n (pos 0)) [] (omega arith) in
    omega (arith, ap length same, length-replicate n (pos 0))
has_input actors n quota (Lit v) b l = tt
has_input actors n quota (Op op) b l = tt
has_input actors n quota (Host op) b l = tt
has_input actors n quota (When word) b l = tt
has_input actors n quota (Merge word) b l = tt
has_input actors n quota (Fby v) b l = tt
has_input actors n quota Pass b l = tt
has_input actors n quota (Output o) b l = tt

full_supplies : (net : Net) (n : ℕ) → IsSupplied (full net.actors n) net n
full_supplies net n a actor x = has_input net.actors n (ones_to actor.firing n) actor.kind (bound_le net.actors a actor x) (ones_to-le actor.firing n)

-- the ring on which an item is given that another one depends on
pub record IsRead (net : Net) (a : ℕ) : Type 0 where
  pub r : ℕ
  pub ring : RingSpec
  pub there : slice_get net.rings r ≡ Some ring
  pub from : ring.from ≡ a

read_at : (net : Net) (xs : List ℕ) (j a : ℕ) → slice_get (map (giver net) xs) j ≡ Some a → (r : ℕ) × (slice_get xs j ≡ Some r) × (giver net r ≡ a)
read_at net [] j a e = cc
read_at net (x ∷ xs) zero a e = (x, refl, (cc))
read_at net (x ∷ xs) (suc j) a e = read_at net xs j a e

actor_from : (net : Net) (actors : List Actor) (i : ℕ) (place : Place) → slice_get (map (actor_place net) actors) i ≡ Some place → (actor : Actor) × (slice_get actors i ≡ Some actor) × (actor_place net actor ≡ place)
actor_from net [] i place e = cc
actor_from net (x ∷ actors) zero place e = (x, refl, (cc))
actor_from net (x ∷ actors) (suc i) place e = actor_from net actors i place e

pub needed_is_read : (net : Net) (x y : StreamItem) → IsProper net → Needs (net_places net) x y → IsRead net y.place
needed_is_read net x y is need =
    let found = actor_from net net.actors x.place need.place need.there in
    let actor : Actor = found.0 in
    let reads : slice_get (map (giver net) actor.takes) need.operand ≡ Some y.place = ap (λ (p : Place). slice_get p.reads need.operand) found.2 ∙ need.reads in
    let at = read_at net actor.takes need.operand y.place reads in
    let r : ℕ = at.0 in
    let inside : r < length net.rings =
    subst (λ (s : ℕ). s < length net.rings) (get_or_from_slice_get actor.takes need.operand r 0 at.1)
    (All-get_or (λ s. s < length net.rings) actor.takes need.operand 0 (slice_get_within actor.takes need.operand r at.1) (takes_there net x.place actor (is.actors x.place actor found.1))) in
    elim (ring_cases net r) [
      | inr past ↦ absurd (omega arith)
      | inl ring ↦ record { r = r; ring = ring.0; there = ring.1; from = sym (from_here net r ring.0 ring.1) ∙ at.2 }
    ]

-- the last step of a walk
last_step : (places : List Place) (x end : StreamItem) (walk : List StreamItem) → IsWalk places x walk end → (z : StreamItem) × Needs places z end
last_step places x end [] w = (x, w)
last_step places x end (y ∷ walk) w = last_step places y end walk w.1

-- so an item that reaches itself is given on a ring
pub reached_is_read : (net : Net) (x : StreamItem) → IsProper net → ReachesItself (net_places net) x → IsRead net x.place
reached_is_read net x is reaches = (let last = last_step (net_places net) x x reaches.0 reaches.1 in needed_is_read net last.0 x is last.1)

pub no_cycle_by : (net : Net) (n : ℕ) (order : List ℕ) (x : StreamItem) → IsProper net → IsWhole (net_system net n) order → 1 ≤ x.number → x.number ≤ items_by (slice_get net.actors x.place) n → ReachesItself (net_places net) x → ⊥
no_cycle_by net n order x is whole one by reaches =
    let inputs : List (List ℤ) = full net.actors n in
    let turns : ℕ = length net.actors * n in
    let read : IsRead net x.place = reached_is_read net x is reaches in
    let r : ℕ = read.r in
    let here : IsProperRing net r read.ring = is.rings r read.ring read.there in
    let actor : Actor = here.giver in
    let source : giver net r ≡ x.place = from_here net r read.ring read.there ∙ read.from in
    let at : slice_get net.actors x.place ≡ Some actor = ap (slice_get net.actors) (sym read.from) ∙ here.gives_here in
    let task : slice_get (plan net n).tasks ((plan net n).from r) ≡ Some (task_of n actor) = ap (slice_get (plan net n).tasks) source ∙ task_at net n x.place actor at in
    let once : times r actor.gives ≡ 1 = given_times net r x.place read.ring actor (is.actors x.place actor at) read.there read.from in
    let enough = kahn_whole [] inputs (plan net n) (length net.actors) n order (runnable inputs net n is (full_supplies net n)) (subst (λ sys. IsWhole sys order) (sym (planned net n)) whole) r (task_of n actor) task once in
    let places : list_at (iterate [] inputs (places_of (plan net n)) turns) ((plan net n).from r) ≡ list_at (iterate [] inputs (net_places net) turns) x.place =
    ap (list_at (iterate [] inputs (places_of (plan net n)) turns)) source ∙ ap (λ ps. list_at (iterate [] inputs ps turns) x.place) (same_places net n) in
    let items : items_by (slice_get net.actors x.place) n ≡ gave_in (form_of actor.kind) (ones_to actor.firing n) = ap (λ o. items_by o n) at in
    no_cycle [] inputs (net_places net) turns x one (omega (arith, enough.1, ap length places)) reaches
