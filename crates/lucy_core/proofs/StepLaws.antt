-- What the code keeps after an event.
use Rattle.std.proofs.Common.{ℕ, ◌+◌, ◌<◌, ◌≤◌, ◌≡◌, Bool, true, false, List, [], ◌∷◌, ◌++◌, map, length, get_or, set, ap, sym, refl, ◌∙◌, subst, inl, inr, arith}
use Rattle.std.specs.Prelude.{ℤ, pos, ◌^◌, ◌-◌, not, IsTrue, Option, Some, None, slice_get, slice_index}
use Rattle.std.proofs.lemmas.Bool.{cases_eq, cases_lt}
use Rattle.std.proofs.lemmas.Option.{slice_get-get_or, get_or_from_slice_get, slice_get_within, slice_get_past, slice_get_read}
use Rattle.std.proofs.lemmas.List.{length-set}
use Rattle.std.proofs.lemmas.List.Elements.{All-get_or}
use Rattle.lucy_word.specs.Bits.{ones_to}
use Rattle.lucy_word.proofs.Lists.{get_set_same}
use Rattle.lucy_host.specs.declared.kind.HostKind.{HostKind}
use Rattle.lucy_stream.specs.Items.{item_at}
use Rattle.lucy_stream.specs.Forms.{Form, Same, operands}
use Rattle.lucy_stream.specs.Firings.{took_in}
use Rattle.lucy_stream.specs.Systems.{RingOp, Takes, Gives, op_at, given, taken}
use Rattle.lucy_stream.specs.Runs.{IsPossible}
use Rattle.lucy_stream.specs.States.{Machine, held, IsState}
use Rattle.lucy_stream.specs.Operations.{firing_ops}
use Rattle.lucy_stream.specs.Plans.{IsOperand, HasInput}
use Rattle.lucy_stream.proofs.CountLaws.{step-same, step-other, given-same, taken-same}
use Rattle.lucy_stream.proofs.StateLaws.{held-count}
use Rattle.lucy_stream.proofs.CoverLaws.{once_at}
use Rattle.lucy_net.specs.declared.firing.Move.{Move}
use Rattle.lucy_net.specs.declared.firing.Move.TheVariants.{Take, Give, Done}
use Rattle.lucy_net.specs.declared.kind.ActorKind.{ActorKind}
use Rattle.lucy_net.specs.declared.kind.ActorKind.TheVariants.{Input, Lit, Op, Host, When, Merge, Fby, Pass, Output}
use Rattle.lucy_net.specs.declared.net.Actor.{Actor}
use Rattle.lucy_net.specs.declared.net.Net.{Net}
use Rattle.lucy_net.specs.declared.state.ActorState.{ActorState}
use Rattle.lucy_net.specs.Plans.{form_of, actor_ops}
use Rattle.lucy_net.specs.Moves.{move_of}
use Rattle.lucy_net.specs.States.{IsActorState, IsNext, operand_at, took_more, HasItem, ReadsInput}
use Rattle.lucy_net.proofs.FiringLaws.{take_operand}
use Rattle.lucy_net.proofs.StateLaws.{planned_is}
use Rattle.lucy_net.specs.Proper.{IsProper}
use Rattle.lucy_net.proofs.NetLaws.{gives_there, takes_there, ring_cases}
use Rattle.lucy_net.proofs.OperandLaws.{operand_ring}
use Rattle.lucy_stream.specs.Operations.{IsOnRings}
use Rattle.lucy_stream.proofs.OperationLaws.{firing_rings}
use Rattle.lucy_core.specs.Circles.{HeldItems}
use Rattle.lucy_core.specs.Seen.{done_of, state_on, one_more, first_ring}
use Rattle.lucy_core.specs.Inside.{no_held, put_out, HasTray, KeepsState}
use Rattle.lucy_core.proofs.ListLaws.{get_set_other, some_same, one_more_done, map_same, all_of, map_more}
use Rattle.lucy_core.proofs.CountingLaws.{done_few}
use Rattle.lucy_core.proofs.SeenLaws.{IsMachineOf, state_is, state_done, next_within, TookFrom, GaveTo, took_from, gave_to, took_room}

-- a move and its operation
pub move_take : (o : Option RingOp) (r : ℕ) → Take r ≡ move_of o → o ≡ Some (Takes r)
move_take None r e = cc
move_take (Some (Takes q)) r e = (let same : r ≡ q = cc in ap (λ x. Some (Takes x)) (sym same))
move_take (Some (Gives q)) r e = cc

pub move_give : (o : Option RingOp) (r : ℕ) → Give r ≡ move_of o → o ≡ Some (Gives r)
move_give None r e = cc
move_give (Some (Takes q)) r e = cc
move_give (Some (Gives q)) r e = (let same : r ≡ q = cc in ap (λ x. Some (Gives x)) (sym same))

pub move_done : (o : Option RingOp) → Done ≡ move_of o → o ≡ None
move_done None e = refl
move_done (Some (Takes q)) e = cc
move_done (Some (Gives q)) e = cc

-- the operation of a move
pub take_at : (ops : List RingOp) (n r : ℕ) → Take r ≡ move_of (slice_get ops n) → get_or ops n (Takes 0) ≡ Takes r
take_at ops n r e = get_or_from_slice_get ops n (Takes r) (Takes 0) (move_take (slice_get ops n) r e)

pub give_at : (ops : List RingOp) (n r : ℕ) → Give r ≡ move_of (slice_get ops n) → get_or ops n (Takes 0) ≡ Gives r
give_at ops n r e = get_or_from_slice_get ops n (Gives r) (Takes 0) (move_give (slice_get ops n) r e)

none_some : (o : Option RingOp) (x : RingOp) → o ≡ None → o ≡ Some x → ⊥
none_some o x e f = cc

from_not : (b : Bool) → IsTrue (not b) → IsTrue b → ⊥
from_not true h k = cc
from_not false h k = cc

to_not : (b : Bool) → (IsTrue b → ⊥) → IsTrue (not b)
to_not true h = absurd (h refl)
to_not false h = refl

-- an input has an item for its next firing
pub has_item : (what : ActorKind) (inputs : List (List ℤ)) (items : List ℤ) (quota fired : ℕ) → HasInput inputs (form_of what) quota → ReadsInput what inputs items → fired < quota → HasItem what fired items
has_item (Input n) inputs items quota fired has reads l = omega (arith, ap length reads)
has_item (Host n) inputs items quota fired has reads l = tt
has_item (Lit n) inputs items quota fired has reads l = tt
has_item (Op n) inputs items quota fired has reads l = tt
has_item (When n) inputs items quota fired has reads l = tt
has_item (Merge n) inputs items quota fired has reads l = tt
has_item (Fby n) inputs items quota fired has reads l = tt
has_item Pass inputs items quota fired has reads l = tt
has_item (Output n) inputs items quota fired has reads l = tt

-- another tray than that into which an item is put
put_other : (what : ActorKind) (trays : List HeldItems) (v : ℤ) (number : ℕ) → ((n : ℕ) → what ≡ Output n → n ≡ number → ⊥) → slice_get (put_out what trays v) number ≡ slice_get trays number
put_other (Output n) trays v number ne = get_set_other trays n number (record { items = (get_or trays n no_held).items ++ v ∷ []; room = (get_or trays n no_held).room }) (ne n refl)
put_other (Input n) trays v number ne = refl
put_other (Lit n) trays v number ne = refl
put_other (Op n) trays v number ne = refl
put_other (Host n) trays v number ne = refl
put_other (When n) trays v number ne = refl
put_other (Merge n) trays v number ne = refl
put_other (Fby n) trays v number ne = refl
put_other Pass trays v number ne = refl

put_length : (what : ActorKind) (trays : List HeldItems) (v : ℤ) → length (put_out what trays v) ≡ length trays
put_length (Output n) trays v = length-set trays n (record { items = (get_or trays n no_held).items ++ v ∷ []; room = (get_or trays n no_held).room })
put_length (Input n) trays v = refl
put_length (Lit n) trays v = refl
put_length (Op n) trays v = refl
put_length (Host n) trays v = refl
put_length (When n) trays v = refl
put_length (Merge n) trays v = refl
put_length (Fby n) trays v = refl
put_length Pass trays v = refl

-- a tray with its items and room in other words
tray_like : (trays others : List HeldItems) (number most : ℕ) (items same : List ℤ) → length others ≡ length trays → slice_get others number ≡ slice_get trays number → items ≡ same → HasTray trays number items most → HasTray others number same most
tray_like trays others number most items same l e f has = record {
  there = omega (arith, has.there);
  items_are = λ t g. has.items_are t (sym e ∙ g) ∙ f;
  room = λ t g. has.room t (sym e ∙ g);
}

tray_more : (trays : List HeldItems) (number most : ℕ) (items : List ℤ) (v : ℤ) → HasTray trays number items most → HasTray (put_out (Output number) trays v) number (items ++ v ∷ []) most
tray_more trays number most items v has =
    let old : HeldItems = get_or trays number no_held in
    let new : HeldItems = record { items = old.items ++ v ∷ []; room = old.room } in
    let at : slice_get trays number ≡ Some old = slice_get-get_or trays number no_held has.there in
    record {
      there = omega (arith, has.there, length-set trays number new);
      items_are = λ t g. ap (λ (h : HeldItems). h.items) (get_set_same trays number new t g) ∙ ap (λ xs. xs ++ v ∷ []) (has.items_are old at);
      room = λ t g. omega (arith, has.room old at, ap (λ (h : HeldItems). h.room) (get_set_same trays number new t g));
    }

same_form : (actor : Actor) (number : ℕ) → actor.kind ≡ Output number → form_of actor.kind ≡ Same
same_form actor number e = ap form_of e

pub no_state : ActorState
no_state = record { quota = 0; fired = 0; step = 0; cursor = 0; a = pos 0; b = pos 0; c = pos 0; kept = pos 0 }

module _ (net : Net) (m : Machine) (order : List ℕ) (inputs : List (List ℤ)) (kinds : List HostKind) (instants : ℕ) (done : List ℕ) (states : List ActorState) (circles trays : List HeldItems)
    (is : IsMachineOf net m order inputs kinds instants) (kept : KeepsState net m order instants done states circles trays) where
  pub here : IsState m (state_on m order done)
  here = state_is m order done is.wired is.local is.whole kept.within

  -- how many slots a circle has
  pub room_is : (r : ℕ) (circle : HeldItems) → r < length net.rings → slice_get circles r ≡ Some circle → circle.room ≡ m.sys.size r + 1
  room_is r circle l f = elim (ring_cases net r) [
    | inl at ↦ omega (arith, kept.rooms r at.0 circle at.1 f, is.sizes r at.0 at.1)
    | inr past ↦ absurd (omega arith)
  ]

  -- what a ring holds, by the counts
  pub holds : (r : ℕ) → taken m.sys (done_of done) r + length (held (state_on m order done) r) ≡ given m.sys (done_of done) r
  holds r =
      let counts : (b : ℕ) → (state_on m order done).done b ≡ done_of done b = λ b. state_done m order done b is.wired is.whole kept.within in
      omega (arith, held-count m (state_on m order done) r here, given-same m.sys (state_on m order done).done (done_of done) r counts, taken-same m.sys (state_on m order done).done (done_of done) r counts)

  -- the actor of an operation
  pub actor_of : (a : ℕ) (op : RingOp) → slice_get (m.sys.ops a) (done_of done a) ≡ Some op → (o : Option Actor) → slice_get net.actors a ≡ o → (actor : Actor) × (slice_get net.actors a ≡ Some actor)
  actor_of a op e None none = absurd (none_some (slice_get (m.sys.ops a) (done_of done a)) op (ap (λ ops. slice_get ops (done_of done a)) (is.ops_none a none)) e)
  actor_of a op e (Some actor) there = (actor, there)

  pub op_is : (a : ℕ) (op : RingOp) → slice_get (m.sys.ops a) (done_of done a) ≡ Some op → op_at m.sys a (done_of done a) ≡ op
  op_is a op e = get_or_from_slice_get (m.sys.ops a) (done_of done a) op (Takes 0) e

  pub op_there : (a : ℕ) (op : RingOp) → op_at m.sys a (done_of done a) ≡ op → done_of done a < length (m.sys.ops a) → slice_get (m.sys.ops a) (done_of done a) ≡ Some op
  op_there a op e l = slice_get-get_or (m.sys.ops a) (done_of done a) (Takes 0) l ∙ ap (λ (o : RingOp). Some o) e

  -- when an operation is possible
  pub can_take : (a r : ℕ) → slice_get (m.sys.ops a) (done_of done a) ≡ Some (Takes r) → 0 < length (held (state_on m order done) r) → IsPossible m.sys (done_of done) a
  can_take a r e some = record {
    left = slice_get_within (m.sys.ops a) (done_of done a) (Takes r) e;
    item_held = λ q op. (let same : Takes r ≡ Takes q = sym (op_is a (Takes r) e) ∙ op in let ring : r ≡ q = cc in subst (λ (x : ℕ). taken m.sys (done_of done) x < given m.sys (done_of done) x) ring (omega (arith, holds r)));
    room_left = λ q op. (let bad : Takes r ≡ Gives q = sym (op_is a (Takes r) e) ∙ op in absurd (cc));
  }

  pub can_give : (a r : ℕ) → slice_get (m.sys.ops a) (done_of done a) ≡ Some (Gives r) → length (held (state_on m order done) r) ≤ m.sys.size r → IsPossible m.sys (done_of done) a
  can_give a r e room = record {
    left = slice_get_within (m.sys.ops a) (done_of done a) (Gives r) e;
    item_held = λ q op. (let bad : Gives r ≡ Takes q = sym (op_is a (Gives r) e) ∙ op in absurd (cc));
    room_left = λ q op. (let same : Gives r ≡ Gives q = sym (op_is a (Gives r) e) ∙ op in let ring : r ≡ q = cc in subst (λ (x : ℕ). given m.sys (done_of done) x ≤ taken m.sys (done_of done) x + m.sys.size x) ring (omega (arith, holds r)));
  }

  pub took_some : (a r : ℕ) → op_at m.sys a (done_of done a) ≡ Takes r → IsPossible m.sys (done_of done) a → 0 < length (held (state_on m order done) r)
  took_some a r op can = omega (arith, holds r, can.item_held r op)

  pub gave_room : (a r : ℕ) → op_at m.sys a (done_of done a) ≡ Gives r → IsPossible m.sys (done_of done) a → length (held (state_on m order done) r) ≤ m.sys.size r
  gave_room a r op can = omega (arith, holds r, can.room_left r op)

  -- the operation of an actor that is there, in its firing
  pub firing_here : (a : ℕ) (actor : Actor) (s : ActorState) (op : RingOp) → slice_get net.actors a ≡ Some actor → slice_get states a ≡ Some s → slice_get (m.sys.ops a) (done_of done a) ≡ Some op → IsNext actor s op
  firing_here a actor s op e f h =
      planned_is actor instants (done_of done a) (map (state_on m order done).took actor.takes) s op (kept.actors a actor s e f) (ap (λ ops. slice_get ops (done_of done a)) (sym (is.ops a actor e)) ∙ h)

  -- what an actor does next
  pub next_at : (a : ℕ) (actor : Actor) (s : ActorState) (move : Move) → slice_get net.actors a ≡ Some actor → slice_get states a ≡ Some s →
      ((i n : ℕ) (took : List (List ℤ)) → IsActorState actor i n took s → move ≡ move_of (slice_get (actor_ops i actor) n)) → move ≡ move_of (slice_get (m.sys.ops a) (done_of done a))
  next_at a actor s move e f h =
      h instants (done_of done a) (map (state_on m order done).took actor.takes) (kept.actors a actor s e f) ∙ ap (λ ops. move_of (slice_get ops (done_of done a))) (sym (is.ops a actor e))

  pub next_past : (a : ℕ) → length net.actors ≤ a → Done ≡ move_of (slice_get (m.sys.ops a) (done_of done a))
  next_past a l = ap (λ ops. move_of (slice_get ops (done_of done a))) (sym (is.ops_none a (slice_get_past net.actors a l)))

  -- what the code reads in its lists
  pub actor_read : (list : List Actor) (a : ℕ) (actor : Actor) → list ≡ net.actors → a < length net.actors → actor ≡ get_or list a actor → slice_get net.actors a ≡ Some actor
  actor_read list a actor same l e = slice_get_read net.actors (length net.actors) a actor refl l (e ∙ ap (λ xs. get_or xs a actor) same)

  pub state_read : (a : ℕ) (s : ActorState) → a < length net.actors → s ≡ get_or states a s → slice_get states a ≡ Some s
  state_read a s l e = slice_get_read states (length states) a s refl (omega (arith, kept.states_count)) e

  pub state_of_actor : (a : ℕ) → a < length net.actors → slice_get states a ≡ Some (get_or states a no_state)
  state_of_actor a l = slice_get-get_or states a no_state (omega (arith, kept.states_count))

  pub circle_read : (r : ℕ) (circle : HeldItems) → r < length net.rings → circle ≡ get_or circles r circle → slice_get circles r ≡ Some circle
  circle_read r circle l e = slice_get_read circles (length circles) r circle refl (omega (arith, kept.circles_count)) e

  -- the ring of an operation is there
  pub ring_there : (a : ℕ) (op : RingOp) → slice_get (m.sys.ops a) (done_of done a) ≡ Some op → IsProper net → IsOnRings (length net.rings) op
  ring_there a op e proper =
      let there = actor_of a op e (slice_get net.actors a) refl in
      let inside : a < length net.actors = slice_get_within net.actors a there.0 there.1 in
      let state : slice_get states a ≡ Some (get_or states a no_state) = slice_get-get_or states a no_state (omega (arith, kept.states_count)) in
      let at : IsNext there.0 (get_or states a no_state) op = firing_here a there.0 (get_or states a no_state) op there.1 state e in
      let actor = proper.actors a there.0 there.1 in
      let ops : List RingOp = firing_ops (form_of there.0.kind) there.0.takes there.0.gives (get_or states a no_state).fired in
      let l : (get_or states a no_state).step < length ops = slice_get_within ops (get_or states a no_state).step op at.is in
      subst (IsOnRings (length net.rings)) (get_or_from_slice_get ops (get_or states a no_state).step op op at.is)
      (All-get_or (IsOnRings (length net.rings)) ops (get_or states a no_state).step op l
      (firing_rings (length net.rings) (form_of there.0.kind) there.0.takes there.0.gives (get_or states a no_state).fired actor.arity (takes_there net a there.0 actor) (gives_there net a there.0 actor)))

  pub actor_inside : (a : ℕ) → IsPossible m.sys (done_of done) a → a < length net.actors
  actor_inside a can = (let there = actor_of a (op_at m.sys a (done_of done a)) (op_there a (op_at m.sys a (done_of done a)) refl can.left) (slice_get net.actors a) refl in slice_get_within net.actors a there.0 there.1)

  pub ring_inside : (a : ℕ) (op : RingOp) → IsPossible m.sys (done_of done) a → op_at m.sys a (done_of done a) ≡ op → IsProper net → IsOnRings (length net.rings) op
  ring_inside a op can e proper = ring_there a op (op_there a op e can.left) proper

  pub take_there : (a r : ℕ) → Take r ≡ move_of (slice_get (m.sys.ops a) (done_of done a)) → IsProper net → r < length net.rings
  take_there a r e proper = ring_there a (Takes r) (move_take (slice_get (m.sys.ops a) (done_of done a)) r e) proper

  pub give_there : (a r : ℕ) → Give r ≡ move_of (slice_get (m.sys.ops a) (done_of done a)) → IsProper net → r < length net.rings
  give_there a r e proper = ring_there a (Gives r) (move_give (slice_get (m.sys.ops a) (done_of done a)) r e) proper

  -- the circle says whether the operation is possible
  pub can_when_some : (a r : ℕ) (circle : HeldItems) (b : Bool) → Take r ≡ move_of (slice_get (m.sys.ops a) (done_of done a)) → slice_get circles r ≡ Some circle →
      ((IsTrue b → length circle.items ≡ 0) × (length circle.items ≡ 0 → IsTrue b)) → (IsTrue (not b) → IsPossible m.sys (done_of done) a) × (IsPossible m.sys (done_of done) a → IsTrue (not b))
  can_when_some a r circle b e f empty =
      let op : slice_get (m.sys.ops a) (done_of done a) ≡ Some (Takes r) = move_take (slice_get (m.sys.ops a) (done_of done a)) r e in
      let items : length circle.items ≡ length (held (state_on m order done) r) = ap length (kept.circles_hold r circle f) in (
        λ h. can_take a r op (elim (cases_eq (length circle.items) 0) [ inl z ↦ absurd (from_not b h (empty.1 z)) | inr ne ↦ omega (arith, ne, items) ]),
        λ can. to_not b (λ t. absurd (omega (arith, empty.0 t, took_some a r (op_is a (Takes r) op) can))),
      )

  pub can_when_room : (a r : ℕ) (circle : HeldItems) (b : Bool) → Give r ≡ move_of (slice_get (m.sys.ops a) (done_of done a)) → r < length net.rings → slice_get circles r ≡ Some circle →
      ((IsTrue b → circle.room ≤ length circle.items) × (circle.room ≤ length circle.items → IsTrue b)) → (IsTrue (not b) → IsPossible m.sys (done_of done) a) × (IsPossible m.sys (done_of done) a → IsTrue (not b))
  can_when_room a r circle b e l f full =
      let op : slice_get (m.sys.ops a) (done_of done a) ≡ Some (Gives r) = move_give (slice_get (m.sys.ops a) (done_of done a)) r e in
      let items : length circle.items ≡ length (held (state_on m order done) r) = ap length (kept.circles_hold r circle f) in
      let room : circle.room ≡ m.sys.size r + 1 = room_is r circle l f in (
        λ h. can_give a r op (elim (cases_lt (length circle.items) circle.room) [ inl some ↦ omega arith | inr none ↦ absurd (from_not b h (full.1 none)) ]),
        λ can. to_not b (λ t. absurd (omega (arith, full.0 t, gave_room a r (op_is a (Gives r) op) can))),
      )

  pub can_never : (a : ℕ) → Done ≡ move_of (slice_get (m.sys.ops a) (done_of done a)) → IsPossible m.sys (done_of done) a → ⊥
  can_never a e can =
      none_some (slice_get (m.sys.ops a) (done_of done a)) (op_at m.sys a (done_of done a)) (move_done (slice_get (m.sys.ops a) (done_of done a)) e) (op_there a (op_at m.sys a (done_of done a)) refl can.left)

  -- the counts of an actor that can step
  pub count_few : (a : ℕ) (actor : Actor) → slice_get net.actors a ≡ Some actor → instants ≤ 1048576 → IsPossible m.sys (done_of done) a → slice_index done a < 2 ^ 64 - 1
  unfolding done_of
  count_few a actor e early can = done_few actor instants (slice_index done a) (is.usable a actor e) early (omega (arith, can.left, ap length (is.ops a actor e)))

  -- a state that stays
  stays : (a b : ℕ) (actor : Actor) (s : ActorState) → a < length done → (a ≡ b → ⊥) → slice_get net.actors b ≡ Some actor → slice_get states b ≡ Some s →
      map (state_on m order (one_more done a)).took actor.takes ≡ map (state_on m order done).took actor.takes →
      IsActorState actor instants (done_of (one_more done a) b) (map (state_on m order (one_more done a)).took actor.takes) s
  stays a b actor s l ne e f same =
      let count : done_of (one_more done a) b ≡ done_of done b = one_more_done done a b l ∙ step-other (done_of done) a b ne in
      subst (λ (n : ℕ). IsActorState actor instants n (map (state_on m order (one_more done a)).took actor.takes) s) (sym count)
      (subst (λ (xs : List (List ℤ)). IsActorState actor instants (done_of done b) xs s) (sym same) (kept.actors b actor s e f))

  -- another actor's lists, after a take
  other_took : (a b r : ℕ) (actor : Actor) → (a ≡ b → ⊥) → slice_get net.actors b ≡ Some actor → m.sys.to r ≡ a → TookFrom (state_on m order done) (state_on m order (one_more done a)) r →
      map (state_on m order (one_more done a)).took actor.takes ≡ map (state_on m order done).took actor.takes
  other_took a b r actor ne e own from =
      map_same (state_on m order (one_more done a)).took (state_on m order done).took actor.takes
      (all_of (λ q. (state_on m order (one_more done a)).took q ≡ (state_on m order done).took q) actor.takes (λ i l.
      from.took_other (get_or actor.takes i 0) (λ (same : r ≡ get_or actor.takes i 0). ne (sym own ∙ ap m.sys.to same ∙ All-get_or (λ q. m.sys.to q ≡ b) actor.takes i 0 l (is.takers b actor e)))))

  -- the actor's state, after it took
  pub took_state : (a r : ℕ) (actor : Actor) (s t : ActorState) (v : ℤ) → a < length done → slice_get net.actors a ≡ Some actor → slice_get states a ≡ Some s → IsNext actor s (Takes r) →
      TookFrom (state_on m order done) (state_on m order (one_more done a)) r → v ≡ item_at (held (state_on m order done) r) 0 →
      IsActorState actor instants (done_of done a + 1) (took_more (map (state_on m order done).took actor.takes) (operand_at (form_of actor.kind) s.fired s.step) v) t →
      IsActorState actor instants (done_of (one_more done a) a) (map (state_on m order (one_more done a)).took actor.takes) t
  took_state a r actor s t v l e f at from item after =
      let j : ℕ = operand_at (form_of actor.kind) s.fired s.step in
      let arity : length actor.takes ≡ operands (form_of actor.kind) = (is.usable a actor e).arity in
      let inside : j < length actor.takes = omega (arith, arity, take_operand (form_of actor.kind) actor.takes actor.gives s.fired s.step r arity at.is) in
      let ring : get_or actor.takes j 0 ≡ r = operand_ring (form_of actor.kind) actor.takes actor.gives s.fired s.step r arity at.is in
      let lists : map (state_on m order (one_more done a)).took actor.takes ≡ took_more (map (state_on m order done).took actor.takes) j v =
      map_more (state_on m order done).took (state_on m order (one_more done a)).took actor.takes j r v inside ring (is.once a actor e r)
      (from.took ∙ ap (λ x. (state_on m order done).took r ++ x ∷ []) (sym item)) from.took_other in
      let count : done_of (one_more done a) a ≡ done_of done a + 1 = one_more_done done a a l ∙ step-same (done_of done) a in
      subst (λ (n : ℕ). IsActorState actor instants n (map (state_on m order (one_more done a)).took actor.takes) t) (sym count)
      (subst (λ (xs : List (List ℤ)). IsActorState actor instants (done_of done a + 1) xs t) (sym lists) after)

  -- a single operand's ring
  first_is : (actor : Actor) (s : ActorState) (a r number : ℕ) → slice_get net.actors a ≡ Some actor → actor.kind ≡ Output number → IsNext actor s (Takes r) → first_ring actor ≡ r
  first_is actor s a r number e k at =
      let arity : length actor.takes ≡ operands (form_of actor.kind) = (is.usable a actor e).arity in
      let one : operands (form_of actor.kind) ≡ 1 = ap operands (same_form actor number k) in
      let j : ℕ = operand_at (form_of actor.kind) s.fired s.step in
      let zero_it : j ≡ 0 = omega (arith, take_operand (form_of actor.kind) actor.takes actor.gives s.fired s.step r arity at.is) in
      ap (λ i. get_or actor.takes i 0) (sym zero_it) ∙ operand_ring (form_of actor.kind) actor.takes actor.gives s.fired s.step r arity at.is

  -- the tray has room for what an output takes
  pub tray_room : (a r number : ℕ) (actor : Actor) (s : ActorState) → slice_get net.actors a ≡ Some actor → actor.kind ≡ Output number → IsNext actor s (Takes r) →
      done_of done a < length (m.sys.ops a) → op_at m.sys a (done_of done a) ≡ Takes r → (number < length trays) × (length (get_or trays number no_held).items < (get_or trays number no_held).room)
  tray_room a r number actor s e k at l op =
      let has : HasTray trays number ((state_on m order done).took (first_ring actor)) (ones_to actor.firing instants) = kept.trays_hold a number actor e k in
      let old : slice_get trays number ≡ Some (get_or trays number no_held) = slice_get-get_or trays number no_held has.there in
      let ring : first_ring actor ≡ r = first_is actor s a r number e k at in
      let arity : length actor.takes ≡ operands (form_of actor.kind) = (is.usable a actor e).arity in
      let one : operands (form_of actor.kind) ≡ 1 = ap operands (same_form actor number k) in
      let operand : IsOperand actor.takes 0 r = record { there = omega arith; is = ring; once = once_at actor.takes 0 r (omega arith) ring (is.once a actor e r) } in
      let below : length ((state_on m order done).took r) < took_in (form_of actor.kind) (ones_to actor.firing instants) 0 =
      took_room m (state_on m order done) a (done_of done a) r (form_of actor.kind) actor.takes actor.gives (ones_to actor.firing instants) is.wired here (state_done m order done a is.wired is.whole kept.within) (is.ops a actor e) l op arity operand in
      let quota : took_in (form_of actor.kind) (ones_to actor.firing instants) 0 ≡ ones_to actor.firing instants = ap (λ (f : Form). took_in f (ones_to actor.firing instants) 0) (same_form actor number k) in
      let items : length (get_or trays number no_held).items ≡ length ((state_on m order done).took r) = ap length (has.items_are (get_or trays number no_held) old) ∙ ap (λ q. length ((state_on m order done).took q)) ring in
      (has.there, omega (arith, has.room (get_or trays number no_held) old))

  -- the trays after a take
  trays_took : (a r : ℕ) (actor : Actor) (s : ActorState) (v : ℤ) → slice_get net.actors a ≡ Some actor → IsNext actor s (Takes r) → m.sys.to r ≡ a →
      TookFrom (state_on m order done) (state_on m order (one_more done a)) r → v ≡ item_at (held (state_on m order done) r) 0 →
      (b number : ℕ) (other : Actor) → slice_get net.actors b ≡ Some other → other.kind ≡ Output number →
      HasTray (put_out actor.kind trays v) number ((state_on m order (one_more done a)).took (first_ring other)) (ones_to other.firing instants)
  trays_took a r actor s v e at own from item b number other e' k =
      let has : HasTray trays number ((state_on m order done).took (first_ring other)) (ones_to other.firing instants) = kept.trays_hold b number other e' k in
      elim (cases_eq a b) [
        | inl same ↦
            let it : other ≡ actor = some_same (slice_get net.actors b) other actor e' (ap (slice_get net.actors) (sym same) ∙ e) in
            let what : actor.kind ≡ Output number = ap (λ (x : Actor). x.kind) (sym it) ∙ k in
            let ring : first_ring other ≡ r = ap first_ring it ∙ first_is actor s a r number e what at in
            let new : (state_on m order done).took (first_ring other) ++ v ∷ [] ≡ (state_on m order (one_more done a)).took (first_ring other) =
            ap (λ q. (state_on m order done).took q ++ v ∷ []) ring ∙ ap (λ x. (state_on m order done).took r ++ x ∷ []) item ∙ sym from.took ∙ ap (state_on m order (one_more done a)).took (sym ring) in
            subst (λ (w : ActorKind). HasTray (put_out w trays v) number ((state_on m order (one_more done a)).took (first_ring other)) (ones_to other.firing instants)) (sym what)
            (subst (λ (xs : List ℤ). HasTray (put_out (Output number) trays v) number xs (ones_to other.firing instants)) new (tray_more trays number (ones_to other.firing instants) ((state_on m order done).took (first_ring other)) v has))
        | inr ne ↦
            let arity : length other.takes ≡ operands (form_of other.kind) = (is.usable b other e').arity in
            let one : operands (form_of other.kind) ≡ 1 = ap operands (same_form other number k) in
            let theirs : m.sys.to (first_ring other) ≡ b = All-get_or (λ q. m.sys.to q ≡ b) other.takes 0 0 (omega arith) (is.takers b other e') in
            let still : (state_on m order done).took (first_ring other) ≡ (state_on m order (one_more done a)).took (first_ring other) =
            sym (from.took_other (first_ring other) (λ (same : r ≡ first_ring other). ne (sym own ∙ ap m.sys.to same ∙ theirs))) in
            tray_like trays (put_out actor.kind trays v) number (ones_to other.firing instants) ((state_on m order done).took (first_ring other)) ((state_on m order (one_more done a)).took (first_ring other))
            (put_length actor.kind trays v) (put_other actor.kind trays v number (λ n what same. ne (is.apart a b number actor other e e' (what ∙ ap Output same) k))) still has
      ]

  -- a take keeps all
  pub kept_took : (a r : ℕ) (actor : Actor) (s t : ActorState) (v : ℤ) (circle rest : HeldItems) → slice_get net.actors a ≡ Some actor → slice_get states a ≡ Some s →
      IsPossible m.sys (done_of done) a → op_at m.sys a (done_of done a) ≡ Takes r → slice_get circles r ≡ Some circle → circle.items ≡ v ∷ rest.items → rest.room ≡ circle.room →
      ((i n : ℕ) (took : List (List ℤ)) → IsActorState actor i n took s → IsActorState actor i (n + 1) (took_more took (operand_at (form_of actor.kind) s.fired s.step) v) t) →
      KeepsState net m order instants (one_more done a) (set states a t) (set circles r rest) (put_out actor.kind trays v)
  kept_took a r actor s t v circle rest e f can op c items room after =
      let l : a < length done = omega (arith, kept.done_count, slice_get_within net.actors a actor e) in
      let from : TookFrom (state_on m order done) (state_on m order (one_more done a)) r = took_from m order done a r is.wired is.local is.whole kept.within l can op in
      let own : m.sys.to r ≡ a = is.wired.taker a (done_of done a) r can.left op in
      let at : IsNext actor s (Takes r) = firing_here a actor s (Takes r) e f (op_there a (Takes r) op can.left) in
      let both : v ∷ rest.items ≡ item_at (held (state_on m order done) r) 0 ∷ held (state_on m order (one_more done a)) r = sym items ∙ kept.circles_hold r circle c ∙ from.rest in
      let item : v ≡ item_at (held (state_on m order done) r) 0 = cc in
      let left : rest.items ≡ held (state_on m order (one_more done a)) r = cc in
      let now : IsActorState actor instants (done_of (one_more done a) a) (map (state_on m order (one_more done a)).took actor.takes) t =
      took_state a r actor s t v l e f at from item (after instants (done_of done a) (map (state_on m order done).took actor.takes) (kept.actors a actor s e f)) in
      record {
        within = next_within m done a kept.within l can;
        states_count = length-set states a t ∙ kept.states_count;
        done_count = length-set done a (slice_index done a + 1) ∙ kept.done_count;
        actors = λ b other u e' f'. elim (cases_eq a b) [
          | inl same ↦
              let it : actor ≡ other = some_same (slice_get net.actors a) actor other e (ap (slice_get net.actors) same ∙ e') in
              let st : t ≡ u = sym (get_set_same states a t u (ap (slice_get (set states a t)) same ∙ f')) in
              subst (λ (x : Actor). IsActorState x instants (done_of (one_more done a) b) (map (state_on m order (one_more done a)).took x.takes) u) it
              (subst (λ (x : ActorState). IsActorState actor instants (done_of (one_more done a) b) (map (state_on m order (one_more done a)).took actor.takes) x) st
              (subst (λ (x : ℕ). IsActorState actor instants (done_of (one_more done a) x) (map (state_on m order (one_more done a)).took actor.takes) t) same now))
          | inr ne ↦ stays a b other u l ne e' (sym (get_set_other states a b t ne) ∙ f') (other_took a b r other ne e' own from)
        ];
        circles_count = length-set circles r rest ∙ kept.circles_count;
        circles_hold = λ q h f'. elim (cases_eq r q) [
          | inl same ↦ ap (λ (x : HeldItems). x.items) (get_set_same circles r rest h (ap (slice_get (set circles r rest)) same ∙ f')) ∙ left ∙ ap (held (state_on m order (one_more done a))) same
          | inr ne ↦ kept.circles_hold q h (sym (get_set_other circles r q rest ne) ∙ f') ∙ sym (from.others q ne)
        ];
        rooms = λ q ring h e' f'. elim (cases_eq r q) [
          | inl same ↦ ap (λ (x : HeldItems). x.room) (get_set_same circles r rest h (ap (slice_get (set circles r rest)) same ∙ f')) ∙ room ∙ kept.rooms q ring circle e' (ap (slice_get circles) (sym same) ∙ c)
          | inr ne ↦ kept.rooms q ring h e' (sym (get_set_other circles r q rest ne) ∙ f')
        ];
        trays_hold = trays_took a r actor s v e at own from item;
      }

  -- a give keeps all
  pub kept_gave : (a r : ℕ) (actor : Actor) (s t : ActorState) (v : ℤ) (circle more : HeldItems) → slice_get net.actors a ≡ Some actor → slice_get states a ≡ Some s →
      IsPossible m.sys (done_of done) a → op_at m.sys a (done_of done a) ≡ Gives r → slice_get circles r ≡ Some circle → more.items ≡ circle.items ++ v ∷ [] → more.room ≡ circle.room →
      v ≡ m.value a (done_of done a) (state_on m order done).took →
      ((i n : ℕ) (took : List (List ℤ)) → IsActorState actor i n took s → IsActorState actor i (n + 1) took t) →
      KeepsState net m order instants (one_more done a) (set states a t) (set circles r more) trays
  kept_gave a r actor s t v circle more e f can op c items room value after =
      let l : a < length done = omega (arith, kept.done_count, slice_get_within net.actors a actor e) in
      let to : GaveTo (state_on m order done) (state_on m order (one_more done a)) r (m.value a (done_of done a) (state_on m order done).took) = gave_to m order done a r is.wired is.local is.whole kept.within l can op in
      let lists : (takes : List ℕ) → map (state_on m order (one_more done a)).took takes ≡ map (state_on m order done).took takes =
      λ takes. map_same (state_on m order (one_more done a)).took (state_on m order done).took takes (all_of (λ q. (state_on m order (one_more done a)).took q ≡ (state_on m order done).took q) takes (λ i k. to.took (get_or takes i 0))) in
      let count : done_of (one_more done a) a ≡ done_of done a + 1 = one_more_done done a a l ∙ step-same (done_of done) a in
      let now : IsActorState actor instants (done_of (one_more done a) a) (map (state_on m order (one_more done a)).took actor.takes) t =
      subst (λ (n : ℕ). IsActorState actor instants n (map (state_on m order (one_more done a)).took actor.takes) t) (sym count)
      (subst (λ (xs : List (List ℤ)). IsActorState actor instants (done_of done a + 1) xs t) (sym (lists actor.takes)) (after instants (done_of done a) (map (state_on m order done).took actor.takes) (kept.actors a actor s e f))) in
      let all : more.items ≡ held (state_on m order (one_more done a)) r =
      items ∙ ap (λ xs. xs ++ v ∷ []) (kept.circles_hold r circle c) ∙ ap (λ x. held (state_on m order done) r ++ x ∷ []) value ∙ sym to.more in
      record {
        within = next_within m done a kept.within l can;
        states_count = length-set states a t ∙ kept.states_count;
        done_count = length-set done a (slice_index done a + 1) ∙ kept.done_count;
        actors = λ b other u e' f'. elim (cases_eq a b) [
          | inl same ↦
              let it : actor ≡ other = some_same (slice_get net.actors a) actor other e (ap (slice_get net.actors) same ∙ e') in
              let st : t ≡ u = sym (get_set_same states a t u (ap (slice_get (set states a t)) same ∙ f')) in
              subst (λ (x : Actor). IsActorState x instants (done_of (one_more done a) b) (map (state_on m order (one_more done a)).took x.takes) u) it
              (subst (λ (x : ActorState). IsActorState actor instants (done_of (one_more done a) b) (map (state_on m order (one_more done a)).took actor.takes) x) st
              (subst (λ (x : ℕ). IsActorState actor instants (done_of (one_more done a) x) (map (state_on m order (one_more done a)).took actor.takes) t) same now))
          | inr ne ↦ stays a b other u l ne e' (sym (get_set_other states a b t ne) ∙ f') (lists other.takes)
        ];
        circles_count = length-set circles r more ∙ kept.circles_count;
        circles_hold = λ q h f'. elim (cases_eq r q) [
          | inl same ↦ ap (λ (x : HeldItems). x.items) (get_set_same circles r more h (ap (slice_get (set circles r more)) same ∙ f')) ∙ all ∙ ap (held (state_on m order (one_more done a))) same
          | inr ne ↦ kept.circles_hold q h (sym (get_set_other circles r q more ne) ∙ f') ∙ sym (to.others q ne)
        ];
        rooms = λ q ring h e' f'. elim (cases_eq r q) [
          | inl same ↦ ap (λ (x : HeldItems). x.room) (get_set_same circles r more h (ap (slice_get (set circles r more)) same ∙ f')) ∙ room ∙ kept.rooms q ring circle e' (ap (slice_get circles) (sym same) ∙ c)
          | inr ne ↦ kept.rooms q ring h e' (sym (get_set_other circles r q more ne) ∙ f')
        ];
        trays_hold = λ b number other e' k. tray_like trays trays number (ones_to other.firing instants) ((state_on m order done).took (first_ring other)) ((state_on m order (one_more done a)).took (first_ring other)) refl refl (sym (to.took (first_ring other))) (kept.trays_hold b number other e' k);
      }
