-- Actors that wait for each other in an instant: their items depend on each other.
use Rattle.std.proofs.Common.{ℕ, suc, ◌+◌, ◌-◌, ◌<◌, ◌≤◌, ◌≡◌, true, cond, List, [], ◌∷◌, ◌++◌, map, length, get_or, take, ap, sym, refl, ◌∙◌, subst, inl, inr, arith}
use Rattle.std.specs.Prelude.{count_by, Some, slice_get, slice_index, All}
use Rattle.std.proofs.lemmas.Bool.{cases_lt, cases_Bool}
use Rattle.std.specs.Option.{option_map}
use Rattle.std.proofs.lemmas.Option.{slice_get-map, slice_get_within, get_or_from_slice_get, slice_get-get_or}
use Rattle.std.proofs.lemmas.List.{take_all}
use Rattle.std.proofs.lemmas.List.Elements.{All-cons, All-nil}
use Rattle.lucy_word.specs.Bits.{bit_at, one_if, ones_to}
use Rattle.lucy_word.proofs.BitsLaws.{ones_to-more}
use Rattle.lucy_host.proofs.Elements.{get_there}
use Rattle.lucy_stream.specs.Forms.{Form}
use Rattle.lucy_stream.specs.Firings.{gave_in, took_in}
use Rattle.lucy_stream.specs.Systems.{RingOp, Takes, System, is_give, given, taken}
use Rattle.lucy_stream.specs.Instants.{Waits}
use Rattle.lucy_stream.specs.Plans.{IsOperand}
use Rattle.lucy_stream.proofs.CountLaws.{given-is, given-le, taken-lt}
use Rattle.lucy_stream.proofs.GiveCounts.{count_append}
use Rattle.lucy_stream.proofs.OperatingLaws.{take_past}
use Rattle.lucy_stream.proofs.RunLaws.{after-le}
use Rattle.lucy_net.specs.declared.net.Net.{Net}
use Rattle.lucy_net.specs.declared.net.Actor.{Actor}
use Rattle.lucy_net.specs.declared.net.RingSpec.{RingSpec}
use Rattle.lucy_net.specs.Plans.{form_of, net_system, done_by, giver, taker}
use Rattle.lucy_net.specs.Proper.{IsProper, IsProperActor, IsProperRing}
use Rattle.lucy_stream.specs.Needs.{IsNeed, StreamItem, Needs, IsWalk, IsCycle}
use Rattle.lucy_net.specs.Causal.{actor_place, net_places, items_by, IsOfInstant}
use Rattle.lucy_stream.proofs.OperationLaws.{take_needed}
use Rattle.lucy_net.specs.declared.settle.Wait.{Wait}
use Rattle.lucy_net.specs.Instants.{slot_of, slot, firing_of}
use Rattle.lucy_net.specs.Play.{done_in, IsPlayedSoFar}
use Rattle.lucy_net.specs.Waiting.{IsHeldUp, actor_at, ring_at, IsKnot}
use Rattle.lucy_net.specs.Faults.{item_now}
use Rattle.lucy_net.proofs.WhereLaws.{operand_of}
use Rattle.lucy_net.proofs.NetLaws.{wired, given_by_word, taken_by_word, from_here, to_here, taken_times, write_counts, read_counts, one_more}
use Rattle.lucy_net.proofs.SlotLaws.{slot_more, slot_is, slot_within}
use Rattle.lucy_net.proofs.PlayLaws.{waits_now, from_is, op_now}
use Rattle.lucy_net.proofs.InstantLaws.{held_ring}

-- the gives of an actor, up to a place in its operations of the instant
given_at : (net : Net) (n : ℕ) (order steps held : List ℕ) (b g : ℕ) → IsPlayedSoFar net n order steps held → giver net g ≡ b →
    given (net_system net (n + 1)) (done_in net n order) g ≡ count_by (is_give g) ((net_system net n).ops b) + count_by (is_give g) (take (slice_index steps b) (slot net n b))
unfolding done_by
given_at net n order steps held b g played from =
    let sys : System = net_system net (n + 1) in
    let old : List RingOp = (net_system net n).ops b in
    let i : ℕ = slice_index steps b in
    let front : take (length old + i) (old ++ slot net n b) ≡ old ++ take i (slot net n b) = take_past old (slot net n b) (length old + i) (omega arith) ∙ ap (λ k. old ++ take k (slot net n b)) (let z : length old + i - length old ≡ i = omega arith in z) in
    sym (given-is sys (done_in net n order) b (length old + i) g (from_is net (n + 1) g ∙ from) (played.steps_are b))
    ∙ ap (λ xs. count_by (is_give g) (take (length old + i) xs)) (slot_more net n b) ∙ ap (count_by (is_give g)) front ∙ count_append (is_give g) old (take i (slot net n b))

given_all : (net : Net) (n b g : ℕ) → giver net g ≡ b →
    given (net_system net (n + 1)) (done_by net (n + 1)) g ≡ count_by (is_give g) ((net_system net n).ops b) + count_by (is_give g) (slot net n b)
unfolding done_by
given_all net n b g from =
    let sys : System = net_system net (n + 1) in
    let old : List RingOp = (net_system net n).ops b in
    sym (given-is sys (done_by net (n + 1)) b (length (sys.ops b)) g (from_is net (n + 1) g ∙ from) refl)
    ∙ ap (count_by (is_give g)) (take_all (length (sys.ops b)) (sys.ops b) (omega arith)) ∙ ap (count_by (is_give g)) (slot_more net n b) ∙ count_append (is_give g) old (slot net n b)

fires_of : (n : ℕ) (actor : Actor) → 0 < length (slot_of n (Some actor)) → bit_at actor.firing (n + 1) ≡ true
fires_of n actor l = elim (cases_Bool (bit_at actor.firing (n + 1))) [
  | inl h ↦ h
  | inr h ↦ absurd (let z : length (slot_of n (Some actor)) ≡ 0 = ap (λ c. length (cond c (firing_of actor (ones_to actor.firing n)) [])) h in omega arith)
]

fires : (net : Net) (n a : ℕ) (actor : Actor) → slice_get net.actors a ≡ Some actor → 0 < length (slot net n a) → ones_to actor.firing (n + 1) ≡ ones_to actor.firing n + 1
unfolding slot
fires net n a actor e l =
    let h : one_if (bit_at actor.firing (n + 1)) ≡ 1 = ap one_if (fires_of n actor (subst (λ o. 0 < length (slot_of n o)) e l)) in
    omega (arith, ones_to-more actor.firing n)

to_is : (net : Net) (n r : ℕ) → taker net r ≡ (net_system net n).to r
unfolding net_system
to_is net n r = refl

done_inside : (net : Net) (n : ℕ) (order : List ℕ) (b : ℕ) → done_in net n order b < done_by net (n + 1) b → done_in net n order b < length ((net_system net (n + 1)).ops b)
unfolding done_by
done_inside net n order b l = l

-- the ring of one that waits: its words have a one each in the instant, the same one
record Words (net : Net) (n b r : ℕ) : Type 0 where
  pub ring : RingSpec
  pub there : slice_get net.rings r ≡ Some ring
  pub to : ring.to ≡ b
  pub same : ones_to ring.read (n + 1) ≡ ones_to ring.write (n + 1)
  pub more : ones_to ring.write (n + 1) ≡ ones_to ring.write n + 1

words_here : (net : Net) (n : ℕ) (order steps held : List ℕ) (b r : ℕ) → IsProper net → IsPlayedSoFar net n order steps held → IsHeldUp net n steps held b r → Words net n b r
words_here net n order steps held b r is played up =
    let sys : System = net_system net (n + 1) in
    let d : ℕ → ℕ = done_in net n order in
    let x = held_ring net r up.there in
    let ring : RingSpec = x.0 in
    let waits : Waits sys (done_by net (n + 1)) d b r = waits_now net n order steps held b r is played up in
    let now = op_now net n order steps held b (Takes r) played up.takes in
    let inside : d b < length (sys.ops b) = done_inside net n order b now.1 in
    let g0 : given sys (done_by net n) r ≡ ones_to ring.write n = given_by_word net n (n + 1) r ring (omega arith) is x.1 in
    let g1 : given sys (done_by net (n + 1)) r ≡ ones_to ring.write (n + 1) = given_by_word net (n + 1) (n + 1) r ring (omega arith) is x.1 in
    let t1 : taken sys (done_by net (n + 1)) r ≡ ones_to ring.read (n + 1) = taken_by_word net (n + 1) (n + 1) r ring (omega arith) is x.1 in
    let low : given sys (done_by net n) r ≤ given sys d r = given-le sys (done_by net n) d r (after-le (done_by net n) order (sys.from r)) in
    let up_to : taken sys d r < taken sys (done_by net (n + 1)) r = taken-lt sys d (done_by net (n + 1)) b r (wired net (n + 1) is) now.1 inside now.0 in
    let own : sys.to r ≡ b = (wired net (n + 1) is).taker b (d b) r inside now.0 in
    record {
      ring = ring;
      there = x.1;
      to = sym (to_here net r ring x.1) ∙ to_is net (n + 1) r ∙ own;
      same = omega (arith, waits.empty, waits.later, (is.rings r ring x.1).adaptable.1 (n + 1), one_more ring.write n);
      more = omega (arith, waits.empty, waits.later, one_more ring.write n);
    }

-- the last item of a ring's giver is counted by the write word
giver_items : (net : Net) (n r : ℕ) (ring : RingSpec) → IsProper net → slice_get net.rings r ≡ Some ring → items_by (slice_get net.actors (giver net r)) n ≡ ones_to ring.write n
giver_items net n r ring is e =
    let here : IsProperRing net r ring = is.rings r ring e in
    ap (λ a. items_by (slice_get net.actors a) n) (from_here net r ring e) ∙ ap (λ o. items_by o n) here.gives_here ∙ write_counts (form_of here.giver.kind) here.giver.firing ring.write n here.write

-- one that waits, with an item still to give: it depends on the item that it waits for
waiting_needs : (net : Net) (n : ℕ) (order steps held : List ℕ) (b r g : ℕ) → IsProper net → IsPlayedSoFar net n order steps held → IsHeldUp net n steps held b r → giver net g ≡ b →
    given (net_system net (n + 1)) (done_in net n order) g < given (net_system net (n + 1)) (done_by net (n + 1)) g →
    Needs (net_places net) (item_now net (n + 1) b) (item_now net (n + 1) (giver net r))
waiting_needs net n order steps held b r g is played up from later =
    let i : ℕ = slice_index steps b in
    let inside : i < length (slot net n b) = slice_get_within (slot net n b) i (Takes r) up.takes in
    let busy : 0 < length (slot net n b) = omega arith in
    let x = get_there net.actors b (slot_within net n b busy) in
    let actor : Actor = x.0 in
    let form : Form = form_of actor.kind in
    let q : ℕ = ones_to actor.firing n in
    let p : IsProperActor net b actor = is.actors b actor x.1 in
    let firing : slot net n b ≡ firing_of actor q = slot_is net n b actor x.1 busy in
    let next : ones_to actor.firing (n + 1) ≡ q + 1 = fires net n b actor x.1 busy in
    let words : Words net n b r = words_here net n order steps held b r is played up in
    let ring : RingSpec = words.ring in
    let operand = operand_of r actor.takes (taken_times net r b ring actor p words.there words.to) in
    let o : IsOperand actor.takes operand.0 r = operand.1 in
    let j : ℕ = operand.0 in
    let at : get_or (firing_of actor q) i (Takes 0) ≡ Takes r = ap (λ xs. get_or xs i (Takes 0)) (sym firing) ∙ get_or_from_slice_get (slot net n b) i (Takes r) (Takes 0) up.takes in
    let counts : count_by (is_give g) (take i (slot net n b)) < count_by (is_give g) (slot net n b) = omega (arith, given_at net n order steps held b g played from, given_all net n b g from) in
    let here : count_by (is_give g) (take i (firing_of actor q)) < count_by (is_give g) (firing_of actor q) = subst (λ (xs : List RingOp). count_by (is_give g) (take i xs) < count_by (is_give g) xs) firing counts in
    let within : i < length (firing_of actor q) = subst (λ (xs : List RingOp). i < length xs) firing inside in
    let needed : IsNeed form (gave_in form (q + 1)) j (took_in form (q + 1) j) = take_needed form actor.takes actor.gives q i j r g p.arity o within at here in
    let ring_is : IsProperRing net r ring = is.rings r ring words.there in
    let by : ring_is.taker ≡ actor = (let same : Some ring_is.taker ≡ Some actor = sym ring_is.takes_here ∙ ap (slice_get net.actors) words.to ∙ x.1 in cc) in
    let read : took_in form (ones_to actor.firing (n + 1)) j ≡ ones_to ring.read (n + 1) =
    subst (λ (a : Actor). took_in (form_of a.kind) (ones_to a.firing (n + 1)) j ≡ ones_to ring.read (n + 1)) by
    (read_counts (form_of ring_is.taker.kind) ring_is.taker.firing ring.read j (n + 1) (ring_is.read j (subst (λ (a : Actor). j < length a.takes) (sym by) o.there) (ap (λ (a : Actor). get_or a.takes j 0) by ∙ o.is))) in
    let mine : items_by (slice_get net.actors b) (n + 1) ≡ gave_in form (q + 1) = ap (λ s. items_by s (n + 1)) x.1 ∙ ap (gave_in form) next in
    let theirs : took_in form (q + 1) j ≡ items_by (slice_get net.actors (giver net r)) (n + 1) = ap (λ k. took_in form k j) (sym next) ∙ read ∙ words.same ∙ sym (giver_items net (n + 1) r ring is words.there) in
    record {
      place = actor_place net actor;
      there = slice_get-map (actor_place net) net.actors b ∙ ap (option_map (actor_place net)) x.1;
      operand = j;
      within = omega (arith, o.there, p.arity);
      reads = slice_get-map (giver net) actor.takes j ∙ ap (option_map (giver net)) (slice_get-get_or actor.takes j 0 o.there ∙ ap (λ (k : ℕ). Some k) o.is);
      counted = omega (arith, giver_items net (n + 1) r ring is words.there, words.more);
      need = subst (λ (k : ℕ). IsNeed form k j (items_by (slice_get net.actors (giver net r)) (n + 1))) (sym mine)
          (subst (IsNeed form (gave_in form (q + 1)) j) theirs needed);
    }

-- and that item is of this instant
giver_of_instant : (net : Net) (n : ℕ) (order steps held : List ℕ) (b r : ℕ) → IsProper net → IsPlayedSoFar net n order steps held → IsHeldUp net n steps held b r → IsOfInstant net n (item_now net (n + 1) (giver net r))
giver_of_instant net n order steps held b r is played up =
    let words : Words net n b r = words_here net n order steps held b r is played up in
    record {
      earlier = omega (arith, giver_items net n r words.ring is words.there, giver_items net (n + 1) r words.ring is words.there, words.more);
      by_now = omega arith;
    }

walk_of : (net : Net) (item : ℕ → StreamItem) (w : Wait) (waits : List Wait) (end : StreamItem) → ((k : ℕ) → suc k < length (w ∷ waits) → Needs (net_places net) (item (actor_at (w ∷ waits) 0 k)) (item (actor_at (w ∷ waits) 0 (suc k)))) →
    Needs (net_places net) (item (actor_at (w ∷ waits) 0 (length waits))) end → IsWalk (net_places net) (item w.actor) (map (λ (v : Wait). item v.actor) waits) end
walk_of net item w [] end h last = last
walk_of net item w (v ∷ waits) end h last = (h 0 (omega arith), walk_of net item v waits end (λ k l. h (suc k) (omega arith)) last)

cycle_of : (net : Net) (item : ℕ → StreamItem) (waits : List Wait) → 0 < length waits → ((k : ℕ) → suc k < length waits → Needs (net_places net) (item (actor_at waits 0 k)) (item (actor_at waits 0 (suc k)))) →
    Needs (net_places net) (item (actor_at waits 0 (length waits - 1))) (item (actor_at waits 0 0)) → IsCycle (net_places net) (map (λ (v : Wait). item v.actor) waits)
cycle_of net item [] l h last = absurd (omega arith)
cycle_of net item (w ∷ waits) l h last = walk_of net item w waits (item w.actor) h (subst (λ (k : ℕ). Needs (net_places net) (item (actor_at (w ∷ waits) 0 k)) (item w.actor)) (let z : length (w ∷ waits) - 1 ≡ length waits = omega arith in z) last)

instant_items : (net : Net) (n : ℕ) (item : ℕ → StreamItem) (waits : List Wait) → ((k : ℕ) → k < length waits → IsOfInstant net n (item (actor_at waits 0 k))) → All (IsOfInstant net n) (map (λ (v : Wait). item v.actor) waits)
instant_items net n item [] h = All-nil (IsOfInstant net n)
instant_items net n item (w ∷ waits) h = All-cons (IsOfInstant net n) (item w.actor) (map (λ (v : Wait). item v.actor) waits) (h 0 (omega arith)) (instant_items net n item waits (λ k l. h (suc k) (omega arith)))

-- so a knot is a cycle of items of the instant
pub knot_cycle : (net : Net) (n : ℕ) (order steps held : List ℕ) (waits : List Wait) → IsProper net → IsPlayedSoFar net n order steps held → IsKnot net n steps held waits →
    IsCycle (net_places net) (map (λ (v : Wait). item_now net (n + 1) v.actor) waits) × All (IsOfInstant net n) (map (λ (v : Wait). item_now net (n + 1) v.actor) waits)
knot_cycle net n order steps held waits is played knot =
    let sys : System = net_system net (n + 1) in
    let d : ℕ → ℕ = done_in net n order in
    let m : ℕ = length waits - 1 in
    let later : (k : ℕ) → k < length waits → given sys d (ring_at waits k) < given sys (done_by net (n + 1)) (ring_at waits k) = λ k l.
    (waits_now net n order steps held (actor_at waits 0 k) (ring_at waits k) is played (knot.each k l)).later in
    let before : (k : ℕ) → k < length waits → (g : ℕ) × (giver net g ≡ actor_at waits 0 k) × (given sys d g < given sys (done_by net (n + 1)) g) × IsOfInstant net n (item_now net (n + 1) (actor_at waits 0 k)) = λ k l. elim (cases_lt 0 k) [
      | inl some ↦
          let e : giver net (ring_at waits (k - 1)) ≡ actor_at waits 0 k = knot.next (k - 1) (omega arith) ∙ ap (actor_at waits 0) (let z : k - 1 + 1 ≡ k = omega arith in z) in (
            ring_at waits (k - 1),
            e,
            later (k - 1) (omega arith),
            subst (λ (a : ℕ). IsOfInstant net n (item_now net (n + 1) a)) e (giver_of_instant net n order steps held (actor_at waits 0 (k - 1)) (ring_at waits (k - 1)) is played (knot.each (k - 1) (omega arith))),
          )
      | inr none ↦
          let e : giver net (ring_at waits m) ≡ actor_at waits 0 k = knot.closed ∙ ap (actor_at waits 0) (let z : 0 ≡ k = omega arith in z) in (
            ring_at waits m,
            e,
            later m (omega (arith, knot.some)),
            subst (λ (a : ℕ). IsOfInstant net n (item_now net (n + 1) a)) e (giver_of_instant net n order steps held (actor_at waits 0 m) (ring_at waits m) is played (knot.each m (omega (arith, knot.some)))),
          )
    ] in
    let needs : (k : ℕ) → k < length waits → Needs (net_places net) (item_now net (n + 1) (actor_at waits 0 k)) (item_now net (n + 1) (giver net (ring_at waits k))) = λ k l.
    let b = before k l in
    waiting_needs net n order steps held (actor_at waits 0 k) (ring_at waits k) b.0 is played (knot.each k l) b.1 b.2 in (
      cycle_of net (item_now net (n + 1)) waits knot.some
          (λ k l. subst (λ (a : ℕ). Needs (net_places net) (item_now net (n + 1) (actor_at waits 0 k)) (item_now net (n + 1) a)) (knot.next k (omega arith) ∙ ap (actor_at waits 0) (let z : k + 1 ≡ suc k = omega arith in z)) (needs k (omega arith)))
          (subst (λ (a : ℕ). Needs (net_places net) (item_now net (n + 1) (actor_at waits 0 m)) (item_now net (n + 1) a)) knot.closed (needs m (omega (arith, knot.some)))),
      instant_items net n (item_now net (n + 1)) waits (λ k l. let b = before k l in b.3),
    )
