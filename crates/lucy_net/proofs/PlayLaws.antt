-- What events leave of an instant.
use Rattle.std.proofs.Common.{ℕ, ◌+◌, ◌-◌, ◌<◌, ◌≤◌, ◌≡◌, List, [], ◌∷◌, ◌++◌, length, set, get_or, ap, sym, refl, ◌∙◌, subst, inl, inr, arith}
use Rattle.std.specs.Prelude.{Some, slice_get, slice_index, sum_by}
use Rattle.std.proofs.lemmas.Bool.{cases_eq}
use Rattle.std.proofs.lemmas.Option.{slice_get_within, get_or_from_slice_get, slice_get_read}
use Rattle.std.proofs.lemmas.List.{length-set, get_or-set_same, get_or-set_other, get_or_past, get_or-map}
use Rattle.std.proofs.lemmas.List.Sums.{get_or-le-sum_by}
use Rattle.lucy_word.specs.Limits.{limit_number}
use Rattle.lucy_word.specs.declared.limit.Limit.TheVariants as limit
use Rattle.lucy_stream.specs.Systems.{System, RingOp, Takes, Gives, op_at, given, taken}
use Rattle.lucy_stream.specs.Runs.{IsPossible, step, IsWithin}
use Rattle.lucy_stream.specs.Instants.{Waits}
use Rattle.lucy_stream.proofs.CountLaws.{step-same, step-other, given-same, taken-same, gives_next, takes_next}
use Rattle.lucy_stream.proofs.RunLaws.{IsWithin-run, after-le}
use Rattle.lucy_stream.proofs.EventLaws.{}
use Rattle.lucy_stream.proofs.JoinedLaws.{run_joined, after_joined}
use Rattle.lucy_stream.proofs.InstantLaws.{possible_or_waits}
use Rattle.lucy_net.specs.declared.net.Actor.{Actor}
use Rattle.lucy_net.specs.declared.net.RingSpec.{RingSpec}
use Rattle.lucy_net.specs.declared.net.Net.{Net}
use Rattle.lucy_word.specs.Bits.{ones_to}
use Rattle.lucy_net.specs.Plans.{net_system, done_by, giver}
use Rattle.lucy_net.specs.Proper.{IsProper}
use Rattle.lucy_net.specs.Instants.{slot, firing_of}
use Rattle.lucy_net.specs.Play.{IsWithinRings, done_in, IsPlayedSoFar}
use Rattle.lucy_net.specs.Waiting.{IsHeldUp}
use Rattle.lucy_net.proofs.SumLaws.{sum_to, sum_to-less}
use Rattle.lucy_net.proofs.NetLaws.{wired, is_instant, within_before, ring_cases, size_is}
use Rattle.lucy_net.proofs.SlotLaws.{done_more, slot_at, slot_is, slot_ring, slot_within}

-- how many operations are left in the instant
unfoldable pub left_in : Net → ℕ → List ℕ → ℕ
left_in net n steps = sum_to (length net.actors) (λ a. length (slot net n a) - slice_index steps a)

-- no actor is past its operations of the instant
done_high : (net : Net) (n : ℕ) (order steps held : List ℕ) → IsPlayedSoFar net n order steps held → (a : ℕ) → done_in net n order a ≤ done_by net (n + 1) a
done_high net n order steps held played a = omega (arith, played.steps_are a, played.within a, done_more net n a)

-- the next operation of an actor
pub op_now : (net : Net) (n : ℕ) (order steps held : List ℕ) (a : ℕ) (op : RingOp) → IsPlayedSoFar net n order steps held → slice_get (slot net n a) (slice_index steps a) ≡ Some op →
    (op_at (net_system net (n + 1)) a (done_in net n order a) ≡ op) × (done_in net n order a < done_by net (n + 1) a)
op_now net n order steps held a op played e = (
  ap (op_at (net_system net (n + 1)) a) (played.steps_are a) ∙ slot_at net n a (slice_index steps a) op e,
  omega (arith, played.steps_are a, slice_get_within (slot net n a) (slice_index steps a) op e, done_more net n a),
)

ring_held : (net : Net) (n : ℕ) (order steps held : List ℕ) (r : ℕ) → IsProper net → IsPlayedSoFar net n order steps held → slice_index held r ≤ limit_number limit.Slots + 1
ring_held net n order steps held r is played = elim (ring_cases net r) [
  | inl x ↦
      let sys : System = net_system net (n + 1) in
      let within : IsWithin sys (done_in net n order) = IsWithin-run sys (done_by net n) order played.run (within_before net n (n + 1) (omega arith) is) in
      let inside : r < length net.rings = slice_get_within net.rings r x.0 x.1 in
      let at : get_or net.rings r x.0 ≡ x.0 = get_or_from_slice_get net.rings r x.0 x.0 x.1 in
      let small : (get_or net.rings r x.0).size + 1 ≤ sum_by (λ (ring : RingSpec). ring.size + 1) net.rings = get_or-le-sum_by (λ (ring : RingSpec). ring.size + 1) net.rings r x.0 inside in
      let size : (get_or net.rings r x.0).size ≡ x.0.size = ap (λ (ring : RingSpec). ring.size) at in
      omega (arith, within.fits r, played.held_are r inside, size_is net (n + 1) r x.0 x.1, is.few_slots)
  | inr past ↦ omega (arith, get_or_past held r 0 (omega (arith, played.rings)))
]

pub within_rings : (net : Net) (n : ℕ) (order steps held : List ℕ) (now : ℕ) (actor : Actor) → IsProper net → IsPlayedSoFar net n order steps held →
    slice_get net.actors now ≡ Some actor → 0 < length (slot net n now) →
    IsWithinRings (slice_get (firing_of actor (ones_to actor.firing n)) (slice_index steps now)) held
within_rings net n order steps held now actor is played e busy =
    let same : slot net n now ≡ firing_of actor (ones_to actor.firing n) = slot_is net n now actor e busy in
    record {
      takes = λ r h. (let at : slice_get (slot net n now) (slice_index steps now) ≡ Some (Takes r) = ap (λ xs. slice_get xs (slice_index steps now)) same ∙ h in
          let there : r < length net.rings = slot_ring net n now (slice_index steps now) (Takes r) is at in omega (arith, played.rings));
      gives = λ r h. (let at : slice_get (slot net n now) (slice_index steps now) ≡ Some (Gives r) = ap (λ xs. slice_get xs (slice_index steps now)) same ∙ h in
          let there : r < length net.rings = slot_ring net n now (slice_index steps now) (Gives r) is at in omega (arith, played.rings));
      room = λ r. ring_held net n order steps held r is played;
    }

-- a give is possible, and so is a take from a ring that holds something
possible : (net : Net) (n : ℕ) (order steps held : List ℕ) (now : ℕ) (op : RingOp) → IsProper net → IsPlayedSoFar net n order steps held →
    slice_get (slot net n now) (slice_index steps now) ≡ Some op → ((r : ℕ) → op ≡ Takes r → 0 < slice_index held r) → IsPossible (net_system net (n + 1)) (done_in net n order) now
possible net n order steps held now op is played e some =
    let sys : System = net_system net (n + 1) in
    let here = op_now net n order steps held now op played e in
    elim (possible_or_waits sys (done_by net n) (done_by net (n + 1)) (done_in net n order) now (wired net (n + 1) is) (is_instant net n is)
    (after-le (done_by net n) order) (done_high net n order steps held played) here.1) [
      | inl can ↦ can
      | inr w ↦
          let r : ℕ = w.0 in
          let waits : Waits sys (done_by net (n + 1)) (done_in net n order) now r = w.1 in
          let same : op ≡ Takes r = sym here.0 ∙ waits.takes in
          let at : slice_get (slot net n now) (slice_index steps now) ≡ Some (Takes r) = e ∙ ap (λ o. Some o) same in
          let there : r < length net.rings = slot_ring net n now (slice_index steps now) (Takes r) is at in
          absurd (omega (arith, waits.empty, played.held_are r there, some r same))
    ]

-- what an operation makes of the items of the rings
record IsHeldBy (op : RingOp) (held new_held : List ℕ) : Type 0 where
  pub len : length new_held ≡ length held
  pub gives : (q : ℕ) → q < length held → op ≡ Gives q → slice_index new_held q ≡ slice_index held q + 1
  pub takes : (q : ℕ) → q < length held → op ≡ Takes q → slice_index new_held q + 1 ≡ slice_index held q
  pub others : (q : ℕ) → q < length held → (op ≡ Gives q → ⊥) → (op ≡ Takes q → ⊥) → slice_index new_held q ≡ slice_index held q

-- an operation that is possible is done
played_by : (net : Net) (n : ℕ) (order steps held new_held : List ℕ) (now : ℕ) (op : RingOp) → IsProper net → IsPlayedSoFar net n order steps held →
    slice_get (slot net n now) (slice_index steps now) ≡ Some op → ((r : ℕ) → op ≡ Takes r → 0 < slice_index held r) → IsHeldBy op held new_held →
    IsPlayedSoFar net n (order ++ now ∷ []) (set steps now (slice_index steps now + 1)) new_held
played_by net n order steps held new_held now op is played e some by =
    let sys : System = net_system net (n + 1) in
    let d : ℕ → ℕ = done_in net n order in
    let here = op_now net n order steps held now op played e in
    let can : IsPossible sys d now = possible net n order steps held now op is played e some in
    let new : (b : ℕ) → done_in net n (order ++ now ∷ []) b ≡ step d now b = λ b. after_joined (done_by net n) order (now ∷ []) b in
    let k : ℕ = slice_index steps now in
    let more : k < length (slot net n now) = slice_get_within (slot net n now) k op e in
    let inside : now < length steps = omega (arith, slot_within net n now (omega arith), played.actors) in
    record {
      actors = length-set steps now (k + 1) ∙ played.actors;
      rings = by.len ∙ played.rings;
      run = run_joined sys (done_by net n) order (now ∷ []) played.run (can, tt);
      steps_are = λ a. elim (cases_eq a now) [
        | inl same ↦
            let x : step d now a ≡ d a + 1 = subst (λ (b : ℕ). step d b a ≡ d a + 1) same (step-same d a) in
            let y : get_or (set steps now (k + 1)) a 0 ≡ k + 1 = ap (λ b. get_or (set steps now (k + 1)) b 0) same ∙ get_or-set_same steps now (k + 1) 0 inside in
            let z : slice_index steps a ≡ k = ap (slice_index steps) same in
            omega (arith, new a, played.steps_are a)
        | inr other ↦
            let x : step d now a ≡ d a = step-other d now a (λ (s : now ≡ a). other (sym s)) in
            let y : get_or (set steps now (k + 1)) a 0 ≡ get_or steps a 0 = get_or-set_other steps now a (k + 1) 0 other in
            omega (arith, new a, played.steps_are a)
      ];
      within = λ a. elim (cases_eq a now) [
        | inl same ↦
            let y : get_or (set steps now (k + 1)) a 0 ≡ k + 1 = ap (λ b. get_or (set steps now (k + 1)) b 0) same ∙ get_or-set_same steps now (k + 1) 0 inside in
            let z : length (slot net n a) ≡ length (slot net n now) = ap (λ b. length (slot net n b)) same in
            omega arith
        | inr other ↦
            let y : get_or (set steps now (k + 1)) a 0 ≡ get_or steps a 0 = get_or-set_other steps now a (k + 1) 0 other in
            omega (arith, played.within a)
      ];
      held_are = λ q l.
          let gs : given sys (done_in net n (order ++ now ∷ [])) q ≡ given sys (step d now) q = given-same sys (done_in net n (order ++ now ∷ [])) (step d now) q new in
          let ts : taken sys (done_in net n (order ++ now ∷ [])) q ≡ taken sys (step d now) q = taken-same sys (done_in net n (order ++ now ∷ [])) (step d now) q new in
          let old : given sys d q ≡ taken sys d q + slice_index held q = played.held_are q l in
          let room : q < length held = omega (arith, played.rings) in
          elim (gives_next sys d now q (wired net (n + 1) is) can.left) [
            | inl g ↦
                let gives : op ≡ Gives q = sym here.0 ∙ g.0 in
                elim (takes_next sys d now q (wired net (n + 1) is) can.left) [
                  | inl t ↦ absurd (let both : Gives q ≡ Takes q = sym g.0 ∙ t.0 in cc)
                  | inr t ↦ omega (arith, g.1, t.1, by.gives q room gives)
                ]
            | inr g ↦ elim (takes_next sys d now q (wired net (n + 1) is) can.left) [
              | inl t ↦ omega (arith, g.1, t.1, by.takes q room (sym here.0 ∙ t.0))
              | inr t ↦ omega (arith, g.1, t.1, by.others q room (λ (o : op ≡ Gives q). g.0 (here.0 ∙ o)) (λ (o : op ≡ Takes q). t.0 (here.0 ∙ o)))
            ]
          ];
    }

-- a take keeps what is known
pub played_took : (net : Net) (n : ℕ) (order steps held : List ℕ) (now r : ℕ) → IsProper net → IsPlayedSoFar net n order steps held →
    slice_get (slot net n now) (slice_index steps now) ≡ Some (Takes r) → 0 < slice_index held r →
    IsPlayedSoFar net n (order ++ now ∷ []) (set steps now (slice_index steps now + 1)) (set held r (slice_index held r - 1))
played_took net n order steps held now r is played e some =
    played_by net n order steps held (set held r (slice_index held r - 1)) now (Takes r) is played e
    (λ q h. let same : r ≡ q = cc in subst (λ (s : ℕ). 0 < slice_index held s) same some)
    (record {
      len = length-set held r (slice_index held r - 1);
      gives = λ q l h. absurd (cc);
      takes = λ q l h.
          let same : r ≡ q = cc in
          let at : get_or (set held r (slice_index held r - 1)) q 0 ≡ slice_index held r - 1 = ap (λ s. get_or (set held r (slice_index held r - 1)) s 0) (sym same) ∙ get_or-set_same held r (slice_index held r - 1) 0 (omega arith) in
          let was : slice_index held q ≡ slice_index held r = ap (slice_index held) (sym same) in
          omega arith;
      others = λ q l g t. get_or-set_other held r q (slice_index held r - 1) 0 (λ (same : q ≡ r). t (ap Takes (sym same)));
    })

-- and so does a give
pub played_gave : (net : Net) (n : ℕ) (order steps held : List ℕ) (now r : ℕ) → IsProper net → IsPlayedSoFar net n order steps held →
    slice_get (slot net n now) (slice_index steps now) ≡ Some (Gives r) →
    IsPlayedSoFar net n (order ++ now ∷ []) (set steps now (slice_index steps now + 1)) (set held r (slice_index held r + 1))
played_gave net n order steps held now r is played e =
    played_by net n order steps held (set held r (slice_index held r + 1)) now (Gives r) is played e
    (λ q h. absurd (cc))
    (record {
      len = length-set held r (slice_index held r + 1);
      gives = λ q l h.
          let same : r ≡ q = cc in
          let at : get_or (set held r (slice_index held r + 1)) q 0 ≡ slice_index held r + 1 = ap (λ s. get_or (set held r (slice_index held r + 1)) s 0) (sym same) ∙ get_or-set_same held r (slice_index held r + 1) 0 (omega arith) in
          let was : slice_index held q ≡ slice_index held r = ap (slice_index held) (sym same) in
          omega arith;
      takes = λ q l h. absurd (cc);
      others = λ q l g t. get_or-set_other held r q (slice_index held r + 1) 0 (λ (same : q ≡ r). g (ap Gives (sym same)));
    })

-- the actor that is held up waits, in the sense of the events
pub waits_now : (net : Net) (n : ℕ) (order steps held : List ℕ) (a r : ℕ) → IsProper net → IsPlayedSoFar net n order steps held → IsHeldUp net n steps held a r →
    Waits (net_system net (n + 1)) (done_by net (n + 1)) (done_in net n order) a r
waits_now net n order steps held a r is played up =
    let sys : System = net_system net (n + 1) in
    let here = op_now net n order steps held a (Takes r) played up.takes in
    elim (possible_or_waits sys (done_by net n) (done_by net (n + 1)) (done_in net n order) a (wired net (n + 1) is) (is_instant net n is)
    (after-le (done_by net n) order) (done_high net n order steps held played) here.1) [
      | inl can ↦ absurd (omega (arith, can.item_held r here.0, played.held_are r up.there, up.empty))
      | inr w ↦
          let waits : Waits sys (done_by net (n + 1)) (done_in net n order) a w.0 = w.1 in
          let same : Takes w.0 ≡ Takes r = sym waits.takes ∙ here.0 in
          let ring : w.0 ≡ r = cc in
          subst (Waits sys (done_by net (n + 1)) (done_in net n order) a) ring waits
    ]

pub from_is : (net : Net) (n r : ℕ) → (net_system net n).from r ≡ giver net r
unfolding net_system
from_is net n r = refl

-- the giver of an empty ring that is wanted has something left to do
pub giver_busy : (net : Net) (n : ℕ) (order steps held : List ℕ) (a r : ℕ) → IsProper net → IsPlayedSoFar net n order steps held → IsHeldUp net n steps held a r →
    slice_index steps (giver net r) < length (slot net n (giver net r))
giver_busy net n order steps held a r is played up =
    let g : ℕ = giver net r in
    let waits : Waits (net_system net (n + 1)) (done_by net (n + 1)) (done_in net n order) a r = waits_now net n order steps held a r is played up in
    let left : done_in net n order g < done_by net (n + 1) g = subst (λ (b : ℕ). done_in net n order b < done_by net (n + 1) b) (from_is net (n + 1) r) waits.giver in
    omega (arith, played.steps_are g, done_more net n g)

-- an event leaves one operation less
pub left_less : (net : Net) (n : ℕ) (steps : List ℕ) (now : ℕ) → length steps ≡ length net.actors → slice_index steps now < length (slot net n now) →
    left_in net n steps ≡ left_in net n (set steps now (slice_index steps now + 1)) + 1
unfolding left_in
left_less net n steps now len more =
    let inside : now < length net.actors = slot_within net n now (omega arith) in
    let k : ℕ = slice_index steps now in
    let new : List ℕ = set steps now (k + 1) in
    sum_to-less (length net.actors) now (λ a. length (slot net n a) - slice_index steps a) (λ a. length (slot net n a) - slice_index new a) inside
    (let x : get_or new now 0 ≡ k + 1 = get_or-set_same steps now (k + 1) 0 (omega arith) in omega arith)
    (λ a l ne. ap (λ s. length (slot net n a) - s) (sym (get_or-set_other steps now a (k + 1) 0 ne)))

-- the actor and the ring that a program reads in its lists
pub actor_here : (actors list : List Actor) (i : ℕ) (actor : Actor) → list ≡ actors → i < length actors → actor ≡ get_or list i actor → slice_get actors i ≡ Some actor
actor_here actors list i actor same l e = slice_get_read actors (length actors) i actor refl l (e ∙ ap (λ xs. get_or xs i actor) same)

pub giver_here : (net : Net) (list : List RingSpec) (r : ℕ) (ring : RingSpec) → list ≡ net.rings → r < length net.rings → (get_or list r ring).from ≡ giver net r
giver_here net list r ring same l =
    ap (λ xs. (get_or xs r ring).from) same ∙ sym (get_or-map (λ (x : RingSpec). x.from) net.rings r ring 0 l)
