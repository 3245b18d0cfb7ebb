-- What an event leaves of the play of a firing, in the shape of its goals.
use Rattle.std.proofs.Common.{ℕ, ◌+◌, ◌-◌, ◌*◌, ◌<◌, ◌≤◌, ◌≡◌, List, [], ◌∷◌, ◌++◌, length, set, drop, ap, sym, ◌∙◌, subst, refl, inl, inr, arith, length-append, length-drop}
use Rattle.std.specs.Prelude.{Option, Some, slice_get, slice_index}
use Rattle.std.proofs.lemmas.Bool.{cases_eq, cases_lt}
use Rattle.std.proofs.lemmas.Option.{slice_get_within}
use Rattle.std.proofs.lemmas.List.{set-get_or, get_or-set_same, get_or-set_other, set_past}
use Rattle.lucy_stream.specs.Systems.{RingOp, Takes, Gives}
use Rattle.lucy_net.specs.declared.net.Actor.{Actor}
use Rattle.lucy_net.specs.declared.net.Net.{Net}
use Rattle.lucy_word.specs.Bits.{ones_to}
use Rattle.lucy_net.specs.Plans.{net_system, done_by, giver}
use Rattle.lucy_net.specs.Proper.{IsProper}
use Rattle.lucy_net.specs.declared.advance.Event.TheVariants as event
use Rattle.lucy_net.specs.declared.settle.Wait.{Wait}
use Rattle.lucy_net.specs.Instants.{slot, firing_of}
use Rattle.lucy_net.specs.Play.{IsMoved, IsStill, Becomes, IsPlayedSoFar}
use Rattle.lucy_net.specs.Waiting.{IsHeldUp, IsStack, IsKnot, IsResumed, IsPutToWait}
use Rattle.lucy_net.specs.Settling.{IsFiringOver}
use Rattle.lucy_net.proofs.NetLaws.{wired}
use Rattle.lucy_net.proofs.SlotLaws.{done_more, slot_at, slot_is, slot_ring, slot_within}
use Rattle.lucy_net.proofs.PlayLaws.{left_in, left_less, played_took, played_gave, giver_busy, from_is}
use Rattle.lucy_net.proofs.StackLaws.{stack_took, stack_gave, stack_waits, stack_knot, stack_over}

-- the operation that is next
abbrev pub next_of : Net → ℕ → List ℕ → Actor → ℕ → Option RingOp
next_of net n steps actor now = slice_get (firing_of actor (ones_to actor.firing n)) (slice_index steps now)

in_slot : (net : Net) (n : ℕ) (steps : List ℕ) (actor : Actor) (now : ℕ) → slice_get net.actors now ≡ Some actor → 0 < length (slot net n now) → slice_get (slot net n now) (slice_index steps now) ≡ next_of net n steps actor now
in_slot net n steps actor now here busy = ap (λ xs. slice_get xs (slice_index steps now)) (slot_is net n now actor here busy)

pub same_set : (steps : List ℕ) (now step : ℕ) → step ≡ slice_index steps now → set steps now step ≡ steps
same_set steps now step e = ap (set steps now) e ∙ set-get_or steps now 0

-- there is nothing left
pub went_over : (net : Net) (n : ℕ) (order steps held depth : List ℕ) (waits : List Wait) (first now : ℕ) (actor : Actor) (step : ℕ) (new_held : List ℕ) → IsProper net → IsPlayedSoFar net n order steps held → IsStack net n steps held depth waits first now →
    slice_get net.actors now ≡ Some actor → 0 < length (slot net n now) → Becomes (next_of net n steps actor now) (slice_index steps now) step held new_held event.Over →
    IsPlayedSoFar net n order (set steps now step) new_held × IsFiringOver net n first (set steps now step) depth waits
went_over net n order steps held depth waits first now actor step new_held is played stack here busy h =
    let still : IsStill (slice_index steps now) step held new_held = h.1 in
    let s : steps ≡ set steps now step = sym (same_set steps now step still.stepped) in (
      subst (λ (xs : List ℕ). IsPlayedSoFar net n order xs new_held) s (subst (IsPlayedSoFar net n order steps) (sym still.now) played),
      subst (λ (xs : List ℕ). IsFiringOver net n first xs depth waits) s (stack_over net n order steps held depth waits first now is played stack (in_slot net n steps actor now here busy ∙ h.0)),
    )

-- an event is behind
pub record Went (net : Net) (n : ℕ) (old order steps held depth : List ℕ) (waits : List Wait) (first now : ℕ) : Type 0 where
  pub played : IsPlayedSoFar net n order steps held
  pub stack : IsStack net n steps held depth waits first now
  pub busy : 0 < length (slot net n now)
  pub left : left_in net n old ≡ left_in net n steps + 1

pub went_took : (net : Net) (n : ℕ) (order steps held depth : List ℕ) (waits : List Wait) (first now : ℕ) (actor : Actor) (step : ℕ) (new_held new_order : List ℕ) → IsProper net → IsPlayedSoFar net n order steps held → IsStack net n steps held depth waits first now →
    slice_get net.actors now ≡ Some actor → 0 < length (slot net n now) → Becomes (next_of net n steps actor now) (slice_index steps now) step held new_held event.Took → new_order ≡ order ++ now ∷ [] →
    Went net n steps new_order (set steps now step) new_held depth waits first now
went_took net n order steps held depth waits first now actor step new_held new_order is played stack here busy h pushed =
    let r : ℕ = h.0 in
    let moved : IsMoved (slice_index steps now) step held new_held r (slice_index held r - 1) = h.3 in
    let at : slice_get (slot net n now) (slice_index steps now) ≡ Some (Takes r) = in_slot net n steps actor now here busy ∙ h.1 in
    let s : set steps now (slice_index steps now + 1) ≡ set steps now step = ap (set steps now) (sym moved.stepped) in
    let w : set held r (slice_index held r - 1) ≡ new_held = sym moved.now in
    record {
      played = subst (λ (xs : List ℕ). IsPlayedSoFar net n xs (set steps now step) new_held) (sym pushed) (subst (IsPlayedSoFar net n (order ++ now ∷ []) (set steps now step)) w
          (subst (λ (xs : List ℕ). IsPlayedSoFar net n (order ++ now ∷ []) xs (set held r (slice_index held r - 1))) s (played_took net n order steps held now r is played at h.2)));
      stack = subst (λ (xs : List ℕ). IsStack net n (set steps now step) xs depth waits first now) w (stack_took net n steps held depth waits first now step r (slice_index held r - 1) stack h.2);
      busy = busy;
      left = left_less net n steps now played.actors (slice_get_within (slot net n now) (slice_index steps now) (Takes r) at) ∙ ap (λ (xs : List ℕ). left_in net n xs + 1) s;
    }

ops_within : (net : Net) (n a k : ℕ) → k < length (slot net n a) → done_by net n a + k < length ((net_system net (n + 1)).ops a)
unfolding done_by
ops_within net n a k l = omega (arith, done_more net n a)

-- only the giver of a ring gives to it
gives_own : (net : Net) (n a k r : ℕ) → IsProper net → slice_get (slot net n a) k ≡ Some (Gives r) → giver net r ≡ a
gives_own net n a k r is e =
    let inside : k < length (slot net n a) = slice_get_within (slot net n a) k (Gives r) e in
    sym (from_is net (n + 1) r) ∙ (wired net (n + 1) is).giver a (done_by net n a + k) r (ops_within net n a k inside) (slot_at net n a k (Gives r) e)

pub went_gave : (net : Net) (n : ℕ) (order steps held depth : List ℕ) (waits : List Wait) (first now : ℕ) (actor : Actor) (step : ℕ) (new_held new_order : List ℕ) (r : ℕ) (new_waits : List Wait) (new_depth : List ℕ) (next : ℕ) →
    IsProper net → IsPlayedSoFar net n order steps held → IsStack net n steps held depth waits first now →
    slice_get net.actors now ≡ Some actor → 0 < length (slot net n now) → Becomes (next_of net n steps actor now) (slice_index steps now) step held new_held (event.Gave r) → new_order ≡ order ++ now ∷ [] →
    IsResumed waits new_waits depth new_depth now r next →
    Went net n steps new_order (set steps now step) new_held new_depth new_waits first next × (length waits ≤ length new_waits + 1) × (length new_waits ≤ length waits)
went_gave net n order steps held depth waits first now actor step new_held new_order r new_waits new_depth next is played stack here busy h pushed resumed =
    let moved : IsMoved (slice_index steps now) step held new_held r (slice_index held r + 1) = h.1 in
    let at : slice_get (slot net n now) (slice_index steps now) ≡ Some (Gives r) = in_slot net n steps actor now here busy ∙ h.0 in
    let s : set steps now (slice_index steps now + 1) ≡ set steps now step = ap (set steps now) (sym moved.stepped) in
    let w : set held r (slice_index held r + 1) ≡ new_held = sym moved.now in
    let gave = stack_gave net n steps held depth waits first now step r (slice_index held r + 1) new_waits new_depth next stack (gives_own net n now (slice_index steps now) r is at) resumed in (
      record {
        played = subst (λ (xs : List ℕ). IsPlayedSoFar net n xs (set steps now step) new_held) (sym pushed) (subst (IsPlayedSoFar net n (order ++ now ∷ []) (set steps now step)) w
            (subst (λ (xs : List ℕ). IsPlayedSoFar net n (order ++ now ∷ []) xs (set held r (slice_index held r + 1))) s (played_gave net n order steps held now r is played at)));
        stack = subst (λ (xs : List ℕ). IsStack net n (set steps now step) xs new_depth new_waits first next) w gave.0;
        busy = elim gave.3 [
          | inl same ↦ subst (λ (b : ℕ). 0 < length (slot net n b)) (sym same) busy
          | inr up ↦ (let t : IsHeldUp net n steps held next up.0 = up.1 in omega (arith, slice_get_within (slot net n next) (slice_index steps next) (Takes up.0) t.takes))
        ];
        left = left_less net n steps now played.actors (slice_get_within (slot net n now) (slice_index steps now) (Gives r) at) ∙ ap (λ (xs : List ℕ). left_in net n xs + 1) s;
      },
      gave.1,
      gave.2,
    )

-- the ring that is wanted is there
pub wanted_there : (net : Net) (n : ℕ) (steps held : List ℕ) (now : ℕ) (actor : Actor) (step : ℕ) (new_held : List ℕ) (r : ℕ) → IsProper net →
    slice_get net.actors now ≡ Some actor → 0 < length (slot net n now) → Becomes (next_of net n steps actor now) (slice_index steps now) step held new_held (event.Waits r) → r < length net.rings
wanted_there net n steps held now actor step new_held r is here busy h = slot_ring net n now (slice_index steps now) (Takes r) is (in_slot net n steps actor now here busy ∙ h.0)

held_up : (net : Net) (n : ℕ) (steps held : List ℕ) (now : ℕ) (actor : Actor) (step : ℕ) (new_held : List ℕ) (r : ℕ) → IsProper net →
    slice_get net.actors now ≡ Some actor → 0 < length (slot net n now) → Becomes (next_of net n steps actor now) (slice_index steps now) step held new_held (event.Waits r) → IsHeldUp net n steps held now r
held_up net n steps held now actor step new_held r is here busy h = record {
  takes = in_slot net n steps actor now here busy ∙ h.0;
  there = wanted_there net n steps held now actor step new_held r is here busy h;
  empty = h.1;
}

-- its giver is an actor that is there
pub giver_there : (net : Net) (n : ℕ) (order steps held : List ℕ) (now : ℕ) (actor : Actor) (step : ℕ) (new_held : List ℕ) (r : ℕ) → IsProper net → IsPlayedSoFar net n order steps held →
    slice_get net.actors now ≡ Some actor → 0 < length (slot net n now) → Becomes (next_of net n steps actor now) (slice_index steps now) step held new_held (event.Waits r) →
    (giver net r < length net.actors) × (0 < length (slot net n (giver net r)))
giver_there net n order steps held now actor step new_held r is played here busy h =
    let more : slice_index steps (giver net r) < length (slot net n (giver net r)) = giver_busy net n order steps held now r is played (held_up net n steps held now actor step new_held r is here busy h) in
    (slot_within net n (giver net r) (omega arith), omega arith)

pub went_waits : (net : Net) (n : ℕ) (order steps held depth : List ℕ) (waits : List Wait) (first now : ℕ) (actor : Actor) (step : ℕ) (new_held : List ℕ) (r : ℕ) (new_waits : List Wait) (new_depth : List ℕ) (next : ℕ) →
    IsProper net → IsPlayedSoFar net n order steps held → IsStack net n steps held depth waits first now →
    slice_get net.actors now ≡ Some actor → 0 < length (slot net n now) → Becomes (next_of net n steps actor now) (slice_index steps now) step held new_held (event.Waits r) →
    IsPutToWait waits new_waits depth new_depth now r → next ≡ giver net r → slice_index new_depth next ≡ 0 →
    IsPlayedSoFar net n order (set steps now step) new_held × IsStack net n (set steps now step) new_held new_depth new_waits first next × (0 < length (slot net n next)) × (left_in net n (set steps now step) ≡ left_in net n steps)
went_waits net n order steps held depth waits first now actor step new_held r new_waits new_depth next is played stack here busy h put same free =
    let still : IsStill (slice_index steps now) step held new_held = h.2 in
    let s : steps ≡ set steps now step = sym (same_set steps now step still.stepped) in
    let there = giver_there net n order steps held now actor step new_held r is played here busy h in
    let wait : Wait = record { actor = now; ring = r } in
    let free_now : slice_index (set depth now (length waits + 1)) (giver net r) ≡ 0 = ap (λ (xs : List ℕ). slice_index xs (giver net r)) (sym put.marked) ∙ ap (slice_index new_depth) (sym same) ∙ free in
    let up : IsStack net n steps held (set depth now (length waits + 1)) (waits ++ wait ∷ []) first (giver net r) =
    stack_waits net n steps held depth waits first now r wait stack (held_up net n steps held now actor step new_held r is here busy h) refl refl there.0 free_now in (
      subst (λ (xs : List ℕ). IsPlayedSoFar net n order xs new_held) s (subst (IsPlayedSoFar net n order steps) (sym still.now) played),
      subst (λ (xs : List ℕ). IsStack net n xs new_held new_depth new_waits first next) s
          (subst (λ (xs : List ℕ). IsStack net n steps xs new_depth new_waits first next) (sym still.now)
          (subst (λ (xs : List ℕ). IsStack net n steps held xs new_waits first next) (sym put.marked)
          (subst (λ (ws : List Wait). IsStack net n steps held (set depth now (length waits + 1)) ws first next) (sym put.last)
          (subst (IsStack net n steps held (set depth now (length waits + 1)) (waits ++ wait ∷ []) first) (sym same) up)))),
      subst (λ (x : ℕ). 0 < length (slot net n x)) (sym same) there.1,
      ap (left_in net n) (sym s),
    )

pub went_knot : (net : Net) (n : ℕ) (order steps held depth : List ℕ) (waits : List Wait) (first now : ℕ) (actor : Actor) (step : ℕ) (new_held : List ℕ) (r : ℕ) (new_waits : List Wait) (new_depth : List ℕ) (next : ℕ) →
    IsProper net → IsPlayedSoFar net n order steps held → IsStack net n steps held depth waits first now →
    slice_get net.actors now ≡ Some actor → 0 < length (slot net n now) → Becomes (next_of net n steps actor now) (slice_index steps now) step held new_held (event.Waits r) →
    IsPutToWait waits new_waits depth new_depth now r → next ≡ giver net r → 0 < slice_index new_depth next →
    IsPlayedSoFar net n order (set steps now step) new_held × IsKnot net n (set steps now step) new_held (drop (slice_index new_depth next - 1) new_waits)
went_knot net n order steps held depth waits first now actor step new_held r new_waits new_depth next is played stack here busy h put same marked =
    let still : IsStill (slice_index steps now) step held new_held = h.2 in
    let s : steps ≡ set steps now step = sym (same_set steps now step still.stepped) in
    let wait : Wait = record { actor = now; ring = r } in
    let d : slice_index (set depth now (length waits + 1)) (giver net r) ≡ slice_index new_depth next = ap (λ (xs : List ℕ). slice_index xs (giver net r)) (sym put.marked) ∙ ap (slice_index new_depth) (sym same) in
    let knot : IsKnot net n steps held (drop (slice_index (set depth now (length waits + 1)) (giver net r) - 1) (waits ++ wait ∷ [])) =
    stack_knot net n steps held depth waits first now r wait stack (held_up net n steps held now actor step new_held r is here busy h) refl refl (omega arith) in (
      subst (λ (xs : List ℕ). IsPlayedSoFar net n order xs new_held) s (subst (IsPlayedSoFar net n order steps) (sym still.now) played),
      subst (λ (xs : List ℕ). IsKnot net n xs new_held (drop (slice_index new_depth next - 1) new_waits)) s
          (subst (λ (xs : List ℕ). IsKnot net n steps xs (drop (slice_index new_depth next - 1) new_waits)) (sym still.now)
          (subst (λ (ws : List Wait). IsKnot net n steps held (drop (slice_index new_depth next - 1) ws)) (sym put.last)
          (subst (λ (x : ℕ). IsKnot net n steps held (drop (x - 1) (waits ++ wait ∷ []))) d knot))),
    )

grown_at : (start steps : List ℕ) (now step a : ℕ) → a ≡ now → slice_index start a ≤ slice_index steps a → slice_index steps now ≤ step → slice_index start a ≤ slice_index (set steps now step) a
grown_at start steps now step a same h le = elim (cases_lt now (length steps)) [
  | inl l ↦
      let x : slice_index (set steps now step) a ≡ step = ap (slice_index (set steps now step)) same ∙ get_or-set_same steps now step 0 l in
      let y : slice_index steps a ≡ slice_index steps now = ap (slice_index steps) same in
      omega arith
  | inr past ↦ subst (λ (xs : List ℕ). slice_index start a ≤ slice_index xs a) (sym (set_past steps now step past)) h
]

-- operations done grow
pub grown_set : (start steps : List ℕ) (now step : ℕ) → ((a : ℕ) → slice_index start a ≤ slice_index steps a) → slice_index steps now ≤ step → (a : ℕ) → slice_index start a ≤ slice_index (set steps now step) a
grown_set start steps now step h le a = elim (cases_eq a now) [
  | inr other ↦ omega (arith, h a, get_or-set_other steps now a step 0 other)
  | inl same ↦ grown_at start steps now step a same (h a) le
]

-- the measure falls
pub falls : (left new most len new_len : ℕ) → left ≡ new + 1 → len ≤ new_len + 1 → len < most → new * (most + 1) + (most - new_len) < left * (most + 1) + (most - len)
falls left new most len new_len e l room = (let x : left * (most + 1) ≡ (new + 1) * (most + 1) = ap (λ t. t * (most + 1)) e in omega arith)

-- or one more waits
pub falls_waits : (left new most len new_len : ℕ) → new ≡ left → new_len ≡ len + 1 → len < most → new * (most + 1) + (most - new_len) < left * (most + 1) + (most - len)
falls_waits left new most len new_len e l room = (let x : new * (most + 1) ≡ left * (most + 1) = ap (λ t. t * (most + 1)) e in omega arith)

pub pushed_length : (waits new_waits : List Wait) (wait : Wait) (len : ℕ) → new_waits ≡ waits ++ wait ∷ [] → len ≡ length new_waits → len ≡ length waits + 1
pushed_length waits new_waits wait len e l = omega (arith, ap length e, length-append waits (wait ∷ []))
