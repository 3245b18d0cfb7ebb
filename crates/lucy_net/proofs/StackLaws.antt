-- How the stack of waiting actors changes.
use Rattle.std.proofs.Common.{ℕ, suc, ◌+◌, ◌-◌, ◌<◌, ◌≤◌, ◌≡◌, ◌⊎◌, Bool, cond, eqb, List, [], ◌∷◌, ◌++◌, map, length, set, get_or, take, drop, ap, sym, refl, ◌∙◌, subst, inl, inr, arith, length-append}
use Rattle.std.specs.Prelude.{Some, None, slice_get, slice_index, count_by}
use Rattle.std.specs.Option.{option_map}
use Rattle.std.proofs.lemmas.Bool.{cases_eq, cases_lt, eq-eqb, ne_eqb}
use Rattle.std.proofs.lemmas.Option.{slice_get-get_or, slice_get-map, slice_get_within, get_or_from_slice_get}
use Rattle.std.proofs.lemmas.List.{length-set, length-map, length-take, length-take-le, length-drop, get_or-set_same, get_or-set_other, get_or_past, get_or-take, get_or-drop, take-map, drop-map, map-append, get_or_append_left, get_or-append-add, get_or_default, nil_from_length}
use Rattle.std.proofs.lemmas.List.Sums.{sum_by-set, sum_by-cons}
use Rattle.lucy_stream.specs.Systems.{Takes}
use Rattle.lucy_net.specs.Plans.{giver}
use Rattle.lucy_net.specs.declared.net.Net.{Net}
use Rattle.lucy_net.specs.Proper.{IsProper}
use Rattle.lucy_net.specs.declared.settle.Wait.{Wait}
use Rattle.lucy_net.specs.Instants.{slot}
use Rattle.lucy_net.specs.Play.{IsPlayedSoFar}
use Rattle.lucy_net.specs.Waiting.{IsHeldUp, actor_at, ring_at, IsStack, IsKnot, IsResumed}
use Rattle.lucy_net.specs.Settling.{IsFiringOver}
use Rattle.lucy_net.proofs.PlayLaws.{giver_busy}

-- reading a stack that grew, shrank or lost its bottom
actor_within : (waits : List Wait) (d e k : ℕ) → k < length waits → actor_at waits d k ≡ actor_at waits e k
actor_within waits d e k l = get_or_default (map (λ (w : Wait). w.actor) waits) k d e (omega (arith, length-map waits (λ (w : Wait). w.actor)))

actor_past : (waits : List Wait) (d k : ℕ) → length waits ≤ k → actor_at waits d k ≡ d
actor_past waits d k l = get_or_past (map (λ (w : Wait). w.actor) waits) k d (omega (arith, length-map waits (λ (w : Wait). w.actor)))

actor_take : (waits : List Wait) (m d e k : ℕ) → k < m → k < length waits → actor_at (take m waits) d k ≡ actor_at waits e k
actor_take waits m d e k l h =
    ap (λ xs. get_or xs k d) (sym (take-map (λ (w : Wait). w.actor) m waits)) ∙ get_or-take m (map (λ (w : Wait). w.actor) waits) k d l ∙ actor_within waits d e k h

ring_take : (waits : List Wait) (m k : ℕ) → k < m → ring_at (take m waits) k ≡ ring_at waits k
ring_take waits m k l = ap (λ xs. get_or xs k 0) (sym (take-map (λ (w : Wait). w.ring) m waits)) ∙ get_or-take m (map (λ (w : Wait). w.ring) waits) k 0 l

actor_drop : (waits : List Wait) (m d e k : ℕ) → m + k < length waits → actor_at (drop m waits) d k ≡ actor_at waits e (m + k)
actor_drop waits m d e k l =
    ap (λ xs. get_or xs k d) (sym (drop-map (λ (w : Wait). w.actor) m waits)) ∙ get_or-drop m (map (λ (w : Wait). w.actor) waits) k d ∙ actor_within waits d e (m + k) l

ring_drop : (waits : List Wait) (m k : ℕ) → ring_at (drop m waits) k ≡ ring_at waits (m + k)
ring_drop waits m k = ap (λ xs. get_or xs k 0) (sym (drop-map (λ (w : Wait). w.ring) m waits)) ∙ get_or-drop m (map (λ (w : Wait). w.ring) waits) k 0

actor_push : (waits : List Wait) (wait : Wait) (d e k : ℕ) → k < length waits → actor_at (waits ++ wait ∷ []) d k ≡ actor_at waits e k
actor_push waits wait d e k l =
    ap (λ xs. get_or xs k d) (map-append (λ (w : Wait). w.actor) waits (wait ∷ []))
    ∙ get_or_append_left (map (λ (w : Wait). w.actor) waits) (wait.actor ∷ []) d k (omega (arith, length-map waits (λ (w : Wait). w.actor))) ∙ actor_within waits d e k l

ring_push : (waits : List Wait) (wait : Wait) (k : ℕ) → k < length waits → ring_at (waits ++ wait ∷ []) k ≡ ring_at waits k
ring_push waits wait k l =
    ap (λ xs. get_or xs k 0) (map-append (λ (w : Wait). w.ring) waits (wait ∷ []))
    ∙ get_or_append_left (map (λ (w : Wait). w.ring) waits) (wait.ring ∷ []) 0 k (omega (arith, length-map waits (λ (w : Wait). w.ring)))

at_length : (xs : List ℕ) (y d k : ℕ) → k ≡ length xs → get_or (xs ++ y ∷ []) k d ≡ y
at_length xs y d k e = ap (λ n. get_or (xs ++ y ∷ []) n d) (let x : k ≡ length xs + 0 = omega arith in x) ∙ get_or-append-add xs (y ∷ []) 0 d

actor_pushed : (waits : List Wait) (wait : Wait) (d k : ℕ) → k ≡ length waits → actor_at (waits ++ wait ∷ []) d k ≡ wait.actor
actor_pushed waits wait d k e =
    ap (λ xs. get_or xs k d) (map-append (λ (w : Wait). w.actor) waits (wait ∷ [])) ∙ at_length (map (λ (w : Wait). w.actor) waits) wait.actor d k (omega (arith, length-map waits (λ (w : Wait). w.actor)))

ring_pushed : (waits : List Wait) (wait : Wait) (k : ℕ) → k ≡ length waits → ring_at (waits ++ wait ∷ []) k ≡ wait.ring
ring_pushed waits wait k e =
    ap (λ xs. get_or xs k 0) (map-append (λ (w : Wait). w.ring) waits (wait ∷ [])) ∙ at_length (map (λ (w : Wait). w.ring) waits) wait.ring 0 k (omega (arith, length-map waits (λ (w : Wait). w.ring)))

-- another actor's operation on another ring leaves one that is held up
held_up_still : (net : Net) (n : ℕ) (steps held : List ℕ) (a q now step r items : ℕ) → (a ≡ now → ⊥) → (q ≡ r → ⊥) → IsHeldUp net n steps held a q → IsHeldUp net n (set steps now step) (set held r items) a q
held_up_still net n steps held a q now step r items ne other up = record {
  takes = ap (slice_get (slot net n a)) (get_or-set_other steps now a step 0 ne) ∙ up.takes;
  there = up.there;
  empty = get_or-set_other held r q items 0 other ∙ up.empty;
}

held_up_same : (net : Net) (n : ℕ) (steps held : List ℕ) (a q b r : ℕ) → a ≡ b → q ≡ r → IsHeldUp net n steps held a q → IsHeldUp net n steps held b r
held_up_same net n steps held a q b r e f up = subst (λ (x : ℕ). IsHeldUp net n steps held x r) e (subst (IsHeldUp net n steps held a) f up)

-- none that waits is the one that goes on
apart : (net : Net) (n : ℕ) (steps held depth : List ℕ) (waits : List Wait) (first now : ℕ) → IsStack net n steps held depth waits first now → (k : ℕ) → k < length waits → actor_at waits now k ≡ now → ⊥
apart net n steps held depth waits first now stack k l e = (let x : slice_index depth (actor_at waits now k) ≡ slice_index depth now = ap (slice_index depth) e in absurd (omega (arith, stack.marks k l, stack.unmarked)))

all_zero : (depth : List ℕ) → ((a : ℕ) → slice_index depth a ≡ 0) → count_by (λ d. eqb d 0) depth ≡ length depth
all_zero [] h = refl
all_zero (d ∷ depth) h =
    let here : d ≡ 0 = h 0 in
    let one : cond {A = ℕ} (eqb d 0) 1 0 ≡ 1 = ap (λ b. cond {A = ℕ} b 1 0) (eq-eqb d 0 here) in
    let sum : count_by (λ d. eqb d 0) (d ∷ depth) ≡ cond {A = ℕ} (eqb d 0) 1 0 + count_by (λ d. eqb d 0) depth = sum_by-cons (λ (d : ℕ). cond (eqb d 0) 1 0) d depth in
    omega (arith, all_zero depth (λ a. h (suc a)))

-- nobody waits
pub stack_none : (net : Net) (n : ℕ) (steps held depth : List ℕ) (waits : List Wait) (first : ℕ) → waits ≡ [] → length depth ≡ length net.actors → ((a : ℕ) → slice_index depth a ≡ 0) → first < length net.actors →
    IsStack net n steps held depth waits first first
stack_none net n steps held depth waits first none len clear l =
    let empty : length waits ≡ 0 = ap length none in
    record {
      depths = len;
      bottom = actor_past waits first 0 (omega arith);
      each = λ k h. absurd (omega arith);
      next = λ k h. absurd (omega arith);
      marks = λ k h. absurd (omega arith);
      marked = λ a h. absurd (omega (arith, clear a));
      unmarked = clear first;
      count = omega (arith, all_zero depth clear);
      within = l;
    }

-- the one that goes on takes an item
pub stack_took : (net : Net) (n : ℕ) (steps held depth : List ℕ) (waits : List Wait) (first now step r items : ℕ) → IsStack net n steps held depth waits first now → 0 < slice_index held r →
    IsStack net n (set steps now step) (set held r items) depth waits first now
stack_took net n steps held depth waits first now step r items stack some = record {
  depths = stack.depths;
  bottom = stack.bottom;
  each = λ k h. held_up_still net n steps held (actor_at waits now k) (ring_at waits k) now step r items (apart net n steps held depth waits first now stack k h)
      (λ (e : ring_at waits k ≡ r). let x : slice_index held (ring_at waits k) ≡ slice_index held r = ap (slice_index held) e in absurd (omega (arith, (stack.each k h).empty)))
      (stack.each k h);
  next = stack.next;
  marks = stack.marks;
  marked = stack.marked;
  unmarked = stack.unmarked;
  count = stack.count;
  within = stack.within;
}

-- it gives one, for which none on the top waited
stack_gave_on : (net : Net) (n : ℕ) (steps held depth : List ℕ) (waits : List Wait) (first now step r items : ℕ) → IsStack net n steps held depth waits first now → giver net r ≡ now →
    (0 < length waits → ring_at waits (length waits - 1) ≡ r → ⊥) → IsStack net n (set steps now step) (set held r items) depth waits first now
stack_gave_on net n steps held depth waits first now step r items stack from other = record {
  depths = stack.depths;
  bottom = stack.bottom;
  each = λ k h. held_up_still net n steps held (actor_at waits now k) (ring_at waits k) now step r items (apart net n steps held depth waits first now stack k h)
      (λ (e : ring_at waits k ≡ r).
      let x : actor_at waits now (k + 1) ≡ now = sym (stack.next k h) ∙ ap (giver net) e ∙ from in
      elim (cases_lt (k + 1) (length waits)) [
        | inl below ↦ absurd (apart net n steps held depth waits first now stack (k + 1) below x)
        | inr top ↦ absurd (other (omega arith) (ap (ring_at waits) (let y : length waits - 1 ≡ k = omega arith in y) ∙ e))
      ])
      (stack.each k h);
  next = stack.next;
  marks = stack.marks;
  marked = stack.marked;
  unmarked = stack.unmarked;
  count = stack.count;
  within = stack.within;
}

is_zero : ℕ → ℕ
is_zero d = cond (eqb d 0) 1 0

zero_yes : (d : ℕ) → d ≡ 0 → is_zero d ≡ 1
unfolding is_zero
zero_yes d e = ap (λ (b : Bool). cond b 1 0) (eq-eqb d 0 e)

zero_no : (d : ℕ) → 0 < d → is_zero d ≡ 0
unfolding is_zero
zero_no d l = ap (λ (b : Bool). cond b 1 0) (ne_eqb d 0 (λ (e : d ≡ 0). absurd (omega arith)))

zeros_set : (depth : List ℕ) (a y : ℕ) → a < length depth → count_by (λ d. eqb d 0) (set depth a y) + is_zero (slice_index depth a) ≡ count_by (λ d. eqb d 0) depth + is_zero y
unfolding is_zero
zeros_set depth a y l = sum_by-set (λ (d : ℕ). cond (eqb d 0) 1 0) depth a y 0 l

pub marked_within : (depth : List ℕ) (a : ℕ) → 0 < slice_index depth a → a < length depth
marked_within depth a l = elim (cases_lt a (length depth)) [ inl h ↦ h | inr h ↦ absurd (omega (arith, get_or_past depth a 0 h)) ]

-- the top of the stack, as a program reads it
top_is : (waits list : List Wait) (now : ℕ) (wait : Wait) → list ≡ waits → Some wait ≡ slice_get list (length list - 1) →
    (0 < length waits) × (actor_at waits now (length waits - 1) ≡ wait.actor) × (ring_at waits (length waits - 1) ≡ wait.ring)
top_is waits list now wait same e =
    let k : ℕ = length waits - 1 in
    let there : slice_get waits k ≡ Some wait = sym (e ∙ ap (λ (xs : List Wait). slice_get xs (length xs - 1)) same) in (
      (let l : k < length waits = slice_get_within waits k wait there in omega arith),
      get_or_from_slice_get (map (λ (w : Wait). w.actor) waits) k wait.actor now (slice_get-map (λ (w : Wait). w.actor) waits k ∙ ap (option_map (λ (w : Wait). w.actor)) there),
      get_or_from_slice_get (map (λ (w : Wait). w.ring) waits) k wait.ring 0 (slice_get-map (λ (w : Wait). w.ring) waits k ∙ ap (option_map (λ (w : Wait). w.ring)) there),
    )

pub top_there : (waits list : List Wait) (now bound : ℕ) (wait : Wait) → list ≡ waits → Some wait ≡ slice_get list (length list - 1) → ((k : ℕ) → k < length waits → actor_at waits now k < bound) → wait.actor < bound
top_there waits list now bound wait same e all =
    let top = top_is waits list now wait same e in
    subst (λ (a : ℕ). a < bound) top.1 (all (length waits - 1) (let l = top.0 in omega arith))

-- it goes on where it waited for the ring
pub resumed_top : (waits list new_waits : List Wait) (depth : List ℕ) (now ring count : ℕ) (wait : Wait) → list ≡ waits → Some wait ≡ slice_get list (length list - 1) → wait.ring ≡ ring →
    length list ≡ count → new_waits ≡ take (count - 1) waits → IsResumed waits new_waits depth (set depth wait.actor 0) now ring wait.actor
resumed_top waits list new_waits depth now ring count wait same e is len rest =
    let top = top_is waits list now wait same e in
    record {
      waited = λ l t. (sym top.1, rest ∙ ap (λ (n : ℕ). take (n - 1) waits) (sym len ∙ ap length same), refl);
      otherwise = λ other. absurd (other top.0 (top.2 ∙ is));
    }

-- else who gave does
pub resumed_other : (waits list : List Wait) (depth : List ℕ) (now ring : ℕ) (wait : Wait) → list ≡ waits → Some wait ≡ slice_get list (length list - 1) → (wait.ring ≡ ring → ⊥) → IsResumed waits waits depth depth now ring now
resumed_other waits list depth now ring wait same e differs = record {
  waited = λ l t. absurd (differs (sym (top_is waits list now wait same e).2 ∙ t));
  otherwise = λ other. (refl, refl, refl);
}

pub resumed_none : (waits list : List Wait) (depth : List ℕ) (now ring : ℕ) → list ≡ waits → None ≡ slice_get list (length list - 1) → IsResumed waits waits depth depth now ring now
resumed_none waits list depth now ring same e = record {
  waited = λ l t. absurd (
      let k : ℕ = length waits - 1 in
      let wait : Wait = record { actor = 0; ring = 0 } in
      let some : slice_get waits k ≡ Some (get_or waits k wait) = slice_get-get_or waits k wait (omega arith) in
      let none : None ≡ slice_get waits k = e ∙ ap (λ (xs : List Wait). slice_get xs (length xs - 1)) same in
      cc
      );
  otherwise = λ other. (refl, refl, refl);
}

-- it gives the one for which the top waited, which then goes on
stack_gave_back : (net : Net) (n : ℕ) (steps held depth : List ℕ) (waits : List Wait) (first now step r items m next : ℕ) → IsStack net n steps held depth waits first now → giver net r ≡ now →
    length waits ≡ m + 1 → ring_at waits m ≡ r → next ≡ actor_at waits now m → IsStack net n (set steps now step) (set held r items) (set depth next 0) (take m waits) first next
stack_gave_back net n steps held depth waits first now step r items m next stack from len top is =
    let mark : slice_index depth next ≡ m + 1 = ap (slice_index depth) is ∙ stack.marks m (omega arith) in
    let inside : next < length depth = marked_within depth next (omega arith) in
    let short : length (take m waits) ≡ m = omega (arith, length-take m waits) in
    let other : (k : ℕ) → k < m → actor_at waits now k ≡ next → ⊥ = λ k l e. (let x : slice_index depth (actor_at waits now k) ≡ slice_index depth next = ap (slice_index depth) e in absurd (omega (arith, stack.marks k (omega arith)))) in
    record {
      depths = length-set depth next 0 ∙ stack.depths;
      bottom = elim (cases_lt 0 m) [
        | inl l ↦ actor_take waits m next now 0 l (omega arith) ∙ stack.bottom
        | inr l ↦ actor_past (take m waits) next 0 (omega arith) ∙ is ∙ ap (actor_at waits now) (let z : m ≡ 0 = omega arith in z) ∙ stack.bottom
      ];
      each = λ k h.
          let l : k < m = omega arith in
          held_up_same net n (set steps now step) (set held r items) (actor_at waits now k) (ring_at waits k) (actor_at (take m waits) next k) (ring_at (take m waits) k)
          (sym (actor_take waits m next now k l (omega arith))) (sym (ring_take waits m k l))
          (held_up_still net n steps held (actor_at waits now k) (ring_at waits k) now step r items (apart net n steps held depth waits first now stack k (omega arith))
          (λ (e : ring_at waits k ≡ r).
          let x : actor_at waits now (k + 1) ≡ now = sym (stack.next k (omega arith)) ∙ ap (giver net) e ∙ from in
          absurd (apart net n steps held depth waits first now stack (k + 1) (omega arith) x))
          (stack.each k (omega arith)));
      next = λ k h.
          let l : k < m = omega arith in
          let here : giver net (ring_at (take m waits) k) ≡ actor_at waits now (k + 1) = ap (giver net) (ring_take waits m k l) ∙ stack.next k (omega arith) in
          elim (cases_lt (k + 1) m) [
            | inl below ↦ here ∙ sym (actor_take waits m next now (k + 1) below (omega arith))
            | inr last ↦ here ∙ ap (actor_at waits now) (let z : k + 1 ≡ m = omega arith in z) ∙ sym is ∙ sym (actor_past (take m waits) next (k + 1) (omega arith))
          ];
      marks = λ k h.
          let l : k < m = omega arith in
          ap (slice_index (set depth next 0)) (actor_take waits m next now k l (omega arith)) ∙ get_or-set_other depth next (actor_at waits now k) 0 0 (other k l) ∙ stack.marks k (omega arith);
      marked = λ a h. elim (cases_eq a next) [
        | inl same ↦ absurd (let z : slice_index (set depth next 0) a ≡ 0 = ap (slice_index (set depth next 0)) same ∙ get_or-set_same depth next 0 0 inside in omega arith)
        | inr ne ↦
            let was : slice_index (set depth next 0) a ≡ slice_index depth a = get_or-set_other depth next a 0 0 ne in
            let old = stack.marked a (omega arith) in
            let d : ℕ = slice_index depth a in
            let small : d ≤ m = elim (cases_eq d (m + 1)) [
              | inl e ↦ absurd (ne (sym old.1 ∙ ap (actor_at waits now) (let z : d - 1 ≡ m = omega arith in z) ∙ sym is))
              | inr e ↦ omega (arith, old.0)
            ] in
            (omega arith, ap (λ x. actor_at (take m waits) next (x - 1)) was ∙ actor_take waits m next now (d - 1) (omega arith) (omega arith) ∙ old.1)
      ];
      unmarked = get_or-set_same depth next 0 0 inside;
      count = omega (arith, zeros_set depth next 0 inside, zero_no (slice_index depth next) (omega arith), zero_yes 0 refl, stack.count, length-set depth next 0);
      within = omega (arith, stack.depths);
    }

-- or it gives one, and then the one goes on that waited for it
pub stack_gave : (net : Net) (n : ℕ) (steps held depth : List ℕ) (waits : List Wait) (first now step r items : ℕ) (new_waits : List Wait) (new_depth : List ℕ) (next : ℕ) → IsStack net n steps held depth waits first now →
    giver net r ≡ now → IsResumed waits new_waits depth new_depth now r next →
    IsStack net n (set steps now step) (set held r items) new_depth new_waits first next × (length waits ≤ length new_waits + 1) × (length new_waits ≤ length waits) × ((next ≡ now) ⊎ ((q : ℕ) × IsHeldUp net n steps held next q))
stack_gave net n steps held depth waits first now step r items new_waits new_depth next stack from resumed =
    let m : ℕ = length waits - 1 in
    let on : (0 < length waits → ring_at waits m ≡ r → ⊥) → IsStack net n (set steps now step) (set held r items) new_depth new_waits first next × (length waits ≤ length new_waits + 1) × (length new_waits ≤ length waits) × ((next ≡ now) ⊎ ((q : ℕ) × IsHeldUp net n steps held next q)) = λ other.
    let o = resumed.otherwise other in
    let len : length new_waits ≡ length waits = ap length o.1 in (
      subst (λ (d : List ℕ). IsStack net n (set steps now step) (set held r items) d new_waits first next) (sym o.2)
          (subst (λ (w : List Wait). IsStack net n (set steps now step) (set held r items) depth w first next) (sym o.1)
          (subst (IsStack net n (set steps now step) (set held r items) depth waits first) (sym o.0) (stack_gave_on net n steps held depth waits first now step r items stack from other))),
      omega arith,
      omega arith,
      inl o.0,
    ) in
    elim (cases_lt 0 (length waits)) [
      | inr none ↦ on (λ l e. absurd (omega arith))
      | inl some ↦ elim (cases_eq (ring_at waits m) r) [
        | inr other ↦ on (λ l e. other e)
        | inl top ↦
            let o = resumed.waited some top in
            let len : length new_waits ≡ m = ap length o.1 ∙ length-take-le m waits (omega arith) in (
              subst (λ (d : List ℕ). IsStack net n (set steps now step) (set held r items) d new_waits first next) (sym o.2)
                  (subst (λ (w : List Wait). IsStack net n (set steps now step) (set held r items) (set depth next 0) w first next) (sym o.1)
                  (stack_gave_back net n steps held depth waits first now step r items m next stack from (omega arith) top o.0)),
              omega arith,
              omega arith,
              inr (ring_at waits m, held_up_same net n steps held (actor_at waits now m) (ring_at waits m) next (ring_at waits m) (sym o.0) refl (stack.each m (omega arith))),
            )
      ]
    ]

-- the stack with one more on it, whoever goes on
record IsTower (net : Net) (n : ℕ) (steps held depth : List ℕ) (waits : List Wait) (now : ℕ) : Type 0 where
  pub each : (k : ℕ) → k < length waits → IsHeldUp net n steps held (actor_at waits now k) (ring_at waits k)
  pub next : (k : ℕ) → k < length waits → giver net (ring_at waits k) ≡ actor_at waits now (k + 1)
  pub marks : (k : ℕ) → k < length waits → slice_index depth (actor_at waits now k) ≡ k + 1
  pub marked : (a : ℕ) → 0 < slice_index depth a → (slice_index depth a ≤ length waits) × (actor_at waits now (slice_index depth a - 1) ≡ a)

tower : (net : Net) (n : ℕ) (steps held depth : List ℕ) (waits : List Wait) (first now r : ℕ) (wait : Wait) → IsStack net n steps held depth waits first now → IsHeldUp net n steps held now r → wait.actor ≡ now → wait.ring ≡ r →
    IsTower net n steps held (set depth now (length waits + 1)) (waits ++ wait ∷ []) (giver net r)
tower net n steps held depth waits first now r wait stack up a b =
    let len : ℕ = length waits in
    let more : length (waits ++ wait ∷ []) ≡ len + 1 = length-append waits (wait ∷ []) in
    let next : ℕ = giver net r in
    let inside : now < length depth = omega (arith, stack.within, stack.depths) in
    let last_actor : (k : ℕ) → k ≡ len → actor_at (waits ++ wait ∷ []) next k ≡ now = λ k e. actor_pushed waits wait next k e ∙ a in
    let last_ring : (k : ℕ) → k ≡ len → ring_at (waits ++ wait ∷ []) k ≡ r = λ k e. ring_pushed waits wait k e ∙ b in
    record {
      each = λ k h. elim (cases_lt k len) [
        | inl l ↦ held_up_same net n steps held (actor_at waits now k) (ring_at waits k) (actor_at (waits ++ wait ∷ []) next k) (ring_at (waits ++ wait ∷ []) k) (sym (actor_push waits wait next now k l)) (sym (ring_push waits wait k l)) (stack.each k l)
        | inr l ↦ held_up_same net n steps held now r (actor_at (waits ++ wait ∷ []) next k) (ring_at (waits ++ wait ∷ []) k) (sym (last_actor k (omega arith))) (sym (last_ring k (omega arith))) up
      ];
      next = λ k h. elim (cases_lt k len) [
        | inr l ↦ ap (giver net) (last_ring k (omega arith)) ∙ sym (actor_past (waits ++ wait ∷ []) next (k + 1) (omega arith))
        | inl l ↦ ap (giver net) (ring_push waits wait k l) ∙ stack.next k l ∙ elim (cases_lt (k + 1) len) [
          | inl below ↦ sym (actor_push waits wait next now (k + 1) below)
          | inr last ↦ actor_past waits now (k + 1) last ∙ sym (last_actor (k + 1) (omega arith))
        ]
      ];
      marks = λ k h. elim (cases_lt k len) [
        | inl l ↦ ap (slice_index (set depth now (len + 1))) (actor_push waits wait next now k l) ∙ get_or-set_other depth now (actor_at waits now k) (len + 1) 0 (apart net n steps held depth waits first now stack k l) ∙ stack.marks k l
        | inr l ↦ ap (slice_index (set depth now (len + 1))) (last_actor k (omega arith)) ∙ get_or-set_same depth now (len + 1) 0 inside ∙ omega arith
      ];
      marked = λ x h. elim (cases_eq x now) [
        | inl same ↦
            let d : slice_index (set depth now (len + 1)) x ≡ len + 1 = ap (slice_index (set depth now (len + 1))) same ∙ get_or-set_same depth now (len + 1) 0 inside in
            (omega arith, last_actor (slice_index (set depth now (len + 1)) x - 1) (omega arith) ∙ sym same)
        | inr ne ↦
            let d : slice_index (set depth now (len + 1)) x ≡ slice_index depth x = get_or-set_other depth now x (len + 1) 0 ne in
            let old = stack.marked x (omega arith) in
            (omega (arith, old.0), ap (λ y. actor_at (waits ++ wait ∷ []) next (y - 1)) d ∙ actor_push waits wait next now (slice_index depth x - 1) (omega (arith, old.0)) ∙ old.1)
      ];
    }

-- it waits for a giver that doesn't wait
pub stack_waits : (net : Net) (n : ℕ) (steps held depth : List ℕ) (waits : List Wait) (first now r : ℕ) (wait : Wait) → IsStack net n steps held depth waits first now →
    IsHeldUp net n steps held now r → wait.actor ≡ now → wait.ring ≡ r → giver net r < length net.actors → slice_index (set depth now (length waits + 1)) (giver net r) ≡ 0 →
    IsStack net n steps held (set depth now (length waits + 1)) (waits ++ wait ∷ []) first (giver net r)
stack_waits net n steps held depth waits first now r wait stack up a b l free =
    let t : IsTower net n steps held (set depth now (length waits + 1)) (waits ++ wait ∷ []) (giver net r) = tower net n steps held depth waits first now r wait stack up a b in
    let inside : now < length depth = omega (arith, stack.within, stack.depths) in
    let more : length (waits ++ wait ∷ []) ≡ length waits + 1 = length-append waits (wait ∷ []) in
    record {
      depths = length-set depth now (length waits + 1) ∙ stack.depths;
      bottom = elim (cases_lt 0 (length waits)) [
        | inl some ↦ actor_push waits wait (giver net r) now 0 some ∙ stack.bottom
        | inr none ↦ actor_pushed waits wait (giver net r) 0 (omega arith) ∙ a ∙ sym (actor_past waits now 0 none) ∙ stack.bottom
      ];
      each = t.each;
      next = t.next;
      marks = t.marks;
      marked = t.marked;
      unmarked = free;
      count = omega (arith, zeros_set depth now (length waits + 1) inside, zero_yes (slice_index depth now) stack.unmarked, zero_no (length waits + 1) (omega arith), stack.count, length-set depth now (length waits + 1));
      within = l;
    }

-- there is room for one more
pub stack_room : (net : Net) (n : ℕ) (steps held depth : List ℕ) (waits : List Wait) (first now : ℕ) → IsStack net n steps held depth waits first now → length waits < length net.actors
stack_room net n steps held depth waits first now stack =
    let inside : now < length depth = omega (arith, stack.within, stack.depths) in
    omega (arith, zeros_set depth now 1 inside, zero_yes (slice_index depth now) stack.unmarked, zero_no 1 (omega arith), stack.count, stack.depths)

-- or for one that does
pub stack_knot : (net : Net) (n : ℕ) (steps held depth : List ℕ) (waits : List Wait) (first now r : ℕ) (wait : Wait) → IsStack net n steps held depth waits first now →
    IsHeldUp net n steps held now r → wait.actor ≡ now → wait.ring ≡ r → 0 < slice_index (set depth now (length waits + 1)) (giver net r) →
    IsKnot net n steps held (drop (slice_index (set depth now (length waits + 1)) (giver net r) - 1) (waits ++ wait ∷ []))
stack_knot net n steps held depth waits first now r wait stack up a b mark =
    let next : ℕ = giver net r in
    let all : List Wait = waits ++ wait ∷ [] in
    let d : ℕ = slice_index (set depth now (length waits + 1)) next in
    let m : ℕ = d - 1 in
    let t : IsTower net n steps held (set depth now (length waits + 1)) all next = tower net n steps held depth waits first now r wait stack up a b in
    let found = t.marked next mark in
    let whole : length (drop m all) ≡ length all - m = length-drop m all in
    let within : m < length all = omega (arith, found.0) in
    record {
      some = omega arith;
      each = λ k h. held_up_same net n steps held (actor_at all next (m + k)) (ring_at all (m + k)) (actor_at (drop m all) 0 k) (ring_at (drop m all) k)
          (sym (actor_drop all m 0 next k (omega arith))) (sym (ring_drop all m k)) (t.each (m + k) (omega arith));
      next = λ k h. ap (giver net) (ring_drop all m k) ∙ t.next (m + k) (omega arith) ∙ ap (actor_at all next) (let z : m + k + 1 ≡ m + (k + 1) = omega arith in z) ∙ sym (actor_drop all m 0 next (k + 1) (omega arith));
      closed =
          ap (giver net) (ring_drop all m (length (drop m all) - 1)) ∙ t.next (m + (length (drop m all) - 1)) (omega arith)
          ∙ actor_past all next (m + (length (drop m all) - 1) + 1) (omega arith)
          ∙ sym found.1 ∙ ap (actor_at all next) (let z : m ≡ m + 0 = omega arith in z) ∙ sym (actor_drop all m 0 next 0 (omega arith));
    }

-- or nothing is left for it to do
pub stack_over : (net : Net) (n : ℕ) (order steps held depth : List ℕ) (waits : List Wait) (first now : ℕ) → IsProper net → IsPlayedSoFar net n order steps held → IsStack net n steps held depth waits first now →
    slice_get (slot net n now) (slice_index steps now) ≡ None → IsFiringOver net n first steps depth waits
stack_over net n order steps held depth waits first now is played stack none =
    let past : length (slot net n now) ≤ slice_index steps now = elim (cases_lt (slice_index steps now) (length (slot net n now))) [
      | inl l ↦ absurd (let some : slice_get (slot net n now) (slice_index steps now) ≡ Some (get_or (slot net n now) (slice_index steps now) (Takes 0)) = slice_get-get_or (slot net n now) (slice_index steps now) (Takes 0) l in cc)
      | inr l ↦ l
    ] in
    let empty : length waits ≡ 0 = elim (cases_lt 0 (length waits)) [
      | inr l ↦ omega arith
      | inl l ↦
          let m : ℕ = length waits - 1 in
          let g : giver net (ring_at waits m) ≡ now = stack.next m (omega arith) ∙ actor_past waits now (m + 1) (omega arith) in
          let busy : slice_index steps (giver net (ring_at waits m)) < length (slot net n (giver net (ring_at waits m))) = giver_busy net n order steps held (actor_at waits now m) (ring_at waits m) is played (stack.each m (omega arith)) in
          absurd (let x : slice_index steps now < length (slot net n now) = subst (λ (b : ℕ). slice_index steps b < length (slot net n b)) g busy in omega arith)
    ] in
    let same : now ≡ first = sym (actor_past waits now 0 (omega arith)) ∙ stack.bottom in
    let full : slice_index steps now ≡ length (slot net n now) = omega (arith, played.within now) in
    record {
      done = subst (λ (b : ℕ). slice_index steps b ≡ length (slot net n b)) same full;
      depths = stack.depths;
      unmarked = λ a. elim (cases_lt 0 (slice_index depth a)) [ inl l ↦ absurd (omega (arith, (stack.marked a l).0)) | inr l ↦ omega arith ];
      none = nil_from_length waits empty;
    }
