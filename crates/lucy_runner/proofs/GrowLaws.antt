-- Room and more to do, part by part and seat by seat.
use Rattle.std.proofs.Common.{ℕ, ◌+◌, ◌-◌, ◌<◌, ◌≤◌, ◌≡◌, List, [], ◌∷◌, ◌++◌, length, get_or, set, ap, sym, refl, ◌∙◌, subst, arith, ◌^◌}
use Rattle.std.specs.Prelude.{ℤ, All, Some, slice_get, vec_capacity}
use Rattle.std.proofs.lemmas.Option.{slice_get_within, slice_get-get_or, get_or_from_slice_get}
use Rattle.std.proofs.lemmas.List.{length-map, length-set, get_or_default}
use Rattle.lucy_word.specs.Bits.{ones_to}
use Rattle.lucy_net.specs.declared.kind.ActorKind.{ActorKind}
use Rattle.lucy_net.specs.declared.kind.ActorKind.TheVariants as kind
use Rattle.lucy_worker.specs.declared.part.Part.{Part}
use Rattle.lucy_worker.specs.Growing.{HasSpared, HasSpare, CanExtend, IsExtended}
use Rattle.lucy_worker.specs.News.{HasItems, HasRoom}
use Rattle.lucy_runner.specs.declared.seat.Seat.{Seat}
use Rattle.lucy_runner.specs.Crews.{seated, crew_of}
use Rattle.lucy_runner.specs.Growths.{added_for, HaveGrown, room_for, MayGrow, HasSpace, AreSpared, AreExtended, OfEach, AreFew, HaveSpared}
use Rattle.lucy_runner.proofs.TurningLaws.{crew_at, crew_get}
use Rattle.lucy_runner.proofs.StepLaws.{IsChangedTo, one_changed, cut_short}

pub same_spared : (p : Part) → HasSpared p p
same_spared p = record { rest = refl; input = refl; output = refl; input_room = omega arith; output_room = omega arith }

-- what was made for the old part is there for the same one with more room
pub space_of : (added : List (List ℤ)) (instants items room : ℕ) (p q : Part) → HasSpared p q → items ≡ length (added_for p.actor.kind added) → room ≡ room_for p.actor.kind (ones_to p.actor.firing instants - p.state.quota) → HasSpare items room q →
    HasSpace added instants q
space_of added instants items room p q spared is also spare =
    let same : length (added_for q.actor.kind added) ≡ length (added_for p.actor.kind added) = ap (λ (y : Part). length (added_for y.actor.kind added)) spared.rest in
    let other : room_for q.actor.kind (ones_to q.actor.firing instants - q.state.quota) ≡ room_for p.actor.kind (ones_to p.actor.firing instants - p.state.quota) =
    ap (λ (y : Part). room_for y.actor.kind (ones_to y.actor.firing instants - y.state.quota)) spared.rest in
    (omega (arith, spare.0, same, is), omega (arith, spare.1, other, also))

-- with that room it can take up what it gets
has_room : (what : ActorKind) (left items room : ℕ) → items + room_for what left ≤ room → HasRoom what left 0 room
has_room (kind.Output output) left items room h = omega arith
has_room what left items room h = tt

pub can_extend : (added : List (List ℤ)) (instants : ℕ) (items : List ℤ) (p : Part) → MayGrow added instants p → HasSpace added instants p → items ≡ added_for p.actor.kind added → CanExtend p items instants
can_extend added instants items p may space is = subst (λ (xs : List ℤ). CanExtend p xs instants) (sym is) (record {
  done = may.done;
  more = may.more;
  early = may.early;
  input_room = space.0;
  output_room = has_room p.actor.kind (ones_to p.actor.firing instants - p.state.quota) (length p.output.items) (vec_capacity p.output) space.1;
  items = may.items;
})

-- a part that got room, and one that got more to do
abbrev pub WithSpace : List (List ℤ) → ℕ → Part → Part → Type 0
WithSpace added instants p q = HasSpared p q × HasSpace added instants q

abbrev pub WithMore : List (List ℤ) → ℕ → Part → Part → Type 0
WithMore added instants p q = IsExtended p (added_for p.actor.kind added) instants q

-- a seat all of whose parts did
abbrev pub SeatSpared : Seat → Seat → Type 0
SeatSpared x y = AreSpared x.worker.parts y.worker.parts

abbrev pub SeatSpaced : List (List ℤ) → ℕ → Seat → Seat → Type 0
SeatSpaced added instants x y = SeatSpared x y × All (HasSpace added instants) y.worker.parts

abbrev pub SeatGrown : List (List ℤ) → ℕ → Seat → Seat → Type 0
SeatGrown added instants x y = AreExtended added instants x.worker.parts y.worker.parts

pub same_parts : (ps : List Part) → AreSpared ps ps
same_parts ps = record { as_many = refl; each = λ k d l. same_spared (get_or ps k d) }

-- one part more got room
pub space_more : (added : List (List ℤ)) (instants k items room : ℕ) (ps qs next : List Part) (p q : Part) → IsChangedTo (WithSpace added instants) ps qs k → k < length qs → p ≡ get_or qs k p → HasSpared (get_or qs k p) q →
    items ≡ length (added_for p.actor.kind added) → room ≡ room_for p.actor.kind (ones_to p.actor.firing instants - p.state.quota) → HasSpare items room q → next ≡ set qs k q → IsChangedTo (WithSpace added instants) ps next (k + 1)
space_more added instants k items room ps qs next p q to l is one enough also spare e =
    let has : HasSpared p q = subst (λ (x : Part). HasSpared x q) (sym is) one in
    subst (λ (zs : List Part). IsChangedTo (WithSpace added instants) ps zs (k + 1)) (sym e)
    (one_changed (WithSpace added instants) ps qs k p q to l is (has, space_of added instants items room p q has enough also spare))

-- or was refused a part of it
pub space_short : (added : List (List ℤ)) (instants k : ℕ) (ps qs next : List Part) (p q : Part) → IsChangedTo (WithSpace added instants) ps qs k → k < length qs → p ≡ get_or qs k p → HasSpared (get_or qs k p) q → next ≡ set qs k q → AreSpared ps next
space_short added instants k ps qs next p q to l is one e =
    let has : HasSpared p q = subst (λ (x : Part). HasSpared x q) (sym is) one in
    subst (AreSpared ps) (sym e) (record {
      as_many = length-set qs k q ∙ to.as_many;
      each = cut_short (WithSpace added instants) HasSpared ps qs k p q (λ (a b : Part) (w : WithSpace added instants a b). w.0) same_spared to l is has;
    })

-- one part more got more to do
pub more_more : (added : List (List ℤ)) (instants k : ℕ) (items : List ℤ) (ps qs next : List Part) (p q : Part) → IsChangedTo (WithMore added instants) ps qs k → k < length qs → p ≡ get_or qs k p → items ≡ added_for p.actor.kind added →
    IsExtended (get_or qs k p) items instants q → next ≡ set qs k q → IsChangedTo (WithMore added instants) ps next (k + 1)
more_more added instants k items ps qs next p q to l is added_is one e =
    let own : IsExtended p items instants q = subst (λ (x : Part). IsExtended x items instants q) (sym is) one in
    subst (λ (zs : List Part). IsChangedTo (WithMore added instants) ps zs (k + 1)) (sym e)
    (one_changed (WithMore added instants) ps qs k p q to l is (subst (λ (xs : List ℤ). IsExtended p xs instants q) added_is own))

pub can_extend_at : (added : List (List ℤ)) (instants k : ℕ) (items : List ℤ) (ps qs : List Part) (p d : Part) → IsChangedTo (WithMore added instants) ps qs k → k < length qs → p ≡ get_or qs k p → items ≡ added_for p.actor.kind added →
    All (MayGrow added instants) ps → All (HasSpace added instants) ps → CanExtend (get_or qs k d) items instants
can_extend_at added instants k items ps qs p d to l is added_is may space =
    let m : k < length ps = omega (arith, to.as_many) in
    let same : get_or qs k d ≡ get_or ps k d = to.rest k d (omega arith) in
    let own : p ≡ get_or ps k d = is ∙ get_or_default qs k p d l ∙ same in
    subst (λ (x : Part). CanExtend x items instants) (sym same)
    (can_extend added instants items (get_or ps k d) (may k d m) (space k d m) (added_is ∙ ap (λ (y : Part). added_for y.actor.kind added) own))

-- of a property of the parts of all seats, that of one seat's
pub of_seat : (has : Part → Type 0) (seats : List Seat) (s : ℕ) (d : Seat) → OfEach has (crew_of seats) → s < length seats → All has (get_or seats s d).worker.parts
of_seat has seats s d each l = λ k e m.
    (let ps : List Part = seated (get_or seats s d) in
    each s k ps (get_or ps k e) (crew_at seats s d l) (slice_get-get_or ps k e m))

pub few_seated : (seats : List Seat) (s : ℕ) (d : Seat) → AreFew (crew_of seats) → s < length seats → length (get_or seats s d).worker.parts < 2 ^ 32
few_seated seats s d few l = few s (seated (get_or seats s d)) (crew_at seats s d l)

-- what holds of the seats before and after holds of their parts
pub of_crews : (P : List Part → List Part → Type 0) (before after : List Seat) (s : ℕ) (ps qs : List Part) → ((k : ℕ) (d : Seat) → k < length before → P (seated (get_or before k d)) (seated (get_or after k d))) →
    slice_get (crew_of before) s ≡ Some ps → slice_get (crew_of after) s ≡ Some qs → P ps qs
of_crews P [] after s ps qs each e f = absurd (cc)
of_crews P (x ∷ before) after s ps qs each e f =
    let l : s < length (x ∷ before) = omega (arith, slice_get_within (crew_of (x ∷ before)) s ps e, length-map (x ∷ before) seated) in
    subst (λ (p : List Part). P p qs) (crew_get (x ∷ before) s x ps e) (subst (λ (q : List Part). P (seated (get_or (x ∷ before) s x)) q) (crew_get after s x qs f) (each s x l))

pub lengths : (before after : List Seat) → length after ≡ length before → length (crew_of after) ≡ length (crew_of before)
lengths before after len = length-map after seated ∙ len ∙ sym (length-map before seated)

pub all_spared : (before after : List Seat) → length after ≡ length before → ((k : ℕ) (d : Seat) → k < length before → SeatSpared (get_or before k d) (get_or after k d)) → HaveSpared (crew_of before) (crew_of after)
all_spared before after len each = record { seats = lengths before after len; each = λ s ps qs e f. of_crews AreSpared before after s ps qs each e f }

pub all_spaced : (added : List (List ℤ)) (instants : ℕ) (after : List Seat) → ((k : ℕ) (d : Seat) → k < length after → All (HasSpace added instants) (get_or after k d).worker.parts) → OfEach (HasSpace added instants) (crew_of after)
all_spaced added instants after each s k ps p e f =
    let all : All (HasSpace added instants) ps = of_crews (λ (x y : List Part). All (HasSpace added instants) y) after after s ps ps each e e in
    subst (HasSpace added instants) (get_or_from_slice_get ps k p p f) (all k p (slice_get_within ps k p f))

pub all_grown : (added : List (List ℤ)) (instants : ℕ) (before after : List Seat) → length after ≡ length before → ((k : ℕ) (d : Seat) → k < length before → SeatGrown added instants (get_or before k d) (get_or after k d)) →
    HaveGrown (crew_of before) (crew_of after) added instants
all_grown added instants before after len each =
    let of : (s : ℕ) (ps qs : List Part) → slice_get (crew_of before) s ≡ Some ps → slice_get (crew_of after) s ≡ Some qs → AreExtended added instants ps qs =
    λ s ps qs e f. of_crews (AreExtended added instants) before after s ps qs each e f in
    record {
      seats = lengths before after len;
      counts = λ s ps qs e f. (of s ps qs e f).as_many;
      parts = λ s k ps qs p q e f c d.
          (let one : IsExtended (get_or ps k p) (added_for (get_or ps k p).actor.kind added) instants (get_or qs k p) = (of s ps qs e f).each k p (slice_get_within ps k p c) in
          subst (λ (y : Part). IsExtended p (added_for p.actor.kind added) instants y) (get_or_from_slice_get qs k q p d)
          (subst (λ (x : Part). IsExtended x (added_for x.actor.kind added) instants (get_or qs k p)) (get_or_from_slice_get ps k p p c) one));
    }

-- the part that one with more room was
pub record WasSpared (crew : List (List Part)) (s k : ℕ) (q : Part) : Type 0 where
  pub parts : List Part
  pub seat : slice_get crew s ≡ Some parts
  pub was : Part
  pub there : slice_get parts k ≡ Some was
  pub has : HasSpared was q

pub was_spared : (crew spared : List (List Part)) (s k : ℕ) (qs : List Part) (q : Part) → HaveSpared crew spared → slice_get spared s ≡ Some qs → slice_get qs k ≡ Some q → WasSpared crew s k q
was_spared crew spared s k qs q h f d =
    let ps : List Part = get_or crew s [] in
    let e : slice_get crew s ≡ Some ps = slice_get-get_or crew s [] (omega (arith, slice_get_within spared s qs f, h.seats)) in
    let all : AreSpared ps qs = h.each s ps qs e f in
    let l : k < length ps = omega (arith, slice_get_within qs k q d, all.as_many) in
    record {
      parts = ps;
      seat = e;
      was = get_or ps k q;
      there = slice_get-get_or ps k q l;
      has = subst (λ (y : Part). HasSpared (get_or ps k q) y) (get_or_from_slice_get qs k q q d) (all.each k q l);
    }

-- with more room the parts may get as much
pub few_still : (crew spared : List (List Part)) → HaveSpared crew spared → AreFew crew → AreFew spared
few_still crew spared h few s qs f =
    let ps : List Part = get_or crew s [] in
    let e : slice_get crew s ≡ Some ps = slice_get-get_or crew s [] (omega (arith, slice_get_within spared s qs f, h.seats)) in
    omega (arith, few s ps e, (h.each s ps qs e f).as_many)

pub may_still : (added : List (List ℤ)) (instants : ℕ) (crew spared : List (List Part)) → HaveSpared crew spared → OfEach (MayGrow added instants) crew → OfEach (MayGrow added instants) spared
may_still added instants crew spared h may s k qs q f d =
    let w : WasSpared crew s k q = was_spared crew spared s k qs q h f d in
    let p : Part = w.was in
    let one : MayGrow added instants p = may s k w.parts p w.seat w.there in
    let count : length q.input.items ≡ length p.input.items = ap (λ (xs : List ℤ). length xs) w.has.input in
    subst (MayGrow added instants) (sym w.has.rest) (record {
      done = one.done;
      more = one.more;
      early = one.early;
      items = subst (λ (n : ℕ). HasItems p.actor.kind (ones_to p.actor.firing instants) (n + length (added_for p.actor.kind added))) (sym count) one.items;
    })

-- and what they got then, they got from the first
extended_from : (added : List ℤ) (instants : ℕ) (p q r : Part) → HasSpared p q → IsExtended q added instants r → IsExtended p added instants r
extended_from added instants p q r spared grown =
    let same : Part = record p { input = q.input; output = q.output } in
    let own : IsExtended same added instants r = subst (λ (y : Part). IsExtended y added instants r) spared.rest grown in
    record {
      rest = own.rest;
      input = own.input ∙ ap (λ (xs : List ℤ). xs ++ added) spared.input;
      output = own.output;
      output_room = omega (arith, own.output_room, spared.output_room);
      quota = own.quota;
      fired = own.fired;
      state = own.state;
    }

pub grown_from : (added : List (List ℤ)) (instants : ℕ) (crew spared grown : List (List Part)) → HaveSpared crew spared → HaveGrown spared grown added instants → HaveGrown crew grown added instants
grown_from added instants crew spared grown h grows =
    let middle : (s : ℕ) (ps : List Part) → slice_get crew s ≡ Some ps → slice_get spared s ≡ Some (get_or spared s []) = λ s ps e. slice_get-get_or spared s [] (omega (arith, slice_get_within crew s ps e, h.seats)) in
    record {
      seats = grows.seats ∙ h.seats;
      counts = λ s ps rs e g. grows.counts s (get_or spared s []) rs (middle s ps e) g ∙ (h.each s ps (get_or spared s []) e (middle s ps e)).as_many;
      parts = λ s k ps rs p r e g c d.
          (let qs : List Part = get_or spared s [] in
          let f : slice_get spared s ≡ Some qs = middle s ps e in
          let all : AreSpared ps qs = h.each s ps qs e f in
          let l : k < length ps = slice_get_within ps k p c in
          let q : Part = get_or qs k p in
          let there : slice_get qs k ≡ Some q = slice_get-get_or qs k p (omega (arith, all.as_many)) in
          let spared_here : HasSpared p q = subst (λ (x : Part). HasSpared x q) (get_or_from_slice_get ps k p p c) (all.each k p l) in
          let more : IsExtended q (added_for q.actor.kind added) instants r = grows.parts s k qs rs q r f g there d in
          extended_from (added_for p.actor.kind added) instants p q r spared_here
          (subst (λ (xs : List ℤ). IsExtended q xs instants r) (ap (λ (y : Part). added_for y.actor.kind added) spared_here.rest) more));
    }
