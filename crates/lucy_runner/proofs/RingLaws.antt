-- What the two ends of each ring hold is what the counts say.
use Rattle.std.proofs.Common.{ℕ, zero, suc, ◌+◌, ◌≡◌, ◌++◌, List, [], ◌∷◌, length, drop, map, ap, sym, refl, ◌∙◌, arith}
use Rattle.std.specs.Prelude.{ℤ, Option, Some, slice_get}
use Rattle.std.specs.Option.{option_map}
use Rattle.std.proofs.lemmas.List.{length-map, same_lists, append-nil}
use Rattle.std.proofs.lemmas.Option.{slice_get_within, slice_get-map, get_or_from_slice_get, same_Some}
use Rattle.lucy_host.specs.Operators.{Operator}
use Rattle.lucy_host.proofs.Elements.{get_there}
use Rattle.lucy_stream.specs.States.{held}
use Rattle.lucy_net.specs.declared.net.RingSpec.{RingSpec}
use Rattle.lucy_net.specs.declared.net.Net.{Net}
use Rattle.lucy_net.specs.Schedules.{Timetable}
use Rattle.lucy_core.specs.Seen.{Seen, state_of, CanMakeCore, first_seen}
use Rattle.lucy_ring.specs.Views.{GiverView, TakerView}
use Rattle.lucy_worker.specs.declared.part.Part.{Part}
use Rattle.lucy_runner.specs.declared.place.Place.{Place}
use Rattle.lucy_runner.specs.declared.place.Ends.{Ends}
use Rattle.lucy_runner.specs.Views.{RunnerView, RingView, AreRingsIn, empty_ring, inputs_for}
use Rattle.lucy_runner.specs.Homes.{actors_by}
use Rattle.lucy_runner.specs.Crews.{seen_by, IsJoined}
use Rattle.lucy_runner.specs.Rings.{giver_in, taker_in, ring_between, ring_by, rings_by}
use Rattle.lucy_runner.specs.Standing.{HasEnds, IsStanding}
use Rattle.lucy_runner.specs.Making.{AreMade}
use Rattle.lucy_runner.proofs.SetOutLaws.{fixed_seen, first_is}
use Rattle.lucy_runner.proofs.FirstLaws.{first_held, stands_seen}

-- a ring of these items and slots
abbrev ring_of : List ℤ → ℕ → RingView
ring_of items slots = record { items = items; slots = slots }

-- two ends that have met hold what the taker holds
between_is : (o : Option GiverView) (p : Option TakerView) (g : GiverView) (t : TakerView) (items : List ℤ) (slots : ℕ) → o ≡ Some g → p ≡ Some t →
    g.given ≡ [] → t.taken ≡ [] → t.held ≡ items → g.ring.capacity ≡ slots → ring_between o p ≡ record { items = items; slots = slots }
between_is o p g t items slots e f given taken held capacity =
    ap (λ x. ring_between x p) e ∙ ap (ring_between (Some g)) f
    ∙ ap (λ xs. ring_of (drop (length t.taken) (t.held ++ xs)) g.ring.capacity) given
    ∙ ap (λ xs. ring_of (drop (length xs) (t.held ++ [])) g.ring.capacity) taken
    ∙ ap (λ xs. ring_of xs g.ring.capacity) (append-nil t.held ∙ held)
    ∙ ap (ring_of items) capacity

-- a ring whose ends have met
ring_is : (seen : Seen) (crew : List (List Part)) (places : List Place) (ends : List Ends) (r : ℕ) (spec : RingSpec) (at : Ends) → slice_get ends r ≡ Some at →
    HasEnds seen crew places ends r spec → ring_by crew places spec at ≡ ring_of (held (state_of seen) r) (spec.size + 1)
ring_is seen crew places ends r spec at e has =
    let j : IsJoined crew places ends r spec = has.joined in
    let same : j.at ≡ at = same_Some j.at at (sym j.ends_at ∙ e) in
    ap (ring_by crew places spec) (sym same)
    ∙ between_is _ _ j.g j.t (held (state_of seen) r) (spec.size + 1) (ap (λ p. giver_in p j.at.giver) j.giver_is ∙ j.giver_end) (ap (λ p. taker_in p j.at.taker) j.taker_is ∙ j.taker_end)
    has.holds.given has.holds.taken has.holds.held has.holds.capacity

-- the ring of a number
rings_count : (crew : List (List Part)) (places : List Place) (specs : List RingSpec) (ends : List Ends) → length ends ≡ length specs → length (rings_by crew places specs ends) ≡ length specs
rings_count crew places [] ends e = refl
rings_count crew places (spec ∷ specs) [] e = absurd (omega arith)
rings_count crew places (spec ∷ specs) (at ∷ ends) e = ap suc (rings_count crew places specs ends (omega arith))

rings_get : (crew : List (List Part)) (places : List Place) (specs : List RingSpec) (ends : List Ends) (r : ℕ) (spec : RingSpec) (at : Ends) → slice_get specs r ≡ Some spec → slice_get ends r ≡ Some at →
    slice_get (rings_by crew places specs ends) r ≡ Some (ring_by crew places spec at)
rings_get crew places (s ∷ specs) (a ∷ ends) zero spec at e f = ap (λ x. Some (ring_by crew places x a)) (same_Some s spec e) ∙ ap (λ x. Some (ring_by crew places spec x)) (same_Some a at f)
rings_get crew places (s ∷ specs) (a ∷ ends) (suc r) spec at e f = rings_get crew places specs ends r spec at e f
rings_get crew places [] ends r spec at e f = absurd (cc)
rings_get crew places (s ∷ specs) [] r spec at e f = absurd (cc)

-- so the rings of a runner that stands are those of its state
pub rings_stand : (seen : Seen) (before : ℕ) (crew : List (List Part)) (places : List Place) (ends : List Ends) → IsStanding seen before crew places ends →
    AreRingsIn seen (rings_by crew places seen.net.rings ends)
rings_stand seen before crew places ends standing = record {
  count = rings_count crew places seen.net.rings ends standing.ended;
  each = λ r spec ring e f.
      let (at, at_is) = get_there ends r (omega (arith, standing.ended, slice_get_within seen.net.rings r spec e)) in
      same_Some ring (ring_by crew places spec at) (sym f ∙ rings_get crew places seen.net.rings ends r spec at e at_is) ∙ ring_is seen crew places ends r spec at at_is (standing.rings r spec e);
}

-- the rings of two states of one net in which the same is held are the same
pub one_list : (was now : Seen) (xs ys : List RingView) → AreRingsIn was xs → AreRingsIn now ys → now.net ≡ was.net → ((r : ℕ) → held (state_of now) r ≡ held (state_of was) r) → ys ≡ xs
one_list was now xs ys of_was of_now net same =
    let count : length ys ≡ length xs = of_now.count ∙ ap (λ (n : Net). length n.rings) net ∙ sym of_was.count in
    same_lists ys xs count (λ r d l.
    let (y, y_is) = get_there ys r l in
    let (x, x_is) = get_there xs r (omega (arith, count)) in
    let (spec, spec_is) = get_there was.net.rings r (omega (arith, count, of_was.count)) in
    get_or_from_slice_get ys r y d y_is
    ∙ of_now.each r spec y (ap (λ (n : Net). slice_get n.rings r) net ∙ spec_is) y_is
    ∙ ap (λ items. ring_of items (spec.size + 1)) (same r)
    ∙ sym (get_or_from_slice_get xs r x d x_is ∙ of_was.each r spec x spec_is x_is))

-- where nothing is held they are empty
pub empty_rings : (seen : Seen) (rings : List RingView) → AreRingsIn seen rings → ((r : ℕ) → held (state_of seen) r ≡ []) → rings ≡ map empty_ring seen.net.rings
empty_rings seen rings of none =
    let specs : List RingSpec = seen.net.rings in
    let count : length rings ≡ length (map empty_ring specs) = of.count ∙ sym (length-map specs empty_ring) in
    same_lists rings (map empty_ring specs) count (λ r d l.
    let (ring, ring_is) = get_there rings r l in
    let (spec, spec_is) = get_there specs r (omega (arith, of.count)) in
    get_or_from_slice_get rings r ring d ring_is
    ∙ of.each r spec ring spec_is ring_is
    ∙ ap (λ items. ring_of items (spec.size + 1)) (none r)
    ∙ sym (get_or_from_slice_get (map empty_ring specs) r (empty_ring spec) d (slice_get-map empty_ring specs r ∙ ap (option_map empty_ring) spec_is)))

-- what contracts see
abbrev pub view_by : Seen → ℕ → List RingView → List (List ℕ) → RunnerView
view_by seen before rings crew = record { seen = seen; before = before; rings = rings; crew = crew }

-- a runner without an event
abbrev pub view_first : List (List ℕ) → Seen → RunnerView
view_first crew seen = view_by seen 0 (map empty_ring seen.net.rings) crew

-- what was made is one
pub made_first : (net : Net) (schedule : Timetable) (inputs : List (List ℤ)) (operators : List Operator) (instants : ℕ) (crew : List (List Part)) (places : List Place) (ends : List Ends) → CanMakeCore net schedule inputs operators instants →
    AreMade net inputs instants crew places ends →
    view_by (seen_by net schedule operators instants crew places) 0 (rings_by crew places net.rings ends) (actors_by crew)
    ≡ view_first (actors_by crew) (first_seen net schedule (inputs_for net inputs) operators instants)
made_first net schedule inputs operators instants crew places ends fixed made =
    let first : Seen = first_seen net schedule (inputs_for net inputs) operators instants in
    let rings : List RingView = rings_by crew places net.rings ends in
    let kept : CanMakeCore net schedule (inputs_for net inputs) operators instants = fixed_seen net schedule inputs operators instants fixed in
    let empty : rings ≡ map empty_ring net.rings = empty_rings first rings (rings_stand first 0 crew places ends (stands_seen net schedule inputs operators instants crew places ends fixed made))
    (first_held net schedule (inputs_for net inputs) operators instants kept) in
    ap (λ (s : Seen). view_by s 0 rings (actors_by crew)) (first_is net schedule inputs operators instants crew places ends made fixed.proper)
    ∙ ap (λ (rs : List RingView). view_by first 0 rs (actors_by crew)) empty
