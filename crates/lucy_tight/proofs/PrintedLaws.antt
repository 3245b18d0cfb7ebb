-- What is known of the printed clocks of an accepted program.
use Rattle.std.proofs.Common.{◌≡◌, ℕ, zero, suc, ◌≤◌, List, length, take, Some, inl, inr, sym, ap, ◌∙◌, subst, refl, arith}
use Rattle.std.specs.Prelude.{slice_get}
use Rattle.std.specs.List.{AllByRecursion, Contains}
use Rattle.std.proofs.lemmas.Option.{slice_get_within}
use Rattle.lucy_host.specs.Operators.{Operator}
use Rattle.lucy_place.specs.declared.entry.PlaceKind.TheVariants.{Buffer}
use Rattle.lucy_place.specs.declared.placed.PlacedNode.{PlacedNode}
use Rattle.lucy_place.specs.Standing.{at_one, Stands}
use Rattle.lucy_place.specs.Proper.{AreProper}
use Rattle.lucy_place.specs.WrittenNodes.{IsWritten}
use Rattle.lucy_need.specs.Meeting.{Assignment, alone, assigned}
use Rattle.lucy_need.specs.declared.need.Need.{Need}
use Rattle.lucy_need.specs.declared.need.Need.TheVariants.{Adapt}
use Rattle.lucy_need.specs.declared.need.Needs.{Needs}
use Rattle.lucy_need.specs.Stored.{HasWords}
use Rattle.lucy_clock.specs.declared.signature.Signature.{Signature}
use Rattle.lucy_clock.specs.declared.node_clock.NodeClock.{NodeClock}
use Rattle.lucy_clock.specs.Clocks.{clocks_of}
use Rattle.lucy_clock.specs.NodeClocks.{signatures}
use Rattle.lucy_clock.specs.Listing.{needs_of, RefusesNeeds}
use Rattle.lucy_clock.specs.declared.error.ClockError.{ClockError}
use Rattle.lucy_clock.specs.declared.error.ClockError.TheVariants as error
use Rattle.lucy_shape.specs.declared.shape.Shape.{Shape}
use Rattle.lucy_shape.specs.Fitting.{IsShapeFor, IsFitting}
use Rattle.lucy_shape.specs.Sized.{MeetsWithin}
use Rattle.lucy_word.specs.Bits.{most_bits}
use Rattle.lucy_word.specs.Adaptable.{IsSize}
use Rattle.lucy_word.specs.declared.limit.Limit.{Limit}
use Rattle.lucy_host.proofs.Elements.{get_there}
use Rattle.lucy_rates.specs.Vectors.{IsShapeOf}
use Rattle.lucy_rates.proofs.OneShape.{one_shape}
use Rattle.lucy_inference.specs.Inference.{AreInferredWords}
use Rattle.lucy_program.specs.declared.accepted.Accepted.{Accepted}
use Rattle.lucy_program.specs.declared.options.Options.{Options}
use Rattle.lucy_program.specs.Inferring.{node_needs, IsInferred}
use Rattle.lucy_program.specs.Accepting.{IsAccepted}
use Rattle.lucy_program.proofs.AcceptedLaws.{text_proper}
use Rattle.lucy_tight.specs.Tightening.{needs_at, TheBuffer}
use Rattle.lucy_tight.proofs.BufferLaws.{buffer_need}
use Rattle.lucy_tight.proofs.Smallness.{keeps_small, small_size}

module _ (ops : List Operator) (o : Options) (text : List ℕ) (a : Accepted) (is : IsAccepted ops o text a) where
  pub nodes_proper : AreProper a.placed.nodes
  nodes_proper = text_proper ops o text a.placed is.clocked.program.program

  pub clocks_count : length a.clocks.items ≡ length a.placed.nodes
  clocks_count = is.clocked.clocks.all

  -- each clock of a node has a word
  pub words_count : (i : ℕ) (n : PlacedNode) (c : NodeClock) → slice_get a.placed.nodes i ≡ Some n → slice_get a.clocks.items i ≡ Some c → length c.words ≡ clocks_of n
  words_count i n c at of = (is.clocked.clocks.each i n c at of).count

  -- and each buffer a size
  pub sizes_count : (i : ℕ) (n : PlacedNode) (c : NodeClock) → slice_get a.placed.nodes i ≡ Some n → slice_get a.clocks.items i ≡ Some c → length c.sizes ≡ length n.buffers
  sizes_count i n c at of = (is.clocked.clocks.each i n c at of).sizes.count

  module _ (node : ℕ) (n : PlacedNode) (at : slice_get a.placed.nodes node ≡ Some n) (unwritten : IsWritten n → ⊥) where
    pub clock_there : (c : NodeClock) × (slice_get a.clocks.items node ≡ Some c)
    clock_there = let within = slice_get_within a.placed.nodes node n at in let all = clocks_count in get_there a.clocks.items node (omega arith)

    inferred : (c : NodeClock) → slice_get a.clocks.items node ≡ Some c → IsInferred o (signatures (take node a.placed.nodes) (take node a.clocks.items)) n c
    inferred c of = elim ((is.clocked.clocks.each node n c at of).its) [
      | inl handed ↦ absurd (unwritten handed.0)
      | inr i ↦ i
    ]

    -- the needs of the node have a shape
    pub shape_there : (shape : Shape) × IsShapeOf (needs_at a node n) o.scale o.lead shape
    shape_there =
        let c = clock_there in
        let i = (inferred c.0 c.1).inferred in
        (i.shape, i.of_needs)

    words_in : (c : NodeClock) → slice_get a.clocks.items node ≡ Some c → (shape : Shape) → IsShapeOf (needs_at a node n) o.scale o.lead shape → AreInferredWords (needs_at a node n) shape c.words
    words_in c of shape here =
        let i = (inferred c of).inferred in
        subst (λ (s : Shape). AreInferredWords (needs_at a node n) s c.words) (one_shape (needs_at a node n) o.scale o.lead i.shape shape i.of_needs here) i.are

-- a buffer of a node that isn't written, the places that it reads and stands at, its printed size, and the needs of its node with their shape
pub record AtHand (a : Accepted) (o : Options) (node buffer from to size : ℕ) (needs : Needs) (shape : Shape) : Type 0 where
  pub accepted : (ops : List Operator) × (text : List ℕ) × IsAccepted ops o text a
  pub of : TheBuffer a node buffer
  pub from_is : from ≡ of.from
  pub to_is : to ≡ of.to
  pub size_is : size ≡ of.size
  pub unwritten : IsWritten of.n → ⊥
  pub same : needs ≡ needs_at a node of.n
  pub shaped : IsShapeOf needs o.scale o.lead shape
  pub carries : IsShapeFor needs shape
  pub words : AllByRecursion HasWords needs.list

pub at_hand : {a : Accepted} {o : Options} {node buffer from to size : ℕ} {needs : Needs} {shape : Shape} → (ops : List Operator) × (text : List ℕ) × IsAccepted ops o text a →
    (of : TheBuffer a node buffer) × (from ≡ of.from) × (to ≡ of.to) × (size ≡ of.size) → ((n : PlacedNode) → slice_get a.placed.nodes node ≡ Some n → IsWritten n → ⊥) →
    ((n : PlacedNode) → slice_get a.placed.nodes node ≡ Some n → needs ≡ needs_at a node n) → IsShapeOf needs o.scale o.lead shape → IsShapeFor needs shape → AllByRecursion HasWords needs.list →
    AtHand a o node buffer from to size needs shape
at_hand accepted at unwritten same shaped carries words = record {
  accepted = accepted;
  of = at.0;
  from_is = at.1;
  to_is = at.2;
  size_is = at.3;
  unwritten = unwritten at.0.n at.0.stands;
  same = same at.0.n at.0.stands;
  shaped = shaped;
  carries = carries;
  words = words;
}

-- the printed words keep within the printed size, which is small
module _ {a : Accepted} {o : Options} {node buffer from to size : ℕ} {needs : Needs} {shape : Shape} (h : AtHand a o node buffer from to size needs shape) where
  printed_words : AreInferredWords needs shape h.of.c.words
  printed_words =
      subst (λ (x : Needs). AreInferredWords x shape h.of.c.words) (sym h.same)
      (words_in h.accepted.0 o h.accepted.1 a h.accepted.2 node h.of.n h.of.stands h.unwritten h.of.c h.of.clocked shape (subst (λ (x : Needs). IsShapeOf x o.scale o.lead shape) h.same h.shaped))

  sized : (k : ℕ) → k ≡ buffer → IsSize (assigned h.of.c.words h.of.from) (assigned h.of.c.words h.of.to) h.of.size
  sized zero e = absurd (let none = subst (λ (j : ℕ). at_one h.of.n.buffers j ≡ Some h.of.to) (sym e) h.of.place in cc none)
  sized (suc i) e =
      (h.accepted.2.clocked.clocks.each node h.of.n h.of.c h.of.stands h.of.clocked).sizes.each i h.of.to buffer h.of.from h.of.size
      (subst (λ (j : ℕ). at_one h.of.n.buffers j ≡ Some h.of.to) (sym e) h.of.place) (subst (λ (j : ℕ). at_one h.of.c.sizes j ≡ Some h.of.size) (sym e) h.of.printed) h.of.reads

  own_need : Contains needs.list (Adapt (alone h.of.from) (alone h.of.to))
  own_need =
      subst (λ (x : Needs). Contains x.list (Adapt (alone h.of.from) (alone h.of.to))) (sym h.same)
      (buffer_need (signatures (take node a.placed.nodes) (take node a.clocks.items)) h.of.n h.of.to buffer h.of.from h.of.reads)

  pub need_there : Contains needs.list (Adapt (alone from) (alone to))
  need_there =
      subst (λ k. Contains needs.list (Adapt (alone k) (alone to))) (sym h.from_is)
      (subst (λ k. Contains needs.list (Adapt (alone h.of.from) (alone k))) (sym h.to_is) own_need)

  pub printed_small : size ≤ most_bits
  printed_small =
      let small = small_size (assigned h.of.c.words h.of.from) (assigned h.of.c.words h.of.to) h.of.size most_bits
      (keeps_small needs shape (assigned h.of.c.words) h.of.from h.of.to h.carries printed_words.earliest.earliest.is.fits own_need printed_words.short) (sized buffer refl) in
      let is = h.size_is in
      omega arith

  pub printed_kept : (w : Assignment) × IsFitting shape w × MeetsWithin needs from to size w
  printed_kept =
      let w = assigned h.of.c.words in (
        w,
        printed_words.earliest.earliest.is.fits,
        subst (λ k. MeetsWithin needs k to size w) (sym h.from_is)
            (subst (λ k. MeetsWithin needs h.of.from k size w) (sym h.to_is)
            (subst (λ k. MeetsWithin needs h.of.from h.of.to k w) (sym h.size_is) (printed_words.earliest.earliest.is.meets, (sized buffer refl).passed))),
      )

-- needs are the parts that they have
pub needs_are : (needs : Needs) (above : List Signature) (n : PlacedNode) → needs.clocks ≡ clocks_of n → needs.list ≡ needs_of above n → needs ≡ node_needs above n
needs_are needs above n clocks list =
    ap (λ (c : ℕ). let r : Needs = record { clocks = c; list = needs.list } in r) clocks
    ∙ ap (λ (l : List Need). let r : Needs = record { clocks = clocks_of n; list = l } in r) list

-- those of an accepted node pass no limit
needs_few : (ops : List Operator) (o : Options) (text : List ℕ) (a : Accepted) → IsAccepted ops o text a → (node : ℕ) (n : PlacedNode) → slice_get a.placed.nodes node ≡ Some n → (above : List Signature) →
    above ≡ signatures (take node a.placed.nodes) (take node a.clocks.items) → (l : Limit) → RefusesNeeds (needs_of above n) (error.Limit l) → ⊥
needs_few ops o text a is node n at above same l refused =
    let within = slice_get_within a.placed.nodes node n at in
    let all = clocks_count ops o text a is in
    let c = get_there a.clocks.items node (omega arith) in
    let few = (is.clocked.clocks.each node n c.0 at c.1).needs in
    elim (subst (λ s. RefusesNeeds (needs_of s n) (error.Limit l)) same refused) [
      | inl many ↦ let a = many.1 in let b = few.count in absurd (omega arith)
      | inr long ↦ let a = long.2 in let b = few.bits in absurd (omega arith)
    ]

-- a buffer by its parts
pub buffer_of : (a : Accepted) (node buffer : ℕ) (n : PlacedNode) (c : NodeClock) (i from to size : ℕ) → suc i ≡ buffer → slice_get a.placed.nodes node ≡ Some n → slice_get a.clocks.items node ≡ Some c →
    slice_get n.buffers i ≡ Some to → slice_get c.sizes i ≡ Some size → Stands n to (Buffer buffer from) → (of : TheBuffer a node buffer) × (from ≡ of.from) × (to ≡ of.to) × (size ≡ of.size)
buffer_of a node buffer n c i from to size e at of place printed reads = (
  record {
    n = n;
    stands = at;
    c = c;
    clocked = of;
    from = from;
    to = to;
    place = subst (λ (k : ℕ). at_one n.buffers k ≡ Some to) e place;
    reads = reads;
    size = size;
    printed = subst (λ (k : ℕ). at_one c.sizes k ≡ Some size) e printed;
  },
  refl,
  refl,
  refl,
)

-- the clocks of a node are there
pub clocks_there : (ops : List Operator) (o : Options) (text : List ℕ) (a : Accepted) → IsAccepted ops o text a → (node : ℕ) (n : PlacedNode) → slice_get a.placed.nodes node ≡ Some n →
    (c : NodeClock) × (slice_get a.clocks.items node ≡ Some c) × (length c.sizes ≡ length n.buffers)
clocks_there ops o text a is node n at =
    let within = slice_get_within a.placed.nodes node n at in
    let all = clocks_count ops o text a is in
    let c = get_there a.clocks.items node (omega arith) in
    (c.0, c.1, sizes_count ops o text a is node n c.0 at c.1)

pub needs_fine : (ops : List Operator) (o : Options) (text : List ℕ) (a : Accepted) → IsAccepted ops o text a → (node : ℕ) (n : PlacedNode) → slice_get a.placed.nodes node ≡ Some n → (above : List Signature) →
    above ≡ signatures (take node a.placed.nodes) (take node a.clocks.items) → (e : ClockError) → RefusesNeeds (needs_of above n) e → e ≡ error.OutOfMemory
needs_fine ops o text a is node n at above same error.OutOfMemory refused = refl
needs_fine ops o text a is node n at above same (error.Limit l) refused = absurd (needs_few ops o text a is node n at above same l refused)
