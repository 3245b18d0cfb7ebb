-- What words that fit a shape of a node's needs and meet them are to the node, beneath the printed clocks of the nodes above it.
use Rattle.std.proofs.Common.{◌≡◌, ℕ, zero, suc, ◌<◌, ◌≤◌, List, length, take, Some, ap, sym, ◌∙◌, subst, arith}
use Rattle.std.specs.Prelude.{slice_get}
use Rattle.std.proofs.lemmas.Option.{same_Some, slice_get_within}
use Rattle.lucy_host.specs.Operators.{Operator}
use Rattle.lucy_word.specs.Bits.{Bits}
use Rattle.lucy_word.specs.Adaptable.{IsSize}
use Rattle.lucy_host.proofs.Elements.{get_there}
use Rattle.lucy_place.specs.declared.entry.PlaceKind.TheVariants.{Buffer}
use Rattle.lucy_place.specs.declared.placed.PlacedNode.{PlacedNode}
use Rattle.lucy_place.specs.Standing.{at_one, bound_of, Stands}
use Rattle.lucy_place.specs.Proper.{IsProperNode, IsProperKind}
use Rattle.lucy_place.proofs.NodeLaws.{at_one_within}
use Rattle.lucy_need.specs.Meeting.{Assignment, MeetsAll, assigned}
use Rattle.lucy_need.specs.declared.need.Needs.{Needs}
use Rattle.lucy_check.proofs.OneVerdict.{one_size}
use Rattle.lucy_clock.specs.declared.signature.Signature.{Signature}
use Rattle.lucy_clock.specs.declared.node_clock.NodeClock.{NodeClock}
use Rattle.lucy_clock.specs.Clocks.{AreSignatures, clocks_of}
use Rattle.lucy_clock.specs.NodeClocks.{signatures, AreSizes}
use Rattle.lucy_clock.specs.WellClocked.{KeepsRule, KeepsBound, IsWellClocked}
use Rattle.lucy_clock.proofs.BoundLaws.{size_bounded}
use Rattle.lucy_clock.proofs.CallerLaws.{above_fit}
use Rattle.lucy_clock.proofs.NeedLaws.{rules_law}
use Rattle.lucy_shape.specs.declared.shape.Shape.{Shape}
use Rattle.lucy_shape.specs.Fitting.{FitsShape, IsFitting}
use Rattle.lucy_shape.specs.Sized.{HasSizeWithin, MeetsWithin}
use Rattle.lucy_program.specs.declared.accepted.Accepted.{Accepted}
use Rattle.lucy_program.specs.declared.options.Options.{Options}
use Rattle.lucy_program.specs.Accepting.{IsAccepted}
use Rattle.lucy_tight.specs.Tightening.{needs_at}
use Rattle.lucy_tight.specs.Measured.{AreAdaptable}
use Rattle.lucy_tight.proofs.BufferLaws.{operand_one}
use Rattle.lucy_tight.proofs.PrintedLaws.{AtHand, nodes_proper, clocks_count, words_count}

-- the node is well clocked by them
module _ (ops : List Operator) (o : Options) (text : List ℕ) (a : Accepted) (is : IsAccepted ops o text a) (node : ℕ) (n : PlacedNode) (at : slice_get a.placed.nodes node ≡ Some n) where
  ports : AreSignatures (take node a.placed.nodes) (signatures (take node a.placed.nodes) (take node a.clocks.items))
  ports =
      let within = slice_get_within a.placed.nodes node n at in
      let count = clocks_count ops o text a is in
      above_fit node a.placed.nodes a.clocks.items (omega arith) (omega arith) (nodes_proper ops o text a is) (words_count ops o text a is)

  pub node_proper : IsProperNode (take node a.placed.nodes) n
  node_proper = nodes_proper ops o text a is node n at

  pub fits_well : (needs : Needs) (shape : Shape) (words : List Bits) → needs ≡ needs_at a node n → length shape.clocks ≡ needs.clocks → IsFitting shape (assigned words) → MeetsAll (assigned words) needs.list →
      IsWellClocked (signatures (take node a.placed.nodes) (take node a.clocks.items)) n (assigned words)
  fits_well needs shape words same clocks fits meets =
      let count : length shape.clocks ≡ clocks_of n = clocks ∙ ap (λ (x : Needs). x.clocks) same in
      (rules_law (assigned words) (take node a.placed.nodes) (signatures (take node a.placed.nodes) (take node a.clocks.items)) n node_proper ports
      (λ c l. fits.words c (subst (λ k. c < k) (sym count) l)) fits.base).0 (subst (λ (x : Needs). MeetsAll (assigned words) x.list) same meets)

  -- and other words by which it is, and which fit the shape, meet the needs
  pub well_fits : (needs : Needs) (shape : Shape) (w : Assignment) → needs ≡ needs_at a node n → length shape.clocks ≡ needs.clocks → FitsShape w shape →
      IsWellClocked (signatures (take node a.placed.nodes) (take node a.clocks.items)) n w → IsFitting shape w × MeetsAll w needs.list
  well_fits needs shape w same clocks fits well =
      let count : length shape.clocks ≡ clocks_of n = clocks ∙ ap (λ (x : Needs). x.clocks) same in (
        record { words = λ c l. well.words c (subst (λ k. c < k) count l); base = well.base; fits = fits },
        subst (λ (x : Needs). MeetsAll w x.list) (sym same)
            ((rules_law w (take node a.placed.nodes) (signatures (take node a.placed.nodes) (take node a.clocks.items)) n node_proper ports well.words well.base).1 well),
      )

-- so each of its buffers has a size
pub well_adaptable : (nodes : List PlacedNode) (above : List Signature) (n : PlacedNode) (words : List Bits) → IsProperNode nodes n → length words ≡ clocks_of n → IsWellClocked above n (assigned words) → AreAdaptable n words
well_adaptable nodes above n words proper count well p k e stands =
    let own = at_one_within n.places p stands.0 stands.1 in
    let kind = subst (IsProperKind n p) stands.2 (proper.kinds p stands.0 stands.1) in
    let operand = kind.2.1 in
    let within = own.1 in
    (omega arith, omega arith, subst (KeepsRule (assigned words) p) stands.2 (well.forms p stands.0 stands.1))

-- each size keeps its bound
pub well_bounded : (nodes : List PlacedNode) (above : List Signature) (n : PlacedNode) (c : NodeClock) → IsProperNode nodes n → IsWellClocked above n (assigned c.words) → AreSizes n c →
    (k most size : ℕ) → bound_of n k ≡ Some most → at_one c.sizes k ≡ Some size → size ≤ most
well_bounded nodes above n c proper well sizes zero most size bound at = absurd (cc at)
well_bounded nodes above n c proper well sizes (suc i) most size bound at =
    let within = slice_get_within c.sizes i size at in
    let place = get_there n.buffers i (omega (arith, sizes.count)) in
    let own = proper.buffers (suc i) place.0 place.1 in
    let keeps = subst (λ b. KeepsBound b (assigned c.words own.0) (assigned c.words place.0)) bound (well.bounds place.0 (suc i) own.0 own.1) in
    size_bounded (assigned c.words own.0) (assigned c.words place.0) most size keeps (sizes.each i place.0 (suc i) own.0 size place.1 at own.1)

-- and that of a buffer is its own
pub own_size : (n : PlacedNode) (c : NodeClock) (buffer from to least : ℕ) → AreSizes n c → at_one n.buffers buffer ≡ Some to → Stands n to (Buffer buffer from) → IsSize (assigned c.words from) (assigned c.words to) least →
    at_one c.sizes buffer ≡ Some least
own_size n c zero from to least sizes at stands is = absurd (cc at)
own_size n c (suc i) from to least sizes at stands is =
    let within = slice_get_within n.buffers i to at in
    let own = get_there c.sizes i (omega (arith, sizes.count)) in
    own.1 ∙ ap Some (one_size (assigned c.words from) (assigned c.words to) own.0 least (sizes.each i to (suc i) from own.0 at own.1 stands) is)

-- the node of a buffer
module _ {a : Accepted} {o : Options} {node buffer from to size : ℕ} {needs : Needs} {shape : Shape} (h : AtHand a o node buffer from to size needs shape)
    (n : PlacedNode) (there : slice_get a.placed.nodes node ≡ Some n) where
  pub node_is : h.of.n ≡ n
  node_is = same_Some h.of.n n (sym h.of.stands ∙ there)

  needs_same : needs ≡ needs_at a node n
  needs_same = h.same ∙ ap (λ (m : PlacedNode). needs_at a node m) node_is

  pub found_well : (words : List Bits) → IsFitting shape (assigned words) → MeetsAll (assigned words) needs.list → IsWellClocked (signatures (take node a.placed.nodes) (take node a.clocks.items)) n (assigned words)
  found_well words = fits_well h.accepted.0 o h.accepted.1 a h.accepted.2 node n there needs shape words needs_same h.carries.clocks

  pub found_adaptable : (words : List Bits) → length words ≡ length shape.clocks → IsFitting shape (assigned words) → MeetsAll (assigned words) needs.list → AreAdaptable n words
  found_adaptable words count fits meets =
      well_adaptable (take node a.placed.nodes) (signatures (take node a.placed.nodes) (take node a.clocks.items)) n words (node_proper h.accepted.0 o h.accepted.1 a h.accepted.2 node n there)
      (count ∙ h.carries.clocks ∙ ap (λ (x : Needs). x.clocks) needs_same) (found_well words fits meets)

  -- other words by which it is well clocked, which fit the shape, and at which the buffer has a size
  pub well_within : (w : Assignment) (other own most : ℕ) → at_one n.buffers buffer ≡ Some own → Stands n own (Buffer buffer other) → IsWellClocked (signatures (take node a.placed.nodes) (take node a.clocks.items)) n w → FitsShape w shape →
      IsSize (w other) (w own) most → IsFitting shape w × MeetsWithin needs from to most w
  well_within w other own most place reads well fits is =
      let to_is : to ≡ own = h.to_is ∙ same_Some h.of.to own (sym h.of.place ∙ ap (λ (m : PlacedNode). at_one m.buffers buffer) node_is ∙ place) in
      let stands = subst (λ p. Stands n p (Buffer buffer h.of.from)) (sym h.to_is ∙ to_is) (subst (λ m. Stands m h.of.to (Buffer buffer h.of.from)) node_is h.of.reads) in
      let from_is : from ≡ other = h.from_is ∙ operand_one n own buffer h.of.from buffer other stands reads in
      let fit = well_fits h.accepted.0 o h.accepted.1 a h.accepted.2 node n there needs shape w needs_same h.carries.clocks fits well in
      (fit.0, (fit.1, subst (λ k. HasSizeWithin (w k) (w to) most) (sym from_is) (subst (λ k. HasSizeWithin (w other) (w k) most) (sym to_is) is.passed)))

-- clocks that are found for a buffer
pub record AreFound (a : Accepted) (o : Options) (node buffer from to size : ℕ) (needs : Needs) (shape : Shape) (least : ℕ) (c : NodeClock) : Type 0 where
  pub hand : AtHand a o node buffer from to size needs shape
  pub fits : IsFitting shape (assigned c.words)
  pub meets : MeetsAll (assigned c.words) needs.list
  pub is : IsSize (assigned c.words from) (assigned c.words to) least
  pub sizes : AreSizes hand.of.n c

module _ {a : Accepted} {o : Options} {node buffer from to size : ℕ} {needs : Needs} {shape : Shape} {least : ℕ} {c : NodeClock} (f : AreFound a o node buffer from to size needs shape least c) where
  pub size_is : at_one c.sizes buffer ≡ Some least
  size_is =
      let of = f.hand.of in
      own_size of.n c buffer of.from of.to least f.sizes of.place of.reads
      (subst (λ k. IsSize (assigned c.words k) (assigned c.words of.to) least) f.hand.from_is (subst (λ k. IsSize (assigned c.words from) (assigned c.words k) least) f.hand.to_is f.is))

  pub clocks_well : (n : PlacedNode) → slice_get a.placed.nodes node ≡ Some n → IsWellClocked (signatures (take node a.placed.nodes) (take node a.clocks.items)) n (assigned c.words)
  clocks_well n there = found_well f.hand n there c.words f.fits f.meets

  pub sizes_bounded : (n : PlacedNode) → slice_get a.placed.nodes node ≡ Some n → (k most own : ℕ) → bound_of n k ≡ Some most → at_one c.sizes k ≡ Some own → own ≤ most
  sizes_bounded n there =
      well_bounded (take node a.placed.nodes) (signatures (take node a.placed.nodes) (take node a.clocks.items)) n c (node_proper f.hand.accepted.0 o f.hand.accepted.1 a f.hand.accepted.2 node n there) (clocks_well n there)
      (subst (λ m. AreSizes m c) (node_is f.hand n there) f.sizes)
