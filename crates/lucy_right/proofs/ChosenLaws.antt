-- A program stands for one thing whose clocks are chosen so.
use Rattle.std.proofs.Common.{ℕ, zero, suc, ◌+◌, ◌-◌, ◌<◌, ◌≡◌, ◌⊎◌, List, [], ◌∷◌, length, take, Some, slice_get, refl, ap, sym, ◌∙◌, subst, inl, inr, arith}
use Rattle.std.specs.List.{AllByRecursion}
use Rattle.std.proofs.lemmas.List.{length-take-le}
use Rattle.std.proofs.lemmas.Option.{slice_get_within}
use Rattle.lucy_word.specs.Bits.{Bits, bit_at, one_if, ones_to, IsWord}
use Rattle.lucy_word.specs.Adaptable.{IsSize}
use Rattle.lucy_word.specs.Shortest.{Same, IsShortest}
use Rattle.lucy_word.proofs.BitsLaws.{ones_to-more, period_some, same_bit}
use Rattle.lucy_word.proofs.ShortLaws.{shortest_one}
use Rattle.lucy_word.proofs.Lists.{same_entries}
use Rattle.lucy_host.proofs.Elements.{get_there}
use Rattle.lucy_place.specs.declared.placed.PlacedNode.{PlacedNode}
use Rattle.lucy_place.specs.Proper.{IsProperNode, AreProper}
use Rattle.lucy_place.specs.WrittenNodes.{IsWritten}
use Rattle.lucy_types.specs.declared.ty.Ty.{Ty}
use Rattle.lucy_types.specs.Programs.{IsTyped}
use Rattle.lucy_types.proofs.ListLaws.{all_at, taken}
use Rattle.lucy_types.proofs.ProgramLaws.{typed_unique}
use Rattle.lucy_need.specs.Meeting.{AreWordsIn, Agree, assigned}
use Rattle.lucy_clock.specs.declared.signature.Signature.{Signature}
use Rattle.lucy_clock.specs.declared.node_clock.NodeClock.{NodeClock}
use Rattle.lucy_clock.specs.Clocks.{clocks_of}
use Rattle.lucy_clock.specs.Laws.{OneAssignmentLaw}
use Rattle.lucy_clock.specs.NodeClocks.{signatures, AreSizes}
use Rattle.lucy_check.proofs.OneVerdict.{one_size}
use Rattle.lucy_shape.specs.Index.{index_of}
use Rattle.lucy_shape.specs.Fitting.{FitsShape}
use Rattle.lucy_shape.proofs.Indexes.{counts}
use Rattle.lucy_shape.proofs.WordIndex.{word_index}
use Rattle.lucy_rates.specs.ShapeLaws.{OneShapeLaw}
use Rattle.lucy_flat.specs.Clocked.{IsClock, AreClocked}
use Rattle.lucy_program.specs.Inferring.{node_needs}
use Rattle.lucy_right.specs.Right.{Meaning}
use Rattle.lucy_right.specs.Earliest.{AreEarliest}
use Rattle.lucy_naming.specs.Laws.{NodesAreOne}
use Rattle.lucy_right.specs.Chosen.{ChosenAreOne}
use Rattle.lucy_right.proofs.ClockLaws.{signatures_same}

-- words whose ones stand at the same instants are the same
same_places : (v w : Bits) → IsWord v → IsWord w → ((k : ℕ) → index_of v k ≡ index_of w k) → Same v w
same_places v w is_v is_w places i some =
    let up = counts (ones_to v) (index_of v) (ones_to w) (index_of w) (word_index v is_v) (word_index w is_w) (λ k. omega (arith, places k)) in
    let down = counts (ones_to w) (index_of w) (ones_to v) (index_of v) (word_index w is_w) (word_index v is_v) (λ k. omega (arith, places k)) in
    let here : i - 1 + 1 ≡ i = omega arith in
    let bit : one_if (bit_at v (i - 1 + 1)) ≡ one_if (bit_at w (i - 1 + 1)) =
    omega (arith, ones_to-more v (i - 1), ones_to-more w (i - 1), up (i - 1), down (i - 1), up (i - 1 + 1), down (i - 1 + 1)) in
    subst (λ k. bit_at v k ≡ bit_at w k) here (same_bit (bit_at v (i - 1 + 1)) (bit_at w (i - 1 + 1)) bit)

-- words in shortest form that agree are those
words_one : (xs ys : List Bits) → length xs ≡ length ys → AllByRecursion IsShortest xs → AllByRecursion IsShortest ys → AreWordsIn (assigned xs) (length xs) → AreWordsIn (assigned ys) (length ys) →
    Agree (assigned xs) (assigned ys) (length xs) → xs ≡ ys
words_one [] [] count short other is also agree = refl
words_one [] (v ∷ ys) count short other is also agree = absurd (omega (arith, count))
words_one (u ∷ xs) [] count short other is also agree = absurd (omega (arith, count))
words_one (u ∷ xs) (v ∷ ys) count short other is also agree =
    let first : u ≡ v = shortest_one u v short.0 other.0 (period_some u (is 0 (omega arith))) (period_some v (also 0 (omega arith))) (agree 0 (omega arith)) in
    let rest : xs ≡ ys = words_one xs ys (omega (arith, count)) short.1 other.1 (λ c l. is (suc c) (omega (arith, l))) (λ c l. also (suc c) (omega (arith, l))) (λ c l. agree (suc c) (omega (arith, l))) in
    ap (λ w. w ∷ xs) first ∙ ap (λ ws. v ∷ ws) rest

clock_same : (c d : NodeClock) → c.words ≡ d.words → c.sizes ≡ d.sizes → c ≡ d
clock_same c d words sizes = let it : List Bits → List ℕ → NodeClock = λ w s. record { words = w; sizes = s } in ap (λ w. it w c.sizes) words ∙ ap (it d.words) sizes

meaning_same : (m other : Meaning) → m.nodes ≡ other.nodes → m.types ≡ other.types → m.clocks ≡ other.clocks → m ≡ other
meaning_same m other nodes types clocks =
    let it : List PlacedNode → List (List Ty) → List NodeClock → Meaning = λ n t c. record { nodes = n; types = t; clocks = c } in
    ap (λ n. it n m.types m.clocks) nodes ∙ ap (λ t. it other.nodes t m.clocks) types ∙ ap (it other.nodes other.types) clocks

-- the laws below that are called
pub record Laws : Type 0 where
  pub shape : OneShapeLaw
  pub assignment : OneAssignmentLaw
  pub nodes : NodesAreOne

-- buffers between the same words have the same sizes
sizes_same : (nodes : List PlacedNode) (n : PlacedNode) (c d : NodeClock) → IsProperNode nodes n → c.words ≡ d.words → AreSizes n c → AreSizes n d → c.sizes ≡ d.sizes
sizes_same nodes n c d proper words a b = same_entries c.sizes d.sizes (a.count ∙ sym b.count) each
  where
    each : (i s t : ℕ) → slice_get c.sizes i ≡ Some s → slice_get d.sizes i ≡ Some t → s ≡ t
    each i s t x y =
        let p = get_there n.buffers i (omega (arith, slice_get_within c.sizes i s x, a.count)) in
        let (e, there) = proper.buffers (suc i) p.0 p.1 in
        let late : IsSize (assigned c.words e) (assigned c.words p.0) t = subst (λ ws. IsSize (assigned ws e) (assigned ws p.0) t) (sym words) (b.each i p.0 (suc i) e t p.1 y there) in
        one_size (assigned c.words e) (assigned c.words p.0) s t (a.each i p.0 (suc i) e s p.1 x there) late

-- the clocks of nodes are chosen so
abbrev AreChosenClocks : (scale lead : ℕ) → List PlacedNode → List NodeClock → Type 0
AreChosenClocks scale lead nodes cs = (i : ℕ) (n : PlacedNode) (c : NodeClock) → slice_get nodes i ≡ Some n → slice_get cs i ≡ Some c →
    IsWritten n ⊎ AreEarliest (signatures (take i nodes) (take i cs)) n scale lead c.words

module _ (laws : Laws) (scale lead : ℕ) where
  -- two choices for a node have the same bits
  agreed : (nodes : List PlacedNode) (above : List Signature) (n : PlacedNode) (c d : NodeClock) → IsProperNode nodes n → IsClock above n c → IsClock above n d →
      IsWritten n ⊎ AreEarliest above n scale lead c.words → IsWritten n ⊎ AreEarliest above n scale lead d.words → Agree (assigned c.words) (assigned d.words) (clocks_of n)
  agreed nodes above n c d proper is also (inl written) b = laws.assignment nodes above n (assigned c.words) (assigned d.words) proper written is.well also.well
  agreed nodes above n c d proper is also (inr a) (inl written) = laws.assignment nodes above n (assigned c.words) (assigned d.words) proper written is.well also.well
  agreed nodes above n c d proper is also (inr a) (inr b) =
      let same : a.shape ≡ b.shape = laws.shape (node_needs above n) scale lead a.shape b.shape a.of_needs b.of_needs in
      let fits : FitsShape (assigned d.words) a.shape = subst (FitsShape (assigned d.words)) (sym same) b.fits in
      let fit : FitsShape (assigned c.words) b.shape = subst (FitsShape (assigned c.words)) same a.fits in
      λ clock l. same_places (assigned c.words clock) (assigned d.words clock) (is.well.words clock l) (also.well.words clock l)
      (λ k. omega (arith, a.earliest (assigned d.words) also.well fits clock k l, b.earliest (assigned c.words) is.well fit clock k l))

  module _ (nodes : List PlacedNode) (cs ds : List NodeClock) (proper : AreProper nodes) (is : AreClocked nodes cs) (also : AreClocked nodes ds)
      (short : AllByRecursion (λ (c : NodeClock). AllByRecursion IsShortest c.words) cs) (other : AllByRecursion (λ (c : NodeClock). AllByRecursion IsShortest c.words) ds)
      (chosen : AreChosenClocks scale lead nodes cs) (too : AreChosenClocks scale lead nodes ds) where
    node_words : (i : ℕ) → ((j : ℕ) → j < i → (c d : NodeClock) → slice_get cs j ≡ Some c → slice_get ds j ≡ Some d → c.words ≡ d.words) →
        (n : PlacedNode) (c d : NodeClock) → slice_get nodes i ≡ Some n → slice_get cs i ≡ Some c → slice_get ds i ≡ Some d → c.words ≡ d.words
    node_words i earlier n c d at of its =
        let within : i < length nodes = slice_get_within nodes i n at in
        let all : length (take i nodes) ≡ i = length-take-le i nodes (omega (arith, within)) in
        let own : List Signature = signatures (take i nodes) (take i cs) in
        let above : own ≡ signatures (take i nodes) (take i ds) =
        signatures_same (take i nodes) (take i cs) (take i ds) (length-take-le i cs (omega (arith, within, is.count)) ∙ sym all) (length-take-le i ds (omega (arith, within, also.count)) ∙ sym all)
        (λ j x y e f. earlier j (taken i cs j x e).0 x y (taken i cs j x e).1 (taken i ds j y f).1) in
        let here : IsClock own n c = is.each i n c at of in
        let there : IsClock own n d = subst (λ s. IsClock s n d) (sym above) (also.each i n d at its) in
        let last : IsWritten n ⊎ AreEarliest own n scale lead d.words = subst (λ s. IsWritten n ⊎ AreEarliest s n scale lead d.words) (sym above) (too i n d at its) in
        words_one c.words d.words (here.count ∙ sym there.count) (all_at (λ (c : NodeClock). AllByRecursion IsShortest c.words) cs i c short of)
        (all_at (λ (c : NodeClock). AllByRecursion IsShortest c.words) ds i d other its)
        (subst (AreWordsIn (assigned c.words)) (sym here.count) here.well.words) (subst (AreWordsIn (assigned d.words)) (sym there.count) there.well.words)
        (subst (Agree (assigned c.words) (assigned d.words)) (sym here.count) (agreed (take i nodes) own n c d (proper i n at) here there (chosen i n c at of) last))

    -- so those below a number have the same words
    below : (k j : ℕ) → j < k → (c d : NodeClock) → slice_get cs j ≡ Some c → slice_get ds j ≡ Some d → c.words ≡ d.words
    below zero j l c d of its = absurd (omega (arith, l))
    below (suc k) j l c d of its =
        let n = get_there nodes j (omega (arith, slice_get_within cs j c of, is.count)) in node_words j (λ h less. below k h (omega (arith, l, less))) n.0 c d n.1 of its

    clocks_one : cs ≡ ds
    clocks_one = same_entries cs ds (is.count ∙ sym also.count) each
      where
        each : (j : ℕ) (c d : NodeClock) → slice_get cs j ≡ Some c → slice_get ds j ≡ Some d → c ≡ d
        each j c d of its =
            let n = get_there nodes j (omega (arith, slice_get_within cs j c of, is.count)) in
            let words : c.words ≡ d.words = below (suc j) j (omega arith) c d of its in
            clock_same c d words (sizes_same (take j nodes) n.0 c d (proper j n.0 n.1) words (is.each j n.0 c n.1 of).sizes (also.each j n.0 d n.1 its).sizes)

pub chosen_one : Laws → ChosenAreOne
chosen_one laws ops scale lead program m other proper is also chosen too =
    let nodes : other.nodes ≡ m.nodes = laws.nodes ops program other.nodes m.nodes also.placed is.placed in
    let types : m.types ≡ other.types = typed_unique m.nodes m.types other.types is.typed (subst (λ ns. IsTyped ns other.types) nodes also.typed) in
    let clocks : m.clocks ≡ other.clocks =
    clocks_one laws scale lead m.nodes m.clocks other.clocks proper is.clocked (subst (λ ns. AreClocked ns other.clocks) nodes also.clocked) is.shortest also.shortest chosen
    (subst (λ ns. AreChosenClocks scale lead ns other.clocks) nodes too) in
    meaning_same m other (sym nodes) types clocks
