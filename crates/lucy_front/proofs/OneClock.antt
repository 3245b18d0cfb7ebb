-- A node has one choice of clocks: words in shortest form, and the sizes of its buffers.
use Rattle.std.proofs.Common.{ℕ, suc, ◌<◌, ◌≡◌, List, [], ◌∷◌, length, refl, ap, sym, ◌∙◌, subst, inl, inr, arith}
use Rattle.std.specs.List.{AllByRecursion}
use Rattle.std.proofs.lemmas.Option.{slice_get_within}
use Rattle.lucy_word.specs.Bits.{Bits}
use Rattle.lucy_word.specs.Stored.{IsStored}
use Rattle.lucy_word.specs.Shortest.{Same}
use Rattle.lucy_word.specs.Adaptable.{IsSize}
use Rattle.lucy_word.proofs.ShortLaws.{shortest_one}
use Rattle.lucy_word.proofs.Lists.{same_entries}
use Rattle.lucy_host.proofs.Elements.{get_there}
use Rattle.lucy_check.proofs.OneVerdict.{one_size}
use Rattle.lucy_place.specs.declared.placed.PlacedNode.{PlacedNode}
use Rattle.lucy_place.specs.Proper.{IsProperNode}
use Rattle.lucy_place.specs.WrittenNodes.{IsWritten}
use Rattle.lucy_need.specs.Meeting.{assigned}
use Rattle.lucy_clock.specs.declared.signature.Signature.{Signature}
use Rattle.lucy_clock.specs.declared.node_clock.NodeClock.{NodeClock}
use Rattle.lucy_clock.specs.HandedDown.{AreWordsOf}
use Rattle.lucy_clock.proofs.HandLaws.{words_agree}
use Rattle.lucy_clock.specs.NodeClocks.{AreSizes}
use Rattle.lucy_program.specs.declared.options.Options.{Options}
use Rattle.lucy_program.specs.Inferring.{node_needs}
use Rattle.lucy_program.specs.Clocked.{IsClocked}
use Rattle.lucy_front.specs.Clocking.{AreItsClocks}
use Rattle.lucy_inference.proofs.OneAnswer.{inference_one}

-- words in shortest form with the same bits are equal
words_same : (xs ys : List Bits) → length xs ≡ length ys → AllByRecursion IsStored xs → AllByRecursion IsStored ys →
    ((c : ℕ) → c < length xs → Same (assigned xs c) (assigned ys c)) → xs ≡ ys
words_same [] [] count x y same = refl
words_same [] (v ∷ ys) count x y same = absurd (omega (arith, count))
words_same (u ∷ xs) [] count x y same = absurd (omega (arith, count))
words_same (u ∷ xs) (v ∷ ys) count x y same =
    let first : u ≡ v = shortest_one u v x.0.shortest y.0.shortest x.0.nonempty y.0.nonempty (same 0 (omega arith)) in
    let rest : xs ≡ ys = words_same xs ys (omega (arith, count)) x.1 y.1 (λ c l. same (suc c) (omega (arith, l))) in
    ap (λ w. w ∷ xs) first ∙ ap (λ ws. v ∷ ws) rest

module _ (nodes : List PlacedNode) (n : PlacedNode) (proper : IsProperNode nodes n) where
  -- the words that are handed down are one list
  pub words_one : IsWritten n → (xs ys : List Bits) → AreWordsOf n xs → AreWordsOf n ys → xs ≡ ys
  words_one is_written xs ys x y =
      words_same xs ys (x.count ∙ sym y.count) x.stored y.stored
      (λ c l. words_agree n is_written proper.once (assigned xs) (assigned ys) x.handed y.handed c (subst (λ k. c < k) x.count l))

  sizes_one : (c d : NodeClock) → c.words ≡ d.words → AreSizes n c → AreSizes n d → c.sizes ≡ d.sizes
  sizes_one c d words x y =
      same_entries c.sizes d.sizes (x.count ∙ sym y.count) (λ i a b at of.
      let l = slice_get_within c.sizes i a at in
      let place = get_there n.buffers i (subst (λ k. i < k) x.count l) in
      let buffer = proper.buffers (suc i) place.0 place.1 in
      one_size (assigned c.words buffer.0) (assigned c.words place.0) a b (x.each i place.0 (suc i) buffer.0 a place.1 at buffer.1)
      (subst (λ ws. IsSize (assigned ws buffer.0) (assigned ws place.0) b) (sym words) (y.each i place.0 (suc i) buffer.0 b place.1 of buffer.1)))

  same_clock : (c d : NodeClock) → c.words ≡ d.words → c.sizes ≡ d.sizes → c ≡ d
  same_clock c d words sizes =
      ap (λ (ws : List Bits). let r : NodeClock = record { words = ws; sizes = c.sizes } in r) words
      ∙ ap (λ (ss : List ℕ). let r : NodeClock = record { words = d.words; sizes = ss } in r) sizes

  pub clock_one : (o : Options) (above : List Signature) → (c d : NodeClock) → IsClocked o above n c → IsClocked o above n d → c ≡ d
  clock_one o above c d x y = by_kind x.its y.its
    where
      by_kind : AreItsClocks o above n c → AreItsClocks o above n d → c ≡ d
      by_kind (inl h) (inl k) =
          let words : c.words ≡ d.words = words_one h.0 c.words d.words h.1.of k.1.of in
          same_clock c d words (sizes_one c d words x.sizes y.sizes)
      by_kind (inl h) (inr k) = absurd (k.is_open.1 h.0)
      by_kind (inr h) (inl k) = absurd (h.is_open.1 k.0)
      by_kind (inr h) (inr k) =
          let one = inference_one (node_needs above n) o.scale o.lead c.words d.words h.sizes k.sizes h.inferred k.inferred in
          same_clock c d one.0 (sizes_one c d one.0 x.sizes y.sizes)
