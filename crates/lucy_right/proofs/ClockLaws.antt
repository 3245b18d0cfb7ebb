-- A written program has one choice of words for its clocks: those that its nodes hand down.
use Rattle.std.proofs.Common.{ℕ, suc, ◌≤◌, ◌≡◌, List, [], ◌∷◌, length, map, take, drop, Some, slice_get, refl, ap, sym, ◌∙◌, subst, inl, inr, arith}
use Rattle.std.specs.List.{AllByRecursion}
use Rattle.std.proofs.lemmas.List.{length-take-le}
use Rattle.std.proofs.lemmas.Option.{slice_get_within}
use Rattle.lucy_word.specs.Bits.{Bits}
use Rattle.lucy_word.specs.Shortest.{IsShortest}
use Rattle.lucy_word.specs.Stored.{IsStored}
use Rattle.lucy_word.proofs.BitsLaws.{period_some}
use Rattle.lucy_word.proofs.ShortLaws.{shortest_one}
use Rattle.lucy_host.proofs.Elements.{get_there}
use Rattle.lucy_place.specs.declared.placed.PlacedNode.{PlacedNode}
use Rattle.lucy_place.specs.Proper.{IsProperNode, AreProper}
use Rattle.lucy_place.specs.WrittenNodes.{IsWritten}
use Rattle.lucy_types.proofs.ListLaws.{all_at, taken}
use Rattle.lucy_need.specs.Meeting.{AreWordsIn, Agree, MeetsAll, assigned}
use Rattle.lucy_clock.specs.declared.signature.Signature.{Signature}
use Rattle.lucy_clock.specs.declared.node_clock.NodeClock.{NodeClock}
use Rattle.lucy_clock.specs.Laws.{RulesLaw, HandedLaw}
use Rattle.lucy_clock.specs.Listing.{needs_of}
use Rattle.lucy_clock.specs.NodeClocks.{ports, signatures}
use Rattle.lucy_clock.proofs.CallerLaws.{above_fit}
use Rattle.lucy_check.specs.declared.fault.CheckFault.{CheckFault}
use Rattle.lucy_check.specs.Passing.{IsBeyond}
use Rattle.lucy_check.proofs.CheckLaws.{unmet}
use Rattle.lucy_flat.specs.Clocked.{IsClock, AreClocked}
use Rattle.lucy_program.specs.declared.options.Options.{Options}
use Rattle.lucy_program.specs.Clocked.{AreNodeWords, IsClocked, AreClocksOf}
use Rattle.lucy_front.specs.Unclocked.{FailsCheck}

-- the words are in shortest form
abbrev AreShortest : List Bits → Type 0
AreShortest words = AllByRecursion IsShortest words

-- words in shortest form that agree with words in memory are those
words_same : (xs ys : List Bits) → length xs ≡ length ys → AreShortest xs → AllByRecursion IsStored ys → AreWordsIn (assigned xs) (length xs) → Agree (assigned xs) (assigned ys) (length xs) → xs ≡ ys
words_same [] [] count short stored words agree = refl
words_same [] (v ∷ ys) count short stored words agree = absurd (omega (arith, count))
words_same (u ∷ xs) [] count short stored words agree = absurd (omega (arith, count))
words_same (u ∷ xs) (v ∷ ys) count short stored words agree =
    let first : u ≡ v = shortest_one u v short.0 stored.0.shortest (period_some u (words 0 (omega arith))) stored.0.nonempty (agree 0 (omega arith)) in
    let rest : xs ≡ ys = words_same xs ys (omega (arith, count)) short.1 stored.1 (λ c l. words (suc c) (omega (arith, l))) (λ c l. agree (suc c) (omega (arith, l))) in
    ap (λ w. w ∷ xs) first ∙ ap (λ ws. v ∷ ws) rest

-- clocks of the same words have the same signatures
pub signatures_same : (nodes : List PlacedNode) (cs ds : List NodeClock) → length cs ≡ length nodes → length ds ≡ length nodes →
    ((i : ℕ) (c d : NodeClock) → slice_get cs i ≡ Some c → slice_get ds i ≡ Some d → c.words ≡ d.words) → signatures nodes cs ≡ signatures nodes ds
signatures_same [] cs ds count other same = refl
signatures_same (n ∷ nodes) [] ds count other same = absurd (omega (arith, count))
signatures_same (n ∷ nodes) (c ∷ cs) [] count other same = absurd (omega (arith, other))
signatures_same (n ∷ nodes) (c ∷ cs) (d ∷ ds) count other same =
    ap (λ (ws : List Bits). let s : Signature = record { params = take n.params (drop 1 ws); results = map (assigned ws) n.results } in s ∷ signatures nodes cs) (same 0 c d refl refl)
    ∙ ap (λ ss. ports n d ∷ ss) (signatures_same nodes cs ds (omega (arith, count)) (omega (arith, other)) (λ i x y. same (suc i) x y))

-- the words of a written node, within the limits, are those that it hands down
clocked_words : (o : Options) (above : List Signature) (n : PlacedNode) (d : NodeClock) → IsWritten n → IsClocked o above n d → AreNodeWords n d.words
clocked_words o above n d is_written is = elim is.its [ inl h ↦ h.1 | inr h ↦ absurd (h.is_open.1 is_written) ]

module _ (handed : HandedLaw) where
  -- and so are any others by which it is well clocked, in shortest form
  handed_words : (nodes : List PlacedNode) (above : List Signature) (n : PlacedNode) (c : NodeClock) (words : List Bits) →
      IsProperNode nodes n → IsWritten n → IsClock above n c → AreShortest c.words → AreNodeWords n words → c.words ≡ words
  handed_words nodes above n c words proper is_written is short are =
      words_same c.words words (is.count ∙ sym are.of.count) short are.of.stored (subst (AreWordsIn (assigned c.words)) (sym is.count) is.well.words)
      (subst (Agree (assigned c.words) (assigned words)) (sym is.count) (handed nodes above n (assigned c.words) (assigned words) proper is_written is.well are.of.handed))

  -- written nodes with such clocks, and clocks of the first ones within the limits
  module _ (o : Options) (nodes : List PlacedNode) (cs : List NodeClock) (proper : AreProper nodes) (written : AllByRecursion IsWritten nodes) (clocked : AreClocked nodes cs)
      (short : AllByRecursion (λ (c : NodeClock). AreShortest c.words) cs) (node : ℕ) (few : node ≤ length nodes) (ds : List NodeClock) (above : AreClocksOf o (take node nodes) ds) where
    -- what a node hands down are its words
    node_words : (i : ℕ) (n : PlacedNode) (c : NodeClock) (words : List Bits) → slice_get nodes i ≡ Some n → slice_get cs i ≡ Some c → AreNodeWords n words → c.words ≡ words
    node_words i n c words at of are =
        handed_words (take i nodes) (signatures (take i nodes) (take i cs)) n c words (proper i n at) (all_at IsWritten nodes i n written at) (clocked.each i n c at of)
        (all_at (λ (c : NodeClock). AreShortest c.words) cs i c short of) are

    -- so the first ones have the same words, and the same signatures, in both
    pub same_words : (i : ℕ) (c d : NodeClock) → slice_get (take node cs) i ≡ Some c → slice_get ds i ≡ Some d → c.words ≡ d.words
    same_words i c d of is =
        let n = get_there (take node nodes) i (omega (arith, slice_get_within ds i d is, above.all)) in
        let at = (taken node nodes i n.0 n.1).1 in
        node_words i n.0 c d.words at (taken node cs i c of).1
        (clocked_words o (signatures (take i (take node nodes)) (take i ds)) n.0 d (all_at IsWritten nodes i n.0 written at) (above.each i n.0 d n.1 is))

    same_above : signatures (take node nodes) (take node cs) ≡ signatures (take node nodes) ds
    same_above =
        signatures_same (take node nodes) (take node cs) ds (length-take-le node cs (omega (arith, few, clocked.count)) ∙ sym (length-take-le node nodes few)) above.all same_words

    -- and the checker refuses what the next one hands down for a limit alone
    pub fails_beyond : RulesLaw → (n : PlacedNode) (e : CheckFault) → slice_get nodes node ≡ Some n → FailsCheck (signatures (take node nodes) ds) n e → IsBeyond e
    fails_beyond rules n e at fails =
        let own : List Signature = signatures (take node nodes) (take node cs) in
        let (is_written, words, are, first) = subst (λ s. FailsCheck s n e) (sym same_above) fails in
        let c = get_there cs node (omega (arith, slice_get_within nodes node n at, clocked.count)) in
        let is = clocked.each node n c.0 at c.1 in
        let fit = above_fit node nodes cs few (omega (arith, few, clocked.count)) proper (λ i m d here of. (clocked.each i m d here of).count) in
        let met : MeetsAll (assigned c.0.words) (needs_of own n) = (rules (take node nodes) own n (assigned c.0.words) (proper node n at) fit is.well.words is.well.base).1 is.well in
        unmet (assigned words) (needs_of own n) e (inr first) (subst (λ ws. MeetsAll (assigned ws) (needs_of own n)) (node_words node n c.0 words at c.1 are) met)
