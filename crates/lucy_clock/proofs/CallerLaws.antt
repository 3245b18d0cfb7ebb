-- What the callers of one node more need of its clocks.
use Rattle.std.proofs.Common.{ℕ, zero, suc, ◌+◌, ◌<◌, ◌≤◌, ◌≡◌, List, [], ◌∷◌, ◌++◌, length, map, take, drop, get_or, Some, ap, sym, refl, ◌∙◌, subst, arith, length-drop, add-one, drop-cons, append_assoc}
use Rattle.std.specs.Prelude.{slice_get}
use Rattle.std.specs.List.{AllByRecursion}
use Rattle.std.proofs.lemmas.List.{take_more, take-take, length-take-le, length-map}
use Rattle.std.proofs.lemmas.Option.{same_Some, slice_get_within, get_or_from_slice_get}
use Rattle.lucy_word.specs.Bits.{Bits}
use Rattle.lucy_need.specs.Meeting.{assigned}
use Rattle.lucy_place.specs.Standing.{ArePlaces}
use Rattle.lucy_place.specs.Proper.{IsProperNode, AreProper}
use Rattle.lucy_place.specs.declared.placed.PlacedNode.{PlacedNode}
use Rattle.lucy_clock.specs.declared.signature.Signature.{Signature}
use Rattle.lucy_clock.specs.declared.node_clock.NodeClock.{NodeClock}
use Rattle.lucy_clock.specs.Clocks.{AreSignatures, clocks_of}
use Rattle.lucy_clock.specs.NodeClocks.{ports, signatures}

-- they are as many as the nodes
signatures_count : (nodes : List PlacedNode) (clocks : List NodeClock) → length clocks ≡ length nodes → length (signatures nodes clocks) ≡ length nodes
signatures_count [] clocks same = refl
signatures_count (n ∷ nodes) [] same = absurd (omega (arith, same))
signatures_count (n ∷ nodes) (c ∷ clocks) same = ap suc (signatures_count nodes clocks (omega (arith, same)))

signature_at : (nodes : List PlacedNode) (clocks : List NodeClock) (i : ℕ) (n : PlacedNode) (s : Signature) → slice_get nodes i ≡ Some n → slice_get (signatures nodes clocks) i ≡ Some s →
    (c : NodeClock) × (slice_get clocks i ≡ Some c) × (ports n c ≡ s)
signature_at [] clocks i n s at of = absurd (cc at)
signature_at (m ∷ nodes) [] i n s at of = absurd (cc of)
signature_at (m ∷ nodes) (c ∷ clocks) zero n s at of = (c, refl, ap (λ x. ports x c) (sym (same_Some m n at)) ∙ same_Some (ports m c) s of)
signature_at (m ∷ nodes) (c ∷ clocks) (suc i) n s at of = signature_at nodes clocks i n s at of

-- and those of the nodes, where each clock of a node has a word
pub signatures_fit : (nodes : List PlacedNode) (clocks : List NodeClock) → AreProper nodes → length clocks ≡ length nodes →
    ((i : ℕ) (n : PlacedNode) (c : NodeClock) → slice_get nodes i ≡ Some n → slice_get clocks i ≡ Some c → length c.words ≡ clocks_of n) → AreSignatures nodes (signatures nodes clocks)
signatures_fit nodes clocks proper all each = record {
  all = signatures_count nodes clocks all;
  params = λ i n s at of.
      let found = signature_at nodes clocks i n s at of in
      let c : NodeClock = found.0 in
      let count = each i n c at found.1 in
      let few = (proper i n at).params in
      let left = length-drop 1 c.words in
      let long : n.params ≤ length (drop 1 c.words) = omega arith in
      ap (λ (x : Signature). length x.params) (sym found.2) ∙ length-take-le n.params (drop 1 c.words) long;
  results = λ i n s at of.
      let found = signature_at nodes clocks i n s at of in
      ap (λ (x : Signature). length x.results) (sym found.2) ∙ length-map n.results _;
}

-- the signature of a last node stands last
pub signatures_join : (nodes : List PlacedNode) (clocks : List NodeClock) (n : PlacedNode) (c : NodeClock) → length clocks ≡ length nodes →
    signatures (nodes ++ n ∷ []) (clocks ++ c ∷ []) ≡ signatures nodes clocks ++ ports n c ∷ []
signatures_join [] [] n c same = refl
signatures_join [] (d ∷ clocks) n c same = absurd (omega (arith, same))
signatures_join (m ∷ nodes) [] n c same = absurd (omega (arith, same))
signatures_join (m ∷ nodes) (d ∷ clocks) n c same = ap (λ l. ports m d ∷ l) (signatures_join nodes clocks n c (omega (arith, same)))

-- one more entry of the front of a list
front_more : {A : Type 0} (xs : List A) (i : ℕ) (x : A) → slice_get xs i ≡ Some x → take (i + 1) xs ≡ take i xs ++ x ∷ []
front_more xs i x at = take_more xs i x (slice_get_within xs i x at) ∙ ap (λ y. take i xs ++ y ∷ []) (get_or_from_slice_get xs i x x at)

-- an entry of the front of a list is one of the list
front_at : {A : Type 0} (k : ℕ) (xs : List A) (i : ℕ) (x : A) → slice_get (take k xs) i ≡ Some x → slice_get xs i ≡ Some x
front_at zero xs i x at = absurd (cc at)
front_at (suc k) [] i x at = at
front_at (suc k) (y ∷ xs) zero x at = at
front_at (suc k) (y ∷ xs) (suc i) x at = front_at k xs i x at

-- the nodes above one are proper
proper_above : (node : ℕ) (nodes : List PlacedNode) → node ≤ length nodes → AreProper nodes → AreProper (take node nodes)
proper_above node nodes few proper i n at =
    let within = slice_get_within (take node nodes) i n at in
    let l = length-take-le node nodes few in
    subst (λ above. IsProperNode above n) (sym (take-take i node nodes (omega arith))) (proper i n (front_at node nodes i n at))

-- the signatures of the nodes above one are theirs
pub above_fit : (node : ℕ) (nodes : List PlacedNode) (clocks : List NodeClock) → node ≤ length nodes → node ≤ length clocks → AreProper nodes →
    ((i : ℕ) (n : PlacedNode) (c : NodeClock) → slice_get nodes i ≡ Some n → slice_get clocks i ≡ Some c → length c.words ≡ clocks_of n) → AreSignatures (take node nodes) (signatures (take node nodes) (take node clocks))
above_fit node nodes clocks few long proper each =
    let l = length-take-le node nodes few in
    let r = length-take-le node clocks long in
    signatures_fit (take node nodes) (take node clocks) (proper_above node nodes few proper) (omega arith)
    (λ i n c at of. each i n c (front_at node nodes i n at) (front_at node clocks i c of))

-- those of one node more
pub signatures_more : (nodes : List PlacedNode) (clocks : List NodeClock) (i : ℕ) (n : PlacedNode) (c : NodeClock) → slice_get nodes i ≡ Some n → slice_get clocks i ≡ Some c →
    signatures (take (i + 1) nodes) (take (i + 1) clocks) ≡ signatures (take i nodes) (take i clocks) ++ ports n c ∷ []
signatures_more nodes clocks i n c at of =
    let a = slice_get_within nodes i n at in
    let b = slice_get_within clocks i c of in
    let l = length-take-le i nodes (omega arith) in
    let r = length-take-le i clocks (omega arith) in
    ap (λ ns. signatures ns (take (i + 1) clocks)) (front_more nodes i n at) ∙ ap (signatures (take i nodes ++ n ∷ [])) (front_more clocks i c of)
    ∙ signatures_join (take i nodes) (take i clocks) n c (omega arith)

-- the places of results have words
pub places_within : (n : PlacedNode) (ps : List ℕ) (count : ℕ) → length n.places < count → ArePlaces n ps → AllByRecursion (λ place. place < count) ps
places_within n [] count l all = tt
places_within n (p ∷ ps) count l all = ((let h = all.0.1 in omega (arith, l)), places_within n ps count l all.1)

-- one copy more of the words of places
pub copied_more : (words copied more all : List Bits) (places : List ℕ) (i : ℕ) (word : Bits) → i < length places → word ≡ assigned words (get_or places i 0) → more ≡ copied ++ word ∷ [] →
    copied ++ map (assigned words) (drop i places) ≡ all → more ++ map (assigned words) (drop (i + 1) places) ≡ all
copied_more words copied more all places i word l is put before =
    let rest : List Bits = map (assigned words) (drop (i + 1) places) in
    let next : drop i places ≡ get_or places i 0 ∷ drop (i + 1) places = drop-cons places i 0 l ∙ ap (λ n. get_or places i 0 ∷ drop n places) (sym (add-one i)) in
    ap (λ ws. ws ++ rest) (put ∙ ap (λ w. copied ++ w ∷ []) is) ∙ append_assoc copied (assigned words (get_or places i 0) ∷ []) rest ∙ ap (λ ps. copied ++ map (assigned words) ps) (sym next) ∙ before
