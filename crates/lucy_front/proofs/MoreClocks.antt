-- The clocks of one node more.
use Rattle.std.proofs.Common.{ℕ, ◌+◌, ◌<◌, ◌≤◌, ◌≡◌, List, [], ◌∷◌, ◌++◌, length, take, Some, ap, sym, ◌∙◌, subst, inl, inr, arith}
use Rattle.std.specs.Prelude.{slice_get}
use Rattle.std.proofs.Math.Nat.{min-le_left}
use Rattle.std.proofs.lemmas.List.{take-take, take-append-le, take_more, length-take-le, length_push, take_all, length-take}
use Rattle.std.proofs.lemmas.Option.{same_Some, slice_get_within, get_or_from_slice_get}
use Rattle.lucy_word.proofs.Lists.{get_push}
use Rattle.lucy_host.proofs.Elements.{get_take}
use Rattle.lucy_place.specs.declared.placed.PlacedNode.{PlacedNode}
use Rattle.lucy_place.specs.Proper.{IsProperNode, AreProper}
use Rattle.lucy_clock.specs.declared.node_clock.NodeClock.{NodeClock}
use Rattle.lucy_clock.specs.Clocks.{AreSignatures}
use Rattle.lucy_clock.specs.NodeClocks.{ports, signatures}
use Rattle.lucy_clock.proofs.CallerLaws.{signatures_fit, signatures_join}
use Rattle.lucy_program.specs.declared.options.Options.{Options}
use Rattle.lucy_program.specs.Clocked.{IsClocked, AreClocksOf}

-- the signatures are those of the nodes
pub signatures_are : {o : Options} (nodes : List PlacedNode) (clocks : List NodeClock) → AreProper nodes → AreClocksOf o nodes clocks → AreSignatures nodes (signatures nodes clocks)
signatures_are nodes clocks proper are = signatures_fit nodes clocks proper are.all (λ i n c at of. (are.each i n c at of).count)

-- all before the next one
module _ {o : Options} (nodes : List PlacedNode) (node : ℕ) (clocks more : List NodeClock) (n : PlacedNode) (c : NodeClock) (at : slice_get nodes node ≡ Some n) (are : AreClocksOf o (take node nodes) clocks) (e : more ≡ clocks ++ c ∷ []) where
  below : node < length nodes
  below = slice_get_within nodes node n at

  count : length clocks ≡ node
  count = are.all ∙ length-take-le node nodes (omega (arith, below))

  next : take (node + 1) nodes ≡ take node nodes ++ n ∷ []
  next = take_more nodes node n below ∙ ap (λ x. take node nodes ++ x ∷ []) (get_or_from_slice_get nodes node n n at)

  pub signatures_push : signatures (take (node + 1) nodes) more ≡ signatures (take node nodes) clocks ++ ports n c ∷ []
  signatures_push = ap (λ l. signatures l more) next ∙ ap (signatures (take node nodes ++ n ∷ [])) e ∙ signatures_join (take node nodes) clocks n c are.all

  front_same : (i : ℕ) → i ≤ node → signatures (take i (take node nodes)) (take i clocks) ≡ signatures (take i (take (node + 1) nodes)) (take i more)
  front_same i l =
      let of_nodes : take i (take node nodes) ≡ take i (take (node + 1) nodes) = take-take i node nodes l ∙ sym (take-take i (node + 1) nodes (omega (arith, l))) in
      let of_clocks : take i clocks ≡ take i more = sym (ap (take i) e ∙ take-append-le i clocks (c ∷ []) (omega (arith, l, count))) in
      ap (λ xs. signatures xs (take i clocks)) of_nodes ∙ ap (signatures (take i (take (node + 1) nodes))) of_clocks

  last_same : signatures (take node nodes) clocks ≡ signatures (take node (take (node + 1) nodes)) (take node more)
  last_same =
      let of_nodes : take node nodes ≡ take node (take node nodes) = sym (take-take node node nodes (omega arith)) in
      let of_clocks : clocks ≡ take node clocks = sym (take_all node clocks (omega (arith, count))) in
      ap (λ xs. signatures xs clocks) of_nodes ∙ ap (signatures (take node (take node nodes))) of_clocks ∙ front_same node (omega arith)

  each : IsClocked o (signatures (take node nodes) clocks) n c → (i : ℕ) (m : PlacedNode) (d : NodeClock) → slice_get (take (node + 1) nodes) i ≡ Some m → slice_get more i ≡ Some d →
      IsClocked o (signatures (take i (take (node + 1) nodes)) (take i more)) m d
  each clocked i m d here of =
      let within = slice_get_within (take (node + 1) nodes) i m here in
      let long = length-take-le (node + 1) nodes (omega (arith, below)) in
      let at_m : slice_get nodes i ≡ Some m = sym (get_take (node + 1) nodes i (omega arith)) ∙ here in
      elim (get_push clocks c i d (sym (ap (λ l. slice_get l i) e) ∙ of)) [
        | inl f ↦
            let l : i < node = omega (arith, slice_get_within clocks i d f, count) in
            subst (λ s. IsClocked o s m d) (front_same i (omega arith)) (are.each i m d (get_take node nodes i l ∙ at_m) f)
        | inr f ↦
            let last : i ≡ node = f.0 ∙ count in
            let one : n ≡ m = same_Some n m (sym at ∙ ap (slice_get nodes) (sym last) ∙ at_m) in
            subst (λ j. IsClocked o (signatures (take j (take (node + 1) nodes)) (take j more)) m d) (sym last)
            (subst (λ s. IsClocked o s m d) last_same (subst (λ x. IsClocked o (signatures (take node nodes) clocks) x d) one (subst (IsClocked o (signatures (take node nodes) clocks) n) f.1 clocked)))
      ]

  pub clocked_push : IsClocked o (signatures (take node nodes) clocks) n c → AreClocksOf o (take (node + 1) nodes) more
  clocked_push clocked = record {
    all = (let a = ap length e in let b = length_push clocks c in let d = length-take-le (node + 1) nodes (omega (arith, below)) in omega (arith, count));
    each = each clocked;
  }

-- no clocks of no nodes
pub clocked_none : {o : Options} (nodes : List PlacedNode) (clocks : List NodeClock) → clocks ≡ [] → AreClocksOf o (take 0 nodes) clocks
clocked_none nodes clocks e = record { all = ap length e; each = λ i n c at of. absurd (cc at) }

-- the nodes above one are proper
pub proper_take : (nodes : List PlacedNode) (node : ℕ) → AreProper nodes → AreProper (take node nodes)
proper_take nodes node proper i n at =
    let within = slice_get_within (take node nodes) i n at in
    let most = length-take node nodes in
    let l : i < node = omega (arith, min-le_left node (length nodes)) in
    subst (λ above. IsProperNode above n) (sym (take-take i node nodes (omega (arith, l)))) (proper i n (sym (get_take node nodes i l) ∙ at))
