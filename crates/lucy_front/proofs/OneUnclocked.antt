-- The nodes of a program have one choice of clocks, or one of them is the first that has none.
use Rattle.std.proofs.Common.{ℕ, zero, suc, ◌<◌, ◌≤◌, ◌≡◌, List, length, take, refl, sym, ◌∙◌, subst, inl, inr, arith, add-one}
use Rattle.std.proofs.lemmas.Bool.{cases_lt}
use Rattle.std.proofs.lemmas.List.{take_all, take-take, take_more_same, length-take-le}
use Rattle.std.proofs.lemmas.Option.{same_Some, slice_get_within, get_or_from_slice_get}
use Rattle.lucy_host.proofs.Elements.{get_there, get_take}
use Rattle.lucy_place.specs.declared.placed.PlacedNode.{PlacedNode}
use Rattle.lucy_place.specs.PlacedProgram.{PlacedProgram}
use Rattle.lucy_place.specs.Proper.{AreProper}
use Rattle.lucy_types.proofs.ListLaws.{taken}
use Rattle.lucy_clock.specs.declared.signature.Signature.{Signature}
use Rattle.lucy_clock.specs.declared.node_clock.NodeClock.{NodeClock}
use Rattle.lucy_front.specs.declared.fault.NoClocks.{NoClocks}
use Rattle.lucy_front.specs.declared.fault.NoClocks.TheVariants.{OutOfMemory}
use Rattle.lucy_clock.specs.NodeClocks.{signatures}
use Rattle.lucy_program.specs.declared.options.Options.{Options}
use Rattle.lucy_program.specs.Clocked.{IsClocked, AreClocksOf}
use Rattle.lucy_front.specs.Unclocked.{IsUnclocked}
use Rattle.lucy_front.specs.Clocking.{HasNoClocks}
use Rattle.lucy_front.proofs.MoreClocks.{signatures_are, proper_take}
use Rattle.lucy_front.proofs.OneClock.{clock_one}
use Rattle.lucy_front.proofs.OneNode.{AreCausesAlike, refused_one, clocked_kept}

-- the clocks of the nodes above are the clocks of those
clocked_above : {o : Options} (nodes : List PlacedNode) (clocks : List NodeClock) (m : ℕ) → m ≤ length nodes → AreClocksOf o nodes clocks → AreClocksOf o (take m nodes) (take m clocks)
clocked_above {o = o} nodes clocks m l are = record {
  all = let e : length clocks ≡ length nodes = are.all in length-take-le m clocks (omega arith) ∙ sym (length-take-le m nodes l);
  each = λ i n c at of.
      let a = taken m nodes i n at in
      let b = taken m clocks i c of in
      let h : i < m = a.0 in
      subst (λ ns. IsClocked o (signatures ns (take i (take m clocks))) n c) (sym (take-take i m nodes (omega arith)))
      (subst (λ cs. IsClocked o (signatures (take i nodes) cs) n c) (sym (take-take i m clocks (omega arith))) (are.each i n c a.1 b.1));
}

front_one : {o : Options} (nodes : List PlacedNode) (xs ys : List NodeClock) → AreProper nodes → AreClocksOf o nodes xs → AreClocksOf o nodes ys → (m : ℕ) → m ≤ length nodes → take m xs ≡ take m ys
front_one {o = o} nodes xs ys proper x y zero l = refl
front_one {o = o} nodes xs ys proper x y (suc m) l =
    let xl : length xs ≡ length nodes = x.all in
    let yl : length ys ≡ length nodes = y.all in
    let n = get_there nodes m (omega arith) in
    let c = get_there xs m (omega arith) in
    let d = get_there ys m (omega arith) in
    let before : take m xs ≡ take m ys = front_one nodes xs ys proper x y m (omega arith) in
    let own = subst (λ cs. IsClocked o (signatures (take m nodes) cs) n.0 d.0) (sym before) (y.each m n.0 d.0 n.1 d.1) in
    let e : c.0 ≡ d.0 = clock_one (take m nodes) n.0 (proper m n.0 n.1) _ (signatures (take m nodes) (take m xs)) c.0 d.0 (x.each m n.0 c.0 n.1 c.1) own in
    rw (← add-one) (take_more_same xs ys m c.0 (omega arith) (omega arith) before (get_or_from_slice_get xs m c.0 c.0 c.1 ∙ e ∙ sym (get_or_from_slice_get ys m d.0 c.0 d.1)))

-- the nodes have one choice of clocks
pub clocks_one : {o : Options} (nodes : List PlacedNode) (xs ys : List NodeClock) → AreProper nodes → AreClocksOf o nodes xs → AreClocksOf o nodes ys → xs ≡ ys
clocks_one nodes xs ys proper x y =
    let xl : length xs ≡ length nodes = x.all in
    let yl : length ys ≡ length nodes = y.all in
    sym (take_all (length nodes) xs (omega arith)) ∙ front_one nodes xs ys proper x y (length nodes) (omega arith) ∙ take_all (length nodes) ys (omega arith)

-- a node has no clocks, for this reason
abbrev pub StandsUnclocked : Options → PlacedProgram → (nodes : List PlacedNode) (node : ℕ) → NoClocks → Type 0
StandsUnclocked o placed nodes node f = IsUnclocked o nodes node (λ above n. HasNoClocks o placed node above n f)

-- no node is refused where all have clocks
pub clocked_all : {o : Options} (placed : PlacedProgram) (nodes : List PlacedNode) (clocks : List NodeClock) (node : ℕ) (f : NoClocks) → AreProper nodes → (f ≡ OutOfMemory → ⊥) → AreClocksOf o nodes clocks →
    StandsUnclocked o placed nodes node f → ⊥
clocked_all {o = o} placed nodes clocks node f proper some are u =
    let l : node < length nodes = slice_get_within nodes node u.n u.stands in
    let count : length clocks ≡ length nodes = are.all in
    let c = get_there clocks node (omega arith) in
    let front : AreProper (take node nodes) = proper_take nodes node proper in
    let e : take node clocks ≡ u.clocks = clocks_one (take node nodes) (take node clocks) u.clocks front (clocked_above nodes clocks node (omega arith) are) u.above in
    let clocked = subst (λ cs. IsClocked o (signatures (take node nodes) cs) u.n c.0) e (are.each node u.n c.0 u.stands c.1) in
    clocked_kept (take node nodes) (signatures (take node nodes) u.clocks) u.n (proper node u.n u.stands) (signatures_are (take node nodes) u.clocks front u.above) _ placed node f c.0 some u.refused clocked

-- a node that is refused is so among the first nodes
unclocked_above : {o : Options} (nodes : List PlacedNode) (node m : ℕ) (P : List Signature → PlacedNode → Type 0) → node < m → IsUnclocked o nodes node P → IsUnclocked o (take m nodes) node P
unclocked_above {o = o} nodes node m P l u = record {
  clocks = u.clocks;
  above = subst (λ ns. AreClocksOf o ns u.clocks) (sym (take-take node m nodes (omega arith))) u.above;
  n = u.n;
  stands = get_take m nodes node l ∙ u.stands;
  refused = subst (λ ns. P (signatures ns u.clocks) u.n) (sym (take-take node m nodes (omega arith))) u.refused;
}

module _ {o : Options} (placed : PlacedProgram) (proper : AreProper placed.nodes) where
  -- a node that has clocks has none for no reason
  above_kept : (i j : ℕ) (f : NoClocks) → (f ≡ OutOfMemory → ⊥) → i < j → (clocks : List NodeClock) → AreClocksOf o (take j placed.nodes) clocks → StandsUnclocked o placed placed.nodes i f → ⊥
  above_kept i j f some l clocks are u =
      clocked_all placed (take j placed.nodes) clocks i f (proper_take placed.nodes j proper) some are (unclocked_above placed.nodes i j (λ above n. HasNoClocks o placed i above n f) l u)

  -- one node is refused
  node_one : (i j : ℕ) (f g : NoClocks) → (f ≡ OutOfMemory → ⊥) → (g ≡ OutOfMemory → ⊥) → StandsUnclocked o placed placed.nodes i f → StandsUnclocked o placed placed.nodes j g → i ≡ j
  node_one i j f g some other u v =
      elim (cases_lt i j) [
        | inl h ↦ absurd (above_kept i j f some h v.clocks v.above u)
        | inr h ↦ elim (cases_lt j i) [ inl k ↦ absurd (above_kept j i g other k u.clocks u.above v) | inr k ↦ omega arith ]
      ]

  here_one : (node : ℕ) (f g : NoClocks) → (f ≡ OutOfMemory → ⊥) → (g ≡ OutOfMemory → ⊥) → StandsUnclocked o placed placed.nodes node f → StandsUnclocked o placed placed.nodes node g → AreCausesAlike f g
  here_one node f g some other u v =
      let front : AreProper (take node placed.nodes) = proper_take placed.nodes node proper in
      let clocks : u.clocks ≡ v.clocks = clocks_one (take node placed.nodes) u.clocks v.clocks front u.above v.above in
      let n : u.n ≡ v.n = same_Some u.n v.n (sym u.stands ∙ v.stands) in
      let moved = subst (λ m. HasNoClocks o placed node (signatures (take node placed.nodes) v.clocks) m f) n (subst (λ cs. HasNoClocks o placed node (signatures (take node placed.nodes) cs) u.n f) clocks u.refused) in
      refused_one (take node placed.nodes) (signatures (take node placed.nodes) v.clocks) v.n (proper node v.n v.stands) (signatures_are (take node placed.nodes) v.clocks front v.above) _
      placed node f g some other moved v.refused

  -- in one way
  pub unclocked_one : (i j : ℕ) (f g : NoClocks) → (f ≡ OutOfMemory → ⊥) → (g ≡ OutOfMemory → ⊥) → StandsUnclocked o placed placed.nodes i f → StandsUnclocked o placed placed.nodes j g → (i ≡ j) × AreCausesAlike f g
  unclocked_one i j f g some other u v =
      let same : i ≡ j = node_one i j f g some other u v in
      (same, here_one j f g some other (subst (λ k. StandsUnclocked o placed placed.nodes k f) same u) v)
