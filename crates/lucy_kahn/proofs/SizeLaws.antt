-- Counts that stand still at the greatest 64-bit number, node by node.
use Rattle.std.proofs.Common.{ℕ, ◌+◌, ◌<◌, ◌≤◌, ◌≡◌, inl, inr, List, [], ◌∷◌, Some, length, get_or, set, get_or-set_other, get_or-set_same, ap, sym, ◌∙◌, subst, arith}
use Rattle.std.specs.Prelude.{sum_by, slice_get, slice_index}
use Rattle.std.proofs.lemmas.Bool.{cases_lt}
use Rattle.std.proofs.lemmas.List.Sums.{sum_by-cons}
use Rattle.lucy_place.specs.declared.placed.PlacedNode.{PlacedNode}
use Rattle.lucy_place.specs.declared.entry.CallSite.{CallSite}
use Rattle.lucy_kahn.specs.Below.{Below}
use Rattle.lucy_kahn.specs.Sizes.{capped, AreCapped, total_of}
use Rattle.lucy_kahn.proofs.Tables.{sum_same, total_law}

-- what is capped beforehand doesn't change a capped sum
capped_sum : (f : CallSite → ℕ) (a b : ℕ) (sites : List CallSite) → capped a ≡ capped b → capped (a + sum_by (λ s. capped (f s)) sites) ≡ capped (b + sum_by f sites)
capped_sum f a b [] e = omega (arith, e)
capped_sum f a b (s ∷ sites) e =
    let g : CallSite → ℕ = λ t. capped (f t) in
    let here = sum_by-cons g s sites in
    let there = sum_by-cons f s sites in
    let next : capped (a + g s) ≡ capped (b + f s) = omega (arith, e) in
    let rest : capped ((a + g s) + sum_by g sites) ≡ capped ((b + f s) + sum_by f sites) = capped_sum f (a + g s) (b + f s) sites next in
    omega (arith, here, there, rest)

-- the calls are of nodes below any greater number
pub below_more : (k m : ℕ) (sites : List CallSite) → k ≤ m → Below k sites → Below m sites
below_more k m [] l all = tt
below_more k m (s ∷ sites) l all = (omega (arith, l, all.0), below_more k m sites l all.1)

-- what the nodes of a list count themselves, capped
abbrev pub AreOwn : (ℕ → PlacedNode → ℕ) → List PlacedNode → List ℕ → Type 0
AreOwn own nodes counts = (i : ℕ) (node : PlacedNode) → slice_get nodes i ≡ Some node → slice_index counts i ≡ capped (own i node)

-- a node, once those above it are counted
pub count_node : (own : ℕ → PlacedNode → ℕ) (nodes : List PlacedNode) (counts : List ℕ) (i mine : ℕ) (n : PlacedNode) → slice_get nodes i ≡ Some n → Below i n.calls → AreCapped (total_of own nodes) i counts → mine ≡ capped (own i n) →
    capped (mine + sum_by (λ site. slice_index counts site.node) n.calls) ≡ capped (total_of own nodes i)
count_node own nodes counts i mine n e below known is =
    let f : CallSite → ℕ = λ s. total_of own nodes s.node in
    let same : sum_by (λ site. slice_index counts site.node) n.calls ≡ sum_by (λ s. capped (f s)) n.calls =
    sum_same (λ site. slice_index counts site.node) (λ s. capped (f s)) i n.calls (λ s l. known s.node l) below in
    let twice : capped mine ≡ capped (own i n) = omega (arith, is) in
    ap (λ t. capped (mine + t)) same ∙ capped_sum f mine (own i n) n.calls twice ∙ sym (ap capped (total_law own nodes i n e below))

-- one more node is counted
pub capped_next : (number : ℕ → ℕ) (counts : List ℕ) (i value : ℕ) → i < length counts → AreCapped number i counts → value ≡ capped (number i) → AreCapped number (i + 1) (set counts i value)
capped_next number counts i value l known is j h = elim (cases_lt j i) [
  | inl k ↦ get_or-set_other counts i j value 0 (λ (e : j ≡ i). omega arith) ∙ known j k
  | inr k ↦
      let same : i ≡ j = omega arith in
      subst (λ t. get_or (set counts i value) t 0 ≡ capped (number t)) same (get_or-set_same counts i value 0 l ∙ is)
]
