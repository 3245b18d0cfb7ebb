-- Tables over the nodes of a program: an entry is made of the entries of the nodes above.
use Rattle.std.proofs.Common.{ℕ, suc, zero, ◌+◌, ◌<◌, ◌≡◌, List, [], ◌∷◌, ◌++◌, Some, length, get_or, take, ap, sym, refl, ◌∙◌, subst, arith}
use Rattle.std.specs.Prelude.{sum_by, slice_get, slice_index_or}
use Rattle.std.proofs.lemmas.List.{get_or_append_left, get_or_push, length_push, length-take}
use Rattle.std.proofs.lemmas.List.Sums.{sum_by-cons}
use Rattle.std.proofs.lemmas.Option.{same_Some, slice_get_within}
use Rattle.lucy_place.specs.declared.placed.PlacedNode.{PlacedNode}
use Rattle.lucy_place.specs.declared.entry.CallSite.{CallSite}
use Rattle.lucy_place.specs.Proper.{IsProperNode}
use Rattle.lucy_kahn.specs.Below.{Below}
use Rattle.lucy_kahn.specs.Sizes.{table_past, entry_of, total_of}

below_from : (k : ℕ) (sites : List CallSite) → ((i : ℕ) (s : CallSite) → slice_get sites i ≡ Some s → s.node < k) → Below k sites
below_from k [] h = tt
below_from k (s ∷ sites) h = (h 0 s refl, below_from k sites (λ i x e. h (suc i) x e))

-- the calls of a proper node are of nodes above it
pub calls_below : (nodes : List PlacedNode) (i : ℕ) (n : PlacedNode) → IsProperNode (take i nodes) n → Below i n.calls
calls_below nodes i n proper =
    below_from i n.calls (λ j s e.
    let is = proper.calls (suc j) s e in
    let w = slice_get_within (take i nodes) s.node is.callee is.found in
    let l = length-take i nodes in
    omega arith)

pub below_take : (k : ℕ) (sites : List CallSite) (j : ℕ) → Below k sites → Below k (take j sites)
below_take k [] zero all = tt
below_take k [] (suc j) all = tt
below_take k (s ∷ sites) zero all = tt
below_take k (s ∷ sites) (suc j) all = (all.0, below_take k sites j all.1)

pub sum_same : (f g : CallSite → ℕ) (k : ℕ) (sites : List CallSite) → ((s : CallSite) → s.node < k → f s ≡ g s) → Below k sites → sum_by f sites ≡ sum_by g sites
sum_same f g k [] h all = refl
sum_same f g k (s ∷ sites) h all = omega (arith, sum_by-cons f s sites, sum_by-cons g s sites, h s all.0, sum_same f g k sites h all.1)

-- an entry looks at the entries of the nodes above alone
abbrev pub IsLocal : {A : Type 0} → ((ℕ → A) → ℕ → PlacedNode → A) → Type 0
IsLocal {A} make = (f g : ℕ → A) (i : ℕ) (node : PlacedNode) → Below i node.calls → ((j : ℕ) → j < i → f j ≡ g j) → make f i node ≡ make g i node

module _ {A : Type 0} (none : A) (make : (ℕ → A) → ℕ → PlacedNode → A) (local : IsLocal make) where
  next : List A → PlacedNode → A
  next known node = make (λ i. slice_index_or known i none) (length known) node

  table_stays : (known : List A) (nodes : List PlacedNode) (i : ℕ) → i < length known → get_or (table_past none make known nodes) i none ≡ get_or known i none
  table_stays known [] i l = refl
  table_stays known (node ∷ nodes) i l =
      let new : A = make (λ i. slice_index_or known i none) (length known) node in
      table_stays (known ++ new ∷ []) nodes i (omega (arith, length_push known new)) ∙ get_or_append_left known (new ∷ []) none i l

  table_at : (known : List A) (nodes : List PlacedNode) (i : ℕ) (node : PlacedNode) → slice_get nodes i ≡ Some node → Below (length known + i) node.calls →
      get_or (table_past none make known nodes) (length known + i) none ≡ make (λ j. get_or (table_past none make known nodes) j none) (length known + i) node
  table_at known [] i node e below = absurd (cc e)
  table_at known (first ∷ nodes) zero node e below =
      let new : A = make (λ i. slice_index_or known i none) (length known) first in
      let more : List A = known ++ new ∷ [] in
      let all : List A = table_past none make more nodes in
      let same : first ≡ node = same_Some first node e in
      let z : length known ≡ length known + 0 = omega arith in
      let here : get_or all (length known + 0) none ≡ new =
      table_stays more nodes (length known + 0) (omega (arith, length_push known new)) ∙ get_or_push known new none (length known + 0) (omega arith) in
      here ∙ ap (make (λ i. slice_index_or known i none) (length known)) same ∙ ap (λ n. make (λ i. slice_index_or known i none) n node) z
      ∙ local (λ i. slice_index_or known i none) (λ j. get_or all j none) (length known + 0) node below
      (λ j l. sym (table_stays more nodes j (omega (arith, length_push known new)) ∙ get_or_append_left known (new ∷ []) none j (omega arith)))
  table_at known (first ∷ nodes) (suc i) node e below =
      let new : A = make (λ i. slice_index_or known i none) (length known) first in
      let more : List A = known ++ new ∷ [] in
      let n : length known + suc i ≡ length more + i = omega (arith, length_push known new) in
      ap (λ k. get_or (table_past none make more nodes) k none) n ∙ table_at more nodes i node e (subst (λ k. Below k node.calls) n below)
      ∙ ap (λ k. make (λ j. get_or (table_past none make more nodes) j none) k node) (sym n)

  pub entry_law : (nodes : List PlacedNode) (i : ℕ) (node : PlacedNode) → slice_get nodes i ≡ Some node → Below i node.calls → entry_of none make nodes i ≡ make (entry_of none make nodes) i node
  entry_law nodes i node e below =
      let z : 0 + i ≡ i = omega arith in
      ap (λ k. get_or (table_past none make [] nodes) k none) (sym z) ∙ table_at [] nodes i node e (subst (λ k. Below k node.calls) (sym z) below)
      ∙ ap (λ k. make (λ j. get_or (table_past none make [] nodes) j none) k node) z

-- what a node counts, by what each node counts by itself
abbrev total_in : (ℕ → PlacedNode → ℕ) → (ℕ → ℕ) → ℕ → PlacedNode → ℕ
total_in own total i n = own i n + sum_by (λ site. total site.node) n.calls

total_local : (own : ℕ → PlacedNode → ℕ) → IsLocal (total_in own)
total_local own f g i node below h = ap (λ t. own i node + t) (sum_same (λ s. f s.node) (λ s. g s.node) i node.calls (λ s l. h s.node l) below)

-- what a node counts with its calls written out is what it counts itself, and what the nodes that it calls count
pub total_law : (own : ℕ → PlacedNode → ℕ) (nodes : List PlacedNode) (i : ℕ) (node : PlacedNode) → slice_get nodes i ≡ Some node → Below i node.calls →
    total_of own nodes i ≡ own i node + sum_by (λ site. total_of own nodes site.node) node.calls
total_law own nodes i node e below = entry_law 0 (total_in own) (total_local own) nodes i node e below
