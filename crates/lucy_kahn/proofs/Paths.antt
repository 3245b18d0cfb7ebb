-- Paths of calls, from main or from another node.
use Rattle.std.proofs.Common.{ℕ, suc, zero, ◌+◌, ◌-◌, ◌≤◌, ◌≡◌, ◌⊎◌, inl, inr, List, [], ◌∷◌, ◌++◌, Option, Some, None, length, take, ap, refl, ◌∙◌, arith}
use Rattle.std.specs.Prelude.{slice_get}
use Rattle.lucy_host.proofs.Elements.{get_there}
use Rattle.lucy_place.specs.declared.placed.PlacedNode.{PlacedNode}
use Rattle.lucy_place.specs.declared.entry.PlaceEntry.{PlaceEntry}
use Rattle.lucy_place.specs.declared.entry.CallSite.{CallSite}
use Rattle.lucy_place.specs.declared.entry.PlaceKind.{PlaceKind}
use Rattle.lucy_place.specs.Proper.{at_one, IsPlace, IsProperNode, AreProper}
use Rattle.lucy_kahn.specs.Spots.{site_in, node_from, node_at}
use Rattle.lucy_kahn.proofs.Parts.{callee_in, kind_of, kind_in}
use Rattle.lucy_kahn.specs.Numbers.{call_offset, begin_from}

-- an element of a list that counts from 1
pub low_of : {A : Type 0} (xs : List A) (p : ℕ) (x : A) → at_one xs p ≡ Some x → (1 ≤ p) × (slice_get xs (p - 1) ≡ Some x)
low_of xs zero x h = absurd (cc h)
low_of xs (suc i) x h = (omega arith, (let e : suc i - 1 ≡ i = omega arith in ap (slice_get xs) e ∙ h))

-- nothing is called from no node
pub none_from : (nodes : List PlacedNode) (path : List ℕ) → node_from nodes None path ≡ None
none_from nodes [] = refl
none_from nodes (call ∷ path) = ap (λ o. callee_in nodes (site_in o call)) (none_from nodes path)

-- a path that begins with a call goes on from the node that is called
pub node_inside : (nodes : List PlacedNode) (begin : Option PlacedNode) (path : List ℕ) (call : ℕ) →
    node_from nodes begin (path ++ call ∷ []) ≡ node_from nodes (callee_in nodes (site_in begin call)) path
node_inside nodes begin [] call = refl
node_inside nodes begin (next ∷ path) call = ap (λ o. callee_in nodes (site_in o next)) (node_inside nodes begin path call)

pub begin_inside : (nodes : List PlacedNode) (begin : Option PlacedNode) (path : List ℕ) (call : ℕ) →
    begin_from nodes begin (path ++ call ∷ []) ≡ call_offset nodes begin call + begin_from nodes (callee_in nodes (site_in begin call)) path
begin_inside nodes begin [] call = omega arith
begin_inside nodes begin (next ∷ path) call =
    let e : begin_from nodes begin (path ++ call ∷ []) ≡ call_offset nodes begin call + begin_from nodes (callee_in nodes (site_in begin call)) path = begin_inside nodes begin path call in
    let f : call_offset nodes (node_from nodes begin (path ++ call ∷ [])) next ≡ call_offset nodes (node_from nodes (callee_in nodes (site_in begin call)) path) next =
    ap (λ o. call_offset nodes o next) (node_inside nodes begin path call) in
    omega arith

-- a path is empty, or begins with a call
pub begins_with : (path : List ℕ) → (path ≡ []) ⊎ ((rest : List ℕ) × (call : ℕ) × (path ≡ rest ++ call ∷ []))
begins_with [] = inl refl
begins_with (next ∷ path) = inr (elim (begins_with path) [
  | inl e ↦ ([], next, ap (λ p. next ∷ p) e)
  | inr r ↦ (next ∷ r.0, r.1, ap (λ p. next ∷ p) r.2)
])

-- a call of a node, and what it calls
pub record IsCalled (nodes : List PlacedNode) (caller : PlacedNode) (call : ℕ) (n : PlacedNode) : Type 0 where
  pub site : CallSite
  pub stands : at_one caller.calls call ≡ Some site
  pub found : slice_get nodes site.node ≡ Some n

pub called : (nodes : List PlacedNode) (caller : PlacedNode) (call : ℕ) (n : PlacedNode) → callee_in nodes (site_in (Some caller) call) ≡ Some n → IsCalled nodes caller call n
called nodes caller call n e = from_site (at_one caller.calls call) refl e
  where
    from_site : (o : Option CallSite) → at_one caller.calls call ≡ o → callee_in nodes o ≡ Some n → IsCalled nodes caller call n
    from_site None f g = absurd (cc g)
    from_site (Some site) f g = record { site = site; stands = f; found = g }

-- what is known of a place where a kind stands
pub record IsAt (o : Option PlacedNode) (place : ℕ) (kind : PlaceKind) : Type 0 where
  pub node : PlacedNode
  pub node_is : o ≡ Some node
  pub entry : PlaceEntry
  pub stands : at_one node.places place ≡ Some entry
  pub kind_is : entry.kind ≡ kind

pub is_at : (o : Option PlacedNode) (place : ℕ) (kind : PlaceKind) → kind_in o place ≡ Some kind → IsAt o place kind
is_at None place kind e = absurd (cc e)
is_at (Some n) place kind e = from_entry (at_one n.places place) refl e
  where
    from_entry : (entry : Option PlaceEntry) → at_one n.places place ≡ entry → kind_of entry ≡ Some kind → IsAt (Some n) place kind
    from_entry None f g = absurd (cc g)
    from_entry (Some entry) f g = record { node = n; node_is = refl; entry = entry; stands = f; kind_is = cc }

-- a place of a node is one where something stands
pub kind_there : (n : PlacedNode) (place : ℕ) → IsPlace n place → (kind : PlaceKind) × (kind_in (Some n) place ≡ Some kind)
kind_there n zero is = absurd (let l : 1 ≤ 0 = is.0 in omega arith)
kind_there n (suc i) is =
    let high : suc i ≤ length n.places = is.1 in
    let entry = get_there n.places i (omega arith) in
    (entry.0.kind, ap kind_of entry.1)

-- the node that a path leads to is a node of the program
pub record IsNode (nodes : List PlacedNode) (n : PlacedNode) : Type 0 where
  pub index : ℕ
  pub found : slice_get nodes index ≡ Some n

pub path_node : (nodes : List PlacedNode) (path : List ℕ) (n : PlacedNode) → node_at nodes path ≡ Some n → IsNode nodes n
path_node nodes [] n e = record { index = length nodes - 1; found = e }
path_node nodes (call ∷ path) n e = from_site (site_in (node_at nodes path) call) n e
  where
    from_site : (o : Option CallSite) (m : PlacedNode) → callee_in nodes o ≡ Some m → IsNode nodes m
    from_site None m f = absurd (cc f)
    from_site (Some site) m f = record { index = site.node; found = f }

pub proper_at : (nodes : List PlacedNode) → AreProper nodes → (path : List ℕ) (n : PlacedNode) → node_at nodes path ≡ Some n → (i : ℕ) × (slice_get nodes i ≡ Some n) × IsProperNode (take i nodes) n
proper_at nodes proper path n e = let is = path_node nodes path n e in (is.index, is.found, proper is.index n is.found)
