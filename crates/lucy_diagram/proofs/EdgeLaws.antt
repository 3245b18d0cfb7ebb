-- What is known of the edges of a node as a list.
use Rattle.std.proofs.Common.{ℕ, zero, suc, ◌+◌, ◌≡◌, ◌<◌, ◌≤◌, Bool, List, [], ◌∷◌, Some, length, refl, sym, ap, ◌∙◌, subst, arith, inl, inr}
use Rattle.std.specs.Prelude.{slice_get}
use Rattle.std.proofs.lemmas.Option.{same_Some, slice_get_within, none-some}
use Rattle.lucy_host.proofs.Elements.{get_left, get_right}
use Rattle.lucy_place.specs.declared.entry.PlaceEntry.{PlaceEntry}
use Rattle.lucy_place.specs.declared.entry.PlaceKind.TheVariants.{Result}
use Rattle.lucy_place.specs.declared.placed.PlacedNode.{PlacedNode}
use Rattle.lucy_place.specs.Standing.{at_one}
use Rattle.lucy_place.specs.Reads.{arguments_of, reads_of}
use Rattle.lucy_diagram.specs.declared.edge.Edge.{Edge}
use Rattle.lucy_diagram.specs.Diagrams.{is_late, IsEdge, HasEdge, IsBefore, AreEdges}
use Rattle.lucy_diagram.specs.Drawn.{edge_to, edges_at, edges_from, node_edges}
use Rattle.lucy_diagram.proofs.ListLaws.{in_one}

-- an edge of a place
at_is : (late : Bool) (p k : ℕ) (qs : List ℕ) (i : ℕ) (e : Edge) → slice_get (edges_at late p k qs) i ≡ Some e → (q : ℕ) × (slice_get qs i ≡ Some q) × (e ≡ edge_to late p (k + i) q)
at_is late p k [] i e h = absurd (none-some e h)
at_is late p k (q ∷ qs) zero e h =
    let z : k ≡ k + 0 = omega arith in
    (q, refl, sym (same_Some (edge_to late p k q) e h) ∙ ap (λ j. edge_to late p j q) z)
at_is late p k (q ∷ qs) (suc i) e h =
    let r = at_is late p (k + 1) qs i e h in
    let z : k + 1 + i ≡ k + suc i = omega arith in
    (r.0, r.1, r.2 ∙ ap (λ j. edge_to late p j r.0) z)

-- what a place reads has an edge
at_there : (late : Bool) (p k : ℕ) (qs : List ℕ) (i q : ℕ) → slice_get qs i ≡ Some q → slice_get (edges_at late p k qs) i ≡ Some (edge_to late p (k + i) q)
at_there late p k [] i q h = absurd (none-some q h)
at_there late p k (x ∷ qs) zero q h =
    let z : k ≡ k + 0 = omega arith in
    ap (λ y. Some (edge_to late p k y)) (same_Some x q h) ∙ ap (λ j. Some (edge_to late p j q)) z
at_there late p k (x ∷ qs) (suc i) q h =
    let z : k + 1 + i ≡ k + suc i = omega arith in
    at_there late p (k + 1) qs i q h ∙ ap (λ j. Some (edge_to late p j q)) z

-- the place to which an edge of these places goes, and what it reads there
record Found (n : PlacedNode) (p : ℕ) (es : List PlaceEntry) (e : Edge) : Type 0 where
  k : ℕ
  entry : PlaceEntry
  there : slice_get es k ≡ Some entry
  to : e.to ≡ p + k
  late : e.late ≡ is_late entry.kind
  reads : slice_get (reads_of n entry.kind) e.seat ≡ Some e.from

found_here : (n : PlacedNode) (p : ℕ) (x : PlaceEntry) (es : List PlaceEntry) (i q : ℕ) (e : Edge) → slice_get (reads_of n x.kind) i ≡ Some q → e ≡ edge_to (is_late x.kind) p (0 + i) q → Found n p (x ∷ es) e
found_here n p x es i q e h is =
    let to : e.to ≡ p = ap (λ (f : Edge). f.to) is in
    let seat : e.seat ≡ 0 + i = ap (λ (f : Edge). f.seat) is in
    let from : e.from ≡ q = ap (λ (f : Edge). f.from) is in
    let z : e.seat ≡ i = omega arith in record {
      k = 0;
      entry = x;
      there = refl;
      to = omega arith;
      late = ap (λ (f : Edge). f.late) is;
      reads = ap (slice_get (reads_of n x.kind)) z ∙ h ∙ ap Some (sym from);
    }

found_next : (n : PlacedNode) (p : ℕ) (x : PlaceEntry) (es : List PlaceEntry) (e : Edge) → Found n (p + 1) es e → Found n p (x ∷ es) e
found_next n p x es e f =
    let to : e.to ≡ p + 1 + f.k = f.to in record {
      k = suc f.k;
      entry = f.entry;
      there = f.there;
      to = omega arith;
      late = f.late;
      reads = f.reads;
    }

from_is : (n : PlacedNode) (p : ℕ) (es : List PlaceEntry) (i : ℕ) (e : Edge) → slice_get (edges_from n p es) i ≡ Some e → Found n p es e
from_is n p [] i e h = absurd (none-some e h)
from_is n p (x ∷ es) i e h =
    elim (in_one (edges_at (is_late x.kind) p 0 (reads_of n x.kind)) (edges_from n (p + 1) es) i e h) [
      | inl a ↦ let r = at_is (is_late x.kind) p 0 (reads_of n x.kind) i e a.1 in found_here n p x es i r.0 e r.1 r.2
      | inr b ↦ found_next n p x es e (from_is n (p + 1) es b.0 e b.2)
    ]

-- what places read has an edge
here_there : (n : PlacedNode) (p : ℕ) (x entry : PlaceEntry) (es : List PlaceEntry) (s q : ℕ) → x ≡ entry → slice_get (reads_of n entry.kind) s ≡ Some q →
    slice_get (edges_from n p (x ∷ es)) s ≡ Some (edge_to (is_late entry.kind) (p + 0) s q)
here_there n p x entry es s q same r =
    let own = edges_at (is_late x.kind) p 0 (reads_of n x.kind) in
    let reads : slice_get (reads_of n x.kind) s ≡ Some q = subst (λ (y : PlaceEntry). slice_get (reads_of n y.kind) s ≡ Some q) (sym same) r in
    let at : slice_get own s ≡ Some (edge_to (is_late x.kind) p (0 + s) q) = at_there (is_late x.kind) p 0 (reads_of n x.kind) s q reads in
    let within : s < length own = slice_get_within own s (edge_to (is_late x.kind) p (0 + s) q) at in
    let z : 0 + s ≡ s = omega arith in
    let w : p ≡ p + 0 = omega arith in
    get_left own (edges_from n (p + 1) es) s within ∙ at ∙ ap (λ (y : PlaceEntry). Some (edge_to (is_late y.kind) p (0 + s) q)) same
    ∙ ap (λ j. Some (edge_to (is_late entry.kind) p j q)) z ∙ ap (λ t. Some (edge_to (is_late entry.kind) t s q)) w

from_there : (n : PlacedNode) (p : ℕ) (es : List PlaceEntry) (k : ℕ) (entry : PlaceEntry) (s q : ℕ) → slice_get es k ≡ Some entry → slice_get (reads_of n entry.kind) s ≡ Some q →
    (i : ℕ) × (slice_get (edges_from n p es) i ≡ Some (edge_to (is_late entry.kind) (p + k) s q))
from_there n p [] k entry s q h r = absurd (none-some entry h)
from_there n p (x ∷ es) zero entry s q h r = (s, here_there n p x entry es s q (same_Some x entry h) r)
from_there n p (x ∷ es) (suc k) entry s q h r =
    let own = edges_at (is_late x.kind) p 0 (reads_of n x.kind) in
    let more = from_there n (p + 1) es k entry s q h r in
    let z : p + 1 + k ≡ p + suc k = omega arith in
    (length own + more.0, get_right own (edges_from n (p + 1) es) more.0 ∙ more.1 ∙ ap (λ t. Some (edge_to (is_late entry.kind) t s q)) z)

-- edges stand in order
both_here : (late : Bool) (p : ℕ) (qs : List ℕ) (i j : ℕ) (e f : Edge) → i < j → slice_get (edges_at late p 0 qs) i ≡ Some e → slice_get (edges_at late p 0 qs) j ≡ Some f → IsBefore e f
both_here late p qs i j e f l a b =
    let u = at_is late p 0 qs i e a in
    let v = at_is late p 0 qs j f b in
    let to : e.to ≡ p = ap (λ (g : Edge). g.to) u.2 in
    let same : f.to ≡ p = ap (λ (g : Edge). g.to) v.2 in
    let first : e.seat ≡ 0 + i = ap (λ (g : Edge). g.seat) u.2 in
    let second : f.seat ≡ 0 + j = ap (λ (g : Edge). g.seat) v.2 in inr (to ∙ sym same, omega arith)

one_here : (n : PlacedNode) (late : Bool) (p : ℕ) (qs : List ℕ) (es : List PlaceEntry) (i j : ℕ) (e f : Edge) → slice_get (edges_at late p 0 qs) i ≡ Some e → slice_get (edges_from n (p + 1) es) j ≡ Some f → IsBefore e f
one_here n late p qs es i j e f a b =
    let u = at_is late p 0 qs i e a in
    let v = from_is n (p + 1) es j f b in
    let first : e.to ≡ p = ap (λ (g : Edge). g.to) u.2 in
    let second : f.to ≡ p + 1 + v.k = v.to in inl (omega arith)

from_order : (n : PlacedNode) (p : ℕ) (es : List PlaceEntry) (i j : ℕ) (e f : Edge) → i < j → slice_get (edges_from n p es) i ≡ Some e → slice_get (edges_from n p es) j ≡ Some f → IsBefore e f
from_order n p [] i j e f l a b = absurd (none-some e a)
from_order n p (x ∷ es) i j e f l a b =
    let late = is_late x.kind in
    let qs = reads_of n x.kind in
    let own = edges_at late p 0 qs in
    let rest = edges_from n (p + 1) es in
    elim (in_one own rest i e a) [
      | inl u ↦ elim (in_one own rest j f b) [
        | inl v ↦ both_here late p qs i j e f l u.1 v.1
        | inr v ↦ one_here n late p qs es i v.0 e f u.1 v.2
      ]
      | inr u ↦ elim (in_one own rest j f b) [
        | inl v ↦ absurd (let first : i ≡ length own + u.0 = u.1 in let second : j < length own = v.0 in omega arith)
        | inr v ↦
            let first : i ≡ length own + u.0 = u.1 in
            let second : j ≡ length own + v.0 = v.1 in from_order n (p + 1) es u.0 v.0 e f (omega arith) u.2 v.2
      ]
    ]

-- the edges of a node
edge_is : (n : PlacedNode) (i : ℕ) (e : Edge) → slice_get (node_edges n) i ≡ Some e → IsEdge n e
edge_is n i e h =
    let f = from_is n 1 n.places i e h in
    let to : e.to ≡ 1 + f.k = f.to in
    let z : e.to ≡ suc f.k = omega arith in record {
      reads = record { entry = f.entry; stands = ap (at_one n.places) z ∙ f.there; reads = f.reads };
      late = f.late;
    }

has_edge : (n : PlacedNode) (p k q : ℕ) (entry : PlaceEntry) → at_one n.places p ≡ Some entry → slice_get (reads_of n entry.kind) k ≡ Some q → HasEdge (node_edges n) p k q
has_edge n zero k q entry h r = absurd (none-some entry h)
has_edge n (suc m) k q entry h r =
    let f = from_there n 1 n.places m entry k q h r in
    let z : 1 + m ≡ suc m = omega arith in record {
      number = f.0;
      edge = edge_to (is_late entry.kind) (1 + m) k q;
      there = f.1;
      to = z;
      seat = refl;
      from = refl;
    }

pub edges_are : (n : PlacedNode) (edges : List Edge) → edges ≡ node_edges n → AreEdges n edges
edges_are n edges is = subst (AreEdges n) (sym is) (record {
  are = edge_is n;
  all = λ p k q r. has_edge n p k q r.entry r.stands r.reads;
  order = from_order n 1 n.places;
})

-- the first result of a call reads its arguments, and another one nothing
pub first_reads : (n : PlacedNode) (call j : ℕ) → j ≤ 0 → reads_of n (Result call j) ≡ arguments_of (at_one n.calls call)
first_reads n call zero h = refl
first_reads n call (suc j) h = absurd (omega arith)

pub none_read : (n : PlacedNode) (call j : ℕ) → 0 < j → reads_of n (Result call j) ≡ []
none_read n call zero h = absurd (omega arith)
none_read n call (suc j) h = refl
