-- What listing asks of a node holds of a proper one.
use Rattle.std.proofs.Common.{ℕ, zero, suc, ◌+◌, ◌-◌, ◌^◌, ◌<◌, ◌≤◌, ◌≡◌, List, [], ◌∷◌, Option, Some, None, length, get_or, ap, sym, refl, ◌∙◌, subst, arith}
use Rattle.std.specs.Prelude.{slice_get, slice_index_or}
use Rattle.std.proofs.lemmas.Option.{same_Some, slice_get_read, slice_get_within, slice_get-get_or}
use Rattle.std.specs.List.{AllByRecursion}
use Rattle.lucy_tree.specs.Shaped.{IsBound}
use Rattle.lucy_place.specs.declared.entry.PlaceKind.{PlaceKind}
use Rattle.lucy_place.specs.declared.entry.PlaceKind.TheVariants.{Merge, Buffer, Result}
use Rattle.lucy_place.specs.declared.entry.CallSite.{CallSite}
use Rattle.lucy_place.specs.declared.placed.PlacedNode.{PlacedNode}
use Rattle.lucy_place.specs.Proper.{at_one, bound_of, Stands, IsProperKind, IsProperNode}
use Rattle.lucy_clock.specs.declared.signature.Signature.{Signature}
use Rattle.lucy_clock.specs.Clocks.{AreSignatures, clocks_of}
use Rattle.lucy_clock.specs.Listing.{no_signature}
use Rattle.lucy_clock.specs.Drafts.{IsListedCall, IsListedKind, IsListedNode}

-- the number of an element is at most the length
pub one_within : {A : Type 0} (xs : List A) (p : ℕ) (x : A) → at_one xs p ≡ Some x → p ≤ length xs
one_within xs zero x e = omega arith
one_within xs (suc i) x e = let l = slice_get_within xs i x e in omega arith

pub one_some : {A : Type 0} (xs : List A) (p : ℕ) (x : A) → at_one xs p ≡ Some x → 0 < p
one_some xs zero x e = absurd (cc)
one_some xs (suc i) x e = omega arith

-- the call of a number, as it is read from the list of calls
pub call_here : (calls sites : List CallSite) (call : ℕ) (site found : CallSite) → sites ≡ calls → at_one calls call ≡ Some site → found ≡ get_or sites (call - 1) found → site ≡ found
call_here calls sites zero site found e at is = absurd (cc)
call_here calls sites (suc i) site found e at is =
    let k : suc i - 1 ≡ i = omega arith in
    let there : slice_get sites i ≡ Some site = ap (λ l. slice_get l i) e ∙ at in
    same_Some site found (sym there ∙ slice_get_read sites (length sites) i found refl (slice_get_within sites i site there) (is ∙ ap (λ n. get_or sites n found) k))

-- a bound is no greater than it may be
small_at : (bounds : List (Option ℕ)) (i : ℕ) → AllByRecursion IsBound bounds → IsBound (slice_index_or bounds i None)
small_at [] i all = tt
small_at (most ∷ bounds) zero all = all.0
small_at (most ∷ bounds) (suc i) all = small_at bounds i all.1

pub buffer_small : (n : PlacedNode) (k : ℕ) → AllByRecursion IsBound n.bounds → IsBound (bound_of n k)
buffer_small n zero all = tt
buffer_small n (suc i) all = small_at n.bounds i all

module _ (nodes : List PlacedNode) (above : List Signature) (n : PlacedNode) (proper : IsProperNode nodes n) (ports : AreSignatures nodes above) where
  pub small : clocks_of n < 2 ^ 32
  small = (let few : length n.places ≤ 4096 = proper.few in let calls : length n.calls ≤ 4096 = proper.few_calls in omega arith)

  call_listed : (p call : ℕ) (site : CallSite) → at_one n.calls call ≡ Some site → Stands n p (Result call 0) → IsListedCall above n call p
  call_listed p call site at stands =
      let is = proper.calls call site at in
      let sig : Signature = slice_index_or above site.node no_signature in
      let there : site.node < length above = (let w = slice_get_within nodes site.node is.callee is.found in let all = ports.all in omega arith) in
      let found : slice_get above site.node ≡ Some sig = slice_get-get_or above site.node no_signature there in
      let params : length sig.params ≡ is.callee.params = ports.params site.node is.callee sig is.found found in
      let results : length sig.results ≡ length is.callee.results = ports.results site.node is.callee sig is.found found in
      let some = is.some in
      let last : length is.callee.results - 1 < length is.callee.results = omega arith in
      let end = is.results (length is.callee.results - 1) last in
      let within : site.first + (length is.callee.results - 1) ≤ length n.places = one_within n.places (site.first + (length is.callee.results - 1)) end.0 end.1 in
      let first : p ≡ site.first + 0 = (is.only p 0 stands).0 in
      let number : call ≤ length n.calls = one_within n.calls call site at in
      let few : length n.places ≤ 4096 = proper.few in
      record {
        site = site;
        stands = at;
        few = omega arith;
        listed = record { there = there; arguments = is.arguments ∙ sym params; results = omega arith };
      }

  kind_listed : (p : ℕ) (kind : PlaceKind) → Stands n p kind → IsProperKind n p kind → IsListedKind above n p kind
  kind_listed p (Merge word a b) stands is = is.1
  kind_listed p (Buffer k e) stands is = record { counts = one_some n.buffers k p is.1; there = (let l = one_within n.buffers k p is.1 in let b = proper.bounds in omega arith); small = buffer_small n k proper.small }
  kind_listed p (Result call j) stands is = λ e. call_listed p call is.1 is.2 (subst (λ i. Stands n p (Result call i)) e stands)
  kind_listed p kind stands is = tt

  pub node_listed : IsListedNode above n
  node_listed = record {
    few = (let few : length n.places ≤ 4096 = proper.few in omega arith);
    kinds = λ p entry e. kind_listed p entry.kind (entry, e, refl) (proper.kinds p entry e);
  }
