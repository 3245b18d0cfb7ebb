-- The needs of a proper node name its clocks alone.
use Rattle.std.proofs.Common.{ℕ, zero, suc, ◌+◌, ◌-◌, ◌<◌, ◌≤◌, ◌≡◌, ◌++◌, List, [], ◌∷◌, length, Option, Some, None, ap, sym, refl, ◌∙◌, subst, arith}
use Rattle.std.specs.Prelude.{slice_get, slice_index_or}
use Rattle.std.specs.List.{AllByRecursion}
use Rattle.std.proofs.lemmas.Option.{slice_get_within, slice_get-get_or}
use Rattle.lucy_word.specs.Bits.{Bits}
use Rattle.lucy_word.proofs.Lists.{all_join}
use Rattle.lucy_place.specs.declared.entry.PlaceEntry.{PlaceEntry}
use Rattle.lucy_place.specs.declared.entry.PlaceKind.{PlaceKind}
use Rattle.lucy_place.specs.declared.entry.PlaceKind.TheVariants.{Param, Defined, Lit, Op, Host, When, Merge, Fby, Buffer, Result}
use Rattle.lucy_place.specs.declared.entry.CallSite.{CallSite}
use Rattle.lucy_place.specs.declared.placed.PlacedNode.{PlacedNode}
use Rattle.lucy_place.specs.Proper.{at_one, bound_of, Stands, IsPlace, ArePlaces, IsProperKind, IsProperNode}
use Rattle.lucy_place.proofs.NodeLaws.{at_one_within}
use Rattle.lucy_need.specs.declared.need.Need.{Need}
use Rattle.lucy_need.specs.Meeting.{IsWithin}
use Rattle.lucy_clock.specs.declared.signature.Signature.{Signature}
use Rattle.lucy_clock.specs.Clocks.{AreSignatures, call_clock, clocks_of}
use Rattle.lucy_clock.specs.Listing.{word_needs, argument_needs, result_needs, operand_needs, bound_needs, no_signature, site_needs, call_needs, kind_needs, place_needs, needs_from, needs_of}
use Rattle.lucy_clock.proofs.ListedLaws.{one_within}

module _ (m : ℕ) where
  abbrev All : List Need → Type 0
  All needs = AllByRecursion (IsWithin m) needs

  words_within : (clock : ℕ) (written : Option Bits) → clock < m → All (word_needs clock written)
  words_within clock None l = tt
  words_within clock (Some word) l = ((l, omega (arith, l)), tt)

  arguments_within : (base : ℕ) (args : List ℕ) (words : List Bits) → base < m → AllByRecursion (λ a. a < m) args → All (argument_needs base args words)
  arguments_within base [] words l all = tt
  arguments_within base (a ∷ args) [] l all = tt
  arguments_within base (a ∷ args) (v ∷ words) l all = ((all.0, l), arguments_within base args words l all.1)

  results_within : (base place : ℕ) (words : List Bits) → base < m → place + length words ≤ m → All (result_needs base place words)
  results_within base place [] l h = tt
  results_within base place (v ∷ words) l h = ((omega (arith, h), l), results_within base (place + 1) words l (omega (arith, h)))

  operands_within : (place : ℕ) (args : List ℕ) → place < m → AllByRecursion (λ a. a < m) args → All (operand_needs place args)
  operands_within place [] l all = tt
  operands_within place (a ∷ args) l all = ((l, all.0), operands_within place args l all.1)

  bound_within : (place operand : ℕ) (most : Option ℕ) → place < m → operand < m → All (bound_needs place operand most)
  bound_within place operand None p e = tt
  bound_within place operand (Some most) p e = ((p, e), tt)

module _ (nodes : List PlacedNode) (above : List Signature) (n : PlacedNode) (proper : IsProperNode nodes n) (ports : AreSignatures nodes above) where
  place_below : (p : ℕ) → IsPlace n p → p < clocks_of n
  place_below p h = let l : p ≤ length n.places = h.1 in omega arith

  places_below : (ps : List ℕ) → ArePlaces n ps → AllByRecursion (λ a. a < clocks_of n) ps
  places_below [] h = tt
  places_below (p ∷ ps) h = (place_below p h.0, places_below ps h.1)

  stands_below : (p : ℕ) (kind : PlaceKind) → Stands n p kind → p < clocks_of n
  stands_below p kind s = let l = one_within n.places p s.0 s.1 in omega arith

  call_within : (p call : ℕ) (site : CallSite) → at_one n.calls call ≡ Some site → Stands n p (Result call 0) → AllByRecursion (IsWithin (clocks_of n)) (site_needs above (call_clock n call) p (Some site))
  call_within p call site at stands =
      let m : ℕ = clocks_of n in
      let base : ℕ = call_clock n call in
      let is = proper.calls call site at in
      let sig : Signature = slice_index_or above site.node no_signature in
      let number : call ≤ length n.calls = one_within n.calls call site at in
      let low : base < m = omega arith in
      let there : site.node < length above = (let w = slice_get_within nodes site.node is.callee is.found in let all = ports.all in omega arith) in
      let found : slice_get above site.node ≡ Some sig = slice_get-get_or above site.node no_signature there in
      let results : length sig.results ≡ length is.callee.results = ports.results site.node is.callee sig is.found found in
      let some = is.some in
      let end = is.results (length is.callee.results - 1) (omega arith) in
      let within : site.first + (length is.callee.results - 1) ≤ length n.places = one_within n.places (site.first + (length is.callee.results - 1)) end.0 end.1 in
      let first : p ≡ site.first + 0 = (is.only p 0 stands).0 in
      all_join (IsWithin m) (word_needs base site.at) (argument_needs base site.args sig.params ++ result_needs base p sig.results)
      (words_within m base site.at low)
      (all_join (IsWithin m) (argument_needs base site.args sig.params) (result_needs base p sig.results)
      (arguments_within m base site.args sig.params low (places_below site.args is.places))
      (results_within m base p sig.results low (omega arith)))

  result_within : (p call j : ℕ) (site : CallSite) → at_one n.calls call ≡ Some site → Stands n p (Result call j) → AllByRecursion (IsWithin (clocks_of n)) (call_needs above n p call j)
  result_within p call zero site at stands = subst (λ s. AllByRecursion (IsWithin (clocks_of n)) (site_needs above (call_clock n call) p s)) (sym at) (call_within p call site at stands)
  result_within p call (suc j) site at stands = tt

  kind_within : (p : ℕ) (kind : PlaceKind) → Stands n p kind → IsProperKind n p kind → AllByRecursion (IsWithin (clocks_of n)) (kind_needs above n p kind)
  kind_within p Param s is = tt
  kind_within p (Defined e) s is = ((stands_below p (Defined e) s, place_below e is.1), tt)
  kind_within p (Lit l) s is = tt
  kind_within p (Op op args) s is = operands_within (clocks_of n) p args (stands_below p (Op op args) s) (places_below args is.2)
  kind_within p (Host op a b) s is = let l = stands_below p (Host op a b) s in ((l, place_below a is.1), ((l, place_below b is.2), tt))
  kind_within p (When e word) s is = ((stands_below p (When e word) s, place_below e is.1), tt)
  kind_within p (Merge word a b) s is = let l = stands_below p (Merge word a b) s in ((place_below a is.2, l), ((place_below b is.3, l), tt))
  kind_within p (Fby l e) s is = ((stands_below p (Fby l e) s, place_below e is.1), tt)
  kind_within p (Buffer k e) s is =
      let l = stands_below p (Buffer k e) s in
      ((place_below e is.2, l), bound_within (clocks_of n) p e (bound_of n k) l (place_below e is.2))
  kind_within p (Result call j) s is = result_within p call j is.1 is.2 s

  from_within : (p : ℕ) (entries : List PlaceEntry) → ((i : ℕ) (entry : PlaceEntry) → slice_get entries i ≡ Some entry → AllByRecursion (IsWithin (clocks_of n)) (place_needs above n (p + i) entry)) →
      AllByRecursion (IsWithin (clocks_of n)) (needs_from above n p entries)
  from_within p [] h = tt
  from_within p (entry ∷ entries) h =
      let e : p + 0 ≡ p = omega arith in
      all_join (IsWithin (clocks_of n)) (place_needs above n p entry) (needs_from above n (p + 1) entries)
      (subst (λ q. AllByRecursion (IsWithin (clocks_of n)) (place_needs above n q entry)) e (h 0 entry refl))
      (from_within (p + 1) entries (λ i x f. let g : p + suc i ≡ p + 1 + i = omega arith in subst (λ q. AllByRecursion (IsWithin (clocks_of n)) (place_needs above n q x)) g (h (suc i) x f)))

  pub needs_within : AllByRecursion (IsWithin (clocks_of n)) (needs_of above n)
  needs_within = from_within 1 n.places (λ i entry e.
      let g : 1 + i ≡ suc i = omega arith in
      let here : at_one n.places (1 + i) ≡ Some entry = ap (at_one n.places) g ∙ e in
      all_join (IsWithin (clocks_of n)) (word_needs (1 + i) entry.word) (kind_needs above n (1 + i) entry.kind)
      (words_within (clocks_of n) (1 + i) entry.word (stands_below (1 + i) entry.kind (entry, here, refl)))
      (kind_within (1 + i) entry.kind (entry, here, refl) (proper.kinds (1 + i) entry here)))

-- a buffer and what it reads are places
pub buffer_within : (above : List PlacedNode) (n : PlacedNode) (p k e : ℕ) → IsProperNode above n → Stands n p (Buffer k e) → (e < clocks_of n) × (p < clocks_of n)
buffer_within above n p k e proper stands =
    let own = at_one_within n.places p stands.0 stands.1 in
    let kind = subst (λ x. IsProperKind n p x) stands.2 (proper.kinds p stands.0 stands.1) in
    let read : IsPlace n e = kind.2 in
    let low = own.1 in
    let high = read.1 in (omega arith, omega arith)
