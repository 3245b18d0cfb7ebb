-- An assignment meets the needs of a node exactly where it keeps the node's clock rules.
use Rattle.std.proofs.Common.{ℕ, zero, suc, ◌+◌, ◌<◌, ◌≤◌, ◌≡◌, ◌++◌, ◌↔◌, List, [], ◌∷◌, length, Option, Some, None, ap, sym, refl, ◌∙◌, subst, arith}
use Rattle.std.specs.Prelude.{slice_get, slice_index_or}
use Rattle.std.proofs.lemmas.Option.{same_Some, slice_get_within, slice_get-get_or}
use Rattle.lucy_word.specs.Bits.{Bits, IsWord}
use Rattle.lucy_word.specs.Shortest.{Same}
use Rattle.lucy_word.specs.Sampling.{IsOn}
use Rattle.lucy_place.specs.declared.entry.PlaceEntry.{PlaceEntry}
use Rattle.lucy_place.specs.declared.entry.PlaceKind.{PlaceKind}
use Rattle.lucy_place.specs.declared.entry.PlaceKind.TheVariants.{Param, Defined, Lit, Op, Host, When, Merge, Fby, Buffer, Result}
use Rattle.lucy_place.specs.declared.entry.CallSite.{CallSite}
use Rattle.lucy_place.specs.declared.placed.PlacedNode.{PlacedNode}
use Rattle.lucy_word.specs.Complement.{turned}
use Rattle.lucy_place.specs.Proper.{at_one, bound_of, Stands, IsPlace, IsProperKind, IsProperNode}
use Rattle.lucy_need.specs.Meeting.{Assignment, AreWordsIn, Meets, MeetsAll}
use Rattle.lucy_need.proofs.AllLaws.{all_front, all_back}
use Rattle.lucy_clock.specs.declared.signature.Signature.{Signature}
use Rattle.lucy_clock.specs.Clocks.{AreSignatures, call_clock, clocks_of}
use Rattle.lucy_clock.specs.WellClocked.{KeepsRule, KeepsBound, KeepsCall, IsWellClocked}
use Rattle.lucy_clock.specs.Listing.{word_needs, argument_needs, result_needs, no_signature, site_needs, call_needs, kind_needs, place_needs, needs_from, needs_of}
use Rattle.lucy_clock.proofs.BoundLaws.{bound_from, bound_to}
use Rattle.lucy_clock.proofs.RuleLaws.{base_from, base_to, args_from, args_to}
use Rattle.lucy_word.specs.Always.{always}
use Rattle.lucy_word.proofs.OnLaws.{on_not_from, on_not_to}
use Rattle.lucy_word.proofs.Lists.{all_join}
use Rattle.lucy_need.proofs.TermLaws.{alone_from, alone_to, on_from, on_to, adapt_from, adapt_to}

-- a written word
abbrev pub WordHolds : Assignment → ℕ → Option Bits → Type 0
WordHolds w p written = (word : Bits) → written ≡ Some word → Same (w p) word

pub word_from : (w : Assignment) (p : ℕ) (written : Option Bits) → Same (w 0) always → WordHolds w p written → MeetsAll w (word_needs p written)
word_from w p None base h = tt
word_from w p (Some word) base h = (base_from w p word base (h word refl), tt)

pub word_to : (w : Assignment) (p : ℕ) (written : Option Bits) → Same (w 0) always → MeetsAll w (word_needs p written) → WordHolds w p written
word_to w p None base h word e = absurd (cc)
word_to w p (Some v) base h word e = subst (Same (w p)) (same_Some v word e) (base_to w p v base h.0)

-- the arguments of a call
abbrev pub ArgumentsHold : Assignment → ℕ → List ℕ → List Bits → Type 0
ArgumentsHold w base args words = (j arg : ℕ) (word : Bits) → slice_get args j ≡ Some arg → slice_get words j ≡ Some word → IsOn (w base) word (w arg)

pub arguments_from : (w : Assignment) (base : ℕ) (args : List ℕ) (words : List Bits) → ArgumentsHold w base args words → MeetsAll w (argument_needs base args words)
arguments_from w base [] words h = tt
arguments_from w base (arg ∷ args) [] h = tt
arguments_from w base (arg ∷ args) (word ∷ words) h = (on_from w arg base word (h 0 arg word refl refl), arguments_from w base args words (λ j a v e f. h (suc j) a v e f))

pub arguments_to : (w : Assignment) (base : ℕ) (args : List ℕ) (words : List Bits) → MeetsAll w (argument_needs base args words) → ArgumentsHold w base args words
arguments_to w base [] words h j arg word e f = absurd (cc)
arguments_to w base (a ∷ args) [] h j arg word e f = absurd (cc)
arguments_to w base (a ∷ args) (v ∷ words) h zero arg word e f =
    subst (λ x. IsOn (w base) x (w arg)) (same_Some v word f) (subst (λ x. IsOn (w base) v (w x)) (same_Some a arg e) (on_to w a base v h.0))
arguments_to w base (a ∷ args) (v ∷ words) h (suc j) arg word e f = arguments_to w base args words h.1 j arg word e f

-- its results, from a place on
abbrev pub ResultsHold : Assignment → ℕ → ℕ → List Bits → Type 0
ResultsHold w base place words = (j : ℕ) (word : Bits) → slice_get words j ≡ Some word → IsOn (w base) word (w (place + j))

pub results_from : (w : Assignment) (base place : ℕ) (words : List Bits) → ResultsHold w base place words → MeetsAll w (result_needs base place words)
results_from w base place [] h = tt
results_from w base place (word ∷ words) h = (
  on_from w place base word (let e : place + 0 ≡ place = omega arith in subst (λ p. IsOn (w base) word (w p)) e (h 0 word refl)),
  results_from w base (place + 1) words (λ j v f. let e : place + suc j ≡ place + 1 + j = omega arith in subst (λ p. IsOn (w base) v (w p)) e (h (suc j) v f)),
)

pub results_to : (w : Assignment) (base place : ℕ) (words : List Bits) → MeetsAll w (result_needs base place words) → ResultsHold w base place words
results_to w base place [] h j word f = absurd (cc)
results_to w base place (v ∷ words) h zero word f =
    let e : place ≡ place + 0 = omega arith in
    subst (λ x. IsOn (w base) x (w (place + 0))) (same_Some v word f) (subst (λ p. IsOn (w base) v (w p)) e (on_to w place base v h.0))
results_to w base place (v ∷ words) h (suc j) word f =
    let e : place + 1 + j ≡ place + suc j = omega arith in
    subst (λ p. IsOn (w base) word (w p)) e (results_to w base (place + 1) words h.1 j word f)

-- the needs of places, one by one
pub needs_front : (w : Assignment) (above : List Signature) (n : PlacedNode) (p : ℕ) (entries : List PlaceEntry) →
    ((i : ℕ) (entry : PlaceEntry) → slice_get entries i ≡ Some entry → MeetsAll w (place_needs above n (p + i) entry)) → MeetsAll w (needs_from above n p entries)
needs_front w above n p [] h = tt
needs_front w above n p (entry ∷ entries) h =
    let e : p + 0 ≡ p = omega arith in
    all_join (Meets w) (place_needs above n p entry) (needs_from above n (p + 1) entries)
    (subst (λ q. MeetsAll w (place_needs above n q entry)) e (h 0 entry refl))
    (needs_front w above n (p + 1) entries (λ i x f. let g : p + suc i ≡ p + 1 + i = omega arith in subst (λ q. MeetsAll w (place_needs above n q x)) g (h (suc i) x f)))

pub needs_each : (w : Assignment) (above : List Signature) (n : PlacedNode) (p : ℕ) (entries : List PlaceEntry) → MeetsAll w (needs_from above n p entries) →
    (i : ℕ) (entry : PlaceEntry) → slice_get entries i ≡ Some entry → MeetsAll w (place_needs above n (p + i) entry)
needs_each w above n p [] h i entry e = absurd (cc)
needs_each w above n p (x ∷ entries) h zero entry e =
    let f : p ≡ p + 0 = omega arith in
    subst (λ y. MeetsAll w (place_needs above n (p + 0) y)) (same_Some x entry e)
    (subst (λ q. MeetsAll w (place_needs above n q x)) f (all_front (Meets w) (place_needs above n p x) (needs_from above n (p + 1) entries) h))
needs_each w above n p (x ∷ entries) h (suc i) entry e =
    let f : p + 1 + i ≡ p + suc i = omega arith in
    subst (λ q. MeetsAll w (place_needs above n q entry)) f
    (needs_each w above n (p + 1) entries (all_back (Meets w) (place_needs above n p x) (needs_from above n (p + 1) entries) h) i entry e)

-- a call
module _ (w : Assignment) (nodes : List PlacedNode) (above : List Signature) (n : PlacedNode) (proper : IsProperNode nodes n) (ports : AreSignatures nodes above) where
  abbrev ports_at : CallSite → Signature
  ports_at site = slice_index_or above site.node no_signature

  -- the callee's signature is there
  signature : (call : ℕ) (site : CallSite) → at_one n.calls call ≡ Some site → slice_get above site.node ≡ Some (ports_at site)
  signature call site at =
      let is = proper.calls call site at in
      slice_get-get_or above site.node no_signature (omega (arith, slice_get_within nodes site.node is.callee is.found, ports.all))

  -- where the needs of a call hold, so does its rule
  pub call_to : (call : ℕ) (site : CallSite) → (at : at_one n.calls call ≡ Some site) → MeetsAll w (site_needs above (call_clock n call) site.first (Some site)) →
      Same (w 0) always → KeepsCall above n w call site
  call_to call site at met base =
      let is = proper.calls call site at in
      let b : ℕ = call_clock n call in
      let sig : Signature = ports_at site in
      let found = signature call site at in
      let front = all_front (Meets w) (word_needs b site.at) (argument_needs b site.args sig.params ++ result_needs b site.first sig.results) met in
      let back = all_back (Meets w) (word_needs b site.at) (argument_needs b site.args sig.params ++ result_needs b site.first sig.results) met in
      let args = all_front (Meets w) (argument_needs b site.args sig.params) (result_needs b site.first sig.results) back in
      let results = all_back (Meets w) (argument_needs b site.args sig.params) (result_needs b site.first sig.results) back in
      record {
        at = word_to w b site.at base front;
        arguments = λ callee j arg word f e g.
            let same : callee ≡ sig = same_Some callee sig (sym f ∙ found) in
            arguments_to w b site.args sig.params args j arg word e (ap (λ (s : Signature). slice_get s.params j) (sym same) ∙ g);
        results = λ callee p j word f s g.
            let same : callee ≡ sig = same_Some callee sig (sym f ∙ found) in
            let at_place : p ≡ site.first + j = (is.only p j s).0 in
            subst (λ q. IsOn (w b) word (w q)) (sym at_place) (results_to w b site.first sig.results results j word (ap (λ (s : Signature). slice_get s.results j) (sym same) ∙ g));
      }

  -- and the other way round
  pub call_from : (call : ℕ) (site : CallSite) → (at : at_one n.calls call ≡ Some site) → Same (w 0) always → KeepsCall above n w call site →
      MeetsAll w (site_needs above (call_clock n call) site.first (Some site))
  call_from call site at base keeps =
      let is = proper.calls call site at in
      let b : ℕ = call_clock n call in
      let sig : Signature = ports_at site in
      let found = signature call site at in
      all_join (Meets w) (word_needs b site.at) (argument_needs b site.args sig.params ++ result_needs b site.first sig.results)
      (word_from w b site.at base keeps.at)
      (all_join (Meets w) (argument_needs b site.args sig.params) (result_needs b site.first sig.results)
      (arguments_from w b site.args sig.params (λ j arg word e f. keeps.arguments sig j arg word found e f))
      (results_from w b site.first sig.results (λ j word f.
      let many = ports.results site.node is.callee sig is.found found in
      let l : j < length is.callee.results = omega (arith, slice_get_within sig.results j word f) in
      keeps.results sig (site.first + j) j word found (is.results j l) f)))

  -- the clock of a place that stands has a word
  place_word : AreWordsIn w (clocks_of n) → (p : ℕ) → IsPlace n p → IsWord (w p)
  place_word words p h = let l : p ≤ length n.places = h.1 in words p (omega arith)

  at_one_place : (p : ℕ) (entry : PlaceEntry) → at_one n.places p ≡ Some entry → IsPlace n p
  at_one_place zero entry e = absurd (cc)
  at_one_place (suc i) entry e = (omega arith, let l = slice_get_within n.places i entry e in omega arith)

  -- a result: the needs of its call stand at the first one
  result_to : (p call j : ℕ) → Same (w 0) always → ((c : ℕ) (site : CallSite) → at_one n.calls c ≡ Some site → KeepsCall above n w c site) →
      (site : CallSite) → at_one n.calls call ≡ Some site → Stands n p (Result call j) → MeetsAll w (call_needs above n p call j)
  result_to p call zero base keeps site at stands =
      let is = proper.calls call site at in
      let e : site.first ≡ p = (let o : p ≡ site.first + 0 = (is.only p 0 stands).0 in omega arith) in
      subst (λ s. MeetsAll w (site_needs above (call_clock n call) p s)) (sym at)
      (subst (λ q. MeetsAll w (site_needs above (call_clock n call) q (Some site))) e (call_from call site at base (keeps call site at)))
  result_to p call (suc j) base keeps site at stands = tt

  -- the table of forms
  kind_from : (p : ℕ) (kind : PlaceKind) → Same (w 0) always → AreWordsIn w (clocks_of n) → ((c : ℕ) (site : CallSite) → at_one n.calls c ≡ Some site → KeepsCall above n w c site) →
      ((q k e : ℕ) → Stands n q (Buffer k e) → KeepsBound (bound_of n k) (w e) (w q)) → IsPlace n p → Stands n p kind → IsProperKind n p kind → KeepsRule w p kind → MeetsAll w (kind_needs above n p kind)
  kind_from p Param base words keeps bounds here stands is h = tt
  kind_from p (Defined e) base words keeps bounds here stands is h = (alone_from w p e h, tt)
  kind_from p (Lit l) base words keeps bounds here stands is h = tt
  kind_from p (Op op args) base words keeps bounds here stands is h = args_from w p args h
  kind_from p (Host op a b) base words keeps bounds here stands is h = (alone_from w p a h.0, (alone_from w p b h.1, tt))
  kind_from p (When e word) base words keeps bounds here stands is h = (on_from w p e word h, tt)
  kind_from p (Merge word a b) base words keeps bounds here stands is h = (on_from w a p word h.0, (on_from w b p (turned word) (on_not_to (w p) word (w b) (omega (arith, is.1)) h.1), tt))
  kind_from p (Fby l e) base words keeps bounds here stands is h = (alone_from w p e h, tt)
  kind_from p (Buffer k e) base words keeps bounds here stands is h =
      let of_e = place_word words e is.2 in
      let of_p = place_word words p here in
      (adapt_from w e p of_e of_p h, bound_from w p e (bound_of n k) of_e of_p h (bounds p k e stands))
  kind_from p (Result call j) base words keeps bounds here stands is h = result_to p call j base keeps is.1 is.2 stands

  kind_to : (p : ℕ) (kind : PlaceKind) → IsProperKind n p kind → MeetsAll w (kind_needs above n p kind) → KeepsRule w p kind
  kind_to p Param is h = tt
  kind_to p (Defined e) is h = alone_to w p e h.0
  kind_to p (Lit l) is h = tt
  kind_to p (Op op args) is h = args_to w p args h
  kind_to p (Host op a b) is h = (alone_to w p a h.0, alone_to w p b h.1.0)
  kind_to p (When e word) is h = on_to w p e word h.0
  kind_to p (Merge word a b) is h = (on_to w a p word h.0, on_not_from (w p) word (w b) (omega (arith, is.1)) (on_to w b p (turned word) h.1.0))
  kind_to p (Fby l e) is h = alone_to w p e h.0
  kind_to p (Buffer k e) is h = adapt_to w e p h.0
  kind_to p (Result call j) is h = tt

  -- the needs of a place, by its number
  needs_at : MeetsAll w (needs_of above n) → (p : ℕ) (entry : PlaceEntry) → at_one n.places p ≡ Some entry → MeetsAll w (place_needs above n p entry)
  needs_at met zero entry e = absurd (cc)
  needs_at met (suc i) entry e =
      let f : 1 + i ≡ suc i = omega arith in
      subst (λ q. MeetsAll w (place_needs above n q entry)) f (needs_each w above n 1 n.places met i entry e)

  pub well_to : AreWordsIn w (clocks_of n) → Same (w 0) always → MeetsAll w (needs_of above n) → IsWellClocked above n w
  well_to words base met = record {
    words = words;
    base = base;
    forms = λ p entry e.
        kind_to p entry.kind (proper.kinds p entry e) (all_back (Meets w) (word_needs p entry.word) (kind_needs above n p entry.kind) (needs_at met p entry e));
    bounds = λ p k e stands.
        let own = all_back (Meets w) (word_needs p stands.0.word) (kind_needs above n p stands.0.kind) (needs_at met p stands.0 stands.1) in
        let needs : MeetsAll w (kind_needs above n p (Buffer k e)) = subst (λ kind. MeetsAll w (kind_needs above n p kind)) stands.2 own in
        let is : IsProperKind n p (Buffer k e) = subst (IsProperKind n p) stands.2 (proper.kinds p stands.0 stands.1) in
        bound_to w p e (bound_of n k) (place_word words e is.2) (place_word words p (at_one_place p stands.0 stands.1)) (adapt_to w e p needs.0) needs.1;
    written = λ p entry word e f.
        word_to w p entry.word base (all_front (Meets w) (word_needs p entry.word) (kind_needs above n p entry.kind) (needs_at met p entry e)) word f;
    calls = λ call site at.
        let is = proper.calls call site at in
        let z : site.first + 0 ≡ site.first = omega arith in
        let first : Stands n site.first (Result call 0) = subst (λ q. Stands n q (Result call 0)) z (is.results 0 is.some) in
        let own = all_back (Meets w) (word_needs site.first first.0.word) (kind_needs above n site.first first.0.kind) (needs_at met site.first first.0 first.1) in
        let needs : MeetsAll w (call_needs above n site.first call 0) = subst (λ k. MeetsAll w (kind_needs above n site.first k)) first.2 own in
        call_to call site at (subst (λ s. MeetsAll w (site_needs above (call_clock n call) site.first s)) at needs) base;
  }

  pub well_from : IsWellClocked above n w → MeetsAll w (needs_of above n)
  well_from well =
      needs_front w above n 1 n.places (λ i entry e.
      let g : 1 + i ≡ suc i = omega arith in
      let here : at_one n.places (1 + i) ≡ Some entry = ap (at_one n.places) g ∙ e in
      all_join (Meets w) (word_needs (1 + i) entry.word) (kind_needs above n (1 + i) entry.kind)
      (word_from w (1 + i) entry.word well.base (λ word f. well.written (1 + i) entry word here f))
      (kind_from (1 + i) entry.kind well.base well.words well.calls well.bounds (at_one_place (1 + i) entry here) (entry, here, refl) (proper.kinds (1 + i) entry here) (well.forms (1 + i) entry here)))

  pub rules_law : AreWordsIn w (clocks_of n) → Same (w 0) always → MeetsAll w (needs_of above n) ↔ IsWellClocked above n w
  rules_law words base = (well_to words base, well_from)
