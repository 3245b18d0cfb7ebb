-- How the words of an instance place and of what it reads hang together.
use Rattle.std.proofs.Common.{ℕ, suc, zero, ◌+◌, ◌-◌, ◌<◌, ◌≤◌, ◌≡◌, true, List, [], ◌∷◌, Option, Some, None, length, map, take, drop, ap, sym, refl, ◌∙◌, subst, inl, inr, arith}
use Rattle.std.specs.Prelude.{slice_get, slice_index_or, option_map, ◌⊎◌}
use Rattle.std.proofs.lemmas.Option.{same_Some, slice_get_within, slice_get-map, slice_get-get_or}
use Rattle.lucy_word.specs.Bits.{Bits, IsWord}
use Rattle.lucy_word.specs.Shortest.{Same}
use Rattle.lucy_word.specs.Sampling.{IsOn}
use Rattle.lucy_word.specs.Adaptable.{IsAdaptable, IsSize}
use Rattle.lucy_word.proofs.AdaptableLaws.{IsAdaptable-on, IsSize-on}
use Rattle.lucy_place.specs.declared.placed.PlacedNode.{PlacedNode}
use Rattle.lucy_place.specs.declared.entry.PlaceEntry.{PlaceEntry}
use Rattle.lucy_place.specs.declared.entry.CallSite.{CallSite}
use Rattle.lucy_place.specs.declared.entry.PlaceKind.{PlaceKind}
use Rattle.lucy_place.specs.declared.entry.PlaceKind.TheVariants.{Param, Defined, Lit, Op, Host, When, Merge, Fby, Buffer, Result}
use Rattle.lucy_place.specs.Proper.{at_one, Stands, IsProperKind, IsProperNode, AreProper}
use Rattle.lucy_word.specs.Complement.{turned}
use Rattle.lucy_need.specs.Meeting.{Assignment, assigned}
use Rattle.lucy_clock.specs.Clocks.{call_clock}
use Rattle.lucy_clock.specs.WellClocked.{KeepsRule}
use Rattle.lucy_word.proofs.OnLaws.{on_same, same_self, on_on, on_base, on_word, on_one, on_not_to}
use Rattle.lucy_kahn.specs.Spots.{Spot, at, site_in, node_at, argument, result_place, param_reads, spot_reads}
use Rattle.lucy_kahn.proofs.Parts.{callee_in}
use Rattle.lucy_flat.specs.Instances.{index_at, words_in, sizes_in, word_at, IsBase, IsSpotWord}
use Rattle.lucy_flat.proofs.Parts.{called, base_clock}
use Rattle.lucy_kahn.proofs.Closed.{get_take}
use Rattle.std.proofs.lemmas.List.{length-take}
use Rattle.lucy_clock.specs.declared.node_clock.NodeClock.{NodeClock}
use Rattle.lucy_flat.specs.Clocked.{AreClocked, IsClock}
use Rattle.lucy_clock.specs.NodeClocks.{signatures, ports}
use Rattle.lucy_word.specs.Always.{always}
use Rattle.lucy_word.proofs.Lists.{all_at}
use Rattle.lucy_host.proofs.Elements.{get_there}

-- the place reads places of its own instance alone
abbrev pub IsOwn : PlaceKind → Type 0
IsOwn Param = ⊥
IsOwn (Result call number) = ⊥
IsOwn kind = Unit {0}

-- the word of what is read, and that of the place that reads it as its operand k
abbrev pub Feeds : PlaceKind → ℕ → Bits → Bits → Type 0
Feeds (When p a) k x y = IsOn x a y
Feeds (Merge p a b) zero x y = IsOn y p x
Feeds (Merge p a b) (suc k) x y = IsOn y (turned p) x
Feeds (Buffer n a) k x y = IsAdaptable x y
Feeds kind k x y = Same x y

get_some : (xs : List ℕ) (i : ℕ) → i < length xs → slice_get xs i ≡ Some (slice_index_or xs i 0)
get_some [] i h = absurd (omega arith)
get_some (x ∷ xs) zero h = refl
get_some (x ∷ xs) (suc i) h = get_some xs i (omega (arith, h))

pub take_get : {A : Type 0} (xs : List A) (i j : ℕ) (x : A) → j < i → slice_get xs j ≡ Some x → slice_get (take i xs) j ≡ Some x
take_get [] i j x h e = absurd (cc e)
take_get (y ∷ xs) zero j x h e = absurd (omega (arith, h))
take_get (y ∷ xs) (suc i) zero x h e = e
take_get (y ∷ xs) (suc i) (suc j) x h e = take_get xs i j x (omega (arith, h)) e

map_get : {B : Type 0} (f : ℕ → B) (xs : List ℕ) (i : ℕ) → i < length xs → slice_get (map f xs) i ≡ Some (f (slice_index_or xs i 0))
map_get f xs i h = slice_get-map f xs i ∙ ap (option_map f) (get_some xs i h)

-- the words of parameters stand behind that of the base
param_word : (words : List Bits) (params place : ℕ) → 1 ≤ place → place ≤ params → place < length words → slice_get (take params (drop 1 words)) (place - 1) ≡ Some (assigned words place)
param_word [] params place low high few = absurd (omega (arith, few))
param_word (w ∷ words) params zero low high few = absurd (omega (arith, low))
param_word (w ∷ words) params (suc i) low high few =
    let back : suc i - 1 ≡ i = omega arith in
    ap (slice_get (take params words)) back ∙ take_get words params i (slice_index_or words i always) (omega (arith, high)) (slice_get-get_or words i always (omega (arith, few)))

map_at : (path : List ℕ) (xs : List ℕ) (k : ℕ) (s : Spot) → slice_get (map (at path) xs) k ≡ Some s → (q : ℕ) × (slice_get xs k ≡ Some q) × (at path q ≡ s)
map_at path [] k s e = absurd (cc e)
map_at path (x ∷ xs) zero s e = (x, refl, same_Some (at path x) s e)
map_at path (x ∷ xs) (suc k) s e = map_at path xs k s e

sig_at : (ns : List PlacedNode) (cs : List NodeClock) (i : ℕ) (n : PlacedNode) (c : NodeClock) → slice_get ns i ≡ Some n → slice_get cs i ≡ Some c → slice_get (signatures ns cs) i ≡ Some (ports n c)
sig_at [] cs i n c e f = absurd (cc e)
sig_at (m ∷ ns) [] i n c e f = absurd (cc f)
sig_at (m ∷ ns) (d ∷ cs) zero n c e f =
    let a : m ≡ n = same_Some m n e in
    let b : d ≡ c = same_Some d c f in
    ap (λ t. Some (ports t d)) a ∙ ap (λ t. Some (ports n t)) b
sig_at (m ∷ ns) (d ∷ cs) (suc i) n c e f = sig_at ns cs i n c e f

-- an instance's base has one list of bits, and so has an instance place
pub base_same : (nodes : List PlacedNode) (clocks : List NodeClock) (path : List ℕ) (a b : Bits) → IsBase nodes clocks path a → IsBase nodes clocks path b → Same a b
base_same nodes clocks [] a b x y i low = x.1 i low ∙ sym (y.1 i low)
base_same nodes clocks (call ∷ path) a b x y i low =
    let word : Bits = word_at nodes clocks path (base_clock (node_at nodes path) call) in
    x.3 i low ∙ on_same x.1 y.1 word word i (base_same nodes clocks path x.1 y.1 x.2 y.2) (same_self word) low ∙ sym (y.3 i low)

pub spot_same : (nodes : List PlacedNode) (clocks : List NodeClock) (s : Spot) (x y : Bits) → IsSpotWord nodes clocks s x → IsSpotWord nodes clocks s y → Same x y
spot_same nodes clocks s x y sx sy =
    let word : Bits = word_at nodes clocks s.path s.place in
    on_one sx.0 word x y sx.2 (on_base sy.0 sx.0 word y (base_same nodes clocks s.path sy.0 sx.0 sy.1 sx.1) sy.2)

module _ (nodes : List PlacedNode) (clocks : List NodeClock) (proper : AreProper nodes) (clocked : AreClocked nodes clocks) where
  -- the words of the node that a path leads to
  pub record HasClock (path : List ℕ) (n : PlacedNode) : Type 0 where
    pub clock : NodeClock
    pub found : slice_get nodes (index_at nodes path) ≡ Some n
    pub stands : slice_get clocks (index_at nodes path) ≡ Some clock
    pub word : (k : ℕ) → word_at nodes clocks path k ≡ assigned clock.words k
    pub is : IsClock (signatures (take (index_at nodes path) nodes) (take (index_at nodes path) clocks)) n clock
    pub proper_node : IsProperNode (take (index_at nodes path) nodes) n

  pub index_found : (path : List ℕ) (n : PlacedNode) → node_at nodes path ≡ Some n → slice_get nodes (index_at nodes path) ≡ Some n
  index_found [] n e = e
  index_found (call ∷ path) n e = from_site (site_in (node_at nodes path) call) e
    where
      from_site : (o : Option CallSite) → callee_in nodes o ≡ Some n → slice_get nodes (called o) ≡ Some n
      from_site None f = absurd (cc f)
      from_site (Some site) f = f

  pub clock_of : (path : List ℕ) (n : PlacedNode) → node_at nodes path ≡ Some n → HasClock path n
  clock_of path n e =
      let at_index : slice_get nodes (index_at nodes path) ≡ Some n = index_found path n e in
      let within = slice_get_within nodes (index_at nodes path) n at_index in
      let c = get_there clocks (index_at nodes path) (omega (arith, within, clocked.count)) in
      record {
        clock = c.0;
        found = at_index;
        stands = c.1;
        word = λ k. ap (λ o. slice_index_or (words_in o) k (record { prefix = []; period = true ∷ [] })) c.1;
        is = clocked.each (index_at nodes path) n c.0 at_index c.1;
        proper_node = proper (index_at nodes path) n at_index;
      }

  -- the word of an instance place, on any base
  on_spot : (path : List ℕ) (n : PlacedNode) (h : HasClock path n) (b : Bits) → IsBase nodes clocks path b → (q : ℕ) (s : Spot) (x : Bits) → at path q ≡ s → IsSpotWord nodes clocks s x → IsOn b (assigned h.clock.words q) x
  on_spot path n h b is q s x e spot =
      let own : IsSpotWord nodes clocks (at path q) x = subst (λ t. IsSpotWord nodes clocks t x) (sym e) spot in
      subst (λ v. IsOn b v x) (h.word q) (on_base own.0 b (word_at nodes clocks path q) x (base_same nodes clocks path own.0 b own.1 is) own.2)

  -- a call between two instances: its base is the caller's on the word of the call
  pub record IsCallAt (path : List ℕ) (call : ℕ) (m n : PlacedNode) (outer : HasClock path m) (inner : HasClock (call ∷ path) n) : Type 0 where
    pub site : CallSite
    pub stands : at_one m.calls call ≡ Some site
    pub callee : slice_get nodes site.node ≡ Some n
    pub same_index : index_at nodes (call ∷ path) ≡ site.node
    pub below : site.node < index_at nodes path

  pub call_at : (path : List ℕ) (call : ℕ) (m n : PlacedNode) (outer : HasClock path m) (inner : HasClock (call ∷ path) n) → node_at nodes path ≡ Some m → node_at nodes (call ∷ path) ≡ Some n → IsCallAt path call m n outer inner
  call_at path call m n outer inner e f = from_site (at_one m.calls call) refl (sym (ap (λ o. callee_in nodes (site_in o call)) e) ∙ f)
    where
      from_site : (o : Option CallSite) → at_one m.calls call ≡ o → callee_in nodes o ≡ Some n → IsCallAt path call m n outer inner
      from_site None g h = absurd (cc h)
      from_site (Some site) g h =
          let is = outer.proper_node.calls call site g in
          let w = slice_get_within (take (index_at nodes path) nodes) site.node is.callee is.found in
          let l = length-take (index_at nodes path) nodes in
          record {
            site = site;
            stands = g;
            callee = h;
            same_index = ap (λ o. called (site_in o call)) e ∙ ap called g;
            below = omega arith;
          }

  module _ (path : List ℕ) (call : ℕ) (m n : PlacedNode) (e : node_at nodes path ≡ Some m) (f : node_at nodes (call ∷ path) ≡ Some n) (outer : HasClock path m) (inner : HasClock (call ∷ path) n) (b : Bits) (is : IsBase nodes clocks (call ∷ path) b) where
    abbrev pub of_call : IsCallAt path call m n outer inner
    of_call = call_at path call m n outer inner e f

    above : slice_get (signatures (take (index_at nodes path) nodes) (take (index_at nodes path) clocks)) of_call.site.node ≡ Some (ports n inner.clock)
    above = sig_at (take (index_at nodes path) nodes) (take (index_at nodes path) clocks) of_call.site.node n inner.clock (take_get nodes (index_at nodes path) of_call.site.node n of_call.below of_call.callee)
        (take_get clocks (index_at nodes path) of_call.site.node inner.clock of_call.below (ap (slice_get clocks) (sym of_call.same_index) ∙ inner.stands))

    -- the base of the call on the base of the caller
    on_call : IsOn is.1 (assigned outer.clock.words (call_clock m call)) b
    on_call = subst (λ v. IsOn is.1 v b) (ap (λ o. word_at nodes clocks path (base_clock o call)) e ∙ outer.word (call_clock m call)) is.3

    -- an argument's word is that of the parameter
    pub argument_word : (place arg : ℕ) (x y : Bits) → 1 ≤ place → place ≤ n.params → slice_get of_call.site.args (place - 1) ≡ Some arg → IsSpotWord nodes clocks (at path arg) x → IsSpotWord nodes clocks (at (call ∷ path) place) y → Same x y
    argument_word place arg x y low high got sx sy =
        let few = inner.proper_node.params in
        let count = inner.is.count in
        let word : slice_get (take n.params (drop 1 inner.clock.words)) (place - 1) ≡ Some (assigned inner.clock.words place) =
        param_word inner.clock.words n.params place low high (omega arith) in
        let rule = (outer.is.well.calls call of_call.site of_call.stands).arguments (ports n inner.clock) (place - 1) arg (assigned inner.clock.words place) above got word in
        let onx = on_spot path m outer is.1 is.2 arg (at path arg) x refl sx in
        let ony = on_spot (call ∷ path) n inner b is place (at (call ∷ path) place) y refl sy in
        on_one b (assigned inner.clock.words place) x y
        (on_on is.1 (assigned outer.clock.words (call_clock m call)) (assigned inner.clock.words place) (assigned outer.clock.words arg) x b rule onx on_call) ony

    -- a result's word is that of the callee's place
    pub result_word : (place number : ℕ) (x y : Bits) → Stands m place (Result call number) → number < length n.results → IsSpotWord nodes clocks (at (call ∷ path) (slice_index_or n.results number 0)) x → IsSpotWord nodes clocks (at path place) y → Same x y
    result_word place number x y stands few sx sy =
        let r : ℕ = slice_index_or n.results number 0 in
        let word : slice_get (map (assigned inner.clock.words) n.results) number ≡ Some (assigned inner.clock.words r) = map_get (assigned inner.clock.words) n.results number few in
        let rule = (outer.is.well.calls call of_call.site of_call.stands).results (ports n inner.clock) place number (assigned inner.clock.words r) above stands word in
        let onx = on_spot (call ∷ path) n inner b is r (at (call ∷ path) r) x refl sx in
        let ony = on_spot path m outer is.1 is.2 place (at path place) y refl sy in
        on_one b (assigned inner.clock.words r) x y onx
        (on_on is.1 (assigned outer.clock.words (call_clock m call)) (assigned inner.clock.words r) (assigned outer.clock.words place) y b rule ony on_call)

  -- what a place reads in its own instance
  module _ (path : List ℕ) (n : PlacedNode) (e : node_at nodes path ≡ Some n) (h : HasClock path n) (b : Bits) (is : IsBase nodes clocks path b) (place : ℕ) (h_place : place ≤ length n.places) (y : Bits) (sy : IsSpotWord nodes clocks (at path place) y) where
    abbrev pub w : Assignment
    w = assigned h.clock.words

    ony : IsOn b (w place) y
    ony = on_spot path n h b is place (at path place) y refl sy

    onx : (q : ℕ) (s : Spot) (x : Bits) → at path q ≡ s → IsSpotWord nodes clocks s x → IsOn b (w q) x
    onx = on_spot path n h b is

    alike : (q : ℕ) (s : Spot) (x : Bits) → Same (w place) (w q) → at path q ≡ s → IsSpotWord nodes clocks s x → Same x y
    alike q s x same f sx = on_one b (w q) x y (onx q s x f sx) (on_word b (w place) (w q) y same ony)

    one_read : (q k : ℕ) (s : Spot) → slice_get (at path q ∷ []) k ≡ Some s → at path q ≡ s
    one_read q zero s g = same_Some (at path q) s g
    one_read q (suc k) s g = absurd (cc g)

    two_read : (a c k : ℕ) (s : Spot) → slice_get (at path a ∷ at path c ∷ []) k ≡ Some s → ((k ≡ 0) × (at path a ≡ s)) ⊎ ((k ≡ 1) × (at path c ≡ s))
    two_read a c zero s g = inl (refl, same_Some (at path a) s g)
    two_read a c (suc zero) s g = inr (refl, same_Some (at path c) s g)
    two_read a c (suc (suc k)) s g = absurd (cc g)

    -- the word of each operand is that on which the place takes it, or for a buffer adaptable to it
    own_feeds : (kind : PlaceKind) (k : ℕ) (s : Spot) (x : Bits) → KeepsRule w place kind → IsProperKind n place kind → IsOwn kind → slice_get (spot_reads nodes (at path place) kind) k ≡ Some s → IsSpotWord nodes clocks s x → Feeds kind k x y
    own_feeds (Defined q) k s x rule is_proper own g sx = alike q s x rule (one_read q k s g) sx
    own_feeds (Lit l) k s x rule is_proper own g sx = absurd (cc g)
    own_feeds (Op op args) k s x rule is_proper own g sx =
        let m = map_at path args k s g in
        alike m.0 s x (all_at (λ q. Same (w place) (w q)) args k m.0 rule m.1) m.2 sx
    own_feeds (Host op a c) k s x rule is_proper own g sx =
        elim (two_read a c k s g) [
          | inl l ↦ alike a s x rule.0 l.1 sx
          | inr r ↦ alike c s x rule.1 r.1 sx
        ]
    own_feeds (When q p) k s x rule is_proper own g sx = on_on b (w q) p (w place) y x rule ony (onx q s x (one_read q k s g) sx)
    own_feeds (Merge p a c) zero s x rule is_proper own g sx = on_on b (w place) p (w a) x y rule.0 (onx a s x (same_Some (at path a) s g) sx) ony
    own_feeds (Merge p a c) (suc zero) s x rule is_proper own g sx =
        let zeros = is_proper.1 in
        let other : IsOn (w place) (turned p) (w c) = on_not_to (w place) p (w c) (omega (arith, zeros)) rule.1 in
        on_on b (w place) (turned p) (w c) x y other (onx c s x (same_Some (at path c) s g) sx) ony
    own_feeds (Merge p a c) (suc (suc k)) s x rule is_proper own g sx = absurd (cc g)
    own_feeds (Fby l q) k s x rule is_proper own g sx = alike q s x rule (one_read q k s g) sx
    own_feeds (Buffer number q) k s x rule is_proper own g sx =
        let high : q ≤ length n.places = is_proper.2.1 in
        IsAdaptable-on (w q) (w place) b x y (onx q s x (one_read q k s g) sx) ony (h.is.well.words q (omega (arith, high))) (h.is.well.words place (omega (arith, h_place))) rule
    own_feeds Param k s x rule is_proper own g sx = absurd own
    own_feeds (Result call number) k s x rule is_proper own g sx = absurd own

    -- the size of a buffer is that of its ring
    pub own_size : (number q size : ℕ) (x : Bits) → IsSize (w q) (w place) size → IsWord b → IsSpotWord nodes clocks (at path q) x → IsSize x y size
    own_size number q size x is_size word sx = (IsSize-on (w q) (w place) b x y size (onx q (at path q) x refl sx) ony word).0 is_size

  -- every base is a word
  pub base_word : (path : List ℕ) (b : Bits) → IsBase nodes clocks path b → IsWord b
  base_word [] b is = is.0
  base_word (call ∷ path) b is = is.0

  high_of : (xs : List PlaceEntry) (p : ℕ) (entry : PlaceEntry) → at_one xs p ≡ Some entry → (1 ≤ p) × (p ≤ length xs)
  high_of xs zero entry f = absurd (cc f)
  high_of xs (suc i) entry f = let l = slice_get_within xs i entry f in (omega arith, omega arith)

  -- a place that reads places of its own instance
  own_kind : (path : List ℕ) (n : PlacedNode) (place : ℕ) (kind : PlaceKind) → node_at nodes path ≡ Some n → Stands n place kind → IsOwn kind →
      (k : ℕ) (s : Spot) (x y : Bits) → slice_get (spot_reads nodes (at path place) kind) k ≡ Some s → IsSpotWord nodes clocks s x → IsSpotWord nodes clocks (at path place) y → Feeds kind k x y
  own_kind path n place kind e stands own k s x y g sx sy =
      let h = clock_of path n e in
      let rule = subst (KeepsRule (assigned h.clock.words) place) stands.2 (h.is.well.forms place stands.0 stands.1) in
      let is_proper = subst (IsProperKind n place) stands.2 (h.proper_node.kinds place stands.0 stands.1) in
      own_feeds path n e h sy.0 sy.1 place (high_of n.places place stands.0 stands.1).1 y sy kind k s x rule is_proper own g sx

  -- a parameter of a call
  param_feeds : (path : List ℕ) (n : PlacedNode) (place : ℕ) → node_at nodes path ≡ Some n → Stands n place Param →
      (k : ℕ) (s : Spot) (x y : Bits) → slice_get (param_reads nodes path place) k ≡ Some s → IsSpotWord nodes clocks s x → IsSpotWord nodes clocks (at path place) y → Same x y
  param_feeds [] n place e stands k s x y g sx sy = absurd (cc g)
  param_feeds (call ∷ path) n place e stands (suc k) s x y g sx sy = absurd (cc g)
  param_feeds (call ∷ path) n place e stands zero s x y g sx sy = from_node (node_at nodes path) refl
    where
      from_node : (o : Option PlacedNode) → node_at nodes path ≡ o → Same x y
      from_node None f = absurd (cc (sym (ap (λ o. callee_in nodes (site_in o call)) f) ∙ e))
      from_node (Some m) f =
          let outer = clock_of path m f in
          let inner = clock_of (call ∷ path) n e in
          let of = call_at path call m n outer inner f e in
          let is = outer.proper_node.calls call of.site of.stands in
          let same : n ≡ is.callee = same_Some n is.callee (sym of.callee ∙ get_take nodes (index_at nodes path) of.site.node is.callee is.found) in
          let params : n.params ≡ is.callee.params = ap (λ (t : PlacedNode). t.params) same in
          let count = is.arguments in
          let low = (high_of n.places place stands.0 stands.1).0 in
          let high : place ≤ n.params = subst (IsProperKind n place) stands.2 (inner.proper_node.kinds place stands.0 stands.1) in
          let arg : ℕ = slice_index_or of.site.args (place - 1) 0 in
          let reads : argument (site_in (node_at nodes path) call) place ≡ arg = ap (λ o. argument (site_in o call) place) f ∙ ap (λ o. argument o place) of.stands in
          let spot : s ≡ at path arg = sym (same_Some (at path (argument (site_in (node_at nodes path) call) place)) s g) ∙ ap (at path) reads in
          argument_word path call m n f e outer inner sy.0 sy.1 place arg x y low high (get_some of.site.args (place - 1) (omega arith)) (subst (λ t. IsSpotWord nodes clocks t x) spot sx) sy

  -- a result of a call
  result_feeds : (path : List ℕ) (m : PlacedNode) (place call number : ℕ) → node_at nodes path ≡ Some m → Stands m place (Result call number) →
      (k : ℕ) (s : Spot) (x y : Bits) → slice_get (spot_reads nodes (at path place) (Result call number)) k ≡ Some s → IsSpotWord nodes clocks s x → IsSpotWord nodes clocks (at path place) y → Same x y
  result_feeds path m place call number e stands (suc k) s x y g sx sy = absurd (cc g)
  result_feeds path m place call number e stands zero s x y g sx sy =
      let outer = clock_of path m e in
      let kind = subst (IsProperKind m place) stands.2 (outer.proper_node.kinds place stands.0 stands.1) in
      let site : CallSite = kind.1 in
      let is = outer.proper_node.calls call site kind.2 in
      let n : PlacedNode = is.callee in
      let callee : slice_get nodes site.node ≡ Some n = get_take nodes (index_at nodes path) site.node n is.found in
      let inside : node_at nodes (call ∷ path) ≡ Some n = ap (λ o. callee_in nodes (site_in o call)) e ∙ ap (callee_in nodes) kind.2 ∙ callee in
      let inner = clock_of (call ∷ path) n inside in
      let few = (is.only place number stands).1 in
      let spot : s ≡ at (call ∷ path) (slice_index_or n.results number 0) =
      sym (same_Some (at (call ∷ path) (result_place (node_at nodes (call ∷ path)) number)) s g) ∙ ap (λ o. at (call ∷ path) (result_place o number)) inside in
      let own : IsSpotWord nodes clocks (at (call ∷ path) (slice_index_or n.results number 0)) x = subst (λ t. IsSpotWord nodes clocks t x) spot sx in
      result_word path call m n e inside outer inner own.0 own.1 place number x y stands few own sy

  -- the word of each operand of an instance place feeds that of the place
  pub feeds : (path : List ℕ) (n : PlacedNode) (place : ℕ) (kind : PlaceKind) → node_at nodes path ≡ Some n → Stands n place kind →
      (k : ℕ) (s : Spot) (x y : Bits) → slice_get (spot_reads nodes (at path place) kind) k ≡ Some s → IsSpotWord nodes clocks s x → IsSpotWord nodes clocks (at path place) y → Feeds kind k x y
  feeds path n place Param e stands = param_feeds path n place e stands
  feeds path n place (Result call number) e stands = result_feeds path n place call number e stands
  feeds path n place (Defined q) e stands = own_kind path n place (Defined q) e stands tt
  feeds path n place (Lit l) e stands = own_kind path n place (Lit l) e stands tt
  feeds path n place (Op op args) e stands = own_kind path n place (Op op args) e stands tt
  feeds path n place (Host op a c) e stands = own_kind path n place (Host op a c) e stands tt
  feeds path n place (When q p) e stands = own_kind path n place (When q p) e stands tt
  feeds path n place (Merge p a c) e stands = own_kind path n place (Merge p a c) e stands tt
  feeds path n place (Fby l q) e stands = own_kind path n place (Fby l q) e stands tt
  feeds path n place (Buffer number q) e stands = own_kind path n place (Buffer number q) e stands tt

  -- and the size of a buffer is that of its ring
  pub buffer_size : (path : List ℕ) (n : PlacedNode) (place number q size : ℕ) (x y : Bits) → node_at nodes path ≡ Some n → Stands n place (Buffer number q) →
      at_one (sizes_in (slice_get clocks (index_at nodes path))) number ≡ Some size → IsSpotWord nodes clocks (at path q) x → IsSpotWord nodes clocks (at path place) y → IsSize x y size
  buffer_size path n place number q size x y e stands got sx sy =
      let h = clock_of path n e in
      let own : at_one h.clock.sizes number ≡ Some size = sym (ap (λ o. at_one (sizes_in o) number) h.stands) ∙ got in
      own_size path n e h sy.0 sy.1 place (high_of n.places place stands.0 stands.1).1 y sy number q size x (by_number h number q stands own) (base_word path sy.0 sy.1) sx
    where
      by_number : (h : HasClock path n) (k q : ℕ) → Stands n place (Buffer k q) → at_one h.clock.sizes k ≡ Some size → IsSize (assigned h.clock.words q) (assigned h.clock.words place) size
      by_number h zero q stands got = absurd (cc got)
      by_number h (suc i) q stands got =
          let kind_is = subst (IsProperKind n place) stands.2 (h.proper_node.kinds place stands.0 stands.1) in
          h.is.sizes.each i place (suc i) q size kind_is.1 got stands
