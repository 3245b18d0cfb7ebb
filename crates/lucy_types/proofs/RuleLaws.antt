-- The rules that are gathered of a node stand for its rules.
use Rattle.std.proofs.Common.{ℕ, zero, suc, ◌≡◌, ◌+◌, ◌-◌, ◌<◌, ◌≤◌, ◌++◌, ◌∷◌, [], List, Option, Some, None, length, get_or, arith, ap, sym, ◌∙◌, subst, inl, inr, refl}
use Rattle.std.specs.Prelude.{slice_get, slice_index}
use Rattle.std.specs.List.{Contains, AllByRecursion}
use Rattle.std.proofs.lemmas.Bool.{cases_lt}
use Rattle.std.proofs.lemmas.List.Elements.{Contains-append_left, Contains-append_right, Contains-append_cases}
use Rattle.std.proofs.lemmas.Option.{same_Some, slice_get_within, slice_get_read, get_or_from_slice_get, none-some}
use Rattle.lucy_host.specs.declared.data_type.DataType.{DataType}
use Rattle.lucy_host.specs.declared.data_type.DataType.TheVariants.{Int, Bool}
use Rattle.lucy_host.specs.declared.op.Op.{Op}
use Rattle.lucy_host.specs.declared.op.Op.TheVariants as op
use Rattle.lucy_host.specs.Arity.{arity}
use Rattle.lucy_host.proofs.Elements.{get_map}
use Rattle.lucy_place.specs.declared.entry.PlaceEntry.{PlaceEntry}
use Rattle.lucy_place.specs.declared.entry.PlaceKind.{PlaceKind}
use Rattle.lucy_place.specs.declared.entry.PlaceKind.TheVariants.{Param, Defined, Lit, Op as Operator, Host, When, Merge, Fby, Buffer, Result}
use Rattle.lucy_place.specs.declared.entry.CallSite.{CallSite}
use Rattle.lucy_place.specs.declared.placed.PlacedNode.{PlacedNode}
use Rattle.lucy_place.specs.Proper.{at_one, IsPlace, ArePlaces, IsProperCall, IsProperKind, IsProperNode}
use Rattle.lucy_place.proofs.NodeLaws.{at_one_within, site_stands}
use Rattle.lucy_types.specs.declared.ty.Ty.{Ty}
use Rattle.lucy_types.specs.declared.rule.Rule.{Rule}
use Rattle.lucy_types.specs.declared.rule.Rule.TheVariants.{Is, Alike}
use Rattle.lucy_types.specs.declared.signature.Signature.{Signature}
use Rattle.lucy_types.specs.Rules.{all_are, op_rules, kind_rules, written_rules, place_rules, IsPlaceRule, Joins, Carries, IsRule}
use Rattle.lucy_types.specs.Typing.{Typing, IsTyping}
use Rattle.lucy_types.specs.Graphs.{IsRuleBelow}
use Rattle.lucy_types.specs.Gathered.{HasArity, HaveArities, own_rules}
use Rattle.lucy_types.specs.Ports.{counted, joined_rules, AreHeads}
use Rattle.lucy_types.specs.Nodes.{tables_of, IsSignature, AreSignatures, StandFor}
use Rattle.lucy_types.proofs.ListLaws.{contains_none, contains_cons}
use Rattle.lucy_types.proofs.PortLaws.{AreJoined, joined_sound, joined_complete, IsPlacedCall, call_joined, length_ports}

-- what holds of all elements holds of one
pub all_contains : {A : Type 0} (P : A → Type 0) (xs : List A) (x : A) → AllByRecursion P xs → Contains xs x → P x
all_contains P [] x a c = absurd (contains_none x c)
all_contains P (y ∷ xs) x a c = elim (contains_cons y xs x c) [ inl e ↦ subst P e a.0 | inr d ↦ all_contains P xs x a.1 d ]

all_both : {A : Type 0} (P : A → Type 0) (xs ys : List A) → AllByRecursion P xs → AllByRecursion P ys → AllByRecursion P (xs ++ ys)
all_both P [] ys a b = b
all_both P (x ∷ xs) ys a b = (a.0, all_both P xs ys a.1 b)

-- the numbers in a proper node

arities_of : (places : List PlaceEntry) → ((i : ℕ) (entry : PlaceEntry) → slice_get places i ≡ Some entry → HasArity entry.kind) → HaveArities places
arities_of [] h = tt
arities_of (entry ∷ places) h = (h 0 entry refl, arities_of places (λ i e s. h (suc i) e s))

kind_arity : (n : PlacedNode) (p : ℕ) (kind : PlaceKind) → IsProperKind n p kind → HasArity kind
kind_arity n p (Operator o args) h = h.1
kind_arity n p kind h = tt

pub proper_arities : (above : List PlacedNode) (n : PlacedNode) → IsProperNode above n → HaveArities n.places
proper_arities above n h = arities_of n.places (λ i entry e. kind_arity n (suc i) entry.kind (h.kinds (suc i) entry e))

-- every rule of a proper node fits

place_fits : (n : PlacedNode) (p : ℕ) → IsPlace n p → (1 ≤ p) × (p < length n.places + 1)
place_fits n p h = let l : p ≤ length n.places = h.1 in (h.0, omega arith)

places_fit : (n : PlacedNode) (t : DataType) (ps : List ℕ) → ArePlaces n ps → AllByRecursion (IsRuleBelow (length n.places + 1)) (all_are t ps)
places_fit n t [] h = tt
places_fit n t (p ∷ ps) h = (place_fits n p h.0, places_fit n t ps h.1)

arg_place : (n : PlacedNode) (ps : List ℕ) (i : ℕ) → ArePlaces n ps → i < length ps → IsPlace n (slice_index ps i)
arg_place n [] i h l = absurd (omega arith)
arg_place n (p ∷ ps) zero h l = h.0
arg_place n (p ∷ ps) (suc i) h l = arg_place n ps i h.1 (omega arith)

arg_fits : (n : PlacedNode) (ps : List ℕ) (i : ℕ) → ArePlaces n ps → i < length ps → (1 ≤ slice_index ps i) × (slice_index ps i < length n.places + 1)
arg_fits n ps i h l = place_fits n (slice_index ps i) (arg_place n ps i h l)

uniform_fit : (n : PlacedNode) (t u : DataType) (p : ℕ) (args : List ℕ) → IsPlace n p → ArePlaces n args → AllByRecursion (IsRuleBelow (length n.places + 1)) (all_are t args ++ Is p u ∷ [])
uniform_fit n t u p args h a = all_both (IsRuleBelow (length n.places + 1)) (all_are t args) (Is p u ∷ []) (places_fit n t args a) (place_fits n p h, tt)

equal_fit : (n : PlacedNode) (p : ℕ) (args : List ℕ) → IsPlace n p → length args ≡ 2 → ArePlaces n args → AllByRecursion (IsRuleBelow (length n.places + 1)) (op_rules op.Eq p args)
equal_fit n p args h l a = ((arg_fits n args 0 a (omega arith), arg_fits n args 1 a (omega arith)), (place_fits n p h, tt))

choice_fit : (n : PlacedNode) (p : ℕ) (args : List ℕ) → IsPlace n p → length args ≡ 3 → ArePlaces n args → AllByRecursion (IsRuleBelow (length n.places + 1)) (op_rules op.If p args)
choice_fit n p args h l a =
    let one = arg_fits n args 1 a (omega arith) in
    let two = arg_fits n args 2 a (omega arith) in
    let own = place_fits n p h in
    (arg_fits n args 0 a (omega arith), ((one, two), ((own, one), ((own, two), tt))))

op_fit : (n : PlacedNode) (o : Op) (p : ℕ) (args : List ℕ) → IsPlace n p → length args ≡ arity o → ArePlaces n args → AllByRecursion (IsRuleBelow (length n.places + 1)) (op_rules o p args)
op_fit n op.Add p args h l a = uniform_fit n Int Int p args h a
op_fit n op.Sub p args h l a = uniform_fit n Int Int p args h a
op_fit n op.Mul p args h l a = uniform_fit n Int Int p args h a
op_fit n op.Div p args h l a = uniform_fit n Int Int p args h a
op_fit n op.Rem p args h l a = uniform_fit n Int Int p args h a
op_fit n op.Eq p args h l a = equal_fit n p args h l a
op_fit n op.Ne p args h l a = equal_fit n p args h l a
op_fit n op.Lt p args h l a = uniform_fit n Int Bool p args h a
op_fit n op.Le p args h l a = uniform_fit n Int Bool p args h a
op_fit n op.Gt p args h l a = uniform_fit n Int Bool p args h a
op_fit n op.Ge p args h l a = uniform_fit n Int Bool p args h a
op_fit n op.And p args h l a = uniform_fit n Bool Bool p args h a
op_fit n op.Or p args h l a = uniform_fit n Bool Bool p args h a
op_fit n op.Not p args h l a = uniform_fit n Bool Bool p args h a
op_fit n op.If p args h l a = choice_fit n p args h l a

kind_fit : (n : PlacedNode) (p : ℕ) (kind : PlaceKind) → IsPlace n p → IsProperKind n p kind → AllByRecursion (IsRuleBelow (length n.places + 1)) (kind_rules p kind)
kind_fit n p Param h k = tt
kind_fit n p (Defined e) h k = ((place_fits n p h, place_fits n e k.1), tt)
kind_fit n p (Lit l) h k = (place_fits n p h, tt)
kind_fit n p (Operator o args) h k = op_fit n o p args h k.1 k.2
kind_fit n p (Host o a b) h k = (place_fits n a k.1, (place_fits n b k.2, (place_fits n p h, tt)))
kind_fit n p (When e w) h k = ((place_fits n p h, place_fits n e k.1), tt)
kind_fit n p (Merge w a b) h k = ((place_fits n p h, place_fits n a k.2), ((place_fits n p h, place_fits n b k.3), tt))
kind_fit n p (Fby l e) h k = ((place_fits n p h, place_fits n e k.1), (place_fits n p h, tt))
kind_fit n p (Buffer b e) h k = ((place_fits n p h, place_fits n e k.2), tt)
kind_fit n p (Result call j) h k = tt

written_fit : (n : PlacedNode) (p : ℕ) (holds : Option DataType) → IsPlace n p → AllByRecursion (IsRuleBelow (length n.places + 1)) (written_rules p holds)
written_fit n p None h = tt
written_fit n p (Some t) h = (place_fits n p h, tt)

joins_place : (above : List PlacedNode) (callee n : PlacedNode) (call : ℕ) (site : CallSite) → IsProperNode above n → ArePlaces n site.args → (inner outer : ℕ)
    → Joins callee n call site inner outer → IsPlace n outer
joins_place above callee n call site h a zero outer (inl e) = absurd (none-some outer e)
joins_place above callee n call site h a (suc i) outer (inl e) =
    let l : i < length site.args = slice_get_within site.args i outer e in
    subst (IsPlace n) (get_or_from_slice_get site.args i outer 0 e) (arg_place n site.args i a l)
joins_place above callee n call site h a inner outer (inr j) = at_one_within n.places outer j.2.0 j.2.1

carries_fit : (n : PlacedNode) (tys : List Ty) (Joined : ℕ → ℕ → Type 0) → ((inner outer : ℕ) → Joined inner outer → IsPlace n outer) → (rule : Rule) → Carries tys Joined rule
    → IsRuleBelow (length n.places + 1) rule
carries_fit n tys Joined h (Is p t) c = place_fits n p (h c.0 p c.1)
carries_fit n tys Joined h (Alike p q) c = (place_fits n p (h c.0 p c.3), place_fits n q (h c.1 q c.4))

pub rule_fits : (above : List PlacedNode) (known : List (List Ty)) (n : PlacedNode) → IsProperNode above n → (rule : Rule) → IsRule above known n rule → IsRuleBelow (length n.places + 1) rule
rule_fits above known n h rule (inl r) =
    let p = at_one_within n.places r.place r.entry r.stands in
    all_contains (IsRuleBelow (length n.places + 1)) (place_rules r.place r.entry) rule
    (all_both (IsRuleBelow (length n.places + 1)) (written_rules r.place r.entry.holds) (kind_rules r.place r.entry.kind)
    (written_fit n r.place r.entry.holds p) (kind_fit n r.place r.entry.kind p (h.kinds r.place r.entry r.stands)))
    r.says
rule_fits above known n h rule (inr r) =
    let c = h.calls r.call r.site r.calls in
    carries_fit n r.tys (Joins r.callee n r.call r.site) (joins_place above r.callee n r.call r.site h c.places) rule r.carries

-- the rules of a node's places are those that are gathered of them

own_from : (q : ℕ) (places : List PlaceEntry) (rule : Rule) → Contains (own_rules q places) rule
    → (i : ℕ) × (entry : PlaceEntry) × (slice_get places i ≡ Some entry) × Contains (place_rules (q + i) entry) rule
own_from q [] rule c = absurd (contains_none rule c)
own_from q (entry ∷ places) rule c =
    elim (Contains-append_cases (place_rules q entry) (own_rules (q + 1) places) rule c) [
      | inl d ↦ (0, entry, refl, subst (λ p. Contains (place_rules p entry) rule) (let e : q ≡ q + 0 = omega arith in e) d)
      | inr d ↦
          let r = own_from (q + 1) places rule d in
          (suc r.0, r.1, r.2, subst (λ p. Contains (place_rules p r.1) rule) (let e : q + 1 + r.0 ≡ q + suc r.0 = omega arith in e) r.3)
    ]

own_to : (q : ℕ) (places : List PlaceEntry) (i : ℕ) (entry : PlaceEntry) (rule : Rule) → slice_get places i ≡ Some entry → Contains (place_rules (q + i) entry) rule → Contains (own_rules q places) rule
own_to q [] i entry rule e c = absurd (none-some entry e)
own_to q (x ∷ places) zero entry rule e c =
    let same : entry ≡ x = sym (same_Some x entry e) in
    Contains-append_left (place_rules q x) (own_rules (q + 1) places) rule
    (subst (λ y. Contains (place_rules q y) rule) same (subst (λ p. Contains (place_rules p entry) rule) (let f : q + 0 ≡ q = omega arith in f) c))
own_to q (x ∷ places) (suc i) entry rule e c =
    Contains-append_right (place_rules q x) (own_rules (q + 1) places) rule
    (own_to (q + 1) places i entry rule e (subst (λ p. Contains (place_rules p entry) rule) (let f : q + suc i ≡ q + 1 + i = omega arith in f) c))

own_sound : (n : PlacedNode) (rule : Rule) → Contains (own_rules 1 n.places) rule → IsPlaceRule n rule
own_sound n rule c =
    let r = own_from 1 n.places rule c in
    record { place = suc r.0; entry = r.1; stands = r.2; says = subst (λ p. Contains (place_rules p r.1) rule) (let e : 1 + r.0 ≡ suc r.0 = omega arith in e) r.3 }

pub own_complete : (n : PlacedNode) (rule : Rule) → IsPlaceRule n rule → Contains (own_rules 1 n.places) rule
own_complete n rule r = own_at r.place r.stands r.says
  where
    own_at : (p : ℕ) → at_one n.places p ≡ Some r.entry → Contains (place_rules p r.entry) rule → Contains (own_rules 1 n.places) rule
    own_at zero e c = absurd (none-some r.entry e)
    own_at (suc i) e c = own_to 1 n.places i r.entry rule e (subst (λ p. Contains (place_rules p r.entry) rule) (let f : suc i ≡ 1 + i = omega arith in f) c)

-- the rules of places and of so many first calls were gathered
pub record GatheredUpto (above : List PlacedNode) (known : List (List Ty)) (n : PlacedNode) (upto : ℕ) (list : List Rule) : Type 0 where
  pub sound : (rule : Rule) → Contains list rule → IsRule above known n rule
  pub own : (rule : Rule) → IsPlaceRule n rule → Contains list rule
  pub calls : (call : ℕ) (site : CallSite) (callee : PlacedNode) (tys : List Ty) → call ≤ upto → at_one n.calls call ≡ Some site → slice_get above site.node ≡ Some callee
      → slice_get known site.node ≡ Some tys → (a : Typing) → IsTyping (Contains list) a → IsTyping (Carries tys (Joins callee n call site)) a

pub gathered_none : (above : List PlacedNode) (known : List (List Ty)) (n : PlacedNode) (list : List Rule) → list ≡ [] ++ own_rules 1 n.places → GatheredUpto above known n 0 list
gathered_none above known n list e = record {
  sound = λ rule c. inl (own_sound n rule (subst (λ l. Contains l rule) e c));
  own = λ rule r. subst (λ l. Contains l rule) (sym e) (own_complete n rule r);
  calls = λ call site callee tys l f. let b : 1 ≤ call = (at_one_within n.calls call site f).0 in absurd (omega arith);
}

pub gathered_more : (above : List PlacedNode) (known : List (List Ty)) (n : PlacedNode) (i : ℕ) (list new : List Rule) (site : CallSite) (callee : PlacedNode) (tys ports : List Ty) (heads places : List ℕ)
    → GatheredUpto above known n i list → slice_get n.calls i ≡ Some site → slice_get above site.node ≡ Some callee → slice_get known site.node ≡ Some tys
    → AreJoined tys (Joins callee n (suc i) site) ports places → AreHeads ports heads
    → new ≡ list ++ joined_rules places ports heads places → GatheredUpto above known n (i + 1) new
gathered_more above known n i list new site callee tys ports heads places u s found typed j h e = record {
  sound = λ rule c. elim (Contains-append_cases list more rule (subst (λ l. Contains l rule) e c)) [
    | inl d ↦ u.sound rule d
    | inr d ↦ inr record { call = suc i; site = site; calls = s; callee = callee; called = found; tys = tys; typed = typed; carries = joined_sound tys (Joins callee n (suc i) site) ports heads places j h rule d }
  ];
  own = λ rule r. subst (λ l. Contains l rule) (sym e) (Contains-append_left list more rule (u.own rule r));
  calls = calls;
}
  where
    more : List Rule
    more = joined_rules places ports heads places

    calls : (call : ℕ) (other : CallSite) (other_callee : PlacedNode) (others : List Ty) → call ≤ i + 1 → at_one n.calls call ≡ Some other → slice_get above other.node ≡ Some other_callee
        → slice_get known other.node ≡ Some others → (a : Typing) → IsTyping (Contains new) a → IsTyping (Carries others (Joins other_callee n call other)) a
    calls call other other_callee others l f g k a m =
        elim (cases_lt call (suc i)) [
          | inl b ↦ u.calls call other other_callee others (omega arith) f g k a (λ rule c. m rule (subst (λ x. Contains x rule) (sym e) (Contains-append_left list more rule c)))
          | inr b ↦
              let d : call ≡ suc i = omega arith in
              let one : site ≡ other = same_Some site other (sym s ∙ ap (at_one n.calls) (sym d) ∙ f) in
              let two : callee ≡ other_callee = same_Some callee other_callee (sym found ∙ ap (λ (x : CallSite). slice_get above x.node) one ∙ g) in
              let three : tys ≡ others = same_Some tys others (sym typed ∙ ap (λ (x : CallSite). slice_get known x.node) one ∙ k) in
              let w = joined_complete tys (Joins callee n (suc i) site) ports heads places j h a (λ rule c. m rule (subst (λ x. Contains x rule) (sym e) (Contains-append_right list more rule c))) in
              subst (λ x. IsTyping (Carries others (Joins other_callee n x other)) a) (sym d)
              (subst (λ x. IsTyping (Carries others (Joins other_callee n (suc i) x)) a) one
              (subst (λ x. IsTyping (Carries others (Joins x n (suc i) site)) a) two
              (subst (λ x. IsTyping (Carries x (Joins callee n (suc i) site)) a) three w)))
        ]

pub gathered_all : (above : List PlacedNode) (known : List (List Ty)) (n : PlacedNode) (upto : ℕ) (list : List Rule) → length n.calls ≤ upto → GatheredUpto above known n upto list
    → StandFor (IsRule above known n) list
gathered_all above known n upto list l u = record { sound = u.sound; complete = complete }
  where
    complete : (a : Typing) → IsTyping (Contains list) a → IsTyping (IsRule above known n) a
    complete a m rule (inl r) = m rule (u.own rule r)
    complete a m rule (inr r) =
        let b : r.call ≤ length n.calls = (at_one_within n.calls r.call r.site r.calls).1 in
        u.calls r.call r.site r.callee r.tys (omega arith) r.calls r.called r.typed a m rule r.carries

-- a proper call by its first place
pub placed_call : (above : List PlacedNode) (n : PlacedNode) (call : ℕ) (site : CallSite) (s : Signature) (c : IsProperCall above n call site) → IsSignature c.callee s
    → IsPlacedCall c.callee n call site s.tys.items site.first
placed_call above n call site s c h = record { params = h.params; places = h.results; arguments = c.arguments; results = c.results; only = c.only }

-- the places of a call are few
pub few_places : (above : List PlacedNode) (n : PlacedNode) (call : ℕ) (site : CallSite) (c : IsProperCall above n call site) → site.first + length c.callee.results ≤ length n.places + 1
few_places above n call site c =
    let j : ℕ = length c.callee.results - 1 in
    let some : 0 < length c.callee.results = c.some in
    let s = c.results j (omega arith) in
    let w : site.first + j ≤ length n.places = (at_one_within n.places (site.first + j) s.0 s.1).1 in
    omega arith

-- what is known where the rules of a call are gathered
pub record CallFacts (above : List PlacedNode) (known : List (List Ty)) (n : PlacedNode) (i : ℕ) (site : CallSite) (s : Signature) : Type 0 where
  pub callee : PlacedNode
  pub found : slice_get above site.node ≡ Some callee
  pub signature : IsSignature callee s
  pub typed : slice_get known site.node ≡ Some s.tys.items
  pub placed : IsPlacedCall callee n (suc i) site s.tys.items site.first
  pub results : length s.ports.items ≡ length site.args + length callee.results
  pub few : site.first + length callee.results ≤ length n.places + 1

-- a call is of a node whose signature is known
pub site_within : (above : List PlacedNode) (n : PlacedNode) (signatures : List Signature) (i : ℕ) (site : CallSite) → IsProperNode above n → AreSignatures above signatures
    → slice_get n.calls i ≡ Some site → site.node < length signatures
site_within above n signatures i site h a e =
    let c = h.calls (suc i) site e in
    let l : site.node < length above = slice_get_within above site.node c.callee c.found in
    let m : length signatures ≡ length above = a.all in
    omega arith

pub call_facts : (above : List PlacedNode) (n : PlacedNode) (signatures : List Signature) (i : ℕ) (site : CallSite) (s : Signature) → IsProperNode above n
    → AreSignatures above signatures → slice_get n.calls i ≡ Some site → slice_get signatures site.node ≡ Some s → CallFacts above (tables_of signatures) n i site s
call_facts above n signatures i site s h a e g =
    let c = h.calls (suc i) site e in
    let sig = a.each site.node c.callee s c.found g in
    record {
      callee = c.callee;
      found = c.found;
      signature = sig;
      typed = get_map (λ (x : Signature). x.tys.items) signatures site.node s g;
      placed = placed_call above n (suc i) site s c sig;
      results = ap length sig.ports ∙ length_ports c.callee.params c.callee.results s.tys.items sig.params ∙ ap (λ m. m + length c.callee.results) (sym c.arguments);
      few = few_places above n (suc i) site c;
    }

-- what is known of a call as it is read
pub read_facts : (above : List PlacedNode) (n : PlacedNode) (sites : List CallSite) (signatures : List Signature) (i : ℕ) (site : CallSite) (s : Signature) → IsProperNode above n
    → AreSignatures above signatures → sites ≡ n.calls → i < length sites → site ≡ get_or sites i site → s ≡ get_or signatures site.node s → CallFacts above (tables_of signatures) n i site s
read_facts above n sites signatures i site s h a e l g k =
    let stands = site_stands n sites i site e l g in
    call_facts above n signatures i site s h a stands (slice_get_read signatures (length signatures) site.node s refl (site_within above n signatures i site h a stands) k)

-- the rules of a call more
pub gathered_call : (above : List PlacedNode) (known : List (List Ty)) (n : PlacedNode) (i : ℕ) (list new : List Rule) (site : CallSite) (args : List ℕ) (s : Signature)
    → CallFacts above known n i site s → GatheredUpto above known n i list → slice_get n.calls i ≡ Some site → args ≡ site.args
    → new ≡ list ++ joined_rules (args ++ counted site.first (length s.ports.items - length args)) s.ports.items s.heads.items (args ++ counted site.first (length s.ports.items - length args))
    → GatheredUpto above known n (i + 1) new
gathered_call above known n i list new site args s c u e a w =
    let first : ℕ = site.first in
    let places : List ℕ = site.args ++ counted first (length c.callee.results) in
    let count : length s.ports.items - length site.args ≡ length c.callee.results = let r : length s.ports.items ≡ length site.args + length c.callee.results = c.results in omega arith in
    let same : args ++ counted first (length s.ports.items - length args) ≡ places = ap (λ xs. xs ++ counted first (length s.ports.items - length xs)) a ∙ ap (λ m. site.args ++ counted first m) count in
    gathered_more above known n i list new site c.callee s.tys.items s.ports.items s.heads.items places u e c.found c.typed
    (subst (λ ps. AreJoined s.tys.items (Joins c.callee n (suc i) site) ps places) (sym c.signature.ports) (call_joined c.callee n (suc i) site s.tys.items first c.placed))
    c.signature.heads
    (w ∙ ap (λ ps. list ++ joined_rules ps s.ports.items s.heads.items ps) same)
