-- What the ports of a call say stands for the rules of the call.
use Rattle.std.proofs.Common.{ℕ, zero, suc, ◌≡◌, ◌+◌, ◌-◌, ◌<◌, ◌≤◌, ◌++◌, ◌∷◌, [], List, Some, length, map, take, arith, ap, sym, ◌∙◌, subst, inl, inr, refl, length-append}
use Rattle.std.specs.Prelude.{slice_get, slice_index, slice_index_or}
use Rattle.std.specs.List.{Contains}
use Rattle.std.proofs.lemmas.Bool.{cases_lt}
use Rattle.std.proofs.lemmas.List.{length-map, length-take-le, get_or_past}
use Rattle.std.proofs.lemmas.Option.{same_Some, slice_get_within, slice_get-get_or, none-some}
use Rattle.lucy_host.specs.declared.data_type.DataType.{DataType}
use Rattle.lucy_host.specs.declared.data_type.DataType.TheVariants.{Int, Bool}
use Rattle.lucy_host.proofs.Elements.{get_there, get_take, get_left, get_right, get_map}
use Rattle.lucy_place.specs.declared.entry.PlaceKind.TheVariants.{Result}
use Rattle.lucy_place.specs.declared.entry.CallSite.{CallSite}
use Rattle.lucy_place.specs.declared.placed.PlacedNode.{PlacedNode}
use Rattle.lucy_place.specs.Proper.{at_one, Stands}
use Rattle.lucy_types.specs.declared.ty.Ty.{Ty}
use Rattle.lucy_types.specs.declared.ty.Ty.TheVariants as ty
use Rattle.lucy_types.specs.declared.rule.Rule.{Rule}
use Rattle.lucy_types.specs.declared.rule.Rule.TheVariants.{Is, Alike}
use Rattle.lucy_types.specs.Rules.{Joins, Carries}
use Rattle.lucy_types.specs.Typing.{Typing, IsTyping, as_ty}
use Rattle.lucy_types.specs.Ports.{ArePlacesOf, port_types, port_rule, joined_rules, counted, HaveClasses, AreHeads}
use Rattle.lucy_types.proofs.ListLaws.{taken, contains_head, contains_tail, contains_cons, contains_none}
use Rattle.lucy_types.proofs.CallLaws.{length_counted, get_counted, counted_get}

-- a rule of ports is that of one of them
pub joined_from : (all : List ℕ) (ports : List Ty) (heads places : List ℕ) (rule : Rule) → Contains (joined_rules all ports heads places) rule
    → (i : ℕ) × (t : Ty) × (p : ℕ) × (slice_get ports i ≡ Some t) × (slice_get places i ≡ Some p) × (port_rule t p (slice_index all (slice_index heads i)) ≡ rule)
joined_from all (t ∷ ports) (h ∷ heads) (p ∷ places) rule c =
    elim (contains_cons (port_rule t p (slice_index all h)) (joined_rules all ports heads places) rule c) [
      | inl e ↦ (0, t, p, refl, refl, e)
      | inr d ↦ let r = joined_from all ports heads places rule d in (suc r.0, r.1, r.2, r.3, r.4, r.5)
    ]
joined_from all [] heads places rule c = absurd (contains_none rule c)
joined_from all (t ∷ ports) [] places rule c = absurd (contains_none rule c)
joined_from all (t ∷ ports) (h ∷ heads) [] rule c = absurd (contains_none rule c)

pub joined_at : (all : List ℕ) (ports : List Ty) (heads places : List ℕ) (i : ℕ) (t : Ty) (p : ℕ) → slice_get ports i ≡ Some t → slice_get places i ≡ Some p → i < length heads
    → Contains (joined_rules all ports heads places) (port_rule t p (slice_index all (slice_index heads i)))
joined_at all [] heads places i t p e f l = absurd (none-some t e)
joined_at all (s ∷ ports) [] places i t p e f l = absurd (omega arith)
joined_at all (s ∷ ports) (h ∷ heads) [] i t p e f l = absurd (none-some p f)
joined_at all (s ∷ ports) (h ∷ heads) (q ∷ places) zero t p e f l =
    subst (λ z. Contains (joined_rules all (s ∷ ports) (h ∷ heads) (q ∷ places)) (port_rule z p (slice_index all h))) (same_Some s t e)
    (subst (λ z. Contains (joined_rules all (s ∷ ports) (h ∷ heads) (q ∷ places)) (port_rule s z (slice_index all h))) (same_Some q p f)
    (contains_head (port_rule s q (slice_index all h)) (joined_rules all ports heads places)))
joined_at all (s ∷ ports) (h ∷ heads) (q ∷ places) (suc i) t p e f l =
    contains_tail (port_rule s q (slice_index all h)) (joined_rules all ports heads places) (port_rule t p (slice_index all (slice_index heads i)))
    (joined_at all ports heads places i t p e f (omega arith))

-- the ports have the types of the callee's places that are joined, and the caller's places that they are joined with
pub record AreJoined (tys : List Ty) (Joined : ℕ → ℕ → Type 0) (ports : List Ty) (places : List ℕ) : Type 0 where
  pub all : length places ≡ length ports
  pub to : (inner outer : ℕ) (t : Ty) → Joined inner outer → at_one tys inner ≡ Some t → (i : ℕ) × (slice_get places i ≡ Some outer) × (slice_get ports i ≡ Some t)
  pub from : (i outer : ℕ) (t : Ty) → slice_get places i ≡ Some outer → slice_get ports i ≡ Some t → (inner : ℕ) × Joined inner outer × (at_one tys inner ≡ Some t)

carries_port : (tys : List Ty) (Joined : ℕ → ℕ → Type 0) (ports : List Ty) (heads places : List ℕ) → AreJoined tys Joined ports places → AreHeads ports heads
    → (i p : ℕ) (t : Ty) → slice_get ports i ≡ Some t → slice_get places i ≡ Some p → Carries tys Joined (port_rule t p (slice_index places (slice_index heads i)))
carries_port tys Joined ports heads places j h i p ty.Int e f = j.from i p ty.Int f e
carries_port tys Joined ports heads places j h i p ty.Bool e f = j.from i p ty.Bool f e
carries_port tys Joined ports heads places j h i p (ty.Open k) e f =
    let l : slice_index heads i < length ports = h.inside i (slice_get_within ports i (ty.Open k) e) in
    let w : length places ≡ length ports = j.all in
    let one = j.from i p (ty.Open k) f e in
    let two = j.from (slice_index heads i) (slice_index places (slice_index heads i)) (ty.Open k) (slice_get-get_or places (slice_index heads i) 0 (omega arith)) (h.same i k e) in
    (one.0, two.0, k, one.1, two.1, one.2, two.2)

-- what the ports say is a rule of the call
pub joined_sound : (tys : List Ty) (Joined : ℕ → ℕ → Type 0) (ports : List Ty) (heads places : List ℕ) → AreJoined tys Joined ports places → AreHeads ports heads
    → (rule : Rule) → Contains (joined_rules places ports heads places) rule → Carries tys Joined rule
joined_sound tys Joined ports heads places j h rule c =
    let r = joined_from places ports heads places rule c in
    subst (Carries tys Joined) r.5 (carries_port tys Joined ports heads places j h r.0 r.2 r.1 r.3 r.4)

port_is : (t : DataType) (p h : ℕ) → port_rule (as_ty t) p h ≡ Is p t
port_is Int p h = refl
port_is Bool p h = refl

-- a typing that meets what the ports say meets the rules of the call
pub joined_complete : (tys : List Ty) (Joined : ℕ → ℕ → Type 0) (ports : List Ty) (heads places : List ℕ) → AreJoined tys Joined ports places → AreHeads ports heads
    → (a : Typing) → IsTyping (Contains (joined_rules places ports heads places)) a → IsTyping (Carries tys Joined) a
joined_complete tys Joined ports heads places j h a m (Is p t) c =
    let i = j.to c.0 p (as_ty t) c.1 c.2 in
    let l : i.0 < length ports = slice_get_within ports i.0 (as_ty t) i.2 in
    let w : length heads ≡ length ports = h.all in
    m (Is p t) (subst (Contains (joined_rules places ports heads places)) (port_is t p (slice_index places (slice_index heads i.0)))
    (joined_at places ports heads places i.0 (as_ty t) p i.2 i.1 (omega arith)))
joined_complete tys Joined ports heads places j h a m (Alike p q) c =
    let i = j.to c.0 p (ty.Open c.2) c.3 c.5 in
    let o = j.to c.1 q (ty.Open c.2) c.4 c.6 in
    let il : i.0 < length ports = slice_get_within ports i.0 (ty.Open c.2) i.2 in
    let ol : o.0 < length ports = slice_get_within ports o.0 (ty.Open c.2) o.2 in
    let w : length heads ≡ length ports = h.all in
    let e : a p ≡ a (slice_index places (slice_index heads i.0)) = m (Alike p (slice_index places (slice_index heads i.0))) (joined_at places ports heads places i.0 (ty.Open c.2) p i.2 i.1 (omega arith)) in
    let f : a q ≡ a (slice_index places (slice_index heads o.0)) = m (Alike q (slice_index places (slice_index heads o.0))) (joined_at places ports heads places o.0 (ty.Open c.2) q o.2 o.1 (omega arith)) in
    e ∙ ap (λ n. a (slice_index places n)) (h.one i.0 o.0 c.2 i.2 o.2) ∙ sym f

-- the ports of a proper call

pub place_there : (n : ℕ) (ps : List ℕ) (j p : ℕ) → ArePlacesOf n ps → slice_get ps j ≡ Some p → (1 ≤ p) × (p ≤ n)
place_there n [] j p a e = absurd (none-some p e)
place_there n (q ∷ ps) zero p a e = subst (λ z. (1 ≤ z) × (z ≤ n)) (same_Some q p e) a.0
place_there n (q ∷ ps) (suc j) p a e = place_there n ps j p a.1 e

result_ty : (tys : List Ty) (p : ℕ) → 1 ≤ p → p ≤ length tys → at_one tys p ≡ Some (slice_index_or tys (p - 1) ty.Int)
result_ty tys zero a b = absurd (omega arith)
result_ty tys (suc n) a b = slice_get-get_or tys n ty.Int (omega arith) ∙ ap (λ m. Some (slice_index_or tys m ty.Int)) (let e : n ≡ suc n - 1 = omega arith in e)

param_port : (params : ℕ) (results : List ℕ) (tys : List Ty) (i : ℕ) → params ≤ length tys → i < params → slice_get (port_types params results tys) i ≡ at_one tys (suc i)
param_port params results tys i l b =
    let e : length (take params tys) ≡ params = length-take-le params tys l in
    get_left (take params tys) (map (λ p. slice_index_or tys (p - 1) ty.Int) results) i (omega arith) ∙ get_take params tys i b

result_port : (params : ℕ) (results : List ℕ) (tys : List Ty) (j r : ℕ) → params ≤ length tys → ArePlacesOf (length tys) results → slice_get results j ≡ Some r
    → slice_get (port_types params results tys) (params + j) ≡ at_one tys r
result_port params results tys j r l a e =
    let b = place_there (length tys) results j r a e in
    let k : length (take params tys) ≡ params = length-take-le params tys l in
    ap (λ n. slice_get (port_types params results tys) (n + j)) (sym k) ∙ get_right (take params tys) (map (λ p. slice_index_or tys (p - 1) ty.Int) results) j
    ∙ get_map (λ p. slice_index_or tys (p - 1) ty.Int) results j r e ∙ sym (result_ty tys r b.0 b.1)

pub length_ports : (params : ℕ) (results : List ℕ) (tys : List Ty) → params ≤ length tys → length (port_types params results tys) ≡ params + length results
length_ports params results tys l =
    let f : ℕ → Ty = λ p. slice_index_or tys (p - 1) ty.Int in
    length-append (take params tys) (map f results) ∙ ap (λ n. n + length (map f results)) (length-take-le params tys l) ∙ ap (λ n. params + n) (length-map results f)

-- a call of a callee with so many parameters and these results and types, by its places
pub record IsPlacedCall (callee n : PlacedNode) (call : ℕ) (site : CallSite) (tys : List Ty) (first : ℕ) : Type 0 where
  pub params : callee.params ≤ length tys
  pub places : ArePlacesOf (length tys) callee.results
  pub arguments : length site.args ≡ callee.params
  pub results : (j : ℕ) → j < length callee.results → Stands n (first + j) (Result call j)
  pub only : (p j : ℕ) → Stands n p (Result call j) → (p ≡ first + j) × (j < length callee.results)

pub call_joined : (callee n : PlacedNode) (call : ℕ) (site : CallSite) (tys : List Ty) (first : ℕ) → IsPlacedCall callee n call site tys first
    → AreJoined tys (Joins callee n call site) (port_types callee.params callee.results tys) (site.args ++ counted first (length callee.results))
call_joined callee n call site tys first c = record {
  all = length-append site.args (counted first (length callee.results)) ∙ ap (λ m. m + length (counted first (length callee.results))) c.arguments
      ∙ ap (λ m. callee.params + m) (length_counted first (length callee.results)) ∙ sym (length_ports callee.params callee.results tys c.params);
  to = to;
  from = λ i outer t e f. elim (cases_lt i (length site.args)) [
    | inl l ↦ from_argument i outer t l e f
    | inr l ↦ from_result i outer t l e f
  ];
}
  where
    places : List ℕ
    places = site.args ++ counted first (length callee.results)

    ports : List Ty
    ports = port_types callee.params callee.results tys

    arguments : length site.args ≡ callee.params
    arguments = c.arguments

    to : (inner outer : ℕ) (t : Ty) → Joins callee n call site inner outer → at_one tys inner ≡ Some t → (i : ℕ) × (slice_get places i ≡ Some outer) × (slice_get ports i ≡ Some t)
    to zero outer t (inl e) f = absurd (none-some t f)
    to (suc i) outer t (inl e) f =
        let l : i < length site.args = slice_get_within site.args i outer e in
        (i, get_left site.args (counted first (length callee.results)) i l ∙ e, param_port callee.params callee.results tys i c.params (omega arith) ∙ f)
    to inner outer t (inr r) f =
        let o = c.only outer r.0 r.2 in (
          length site.args + r.0,
          get_right site.args (counted first (length callee.results)) r.0 ∙ get_counted first (length callee.results) r.0 o.1 ∙ ap Some (sym o.0),
          ap (λ m. slice_get ports (m + r.0)) arguments ∙ result_port callee.params callee.results tys r.0 inner c.params c.places r.1 ∙ f,
        )

    from_argument : (i outer : ℕ) (t : Ty) → i < length site.args → slice_get places i ≡ Some outer → slice_get ports i ≡ Some t
        → (inner : ℕ) × Joins callee n call site inner outer × (at_one tys inner ≡ Some t)
    from_argument i outer t l e f =
        (suc i, inl (sym (get_left site.args (counted first (length callee.results)) i l) ∙ e), sym (param_port callee.params callee.results tys i c.params (omega arith)) ∙ f)

    from_result : (i outer : ℕ) (t : Ty) → length site.args ≤ i → slice_get places i ≡ Some outer → slice_get ports i ≡ Some t
        → (inner : ℕ) × Joins callee n call site inner outer × (at_one tys inner ≡ Some t)
    from_result i outer t l e f =
        let j : ℕ = i - length site.args in
        let d : i ≡ length site.args + j = omega arith in
        let g = counted_get first (length callee.results) j outer (sym (get_right site.args (counted first (length callee.results)) j) ∙ ap (slice_get places) (sym d) ∙ e) in
        let r = get_there callee.results j g.0 in (
          r.0,
          inr (j, r.1, subst (λ p. Stands n p (Result call j)) (sym g.1) (c.results j g.0)),
          sym (result_port callee.params callee.results tys j r.0 c.params c.places r.1) ∙ ap (λ m. slice_get ports (m + j)) (sym arguments) ∙ ap (slice_get ports) (sym d) ∙ f,
        )

map_get : {A B : Type 0} (f : A → B) (xs : List A) (i : ℕ) (y : B) → slice_get (map f xs) i ≡ Some y → (x : A) × (f x ≡ y)
map_get f [] i y e = absurd (none-some y e)
map_get f (x ∷ xs) zero y e = (x, same_Some (f x) y e)
map_get f (x ∷ xs) (suc i) y e = map_get f xs i y e

int_no_open : (k : ℕ) → ty.Int ≡ ty.Open k → ⊥
int_no_open k e = cc

-- ports have no other classes than places
pub port_classes : (most params : ℕ) (results : List ℕ) (tys : List Ty) → HaveClasses most tys → HaveClasses most (port_types params results tys)
port_classes most params results tys h i k e =
    let f : ℕ → Ty = λ p. slice_index_or tys (p - 1) ty.Int in
    elim (cases_lt i (length (take params tys))) [
      | inl l ↦
          let t = taken params tys i (ty.Open k) (sym (get_left (take params tys) (map f results) i l) ∙ e) in
          h i k t.1
      | inr l ↦
          let j : ℕ = i - length (take params tys) in
          let d : length (take params tys) + j ≡ i = omega arith in
          let r = map_get f results j (ty.Open k) (sym (get_right (take params tys) (map f results) j) ∙ ap (slice_get (take params tys ++ map f results)) d ∙ e) in
          elim (cases_lt (r.0 - 1) (length tys)) [
            | inl b ↦ h (r.0 - 1) k (slice_get-get_or tys (r.0 - 1) ty.Int b ∙ ap Some r.1)
            | inr b ↦ absurd (int_no_open k (sym (get_or_past tys (r.0 - 1) ty.Int b) ∙ r.1))
          ]
    ]
