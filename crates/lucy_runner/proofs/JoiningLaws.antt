-- Rings that are made one after another, and their ends.
use Rattle.std.proofs.Common.{ℕ, suc, zero, ◌+◌, ◌<◌, ◌≤◌, ◌≡◌, Bool, true, false, cond, eqb, List, [], ◌∷◌, ◌++◌, map, length, ap, sym, refl, ◌∙◌, subst, inl, inr, arith, length-append}
use Rattle.std.specs.Prelude.{Option, Some, None, All, slice_get, slice_index_or}
use Rattle.std.specs.Option.{option_map}
use Rattle.std.proofs.lemmas.Bool.{cases_eq}
use Rattle.std.proofs.lemmas.Option.{slice_get-map, slice_get_within, get_or_from_slice_get}
use Rattle.std.proofs.lemmas.List.{map-append, length-map}
use Rattle.std.proofs.lemmas.List.Elements.{All-head, All-tail, All-get_or}
use Rattle.lucy_word.specs.Limits.{limit_number}
use Rattle.lucy_word.specs.declared.limit.Limit.TheVariants as limit
use Rattle.lucy_word.proofs.Lists.{still_there}
use Rattle.lucy_host.proofs.Elements.{get_there, get_last}
use Rattle.lucy_net.specs.declared.net.RingSpec.{RingSpec}
use Rattle.lucy_net.specs.Proper.{numbers_where}
use Rattle.lucy_net.proofs.NetLaws.{number_at}
use Rattle.lucy_net.proofs.WhereLaws.{where_all, where_length}
use Rattle.lucy_core.proofs.ListLaws.{get_push, some_same}
use Rattle.lucy_ring.specs.Views.{GiverView, TakerView}
use Rattle.lucy_worker.specs.declared.part.Part.{Part}
use Rattle.lucy_runner.specs.declared.place.Ends.{Ends}
use Rattle.lucy_runner.specs.Making.{rings_from, rings_to, AreNewEnds, HasGained, HaveJoined, AreEndsOf, HasEndsOf, HaveAllJoined, HasFewEnds, end_for}

pub map_alike : {X : Type 0} (f g : ℕ → X) (xs : List ℕ) → All (λ r. f r ≡ g r) xs → map f xs ≡ map g xs
map_alike f g [] all = refl
map_alike f g (x ∷ xs) all =
    let first : f x ≡ g x = All-head (λ r. f r ≡ g r) x xs all in
    let rest : map f xs ≡ map g xs = map_alike f g xs (All-tail (λ r. f r ≡ g r) x xs all) in
    cc

where_more : (p : ℕ → Bool) (n : ℕ) → numbers_where p (n + 1) ≡ numbers_where p n ++ cond (p n) (n ∷ []) []
where_more p n = ap (numbers_where p) (let z : n + 1 ≡ suc n = omega arith in z)

-- the ends of the rings so far, and one more
ends_yes : {X : Type 0} (all : List X) (row : List X) (p : ℕ → Bool) (n : ℕ) (x : X) (b : Bool) → length all ≡ n → p n ≡ b → AreEndsOf all (numbers_where p n) row → AreEndsOf (all ++ x ∷ []) (numbers_where p (n + 1)) (row ++ cond b (x ∷ []) [])
ends_yes all row p n x b len here is =
    let kept : map (slice_get all) (numbers_where p n) ≡ map (slice_get (all ++ x ∷ [])) (numbers_where p n) =
    map_alike (slice_get all) (slice_get (all ++ x ∷ [])) (numbers_where p n) (where_all (λ r. slice_get all r ≡ slice_get (all ++ x ∷ []) r) p n
    (λ r l y. let (z, e) = get_there all r (omega (arith, l, len)) in e ∙ sym (still_there all (x ∷ []) r z e))) in
    let old : map Some row ≡ map (slice_get (all ++ x ∷ [])) (numbers_where p n) = is ∙ kept in
    let last : slice_get (all ++ x ∷ []) n ≡ Some x = ap (slice_get (all ++ x ∷ [])) (sym len) ∙ get_last all x in
    let tail : map Some (cond b (x ∷ []) []) ≡ map (slice_get (all ++ x ∷ [])) (cond b (n ∷ []) []) =
    elim b as (λ c. map Some (cond c (x ∷ []) []) ≡ map (slice_get (all ++ x ∷ [])) (cond c (n ∷ []) [])) [ true ↦ ap (λ o. o ∷ []) (sym last) | false ↦ refl ] in
    map-append Some row (cond b (x ∷ []) [])
    ∙ ap (λ xs. xs ++ map Some (cond b (x ∷ []) [])) old
    ∙ ap (λ xs. map (slice_get (all ++ x ∷ [])) (numbers_where p n) ++ xs) tail
    ∙ sym (map-append (slice_get (all ++ x ∷ [])) (numbers_where p n) (cond b (n ∷ []) []))
    ∙ ap (λ c. map (slice_get (all ++ x ∷ [])) (numbers_where p n ++ cond c (n ∷ []) [])) (sym here)
    ∙ ap (map (slice_get (all ++ x ∷ []))) (sym (where_more p n))

-- as many ends as rings
pub row_length : {X : Type 0} (all : List X) (from : List ℕ) (row : List X) → AreEndsOf all from row → length row ≡ length from
row_length all from row is = sym (length-map row Some) ∙ ap length is ∙ length-map from (slice_get all)

some_in : {X : Type 0} (o : Option X) (x : X) → option_map Some o ≡ Some (Some x) → o ≡ Some x
some_in None x e = absurd (cc)
some_in (Some y) x e = cc

some_out : {X : Type 0} (o : Option X) (x : X) → Some o ≡ Some (Some x) → o ≡ Some x
some_out o x e = cc

-- the end of a ring that stands at a place
pub row_at : {X : Type 0} (all : List X) (from : List ℕ) (row : List X) (j r : ℕ) (x : X) → AreEndsOf all from row → slice_get from j ≡ Some r → slice_get all r ≡ Some x → slice_get row j ≡ Some x
row_at all from row j r x is at there =
    some_in (slice_get row j) x (sym (slice_get-map Some row j) ∙ ap (λ os. slice_get os j) is ∙ slice_get-map (slice_get all) from j ∙ ap (option_map (slice_get all)) at ∙ ap Some there)

-- what holds of all ends holds of those of a row
pub row_all : {X : Type 0} (P : X → Type 0) (all : List X) (from : List ℕ) (row : List X) → AreEndsOf all from row → ((r : ℕ) (x : X) → slice_get all r ≡ Some x → P x) → (j : ℕ) (x : X) → slice_get row j ≡ Some x → P x
row_all P all from row is each j x e =
    let l : j < length from = (let w : j < length row = slice_get_within row j x e in let n : length row ≡ length from = row_length all from row is in omega arith) in
    let (r, at) = get_there from j l in
    each r x (some_out (slice_get all r) x (sym (ap (option_map (slice_get all)) at) ∙ sym (slice_get-map (slice_get all) from j) ∙ ap (λ os. slice_get os j) (sym is) ∙ slice_get-map Some row j ∙ ap (option_map Some) e))

-- a part with the ends of one ring more
gained : (rings : List RingSpec) (n a : ℕ) (ring : RingSpec) (gs : List GiverView) (ts : List TakerView) (g : GiverView) (t : TakerView) (p m q : Part) → (length gs ≡ n) × (length ts ≡ n) → slice_get rings n ≡ Some ring →
    HasEndsOf gs ts (rings_from rings a n) (rings_to rings a n) p m → HasGained m (end_for ring.from a g) (end_for ring.to a t) q →
    HasEndsOf (gs ++ g ∷ []) (ts ++ t ∷ []) (rings_from rings a (n + 1)) (rings_to rings a (n + 1)) p q
gained rings n a ring gs ts g t p m q len here old more =
    let from : eqb (slice_index_or (map (λ (x : RingSpec). x.from) rings) n 0) a ≡ eqb ring.from a = ap (λ b. eqb b a) (number_at (λ x. x.from) rings n ring here) in
    let to : eqb (slice_index_or (map (λ (x : RingSpec). x.to) rings) n 0) a ≡ eqb ring.to a = ap (λ b. eqb b a) (number_at (λ x. x.to) rings n ring here) in
    record {
      rest = more.rest ∙ ap (λ (x : Part). record x { givers = q.givers; takers = q.takers }) old.rest;
      givers_are = subst (AreEndsOf (gs ++ g ∷ []) (rings_from rings a (n + 1))) (sym more.givers_on) (ends_yes gs m.givers.items (λ r. eqb (slice_index_or (map (λ (x : RingSpec). x.from) rings) r 0) a) n g (eqb ring.from a) len.0 from old.givers_are);
      takers_are = subst (AreEndsOf (ts ++ t ∷ []) (rings_to rings a (n + 1))) (sym more.takers_on) (ends_yes ts m.takers.items (λ r. eqb (slice_index_or (map (λ (x : RingSpec). x.to) rings) r 0) a) n t (eqb ring.to a) len.1 to old.takers_are);
    }

-- the ends of the ring that was made last, and those of the others
new_more : (rings : List RingSpec) (n : ℕ) (ring : RingSpec) (gs : List GiverView) (ts : List TakerView) (g : GiverView) (t : TakerView) → (length gs ≡ n) × (length ts ≡ n) → slice_get rings n ≡ Some ring → AreNewEnds ring g t →
    ((r : ℕ) (x : RingSpec) (h : GiverView) (u : TakerView) → slice_get rings r ≡ Some x → slice_get gs r ≡ Some h → slice_get ts r ≡ Some u → AreNewEnds x h u) →
    (r : ℕ) (x : RingSpec) (h : GiverView) (u : TakerView) → slice_get rings r ≡ Some x → slice_get (gs ++ g ∷ []) r ≡ Some h → slice_get (ts ++ t ∷ []) r ≡ Some u → AreNewEnds x h u
new_more rings n ring gs ts g t len here new old r x h u e f k = elim (get_push gs g h r f) [
  | inl before ↦ elim (get_push ts t u r k) [
    | inl too ↦ old r x h u e before too
    | inr last ↦ absurd (let l : r < length gs = slice_get_within gs r h before in let w = last.0 in let a = len.0 in let b = len.1 in omega arith)
  ]
  | inr last ↦ elim (get_push ts t u r k) [
    | inl too ↦ absurd (let l : r < length ts = slice_get_within ts r u too in let w = last.0 in let a = len.0 in let b = len.1 in omega arith)
    | inr there ↦
        let same : r ≡ n = last.0 ∙ len.0 in
        let it : ring ≡ x = some_same (slice_get rings n) ring x here (ap (slice_get rings) (sym same) ∙ e) in
        subst (λ (y : RingSpec). AreNewEnds y h u) it (subst (λ (y : GiverView). AreNewEnds ring y u) (sym last.1) (subst (λ (y : TakerView). AreNewEnds ring g y) (sym there.1) new))
  ]
]

-- the place of the end that was made last
place_of : (rings : List RingSpec) (n : ℕ) (ring : RingSpec) (before now after : List Part) (ends : List Ends) (at : Ends) (all : HaveAllJoined rings n before now ends) (one : HaveJoined now ring at after) → ring.from < length before → ring.to < length before →
    (at.giver ≡ length (rings_from rings ring.from n)) × (at.taker ≡ length (rings_to rings ring.to n))
place_of rings n ring before now after ends at all one from to =
    let c : length now ≡ length before = all.count in
    let (p, p_is) = get_there before ring.from from in
    let (m, m_is) = get_there now ring.from (omega arith) in
    let (q, q_is) = get_there before ring.to to in
    let (k, k_is) = get_there now ring.to (omega arith) in (
      one.giver m m_is ∙ row_length all.givers (rings_from rings ring.from n) m.givers.items (all.each ring.from p m p_is m_is).givers_are,
      one.taker k k_is ∙ row_length all.takers (rings_to rings ring.to n) k.takers.items (all.each ring.to q k q_is k_is).takers_are,
    )

-- one ring more
pub join_more : (rings : List RingSpec) (n : ℕ) (ring : RingSpec) (before now after : List Part) (ends more : List Ends) (at : Ends) → HaveAllJoined rings n before now ends → slice_get rings n ≡ Some ring → HaveJoined now ring at after →
    more ≡ ends ++ at ∷ [] → ring.from < length before → ring.to < length before → HaveAllJoined rings (n + 1) before after more
join_more rings n ring before now after ends more at all here one e from to = record {
  givers = all.givers ++ one.g ∷ [];
  takers = all.takers ++ one.t ∷ [];
  made = (length-append all.givers (one.g ∷ []) ∙ ap (λ k. k + 1) all.made.0, length-append all.takers (one.t ∷ []) ∙ ap (λ k. k + 1) all.made.1);
  new = new_more rings n ring all.givers all.takers one.g one.t all.made here one.ends all.new;
  count = one.count ∙ all.count;
  each = λ a p q f k.
      let c : length now ≡ length before = all.count in
      let l : a < length before = slice_get_within before a p f in
      let (m, m_is) = get_there now a (omega arith) in
      gained rings n a ring all.givers all.takers one.g one.t p m q all.made here (all.each a p m f m_is) (one.each a m q m_is k);
  ended = ap length e ∙ length-append ends (at ∷ []) ∙ ap (λ k. k + 1) all.ended;
  at = λ r x place f k. elim (get_push ends at place r (ap (λ xs. slice_get xs r) (sym e) ∙ k)) [
    | inl old ↦ all.at r x place f old
    | inr last ↦
        let same : r ≡ n = last.0 ∙ all.ended in
        let it : ring ≡ x = some_same (slice_get rings n) ring x here (ap (slice_get rings) (sym same) ∙ f) in
        let is = place_of rings n ring before now after ends at all one from to in (
          ap (λ (y : Ends). y.giver) last.1 ∙ is.0 ∙ ap (λ (y : RingSpec). length (rings_from rings y.from n)) it ∙ ap (λ k. length (rings_from rings x.from k)) (sym same),
          ap (λ (y : Ends). y.taker) last.1 ∙ is.1 ∙ ap (λ (y : RingSpec). length (rings_to rings y.to n)) it ∙ ap (λ k. length (rings_to rings x.to k)) (sym same),
        )
  ];
}

no_ends : (rings : List RingSpec) (a : ℕ) (p q : Part) → (p.givers.items ≡ []) × (p.takers.items ≡ []) → p ≡ q → HasEndsOf [] [] (rings_from rings a 0) (rings_to rings a 0) p q
no_ends rings a p q none same = record {
  rest = sym same ∙ ap (λ (x : Part). record p { givers = x.givers; takers = x.takers }) same;
  givers_are = ap (λ (x : Part). map Some x.givers.items) (sym same) ∙ ap (map Some) none.0;
  takers_are = ap (λ (x : Part). map Some x.takers.items) (sym same) ∙ ap (map Some) none.1;
}

-- no ring yet
pub join_none : (rings : List RingSpec) (parts : List Part) (ends : List Ends) → All (λ p. (p.givers.items ≡ []) × (p.takers.items ≡ [])) parts → ends ≡ [] → HaveAllJoined rings 0 parts parts ends
join_none rings parts ends none e = record {
  givers = [];
  takers = [];
  made = (refl, refl);
  new = λ r ring g t f h k. absurd (cc);
  count = refl;
  each = λ a p q f k.
      let own : (p.givers.items ≡ []) × (p.takers.items ≡ []) =
      subst (λ (x : Part). (x.givers.items ≡ []) × (x.takers.items ≡ [])) (get_or_from_slice_get parts a p p f) (All-get_or (λ (x : Part). (x.givers.items ≡ []) × (x.takers.items ≡ [])) parts a p (slice_get_within parts a p f) none) in
      no_ends rings a p q own (some_same (slice_get parts a) p q f k);
  ended = ap length e;
  at = λ r ring place f k. absurd (let q : slice_get {X = Ends} [] r ≡ Some place = ap (λ xs. slice_get xs r) (sym e) ∙ k in cc);
}

-- there are few ends on the way
pub few_on_the_way : (rings : List RingSpec) (n : ℕ) (before now : List Part) (ends : List Ends) → HaveAllJoined rings n before now ends → n ≤ limit_number limit.Rings → All HasFewEnds now
few_on_the_way rings n before now ends all few = λ a d l.
    let c : length now ≡ length before = all.count in
    let (m, m_is) = get_there now a l in
    let (p, p_is) = get_there before a (omega arith) in
    let have = all.each a p m p_is m_is in
    let from : length m.givers.items ≤ limit_number limit.Rings = omega (arith, row_length all.givers (rings_from rings a n) m.givers.items have.givers_are, where_length (λ r. eqb (slice_index_or (map (λ (x : RingSpec). x.from) rings) r 0) a) n) in
    let to : length m.takers.items ≤ limit_number limit.Rings = omega (arith, row_length all.takers (rings_to rings a n) m.takers.items have.takers_are, where_length (λ r. eqb (slice_index_or (map (λ (x : RingSpec). x.to) rings) r 0) a) n) in
    subst HasFewEnds (sym (get_or_from_slice_get now a m d m_is)) (from, to)

-- of the numbers where a test holds, one stands behind those below it
pub where_at : (p : ℕ → Bool) (n r : ℕ) → r < n → p r ≡ true → slice_get (numbers_where p n) (length (numbers_where p r)) ≡ Some r
where_at p zero r l holds = absurd (omega arith)
where_at p (suc n) r l holds = elim (cases_eq r n) [
  | inl same ↦
      let one : numbers_where p (suc n) ≡ numbers_where p n ++ n ∷ [] = ap (λ c. numbers_where p n ++ cond c (n ∷ []) []) (ap p (sym same) ∙ holds) in
      ap (λ xs. slice_get xs (length (numbers_where p r))) one ∙ ap (λ k. slice_get (numbers_where p n ++ n ∷ []) (length (numbers_where p k))) same ∙ get_last (numbers_where p n) n ∙ ap Some (sym same)
  | inr other ↦ still_there (numbers_where p n) (cond (p n) (n ∷ []) []) (length (numbers_where p r)) r (where_at p n r (omega arith) holds)
]

-- nothing was given or taken on the ends that were made
pub given_none : (rings : List RingSpec) (givers : List GiverView) (takers : List TakerView) → (length givers ≡ length rings) × (length takers ≡ length rings) →
    ((r : ℕ) (ring : RingSpec) (g : GiverView) (t : TakerView) → slice_get rings r ≡ Some ring → slice_get givers r ≡ Some g → slice_get takers r ≡ Some t → AreNewEnds ring g t) →
    (r : ℕ) (g : GiverView) → slice_get givers r ≡ Some g → g.given ≡ []
given_none rings givers takers len new r g e =
    let l : r < length givers = slice_get_within givers r g e in
    let a : length givers ≡ length rings = len.0 in
    let b : length takers ≡ length rings = len.1 in
    let (ring, ring_is) = get_there rings r (omega arith) in
    let (t, t_is) = get_there takers r (omega arith) in
    (new r ring g t ring_is e t_is).given

pub taken_none : (rings : List RingSpec) (givers : List GiverView) (takers : List TakerView) → (length givers ≡ length rings) × (length takers ≡ length rings) →
    ((r : ℕ) (ring : RingSpec) (g : GiverView) (t : TakerView) → slice_get rings r ≡ Some ring → slice_get givers r ≡ Some g → slice_get takers r ≡ Some t → AreNewEnds ring g t) →
    (r : ℕ) (t : TakerView) → slice_get takers r ≡ Some t → t.taken ≡ []
taken_none rings givers takers len new r t e =
    let l : r < length takers = slice_get_within takers r t e in
    let a : length givers ≡ length rings = len.0 in
    let b : length takers ≡ length rings = len.1 in
    let (ring, ring_is) = get_there rings r (omega arith) in
    let (g, g_is) = get_there givers r (omega arith) in
    (new r ring g t ring_is g_is e).taken
