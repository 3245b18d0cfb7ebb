-- What is known while layers are found, step by step.
use Rattle.std.proofs.Common.{ℕ, zero, suc, ◌+◌, ◌-◌, ◌^◌, ◌≡◌, ◌<◌, ◌≤◌, ◌⊎◌, max, Bool, cond, List, [], ◌∷◌, ◌++◌, Option, Some, None, map, length, get_or, set, take, replicate, refl, sym, ap, ◌∙◌, subst, arith, inl, inr, append-nil}
use Rattle.std.specs.Prelude.{◌==◌, ◌&&◌, is_none, slice_get, filter}
use Rattle.std.specs.List.{range_with_len}
use Rattle.std.specs.Option.{option_map_or}
use Rattle.std.proofs.lemmas.Bool.{cases_eq, cases_lt, cases_Bool, eq-eqb, ne_eqb}
use Rattle.std.proofs.lemmas.List.{map_push, length-set, length-take, length-replicate, get_or-replicate, get_or-set_same, get_or-set_other, get_or_past, get_or_append_left, get_or_push, length_push, take_all, take_more}
use Rattle.std.proofs.lemmas.List.Elements.{filter_more}
use Rattle.std.proofs.lemmas.List.Sums.{count_by-le-length}
use Rattle.std.proofs.lemmas.Option.{none-some, same_Some, slice_get_within, get_or_from_slice_get}
use Rattle.lucy_word.proofs.Lists.{get_set_other}
use Rattle.lucy_host.proofs.Elements.{get_there, get_last, get_right}
use Rattle.lucy_types.proofs.ListLaws.{get_old, get_push}
use Rattle.lucy_diagram.specs.declared.buffer.DrawnBuffer.{DrawnBuffer}
use Rattle.lucy_diagram.specs.declared.diagram.Diagram.{Diagram}
use Rattle.lucy_diagram.specs.declared.layers.ways.Way.{Way}
use Rattle.lucy_diagram.specs.declared.layers.work.Work.{Work}
use Rattle.lucy_diagram.specs.Layers.{ways_of, spares_of, gap, IsLeft, IsSpare, Finds, waits_at, waits_of, behind, reach, least_layer, with_layer}
use Rattle.lucy_diagram.specs.Layers as layers
use Rattle.lucy_diagram.specs.Layering.{is_from, count_to, reached, left_of, IsLast, AreChained, AreFree, IsFreed, Counts, IsPassing, ArePassed}
use Rattle.lucy_diagram.proofs.LayerLaws.{left_old, waits_set, layer_set, left_set, finds_on, finds_left, finds_length}

abbrev one_if : Bool → ℕ
one_if b = cond b 1 0

gap_small : (w : Way) → gap w ≤ 1
gap_small w = elim (cases_Bool w.is_read) [
  | inl y ↦ let e : gap w ≡ 1 = ap one_if y in omega arith
  | inr n ↦ let e : gap w ≡ 0 = ap one_if n in omega arith
]

length_more : (l : List ℕ) (x n : ℕ) → length l ≡ n → length (l ++ x ∷ []) ≡ n + 1
length_more l x n e = let h = length_push l x in omega arith

-- a way more behind others
count_push : (q : ℕ) (ws : List Way) (w : Way) → count_to q (ws ++ w ∷ []) ≡ count_to q ws + one_if (w.to == q)
count_push q [] w = omega arith
count_push q (x ∷ xs) w = let rest = count_push q xs w in omega arith

reached_push : (k q : ℕ) (ws : List Way) (w : Way) → reached k q (ws ++ w ∷ []) ≡ max (reached k q ws) (behind k q w)
reached_push k q [] w = omega arith
reached_push k q (x ∷ xs) w = let rest = reached_push k q xs w in omega arith

-- no more ways lead to a place than there are
count_le : (q : ℕ) (ws : List Way) → count_to q ws ≤ length ws
count_le q [] = omega arith
count_le q (w ∷ ws) =
    let rest = count_le q ws in
    elim (cases_eq w.to q) [
      | inl e ↦ let a : one_if (w.to == q) ≡ 1 = ap one_if (eq-eqb w.to q e) in omega arith
      | inr n ↦ let a : one_if (w.to == q) ≡ 0 = ap one_if (ne_eqb w.to q n) in omega arith
    ]

pub count_few : (q i : ℕ) (ws : List Way) → count_to q (take i ws) ≤ i
count_few q i ws = let a = count_le q (take i ws) in let b = length-take i ws in omega arith

-- one way more is counted
pub counted_more : (W : List Way) (i n : ℕ) (w : Way) (old new : List ℕ) → slice_get W i ≡ Some w → length old ≡ n → ((q : ℕ) → q < n → get_or old q 0 ≡ count_to q (take i W)) → new ≡ set old w.to (get_or old w.to 0 + 1) →
    (length new ≡ n) × ((q : ℕ) → q < n → get_or new q 0 ≡ count_to q (take (i + 1) W))
counted_more W i n w old new at count are more =
    let within = slice_get_within W i w at in
    let next : take (i + 1) W ≡ take i W ++ w ∷ [] = take_more W i w within ∙ ap (λ x. take i W ++ x ∷ []) (get_or_from_slice_get W i w w at) in (
      ap length more ∙ length-set old w.to (get_or old w.to 0 + 1) ∙ count,
      λ q l.
          let all : count_to q (take (i + 1) W) ≡ count_to q (take i W) + one_if (w.to == q) = ap (count_to q) next ∙ count_push q (take i W) w in
          let before = are q l in
          let here : get_or new q 0 ≡ get_or (set old w.to (get_or old w.to 0 + 1)) q 0 = ap (λ l. get_or l q 0) more in
          elim (cases_eq q w.to) [
            | inl e ↦
                let a : one_if (w.to == q) ≡ 1 = ap one_if (eq-eqb w.to q (sym e)) in
                let s : get_or (set old w.to (get_or old w.to 0 + 1)) q 0 ≡ get_or old w.to 0 + 1 =
                ap (λ j. get_or (set old w.to (get_or old w.to 0 + 1)) j 0) e ∙ get_or-set_same old w.to (get_or old w.to 0 + 1) 0 (omega arith) in
                let o : get_or old q 0 ≡ get_or old w.to 0 = ap (λ j. get_or old j 0) e in omega arith
            | inr ne ↦
                let a : one_if (w.to == q) ≡ 0 = ap one_if (ne_eqb w.to q (λ e. ne (sym e))) in
                let s : get_or (set old w.to (get_or old w.to 0 + 1)) q 0 ≡ get_or old q 0 = get_or-set_other old w.to q (get_or old w.to 0 + 1) 0 ne in omega arith
          ],
    )

-- a count fits while there are more ways
pub count_fits : (W : List Way) (i n q : ℕ) (old : List ℕ) → length old ≡ n → ((q : ℕ) → q < n → get_or old q 0 ≡ count_to q (take i W)) → get_or old q 0 ≤ i
count_fits W i n q old count are = elim (cases_lt q n) [
  | inl l ↦ let a = are q l in let b = count_few q i W in omega arith
  | inr g ↦ let a = get_or_past old q 0 (omega arith) in omega arith
]

-- nothing is found at first
none_at : (n i : ℕ) → get_or {A = Option ℕ} (replicate n None) i None ≡ None
none_at n i = elim (cases_lt i n) [ inl l ↦ get_or-replicate {A = Option ℕ} n i None None l | inr g ↦ get_or_past {X = Option ℕ} (replicate n None) i None (let e = length-replicate {A = Option ℕ} n None in omega arith) ]

waits_none : (n q : ℕ) (ws : List Way) → waits_of (replicate n None) q ws ≡ count_to q ws
waits_none n q [] = refl
waits_none n q (w ∷ ws) =
    let rest = waits_none n q ws in
    let a : one_if (waits_at (replicate n None) q w) ≡ one_if (w.to == q) = ap (λ (o : Option ℕ). one_if (is_none o && (w.to == q))) (none_at n w.from) in omega arith

layer_none : (n q : ℕ) (ws : List Way) → least_layer (replicate n None) q ws ≡ 0
layer_none n q [] = refl
layer_none n q (w ∷ ws) =
    let rest = layer_none n q ws in
    let a : reach (replicate n None) q w ≡ 0 = ap (λ (o : Option ℕ). option_map_or (λ l. behind l q w) o 0) (none_at n w.from) in omega arith

pub zero_at : (n i : ℕ) → get_or {A = ℕ} (replicate n 0) i 0 ≡ 0
zero_at n i = elim (cases_lt i n) [ inl l ↦ get_or-replicate {A = ℕ} n i 0 0 l | inr g ↦ get_or_past {X = ℕ} (replicate n 0) i 0 (let e = length-replicate {A = ℕ} n 0 in omega arith) ]

pub counts_none : (W : List Way) (n : ℕ) (found : List (Option ℕ)) (least waits : List ℕ) → n < 2 ^ 64 → found ≡ replicate n None → least ≡ replicate n 0 → length waits ≡ n → ((q : ℕ) → q < n → get_or waits q 0 ≡ count_to q W) →
    Counts W [] 0 found least waits
counts_none W n found least waits few a b count are =
    subst (λ (F : List (Option ℕ)). Counts W [] 0 F least waits) (sym a) (subst (λ (L : List ℕ). Counts W [] 0 (replicate n None) L waits) (sym b) (
    let many : length (replicate n None) ≡ n = length-replicate {A = Option ℕ} n None in
    let zeros = length-replicate {A = ℕ} n 0 in record {
      few = omega arith;
      leasts = omega arith;
      waiters = omega arith;
      least = λ q l. let x = layer_none n q W in let y = zero_at n q in omega arith;
      waits = λ q l. let x = waits_none n q W in let y = are q (omega arith) in omega arith;
      low = λ q l. let x = count_by-le-length {X = Option ℕ} is_none (replicate n None) in let y = zero_at n q in omega arith;
    }
    ))

-- the layer of a place that is left
pub least_is : (W : List Way) (F : List (Option ℕ)) (L C : List ℕ) (p : ℕ) → Counts W [] 0 F L C → IsLeft F p → get_or L p 0 ≡ least_layer F p W
least_is W F L C p c left = let h = c.least p (slice_get_within F p None left) in omega arith

-- it is found, and the ways from it are to be gone
pub counts_take : (W : List Way) (F : List (Option ℕ)) (L C : List ℕ) (p k : ℕ) → Counts W [] 0 F L C → IsLeft F p → Counts W (filter (is_from p) W) k (set F p (Some k)) L C
counts_take W F L C p k c left =
    let n = length-set F p (Some k) in record {
      few = let h = c.few in omega arith;
      leasts = let h = c.leasts in omega arith;
      waiters = let h = c.waiters in omega arith;
      least = λ q l. let h = c.least q (omega arith) in let s = layer_set W F p k q left in omega arith;
      waits = λ q l. let h = c.waits q (omega arith) in let s = waits_set W F p k q left in omega arith;
      low = λ q l. let h = c.low q (omega arith) in let s = left_set F p k left in omega arith;
    }

-- there is room for the layer behind it
pub low_take : (W : List Way) (F : List (Option ℕ)) (L C : List ℕ) (p k : ℕ) → Counts W [] 0 F L C → IsLeft F p → k ≡ get_or L p 0 → k + 1 + left_of (set F p (Some k)) ≤ length (set F p (Some k))
low_take W F L C p k c left is =
    let n = length-set F p (Some k) in
    let h = c.low p (slice_get_within F p None left) in
    let s = left_set F p k left in omega arith

-- a way is gone
pub counts_go : (W rest : List Way) (w : Way) (layer : ℕ) (F : List (Option ℕ)) (L C : List ℕ) → Counts W (rest ++ w ∷ []) layer F L C → layer + 1 + left_of F ≤ length F →
    Counts W rest layer F (set L w.to (max (get_or L w.to 0) (layer + gap w))) (set C w.to (get_or C w.to 0 - 1))
counts_go W rest w layer F L C c room =
    let v : ℕ = max (get_or L w.to 0) (layer + gap w) in
    let x : ℕ = get_or C w.to 0 - 1 in
    let a = length-set L w.to v in
    let b = length-set C w.to x in
    let small : gap w ≤ 1 = gap_small w in record {
      few = c.few;
      leasts = let h = c.leasts in omega arith;
      waiters = let h = c.waiters in omega arith;
      least = λ q l.
          let h = c.least q l in
          let r = reached_push layer q rest w in
          elim (cases_eq q w.to) [
            | inl e ↦
                let t : behind layer q w ≡ layer + gap w = ap (λ (b : Bool). cond b (layer + gap w) 0) (eq-eqb w.to q (sym e)) in
                let s : get_or (set L w.to v) q 0 ≡ v = ap (λ j. get_or (set L w.to v) j 0) e ∙ get_or-set_same L w.to v 0 (let n = c.leasts in omega arith) in
                let o : get_or L q 0 ≡ get_or L w.to 0 = ap (λ j. get_or L j 0) e in omega arith
            | inr ne ↦
                let t : behind layer q w ≡ 0 = ap (λ (b : Bool). cond b (layer + gap w) 0) (ne_eqb w.to q (λ e. ne (sym e))) in
                let s : get_or (set L w.to v) q 0 ≡ get_or L q 0 = get_or-set_other L w.to q v 0 ne in omega arith
          ];
      waits = λ q l.
          let h = c.waits q l in
          let r = count_push q rest w in
          elim (cases_eq q w.to) [
            | inl e ↦
                let t : one_if (w.to == q) ≡ 1 = ap one_if (eq-eqb w.to q (sym e)) in
                let s : get_or (set C w.to x) q 0 ≡ x = ap (λ j. get_or (set C w.to x) j 0) e ∙ get_or-set_same C w.to x 0 (let n = c.waiters in omega arith) in
                let o : get_or C q 0 ≡ get_or C w.to 0 = ap (λ j. get_or C j 0) e in omega arith
            | inr ne ↦
                let t : one_if (w.to == q) ≡ 0 = ap one_if (ne_eqb w.to q (λ e. ne (sym e))) in
                let s : get_or (set C w.to x) q 0 ≡ get_or C q 0 = get_or-set_other C w.to q x 0 ne in omega arith
          ];
      low = λ q l.
          let h = c.low q l in
          elim (cases_eq q w.to) [
            | inl e ↦
                let s : get_or (set L w.to v) q 0 ≡ v = ap (λ j. get_or (set L w.to v) j 0) e ∙ get_or-set_same L w.to v 0 (let n = c.leasts in omega arith) in
                let o : get_or L q 0 ≡ get_or L w.to 0 = ap (λ j. get_or L j 0) e in omega arith
            | inr ne ↦ let s : get_or (set L w.to v) q 0 ≡ get_or L q 0 = get_or-set_other L w.to q v 0 ne in omega arith
          ];
    }

-- all are gone
pub counts_end : (W : List Way) (layer : ℕ) (F : List (Option ℕ)) (L C : List ℕ) → Counts W [] layer F L C → Counts W [] 0 F L C
counts_end W layer F L C c = record { few = c.few; leasts = c.leasts; waiters = c.waiters; least = c.least; waits = c.waits; low = c.low }

-- the places that wait for none: of no places
pub free_none : (F : List (Option ℕ)) (C : List ℕ) → AreFree F C 0 []
free_none F C = record {
  are = λ i q at. absurd (none-some q at);
  all = λ q l left z. absurd (omega arith);
  once = λ i j q a b. absurd (none-some q a);
}

-- one place more behind others is there once
once_push : (free : List ℕ) (p : ℕ) → ((i j q : ℕ) → slice_get free i ≡ Some q → slice_get free j ≡ Some q → i ≡ j) → ((i : ℕ) → slice_get free i ≡ Some p → ⊥) →
    (i j q : ℕ) → slice_get (free ++ p ∷ []) i ≡ Some q → slice_get (free ++ p ∷ []) j ≡ Some q → i ≡ j
once_push free p once new i j q a b = elim (get_push free p i q a) [
  | inl u ↦ elim (get_push free p j q b) [ inl v ↦ once i j q u.1 v.1 | inr v ↦ absurd (new i (u.1 ∙ ap Some (sym v.1))) ]
  | inr u ↦ elim (get_push free p j q b) [ inl v ↦ absurd (new j (v.1 ∙ ap Some (sym u.1))) | inr v ↦ u.0 ∙ sym v.0 ]
]

-- of one place more
pub free_more : (F : List (Option ℕ)) (C : List ℕ) (p : ℕ) (old new : List ℕ) → AreFree F C p old → IsFreed F C p old new → AreFree F C (p + 1) new
free_more F C p old new f step = elim step [
  | inl s ↦ subst (λ (l : List ℕ). AreFree F C (p + 1) l) (sym s.1) (record {
    are = λ i q at. elim (get_push old p i q at) [
      | inl u ↦ let h = f.are i q u.1 in (let l = h.0 in omega arith, h.1, h.2)
      | inr u ↦ subst (λ (x : ℕ). (x < p + 1) × IsLeft F x × (get_or C x 0 ≡ 0)) u.1 (omega arith, s.0.0, s.0.1)
    ];
    all = λ q l left z. elim (cases_eq q p) [
      | inl e ↦ (length old, get_last old p ∙ ap Some (sym e))
      | inr ne ↦ let h = f.all q (omega arith) left z in (h.0, get_old old p h.0 (slice_get_within old h.0 q h.1) ∙ h.1)
    ];
    once = once_push old p f.once (λ i at. let h = (f.are i p at).0 in absurd (omega arith));
  })
  | inr s ↦ subst (λ (l : List ℕ). AreFree F C (p + 1) l) (sym s.1) (record {
    are = λ i q at. let h = f.are i q at in (let l = h.0 in omega arith, h.1, h.2);
    all = λ q l left z. elim (cases_eq q p) [
      | inl e ↦ absurd (s.0 (subst (λ (x : ℕ). IsLeft F x) e left) (subst (λ (x : ℕ). get_or C x 0 ≡ 0) e z))
      | inr ne ↦ f.all q (omega arith) left z
    ];
    once = f.once;
  })
]

-- behind a way that is gone
pub free_go : (W rest : List Way) (w : Way) (layer : ℕ) (F : List (Option ℕ)) (L C old new : List ℕ) → Counts W (rest ++ w ∷ []) layer F L C → AreFree F C (length F) old →
    IsFreed F (set C w.to (get_or C w.to 0 - 1)) w.to old new → AreFree F (set C w.to (get_or C w.to 0 - 1)) (length F) new
free_go W rest w layer F L C old new c f step =
    let D = set C w.to (get_or C w.to 0 - 1) in
    let apart : (q : ℕ) → IsLeft F q → get_or C q 0 ≡ 0 → q ≡ w.to → ⊥ = λ q left z e.
    (let h = c.waits q (slice_get_within F q None left) in
    let r = count_push q rest w in
    let t : one_if (w.to == q) ≡ 1 = ap one_if (eq-eqb w.to q (sym e)) in omega arith) in
    let other : (q : ℕ) → (q ≡ w.to → ⊥) → get_or D q 0 ≡ get_or C q 0 = λ q ne. get_or-set_other C w.to q (get_or C w.to 0 - 1) 0 ne in
    let kept : (i q : ℕ) → slice_get old i ≡ Some q → (q < length F) × IsLeft F q × (get_or D q 0 ≡ 0) = λ i q at.
    (let h = f.are i q at in (h.0, h.1, other q (apart q h.1 h.2) ∙ h.2)) in
    let new_there : (i : ℕ) → slice_get old i ≡ Some w.to → ⊥ = λ i at. (let h = f.are i w.to at in apart w.to h.1 h.2 refl) in
    elim step [
      | inl s ↦ subst (λ (l : List ℕ). AreFree F D (length F) l) (sym s.1) (record {
        are = λ i q at. elim (get_push old w.to i q at) [
          | inl u ↦ kept i q u.1
          | inr u ↦ subst (λ (x : ℕ). (x < length F) × IsLeft F x × (get_or D x 0 ≡ 0)) u.1 (slice_get_within F w.to None s.0.0, s.0.0, s.0.1)
        ];
        all = λ q l left z. elim (cases_eq q w.to) [
          | inl e ↦ (length old, get_last old w.to ∙ ap Some (sym e))
          | inr ne ↦ let h = f.all q l left (sym (other q ne) ∙ z) in (h.0, get_old old w.to h.0 (slice_get_within old h.0 q h.1) ∙ h.1)
        ];
        once = once_push old w.to f.once new_there;
      })
      | inr s ↦ subst (λ (l : List ℕ). AreFree F D (length F) l) (sym s.1) (record {
        are = kept;
        all = λ q l left z. elim (cases_eq q w.to) [
          | inl e ↦ absurd (s.0 (subst (λ (x : ℕ). IsLeft F x) e left) (subst (λ (x : ℕ). get_or D x 0 ≡ 0) e z))
          | inr ne ↦ f.all q l left (sym (other q ne) ∙ z)
        ];
        once = f.once;
      })
    ]

-- the last one is taken
pub free_pop : (F : List (Option ℕ)) (C rest : List ℕ) (p k : ℕ) → AreFree F C (length F) (rest ++ p ∷ []) → AreFree (set F p (Some k)) C (length F) rest
free_pop F C rest p k f = record {
  are = λ i q at.
      let l = slice_get_within rest i q at in
      let there = get_old rest p i l ∙ at in
      let h = f.are i q there in
      let ne : q ≡ p → ⊥ = λ e. (let o = f.once i (length rest) q there (get_last rest p ∙ ap Some (sym e)) in omega arith) in
      (h.0, get_set_other F p q (Some k) ne ∙ h.1, h.2);
  all = λ q l left z.
      let o = left_old F p k q left in
      let h = f.all q l o.1 z in
      elim (get_push rest p h.0 q h.1) [ inl u ↦ (h.0, u.1) | inr u ↦ absurd (o.0 (sym u.1)) ];
  once = λ i j q a b.
      f.once i j q (get_old rest p i (slice_get_within rest i q a) ∙ a) (get_old rest p j (slice_get_within rest j q b) ∙ b);
}

-- one that waits is taken where none is free
pub free_spare : (F : List (Option ℕ)) (C : List ℕ) (n p k : ℕ) → AreFree F C n [] → AreFree (set F p (Some k)) C n []
free_spare F C n p k f = record {
  are = λ i q at. absurd (none-some q at);
  all = λ q l left z. f.all q l (left_old F p k q left).1 z;
  once = λ i j q a b. absurd (none-some q a);
}

-- then each that is left waits
pub all_wait : (W : List Way) (F : List (Option ℕ)) (L C : List ℕ) → Counts W [] 0 F L C → AreFree F C (length F) [] → (q : ℕ) → IsLeft F q → 0 < waits_of F q W
all_wait W F L C c f q left =
    let within = slice_get_within F q None left in
    let h = c.waits q within in
    elim (cases_lt 0 (waits_of F q W)) [ inl l ↦ l | inr g ↦ absurd (let x = f.all q within left (omega arith) in none-some q x.1) ]

-- one that is free waits for none
pub no_wait : (W : List Way) (F : List (Option ℕ)) (L C rest : List ℕ) (p : ℕ) → Counts W [] 0 F L C → AreFree F C (length F) (rest ++ p ∷ []) → IsLeft F p × (waits_of F p W ≡ 0)
no_wait W F L C rest p c f =
    let h = f.are (length rest) p (get_last rest p) in
    let w = c.waits p h.0 in
    let z = h.2 in (h.1, omega arith)

-- chains: of no ways
pub chained_none : (W : List Way) (last : List ℕ) (n : ℕ) → last ≡ replicate n 0 → AreChained W 0 last []
chained_none W last n is = subst (λ (l : List ℕ). AreChained W 0 l []) (sym is) (record {
  last = λ p l. subst (λ (k : ℕ). IsLast W 0 p k) (sym (zero_at n p)) (record { within = omega arith; same = refl; from = λ w some at. absurd (omega arith) });
  before = λ i w l at h. absurd (omega arith);
  count = refl;
})

-- one way more, from another place and from this one
last_other : (W : List Way) (i p k : ℕ) (w : Way) → slice_get W i ≡ Some w → (p ≡ w.from → ⊥) → IsLast W i p k → IsLast W (i + 1) p k
last_other W i p k w at ne l = record {
  within = let h = l.within in omega arith;
  same =
      filter_more (is_from p) W i w (slice_get_within W i w at)
      ∙ ap (λ (x : Way). filter (is_from p) (take i W) ++ cond (is_from p x) (x ∷ []) []) (get_or_from_slice_get W i w w at)
      ∙ ap (λ (b : Bool). filter (is_from p) (take i W) ++ cond b (w ∷ []) []) (ne_eqb w.from p (λ e. ne (sym e)))
      ∙ append-nil (filter (is_from p) (take i W)) ∙ l.same;
  from = l.from;
}

last_here : (W : List Way) (i : ℕ) (w : Way) → slice_get W i ≡ Some w → IsLast W (i + 1) w.from (i + 1)
last_here W i w at = record {
  within = omega arith;
  same = refl;
  from = λ x some there.
      let e : i + 1 - 1 ≡ i = omega arith in ap (λ (y : Way). y.from) (same_Some x w (sym there ∙ ap (slice_get W) e ∙ at));
}

pub chained_more : (W : List Way) (i : ℕ) (w : Way) (last before next more : List ℕ) → AreChained W i last before → slice_get W i ≡ Some w → more ≡ before ++ get_or last w.from 0 ∷ [] → next ≡ set last w.from (i + 1) →
    AreChained W (i + 1) next more
chained_more W i w last before next more c at pushed put =
    subst (λ (l : List ℕ). AreChained W (i + 1) l more) (sym put) (subst (λ (b : List ℕ). AreChained W (i + 1) (set last w.from (i + 1)) b) (sym pushed) (
    let n = length-set last w.from (i + 1) in record {
      last = λ p l. elim (cases_eq p w.from) [
        | inl e ↦
            let s : get_or (set last w.from (i + 1)) p 0 ≡ i + 1 = ap (λ j. get_or (set last w.from (i + 1)) j 0) e ∙ get_or-set_same last w.from (i + 1) 0 (omega arith) in
            subst (λ (k : ℕ). IsLast W (i + 1) p k) (sym s) (subst (λ (j : ℕ). IsLast W (i + 1) j (i + 1)) (sym e) (last_here W i w at))
        | inr ne ↦
            subst (λ (k : ℕ). IsLast W (i + 1) p k) (sym (get_or-set_other last w.from p (i + 1) 0 ne)) (last_other W i p (get_or last p 0) w at ne (c.last p (omega arith)))
      ];
      before = λ j x l there h. elim (cases_eq j i) [
        | inl e ↦
            let same : x ≡ w = same_Some x w (sym there ∙ ap (slice_get W) e ∙ at) in
            let s : get_or (before ++ get_or last w.from 0 ∷ []) j 0 ≡ get_or last w.from 0 = get_or_push before (get_or last w.from 0) 0 j (let k = c.count in omega arith) in
            let from : x.from ≡ w.from = ap (λ (y : Way). y.from) same in
            subst (λ (k : ℕ). IsLast W j x.from k) (sym (s ∙ ap (λ y. get_or last y 0) (sym from))) (subst (λ (m : ℕ). IsLast W m x.from (get_or last x.from 0)) (sym e) (c.last x.from (omega arith)))
        | inr ne ↦
            let within : j < length before = (let k = c.count in omega arith) in
            subst (λ (k : ℕ). IsLast W j x.from k) (sym (get_or_append_left before (get_or last w.from 0 ∷ []) 0 j within)) (c.before j x (omega arith) there (omega arith))
      ];
      count = length_more before (get_or last w.from 0) i c.count;
    }
    ))

-- the last way of a chain, and those before it
pub cut : (W : List Way) (p m : ℕ) (w : Way) → 0 < m → slice_get W (m - 1) ≡ Some w → w.from ≡ p → filter (is_from p) (take m W) ≡ filter (is_from p) (take (m - 1) W) ++ w ∷ []
cut W p m w some at e =
    let next : m ≡ m - 1 + 1 = omega arith in
    ap (λ n. filter (is_from p) (take n W)) next
    ∙ filter_more (is_from p) W (m - 1) w (slice_get_within W (m - 1) w at)
    ∙ ap (λ (x : Way). filter (is_from p) (take (m - 1) W) ++ cond (is_from p x) (x ∷ []) []) (get_or_from_slice_get W (m - 1) w w at)
    ∙ ap (λ (b : Bool). filter (is_from p) (take (m - 1) W) ++ cond b (w ∷ []) []) (eq-eqb w.from p e)

-- all ways from a place, up to the last one
pub from_last : (W : List Way) (p k : ℕ) → IsLast W (length W) p k → filter (is_from p) W ≡ filter (is_from p) (take k W)
from_last W p k l = ap (filter (is_from p)) (sym (take_all (length W) W (omega arith))) ∙ l.same

-- a place of which all ways are to be gone
pub passing : (W : List Way) (last before : List ℕ) (p number layer : ℕ) (work : Work) → AreChained W (length W) last before → p < length last → number ≡ get_or last p 0 →
    Counts W (filter (is_from p) W) layer work.found.items work.least.items work.waits.items → AreFree work.found.items work.waits.items (length work.found.items) work.free.items →
    layer + 1 + left_of work.found.items ≤ length work.found.items → IsPassing W p number layer work
passing W last before p number layer work chained there is counts free low =
    let l : IsLast W (length W) p number = subst (λ (k : ℕ). IsLast W (length W) p k) (sym is) (chained.last p there) in record {
      within = l.within;
      from = l.from;
      counts = subst (λ (rest : List Way). Counts W rest layer work.found.items work.least.items work.waits.items) (from_last W p number l) counts;
      free = free;
      low = low;
    }

-- one of them is gone
pub passing_more : (W : List Way) (last before : List ℕ) (p number next layer : ℕ) (w : Way) (old new : Work) → AreChained W (length W) last before → p < length last → 0 < number → slice_get W (number - 1) ≡ Some w →
    next ≡ get_or before (number - 1) 0 → IsPassing W p number layer old → new.found.items ≡ old.found.items →
    new.least.items ≡ set old.least.items w.to (max (get_or old.least.items w.to 0) (layer + gap w)) → new.waits.items ≡ set old.waits.items w.to (get_or old.waits.items w.to 0 - 1) →
    IsFreed new.found.items new.waits.items w.to old.free.items new.free.items → IsPassing W p next layer new
passing_more W last before p number next layer w old new chained there some at is passing found least waits freed =
    let from : w.from ≡ p = passing.from w some at in
    let i : ℕ = number - 1 in
    let rest = filter (is_from p) (take i W) in
    let within = passing.within in
    let link : IsLast W i w.from (get_or before i 0) = chained.before i w (omega arith) at (omega arith) in
    let l : IsLast W i p next = subst (λ (k : ℕ). IsLast W i p k) (sym is) (subst (λ (q : ℕ). IsLast W i q (get_or before i 0)) from link) in
    let before_it = subst (λ (r : List Way). Counts W r layer old.found.items old.least.items old.waits.items) (cut W p number w some at from) passing.counts in
    let counted = counts_go W rest w layer old.found.items old.least.items old.waits.items before_it passing.low in
    let step = subst (λ (C : List ℕ). IsFreed old.found.items C w.to old.free.items new.free.items) waits (subst (λ (F : List (Option ℕ)). IsFreed F new.waits.items w.to old.free.items new.free.items) found freed) in
    let kept = free_go W rest w layer old.found.items old.least.items old.waits.items old.free.items new.free.items before_it passing.free step in
    record {
      within = let h = l.within in omega arith;
      from = l.from;
      counts =
          subst (λ (F : List (Option ℕ)). Counts W (filter (is_from p) (take next W)) layer F new.least.items new.waits.items) (sym found)
          (subst (λ (L : List ℕ). Counts W (filter (is_from p) (take next W)) layer old.found.items L new.waits.items) (sym least)
          (subst (λ (C : List ℕ). Counts W (filter (is_from p) (take next W)) layer old.found.items (set old.least.items w.to (max (get_or old.least.items w.to 0) (layer + gap w))) C) (sym waits)
          (subst (λ (r : List Way). Counts W r layer old.found.items (set old.least.items w.to (max (get_or old.least.items w.to 0) (layer + gap w))) (set old.waits.items w.to (get_or old.waits.items w.to 0 - 1))) l.same counted)));
      free =
          subst (λ (F : List (Option ℕ)). AreFree F new.waits.items (length F) new.free.items) (sym found)
          (subst (λ (C : List ℕ). AreFree old.found.items C (length old.found.items) new.free.items) (sym waits) kept);
      low = subst (λ (F : List (Option ℕ)). layer + 1 + left_of F ≤ length F) (sym found) passing.low;
    }

-- all are gone
pub passing_end : (W : List Way) (p number layer : ℕ) (work : Work) → number ≤ 0 → IsPassing W p number layer work → Counts W [] 0 work.found.items work.least.items work.waits.items
passing_end W p number layer work low passing =
    let e : number ≡ 0 = omega arith in
    counts_end W layer work.found.items work.least.items work.waits.items (subst (λ (n : ℕ). Counts W (filter (is_from p) (take n W)) layer work.found.items work.least.items work.waits.items) e passing.counts)

-- less is left
pub left_less : (W : List Way) (F G : List (Option ℕ)) (p : ℕ) → IsLeft F p → G ≡ with_layer W F p → left_of G < left_of F
left_less W F G p left is = let s = left_set F p (least_layer F p W) left in let e : left_of G ≡ left_of (with_layer W F p) = ap left_of is in omega arith

-- a free place is taken
pub finds_free : (W : List Way) (S : List ℕ) (X F G : List (Option ℕ)) (L C rest : List ℕ) (p : ℕ) → Finds W S X F → Counts W [] 0 F L C → AreFree F C (length F) (rest ++ p ∷ []) → G ≡ with_layer W F p → Finds W S X G
finds_free W S X F G L C rest p f counts are is =
    let w = no_wait W F L C rest p counts are in subst (λ (H : List (Option ℕ)). Finds W S X H) (sym is) (layers.free p f w.0 w.1)

-- a spare one is
pub finds_spare : (W : List Way) (S : List ℕ) (X F G : List (Option ℕ)) (L C : List ℕ) (p number : ℕ) → Finds W S X F → Counts W [] 0 F L C → AreFree F C (length F) [] → IsLeft F p → slice_get S number ≡ Some p →
    ((i q : ℕ) → i < number → slice_get S i ≡ Some q → IsLeft F q → ⊥) → G ≡ with_layer W F p → Finds W S X G
finds_spare W S X F G L C p number f counts are left there first is =
    subst (λ (H : List (Option ℕ)). Finds W S X H) (sym is) (layers.spare p f left (all_wait W F L C counts are) (record { number = number; there = there; first = first }))

-- the state in which a place is taken
pub take_free : (W : List Way) (F : List (Option ℕ)) (C rest : List ℕ) (p : ℕ) → AreFree F C (length F) (rest ++ p ∷ []) → AreFree (with_layer W F p) C (length F) rest
take_free W F C rest p f = free_pop F C rest p (least_layer F p W) f

pub take_spare : (W : List Way) (F : List (Option ℕ)) (C : List ℕ) (p : ℕ) → AreFree F C (length F) [] → AreFree (with_layer W F p) C (length F) []
take_spare W F C p f = free_spare F C (length F) p (least_layer F p W) f

-- one spare place more is passed
pub passed_more : (W : List Way) (S : List ℕ) (number p : ℕ) (old : List (Option ℕ)) (new : List (Option ℕ)) → slice_get S number ≡ Some p → ((i q : ℕ) → i < number → slice_get S i ≡ Some q → IsLeft old q → ⊥) →
    Finds W S old new → (IsLeft new p → ⊥) → (i q : ℕ) → i < number + 1 → slice_get S i ≡ Some q → IsLeft new q → ⊥
passed_more W S number p old new there before f here i q l at left = elim (cases_eq i number) [
  | inl e ↦ here (subst (λ (x : ℕ). IsLeft new x) (same_Some q p (sym at ∙ ap (slice_get S) e ∙ there)) left)
  | inr ne ↦ before i q (omega arith) at (finds_left W S old q f left)
]

-- a place is taken as found, of this layer, and all ways from it are to be gone
pub record IsTaken (W : List Way) (F G : List (Option ℕ)) (L C open_ones : List ℕ) (p k : ℕ) : Type 0 where
  pub counts : Counts W (filter (is_from p) W) k G L C
  pub free : AreFree G C (length G) open_ones
  pub low : k + 1 + left_of G ≤ length G
  pub found : G ≡ with_layer W F p

pub taken_place : (W : List Way) (F G : List (Option ℕ)) (L C open_ones : List ℕ) (p k : ℕ) → Counts W [] 0 F L C → IsLeft F p → k ≡ get_or L p 0 → AreFree (with_layer W F p) C (length F) open_ones → G ≡ set F p (Some k) →
    IsTaken W F G L C open_ones p k
taken_place W F G L C open_ones p k counts left is are put =
    let same : G ≡ with_layer W F p = put ∙ ap (λ (l : ℕ). set F p (Some l)) (is ∙ least_is W F L C p counts left) in
    let long : length G ≡ length F = ap length put ∙ length-set F p (Some k) in record {
      counts = subst (λ (H : List (Option ℕ)). Counts W (filter (is_from p) W) k H L C) (sym put) (counts_take W F L C p k counts left);
      free = subst (λ (n : ℕ). AreFree G C n open_ones) (sym long) (subst (λ (H : List (Option ℕ)). AreFree H C (length F) open_ones) (sym same) are);
      low = subst (λ (H : List (Option ℕ)). k + 1 + left_of H ≤ length H) (sym put) (low_take W F L C p k counts left is);
      found = same;
    }

some_layer : (o : Option ℕ) (k : ℕ) → (o ≡ None → ⊥) → ((l : ℕ) → o ≡ Some l → k ≡ l) → o ≡ Some k
some_layer None k some own = absurd (some refl)
some_layer (Some l) k some own = ap Some (sym (own l refl))

-- one layer more, where all are found
pub all_more : (F : List (Option ℕ)) (p k : ℕ) (old new : List ℕ) → ((q : ℕ) → IsLeft F q → ⊥) → p < length F → ((l : ℕ) → slice_get F p ≡ Some (Some l) → k ≡ l) → new ≡ old ++ k ∷ [] → map (λ (l : ℕ). Some l) old ≡ take p F →
    map (λ (l : ℕ). Some l) new ≡ take (p + 1) F
all_more F p k old new all within own more before =
    let found = get_there F p within in
    let here : found.0 ≡ Some k = some_layer found.0 k (λ e. all p (found.1 ∙ ap Some e)) (λ l e. own l (found.1 ∙ ap Some e)) in
    let next : take (p + 1) F ≡ take p F ++ Some k ∷ [] = take_more F p found.0 within ∙ ap (λ (o : Option ℕ). take p F ++ o ∷ []) (get_or_from_slice_get F p found.0 found.0 found.1 ∙ here) in
    ap (map (λ (l : ℕ). Some l)) more ∙ map_push (λ (l : ℕ). Some l) old k ∙ ap (λ l. l ++ Some k ∷ []) before ∙ sym next

-- as many layers as places
pub passed_length : (W : List Way) (S : List ℕ) (count number : ℕ) (work : Work) → ArePassed W S count number work → length work.found.items ≡ count
passed_length W S count number work passed = finds_length W S (replicate count None) passed.finds ∙ length-replicate {A = Option ℕ} count None

-- before any spare place is passed
pub passed_none : (W : List Way) (S : List ℕ) (count : ℕ) (old : List (Option ℕ)) (work : Work) → old ≡ replicate count None → Finds W S old work.found.items → Counts W [] 0 work.found.items work.least.items work.waits.items →
    work.free.items ≡ [] → AreFree work.found.items work.waits.items (length work.found.items) [] → ArePassed W S count 0 work
passed_none W S count old work is finds counts empty free = record {
  counts = counts;
  none = empty;
  free = free;
  finds = subst (λ (F : List (Option ℕ)). Finds W S F work.found.items) is finds;
  passed = λ i q l at left. absurd (omega arith);
}

-- a spare place whose layer is found is passed
pub passed_found : (W : List Way) (S : List ℕ) (count number p : ℕ) (work : Work) → ArePassed W S count number work → slice_get S number ≡ Some p → (IsLeft work.found.items p → ⊥) → ArePassed W S count (number + 1) work
passed_found W S count number p work passed there found = record {
  counts = passed.counts;
  none = passed.none;
  free = passed.free;
  finds = passed.finds;
  passed = passed_more W S number p work.found.items work.found.items there passed.passed layers.none found;
}

-- one that is left is taken, and then all that are free
pub passed_taken : (W : List Way) (S : List ℕ) (count number p : ℕ) (old new : Work) (mid : List (Option ℕ)) → ArePassed W S count number old → slice_get S number ≡ Some p → IsLeft old.found.items p → mid ≡ with_layer W old.found.items p →
    Finds W S mid new.found.items → Counts W [] 0 new.found.items new.least.items new.waits.items → new.free.items ≡ [] → AreFree new.found.items new.waits.items (length new.found.items) [] → ArePassed W S count (number + 1) new
passed_taken W S count number p old new mid passed there left taken finds counts empty free =
    let F = old.found.items in
    let first = finds_spare W S F F mid old.least.items old.waits.items p number layers.none passed.counts passed.free left there passed.passed taken in
    let all = finds_on W S F mid first finds in
    let here : IsLeft new.found.items p → ⊥ = λ h.
    (left_old F p (least_layer F p W) p (subst (λ (G : List (Option ℕ)). IsLeft G p) taken (finds_left W S mid p finds h))).0 refl in record {
      counts = counts;
      none = empty;
      free = free;
      finds = finds_on W S (replicate count None) F passed.finds all;
      passed = passed_more W S number p F new.found.items there passed.passed all here;
    }

-- the numbers from one on, each at its place
range_at : (a n i : ℕ) → i < n → slice_get (range_with_len a n) i ≡ Some (a + i)
range_at a zero i l = absurd (omega arith)
range_at a (suc n) zero l = let e : a ≡ a + 0 = omega arith in ap Some e
range_at a (suc n) (suc i) l = let e : a + 1 + i ≡ a + suc i = omega arith in range_at (a + 1) n i (omega arith) ∙ ap Some e

-- where all spare places are passed, none is left
pub all_passed : (d : Diagram) (number : ℕ) (work : Work) → ArePassed (ways_of d) (spares_of d) (length d.places.items) number work → length (spares_of d) ≤ number → (q : ℕ) → IsLeft work.found.items q → ⊥
all_passed d number work passed far q left =
    let n = length d.places.items in
    let bs = map (λ (b : DrawnBuffer). b.place - 1) d.buffers.items in
    let count = passed_length (ways_of d) (spares_of d) n number work passed in
    let within = slice_get_within work.found.items q None left in
    let e : 0 + q ≡ q = omega arith in
    let at : slice_get (spares_of d) (length bs + q) ≡ Some q = get_right bs (range_with_len 0 n) q ∙ range_at 0 n q (omega arith) ∙ ap Some e in
    let early = slice_get_within (spares_of d) (length bs + q) q at in passed.passed (length bs + q) q (omega arith) at left

-- the chain goes back
pub passing_less : (W : List Way) (last before : List ℕ) (p number next layer : ℕ) (w : Way) (work : Work) → AreChained W (length W) last before → p < length last → 0 < number → slice_get W (number - 1) ≡ Some w →
    next ≡ get_or before (number - 1) 0 → IsPassing W p number layer work → next < number
passing_less W last before p number next layer w work chained there some at is passing =
    let from : w.from ≡ p = passing.from w some at in
    let within = passing.within in
    let link = chained.before (number - 1) w (omega arith) at (omega arith) in
    let h = link.within in omega arith

-- the same, as a drawing says
pub passed_all : (d : Diagram) (W : List Way) (S : List ℕ) (count : ℕ) (work : Work) → W ≡ ways_of d → S ≡ spares_of d → count ≡ length d.places.items → ArePassed W S count (length S) work →
    ArePassed (ways_of d) (spares_of d) (length d.places.items) (length (spares_of d)) work
passed_all d W S count work a b n passed =
    subst (λ (V : List Way). ArePassed V (spares_of d) (length d.places.items) (length (spares_of d)) work) a
    (subst (λ (T : List ℕ). ArePassed W T (length d.places.items) (length T) work) b (subst (λ (m : ℕ). ArePassed W S m (length S) work) n passed))
