-- A graph that is drawn rule by rule says what the rules say.
use Rattle.std.proofs.Common.{ℕ, zero, suc, ◌≡◌, ◌<◌, ◌++◌, ◌∷◌, [], List, length, Bool as Truth, true, false, arith, ap, sym, ◌∙◌, subst, set, replicate, inl, inr, length-set, get_or-set_same, get_or-set_other}
use Rattle.std.specs.Prelude.{◌⊎◌}
use Rattle.std.specs.List.{Contains}
use Rattle.std.proofs.lemmas.Bool.{cases_eq}
use Rattle.std.proofs.lemmas.List.{length-replicate}
use Rattle.std.proofs.lemmas.List.Elements.{Contains-append_left, Contains-push, Contains-push_cases}
use Rattle.lucy_host.specs.declared.data_type.DataType.{DataType}
use Rattle.lucy_host.specs.declared.data_type.DataType.TheVariants.{Int, Bool}
use Rattle.lucy_types.specs.declared.graph.Graph.{Graph}
use Rattle.lucy_types.specs.declared.rule.Rule.{Rule}
use Rattle.lucy_types.specs.declared.rule.Rule.TheVariants.{Is, Alike}
use Rattle.lucy_types.specs.Clash.{Touch}
use Rattle.lucy_types.specs.Graphs.{HasTrue, beside, added, joined, GraphRule, room, IsRuleBelow, AllFit, IsEven, IsDrawn, DrawsRule, IsGraph}
use Rattle.lucy_types.proofs.TypingLaws.{touch_weaker}

true_new : (xs : List Truth) (p : ℕ) → p < length xs → HasTrue (set xs p true) p
true_new xs p l = get_or-set_same xs p true false l

true_kept : (xs : List Truth) (p q : ℕ) → p < length xs → HasTrue xs q → HasTrue (set xs p true) q
true_kept xs p q l h =
    elim (cases_eq q p) [
      | inl e ↦ subst (HasTrue (set xs p true)) (sym e) (true_new xs p l)
      | inr n ↦ get_or-set_other xs p q true false n ∙ h
    ]

true_only : (xs : List Truth) (p q : ℕ) → HasTrue (set xs p true) q → (p ≡ q) ⊎ HasTrue xs q
true_only xs p q h =
    elim (cases_eq q p) [
      | inl e ↦ inl (sym e)
      | inr n ↦ inr (sym (get_or-set_other xs p q true false n) ∙ h)
    ]

added_new : (near : List (List ℕ)) (p q : ℕ) → p < length near → Contains (beside (added near p q) p) q
added_new near p q l = subst (λ ps. Contains ps q) (sym (get_or-set_same near p (beside near p ++ q ∷ []) [] l)) (Contains-push (beside near p) q)

added_kept : (near : List (List ℕ)) (p q x y : ℕ) → p < length near → Contains (beside near x) y → Contains (beside (added near p q) x) y
added_kept near p q x y l h =
    elim (cases_eq x p) [
      | inl e ↦ subst (λ ps. Contains ps y) (sym (ap (beside (added near p q)) e ∙ get_or-set_same near p (beside near p ++ q ∷ []) [] l))
          (Contains-append_left (beside near p) (q ∷ []) y (subst (λ z. Contains (beside near z) y) e h))
      | inr n ↦ subst (λ ps. Contains ps y) (sym (get_or-set_other near p x (beside near p ++ q ∷ []) [] n)) h
    ]

added_only : (near : List (List ℕ)) (p q x y : ℕ) → p < length near → Contains (beside (added near p q) x) y → Contains (beside near x) y ⊎ ((x ≡ p) × (y ≡ q))
added_only near p q x y l h =
    elim (cases_eq x p) [
      | inl e ↦
          let g = subst (λ ps. Contains ps y) (ap (beside (added near p q)) e ∙ get_or-set_same near p (beside near p ++ q ∷ []) [] l) h in
          elim (Contains-push_cases (beside near p) q y g) [
            | inl u ↦ inl (subst (λ z. Contains (beside near z) y) (sym e) u)
            | inr u ↦ inr (e, sym u)
          ]
      | inr n ↦ inl (subst (λ ps. Contains ps y) (get_or-set_other near p x (beside near p ++ q ∷ []) [] n) h)
    ]

length_added : (near : List (List ℕ)) (p q : ℕ) → length (added near p q) ≡ length near
length_added near p q = length-set near p (beside near p ++ q ∷ [])

joined_kept : (near : List (List ℕ)) (p q x y : ℕ) → p < length near → q < length near → Contains (beside near x) y → Contains (beside (joined near p q) x) y
joined_kept near p q x y l m h =
    let e = length_added near p q in
    added_kept (added near p q) q p x y (omega arith) (added_kept near p q x y l h)

joined_new : (near : List (List ℕ)) (p q : ℕ) → p < length near → q < length near → Contains (beside (joined near p q) p) q × Contains (beside (joined near p q) q) p
joined_new near p q l m =
    let e = length_added near p q in
    (added_kept (added near p q) q p p q (omega arith) (added_new near p q l), added_new (added near p q) q p (omega arith))

joined_only : (near : List (List ℕ)) (p q x y : ℕ) → p < length near → q < length near → Contains (beside (joined near p q) x) y
    → Contains (beside near x) y ⊎ (((x ≡ p) × (y ≡ q)) ⊎ ((x ≡ q) × (y ≡ p)))
joined_only near p q x y l m h =
    let e = length_added near p q in
    elim (added_only (added near p q) q p x y (omega arith) h) [
      | inl u ↦ elim (added_only near p q x y l u) [ inl v ↦ inl v | inr v ↦ inr (inl v) ]
      | inr u ↦ inr (inr u)
    ]

-- rules that a list has it has with one more
kept : (rules : List Rule) (rule : Rule) (r : Rule) → Contains rules r → Contains (rules ++ rule ∷ []) r
kept rules rule r c = Contains-append_left rules (rule ∷ []) r c

touch_kept : (rules : List Rule) (rule : Rule) (p q : ℕ) → Touch (Contains rules) p q → Touch (Contains (rules ++ rule ∷ [])) p q
touch_kept rules rule p q t = touch_weaker (Contains rules) (Contains (rules ++ rule ∷ [])) (kept rules rule) p q t

-- a graph without rules says nothing
no_true : (n p : ℕ) → HasTrue (replicate n false) p → ⊥
no_true zero p h = cc
no_true (suc n) zero h = cc
no_true (suc n) (suc p) h = no_true n p h

none_beside : (n p q : ℕ) → Contains (beside (replicate n []) p) q → ⊥
none_beside zero p q h = omega (arith, h.1)
none_beside (suc n) zero q h = omega (arith, h.1)
none_beside (suc n) (suc p) q h = none_beside n p q h

pub bare_drawn : (g : Graph) (n : ℕ) → g.ints.items ≡ replicate n false → g.bools.items ≡ replicate n false → g.near.items ≡ replicate n [] → (room g ≡ n) × IsEven g × IsDrawn [] g
bare_drawn g n i b r =
    let all = ap length r ∙ length-replicate n [] in (
      all,
      (ap length i ∙ length-replicate n false ∙ sym all, ap length b ∙ length-replicate n false ∙ sym all),
      record {
        says_is = λ p t h. absurd (none p t h);
        says_alike = λ p q h. absurd (alike p q h);
        all = λ rule c. absurd (let l : c.0 < length {A = Rule} [] = c.1 in omega arith);
        turned = λ p q h. absurd (alike p q h);
      },
    )
  where
    none : (p : ℕ) (t : DataType) → GraphRule g (Is p t) → ⊥
    none p Int h = no_true n p (subst (λ xs. HasTrue xs p) i h)
    none p Bool h = no_true n p (subst (λ xs. HasTrue xs p) b h)

    alike : (p q : ℕ) → GraphRule g (Alike p q) → ⊥
    alike p q h = none_beside n p q (subst (λ xs. Contains (beside xs p) q) r h)

-- with one more true
drawn_int : (rules : List Rule) (old new : Graph) (p : ℕ) → p < length old.ints.items → IsDrawn rules old → DrawsRule (Is p Int) old new → IsDrawn (rules ++ Is p Int ∷ []) new
drawn_int rules old new p l d w = record {
  says_is = λ q t. is q t;
  says_alike = λ q r h. touch_kept rules (Is p Int) q r (d.says_alike q r (near q r h));
  all = λ rule c. elim (Contains-push_cases rules (Is p Int) rule c) [
    | inl u ↦ up rule (d.all rule u)
    | inr u ↦ subst (GraphRule new) u (subst (λ xs. HasTrue xs p) (sym w.0) (true_new old.ints.items p l))
  ];
  turned = λ q r h. subst (λ ns. Contains (beside ns r) q) (sym w.2) (d.turned q r (near q r h));
}
  where
    near : (q r : ℕ) → GraphRule new (Alike q r) → GraphRule old (Alike q r)
    near q r h = subst (λ ns. Contains (beside ns q) r) w.2 h

    is : (q : ℕ) (t : DataType) → GraphRule new (Is q t) → Contains (rules ++ Is p Int ∷ []) (Is q t)
    is q Int h = elim (true_only old.ints.items p q (subst (λ xs. HasTrue xs q) w.0 h)) [
      | inl e ↦ subst (λ z. Contains (rules ++ Is p Int ∷ []) (Is z Int)) e (Contains-push rules (Is p Int))
      | inr u ↦ kept rules (Is p Int) (Is q Int) (d.says_is q Int u)
    ]
    is q Bool h = kept rules (Is p Int) (Is q Bool) (d.says_is q Bool (subst (λ xs. HasTrue xs q) w.1 h))

    up : (rule : Rule) → GraphRule old rule → GraphRule new rule
    up (Is q Int) h = subst (λ xs. HasTrue xs q) (sym w.0) (true_kept old.ints.items p q l h)
    up (Is q Bool) h = subst (λ xs. HasTrue xs q) (sym w.1) h
    up (Alike q r) h = subst (λ ns. Contains (beside ns q) r) (sym w.2) h

drawn_bool : (rules : List Rule) (old new : Graph) (p : ℕ) → p < length old.bools.items → IsDrawn rules old → DrawsRule (Is p Bool) old new → IsDrawn (rules ++ Is p Bool ∷ []) new
drawn_bool rules old new p l d w = record {
  says_is = λ q t. is q t;
  says_alike = λ q r h. touch_kept rules (Is p Bool) q r (d.says_alike q r (near q r h));
  all = λ rule c. elim (Contains-push_cases rules (Is p Bool) rule c) [
    | inl u ↦ up rule (d.all rule u)
    | inr u ↦ subst (GraphRule new) u (subst (λ xs. HasTrue xs p) (sym w.1) (true_new old.bools.items p l))
  ];
  turned = λ q r h. subst (λ ns. Contains (beside ns r) q) (sym w.2) (d.turned q r (near q r h));
}
  where
    near : (q r : ℕ) → GraphRule new (Alike q r) → GraphRule old (Alike q r)
    near q r h = subst (λ ns. Contains (beside ns q) r) w.2 h

    is : (q : ℕ) (t : DataType) → GraphRule new (Is q t) → Contains (rules ++ Is p Bool ∷ []) (Is q t)
    is q Int h = kept rules (Is p Bool) (Is q Int) (d.says_is q Int (subst (λ xs. HasTrue xs q) w.0 h))
    is q Bool h = elim (true_only old.bools.items p q (subst (λ xs. HasTrue xs q) w.1 h)) [
      | inl e ↦ subst (λ z. Contains (rules ++ Is p Bool ∷ []) (Is z Bool)) e (Contains-push rules (Is p Bool))
      | inr u ↦ kept rules (Is p Bool) (Is q Bool) (d.says_is q Bool u)
    ]

    up : (rule : Rule) → GraphRule old rule → GraphRule new rule
    up (Is q Int) h = subst (λ xs. HasTrue xs q) (sym w.0) h
    up (Is q Bool) h = subst (λ xs. HasTrue xs q) (sym w.1) (true_kept old.bools.items p q l h)
    up (Alike q r) h = subst (λ ns. Contains (beside ns q) r) (sym w.2) h

drawn_alike : (rules : List Rule) (old new : Graph) (p q : ℕ) → p < length old.near.items → q < length old.near.items → IsDrawn rules old → DrawsRule (Alike p q) old new
    → IsDrawn (rules ++ Alike p q ∷ []) new
drawn_alike rules old new p q l m d w = record {
  says_is = λ x t. is x t;
  says_alike = λ x y h. elim (joined_only old.near.items p q x y l m (near x y h)) [
    | inl u ↦ touch_kept rules (Alike p q) x y (d.says_alike x y u)
    | inr (inl u) ↦ inl (subst (λ a. Contains more (Alike a y)) (sym u.0) (subst (λ b. Contains more (Alike p b)) (sym u.1) last))
    | inr (inr u) ↦ inr (subst (λ a. Contains more (Alike y a)) (sym u.0) (subst (λ b. Contains more (Alike b q)) (sym u.1) last))
  ];
  all = λ rule c. elim (Contains-push_cases rules (Alike p q) rule c) [
    | inl u ↦ up rule (d.all rule u)
    | inr u ↦ subst (GraphRule new) u (subst (λ ns. Contains (beside ns p) q) (sym w.2) (joined_new old.near.items p q l m).0)
  ];
  turned = λ x y h. elim (joined_only old.near.items p q x y l m (near x y h)) [
    | inl u ↦ up (Alike y x) (d.turned x y u)
    | inr (inl u) ↦ subst (λ a. GraphRule new (Alike y a)) (sym u.0) (subst (λ b. GraphRule new (Alike b p)) (sym u.1) (subst (λ ns. Contains (beside ns q) p) (sym w.2) (joined_new old.near.items p q l m).1))
    | inr (inr u) ↦ subst (λ a. GraphRule new (Alike y a)) (sym u.0) (subst (λ b. GraphRule new (Alike b q)) (sym u.1) (subst (λ ns. Contains (beside ns p) q) (sym w.2) (joined_new old.near.items p q l m).0))
  ];
}
  where
    more : List Rule
    more = rules ++ Alike p q ∷ []

    last : Contains more (Alike p q)
    last = Contains-push rules (Alike p q)

    near : (x y : ℕ) → GraphRule new (Alike x y) → Contains (beside (joined old.near.items p q) x) y
    near x y h = subst (λ ns. Contains (beside ns x) y) w.2 h

    is : (x : ℕ) (t : DataType) → GraphRule new (Is x t) → Contains more (Is x t)
    is x Int h = kept rules (Alike p q) (Is x Int) (d.says_is x Int (subst (λ xs. HasTrue xs x) w.0 h))
    is x Bool h = kept rules (Alike p q) (Is x Bool) (d.says_is x Bool (subst (λ xs. HasTrue xs x) w.1 h))

    up : (rule : Rule) → GraphRule old rule → GraphRule new rule
    up (Is x Int) h = subst (λ xs. HasTrue xs x) (sym w.0) h
    up (Is x Bool) h = subst (λ xs. HasTrue xs x) (sym w.1) h
    up (Alike x y) h = subst (λ ns. Contains (beside ns x) y) (sym w.2) (joined_kept old.near.items p q x y l m h)

-- one rule more is drawn
pub drawn_more : (rules : List Rule) (rule : Rule) (old new : Graph) → IsEven old → IsRuleBelow (room old) rule → IsDrawn rules old → DrawsRule rule old new → IsDrawn (rules ++ rule ∷ []) new
drawn_more rules (Is p Int) old new v f d w = drawn_int rules old new p (let e : length old.ints.items ≡ length old.near.items = v.0 in let l : p < length old.near.items = f.1 in omega arith) d w
drawn_more rules (Is p Bool) old new v f d w = drawn_bool rules old new p (let e : length old.bools.items ≡ length old.near.items = v.1 in let l : p < length old.near.items = f.1 in omega arith) d w
drawn_more rules (Alike p q) old new v f d w = drawn_alike rules old new p q f.0.1 f.1.1 d w

pub room_kept : (rule : Rule) (old new : Graph) → DrawsRule rule old new → room new ≡ room old
room_kept (Is p Int) old new w = ap length w.2
room_kept (Is p Bool) old new w = ap length w.2
room_kept (Alike p q) old new w = ap length w.2 ∙ length_added (added old.near.items p q) q p ∙ length_added old.near.items p q

pub even_kept : (rule : Rule) (old new : Graph) → IsEven old → DrawsRule rule old new → IsEven new
even_kept (Is p Int) old new v w = (ap length w.0 ∙ length-set old.ints.items p true ∙ v.0 ∙ sym (ap length w.2), ap length w.1 ∙ v.1 ∙ sym (ap length w.2))
even_kept (Is p Bool) old new v w = (ap length w.0 ∙ v.0 ∙ sym (ap length w.2), ap length w.1 ∙ length-set old.bools.items p true ∙ v.1 ∙ sym (ap length w.2))
even_kept (Alike p q) old new v w =
    let e = room_kept (Alike p q) old new w in (ap length w.0 ∙ v.0 ∙ sym e, ap length w.1 ∙ v.1 ∙ sym e)

-- a graph of rules that fit
pub drawn_graph : (rules : List Rule) (g : Graph) → IsEven g → AllFit (room g) rules → IsDrawn rules g → IsGraph g
drawn_graph rules g v a d = record {
  ints = v.0;
  bools = v.1;
  fits = λ rule. fit rule;
  turned = d.turned;
}
  where
    fit : (rule : Rule) → GraphRule g rule → IsRuleBelow (room g) rule
    fit (Is p t) h = a (Is p t) (d.says_is p t h)
    fit (Alike p q) h = elim (d.says_alike p q h) [
      | inl u ↦ a (Alike p q) u
      | inr u ↦ let f = a (Alike q p) u in (f.1, f.0)
    ]
