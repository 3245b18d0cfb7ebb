-- Clocks that are one stream's.
use Rattle.std.proofs.Common.{below_more, append_assoc, drop-cons, set, ◌^◌, ◌≡◌, ◌==◌, ℕ, ◌+◌, ◌<◌, ◌≤◌, List, [], ◌∷◌, ◌++◌, Some, Bool, false, cond, length, drop, get_or, replicate, suc, sym, ap, ◌∙◌, subst, refl, inl, inr, arith, eq-eqb}
use Rattle.std.specs.Prelude.{slice_get}
use Rattle.std.specs.List.{range_with_len, sum_by}
use Rattle.std.proofs.lemmas.Bool.{cases_eq, cases_lt}
use Rattle.std.proofs.lemmas.Bool.Decides.{nat_tests}
use Rattle.std.proofs.lemmas.List.{length-append, length-replicate, get_or-set_same, get_or-set_other, drop_all, append-nil}
use Rattle.std.proofs.lemmas.List.FromFn.{length-range_with_len, get_or-range_with_len}
use Rattle.std.proofs.lemmas.List.Sums.{sum_by-cons, get_or-le-sum_by}
use Rattle.std.proofs.lemmas.Option.{slice_get_within}
use Rattle.lucy_word.specs.Bits.{Bits}
use Rattle.lucy_word.specs.Always.{always}
use Rattle.lucy_word.proofs.Lists.{range_more}
use Rattle.lucy_need.specs.Meeting.{alone}
use Rattle.lucy_need.specs.declared.need.Term.{Term}
use Rattle.lucy_need.specs.declared.need.Need.{Need}
use Rattle.lucy_need.specs.declared.need.Need.TheVariants.{Equal, Adapt}
use Rattle.lucy_shape.specs.declared.shape.ClockShape.{ClockShape}
use Rattle.lucy_shape.specs.Fitting.{position_count, variable_count}
use Rattle.lucy_explain.specs.Streams.{Ties, AreTied, IsPath, AreOne, AreStreams, position_streams, variable_streams}
use Rattle.lucy_explain.specs.Joining.{renamed, AreStreamsOf}

one_self : (needs : List Need) (c : ℕ) → AreOne needs c c
one_self needs c = ([], refl)

path-append : (needs : List Need) (c d e : ℕ) (one two : List ℕ) → IsPath needs c one d → IsPath needs d two e → IsPath needs c (one ++ two) e
path-append needs c d e [] two first second = subst (λ (x : ℕ). IsPath needs x two e) (sym first) second
path-append needs c d e (x ∷ one) two first second = (first.0, path-append needs x d e one two first.1 second)

one_trans : (needs : List Need) (c d e : ℕ) → AreOne needs c d → AreOne needs d e → AreOne needs c e
one_trans needs c d e first second = (first.0 ++ second.0, path-append needs c d e first.0 second.0 first.1 second.1)

tie_sym : (need : Need) (c d : ℕ) → Ties need c d → Ties need d c
tie_sym need c d (inl h) = inr h
tie_sym need c d (inr h) = inl h

tied_sym : (needs : List Need) (c d : ℕ) → AreTied needs c d → AreTied needs d c
tied_sym needs c d h = (h.0, h.1, h.2, tie_sym h.1 c d h.3)

one_tied : (needs : List Need) (c d : ℕ) → AreTied needs c d → AreOne needs c d
one_tied needs c d h = (d ∷ [], (h, refl))

path_back : (needs : List Need) (c d : ℕ) (path : List ℕ) → IsPath needs c path d → AreOne needs d c
path_back needs c d [] h = ([], sym h)
path_back needs c d (e ∷ path) h = one_trans needs d e c (path_back needs e d path h.1) (one_tied needs e c (tied_sym needs c e h.0))

one_sym : (needs : List Need) (c d : ℕ) → AreOne needs c d → AreOne needs d c
one_sym needs c d h = path_back needs c d h.0 h.1

-- a need that ties two clocks, both ways round
first_clock : Need → ℕ
first_clock (Equal s t) = s.clock
first_clock (Adapt s t) = s.clock

second_clock : Need → ℕ
second_clock (Equal s t) = t.clock
second_clock (Adapt s t) = t.clock

renamed_old : (old new s : ℕ) → s ≡ old → renamed old new s ≡ new
renamed_old old new s e = ap (λ (b : Bool). cond b new s) (eq-eqb s old e)

no_test : (s old : ℕ) → (s ≡ old → ⊥) → (s == old) ≡ false
no_test s old other = grind (arith, nat_tests)

renamed_other : (old new s : ℕ) → (s ≡ old → ⊥) → renamed old new s ≡ s
renamed_other old new s other = ap (λ (b : Bool). cond b new s) (no_test s old other)

renamed_new : (old new : ℕ) → renamed old new new ≡ new
renamed_new old new = elim (cases_eq new old) [
  | inl same ↦ renamed_old old new new same
  | inr other ↦ renamed_other old new new other
]

same_need : (needs : List Need) (k j : ℕ) (a b : Need) → k ≡ j → slice_get needs k ≡ Some a → slice_get needs j ≡ Some b → a ≡ b
same_need needs k j a b e one two = (cc)

-- a number that is renamed in its place, or stays
pub renamed_here : (old new : ℕ) (now told : List ℕ) (i : ℕ) → told ≡ set now i new → get_or now i 0 ≡ old → (v : ℕ) × (told ≡ set now i v) × (v ≡ renamed old new (get_or now i 0))
renamed_here old new now told i is e = (new, is, sym (renamed_old old new (get_or now i 0) e))

pub renamed_not : (old new : ℕ) (now told : List ℕ) (i : ℕ) → told ≡ set now i (get_or now i 0) → (get_or now i 0 ≡ old → ⊥) → (v : ℕ) × (told ≡ set now i v) × (v ≡ renamed old new (get_or now i 0))
renamed_not old new now told i is other = (get_or now i 0, is, sym (renamed_other old new (get_or now i 0) other))

-- so one after the other
pub rename_next : (old new : ℕ) (start now told : List ℕ) (i v : ℕ) → i < length now → ((k : ℕ) → k < i → get_or now k 0 ≡ renamed old new (get_or start k 0)) → ((k : ℕ) → i ≤ k → get_or now k 0 ≡ get_or start k 0) →
    told ≡ set now i v → v ≡ renamed old new (get_or now i 0) →
    ((k : ℕ) → k < i + 1 → get_or told k 0 ≡ renamed old new (get_or start k 0)) × ((k : ℕ) → i + 1 ≤ k → get_or told k 0 ≡ get_or start k 0)
rename_next old new start now told i v l done rest is e =
    let at : (k : ℕ) → get_or told k 0 ≡ get_or (set now i v) k 0 = λ k. ap (λ (xs : List ℕ). get_or xs k 0) is in
    let other : (k : ℕ) → (k ≡ i → ⊥) → get_or told k 0 ≡ get_or now k 0 = λ k ne. at k ∙ get_or-set_other now i k v 0 ne in (
      below_more (λ (k : ℕ). get_or told k 0 ≡ renamed old new (get_or start k 0)) i
          (λ k b. other k (λ (same : k ≡ i). absurd (omega arith)) ∙ done k b)
          (at i ∙ get_or-set_same now i v 0 l ∙ e ∙ ap (renamed old new) (rest i (omega arith))),
      λ k b. other k (λ (same : k ≡ i). absurd (omega arith)) ∙ rest k (omega arith),
    )

-- what is tied by the needs before one, or by that one
tied_by : (needs : List Need) (clocks upto : ℕ) (need : Need) (streams told : List ℕ) (one two : ℕ) → slice_get needs upto ≡ Some need → need ≡ Equal (alone one) (alone two) →
    ((c d k : ℕ) (n : Need) → c < clocks → d < clocks → k < upto → slice_get needs k ≡ Some n → Ties n c d → get_or told c 0 ≡ get_or told d 0) →
    (one < clocks → two < clocks → get_or told one 0 ≡ get_or told two 0) →
    (c d k : ℕ) (n : Need) → c < clocks → d < clocks → k < upto + 1 → slice_get needs k ≡ Some n → Ties n c d → get_or told c 0 ≡ get_or told d 0
unfolding first_clock second_clock
tied_by needs clocks upto need streams told one two at is before here c d k n lc ld lk got tie = elim (cases_lt k upto) [
  | inl m ↦ before c d k n lc ld m got tie
  | inr m ↦
      let last : k ≡ upto = omega arith in
      let same : n ≡ Equal (alone one) (alone two) = same_need needs k upto n need last got at ∙ is in
      elim tie [
        | inl e ↦
            let f : c ≡ one = ap first_clock (sym e ∙ same) in
            let g : d ≡ two = ap second_clock (sym e ∙ same) in
            let h : get_or told one 0 ≡ get_or told two 0 = here (subst (λ (x : ℕ). x < clocks) f lc) (subst (λ (x : ℕ). x < clocks) g ld) in
            ap (λ (x : ℕ). get_or told x 0) f ∙ h ∙ ap (λ (x : ℕ). get_or told x 0) (sym g)
        | inr e ↦
            let f : d ≡ one = ap first_clock (sym e ∙ same) in
            let g : c ≡ two = ap second_clock (sym e ∙ same) in
            let h : get_or told one 0 ≡ get_or told two 0 = here (subst (λ (x : ℕ). x < clocks) f ld) (subst (λ (x : ℕ). x < clocks) g lc) in
            ap (λ (x : ℕ). get_or told x 0) g ∙ sym h ∙ ap (λ (x : ℕ). get_or told x 0) (sym f)
      ]
]

-- clocks that have one number, or aren't both there
pub join_same : (needs : List Need) (clocks upto : ℕ) (need : Need) (streams : List ℕ) (one two : ℕ) → AreStreamsOf needs clocks upto streams → slice_get needs upto ≡ Some need →
    need ≡ Equal (alone one) (alone two) → (one < length streams → two < length streams → get_or streams one 0 ≡ get_or streams two 0) → AreStreamsOf needs clocks (upto + 1) streams
join_same needs clocks upto need streams one two h at is same = record {
  all = h.all;
  each = h.each;
  tied = tied_by needs clocks upto need streams streams one two at is h.tied (λ l m. same (subst (λ (n : ℕ). one < n) (sym h.all) l) (subst (λ (n : ℕ). two < n) (sym h.all) m));
}

-- clocks whose numbers become one
pub join_more : (needs : List Need) (clocks upto : ℕ) (need : Need) (streams : List ℕ) (one two old new : ℕ) (told : List ℕ) → AreStreamsOf needs clocks upto streams → slice_get needs upto ≡ Some need →
    need ≡ Equal (alone one) (alone two) → one < length streams → two < length streams → old ≡ get_or streams two 0 → new ≡ get_or streams one 0 → length told ≡ length streams →
    ((c : ℕ) → c < length streams → get_or told c 0 ≡ renamed old new (get_or streams c 0)) →
    AreStreamsOf needs clocks (upto + 1) told
join_more needs clocks upto need streams one two old new told h at is l m old_is new_is size there =
    let within : (c : ℕ) → c < clocks → c < length streams = λ c k. subst (λ (n : ℕ). c < n) (sym h.all) k in
    let inside : (c : ℕ) → c < length streams → c < clocks = λ c k. subst (λ (n : ℕ). c < n) h.all k in
    let of_one : AreOne needs one new = subst (λ (x : ℕ). AreOne needs one x) (sym new_is) (h.each one (inside one l)) in
    let of_two : AreOne needs two old = subst (λ (x : ℕ). AreOne needs two x) (sym old_is) (h.each two (inside two m)) in
    let tie : AreTied needs two one = (upto, need, at, inr is) in
    let to_new : AreOne needs old new = one_trans needs old two new (one_sym needs two old of_two) (one_trans needs two one new (one_tied needs two one tie) of_one) in
    record {
      all = size ∙ h.all;
      each = λ c k. elim (cases_eq (get_or streams c 0) old) [
        | inl same ↦
            let e : get_or told c 0 ≡ new = there c (within c k) ∙ renamed_old old new (get_or streams c 0) same in
            let f : AreOne needs c old = subst (λ (x : ℕ). AreOne needs c x) same (h.each c k) in
            subst (λ (x : ℕ). AreOne needs c x) (sym e) (one_trans needs c old new f to_new)
        | inr other ↦
            let e : get_or told c 0 ≡ get_or streams c 0 = there c (within c k) ∙ renamed_other old new (get_or streams c 0) other in
            subst (λ (x : ℕ). AreOne needs c x) (sym e) (h.each c k)
      ];
      tied = tied_by needs clocks upto need streams told one two at is
          (λ c d k n lc ld lk got t. there c (within c lc) ∙ ap (renamed old new) (h.tied c d k n lc ld lk got t) ∙ sym (there d (within d ld)))
          (λ lc ld. there one l ∙ ap (renamed old new) (sym new_is) ∙ renamed_new old new ∙ sym (there two m ∙ renamed_old old new (get_or streams two 0) (sym old_is)));
    }

-- a need that ties no clocks
pub join_none : (needs : List Need) (clocks upto : ℕ) (need : Need) (streams : List ℕ) → AreStreamsOf needs clocks upto streams → slice_get needs upto ≡ Some need → ((c d : ℕ) → Ties need c d → ⊥) →
    AreStreamsOf needs clocks (upto + 1) streams
join_none needs clocks upto need streams h at never = record {
  all = h.all;
  each = h.each;
  tied = λ c d k n lc ld lk got tie. elim (cases_lt k upto) [
    | inl m ↦ h.tied c d k n lc ld m got tie
    | inr m ↦
        let last : k ≡ upto = omega arith in
        absurd (never c d (subst (λ (x : Need). Ties x c d) (same_need needs k upto n need last got at) tie))
  ];
}

-- one number more
pub numbers_more : (n : ℕ) (list told : List ℕ) → list ≡ range_with_len 0 n → told ≡ list ++ n ∷ [] → told ≡ range_with_len 0 (n + 1)
numbers_more n list told before is =
    let e : 0 + n ≡ n = omega arith in
    is ∙ ap (λ (xs : List ℕ). xs ++ n ∷ []) before ∙ ap (λ (x : ℕ). range_with_len 0 n ++ x ∷ []) (sym e) ∙ sym (range_more 0 n)

-- each clock by itself
pub streams_none : (needs : List Need) (clocks : ℕ) (streams : List ℕ) → streams ≡ range_with_len 0 clocks → AreStreamsOf needs clocks 0 streams
streams_none needs clocks streams is = record {
  all = ap length is ∙ length-range_with_len 0 clocks;
  each = λ c l.
      let e : get_or streams c 0 ≡ c = ap (λ (xs : List ℕ). get_or xs c 0) is ∙ get_or-range_with_len 0 clocks c 0 l ∙ (omega arith) in
      subst (λ (x : ℕ). AreOne needs c x) (sym e) (one_self needs c);
  tied = λ c d k n lc ld lk got tie. absurd (omega arith);
}

-- all needs are told
pub streams_all : (needs : List Need) (clocks upto : ℕ) (streams : List ℕ) → AreStreamsOf needs clocks upto streams → length needs ≤ upto → AreStreams needs clocks streams
streams_all needs clocks upto streams h l = record {
  all = h.all;
  each = h.each;
  tied = λ c d lc ld t. let k = slice_get_within needs t.0 t.1 t.2 in h.tied c d t.0 t.1 lc ld (omega arith) t.2 t.3;
}

first_word : Need → Bits
first_word (Equal s t) = s.word
first_word (Adapt s t) = s.word

second_word : Need → Bits
second_word (Equal s t) = t.word
second_word (Adapt s t) = t.word

-- a need between two terms that aren't both alone ties no clocks
pub ties_alone : (s t : Term) (c d : ℕ) → Ties (Equal s t) c d → (s.word ≡ always) × (t.word ≡ always)
unfolding first_word second_word
ties_alone s t c d (inl e) = (ap first_word e, ap second_word e)
ties_alone s t c d (inr e) = (ap first_word e, ap second_word e)

pub ties_never : (s t : Term) (c d : ℕ) → Ties (Adapt s t) c d → ⊥
ties_never s t c d (inl e) = (cc)
ties_never s t c d (inr e) = (cc)

pub position_count_of : (streams : List ℕ) (clock : ℕ) (cs : List ClockShape) → length (position_streams streams clock cs) ≡ sum_by position_count cs
position_count_of streams clock [] = refl
position_count_of streams clock (c ∷ cs) =
    let a = position_count_of streams (clock + 1) cs in
    let b = length-append (replicate (position_count c) (get_or streams clock 0)) (position_streams streams (clock + 1) cs) in
    let e = length-replicate (position_count c) (get_or streams clock 0) in
    let f = sum_by-cons position_count c cs in
    omega arith

pub variables_of : (origin : ℕ) (streams : List ℕ) (clocks : List ClockShape) → length (variable_streams origin streams clocks) ≡ variable_count clocks
variables_of origin streams clocks = let a = position_count_of streams 0 clocks in omega arith

-- the stream of the origin alone
pub variables_none : (origin : ℕ) (streams : List ℕ) (shapes : List ClockShape) (found : List ℕ) → found ≡ replicate 1 origin → found ++ position_streams streams 0 (drop 0 shapes) ≡ variable_streams origin streams shapes
variables_none origin streams shapes found is = ap (λ (xs : List ℕ). xs ++ position_streams streams 0 shapes) is

-- those of one clock more
pub variables_next : (origin : ℕ) (streams : List ℕ) (shapes : List ClockShape) (found told : List ℕ) (clock : ℕ) (none : ClockShape) → clock < length shapes →
    found ++ position_streams streams clock (drop clock shapes) ≡ variable_streams origin streams shapes → told ≡ found ++ replicate (position_count (get_or shapes clock none)) (get_or streams clock 0) →
    told ++ position_streams streams (clock + 1) (drop (clock + 1) shapes) ≡ variable_streams origin streams shapes
variables_next origin streams shapes found told clock none l before is =
    let shape : ClockShape = get_or shapes clock none in
    let rest : List ℕ = position_streams streams (clock + 1) (drop (clock + 1) shapes) in
    let mine : List ℕ = replicate (position_count shape) (get_or streams clock 0) in
    let next : drop clock shapes ≡ shape ∷ drop (clock + 1) shapes =
    drop-cons shapes clock none l ∙ ap (λ (k : ℕ). shape ∷ drop k shapes) (let e : suc clock ≡ clock + 1 = omega arith in e) in
    ap (λ (xs : List ℕ). xs ++ rest) is ∙ append_assoc found mine rest ∙ ap (λ (cs : List ClockShape). found ++ position_streams streams clock cs) (sym next) ∙ before

pub variables_are : (origin : ℕ) (streams : List ℕ) (shapes : List ClockShape) (found : List ℕ) (clock : ℕ) → length shapes ≤ clock →
    found ++ position_streams streams clock (drop clock shapes) ≡ variable_streams origin streams shapes → found ≡ variable_streams origin streams shapes
variables_are origin streams shapes found clock l told =
    sym (append-nil found) ∙ subst (λ (cs : List ClockShape). found ++ position_streams streams clock cs ≡ variable_streams origin streams shapes) (drop_all clock shapes l) told

-- a clock has no more positions than there are variables
pub positions_few : (shapes : List ClockShape) (clock count : ℕ) (shape : ClockShape) → clock < length shapes → count ≡ variable_count shapes → count < 2 ^ 32 → position_count (get_or shapes clock shape) < 2 ^ 32
positions_few shapes clock count shape l is fits = omega (arith, get_or-le-sum_by position_count shapes clock shape l)

pub index_within : (k n i : ℕ) → k < n → n ≤ i → k < i
index_within k n i l m = omega arith

-- the streams of all variables
pub variables_all : (origin : ℕ) (streams : List ℕ) (shapes : List ClockShape) (found : List ℕ) (clock count : ℕ) → length shapes ≤ clock →
    found ++ position_streams streams clock (drop clock shapes) ≡ variable_streams origin streams shapes → count ≡ variable_count shapes → length found ≡ count
variables_all origin streams shapes found clock count l told is = ap length (variables_are origin streams shapes found clock l told) ∙ variables_of origin streams shapes ∙ sym is
