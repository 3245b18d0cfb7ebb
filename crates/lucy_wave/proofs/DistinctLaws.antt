-- No two variables of a dump have one name.
use Rattle.std.proofs.Common.{ℕ, suc, zero, ◌+◌, ◌<◌, ◌≤◌, ◌^◌, ◌≡◌, ◌≢◌, ◌⊎◌, Bool, true, false, ◌||◌, List, [], ◌∷◌, ◌++◌, Option, Some, None, length, map, ap, sym, refl, ◌∙◌, subst, inl, inr, append_assoc, arith}
use Rattle.std.specs.Prelude.{ℤ, slice_get, nat_eq, nat_le, codes, if◌then◌else◌}
use Rattle.std.specs.List.{AllByRecursion}
use Rattle.std.specs.Option.{unwrap_or, option_and_then}
use Rattle.std.specs.Fmt.{decimal}
use Rattle.std.specs.Str.Parse.{AllDigits}
use Rattle.std.proofs.lemmas.Bool.{cases_eq, cases_lt, leb-false, eq-eqb}
use Rattle.std.proofs.lemmas.Fmt.{decimal_injective, decimal_is_IsNumeral}
use Rattle.std.proofs.lemmas.Option.{same_Some}
use Rattle.lucy_word.specs.Bits.{Bits}
use Rattle.lucy_word.proofs.Lists.{all_at, all_join, all_weaker}
use Rattle.lucy_host.proofs.Elements.{get_there}
use Rattle.lucy_tree.specs.declared.span.Name.{Name}
use Rattle.lucy_place.specs.declared.entry.PlaceEntry.{PlaceEntry}
use Rattle.lucy_place.specs.declared.entry.PlaceKind.{PlaceKind}
use Rattle.lucy_place.specs.declared.entry.PlaceKind.TheVariants as kind
use Rattle.lucy_place.specs.declared.placed.PlacedNode.{PlacedNode}
use Rattle.lucy_place.specs.Proper.{IsNamed, AreNamed, AreDistinct as NamesApart, IsProperNode, IsProperKind, IsLabelled}
use Rattle.lucy_types.specs.declared.ty.Ty.{Ty}
use Rattle.lucy_need.specs.Meeting.{Assignment, assigned}
use Rattle.lucy_program.specs.Names.{place_name}
use Rattle.lucy_program.specs.Scheduled.{main_output}
use Rattle.lucy_program.specs.Report.{first_operand}
use Rattle.lucy_wave.specs.Names.{there_name, buffer_name}
use Rattle.lucy_wave.specs.Dumps.{Variable}
use Rattle.lucy_wave.specs.Laws.{AreDistinct}
use Rattle.lucy_wave.specs.Waves.{there, waits, stream, results, bytes_of, written_name, is_among, inputs, is_outer, inner_place, inner_places, inner_of, there_bits, with_items, inner, buffers, variables}
use Rattle.lucy_wave.proofs.ReadLaws.{Free, either, cut_once}
use Rattle.lucy_wave.proofs.BackLaws.{IsPlain, plain_free, lit_free}
use Rattle.lucy_wave.proofs.NameLaws.{named_at}
use Rattle.lucy_wave.proofs.VariableLaws.{inner_named}

-- numbers of which none stands twice
abbrev pub IsUnlike : ℕ → List ℕ → Type 0
IsUnlike p ps = AllByRecursion (λ q. p ≢ q) ps

abbrev pub AreUnlike : List ℕ → Type 0
AreUnlike [] = Unit {0}
AreUnlike (p ∷ ps) = IsUnlike p ps × AreUnlike ps

-- variables of which none has the name of another
abbrev IsApart : Variable → List Variable → Type 0
IsApart v vs = AllByRecursion (λ (u : Variable). v.name ≢ u.name) vs

abbrev AreApart : List Variable → Type 0
AreApart [] = Unit {0}
AreApart (v ∷ vs) = IsApart v vs × AreApart vs

-- a name has no byte that a name doesn't have: it is neither that of a bit nor that of a buffer
plain_bit : (s t : List ℕ) → IsPlain s → s ≡ there_name t → ⊥
plain_bit s t plain e =
    let free = subst (Free 36) e (plain_free 36 s refl plain) in
    no_dollar t (codes "there") free
  where
    no_dollar : (t rest : List ℕ) → Free 36 (t ++ 36 ∷ rest) → ⊥
    no_dollar [] rest free = free.0 refl
    no_dollar (x ∷ t) rest free = no_dollar t rest free.1

plain_buffer : (s : List ℕ) (k : ℕ) → IsPlain s → s ≡ buffer_name k → ⊥
plain_buffer s k plain e = let free = subst (Free 36) e (plain_free 36 s refl plain) in free.1.1.1.1.1.1.0 refl

bit_once : (s t : List ℕ) → IsPlain s → IsPlain t → there_name s ≡ there_name t → s ≡ t
bit_once s t plain other e = (cut_once 36 s t (codes "there") (codes "there") (plain_free 36 s refl plain) (plain_free 36 t refl other) e).0

no_letter : (ds : List ℕ) → AllDigits 10 ds → codes "there" ≡ ds → ⊥
no_letter ds all e = let low = (subst (AllDigits 10) (sym e) all).0 in omega arith

bit_buffer : (s : List ℕ) (k : ℕ) → k < 2 ^ 64 → IsPlain s → there_name s ≡ buffer_name k → ⊥
bit_buffer s k low plain e =
    let cut = cut_once 36 s (codes "buffer") (codes "there") (decimal k) (plain_free 36 s refl plain) (lit_free 36 (codes "buffer") refl) e in
    no_letter (decimal k) (decimal_is_IsNumeral k low).0.1 cut.1

buffer_once : (j k : ℕ) → j < 2 ^ 64 → k < 2 ^ 64 → buffer_name j ≡ buffer_name k → j ≡ k
buffer_once j k l h e = decimal_injective j k l h (cut_once 36 (codes "buffer") (codes "buffer") (decimal j) (decimal k) (lit_free 36 (codes "buffer") refl) (lit_free 36 (codes "buffer") refl) e).1

apart_join : (xs ys : List Variable) → AreApart xs → AreApart ys → AllByRecursion (λ v. IsApart v ys) xs → AreApart (xs ++ ys)
apart_join [] ys own more between = more
apart_join (x ∷ xs) ys own more between = (all_join (λ (u : Variable). x.name ≢ u.name) xs ys own.0 between.0, apart_join xs ys own.1 more between.1)

unlike_join : (xs ys : List ℕ) → AreUnlike xs → AreUnlike ys → AllByRecursion (λ x. IsUnlike x ys) xs → AreUnlike (xs ++ ys)
unlike_join [] ys own more between = more
unlike_join (x ∷ xs) ys own more between = (all_join (λ q. x ≢ q) xs ys own.0 between.0, unlike_join xs ys own.1 more between.1)

-- by their places in the list
apart_at : (vs : List Variable) → AreApart vs → (i j : ℕ) (v u : Variable) → i < j → slice_get vs i ≡ Some v → slice_get vs j ≡ Some u → v.name ≡ u.name → ⊥
apart_at [] apart i j v u l e f same = cc
apart_at (x ∷ vs) apart zero zero v u l e f same = omega arith
apart_at (x ∷ vs) apart zero (suc j) v u l e f same =
    let own : x ≡ v = same_Some x v e in
    all_at (λ (y : Variable). x.name ≢ y.name) vs j u apart.0 f (ap (λ (y : Variable). y.name) own ∙ same)
apart_at (x ∷ vs) apart (suc i) zero v u l e f same = omega arith
apart_at (x ∷ vs) apart (suc i) (suc j) v u l e f same = apart_at vs apart.1 i j v u (omega arith) e f same

distinct_of : (vs : List Variable) → AreApart vs → AreDistinct vs
distinct_of vs apart i j v u e f same = elim (cases_lt i j) [
  | inl low ↦ absurd (apart_at vs apart i j v u low e f same)
  | inr high ↦ elim (cases_eq i j) [
    | inl is ↦ is
    | inr other ↦ absurd (apart_at vs apart j i u v (omega (arith, high, other)) f e (sym same))
  ]
]

module _ (n : PlacedNode) (plain : (place : ℕ) → IsPlain (written_name n place)) where
  -- a variable of a place's stream
  abbrev pub IsOf : ℕ → Variable → Type 0
  IsOf place v = (v.name ≡ there_name (written_name n place)) ⊎ (v.name ≡ written_name n place)

  abbrev IsOther : ℕ → ℕ → Type 0
  IsOther p q = written_name n p ≡ written_name n q → ⊥

  abbrev AreOther : List ℕ → Type 0
  AreOther [] = Unit {0}
  AreOther (p ∷ ps) = AllByRecursion (IsOther p) ps × AreOther ps

  -- of places with names of their own
  of_apart : (p q : ℕ) (v u : Variable) → IsOther p q → IsOf p v → IsOf q u → v.name ≢ u.name
  of_apart p q v u other (inl a) (inl b) e = other (bit_once (written_name n p) (written_name n q) (plain p) (plain q) (sym a ∙ e ∙ b))
  of_apart p q v u other (inl a) (inr b) e = plain_bit (written_name n q) (written_name n p) (plain q) (sym b ∙ sym e ∙ a)
  of_apart p q v u other (inr a) (inl b) e = plain_bit (written_name n p) (written_name n q) (plain p) (sym a ∙ e ∙ b)
  of_apart p q v u other (inr a) (inr b) e = other (sym a ∙ e ∙ b)

  of_buffer : (p k : ℕ) (v : Variable) → k < 2 ^ 64 → IsOf p v → v.name ≢ buffer_name k
  of_buffer p k v low (inl a) e = bit_buffer (written_name n p) k low (plain p) (sym a ∙ e)
  of_buffer p k v low (inr a) e = plain_buffer (written_name n p) k (plain p) (sym a ∙ e)

  -- variables of the streams of places, in order: of each some
  abbrev pub Shows : List ℕ → List Variable → Type 0
  Shows [] vs = vs ≡ []
  Shows (p ∷ ps) vs = (own : List Variable) × (rest : List Variable) × (vs ≡ own ++ rest) × AreApart own × AllByRecursion (IsOf p) own × Shows ps rest

  shows_none : (ps : List ℕ) → Shows ps []
  shows_none [] = refl
  shows_none (p ∷ ps) = ([], [], refl, tt, tt, shows_none ps)

  shows_append : (ps qs : List ℕ) (xs ys : List Variable) → Shows ps xs → Shows qs ys → Shows (ps ++ qs) (xs ++ ys)
  shows_append [] qs xs ys e more = subst (λ zs. Shows qs (zs ++ ys)) (sym e) more
  shows_append (p ∷ ps) qs xs ys (own, rest, e, apart, are, left) more =
      (own, rest ++ ys, ap (λ zs. zs ++ ys) e ∙ append_assoc own rest ys, apart, are, shows_append ps qs rest ys left more)

  -- a variable that is apart from those of all places
  apart_from : (v : Variable) (ps : List ℕ) (vs : List Variable) → AllByRecursion (λ q. (u : Variable) → IsOf q u → v.name ≢ u.name) ps → Shows ps vs → IsApart v vs
  apart_from v [] vs all e = subst (IsApart v) (sym e) tt
  apart_from v (p ∷ ps) vs all (own, rest, e, apart, are, left) =
      subst (IsApart v) (sym e) (all_join (λ (u : Variable). v.name ≢ u.name) own rest (all_weaker (IsOf p) (λ (u : Variable). v.name ≢ u.name) own all.0 are) (apart_from v ps rest all.1 left))

  shows_apart : (ps : List ℕ) (vs : List Variable) → AreOther ps → Shows ps vs → AreApart vs
  shows_apart [] vs other e = subst AreApart (sym e) tt
  shows_apart (p ∷ ps) vs other (own, rest, e, apart, are, left) =
      subst AreApart (sym e) (apart_join own rest apart (shows_apart ps rest other.1 left)
      (all_weaker (IsOf p) (λ v. IsApart v rest) own
      (λ v is. apart_from v ps rest (all_weaker (IsOther p) (λ q. (u : Variable) → IsOf q u → v.name ≢ u.name) ps (λ q o u of. of_apart p q v u o is of) other.0) left) are))

  -- those of buffers are apart from them
  buffers_from : (v : Variable) (w : Assignment) (number : ℕ) (places : List ℕ) → ((k : ℕ) → number ≤ k → k < number + length places → v.name ≢ buffer_name k) → IsApart v (buffers n w number places)
  buffers_from v w number [] other = tt
  buffers_from v w number (p ∷ places) other = (other number (omega arith) (omega arith), buffers_from v w (number + 1) places (λ k l h. other k (omega arith) (omega arith)))

  buffers_apart : (w : Assignment) (number : ℕ) (places : List ℕ) → number + length places ≤ 2 ^ 64 → AreApart (buffers n w number places)
  buffers_apart w number [] few = tt
  buffers_apart w number (p ∷ places) few = (
    buffers_from (waits number (w (unwrap_or (first_operand n p) 0)) (w p)) w (number + 1) places (λ k l h e. let same = buffer_once number k (omega arith) (omega arith) e in omega arith),
    buffers_apart w (number + 1) places (omega arith),
  )

  shows_buffers : (ps : List ℕ) (vs : List Variable) (w : Assignment) (number : ℕ) (places : List ℕ) → number + length places ≤ 2 ^ 64 → Shows ps vs → AllByRecursion (λ v. IsApart v (buffers n w number places)) vs
  shows_buffers [] vs w number places few e = subst (AllByRecursion (λ v. IsApart v (buffers n w number places))) (sym e) tt
  shows_buffers (p ∷ ps) vs w number places few (own, rest, e, apart, are, left) =
      subst (AllByRecursion (λ v. IsApart v (buffers n w number places))) (sym e) (all_join (λ v. IsApart v (buffers n w number places)) own rest
      (all_weaker (IsOf p) (λ v. IsApart v (buffers n w number places)) own (λ v is. buffers_from v w number places (λ k l h. of_buffer p k v (omega arith) is)) are)
      (shows_buffers ps rest w number places few left))

  -- a stream with its items shows its place
  stream_shows : (p : ℕ) (name : List ℕ) (word : Bits) (items : List ℤ) (ps : List ℕ) (vs : List Variable) → name ≡ written_name n p → Shows ps vs → Shows (p ∷ ps) (stream name word items ++ vs)
  stream_shows p name word items ps vs e left = (
    stream name word items,
    vs,
    refl,
    (((λ same. plain_bit (written_name n p) name (plain p) (sym e ∙ sym same)), tt), (tt, tt)),
    (inl (ap there_name e), (inr e, tt)),
    left,
  )

  items_show : (w : Assignment) (ps : List ℕ) (streams : List (List ℤ)) → Shows ps (with_items n w ps streams)
  items_show w [] streams = refl
  items_show w (p ∷ ps) [] = shows_none (p ∷ ps)
  items_show w (p ∷ ps) (items ∷ streams) = stream_shows p (written_name n p) (w p) items ps (with_items n w ps streams) refl (items_show w ps streams)

  bits_show : (w : Assignment) (ps : List ℕ) → Shows ps (there_bits n w ps)
  bits_show w [] = refl
  bits_show w (p ∷ ps) = (there (written_name n p) (w p) ∷ [], there_bits n w ps, refl, (tt, tt), (inl refl, tt), bits_show w ps)

  inner_shows : (w : Assignment) (inside : Option (List (List ℤ))) → Shows (inner_of n) (inner n w inside)
  inner_shows w None = bits_show w (inner_of n)
  inner_shows w (Some streams) = items_show w (inner_of n) streams

  -- the inputs that are no results
  abbrev pub input_place : ℕ → List ℕ
  input_place place = if is_among place n.results then [] else place ∷ []

  abbrev pub input_places : (place count : ℕ) → List ℕ
  input_places place zero = []
  input_places place (suc count) = input_place place ++ input_places (place + 1) count

  inputs_show : (w : Assignment) (place : ℕ) (lists : List (List ℤ)) → Shows (input_places place (length lists)) (inputs n w place lists)
  inputs_show w place [] = refl
  inputs_show w place (items ∷ lists) = by (is_among place n.results) (inputs_show w (place + 1) lists)
    where
      by : (b : Bool) → Shows (input_places (place + 1) (length lists)) (inputs n w (place + 1) lists) →
          Shows ((if b then [] else place ∷ []) ++ input_places (place + 1) (length lists)) ((if b then [] else stream (written_name n place) (w place) items) ++ inputs n w (place + 1) lists)
      by true rest = rest
      by false rest = stream_shows place (written_name n place) (w place) items (input_places (place + 1) (length lists)) (inputs n w (place + 1) lists) refl rest

  -- results by their names in print
  results_show : (types : List Ty) (words : List Bits) (ps : List ℕ) (streams : List (List ℤ)) → AreNamed n ps → Shows ps (results (map (main_output n types words) ps) streams)
  results_show types words [] streams named = refl
  results_show types words (p ∷ ps) [] named = shows_none (p ∷ ps)
  results_show types words (p ∷ ps) (items ∷ streams) named =
      stream_shows p (place_name n p) (assigned words p) items ps (results (map (main_output n types words) ps) streams) (named_at n p named.0) (results_show types words ps streams named.1)

  -- places apart have names apart
  module _ (distinct : NamesApart n) where
    other_of : (p q : ℕ) → IsNamed n p → IsNamed n q → p ≢ q → IsOther p q
    other_of p q a b apart same =
        let first : written_name n p ≡ a.1.text = ap bytes_of (ap (option_and_then (λ entry. entry.name)) a.2 ∙ a.3) in
        let second : written_name n q ≡ b.1.text = ap bytes_of (ap (option_and_then (λ entry. entry.name)) b.2 ∙ b.3) in
        apart (distinct p q a.0 b.0 a.1 b.1 a.2 b.2 a.3 b.3 (sym first ∙ same ∙ second))

    others_of : (p : ℕ) (qs : List ℕ) → IsNamed n p → AreNamed n qs → IsUnlike p qs → AllByRecursion (IsOther p) qs
    others_of p [] a named unlike = tt
    others_of p (q ∷ qs) a named unlike = (other_of p q a named.0 unlike.0, others_of p qs a named.1 unlike.1)

    all_other : (ps : List ℕ) → AreNamed n ps → AreUnlike ps → AreOther ps
    all_other [] named unlike = tt
    all_other (p ∷ ps) named unlike = (others_of p ps named.0 named.1 unlike.0, all_other ps named.1 unlike.1)

  -- inputs and inner places stand once each, and are no results
  nor : (a b : Bool) → (a || b) ≡ false → (a ≡ false) × (b ≡ false)
  nor true b e = absurd (cc)
  nor false b e = (refl, e)

  among_self : (rs : List ℕ) → AllByRecursion (λ r. is_among r rs ≡ true) rs
  among_self rs = from [] rs
    where
      behind : (q : ℕ) (front back : List ℕ) → is_among q (front ++ q ∷ back) ≡ true
      behind q [] back = ap (λ b. b || is_among q back) (eq-eqb q q refl)
      behind q (x ∷ front) back = either_true (nat_eq x q) (is_among q (front ++ q ∷ back)) (behind q front back)
        where
          either_true : (a b : Bool) → b ≡ true → (a || b) ≡ true
          either_true true b e = refl
          either_true false b e = e

      from : (front back : List ℕ) → AllByRecursion (λ r. is_among r (front ++ back) ≡ true) back
      from front [] = tt
      from front (r ∷ back) = (behind r front back, subst (λ xs. AllByRecursion (λ q. is_among q xs ≡ true) back) (append_assoc front (r ∷ []) back) (from (front ++ r ∷ []) back))

  unlike_results : (r : ℕ) (qs : List ℕ) → is_among r n.results ≡ true → AllByRecursion (λ q. is_among q n.results ≡ false) qs → IsUnlike r qs
  unlike_results r [] e all = tt
  unlike_results r (q ∷ qs) e all = ((λ same. (let never : true ≡ false = sym e ∙ ap (λ x. is_among x n.results) same ∙ all.0 in cc never)), unlike_results r qs e all.1)

  abbrev IsInput : (place count q : ℕ) → Type 0
  IsInput place count q = (is_among q n.results ≡ false) × (place ≤ q) × (q < place + count)

  inputs_are : (place count : ℕ) → AllByRecursion (IsInput place count) (input_places place count)
  inputs_are place zero = tt
  inputs_are place (suc count) =
      by (is_among place n.results) refl
      (all_weaker (IsInput (place + 1) count) (IsInput place (suc count)) (input_places (place + 1) count) (λ q is. (is.0, (let l = is.1 in omega arith), (let h = is.2 in omega arith))) (inputs_are (place + 1) count))
    where
      by : (b : Bool) → is_among place n.results ≡ b → AllByRecursion (IsInput place (suc count)) (input_places (place + 1) count) →
          AllByRecursion (IsInput place (suc count)) ((if b then [] else place ∷ []) ++ input_places (place + 1) count)
      by true e rest = rest
      by false e rest = ((e, omega arith, omega arith), rest)

  unlike_later : (p : ℕ) (qs : List ℕ) → AllByRecursion (λ q. p < q) qs → IsUnlike p qs
  unlike_later p qs all = all_weaker (λ q. p < q) (λ q. p ≢ q) qs (λ q l e. omega arith) all

  inputs_unlike : (place count : ℕ) → AreUnlike (input_places place count)
  inputs_unlike place zero = tt
  inputs_unlike place (suc count) = by (is_among place n.results) (inputs_unlike (place + 1) count)
    where
      by : (b : Bool) → AreUnlike (input_places (place + 1) count) → AreUnlike ((if b then [] else place ∷ []) ++ input_places (place + 1) count)
      by true rest = rest
      by false rest = (unlike_later place (input_places (place + 1) count) (all_weaker (IsInput (place + 1) count) (λ q. place < q) (input_places (place + 1) count) (λ q is. let l = is.1 in omega arith) (inputs_are (place + 1) count)), rest)

  abbrev IsInner : (place q : ℕ) → Type 0
  IsInner place q = (is_outer n q ≡ false) × (place ≤ q)

  inner_one : (place : ℕ) (name : Option Name) → AllByRecursion (IsInner place) (inner_place n place name)
  inner_one place None = tt
  inner_one place (Some name) = by (is_outer n place) refl
    where
      by : (b : Bool) → is_outer n place ≡ b → AllByRecursion (IsInner place) (if b then [] else place ∷ [])
      by true e = tt
      by false e = ((e, omega arith), tt)

  inner_are : (place : ℕ) (entries : List PlaceEntry) → AllByRecursion (IsInner place) (inner_places n place entries)
  inner_are place [] = tt
  inner_are place (entry ∷ entries) =
      all_join (IsInner place) (inner_place n place entry.name) (inner_places n (place + 1) entries) (inner_one place entry.name)
      (all_weaker (IsInner (place + 1)) (IsInner place) (inner_places n (place + 1) entries) (λ q is. (is.0, (let l = is.1 in omega arith))) (inner_are (place + 1) entries))

  inner_unlike : (place : ℕ) (entries : List PlaceEntry) → AreUnlike (inner_places n place entries)
  inner_unlike place [] = tt
  inner_unlike place (entry ∷ entries) = of entry.name (inner_unlike (place + 1) entries)
    where
      later : IsUnlike place (inner_places n (place + 1) entries)
      later = unlike_later place (inner_places n (place + 1) entries) (all_weaker (IsInner (place + 1)) (λ q. place < q) (inner_places n (place + 1) entries) (λ q is. let l = is.1 in omega arith) (inner_are (place + 1) entries))

      of : (name : Option Name) → AreUnlike (inner_places n (place + 1) entries) → AreUnlike (inner_place n place name ++ inner_places n (place + 1) entries)
      of None rest = rest
      of (Some name) rest = either (λ xs. AreUnlike (xs ++ inner_places n (place + 1) entries)) (is_outer n place) [] (place ∷ []) rest (later, rest)

  -- all places of streams that are shown
  all_unlike : (count : ℕ) → count ≤ n.params → AreUnlike n.results → AreUnlike (n.results ++ (input_places 1 count ++ inner_of n))
  all_unlike count few own =
      let no_result : (q : ℕ) → IsInner 1 q → is_among q n.results ≡ false = λ q is. (nor (nat_le q n.params) (is_among q n.results) is.0).1 in
      let past : (q : ℕ) → IsInner 1 q → n.params < q = λ q is. leb-false q n.params (nor (nat_le q n.params) (is_among q n.results) is.0).0 in
      let inner_is = inner_are 1 n.places in
      let inputs_is = inputs_are 1 count in
      let none : AllByRecursion (λ q. is_among q n.results ≡ false) (input_places 1 count ++ inner_of n) =
      all_join (λ q. is_among q n.results ≡ false) (input_places 1 count) (inner_of n) (all_weaker (IsInput 1 count) (λ q. is_among q n.results ≡ false) (input_places 1 count) (λ q is. is.0) inputs_is)
      (all_weaker (IsInner 1) (λ q. is_among q n.results ≡ false) (inner_of n) no_result inner_is) in
      unlike_join n.results (input_places 1 count ++ inner_of n) own
      (unlike_join (input_places 1 count) (inner_of n) (inputs_unlike 1 count) (inner_unlike 1 n.places)
      (all_weaker (IsInput 1 count) (λ x. IsUnlike x (inner_of n)) (input_places 1 count)
      (λ x is. unlike_later x (inner_of n) (all_weaker (IsInner 1) (λ q. x < q) (inner_of n) (λ q own_is. (let l = past q own_is in let h = is.2 in omega arith)) inner_is)) inputs_is))
      (all_weaker (λ r. is_among r n.results ≡ true) (λ r. IsUnlike r (input_places 1 count ++ inner_of n)) n.results (λ r e. unlike_results r (input_places 1 count ++ inner_of n) e none) (among_self n.results))

  -- parameters have names
  param_named : (above : List PlacedNode) → IsProperNode above n → (q : ℕ) → 1 ≤ q → q ≤ n.params → IsNamed n q
  param_named above proper zero low high = absurd (omega arith)
  param_named above proper (suc i) low high =
      let params = proper.params in
      let entry = get_there n.places i (omega arith) in
      of entry.0 entry.1 entry.0.kind refl
    where
      of : (entry : PlaceEntry) → slice_get n.places i ≡ Some entry → (k : PlaceKind) → entry.kind ≡ k → IsNamed n (suc i)
      of entry e kind.Param f = let label = subst (λ k. IsLabelled k entry) f (proper.labels (suc i) entry e) in (entry, label.0, e, label.1)
      of entry e (kind.Defined q) f = let is = (subst (IsProperKind n (suc i)) f (proper.kinds (suc i) entry e)).0 in absurd (omega arith)
      of entry e (kind.Lit l) f = let is = subst (IsProperKind n (suc i)) f (proper.kinds (suc i) entry e) in absurd (omega arith)
      of entry e (kind.Op op args) f = let is = (subst (IsProperKind n (suc i)) f (proper.kinds (suc i) entry e)).0 in absurd (omega arith)
      of entry e (kind.Host op a b) f = let is = (subst (IsProperKind n (suc i)) f (proper.kinds (suc i) entry e)).0 in absurd (omega arith)
      of entry e (kind.When q w) f = let is = (subst (IsProperKind n (suc i)) f (proper.kinds (suc i) entry e)).0 in absurd (omega arith)
      of entry e (kind.Merge w a b) f = let is = (subst (IsProperKind n (suc i)) f (proper.kinds (suc i) entry e)).0 in absurd (omega arith)
      of entry e (kind.Fby l q) f = let is = (subst (IsProperKind n (suc i)) f (proper.kinds (suc i) entry e)).0 in absurd (omega arith)
      of entry e (kind.Buffer k q) f = let is = (subst (IsProperKind n (suc i)) f (proper.kinds (suc i) entry e)).0 in absurd (omega arith)
      of entry e (kind.Result c j) f = let is = (subst (IsProperKind n (suc i)) f (proper.kinds (suc i) entry e)).0 in absurd (omega arith)

  inputs_named : (above : List PlacedNode) → IsProperNode above n → (count : ℕ) → count ≤ n.params → AreNamed n (input_places 1 count)
  inputs_named above proper count few = all_weaker (IsInput 1 count) (IsNamed n) (input_places 1 count) (λ q is. param_named above proper q is.1 (let h = is.2 in omega arith)) (inputs_are 1 count)

  -- no two of all variables have one name
  pub variables_distinct : (above : List PlacedNode) → IsProperNode above n → AreUnlike n.results → (types : List Ty) (words : List Bits) (w : Assignment) (lists streams : List (List ℤ)) (inside : Option (List (List ℤ))) →
      length lists ≤ n.params → 1 + length n.buffers ≤ 2 ^ 64 → AreDistinct (variables n w (map (main_output n types words) n.results) lists streams inside)
  variables_distinct above proper unlike types words w lists streams inside few many =
      let ps : List ℕ = n.results ++ (input_places 1 (length lists) ++ inner_of n) in
      let vs : List Variable = results (map (main_output n types words) n.results) streams ++ (inputs n w 1 lists ++ inner n w inside) in
      let bs : List Variable = buffers n w 1 n.buffers in
      let shown : Shows ps vs =
      shows_append n.results (input_places 1 (length lists) ++ inner_of n) (results (map (main_output n types words) n.results) streams) (inputs n w 1 lists ++ inner n w inside) (results_show types words n.results streams proper.named)
      (shows_append (input_places 1 (length lists)) (inner_of n) (inputs n w 1 lists) (inner n w inside) (inputs_show w 1 lists) (inner_shows w inside)) in
      let named : AreNamed n ps = all_join (IsNamed n) n.results (input_places 1 (length lists) ++ inner_of n) proper.named
      (all_join (IsNamed n) (input_places 1 (length lists)) (inner_of n) (inputs_named above proper (length lists) few) (inner_named n)) in
      let other = all_other proper.distinct ps named (all_unlike (length lists) few unlike) in
      let apart : AreApart (vs ++ bs) = apart_join vs bs (shows_apart ps vs other shown) (buffers_apart w 1 n.buffers many) (shows_buffers ps vs w 1 n.buffers many shown) in
      let split : vs ++ bs ≡ variables n w (map (main_output n types words) n.results) lists streams inside =
      append_assoc (results (map (main_output n types words) n.results) streams) (inputs n w 1 lists ++ inner n w inside) bs
      ∙ ap (λ xs. results (map (main_output n types words) n.results) streams ++ xs) (append_assoc (inputs n w 1 lists) (inner n w inside) bs) in
      distinct_of (variables n w (map (main_output n types words) n.results) lists streams inside) (subst AreApart split apart)
