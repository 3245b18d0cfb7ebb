-- How the lines of a dump are read.
use Rattle.std.proofs.Common.{ℕ, suc, zero, ◌+◌, ◌-◌, ◌/◌, ◌%◌, ◌<◌, ◌≤◌, ◌^◌, ◌≡◌, ◌≢◌, ◌⊎◌, Bool, true, false, not, List, [], ◌∷◌, ◌++◌, length, Option, Some, None, refl, ap, ap₂, sym, ◌∙◌, subst, inl, inr, append_assoc, arith}
use Rattle.std.specs.Prelude.{nat_eq, nat_lt, slice_get, codes, if◌then◌else◌}
use Rattle.std.specs.List.{AllByRecursion}
use Rattle.std.specs.Fmt.{decimal, digits, digits_onto, digit_glyph}
use Rattle.std.specs.Char.{digit_value}
use Rattle.std.specs.Str.Parse.{AllDigits, digits_value}
use Rattle.std.proofs.lemmas.Fmt.{digits_is_IsNumeral, decimal_injective}
use Rattle.std.proofs.lemmas.Bool.{eqb-true, eqb-false, or_parts, not-false}
use Rattle.std.proofs.lemmas.Option.{same_Some, slice_get_within}
use Rattle.lucy_word.proofs.Lists.{still_there}
use Rattle.lucy_wave.specs.Dumps.{Variable, code_of, declaration, declarations, time_line, bit_digit, change_line, is_changed, change, changes, steps, header, dump}
use Rattle.lucy_wave.specs.Reading.{IsDeclared, IsTime, IsChange, ReadsFrom}

-- a byte stands nowhere in a list
abbrev pub Free : ℕ → List ℕ → Type 0
Free x xs = AllByRecursion (λ byte. byte ≢ x) xs

pub head_is : (x y : ℕ) (xs ys : List ℕ) → x ∷ xs ≡ y ∷ ys → x ≡ y
head_is x y xs ys e = cc

pub differ : (x y : ℕ) (xs ys : List ℕ) → x ≢ y → x ∷ xs ≡ y ∷ ys → ⊥
differ x y xs ys other e = other (head_is x y xs ys e)

pub tail_is : (x y : ℕ) (xs ys : List ℕ) → x ∷ xs ≡ y ∷ ys → xs ≡ ys
tail_is x y xs ys e = cc

pub either : {A : Type 0} (P : A → Type 0) (b : Bool) (x y : A) → P x → P y → P (if b then x else y)
either P true x y p q = p
either P false x y p q = q

-- digits have no byte below `0`
glyph_free : (x d : ℕ) (b : Bool) → x < 48 → (if b then 48 + d else 87 + d) ≢ x
glyph_free x d true h = λ e. omega arith
glyph_free x d false h = λ e. omega arith

onto_free : (x : ℕ) → x < 48 → (k base n : ℕ) (acc : List ℕ) → Free x acc → Free x (digits_onto k base false n acc)
onto_free x h zero base n acc free = free
onto_free x h (suc k) base n acc free =
    let own : digit_glyph false (n % base) ≢ x = glyph_free x (n % base) (nat_lt (n % base) 10) h in
    either (Free x) (nat_eq (n / base) 0) (digit_glyph false (n % base) ∷ acc) (digits_onto k base false (n / base) (digit_glyph false (n % base) ∷ acc)) (own, free)
    (onto_free x h k base (n / base) (digit_glyph false (n % base) ∷ acc) (own, free))

pub digits_free : (x base n : ℕ) → x < 48 → Free x (digits base false n)
unfolding digits
digits_free x base n h = onto_free x h 64 base n [] tt

numeral_free : (ds : List ℕ) → AllDigits 2 ds → Free 32 ds
numeral_free [] all = tt
numeral_free (d ∷ ds) all = ((λ e. let low : digit_value 32 < 2 = subst (λ c. digit_value c < 2) e all.0 in omega arith), numeral_free ds all.1)

-- a list is cut at the first place where a byte stands in one way
pub cut_once : (x : ℕ) (xs ys us ws : List ℕ) → Free x xs → Free x ys → xs ++ x ∷ us ≡ ys ++ x ∷ ws → (xs ≡ ys) × (us ≡ ws)
cut_once x [] [] us ws f g e = (refl, tail_is x x us ws e)
cut_once x [] (b ∷ ys) us ws f g e = absurd (g.0 (sym (head_is x b us (ys ++ x ∷ ws) e)))
cut_once x (a ∷ xs) [] us ws f g e = absurd (f.0 (head_is a x (xs ++ x ∷ us) ws e))
cut_once x (a ∷ xs) (b ∷ ys) us ws f g e =
    let rest = cut_once x xs ys us ws f.1 g.1 (tail_is a b (xs ++ x ∷ us) (ys ++ x ∷ ws) e) in
    (ap₂ (λ y zs. y ∷ zs) (head_is a b (xs ++ x ∷ us) (ys ++ x ∷ ws) e) rest.0, rest.1)

-- a line that begins with another byte sets no time, and changes nothing
no_time : (x : ℕ) (xs : List ℕ) (u : ℕ) → x ≢ 35 → IsTime (x ∷ xs) u → ⊥
no_time x xs u other at = other (head_is x 35 xs (decimal u) at.0)

no_change : (x : ℕ) (xs code : List ℕ) (value : ℕ) → x ≢ 48 → x ≢ 49 → x ≢ 98 → IsChange (x ∷ xs) code value → ⊥
no_change x xs code value a b c (inl is) = a (head_is x 48 xs code is.0)
no_change x xs code value a b c (inr (inl is)) = b (head_is x 49 xs code is.0)
no_change x xs code value a b c (inr (inr (ds, is, numeral, same))) = c (head_is x 98 xs (ds ++ 32 ∷ code) is)

bit_digit_is : (value : ℕ) → (bit_digit value ≡ 48) ⊎ (bit_digit value ≡ 49)
bit_digit_is value = either (λ d. (d ≡ 48) ⊎ (d ≡ 49)) (nat_eq value 0) 48 49 (inl refl) (inr refl)

bit_digit_not : (value x : ℕ) → x ≢ 48 → x ≢ 49 → bit_digit value ≢ x
bit_digit_not value x a b = λ e. elim (bit_digit_is value) [ inl is ↦ a (sym e ∙ is) | inr is ↦ b (sym e ∙ is) ]

-- a change sets no time
change_no_time : (wide : Bool) (code : List ℕ) (value u : ℕ) → IsTime (change_line wide code value) u → ⊥
change_no_time true code value u at = no_time 98 (digits 2 false value ++ (32 ∷ code)) u (omega arith) at
change_no_time false code value u at = no_time (bit_digit value) code u (bit_digit_not value 35 (omega arith) (omega arith)) at

-- a change of one code is none of another
change_apart : (wide : Bool) (code other : List ℕ) (value new : ℕ) → code ≢ other → IsChange (change_line wide other value) code new → ⊥
change_apart true code other value new apart (inl is) = differ 98 48 (digits 2 false value ++ (32 ∷ other)) code (omega arith) is.0
change_apart true code other value new apart (inr (inl is)) = differ 98 49 (digits 2 false value ++ (32 ∷ other)) code (omega arith) is.0
change_apart true code other value new apart (inr (inr (ds, is, numeral, same))) =
    let tails = tail_is 98 98 (digits 2 false value ++ (32 ∷ other)) (ds ++ 32 ∷ code) is in
    apart (sym (cut_once 32 (digits 2 false value) ds other code (digits_free 32 2 value (omega arith)) (numeral_free ds numeral.1) tails).1)
change_apart false code other value new apart (inl is) = apart (sym (tail_is (bit_digit value) 48 other code is.0))
change_apart false code other value new apart (inr (inl is)) = apart (sym (tail_is (bit_digit value) 49 other code is.0))
change_apart false code other value new apart (inr (inr (ds, is, numeral, same))) = bit_digit_not value 98 (omega arith) (omega arith) (head_is (bit_digit value) 98 other (ds ++ 32 ∷ code) is)

-- the values that a variable may have
abbrev pub MayBe : (is_wide : Bool) → ℕ → Type 0
MayBe true value = value < 2 ^ 64
MayBe false value = value ≤ 1

-- a change of a code is one
change_is : (wide : Bool) (code : List ℕ) (value : ℕ) → MayBe wide value → IsChange (change_line wide code value) code value
change_is true code value low = let (numeral, is) = digits_is_IsNumeral 2 false (omega arith) (omega arith) value low in inr (inr (digits 2 false value, refl, numeral, sym is))
change_is false code zero low = inl (refl, refl)
change_is false code (suc zero) low = inr (inl (refl, refl))
change_is false code (suc (suc value)) low = absurd (omega arith)

-- what did not change is as a step before, which is not the first
unchanged : (value : ℕ → ℕ) (t : ℕ) → is_changed value t ≡ false → (t ≢ 1) × (value t ≡ value (t - 1))
unchanged value t e =
    let both = or_parts (nat_eq t 1) (not (nat_eq (value t) (value (t - 1)))) e in
    (eqb-false t 1 both.0, eqb-true (value t) (value (t - 1)) (not-false (nat_eq (value t) (value (t - 1))) both.1))

-- past a line that says nothing of a code
module _ (code : List ℕ) (T : ℕ) (value : Option ℕ) where
  pub skip_dollar : (held : Option ℕ) (xs : List ℕ) (lines : List (List ℕ)) → ReadsFrom code T held lines value → ReadsFrom code T held ((36 ∷ xs) ∷ lines) value
  skip_dollar held xs lines r = inr (inr (
    (λ u at. absurd (no_time 36 xs u (omega arith) at)),
    (λ new is. no_change 36 xs code new (omega arith) (omega arith) (omega arith) is),
    r,
  ))

  skip_line : (held : Option ℕ) (line : List ℕ) (lines : List (List ℕ)) (xs : List ℕ) → line ≡ 36 ∷ xs → ReadsFrom code T held lines value → ReadsFrom code T held (line ∷ lines) value
  skip_line held line lines xs e r = subst (λ l. ReadsFrom code T held (l ∷ lines) value) (sym e) (skip_dollar held xs lines r)

  skip_declarations : (held : Option ℕ) (vs : List Variable) (number : ℕ) (lines : List (List ℕ)) → ReadsFrom code T held lines value → ReadsFrom code T held (declarations number vs ++ lines) value
  skip_declarations held [] number lines r = r
  skip_declarations held (v ∷ vs) number lines r =
      skip_line held (declaration v.is_wide (code_of number) v.name) (declarations (number + 1) vs ++ lines) _ refl (skip_declarations held vs (number + 1) lines r)

  skip_header : (held : Option ℕ) (scope : List ℕ) (vs : List Variable) (lines : List (List ℕ)) → ReadsFrom code T held lines value → ReadsFrom code T held (header scope vs ++ lines) value
  skip_header held scope vs lines r =
      let ends = skip_line held (codes "$upscope $end") (codes "$enddefinitions $end" ∷ lines) _ refl (skip_line held (codes "$enddefinitions $end") lines _ refl r) in
      let last : List (List ℕ) = codes "$upscope $end" ∷ (codes "$enddefinitions $end" ∷ []) in
      let all : ReadsFrom code T held ((declarations 0 vs ++ last) ++ lines) value =
      subst (λ ls. ReadsFrom code T held ls value) (sym (append_assoc (declarations 0 vs) last lines)) (skip_declarations held vs 0 (last ++ lines) ends) in
      let scoped = skip_line held (codes "$scope module " ++ (scope ++ codes " $end")) ((declarations 0 vs ++ last) ++ lines) _ refl all in
      skip_line held (codes "$timescale 1 ns $end") ((codes "$scope module " ++ (scope ++ codes " $end")) ∷ ((declarations 0 vs ++ last) ++ lines)) _ refl scoped

  skip_change : (held : Option ℕ) (number : ℕ) (v : Variable) (t : ℕ) (lines : List (List ℕ)) → code ≢ code_of number → ReadsFrom code T held lines value → ReadsFrom code T held (change number v t ++ lines) value
  skip_change held number v t lines apart r =
      let line : List ℕ = change_line v.is_wide (code_of number) (v.value t) in
      let past : ReadsFrom code T held (line ∷ lines) value = inr (inr (
        (λ u at. absurd (change_no_time v.is_wide (code_of number) (v.value t) u at)),
        (λ new is. change_apart v.is_wide code (code_of number) (v.value t) new apart is),
        r,
      )) in
      either (λ ls. ReadsFrom code T held (ls ++ lines) value) (is_changed v.value t) (line ∷ []) [] past r

  skip_changes : (held : Option ℕ) (vs : List Variable) (number t : ℕ) (lines : List (List ℕ)) → ((k : ℕ) → number ≤ k → k < number + length vs → code ≢ code_of k) → ReadsFrom code T held lines value →
      ReadsFrom code T held (changes number vs t ++ lines) value
  skip_changes held [] number t lines apart r = r
  skip_changes held (v ∷ vs) number t lines apart r =
      let rest = skip_changes held vs (number + 1) t lines (λ k low high. apart k (omega arith) (omega arith)) r in
      subst (λ ls. ReadsFrom code T held ls value) (sym (append_assoc (change number v t) (changes (number + 1) vs t) lines))
      (skip_change held number v t (changes (number + 1) vs t ++ lines) (apart number (omega arith) (omega arith)) rest)

-- codes of numbers are apart
pub codes_apart : (j k : ℕ) → j < 2 ^ 64 → k < 2 ^ 64 → j ≢ k → code_of j ≢ code_of k
codes_apart j k h l apart = λ e. apart (decimal_injective j k h l (tail_is 118 118 (decimal j) (decimal k) e))

module _ (T j : ℕ) (value : Option ℕ) (v : Variable) (may : (t : ℕ) → MayBe v.is_wide (v.value t)) where
  -- past the variable's own line
  own_change : (held : Option ℕ) (t : ℕ) (lines : List (List ℕ)) → (t ≢ 1 → held ≡ Some (v.value (t - 1))) → ReadsFrom (code_of j) T (Some (v.value t)) lines value →
      ReadsFrom (code_of j) T held (change j v t ++ lines) value
  own_change held t lines kept r = by_case (is_changed v.value t) refl
    where
      by_case : (b : Bool) → is_changed v.value t ≡ b → ReadsFrom (code_of j) T held ((if b then change_line v.is_wide (code_of j) (v.value t) ∷ [] else []) ++ lines) value
      by_case true e = inr (inl (v.value t, change_is v.is_wide (code_of j) (v.value t) (may t), r))
      by_case false e =
          let same = unchanged v.value t e in
          subst (λ h. ReadsFrom (code_of j) T h lines value) (ap Some same.1 ∙ sym (kept same.0)) r

  -- past those of all variables
  found : (held : Option ℕ) (vs : List Variable) (number i t : ℕ) (lines : List (List ℕ)) → slice_get vs i ≡ Some v → j ≡ number + i → number + length vs < 2 ^ 64 →
      (t ≢ 1 → held ≡ Some (v.value (t - 1))) → ReadsFrom (code_of j) T (Some (v.value t)) lines value → ReadsFrom (code_of j) T held (changes number vs t ++ lines) value
  found held [] number i t lines at is few kept r = absurd (cc)
  found held (w ∷ vs) number zero t lines at is few kept r =
      let same : w ≡ v = same_Some w v at in
      let here : j ≡ number = omega arith in
      let rest = skip_changes (code_of j) T value (Some (v.value t)) vs (number + 1) t lines (λ k low high. codes_apart j k (omega arith) (omega arith) (omega arith)) r in
      let own = own_change held t (changes (number + 1) vs t ++ lines) kept rest in
      subst (λ ls. ReadsFrom (code_of j) T held ls value) (ap₂ (λ n (x : Variable). change n x t ++ (changes (number + 1) vs t ++ lines)) here (sym same) ∙ sym (append_assoc (change number w t) (changes (number + 1) vs t) lines)) own
  found held (w ∷ vs) number (suc i) t lines at is few kept r =
      let low = slice_get_within vs i v at in
      let rest = found held vs (number + 1) i t lines at (omega arith) (omega arith) kept r in
      subst (λ ls. ReadsFrom (code_of j) T held ls value) (sym (append_assoc (change number w t) (changes (number + 1) vs t) lines))
      (skip_change (code_of j) T value held number w t (changes (number + 1) vs t ++ lines) (codes_apart j number (omega arith) (omega arith) (omega arith)) rest)

  -- what is held behind so many steps
  abbrev held_at : ℕ → Option ℕ
  held_at zero = None
  held_at (suc t) = Some (v.value (suc t))

  kept_at : (t : ℕ) → suc t ≢ 1 → held_at t ≡ Some (v.value (suc t - 1))
  kept_at zero other = absurd (other refl)
  kept_at (suc t) other = let e : suc t ≡ suc (suc t) - 1 = omega arith in ap (λ n. Some (v.value n)) e

  module _ (vs : List Variable) (at : slice_get vs j ≡ Some v) (few : length vs < 2 ^ 64) (early : T < 2 ^ 64) where
    -- past the lines of a step
    block : (t : ℕ) (lines : List (List ℕ)) → suc t ≤ T → ReadsFrom (code_of j) T (Some (v.value (suc t))) lines value →
        ReadsFrom (code_of j) T (held_at t) (time_line (suc t) ∷ (changes 0 vs (suc t) ++ lines)) value
    block t lines within r = inr (inr (
      (λ u time. let e = decimal_injective (suc t) u (omega arith) time.1 (tail_is 35 35 (decimal (suc t)) (decimal u) time.0) in omega arith),
      (λ new is. no_change 35 (decimal (suc t)) (code_of j) new (omega arith) (omega arith) (omega arith) is),
      found (held_at t) vs 0 j (suc t) lines at (omega arith) (omega arith) (kept_at t) r,
    ))

    -- past those of so many
    through : (t : ℕ) (lines : List (List ℕ)) → t ≤ T → ReadsFrom (code_of j) T (held_at t) lines value → ReadsFrom (code_of j) T None (steps vs t ++ lines) value
    unfolding steps
    through zero lines within r = r
    through (suc t) lines within r =
        subst (λ ls. ReadsFrom (code_of j) T None ls value) (sym (append_assoc (steps vs t) (time_line (suc t) ∷ changes 0 vs (suc t)) lines))
        (through t (time_line (suc t) ∷ (changes 0 vs (suc t) ++ lines)) (omega arith) (block t lines within r))

by_eq : (a b : ℕ) (t : Bool) → nat_eq a (suc b) ≡ t → a ≤ suc b → (a ≡ suc b) ⊎ (a ≤ b)
by_eq a b true e h = inl (eqb-true a (suc b) e)
by_eq a b false e h = inr (let other = eqb-false a (suc b) e in omega arith)

-- behind the first of more steps stands the next time
beyond : (vs : List Variable) (T H : ℕ) (lines : List (List ℕ)) → T ≤ H → (more : List (List ℕ)) × (steps vs H ++ (time_line (suc H) ∷ lines) ≡ steps vs T ++ (time_line (suc T) ∷ more))
unfolding steps
beyond vs T zero lines h = let e : 0 ≡ T = omega arith in (lines, ap (λ n. steps vs n ++ (time_line (suc n) ∷ lines)) e)
beyond vs T (suc H) lines h = elim (by_eq T H (nat_eq T (suc H)) refl h) [
  | inl e ↦ (lines, ap (λ n. steps vs n ++ (time_line (suc n) ∷ lines)) (sym e))
  | inr low ↦
      let r = beyond vs T H (changes 0 vs (suc H) ++ (time_line (suc (suc H)) ∷ lines)) low in
      (r.0, append_assoc (steps vs H) (time_line (suc H) ∷ changes 0 vs (suc H)) (time_line (suc (suc H)) ∷ lines) ∙ r.1)
]

-- a variable is declared, and its values stand at the steps
pub record IsShown (lines : List (List ℕ)) (H : ℕ) (v : Variable) : Type 0 where
  pub code : List ℕ
  pub declared : IsDeclared lines v.is_wide code v.name
  pub reads : (t : ℕ) → 1 ≤ t → t ≤ H → ReadsFrom code t None lines (Some (v.value t))

declared_at : (vs : List Variable) (number i j : ℕ) (v : Variable) → slice_get vs i ≡ Some v → j ≡ number + i → slice_get (declarations number vs) i ≡ Some (declaration v.is_wide (code_of j) v.name)
declared_at [] number i j v e is = absurd (cc)
declared_at (w ∷ vs) number zero j v e is =
    let here : number ≡ j = omega arith in
    ap₂ (λ n (x : Variable). Some (declaration x.is_wide (code_of n) x.name)) here (same_Some w v e)
declared_at (w ∷ vs) number (suc i) j v e is = declared_at vs (number + 1) i j v e (omega arith)

module _ (scope : List ℕ) (vs : List Variable) (H : ℕ) (few : length vs < 2 ^ 64) (early : suc H < 2 ^ 64) where
  reads_at : (j t : ℕ) (v : Variable) → slice_get vs j ≡ Some v → ((s : ℕ) → MayBe v.is_wide (v.value s)) → 1 ≤ t → t ≤ H → ReadsFrom (code_of j) t None (dump scope vs H) (Some (v.value t))
  reads_at j zero v at may some within = absurd (omega arith)
  reads_at j (suc t) v at may some within =
      let tail = beyond vs (suc t) H [] within in
      let past : ReadsFrom (code_of j) (suc t) (Some (v.value (suc t))) (time_line (suc (suc t)) ∷ tail.0) (Some (v.value (suc t))) = inl (suc (suc t), (refl, omega arith), omega arith, refl) in
      let all = through (suc t) j (Some (v.value (suc t))) v may vs at few (omega arith) (suc t) (time_line (suc (suc t)) ∷ tail.0) (omega arith) past in
      skip_header (code_of j) (suc t) (Some (v.value (suc t))) None scope vs (steps vs H ++ (time_line (suc H) ∷ []))
      (subst (λ ls. ReadsFrom (code_of j) (suc t) None ls (Some (v.value (suc t)))) (sym tail.1) all)

  pub shown_at : (j : ℕ) (v : Variable) → slice_get vs j ≡ Some v → ((s : ℕ) → MayBe v.is_wide (v.value s)) → IsShown (dump scope vs H) H v
  shown_at j v at may = record {
    code = code_of j;
    declared = (
      suc (suc j),
      still_there (declarations 0 vs ++ (codes "$upscope $end" ∷ (codes "$enddefinitions $end" ∷ []))) (steps vs H ++ (time_line (suc H) ∷ [])) j (declaration v.is_wide (code_of j) v.name)
          (still_there (declarations 0 vs) (codes "$upscope $end" ∷ (codes "$enddefinitions $end" ∷ [])) j (declaration v.is_wide (code_of j) v.name) (declared_at vs 0 j j v at (omega arith))),
    );
    reads = λ t some within. reads_at j t v at may some within;
  }

-- a line has one meaning for a code
change_once : (line code : List ℕ) (a b : ℕ) → IsChange line code a → IsChange line code b → a ≡ b
change_once line code a b (inl x) (inl y) = x.1 ∙ sym y.1
change_once line code a b (inl x) (inr (inl y)) = absurd (differ 48 49 code code (omega arith) (sym x.0 ∙ y.0))
change_once line code a b (inl x) (inr (inr (ds, is, numeral, same))) = absurd (differ 48 98 code (ds ++ 32 ∷ code) (omega arith) (sym x.0 ∙ is))
change_once line code a b (inr (inl x)) (inl y) = absurd (differ 49 48 code code (omega arith) (sym x.0 ∙ y.0))
change_once line code a b (inr (inl x)) (inr (inl y)) = x.1 ∙ sym y.1
change_once line code a b (inr (inl x)) (inr (inr (ds, is, numeral, same))) = absurd (differ 49 98 code (ds ++ 32 ∷ code) (omega arith) (sym x.0 ∙ is))
change_once line code a b (inr (inr (ds, is, numeral, same))) (inl y) = absurd (differ 98 48 (ds ++ 32 ∷ code) code (omega arith) (sym is ∙ y.0))
change_once line code a b (inr (inr (ds, is, numeral, same))) (inr (inl y)) = absurd (differ 98 49 (ds ++ 32 ∷ code) code (omega arith) (sym is ∙ y.0))
change_once line code a b (inr (inr (ds, is, numeral, same))) (inr (inr (es, was, number, also))) =
    let cut = cut_once 32 ds es code code (numeral_free ds numeral.1) (numeral_free es number.1) (tail_is 98 98 (ds ++ 32 ∷ code) (es ++ 32 ∷ code) (sym is ∙ was)) in
    same ∙ ap (digits_value 2) cut.0 ∙ sym also

-- no line both sets a time and changes a value
never_both : (line code : List ℕ) (u new : ℕ) → IsTime line u → IsChange line code new → ⊥
never_both line code u new at (inl is) = differ 35 48 (decimal u) code (omega arith) (sym at.0 ∙ is.0)
never_both line code u new at (inr (inl is)) = differ 35 49 (decimal u) code (omega arith) (sym at.0 ∙ is.0)
never_both line code u new at (inr (inr (ds, is, numeral, same))) = differ 35 98 (decimal u) (ds ++ 32 ∷ code) (omega arith) (sym at.0 ∙ is)

-- what is read is one value
pub read_once : (code : List ℕ) (t : ℕ) (held : Option ℕ) (lines : List (List ℕ)) (value other : Option ℕ) → ReadsFrom code t held lines value → ReadsFrom code t held lines other → value ≡ other
read_once code t held [] value other r s = r ∙ sym s
read_once code t held (line ∷ lines) value other (inl (u, at, past, is)) (inl (w, also, behind, was)) = is ∙ sym was
read_once code t held (line ∷ lines) value other (inl (u, at, past, is)) (inr (inl (new, does, s))) = absurd (never_both line code u new at does)
read_once code t held (line ∷ lines) value other (inl (u, at, past, is)) (inr (inr (early, none, s))) = let l = early u at in absurd (omega arith)
read_once code t held (line ∷ lines) value other (inr (inl (new, does, r))) (inl (w, also, behind, was)) = absurd (never_both line code w new also does)
read_once code t held (line ∷ lines) value other (inr (inl (new, does, r))) (inr (inl (newer, did, s))) =
    read_once code t (Some new) lines value other r (subst (λ n. ReadsFrom code t (Some n) lines other) (change_once line code newer new did does) s)
read_once code t held (line ∷ lines) value other (inr (inl (new, does, r))) (inr (inr (early, none, s))) = absurd (none new does)
read_once code t held (line ∷ lines) value other (inr (inr (early, none, r))) (inl (w, also, behind, was)) = let l = early w also in absurd (omega arith)
read_once code t held (line ∷ lines) value other (inr (inr (early, none, r))) (inr (inl (new, does, s))) = absurd (none new does)
read_once code t held (line ∷ lines) value other (inr (inr (early, none, r))) (inr (inr (later, never, s))) = read_once code t held lines value other r s
