-- The place where a text breaks the form of a word, or a count is 0, is found by its bytes in turn.
use Rattle.std.proofs.Common.{ℕ, ◌+◌, ◌*◌, ◌-◌, ◌<◌, ◌≤◌, ◌≡◌, Bool, true, false, cond, eqb, ◌&&◌, List, [], ◌∷◌, ◌++◌, length, take, drop, get_or, Option, Some, None, ap, sym, refl, ◌∙◌, subst, inl, inr, arith, append_assoc, length-append}
use Rattle.std.specs.List.{AllByRecursion}
use Rattle.std.specs.Char.{digit_value}
use Rattle.std.specs.Str.Parse.{IsNumeral, AllDigits, digits_value}
use Rattle.std.proofs.lemmas.List.{take_at, take_more, take-append-drop, take_all, take-take, length-take-le, get_or-append_right, get_or_append_left}
use Rattle.std.proofs.lemmas.Int.Digits.{digits_value_push}
use Rattle.std.proofs.lemmas.Str.Parse.{digit_at}
use Rattle.std.proofs.lemmas.Str.{digit_value_digit}
use Rattle.std.proofs.lemmas.Bool.{both_ways, cases_lt, eqb-true}
use Rattle.std.proofs.lemmas.Bool.Decides.{nat_tests}
use Rattle.lucy_word.specs.Items.{WordItem, alone, counted, digit_of, item_text, items_text, HasCount, WordForm, form_text, form_bits, IsForm}
use Rattle.lucy_word.specs.Bits.{Bits}
use Rattle.lucy_word.specs.Spelling.{is_digit, Spells}
use Rattle.lucy_word.specs.Forms.{IsUnfitAt, IsZeroAt, AreItems, IsBreak, IsBadAt}
use Rattle.lucy_word.specs.declared.form.Stage as stage_type
use Rattle.lucy_word.specs.declared.form.Stage.TheVariants as stage
use Rattle.lucy_word.specs.Stages.{is_decimal, ended, begin, next, behind}
use Rattle.lucy_word.specs.Cutting.{count_from, all_zeros}
use Rattle.lucy_word.specs.Partials.{At, item, digit, brace, count, Partial, going, whole, step, run, start, ends, opened}
use Rattle.lucy_word.proofs.PartialLaws.{by_test, ran, run_append, settled, read_items, read_counted, open_runs, form_runs, begins_read, read_begins}

-- the stage of what was read
abbrev inside : Option (List WordItem) → Bool
inside None = false
inside (Some ps) = true

abbrev any : List WordItem → Bool
any [] = false
any (i ∷ is) = true

abbrev pub stage_of : Partial → stage_type.Stage
stage_of (going b is item) = stage.Item (inside b) (any is)
stage_of (going b is (digit x)) = stage.Digit (inside b)
stage_of (going b is (brace x)) = stage.Brace (inside b)
stage_of (going b is (count x ds)) = stage.Count (inside b)
stage_of (whole ps is) = stage.Closed

abbrev pub staged : Option Partial → Option stage_type.Stage
staged None = None
staged (Some p) = Some (stage_of p)

staged_if : (t : Bool) (x y : Option Partial) (u v : Option stage_type.Stage) → staged x ≡ u → staged y ≡ v →
    staged (cond t x y) ≡ cond t u v
staged_if true x y u v e f = e
staged_if false x y u v e f = f

any_more : (is : List WordItem) (i : WordItem) → any (is ++ i ∷ []) ≡ true
any_more [] i = refl
any_more (j ∷ is) i = refl

not_both : (c : ℕ) → eqb c 40 ≡ true → eqb c 41 ≡ true → ⊥
not_both c h k = absurd (omega (arith, eqb-true c 40 h, eqb-true c 41 k))

ends_stage : (b : Option (List WordItem)) (is : List WordItem) (c : ℕ) → staged (ends b is c) ≡ ended (inside b) (any is) c
ends_stage None is c = go (eqb c 40) (eqb c 41)
  where
    go : (t u : Bool) →
        staged (cond t (Some (going (Some is) [] item)) (cond u None None)) ≡ cond (t && true) (Some (stage.Item true false)) (cond ((u && false) && any is) (Some stage.Closed) None)
    go true u = refl
    go false true = refl
    go false false = refl
ends_stage (Some ps) [] c = go (eqb c 40) (eqb c 41)
  where
    go : (t u : Bool) →
        staged (cond t None (cond u None None)) ≡ cond (t && false) (Some (stage.Item true false)) (cond ((u && true) && false) (Some stage.Closed) None)
    go true true = refl
    go true false = refl
    go false true = refl
    go false false = refl
ends_stage (Some ps) (i ∷ is) c = go (eqb c 40) (eqb c 41) (not_both c)
  where
    go : (t u : Bool) → (t ≡ true → u ≡ true → ⊥) →
        staged (cond t None (cond u (Some (whole ps (i ∷ is))) None)) ≡ cond (t && false) (Some (stage.Item true false)) (cond ((u && true) && true) (Some stage.Closed) None)
    go true true n = absurd (n refl refl)
    go true false n = refl
    go false true n = refl
    go false false n = refl

pub step_stage : (p : Partial) (c : ℕ) → staged (step p c) ≡ next (stage_of p) c
step_stage (going b is item) c = staged_if (is_digit c) _ _ _ _ refl (ends_stage b is c)
step_stage (going b is (digit x)) c =
    staged_if (is_digit c) _ _ _ _ refl (staged_if (eqb c 123) _ _ _ _ refl (ends_stage b (is ++ alone x ∷ []) c ∙ ap (λ t. ended (inside b) t c) (any_more is (alone x))))
step_stage (going b is (brace x)) c = staged_if (is_decimal c) _ _ _ _ refl refl
step_stage (going b is (count x ds)) c = staged_if (is_decimal c) _ _ _ _ refl (staged_if (eqb c 125) _ _ _ _ (ap (λ t. Some (stage.Item (inside b) t)) (any_more is (counted x ds))) refl)
step_stage (whole ps is) c = refl

-- no count of the whole items is 0
abbrev pub AllSome : Partial → Type 0
AllSome (going None is at) = AllByRecursion HasCount is
AllSome (going (Some ps) is at) = AllByRecursion HasCount ps × AllByRecursion HasCount is
AllSome (whole ps is) = AllByRecursion HasCount ps × AllByRecursion HasCount is

some-append : (is js : List WordItem) → AllByRecursion HasCount is → AllByRecursion HasCount js → AllByRecursion HasCount (is ++ js)
some-append [] js h k = k
some-append (i ∷ is) js h k = (h.0, some-append is js h.1 k)

some-left : (is js : List WordItem) → AllByRecursion HasCount (is ++ js) → AllByRecursion HasCount is
some-left [] js h = tt
some-left (i ∷ is) js h = (h.0, some-left is js h.1)

some-right : (is js : List WordItem) → AllByRecursion HasCount (is ++ js) → AllByRecursion HasCount js
some-right [] js h = h
some-right (i ∷ is) js h = some-right is js h.1

-- items are only added
abbrev IsAdded : Partial → Partial → Type 0
IsAdded p q = AllSome q → AllSome p

added : (b : Option (List WordItem)) (is js : List WordItem) (at bt : At) → IsAdded (going b is at) (going b (is ++ js) bt)
added None is js at bt h = some-left is js h
added (Some ps) is js at bt h = (h.0, some-left is js h.1)

same_items : (b : Option (List WordItem)) (is : List WordItem) (at bt : At) → IsAdded (going b is at) (going b is bt)
same_items None is at bt h = h
same_items (Some ps) is at bt h = h

ends_added : (b : Option (List WordItem)) (is : List WordItem) (at : At) (c : ℕ) (q : Partial) → ends b is c ≡ Some q → IsAdded (going b is at) q
ends_added None is at c q e =
    by_test (eqb c 40) (opened None is) (cond (eqb c 41) None None) q _ e
    (λ t r. let same : going (Some is) [] item ≡ q = cc in subst (λ (u : Partial). IsAdded (going None is at) u) same (λ h. h.0))
    (λ t r. by_test (eqb c 41) None None q _ r (λ u s. absurd cc) (λ u s. absurd cc))
ends_added (Some ps) [] at c q e =
    by_test (eqb c 40) None (cond (eqb c 41) None None) q _ e (λ t r. absurd cc) (λ t r. by_test (eqb c 41) None None q _ r (λ u s. absurd cc) (λ u s. absurd cc))
ends_added (Some ps) (i ∷ is) at c q e =
    by_test (eqb c 40) None (cond (eqb c 41) (Some (whole ps (i ∷ is))) None) q _ e (λ t r. absurd cc)
    (λ t r. by_test (eqb c 41) (Some (whole ps (i ∷ is))) None q _ r
    (λ u s. let same : whole ps (i ∷ is) ≡ q = cc in subst (λ (v : Partial). IsAdded (going (Some ps) (i ∷ is) at) v) same (λ h. h))
    (λ u s. absurd cc))

step_added : (p : Partial) (c : ℕ) (q : Partial) → step p c ≡ Some q → IsAdded p q
step_added (going b is item) c q e =
    by_test (is_digit c) _ (ends b is c) q _ e
    (λ t r. let same : going b is (digit (eqb c 49)) ≡ q = cc in subst (λ (u : Partial). IsAdded (going b is item) u) same (same_items b is item _))
    (λ t r. ends_added b is item c q r)
step_added (going b is (digit x)) c q e =
    by_test (is_digit c) _ (cond (eqb c 123) (Some (going b is (brace x))) (ends b (is ++ alone x ∷ []) c)) q _ e
    (λ t r. let same : going b (is ++ alone x ∷ []) (digit (eqb c 49)) ≡ q = cc in subst (λ (u : Partial). IsAdded (going b is (digit x)) u) same (added b is (alone x ∷ []) (digit x) _))
    (λ t r. by_test (eqb c 123) _ (ends b (is ++ alone x ∷ []) c) q _ r
    (λ u s. let same : going b is (brace x) ≡ q = cc in subst (λ (v : Partial). IsAdded (going b is (digit x)) v) same (same_items b is (digit x) (brace x)))
    (λ u s. λ h. added b is (alone x ∷ []) (digit x) item (ends_added b (is ++ alone x ∷ []) item c q s h)))
step_added (going b is (brace x)) c q e =
    by_test (is_decimal c) _ None q _ e
    (λ t r. let same : going b is (count x (c ∷ [])) ≡ q = cc in subst (λ (u : Partial). IsAdded (going b is (brace x)) u) same (same_items b is (brace x) _))
    (λ t r. absurd cc)
step_added (going b is (count x ds)) c q e =
    by_test (is_decimal c) _ (cond (eqb c 125) (Some (going b (is ++ counted x ds ∷ []) item)) None) q _ e
    (λ t r. let same : going b is (count x (ds ++ c ∷ [])) ≡ q = cc in subst (λ (u : Partial). IsAdded (going b is (count x ds)) u) same (same_items b is (count x ds) _))
    (λ t r. by_test (eqb c 125) _ None q _ r
    (λ u s. let same : going b (is ++ counted x ds ∷ []) item ≡ q = cc in subst (λ (v : Partial). IsAdded (going b is (count x ds)) v) same (added b is (counted x ds ∷ []) (count x ds) item))
    (λ u s. absurd cc))
step_added (whole ps is) c q e = absurd cc

run_added : (o : Option Partial) (text : List ℕ) (q : Partial) → run o text ≡ Some q → (p : Partial) → o ≡ Some p → IsAdded p q
run_added None text q h p e = absurd cc
run_added (Some r) [] q h p e = let same : q ≡ p = cc in subst (λ (u : Partial). IsAdded u q) same (λ x. x)
run_added (Some r) (c ∷ text) q h p e =
    let at : r ≡ p = cc in
    go (step r c) refl (λ m k x. subst AllSome at (step_added r c m k (run_added (step r c) text q h m k x)))
  where
    go : (o : Option Partial) → step r c ≡ o → ((m : Partial) → step r c ≡ Some m → IsAdded p q) → IsAdded p q
    go None k f = absurd (let no : None ≡ Some q = ap (λ u. run u text) (sym k) ∙ h in cc)
    go (Some m) k f = f m k

-- a text that is read to somewhere is read up to each place before
abbrev pub to : ℕ → List ℕ → Option Partial
to n text = run (Some start) (take n text)

no_more : (text : List ℕ) → run None text ≡ None
no_more text = refl

front_read : (text : List ℕ) (m n : ℕ) (q : Partial) → m ≤ n → to n text ≡ Some q →
    (p : Partial) × (to m text ≡ Some p) × (run (Some p) (drop m (take n text)) ≡ Some q)
front_read text m n q h e =
    let front : take m (take n text) ++ drop m (take n text) ≡ take n text = take-append-drop m (take n text) in
    let same : take m (take n text) ≡ take m text = take-take m n text h in
    let joined : take m text ++ drop m (take n text) ≡ take n text = cc in
    let all : run (to m text) (drop m (take n text)) ≡ Some q = sym (run_append (Some start) (take m text) (drop m (take n text))) ∙ ap (run (Some start)) joined ∙ e in
    go (to m text) refl all
  where
    go : (o : Option Partial) → to m text ≡ o → run o (drop m (take n text)) ≡ Some q →
        (p : Partial) × (to m text ≡ Some p) × (run (Some p) (drop m (take n text)) ≡ Some q)
    go None k r = absurd (let no : None ≡ Some q = r in cc)
    go (Some p) k r = (p, k, r)

-- a count that is 0, up to its end: the bytes from its first digit on are decimal digits
pub record ZeroEnd (text : List ℕ) (place : ℕ) : Type 0 where
  pub stop : ℕ
  pub within : stop ≤ length text
  pub state : Partial
  pub reads : to stop text ≡ Some state
  pub zero : AllSome state → ⊥
  pub past : place + 1 < stop
  pub digits : (k : ℕ) → place ≤ k → k + 1 < stop → is_decimal (get_or text k 0) ≡ true

none_some : (b : Option (List WordItem)) (is : List WordItem) (x : Bool) (ds : List ℕ) → digits_value 10 ds ≡ 0 →
    AllSome (going b (is ++ counted x ds ∷ []) item) → ⊥
none_some None is x ds e h = omega (arith, e, (some-right is (counted x ds ∷ []) h).0)
none_some (Some ps) is x ds e h = omega (arith, e, (some-right is (counted x ds ∷ []) h.1).0)

-- whole items, and then one with a count
read_zero : (front : List ℕ) (x : Bool) (ds : List ℕ) → AreItems front → IsNumeral 10 ds → digits_value 10 ds ≡ 0 →
    (state : Partial) × (run (Some start) (front ++ item_text (counted x ds)) ≡ Some state) × (AllSome state → ⊥)
read_zero front x ds (inl (is, h, e)) k z =
    let a = read_items None [] item is tt h in (
      going None (settled a.items a.place ++ counted x ds ∷ []) item,
      ap (λ u. run (Some start) (u ++ item_text (counted x ds))) e ∙ a.runs (item_text (counted x ds)) ∙ read_counted None a.items a.place x ds a.between k,
      none_some None (settled a.items a.place) x ds z,
    )
read_zero front x ds (inr (is, js, h, g, e)) k z =
    let a = read_items None [] item is tt h in
    let ps : List WordItem = settled a.items a.place in
    let c = read_items (Some ps) [] item js tt g in (
      going (Some ps) (settled c.items c.place ++ counted x ds ∷ []) item,
      ap (λ u. run (Some start) (u ++ item_text (counted x ds))) e
          ∙ ap (run (Some start)) (append_assoc (items_text is) (40 ∷ items_text js) (item_text (counted x ds)))
          ∙ a.runs (40 ∷ (items_text js ++ item_text (counted x ds)))
          ∙ ap (λ o. run o (items_text js ++ item_text (counted x ds))) (open_runs a.items a.place a.between)
          ∙ c.runs (item_text (counted x ds)) ∙ read_counted (Some ps) c.items c.place x ds c.between k,
      none_some (Some ps) (settled c.items c.place) x ds z,
    )

decimal_at : (ds : List ℕ) (k : ℕ) → AllDigits 10 ds → k < length ds → is_decimal (get_or ds k 0) ≡ true
decimal_at ds k h n =
    let r = digit_at ds k h n in
    let low : 48 ≤ get_or ds k 0 = r.0 in
    let high : get_or ds k 0 ≤ 57 = r.1 in
    grind (arith, nat_tests)

pub zero_end : (text : List ℕ) (place : ℕ) → IsZeroAt text place → ZeroEnd text place
zero_end text place z =
    let F : List ℕ = z.front ++ item_text (counted z.bit z.digits) in
    let r = read_zero z.front z.bit z.digits z.items z.numeral z.zero in
    let whole' : text ≡ F ++ z.rest = z.whole ∙ sym (append_assoc z.front (item_text (counted z.bit z.digits)) z.rest) in
    let lead : List ℕ = z.front ++ digit_of z.bit ∷ 123 ∷ [] in
    let tail : List ℕ = z.digits ++ 125 ∷ z.rest in
    let apart : text ≡ lead ++ tail =
    z.whole ∙ ap (λ u. z.front ++ digit_of z.bit ∷ 123 ∷ u) (append_assoc z.digits (125 ∷ []) z.rest) ∙ sym (append_assoc z.front (digit_of z.bit ∷ 123 ∷ []) tail) in
    let lead_length : length lead ≡ place = omega (arith, length-append z.front (digit_of z.bit ∷ 123 ∷ []), z.at) in
    let F_length : length F ≡ place + length z.digits + 1 =
    omega (arith, z.at, length-append z.front (item_text (counted z.bit z.digits)), length-append z.digits (125 ∷ [])) in
    record {
      stop = length F;
      within = omega (arith, ap length whole', length-append F z.rest);
      state = r.0;
      reads = ap (λ u. run (Some start) (take (length F) u)) whole' ∙ ap (run (Some start)) (take_at F z.rest (length F) refl) ∙ r.1;
      zero = r.2;
      past = omega (arith, F_length, z.numeral.0);
      digits = λ k h n.
          let m : k - place < length z.digits = omega (arith, h, n, F_length) in
          let at : get_or text k 0 ≡ get_or z.digits (k - place) 0 =
          ap (λ u. get_or u k 0) apart ∙ get_or-append_right lead tail place k 0 lead_length h ∙ get_or_append_left z.digits (125 ∷ z.rest) 0 (k - place) m in
          ap is_decimal at ∙ decimal_at z.digits (k - place) z.numeral.1 m;
    }

-- up to a place that is read with counts no count is 0
pub no_zero_before : (text : List ℕ) (i : ℕ) (p : Partial) → to i text ≡ Some p → AllSome p → (place : ℕ) → (z : ZeroEnd text place) →
    i < z.stop
no_zero_before text i p e h place z =
    elim (cases_lt i z.stop) [
      | inl less ↦ less
      | inr not_less ↦
          let r = front_read text z.stop i p not_less e in
          let same : Some z.state ≡ Some r.0 = sym z.reads ∙ r.1 in
          let at : r.0 ≡ z.state = cc in
          absurd (z.zero (subst AllSome at (run_added (Some r.0) (drop z.stop (take i text)) p r.2 r.0 refl h)))
    ]

-- a place where the form breaks is not before one that is read
pub no_break_before : (text : List ℕ) (i : ℕ) (p : Partial) → to i text ≡ Some p → i ≤ length text → (place : ℕ) → IsUnfitAt text place →
    i ≤ place
no_break_before text i p e within place u =
    elim (cases_lt place i) [
      | inr not_less ↦ not_less
      | inl less ↦
          let r = front_read text (place + 1) i p (omega (arith, less)) e in
          absurd (u.stops (omega (arith, less, within)) (read_begins (take (place + 1) text) r.0 r.1))
    ]

-- what the loop keeps
abbrev pub IsPending : Partial → Bool → ℕ → ℕ → Type 0
IsPending (going b is (count x ds)) all from i = (all ≡ eqb (digits_value 10 ds) 0) × (from + length ds ≡ i)
IsPending (going b is item) all from i = all ≡ false
IsPending (going b is (digit x)) all from i = all ≡ false
IsPending (going b is (brace x)) all from i = all ≡ false
IsPending (whole ps is) all from i = all ≡ false

pub record Checked (text : List ℕ) (i from : ℕ) (all : Bool) (at : stage_type.Stage) : Type 0 where
  pub within : i ≤ length text
  pub state : Partial
  pub reads : to i text ≡ Some state
  pub staged : stage_of state ≡ at
  pub some : AllSome state
  pub pending : IsPending state all from i

pub checked_first : (text : List ℕ) → Checked text 0 0 false (stage.Item false false)
checked_first text = record { within = omega arith; state = start; reads = refl; staged = refl; some = tt; pending = refl }

-- one byte more
and_false : (b : Bool) → (b && false) ≡ false
and_false true = refl
and_false false = refl

not_zero : (c : ℕ) (k : ℕ) → c ≡ k → (k ≡ 48 → ⊥) → eqb c 48 ≡ false
not_zero c k e n = let m : c ≡ 48 → ⊥ = λ f. n (sym e ∙ f) in grind (arith, nat_tests)

some_of : (b : Option (List WordItem)) (is js : List WordItem) (at bt : At) → AllByRecursion HasCount js → AllSome (going b is at) →
    AllSome (going b (is ++ js) bt)
some_of None is js at bt k h = some-append is js h k
some_of (Some ps) is js at bt k h = (h.0, some-append is js h.1 k)

keep_some : (b : Option (List WordItem)) (is : List WordItem) (at bt : At) → AllSome (going b is at) → AllSome (going b is bt)
keep_some None is at bt h = h
keep_some (Some ps) is at bt h = h

ends_some : (b : Option (List WordItem)) (is : List WordItem) (at : At) (c : ℕ) (q : Partial) (all : Bool) (from i : ℕ) → all ≡ false →
    AllSome (going b is at) → ends b is c ≡ Some q → AllSome q × IsPending q all from i
ends_some None is at c q all from i z h e =
    by_test (eqb c 40) (opened None is) (cond (eqb c 41) None None) q _ e
    (λ t r. let same : going (Some is) [] item ≡ q = cc in subst (λ (u : Partial). AllSome u × IsPending u all from i) same ((h, tt), z))
    (λ t r. by_test (eqb c 41) None None q _ r (λ u s. absurd cc) (λ u s. absurd cc))
ends_some (Some ps) [] at c q all from i z h e =
    by_test (eqb c 40) None (cond (eqb c 41) None None) q _ e (λ t r. absurd cc) (λ t r. by_test (eqb c 41) None None q _ r (λ u s. absurd cc) (λ u s. absurd cc))
ends_some (Some ps) (j ∷ is) at c q all from i z h e =
    by_test (eqb c 40) None (cond (eqb c 41) (Some (whole ps (j ∷ is))) None) q _ e (λ t r. absurd cc)
    (λ t r. by_test (eqb c 41) (Some (whole ps (j ∷ is))) None q _ r
    (λ u s. let same : whole ps (j ∷ is) ≡ q = cc in subst (λ (v : Partial). AllSome v × IsPending v all from i) same (h, z))
    (λ u s. absurd cc))

no_zero : (all : Bool) (c : ℕ) → all ≡ false → (all && eqb c 48) ≡ false
no_zero all c z = ap (λ b. b && eqb c 48) z

value_first : (c : ℕ) → is_decimal c ≡ true → eqb c 48 ≡ eqb (digits_value 10 (c ∷ [])) 0
value_first c h =
    let low : 48 ≤ c = grind (arith, nat_tests) in
    let high : c ≤ 57 = grind (arith, nat_tests) in
    let v : digit_value c + 48 ≡ c = digit_value_digit c (low, high) in
    let w : digits_value 10 (c ∷ []) ≡ 0 * 10 + digit_value c = digits_value_push 10 [] c in
    grind (arith, nat_tests)

value_next : (c : ℕ) (ds : List ℕ) (all : Bool) → is_decimal c ≡ true → all ≡ eqb (digits_value 10 ds) 0 →
    (all && eqb c 48) ≡ eqb (digits_value 10 (ds ++ c ∷ [])) 0
value_next c ds all h e =
    let low : 48 ≤ c = grind (arith, nat_tests) in
    let high : c ≤ 57 = grind (arith, nat_tests) in
    let v : digit_value c + 48 ≡ c = digit_value_digit c (low, high) in
    let w : digits_value 10 (ds ++ c ∷ []) ≡ digits_value 10 ds * 10 + digit_value c = digits_value_push 10 ds c in
    ap (λ b. b && eqb c 48) e ∙ go (digits_value 10 ds) (digit_value c) (digits_value 10 (ds ++ c ∷ [])) v w
  where
    go : (n d m : ℕ) → d + 48 ≡ c → m ≡ n * 10 + d → (eqb n 0 && eqb c 48) ≡ eqb m 0
    go n d m f g = grind (arith, nat_tests)

-- the same, with what is kept of the count as it is given
record Goes (q : Partial) (all : Bool) (from i : ℕ) : Type 0 where
  some : AllSome q
  pending : IsPending q all from i

goes_at : (q r : Partial) (all : Bool) (from i : ℕ) → Some r ≡ Some q → Goes r all from i → Goes q all from i
goes_at q r all from i e g = let same : r ≡ q = cc in subst (λ (u : Partial). Goes u all from i) same g

goes_ends : (b : Option (List WordItem)) (is : List WordItem) (at : At) (c : ℕ) (q : Partial) (all : Bool) (from i : ℕ) → all ≡ false →
    AllSome (going b is at) → ends b is c ≡ Some q → Goes q all from i
goes_ends b is at c q all from i z h e = let x = ends_some b is at c q all from i z h e in record { some = x.0; pending = x.1 }

goes_digit : (b : Option (List WordItem)) (is js : List WordItem) (at : At) (x all : Bool) (from i : ℕ) → AllByRecursion HasCount js →
    AllSome (going b is at) → all ≡ false → Goes (going b (is ++ js) (digit x)) all from i
goes_digit b is js at x all from i k h z = record { some = some_of b is js at (digit x) k h; pending = z }

goes_item : (b : Option (List WordItem)) (is : List WordItem) (c : ℕ) (q : Partial) (all : Bool) (from i : ℕ) → step (going b is item) c ≡ Some q →
    AllSome (going b is item) → all ≡ false → Goes q all from i
goes_item b is c q all from i e h z =
    by_test (is_digit c) (Some (going b is (digit (eqb c 49)))) (ends b is c) q _ e
    (λ t r. goes_at q (going b is (digit (eqb c 49))) all from i r (record { some = keep_some b is item (digit (eqb c 49)) h; pending = z }))
    (λ t r. goes_ends b is item c q all from i z h r)

goes_behind : (b : Option (List WordItem)) (is : List WordItem) (x : Bool) (c : ℕ) (q : Partial) (all : Bool) (from i : ℕ) →
    step (going b is (digit x)) c ≡ Some q → AllSome (going b is (digit x)) → all ≡ false → Goes q all from i
goes_behind b is x c q all from i e h z =
    by_test (is_digit c) (Some (going b (is ++ alone x ∷ []) (digit (eqb c 49)))) (cond (eqb c 123) (Some (going b is (brace x))) (ends b (is ++ alone x ∷ []) c)) q _ e
    (λ t r. goes_at q (going b (is ++ alone x ∷ []) (digit (eqb c 49))) all from i r (goes_digit b is (alone x ∷ []) (digit x) (eqb c 49) all from i (omega arith, tt) h z))
    (λ t r. by_test (eqb c 123) (Some (going b is (brace x))) (ends b (is ++ alone x ∷ []) c) q _ r
    (λ u s. goes_at q (going b is (brace x)) all from i s (record { some = keep_some b is (digit x) (brace x) h; pending = z }))
    (λ u s. goes_ends b (is ++ alone x ∷ []) item c q all from i z (some_of b is (alone x ∷ []) (digit x) item (omega arith, tt) h) s))

goes_brace : (b : Option (List WordItem)) (is : List WordItem) (x : Bool) (c : ℕ) (q : Partial) (i : ℕ) → step (going b is (brace x)) c ≡ Some q →
    AllSome (going b is (brace x)) → Goes q (eqb c 48) i (i + 1)
goes_brace b is x c q i e h =
    by_test (is_decimal c) (Some (going b is (count x (c ∷ [])))) None q _ e
    (λ t r. goes_at q (going b is (count x (c ∷ []))) (eqb c 48) i (i + 1) r (record { some = keep_some b is (brace x) (count x (c ∷ [])) h; pending = (value_first c t, refl) }))
    (λ t r. absurd cc)

positive_from : (a : Bool) (es : List ℕ) → a ≡ eqb (digits_value 10 es) 0 → (a ≡ true → ⊥) → 0 < digits_value 10 es
positive_from true es f g = absurd (g refl)
positive_from false es f g = positive (digits_value 10 es) f
  where
    positive : (n : ℕ) → false ≡ eqb n 0 → 0 < n
    positive n h = grind (arith, nat_tests)

goes_count : (b : Option (List WordItem)) (is : List WordItem) (x : Bool) (ds : List ℕ) (c : ℕ) (q : Partial) (all : Bool) (from i : ℕ) →
    step (going b is (count x ds)) c ≡ Some q → AllSome (going b is (count x ds)) →
    all ≡ eqb (digits_value 10 ds) 0 → from + length ds ≡ i → (all ≡ true → c ≡ 125 → ⊥) → Goes q (all && eqb c 48) from (i + 1)
goes_count b is x ds c q all from i e h z at n =
    by_test (is_decimal c) (Some (going b is (count x (ds ++ c ∷ [])))) (cond (eqb c 125) (Some (going b (is ++ counted x ds ∷ []) item)) None) q _ e
    (λ t r. goes_at q (going b is (count x (ds ++ c ∷ []))) (all && eqb c 48) from (i + 1) r
    (record { some = keep_some b is (count x ds) (count x (ds ++ c ∷ [])) h; pending = (value_next c ds all t z, omega (arith, at, length-append ds (c ∷ []))) }))
    (λ t r. by_test (eqb c 125) (Some (going b (is ++ counted x ds ∷ []) item)) None q _ r
    (λ u s.
    let k : c ≡ 125 = eqb-true c 125 u in
    goes_at q (going b (is ++ counted x ds ∷ []) item) (all && eqb c 48) from (i + 1) s
    (record { some = some_of b is (counted x ds ∷ []) (count x ds) item (positive_from all ds z (λ f. n f k), tt) h; pending = ap (λ t. all && t) (not_zero c 125 k (λ f. absurd cc)) ∙ and_false all }))
    (λ u s. absurd cc))

went : (p : Partial) (c : ℕ) (q : Partial) (all : Bool) (from i : ℕ) → step p c ≡ Some q → AllSome p → IsPending p all from i →
    (all ≡ true → c ≡ 125 → ⊥) → Goes q (all_zeros (stage_of p) all c) (count_from (stage_of p) i from) (i + 1)
went (going b is item) c q all from i e h z n = goes_item b is c q (all && eqb c 48) from (i + 1) e h (no_zero all c z)
went (going b is (digit x)) c q all from i e h z n = goes_behind b is x c q (all && eqb c 48) from (i + 1) e h (no_zero all c z)
went (going b is (brace x)) c q all from i e h z n = goes_brace b is x c q i e h
went (going b is (count x ds)) c q all from i e h z n = goes_count b is x ds c q all from i e h z.0 z.1 n
went (whole ps is) c q all from i e h z n = absurd cc

pub checked_more : (text : List ℕ) (i from : ℕ) (all : Bool) (s t : stage_type.Stage) → Checked text i from all s → i < length text →
    next s (get_or text i 0) ≡ Some t → (all ≡ true → get_or text i 0 ≡ 125 → ⊥) →
    Checked text (i + 1) (count_from s i from) (all_zeros s all (get_or text i 0)) t
checked_more text i from all s t k less e n =
    let c : ℕ = get_or text i 0 in
    let at : staged (step k.state c) ≡ Some t = step_stage k.state c ∙ ap (λ u. next u c) k.staged ∙ e in
    go (step k.state c) refl at
  where
    go : (o : Option Partial) → step k.state (get_or text i 0) ≡ o → staged o ≡ Some t →
        Checked text (i + 1) (count_from s i from) (all_zeros s all (get_or text i 0)) t
    go None f g = absurd (let no : None ≡ Some t = g in cc)
    go (Some q) f g =
        let w = went k.state (get_or text i 0) q all from i f k.some k.pending n in
        let P : stage_type.Stage → Type 0 = λ u. IsPending q (all_zeros u all (get_or text i 0)) (count_from u i from) (i + 1) in
        record {
          within = omega (arith, less);
          state = q;
          reads = ap (run (Some start)) (take_more text i 0 less) ∙ run_append (Some start) (take i text) (get_or text i 0 ∷ []) ∙ ap (λ o. run o (get_or text i 0 ∷ [])) k.reads ∙ ap (λ o. run o []) f;
          staged = cc;
          some = w.some;
          pending = subst P k.staged w.pending;
        }

-- the ways out
none_read : (text : List ℕ) (i : ℕ) (f : WordForm) → IsForm f → text ≡ form_text f → to i text ≡ None → ⊥
none_read text i f h e none =
    let all : run (to i text) (drop i text) ≡ Some (whole f.prefix f.period) =
    sym (run_append (Some start) (take i text) (drop i text)) ∙ ap (run (Some start)) (take-append-drop i text ∙ e) ∙ form_runs f h in
    let no : None ≡ Some (whole f.prefix f.period) = ap (λ o. run o (drop i text)) (sym none) ∙ all in
    cc

-- no place before one that is read is bad
not_before : (text : List ℕ) (i : ℕ) (p : Partial) → to i text ≡ Some p → AllSome p → i ≤ length text → (place : ℕ) → IsBreak text place →
    ((z : ZeroEnd text place) → i ≤ place) → i ≤ place
not_before text i p e h within place (inl u) f = no_break_before text i p e within place u
not_before text i p e h within place (inr z) f = f (zero_end text place z)

-- the byte doesn't fit
pub bad_byte : (text : List ℕ) (i from : ℕ) (all : Bool) (s : stage_type.Stage) → Checked text i from all s → i < length text →
    next s (get_or text i 0) ≡ None → IsBadAt text i
bad_byte text i from all s k less e =
    let c : ℕ = get_or text i 0 in
    let at : staged (step k.state c) ≡ None = step_stage k.state c ∙ ap (λ u. next u c) k.staged ∙ e in
    let none : to (i + 1) text ≡ None = ap (run (Some start)) (take_more text i 0 less) ∙ run_append (Some start) (take i text) (c ∷ []) ∙ ap (λ o. run o (c ∷ [])) k.reads ∙ ap (λ o. run o []) (gone (step k.state c) at) in
    record {
      breaks = inl (record {
        none = λ f h g. none_read text (i + 1) f h g none;
        within = k.within;
        fits = read_begins (take i text) k.state k.reads;
        stops = λ l b. begins_read (take (i + 1) text) b none;
      });
      least = λ place b. not_before text i k.state k.reads k.some k.within place b (λ z.
          let late : i < z.stop = no_zero_before text i k.state k.reads k.some place z in
          let r = front_read text (i + 1) z.stop z.state (omega (arith, late)) z.reads in
          absurd (let no : None ≡ Some r.0 = sym none ∙ r.1 in cc));
    }
  where
    gone : (o : Option Partial) → staged o ≡ None → o ≡ None
    gone None g = refl
    gone (Some q) g = absurd cc

-- more is missing at the end
pub bad_end : (text : List ℕ) (from : ℕ) (all : Bool) (s : stage_type.Stage) (i : ℕ) → Checked text i from all s → i ≡ length text →
    (s ≡ stage.Closed → ⊥) → IsBadAt text i
bad_end text from all s i k e n =
    let whole' : take i text ≡ text = take_all i text (omega (arith, e)) in
    record {
      breaks = inl (record {
        none = λ f h g.
            let same : Some (whole f.prefix f.period) ≡ Some k.state = sym (form_runs f h) ∙ ap (run (Some start)) (sym g ∙ sym whole') ∙ k.reads in
            let at : k.state ≡ whole f.prefix f.period = cc in
            n (sym k.staged ∙ ap stage_of at);
        within = k.within;
        fits = read_begins (take i text) k.state k.reads;
        stops = λ l b. omega (arith, l, e);
      });
      least = λ place b. not_before text i k.state k.reads k.some k.within place b (λ z. absurd (omega (arith, no_zero_before text i k.state k.reads k.some place z, z.within, e)));
    }

-- a count is 0
record ZeroHere (text : List ℕ) (i from : ℕ) : Type 0 where
  is : IsZeroAt text from
  open_at : get_or text (from - 1) 0 ≡ 123
  early : 2 ≤ from

zero_here : (text : List ℕ) (i from : ℕ) (x : Bool) (ds F : List ℕ) → AreItems F → IsNumeral 10 ds → digits_value 10 ds ≡ 0 →
    take i text ≡ F ++ digit_of x ∷ 123 ∷ ds → i < length text → get_or text i 0 ≡ 125 → from + length ds ≡ i → ZeroHere text i from
zero_here text i from x ds F h k z front less last at =
    let rest : List ℕ = drop (i + 1) text in
    let more : take (i + 1) text ≡ (F ++ digit_of x ∷ 123 ∷ ds) ++ 125 ∷ [] = take_more text i 0 less ∙ ap (λ u. u ++ get_or text i 0 ∷ []) front ∙ ap (λ c. (F ++ digit_of x ∷ 123 ∷ ds) ++ c ∷ []) last in
    let near : (F ++ digit_of x ∷ 123 ∷ ds) ++ 125 ∷ [] ≡ F ++ item_text (counted x ds) = append_assoc F (digit_of x ∷ 123 ∷ ds) (125 ∷ []) in
    let all : text ≡ F ++ (item_text (counted x ds) ++ rest) =
    sym (take-append-drop (i + 1) text) ∙ ap (λ u. u ++ rest) (more ∙ near) ∙ append_assoc F (item_text (counted x ds)) rest in
    let size : length F + 2 + length ds ≡ i = omega (arith, ap length front, length-take-le i text (omega (arith, less)), length-append F (digit_of x ∷ 123 ∷ ds)) in
    let lead : List ℕ = F ++ digit_of x ∷ [] in
    let tail : List ℕ = 123 ∷ ((ds ++ 125 ∷ []) ++ rest) in
    let apart : text ≡ lead ++ tail = all ∙ sym (append_assoc F (digit_of x ∷ []) tail) in
    let n : length lead ≡ from - 1 = omega (arith, size, at, length-append F (digit_of x ∷ [])) in
    record {
      is = record { front = F; items = h; bit = x; digits = ds; rest = rest; whole = all; numeral = k; zero = z; at = omega (arith, size, at) };
      open_at = ap (λ u. get_or u (from - 1) 0) apart ∙ get_or-append_right lead tail (from - 1) (from - 1) 0 n (omega arith) ∙ ap (λ m. get_or tail m 0) (let e : from - 1 - (from - 1) ≡ 0 = omega arith in e);
      early = omega (arith, size, at);
    }

no_decimal : (c : ℕ) → c ≡ 123 → is_decimal c ≡ true → ⊥
no_decimal c e h = let f : is_decimal 123 ≡ true = ap is_decimal (sym e) ∙ h in both_ways false refl f

pub bad_zero : (text : List ℕ) (i from : ℕ) (s t : stage_type.Stage) → Checked text i from true s → i < length text →
    next s (get_or text i 0) ≡ Some t → get_or text i 0 ≡ 125 → IsBadAt text from
bad_zero text i from s t k less e last =
    let c : ℕ = get_or text i 0 in
    let at : staged (step k.state c) ≡ Some t = step_stage k.state c ∙ ap (λ u. next u c) k.staged ∙ e in
    let z = here k.state k.reads k.pending in
    record {
      breaks = inr z.is;
      least = λ place b. least place b (go (step k.state c) refl at) z;
    }
  where
    here : (p : Partial) → to i text ≡ Some p → IsPending p true from i → ZeroHere text i from
    here (going None is item) r g = absurd cc
    here (going (Some ps) is item) r g = absurd cc
    here (going None is (digit x)) r g = absurd cc
    here (going (Some ps) is (digit x)) r g = absurd cc
    here (going None is (brace x)) r g = absurd cc
    here (going (Some ps) is (brace x)) r g = absurd cc
    here (whole ps is) r g = absurd cc
    here (going None is (count x ds)) r g =
        let a = ran (Some start) (take i text) (going None is (count x ds)) r start refl in
        let w = a.is (tt, tt) in
        zero_here text i from x ds (items_text is) (inl (is, w.0, refl)) w.1 (eqb-true (digits_value 10 ds) 0 (sym g.0)) (sym a.reads) less last g.1
    here (going (Some ps) is (count x ds)) r g =
        let a = ran (Some start) (take i text) (going (Some ps) is (count x ds)) r start refl in
        let w = a.is (tt, tt) in
        zero_here text i from x ds (items_text ps ++ 40 ∷ items_text is) (inr (ps, is, w.0, w.1.0, refl)) w.1.1 (eqb-true (digits_value 10 ds) 0 (sym g.0))
        (sym a.reads ∙ sym (append_assoc (items_text ps) (40 ∷ items_text is) (digit_of x ∷ 123 ∷ ds))) less last g.1

    go : (o : Option Partial) → step k.state (get_or text i 0) ≡ o → staged o ≡ Some t → (q : Partial) × (to (i + 1) text ≡ Some q)
    go None f g = absurd (let no : None ≡ Some t = g in cc)
    go (Some q) f g = (q, ap (run (Some start)) (take_more text i 0 less) ∙ run_append (Some start) (take i text) (get_or text i 0 ∷ []) ∙ ap (λ o. run o (get_or text i 0 ∷ [])) k.reads ∙ ap (λ o. run o []) f)

    within_place : ZeroHere text i from → from ≤ i
    within_place z = within_place_of k.state k.pending
      where
        within_place_of : (p : Partial) → IsPending p true from i → from ≤ i
        within_place_of (going b is (count x ds)) g = omega (arith, g.1)
        within_place_of (going b is item) g = absurd cc
        within_place_of (going b is (digit x)) g = absurd cc
        within_place_of (going b is (brace x)) g = absurd cc
        within_place_of (whole ps is) g = absurd cc

    least : (place : ℕ) → IsBreak text place → (q : Partial) × (to (i + 1) text ≡ Some q) → ZeroHere text i from → from ≤ place
    least place (inl u) q z = omega (arith, no_break_before text (i + 1) q.0 q.1 (omega (arith, less)) place u, within_place z)
    least place (inr u) q z =
        let end = zero_end text place u in
        let late : i < end.stop = no_zero_before text i k.state k.reads k.some place end in
        elim (cases_lt place from) [
          | inr not_less ↦ not_less
          | inl before ↦ absurd (no_decimal (get_or text (from - 1) 0) z.open_at (end.digits (from - 1) (omega (arith, before)) (omega (arith, late, within_place z, z.early))))
        ]

-- all is read
pub good_text : (text : List ℕ) (from : ℕ) (all : Bool) (i : ℕ) → Checked text i from all stage.Closed → i ≡ length text →
    (w : Bits) × Spells text w
good_text text from all i k e = go k.state k.reads k.staged k.some
  where
    go : (p : Partial) → to i text ≡ Some p → stage_of p ≡ stage.Closed → AllSome p → (w : Bits) × Spells text w
    go (going b is item) r g h = absurd cc
    go (going b is (digit x)) r g h = absurd cc
    go (going b is (brace x)) r g h = absurd cc
    go (going b is (count x ds)) r g h = absurd cc
    go (whole ps is) r g h =
        let a = ran (Some start) (take i text) (whole ps is) r start refl in
        let w = a.is (tt, tt) in
        let f : WordForm = record { prefix = ps; period = is } in (
          form_bits f,
          record {
            form = f;
            is_form = record { prefix = w.0; period = w.1.0; nonempty = w.1.1 };
            counts = record { prefix = h.0; period = h.1 };
            shape = sym (take_all i text (omega (arith, e))) ∙ sym a.reads;
            bits = refl;
          },
        )

-- the stages of a form's text
run_stage : (o : Option Partial) (text : List ℕ) → staged (run o text) ≡ behind (staged o) text
run_stage None text = refl
run_stage (Some p) [] = refl
run_stage (Some p) (c ∷ text) = run_stage (step p c) text ∙ ap (λ o. behind o text) (step_stage p c)

pub form_closes : (f : WordForm) → IsForm f → behind (Some begin) (form_text f) ≡ Some stage.Closed
form_closes f h = sym (run_stage (Some start) (form_text f)) ∙ ap staged (form_runs f h)
