-- A text of a form read byte by byte: what was read is a front of a form.
use Rattle.std.proofs.Common.{ℕ, ◌<◌, ◌≤◌, ◌≡◌, Bool, true, false, cond, eqb, List, [], ◌∷◌, ◌++◌, length, Option, Some, None, ap, sym, refl, ◌∙◌, subst, arith, append_assoc, length-append}
use Rattle.std.specs.List.{AllByRecursion}
use Rattle.std.specs.Char.{digit_value}
use Rattle.std.specs.Str.Parse.{IsNumeral, AllDigits}
use Rattle.std.proofs.lemmas.List.{append-nil}
use Rattle.std.proofs.lemmas.Bool.Decides.{nat_tests}
use Rattle.lucy_word.specs.Items.{WordItem, alone, counted, digit_of, item_text, items_text, IsItem, WordForm, form_text, IsForm}
use Rattle.lucy_word.specs.Spelling.{is_digit}
use Rattle.lucy_word.specs.Forms.{BeginsForm}
use Rattle.lucy_word.specs.Stages.{is_decimal}
use Rattle.lucy_word.specs.Partials.{At, item, digit, brace, count, Partial, going, whole, opened, shut, ends, step, run, start}
use Rattle.std.proofs.lemmas.Str.{digit_value_digit}
use Rattle.std.proofs.lemmas.Str.Parse.{digit_from_value}
use Rattle.std.proofs.lemmas.Bool.{eqb-true}
use Rattle.lucy_word.proofs.RunLaws.{text-append}

abbrev pub at_text : At → List ℕ
at_text item = []
at_text (digit x) = digit_of x ∷ []
at_text (brace x) = digit_of x ∷ 123 ∷ []
at_text (count x ds) = digit_of x ∷ 123 ∷ ds

abbrev pub partial_text : Partial → List ℕ
partial_text (going None is at) = items_text is ++ at_text at
partial_text (going (Some ps) is at) = items_text ps ++ 40 ∷ (items_text is ++ at_text at)
partial_text (whole ps is) = items_text ps ++ 40 ∷ (items_text is ++ 41 ∷ [])

abbrev pub IsAt : At → Type 0
IsAt item = Unit {0}
IsAt (digit x) = Unit {0}
IsAt (brace x) = Unit {0}
IsAt (count x ds) = IsNumeral 10 ds

abbrev pub IsPartial : Partial → Type 0
IsPartial (going None is at) = AllByRecursion IsItem is × IsAt at
IsPartial (going (Some ps) is at) = AllByRecursion IsItem ps × (AllByRecursion IsItem is × IsAt at)
IsPartial (whole ps is) = AllByRecursion IsItem ps × (AllByRecursion IsItem is × (0 < length is))

-- by a test
pub by_test : {A : Type 0} (t : Bool) (x y : Option A) (r : A) (P : Type 0) → cond t x y ≡ Some r → (t ≡ true → x ≡ Some r → P) →
    (t ≡ false → y ≡ Some r → P) → P
by_test true x y r P e f g = f refl e
by_test false x y r P e f g = g refl e

all-append : (is js : List WordItem) → AllByRecursion IsItem is → AllByRecursion IsItem js → AllByRecursion IsItem (is ++ js)
all-append [] js h k = k
all-append (i ∷ is) js h k = (h.0, all-append is js h.1 k)

digits-append : (ds : List ℕ) (c : ℕ) → AllDigits 10 ds → digit_value c < 10 → AllDigits 10 (ds ++ c ∷ [])
digits-append [] c h k = (k, tt)
digits-append (d ∷ ds) c h k = (h.0, digits-append ds c h.1 k)

digit_again : (c : ℕ) → is_digit c ≡ true → digit_of (eqb c 49) ≡ c
digit_again c h = grind (arith, nat_tests)

decimal_so : (c : ℕ) → is_decimal c ≡ true → digit_value c < 10
decimal_so c h =
    let low : 48 ≤ c = grind (arith, nat_tests) in
    let high : c ≤ 57 = grind (arith, nat_tests) in
    omega (arith, digit_value_digit c (low, high))

-- what is read is so, and was a byte shorter
pub record Stepped (p : Partial) (c : ℕ) (q : Partial) : Type 0 where
  pub text : partial_text q ≡ partial_text p ++ c ∷ []
  pub is : IsPartial p → IsPartial q

-- texts of parts: with a prefix before them or not
outside : (b : Option (List WordItem)) (is js : List WordItem) (at bt : At) (c : ℕ) →
    items_text js ++ at_text bt ≡ (items_text is ++ at_text at) ++ c ∷ [] →
    (AllByRecursion IsItem is × IsAt at → AllByRecursion IsItem js × IsAt bt) → Stepped (going b is at) c (going b js bt)
outside None is js at bt c e f = record { text = e; is = f }
outside (Some ps) is js at bt c e f = record {
  text = ap (λ u. items_text ps ++ 40 ∷ u) e ∙ sym (append_assoc (items_text ps) (40 ∷ (items_text is ++ at_text at)) (c ∷ []));
  is = λ h. (h.0, f h.1);
}

begins_count : (is : List WordItem) (at : At) (more : List ℕ) (c : ℕ) → at_text at ++ c ∷ [] ≡ more →
    items_text is ++ more ≡ (items_text is ++ at_text at) ++ c ∷ []
begins_count is at more c e = ap (λ u. items_text is ++ u) (sym e) ∙ sym (append_assoc (items_text is) (at_text at) (c ∷ []))

one_more : (is : List WordItem) (i : WordItem) (rest : List ℕ) → items_text (is ++ i ∷ []) ++ rest ≡ items_text is ++ (item_text i ++ rest)
one_more is i rest =
    ap (λ u. u ++ rest) (text-append is (i ∷ []) ∙ ap (λ u. items_text is ++ u) (append-nil (item_text i))) ∙ append_assoc (items_text is) (item_text i) rest

ended : (b : Option (List WordItem)) (is js : List WordItem) (at : At) (c : ℕ) (q : Partial) → items_text js ≡ items_text is ++ at_text at →
    (AllByRecursion IsItem is × IsAt at → AllByRecursion IsItem js) →
    ends b js c ≡ Some q → Stepped (going b is at) c q
ended b is js at c q e f h =
    by_test (eqb c 40) (opened b js) (cond (eqb c 41) (shut b js) None) q _ h (λ t r. at_open b (eqb-true c 40 t) r) (λ t r. by_test (eqb c 41) (shut b js) None q _ r (λ u s. at_close b js refl (eqb-true c 41 u) s) (λ u s. absurd cc))
  where
    at_open : (a : Option (List WordItem)) → c ≡ 40 → opened a js ≡ Some q → Stepped (going a is at) c q
    at_open (Some ps) k r = absurd cc
    at_open None k r =
        let same : going (Some js) [] item ≡ q = cc in
        subst (λ (u : Partial). Stepped (going None is at) c u) same (record {
          text = ap (λ u. u ++ 40 ∷ []) e ∙ ap (λ u. (items_text is ++ at_text at) ++ u ∷ []) (sym k);
          is = λ x. (f x, (tt, tt));
        })

    at_close : (a : Option (List WordItem)) (ks : List WordItem) → ks ≡ js → c ≡ 41 → shut a ks ≡ Some q → Stepped (going a is at) c q
    at_close None ks s k r = absurd cc
    at_close (Some ps) [] s k r = absurd cc
    at_close (Some ps) (j ∷ ks) s k r =
        let same : whole ps (j ∷ ks) ≡ q = cc in
        let text : items_text (j ∷ ks) ≡ items_text is ++ at_text at = ap items_text s ∙ e in
        subst (λ (u : Partial). Stepped (going (Some ps) is at) c u) same (record {
          text = ap (λ u. items_text ps ++ 40 ∷ (u ++ 41 ∷ [])) text ∙ ap (λ u. items_text ps ++ 40 ∷ ((items_text is ++ at_text at) ++ u ∷ [])) (sym k)
              ∙ sym (append_assoc (items_text ps) (40 ∷ (items_text is ++ at_text at)) (c ∷ []));
          is = λ x. (x.0, (subst (λ (u : List WordItem). AllByRecursion IsItem u) (sym s) (f x.1), omega arith));
        })

pub stepped : (p : Partial) (c : ℕ) (q : Partial) → step p c ≡ Some q → Stepped p c q
stepped (going b is item) c q h =
    by_test (is_digit c) _ (ends b is c) q _ h
    (λ t r.
    let same : going b is (digit (eqb c 49)) ≡ q = cc in
    subst (λ (u : Partial). Stepped (going b is item) c u) same (outside b is is item (digit (eqb c 49)) c (begins_count is item _ c (ap (λ u. u ∷ []) (sym (digit_again c t)))) (λ x. x)))
    (λ t r. ended b is is item c q (sym (append-nil (items_text is))) (λ x. x.0) r)
stepped (going b is (digit x)) c q h =
    by_test (is_digit c) _ (cond (eqb c 123) (Some (going b is (brace x))) (ends b (is ++ alone x ∷ []) c)) q _ h
    (λ t r.
    let same : going b (is ++ alone x ∷ []) (digit (eqb c 49)) ≡ q = cc in
    let text : items_text (is ++ alone x ∷ []) ++ digit_of (eqb c 49) ∷ [] ≡ (items_text is ++ digit_of x ∷ []) ++ c ∷ [] =
    one_more is (alone x) (digit_of (eqb c 49) ∷ []) ∙ begins_count is (digit x) (digit_of x ∷ digit_of (eqb c 49) ∷ []) c (ap (λ u. digit_of x ∷ u ∷ []) (sym (digit_again c t))) in
    subst (λ (u : Partial). Stepped (going b is (digit x)) c u) same (outside b is (is ++ alone x ∷ []) (digit x) (digit (eqb c 49)) c text (λ y. (all-append is (alone x ∷ []) y.0 (tt, tt), tt))))
    (λ t r.
    by_test (eqb c 123) _ (ends b (is ++ alone x ∷ []) c) q _ r
    (λ u s.
    let same : going b is (brace x) ≡ q = cc in
    subst (λ (v : Partial). Stepped (going b is (digit x)) c v) same (outside b is is (digit x) (brace x) c (begins_count is (digit x) _ c (ap (λ w. digit_of x ∷ w ∷ []) (eqb-true c 123 u))) (λ y. y)))
    (λ u s. ended b is (is ++ alone x ∷ []) (digit x) c q (sym (append-nil (items_text (is ++ alone x ∷ []))) ∙ one_more is (alone x) []) (λ y. all-append is (alone x ∷ []) y.0 (tt, tt)) s))
stepped (going b is (brace x)) c q h =
    by_test (is_decimal c) _ None q _ h
    (λ t r.
    let same : going b is (count x (c ∷ [])) ≡ q = cc in
    subst (λ (u : Partial). Stepped (going b is (brace x)) c u) same (outside b is is (brace x) (count x (c ∷ [])) c (begins_count is (brace x) _ c refl) (λ y. (y.0, (omega arith, (decimal_so c t, tt))))))
    (λ t r. absurd cc)
stepped (going b is (count x ds)) c q h =
    by_test (is_decimal c) _ (cond (eqb c 125) (Some (going b (is ++ counted x ds ∷ []) item)) None) q _ h
    (λ t r.
    let same : going b is (count x (ds ++ c ∷ [])) ≡ q = cc in
    subst (λ (u : Partial). Stepped (going b is (count x ds)) c u) same
    (outside b is is (count x ds) (count x (ds ++ c ∷ [])) c (begins_count is (count x ds) _ c refl) (λ y. (y.0, (omega (arith, length-append ds (c ∷ [])), digits-append ds c y.1.1 (decimal_so c t))))))
    (λ t r.
    by_test (eqb c 125) _ None q _ r
    (λ u s.
    let same : going b (is ++ counted x ds ∷ []) item ≡ q = cc in
    let text : items_text (is ++ counted x ds ∷ []) ++ [] ≡ (items_text is ++ digit_of x ∷ 123 ∷ ds) ++ c ∷ [] =
    one_more is (counted x ds) [] ∙ begins_count is (count x ds) (item_text (counted x ds) ++ []) c (ap (λ w. digit_of x ∷ 123 ∷ (ds ++ w ∷ [])) (eqb-true c 125 u) ∙ sym (append-nil (item_text (counted x ds)))) in
    subst (λ (v : Partial). Stepped (going b is (count x ds)) c v) same (outside b is (is ++ counted x ds ∷ []) (count x ds) item c text (λ y. (all-append is (counted x ds ∷ []) y.0 (y.1, tt), tt))))
    (λ u s. absurd cc))
stepped (whole ps is) c q h = absurd cc

-- what a text was read to is a front of a form, and its text is that
pub record Ran (p : Partial) (text : List ℕ) (q : Partial) : Type 0 where
  pub reads : partial_text q ≡ partial_text p ++ text
  pub is : IsPartial p → IsPartial q

ran_more : (p m q : Partial) (c : ℕ) (text : List ℕ) → Stepped p c m → Ran m text q → Ran p (c ∷ text) q
ran_more p m q c text s t = record { reads = t.reads ∙ ap (λ u. u ++ text) s.text ∙ append_assoc (partial_text p) (c ∷ []) text; is = λ x. t.is (s.is x) }

pub ran : (o : Option Partial) (text : List ℕ) (q : Partial) → run o text ≡ Some q → (p : Partial) → o ≡ Some p → Ran p text q
ran None text q h p e = absurd cc
ran (Some r) [] q h p e =
    let same : p ≡ q = cc in
    subst (λ (u : Partial). Ran p [] u) same (record { reads = sym (append-nil (partial_text p)); is = λ x. x })
ran (Some r) (c ∷ text) q h p e =
    let at : r ≡ p = cc in
    next (step r c) refl (λ m k. ran_more p m q c text (subst (λ (u : Partial). Stepped u c m) at (stepped r c m k)) (ran (step r c) text q h m k))
  where
    next : (o : Option Partial) → step r c ≡ o → ((m : Partial) → step r c ≡ Some m → Ran p (c ∷ text) q) → Ran p (c ∷ text) q
    next None k f = absurd (let no : None ≡ Some q = ap (λ u. run u text) (sym k) ∙ h in cc)
    next (Some m) k f = f m k

pub run_append : (o : Option Partial) (a b : List ℕ) → run o (a ++ b) ≡ run (run o a) b
run_append None a b = refl
run_append (Some p) [] b = refl
run_append (Some p) (c ∷ a) b = run_append (step p c) a b

-- The text of a form is read to its items. What is pending is settled by the byte behind it.
abbrev pub settled : List WordItem → At → List WordItem
settled is item = is
settled is (digit x) = is ++ alone x ∷ []
settled is (brace x) = is
settled is (count x ds) = is

abbrev pub IsBetween : At → Type 0
IsBetween item = Unit {0}
IsBetween (digit x) = Unit {0}
IsBetween (brace x) = ⊥
IsBetween (count x ds) = ⊥

-- behind items, from a place between two
pub record Read (b : Option (List WordItem)) (is : List WordItem) (at : At) (js : List WordItem) (text : List ℕ) : Type 0 where
  pub items : List WordItem
  pub place : At
  pub between : IsBetween place
  pub settles : settled items place ≡ settled is at ++ js
  pub runs : (rest : List ℕ) → run (Some (going b is at)) (text ++ rest) ≡ run (Some (going b items place)) rest

decimal_is : (c : ℕ) → digit_value c < 10 → is_decimal c ≡ true
decimal_is c h =
    let r = digit_from_value c h in
    let low : 48 ≤ c = r.0 in
    let high : c ≤ 57 = r.1 in
    grind (arith, nat_tests)

count_runs : (b : Option (List WordItem)) (is : List WordItem) (x : Bool) (ds es : List ℕ) (rest : List ℕ) → AllDigits 10 es →
    run (Some (going b is (count x ds))) (es ++ rest) ≡ run (Some (going b is (count x (ds ++ es)))) rest
count_runs b is x ds [] rest h = ap (λ u. run (Some (going b is (count x u))) rest) (sym (append-nil ds))
count_runs b is x ds (e ∷ es) rest h =
    ap (λ t. run (cond t (Some (going b is (count x (ds ++ e ∷ [])))) (cond (eqb e 125) (Some (going b (is ++ counted x ds ∷ []) item)) None)) (es ++ rest)) (decimal_is e h.0)
    ∙ count_runs b is x (ds ++ e ∷ []) es rest h.1 ∙ ap (λ u. run (Some (going b is (count x u))) rest) (append_assoc ds (e ∷ []) es)

brace_runs : (b : Option (List WordItem)) (is : List WordItem) (x : Bool) (ds rest : List ℕ) → IsNumeral 10 ds →
    run (Some (going b is (brace x))) (ds ++ 125 ∷ rest) ≡ run (Some (going b (is ++ counted x ds ∷ []) item)) rest
brace_runs b is x [] rest h = absurd (omega (arith, h.0))
brace_runs b is x (d ∷ ds) rest h =
    ap (λ t. run (cond t (Some (going b is (count x (d ∷ [])))) None) (ds ++ 125 ∷ rest)) (decimal_is d h.1.0) ∙ count_runs b is x (d ∷ []) ds (125 ∷ rest) h.1.1

digit_runs : (b : Option (List WordItem)) (is : List WordItem) (at : At) (x : Bool) → IsBetween at →
    step (going b is at) (digit_of x) ≡ Some (going b (settled is at) (digit x))
digit_runs b is item true h = refl
digit_runs b is item false h = refl
digit_runs b is (digit y) true h = refl
digit_runs b is (digit y) false h = refl
digit_runs b is (brace y) x h = absurd h
digit_runs b is (count y ds) x h = absurd h

pub read_counted : (b : Option (List WordItem)) (is : List WordItem) (at : At) (x : Bool) (ds : List ℕ) → IsBetween at → IsNumeral 10 ds →
    run (Some (going b is at)) (item_text (counted x ds)) ≡ Some (going b (settled is at ++ counted x ds ∷ []) item)
read_counted b is at x ds h k = ap (λ o. run o (123 ∷ (ds ++ 125 ∷ []))) (digit_runs b is at x h) ∙ brace_runs b (settled is at) x ds [] k

pub read_item : (b : Option (List WordItem)) (is : List WordItem) (at : At) (i : WordItem) → IsBetween at → IsItem i →
    Read b is at (i ∷ []) (item_text i)
read_item b is at (alone x) h k = record {
  items = settled is at;
  place = digit x;
  between = tt;
  settles = refl;
  runs = λ rest. ap (λ o. run o rest) (digit_runs b is at x h);
}
read_item b is at (counted x ds) h k = record {
  items = settled is at ++ counted x ds ∷ [];
  place = item;
  between = tt;
  settles = refl;
  runs = λ rest. ap (λ o. run o (123 ∷ ((ds ++ 125 ∷ []) ++ rest))) (digit_runs b is at x h) ∙ ap (λ u. run (Some (going b (settled is at) (brace x))) u) (append_assoc ds (125 ∷ []) rest) ∙ brace_runs b (settled is at) x ds rest k;
}

pub read_items : (b : Option (List WordItem)) (is : List WordItem) (at : At) (js : List WordItem) → IsBetween at → AllByRecursion IsItem js →
    Read b is at js (items_text js)
read_items b is at [] h k = record { items = is; place = at; between = h; settles = sym (append-nil (settled is at)); runs = λ rest. refl }
read_items b is at (j ∷ js) h k =
    let one = read_item b is at j h k.0 in
    let more = read_items b one.items one.place js one.between k.1 in
    record {
      items = more.items;
      place = more.place;
      between = more.between;
      settles = more.settles ∙ ap (λ u. u ++ js) one.settles ∙ append_assoc (settled is at) (j ∷ []) js;
      runs = λ rest. ap (λ u. run (Some (going b is at)) u) (append_assoc (item_text j) (items_text js) rest) ∙ one.runs (items_text js ++ rest) ∙ more.runs rest;
    }

pub open_runs : (is : List WordItem) (at : At) → IsBetween at → step (going None is at) 40 ≡ Some (going (Some (settled is at)) [] item)
open_runs is item h = refl
open_runs is (digit x) h = refl
open_runs is (brace x) h = absurd h
open_runs is (count x ds) h = absurd h

shut_some : (ps is : List WordItem) → 0 < length is → shut (Some ps) is ≡ Some (whole ps is)
shut_some ps [] h = absurd (omega (arith, h))
shut_some ps (i ∷ is) h = refl

close_runs : (ps is : List WordItem) (at : At) → IsBetween at → 0 < length (settled is at) →
    step (going (Some ps) is at) 41 ≡ Some (whole ps (settled is at))
close_runs ps is item h k = shut_some ps is k
close_runs ps is (digit x) h k = shut_some ps (is ++ alone x ∷ []) k
close_runs ps is (brace x) h k = absurd h
close_runs ps is (count x ds) h k = absurd h

pub form_runs : (f : WordForm) → IsForm f → run (Some start) (form_text f) ≡ Some (whole f.prefix f.period)
form_runs f h =
    let a = read_items None [] item f.prefix tt h.prefix in
    let b = read_items (Some (settled a.items a.place)) [] item f.period tt h.period in
    a.runs (40 ∷ (items_text f.period ++ 41 ∷ []))
    ∙ ap (λ o. run o (items_text f.period ++ 41 ∷ [])) (open_runs a.items a.place a.between)
    ∙ b.runs (41 ∷ [])
    ∙ ap (λ o. run o []) (close_runs (settled a.items a.place) b.items b.place b.between (omega (arith, ap length b.settles, h.nonempty)))
    ∙ ap (λ (u : List WordItem). Some (whole u (settled b.items b.place))) a.settles ∙ ap (λ (u : List WordItem). Some (whole f.prefix u)) b.settles

-- so a text is that of one form
pub one_form : (f g : WordForm) → IsForm f → IsForm g → form_text f ≡ form_text g → f ≡ g
one_form f g h k e =
    let same : Some (whole f.prefix f.period) ≡ Some (whole g.prefix g.period) = sym (form_runs f h) ∙ ap (run (Some start)) e ∙ form_runs g k in
    let both : whole f.prefix f.period ≡ whole g.prefix g.period = cc in
    let p : f.prefix ≡ g.prefix = cc in
    let q : f.period ≡ g.period = cc in
    ap (λ (x : List WordItem). let r : WordForm = record { prefix = x; period = f.period } in r) p ∙ ap (λ (x : List WordItem). let r : WordForm = record { prefix = g.prefix; period = x } in r) q

-- what was read can be completed
abbrev one_bit : WordItem
one_bit = alone true

finished : (ps is : List WordItem) (rest : List ℕ) (front : List ℕ) → AllByRecursion IsItem ps → AllByRecursion IsItem is → 0 < length is →
    front ++ rest ≡ items_text ps ++ 40 ∷ (items_text is ++ 41 ∷ []) → BeginsForm front
finished ps is rest front h k n e = (record { prefix = ps; period = is }, rest, record { prefix = h; period = k; nonempty = n }, e)

-- one item more, whose text goes on behind what was read, and then the end of a form
in_prefix : (is : List WordItem) (at : At) (js : List WordItem) (more : List ℕ) → AllByRecursion IsItem js →
    (items_text is ++ at_text at) ++ more ≡ items_text js → BeginsForm (items_text is ++ at_text at)
in_prefix is at js more h e =
    finished js (one_bit ∷ []) (more ++ 40 ∷ 49 ∷ 41 ∷ []) _ h (tt, tt) (omega arith) (sym (append_assoc (items_text is ++ at_text at) more (40 ∷ 49 ∷ 41 ∷ [])) ∙ ap (λ u. u ++ 40 ∷ 49 ∷ 41 ∷ []) e)

in_period : (ps is : List WordItem) (at : At) (js : List WordItem) (more : List ℕ) → AllByRecursion IsItem ps → AllByRecursion IsItem js →
    0 < length js → (items_text is ++ at_text at) ++ more ≡ items_text js → BeginsForm (items_text ps ++ 40 ∷ (items_text is ++ at_text at))
in_period ps is at js more h k n e =
    finished ps js (more ++ 41 ∷ []) _ h k n
    (append_assoc (items_text ps) (40 ∷ (items_text is ++ at_text at)) (more ++ 41 ∷ [])
    ∙ ap (λ u. items_text ps ++ 40 ∷ u) (sym (append_assoc (items_text is ++ at_text at) more (41 ∷ [])) ∙ ap (λ u. u ++ 41 ∷ []) e))

-- the items that complete what was read, and the bytes that are missing
abbrev completed : List WordItem → At → List WordItem
completed is item = is ++ one_bit ∷ []
completed is (digit x) = is ++ alone x ∷ []
completed is (brace x) = is ++ counted x (49 ∷ []) ∷ []
completed is (count x ds) = is ++ counted x ds ∷ []

abbrev missing : At → List ℕ
missing item = 49 ∷ []
missing (digit x) = []
missing (brace x) = 49 ∷ 125 ∷ []
missing (count x ds) = 125 ∷ []

completes : (is : List WordItem) (at : At) → (items_text is ++ at_text at) ++ missing at ≡ items_text (completed is at)
completes is item = append_assoc (items_text is) [] (49 ∷ []) ∙ sym (sym (append-nil (items_text (completed is item))) ∙ one_more is one_bit [])
completes is (digit x) = append_assoc (items_text is) (digit_of x ∷ []) [] ∙ sym (sym (append-nil (items_text (completed is (digit x)))) ∙ one_more is (alone x) [])
completes is (brace x) = append_assoc (items_text is) (digit_of x ∷ 123 ∷ []) (49 ∷ 125 ∷ []) ∙ sym (sym (append-nil (items_text (completed is (brace x)))) ∙ one_more is (counted x (49 ∷ [])) [])
completes is (count x ds) = append_assoc (items_text is) (digit_of x ∷ 123 ∷ ds) (125 ∷ []) ∙ sym (sym (append-nil (items_text (completed is (count x ds)))) ∙ one_more is (counted x ds) [] ∙ ap (λ u. items_text is ++ u) (append-nil (item_text (counted x ds))))

completed_is : (is : List WordItem) (at : At) → AllByRecursion IsItem is → IsAt at → AllByRecursion IsItem (completed is at)
completed_is is item h k = all-append is (one_bit ∷ []) h (tt, tt)
completed_is is (digit x) h k = all-append is (alone x ∷ []) h (tt, tt)
completed_is is (brace x) h k = all-append is (counted x (49 ∷ []) ∷ []) h ((omega arith, (omega arith, tt)), tt)
completed_is is (count x ds) h k = all-append is (counted x ds ∷ []) h (k, tt)

completed_some : (is : List WordItem) (at : At) → 0 < length (completed is at)
completed_some is item = omega (arith, length-append is (one_bit ∷ []))
completed_some is (digit x) = omega (arith, length-append is (alone x ∷ []))
completed_some is (brace x) = omega (arith, length-append is (counted x (49 ∷ []) ∷ []))
completed_some is (count x ds) = omega (arith, length-append is (counted x ds ∷ []))

pub partial_begins : (p : Partial) → IsPartial p → BeginsForm (partial_text p)
partial_begins (going None is at) h = in_prefix is at (completed is at) (missing at) (completed_is is at h.0 h.1) (completes is at)
partial_begins (going (Some ps) is at) h = in_period ps is at (completed is at) (missing at) h.0 (completed_is is at h.1.0 h.1.1) (completed_some is at) (completes is at)
partial_begins (whole ps is) h = finished ps is [] _ h.0 h.1.0 h.1.1 (append-nil (items_text ps ++ 40 ∷ (items_text is ++ 41 ∷ [])))

-- a text is read to somewhere exactly where it begins a form
pub begins_read : (front : List ℕ) → BeginsForm front → run (Some start) front ≡ None → ⊥
begins_read front b none =
    let no : None ≡ Some (whole b.0.prefix b.0.period) = sym (ap (λ o. run o b.1) none) ∙ sym (run_append (Some start) front b.1) ∙ ap (run (Some start)) b.3 ∙ form_runs b.0 b.2 in
    absurd cc

pub read_begins : (front : List ℕ) (p : Partial) → run (Some start) front ≡ Some p → BeginsForm front
read_begins front p e =
    let r = ran (Some start) front p e start refl in
    subst BeginsForm r.reads (partial_begins p (r.is (tt, tt)))
