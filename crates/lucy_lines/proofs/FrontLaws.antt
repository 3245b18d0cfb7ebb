-- What bytes decide of the line at their front they decide with more bytes behind them.
use Rattle.std.proofs.Common.{◌≡◌, ℕ, ◌+◌, ◌-◌, ◌<◌, ◌≤◌, ◌==◌, ◌≢◌, Bool, true, false, not, cond, List, ◌++◌, length, get_or, refl, ap, sym, ◌∙◌, inl, inr, arith, length-append}
use Rattle.std.specs.Prelude.{nat_lt, ◌⊎◌}
use Rattle.std.proofs.Math.ListN.{get_or-append}
use Rattle.std.proofs.lemmas.Bool.{cond_both, eqb-false, lt-ltb, le-ltb, ltb-true, ltb-false, cases_Bool}
use Rattle.std.proofs.lemmas.Bool.Decides.{nat_tests}
use Rattle.std.proofs.lemmas.List.Sums.{prefix_len-le-length}
use Rattle.std.proofs.lemmas.List.Folds.{prefix_len-append}
use Rattle.lucy_lines.specs.declared.front.Front.{Front}
use Rattle.lucy_lines.specs.declared.front.Front.TheVariants.{Line, Long, Past, Open}
use Rattle.lucy_lines.specs.Fronts.{most_bytes, longest_line, run, reach, judge, content_of, judged, last_line, front_of}

-- a byte that is no line feed
abbrev pub is_other : ℕ → Bool
is_other c = not (c == 10)

pub run_within : (a : List ℕ) → run a ≤ length a
run_within a = prefix_len-le-length is_other a

-- a run that ended goes no further
pub run_more : (a b : List ℕ) → run a < length a → run (a ++ b) ≡ run a
run_more a b h =
    let e = prefix_len-append is_other a b in
    grind (arith, nat_tests, e)

pub run_open : (a b : List ℕ) → length a ≤ run a → length a ≤ run (a ++ b)
run_open a b h =
    let e = prefix_len-append is_other a b in
    let w = run_within a in
    grind (arith, nat_tests, e)

pub reach_range : (a : List ℕ) → (longest_line ≤ reach a) × (reach a ≤ longest_line + 1)
reach_range a = cond_both (get_or a longest_line 0 == 13) (longest_line + 1) longest_line (λ n. (longest_line ≤ n) × (n ≤ longest_line + 1)) (λ e. (omega arith, omega arith)) (λ e. (omega arith, omega arith))

pub reach_more : (a b : List ℕ) → longest_line < length a → reach (a ++ b) ≡ reach a
reach_more a b h = ap (λ c. cond (c == 13) (longest_line + 1) longest_line) (get_or-append a b 0 longest_line h)

-- reach is the same, or all of a stands before it
reach_or : (a b : List ℕ) → (reach (a ++ b) ≡ reach a) ⊎ (length a ≤ longest_line)
reach_or a b = elim (cases_Bool (nat_lt longest_line (length a))) [
  | inl h ↦ inl (reach_more a b (ltb-true longest_line (length a) h))
  | inr h ↦ inr (ltb-false longest_line (length a) h)
]

-- the line feed is in a and stays, or all of a stands before it
run_or : (a b : List ℕ) → ((run (a ++ b) ≡ run a) × (run a < length a)) ⊎ ((length a ≤ run (a ++ b)) × (run a ≡ length a))
run_or a b = elim (cases_Bool (nat_lt (run a) (length a))) [
  | inl h ↦ let k : run a < length a = ltb-true (run a) (length a) h in inl (run_more a b k, k)
  | inr h ↦ let k : length a ≤ run a = ltb-false (run a) (length a) h in let w = run_within a in inr (run_open a b k, omega arith)
]

pub judge_more : (a b : List ℕ) → judge a < length a → judge (a ++ b) ≡ judge a
judge_more a b h =
    let r = reach_range a in let q = reach_range (a ++ b) in let w = run_within a in
    elim (reach_or a b) [
      | inl e ↦ elim (run_or a b) [ inl f ↦ omega arith | inr f ↦ omega arith ]
      | inr e ↦ elim (run_or a b) [ inl f ↦ omega arith | inr f ↦ omega arith ]
    ]

pub judge_open : (a b : List ℕ) → length a ≤ judge a → length a ≤ judge (a ++ b)
judge_open a b h =
    let r = reach_range a in let q = reach_range (a ++ b) in let w = run_open a b (omega arith) in
    elim (reach_or a b) [ inl e ↦ omega arith | inr e ↦ omega arith ]

judged_long : (a : List ℕ) → reach a < run a → judged a ≡ Long
judged_long a h = ap (λ t. cond t Long (Line (content_of a (run a)) (run a + 1))) (lt-ltb (reach a) (run a) h)

judged_short : (a : List ℕ) → run a ≤ reach a → judged a ≡ Line (content_of a (run a)) (run a + 1)
judged_short a h = ap (λ t. cond t Long (Line (content_of a (run a)) (run a + 1))) (le-ltb (reach a) (run a) h)

-- a line that ends within a is the same with more bytes
line_more : (a b : List ℕ) → run a < length a → Line (content_of (a ++ b) (run (a ++ b))) (run (a ++ b) + 1) ≡ Line (content_of a (run a)) (run a + 1)
line_more a b h =
    let inner : run a - 1 < length a = omega arith in
    let f : ℕ → Front = λ n. Line (content_of (a ++ b) n) (n + 1) in
    let g : ℕ → Front = λ c. Line (cond (c == 13) (run a - 1) (run a)) (run a + 1) in
    ap f (run_more a b h) ∙ ap g (get_or-append a b 0 (run a - 1) inner)

pub judged_more : (a b : List ℕ) → judge a < length a → judged (a ++ b) ≡ judged a
judged_more a b h =
    let r = reach_range a in let q = reach_range (a ++ b) in
    elim (cases_Bool (nat_lt (reach a) (run a))) [
      | inl t ↦
          let past : reach a < run a = ltb-true (reach a) (run a) t in
          let inside = run_within a in
          let same = reach_more a b (omega arith) in
          let later : reach (a ++ b) < run (a ++ b) = elim (run_or a b) [ inl f ↦ omega arith | inr f ↦ omega arith ] in
          judged_long (a ++ b) later ∙ sym (judged_long a past)
      | inr t ↦
          let near : run a ≤ reach a = ltb-false (reach a) (run a) t in
          let inside : run a < length a = omega arith in
          let same = run_more a b inside in
          let kept : run (a ++ b) ≤ reach (a ++ b) = elim (reach_or a b) [ inl e ↦ omega arith | inr e ↦ omega arith ] in
          judged_short (a ++ b) kept ∙ line_more a b inside ∙ sym (judged_short a near)
    ]

-- a front by its place of judgement, its length, the bytes before it, and what it is where it is judged or the last
abbrev front_by : (j n used : ℕ) (closed : Bool) (x y : Front) → Front
front_by j n used closed x y =
    cond (nat_lt j n) (cond (nat_lt (used + j) most_bytes) x Past) (cond (nat_lt most_bytes (used + n)) Past (cond closed y Open))

more_by : (j k n m used : ℕ) (closed : Bool) (x x' y y' : Front) → (j < n → k ≡ j) → (j < n → x' ≡ x) → (n ≤ j → n ≤ k) → n ≤ m →
    (front_by j n used false x y ≡ Open → ⊥) → front_by k m used closed x' y' ≡ front_by j n used false x y
more_by j k n m used closed x x' y y' same kept later longer decided = grind (arith, nat_tests)

pub front_more : (closed : Bool) (used : ℕ) (a b : List ℕ) → (front_of false used a ≡ Open → ⊥) → front_of closed used (a ++ b) ≡ front_of false used a
unfolding front_of
front_more closed used a b decided =
    more_by (judge a) (judge (a ++ b)) (length a) (length (a ++ b)) used closed (judged a) (judged (a ++ b)) (last_line a) (last_line (a ++ b))
    (judge_more a b) (judged_more a b) (judge_open a b) (omega (arith, length-append a b)) decided

-- where a line is decided
front_line : (t u p closed : Bool) (x y : Front) (c n : ℕ) → cond t (cond u x Past) (cond p Past (cond closed y Open)) ≡ Line c n →
    ((t ≡ true) × (x ≡ Line c n)) ⊎ ((t ≡ false) × (y ≡ Line c n))
front_line true true p closed x y c n e = inl (refl, e)
front_line true false p closed x y c n e = cc
front_line false u true closed x y c n e = cc
front_line false u false true x y c n e = inr (refl, e)
front_line false u false false x y c n e = cc

-- where nothing is decided
front_undecided : (t u p closed : Bool) (x y : Front) → (x ≡ Open → ⊥) → cond t (cond u x Past) (cond p Past (cond closed y Open)) ≡ Open →
    (t ≡ false) × (p ≡ false) × (closed ≡ true → y ≡ Open)
front_undecided true true p closed x y no_more e = absurd (no_more e)
front_undecided true false p closed x y no_more e = cc
front_undecided false u true closed x y no_more e = cc
front_undecided false u false true x y no_more e = (refl, refl, λ t. e)
front_undecided false u false false x y no_more e = (refl, refl, λ t. cc)

line_of_two : (t : Bool) (a b c n : ℕ) → cond t Long (Line a b) ≡ Line c n → (t ≡ false) × (a ≡ c) × (b ≡ n)
line_of_two true a b c n e = cc
line_of_two false a b c n e = (refl, cc, cc)

judged_not_open : (t : Bool) (a b : ℕ) → cond t Long (Line a b) ≡ Open → ⊥
judged_not_open true a b e = cc
judged_not_open false a b e = cc

last_of_three : (t u : Bool) (m c n : ℕ) → cond t Open (cond u Long (Line m m)) ≡ Line c n → (t ≡ false) × (u ≡ false) × (m ≡ c) × (m ≡ n)
last_of_three true u m c n e = cc
last_of_three false true m c n e = cc
last_of_three false false m c n e = (refl, refl, cc, cc)

pub content_within : (a : List ℕ) (n : ℕ) → content_of a n ≤ n
content_within a n = cond_both (get_or a (n - 1) 0 == 13) (n - 1) n (λ m. m ≤ n) (λ e. omega arith) (λ e. omega arith)

-- a line stands within the bytes, and has at least one
pub record WithinBytes (bytes : List ℕ) (content n : ℕ) : Type 0 where
  pub some : 1 ≤ n
  pub inner : content ≤ n
  pub whole : n ≤ length bytes
  pub short : n ≤ longest_line + 2

pub line_within : (closed : Bool) (used : ℕ) (a : List ℕ) (content n : ℕ) → front_of closed used a ≡ Line content n → WithinBytes a content n
unfolding front_of
line_within closed used a content n e =
    elim (front_line (nat_lt (judge a) (length a)) (nat_lt (used + judge a) most_bytes) (nat_lt most_bytes (used + length a)) closed (judged a) (last_line a) content n e) [
      | inl (t, f) ↦
          let j : judge a < length a = ltb-true (judge a) (length a) t in
          let l = line_of_two (nat_lt (reach a) (run a)) (content_of a (run a)) (run a + 1) content n f in
          let near : run a ≤ reach a = ltb-false (reach a) (run a) l.0 in
          let r = reach_range a in
          let w = content_within a (run a) in
          record { some = omega arith; inner = omega arith; whole = omega arith; short = omega arith }
      | inr (t, f) ↦
          let l = last_of_three (length a == 0) (nat_lt longest_line (length a)) (length a) content n f in
          let some : length a ≢ 0 = eqb-false (length a) 0 l.0 in
          let near : length a ≤ longest_line = ltb-false longest_line (length a) l.1 in
          record { some = omega arith; inner = omega arith; whole = omega arith; short = omega arith }
    ]

-- bytes that decide nothing: they are few, and no line feed is among them
pub record IsOpen (used : ℕ) (a : List ℕ) : Type 0 where
  pub short : length a ≤ longest_line + 1
  pub dark : length a ≤ run a
  pub room : used + length a ≤ most_bytes

pub open_within : (closed : Bool) (used : ℕ) (a : List ℕ) → front_of closed used a ≡ Open → IsOpen used a
unfolding front_of
open_within closed used a e =
    let f = front_undecided (nat_lt (judge a) (length a)) (nat_lt (used + judge a) most_bytes) (nat_lt most_bytes (used + length a)) closed (judged a) (last_line a) (judged_not_open (nat_lt (reach a) (run a)) (content_of a (run a)) (run a + 1)) e in
    let j : length a ≤ judge a = ltb-false (judge a) (length a) f.0 in
    let m : used + length a ≤ most_bytes = ltb-false most_bytes (used + length a) f.1 in
    let r = reach_range a in
    record { short = omega arith; dark = omega arith; room = m }
