-- The first event of an order that isn't done, from a place on behind events that are.
use Rattle.std.proofs.Common.{ℕ, suc, zero, ◌+◌, ◌-◌, ◌<◌, ◌≤◌, ◌≡◌, Bool, true, false, not, cond, eqb, leb, List, [], ◌∷◌, ◌++◌, length, get_or, drop, ap, sym, refl, ◌∙◌, subst, inl, inr, arith, append_assoc}
use Rattle.std.specs.Prelude.{is_some, Option, Some, None, replicate, slice_get, slice_set, slice_index, slice_index_or}
use Rattle.std.proofs.lemmas.Bool.{cases_eq, cases_lt, lt-leb, le-leb}
use Rattle.std.proofs.Math.Seq.{drop-length, drop-cons}
use Rattle.std.proofs.lemmas.List.{append-nil, length-replicate, length-set, get_or-replicate, get_or_past}
use Rattle.lucy_stream.specs.Runs.{step, none_done, first_left_from, first_left}
use Rattle.lucy_stream.specs.Schedules.{events_to}
use Rattle.lucy_stream.proofs.CountLaws.{step-same, step-other}
use Rattle.lucy_net.specs.Schedules.{Timetable, events_at}
use Rattle.lucy_core.specs.declared.cursor.Cursor.{Cursor}
use Rattle.lucy_core.specs.Seen.{done_of, one_more, order_on}
use Rattle.lucy_core.specs.Cursors.{later, row_at, ahead, StandsInOrder, HasPassed}
use Rattle.lucy_core.proofs.ListLaws.{one_more_done}

some_none : true ≡ false → ⊥
some_none e = cc

-- counts that are alike
pub first_left-same : (d p q : ℕ → ℕ) (xs : List ℕ) → ((a : ℕ) → p a ≡ q a) → first_left_from d p xs ≡ first_left_from d q xs
first_left-same d p q [] e = refl
first_left-same d p q (x ∷ xs) e =
    let rest : first_left_from d (step p x) xs ≡ first_left_from d (step q x) xs = first_left-same d (step p x) (step q x) xs (λ b. ap (λ n. n + cond (eqb x b) 1 0) (e b)) in
    ap (λ n. cond (leb (d x) n) (Some x) (first_left_from d (step p x) xs)) (e x) ∙ ap (λ o. cond (leb (d x) (q x)) (Some x) o) rest

-- an event that is done, and one that isn't
pub first_left-past : (d p : ℕ → ℕ) (a : ℕ) (xs : List ℕ) → p a < d a → first_left_from d p (a ∷ xs) ≡ first_left_from d (step p a) xs
first_left-past d p a xs l = ap (λ b. cond b (Some a) (first_left_from d (step p a) xs)) (lt-leb (d a) (p a) l)

pub first_left-here : (d p : ℕ → ℕ) (a : ℕ) (xs : List ℕ) → d a ≤ p a → first_left_from d p (a ∷ xs) ≡ Some a
first_left-here d p a xs l = ap (λ b. cond b (Some a) (first_left_from d (step p a) xs)) (le-leb (d a) (p a) l)

-- the events up to an instant, and those behind it
pub events_on : (events : ℕ → List ℕ) (t n : ℕ) → events_to events (t + n) ≡ events_to events t ++ later events t n
events_on events t zero =
    let same : t + 0 ≡ t = omega arith in
    ap (events_to events) same ∙ sym (append-nil (events_to events t))
events_on events t (suc n) =
    let split : events_to events ((t + 1) + n) ≡ events_to events (t + 1) ++ later events (t + 1) n = events_on events (t + 1) n in
    let up : t + suc n ≡ (t + 1) + n = omega arith in
    let next : t + 1 ≡ suc t = omega arith in
    let back : suc t ≡ t + 1 = omega arith in
    let one : events_to events (t + 1) ≡ events_to events t ++ events (t + 1) = ap (events_to events) next ∙ ap (λ k. events_to events t ++ events k) back in
    ap (events_to events) up ∙ split ∙ ap (λ xs. xs ++ later events (t + 1) n) one ∙ append_assoc (events_to events t) (events (t + 1)) (later events (t + 1) n)

index_read : (xs : List ℕ) (a v : ℕ) → slice_get xs a ≡ Some v → v ≡ get_or xs a 0
index_read [] a v e = absurd (cc)
index_read (x ∷ xs) zero v e = cc
index_read (x ∷ xs) (suc a) v e = index_read xs a v e

index_none : (xs : List ℕ) (a : ℕ) → slice_get xs a ≡ None → 0 ≡ get_or xs a 0
index_none [] a e = refl
index_none (x ∷ xs) zero e = absurd (cc)
index_none (x ∷ xs) (suc a) e = index_none xs a e

-- a count that is read
pub count_read : (counts : List ℕ) (a v : ℕ) → slice_get counts a ≡ Some v → v ≡ done_of counts a
unfolding done_of
count_read counts a v e = index_read counts a v e

pub count_none : (counts : List ℕ) (a : ℕ) → slice_get counts a ≡ None → 0 ≡ done_of counts a
unfolding done_of
count_none counts a e = index_none counts a e

pub count_inside : (counts : List ℕ) (a : ℕ) → 0 < done_of counts a → a < length counts
unfolding done_of
count_inside counts a some = elim (cases_lt a (length counts)) [
  | inl low ↦ low
  | inr high ↦ absurd (omega (arith, get_or_past counts a 0 high))
]

count_is : (counts : List ℕ) (a : ℕ) → done_of counts a ≡ slice_index counts a
unfolding done_of
count_is counts a = refl

pub passes_one : (passed list done : List ℕ) (a n m : ℕ) → list ≡ passed → n ≡ done_of list a → m ≡ done_of done a → n < m → length passed ≡ length done → HasPassed passed (slice_set passed a (n + 1)) done a
passes_one passed list done a n m same before now less count =
    let read : n ≡ done_of passed a = before ∙ ap (λ xs. done_of xs a) same in record {
      there = omega (arith, count_inside done a (omega arith));
      is = ap (λ k. slice_set passed a (k + 1)) (read ∙ count_is passed a);
      done_one = omega arith;
    }

-- nothing is done where all counts are 0
pub zero_at : (n a : ℕ) → done_of (replicate n 0) a ≡ 0
unfolding done_of
zero_at n a = elim (cases_lt a n) [
  | inl low ↦ get_or-replicate n a 0 0 low
  | inr high ↦ get_or_past (replicate n 0) a 0 (omega (arith, length-replicate {A = ℕ} n 0))
]

-- the order of a schedule is its events
pub order_is : (s : Timetable) (n : ℕ) → order_on s n ≡ events_to (events_at s) n
unfolding order_on
order_is s n = refl

-- before the first instant
pub first_in : (s : Timetable) (instants n : ℕ) (done : List ℕ) (c : Cursor) → done ≡ replicate n 0 → c.passed.items ≡ replicate n 0 → c.instant ≡ 0 → c.row < length s.orders → c.index ≡ length (row_at s c) → StandsInOrder s instants done c
first_in s instants n done c e f instant row index = record {
  row = row;
  early = omega arith;
  count = ap length f ∙ sym (ap length e);
  behind = λ a. omega (arith, ap (λ xs. done_of xs a) f, zero_at n a);
  skips = λ d l.
      let none : (a : ℕ) → none_done a ≡ done_of c.passed.items a = λ a. sym (ap (λ xs. done_of xs a) f ∙ zero_at n a) in
      let row_over : drop c.index (row_at s c) ≡ [] = ap (λ i. drop i (row_at s c)) index ∙ drop-length (row_at s c) in
      let all : ahead s instants c ≡ later (events_at s) 0 instants =
      ap (λ xs. xs ++ later (events_at s) c.instant (instants - c.instant)) row_over ∙ ap (λ i. later (events_at s) i (instants - i)) instant ∙ ap (later (events_at s) 0) (let m : instants - 0 ≡ instants = omega arith in m) in
      let order : order_on s instants ≡ later (events_at s) 0 instants = order_is s instants ∙ ap (events_to (events_at s)) (let m : instants ≡ 0 + instants = omega arith in m) ∙ events_on (events_at s) 0 instants in
      first_left-same d none_done (done_of c.passed.items) (order_on s instants) none ∙ ap (first_left_from d (done_of c.passed.items)) (order ∙ sym all);
}

pub grows : (d : ℕ → ℕ) (a b : ℕ) → d b ≤ step d a b
grows d a b = omega arith

split_one : (xs rest : List ℕ) (i j a : ℕ) → i < length xs → get_or xs i 0 ≡ a → j ≡ i + 1 → drop i xs ++ rest ≡ a ∷ (drop j xs ++ rest)
split_one xs rest i j a l e f =
    let k : suc i ≡ j = omega arith in
    ap (λ ys. ys ++ rest) (drop-cons xs i 0 l) ∙ ap (λ b. b ∷ (drop (suc i) xs ++ rest)) e ∙ ap (λ n. a ∷ (drop n xs ++ rest)) k

one_at : (before after done : List ℕ) (a b : ℕ) → HasPassed before after done a → done_of after b ≡ step (done_of before) a b
one_at before after done a b passes = ap (λ xs. done_of xs b) passes.is ∙ one_more_done before a b passes.there

behind_at : (before after done : List ℕ) (a b : ℕ) → HasPassed before after done a → done_of before b ≤ done_of done b → done_of after b ≤ done_of done b
behind_at before after done a b passes l = elim (cases_eq a b) [
  | inl e ↦ subst (λ (k : ℕ). done_of after k ≤ done_of done k) e (omega (arith, passes.done_one, one_at before after done a a passes, step-same (done_of before) a))
  | inr n ↦ omega (arith, l, one_at before after done a b passes, step-other (done_of before) a b n)
]

-- an event more is passed
pub passed_in : (s : Timetable) (instants : ℕ) (done : List ℕ) (c e : Cursor) (a : ℕ) → c.index < length (row_at s c) → get_or (row_at s c) c.index 0 ≡ a → HasPassed c.passed.items e.passed.items done a →
    e.instant ≡ c.instant → e.row ≡ c.row → e.index ≡ c.index + 1 → StandsInOrder s instants done c → StandsInOrder s instants done e
passed_in s instants done c e a l actor passes instant row index is = record {
  row = omega (arith, is.row);
  early = omega (arith, is.early);
  count = ap length passes.is ∙ length-set c.passed.items a _ ∙ is.count;
  behind = λ b. behind_at c.passed.items e.passed.items done a b passes (is.behind b);
  skips = λ d less.
      let p : ℕ → ℕ = done_of c.passed.items in
      let one : (b : ℕ) → done_of e.passed.items b ≡ step p a b = λ b. one_at c.passed.items e.passed.items done a b passes in
      let before : (b : ℕ) → p b ≤ d b = λ b. omega (arith, less b, one b, grows p a b) in
      let here : p a < d a = omega (arith, less a, one a, step-same p a) in
      let now : ahead s instants c ≡ a ∷ (drop e.index (row_at s c) ++ later (events_at s) c.instant (instants - c.instant)) = split_one (row_at s c) (later (events_at s) c.instant (instants - c.instant)) c.index e.index a l actor index in
      let then_ : a ∷ (drop e.index (row_at s c) ++ later (events_at s) c.instant (instants - c.instant)) ≡ a ∷ ahead s instants e =
      ap (λ r. a ∷ (drop e.index (slice_index_or s.orders r []) ++ later (events_at s) c.instant (instants - c.instant))) (sym row)
      ∙ ap (λ i. a ∷ (drop e.index (row_at s e) ++ later (events_at s) i (instants - i))) (sym instant) in
      is.skips d before ∙ ap (first_left_from d p) (now ∙ then_) ∙ first_left-past d p a (ahead s instants e) here
      ∙ first_left-same d (step p a) (done_of e.passed.items) (ahead s instants e) (λ b. sym (one b));
}

-- the next instant begins
pub turned_in : (s : Timetable) (instants : ℕ) (done : List ℕ) (c e : Cursor) → c.instant < instants → drop c.index (row_at s c) ≡ [] → e.instant ≡ c.instant + 1 → row_at s e ≡ events_at s e.instant → e.row < length s.orders → e.index ≡ 0 → e.passed.items ≡ c.passed.items →
    StandsInOrder s instants done c → StandsInOrder s instants done e
turned_in s instants done c e l over instant row there index passed is = record {
  row = there;
  early = omega arith;
  count = ap length passed ∙ is.count;
  behind = λ b. subst (λ (xs : List ℕ). done_of xs b ≤ done_of done b) (sym passed) (is.behind b);
  skips = λ d less.
      let before : (b : ℕ) → done_of c.passed.items b ≤ d b = λ b. subst (λ (xs : List ℕ). done_of xs b ≤ d b) passed (less b) in
      let left : instants - c.instant ≡ suc (instants - e.instant) = omega arith in
      let now : ahead s instants c ≡ events_at s (c.instant + 1) ++ later (events_at s) (c.instant + 1) (instants - e.instant) =
      ap (λ xs. xs ++ later (events_at s) c.instant (instants - c.instant)) over ∙ ap (later (events_at s) c.instant) left in
      let next : ahead s instants e ≡ events_at s (c.instant + 1) ++ later (events_at s) (c.instant + 1) (instants - e.instant) =
      ap (λ i. drop i (row_at s e) ++ later (events_at s) e.instant (instants - e.instant)) index
      ∙ ap (λ xs. xs ++ later (events_at s) e.instant (instants - e.instant)) row
      ∙ ap (λ i. events_at s i ++ later (events_at s) i (instants - e.instant)) instant in
      is.skips d before ∙ ap (first_left_from d (done_of c.passed.items)) (now ∙ sym next) ∙ ap (λ xs. first_left_from d (done_of xs) (ahead s instants e)) (sym passed);
}

-- what else is done
pub more_in : (s : Timetable) (instants : ℕ) (done later_done : List ℕ) (c : Cursor) → length later_done ≡ length done → ((a : ℕ) → done_of done a ≤ done_of later_done a) → StandsInOrder s instants done c → StandsInOrder s instants later_done c
more_in s instants done later_done c same more is = record {
  row = is.row;
  early = is.early;
  count = is.count ∙ sym same;
  behind = λ a. omega (arith, is.behind a, more a);
  skips = is.skips;
}

pub step_in : (s : Timetable) (instants : ℕ) (done : List ℕ) (c : Cursor) (a : ℕ) → a < length done → StandsInOrder s instants done c → StandsInOrder s instants (one_more done a) c
step_in s instants done c a l is =
    more_in s instants done (one_more done a) c (length-set done a _) (λ b. omega (arith, one_more_done done a b l, grows (done_of done) a b)) is

-- the same place
pub same_in : (s : Timetable) (instants : ℕ) (done : List ℕ) (c e : Cursor) → e.instant ≡ c.instant → e.row ≡ c.row → e.index ≡ c.index → e.passed.items ≡ c.passed.items → StandsInOrder s instants done c → StandsInOrder s instants done e
same_in s instants done c e instant row index passed is = record {
  row = omega (arith, is.row);
  early = omega (arith, is.early);
  count = ap length passed ∙ is.count;
  behind = λ b. subst (λ (xs : List ℕ). done_of xs b ≤ done_of done b) (sym passed) (is.behind b);
  skips = λ d less.
      let before : (b : ℕ) → done_of c.passed.items b ≤ d b = λ b. subst (λ (xs : List ℕ). done_of xs b ≤ d b) passed (less b) in
      let there : ahead s instants c ≡ ahead s instants e =
      ap (λ r. drop c.index (slice_index_or s.orders r []) ++ later (events_at s) c.instant (instants - c.instant)) (sym row)
      ∙ ap (λ i. drop i (row_at s e) ++ later (events_at s) c.instant (instants - c.instant)) (sym index)
      ∙ ap (λ i. drop e.index (row_at s e) ++ later (events_at s) i (instants - i)) (sym instant) in
      is.skips d before ∙ ap (first_left_from d (done_of c.passed.items)) there ∙ ap (λ xs. first_left_from d (done_of xs) (ahead s instants e)) (sym passed);
}

pub none_now : (o : Option ℕ) (b : Bool) → is_some o ≡ not b → b ≡ true → o ≡ None
none_now None b e t = refl
none_now (Some a) b e t = absurd (some_none (e ∙ ap not t))

-- the event at the cursor isn't done
pub stops_in : (s : Timetable) (instants : ℕ) (done : List ℕ) (c : Cursor) (a : ℕ) → c.index < length (row_at s c) → get_or (row_at s c) c.index 0 ≡ a → done_of done a ≤ done_of c.passed.items a → StandsInOrder s instants done c →
    first_left (done_of done) (order_on s instants) ≡ Some a
stops_in s instants done c a l actor least is =
    let now : ahead s instants c ≡ a ∷ (drop (c.index + 1) (row_at s c) ++ later (events_at s) c.instant (instants - c.instant)) = split_one (row_at s c) _ c.index (c.index + 1) a l actor refl in
    is.skips (done_of done) is.behind ∙ ap (first_left_from (done_of done) (done_of c.passed.items)) now ∙ first_left-here (done_of done) (done_of c.passed.items) a _ least

-- there is none behind it
pub ends_in : (s : Timetable) (instants : ℕ) (done : List ℕ) (c : Cursor) → drop c.index (row_at s c) ≡ [] → instants ≤ c.instant → StandsInOrder s instants done c → first_left (done_of done) (order_on s instants) ≡ None
ends_in s instants done c over last is =
    let none : instants - c.instant ≡ 0 = omega arith in
    let now : ahead s instants c ≡ [] = ap (λ xs. xs ++ later (events_at s) c.instant (instants - c.instant)) over ∙ ap (later (events_at s) c.instant) none in
    is.skips (done_of done) is.behind ∙ ap (first_left_from (done_of done) (done_of c.passed.items)) now
