-- An assignment meets the needs with no more than so many items waiting exactly where its positions solve the rows of the size.
use Rattle.std.proofs.Common.{◌≡◌, ℕ, ◌+◌, ◌-◌, ◌*◌, ◌/◌, ◌<◌, ◌≤◌, ◌↔◌, ◌⊎◌, max, zero, suc, List, length, ℤ, inl, inr, sym, ap, ◌∙◌, subst, arith, length-append}
use Rattle.std.specs.List.{AllByRecursion, Contains}
use Rattle.std.proofs.lemmas.Bool.{cases_lt, cases_eq}
use Rattle.std.proofs.lemmas.List.Elements.{All-from_recursion}
use Rattle.std.proofs.lemmas.List.FromFn.{length-map-range_with_len}
use Rattle.std.proofs.lemmas.Nat.{mul-le}
use Rattle.lucy_word.specs.Bits.{ones_to}
use Rattle.lucy_word.specs.Always.{always}
use Rattle.lucy_word.proofs.OnLaws.{always_count}
use Rattle.lucy_word.proofs.Lists.{all_join}
use Rattle.lucy_need.specs.Meeting.{Assignment, alone}
use Rattle.lucy_need.specs.declared.need.Need.{Need}
use Rattle.lucy_need.specs.declared.need.Need.TheVariants.{Adapt}
use Rattle.lucy_need.specs.declared.need.Needs.{Needs}
use Rattle.lucy_need.proofs.AllLaws.{all_front, all_back}
use Rattle.lucy_solve.specs.System.{most_inequalities, DifferenceSystem, IsGrounded, IsBase, Solves, no_diff}
use Rattle.lucy_shape.specs.declared.shape.ClockShape.{ClockShape}
use Rattle.lucy_shape.specs.declared.shape.Shape.{Shape}
use Rattle.lucy_shape.specs.Added.{with_rows, IsPlaced, IsFoldable, IsNeedSpreadable}
use Rattle.lucy_shape.specs.Fitting.{most_positions, variable_count, clock_at, turn_instances, AreCarried, IsCarried, IsShapeFor, IsFitting, ArePositions}
use Rattle.lucy_need.specs.Stored.{HasWords}
use Rattle.lucy_shape.specs.Index.{index_of, Recurs}
use Rattle.lucy_shape.specs.Inequalities.{lead_instances, instances, inequalities, system_of}
use Rattle.lucy_shape.specs.Rows.{HoldsIn}
use Rattle.lucy_shape.specs.Sized.{size_row, size_rows, sized_inequalities, sized_system, HasSizeWithin, MeetsWithin, SizedLaw}
use Rattle.lucy_shape.specs.Turning.{IsInverse}
use Rattle.lucy_shape.proofs.Bases.{has_left, need_spreads}
use Rattle.lucy_shape.proofs.Systems.{system_ready, solves_front}
use Rattle.lucy_shape.proofs.Indexes.{decided, fits_later}
use Rattle.lucy_shape.proofs.Lists.{all_map, all_map_at}
use Rattle.lucy_shape.proofs.Meeting.{each_from, each_to, meeting_law}
use Rattle.lucy_shape.proofs.Fitting.{fitting_law}
use Rattle.lucy_shape.proofs.Reaches.{fold_most}
use Rattle.lucy_shape.proofs.RowLaws.{row_law}
use Rattle.lucy_shape.proofs.WordIndex.{word_index}

-- counts stand so far apart at most exactly where the index of one is no later than the index of the other so much further
waits_to : (O I R J : ℕ → ℕ) (size : ℕ) → IsInverse O I → IsInverse R J → ((i : ℕ) → O i ≤ R i + size) → (k : ℕ) → J k ≤ I (k + size)
waits_to O I R J size a b h k =
    let c = a.there (k + size) (I (k + size)) (omega arith) in
    let d = h (I (k + size)) in
    b.first k (I (k + size)) (omega arith)

waits_from : (O I R J : ℕ → ℕ) (size : ℕ) → IsInverse O I → IsInverse R J → ((k : ℕ) → 0 < k → J k ≤ I (k + size)) → (i : ℕ) → O i ≤ R i + size
waits_from O I R J size a b h i = elim (cases_lt size (O i)) [
  | inr few ↦ omega arith
  | inl many ↦
      let same : I (O i - size + size) ≡ I (O i) = ap I (omega arith) in
      let c = h (O i - size) (omega arith) in
      let d = a.first (O i) i (omega arith) in
      let e = b.there (O i - size) i (omega arith) in
      omega arith
]

-- a clock alone has its ones as instances
alone_lead : (lead : ℕ) → lead_instances lead always ≡ lead
alone_lead lead = let a = always_count (max lead (length always.prefix)) in omega arith

-- a clock alone has its ones as instances
pub alone_turn : (clocks : List ClockShape) (c : ℕ) → turn_instances clocks (alone c) ≡ (clock_at clocks c).ones
alone_turn clocks c = div-one ((clock_at clocks c).ones)
  where
    div-one : (n : ℕ) → n * 1 / 1 ≡ n
    div-one n = omega arith

pub alone_instances : (clocks : List ClockShape) (from to : ℕ) → instances clocks (alone from) (alone to) ≡ max (clock_at clocks from).lead (clock_at clocks to).lead + (clock_at clocks from).ones
alone_instances clocks from to =
    let a = alone_lead (clock_at clocks from).lead in
    let b = alone_lead (clock_at clocks to).lead in
    let c = alone_turn clocks from in
    omega arith

pub size_count : (P : ℕ) (clocks : List ClockShape) (from to size : ℕ) → length (size_rows P clocks from to size) ≡ instances clocks (alone from) (alone to)
size_count P clocks from to size = length-map-range_with_len (size_row P clocks from to size) 1 (instances clocks (alone from) (alone to))

pub sized_length : (needs : Needs) (shape : Shape) (from to size : ℕ) → length (sized_inequalities needs shape from to size) ≡ length (inequalities needs shape) + instances shape.clocks (alone from) (alone to)
sized_length needs shape from to size =
    let a = length-append (inequalities needs shape) (size_rows shape.period shape.clocks from to size) in
    let b = size_count shape.period shape.clocks from to size in
    omega arith

-- the same by the number of rows of the size
pub sized_count : (needs : Needs) (shape : Shape) (from to size more : ℕ) (clocks : List ClockShape) → clocks ≡ shape.clocks → more ≡ length (size_rows shape.period clocks from to size) →
    length (sized_inequalities needs shape from to size) ≡ length (inequalities needs shape) + more
sized_count needs shape from to size more clocks e count =
    let a = length-append (inequalities needs shape) (size_rows shape.period shape.clocks from to size) in
    let b = ap (λ (l : List ClockShape). length (size_rows shape.period l from to size)) e in
    omega arith

-- a position that isn't far away is folded by few instants
pub near_folds : (P n m : ℕ) (c : ClockShape) → IsPlaced n c → n ≤ 1 + most_positions → 0 < m → m ≤ 2097152 → P ≤ most_positions → IsFoldable P c m
near_folds P n m c placed wide some near short =
    let a = fold_most m c.lead c.ones m 0 P placed.some (omega arith) in
    let b : (m + 0) * P ≤ 2097152 * 65536 = mul-le (m + 0) P 2097152 65536 (omega arith) short in
    record {
      placed = record { some = placed.some; first = placed.first; within = (let within = placed.within in omega arith) };
      some = some;
      fits = omega arith;
    }

pub same_length : (needs : Needs) (shape : Shape) (from to size other : ℕ) → length (sized_inequalities needs shape from to size) ≡ length (sized_inequalities needs shape from to other)
same_length needs shape from to size other = sized_length needs shape from to size ∙ sym (sized_length needs shape from to other)

-- what is known of a need of the list
pub carried_at : (needs : Needs) (shape : Shape) (need : Need) → IsShapeFor needs shape → Contains needs.list need → IsCarried shape.clocks need
carried_at needs shape need is has = subst (IsCarried shape.clocks) has.2 (All-from_recursion (IsCarried shape.clocks) needs.list is.carried has.0 need has.1)

pub words_at : (needs : Needs) (need : Need) → AllByRecursion HasWords needs.list → Contains needs.list need → HasWords need
words_at needs need words has = subst HasWords has.2 (All-from_recursion HasWords needs.list words has.0 need has.1)

pub spreads_at : (needs : Needs) (shape : Shape) (need : Need) → IsShapeFor needs shape → AllByRecursion HasWords needs.list → Contains needs.list need →
    IsNeedSpreadable (variable_count shape.clocks) shape.clocks need
spreads_at needs shape need is words has = need_spreads shape need is.laid (words_at needs need words has) (carried_at needs shape need is has)

module _ (needs : Needs) (shape : Shape) (w : Assignment) (xs : List ℤ) (from to size : ℕ) (is : IsShapeFor needs shape) (fitting : IsFitting shape w) (are : ArePositions shape w xs)
    (carried : AreCarried shape.clocks (alone from) (alone to)) where
  abbrev c : ClockShape
  c = clock_at shape.clocks from

  abbrev d : ClockShape
  d = clock_at shape.clocks to

  abbrev StandsBy : ℕ → Type 0
  StandsBy k = index_of (w to) k ≤ index_of (w from) (k + size)

  -- a row of the size says what it says of positions
  row_says : (k : ℕ) → 0 < k → (HoldsIn xs (size_row shape.period shape.clocks from to size k) ↔ StandsBy k)
  row_says k some =
      row_law shape.period d c (index_of (w to)) (index_of (w from)) xs k (k + size)
      (is.laid.ones to carried.second_used) (is.laid.ones from carried.first_used) (fitting.fits to carried.second_used) (fitting.fits from carried.first_used)
      (are.at to carried.second_used) (are.at from carried.first_used) some (omega arith)

  -- those of the instances decide all
  all_stand : ((k : ℕ) → 0 < k → k ≤ instances shape.clocks (alone from) (alone to) → StandsBy k) → (k : ℕ) → 0 < k → StandsBy k
  all_stand h =
      let n = max c.lead d.lead in
      let same : d.ones ≡ c.ones = sym (alone_turn shape.clocks to) ∙ sym carried.same ∙ alone_turn shape.clocks from in
      let count = alone_instances shape.clocks from to in
      let some = is.laid.ones from carried.first_used in
      let fits = subst (λ (q : ℕ). Recurs (index_of (w to)) d.lead q shape.period) same (fitting.fits to carried.second_used) in
      decided (index_of (w to)) (λ k. index_of (w from) (k + size)) n c.ones shape.period some
      (fits_later (index_of (w to)) d.lead n c.ones shape.period (omega arith) fits)
      (λ m l. let a = fitting.fits from carried.first_used (m + size) (omega arith) in
      let b : index_of (w from) (m + c.ones + size) ≡ index_of (w from) (m + size + c.ones) = ap (index_of (w from)) (omega arith) in omega arith)
      (λ k some few. h k some (omega arith))

  pub size_to : HasSizeWithin (w from) (w to) size → AllByRecursion (HoldsIn xs) (size_rows shape.period shape.clocks from to size)
  size_to h =
      let a = word_index (w from) (fitting.words from carried.first_used.0) in
      let b = word_index (w to) (fitting.words to carried.second_used.0) in
      let all = waits_to (ones_to (w from)) (index_of (w from)) (ones_to (w to)) (index_of (w to)) size a b h in
      all_map (HoldsIn xs) (size_row shape.period shape.clocks from to size) 1 (instances shape.clocks (alone from) (alone to)) (λ k low high. (row_says k low).1 (all k))

  pub size_from : AllByRecursion (HoldsIn xs) (size_rows shape.period shape.clocks from to size) → HasSizeWithin (w from) (w to) size
  size_from h =
      let a = word_index (w from) (fitting.words from carried.first_used.0) in
      let b = word_index (w to) (fitting.words to carried.second_used.0) in
      let at = all_map_at (HoldsIn xs) (size_row shape.period shape.clocks from to size) 1 (instances shape.clocks (alone from) (alone to)) h in
      let all = all_stand (λ k some few. (row_says k some).0 (at k some (omega arith))) in
      waits_from (ones_to (w from)) (index_of (w from)) (ones_to (w to)) (index_of (w to)) size a b all

-- a solution of the table with the rows is one of the table and of the rows
pub solves_both : (needs : Needs) (shape : Shape) (xs : List ℤ) (from to size : ℕ) → Solves (system_of needs shape) xs → AllByRecursion (HoldsIn xs) (size_rows shape.period shape.clocks from to size) →
    Solves (sized_system needs shape from to size) xs
solves_both needs shape xs from to size solves rows = record {
  size = solves.size;
  origin = solves.origin;
  each = each_from xs (sized_inequalities needs shape from to size)
      (all_join (HoldsIn xs) (inequalities needs shape) (size_rows shape.period shape.clocks from to size) (each_to xs (inequalities needs shape) solves.each) rows);
}

pub solves_table : (needs : Needs) (shape : Shape) (xs : List ℤ) (from to size : ℕ) → Solves (sized_system needs shape from to size) xs → Solves (system_of needs shape) xs
solves_table needs shape xs from to size solves = record {
  size = solves.size;
  origin = solves.origin;
  each = each_from xs (inequalities needs shape)
      (all_front (HoldsIn xs) (inequalities needs shape) (size_rows shape.period shape.clocks from to size) (each_to xs (sized_inequalities needs shape from to size) solves.each));
}

pub solves_rows : (needs : Needs) (shape : Shape) (xs : List ℤ) (from to size : ℕ) → Solves (sized_system needs shape from to size) xs →
    AllByRecursion (HoldsIn xs) (size_rows shape.period shape.clocks from to size)
solves_rows needs shape xs from to size solves =
    all_back (HoldsIn xs) (inequalities needs shape) (size_rows shape.period shape.clocks from to size) (each_to xs (sized_inequalities needs shape from to size) solves.each)

pub sized_law : SizedLaw
sized_law needs shape w xs from to size words is fitting are has =
    let carried = carried_at needs shape (Adapt (alone from) (alone to)) is has in
    let law = meeting_law needs shape w xs words is fitting are in (
      λ met. solves_both needs shape xs from to size (law.0 met.0) (size_to needs shape w xs from to size is fitting are carried met.1),
      λ solves. (law.1 (solves_table needs shape xs from to size solves), size_from needs shape w xs from to size is fitting are carried (solves_rows needs shape xs from to size solves)),
    )

-- numbers that solve it are the positions of an assignment that fits and meets the needs within the size
pub fits_within : (needs : Needs) (shape : Shape) (xs : List ℤ) (from to size : ℕ) → AllByRecursion HasWords needs.list → IsShapeFor needs shape → Contains needs.list (Adapt (alone from) (alone to)) →
    Solves (sized_system needs shape from to size) xs → (w : Assignment) × IsFitting shape w × ArePositions shape w xs × MeetsWithin needs from to size w
fits_within needs shape xs from to size words is has solves =
    let f = fitting_law shape xs is.laid (solves_front needs shape xs (solves_table needs shape xs from to size solves)) in
    (f.0, f.1, f.2, (sized_law needs shape f.0 xs from to size words is f.1 f.2 has).1 solves)

pub sized_ready : (needs : Needs) (shape : Shape) (from to size : ℕ) → IsShapeFor needs shape → length (sized_inequalities needs shape from to size) ≤ most_inequalities → IsGrounded (sized_system needs shape from to size)
sized_ready needs shape from to size is few =
    let a = sized_length needs shape from to size in
    let front = system_ready needs shape is (omega arith) in
    record {
      few = few;
      based = λ v some l. has_left no_diff (IsBase v) (inequalities needs shape) (size_rows shape.period shape.clocks from to size) (front.based v some l);
    }

pub sized_is : (needs : Needs) (shape : Shape) (from to size : ℕ) (clocks : List ClockShape) (first last : DifferenceSystem) → clocks ≡ shape.clocks → first ≡ system_of needs shape →
    last ≡ with_rows first (size_rows shape.period clocks from to size) → last ≡ sized_system needs shape from to size
sized_is needs shape from to size clocks first last e f g =
    g ∙ ap (λ s. with_rows s (size_rows shape.period clocks from to size)) f ∙ ap (λ (l : List ClockShape). with_rows (system_of needs shape) (size_rows shape.period l from to size)) e

-- up to each number of instances either each holds or one doesn't
first_late : (I J : ℕ → ℕ) (size n : ℕ) → ((k : ℕ) → 0 < k → k ≤ n → J k ≤ I (k + size)) ⊎ ((k : ℕ) × (0 < k) × (I (k + size) < J k))
first_late I J size zero = inl (λ k some few. absurd (omega arith))
first_late I J size (suc n) = elim (first_late I J size n) [
  | inr late ↦ inr late
  | inl so_far ↦ elim (cases_lt (I (suc n + size)) (J (suc n))) [
    | inl late ↦ inr (suc n, omega arith, late)
    | inr good ↦ inl (λ k some few. elim (cases_eq k (suc n)) [
      | inl e ↦ subst (λ (m : ℕ). J m ≤ I (m + size)) (sym e) good
      | inr e ↦ so_far k some (omega arith)
    ])
  ]
]

-- an assignment that fits and meets the needs keeps within a size, or at some instant more wait
pub within_or_more : (needs : Needs) (shape : Shape) (w : Assignment) (xs : List ℤ) (from to size : ℕ) → IsShapeFor needs shape → IsFitting shape w → ArePositions shape w xs →
    Contains needs.list (Adapt (alone from) (alone to)) → HasSizeWithin (w from) (w to) size ⊎ ((i : ℕ) × (ones_to (w to) i + size < ones_to (w from) i))
within_or_more needs shape w xs from to size is fitting are has =
    let carried = carried_at needs shape (Adapt (alone from) (alone to)) is has in
    let I = index_of (w from) in
    let J = index_of (w to) in
    let a = word_index (w from) (fitting.words from carried.first_used.0) in
    let b = word_index (w to) (fitting.words to carried.second_used.0) in
    elim (first_late I J size (instances shape.clocks (alone from) (alone to))) [
      | inl all ↦ inl (waits_from (ones_to (w from)) I (ones_to (w to)) J size a b (all_stand needs shape w xs from to size is fitting are carried all))
      | inr late ↦ inr (
        I (late.0 + size),
        let there = a.there (late.0 + size) (I (late.0 + size)) (omega arith) in
            let l = late.2 in
            elim (cases_lt (ones_to (w to) (I (late.0 + size))) late.0) [
              | inl few ↦ omega arith
              | inr many ↦ let f = b.first late.0 (I (late.0 + size)) many in absurd (omega arith)
            ],
      )
    ]
