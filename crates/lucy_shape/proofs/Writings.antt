-- The words of the clocks, one after the other, and the assignment that they are.
use Rattle.std.proofs.Common.{cond, ◌≡◌, ℕ, ◌+◌, ◌-◌, ◌*◌, ◌<◌, ◌≤◌, Bool, true, false, zero, suc, List, [], ◌∷◌, ◌++◌, length, get_or, ℤ, pos, inl, inr, sym, ap, ◌∙◌, subst, refl, arith, length-append}
use Rattle.std.proofs.lemmas.Int.{ints}
use Rattle.std.proofs.lemmas.Bool.{cases_lt, cases_eq, cases_Bool}
use Rattle.std.proofs.lemmas.List.{get_or_append_left, get_or-append-add}
use Rattle.std.proofs.lemmas.List.Sums.{sum_by_more_le}
use Rattle.lucy_word.specs.Bits.{Bits, bit_at, one_if, ones_to, IsWord}
use Rattle.lucy_word.specs.Shortest.{Same, IsShortest, IsShortForm}
use Rattle.lucy_word.specs.Stored.{IsStored}
use Rattle.lucy_word.proofs.BitsLaws.{ones_to-le, ones_to-more}
use Rattle.lucy_word.proofs.IndexLaws.{ones_to-same}
use Rattle.lucy_word.proofs.OnLaws.{always_word, always_ticks, on_always}
use Rattle.lucy_solve.specs.System.{value}
use Rattle.lucy_shape.specs.declared.shape.ClockShape.{ClockShape}
use Rattle.lucy_shape.specs.declared.shape.Shape.{Shape}
use Rattle.lucy_shape.proofs.Indexes.{one_index, at_turn}
use Rattle.lucy_shape.proofs.Places.{index_always}
use Rattle.lucy_shape.proofs.WordIndex.{index_with_one}
use Rattle.lucy_shape.proofs.WordOf.{word_law, written_bits}
use Rattle.lucy_shape.proofs.RowLaws.{rising_positions, AreRising}
use Rattle.lucy_shape.proofs.Fitting.{solves_clock, base_at}
use Rattle.lucy_word.proofs.SamplingLaws.{IsWord-on}
use Rattle.lucy_shape.proofs.PositionWord.{climbs}
use Rattle.lucy_need.specs.Meeting.{AreWordsIn, assigned}
use Rattle.lucy_shape.specs.Fitting.{variable_of, unused, clock_at, position_count, IsUsed, IsLaidOut, FitsShape, IsFitting, ArePositions}
use Rattle.lucy_shape.specs.Index.{index_of}
use Rattle.lucy_shape.specs.Inequalities.{SolvesShape}
use Rattle.lucy_shape.specs.Laws.{WordsLaw, WrittenLaw}
use Rattle.lucy_shape.specs.Marking.{IsSolved, AreWordsSoFar}
use Rattle.lucy_shape.specs.Turning.{IsInverse}
use Rattle.lucy_shape.specs.WordOf.{natural, numbers, word_at, positions_of, written_word}
use Rattle.lucy_shape.specs.Writing.{IsWordOf, IsWrittenLong, AreWordsOf, HasLongWord}
use Rattle.lucy_word.specs.Always.{always}

pub so_far_more : (shape : Shape) (xs : List ℤ) (i : ℕ) (words more : List Bits) (word : Bits) → AreWordsSoFar shape xs i words → more ≡ words ++ word ∷ [] → IsStored word →
    IsWordOf shape.period (clock_at shape.clocks i) xs word → ((clock_at shape.clocks i).used ≡ true → IsWrittenLong shape.period (clock_at shape.clocks i) xs → ⊥) → AreWordsSoFar shape xs (i + 1) more
so_far_more shape xs i words more word h e stored is short = record {
  size = ap length e ∙ length-append words (word ∷ []) ∙ ap (λ n. n + 1) h.size;
  each = λ c l. elim (cases_eq c i) [
    | inl z ↦
        let a : assigned more c ≡ word = ap (λ l. get_or l c always) e ∙ ap (λ n. get_or (words ++ word ∷ []) n always) (let s = h.size in let k : c ≡ length words + 0 = omega arith in k) ∙ get_or-append-add words (word ∷ []) 0 always in
        subst (λ (w : Bits). IsWordOf shape.period (clock_at shape.clocks c) xs w) (sym a) (subst (λ (n : ℕ). IsWordOf shape.period (clock_at shape.clocks n) xs word) (sym z) is)
    | inr n ↦
        let a : assigned more c ≡ assigned words c = ap (λ l. get_or l c always) e ∙ get_or_append_left words (word ∷ []) always c (let s = h.size in omega arith) in
        subst (λ (w : Bits). IsWordOf shape.period (clock_at shape.clocks c) xs w) (sym a) (h.each c (omega arith))
  ];
  short = λ c l u. elim (cases_eq c i) [
    | inl z ↦ subst (λ (n : ℕ). IsWrittenLong shape.period (clock_at shape.clocks n) xs → ⊥) (sym z) (short (subst (λ (n : ℕ). (clock_at shape.clocks n).used ≡ true) z u))
    | inr n ↦ h.short c (omega arith) u
  ];
  stored = λ c l. elim (cases_eq c i) [
    | inl z ↦
        let a : assigned more c ≡ word = ap (λ l. get_or l c always) e ∙ ap (λ n. get_or (words ++ word ∷ []) n always) (let s = h.size in let k : c ≡ length words + 0 = omega arith in k) ∙ get_or-append-add words (word ∷ []) 0 always in
        subst IsStored (sym a) stored
    | inr n ↦
        let a : assigned more c ≡ assigned words c = ap (λ l. get_or l c always) e ∙ get_or_append_left words (word ∷ []) always c (let s = h.size in omega arith) in
        subst IsStored (sym a) (h.stored c (omega arith))
  ];
}

pub so_far_all : (shape : Shape) (xs : List ℤ) (i : ℕ) (words : List Bits) → AreWordsSoFar shape xs i words → length shape.clocks ≤ i → i ≤ length shape.clocks → AreWordsOf shape xs words
so_far_all shape xs i words h l k = record { size = let s = h.size in omega arith; each = λ c m. h.each c (let s = h.size in omega arith) }

pub so_far_short : (shape : Shape) (xs : List ℤ) (i : ℕ) (words : List Bits) → AreWordsSoFar shape xs i words → length shape.clocks ≤ i → HasLongWord shape xs → ⊥
so_far_short shape xs i words h l long = h.short long.0 (let a = long.1.0 in omega arith) long.1.1 long.2

-- the variables of a used clock
pub clock_solved : (shape : Shape) (xs : List ℤ) → IsLaidOut shape → SolvesShape shape xs → (c : ℕ) → IsUsed shape.clocks c → IsSolved shape.period (clock_at shape.clocks c) xs
clock_solved shape xs laid solves c u =
    let s = clock_at shape.clocks c in
    let first = laid.first c u in
    let n : position_count s ≡ s.lead + s.ones = ap (λ b. cond b (s.lead + s.ones) 0) u.1 in
    let within = sum_by_more_le position_count shape.clocks c unused u.0 in
    let size = solves.size in
    record { some = laid.ones c u; first = omega arith; inside = omega arith; solves = solves_clock shape xs laid solves c u }

has_one : (v w : Bits) → IsWord v → IsShortForm v w → IsWord w
has_one v w of_v form = IsWord-on v always w (λ i h. sym (form.same i h) ∙ sym (on_always v i h)) of_v always_word form.nonempty

-- a word with a one in each turn has a turn
pub turn_some : (P : ℕ) (c : ClockShape) (xs : List ℤ) → 0 < c.ones → AreRising P c xs → 0 < P
turn_some P c xs some r =
    let d = climbs (positions_of P c xs) r.up (c.lead + 1) c.ones in
    let g = r.fits (c.lead + 1) (omega arith) in
    omega arith

-- the word of a used clock has its ones at the positions
pub word_at_positions : (P : ℕ) (c : ClockShape) (xs : List ℤ) (w : Bits) → IsSolved P c xs → IsShortForm (word_at (positions_of P c xs) c.lead P) w → (k : ℕ) → index_of w k ≡ positions_of P c xs k
word_at_positions P c xs w is form k =
    let r = rising_positions P c xs is.some is.first is.solves in
    let law = word_law (positions_of P c xs) c.lead c.ones P (turn_some P c xs is.some r) r.none r.up r.fits in
    let v = word_at (positions_of P c xs) c.lead P in
    let of_v = index_with_one v law.0 in
    let counts : (i : ℕ) → ones_to w i ≡ ones_to v i = λ i. ones_to-same w v i (λ k h. sym (form.same k h)) in
    let of_w : IsInverse (ones_to w) (index_of w) = index_with_one w (has_one v w (record { has_one = law.0 }) form).has_one in
    one_index (ones_to w) (index_of w) (index_of v) of_w (record {
      there = λ k i h. let e = counts i in let f = of_v.there k i h in omega arith;
      first = λ k i h. of_v.first k i (let e = counts i in omega arith);
    }) k ∙ law.1 k

is_true : (b : Bool) → one_if b ≡ 1 → b ≡ true
is_true true h = refl
is_true false h = absurd (omega arith)

-- positions that are their numbers for a while are so always
same_up : (X : ℕ → ℕ) (n q : ℕ) → 0 < q → X 0 ≡ 0 → ((m : ℕ) → n < m → X (m + q) ≡ X m + q) → ((m : ℕ) → 0 < m → m ≤ n + q → X m ≡ m) → (b k : ℕ) → k ≤ b → X k ≡ k
same_up X n q some none fits low zero k l = let e : X k ≡ X 0 = ap X (omega arith) in omega arith
same_up X n q some none fits low (suc b) k l = elim (cases_lt (n + q) k) [
  | inr here ↦ elim (cases_eq k 0) [ inl z ↦ (let e : X k ≡ X 0 = ap X z in omega arith) | inr z ↦ low k (omega arith) here ]
  | inl past' ↦
      let a = same_up X n q some none fits low b (k - q) (omega arith) in
      let f = fits (k - q) (omega arith) in
      let e : X (k - q + q) ≡ X k = ap X (omega arith) in
      omega arith
]

same_as : (X : ℕ → ℕ) (n q : ℕ) → 0 < q → X 0 ≡ 0 → ((m : ℕ) → n < m → X (m + q) ≡ X m + q) → ((m : ℕ) → 0 < m → m ≤ n + q → X m ≡ m) → (k : ℕ) → X k ≡ k
same_as X n q some none fits low k = same_up X n q some none fits low k k (omega arith)

-- past the words a clock has (1)
pub past : (words : List Bits) → length words ≤ 0 → assigned words 0 ≡ always
past [] h = refl
past (w ∷ words) h = absurd (omega arith)

-- a word that has its k-th one at instant k ticks always
always_from : (w : Bits) → IsWord w → ((k : ℕ) → index_of w k ≡ k) → Same w always
always_from w is at i some =
    let law = index_with_one w is.has_one in
    let count : (i : ℕ) → ones_to w i ≡ i = λ i. (let a = law.there i i (let e = at i in omega arith) in let b = ones_to-le w i in omega arith) in
    let more = ones_to-more w (i - 1) in
    let a = count (i - 1) in
    let b = count (i - 1 + 1) in
    let e : bit_at w (i - 1 + 1) ≡ bit_at w i = ap (bit_at w) (omega arith) in
    let f = ap one_if e in
    let one : one_if (bit_at w i) ≡ 1 = omega arith in
    is_true (bit_at w i) one ∙ sym (always_ticks i some)

-- the words of a shape are an assignment that fits it, at the positions
module _ (shape : Shape) (xs : List ℤ) (words : List Bits) (laid : IsLaidOut shape) (solves : SolvesShape shape xs) (are : AreWordsOf shape xs words) where
  form_of : (c : ℕ) → IsUsed shape.clocks c → IsShortForm (word_at (positions_of shape.period (clock_at shape.clocks c) xs) (clock_at shape.clocks c).lead shape.period) (assigned words c)
  form_of c u = (are.each c (let a = are.size in let b = u.0 in omega arith)).used u.1

  at_positions : (c : ℕ) → IsUsed shape.clocks c → (k : ℕ) → index_of (assigned words c) k ≡ positions_of shape.period (clock_at shape.clocks c) xs k
  at_positions c u = word_at_positions shape.period (clock_at shape.clocks c) xs (assigned words c) (clock_solved shape xs laid solves c u) (form_of c u)

  rising_of : (c : ℕ) → IsUsed shape.clocks c → AreRising shape.period (clock_at shape.clocks c) xs
  rising_of c u = let s = clock_solved shape xs laid solves c u in rising_positions shape.period (clock_at shape.clocks c) xs s.some s.first s.solves

  words_fit : FitsShape (assigned words) shape
  words_fit c u m l =
      let a = at_positions c u m in
      let b = at_positions c u (m + (clock_at shape.clocks c).ones) in
      let d = (rising_of c u).fits m l in
      omega arith

  pub words_at : ArePositions shape (assigned words) xs
  words_at = record {
    size = solves.size;
    origin = solves.origin;
    at = λ c u. record { at = λ m low high. (let a = at_positions c u m in let b = (rising_of c u).at m low high in b ∙ ap pos (sym a)) };
  }

  -- the k-th position of the base is k
  base_positions : (u : IsUsed shape.clocks 0) → (k : ℕ) → index_of (assigned words 0) k ≡ k
  base_positions u k =
      let P = shape.period in
      let s = clock_at shape.clocks 0 in
      let r = rising_of 0 u in
      let base = base_at shape xs laid solves u in
      let some = laid.ones 0 u in
      let e = laid.base u in
      let low : (m : ℕ) → 0 < m → m ≤ s.lead + s.ones → positions_of P s xs m ≡ m = λ m l h.
      (let a = r.at m l h in let b = base.at m l h in let d = index_always always (λ i h. refl) always_word m in omega (arith, ints)) in
      at_positions 0 u k ∙ same_as (positions_of P s xs) s.lead s.ones some r.none (λ m l. (let f = r.fits m l in omega arith)) low k

  words_base : Same (assigned words 0) always
  words_base = elim (cases_lt 0 (length shape.clocks)) [
    | inr none ↦ (let e : assigned words 0 ≡ always = past words (let a = are.size in omega arith) in subst (λ (w : Bits). Same w always) (sym e) (λ i h. refl))
    | inl some ↦ elim (cases_Bool (clock_at shape.clocks 0).used) [
      | inr none ↦ (let f = (are.each 0 (let a = are.size in omega arith)).unused none in λ i h. sym (f.same i h))
      | inl yes' ↦ (let u : IsUsed shape.clocks 0 = (some, yes') in
          let s = clock_solved shape xs laid solves 0 u in
          let r = rising_of 0 u in
          let law = word_law (positions_of shape.period (clock_at shape.clocks 0) xs) (clock_at shape.clocks 0).lead (clock_at shape.clocks 0).ones shape.period laid.some r.none r.up r.fits in
          always_from (assigned words 0) (has_one (word_at (positions_of shape.period (clock_at shape.clocks 0) xs) (clock_at shape.clocks 0).lead shape.period) (assigned words 0) (record { has_one = law.0 }) (form_of 0 u)) (base_positions u))
    ]
  ]

  words_are : AreWordsIn (assigned words) (length shape.clocks)
  words_are c within =
      elim (cases_Bool (clock_at shape.clocks c).used) [
        | inl yes' ↦
            let u : IsUsed shape.clocks c = (within, yes') in
            let r = rising_of c u in
            let law = word_law (positions_of shape.period (clock_at shape.clocks c) xs) (clock_at shape.clocks c).lead (clock_at shape.clocks c).ones shape.period laid.some r.none r.up r.fits in
            has_one (written_word shape.period (clock_at shape.clocks c) xs) (assigned words c) (record { has_one = law.0 }) (form_of c u)
        | inr none ↦ has_one always (assigned words c) always_word ((are.each c (let a = are.size in omega arith)).unused none)
      ]

  pub words_fitting : IsFitting shape (assigned words)
  words_fitting = record { words = words_are; base = words_base; fits = words_fit }

  pub shortest_of : (c : ℕ) → c < length words → IsShortest (assigned words c)
  shortest_of c within =
      elim (cases_Bool (clock_at shape.clocks c).used) [
        | inl yes' ↦ ((are.each c within).used yes').shortest
        | inr none ↦ ((are.each c within).unused none).shortest
      ]

pub words_law : WordsLaw
words_law shape xs words laid solves are = (words_fitting shape xs words laid solves are, words_at shape xs words laid solves are, shortest_of shape xs words laid solves are)

number_after : (xs : List ℤ) (first m : ℕ) → numbers xs first (m + 1) ≡ natural (value xs (first + m))
unfolding numbers
number_after xs first m = ap (numbers xs first) (let e : m + 1 ≡ suc m = omega arith in e)

pub written_law : WrittenLaw
written_law shape w xs c laid are u =
    let s = clock_at shape.clocks c in
    let P = shape.period in
    let n = s.lead in
    let some = laid.ones c u in
    let first = laid.first c u in
    let turn : positions_of P s xs (n + 1) ≡ numbers xs s.first (n + 1 + 0) + 0 * P = at_turn (numbers xs s.first) n s.ones P (n + 1) 0 0 some (omega arith) in
    let here : numbers xs s.first (n + 1 + 0) ≡ natural (value xs (s.first + n)) = ap (numbers xs s.first) (let e : n + 1 + 0 ≡ n + 1 = omega arith in e) ∙ number_after xs s.first n in
    let at : value xs (s.first + n) ≡ pos (index_of (w c) (n + 1)) = ap (value xs) (let e : s.first + n ≡ variable_of s (n + 1) = omega arith in e) ∙ (are.at c u).at (n + 1) (omega arith) (omega arith) in
    let is : natural (value xs (s.first + n)) ≡ index_of (w c) (n + 1) = ap natural at in
    written_bits P s xs ∙ omega arith
