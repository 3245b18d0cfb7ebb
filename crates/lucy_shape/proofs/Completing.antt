-- There are words for all clocks, whether they are made or not: the first so many, and what comes past them.
use Rattle.std.proofs.Common.{◌≡◌, ℕ, ◌+◌, ◌-◌, ◌<◌, ◌≤◌, true, zero, suc, List, [], ◌∷◌, ◌++◌, length, get_or, ℤ, inl, inr, sym, refl, ap, ◌∙◌, subst, arith, length-append}
use Rattle.std.proofs.lemmas.Bool.{cases_eq, cases_Bool, false≢true}
use Rattle.std.proofs.lemmas.List.{get_or_append_left, get_or-append-add}
use Rattle.std.proofs.lemmas.List.FromFn.{length-map-range_with_len}
use Rattle.std.proofs.lemmas.List.Sums.{sum_by-append}
use Rattle.lucy_word.specs.Bits.{Bits, bit_count}
use Rattle.lucy_word.specs.Always.{always}
use Rattle.lucy_word.specs.Shortened.{shortened}
use Rattle.lucy_word.proofs.ShortenedLaws.{shortened_is}
use Rattle.lucy_need.specs.Meeting.{assigned, word_bits}
use Rattle.lucy_shape.specs.declared.shape.Shape.{Shape}
use Rattle.lucy_shape.proofs.RowLaws.{rising_positions}
use Rattle.lucy_shape.proofs.Writings.{clock_solved, turn_some}
use Rattle.lucy_shape.specs.Fitting.{clock_at, IsLaidOut}
use Rattle.lucy_shape.specs.Inequalities.{SolvesShape}
use Rattle.lucy_shape.specs.Marking.{AreWordsSoFar}
use Rattle.lucy_shape.specs.WordOf.{at_position, positions_of, written_word}
use Rattle.lucy_shape.specs.Writing.{IsWordOf, IsWrittenLong, AreWordsOf, most_word_bits}

-- no word of the first so many clocks is written too long
abbrev pub NoneLong : Shape → List ℤ → ℕ → Type 0
NoneLong shape xs upto = (c : ℕ) → c < upto → (clock_at shape.clocks c).used ≡ true → IsWrittenLong shape.period (clock_at shape.clocks c) xs → ⊥

pub none_long_more : (shape : Shape) (xs : List ℤ) (i : ℕ) → NoneLong shape xs i → ((clock_at shape.clocks i).used ≡ true → IsWrittenLong shape.period (clock_at shape.clocks i) xs → ⊥) →
    NoneLong shape xs (i + 1)
none_long_more shape xs i h short c l u long = elim (cases_eq c i) [
  | inl z ↦ short (subst (λ (n : ℕ). (clock_at shape.clocks n).used ≡ true) z u) (subst (λ (n : ℕ). IsWrittenLong shape.period (clock_at shape.clocks n) xs) z long)
  | inr n ↦ h c (omega arith) u long
]

-- words of the first so many clocks
record AreFirst (shape : Shape) (xs : List ℤ) (upto : ℕ) (words : List Bits) : Type 0 where
  size : length words ≡ upto
  each : (c : ℕ) → c < upto → IsWordOf shape.period (clock_at shape.clocks c) xs (assigned words c)

one_more : (shape : Shape) (xs : List ℤ) (i : ℕ) (words : List Bits) (word : Bits) → AreFirst shape xs i words → IsWordOf shape.period (clock_at shape.clocks i) xs word →
    AreFirst shape xs (i + 1) (words ++ word ∷ [])
one_more shape xs i words word h is = record {
  size = length-append words (word ∷ []) ∙ ap (λ n. n + 1) h.size;
  each = λ c l. elim (cases_eq c i) [
    | inl z ↦
        let a : assigned (words ++ word ∷ []) c ≡ word = ap (λ n. get_or (words ++ word ∷ []) n always) (let s = h.size in let k : c ≡ length words + 0 = omega arith in k) ∙ get_or-append-add words (word ∷ []) 0 always in
        subst (λ (w : Bits). IsWordOf shape.period (clock_at shape.clocks c) xs w) (sym a) (subst (λ (n : ℕ). IsWordOf shape.period (clock_at shape.clocks n) xs word) (sym z) is)
    | inr n ↦
        let a : assigned (words ++ word ∷ []) c ≡ assigned words c = get_or_append_left words (word ∷ []) always c (let s = h.size in omega arith) in
        subst (λ (w : Bits). IsWordOf shape.period (clock_at shape.clocks c) xs w) (sym a) (h.each c (omega arith))
  ];
}

module _ (shape : Shape) (xs : List ℤ) (laid : IsLaidOut shape) (solves : SolvesShape shape xs) where
  word_for : (c : ℕ) → c < length shape.clocks → (w : Bits) × IsWordOf shape.period (clock_at shape.clocks c) xs w
  word_for c within =
      let s = clock_at shape.clocks c in
      let P = shape.period in
      elim (cases_Bool s.used) [
        | inl yes' ↦
            let is = clock_solved shape xs laid solves c (within, yes') in
            let some : 0 < P = turn_some P s xs is.some (rising_positions P s xs is.some is.first is.solves) in
            let v = written_word P s xs in
            let X = positions_of P s xs in
            let size : length v.period ≡ P = length-map-range_with_len (λ i. at_position X i i) (X (s.lead + 1)) P in
            (shortened v, record { used = λ _. shortened_is v (omega (arith, some, size)); unused = λ none. absurd (false≢true (sym none ∙ yes')) })
        | inr none ↦
            let size : length always.period ≡ 0 + 1 = refl in
            (shortened always, record { used = λ yes'. absurd (false≢true (sym none ∙ yes')); unused = λ _. shortened_is always (omega (arith, size)) })
      ]

  completed : (more i : ℕ) (words : List Bits) → AreFirst shape xs i words → i + more ≡ length shape.clocks → (all : List Bits) × AreWordsOf shape xs all × (word_bits words ≤ word_bits all)
  completed zero i words h e = (words, record { size = let s = h.size in omega arith; each = λ c m. h.each c (let s = h.size in omega arith) }, omega arith)
  completed (suc more) i words h e =
      let one = word_for i (omega arith) in
      let rest = completed more (i + 1) (words ++ one.0 ∷ []) (one_more shape xs i words one.0 h one.1) (omega arith) in
      let sum = sum_by-append bit_count words (one.0 ∷ []) in
      (rest.0, rest.1, (let l = rest.2 in omega arith))

  -- where the first so many words and the next have too many bits together, all words have
  pub too_many : (i : ℕ) (words : List Bits) (word : Bits) → AreWordsSoFar shape xs i words → IsWordOf shape.period (clock_at shape.clocks i) xs word → i < length shape.clocks →
      most_word_bits < word_bits words + bit_count word → (all : List Bits) × AreWordsOf shape xs all × (most_word_bits < word_bits all)
  too_many i words word h is within many =
      let first = one_more shape xs i words word (record { size = h.size; each = h.each }) is in
      let rest = completed (length shape.clocks - (i + 1)) (i + 1) (words ++ word ∷ []) first (omega arith) in
      let sum = sum_by-append bit_count words (word ∷ []) in
      (rest.0, rest.1, (let l = rest.2 in omega arith))
