use Rattle.std.proofs.Common.{◌≡◌, ℕ, ◌+◌, ◌-◌, ◌≤◌, ◌<◌, ◌⊎◌, List, ◌∷◌, ◌++◌, [], true, length, inl, inr, sym, ap, subst, arith}
use Rattle.std.proofs.lemmas.List.Sums.{sum_by-append}
use Rattle.std.proofs.lemmas.Result.{err_from_is_err_and}
use Rattle.lucy_word.specs.Bits.{Bits, bit_count}
use Rattle.lucy_word.specs.declared.limit.Limit.TheVariants as limit
use Rattle.lucy_shape.specs.declared.shape.ClockShape.{ClockShape}
use Rattle.lucy_shape.specs.declared.shape.RateFault.{RateFault}
use Rattle.lucy_shape.specs.declared.shape.RateFault.TheVariants as fault
use Rattle.lucy_shape.proofs.Writings.{so_far_more, so_far_all, so_far_short, clock_solved, words_fitting, words_at}
use Rattle.lucy_shape.proofs.Completing.{too_many}
use Rattle.lucy_shape.proofs.words.words_of.Goals as goal
use Rattle.lucy_shape.specs.Fitting.{clock_at}
use Rattle.lucy_shape.specs.Marking.{IsSolved}
use Rattle.lucy_need.specs.Meeting.{word_bits}
use Rattle.lucy_shape.specs.Writing.{IsWordOf, IsWrittenLong, AreRefused, most_word_bits}

pub clock_word-requires : goal.clock_word-requires
clock_word-requires c =
    let i = c.loop-clock.clock-index in
    let P : List ClockShape → Type 0 = λ l. (clock_at l i).used ≡ true → IsSolved c.args.shape.now.period (clock_at l i) c.args.positions.now in
    let t = c.loop-clock-test.true in
    let e = ap length c.list-clock-items.ensures in
    subst P (sym c.list-clock-items.ensures) (λ u. clock_solved c.args.shape.now c.args.positions.now c.requires.laid c.requires.solves i (omega arith, u))

pub returns-in_err-word-clause-refused : goal.returns-in_err-word-clause-refused
returns-in_err-word-clause-refused c =
    let i = c.loop-clock.clock-index in
    let t = c.loop-clock-test.true in
    let n = ap length c.list-clock-items.ensures in
    let Q : RateFault → List ClockShape → Type 0 = λ e l. (e ≡ fault.OutOfMemory) ⊎ ((e ≡ fault.Limit limit.Word) × ((clock_at l i).used ≡ true) × IsWrittenLong c.args.shape.now.period (clock_at l i) c.args.positions.now) in
    let r : AreRefused c.args.shape.now c.args.positions.now c.in_err-word.field-0.0 = elim (subst (Q c.in_err-word.field-0.0) c.list-clock-items.ensures c.in_err-word.ensures.refused) [
      | inl m ↦ inl m
      | inr m ↦ inr (inl (m.0, (i, (omega arith, m.1), m.2)))
    ] in
    let p = err_from_is_err_and c.from_residual.result c.from_residual.ensures.1 in rw (p.1, p.2) r

-- what is left of the bits with one word more
left_more : (words more : List Bits) (word : Bits) (left p q : ℕ) → more ≡ words ++ word ∷ [] → p ≡ length word.prefix → q ≡ length word.period → p + q ≤ left →
    left + word_bits words ≡ most_word_bits → left - (p + q) + word_bits more ≡ most_word_bits
left_more words more word left p q e is_p is_q within before =
    let sum = sum_by-append bit_count words (word ∷ []) in
    let all : word_bits more ≡ word_bits (words ++ word ∷ []) = ap word_bits e in
    omega arith

pub loop-clock-preserved : goal.loop-clock-preserved
loop-clock-preserved c =
    let i = c.loop-clock.clock-index in
    let P : List ClockShape → Type 0 = λ l. IsWordOf c.args.shape.now.period (clock_at l i) c.args.positions.now c.in_ok-word.word in
    let Q : List ClockShape → Type 0 = λ l. (clock_at l i).used ≡ true → IsWrittenLong c.args.shape.now.period (clock_at l i) c.args.positions.now → ⊥ in (
      so_far_more c.args.shape.now c.args.positions.now i c.loop-clock.words.items c.push.new.self.items c.in_ok-word.word c.loop-clock.invariant.0 c.in_ok-push.ensures.items c.in_ok-word.ensures.stored
          (subst P c.list-clock-items.ensures c.in_ok-word.ensures.ok) (subst Q c.list-clock-items.ensures c.in_ok-word.ensures.short),
      left_more c.loop-clock.words.items c.push.new.self.items c.in_ok-word.word c.loop-clock.left c.lengths-prefix.result.0 c.lengths-prefix.result.1 c.in_ok-push.ensures.items
          c.lengths-prefix.ensures.prefix c.lengths-prefix.ensures.period (omega arith) c.loop-clock.invariant.1,
    )

pub returns-then-prefix-period-clause-refused : goal.returns-then-prefix-period-clause-refused
returns-then-prefix-period-clause-refused c =
    let i = c.loop-clock.clock-index in
    let P : List ClockShape → Type 0 = λ l. IsWordOf c.args.shape.now.period (clock_at l i) c.args.positions.now c.in_ok-word.word in
    let t = c.loop-clock-test.true in
    let n = ap length c.list-clock-items.ensures in
    let many : most_word_bits < word_bits c.loop-clock.words.items + bit_count c.in_ok-word.word =
    (let u = c.lengths-prefix.ensures.prefix in let v = c.lengths-prefix.ensures.period in let b = c.loop-clock.invariant.1 in let f = c.if-prefix-period.true in omega arith) in
    elim c.limit_of.ensures [
      | inl w ↦ inr (inl (ap (λ l. fault.Limit l) w.0, w.1))
      | inr w ↦ inr (inr (
        ap (λ l. fault.Limit l) w.0,
        w.1,
        too_many c.args.shape.now c.args.positions.now c.requires.laid c.requires.solves i c.loop-clock.words.items c.in_ok-word.word c.loop-clock.invariant.0
            (subst P c.list-clock-items.ensures c.in_ok-word.ensures.ok) (omega arith) many,
      ))
    ]

pub returns-clause-words : goal.returns-clause-words
returns-clause-words c =
    let end = (let t = c.loop-clock-test.false in let e = ap length c.list-clock-items.ensures in let y : length c.args.shape.now.clocks ≤ c.loop-clock.clock-index = omega arith in y) in
    let most = (let t = c.loop-clock.auto.clock-index-end in let e = ap length c.list-clock-items.ensures in let y : c.loop-clock.clock-index ≤ length c.args.shape.now.clocks = omega arith in y) in
    record {
      each = so_far_all _ _ c.loop-clock.clock-index _ c.loop-clock.invariant.0 end most;
      short = so_far_short c.args.shape.now c.args.positions.now c.loop-clock.clock-index c.loop-clock.words.items c.loop-clock.invariant.0 end;
      few = (let l = c.loop-clock.invariant.1 in omega arith);
    }

pub returns-clause-fitting : goal.returns-clause-fitting
returns-clause-fitting c = words_fitting c.args.shape.now c.args.positions.now c.loop-clock.words.items c.requires.laid c.requires.solves
    (so_far_all _ _ c.loop-clock.clock-index _ c.loop-clock.invariant.0 (let t = c.loop-clock-test.false in let e = ap length c.list-clock-items.ensures in omega arith) (let t = c.loop-clock.auto.clock-index-end in let e = ap length c.list-clock-items.ensures in omega arith))

pub returns-clause-positions : goal.returns-clause-positions
returns-clause-positions c = words_at c.args.shape.now c.args.positions.now c.loop-clock.words.items c.requires.laid c.requires.solves
    (so_far_all _ _ c.loop-clock.clock-index _ c.loop-clock.invariant.0 (let t = c.loop-clock-test.false in let e = ap length c.list-clock-items.ensures in omega arith) (let t = c.loop-clock.auto.clock-index-end in let e = ap length c.list-clock-items.ensures in omega arith))

pub returns-clause-stored : goal.returns-clause-stored
returns-clause-stored c = λ i within. c.loop-clock.invariant.0.stored i (let s = c.loop-clock.invariant.0.size in omega arith)
