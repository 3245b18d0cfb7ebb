use Rattle.std.proofs.Common.{ℕ, ◌+◌, ◌/◌, ◌<◌, ◌≤◌, ◌≡◌, length, take, List, Bool, refl, sym, ◌∙◌, subst, arith}
use Rattle.std.proofs.Math.Nat.{pos_of_dvd_of_pos, le_of_dvd}
use Rattle.std.proofs.lemmas.Bool.{false≢true}
use Rattle.lucy_word.specs.Bits.{bit_at}
use Rattle.lucy_word.specs.Turns.{Repeats, turning}
use Rattle.lucy_word.proofs.ShortPrefix.{turn_bits}
use Rattle.lucy_word.proofs.ShortTurn.{Reducing, reducing_start, reducing_next, reducing_hit, reducing_miss, reducing_done, factor_within, part_divides, part_of_turn}
use Rattle.lucy_word.proofs.shortest.shortest_turn.Goals as goal

start : (v : List Bool) (n : ℕ) → n ≡ length v → 0 < length v → Reducing v n n 2
start v n e some = subst (λ k. Reducing v k k 2) (sym e) (reducing_start v some)

pub loop-rest-init : goal.loop-rest-init
loop-rest-init c = record {
  reducing = start c.args.period.now c.len-turn.result c.len-turn.ensures.len c.requires.nonempty;
  passed = omega arith;
  other = λ same. absurd (omega (arith, same));
}

-- what is left is no greater than the period's length
rest_within : (v : List Bool) (turn rest factor : ℕ) → Reducing v turn rest factor → 0 < length v → rest ≤ length v
rest_within v turn rest factor h some =
    let some_turn : 0 < turn = pos_of_dvd_of_pos h.whole some in
    omega (arith, le_of_dvd some h.whole, le_of_dvd some_turn h.rest_divides)

-- its bits come again after a distance exactly where those of the period do
of_turn : (v : List Bool) (turn rest factor d : ℕ) → Reducing v turn rest factor → 0 < length v →
    Repeats (bit_at (turning (take turn v))) 0 d → Repeats (bit_at (turning v)) 0 d
of_turn v turn rest factor d h some again i over =
    let bits : (j : ℕ) → 0 < j → bit_at (turning v) j ≡ bit_at (turning (take turn v)) j =
    turn_bits v turn (pos_of_dvd_of_pos h.whole some) (le_of_dvd some h.whole) h.repeats in
    bits (i + d) (omega arith) ∙ again i over ∙ sym (bits i over)

to_turn : (v : List Bool) (turn rest factor d : ℕ) → Reducing v turn rest factor → 0 < length v →
    Repeats (bit_at (turning v)) 0 d → Repeats (bit_at (turning (take turn v))) 0 d
to_turn v turn rest factor d h some again i over =
    let bits : (j : ℕ) → 0 < j → bit_at (turning v) j ≡ bit_at (turning (take turn v)) j =
    turn_bits v turn (pos_of_dvd_of_pos h.whole some) (le_of_dvd some h.whole) h.repeats in
    sym (bits (i + d) (omega arith)) ∙ again i over ∙ bits i over

pub overflow_add-factor : goal.overflow_add-factor
overflow_add-factor c =
    let within = rest_within c.args.period.now c.loop-rest.turn c.loop-rest.rest c.loop-rest.factor c.loop-rest.invariant.reducing c.requires.nonempty in
    let le = factor_within c.args.period.now c.loop-rest.turn c.loop-rest.rest c.loop-rest.factor c.loop-rest.invariant.reducing c.loop-rest-test.true in
    omega arith

pub loop-rest-smaller-then-rest-factor-ne0 : goal.loop-rest-smaller-then-rest-factor-ne0
loop-rest-smaller-then-rest-factor-ne0 c =
    let le = factor_within c.args.period.now c.loop-rest.turn c.loop-rest.rest c.loop-rest.factor c.loop-rest.invariant.reducing c.loop-rest-test.true in
    let within = rest_within c.args.period.now c.loop-rest.turn c.loop-rest.rest c.loop-rest.factor c.loop-rest.invariant.reducing c.requires.nonempty in
    omega arith

pub loop-rest-preserved-then-rest-factor-ne0 : goal.loop-rest-preserved-then-rest-factor-ne0
loop-rest-preserved-then-rest-factor-ne0 c = record {
  reducing = reducing_next c.args.period.now c.loop-rest.turn c.loop-rest.rest c.loop-rest.factor c.loop-rest.invariant.reducing c.if-rest-factor-ne0.true;
  passed = omega (arith, c.loop-rest.invariant.passed);
  other = λ same. absurd (omega (arith, same, c.loop-rest.invariant.passed));
}

pub comes_again-requires-clause-within : goal.comes_again-requires-clause-within
comes_again-requires-clause-within c = le_of_dvd c.requires.nonempty c.loop-rest.invariant.reducing.whole

pub comes_again-requires-clause-nonempty : goal.comes_again-requires-clause-nonempty
comes_again-requires-clause-nonempty c = pos_of_dvd_of_pos c.loop-rest.invariant.reducing.whole c.requires.nonempty

pub comes_again-requires-clause-some : goal.comes_again-requires-clause-some
comes_again-requires-clause-some c =
    pos_of_dvd_of_pos (part_divides c.args.period.now c.loop-rest.turn c.loop-rest.rest c.loop-rest.factor c.loop-rest.invariant.reducing c.if-rest-factor-ne0.false) c.requires.nonempty

pub comes_again-requires-clause-whole : goal.comes_again-requires-clause-whole
comes_again-requires-clause-whole c = part_of_turn c.args.period.now c.loop-rest.turn c.loop-rest.rest c.loop-rest.factor c.loop-rest.invariant.reducing c.if-rest-factor-ne0.false

-- the factor that was refused is refused again
pub loop-rest-preserved-then-factor-refused : goal.loop-rest-preserved-then-factor-refused
loop-rest-preserved-then-factor-refused c = record {
  reducing = reducing_miss c.args.period.now c.loop-rest.turn c.loop-rest.rest c.loop-rest.factor c.loop-rest.invariant.reducing c.if-rest-factor-ne0.false
      (c.loop-rest.invariant.other c.if-factor-refused.true);
  passed = c.loop-rest.invariant.passed;
  other = c.loop-rest.invariant.other;
}

pub loop-rest-preserved-then-comes_again : goal.loop-rest-preserved-then-comes_again
loop-rest-preserved-then-comes_again c = record {
  reducing = reducing_hit c.args.period.now c.loop-rest.turn c.loop-rest.rest c.loop-rest.factor c.loop-rest.invariant.reducing c.if-rest-factor-ne0.false
      (of_turn c.args.period.now c.loop-rest.turn c.loop-rest.rest c.loop-rest.factor _ c.loop-rest.invariant.reducing c.requires.nonempty (c.if-comes_again.ensures.0 refl));
  passed = c.loop-rest.invariant.passed;
  other = λ same. absurd (c.if-factor-refused.false same);
}

pub loop-rest-preserved : goal.loop-rest-preserved
loop-rest-preserved c =
    let other : Repeats (bit_at (turning c.args.period.now)) 0 (c.loop-rest.turn / c.loop-rest.factor) → ⊥ =
    λ again.
    false≢true
    (c.if-comes_again.ensures.1
    (to_turn c.args.period.now c.loop-rest.turn c.loop-rest.rest c.loop-rest.factor _ c.loop-rest.invariant.reducing c.requires.nonempty again)) in
    record {
      reducing = reducing_miss c.args.period.now c.loop-rest.turn c.loop-rest.rest c.loop-rest.factor c.loop-rest.invariant.reducing c.if-rest-factor-ne0.false other;
      passed = omega arith;
      other = λ same. other;
    }

pub returns-clause-some : goal.returns-clause-some
returns-clause-some c = pos_of_dvd_of_pos c.loop-rest.invariant.reducing.whole c.requires.nonempty

pub returns-clause-least : goal.returns-clause-least
returns-clause-least c d again =
    reducing_done c.args.period.now c.loop-rest.turn c.loop-rest.rest c.loop-rest.factor c.loop-rest.invariant.reducing c.loop-rest-test.false
    (pos_of_dvd_of_pos c.loop-rest.invariant.reducing.whole c.requires.nonempty) d again
