-- Laws of turns and steps.
use Rattle.std.proofs.Common.{ℕ, ◌+◌, ◌*◌, ◌≤◌, ◌≡◌, length, ap, ◌∙◌, arith}
use Rattle.std.proofs.Math.Nat.{mul-le-mul_left, le_of_mul-le-mul_right}
use Rattle.lucy_word.specs.Bits.{Bits, ones_to, ones_in}
use Rattle.lucy_word.proofs.IndexLaws.{ones_to-periods}
use Rattle.lucy_check.specs.Rates.{IsNoSlower}
use Rattle.lucy_check.specs.Turns.{IsTurn, AreTurns, AreRounds}
use Rattle.lucy_check.specs.declared.turns.Turns.{Turns}

-- with each turn a has its ones of a turn more
pub ones_to-turn : (a : Bits) (t : Turns) → IsTurn a t → (i n : ℕ) → t.start ≤ i → ones_to a (i + n * t.turn) ≡ ones_to a i + n * t.gain
ones_to-turn a t is i n past =
    let q : ℕ = is.periods in
    let long : n * t.turn ≡ n * (q * length a.period) = ap (λ x. n * x) is.turn in
    let many : n * t.gain ≡ n * (q * ones_in a.period) = ap (λ x. n * x) is.gain in
    let at : i + n * t.turn ≡ i + n * q * length a.period = omega arith in
    let periods = ones_to-periods a i (n * q) (omega (arith, is.start)) in
    omega (arith, ap (ones_to a) at)

-- with each step b has its ones of a step more
pub ones_to-step : (a b : Bits) (t : Turns) → AreTurns a b t → (i n : ℕ) → t.start ≤ i → ones_to b (i + n * t.step) ≡ ones_to b i + n * t.cost
ones_to-step a b t is i n past =
    let long : n * t.step ≡ n * length b.period = ap (λ x. n * x) is.step in
    let many : n * t.cost ≡ n * ones_in b.period = ap (λ x. n * x) is.cost in
    let at : i + n * t.step ≡ i + n * length b.period = omega arith in
    let periods = ones_to-periods b i n (omega (arith, is.start)) in
    omega (arith, ap (ones_to b) at)

-- where turns and steps end together, b has no fewer ones more
gain_below : (a b : Bits) (t : Turns) (round : AreRounds t) → AreTurns a b t → IsNoSlower b a → round.together.0 * t.gain ≤ t.rounds * t.cost
gain_below a b t round is rate =
    let q : ℕ = is.turn.periods in
    let u : ℕ = round.together.0 in
    let s : q * (ones_in a.period * length b.period) ≤ q * (ones_in b.period * length a.period) = mul-le-mul_left q rate in
    let by_step : t.gain * t.step ≡ q * ones_in a.period * length b.period =
    ap (λ x. x * t.step) is.turn.gain ∙ ap (λ x. q * ones_in a.period * x) is.step in
    let by_turn : t.cost * t.turn ≡ ones_in b.period * (q * length a.period) =
    ap (λ x. x * t.turn) is.cost ∙ ap (λ x. ones_in b.period * x) is.turn.turn in
    let v : t.gain * t.step ≤ t.cost * t.turn = omega arith in
    let w : u * (t.gain * t.step) ≤ u * (t.cost * t.turn) = mul-le-mul_left u v in
    let x : t.cost * (t.rounds * t.step) ≡ t.cost * (u * t.turn) = ap (λ x. t.cost * x) round.together.1 in
    le_of_mul-le-mul_right (let y : u * t.gain * t.step ≤ t.rounds * t.cost * t.step = omega arith in y) round.some

-- so a falls no further behind with each round of steps
pub ones_to-rounds : (a b : Bits) (t : Turns) → AreRounds t → AreTurns a b t → IsNoSlower b a → (i n : ℕ) → t.start ≤ i →
    ones_to a (i + n * (t.rounds * t.step)) ≤ ones_to a i + n * (t.rounds * t.cost)
ones_to-rounds a b t round is rate i n past =
    let u : ℕ = round.together.0 in
    let e : n * (t.rounds * t.step) ≡ n * (u * t.turn) = ap (λ x. n * x) round.together.1 in
    let at : i + n * (t.rounds * t.step) ≡ i + n * u * t.turn = omega arith in
    let turns = ones_to-turn a t is.turn i (n * u) past in
    let less : n * (u * t.gain) ≤ n * (t.rounds * t.cost) = mul-le-mul_left n (gain_below a b t round is rate) in
    omega (arith, ap (ones_to a) at)
