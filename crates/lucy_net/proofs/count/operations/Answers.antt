use Rattle.std.proofs.Common.{ℕ, ◌+◌, ◌*◌, ◌≤◌, ◌≡◌, length, ap, arith}
use Rattle.std.proofs.lemmas.Nat.{mul-le}
use Rattle.lucy_stream.specs.Firings.{gave_in}
use Rattle.lucy_net.specs.Plans.{form_of}
use Rattle.lucy_net.specs.Lengths.{takes_each}
use Rattle.lucy_net.proofs.CountLaws.{ops_length, gave_le}
use Rattle.lucy_net.proofs.count.operations.Goals as goal

few : (q t k g : ℕ) → q ≤ 1048576 → t ≤ 3 → k ≤ 1048576 → g ≤ 32768 → q * t + k * g ≤ 34363932672
few q t k g a b c d = omega (arith, mul-le q t 1048576 3 a b, mul-le k g 1048576 32768 c d)

few_takes : (q t : ℕ) → q ≤ 1048576 → t ≤ 3 → q * t ≤ 3145728
few_takes q t a b = omega (arith, mul-le q t 1048576 3 a b)

few_gives : (k g : ℕ) → k ≤ 1048576 → g ≤ 32768 → k * g ≤ 34359738368
few_gives k g c d = omega (arith, mul-le k g 1048576 32768 c d)

whole : (q t k g b c d n : ℕ) → t ≡ b → k ≡ c → g ≡ d → n ≡ q * b + c * d → q * t + k * g ≡ n
whole q t k g b c d n f h i j = cc

pub overflow_mul-result : goal.overflow_mul-result
overflow_mul-result c = omega (arith, few_takes c.args.fired c.takes_each.result c.requires.early c.takes_each.ensures.few)

pub overflow_mul-result-2 : goal.overflow_mul-result-2
overflow_mul-result-2 c =
    omega (
      arith,
      few_gives c.gave.result (length c.list.result.now)
          (omega (arith, c.gave.ensures, gave_le (form_of c.args.actor.now.kind) c.args.fired, c.requires.early)) (omega (arith, ap length c.list.ensures, c.requires.gives)),
    )

pub overflow_add-result : goal.overflow_add-result
overflow_add-result c =
    omega (
      arith,
      few c.args.fired c.takes_each.result c.gave.result (length c.list.result.now) c.requires.early c.takes_each.ensures.few
          (omega (arith, c.gave.ensures, gave_le (form_of c.args.actor.now.kind) c.args.fired, c.requires.early)) (omega (arith, ap length c.list.ensures, c.requires.gives)),
    )

pub returns-clause-count : goal.returns-clause-count
returns-clause-count c =
    let form = form_of c.args.actor.now.kind in
    whole c.args.fired c.takes_each.result c.gave.result (length c.list.result.now) (takes_each form (length c.args.actor.now.takes)) (gave_in form c.args.fired) (length c.args.actor.now.gives) _
    c.takes_each.ensures.is c.gave.ensures (ap length c.list.ensures) (ops_length form c.args.actor.now.takes c.args.actor.now.gives c.args.fired)

pub returns-clause-few : goal.returns-clause-few
returns-clause-few c =
    omega (
      arith,
      few c.args.fired c.takes_each.result c.gave.result (length c.list.result.now) c.requires.early c.takes_each.ensures.few
          (omega (arith, c.gave.ensures, gave_le (form_of c.args.actor.now.kind) c.args.fired, c.requires.early)) (omega (arith, ap length c.list.ensures, c.requires.gives)),
    )
