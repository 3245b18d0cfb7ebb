use Rattle.std.proofs.Common.{subst, arith}
use Rattle.lucy_text.specs.Sources.{Read}
use Rattle.lucy_app.proofs.Outcomes.{order_outcome}
use Rattle.lucy_app.proofs.order.answer.Goals as goal

pub returns-clause-outcome : goal.returns-clause-outcome
returns-clause-outcome g c =
    let read = c.in_ok-bytes.ensures.read in (
      read.0,
      read.1,
      subst (λ n. Read n (g.I.Source.seen c.args.input.now) (g.I.Source.seen c.read_up_to.new.input) read.0 read.1) c.number-most.ensures read.2,
      order_outcome _ _ _ _ _ read.3.0 (omega (arith, c.number-most.ensures)) read.3.1 (rw c.deref.ensures.value at c.verdict_on.ensures.ok)
          (rw c.deref.ensures.value at c.verdict_on.ensures.refused),
    )
