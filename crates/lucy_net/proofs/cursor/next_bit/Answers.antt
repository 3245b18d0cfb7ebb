use Rattle.std.proofs.Common.{ℕ, ◌+◌, sym, subst, arith}
use Rattle.lucy_net.specs.Cursors.{IsCursor}
use Rattle.lucy_net.proofs.CursorLaws.{goes_on, turns}
use Rattle.lucy_net.proofs.cursor.next_bit.Goals as goal

pub returns-then-cursor-prefix : goal.returns-then-cursor-prefix
returns-then-cursor-prefix c fired is = goes_on c.args.word.now fired c.args.cursor (omega (arith, c.if-cursor-prefix.true, c.lengths-prefix.ensures.prefix, c.lengths-prefix.ensures.period)) is

pub returns-else-cursor-prefix : goal.returns-else-cursor-prefix
returns-else-cursor-prefix c fired is =
    subst (λ (n : ℕ). IsCursor c.args.word.now (fired + 1) (n + 1)) (sym c.lengths-prefix.ensures.prefix)
    (turns c.args.word.now fired c.args.cursor (omega (arith, c.lengths-prefix.ensures.nonempty, c.lengths-prefix.ensures.period))
    (omega (arith, c.if-cursor-prefix.false, c.lengths-prefix.ensures.prefix, c.lengths-prefix.ensures.period)) is)
