use Rattle.std.proofs.Common.{ℕ, sym, subst}
use Rattle.lucy_net.specs.Cursors.{IsCursor}
use Rattle.lucy_net.proofs.state.read_on.Goals as goal

pub returns-then-move_on-clause-cursor : goal.returns-then-move_on-clause-cursor
returns-then-move_on-clause-cursor c =
    let e = c.move_on.ensures.moved.next (c.move_on.ensures.last.0 c.if-move_on.true) in
    let same : IsCursor c.args.word.now c.args.state.now.fired c.move_on.new.state.cursor = subst (λ (k : ℕ). IsCursor c.args.word.now c.args.state.now.fired k) (sym c.move_on.ensures.cursor) c.requires.cursor in
    subst (λ (k : ℕ). IsCursor c.args.word.now k c.next_bit-state.result) (sym e.0) (c.next_bit-state.ensures c.args.state.now.fired same)
