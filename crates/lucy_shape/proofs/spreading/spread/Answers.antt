use Rattle.std.proofs.Common.{sym, subst, arith}
use Rattle.std.proofs.lemmas.Result.{IfOk-weaker}
use Rattle.lucy_solve.specs.System.{DifferenceSystem, IsGrounded, Solves}
use Rattle.lucy_shape.proofs.Systems.{system_ready, fits_and_meets, solves_front}
use Rattle.lucy_shape.proofs.Meeting.{meeting_law}
use Rattle.lucy_shape.proofs.spreading.spread.Goals as goal

pub returns-clause-ready : goal.returns-clause-ready
returns-clause-ready c =
    let few = c.are_few.ensures.0 c.if-not-are_few.false in
    IfOk-weaker c.fill.result _ _ (λ d e. subst IsGrounded (sym e) (system_ready c.args.needs.now c.args.shape.now c.requires (omega arith))) c.fill.ensures.list

pub returns-clause-exact : goal.returns-clause-exact
returns-clause-exact c = IfOk-weaker c.fill.result _ _ (λ d e w xs fitting are.
    let law = meeting_law c.args.needs.now c.args.shape.now w xs c.needs_have_words.ensures c.requires fitting are in
    (λ met. subst (λ (s : DifferenceSystem). Solves s xs) (sym e) (law.0 met), λ solves. law.1 (subst (λ (s : DifferenceSystem). Solves s xs) e solves))) c.fill.ensures.list

pub returns-clause-fitting : goal.returns-clause-fitting
returns-clause-fitting c = IfOk-weaker c.fill.result _ _ (λ d e xs solves.
    fits_and_meets c.args.needs.now c.args.shape.now xs c.requires c.needs_have_words.ensures (subst (λ (s : DifferenceSystem). Solves s xs) e solves)) c.fill.ensures.list

pub returns-clause-solved : goal.returns-clause-solved
returns-clause-solved c = IfOk-weaker c.fill.result _ _ (λ d e xs solves.
    solves_front c.args.needs.now c.args.shape.now xs (subst (λ (s : DifferenceSystem). Solves s xs) e solves)) c.fill.ensures.list
