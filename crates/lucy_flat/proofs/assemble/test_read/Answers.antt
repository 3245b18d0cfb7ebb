use Rattle.std.proofs.Common.{sym, subst}
use Rattle.std.proofs.lemmas.Result.{on_ok_weaker, IfErr-weaker}
use Rattle.lucy_net.specs.declared.kind.ActorKind.{ActorKind}
use Rattle.lucy_flat.specs.Assembly.{reads_count, HasKind, ReadsTooLong, IsReadThere}
use Rattle.lucy_flat.proofs.UnmadeRings.{merge_read, merge_long, plain_read}
use Rattle.lucy_flat.proofs.assemble.test_read.Goals as goal

pub returns-in-Merge-clause-ok : goal.returns-in-Merge-clause-ok
returns-in-Merge-clause-ok c =
    let taker = c.args.taker.now in
    let some = subst (λ (t : ActorKind). HasKind t (reads_count taker)) c.in-Merge.is c.requires in
    on_ok_weaker c.test_sampled.result
    (λ fits. subst (λ (t : ActorKind). IsReadThere t c.args.operand taker.word c.args.write.now) (sym c.in-Merge.is)
    (merge_read c.in-Merge.word c.args.operand taker.word c.args.write.now c.words_are_stored.ensures c.words_are_stored-in-Merge.ensures some fits))
    c.test_sampled.ensures.ok

pub returns-in-Merge-clause-refused : goal.returns-in-Merge-clause-refused
returns-in-Merge-clause-refused c =
    let taker = c.args.taker.now in
    IfErr-weaker c.test_sampled.result _ _
    (λ e why. (why.0, subst (λ (t : ActorKind). ReadsTooLong t c.args.operand taker.word) (sym c.in-Merge.is) (merge_long c.in-Merge.word c.args.operand taker.word why.1)))
    c.test_sampled.ensures.refused

pub returns-in_default-clause-ok : goal.returns-in_default-clause-ok
returns-in_default-clause-ok c = plain_read c.args.taker.now.kind c.args.operand c.args.taker.now.word c.args.write.now c.in_default.not-Merge c.words_are_stored.ensures c.words_are_stored-2.ensures
