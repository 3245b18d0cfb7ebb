use Rattle.std.proofs.Common.{◌∙◌, length, ap}
use Rattle.lucy_net.proofs.RowLaws.{ready_first}
use Rattle.lucy_net.proofs.play.play_all.Goals as goal

pub play_rows-requires-clause-ready : goal.play_rows-requires-clause-ready
play_rows-requires-clause-ready c =
    ready_first c.args.net.now c.deref_mut.result.now c.deref_mut-2.result.now c.deref_mut-3.result.now (length c.list-actors.result.now) (length c.list.result.now) (length c.list-actors.result.now)
    (ap length c.list-actors.ensures) (ap length c.list.ensures) (ap length c.list-actors.ensures)
    (c.deref_mut.ensures.value ∙ c.in_ok-steps.ensures.items_if_clones_equal (λ y e. e))
    (c.deref_mut-2.ensures.value ∙ c.in_ok-held.ensures.items_if_clones_equal (λ y e. e))
    (c.deref_mut-3.ensures.value ∙ c.in_ok-depth.ensures.items_if_clones_equal (λ y e. e))
