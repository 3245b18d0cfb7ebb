use Rattle.lucy_views.specs.Meets.{options_of}
use Rattle.lucy_views.proofs.Texts.{explained}
use Rattle.lucy_views.proofs.explains.explained.Goals as goal

pub returns-clause-ok : goal.returns-clause-ok
returns-clause-ok c =
    let e = c.in_ok-explained.explained in
    explained c.args.ops.now c.options.result (options_of c.args.words) c.args.text.now e.text.items e.refusal c.options.ensures.is
    c.in_ok-explained.ensures.accepted c.in_ok-explained.ensures.refused c.in_ok-explained.ensures.begins (c.lacks_memory.ensures c.if-lacks_memory.false)
