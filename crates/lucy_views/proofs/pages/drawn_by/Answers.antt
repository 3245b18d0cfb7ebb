use Rattle.lucy_views.specs.Meets.{options_of}
use Rattle.lucy_views.proofs.Texts.{page_drawn}
use Rattle.lucy_views.proofs.pages.drawn_by.Goals as goal

pub returns-in-Ok : goal.returns-in-Ok
returns-in-Ok c =
    page_drawn c.args.ops.now (options_of c.args.words.program) c.args.text.now c.in-Ok.accepted c.page_by.result c.in-Ok.ensures.ok c.page_by.ensures
