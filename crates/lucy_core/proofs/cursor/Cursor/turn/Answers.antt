use Rattle.std.proofs.Common.{[], refl, ap}
use Rattle.std.specs.Prelude.{slice_index_or}
use Rattle.lucy_core.proofs.CursorLaws.{turned_in}
use Rattle.lucy_core.proofs.cursor.Cursor.turn.Goals as goal

pub returns-clause-within : goal.returns-clause-within
returns-clause-within c = λ instants done l over is.
    turned_in c.args.schedule.now instants done c.args.self.now _ l over refl (ap (λ r. slice_index_or c.args.schedule.now.orders r []) c.row-self.ensures.is) c.row-self.ensures.there refl refl is
