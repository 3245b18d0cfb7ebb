use Rattle.std.proofs.Common.{length}
use Rattle.lucy_place.specs.PlacedProgram.{PlacedProgram}
use Rattle.lucy_place.specs.Proper.{HaveOperators}
use Rattle.lucy_net_rows.proofs.ReadyLaws.{ok_part}
use Rattle.lucy_net_rows.proofs.interpreted.placed_text.Goals as goal

pub returns-in-Ok : goal.returns-in-Ok
returns-in-Ok c = ok_part c.place.result c.ok.result (λ (placed : PlacedProgram). HaveOperators (length c.args.ops.now) placed.nodes) c.ok.ensures.value c.place.ensures.operators
