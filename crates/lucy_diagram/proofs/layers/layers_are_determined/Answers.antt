use Rattle.lucy_diagram.proofs.LayerLaws.{one_layering}
use Rattle.lucy_diagram.proofs.layers.layers_are_determined.Goals as goal

pub returns : goal.returns
returns c = one_layering
