use Rattle.lucy_shape.proofs.SizeLaws.{sized_law, same_length}
use Rattle.lucy_shape.proofs.laws.size_laws.Goals as goal

pub returns : goal.returns
returns c = record { sized = sized_law; count = same_length }
