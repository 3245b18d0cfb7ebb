use Rattle.lucy_shape.proofs.Meeting.{meeting_law}
use Rattle.lucy_shape.proofs.Fitting.{fitting_law, positions_law}
use Rattle.lucy_shape.proofs.Writings.{words_law, written_law}
use Rattle.lucy_shape.proofs.Earlier.{earlier_law}
use Rattle.lucy_shape.proofs.laws.shape_laws.Goals as goal

pub returns : goal.returns
returns c = record { meeting = meeting_law; fitting = fitting_law; positions = positions_law; earlier = earlier_law; words = words_law; written = written_law }
