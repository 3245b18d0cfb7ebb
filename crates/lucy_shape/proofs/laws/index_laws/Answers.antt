use Rattle.lucy_shape.proofs.Indexes.{decided}
use Rattle.lucy_shape.proofs.WordIndex.{need_law, place_law}
use Rattle.lucy_shape.proofs.WordOf.{word_law}
use Rattle.lucy_shape.proofs.RowLaws.{fold_law, row_law, clock_law}
use Rattle.lucy_shape.proofs.laws.index_laws.Goals as goal

pub returns : goal.returns
returns c = record { place = place_law; fold = fold_law; instances = decided; need = need_law; row = row_law; word = word_law; clock = clock_law }
