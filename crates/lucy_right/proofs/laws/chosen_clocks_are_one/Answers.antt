use Rattle.lucy_right.proofs.ChosenLaws.{chosen_one}
use Rattle.lucy_right.proofs.laws.chosen_clocks_are_one.Goals as goal

pub returns : goal.returns
returns c = chosen_one (record { shape = c.one_shape.ensures.shape; assignment = c.written_nodes_have_one.ensures.one; nodes = c.nodes_are_one.ensures.one })
