use Rattle.lucy_right.proofs.RefusedLaws.{written_pass}
use Rattle.lucy_right.proofs.laws.written_programs_pass.Goals as goal

pub returns : goal.returns
returns c =
    written_pass
    (record { texts = c.texts_have_one_answer.ensures; rules = c.needs_are_the_rules.ensures; handed = c.written_nodes_have_one.ensures.candidate; nets = c.flat_nets_are_causal_as_programs.ensures })
