use Rattle.lucy_app.proofs.CheckRight.{checks_right}
use Rattle.lucy_app.proofs.laws.checks_are_right.Goals as goal

pub returns : goal.returns
returns c =
    checks_right (record {
      stand = c.accepted_programs_stand.ensures;
      only = c.accepted_nodes_are_written.ensures;
      pass = c.written_programs_pass.ensures;
      one = c.written_programs_stand_for_one.ensures;
    })
