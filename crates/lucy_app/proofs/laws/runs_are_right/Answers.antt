use Rattle.lucy_app.proofs.RunRight.{Laws, runs_right}
use Rattle.lucy_app.proofs.laws.runs_are_right.Goals as goal

pub returns : goal.returns
returns c =
    let laws : Laws = record {
      cuts = c.owed_outputs_are_runs.ensures.cuts;
      owed = c.owed_outputs_are_runs.ensures.owed;
      pass = c.written_programs_pass.ensures;
      texts = c.texts_have_one_answer.ensures;
      nodes = c.nodes_are_one.ensures.one;
    } in
    runs_right laws
