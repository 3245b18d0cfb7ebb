use Rattle.lucy_app.proofs.OneOutput.{output_one}
use Rattle.lucy_app.proofs.laws.one_output.Goals as goal

pub returns : goal.returns
returns c =
    output_one c.one_cut.ensures c.one_horizon.ensures
    c.one_tightest.ensures
