use Rattle.lucy_wave.proofs.NameLaws.{names_plain}
use Rattle.lucy_wave.proofs.ResultLaws.{names_distinct}
use Rattle.lucy_wave.proofs.laws.names_are_distinct.Goals as goal

pub returns : goal.returns
returns c =
    let proper = c.accepted_programs_are_clocked.ensures.proper in
    names_distinct (names_plain c.texts_have_one_cut.ensures.written proper) proper
