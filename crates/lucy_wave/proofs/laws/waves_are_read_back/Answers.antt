use Rattle.lucy_wave.proofs.BackLaws.{waves_back}
use Rattle.lucy_wave.proofs.NameLaws.{names_plain}
use Rattle.lucy_wave.proofs.laws.waves_are_read_back.Goals as goal

pub returns : goal.returns
returns c = waves_back c.streams_are_whole.ensures c.one_feed.ensures c.one_horizon.ensures (names_plain c.texts_have_one_cut.ensures.written c.accepted_programs_are_clocked.ensures.proper)
