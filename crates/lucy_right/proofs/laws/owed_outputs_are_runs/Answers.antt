use Rattle.lucy_right.proofs.RunLaws.{Laws, cuts_are_runs, owed_are_runs}
use Rattle.lucy_right.proofs.laws.owed_outputs_are_runs.Goals as goal

pub returns : goal.returns
returns c =
    let laws : Laws = record {
      stand = c.accepted_programs_stand.ensures;
      found = c.found_clocks_are_earliest.ensures;
      proper = c.accepted_programs_are_clocked.ensures.proper;
      later = c.programs_grow.ensures.later;
      whole = c.streams_are_whole.ensures;
    } in
    record { cuts = cuts_are_runs laws; owed = owed_are_runs laws }
