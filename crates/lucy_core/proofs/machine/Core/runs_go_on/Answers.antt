use Rattle.lucy_core.specs.Seen.{Seen}
use Rattle.lucy_core.proofs.InsideLaws.{sound_of}
use Rattle.lucy_core.proofs.OpenLaws.{IsSound}
use Rattle.lucy_core.proofs.OnwardLaws.{counted_on, counts_on, actors_on, joined_on, towards, end_on}
use Rattle.lucy_core.proofs.machine.Core.runs_go_on.Goals as goal

pub returns : goal.returns
returns c =
    let seen : Seen = c.args.self.now in
    let all : IsSound seen = sound_of c.self.inside c.args.self.now c.self.invariant c.self.view_is in
    record {
      counted = counted_on seen all;
      counts = counts_on seen all;
      actors = actors_on seen all;
      few = all.fixed.proper.few_actors;
      joined = joined_on seen all;
      towards = towards seen all;
      end = end_on seen all;
    }
