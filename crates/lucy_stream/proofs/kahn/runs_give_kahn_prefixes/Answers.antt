use Rattle.std.specs.Prelude.{◌*◌}
use Rattle.lucy_stream.proofs.FrontLaws.{IsFront-trans}
use Rattle.lucy_stream.specs.States.{start, events}
use Rattle.lucy_stream.specs.Plans.{machine, kahn_list}
use Rattle.lucy_stream.proofs.EventLaws.{fronts_after}
use Rattle.lucy_stream.proofs.KahnLaws.{kahn_front, kahn_state, kahn_state_took, kahn_whole}
use Rattle.lucy_stream.proofs.kahn.runs_give_kahn_prefixes.Goals as goal

pub returns : goal.returns
returns c = record {
  gave = λ kinds inputs plan count most picks r able run. kahn_front kinds inputs plan count most picks able run r;
  took = λ kinds inputs plan count most picks r able run.
      IsFront-trans ((events (machine kinds inputs plan) start picks).took r) ((events (machine kinds inputs plan) start picks).gave r) (kahn_list kinds inputs plan (count * most) r)
      (fronts_after (machine kinds inputs plan) start picks (λ q. tt) r) (kahn_front kinds inputs plan count most picks able run r);
  state = λ kinds inputs plan count most order s r able whole state. kahn_state kinds inputs plan count most order s able whole state r;
  state_took = λ kinds inputs plan count most order s r able whole state. kahn_state_took kinds inputs plan count most order s able whole state r;
  whole = λ kinds inputs plan count most order r task able whole e once. (kahn_whole kinds inputs plan count most order able whole r task e once).0;
  enough = λ kinds inputs plan count most order r task able whole e once. (kahn_whole kinds inputs plan count most order able whole r task e once).1;
}
