use Rattle.lucy_runner.specs.Crews.{crew_of}
use Rattle.lucy_runner.proofs.GrowLaws.{few_still, may_still, grown_from}
use Rattle.lucy_runner.proofs.growing.grow_all.Goals as goal

pub extend_all-requires-clause-few : goal.extend_all-requires-clause-few
extend_all-requires-clause-few c = few_still (crew_of c.args.seats.now) (crew_of c.reserve_all.new.seats) c.reserve_all.ensures.spared c.requires.few

pub extend_all-requires-clause-may : goal.extend_all-requires-clause-may
extend_all-requires-clause-may c = may_still c.args.inputs.now c.args.instants (crew_of c.args.seats.now) (crew_of c.reserve_all.new.seats) c.reserve_all.ensures.spared c.requires.may

pub extend_all-requires-clause-space : goal.extend_all-requires-clause-space
extend_all-requires-clause-space c = c.in_ok-reserve_all.ensures.ok

pub returns-clause-ok : goal.returns-clause-ok
returns-clause-ok c = grown_from c.args.inputs.now c.args.instants (crew_of c.args.seats.now) (crew_of c.reserve_all.new.seats) (crew_of c.extend_all.new.seats) c.reserve_all.ensures.spared c.extend_all.ensures
