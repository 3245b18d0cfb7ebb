use Rattle.std.proofs.Common.{ap, sym, ◌∙◌, subst}
use Rattle.std.specs.Prelude.{[]}
use Rattle.lucy_host.specs.Operators.{kinds_of}
use Rattle.lucy_core.specs.Seen.{Seen, IsOver}
use Rattle.lucy_core.proofs.OpenLaws.{IsSound}
use Rattle.lucy_runner.specs.Views.{RunnerView}
use Rattle.lucy_runner.specs.Crews.{crew_of}
use Rattle.lucy_runner.proofs.FinishedLaws.{sound_of, one_more_round, round_left}
use Rattle.lucy_runner.proofs.runner.Runner.go.Goals as goal

pub loop-self-init : goal.loop-self-init
loop-self-init g c =
    let x = c.self.inside in
    let sound = sound_of x.net x.schedule x.ops x.instants x.before (crew_of x.seats.items) x.places.items x.ends.items c.self.invariant.0
    in
    let same = c.self.view_is in (
      record {
        picks = [];
        sound = subst (λ (v : RunnerView). IsSound v.seen) same sound;
        run = tt;
        is = ap (λ (v : RunnerView). v.seen) same;
      },
      ap (λ (v : RunnerView). v.before) same,
      ap (λ (v : RunnerView). v.crew) same,
    )

pub round_in_place-requires-clause-kinds : goal.round_in_place-requires-clause-kinds
round_in_place-requires-clause-kinds g c κs within = c.requires.kinds ∙ ap (λ (s : Seen). kinds_of s.operators) (sym c.loop-self.invariant.0.is)

pub round-requires-clause-kinds : goal.round-requires-clause-kinds
round-requires-clause-kinds g c κs within = c.requires.kinds ∙ ap (λ (s : Seen). kinds_of s.operators) (sym c.loop-self.invariant.0.is)

pub loop-self-preserved-then-in_place : goal.loop-self-preserved-then-in_place
loop-self-preserved-then-in_place g c =
    let e = c.round_in_place.ensures in (
      one_more_round c.args.self.now.seen c.loop-self.self.seen c.round_in_place.new.self.seen c.round_in_place.result c.loop-self.invariant.0 e.round,
      e.before ∙ c.loop-self.invariant.1,
      e.crew ∙ c.loop-self.invariant.2,
    )

pub loop-self-smaller-then-in_place : goal.loop-self-smaller-then-in_place
loop-self-smaller-then-in_place g c =
    round_left c.args.self.now.seen c.loop-self.self.seen c.round_in_place.new.self.seen c.round_in_place.result c.loop-self.invariant.0 c.round_in_place.ensures.round
    (λ (over : IsOver c.loop-self.self.seen). (let a = c.finished.ensures.1 over in let b = c.loop-self-test.true in cc))

pub loop-self-preserved : goal.loop-self-preserved
loop-self-preserved g c =
    let e = c.round.ensures in (
      one_more_round c.args.self.now.seen c.loop-self.self.seen c.round.new.self.seen c.round.result c.loop-self.invariant.0 e.round,
      e.before ∙ c.loop-self.invariant.1,
      e.crew ∙ c.loop-self.invariant.2,
    )

pub loop-self-smaller : goal.loop-self-smaller
loop-self-smaller g c =
    round_left c.args.self.now.seen c.loop-self.self.seen c.round.new.self.seen c.round.result c.loop-self.invariant.0 c.round.ensures.round
    (λ (over : IsOver c.loop-self.self.seen). (let a = c.finished.ensures.1 over in let b = c.loop-self-test.true in cc))

pub returns : goal.returns
returns g c =
    let led = c.loop-self.invariant.0 in
    record {
      run = (led.picks, led.run, led.is);
      before = c.loop-self.invariant.1;
      crew = c.loop-self.invariant.2;
      finished = c.finished.ensures.0 c.loop-self-test.false;
    }
