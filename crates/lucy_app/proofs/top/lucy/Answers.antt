use Rattle.std.proofs.Common.{rules, refl}
use Rattle.lucy_host.specs.Host.{lent}
use Rattle.lucy_app.specs.World.{world}
use Rattle.lucy_app.proofs.RunRight.{run_right}
use Rattle.lucy_app.proofs.Sinks.{ends_none, ends_short, ends_begun}
use Rattle.lucy_app.proofs.top.lucy.Goals as goal

pub returns-in-Ok-Some-clause-ends : goal.returns-in-Ok-Some-clause-ends
returns-in-Ok-Some-clause-ends g c = ends_begun _ _ _ _ _ (search rules) c.carry_out.ensures.ends

pub returns-in-Ok-None-clause-ends : goal.returns-in-Ok-None-clause-ends
returns-in-Ok-None-clause-ends g c = ends_none _ _ _ _ (search rules) refl refl refl c.tell.ensures.told

pub returns-clause-ends : goal.returns-clause-ends
returns-clause-ends g c = ends_short _ _ _ _ (search rules) refl refl refl c.tell-in-Err.ensures.told

pub returns-in-Ok-Some-clause-run : goal.returns-in-Ok-Some-clause-run
returns-in-Ok-Some-clause-run g c =
    run_right c.runs_are_right.ensures _
    (world (g.S.Shelf.seen c.args.shelf.now) (g.I.Source.seen c.args.input.now) (g.O.Sink.seen c.args.out.now) (g.E.Sink.seen c.args.err.now) (lent c.args.host.now))
    (world (g.S.Shelf.seen c.carry_out.new.shelf) (g.I.Source.seen c.carry_out.new.input) (g.O.Sink.seen c.carry_out.new.out) (g.E.Sink.seen c.carry_out.new.err) (lent c.args.host.now))
    _ (returns-in-Ok-Some-clause-ends g c)

pub returns-in-Ok-None-clause-run : goal.returns-in-Ok-None-clause-run
returns-in-Ok-None-clause-run g c =
    run_right c.runs_are_right.ensures _
    (world (g.S.Shelf.seen c.args.shelf.now) (g.I.Source.seen c.args.input.now) (g.O.Sink.seen c.args.out.now) (g.E.Sink.seen c.args.err.now) (lent c.args.host.now))
    (world (g.S.Shelf.seen c.args.shelf.now) (g.I.Source.seen c.args.input.now) (g.O.Sink.seen c.args.out.now) (g.E.Sink.seen c.tell.new.err) (lent c.args.host.now))
    _ (returns-in-Ok-None-clause-ends g c)

pub returns-clause-run : goal.returns-clause-run
returns-clause-run g c =
    run_right c.runs_are_right.ensures _
    (world (g.S.Shelf.seen c.args.shelf.now) (g.I.Source.seen c.args.input.now) (g.O.Sink.seen c.args.out.now) (g.E.Sink.seen c.args.err.now) (lent c.args.host.now))
    (world (g.S.Shelf.seen c.args.shelf.now) (g.I.Source.seen c.args.input.now) (g.O.Sink.seen c.args.out.now) (g.E.Sink.seen c.tell-in-Err.new.err) (lent c.args.host.now))
    _ (returns-clause-ends g c)

pub returns-in-Ok-Some-clause-accepts : goal.returns-in-Ok-Some-clause-accepts
returns-in-Ok-Some-clause-accepts g c file o named =
    c.checks_are_right.ensures _ file o
    (world (g.S.Shelf.seen c.args.shelf.now) (g.I.Source.seen c.args.input.now) (g.O.Sink.seen c.args.out.now) (g.E.Sink.seen c.args.err.now) (lent c.args.host.now))
    (world (g.S.Shelf.seen c.carry_out.new.shelf) (g.I.Source.seen c.carry_out.new.input) (g.O.Sink.seen c.carry_out.new.out) (g.E.Sink.seen c.carry_out.new.err) (lent c.args.host.now))
    _ named (returns-in-Ok-Some-clause-ends g c)

pub returns-in-Ok-None-clause-accepts : goal.returns-in-Ok-None-clause-accepts
returns-in-Ok-None-clause-accepts g c file o named =
    c.checks_are_right.ensures _ file o
    (world (g.S.Shelf.seen c.args.shelf.now) (g.I.Source.seen c.args.input.now) (g.O.Sink.seen c.args.out.now) (g.E.Sink.seen c.args.err.now) (lent c.args.host.now))
    (world (g.S.Shelf.seen c.args.shelf.now) (g.I.Source.seen c.args.input.now) (g.O.Sink.seen c.args.out.now) (g.E.Sink.seen c.tell.new.err) (lent c.args.host.now))
    _ named (returns-in-Ok-None-clause-ends g c)

pub returns-clause-accepts : goal.returns-clause-accepts
returns-clause-accepts g c file o named =
    c.checks_are_right.ensures _ file o
    (world (g.S.Shelf.seen c.args.shelf.now) (g.I.Source.seen c.args.input.now) (g.O.Sink.seen c.args.out.now) (g.E.Sink.seen c.args.err.now) (lent c.args.host.now))
    (world (g.S.Shelf.seen c.args.shelf.now) (g.I.Source.seen c.args.input.now) (g.O.Sink.seen c.args.out.now) (g.E.Sink.seen c.tell-in-Err.new.err) (lent c.args.host.now))
    _ named (returns-clause-ends g c)
