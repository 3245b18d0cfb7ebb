use Rattle.std.proofs.Common.{◌<◌, false, length, sym, subst}
use Rattle.lucy_explain.proofs.StreamLaws.{variables_none, variables_next, variables_are, variables_all, positions_few}
use Rattle.lucy_explain.proofs.variables.variable_streams.Goals as goal

pub each-init : goal.each-init
each-init c = variables_none c.args.origin c.args.streams.now c.args.shapes.now c.in_ok-found.found.items (c.in_ok-found.ensures.items_if_clones_equal (λ y e. e))

pub bounds-streams-clock : goal.bounds-streams-clock
bounds-streams-clock c = subst (λ n. c.each.clock < n) (sym c.requires.clocks) c.each-test.true

pub put_clock-requires : goal.put_clock-requires
put_clock-requires c = positions_few c.args.shapes.now c.each.clock c.args.count (record { used = false; lead = 0; ones = 0; first = 0 }) c.each-test.true c.requires.count c.ranges.count.fits

pub each-preserved : goal.each-preserved
each-preserved c = variables_next c.args.origin c.args.streams.now c.args.shapes.now c.each.found.items c.put_clock.new.streams.items c.each.clock (record { used = false; lead = 0; ones = 0; first = 0 }) c.each-test.true c.each.invariant c.in_ok-put_clock.ensures

pub returns-clause-is : goal.returns-clause-is
returns-clause-is c = variables_are c.args.origin c.args.streams.now c.args.shapes.now c.each.found.items c.each.clock c.each-test.false c.each.invariant

pub returns-clause-all : goal.returns-clause-all
returns-clause-all c = variables_all c.args.origin c.args.streams.now c.args.shapes.now c.each.found.items c.each.clock c.args.count c.each-test.false c.each.invariant c.requires.count
