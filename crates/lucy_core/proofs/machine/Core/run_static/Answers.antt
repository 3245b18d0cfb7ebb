use Rattle.std.proofs.Common.{◌+◌, ◌<◌, ◌≡◌, ap, subst, sym, ◌∙◌, arith}
use Rattle.lucy_host.specs.Operators.{kinds_of}
use Rattle.lucy_stream.specs.Schedules.{events_to}
use Rattle.lucy_net.specs.Schedules.{events_at}
use Rattle.lucy_core.specs.Seen.{Seen, after_picks, CanRun, IsOver}
use Rattle.lucy_core.proofs.InsideLaws.{sound_of}
use Rattle.lucy_core.proofs.OpenLaws.{IsSound, static_next, static_joined, static_order, static_over}
use Rattle.lucy_core.proofs.machine.Core.run_static.Goals as goal

pub run_instant-requires-clause-kinds : goal.run_instant-requires-clause-kinds
run_instant-requires-clause-kinds g c κs held = c.requires.kinds ∙ ap (λ (s : Seen). kinds_of s.operators) (sym c.loop-before.invariant)

pub run_instant-requires-clause-run : goal.run_instant-requires-clause-run
run_instant-requires-clause-run g c κs held =
    let seen : Seen = c.args.self.now in
    let all : IsSound seen = sound_of c.self.inside c.args.self.now c.self.invariant c.self.view_is in
    let l : c.loop-before.before < seen.instants = omega (arith, c.loop-before-test.true, ap (λ (s : Seen). s.instants) c.self.view_is) in
    subst (λ (s : Seen). CanRun s (events_at s.schedule (c.loop-before.before + 1))) (sym c.loop-before.invariant) (static_next seen c.loop-before.before all c.requires.unbegun l)

pub loop-before-preserved : goal.loop-before-preserved
loop-before-preserved g c =
    let seen : Seen = c.args.self.now in
    c.run_instant.ensures ∙ ap (λ (s : Seen). after_picks s (events_at s.schedule (c.loop-before.before + 1))) c.loop-before.invariant ∙ static_joined seen c.loop-before.before

pub returns-clause-done : goal.returns-clause-done
returns-clause-done g c =
    let seen : Seen = c.args.self.now in
    let end : c.loop-before.before ≡ seen.instants = omega (arith, c.loop-before-test.false, c.loop-before.auto.before-end, ap (λ (s : Seen). s.instants) c.self.view_is) in
    c.loop-before.invariant ∙ ap (λ t. after_picks seen (events_to (events_at seen.schedule) t)) end ∙ static_order seen

pub returns-clause-finished : goal.returns-clause-finished
returns-clause-finished g c =
    let seen : Seen = c.args.self.now in
    let all : IsSound seen = sound_of c.self.inside c.args.self.now c.self.invariant c.self.view_is in
    let end : c.loop-before.before ≡ seen.instants = omega (arith, c.loop-before-test.false, c.loop-before.auto.before-end, ap (λ (s : Seen). s.instants) c.self.view_is) in
    subst IsOver (sym (c.loop-before.invariant ∙ ap (λ t. after_picks seen (events_to (events_at seen.schedule) t)) end ∙ static_order seen)) (static_over seen all c.requires.unbegun)
