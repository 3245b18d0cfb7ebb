use Rattle.std.proofs.Common.{ℕ, ◌≡◌, true, false, List, length, get_or, take, ap, subst, sym, ◌∙◌, arith}
use Rattle.std.specs.Prelude.{IsTrue}
use Rattle.lucy_host.specs.Operators.{kinds_of}
use Rattle.lucy_stream.specs.Runs.{IsPossible, IsRun}
use Rattle.lucy_core.specs.Seen.{Seen, machine_of, order_of, done_of, more_done, stepped, CanStep}
use Rattle.lucy_core.proofs.InsideLaws.{sound_of}
use Rattle.lucy_core.proofs.PickLaws.{run_more, possible_back, stops_at, runs_all}
use Rattle.lucy_core.proofs.OpenLaws.{IsSound, next_picks}
use Rattle.lucy_core.proofs.machine.Core.run_picks.Goals as goal

pub step-requires-clause-kinds : goal.step-requires-clause-kinds
step-requires-clause-kinds g c κs held = c.requires.kinds ∙ ap (λ (s : Seen). kinds_of s.operators) (sym c.loop-done.invariant.here)

pub returns-then-not-can-clause-count : goal.returns-then-not-can-clause-count
returns-then-not-can-clause-count g c =
    let seen : Seen = c.args.self.now in
    let all : IsSound seen = sound_of c.self.inside c.args.self.now c.self.invariant c.self.view_is in
    let xs : List ℕ = c.args.picks.now in
    let never : IsPossible (machine_of seen).sys (done_of (more_done seen.done (take c.loop-done.done xs))) (get_or xs c.loop-done.done 0) → ⊥ = λ can.
    (let yes : IsTrue c.can.result = c.can.ensures.1 (subst (λ (s : Seen). CanStep s (get_or xs c.loop-done.done 0)) (sym c.loop-done.invariant.here) can) in
    let bad : false ≡ true = sym c.if-not-can.true ∙ yes in cc) in
    sym (stops_at (machine_of seen).sys (done_of seen.done) xs c.loop-done.done c.loop-done-test.true c.loop-done.invariant.run
    (λ can. never (possible_back seen.net (machine_of seen) (order_of seen) seen.inputs (kinds_of seen.operators) seen.instants all.machine seen.done (take c.loop-done.done xs) (get_or xs c.loop-done.done 0) all.count c.loop-done.invariant.run can)))

pub loop-done-preserved : goal.loop-done-preserved
loop-done-preserved g c =
    let seen : Seen = c.args.self.now in
    let all : IsSound seen = sound_of c.self.inside c.args.self.now c.self.invariant c.self.view_is in
    let xs : List ℕ = c.args.picks.now in
    let can = subst (λ (s : Seen). CanStep s (get_or xs c.loop-done.done 0)) c.loop-done.invariant.here (c.can.ensures.0 c.if-not-can.false) in
    record {
      here = c.step.ensures ∙ ap (λ (s : Seen). stepped s (get_or xs c.loop-done.done 0)) c.loop-done.invariant.here ∙ next_picks seen xs c.loop-done.done c.loop-done-test.true;
      run = run_more seen.net (machine_of seen) (order_of seen) seen.inputs (kinds_of seen.operators) seen.instants all.machine seen.done xs c.loop-done.done all.count c.loop-done-test.true c.loop-done.invariant.run can;
    }

pub returns-clause-count : goal.returns-clause-count
returns-clause-count g c =
    let seen : Seen = c.args.self.now in
    let all : IsSound seen = sound_of c.self.inside c.args.self.now c.self.invariant c.self.view_is in
    let xs : List ℕ = c.args.picks.now in
    let end : c.loop-done.done ≡ length xs = omega (arith, c.loop-done-test.false, c.loop-done.auto.done-end) in
    sym (runs_all (machine_of seen).sys (done_of seen.done) xs (subst (λ i. IsRun (machine_of seen).sys (done_of seen.done) (take i xs)) end c.loop-done.invariant.run))
