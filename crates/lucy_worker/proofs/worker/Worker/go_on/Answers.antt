use Rattle.std.proofs.Common.{◌≡◌, List, length, get_or, set, ap, ◌∙◌, subst}
use Rattle.std.proofs.lemmas.List.{get_or_default}
use Rattle.lucy_host.specs.Host.{lent}
use Rattle.lucy_host.specs.Operators.{kinds_of}
use Rattle.lucy_worker.specs.declared.part.Part.{Part}
use Rattle.lucy_worker.specs.Views.{WorkerView}
use Rattle.lucy_worker.specs.Turns.{HasGoneOn}
use Rattle.lucy_worker.proofs.GoLaws.{ready_at, served_at, one_passed}
use Rattle.lucy_worker.proofs.worker.Worker.go_on.Goals as goal

pub go_on-requires-clause-ready : goal.go_on-requires-clause-ready
go_on-requires-clause-ready g c κs within =
    let p : Part = c.index_mut-moving.result.now in
    ready_at c.self.inside.parts.items c.args.self.now.parts c.args.part p p (ap (λ (w : WorkerView). w.parts) c.self.view_is) c.self.invariant c.requires.there c.index_mut-moving.ensures.value

pub go_on-requires-clause-served : goal.go_on-requires-clause-served
go_on-requires-clause-served g c κs within =
    let p : Part = c.index_mut-moving.result.now in
    served_at (length (lent c.args.host.now)) c.self.inside.parts.items c.args.self.now.parts c.args.part p p (ap (λ (w : WorkerView). w.parts) c.self.view_is) c.requires.served c.requires.there c.index_mut-moving.ensures.value

pub invariant_of-self : goal.invariant_of-self
invariant_of-self g c =
    let p : Part = c.index_mut-moving.result.now in
    let e = c.go_on.ensures in
    (one_passed (kinds_of (lent c.args.host.now)) (length (lent c.args.host.now)) c.self.inside.parts.items c.args.self.now.parts c.args.part p p c.go_on.new.self c.go_on.result (ap (λ (w : WorkerView). w.parts) c.self.view_is) c.self.invariant c.requires.served
    c.requires.there c.index_mut-moving.ensures.value (record { ready = e.ready; run = e.run; done = e.moves; left = e.left })).0.ready

pub returns-clause-run : goal.returns-clause-run
returns-clause-run g c =
    let p : Part = c.index_mut-moving.result.now in
    let e = c.go_on.ensures in
    (one_passed (kinds_of (lent c.args.host.now)) (length (lent c.args.host.now)) c.self.inside.parts.items c.args.self.now.parts c.args.part p p c.go_on.new.self c.go_on.result (ap (λ (w : WorkerView). w.parts) c.self.view_is) c.self.invariant c.requires.served
    c.requires.there c.index_mut-moving.ensures.value (record { ready = e.ready; run = e.run; done = e.moves; left = e.left })).0.run

pub returns-clause-counted : goal.returns-clause-counted
returns-clause-counted g c =
    let p : Part = c.index_mut-moving.result.now in
    let e = c.go_on.ensures in
    (one_passed (kinds_of (lent c.args.host.now)) (length (lent c.args.host.now)) c.self.inside.parts.items c.args.self.now.parts c.args.part p p c.go_on.new.self c.go_on.result (ap (λ (w : WorkerView). w.parts) c.self.view_is) c.self.invariant c.requires.served
    c.requires.there c.index_mut-moving.ensures.value (record { ready = e.ready; run = e.run; done = e.moves; left = e.left })).0.done

pub returns-clause-few : goal.returns-clause-few
returns-clause-few g c =
    let p : Part = c.index_mut-moving.result.now in
    let e = c.go_on.ensures in
    (one_passed (kinds_of (lent c.args.host.now)) (length (lent c.args.host.now)) c.self.inside.parts.items c.args.self.now.parts c.args.part p p c.go_on.new.self c.go_on.result (ap (λ (w : WorkerView). w.parts) c.self.view_is) c.self.invariant c.requires.served
    c.requires.there c.index_mut-moving.ensures.value (record { ready = e.ready; run = e.run; done = e.moves; left = e.left })).1

pub returns-clause-gone : goal.returns-clause-gone
returns-clause-gone g c d =
    let same : c.self.inside.parts.items ≡ c.args.self.now.parts = ap (λ (w : WorkerView). w.parts) c.self.view_is in
    let p : Part = c.index_mut-moving.result.now in
    let e = c.go_on.ensures in
    let at : p ≡ get_or c.args.self.now.parts c.args.part d =
    c.index_mut-moving.ensures.value ∙ ap (λ (xs : List Part). get_or xs c.args.part p) same ∙ get_or_default c.args.self.now.parts c.args.part p d c.requires.there in (
      c.go_on.new.self,
      subst (λ (x : Part). HasGoneOn (kinds_of (lent c.args.host.now)) x c.go_on.new.self c.go_on.result) at (record { run = e.run; counted = e.moves; moved = e.moved; rests = e.rests }),
      ap (λ (xs : List Part). set xs c.args.part c.go_on.new.self) same,
    )
