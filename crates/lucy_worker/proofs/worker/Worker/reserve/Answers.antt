use Rattle.std.proofs.Common.{◌≡◌, ◌<◌, List, length, get_or, set, ap, sym, ◌∙◌, subst, arith}
use Rattle.std.proofs.lemmas.List.{get_or_default}
use Rattle.std.proofs.lemmas.List.Elements.{All-get_or}
use Rattle.lucy_worker.specs.declared.part.Part.{Part}
use Rattle.lucy_worker.specs.Views.{WorkerView}
use Rattle.lucy_worker.specs.News.{ends_of}
use Rattle.lucy_worker.specs.Growing.{HasSpared}
use Rattle.lucy_worker.specs.Readiness.{IsReady}
use Rattle.lucy_worker.proofs.MeetLaws.{set_ready}
use Rattle.lucy_worker.proofs.GrowLaws.{spared_ready, spared_ends}
use Rattle.lucy_worker.proofs.worker.Worker.reserve.Goals as goal

pub invariant_of-self : goal.invariant_of-self
invariant_of-self c =
    let same : c.self.inside.parts.items ≡ c.args.self.now.parts = ap (λ (w : WorkerView). w.parts) c.self.view_is in
    let l : c.args.part < length c.self.inside.parts.items = omega (arith, c.requires.there, ap (λ (xs : List Part). length xs) same) in
    let p : Part = c.index_mut-one.result.now in
    let at : p ≡ get_or c.self.inside.parts.items c.args.part p = c.index_mut-one.ensures.value in
    let ready : IsReady p = subst IsReady (sym at) (All-get_or IsReady c.self.inside.parts.items c.args.part p l c.self.invariant.each) in
    set_ready c.self.inside.parts.items c.args.part p c.reserve.new.self c.self.invariant l (spared_ready p c.reserve.new.self c.reserve.ensures.spared ready) (spared_ends p c.reserve.new.self c.reserve.ensures.spared ∙ ap ends_of at)

pub returns-clause-spared : goal.returns-clause-spared
returns-clause-spared c d =
    let same : c.self.inside.parts.items ≡ c.args.self.now.parts = ap (λ (w : WorkerView). w.parts) c.self.view_is in
    let p : Part = c.index_mut-one.result.now in
    let at : p ≡ get_or c.args.self.now.parts c.args.part d =
    c.index_mut-one.ensures.value ∙ ap (λ (xs : List Part). get_or xs c.args.part p) same ∙ get_or_default c.args.self.now.parts c.args.part p d c.requires.there in
    (c.reserve.new.self, subst (λ (x : Part). HasSpared x c.reserve.new.self) at c.reserve.ensures.spared, c.reserve.ensures.ok, ap (λ (xs : List Part). set xs c.args.part c.reserve.new.self) same)
