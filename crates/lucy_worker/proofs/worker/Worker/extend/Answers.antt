use Rattle.std.proofs.Common.{◌≡◌, ◌<◌, List, length, get_or, set, ap, sym, ◌∙◌, subst, arith}
use Rattle.std.proofs.lemmas.List.{get_or_default}
use Rattle.std.proofs.lemmas.List.Elements.{All-get_or}
use Rattle.lucy_worker.specs.declared.part.Part.{Part}
use Rattle.lucy_worker.specs.Views.{WorkerView}
use Rattle.lucy_worker.specs.News.{ends_of}
use Rattle.lucy_worker.specs.Growing.{CanExtend, IsExtended}
use Rattle.lucy_worker.specs.Readiness.{IsReady}
use Rattle.lucy_worker.proofs.MeetLaws.{set_ready}
use Rattle.lucy_worker.proofs.GrowLaws.{extended_ready, extended_ends}
use Rattle.lucy_worker.proofs.worker.Worker.extend.Goals as goal

pub extend-requires-clause-ready : goal.extend-requires-clause-ready
extend-requires-clause-ready c =
    let same : c.self.inside.parts.items ≡ c.args.self.now.parts = ap (λ (w : WorkerView). w.parts) c.self.view_is in
    let l : c.args.part < length c.self.inside.parts.items = omega (arith, c.requires.there, ap (λ (xs : List Part). length xs) same) in
    let p : Part = c.index_mut-one.result.now in
    subst IsReady (sym c.index_mut-one.ensures.value) (All-get_or IsReady c.self.inside.parts.items c.args.part p l c.self.invariant.each)

pub extend-requires-clause-can : goal.extend-requires-clause-can
extend-requires-clause-can c =
    let same : c.self.inside.parts.items ≡ c.args.self.now.parts = ap (λ (w : WorkerView). w.parts) c.self.view_is in
    let p : Part = c.index_mut-one.result.now in
    let at : p ≡ get_or c.args.self.now.parts c.args.part p = c.index_mut-one.ensures.value ∙ ap (λ (xs : List Part). get_or xs c.args.part p) same in
    subst (λ (x : Part). CanExtend x c.args.items.now c.args.instants) (sym at) (c.requires.can p)

pub invariant_of-self : goal.invariant_of-self
invariant_of-self c =
    let same : c.self.inside.parts.items ≡ c.args.self.now.parts = ap (λ (w : WorkerView). w.parts) c.self.view_is in
    let l : c.args.part < length c.self.inside.parts.items = omega (arith, c.requires.there, ap (λ (xs : List Part). length xs) same) in
    let p : Part = c.index_mut-one.result.now in
    let at : p ≡ get_or c.self.inside.parts.items c.args.part p = c.index_mut-one.ensures.value in
    let here : p ≡ get_or c.args.self.now.parts c.args.part p = at ∙ ap (λ (xs : List Part). get_or xs c.args.part p) same in
    let can : CanExtend p c.args.items.now c.args.instants = subst (λ (x : Part). CanExtend x c.args.items.now c.args.instants) (sym here) (c.requires.can p) in
    let ready : IsReady p = subst IsReady (sym at) (All-get_or IsReady c.self.inside.parts.items c.args.part p l c.self.invariant.each) in
    set_ready c.self.inside.parts.items c.args.part p c.extend.new.self c.self.invariant l (extended_ready p c.args.items.now c.args.instants c.extend.new.self can c.extend.ensures ready) (extended_ends p c.args.items.now c.args.instants c.extend.new.self c.extend.ensures ∙ ap ends_of at)

pub returns-clause-extended : goal.returns-clause-extended
returns-clause-extended c d =
    let same : c.self.inside.parts.items ≡ c.args.self.now.parts = ap (λ (w : WorkerView). w.parts) c.self.view_is in
    let p : Part = c.index_mut-one.result.now in
    let at : p ≡ get_or c.args.self.now.parts c.args.part d =
    c.index_mut-one.ensures.value ∙ ap (λ (xs : List Part). get_or xs c.args.part p) same ∙ get_or_default c.args.self.now.parts c.args.part p d c.requires.there in
    (c.extend.new.self, subst (λ (x : Part). IsExtended x c.args.items.now c.args.instants c.extend.new.self) at c.extend.ensures, ap (λ (xs : List Part). set xs c.args.part c.extend.new.self) same)
