use Rattle.std.proofs.Common.{◌<◌, ◌≡◌, Some, ap, sym, ◌∙◌, refl, subst, length}
use Rattle.std.specs.Prelude.{slice_get}
use Rattle.std.proofs.lemmas.Option.{slice_get_read}
use Rattle.std.proofs.lemmas.Result.{IfOk-weaker}
use Rattle.lucy_net.specs.declared.kind.ActorKind.TheVariants.{When}
use Rattle.lucy_net.specs.declared.net.RingSpec.{RingSpec}
use Rattle.lucy_flat.specs.Assembly.{IsFiring, IsSampling}
use Rattle.lucy_flat.proofs.KindLaws.{fires_else}
use Rattle.lucy_flat.proofs.assemble.firing.Goals as goal

pub returns-in-When : goal.returns-in-When
returns-in-When c =
    let rings = c.args.rings.now in
    let within : c.args.first < length rings = c.requires (subst IsSampling (sym c.in-When.is) tt) in
    let at : slice_get rings c.args.first ≡ Some c.index-rings-first.result = slice_get_read rings (length rings) c.args.first c.index-rings-first.result refl within c.index-rings-first.is in
    IfOk-weaker c.copy.result _ (IsFiring c.args.kind.now c.args.word (slice_get rings c.args.first))
    (λ w e. subst (λ k. IsFiring k c.args.word (slice_get rings c.args.first) w) (sym c.in-When.is) (subst (λ r. IsFiring (When c.in-When.field-0) c.args.word r w) (sym at) (e ∙ ap (λ (r : RingSpec). r.write) (sym c.index-rings-first.is))))
    c.copy.ensures.equal

pub returns-in_default : goal.returns-in_default
returns-in_default c = fires_else c.args.kind.now c.args.word (slice_get c.args.rings.now c.args.first) c.in_default.not-When
