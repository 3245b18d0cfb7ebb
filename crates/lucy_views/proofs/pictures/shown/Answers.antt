use Rattle.std.proofs.Common.{Ok, refl}
use Rattle.lucy_asking.specs.declared.ask.Picture.TheVariants as picture
use Rattle.lucy_views.specs.Owes.{OwesPicture}
use Rattle.lucy_views.specs.Failures.{unread}
use Rattle.lucy_views.proofs.PictureLaws.{alone_out, alone_told, picture_out, picture_told}
use Rattle.lucy_views.proofs.pictures.shown.Goals as goal

pub returns-in-Time-clause-outcome : goal.returns-in-Time-clause-outcome
returns-in-Time-clause-outcome c =
    picture_out c.args.ops.now c.args.text.now c.args.picture (picture.Time c.in-Time.words) _ _ c.in-Time.is c.alone.ensures
    (alone_out (OwesPicture (picture.Time c.in-Time.words) (unread c.args.ops.now (Ok c.args.text.now))) c.charts.result c.charts.ensures.outcome)

pub returns-in-Time-clause-told : goal.returns-in-Time-clause-told
returns-in-Time-clause-told c = picture_told _ _ c.alone.ensures (alone_told c.charts.result c.charts.ensures.told)

pub returns-in-Net-clause-outcome : goal.returns-in-Net-clause-outcome
returns-in-Net-clause-outcome c =
    picture_out c.args.ops.now c.args.text.now c.args.picture (picture.Net c.in-Net.words) _ _ c.in-Net.is c.alone-in-Net.ensures
    (alone_out (OwesPicture (picture.Net c.in-Net.words) (unread c.args.ops.now (Ok c.args.text.now))) c.nets.result c.nets.ensures.outcome)

pub returns-in-Net-clause-told : goal.returns-in-Net-clause-told
returns-in-Net-clause-told c = picture_told _ _ c.alone-in-Net.ensures (alone_told c.nets.result c.nets.ensures.told)

pub returns-in-Where-clause-outcome : goal.returns-in-Where-clause-outcome
returns-in-Where-clause-outcome c =
    picture_out c.args.ops.now c.args.text.now c.args.picture (picture.Where c.in-Where.words) _ _ c.in-Where.is c.alone-in-Where.ensures
    (alone_out (OwesPicture (picture.Where c.in-Where.words) (unread c.args.ops.now (Ok c.args.text.now))) c.spots.result c.spots.ensures.outcome)

pub returns-in-Where-clause-told : goal.returns-in-Where-clause-told
returns-in-Where-clause-told c = picture_told _ _ c.alone-in-Where.ensures (alone_told c.spots.result c.spots.ensures.told)

pub returns-in-Page-clause-outcome : goal.returns-in-Page-clause-outcome
returns-in-Page-clause-outcome c =
    picture_out c.args.ops.now c.args.text.now c.args.picture (picture.Page c.in-Page.words) _ _ c.in-Page.is refl c.pages.ensures.outcome

pub returns-in-Page-clause-told : goal.returns-in-Page-clause-told
returns-in-Page-clause-told c = c.pages.ensures.told

pub returns-in-Explain-clause-outcome : goal.returns-in-Explain-clause-outcome
returns-in-Explain-clause-outcome c =
    picture_out c.args.ops.now c.args.text.now c.args.picture (picture.Explain c.in-Explain.words) _ _ c.in-Explain.is c.alone-in-Explain.ensures
    (alone_out (OwesPicture (picture.Explain c.in-Explain.words) (unread c.args.ops.now (Ok c.args.text.now))) c.explains.result c.explains.ensures.outcome)

pub returns-in-Explain-clause-told : goal.returns-in-Explain-clause-told
returns-in-Explain-clause-told c = picture_told _ _ c.alone-in-Explain.ensures (alone_told c.explains.result c.explains.ensures.told)

pub returns-in-Why-clause-outcome : goal.returns-in-Why-clause-outcome
returns-in-Why-clause-outcome c =
    picture_out c.args.ops.now c.args.text.now c.args.picture (picture.Why c.in-Why.words) _ _ c.in-Why.is c.alone-in-Why.ensures
    (alone_out (OwesPicture (picture.Why c.in-Why.words) (unread c.args.ops.now (Ok c.args.text.now))) c.whys.result c.whys.ensures.outcome)

pub returns-in-Why-clause-told : goal.returns-in-Why-clause-told
returns-in-Why-clause-told c = picture_told _ _ c.alone-in-Why.ensures (alone_told c.whys.result c.whys.ensures.told)

pub returns-in-Freeze-clause-outcome : goal.returns-in-Freeze-clause-outcome
returns-in-Freeze-clause-outcome c =
    picture_out c.args.ops.now c.args.text.now c.args.picture (picture.Freeze c.in-Freeze.words) _ _ c.in-Freeze.is c.alone-in-Freeze.ensures
    (alone_out (OwesPicture (picture.Freeze c.in-Freeze.words) (unread c.args.ops.now (Ok c.args.text.now))) c.freezes.result c.freezes.ensures.outcome)

pub returns-in-Freeze-clause-told : goal.returns-in-Freeze-clause-told
returns-in-Freeze-clause-told c = picture_told _ _ c.alone-in-Freeze.ensures (alone_told c.freezes.result c.freezes.ensures.told)
