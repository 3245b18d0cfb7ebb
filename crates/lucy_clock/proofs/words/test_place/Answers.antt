use Rattle.std.proofs.Common.{sym, ◌∙◌, subst}
use Rattle.std.proofs.lemmas.Option.{same_Some}
use Rattle.std.proofs.lemmas.Result.{IfErr-weaker, on_ok_weaker}
use Rattle.lucy_place.specs.declared.entry.PlaceEntry.{PlaceEntry}
use Rattle.lucy_clock.proofs.ReaderLaws.{one_at}
use Rattle.lucy_clock.specs.HandedDown.{HandsTooLong}
use Rattle.lucy_clock.proofs.words.test_place.Goals as goal

pub returns-clause-ok : goal.returns-clause-ok
returns-clause-ok c =
    let here = one_at c.list.result.now c.args.node.now.places c.args.place c.index-list-place.result c.list.ensures c.requires.0 c.requires.1 c.index-list-place.is in
    on_ok_weaker c.test_handed.result (λ fits long.
    fits (subst (λ (x : PlaceEntry). HandsTooLong x.kind c.args.own.now) (same_Some long.0 _ (sym long.1 ∙ here)) long.2))
    c.test_handed.ensures.ok

pub returns-clause-refused : goal.returns-clause-refused
returns-clause-refused c =
    let here = one_at c.list.result.now c.args.node.now.places c.args.place c.index-list-place.result c.list.ensures c.requires.0 c.requires.1 c.index-list-place.is in
    IfErr-weaker c.test_handed.result _ _
    (λ e long. (long.0, (_, here, long.1)))
    c.test_handed.ensures.refused
