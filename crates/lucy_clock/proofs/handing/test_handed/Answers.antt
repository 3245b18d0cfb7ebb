use Rattle.std.proofs.Common.{◌≡◌, sym, subst, inl, inr}
use Rattle.std.specs.Prelude.{IfErr, OnOk}
use Rattle.lucy_word.specs.declared.limit.Limit.TheVariants as lim
use Rattle.lucy_place.specs.declared.entry.PlaceKind.{PlaceKind}
use Rattle.lucy_clock.specs.declared.error.ClockError.TheVariants as err
use Rattle.lucy_clock.specs.HandedDown.{HandsTooLong}
use Rattle.lucy_clock.proofs.ResultLaws.{on_both}
use Rattle.lucy_clock.proofs.handing.test_handed.Goals as goal

pub returns-in-Merge-clause-ok : goal.returns-in-Merge-clause-ok
returns-in-Merge-clause-ok c =
    subst (λ (kind : PlaceKind). OnOk c.test_merge.result (HandsTooLong kind c.args.own.now → ⊥)) (sym c.in-Merge.is)
    (on_both c.test_merge.result _ _ _ c.test_merge.ensures.first c.test_merge.ensures.second (λ f g h. elim h [ inl a ↦ f a | inr b ↦ g b ]))

pub returns-in-Merge-clause-refused : goal.returns-in-Merge-clause-refused
returns-in-Merge-clause-refused c =
    subst (λ (kind : PlaceKind). IfErr c.test_merge.result (λ e. (e ≡ err.Limit lim.Word) × HandsTooLong kind c.args.own.now)) (sym c.in-Merge.is) c.test_merge.ensures.refused
