use Rattle.std.proofs.Common.{◌≡◌, ℕ, Some, sym, subst, inl, inr}
use Rattle.std.specs.Prelude.{slice_get, IfOk, IfErr, ◌⊎◌}
use Rattle.std.proofs.lemmas.Result.{IfOk-weaker, IfErr-weaker}
use Rattle.lucy_word.specs.declared.limit.Limit.TheVariants as lim
use Rattle.lucy_place.specs.declared.entry.PlaceKind.{PlaceKind}
use Rattle.lucy_place.specs.Reads.{operands_of}
use Rattle.lucy_clock.specs.declared.error.ClockError.TheVariants as err
use Rattle.lucy_clock.specs.HandedDown.{Hands, HandsTooLong}
use Rattle.lucy_clock.specs.Reading.{HasTurned}
use Rattle.lucy_clock.proofs.HandingLaws.{Once, merge_hands, merge_long}
use Rattle.lucy_clock.proofs.handing.handed.Goals as goal

pub returns-in-Merge-clause-ok : goal.returns-in-Merge-clause-ok
returns-in-Merge-clause-ok c =
    subst (λ (kind : PlaceKind). IfOk c.merged.result (λ w. (k : ℕ) → slice_get (operands_of kind) k ≡ Some c.args.to → Hands kind k c.args.own.now w)) (sym c.in-Merge.is)
    (IfOk-weaker c.merged.result _ _
    (λ w is. merge_hands c.in-Merge.one c.in-Merge.field-2 c.args.to (subst (λ (kind : PlaceKind). Once (operands_of kind) c.args.to) c.in-Merge.is c.requires.once) c.in-Merge.word c.args.own.now w
    (subst HasTurned c.in-Merge.is c.requires.zero) is)
    c.merged.ensures.ok)

pub returns-in-Merge-clause-refused : goal.returns-in-Merge-clause-refused
returns-in-Merge-clause-refused c =
    subst (λ (kind : PlaceKind). IfErr c.merged.result (λ e. (e ≡ err.OutOfMemory) ⊎ ((e ≡ err.Limit lim.Word) × HandsTooLong kind c.args.own.now))) (sym c.in-Merge.is)
    (IfErr-weaker c.merged.result _ _
    (λ e is. elim is [
      | inl none ↦ inl none
      | inr long ↦ inr (long.0, merge_long c.in-Merge.word c.args.own.now _ long.1)
    ])
    c.merged.ensures.refused)
