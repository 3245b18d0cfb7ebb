use Rattle.std.proofs.Common.{◌≡◌, inl, inr}
use Rattle.std.specs.Prelude.{◌⊎◌}
use Rattle.lucy_word.specs.declared.limit.Limit.TheVariants as lim
use Rattle.lucy_word.specs.Sampling.{IsOnTooLong}
use Rattle.lucy_word.proofs.Results.{leaves}
use Rattle.lucy_flat.specs.declared.error.FlatError.TheVariants as err
use Rattle.lucy_clock.specs.HandedDown.{HandsTooLong}
use Rattle.lucy_flat.specs.Drafts.{HasTooLong}
use Rattle.lucy_flat.proofs.words.own_word.Goals as goal

pub returns-in_err-own-clause-refused : goal.returns-in_err-own-clause-refused
returns-in_err-own-clause-refused c =
    leaves (λ e. (e ≡ err.OutOfMemory) ⊎ ((e ≡ err.Limit lim.Word) × IsOnTooLong c.args.base.now c.args.word.now))
    (λ e. (e ≡ err.OutOfMemory) ⊎ ((e ≡ err.Limit lim.Word) × HasTooLong c.args.kind.now c.args.base.now c.args.word.now)) _
    c.from_residual.result c.from_residual.ensures.1 c.in_err-own.ensures.refused
    (λ e why. elim why [ inl none ↦ inl none | inr long ↦ inr (long.0, inl long.1) ])

pub returns-in_err-test_reads-clause-refused : goal.returns-in_err-test_reads-clause-refused
returns-in_err-test_reads-clause-refused c =
    leaves (λ e. (e ≡ err.Limit lim.Word) × HandsTooLong c.args.kind.now c.in_ok-own.own)
    (λ e. (e ≡ err.OutOfMemory) ⊎ ((e ≡ err.Limit lim.Word) × HasTooLong c.args.kind.now c.args.base.now c.args.word.now)) _
    c.from_residual-in_err-test_reads.result c.from_residual-in_err-test_reads.ensures.1 c.in_err-test_reads.ensures.refused
    (λ e why. inr (why.0, inr (c.in_ok-own.own, c.in_ok-own.ensures.ok, c.in_ok-own.ensures.stored, why.1)))
