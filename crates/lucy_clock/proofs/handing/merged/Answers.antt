use Rattle.std.proofs.Common.{◌≡◌, not, sym, subst}
use Rattle.std.specs.Prelude.{IfErr, ◌⊎◌}
use Rattle.lucy_word.specs.Sampling.{IsOnTooLong}
use Rattle.lucy_word.specs.declared.limit.Limit.TheVariants as lim
use Rattle.lucy_place.specs.Standing.{sampling_word}
use Rattle.lucy_clock.specs.declared.error.ClockError.TheVariants as err
use Rattle.lucy_clock.proofs.handing.merged.Goals as goal

pub returns-clause-refused : goal.returns-clause-refused
returns-clause-refused c =
    subst (λ t. IfErr c.sampled-2.result (λ e. (e ≡ err.OutOfMemory) ⊎ ((e ≡ err.Limit lim.Word) × IsOnTooLong c.args.own.now (sampling_word (not t) c.args.word.now)))) (sym c.if-first.false)
    (subst (λ v. IfErr c.sampled-2.result (λ e. (e ≡ err.OutOfMemory) ⊎ ((e ≡ err.Limit lim.Word) × IsOnTooLong c.args.own.now v))) c.in_ok-word.ensures.is c.sampled-2.ensures.refused)
