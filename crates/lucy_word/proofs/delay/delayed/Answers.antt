use Rattle.std.proofs.Common.{◌≡◌, false, ◌++◌, ap, sym, ◌∙◌, subst}
use Rattle.std.specs.Prelude.{replicate}
use Rattle.lucy_word.specs.Bits.{Bits}
use Rattle.lucy_word.specs.Always.{delayed}
use Rattle.lucy_word.specs.Stored.{IsStored}
use Rattle.lucy_word.proofs.DelayLaws.{delayed_stored}
use Rattle.lucy_word.proofs.delay.delayed.Goals as goal
use Rattle.lucy_word.proofs.delay.delayed.Goals.{In_ok-period}

abbrev made : In_ok-period → Bits
made c = record { prefix = c.in_ok-prefix.prefix; period = c.in_ok-period.period }

is : (c : In_ok-period) → made c ≡ delayed c.args.zeros
is c =
    ap (λ p. record { prefix = p; period = c.in_ok-period.period }) (c.in_ok-prefix.ensures ∙ c.in_ok-push_run.ensures ∙ ap (λ p. p ++ replicate c.args.zeros false) c.new-made.ensures)
    ∙ ap (λ p. record { prefix = (delayed c.args.zeros).prefix; period = p }) c.in_ok-period.ensures

stored : (c : In_ok-period) → IsStored (made c)
stored c = subst IsStored (sym (is c)) (delayed_stored c.args.zeros c.requires)

pub invariant_of-result : goal.invariant_of-result
invariant_of-result c = let s = stored c in (s.word, s.short, s.shortest)

pub returns-clause-stored : goal.returns-clause-stored
returns-clause-stored c = stored c
