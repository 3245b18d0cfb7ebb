use Rattle.std.proofs.Common.{◌≤◌, length, subst}
use Rattle.std.specs.Prelude.{IfOk, IfErr}
use Rattle.lucy_word.specs.Limits.{limit_number}
use Rattle.lucy_word.specs.declared.limit.Limit.TheVariants as lim
use Rattle.lucy_need.specs.Meeting.{all_bits, most_needs}
use Rattle.lucy_clock.specs.Listing.{RefusesNeeds}
use Rattle.lucy_clock.proofs.node_needs.listed.Goals as goal

pub returns-clause-few : goal.returns-clause-few
returns-clause-few c = subst (λ needs. IfOk c.stored_needs.result (λ _. length needs ≤ most_needs)) c.in_ok-drafts.ensures.ok c.stored_needs.ensures.few

pub returns-clause-bits : goal.returns-clause-bits
returns-clause-bits c = subst (λ needs. IfOk c.stored_needs.result (λ _. all_bits needs ≤ limit_number lim.Bits)) c.in_ok-drafts.ensures.ok c.stored_needs.ensures.bits

pub returns-clause-refused : goal.returns-clause-refused
returns-clause-refused c = subst (λ needs. IfErr c.stored_needs.result (RefusesNeeds needs)) c.in_ok-drafts.ensures.ok c.stored_needs.ensures.refused
