use Rattle.std.proofs.Common.{List, subst}
use Rattle.lucy_word.specs.Bits.{Bits}
use Rattle.lucy_need.specs.Meeting.{assigned}
use Rattle.lucy_check.specs.Passing.{PassesAll}
use Rattle.lucy_inference.proofs.Steps.{checked_in}
use Rattle.lucy_inference.proofs.inferring.measured.Goals as goal

pub returns-in-Err-Limit-clause-refused : goal.returns-in-Err-Limit-clause-refused
returns-in-Err-Limit-clause-refused c =
    checked_in c.args.needs.now c.args.shape.now c.args.words.items c.deref.result.now c.in-Err-Limit.field-0 c.in-Err-Limit.field-0-0 c.in-Err-Limit.limit c.requires.words c.deref.ensures.value (cc)
    c.in-Err-Limit.ensures.refused

pub returns-in-Ok-clause-inferred : goal.returns-in-Ok-clause-inferred
returns-in-Ok-clause-inferred c = record {
  are = c.requires.words;
  passes = subst (λ (words : List Bits). PassesAll (assigned words) c.args.needs.now.list c.in-Ok.sizes.items) c.deref.ensures.value c.in-Ok.ensures.sizes;
}
