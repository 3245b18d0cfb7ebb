use Rattle.std.proofs.Common.{◌≡◌, ◌+◌, ◌≤◌, refl, arith}
use Rattle.lucy_word.specs.Limits.{limit_number}
use Rattle.lucy_word.specs.declared.limit.Limit.TheVariants as limit
use Rattle.lucy_flat.specs.Drafts.{draft_bits}
use Rattle.lucy_flat.specs.declared.kept.Kept.{Kept}
use Rattle.lucy_flat.proofs.KeptLaws.{kept_past, kept_push}
use Rattle.lucy_flat.proofs.kept.keep.Goals as goal

pub returns-then-kept-number-clause-ok : goal.returns-then-kept-number-clause-ok
returns-then-kept-number-clause-ok c = λ drafts are.
    let new : Kept = record { drafts = c.args.kept.now.drafts; bits = c.saturating_add-kept.result } in
    let more = c.bits.ensures.is in
    let sum = c.saturating_add-kept.ensures in
    let past = c.if-kept-number.true in
    let number = c.number.ensures in
    kept_past drafts c.args.kept.now new c.args.next are c.words_are_stored.ensures (omega arith) (omega arith) refl

pub returns-clause-ok : goal.returns-clause-ok
returns-clause-ok c = λ drafts are.
    let new : Kept = record { drafts = c.push.new.self; bits = c.saturating_add-kept.result } in
    let more = c.bits.ensures.is in
    let sum = c.saturating_add-kept.ensures in
    let few = c.if-kept-number.false in
    let number = c.number.ensures in
    let is : new.bits ≡ c.args.kept.now.bits + draft_bits c.args.next = omega arith in
    let most : new.bits ≤ limit_number limit.Bits = omega arith in
    kept_push drafts c.args.kept.now new c.args.next are c.words_are_stored.ensures is most c.in_ok-push.ensures.items
