use Rattle.std.proofs.Common.{◌≡◌, ◌+◌, ◌≤◌, refl, arith}
use Rattle.lucy_word.specs.Limits.{limit_number}
use Rattle.lucy_word.specs.declared.limit.Limit.TheVariants as limit
use Rattle.lucy_flat.specs.Extents.{ring_bits}
use Rattle.lucy_flat.specs.declared.held.Held.{Held}
use Rattle.lucy_flat.proofs.HeldLaws.{held_past, held_push}
use Rattle.lucy_flat.proofs.held.hold.Goals as goal

pub returns-then-held-number-clause-ok : goal.returns-then-held-number-clause-ok
returns-then-held-number-clause-ok c = λ rings are.
    let new : Held = record { rings = c.args.held.now.rings; bits = c.saturating_add-held.result } in
    let write = c.bits.ensures.is in
    let read = c.bits-2.ensures.is in
    let sum = c.saturating_add-held.ensures in
    let past = c.if-held-number.true in
    let number = c.number.ensures in
    held_past rings c.args.held.now new c.args.next are c.words_are_stored.ensures c.words_are_stored-2.ensures (omega arith) (omega arith) refl

pub returns-clause-ok : goal.returns-clause-ok
returns-clause-ok c = λ rings are.
    let new : Held = record { rings = c.push.new.self; bits = c.saturating_add-held.result } in
    let write = c.bits.ensures.is in
    let read = c.bits-2.ensures.is in
    let sum = c.saturating_add-held.ensures in
    let few = c.if-held-number.false in
    let number = c.number.ensures in
    let is : new.bits ≡ c.args.held.now.bits + ring_bits c.args.next = omega arith in
    let most : new.bits ≤ limit_number limit.Bits = omega arith in
    held_push rings c.args.held.now new c.args.next are c.words_are_stored.ensures c.words_are_stored-2.ensures is most c.in_ok-push.ensures.items
