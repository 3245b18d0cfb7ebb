use Rattle.std.proofs.Common.{◌≡◌, ◌-◌, true, false, ap, sym, ◌∙◌, arith}
use Rattle.std.specs.Prelude.{slice_get}
use Rattle.lucy_word.specs.Bits.{bit_at}
use Rattle.lucy_word.proofs.BitsLaws.{ones_to-le}
use Rattle.lucy_word.proofs.IndexLaws.{ones_to-one}
use Rattle.lucy_stream.proofs.MergeLaws.{merge_item-one, merge_item-zero}
use Rattle.lucy_kahn.proofs.ListSteps.{ones_short}
use Rattle.lucy_kahn.proofs.merging.item.Goals as goal

pub overflow_sub-ones : goal.overflow_sub-ones
overflow_sub-ones c =
    let b : bit_at c.args.word.now c.args.k ≡ true = sym c.bit.ensures ∙ c.if-bit.true in
    omega (arith, c.ones-ones.ensures, ones_to-one c.args.word.now c.args.k c.requires b)

pub overflow_sub-k : goal.overflow_sub-k
overflow_sub-k c = omega (arith, c.ones-ones.ensures, ones_to-le c.args.word.now c.args.k)

pub overflow_sub-k-else-bit : goal.overflow_sub-k-else-bit
overflow_sub-k-else-bit c =
    let b : bit_at c.args.word.now c.args.k ≡ false = sym c.bit.ensures ∙ c.if-bit.false in
    omega (arith, c.ones-ones.ensures, ones_short c.args.word.now c.args.k c.requires b)

pub returns-then-bit : goal.returns-then-bit
returns-then-bit c =
    let b : bit_at c.args.word.now c.args.k ≡ true = sym c.bit.ensures ∙ c.if-bit.true in
    let e = merge_item-one c.args.word.now c.args.a.now c.args.b.now c.args.k b in
    c.there.ensures ∙ ap (λ n. slice_get c.args.a.now (n - 1)) c.ones-ones.ensures ∙ sym e

pub returns-else-bit : goal.returns-else-bit
returns-else-bit c =
    let b : bit_at c.args.word.now c.args.k ≡ false = sym c.bit.ensures ∙ c.if-bit.false in
    let e = merge_item-zero c.args.word.now c.args.a.now c.args.b.now c.args.k b in
    c.there-else-bit.ensures ∙ ap (λ n. slice_get c.args.b.now (c.args.k - n - 1)) c.ones-ones.ensures ∙ sym e
