use Rattle.std.proofs.Common.{◌≡◌, ℕ, ◌+◌, ◌-◌, take, drop, ◌++◌, false, get_or, ap, ◌∙◌, arith}
use Rattle.lucy_word.proofs.PackedLaws.{part_more}
use Rattle.lucy_word.proofs.packed.Packed.push_part.Goals as goal

pub loop-at-preserved : goal.loop-at-preserved
loop-at-preserved c =
    let from : ℕ = c.args.from in
    let made : ℕ = c.loop-at.at - from in
    let some : ℕ = c.min-some.result in
    record {
      from = omega (arith, c.loop-at.invariant.from);
      within = omega (arith, c.min-some.ensures);
      bits = part_more c.args.self.now c.loop-at.self c.push.new.self c.args.bits.now from made some c.part.result (omega (arith, c.min-some.ensures, c.requires.within, c.loop-at.invariant.from))
          c.loop-at.invariant.bits c.in_ok-push.ensures
          (λ i h. c.part.ensures.bits i h ∙ ap (λ k. get_or c.args.bits.now k false) (let e : c.loop-at.at + i ≡ from + made + i = omega (arith, c.loop-at.invariant.from) in e))
          ∙ ap (λ k. c.args.self.now ++ take k (drop from c.args.bits.now)) (let e : made + some ≡ c.loop-at.at + some - from = omega (arith, c.loop-at.invariant.from) in e);
    }
