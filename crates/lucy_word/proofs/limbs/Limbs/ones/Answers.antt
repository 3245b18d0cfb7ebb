use Rattle.std.proofs.Common.{◌≡◌, ◌≤◌, ◌<◌, ◌+◌, ◌*◌, ◌/◌, ◌%◌, ◌^◌, ℕ, List, Bool, length, take, get_or, ap, ◌∙◌, arith}
use Rattle.std.proofs.lemmas.Grind.{get_or_default_zero}
use Rattle.std.specs.Int.RustNames.{count_ones}
use Rattle.lucy_word.specs.Bits.{ones_in}
use Rattle.lucy_word.specs.Packing.{unpacked}
use Rattle.lucy_word.proofs.CountedLaws.{ones_in-within}
use Rattle.lucy_word.proofs.LimbLaws.{length-unpacked, ones_in-front}
use Rattle.lucy_word.proofs.limbs.Limbs.ones.Goals as goal

pub index-requires-2 : goal.index-requires-2
index-requires-2 c = omega (arith, length-unpacked c.self.inside.len c.self.inside.limbs.items, ap length c.self.view_is, c.self.invariant.1.count)

sum : (c : goal.After-from-2) → c.from.result + c.from-2.result ≡ ones_in (take c.args.n (unpacked c.self.inside.len c.self.inside.limbs.items))
sum c =
    let limbs : List ℕ = c.self.inside.limbs.items in
    let bits : List Bool = unpacked c.self.inside.len limbs in
    let s : ℕ = c.args.n / 64 in
    let r : ℕ = c.args.n % 64 in
    let within : c.args.n ≤ c.self.inside.len = omega (arith, length-unpacked c.self.inside.len limbs, ap length c.self.view_is) in
    let some : s ≤ c.self.inside.len / 64 = omega arith in
    let limb : c.index-2.result.now ≡ get_or limbs s 0 = c.index-2.ensures ∙ get_or_default_zero limbs s c.index-2.result.now (omega (arith, c.self.invariant.1.count)) in
    let whole : s * 64 + r ≡ c.args.n = omega arith in
    let part : c.from-2.result ≡ count_ones (get_or limbs s 0 % 2 ^ r) = c.from-2.ensures ∙ ap count_ones c.low.ensures ∙ ap (λ x. count_ones (x % 2 ^ r)) limb in
    let there : s < length c.self.inside.before.items = omega (arith, c.self.invariant.2.len, length-unpacked c.self.inside.len limbs) in
    let front : c.from.result ≡ ones_in (take (s * 64) bits) =
    c.from.ensures ∙ c.index.ensures ∙ get_or_default_zero c.self.inside.before.items s c.index.result.now there ∙ c.self.invariant.2.ones s there in
    omega (arith, front, part, ones_in-front c.self.inside.len limbs s r (omega arith) (omega arith), ap (λ k. ones_in (take k bits)) whole)

pub overflow_add-result : goal.overflow_add-result
overflow_add-result c = omega (arith, sum c, ones_in-within (unpacked c.self.inside.len c.self.inside.limbs.items) c.args.n)

pub returns : goal.returns
returns c = sum c ∙ ap (λ b. ones_in (take c.args.n b)) c.self.view_is
