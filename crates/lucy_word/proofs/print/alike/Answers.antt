use Rattle.std.proofs.Common.{◌≡◌, ◌<◌, ◌+◌, ◌/◌, ◌%◌, ◌^◌, ℕ, false, get_or, ap, sym, ◌∙◌, arith}
use Rattle.std.proofs.lemmas.Nat.Bits.{bit_at-trailing_zeros}
use Rattle.std.specs.Int.{w64, trailing_zeros}
use Rattle.lucy_word.specs.Packing.{is_set}
use Rattle.lucy_word.proofs.LimbLaws.{set_false, set_true}
use Rattle.lucy_word.proofs.RunLaws.{not_other, other_bit}
use Rattle.lucy_word.proofs.print.alike.Goals as goal

pub returns-clause-alike : goal.returns-clause-alike
returns-clause-alike c k h =
    let x : ℕ = c.others-others.result in
    let t = bit_at-trailing_zeros w64 x (omega arith) c.others-others.type_inv in
    sym (c.part.ensures.bits k (omega (arith, c.min.ensures)))
    ∙ not_other c.args.bit (is_set c.part.result k) (is_set x k) (c.others-others.ensures k (omega (arith, c.min.ensures, c.min-n.ensures)))
    (set_false x k (t.2 k (omega (arith, c.min.ensures))))

pub returns-clause-stops : goal.returns-clause-stops
returns-clause-stops c none within =
    let x : ℕ = c.others-others.result in
    let t = bit_at-trailing_zeros w64 x (omega arith) c.others-others.type_inv in
    let some : 0 < c.min-n.result = omega (arith, c.min-n.ensures, c.len.ensures.len) in
    let first : trailing_zeros w64 x ≡ 0 = omega (arith, c.min.ensures) in
    let one : x / 2 ^ 0 % 2 ≡ 1 = ap (λ j. x / 2 ^ j % 2) (sym first) ∙ t.1 in
    ap (λ j. get_or c.args.bits.now j false) (let e : c.args.at ≡ c.args.at + 0 = omega arith in e) ∙ sym (c.part.ensures.bits 0 some)
    ∙ other_bit c.args.bit (is_set c.part.result 0) (is_set x 0) (c.others-others.ensures 0 (omega arith)) (set_true x 0 one)
