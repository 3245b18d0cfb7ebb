use Rattle.std.proofs.Common.{◌<◌, ◌+◌, ◌*◌, ◌/◌, ◌%◌, ◌^◌, ℕ, sym, arith, subst}
use Rattle.std.proofs.lemmas.Nat.Bits.{bit_at-trailing_zeros}
use Rattle.std.specs.Int.{w64, trailing_zeros}
use Rattle.lucy_word.proofs.LimbLaws.{Deposited, Deposited-more, Deposited-all, merged, low_grows}
use Rattle.lucy_word.proofs.sampling.deposit.Goals as goal

step : (c : goal.In-loop-rest) → (c.loop-rest.at + trailing_zeros w64 c.loop-rest.rest < 64)
    × Deposited c.args.first c.args.next (c.loop-rest.at + trailing_zeros w64 c.loop-rest.rest + 1) (c.loop-rest.rest / 2 ^ trailing_zeros w64 c.loop-rest.rest / 2) (c.loop-rest.bits / 2)
    (c.loop-rest.bits % 2 * 2 ^ (c.loop-rest.at + trailing_zeros w64 c.loop-rest.rest) + c.loop-rest.kept)
step c =
    let t = bit_at-trailing_zeros w64 c.loop-rest.rest (omega arith) c.loop-rest.auto.rest-fits.fits in
    Deposited-more c.args.first c.args.next c.loop-rest.at c.loop-rest.rest c.loop-rest.bits c.loop-rest.kept (trailing_zeros w64 c.loop-rest.rest) c.ranges.first.fits c.loop-rest.invariant t.1 t.2

pub loop-rest-preserved : goal.loop-rest-preserved
loop-rest-preserved c =
    let skip : ℕ = trailing_zeros w64 c.loop-rest.rest in
    let P : ℕ → Type 0 = λ k. Deposited c.args.first c.args.next (c.loop-rest.at + skip + 1) (c.loop-rest.rest / 2 ^ skip / 2) (c.loop-rest.bits / 2) k in
    subst P (sym (merged c.loop-rest.bits c.loop-rest.kept (c.loop-rest.at + skip) (step c).0 (low_grows c.loop-rest.kept c.loop-rest.at skip c.loop-rest.invariant.below))) (step c).1

pub overflow_shl-kept : goal.overflow_shl-kept
overflow_shl-kept c = (step c).0

pub returns : goal.returns
returns c i h =
    let P : ℕ → Type 0 = λ r. Deposited c.args.first c.args.next c.loop-rest.at r c.loop-rest.bits c.loop-rest.kept in
    Deposited-all c.args.first c.args.next c.loop-rest.at c.loop-rest.bits c.loop-rest.kept (subst P c.loop-rest-test.false c.loop-rest.invariant) i
