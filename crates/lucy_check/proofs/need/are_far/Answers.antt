use Rattle.std.proofs.Common.{ℕ, ◌<◌, nat_lt, subst, arith}
use Rattle.std.specs.Prelude.{IsTrue}
use Rattle.std.proofs.lemmas.Bool.Decides.{nat_tests}
use Rattle.lucy_word.specs.Bits.{Bits}
use Rattle.lucy_check.specs.Horizon.{AreDecidedBy}
use Rattle.lucy_check.specs.Lent.{seen}
use Rattle.lucy_check.proofs.CheckLaws.{horizon_one}
use Rattle.lucy_check.proofs.need.are_far.Goals as goal

above : (m n : ℕ) → IsTrue (nat_lt m n) → m < n
above m n h = grind (arith, nat_tests)

is_above : (m n : ℕ) → m < n → IsTrue (nat_lt m n)
is_above m n h = grind (arith, nat_tests)

pub returns : goal.returns
returns c =
    let a = seen c.args.a.now in
    let b = seen c.args.b.now in
    let n = c.horizon_of.result in
    let most = c.number.ensures in
    let looked : AreDecidedBy a b n =
    subst (λ (u : Bits). AreDecidedBy u b n) c.word.ensures (subst (λ (v : Bits). AreDecidedBy c.word.result.now v n) c.word-2.ensures c.horizon_of.ensures.is) in (
      λ h. (let more = above c.number.result n h in (n, looked, omega arith)),
      λ far. is_above c.number.result n (let same = horizon_one a b far.0 n far.1 looked in let more = far.2 in omega arith),
    )
