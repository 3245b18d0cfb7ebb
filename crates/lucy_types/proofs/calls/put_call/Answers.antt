use Rattle.std.proofs.Common.{◌≡◌, ◌+◌, ◌-◌, ◌++◌, ℕ, length, ap, ◌∙◌, arith, length-append}
use Rattle.lucy_types.specs.Ports.{counted}
use Rattle.lucy_types.proofs.CallLaws.{length_counted}
use Rattle.lucy_types.proofs.calls.put_call.Goals as goal

pub put_ports-requires-clause-places : goal.put_ports-requires-clause-places
put_ports-requires-clause-places c =
    let more : ℕ = c.len.result - length c.args.args.now in
    let places : length c.deref-3.result.now ≡ length (c.args.args.now ++ counted c.args.first more) = ap length (c.deref-3.ensures.value ∙ c.in_ok-places.ensures) in
    let sum : length (c.args.args.now ++ counted c.args.first more) ≡ length c.args.args.now + more =
    length-append c.args.args.now (counted c.args.first more) ∙ ap (λ n. length c.args.args.now + n) (length_counted c.args.first more) in
    let ports = ap length c.deref.ensures.value in
    let args = c.requires.args in
    omega arith
