use Rattle.std.proofs.Common.{refl, arith, ◌+◌, ◌-◌, ◌≡◌}
use Rattle.std.proofs.lemmas.Iterator.{YieldsList-from_range, items_from_collect}
use Rattle.lucy_program.proofs.names.param_places.Goals as goal

pub returns : goal.returns
returns c =
    let all : c.args.params + 1 - 1 ≡ c.args.params = omega arith in
    let made = items_from_collect _ c.collect.ensures.ran (YieldsList-from_range 1 (c.args.params + 1) c.args.params refl all) in
    rw c.in_ok-collect.was at made
