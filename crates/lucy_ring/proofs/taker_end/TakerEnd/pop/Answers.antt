use Rattle.std.proofs.Common.{rules, ◌≡◌, ◌++◌, ap, length, drop, arith}
use Rattle.std.proofs.lemmas.List.{nil_from_length}
use Rattle.rtrb.specs.Ring.{known_items}
use Rattle.std.proofs.lemmas.Grind.{common_steps}
use Rattle.lucy_ring.proofs.Names.{taker_keeps, same_view}
use Rattle.lucy_ring.proofs.taker_end.TakerEnd.pop.Goals as goal

nothing : (c : goal.After-self-in-Err-1) → known_items c.pop.new.self ≡ known_items c.args.self.now.items
nothing c =
    let none : length (known_items c.args.self.now.items) ≡ 0 = grind (arith, common_steps) in
    let e = nil_from_length _ none in
    search rules

pub returns-in-Ok-clause-ring : goal.returns-in-Ok-clause-ring
returns-in-Ok-clause-ring c = taker_keeps _ _ (search rules) (search rules) (grind (arith, common_steps)) (search rules) (search rules)

pub returns-in-Err-clause-unchanged : goal.returns-in-Err-clause-unchanged
returns-in-Err-clause-unchanged c = same_view _ _
    (taker_keeps _ _ (search rules) (search rules) (search rules) (search rules) (search rules))
    (search rules) (search rules) (ap (λ l. drop c.args.self.now.place c.args.self.now.side.items ++ l) (nothing c)) (search rules) (search rules)

pub returns-in-Err-clause-ring : goal.returns-in-Err-clause-ring
returns-in-Err-clause-ring c = taker_keeps _ _ (search rules) (search rules) (search rules) (search rules) (search rules)
