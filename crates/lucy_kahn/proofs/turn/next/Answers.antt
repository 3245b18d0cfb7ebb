use Rattle.std.proofs.Common.{suc, ◌≡◌, ◌+◌, List, length, ap, sym, ◌∙◌, subst, arith}
use Rattle.std.specs.Prelude.{ℤ}
use Rattle.std.specs.List.{AllByRecursion}
use Rattle.lucy_host.specs.Host.{lent}
use Rattle.lucy_host.specs.Operators.{kinds_of}
use Rattle.lucy_kahn.specs.Turns.{AreShort, iterate_to, lists_in}
use Rattle.lucy_kahn.proofs.OwnLaws.{all_push}
use Rattle.lucy_kahn.proofs.RunLaws.{mapped_from}
use Rattle.lucy_kahn.proofs.turn.next.Goals as goal

pub each-preserved : goal.each-preserved
each-preserved g c paths b =
    let it = c.args.before.now in
    let old = c.each.invariant paths b in
    let list = c.in_ok-lists_of.ensures.ok paths b in
    let new = c.in_ok-push.ensures.items in
    let z : 0 + c.each.instance ≡ c.each.instance = omega arith in (
      mapped_from (λ i. lists_in (kinds_of (lent c.args.host.now)) it.inputs.now it.placed.now.nodes (suc it.number) (paths i)) 0 c.each.instance c.each.instance c.each.after.items c.push.new.self.items c.in_ok-lists_of.field-0 z old.0 new list.0,
      subst (λ (xs : List (List (List ℤ))). AllByRecursion AreShort xs) (sym new) (all_push c.each.after.items c.in_ok-lists_of.field-0 old.1 list.1),
    )

pub returns-clause-ok : goal.returns-clause-ok
returns-clause-ok g c paths b =
    let it = c.args.before.now in
    let all = c.each.invariant paths b in
    let z : c.each.instance ≡ length it.instances.now.list.items = omega arith in
    record { is = all.0 ∙ ap (iterate_to (kinds_of (lent c.args.host.now)) it.inputs.now it.placed.now.nodes (suc it.number) paths) z; short = all.1 }
