use Rattle.std.proofs.Common.{◌+◌, [], ◌∷◌, ◌++◌, Some, take, ap, sym, refl, ◌∙◌, arith, append_assoc}
use Rattle.lucy_kahn.specs.declared.instances.Instance.{Instance}
use Rattle.lucy_kahn.specs.Instances.{made}
use Rattle.lucy_kahn.proofs.InstanceLaws.{made_more}
use Rattle.lucy_kahn.proofs.instances.put_calls.Goals as goal

pub each-preserved : goal.each-preserved
each-preserved c =
    let x : Instance = record { node = c.index-calls-i.result.node; caller = Some (record { instance = c.args.instance; call = c.each.i + 1 }) } in
    c.in_ok-push.ensures.items ∙ ap (λ xs. xs ++ x ∷ []) c.each.invariant ∙ append_assoc c.args.list.now.items (made c.args.instance 1 (take c.each.i c.args.calls.now)) (x ∷ [])
    ∙ ap (λ ys. c.args.list.now.items ++ ys) (sym (made_more c.args.instance c.each.i c.args.calls.now c.index-calls-i.result (c.each.i + 1) (omega arith) c.index-calls-i.is refl))
