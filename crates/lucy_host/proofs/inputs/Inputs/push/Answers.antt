use Rattle.std.proofs.Common.{◌≡◌, ◌++◌, ◌∷◌, [], to_z-of_z, rules}
use Rattle.std.proofs.lemmas.Result.{err_from_is_err_and}
use Rattle.lucy_host.proofs.ListsLaws.{put_back, grown}
use Rattle.lucy_host.proofs.inputs.Inputs.push.Goals as goal

pub returns-in_err-push-clause-refused : goal.returns-in_err-push-clause-refused
returns-in_err-push-clause-refused c =
    let p = err_from_is_err_and c.from_residual.result c.from_residual.ensures.1 in
    rw p.1 (put_back _ _ _ _ c.index_mut-numbers.result.now c.self.view_is c.index_mut-numbers.ensures.value c.in_err-push.ensures.items)

pub returns-clause-ok : goal.returns-clause-ok
returns-clause-ok c =
    let e : c.push.new.self.items ≡ c.index_mut-numbers.result.now.items ++ c.args.value ∷ [] = search (rules, c.in_ok-push.ensures.items, to_z-of_z) in
    grown _ _ _ _ c.index_mut-numbers.result.now c.self.view_is c.index_mut-numbers.ensures.value _ c.requires e
