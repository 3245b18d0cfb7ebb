use Rattle.std.proofs.Common.{◌++◌, ◌∷◌, [], ap, sym, ◌∙◌, subst, length, arith, append_assoc}
use Rattle.std.specs.Prelude.{slice_get}
use Rattle.lucy_flat.specs.Assembly.{all_reads, AreActorsOf, IsDraftActor}
use Rattle.lucy_flat.proofs.GivingLaws.{get_middle, actors_more, reads_more, reads_within}
use Rattle.lucy_flat.proofs.assemble.actors.Goals as goal

pub finished-requires-clause-kind : goal.finished-requires-clause-kind
finished-requires-clause-kind c =
    let done = c.each.invariant.0 in
    let all = c.each.invariant.1 ∙ ap (λ t. done ++ t) c.in-Some.ensures.steps.0 in
    c.requires.kinds (length done) c.in-Some.draft (ap (λ t. slice_get t (length done)) all ∙ get_middle done c.in-Some.draft c.next.new.self.rest.items)

pub finished-requires-clause-within : goal.finished-requires-clause-within
finished-requires-clause-within c =
    let done = c.each.invariant.0 in
    let first = c.each.invariant.3 in
    let count = ap all_reads (c.each.invariant.1 ∙ ap (λ t. done ++ t) c.in-Some.ensures.steps.0) in
    let whole = c.requires.all in
    omega (arith, reads_within done c.next.new.self.rest.items c.in-Some.draft)

pub each-preserved : goal.each-preserved
each-preserved c =
    let done = c.each.invariant.0 in
    let draft = c.in-Some.draft in
    let all = c.each.invariant.1 ∙ ap (λ t. done ++ t) c.in-Some.ensures.steps.0 in
    let first = c.each.invariant.3 in
    let len = c.len-count.ensures in (
      done ++ draft ∷ [],
      all ∙ sym (append_assoc done (draft ∷ []) c.next.new.self.rest.items),
      subst (AreActorsOf c.args.rings.now (done ++ draft ∷ [])) (sym c.in_ok-push.ensures.items)
          (actors_more c.args.rings.now done c.each.actors.items draft c.in_ok-next.next c.each.invariant.2 (subst (λ n. IsDraftActor c.args.rings.now n draft c.in_ok-next.next) first c.in_ok-next.ensures.ok)),
      omega (arith, first, len, reads_more done draft),
    )
