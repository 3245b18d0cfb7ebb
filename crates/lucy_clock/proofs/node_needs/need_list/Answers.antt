use Rattle.std.proofs.Common.{◌∷◌, ◌++◌, [], List, map, take, ap, sym, ◌∙◌, subst}
use Rattle.std.specs.List.{All}
use Rattle.std.proofs.lemmas.List.{map_more}
use Rattle.std.proofs.lemmas.List.Elements.{All-push, recursion_from_All}
use Rattle.lucy_need.specs.declared.need.Need.{Need}
use Rattle.lucy_need.specs.Stored.{HasWords}
use Rattle.lucy_clock.specs.Drafts.{seen}
use Rattle.lucy_clock.proofs.node_needs.need_list.Goals as goal

pub each-preserved : goal.each-preserved
each-preserved c =
    let one = c.in_ok-need.ensures.ok ∙ ap seen c.draft-item.is in
    let more = map_more seen c.args.drafts.now c.each.draft-index c.draft-item.result c.each-test.true in
    let all = All-push HasWords c.each.list.items c.in_ok-need.field-0 c.each.invariant.1 c.in_ok-need.ensures.words in (
      c.in_ok-push.ensures.items ∙ ap (λ (l : List Need). l ++ c.in_ok-need.field-0 ∷ []) c.each.invariant.0
          ∙ ap (λ (n : Need). map seen (take c.each.draft-index c.args.drafts.now) ++ n ∷ []) one ∙ sym more,
      subst (All HasWords) (sym c.in_ok-push.ensures.items) all,
    )

pub returns-clause-words : goal.returns-clause-words
returns-clause-words c = recursion_from_All HasWords c.each.list.items c.each.invariant.1
