use Rattle.std.proofs.Common.{◌<◌, length, map, sym, ap, ◌∙◌, subst, IfNone}
use Rattle.std.specs.Prelude.{slice_get}
use Rattle.std.specs.List.{AllByRecursion}
use Rattle.lucy_need.specs.Meeting.{assigned}
use Rattle.lucy_picture.specs.Turns.{shown_clocks, AreTooLong}
use Rattle.lucy_picture.proofs.ChartLaws.{drawn, of_both}
use Rattle.lucy_picture.proofs.TurnLaws.{shown_within}
use Rattle.lucy_picture.proofs.turn.turn_of.Goals as goal

pub common_turn-requires : goal.common_turn-requires
common_turn-requires c =
    let a = c.requires.accepted in
    let clock = ap (λ l. slice_get l c.args.node) (sym c.deref.ensures.value) ∙ c.clocks_at-clock.ensures in
    let d = drawn a.0 a.1 a.2 c.args.accepted.now a.3 c.args.node c.node.result.now c.clocks_at-clock.result.now c.node.ensures.is clock in
    let count = ap length c.list.ensures ∙ d.words in
    subst (λ cs. AllByRecursion (λ x. x < length c.list.result.now) cs) (sym (c.deref-2.ensures.value ∙ c.in_ok-clocks.ensures))
    (subst (λ m. AllByRecursion (λ x. x < m) (shown_clocks c.node.result.now)) (sym count) (shown_within _ c.node.result.now c.node.ensures.proper))

pub returns-clause-none : goal.returns-clause-none
returns-clause-none c = λ n d at of.
    let clock = ap (λ l. slice_get l c.args.node) (sym c.deref.ensures.value) ∙ c.clocks_at-clock.ensures in
    let clocks = c.deref-2.ensures.value ∙ c.in_ok-clocks.ensures in
    let r = c.common_turn.result in
    of_both c.args.accepted.now.placed.nodes c.args.accepted.now.clocks.items c.args.node c.node.result.now n c.clocks_at-clock.result.now d (λ m e. IfNone r (AreTooLong (map (assigned e.words) (shown_clocks m)))) c.node.ensures.is at clock of
    (subst (λ ws. IfNone r (AreTooLong (map (assigned ws) (shown_clocks c.node.result.now)))) c.list.ensures
    (subst (λ cs. IfNone r (AreTooLong (map (assigned c.list.result.now) cs))) clocks c.common_turn.ensures.none))
