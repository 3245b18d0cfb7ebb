use Rattle.std.proofs.Common.{◌++◌, ◌∷◌, [], length, take, ap, sym, ◌∙◌, subst, arith}
use Rattle.lucy_clock.specs.Clocks.{AreSignatures}
use Rattle.lucy_clock.specs.NodeClocks.{signatures}
use Rattle.lucy_program.specs.Clocked.{IsClocked}
use Rattle.lucy_clock.proofs.CallerLaws.{places_within}
use Rattle.lucy_front.proofs.MoreClocks.{signatures_are, proper_take, clocked_push, signatures_push}
use Rattle.lucy_front.proofs.clocking.next_clock.Goals as goal

pub node_clock-requires-clause-signatures : goal.node_clock-requires-clause-signatures
node_clock-requires-clause-signatures c =
    subst (AreSignatures (take c.args.node c.args.placed.now.nodes)) (sym (c.deref.ensures.value ∙ c.requires.signatures))
    (signatures_are (take c.args.node c.args.placed.now.nodes) c.args.clocks.now.items (proper_take c.args.placed.now.nodes c.args.node c.requires.proper) c.requires.clocked)

pub ports-requires-clause-results : goal.ports-requires-clause-results
ports-requires-clause-results c =
    let clocked = c.in_ok-clock.ensures.ok c.node.result.now c.node.ensures.is in
    let count = clocked.count in
    places_within c.node.result.now c.node.result.now.results (length c.in_ok-clock.clock.words) (omega arith) c.node.ensures.proper.results

pub returns-clause-clocked : goal.returns-clause-clocked
returns-clause-clocked c =
    let n = c.node.result.now in
    let own = subst (λ s. IsClocked c.args.options.now s n c.in_ok-clock.clock) (c.deref.ensures.value ∙ c.requires.signatures) (c.in_ok-clock.ensures.ok n c.node.ensures.is) in
    clocked_push c.args.placed.now.nodes c.args.node c.args.clocks.now.items c.push-2.new.list.items n c.in_ok-clock.clock c.node.ensures.is c.requires.clocked c.in_ok-push-2.ensures own

pub returns-clause-signatures : goal.returns-clause-signatures
returns-clause-signatures c =
    let n = c.node.result.now in
    c.in_ok-push.ensures ∙ ap (λ l. l ++ c.in_ok-ports.ports ∷ []) c.requires.signatures
    ∙ ap (λ p. signatures (take c.args.node c.args.placed.now.nodes) c.args.clocks.now.items ++ p ∷ []) c.in_ok-ports.ensures
    ∙ sym (signatures_push c.args.placed.now.nodes c.args.node c.args.clocks.now.items c.push-2.new.list.items n c.in_ok-clock.clock c.node.ensures.is c.requires.clocked c.in_ok-push-2.ensures)
