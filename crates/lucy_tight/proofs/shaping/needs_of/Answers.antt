use Rattle.std.proofs.Common.{length, take, ap, sym, ◌∙◌, subst, arith}
use Rattle.std.specs.Prelude.{slice_get}
use Rattle.lucy_host.proofs.Elements.{get_there}
use Rattle.lucy_clock.specs.Clocks.{AreSignatures}
use Rattle.lucy_clock.specs.NodeClocks.{signatures}
use Rattle.lucy_program.specs.Inferring.{node_needs}
use Rattle.lucy_tight.proofs.PrintedLaws.{nodes_proper, clocks_count, words_count, needs_fine, needs_are}
use Rattle.lucy_tight.proofs.shaping.needs_of.Goals as goal

pub signatures-requires-clause-proper : goal.signatures-requires-clause-proper
signatures-requires-clause-proper c = let a = c.requires.accepted in nodes_proper a.0 a.1 a.2 c.args.accepted.now a.3

pub signatures-requires-clause-clocks : goal.signatures-requires-clause-clocks
signatures-requires-clause-clocks c =
    let a = c.requires.accepted in
    let count = clocks_count a.0 a.1 a.2 c.args.accepted.now a.3 in
    let list = ap length c.deref.ensures.value in
    let node = c.requires.node in
    omega arith

pub signatures-requires-clause-words : goal.signatures-requires-clause-words
signatures-requires-clause-words c = λ i n d at of.
    let a = c.requires.accepted in
    words_count a.0 a.1 a.2 c.args.accepted.now a.3 i n d at (ap (λ l. slice_get l i) (sym c.deref.ensures.value) ∙ of)

pub needs-requires-clause-signatures : goal.needs-requires-clause-signatures
needs-requires-clause-signatures c = subst (AreSignatures (take c.args.node c.args.accepted.now.placed.nodes)) (sym c.deref-2.ensures.value) c.in_ok-above.ensures.theirs

pub returns-in-Ok-clause-needs : goal.returns-in-Ok-clause-needs
returns-in-Ok-clause-needs c = λ n at.
    let made = c.in-Ok.ensures.ok n at in
    let above = c.deref-2.ensures.value ∙ c.in_ok-above.ensures.list ∙ ap (λ l. signatures (take c.args.node c.args.accepted.now.placed.nodes) (take c.args.node l)) c.deref.ensures.value in
    needs_are c.in-Ok.needs c.deref-2.result.now n made.0 made.1 ∙ ap (λ s. node_needs s n) above

pub unreachable-requires : goal.unreachable-requires
unreachable-requires c =
    let a = c.requires.accepted in
    let n = get_there c.args.accepted.now.placed.nodes c.args.node c.requires.node in
    let above = c.deref-2.ensures.value ∙ c.in_ok-above.ensures.list ∙ ap (λ l. signatures (take c.args.node c.args.accepted.now.placed.nodes) (take c.args.node l)) c.deref.ensures.value in
    let e = needs_fine a.0 a.1 a.2 c.args.accepted.now a.3 c.args.node n.0 n.1 c.deref-2.result.now above c.in-Err-Limit.field-0 (c.in-Err-Limit.ensures.refused n.0 n.1) in
    absurd (cc e)
