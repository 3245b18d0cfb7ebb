use Rattle.std.proofs.Common.{length, take, ap, sym, ◌∙◌, subst, arith}
use Rattle.std.specs.Prelude.{slice_get}
use Rattle.lucy_clock.specs.Clocks.{AreSignatures}
use Rattle.lucy_explain.proofs.shaping.needs_of.Goals as goal

pub signatures-requires-clause-proper : goal.signatures-requires-clause-proper
signatures-requires-clause-proper c = let a = c.requires.accepted in c.accepted_programs_are_clocked.ensures.proper a.0 a.1 a.2 c.args.accepted.now a.3

pub signatures-requires-clause-clocks : goal.signatures-requires-clause-clocks
signatures-requires-clause-clocks c =
    let a = c.requires.accepted in
    let count = (c.accepted_programs_are_clocked.ensures.clocked a.0 a.1 a.2 c.args.accepted.now a.3).count in
    let list = ap length c.deref.ensures.value in
    let node = c.requires.node in
    omega arith

pub signatures-requires-clause-words : goal.signatures-requires-clause-words
signatures-requires-clause-words c = λ i n d at of.
    let a = c.requires.accepted in
    ((c.accepted_programs_are_clocked.ensures.clocked a.0 a.1 a.2 c.args.accepted.now a.3).each i n d at (ap (λ l. slice_get l i) (sym c.deref.ensures.value) ∙ of)).count

pub needs-requires-clause-signatures : goal.needs-requires-clause-signatures
needs-requires-clause-signatures c = subst (AreSignatures (take c.args.node c.args.accepted.now.placed.nodes)) (sym c.deref-2.ensures.value) c.in_ok-above.ensures.theirs
