use Rattle.std.proofs.Common.{◌≡◌, List, ap, sym, ◌∙◌, subst, take}
use Rattle.std.proofs.lemmas.Option.{same_Some}
use Rattle.lucy_word.specs.Bits.{Bits}
use Rattle.lucy_place.specs.declared.placed.PlacedNode.{PlacedNode}
use Rattle.lucy_need.specs.declared.need.Needs.{Needs}
use Rattle.lucy_inference.specs.Inference.{IsInference}
use Rattle.lucy_inference.specs.Refusals.{OrNoMemory, RefusesInference}
use Rattle.lucy_front.specs.Sizes.{buffer_sizes}
use Rattle.lucy_program.specs.Inferring.{node_needs, IsOpen}
use Rattle.lucy_front.specs.Clocking.{HasNoClocks}
use Rattle.lucy_front.proofs.ClockedLaws.{few_of, needs_are, needs_refused, refused_so}
use Rattle.lucy_front.proofs.InferredLaws.{inferred, inference_refused, open_unshut}
use Rattle.lucy_front.proofs.clocking.inferred_clock.Goals as goal

pub returns-in_ok-clock_of-in-Ok-clause-ok : goal.returns-in_ok-clock_of-in-Ok-clause-ok
returns-in_ok-clock_of-in-Ok-clause-ok c = λ n e.
    let o = c.args.options.now in
    let above = c.args.above.now in
    let clock = c.in_ok-clock_of-in-Ok.field-0 in
    let made = c.in_ok-needs.ensures.ok n e in
    let are = needs_are above n c.in_ok-needs.needs made.0 made.1 in
    let is_open : IsOpen o n = (c.requires.allowed, c.requires.unwritten n e) in
    let here : c.node.result.now ≡ n = same_Some c.node.result.now n (sym c.node.ensures.is ∙ e) in
    let own : clock.sizes ≡ buffer_sizes n.bounds c.in-Ok.found.sizes.items =
    c.in_ok-clock_of-in-Ok.ensures.sizes ∙ ap (λ (m : PlacedNode). buffer_sizes m.bounds c.deref.result.now) here ∙ ap (buffer_sizes n.bounds) c.deref.ensures.value in
    inferred o (take c.args.node c.args.placed.now.nodes) above n (c.requires.proper c.args.node n e) c.requires.signatures
    clock c.in-Ok.found.sizes.items own is_open (few_of above n (c.in_ok-needs.ensures.past n e))
    (subst (λ (ws : List Bits). IsInference (node_needs above n) o.scale o.lead ws c.in-Ok.found.sizes.items) (sym c.in_ok-clock_of-in-Ok.ensures.words)
    (subst (λ (x : Needs). IsInference x o.scale o.lead c.in-Ok.found.words.items c.in-Ok.found.sizes.items) are c.in-Ok.ensures.inferred))

pub returns-in-Err-clause-refused : goal.returns-in-Err-clause-refused
returns-in-Err-clause-refused c = λ n e.
    let o = c.args.options.now in
    let above = c.args.above.now in
    let made = c.in_ok-needs.ensures.ok n e in
    let are = needs_are above n c.in_ok-needs.needs made.0 made.1 in
    let is_open : IsOpen o n = (c.requires.allowed, c.requires.unwritten n e) in
    subst (λ f. HasNoClocks o c.args.placed.now c.args.node above n f) (sym c.inference_fault.ensures)
    (inference_refused o c.args.placed.now c.args.node above n c.in_ok-needs.needs c.in-Err.why are is_open (few_of above n (c.in_ok-needs.ensures.past n e))
    (subst (λ (x : Needs). OrNoMemory (RefusesInference x o.scale o.lead) c.in-Err.why) are c.in-Err.ensures.refused))

pub returns-in_err-needs-clause-refused : goal.returns-in_err-needs-clause-refused
returns-in_err-needs-clause-refused c = λ n e.
    let o = c.args.options.now in
    let is_open : IsOpen o n = (c.requires.allowed, c.requires.unwritten n e) in
    refused_so c.from_residual.result _ (HasNoClocks o c.args.placed.now c.args.node c.args.above.now n) c.from_residual.ensures.1
    (needs_refused o c.args.placed.now c.args.node c.args.above.now n _ (open_unshut o n is_open) (c.in_err-needs.ensures.refused n e))
