use Rattle.std.proofs.Common.{◌≡◌, length, take, ap, sym, ◌∙◌, subst}
use Rattle.lucy_word.specs.Always.{always}
use Rattle.lucy_word.specs.Shortest.{Same}
use Rattle.std.proofs.lemmas.Option.{same_Some}
use Rattle.lucy_host.proofs.Elements.{get_there}
use Rattle.lucy_place.specs.declared.placed.PlacedNode.{PlacedNode}
use Rattle.lucy_need.specs.Meeting.{assigned, MeetsAll}
use Rattle.lucy_check.specs.Passing.{OrNoMemory, PassesAll, AllWithinLimits, IsFirstRefusal}
use Rattle.lucy_program.specs.Clocked.{AreNodeWords}
use Rattle.lucy_front.specs.Sizes.{buffer_sizes}
use Rattle.lucy_front.specs.Clocking.{HasNoClocks}
use Rattle.lucy_front.proofs.ClockedLaws.{few_of, words_of, clocked, check_refused, needs_are, needs_refused, words_refused, unshut, refused_so}
use Rattle.lucy_front.proofs.clocking.handed_clock.Goals as goal

pub check-requires-clause-words : goal.check-requires-clause-words
check-requires-clause-words c =
    let n = get_there c.args.placed.now.nodes c.args.node c.requires.node in
    ap length c.deref.ensures.value ∙ (c.in_ok-words.ensures.ok n.0 n.1).count ∙ sym (c.in_ok-needs.ensures.ok n.0 n.1).0

pub check-requires-clause-base : goal.check-requires-clause-base
check-requires-clause-base c =
    let n = get_there c.args.placed.now.nodes c.args.node c.requires.node in
    subst (λ ws. Same (assigned ws 0) always) (sym c.deref.ensures.value) (c.in_ok-words.ensures.ok n.0 n.1).handed.places.base

pub returns-in_ok-clock_of-in-Ok-clause-ok : goal.returns-in_ok-clock_of-in-Ok-clause-ok
returns-in_ok-clock_of-in-Ok-clause-ok c = λ o n e.
    let clock = c.in_ok-clock_of-in-Ok.field-0 in
    let made = c.in_ok-words.ensures.ok n e in
    let fits = c.in_ok-words.ensures.fits n e in
    let list = (c.in_ok-needs.ensures.ok n e).1 in
    let few = few_of c.args.above.now n (c.in_ok-needs.ensures.past n e) in
    let here : c.node.result.now ≡ n = same_Some c.node.result.now n (sym c.node.ensures.is ∙ e) in
    let own : clock.sizes ≡ buffer_sizes n.bounds c.in-Ok.sizes.items =
    c.in_ok-clock_of-in-Ok.ensures.sizes ∙ ap (λ (m : PlacedNode). buffer_sizes m.bounds c.deref-in-Ok.result.now) here ∙ ap (buffer_sizes n.bounds) c.deref-in-Ok.ensures.value in
    let same : c.deref.result.now ≡ clock.words = c.deref.ensures.value ∙ sym c.in_ok-clock_of-in-Ok.ensures.words in
    let words = subst (AreNodeWords n) (sym c.in_ok-clock_of-in-Ok.ensures.words) (words_of n c.in_ok-words.words.items made fits) in
    let met = subst (MeetsAll (assigned clock.words)) list (subst (λ ws. MeetsAll (assigned ws) c.in_ok-needs.needs.list) same c.in-Ok.ensures.met) in
    let within = subst (AllWithinLimits (assigned clock.words)) list (subst (λ ws. AllWithinLimits (assigned ws) c.in_ok-needs.needs.list) same c.in-Ok.ensures.within) in
    let passes = subst (λ l. PassesAll (assigned clock.words) l c.in-Ok.sizes.items) list
    (subst (λ ws. PassesAll (assigned ws) c.in_ok-needs.needs.list c.in-Ok.sizes.items) same c.in-Ok.ensures.sizes) in
    clocked o (take c.args.node c.args.placed.now.nodes) c.args.above.now n (c.requires.proper c.args.node n e) c.requires.signatures
    clock c.in-Ok.sizes.items own (c.requires.written n e) few words met within passes

pub returns-in-Err-clause-refused : goal.returns-in-Err-clause-refused
returns-in-Err-clause-refused c = λ o n e.
    let made = c.in_ok-words.ensures.ok n e in
    let fits = c.in_ok-words.ensures.fits n e in
    let needs = c.in_ok-needs.ensures.ok n e in
    let few = few_of c.args.above.now n (c.in_ok-needs.ensures.past n e) in
    let words = subst (AreNodeWords n) (sym c.deref.ensures.value) (words_of n c.in_ok-words.words.items made fits) in
    let refused = subst (λ l. OrNoMemory (IsFirstRefusal (assigned c.deref.result.now) l) c.in-Err.fault) needs.1 c.in-Err.ensures.refused in
    subst (λ f. HasNoClocks o c.args.placed.now c.args.node c.args.above.now n f) (sym c.check_fault.ensures)
    (check_refused o c.args.placed.now c.args.node c.args.above.now n c.deref.result.now c.in_ok-needs.needs (c.requires.written n e) (needs_are c.args.above.now n c.in_ok-needs.needs needs.0 needs.1) few words c.in-Err.fault refused)

pub returns-in_err-needs-clause-refused : goal.returns-in_err-needs-clause-refused
returns-in_err-needs-clause-refused c = λ o n e.
    refused_so c.from_residual.result _ (HasNoClocks o c.args.placed.now c.args.node c.args.above.now n) c.from_residual.ensures.1
    (needs_refused o c.args.placed.now c.args.node c.args.above.now n _ (unshut o n (c.requires.written n e)) (c.in_err-needs.ensures.refused n e))

pub returns-in_err-words-clause-refused : goal.returns-in_err-words-clause-refused
returns-in_err-words-clause-refused c = λ o n e.
    refused_so c.from_residual-in_err-words.result _ (HasNoClocks o c.args.placed.now c.args.node c.args.above.now n) c.from_residual-in_err-words.ensures.1
    (words_refused o c.args.placed.now c.args.node c.args.above.now n _ (c.requires.written n e) (few_of c.args.above.now n (c.in_ok-needs.ensures.past n e)) (c.in_err-words.ensures.refused n e))
