use Rattle.std.proofs.Common.{◌≡◌, ◌-◌, ◌<◌, ◌≤◌, [], Some, length, ap, sym, refl, ◌∙◌, subst}
use Rattle.std.specs.Prelude.{slice_get, slice_index_or}
use Rattle.std.proofs.lemmas.Option.{get_or_from_slice_get}
use Rattle.lucy_kahn.specs.Turns.{lists_in}
use Rattle.lucy_kahn.proofs.TurnLaws.{list_is}
use Rattle.lucy_kahn.proofs.ReadLaws.{in_main, in_call, argument_at, read_at, place_within, other_there}
use Rattle.lucy_kahn.proofs.iterate.param.Goals as goal

pub overflow_sub-place : goal.overflow_sub-place
overflow_sub-place c = (in_main c.args.iterate.now c.requires.before.0 c.requires.before.1 c.requires.before.2 c.args.instance c.args.place c.index.result.now c.requires.there c.index.ensures c.in-None.is c.requires.stands).0

pub list-requires : goal.list-requires
list-requires c = (in_main c.args.iterate.now c.requires.before.0 c.requires.before.1 c.requires.before.2 c.args.instance c.args.place c.index.result.now c.requires.there c.index.ensures c.in-None.is c.requires.stands).1

pub returns-in-None : goal.returns-in-None
returns-in-None c kinds paths b =
    sym (get_or_from_slice_get c.args.iterate.now.inputs.now (c.args.place - 1) c.list.result.now [] c.list.ensures)
    ∙ sym (in_main c.args.iterate.now kinds paths b c.args.instance c.args.place c.index.result.now c.requires.there c.index.ensures c.in-None.is c.requires.stands).2

pub node_of-outer-requires-clause-there : goal.node_of-outer-requires-clause-there
node_of-outer-requires-clause-there c = (in_call c.args.iterate.now c.requires.before.0 c.requires.before.1 c.requires.before.2 c.args.instance c.args.place c.index.result.now c.requires.there c.index.ensures c.in-Some.caller c.in-Some.is c.requires.stands).within

pub overflow_sub-site : goal.overflow_sub-site
overflow_sub-site c = (in_call c.args.iterate.now c.requires.before.0 c.requires.before.1 c.requires.before.2 c.args.instance c.args.place c.index.result.now c.requires.there c.index.ensures c.in-Some.caller c.in-Some.is c.requires.stands).low

pub bounds-list-caller : goal.bounds-list-caller
bounds-list-caller c =
    subst (λ xs. c.in-Some.caller.call - 1 < length xs) (sym c.list-in-Some.ensures)
    ((in_call c.args.iterate.now c.requires.before.0 c.requires.before.1 c.requires.before.2 c.args.instance c.args.place c.index.result.now c.requires.there c.index.ensures c.in-Some.caller c.in-Some.is c.requires.stands).call c.node_of-outer.result.now (c.node_of-outer.ensures c.requires.before.1 c.requires.before.2.instances))

pub overflow_sub-argument : goal.overflow_sub-argument
overflow_sub-argument c =
    (argument_at c.args.iterate.now c.requires.before.0 c.requires.before.1 c.requires.before.2 c.args.instance c.args.place c.index.result.now c.requires.there c.index.ensures c.in-Some.caller c.node_of-outer.result.now c.list-in-Some.result.now c.index-list-caller.result c.in-Some.is c.requires.stands (c.node_of-outer.ensures c.requires.before.1 c.requires.before.2.instances) c.list-in-Some.ensures c.index-list-caller.is).low

pub bounds-list-place : goal.bounds-list-place
bounds-list-place c =
    subst (λ xs. c.args.place - 1 < length xs) (sym c.list-in-Some-2.ensures)
    (argument_at c.args.iterate.now c.requires.before.0 c.requires.before.1 c.requires.before.2 c.args.instance c.args.place c.index.result.now c.requires.there c.index.ensures c.in-Some.caller c.node_of-outer.result.now c.list-in-Some.result.now c.index-list-caller.result c.in-Some.is c.requires.stands (c.node_of-outer.ensures c.requires.before.1 c.requires.before.2.instances) c.list-in-Some.ensures c.index-list-caller.is).within

pub lists_at-requires : goal.lists_at-requires
lists_at-requires c = other_there c.args.iterate.now c.requires.before.0 c.requires.before.1 c.requires.before.2 c.args.instance c.args.place c.index.result.now c.requires.there c.index.ensures c.in-Some.caller.instance (in_call c.args.iterate.now c.requires.before.0 c.requires.before.1 c.requires.before.2 c.args.instance c.args.place c.index.result.now c.requires.there c.index.ensures c.in-Some.caller c.in-Some.is c.requires.stands).within

pub at-requires-clause-low : goal.at-requires-clause-low
at-requires-clause-low c =
    subst (λ xs. 1 ≤ slice_index_or xs (c.args.place - 1) 0) (sym c.list-in-Some-2.ensures)
    (argument_at c.args.iterate.now c.requires.before.0 c.requires.before.1 c.requires.before.2 c.args.instance c.args.place c.index.result.now c.requires.there c.index.ensures c.in-Some.caller c.node_of-outer.result.now c.list-in-Some.result.now c.index-list-caller.result c.in-Some.is c.requires.stands (c.node_of-outer.ensures c.requires.before.1 c.requires.before.2.instances) c.list-in-Some.ensures c.index-list-caller.is).place_there.0

pub at-requires-clause-high : goal.at-requires-clause-high
at-requires-clause-high c =
    let node = c.node_of-outer.ensures c.requires.before.1 c.requires.before.2.instances in
    let arg = argument_at c.args.iterate.now c.requires.before.0 c.requires.before.1 c.requires.before.2 c.args.instance c.args.place c.index.result.now c.requires.there c.index.ensures c.in-Some.caller c.node_of-outer.result.now c.list-in-Some.result.now c.index-list-caller.result c.in-Some.is c.requires.stands node c.list-in-Some.ensures c.index-list-caller.is in
    let l = (in_call c.args.iterate.now c.requires.before.0 c.requires.before.1 c.requires.before.2 c.args.instance c.args.place c.index.result.now c.requires.there c.index.ensures c.in-Some.caller c.in-Some.is c.requires.stands).within in
    subst (λ xs. slice_index_or xs (c.args.place - 1) 0 ≤ length c.lists_at.result.now) (sym c.list-in-Some-2.ensures)
    (place_within c.args.iterate.now c.requires.before.0 c.requires.before.1 c.requires.before.2 c.args.instance c.args.place c.index.result.now c.requires.there c.index.ensures c.in-Some.caller.instance (slice_index_or c.index-list-caller.result.args (c.args.place - 1) 0) c.node_of-outer.result.now c.lists_at.result.now l node c.lists_at.ensures arg.place_there)

pub returns-in-Some : goal.returns-in-Some
returns-in-Some c kinds paths b =
    let it = c.args.iterate.now in
    let node = c.node_of-outer.ensures paths b.instances in
    let arg = argument_at it kinds paths b c.args.instance c.args.place c.index.result.now c.requires.there c.index.ensures c.in-Some.caller c.node_of-outer.result.now c.list-in-Some.result.now c.index-list-caller.result c.in-Some.is c.requires.stands node c.list-in-Some.ensures c.index-list-caller.is in
    let l = (in_call it kinds paths b c.args.instance c.args.place c.index.result.now c.requires.there c.index.ensures c.in-Some.caller c.in-Some.is c.requires.stands).within in
    let p = slice_index_or c.index-list-caller.result.args (c.args.place - 1) 0 in
    let same : slice_index_or c.list-in-Some-2.result.now (c.args.place - 1) 0 ≡ slice_index_or c.index-list-caller.result.args (c.args.place - 1) 0 = ap (λ xs. slice_index_or xs (c.args.place - 1) 0) c.list-in-Some-2.ensures in
    read_at it kinds paths b c.args.instance c.args.place c.index.result.now c.requires.there c.index.ensures c.in-Some.caller.instance p c.node_of-outer.result.now c.lists_at.result.now c.at.result.now l node c.lists_at.ensures arg.place_there
    (subst (λ q. slice_get c.lists_at.result.now (q - 1) ≡ Some c.at.result.now) same c.at.ensures)
    ∙ list_is kinds it.inputs.now it.placed.now.nodes it.instances.now.list.items it.instances.now.inner.items it.number it.lists.now paths b c.in-Some.caller.instance c.node_of-outer.result.now (lists_in kinds it.inputs.now it.placed.now.nodes it.number (paths c.in-Some.caller.instance)) p node refl arg.place_there
    ∙ sym arg.reads
