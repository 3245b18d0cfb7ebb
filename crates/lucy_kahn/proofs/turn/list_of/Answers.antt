use Rattle.std.proofs.Common.{length, sym, ◌∙◌, subst, arith}
use Rattle.std.specs.Result.{IfOk, IfErr}
use Rattle.lucy_host.specs.Host.{lent}
use Rattle.lucy_host.specs.Operators.{kinds_of}
use Rattle.lucy_host.proofs.Elements.{get_there}
use Rattle.lucy_kahn.specs.Spots.{at}
use Rattle.lucy_kahn.specs.Outcomes.{IsWholeList, Overflows}
use Rattle.lucy_kahn.proofs.TurnLaws.{kahn_next, stands_at, lists_from, count_of_iterate, count_of_lists, short_at, node_of, own_law, operands_there, applied_of, proper_kind}
use Rattle.lucy_kahn.proofs.turn.list_of.Goals as goal

pub lists_at-own-requires : goal.lists_at-own-requires
lists_at-own-requires g c =
    let it = c.args.before.now in
    omega (arith, c.requires.there, count_of_iterate (kinds_of (lent c.args.host.now)) it.inputs.now it.placed.now.nodes it.instances.now.list.items it.instances.now.inner.items it.number it.lists.now c.requires.before.0 c.requires.before.1)

pub own_list-requires-clause-short : goal.own_list-requires-clause-short
own_list-requires-clause-short g c = λ κs h.
    let it = c.args.before.now in
    short_at (kinds_of (lent c.args.host.now)) it.inputs.now it.placed.now.nodes it.instances.now.list.items it.instances.now.inner.items it.number it.lists.now c.requires.before.0 c.requires.before.1 c.args.instance c.lists_at-own.result.now c.lists_at-own.ensures

pub own_list-requires-clause-there : goal.own_list-requires-clause-there
own_list-requires-clause-there g c = λ κs h.
    let it = c.args.before.now in
    let nodes = it.placed.now.nodes in
    let list = it.instances.now.list.items in
    let inner = it.instances.now.inner.items in
    let kinds = kinds_of (lent c.args.host.now) in
    let paths = c.requires.before.0 in
    let b = c.requires.before.1 in
    let x = get_there list c.args.instance c.requires.there in
    let nd = get_there nodes x.0.node (b.instances.each c.args.instance x.0 x.1).within in
    let s = c.requires.stands x.0 nd.0 x.1 nd.1 in
    let node = node_of kinds it.inputs.now nodes list inner it.number it.lists.now paths b c.args.instance x.0 nd.0 x.1 nd.1 in
    let lists = lists_from kinds it.inputs.now nodes list inner it.number it.lists.now paths b c.args.instance c.lists_at-own.result.now c.requires.there c.lists_at-own.ensures in
    operands_there kinds it.inputs.now nodes list inner it.number it.lists.now paths b nd.0 c.lists_at-own.result.now c.args.place c.args.kind.now
    (count_of_lists kinds it.inputs.now nodes list inner it.number it.lists.now paths b c.args.instance nd.0 c.lists_at-own.result.now node lists)
    (proper_kind kinds it.inputs.now nodes list inner it.number it.lists.now paths b x.0.node nd.0 c.args.place c.args.kind.now nd.1 s)

pub own_list-requires-clause-applied : goal.own_list-requires-clause-applied
own_list-requires-clause-applied g c = λ κs h.
    let it = c.args.before.now in
    let nodes = it.placed.now.nodes in
    let list = it.instances.now.list.items in
    let inner = it.instances.now.inner.items in
    let kinds = kinds_of (lent c.args.host.now) in
    let paths = c.requires.before.0 in
    let b = c.requires.before.1 in
    let x = get_there list c.args.instance c.requires.there in
    let nd = get_there nodes x.0.node (b.instances.each c.args.instance x.0 x.1).within in
    let s = c.requires.stands x.0 nd.0 x.1 nd.1 in
    applied_of (length (lent c.args.host.now)) x.0.node nodes nd.0 c.args.place c.args.kind.now c.requires.known nd.1 s
    (proper_kind kinds it.inputs.now nodes list inner it.number it.lists.now paths b x.0.node nd.0 c.args.place c.args.kind.now nd.1 s)

pub returns-in_default-clause-ok : goal.returns-in_default-clause-ok
returns-in_default-clause-ok g c paths b =
    let it = c.args.before.now in
    let nodes = it.placed.now.nodes in
    let list = it.instances.now.list.items in
    let inner = it.instances.now.inner.items in
    let kinds = kinds_of (lent c.args.host.now) in
    let x = get_there list c.args.instance c.requires.there in
    let nd = get_there nodes x.0.node (b.instances.each c.args.instance x.0 x.1).within in
    let s = c.requires.stands x.0 nd.0 x.1 nd.1 in
    let node = node_of kinds it.inputs.now nodes list inner it.number it.lists.now paths b c.args.instance x.0 nd.0 x.1 nd.1 in
    let lists = lists_from kinds it.inputs.now nodes list inner it.number it.lists.now paths b c.args.instance c.lists_at-own.result.now c.requires.there c.lists_at-own.ensures in
    let k = proper_kind kinds it.inputs.now nodes list inner it.number it.lists.now paths b x.0.node nd.0 c.args.place c.args.kind.now nd.1 s in
    let e = own_law kinds it.inputs.now nodes list inner it.number it.lists.now paths b c.args.instance nd.0 c.lists_at-own.result.now c.args.place c.args.kind.now node lists k c.in_default.not-Param c.in_default.not-Result
    ∙ sym (kahn_next kinds it.inputs.now nodes it.number (at (paths c.args.instance) c.args.place) c.args.kind.now (stands_at nodes (paths c.args.instance) nd.0 c.args.place c.args.kind.now node s)) in
    subst (λ xs. IfOk c.own_list.result (λ made. IsWholeList xs made.items)) e c.own_list.ensures.ok

pub returns-in_default-clause-limit : goal.returns-in_default-clause-limit
returns-in_default-clause-limit g c paths b =
    let it = c.args.before.now in
    let nodes = it.placed.now.nodes in
    let list = it.instances.now.list.items in
    let inner = it.instances.now.inner.items in
    let kinds = kinds_of (lent c.args.host.now) in
    let x = get_there list c.args.instance c.requires.there in
    let nd = get_there nodes x.0.node (b.instances.each c.args.instance x.0 x.1).within in
    let s = c.requires.stands x.0 nd.0 x.1 nd.1 in
    let node = node_of kinds it.inputs.now nodes list inner it.number it.lists.now paths b c.args.instance x.0 nd.0 x.1 nd.1 in
    let lists = lists_from kinds it.inputs.now nodes list inner it.number it.lists.now paths b c.args.instance c.lists_at-own.result.now c.requires.there c.lists_at-own.ensures in
    let k = proper_kind kinds it.inputs.now nodes list inner it.number it.lists.now paths b x.0.node nd.0 c.args.place c.args.kind.now nd.1 s in
    let e = own_law kinds it.inputs.now nodes list inner it.number it.lists.now paths b c.args.instance nd.0 c.lists_at-own.result.now c.args.place c.args.kind.now node lists k c.in_default.not-Param c.in_default.not-Result
    ∙ sym (kahn_next kinds it.inputs.now nodes it.number (at (paths c.args.instance) c.args.place) c.args.kind.now (stands_at nodes (paths c.args.instance) nd.0 c.args.place c.args.kind.now node s)) in
    subst (λ xs. IfErr c.own_list.result (Overflows xs)) e c.own_list.ensures.limit
