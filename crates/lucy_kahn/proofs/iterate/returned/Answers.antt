use Rattle.std.proofs.Common.{◌≡◌, ◌+◌, ◌-◌, ◌<◌, ◌≤◌, Some, length, get_or, ap, sym, refl, ◌∙◌, subst, arith}
use Rattle.std.specs.Prelude.{slice_get, slice_index_or}
use Rattle.std.proofs.lemmas.Option.{slice_get_read, get_or_from_slice_get}
use Rattle.lucy_host.proofs.Elements.{get_there}
use Rattle.lucy_kahn.specs.Turns.{lists_in}
use Rattle.lucy_kahn.proofs.TurnLaws.{list_is}
use Rattle.lucy_kahn.proofs.ReadLaws.{results_at, read_at, place_within, other_there}
use Rattle.lucy_kahn.proofs.iterate.returned.Goals as goal

pub overflow_sub-called : goal.overflow_sub-called
overflow_sub-called c =
    let it = c.args.iterate.now in
    let list = it.instances.now.list.items in
    let inner = it.instances.now.inner.items in
    let x = get_there list c.args.instance c.requires.there in
    let is : x.0 ≡ get_or list c.args.instance x.0 = sym (get_or_from_slice_get list c.args.instance x.0 x.0 x.1) in
    let first : slice_get inner c.args.instance ≡ Some c.index.result.now = slice_get_read inner (length inner) c.args.instance c.index.result.now refl (omega (arith, c.requires.there, c.requires.before.2.all)) c.index.ensures in
    let h = results_at it c.requires.before.0 c.requires.before.1 c.requires.before.2 c.args.instance c.args.place x.0 c.requires.there is c.args.call c.args.number c.index.result.now first c.requires.stands in
    h.low

pub overflow_add-called : goal.overflow_add-called
overflow_add-called c =
    let it = c.args.iterate.now in
    let list = it.instances.now.list.items in
    let inner = it.instances.now.inner.items in
    let x = get_there list c.args.instance c.requires.there in
    let is : x.0 ≡ get_or list c.args.instance x.0 = sym (get_or_from_slice_get list c.args.instance x.0 x.0 x.1) in
    let first : slice_get inner c.args.instance ≡ Some c.index.result.now = slice_get_read inner (length inner) c.args.instance c.index.result.now refl (omega (arith, c.requires.there, c.requires.before.2.all)) c.index.ensures in
    let h = results_at it c.requires.before.0 c.requires.before.1 c.requires.before.2 c.args.instance c.args.place x.0 c.requires.there is c.args.call c.args.number c.index.result.now first c.requires.stands in
    let small = it.instances.now.list.small in
    let ok = it.instances.now.list.ok in
    omega (arith, h.within, ok.0, ok.1)

pub node_of-callee-requires-clause-there : goal.node_of-callee-requires-clause-there
node_of-callee-requires-clause-there c =
    let it = c.args.iterate.now in
    let list = it.instances.now.list.items in
    let inner = it.instances.now.inner.items in
    let x = get_there list c.args.instance c.requires.there in
    let is : x.0 ≡ get_or list c.args.instance x.0 = sym (get_or_from_slice_get list c.args.instance x.0 x.0 x.1) in
    let first : slice_get inner c.args.instance ≡ Some c.index.result.now = slice_get_read inner (length inner) c.args.instance c.index.result.now refl (omega (arith, c.requires.there, c.requires.before.2.all)) c.index.ensures in
    let h = results_at it c.requires.before.0 c.requires.before.1 c.requires.before.2 c.args.instance c.args.place x.0 c.requires.there is c.args.call c.args.number c.index.result.now first c.requires.stands in
    h.within

pub bounds-list-number : goal.bounds-list-number
bounds-list-number c =
    let it = c.args.iterate.now in
    let list = it.instances.now.list.items in
    let inner = it.instances.now.inner.items in
    let x = get_there list c.args.instance c.requires.there in
    let is : x.0 ≡ get_or list c.args.instance x.0 = sym (get_or_from_slice_get list c.args.instance x.0 x.0 x.1) in
    let first : slice_get inner c.args.instance ≡ Some c.index.result.now = slice_get_read inner (length inner) c.args.instance c.index.result.now refl (omega (arith, c.requires.there, c.requires.before.2.all)) c.index.ensures in
    let h = results_at it c.requires.before.0 c.requires.before.1 c.requires.before.2 c.args.instance c.args.place x.0 c.requires.there is c.args.call c.args.number c.index.result.now first c.requires.stands in
    subst (λ xs. c.args.number < length xs) (sym c.list.ensures) (h.returned c.node_of-callee.result.now (c.node_of-callee.ensures c.requires.before.1 c.requires.before.2.instances)).within

pub lists_at-requires : goal.lists_at-requires
lists_at-requires c =
    let it = c.args.iterate.now in
    let list = it.instances.now.list.items in
    let inner = it.instances.now.inner.items in
    let x = get_there list c.args.instance c.requires.there in
    let is : x.0 ≡ get_or list c.args.instance x.0 = sym (get_or_from_slice_get list c.args.instance x.0 x.0 x.1) in
    let first : slice_get inner c.args.instance ≡ Some c.index.result.now = slice_get_read inner (length inner) c.args.instance c.index.result.now refl (omega (arith, c.requires.there, c.requires.before.2.all)) c.index.ensures in
    let h = results_at it c.requires.before.0 c.requires.before.1 c.requires.before.2 c.args.instance c.args.place x.0 c.requires.there is c.args.call c.args.number c.index.result.now first c.requires.stands in
    other_there it c.requires.before.0 c.requires.before.1 c.requires.before.2 c.args.instance c.args.place x.0 c.requires.there is (c.index.result.now + (c.args.call - 1)) h.within

pub at-requires-clause-low : goal.at-requires-clause-low
at-requires-clause-low c =
    let it = c.args.iterate.now in
    let list = it.instances.now.list.items in
    let inner = it.instances.now.inner.items in
    let x = get_there list c.args.instance c.requires.there in
    let is : x.0 ≡ get_or list c.args.instance x.0 = sym (get_or_from_slice_get list c.args.instance x.0 x.0 x.1) in
    let first : slice_get inner c.args.instance ≡ Some c.index.result.now = slice_get_read inner (length inner) c.args.instance c.index.result.now refl (omega (arith, c.requires.there, c.requires.before.2.all)) c.index.ensures in
    let h = results_at it c.requires.before.0 c.requires.before.1 c.requires.before.2 c.args.instance c.args.place x.0 c.requires.there is c.args.call c.args.number c.index.result.now first c.requires.stands in
    subst (λ xs. 1 ≤ slice_index_or xs c.args.number 0) (sym c.list.ensures) (h.returned c.node_of-callee.result.now (c.node_of-callee.ensures c.requires.before.1 c.requires.before.2.instances)).place_there.0

pub at-requires-clause-high : goal.at-requires-clause-high
at-requires-clause-high c =
    let it = c.args.iterate.now in
    let list = it.instances.now.list.items in
    let inner = it.instances.now.inner.items in
    let x = get_there list c.args.instance c.requires.there in
    let is : x.0 ≡ get_or list c.args.instance x.0 = sym (get_or_from_slice_get list c.args.instance x.0 x.0 x.1) in
    let first : slice_get inner c.args.instance ≡ Some c.index.result.now = slice_get_read inner (length inner) c.args.instance c.index.result.now refl (omega (arith, c.requires.there, c.requires.before.2.all)) c.index.ensures in
    let h = results_at it c.requires.before.0 c.requires.before.1 c.requires.before.2 c.args.instance c.args.place x.0 c.requires.there is c.args.call c.args.number c.index.result.now first c.requires.stands in
    let node = c.node_of-callee.ensures c.requires.before.1 c.requires.before.2.instances in
    subst (λ xs. slice_index_or xs c.args.number 0 ≤ length c.lists_at.result.now) (sym c.list.ensures)
    (place_within it c.requires.before.0 c.requires.before.1 c.requires.before.2 c.args.instance c.args.place x.0 c.requires.there is (c.index.result.now + (c.args.call - 1)) (slice_index_or c.node_of-callee.result.now.results c.args.number 0) c.node_of-callee.result.now c.lists_at.result.now h.within node c.lists_at.ensures (h.returned c.node_of-callee.result.now node).place_there)

pub returns : goal.returns
returns c kinds paths b =
    let it = c.args.iterate.now in
    let list = it.instances.now.list.items in
    let inner = it.instances.now.inner.items in
    let x = get_there list c.args.instance c.requires.there in
    let is : x.0 ≡ get_or list c.args.instance x.0 = sym (get_or_from_slice_get list c.args.instance x.0 x.0 x.1) in
    let first : slice_get inner c.args.instance ≡ Some c.index.result.now = slice_get_read inner (length inner) c.args.instance c.index.result.now refl (omega (arith, c.requires.there, b.all)) c.index.ensures in
    let h = results_at it kinds paths b c.args.instance c.args.place x.0 c.requires.there is c.args.call c.args.number c.index.result.now first c.requires.stands in
    let other = c.index.result.now + (c.args.call - 1) in
    let node = c.node_of-callee.ensures paths b.instances in
    let back = h.returned c.node_of-callee.result.now node in
    let p = slice_index_or c.node_of-callee.result.now.results c.args.number 0 in
    let same : slice_index_or c.list.result.now c.args.number 0 ≡ slice_index_or c.node_of-callee.result.now.results c.args.number 0 = ap (λ xs. slice_index_or xs c.args.number 0) c.list.ensures in
    read_at it kinds paths b c.args.instance c.args.place x.0 c.requires.there is other p c.node_of-callee.result.now c.lists_at.result.now c.at.result.now h.within node c.lists_at.ensures back.place_there
    (subst (λ q. slice_get c.lists_at.result.now (q - 1) ≡ Some c.at.result.now) same c.at.ensures)
    ∙ list_is kinds it.inputs.now it.placed.now.nodes list inner it.number it.lists.now paths b other c.node_of-callee.result.now (lists_in kinds it.inputs.now it.placed.now.nodes it.number (paths other)) p node refl back.place_there
    ∙ sym back.reads
