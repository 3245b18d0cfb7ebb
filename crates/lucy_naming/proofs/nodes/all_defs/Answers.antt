use Rattle.std.proofs.Common.{◌≡◌, ◌+◌, ◌∷◌, ◌++◌, List, length, map, drop, ap, sym, ◌∙◌, subst, arith}
use Rattle.std.proofs.lemmas.List.{append-nil, drop_all}
use Rattle.lucy_word.proofs.Lists.{drop_next}
use Rattle.lucy_tree.specs.View.{DefTree, def_tree}
use Rattle.lucy_naming.specs.Streams.{def_names}
use Rattle.lucy_naming.specs.Places.{Known}
use Rattle.lucy_naming.specs.Nodes.{past_def, past_defs, defined, rights, def_sites}
use Rattle.lucy_naming.specs.Drafts.{next_of, IsSmall}
use Rattle.lucy_naming.specs.Views.{known_of}
use Rattle.lucy_naming.proofs.NodeLaws.{DefsDrawn, defs_start, defs_step}
use Rattle.lucy_naming.proofs.RoomLaws.{small_before_defs, later_names, left_names}
use Rattle.lucy_naming.proofs.ShapeLaws.{def_shaped_at}
use Rattle.lucy_naming.proofs.nodes.all_defs.Goals as goal

pub def_places-requires-clause-lefts : goal.def_places-requires-clause-lefts
def_places-requires-clause-lefts c =
    let e = drop_next c.args.defs.now c.each.def-index c.def-item.result (omega arith) c.def-item.is in
    let n = later_names c.args.defs.now c.each.def-index in
    let m = left_names c.def-item.result (drop (c.each.def-index + 1) c.args.defs.now) in
    let l : length (def_names (map def_tree (drop c.each.def-index c.args.defs.now))) ≡ length (def_names (map def_tree (c.def-item.result ∷ drop (c.each.def-index + 1) c.args.defs.now))) =
    ap (λ ds. length (def_names (map def_tree ds))) e in
    omega (arith, n, m, l, c.requires.lefts)

pub def_places-requires-clause-room : goal.def_places-requires-clause-room
def_places-requires-clause-room c =
    let k : Known = known_of c.args.names.now in
    let d : DefTree = def_tree c.def-item.result in
    let rest : List DefTree = map def_tree (drop (c.each.def-index + 1) c.args.defs.now) in
    let e : map def_tree (drop c.each.def-index c.args.defs.now) ≡ d ∷ rest = ap (map def_tree) (drop_next c.args.defs.now c.each.def-index c.def-item.result (omega arith) c.def-item.is) in
    small_before_defs (past_def (next_of k c.each.draft) d) rest (subst IsSmall (sym c.each.invariant.next ∙ ap (past_defs (next_of k c.each.draft)) e) c.requires.room)

pub def_places-requires-clause-shaped : goal.def_places-requires-clause-shaped
def_places-requires-clause-shaped c = (def_shaped_at c.args.defs.now c.each.def-index c.def-item.result (omega arith) c.def-item.is c.requires.shaped).right

pub each-init : goal.each-init
each-init c = defs_start (known_of c.args.names.now) c.args.named.now.items c.args.draft.now (map def_tree c.args.defs.now)

pub each-preserved : goal.each-preserved
each-preserved c =
    let k : Known = known_of c.args.names.now in
    let d : DefTree = def_tree c.def-item.result in
    let rest : List DefTree = map def_tree (drop (c.each.def-index + 1) c.args.defs.now) in
    let all : List DefTree = map def_tree c.args.defs.now in
    let e : map def_tree (drop c.each.def-index c.args.defs.now) ≡ d ∷ rest = ap (map def_tree) (drop_next c.args.defs.now c.each.def-index c.def-item.result (omega arith) c.def-item.is) in
    let before = subst (λ ds. DefsDrawn k c.each.named.items c.each.draft ds c.args.named.now.items c.args.draft.now all) e c.each.invariant in
    defs_step k c.each.named.items c.def_places.new.named.items c.each.draft c.def_places.new.draft d rest c.args.named.now.items c.args.draft.now all before
    c.in_ok-def_places.ensures.draws c.in_ok-def_places.ensures.named

pub returns-clause-named : goal.returns-clause-named
returns-clause-named c =
    let l = c.each in
    let k : Known = known_of c.args.names.now in
    sym (append-nil l.named.items) ∙ ap (λ ds. l.named.items ++ defined k (next_of k l.draft) (map def_tree ds)) (sym (drop_all l.def-index c.args.defs.now c.each-test.false)) ∙ l.invariant.named

pub returns-clause-places : goal.returns-clause-places
returns-clause-places c =
    let l = c.each in
    let k : Known = known_of c.args.names.now in
    sym (append-nil l.draft.places.items) ∙ ap (λ ds. l.draft.places.items ++ rights k (next_of k l.draft) (map def_tree ds)) (sym (drop_all l.def-index c.args.defs.now c.each-test.false)) ∙ l.invariant.places

pub returns-clause-calls : goal.returns-clause-calls
returns-clause-calls c =
    let l = c.each in
    let k : Known = known_of c.args.names.now in
    sym (append-nil l.draft.calls.items) ∙ ap (λ ds. l.draft.calls.items ++ def_sites k (next_of k l.draft) (map def_tree ds)) (sym (drop_all l.def-index c.args.defs.now c.each-test.false)) ∙ l.invariant.calls
