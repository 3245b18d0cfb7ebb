use Rattle.std.proofs.Common.{◌≡◌, ◌+◌, ◌≤◌, ◌++◌, [], List, length, take, ap, subst, sym, ◌∙◌, arith}
use Rattle.std.proofs.lemmas.Option.{same_Some}
use Rattle.lucy_place.specs.declared.placed.PlacedNode.{PlacedNode}
use Rattle.lucy_place.proofs.NodeLaws.{site_stands}
use Rattle.lucy_types.specs.Rules.{IsRule}
use Rattle.lucy_types.specs.Gathered.{HaveArities, own_rules}
use Rattle.lucy_types.specs.Nodes.{StandFor, tables_of}
use Rattle.lucy_types.proofs.RuleLaws.{GatheredUpto, proper_arities, gathered_none, gathered_all, gathered_call, site_within, read_facts}
use Rattle.lucy_types.proofs.rules.node_rules.Goals as goal

pub put_own-requires-clause-arities : goal.put_own-requires-clause-arities
put_own-requires-clause-arities c =
    subst HaveArities (sym c.list.ensures) (proper_arities (take c.args.node c.args.placed.now.nodes) c.node-found.result.now c.node-found.ensures.proper)

pub each-init : goal.each-init
each-init c = λ n e.
    let above : List PlacedNode = take c.args.node c.args.placed.now.nodes in
    subst (λ m. GatheredUpto above (tables_of c.args.signatures.now) m 0 c.put_own.new.rules.items) (same_Some c.node-found.result.now n (sym c.node-found.ensures.is ∙ e))
    (gathered_none above (tables_of c.args.signatures.now) c.node-found.result.now c.put_own.new.rules.items
    (c.in_ok-put_own.ensures ∙ ap (λ r. r ++ own_rules 1 c.list.result.now) c.new-rules.ensures.items ∙ ap (λ ps. [] ++ own_rules 1 ps) c.list.ensures))

pub bounds-signatures-site : goal.bounds-signatures-site
bounds-signatures-site c =
    site_within (take c.args.node c.args.placed.now.nodes) c.node-found.result.now c.args.signatures.now c.each.site-index c.site-item.result c.node-found.ensures.proper c.requires.signatures
    (site_stands c.node-found.result.now c.list-sites.result.now c.each.site-index c.site-item.result c.list-sites.ensures c.each-test.true c.site-item.is)

pub put_call-requires-clause-heads : goal.put_call-requires-clause-heads
put_call-requires-clause-heads c =
    let facts = read_facts (take c.args.node c.args.placed.now.nodes) c.node-found.result.now c.list-sites.result.now c.args.signatures.now c.each.site-index c.site-item.result c.index-signatures-site.result c.node-found.ensures.proper c.requires.signatures c.list-sites.ensures c.each-test.true c.site-item.is c.index-signatures-site.is in
    facts.signature.heads

pub put_call-requires-clause-args : goal.put_call-requires-clause-args
put_call-requires-clause-args c =
    let facts = read_facts (take c.args.node c.args.placed.now.nodes) c.node-found.result.now c.list-sites.result.now c.args.signatures.now c.each.site-index c.site-item.result c.index-signatures-site.result c.node-found.ensures.proper c.requires.signatures c.list-sites.ensures c.each-test.true c.site-item.is c.index-signatures-site.is in
    let args = ap length c.list-in-each.ensures in
    let ports = facts.results in
    omega arith

pub put_call-requires-clause-few : goal.put_call-requires-clause-few
put_call-requires-clause-few c =
    let facts = read_facts (take c.args.node c.args.placed.now.nodes) c.node-found.result.now c.list-sites.result.now c.args.signatures.now c.each.site-index c.site-item.result c.index-signatures-site.result c.node-found.ensures.proper c.requires.signatures c.list-sites.ensures c.each-test.true c.site-item.is c.index-signatures-site.is in
    let args = ap length c.list-in-each.ensures in
    let ports = facts.results in
    let few = facts.few in
    let places = c.node-found.ensures.proper.few in
    omega arith

pub each-preserved : goal.each-preserved
each-preserved c = λ n e.
    let above : List PlacedNode = take c.args.node c.args.placed.now.nodes in
    let found : PlacedNode = c.node-found.result.now in
    let facts = read_facts (take c.args.node c.args.placed.now.nodes) c.node-found.result.now c.list-sites.result.now c.args.signatures.now c.each.site-index c.site-item.result c.index-signatures-site.result c.node-found.ensures.proper c.requires.signatures c.list-sites.ensures c.each-test.true c.site-item.is c.index-signatures-site.is in
    subst (λ m. GatheredUpto above (tables_of c.args.signatures.now) m (c.each.site-index + 1) c.put_call.new.rules.items) (same_Some found n (sym c.node-found.ensures.is ∙ e))
    (gathered_call above (tables_of c.args.signatures.now) found c.each.site-index c.each.rules.items c.put_call.new.rules.items c.site-item.result c.list-in-each.result.now c.index-signatures-site.result
    facts (c.each.invariant found c.node-found.ensures.is)
    (site_stands found c.list-sites.result.now c.each.site-index c.site-item.result c.list-sites.ensures c.each-test.true c.site-item.is) c.list-in-each.ensures c.in_ok-put_call.ensures)

pub returns : goal.returns
returns c = λ n e.
    let above : List PlacedNode = take c.args.node c.args.placed.now.nodes in
    let same : c.node-found.result.now ≡ n = same_Some c.node-found.result.now n (sym c.node-found.ensures.is ∙ e) in
    subst (λ m. StandFor (IsRule above (tables_of c.args.signatures.now) m) c.each.rules.items) same
    (gathered_all above (tables_of c.args.signatures.now) c.node-found.result.now c.each.site-index c.each.rules.items
    (subst (λ cs. length cs ≤ c.each.site-index) c.list-sites.ensures c.each-test.false) (c.each.invariant c.node-found.result.now c.node-found.ensures.is))
