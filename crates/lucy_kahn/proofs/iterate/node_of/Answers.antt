use Rattle.std.proofs.Common.{length, refl, ◌∙◌}
use Rattle.std.proofs.lemmas.Option.{slice_get_read}
use Rattle.lucy_kahn.proofs.iterate.node_of.Goals as goal

pub node-requires : goal.node-requires
node-requires c =
    let list = c.args.iterate.now.instances.now.list.items in
    (c.requires.known.1.each c.args.instance c.index.result.now (slice_get_read list (length list) c.args.instance c.index.result.now refl c.requires.there c.index.ensures)).within

pub returns : goal.returns
returns c = λ paths are.
    let list = c.args.iterate.now.instances.now.list.items in
    (are.each c.args.instance c.index.result.now (slice_get_read list (length list) c.args.instance c.index.result.now refl c.requires.there c.index.ensures)).node ∙ c.node.ensures.is
