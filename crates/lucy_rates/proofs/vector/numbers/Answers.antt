use Rattle.std.proofs.Common.{length, refl}
use Rattle.lucy_rates.proofs.Gathering.{roots_within}
use Rattle.lucy_rates.proofs.vector.numbers.Goals as goal

pub vector-requires-clause-roots : goal.vector-requires-clause-roots
vector-requires-clause-roots c =
    let forest = c.args.forest.now in
    roots_within c.args.needs.now (length forest.roots.items) forest.roots.items forest.parents.items forest.rates.items c.requires.forest forest.roots.items refl
