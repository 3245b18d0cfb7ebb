use Rattle.std.proofs.Common.{refl}
use Rattle.std.proofs.lemmas.Result.{err_from_is_err_and}
use Rattle.lucy_rates.proofs.Asking.{ask_refused, ask_done}
use Rattle.lucy_rates.proofs.vector.ask.Goals as goal

pub returns-in_err-factors-clause-refused : goal.returns-in_err-factors-clause-refused
returns-in_err-factors-clause-refused c =
    let p = err_from_is_err_and c.from_residual.result c.from_residual.ensures.1 in
    rw (p.1, p.2) (
      c.in_err-factors.ensures.refused.0,
      ask_refused c.args.forest.now.roots.items c.args.forest.now.rates.items c.args.term.now c.args.factors.now c.index.result.now c.index-2.result.now c.rate-length.result.1 c.share-asked.result
          c.requires.clock c.requires.rates c.index.ensures c.index-2.ensures c.rate-length.ensures.length (c.requires.some _ c.requires.root) c.share-asked.ensures.some c.share-asked.ensures.exact c.in_err-factors.ensures.refused.1,
    )

pub returns-clause-asked : goal.returns-clause-asked
returns-clause-asked c =
    ask_done c.args.forest.now.roots.items c.args.forest.now.rates.items c.args.term.now c.args.factors.now _ c.index.result.now c.index-2.result.now c.rate-length.result.1 c.share-asked.result c.in_ok-factors.field-0
    c.requires.clock c.requires.rates c.index.ensures c.index-2.ensures c.rate-length.ensures.length c.requires.root c.requires.some c.requires.few c.share-asked.ensures.exact c.in_ok-factors.ensures.least c.in_ok-factors.ensures.few refl
