use Rattle.lucy_grammar.specs.Reading.{Unfit}
use Rattle.lucy_grammar.specs.Symbols.{Part}
use Rattle.lucy_syntax.specs.Piles.{Samples}
use Rattle.lucy_syntax.proofs.Leaving.{goes_out, made_so}
use Rattle.lucy_syntax.proofs.descent.sampled.Goals as goal

pub returns-in_err-flip : goal.returns-in_err-flip
returns-in_err-flip c = goes_out _ (Unfit Part.Sampling c.args.ts.now) _ c.from_residual.result c.from_residual.ensures.1 c.in_err-flip.ensures.refused (λ rest u. u)

pub returns : goal.returns
returns c =
    let s = c.in_ok-flip.ensures in
    made_so (Samples c.args.ts.now c.args.pile.now.items c.sampled.new.pile.items) _ c.sampled.result c.sampled.ensures (λ g. ((c.in_ok-flip.flip, c.in_ok-flip.word), s.ok, g, s.shorter))
