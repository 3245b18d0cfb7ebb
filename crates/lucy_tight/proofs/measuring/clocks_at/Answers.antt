use Rattle.std.proofs.Common.{sym, subst}
use Rattle.lucy_tight.specs.Measured.{AreAdaptable}
use Rattle.lucy_tight.proofs.measuring.clocks_at.Goals as goal

pub sizes_at-requires-clause-words : goal.sizes_at-requires-clause-words
sizes_at-requires-clause-words c = subst (AreAdaptable c.args.node.now) (sym c.deref.ensures.value) c.requires.words
