use Rattle.lucy_types.specs.Flooding.{IsFlood, Grows}
use Rattle.lucy_types.proofs.SpreadLaws.{AreReached}
use Rattle.lucy_types.proofs.flood.reach_near.Given as goal

abbrev pub invariant-each : goal.invariant-each
invariant-each l = IsFlood l.graph l.flood × Grows l.ty l.initial.flood l.flood × AreReached l.flood l.near-items l.near-index l.ty
