use Rattle.std.proofs.Common.{◌≡◌, drop}
use Rattle.lucy_wave.specs.Waves.{is_among}
use Rattle.lucy_wave.proofs.gathering.is_among.Given as goal

abbrev pub invariant-each : goal.invariant-each
invariant-each l = is_among l.number (drop l.n-index l.numbers) ≡ is_among l.number l.numbers
