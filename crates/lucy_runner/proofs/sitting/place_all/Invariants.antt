use Rattle.std.proofs.Common.{◌≡◌, length, map}
use Rattle.std.specs.Prelude.{All}
use Rattle.lucy_runner.specs.Making.{ArePlaced, benched, homes_in}
use Rattle.lucy_runner.proofs.BenchLaws.{IsManned}
use Rattle.lucy_runner.proofs.sitting.place_all.Given as goal

abbrev pub invariant-loop-part : goal.invariant-loop-part
invariant-loop-part l = record {
  placed : ArePlaced l.fn.parts.items (length l.yielded) (map benched l.benches) l.places.items;
  homes : homes_in l.benches ≡ homes_in l.fn.benches;
  manned : All (IsManned l.homes (length l.yielded)) l.benches;
}
