use Rattle.std.proofs.Common.{List, inl, inr}
use Rattle.lucy_place.specs.declared.placed.PlacedNode.{PlacedNode}
use Rattle.lucy_clock.specs.declared.signature.Signature.{Signature}
use Rattle.lucy_clock.specs.declared.node_clock.NodeClock.{NodeClock}
use Rattle.lucy_program.specs.declared.options.Options.{Options}
use Rattle.lucy_program.specs.Clocked.{IsClocked}
use Rattle.lucy_program.specs.Inferring.{IsInferred}
use Rattle.lucy_right.specs.Earliest.{AreEarliest}
use Rattle.lucy_right.proofs.laws.found_clocks_are_earliest.Goals as goal

earliest : (o : Options) (above : List Signature) (n : PlacedNode) (c : NodeClock) → IsClocked o above n c → IsInferred o above n c → AreEarliest above n o.scale o.lead c.words
earliest o above n c is found =
    record { shape = found.inferred.shape; of_needs = found.inferred.of_needs; fits = found.fits; well = is.well; earliest = found.earliest }

pub returns : goal.returns
returns ctx ops o text a accepted i n c there its =
    let is = accepted.clocked.clocks.each i n c there its in
    elim is.its [ inl written ↦ inl written.0 | inr found ↦ inr (earliest o _ n c is found) ]
