use Rattle.std.proofs.Common.{Some, ap}
use Rattle.std.specs.Option.{option_map}
use Rattle.lucy_asking.specs.declared.ask.Sought.TheVariants as sought
use Rattle.lucy_views.proofs.PlaceLaws.{offset_out, sought_out}
use Rattle.lucy_views.proofs.places.sought_in.Goals as goal

pub returns-in-Offset-clause-outcome : goal.returns-in-Offset-clause-outcome
returns-in-Offset-clause-outcome c =
    let name = option_map (λ s. s.now) c.args.name in
    sought_out c.args.ops.now c.args.text.now name (Some c.args.sought) (Some (sought.Offset c.in-Offset.offset)) _ (ap (λ s. Some s) c.in-Offset.is)
    (offset_out c.args.ops.now c.args.text.now name c.in-Offset.offset _ c.offset_text.ensures.outcome)

pub returns-in-Place-clause-outcome : goal.returns-in-Place-clause-outcome
returns-in-Place-clause-outcome c =
    sought_out c.args.ops.now c.args.text.now (option_map (λ s. s.now) c.args.name) (Some c.args.sought) (Some (sought.Place c.in-Place.number)) _
    (ap (λ s. Some s) c.in-Place.is) c.place_in.ensures.outcome
