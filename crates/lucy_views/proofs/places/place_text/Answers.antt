use Rattle.std.proofs.Common.{inl, inr, refl, sym}
use Rattle.lucy_views.proofs.PlaceLaws.{lacks_entry}
use Rattle.lucy_views.proofs.places.place_text.Goals as goal

pub returns-in_default-clause-outcome : goal.returns-in_default-clause-outcome
returns-in_default-clause-outcome c =
    inr (inr ((c.node-found.result.now, c.node-found.ensures.is, lacks_entry c.node-found.result.now c.args.place c.entry_at.result c.entry_at.ensures c.in_default.is), refl))

pub returns-clause-outcome : goal.returns-clause-outcome
returns-clause-outcome c =
    inl (c.in_ok-entry_text.field-0.items, c.in_ok-entry_text.ensures c.args.placed.now.nodes c.node-found.ensures.is (sym c.in-Some.ensures), refl)
