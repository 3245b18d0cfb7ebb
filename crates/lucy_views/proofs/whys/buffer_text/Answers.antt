use Rattle.std.proofs.Common.{refl, inl, inr}
use Rattle.lucy_explain.specs.Waits.{HasBuffer}
use Rattle.lucy_views.proofs.Outs.{buffer_there, buffer_back, no_buffer, some_so, none_so}
use Rattle.lucy_views.proofs.whys.buffer_text.Goals as goal

pub returns-in_default-clause-outcome : goal.returns-in_default-clause-outcome
returns-in_default-clause-outcome c =
    inr (inl (no_buffer c.args.accepted.now.placed.nodes c.args.name.now c.args.buffer (c.node_asked.ensures.none c.in_default.is), refl))

pub returns-in-Some-2-clause-outcome : goal.returns-in-Some-2-clause-outcome
returns-in-Some-2-clause-outcome c =
    let nodes = c.args.accepted.now.placed.nodes in
    let has = some_so (HasBuffer nodes c.in-Some.node c.args.buffer) _ _ c.in-Some-2.is c.in_ok-filling.ensures.some in
    inr (buffer_there nodes c.args.name.now c.in-Some.node c.args.buffer c.in-Some.ensures.some.1 has, (c.in-Some-2.filling.text.items, tt, refl))

pub returns-in-None-clause-outcome : goal.returns-in-None-clause-outcome
returns-in-None-clause-outcome c =
    let nodes = c.args.accepted.now.placed.nodes in
    let never = none_so (HasBuffer nodes c.in-Some.node c.args.buffer → ⊥) _ c.in-None.is c.in_ok-filling.ensures.none in
    inr (inl (λ has. never (buffer_back nodes c.args.name.now c.in-Some.node c.args.buffer c.in-Some.ensures.some.1 has), refl))
