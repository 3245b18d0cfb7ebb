use Rattle.std.proofs.Common.{inr}
use Rattle.std.proofs.lemmas.Option.{slice_get_within}
use Rattle.lucy_tight.proofs.OneTightening.{refused_only, matched}
use Rattle.lucy_tight.proofs.tightening.tighten.Goals as goal

pub spot_of-at-requires-clause-accepted : goal.spot_of-at-requires-clause-accepted
spot_of-at-requires-clause-accepted c = let a = c.requires.accepted in (a.0, c.args.options.now, a.1, a.2)

pub is_written-requires : goal.is_written-requires
is_written-requires c = let there = c.requires.there in slice_get_within c.args.accepted.now.placed.nodes c.args.node there.0 there.1

pub returns-then-is_written-clause-refused : goal.returns-then-is_written-clause-refused
returns-then-is_written-clause-refused c =
    let of = c.spot_of-at.ensures.0 in
    inr (of, (c.is_written.ensures.tables of.n of.stands).0 c.if-is_written.true, c.spot_of-at.ensures.3)

pub returns-then-is_written-clause-only : goal.returns-then-is_written-clause-only
returns-then-is_written-clause-only c = λ e refused.
    let of = c.spot_of-at.ensures.0 in
    inr (refused_only c.args.accepted.now c.args.options.now c.args.node c.args.buffer _ e (of, (c.is_written.ensures.tables of.n of.stands).0 c.if-is_written.true, c.spot_of-at.ensures.3) refused)

pub tighten_inferred-requires-clause-node : goal.tighten_inferred-requires-clause-node
tighten_inferred-requires-clause-node c = let there = c.requires.there in slice_get_within c.args.accepted.now.placed.nodes c.args.node there.0 there.1

pub tighten_inferred-requires-clause-unwritten : goal.tighten_inferred-requires-clause-unwritten
tighten_inferred-requires-clause-unwritten c = λ n at written.
    let told = (c.is_written.ensures.tables n at).1 written in
    let none = c.if-is_written.false in
    cc

pub returns-clause-only : goal.returns-clause-only
returns-clause-only c = λ e refused.
    matched c.args.accepted.now c.args.options.now c.args.node c.args.buffer c.tighten_inferred.result c.tighten_inferred.ensures.tightened c.tighten_inferred.ensures.refused e refused
