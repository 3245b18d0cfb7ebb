use Rattle.std.proofs.Common.{◌≡◌, refl, inl, inr, arith}
use Rattle.lucy_flat.specs.declared.error.FlatError.TheVariants as err
use Rattle.lucy_word.specs.declared.limit.Limit.TheVariants as lim
use Rattle.lucy_flat.specs.Refusals.{RefusesFlat}
use Rattle.lucy_flat.specs.Drafts.{RefusesDrafts}
use Rattle.std.specs.Prelude.{◌⊎◌}
use Rattle.lucy_word.proofs.Results.{leaves}
use Rattle.lucy_flat.specs.Assembly.{IsReadTooLong, IsNetPast}
use Rattle.lucy_flat.proofs.FlatLaws.{ready}
use Rattle.lucy_flat.proofs.NetLaws.{flat_net, actors_few, rings_few}
use Rattle.lucy_flat.proofs.TopLaws.{refuses_drafts, refuses_net}
use Rattle.lucy_flat.proofs.flattening.made.Goals as goal

pub returns-in-Some-clause-refused : goal.returns-in-Some-clause-refused
returns-in-Some-clause-refused c = inl (c.passed.ensures.passed c.in-Some.limit c.in-Some.is)

pub returns-in_err-drafts-clause-refused : goal.returns-in_err-drafts-clause-refused
returns-in_err-drafts-clause-refused c =
    let nodes = c.args.placed.now.nodes in
    let clocks = c.args.clocks.now in
    leaves (RefusesDrafts nodes clocks) (RefusesFlat nodes clocks) _
    c.from_residual.result c.from_residual.ensures.1 c.in_err-drafts.ensures.refused
    (λ e why. refuses_drafts nodes clocks c.nodes-main.ensures.proper c.requires e (c.passed.ensures.kept c.in_default.is) why)

pub assemble-requires : goal.assemble-requires
assemble-requires c = ready c.args.placed.now.nodes c.args.clocks.now c.nodes-main.ensures.proper c.requires c.in_ok-drafts.field-0.items c.in_ok-drafts.ensures.ok c.in_ok-drafts.ensures.small

pub returns-in_err-net-clause-refused : goal.returns-in_err-net-clause-refused
returns-in_err-net-clause-refused c =
    let nodes = c.args.placed.now.nodes in
    let clocks = c.args.clocks.now in
    let drafts = c.in_ok-drafts.field-0.items in
    leaves (λ e. (e ≡ err.OutOfMemory) ⊎ ((e ≡ err.Limit lim.Word) × IsReadTooLong drafts) ⊎ ((e ≡ err.Limit lim.Bits) × IsNetPast drafts)) (RefusesFlat nodes clocks) _
    c.from_residual-in_err-net.result c.from_residual-in_err-net.ensures.1 c.in_err-net.ensures.refused
    (λ e why. refuses_net nodes clocks c.nodes-main.ensures.proper c.requires drafts c.in_ok-drafts.ensures.ok e c.in_ok-drafts.ensures.small c.in_ok-drafts.ensures.fits why)

pub all_bits-requires-clause-actors : goal.all_bits-requires-clause-actors
all_bits-requires-clause-actors c = actors_few c.args.placed.now.nodes c.args.clocks.now c.nodes-main.ensures.proper c.requires c.in_ok-drafts.field-0.items c.in_ok-net.net c.in_ok-drafts.ensures.ok c.in_ok-net.ensures.ok c.in_ok-drafts.ensures.small

pub all_bits-requires-clause-rings : goal.all_bits-requires-clause-rings
all_bits-requires-clause-rings c = rings_few c.args.placed.now.nodes c.args.clocks.now c.nodes-main.ensures.proper c.requires c.in_ok-drafts.field-0.items c.in_ok-net.net c.in_ok-drafts.ensures.ok c.in_ok-net.ensures.ok c.in_ok-drafts.ensures.small

pub returns-then-all_bits-number-clause-refused : goal.returns-then-all_bits-number-clause-refused
returns-then-all_bits-number-clause-refused c =
    let flat = flat_net c.args.placed.now.nodes c.args.clocks.now c.nodes-main.ensures.proper c.requires c.in_ok-drafts.field-0.items c.in_ok-net.net c.in_ok-drafts.ensures.ok c.in_ok-net.ensures.ok
    c.net_words_are_stored.ensures c.in_ok-drafts.ensures.small c.in_ok-drafts.ensures.fits c.in_ok-net.ensures.fits in
    let a = c.all_bits.ensures in
    let b = c.number.ensures in
    let l = c.if-all_bits-number.true in
    inr (inr (refl, c.in_ok-net.net, flat, omega arith))

pub returns-clause-ok : goal.returns-clause-ok
returns-clause-ok c =
    flat_net c.args.placed.now.nodes c.args.clocks.now c.nodes-main.ensures.proper c.requires c.in_ok-drafts.field-0.items c.in_ok-net.net c.in_ok-drafts.ensures.ok c.in_ok-net.ensures.ok
    c.net_words_are_stored.ensures c.in_ok-drafts.ensures.small c.in_ok-drafts.ensures.fits c.in_ok-net.ensures.fits
