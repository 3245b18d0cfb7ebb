use Rattle.std.proofs.Common.{◌≡◌, ap, sym, refl, subst, length, inl, inr, arith}
use Rattle.std.specs.Prelude.{◌⊎◌}
use Rattle.lucy_word.specs.Sampling.{IsOn}
use Rattle.lucy_word.specs.declared.limit.Limit.TheVariants as lim
use Rattle.lucy_word.proofs.Results.{leaves}
use Rattle.lucy_flat.specs.declared.error.FlatError.TheVariants as err
use Rattle.lucy_flat.specs.Drafts.{HasTooLong}
use Rattle.lucy_flat.specs.Refusals.{NetWordIsTooLong}
use Rattle.lucy_flat.proofs.InstanceLaws.{kind_here, word_here, entry_here, made_here, has_size, fit_here}
use Rattle.lucy_flat.proofs.UnmadePlaces.{place_long}
use Rattle.lucy_flat.proofs.instance.draft_of.Goals as goal

pub returns-in_err-word-clause-refused : goal.returns-in_err-word-clause-refused
returns-in_err-word-clause-refused c =
    let nodes = c.args.program.placed.now.nodes in
    let clocks = c.args.program.clocks.now in
    let proper = c.requires.program.proper in
    let path = c.requires.of.0 in
    let is = c.requires.of.1 in
    let base = c.args.of.base.now in
    let clock = c.requires.program.clocked.each is.index c.args.of.node.now c.args.of.clock.now is.node is.clock in
    let words = ap length c.list-2.ensures in
    let count = clock.count in
    let high = c.requires.place.1 in
    let word = word_here nodes clocks proper path c.args.of is c.args.place c.list-2.result.now c.index-list-place-2.result c.list-2.ensures (omega arith) c.index-list-place-2.is in
    let entry = entry_here nodes clocks proper path c.args.of is c.args.place c.list.result.now c.index-list-place.result c.list.ensures c.requires.place.0 high c.index-list-place.is in
    leaves (λ e. (e ≡ err.OutOfMemory) ⊎ ((e ≡ err.Limit lim.Word) × HasTooLong c.index-list-place.result.kind base c.index-list-place-2.result))
    (λ e. (e ≡ err.OutOfMemory) ⊎ ((e ≡ err.Limit lim.Word) × NetWordIsTooLong nodes clocks)) _
    c.from_residual.result c.from_residual.ensures.1 c.in_err-word.ensures.refused
    (λ e why. elim why [
      | inl none ↦ inl none
      | inr long ↦ inr (long.0, place_long nodes clocks proper c.requires.program.clocked path c.args.of is c.requires.base c.args.place c.index-list-place.result c.index-list-place-2.result c.requires.place.0 high entry word long.1)
    ])

pub work_of-requires-clause-stands : goal.work_of-requires-clause-stands
work_of-requires-clause-stands c =
    (c.index-list-place.result, entry_here c.args.program.placed.now.nodes c.args.program.clocks.now c.requires.program.proper c.requires.of.0 c.args.of c.requires.of.1 c.args.place c.list.result.now c.index-list-place.result c.list.ensures c.requires.place.0 c.requires.place.1 c.index-list-place.is, refl)

pub size-requires : goal.size-requires
size-requires c =
    let nodes = c.args.program.placed.now.nodes in
    let clocks = c.args.program.clocks.now in
    let proper = c.requires.program.proper in
    let is = c.requires.of.1 in
    let clock = c.requires.program.clocked.each is.index c.args.of.node.now c.args.of.clock.now is.node is.clock in
    let entry = entry_here nodes clocks proper c.requires.of.0 c.args.of is c.args.place c.list.result.now c.index-list-place.result c.list.ensures c.requires.place.0 c.requires.place.1 c.index-list-place.is in
    has_size c.args.of.node.now c.args.place c.index-list-place.result.kind c.args.of.clock.now.sizes (kind_here nodes clocks proper c.requires.of.0 c.args.of is c.args.place c.index-list-place.result.kind (c.index-list-place.result, entry, refl)) clock.sizes.count

pub returns-clause-ok : goal.returns-clause-ok
returns-clause-ok c = λ path kind is e.
    let nodes = c.args.program.placed.now.nodes in
    let clocks = c.args.program.clocks.now in
    let proper = c.requires.program.proper in
    let clock = c.requires.program.clocked.each is.index c.args.of.node.now c.args.of.clock.now is.node is.clock in
    let words = ap length c.list-2.ensures in
    let count = clock.count in
    let high = c.requires.place.1 in
    let word = word_here nodes clocks proper path c.args.of is c.args.place c.list-2.result.now c.index-list-place-2.result c.list-2.ensures (omega arith) c.index-list-place-2.is in
    let entry = entry_here nodes clocks proper path c.args.of is c.args.place c.list.result.now c.index-list-place.result c.list.ensures c.requires.place.0 c.requires.place.1 c.index-list-place.is in
    let work = c.in_ok-kind.ensures.ok path is in
    made_here nodes clocks proper path c.args.of is c.args.place c.index-list-place.result kind c.in_ok-kind.kind c.in_ok-word.word c.in_ok-kind.reads c.new.result c.size.result e entry work.0
    (subst (λ w. IsOn c.args.of.base.now w c.in_ok-word.word) (sym word) c.in_ok-word.ensures.ok) c.in_ok-word.ensures.stored.word c.in_ok-word.ensures.stored.shortest work.1 c.size.ensures c.new.ensures.items c.in_ok-word.ensures.reads

pub returns-clause-fits : goal.returns-clause-fits
returns-clause-fits c = λ path is.
    let nodes = c.args.program.placed.now.nodes in
    let clocks = c.args.program.clocks.now in
    let proper = c.requires.program.proper in
    let clock = c.requires.program.clocked.each is.index c.args.of.node.now c.args.of.clock.now is.node is.clock in
    let words = ap length c.list-2.ensures in
    let count = clock.count in
    let high = c.requires.place.1 in
    let word = word_here nodes clocks proper path c.args.of is c.args.place c.list-2.result.now c.index-list-place-2.result c.list-2.ensures (omega arith) c.index-list-place-2.is in
    fit_here nodes clocks proper c.requires.program.clocked path c.args.place c.args.of.base.now c.index-list-place-2.result is.at.is_base c.requires.base word c.in_ok-word.ensures.fits
