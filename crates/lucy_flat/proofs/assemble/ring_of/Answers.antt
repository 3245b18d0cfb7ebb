use Rattle.std.proofs.Common.{◌≡◌, ap, sym, refl, ◌∙◌, length, inl, inr}
use Rattle.std.specs.Prelude.{◌⊎◌}
use Rattle.std.proofs.lemmas.Option.{slice_get_read}
use Rattle.lucy_word.specs.declared.limit.Limit.TheVariants as lim
use Rattle.lucy_word.proofs.Results.{leaves}
use Rattle.lucy_flat.specs.declared.error.FlatError.TheVariants as err
use Rattle.lucy_flat.specs.declared.draft.Draft.{Draft}
use Rattle.lucy_flat.specs.Assembly.{IsReadTooLong, ReadsTooLong}
use Rattle.lucy_flat.proofs.AssemblyLaws.{ring_is}
use Rattle.lucy_flat.proofs.assemble.ring_of.Goals as goal

pub read_word-requires-clause-short : goal.read_word-requires-clause-short
read_word-requires-clause-short c =
    c.requires.ready.short c.args.to c.index-drafts-to.result (slice_get_read c.args.drafts.now (length c.args.drafts.now) c.args.to c.index-drafts-to.result refl c.requires.to c.index-drafts-to.is)

pub returns-in_err-read-clause-refused : goal.returns-in_err-read-clause-refused
returns-in_err-read-clause-refused c =
    let taker = c.index-drafts-to.result in
    let there = slice_get_read c.args.drafts.now (length c.args.drafts.now) c.args.to taker refl c.requires.to c.index-drafts-to.is in
    leaves (λ e. (e ≡ err.OutOfMemory) ⊎ ((e ≡ err.Limit lim.Word) × ReadsTooLong taker.kind c.args.operand taker.word))
    (λ e. (e ≡ err.OutOfMemory) ⊎ ((e ≡ err.Limit lim.Word) × IsReadTooLong c.args.drafts.now)) _
    c.from_residual-in_err-read.result c.from_residual-in_err-read.ensures.1 c.in_err-read.ensures.refused
    (λ e why. elim why [
      | inl l ↦ inl l
      | inr r ↦ inr (r.0, record { a = c.args.to; draft = taker; there = there; operand = c.args.operand; within = c.requires.operand taker there; too_long = r.1 })
    ])

pub returns-clause-ok : goal.returns-clause-ok
returns-clause-ok c =
    let taker = c.index-drafts-to.result in
    let drafts = c.args.drafts.now in
    let there = slice_get_read drafts (length drafts) c.args.to taker refl c.requires.to c.index-drafts-to.is in
    let giver = c.index-drafts-from.result in
    let source = c.index-from.result.now in
    let got = slice_get_read taker.reads.items (length taker.reads.items) c.args.operand source refl (c.requires.operand taker there) c.index-from.ensures in
    let gives = slice_get_read drafts (length drafts) source giver refl (c.requires.ready.reads c.args.to c.args.operand source taker there got) c.index-drafts-from.is in
    λ draft from e f. ring_is drafts c.args.to c.args.operand taker giver draft source from c.in_ok-write.write c.in_ok-read.read there got gives
    (c.in_ok-write.ensures.equal ∙ ap (λ (d : Draft). d.word) (sym c.index-drafts-from.is)) c.in_ok-read.ensures.ok c.in_ok-read.ensures.shortest c.in_ok-read.ensures.fits e f
