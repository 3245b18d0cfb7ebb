use Rattle.std.proofs.Common.{◌≡◌, ◌+◌, ◌<◌, ◌++◌, ◌∷◌, [], length, Ok, arith, refl, ap, sym, ◌∙◌, subst}
use Rattle.std.specs.Prelude.{ℤ, slice_set}
use Rattle.std.specs.Int.{w64}
use mir.Val.{SFits as FitsSigned, to_z, of_z}
use Rattle.std.proofs.lemmas.Int.{to_z-of_z}
use Rattle.lucy_lines.specs.Cuts.{ItemOf}
use Rattle.lucy_lines.specs.Resuming.{FeedState, IsOpen}
use Rattle.lucy_lines.specs.declared.reader.Line.TheVariants.{End}
use Rattle.lucy_lines.proofs.ListLaws.{any_default}
use Rattle.lucy_lines.proofs.FeedLaws.{asks_behind, item_read, ended, stopped, called, called_as, of_item, not_ended, has_ended, err_ended, no_fault, value_fits}
use Rattle.lucy_lines.proofs.feed_reader.FeedReader.next_item.Goals as goal

pub returns-in-Ok-Item-clause-item : goal.returns-in-Ok-Item-clause-item
returns-in-Ok-Item-clause-item g c = λ inputs first items taken o.
    let e = c.next_line.ensures in
    let (bytes, took) = e.answer in
    let P : FeedState → Type 0 = λ s. IsOpen inputs first (g.I.Source.seen c.args.source.now) s.reader s.counts items taken in
    let before = subst P (sym c.self.view_is) o in
    let call = called g.I.Source.seen c.self.inside.reader c.next_line.new.self c.args.source.now c.next_line.new.source c.next_line.result bytes
    took e.inputs e.within e.unread e.at_end e.goes_on e.none_follows e.cause in
    let is = c.in-Ok-Item.is ∙ ap Ok c.in-Ok-Item.field-0-is in
    let same = called_as _ _ _ _ _ _ bytes is call in
    let back : to_z w64 (of_z w64 c.in-Ok-Item.value) ≡ c.in-Ok-Item.value = to_z-of_z w64 c.in-Ok-Item.value (value_fits _ _ _ _ _ _ bytes same) in
    let known = of_item (λ stream. stream < length c.self.inside.reader.inputs) c.next_line.result c.in-Ok-Item.stream c.in-Ok-Item.value is e.stream in
    let i : ℤ → ItemOf = λ v. record { stream = c.in-Ok-Item.stream; value = v } in
    let (few, many, listed, can) = c.self.invariant in
    let there : c.in-Ok-Item.stream < length c.self.inside.counts.items = omega (arith, known, many) in
    let counted = c.index_mut.ensures.value ∙ any_default c.self.inside.counts.items c.in-Ok-Item.stream c.index_mut.result.now 0 there in
    let R : ℤ → Type 0 = λ v. IsOpen inputs first (g.I.Source.seen c.next_line.new.source)
    c.next_line.new.self (slice_set c.self.inside.counts.items c.in-Ok-Item.stream (c.index_mut.result.now + 1)) (items ++ i v ∷ []) (taken ++ bytes) in (
      bytes,
      subst R (sym back)
          (item_read inputs _ _ c.self.inside.counts.items _ _ _ _ items taken bytes c.in-Ok-Item.stream c.in-Ok-Item.value before same known
          (not_ended _ c.next_line.result c.in-Ok-Item.stream c.in-Ok-Item.value is e.ended.0)
          (ap (λ n. slice_set c.self.inside.counts.items c.in-Ok-Item.stream (n + 1)) counted)),
      asks_behind inputs _ _ _ _ _ _ _ items taken bytes before same,
    )

pub returns-in-Ok-End-clause-stop : goal.returns-in-Ok-End-clause-stop
returns-in-Ok-End-clause-stop g c = λ inputs first items taken o.
    let e = c.next_line.ensures in
    let (bytes, took) = e.answer in
    let P : FeedState → Type 0 = λ s. IsOpen inputs first (g.I.Source.seen c.args.source.now) s.reader s.counts items taken in
    let before = subst P (sym c.self.view_is) o in
    let call = called g.I.Source.seen c.self.inside.reader c.next_line.new.self c.args.source.now c.next_line.new.source c.next_line.result bytes
    took e.inputs e.within e.unread e.at_end e.goes_on e.none_follows e.cause in
    ended _ _ _ _ _ _ _ _ items taken bytes before (called_as _ _ _ _ _ _ bytes (c.in-Ok-End.is ∙ ap Ok c.in-Ok-End.field-0-is) call)
    (has_ended _ c.next_line.result (Ok End) (c.in-Ok-End.is ∙ ap Ok c.in-Ok-End.field-0-is) tt e.ended.1)
    (no_fault c.self.inside.reader c.self.inside.counts.items c.self.inside.fault (ap (λ s. s.reader.ended) c.self.view_is ∙ c.requires) (let (few, many, listed, can) = c.self.invariant in can))

pub returns-in-Err-clause-stop : goal.returns-in-Err-clause-stop
returns-in-Err-clause-stop g c = λ inputs first items taken o.
    let e = c.next_line.ensures in
    let (bytes, took) = e.answer in
    let P : FeedState → Type 0 = λ s. IsOpen inputs first (g.I.Source.seen c.args.source.now) s.reader s.counts items taken in
    let before = subst P (sym c.self.view_is) o in
    let call = called g.I.Source.seen c.self.inside.reader c.next_line.new.self c.args.source.now c.next_line.new.source c.next_line.result bytes
    took e.inputs e.within e.unread e.at_end e.goes_on e.none_follows e.cause in
    stopped _ _ _ _ _ _ _ _ items taken bytes c.in-Err.fault before (called_as _ _ _ _ _ _ bytes c.in-Err.is call) (err_ended _ c.next_line.result c.in-Err.fault c.in-Err.is e.ended.1) refl

pub returns-in-Ok-Item-clause-fits : goal.returns-in-Ok-Item-clause-fits
returns-in-Ok-Item-clause-fits g c =
    let e = c.next_line.ensures in
    let (bytes, took) = e.answer in
    let call = called g.I.Source.seen c.self.inside.reader c.next_line.new.self c.args.source.now c.next_line.new.source c.next_line.result bytes
    took e.inputs e.within e.unread e.at_end e.goes_on e.none_follows e.cause in
    let fits = value_fits _ _ _ _ _ _ bytes (called_as _ _ _ _ _ _ bytes (c.in-Ok-Item.is ∙ ap Ok c.in-Ok-Item.field-0-is) call) in
    let back : to_z w64 (of_z w64 c.in-Ok-Item.value) ≡ c.in-Ok-Item.value = to_z-of_z w64 c.in-Ok-Item.value fits in
    let P : ℤ → Type 0 = λ v. FitsSigned w64 v in
    subst P (sym back) fits
