use Rattle.std.proofs.Common.{◌≡◌, ◌++◌, ◌∷◌, List, [], ap, ◌∙◌}
use Rattle.std.specs.Prelude.{ℤ, slice_set, slice_index_or}
use Rattle.std.specs.Int.{w64}
use mir.Val.{to_z, of_z}
use Rattle.std.proofs.lemmas.Int.{to_z-of_z}
use Rattle.std.proofs.lemmas.Result.{on_ok_weaker}
use Rattle.lucy_word.proofs.Results.{on_err}
use Rattle.lucy_lines.proofs.ResumeLaws.{item_kept, item_lost, stop_kept}
use Rattle.lucy_lines.proofs.feed_reader.FeedReader.keep_item.Goals as goal

pub returns-in-Some-clause-reads : goal.returns-in-Some-clause-reads
returns-in-Some-clause-reads g c =
    let f : List (List ℤ) → List (List ℤ) = λ u. slice_set u c.in-Some.stream (slice_index_or u c.in-Some.stream [] ++ c.in-Some.value ∷ []) in
    let put : ℤ → List (List ℤ) = λ v. slice_set c.self.inside.fresh c.in-Some.stream (slice_index_or c.self.inside.fresh c.in-Some.stream [] ++ v ∷ []) in
    let back : to_z w64 (of_z w64 c.in-Some.value) ≡ c.in-Some.value = to_z-of_z w64 c.in-Some.value c.in-Some.ensures.fits in
    on_ok_weaker c.push.result (λ pushed. item_kept _ _ c.args.self.now c.next_item.new.self _ (record { stream = c.in-Some.stream; value = c.in-Some.value }) c.requires c.in-Some.ensures.item c.in-Some.ensures.known
    (ap (λ s. s.reader) c.self.view_is) (ap (λ s. s.counts) c.self.view_is)
    (pushed ∙ ap put back ∙ ap f (ap (λ s. s.fresh) c.self.view_is ∙ c.next_item.ensures.fresh))) c.push.ensures.ok

pub returns-in-Some-clause-gives_up : goal.returns-in-Some-clause-gives_up
returns-in-Some-clause-gives_up g c = on_err _ _ (item_lost _ _ c.args.self.now c.next_item.new.self (record { stream = c.in-Some.stream; value = c.in-Some.value }) c.requires c.in-Some.ensures.item)

pub returns-in-None-clause-reads : goal.returns-in-None-clause-reads
returns-in-None-clause-reads g c = stop_kept _ _ c.args.self.now c.next_item.new.self c.requires c.in-None.ensures.stop c.next_item.ensures.fresh
