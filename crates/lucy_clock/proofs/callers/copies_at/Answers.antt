use Rattle.std.proofs.Common.{◌<◌, ℕ, length, get_or, ◌∙◌}
use Rattle.std.proofs.lemmas.List.{get_or_read}
use Rattle.std.proofs.lemmas.List.Elements.{All-from_recursion}
use Rattle.lucy_word.specs.Always.{always}
use Rattle.lucy_clock.proofs.CallerLaws.{copied_more}
use Rattle.lucy_clock.proofs.callers.copies_at.Goals as goal

pub bounds-words-place : goal.bounds-words-place
bounds-words-place c = All-from_recursion (λ place. place < length c.args.words.now) c.args.places.now c.requires c.each.place-index 0 c.each-test.true

pub each-preserved : goal.each-preserved
each-preserved c =
    let words = c.args.words.now in
    let place : ℕ = get_or c.args.places.now c.each.place-index 0 in
    let within : place < length words = All-from_recursion (λ place. place < length words) c.args.places.now c.requires c.each.place-index 0 c.each-test.true in
    copied_more words c.each.list.items _ _ c.args.places.now c.each.place-index c.in_ok-copy.field-0 c.each-test.true
    (c.in_ok-copy.ensures.equal ∙ get_or_read words place c.index-words-place.result within c.index-words-place.is always) c.in_ok-push.ensures.items c.each.invariant
