use Rattle.std.proofs.Common.{suc, ◌≡◌, get_or, Some, subst, arith}
use Rattle.std.specs.Prelude.{slice_get}
use Rattle.std.proofs.lemmas.Option.{slice_get-get_or}
use Rattle.lucy_clock.proofs.WithinLaws.{buffer_within}
use Rattle.lucy_wave.proofs.gathering.put_buffers.Goals as goal

pub word_of-read-requires : goal.word_of-read-requires
word_of-read-requires c =
    let n = c.args.node.now in
    let places = c.list-place-items.result.now in
    let i = c.each.i in
    let at = subst (λ ps. slice_get ps i ≡ Some (get_or places i 0)) c.list-place-items.ensures (slice_get-get_or places i 0 c.each-test.true) in
    let own = c.requires.proper.1.buffers (suc i) (get_or places i 0) at in
    let low = (buffer_within c.requires.proper.0 n (get_or places i 0) (suc i) own.0 c.requires.proper.1 own.1).1 in
    omega (arith, c.requires.words, low)
