use Rattle.std.proofs.Common.{◌≡◌, ◌++◌, [], length, ap, sym, ◌∙◌, refl, to_z, of_z, w64, arith}
use Rattle.std.specs.Prelude.{slice_get}
use Rattle.std.specs.Option.{unwrap_or}
use Rattle.std.proofs.lemmas.Int.{ints}
use Rattle.std.proofs.lemmas.Option.{slice_get_read}
use Rattle.std.proofs.lemmas.Result.{on_ok_weaker}
use Rattle.lucy_word.proofs.Lists.{six}
use Rattle.lucy_front.specs.Evidence.{most_text}
use Rattle.lucy_front.proofs.LineLaws.{named_is}
use Rattle.lucy_front.proofs.evidence.diff_line.Goals as goal

pub returns : goal.returns
returns c =
    let names = c.args.names.now in
    let d = c.args.diff.now in
    let left = named_is names d.left c.index-names-diff.result (slice_get_read names (length names) d.left c.index-names-diff.result refl c.requires.left c.index-names-diff.is) in
    let right = named_is names d.right c.index-names-diff-2.result (slice_get_read names (length names) d.right c.index-names-diff-2.result refl c.requires.right c.index-names-diff-2.is) in
    let back : to_z w64 (of_z w64 d.most) ≡ d.most = omega (arith, ints) in
    on_ok_weaker c.bytes-7.result (λ last.
    six c.args.lines.now.items c.bytes.new.out.items c.bytes-3.new.out.items c.bytes-4.new.out.items c.bytes-6.new.out.items c.put_most.new.line.items c.bytes-7.new.out.items _ (unwrap_or (slice_get names d.left) []) _ (unwrap_or (slice_get names d.right) []) (most_text d.most) _ c.in_ok-bytes.ensures (c.in_ok-bytes-2.ensures ∙ ap (λ x. c.bytes.new.out.items ++ x) (c.bytes-2.ensures ∙ sym left)) c.in_ok-bytes-3.ensures
    (c.in_ok-bytes-4.ensures ∙ ap (λ x. c.bytes-4.new.out.items ++ x) (c.bytes-5.ensures ∙ sym right)) (c.in_ok-put_most.ensures ∙ ap (λ m. c.bytes-6.new.out.items ++ most_text m) back) last) c.bytes-7.ensures
