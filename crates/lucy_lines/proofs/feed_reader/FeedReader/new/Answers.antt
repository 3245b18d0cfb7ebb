use Rattle.std.proofs.Common.{◌≡◌, [], length, ap, ◌∙◌, inl, arith}
use Rattle.std.proofs.lemmas.List.FromFn.{length-map-range_with_len}
use Rattle.lucy_lines.specs.Feeding.{values_of, values_by_stream}
use Rattle.lucy_lines.proofs.FeedLaws.{nothing_yet, can_count}
use Rattle.lucy_lines.proofs.feed_reader.FeedReader.new.Goals as goal

pub invariant_of-result : goal.invariant_of-result
invariant_of-result c =
    let same = ap (λ r. length r.inputs) c.in_ok-reader.ensures in
    let made = ap length c.in_ok-fresh.ensures in
    let long = length-map-range_with_len (λ stream. values_of stream []) 0 c.len.result in
    let counted = c.in_ok-counts.ensures.many in
    let a = c.len.ensures in
    let b = c.len-2.ensures in
    let few = c.requires in
    (omega arith, omega arith, omega arith, λ open_yet. can_count c.args.inputs.items c.in_ok-reader.reader c.in_ok-counts.counts.items c.in_ok-reader.ensures c.in_ok-counts.ensures.none)

pub returns-clause-begun : goal.returns-clause-begun
returns-clause-begun c = λ source.
    let counted = c.in_ok-counts.ensures.many in
    let b = c.len-2.ensures in
    inl (nothing_yet c.args.inputs.items c.in_ok-reader.reader source c.in_ok-counts.counts.items c.in_ok-reader.ensures (omega arith) c.in_ok-counts.ensures.none)

pub returns-clause-fresh : goal.returns-clause-fresh
returns-clause-fresh c =
    let many : c.len.result ≡ length c.args.inputs.items = let a = c.len.ensures in omega arith in
    c.in_ok-fresh.ensures ∙ ap (λ n. values_by_stream n []) many
