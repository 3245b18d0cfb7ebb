use Rattle.std.proofs.Common.{◌+◌, length, ap, ap₂, refl, ◌∙◌, arith}
use Rattle.lucy_need.specs.Meeting.{assigned}
use Rattle.lucy_net.specs.declared.net.Net.{Net}
use Rattle.lucy_wave.specs.Seen.{net_of}
use Rattle.lucy_wave.proofs.GiveLaws.{place_within, outputs_more, outputs_done, actors_count, rings_count}
use Rattle.lucy_wave.proofs.watching.with_outputs.Goals as goal

pub word_of-word-requires : goal.word_of-word-requires
word_of-word-requires c = (place_within (length c.args.net.now.actors) (length c.args.words.now) c.args.places.now c.each.i c.each-test.true c.requires.within).2

pub add_output-requires-clause-low : goal.add_output-requires-clause-low
add_output-requires-clause-low c = (place_within (length c.args.net.now.actors) (length c.args.words.now) c.args.places.now c.each.i c.each-test.true c.requires.within).0

pub add_output-requires-clause-high : goal.add_output-requires-clause-high
add_output-requires-clause-high c =
    let within = place_within (length c.args.net.now.actors) (length c.args.words.now) c.args.places.now c.each.i c.each-test.true c.requires.within in
    omega (arith, within.1, c.each.invariant.1)

pub each-preserved : goal.each-preserved
each-preserved c =
    let l = c.each in
    let made = c.in_ok-add_output.ensures in
    let actors = ap (λ (n : Net). length n.actors) made ∙ actors_count (net_of l.draft) _ _ _ in
    let rings = ap (λ (n : Net). length n.rings) made ∙ rings_count (net_of l.draft) _ _ _ in (
      outputs_more (net_of l.draft) (net_of c.add_output.new.draft) _ (assigned c.args.words.now) c.args.first l.i _ c.word_of-word.result.now c.args.places.now c.each-test.true refl c.word_of-word.ensures made l.invariant.0,
      omega (arith, actors, l.invariant.1),
      omega (arith, rings, l.invariant.2),
    )

pub returns : goal.returns
returns c =
    let l = c.each in
    ap₂ (λ xs ys. record { actors = xs; rings = ys }) c.new.ensures c.new-2.ensures
    ∙ outputs_done (net_of l.draft) _ (assigned c.args.words.now) (c.args.first + l.i) l.i c.args.places.now (omega (arith, c.each-test.false)) l.invariant.0
