use Rattle.std.proofs.Common.{◌++◌, ◌∷◌, [], length, take, ap, refl, ◌∙◌, arith}
use Rattle.std.proofs.lemmas.List.{length-take-le, take_all}
use Rattle.std.proofs.lemmas.Option.{slice_get_read}
use Rattle.lucy_word.specs.Bits.{ones_to}
use Rattle.lucy_results.specs.Streams.{cut_to}
use Rattle.lucy_results.proofs.StreamLaws.{cut_count}
use Rattle.lucy_results.proofs.OutputLaws.{next_cut}
use Rattle.lucy_results.proofs.interpreting.cut_inputs.Goals as goal

pub add_front-requires-clause-next : goal.add_front-requires-clause-next
add_front-requires-clause-next c =
    let cut = cut_to c.args.instants c.args.words.now c.args.lists.now in
    let count = cut_count c.args.instants c.args.words.now c.args.lists.now c.requires.same in
    omega (arith, c.each-test.true, count, ap length c.each.invariant, length-take-le c.each.i cut (omega (arith, c.each-test.true, count)))

pub each-preserved : goal.each-preserved
each-preserved c =
    let word = c.index-words-i.result in
    let got = slice_get_read c.args.words.now _ c.each.i word refl c.each-test.true c.index-words-i.is in
    c.in_ok-add_front.ensures ∙ ap (λ ls. ls ++ take (ones_to word c.args.instants) c.list.result.now ∷ []) c.each.invariant
    ∙ next_cut c.args.instants c.args.words.now c.args.lists.now c.each.i word c.list.result.now c.requires.same c.each-test.true got c.list.ensures

pub returns : goal.returns
returns c =
    let cut = cut_to c.args.instants c.args.words.now c.args.lists.now in
    let count = cut_count c.args.instants c.args.words.now c.args.lists.now c.requires.same in
    c.each.invariant ∙ take_all c.each.i cut (omega (arith, c.each-test.false, count))
