use Rattle.std.proofs.Common.{◌<◌, ◌-◌, ◌++◌, ◌^◌, length, ap, refl, ◌∙◌, arith}
use Rattle.std.proofs.lemmas.List.{length-map}
use Rattle.lucy_results.proofs.OutputLaws.{main_here}
use Rattle.lucy_wave.specs.Dumps.{dump, text_of}
use Rattle.lucy_wave.specs.Waves.{notes}
use Rattle.lucy_wave.specs.Seen.{seen, all_seen}
use Rattle.lucy_wave.proofs.WaveLaws.{wave_is, main_inside}
use Rattle.lucy_wave.proofs.waving.wave_text.Goals as goal

pub variables-requires-clause-inside : goal.variables-requires-clause-inside
variables-requires-clause-inside c =
    let nodes = c.args.placed.now.nodes in
    let n = c.node-main.result.now in
    let main = main_here nodes c.nodes.result (c.nodes.result - 1) n c.nodes.ensures.count refl c.node-main.ensures.is in
    main_inside nodes n c.args.played.now.inside main c.requires.inside

pub returns : goal.returns
returns c =
    let nodes = c.args.placed.now.nodes in
    let n = c.node-main.result.now in
    let vs = all_seen c.in_ok-variables.variables.items in
    let noted = text_of (notes c.args.played.now.inside) in
    let main = main_here nodes c.nodes.result (c.nodes.result - 1) n c.nodes.ensures.count refl c.node-main.ensures.is in
    let text = c.in_ok-put_dump.ensures ∙ ap (λ x. x ++ text_of (dump c.bytes.result.now (all_seen c.deref.result.now) c.args.instants)) (c.in_ok-put_notes.ensures ∙ ap (λ x. x ++ noted) c.new-text.ensures.items)
    ∙ ap (λ x. noted ++ text_of (dump x (all_seen c.deref.result.now) c.args.instants)) c.bytes.ensures
    ∙ ap (λ x. noted ++ text_of (dump n.name.text (all_seen x) c.args.instants)) c.deref.ensures.value in
    let v = c.in_ok-variables.variables in
    let few : length vs < 2 ^ 64 = omega (arith, length-map v.items seen, v.ok, v.small) in
    wave_is nodes c.args.clocks.now c.args.outputs.now c.args.played.now.lists c.args.played.now.streams c.args.played.now.inside c.args.instants n c.main_words-words.result.now vs c.put_dump.new.out.items
    main c.main_words-words.ensures c.in_ok-variables.ensures.shown few c.in_ok-variables.ensures.fit c.in_ok-variables.ensures.fit_inside text
