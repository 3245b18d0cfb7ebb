use Rattle.std.proofs.Common.{◌+◌, ◌-◌, ◌≡◌, length, take, drop, ap, sym, refl, ◌∙◌, arith}
use Rattle.std.proofs.lemmas.Option.{same_Some, slice_get_read}
use Rattle.lucy_clock.specs.declared.node_clock.NodeClock.{NodeClock}
use Rattle.lucy_results.proofs.ClockLaws.{main_is, params_are}
use Rattle.lucy_results.proofs.clocks.param_words.Goals as goal

pub returns-clause-words : goal.returns-clause-words
returns-clause-words c =
    let is = main_is c.args.placed.now.nodes c.args.clocks.now (c.nodes-main.result - 1) c.node.result.now c.nodes-main.ensures.proper c.requires (ap (λ n. n - 1) c.nodes-main.ensures.count) c.node.ensures.is in
    let at_main = slice_get_read c.args.clocks.now (length c.args.clocks.now) (c.nodes-main.result - 1) c.index-clocks-main.result refl is.within c.index-clocks-main.is in
    let same : is.clock ≡ c.index-clocks-main.result = same_Some is.clock c.index-clocks-main.result (sym is.there ∙ at_main) in
    let words = c.list.ensures ∙ ap (λ (k : NodeClock). k.words) (sym c.index-clocks-main.is ∙ sym same) in
    let count : c.node.result.now.params + 1 - 1 ≡ c.node.result.now.params = omega arith in
    ap (λ n. take n (drop 1 c.list.result.now)) count ∙ ap (λ ws. take c.node.result.now.params (drop 1 ws)) words
    ∙ sym (params_are c.args.placed.now.nodes c.args.clocks.now (c.nodes-main.result - 1) c.node.result.now is)
