use Rattle.std.proofs.Common.{◌≡◌, ◌-◌, ◌++◌, ◌∷◌, [], ap, sym, refl, ◌∙◌, subst, length, get_or, arith}
use Rattle.std.specs.Prelude.{slice_get}
use Rattle.std.proofs.lemmas.Option.{slice_get_within, slice_get-get_or}
use Rattle.lucy_word.specs.Bits.{IsWord}
use Rattle.lucy_word.specs.Shortest.{IsShortest}
use Rattle.lucy_kahn.specs.Spots.{at}
use Rattle.lucy_kahn.specs.Numbers.{number}
use Rattle.lucy_net.specs.declared.kind.ActorKind.TheVariants.{Output}
use Rattle.lucy_flat.specs.Instances.{IsSpotWord}
use Rattle.lucy_flat.specs.declared.draft.Draft.{Draft}
use Rattle.lucy_flat.proofs.AssemblyLaws.{present}
use Rattle.lucy_flat.proofs.OutputLaws.{main_results, result_is, result_within, result_word, outputs_more, drafts_first, drafts_all}
use Rattle.lucy_flat.proofs.flattening.put_outputs.Goals as goal

pub each-init : goal.each-init
each-init c =
    let put = c.requires.put in
    record { drafts = put.new; are = drafts_first c.args.program.placed.now.nodes c.args.program.clocks.now c.requires.program.proper c.requires.program.clocked c.requires.some put.new put.put; keeps = put.keeps }

pub bounds-words-place : goal.bounds-words-place
bounds-words-place c =
    let nodes = c.args.program.placed.now.nodes in
    let clocks = c.args.program.clocks.now in
    let proper = c.requires.program.proper in
    let clocked = c.requires.program.clocked in
    let clock_count = clocked.count in
    let node_within = slice_get_within nodes c.args.main c.node.result.now c.node.ensures.is in
    let at_clock = slice_get-get_or clocks c.args.main c.index-program-main.result (omega arith) in
    let clock = get_or clocks c.args.main c.index-program-main.result in
    let results = c.list-results.result.now in
    let words = c.list-words.result.now in
    let i = c.each.i in
    let place = get_or results i 0 in
    let there = present results i c.each-test.true in
    result_within nodes clocks proper clocked c.args.main c.node.result.now clock results words c.requires.main c.node.ensures.is at_clock c.list-results.ensures c.list-words.ensures i place there

pub overflow_sub-place : goal.overflow_sub-place
overflow_sub-place c =
    let nodes = c.args.program.placed.now.nodes in
    let clocks = c.args.program.clocks.now in
    let proper = c.requires.program.proper in
    let clocked = c.requires.program.clocked in
    let clock_count = clocked.count in
    let node_within = slice_get_within nodes c.args.main c.node.result.now c.node.ensures.is in
    let at_clock = slice_get-get_or clocks c.args.main c.index-program-main.result (omega arith) in
    let clock = get_or clocks c.args.main c.index-program-main.result in
    let results = c.list-results.result.now in
    let words = c.list-words.result.now in
    let i = c.each.i in
    let place = get_or results i 0 in
    let there = present results i c.each-test.true in
    (result_is nodes clocks proper clocked c.args.main c.node.result.now clock results words c.requires.main c.node.ensures.is at_clock c.list-results.ensures c.list-words.ensures i place there).low

pub each-preserved : goal.each-preserved
each-preserved c =
    let nodes = c.args.program.placed.now.nodes in
    let clocks = c.args.program.clocks.now in
    let proper = c.requires.program.proper in
    let clocked = c.requires.program.clocked in
    let clock_count = clocked.count in
    let node_within = slice_get_within nodes c.args.main c.node.result.now c.node.ensures.is in
    let at_clock = slice_get-get_or clocks c.args.main c.index-program-main.result (omega arith) in
    let clock = get_or clocks c.args.main c.index-program-main.result in
    let results = c.list-results.result.now in
    let words = c.list-words.result.now in
    let i = c.each.i in
    let place = get_or results i 0 in
    let there = present results i c.each-test.true in
    let is = result_is nodes clocks proper clocked c.args.main c.node.result.now clock results words c.requires.main c.node.ensures.is at_clock c.list-results.ensures c.list-words.ensures i place there in
    let z : number nodes (at [] place) ≡ place - 1 = omega arith in
    let w = c.index-words-place.result in
    let spot = result_word nodes clocks proper clocked c.args.main c.node.result.now clock results words c.requires.main c.node.ensures.is at_clock c.list-results.ensures c.list-words.ensures i place w there c.index-words-place.is in
    let before = c.each.invariant in
    let word = c.in_ok-word.ensures.equal in
    let next : Draft = record { kind = Output i; word = c.in_ok-word.word; reads = c.push.new.self; size = 0; gives = c.new.result } in
    record {
      drafts = before.drafts ++ next ∷ [];
      are = outputs_more nodes clocks proper i place before.drafts next before.are (ap (λ t. slice_get t i) (sym (main_results nodes clocks proper clocked c.args.main c.node.result.now clock results words c.requires.main c.node.ensures.is at_clock c.list-results.ensures c.list-words.ensures)) ∙ there) refl
          (c.in_ok-push.ensures.items ∙ ap (λ t. t ++ (place - 1) ∷ []) c.new-reads.ensures.items ∙ ap (λ t. t ∷ []) (sym z))
          (subst (IsSpotWord nodes clocks (at [] place)) (sym word) spot) (subst IsWord (sym word) c.words_are_stored.ensures.word) (subst IsShortest (sym word) c.words_are_stored.ensures.shortest) refl c.new.ensures.items;
      keeps = c.in_ok-keep.ensures.ok before.drafts before.keeps;
    }

pub returns-clause-ok : goal.returns-clause-ok
returns-clause-ok c =
    let nodes = c.args.program.placed.now.nodes in
    let clocks = c.args.program.clocks.now in
    let proper = c.requires.program.proper in
    let clocked = c.requires.program.clocked in
    let clock_count = clocked.count in
    let node_within = slice_get_within nodes c.args.main c.node.result.now c.node.ensures.is in
    let at_clock = slice_get-get_or clocks c.args.main c.index-program-main.result (omega arith) in
    let clock = get_or clocks c.args.main c.index-program-main.result in
    let results = c.list-results.result.now in
    let words = c.list-words.result.now in
    let past = c.each-test.false in
    let high = c.each.auto.i-end in
    let count = ap length (main_results nodes clocks proper clocked c.args.main c.node.result.now clock results words c.requires.main c.node.ensures.is at_clock c.list-results.ensures c.list-words.ensures) in
    let put = c.requires.put in
    let all = c.each.invariant in
    record { drafts = all.drafts; are = drafts_all nodes clocks proper clocked c.requires.some put.new put.put all.drafts c.each.i (omega arith) all.are; keeps = all.keeps }
