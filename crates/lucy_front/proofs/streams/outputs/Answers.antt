use Rattle.std.proofs.Common.{◌-◌, length, map, ap, sym, refl, ◌∙◌, arith}
use Rattle.std.proofs.lemmas.Option.{slice_get_read}
use Rattle.std.proofs.lemmas.Result.{IfOk-weaker}
use Rattle.lucy_types.specs.Tables.{table_at}
use Rattle.lucy_clock.specs.declared.node_clock.NodeClock.{NodeClock}
use Rattle.lucy_program.specs.Scheduled.{main_output}
use Rattle.lucy_front.proofs.StreamLaws.{types_all, words_past, outputs_are}
use Rattle.lucy_front.proofs.streams.outputs.Goals as goal

pub outputs_at-requires-clause-all : goal.outputs_at-requires-clause-all
outputs_at-requires-clause-all c =
    let count = c.nodes-last.ensures.count in
    let some = c.nodes-last.ensures.some in
    types_all c.args.placed.now.nodes c.args.typed.now (c.nodes-last.result - 1) c.node-main.result.now c.requires.typed (omega arith) c.node-main.ensures.is

pub outputs_at-requires-clause-words : goal.outputs_at-requires-clause-words
outputs_at-requires-clause-words c =
    let count = c.nodes-last.ensures.count in
    let some = c.nodes-last.ensures.some in
    let all = c.requires.clocks.1.all in
    let clocks = c.args.clocks.now in
    let clock : NodeClock = c.index-clocks-last.result in
    let at = slice_get_read clocks (length clocks) (c.nodes-last.result - 1) clock refl (omega arith) c.index-clocks-last.is in
    let past = words_past c.args.placed.now.nodes clocks (c.nodes-last.result - 1) c.node-main.result.now clock c.requires.clocks.1 c.node-main.ensures.is at in
    let words = ap length c.list-words.ensures in
    let same = ap (λ (x : NodeClock). length x.words) c.index-clocks-last.is in
    omega arith

pub returns : goal.returns
returns c =
    let count = c.nodes-last.ensures.count in
    let some = c.nodes-last.ensures.some in
    let all = c.requires.clocks.1.all in
    let nodes = c.args.placed.now.nodes in
    let tables = c.args.typed.now in
    let clocks = c.args.clocks.now in
    let main = c.node-main.result.now in
    let clock : NodeClock = c.index-clocks-last.result in
    let at = slice_get_read clocks (length clocks) (c.nodes-last.result - 1) clock refl (omega arith) c.index-clocks-last.is in
    let words = c.list-words.ensures ∙ sym (ap (λ (x : NodeClock). x.words) c.index-clocks-last.is) in
    IfOk-weaker c.outputs_at.result _ _ (λ v is.
    is ∙ ap (λ w. map (main_output main (table_at tables (length tables - 1)) w) c.list.result.now) words
    ∙ outputs_are nodes tables (c.nodes-last.result - 1) main c.requires.typed (omega arith) c.node-main.ensures.is clocks clock c.list.result.now at c.list.ensures) c.outputs_at.ensures
