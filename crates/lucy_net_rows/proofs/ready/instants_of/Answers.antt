use Rattle.std.proofs.Common.{length, ap, sym, ◌∙◌, arith}
use Rattle.lucy_results.specs.Streams.{param_words}
use Rattle.lucy_net_rows.proofs.ReadyLaws.{none_suffices, at_none, one_suffices, one_early}
use Rattle.lucy_net_rows.proofs.ready.instants_of.Goals as goal

pub returns-in-0-clause-suffice : goal.returns-in-0-clause-suffice
returns-in-0-clause-suffice c = λ inputs one. none_suffices (param_words c.args.placed.now.nodes c.args.clocks.now) inputs 2 (sym (ap length c.param_words-words.ensures.words) ∙ c.in-0.is)

pub returns-in-1-clause-suffice : goal.returns-in-1-clause-suffice
returns-in-1-clause-suffice c = λ inputs one.
    one_suffices c.param_words-words.result.now (param_words c.args.placed.now.nodes c.args.clocks.now) inputs c.args.items c.number.result c.horizon.result c.param_words-words.ensures.words one c.horizon.ensures

pub returns-in-1-clause-early : goal.returns-in-1-clause-early
returns-in-1-clause-early c = (let most = one_early c.param_words-words.result.now c.args.items c.number.result c.horizon.result c.horizon.ensures in omega arith)

pub returns-in_default-clause-suffice : goal.returns-in_default-clause-suffice
returns-in_default-clause-suffice c = λ inputs one. at_none (param_words c.args.placed.now.nodes c.args.clocks.now) inputs
