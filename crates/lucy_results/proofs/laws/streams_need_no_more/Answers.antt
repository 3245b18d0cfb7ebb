use Rattle.std.proofs.Common.{◌∙◌}
use Rattle.lucy_results.specs.Streams.{param_words}
use Rattle.lucy_results.proofs.StreamLaws.{params_count, cut_suffices, cut_streams}
use Rattle.lucy_results.proofs.laws.streams_need_no_more.Goals as goal

pub returns-clause-suffice : goal.returns-clause-suffice
returns-clause-suffice c = λ inputs nodes clocks instants params suffice. cut_suffices (param_words nodes clocks) inputs instants (params_count nodes clocks ∙ params) suffice

pub returns-clause-same : goal.returns-clause-same
returns-clause-same c = λ kinds inputs nodes clocks instants proper schedule params suffice. cut_streams nodes clocks proper schedule inputs params instants suffice kinds
