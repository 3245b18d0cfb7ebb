use Rattle.std.specs.Prelude.{slice_get, List, ℤ}
use Rattle.std.proofs.Common.{ap, sym, ◌∙◌}
use Rattle.lucy_host.specs.Operators.{kinds_of}
use Rattle.lucy_stream.specs.Items.{list_at}
use Rattle.lucy_results.specs.Streams.{main_streams, result_words}
use Rattle.lucy_interleaving.proofs.WholenessLaws.{scheduled, output_word, list_count, value_there}
use Rattle.lucy_interleaving.proofs.laws.streams_have_every_item.Goals as goal

pub returns-clause-places : goal.returns-clause-places
returns-clause-places c = λ ops o text a inputs horizon spot word fed is on.
    c.places_are_whole.ensures.whole (kinds_of ops) inputs a.placed.nodes a.clocks.items spot word horizon
    (c.accepted_programs_are_clocked.ensures.proper ops o text a fed.accepted)
    (c.accepted_programs_are_clocked.ensures.clocked ops o text a fed.accepted) (scheduled ops o text a fed.accepted) fed.suffice is on

pub returns-clause-lines : goal.returns-clause-lines
returns-clause-lines c = λ ops o text a inputs horizon i output instant fed out low high one.
    let streams : List (List ℤ) = main_streams (kinds_of ops) inputs a.placed.nodes a.clocks.items horizon in
    value_there output (list_at streams i) instant horizon low high one
    (list_count streams (result_words a.placed.nodes a.clocks.items) horizon i output.word
    (c.streams_are_whole.ensures (kinds_of ops) inputs a.placed.nodes a.clocks.items horizon
    (c.accepted_programs_are_clocked.ensures.proper ops o text a fed.accepted) (scheduled ops o text a fed.accepted) fed.suffice)
    (output_word a.placed.nodes a.typed a.clocks.items i output (ap (λ xs. slice_get xs i) (sym fed.accepted.outputs) ∙ out)))
