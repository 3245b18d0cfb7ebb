-- What the trace of a run owes is one ending, and traces up to the horizon of what main is fed.
use Rattle.std.proofs.Common.{ℕ, List, Option}
use Rattle.std.specs.Prelude.{ℤ}
use Rattle.lucy_lines.specs.CutLaws.{OneCut, CutInPieces}
use Rattle.lucy_lines.specs.declared.reader.TextFault.{TextFault}
use Rattle.lucy_lines.specs.Feeding.{OneFeed}
use Rattle.lucy_trace.specs.Traces.{IsTraceText}
use Rattle.lucy_run.specs.Owes.{input_words, EndsFor}
use Rattle.lucy_run.specs.Laws.{OneTrace, CompleteTrace}
use Rattle.lucy_run.proofs.OwesLaws.{OneHorizon, fed_once, ends_once, carried, done_for}
use Rattle.lucy_run.proofs.WholeLaws.{owed_so}

pub trace_once : OneFeed → OneHorizon → OneTrace
trace_once one horizons a given taken stop output out end other (lists, fault, horizon, fed, traced, ends) (others, stops, last, so, traces, past) =
    let same = fed_once one horizons a given taken stop lists others fault stops horizon last fed so in
    let P : List (List ℤ) → Option TextFault → ℕ → Type 0 = λ u f t. IsTraceText a.net t output × EndsFor (input_words a) given u f end in
    let moved = carried P lists others fault stops horizon last same.0 same.1 same.2 (traced, ends) in
    (ends_once (input_words a) given others stops end other moved.1 past, others, stops, last, so, moved.0, traces)

-- by an input without a fault a run is traced to its end
pub trace_whole : OneCut → CutInPieces → OneHorizon → CompleteTrace
trace_whole cut pieces horizons a given before after taken stop lists horizon output end read well fed (others, fault, last, is, traced, ends) =
    let P : List (List ℤ) → Option TextFault → ℕ → Type 0 = λ u f t. IsTraceText a.net t output × EndsFor (input_words a) given u f end in
    let owed = owed_so cut pieces horizons a given before after taken stop lists horizon read well fed P others fault last is (traced, ends) in
    (owed.0, done_for (input_words a) given lists end fed.few owed.1)
