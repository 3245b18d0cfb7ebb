-- At most one output may stand for a command.
use Rattle.std.proofs.Common.{ℕ, ◌≡◌, ◌≤◌, List, [], ◌∷◌, ◌++◌, length, Option, Some, None, refl, ap, sym, ◌∙◌, subst, inl, inr}
use Rattle.std.specs.Prelude.{ℤ, IsSomeAnd, codes}
use Rattle.lucy_word.specs.Bits.{Bits}
use Rattle.lucy_word.specs.Limits.{limit_number}
use Rattle.lucy_word.specs.declared.limit.Limit.TheVariants as limit
use Rattle.lucy_host.specs.Operators.{Operator, kinds_of}
use Rattle.lucy_host.specs.declared.kind.HostKind.{HostKind}
use Rattle.lucy_text.specs.Shelf.{Files, SeenShelf}
use Rattle.lucy_lines.specs.CutLaws.{OneCut}
use Rattle.lucy_lines.specs.declared.input.InputSpec.{InputSpec}
use Rattle.lucy_text.specs.Sources.{Ended}
use Rattle.lucy_program.specs.declared.options.Options.{Options}
use Rattle.lucy_program.specs.declared.accepted.Accepted.{Accepted}
use Rattle.lucy_front.specs.declared.refusal.Refusal.{Refusal}
use Rattle.lucy_program.specs.Accepting.{IsAccepted}
use Rattle.lucy_front.specs.Refusing.{RefusesSyntax, RefusesText}
use Rattle.lucy_program.specs.Report.{report}
use Rattle.lucy_run.specs.Feeds.{IsMainInput}
use Rattle.lucy_run.specs.Owes.{most_instants, input_words, heading, lines_to, stream_lines, IsHorizonOf}
use Rattle.lucy_run.specs.Laws.{IsFedWell}
use Rattle.lucy_run.specs.Replays.{IsReplayText}
use Rattle.lucy_run.proofs.ReplayLaws.{text_once}
use Rattle.lucy_fields.specs.Readings.{AreRead}
use Rattle.lucy_trace.specs.Logs.{picks_of}
use Rattle.lucy_trace.specs.Traces.{IsTraceText}
use Rattle.lucy_net.specs.declared.net.Net.{Net}
use Rattle.lucy_tight.specs.Laws.{OneTightest}
use Rattle.lucy_app.proofs.ReplaysOnce.{picks_one, text_moves}
use Rattle.lucy_run.proofs.OwesLaws.{OneHorizon}
use Rattle.lucy_make.specs.Text.{made_text, made_input}
use Rattle.lucy_make.specs.Figures.{figures}
use Rattle.lucy_make.specs.Owes.{printed_values}
use Rattle.lucy_command.specs.Commands.{Command, Order, Show, Types, Check, Clocks, Run, Kahn, Make, Tighten, Replay, Trace}
use Rattle.lucy_app.specs.Commands.{written_options, inferring_options, Wanted, program_of, log_of}
use Rattle.lucy_app.specs.World.{World}
use Rattle.lucy_app.specs.Order.{IsVerdictLine}
use Rattle.lucy_app.specs.Show.{IsPrintOf}
use Rattle.lucy_app.specs.Types.{IsReportOf}
use Rattle.lucy_app.specs.Check.{IsCheckOf, RefusesCheck}
use Rattle.lucy_app.specs.Running.{IsRunnable}
use Rattle.lucy_app.specs.Complete.{HoldsText, HoldsSuch, MayPrint, MayRun}
use Rattle.lucy_app.proofs.Causes.{one_line}
use Rattle.lucy_app.proofs.Verdicts.{IsVerdict, show_verdict}
use Rattle.lucy_app.proofs.Typed.{types_verdict}
use Rattle.lucy_app.proofs.Checked.{check_verdict}
use Rattle.lucy_app.proofs.RunsOnce.{AreSame, accepted_same}
use Rattle.lucy_app.specs.Answers.{Answer, AreOneBut, MayDiffer, printed}
use Rattle.lucy_app.specs.Tighten.{IsTightOf}
use Rattle.lucy_app.proofs.TightOnce.{prints_alike}
use Rattle.lucy_app.proofs.MakesOnce.{whole_feeds, values_same, words_same}

-- a shelf tells one text under a name
told_one : (files : Option Files) (file text other : List ℕ) → IsSomeAnd files (λ held. held file ≡ Some text) → IsSomeAnd files (λ held. held file ≡ Some other) → text ≡ other
told_one None file text other is also = absurd is
told_one (Some files) file text other is also = let e : Some text ≡ Some other = sym is ∙ also in cc e

pub held_one : (shelf : SeenShelf) (file : Wanted) (text other : List ℕ) → HoldsText shelf file text → HoldsText shelf file other → text ≡ other
held_one shelf file text other is also = told_one shelf.files file.file text other is.0 also.0

-- a text has one print
print_one : (Prints : List ℕ → List ℕ → Type 0) (Refuses : List ℕ → Refusal → Type 0) → IsVerdict Prints Refuses → (shelf : SeenShelf) (file : Wanted) (a b : List ℕ) →
    HoldsSuch (λ text. Prints text a) shelf file → HoldsSuch (λ text. Prints text b) shelf file → a ≡ b
print_one Prints Refuses v shelf file a b (text, holds, is) (other, held, also) =
    v.one other a b (subst (λ t. Prints t a) (held_one shelf file text other holds held) is) also

-- and is one program
program_one : (ops : List Operator) (o : Options) (instants : Option ℕ) (shelf : SeenShelf) (file : Wanted) (a b : Accepted) →
    HoldsSuch (λ text. IsRunnable ops o instants text a) shelf file → HoldsSuch (λ text. IsRunnable ops o instants text b) shelf file → AreSame a b
program_one ops o instants shelf file a b (text, holds, is) (other, held, also) =
    accepted_same ops o other a b (subst (λ t. IsAccepted ops o t a) (held_one shelf file text other holds held) is.0) also.0

-- `order` prints one line
line_one : (left : Option (List ℕ)) (a b : List ℕ) → IsSomeAnd left (λ bytes. IsVerdictLine bytes a × (length bytes ≤ limit_number limit.OrderInput)) →
    IsSomeAnd left (λ bytes. IsVerdictLine bytes b × (length bytes ≤ limit_number limit.OrderInput)) → a ≡ b
line_one None a b is also = absurd is
line_one (Some bytes) a b is also = one_line bytes a b is.0 also.0

-- an input that is told feeds main one list of lists
input_one : OneCut → (inputs : List InputSpec) (left : Option (List ℕ)) (lists others : List (List ℤ)) → IsMainInput inputs left lists → IsMainInput inputs left others → lists ≡ others
input_one cut [] left lists others is also = is ∙ sym also
input_one cut (input ∷ inputs) None lists others is also = absurd is
input_one cut (input ∷ inputs) (Some bytes) lists others is also =
    (whole_feeds cut (input ∷ inputs) bytes Ended Ended lists others None None refl refl is also).0

module _ (cut : OneCut) (horizons : OneHorizon) (kinds : List HostKind) (a b : Accepted) (same : AreSame a b) (given : Option ℕ) (left : Option (List ℕ)) (lists others : List (List ℤ)) (horizon last : ℕ)
    (fed : IsFedWell a given left lists horizon) (also : IsFedWell b given left others last) where
  lists_same : lists ≡ others
  lists_same = input_one cut b.inputs.items left lists others (subst (λ ins. IsMainInput ins left lists) same.inputs fed.input) also.input

  horizon_same : horizon ≡ last
  horizon_same =
      let P : List Bits → Type 0 = λ ws. IsHorizonOf ws given lists horizon in
      let Q : List (List ℤ) → Type 0 = λ ls. IsHorizonOf (input_words b) given ls horizon in
      horizons (input_words b) others (most_instants given) horizon last (subst Q lists_same (subst P (words_same 0 kinds a b same) fed.horizon_is)) also.horizon_is

  -- its lines are the same
  lines_same : lines_to kinds a lists horizon ≡ lines_to kinds b others last
  lines_same =
      ap (λ ns. stream_lines kinds ns a.clocks.items a.outputs.items lists horizon) same.nodes ∙ ap (λ cs. stream_lines kinds b.placed.nodes cs a.outputs.items lists horizon) same.clocks
      ∙ ap (λ os. stream_lines kinds b.placed.nodes b.clocks.items os lists horizon) same.outputs ∙ ap (λ ls. stream_lines kinds b.placed.nodes b.clocks.items b.outputs.items ls horizon) lists_same
      ∙ ap (λ t. stream_lines kinds b.placed.nodes b.clocks.items b.outputs.items others t) horizon_same

  -- with the report before them too
  run_same : heading a ++ lines_to kinds a lists horizon ≡ heading b ++ lines_to kinds b others last
  run_same =
      let head : heading a ≡ heading b =
      ap (λ ns. report ns a.typed a.clocks.items ++ codes "run\n") same.nodes ∙ ap (λ ts. report b.placed.nodes ts a.clocks.items ++ codes "run\n") same.typed
      ∙ ap (λ cs. report b.placed.nodes b.typed cs ++ codes "run\n") same.clocks in
      ap (λ h. h ++ lines_to kinds a lists horizon) head ∙ ap (λ ls. heading b ++ ls) lines_same

  -- and so are the figures
  figures_same : (stages : ℕ) → figures stages a.net horizon (printed_values kinds a lists horizon) ≡ figures stages b.net last (printed_values kinds b others last)
  figures_same stages =
      ap (λ net. figures stages net horizon (printed_values kinds a lists horizon)) same.net ∙ ap (λ vs. figures stages b.net horizon vs) (values_same stages kinds a b same lists horizon)
      ∙ ap (λ ls. figures stages b.net horizon (printed_values kinds b ls horizon)) lists_same ∙ ap (λ t. figures stages b.net t (printed_values kinds b others t)) horizon_same

  -- and the text of a replay is one
  replays_same : (ops : List Operator) (picks events output out : List ℕ) → picks ≡ events → IsReplayText (kinds_of ops) a lists horizon picks output →
      IsReplayText (kinds_of ops) b others last events out → output ≡ out
  replays_same ops picks events output out one text also =
      let P : List (List ℤ) → Type 0 = λ ls. IsReplayText (kinds_of ops) b ls horizon picks output in
      let Q : ℕ → Type 0 = λ t. IsReplayText (kinds_of ops) b others t picks output in
      let R : List ℕ → Type 0 = λ ps. IsReplayText (kinds_of ops) b others last ps output in
      let moved = subst R one (subst Q horizon_same (subst P lists_same (text_moves ops a b same lists horizon picks output text))) in
      text_once (kinds_of ops) b others last events output out moved also

-- a log that is held names one list of events
log_one : (shelf : SeenShelf) (file : Wanted) (picks events : List ℕ) → HoldsSuch (λ log. AreRead (picks_of log) picks) shelf file → HoldsSuch (λ log. AreRead (picks_of log) events) shelf file → picks ≡ events
log_one shelf file picks events (text, holds, is) (other, held, also) =
    picks_one other picks events (subst (λ t. AreRead (picks_of t) picks) (held_one shelf file text other holds held) is) also

-- two outputs are one
one_printed : (Differ : Answer → Answer → Type 0) (a b : List ℕ) → a ≡ b → AreOneBut Differ (printed a) (printed b)
one_printed Differ a b e = inl (ap printed e)

pub output_one : OneCut → OneHorizon → OneTightest → (command : Command) (before : World) (a b : List ℕ) → MayPrint command before a →
    MayPrint command before b → AreOneBut (MayDiffer (MayRun before) command) (printed a) (printed b)
output_one cut horizons tight Order before a b is also = one_printed (MayDiffer (MayRun before) Order) a b (line_one before.source.left a b is also)
output_one cut horizons tight (Show file) before a b is also =
    one_printed (MayDiffer (MayRun before) (Show file)) a b (print_one IsPrintOf RefusesSyntax show_verdict before.shelf (program_of file) a b is also)
output_one cut horizons tight (Types file) before a b is also =
    let ops = before.operators in
    one_printed (MayDiffer (MayRun before) (Types file)) a b
    (print_one (IsReportOf ops) (RefusesText ops) (types_verdict ops) before.shelf (program_of file) a b is also)
output_one cut horizons tight (Check file) before a b is also =
    let ops = before.operators in
    one_printed (MayDiffer (MayRun before) (Check file)) a b
    (print_one (IsCheckOf ops written_options) (RefusesCheck ops written_options) (check_verdict ops written_options) before.shelf
    (program_of file)
    a b is also)
output_one cut horizons tight (Clocks words) before a b is also =
    let ops = before.operators in
    let o : Options = inferring_options words.scale words.lead in
    one_printed (MayDiffer (MayRun before) (Clocks words)) a b
    (print_one (IsCheckOf ops o) (RefusesCheck ops o) (check_verdict ops o) before.shelf (program_of words.file) a b is also)
output_one cut horizons tight (Run words workers block) before a b (p, lists, horizon, held, fed, is) (q, others, last, holds, feeds, also) =
    let kinds = kinds_of before.operators in
    let same = program_one before.operators (inferring_options words.scale words.lead) words.instants before.shelf (program_of words.file)
    p q held holds in
    one_printed (MayDiffer (MayRun before) (Run words workers block)) a b
    (is ∙ run_same cut horizons kinds p q same words.instants before.source.left lists others horizon last fed feeds ∙ sym also)
output_one cut horizons tight (Kahn words) before a b (p, lists, horizon, held, fed, (turns, items, is))
    (q, others, last, holds, feeds, (few, short, also)) =
    let kinds = kinds_of before.operators in
    let same = program_one before.operators (inferring_options words.scale words.lead) words.instants before.shelf (program_of words.file)
    p q held holds in
    one_printed (MayDiffer (MayRun before) (Kahn words)) a b
    (is ∙ lines_same cut horizons kinds p q same words.instants before.source.left lists others horizon last fed feeds ∙ sym also)
output_one cut horizons tight (Make words) before a b (p, lists, horizon, runs, fed, is) (q, others, last, run, feeds, also) =
    let kinds = kinds_of before.operators in
    let same = accepted_same before.operators (inferring_options 1 1) (made_text words.stages) p q runs.0 run.0 in
    one_printed (MayDiffer (MayRun before) (Make words)) a b
    (is ∙ figures_same cut horizons kinds p q same None (Some made_input) lists others horizon last fed feeds words.stages ∙ sym also)
output_one cut horizons tight (Tighten words node buffer) before a b (text, holds, is) (other, held, also) =
    let o : Options = inferring_options words.scale words.lead in
    let same : text ≡ other = held_one before.shelf (program_of words.file) text other holds held in
    prints_alike tight before.operators o node buffer other a b (subst (λ t. IsTightOf before.operators o node buffer t a) same is) also
output_one cut horizons tight (Replay words name) before a b (p, lists, horizon, held, fed, (picks, log, run, is))
    (q, others, last, holds, feeds, (events, logs, ran, also)) =
    let same = program_one before.operators (inferring_options words.scale words.lead) words.instants before.shelf (program_of words.file)
    p q held holds in
    one_printed (MayDiffer (MayRun before) (Replay words name)) a b
    (replays_same cut horizons (kinds_of before.operators) p q same words.instants before.source.left lists others horizon last fed feeds
    before.operators picks events a b
    (log_one before.shelf (log_of name) picks events log logs) is also)
output_one cut horizons tight (Trace words workers) before a b (p, lists, horizon, held, fed, is) (q, others, last, holds, feeds, also) =
    let same = program_one before.operators (inferring_options words.scale words.lead) words.instants before.shelf (program_of words.file)
    p q held holds in
    let there = horizon_same cut horizons (kinds_of before.operators) p q same words.instants before.source.left lists others horizon last
    fed feeds in
    let moved : IsTraceText q.net horizon a = subst (λ (net : Net). IsTraceText net horizon a) same.net is in
    inr (refl, refl, q.net, last, (q, others, last, holds, feeds, (refl, refl)), subst (λ t. IsTraceText q.net t a) there moved, also)
