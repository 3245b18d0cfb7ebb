-- What `replay` owes is one answer, but for the evidence of a refusal.
use Rattle.std.proofs.Common.{ℕ, ◌≡◌, ◌⊎◌, List, [], ◌∷◌, ◌++◌, length, Option, Result, Ok, Err, refl, ap, sym, ◌∙◌, subst, inl, inr}
use Rattle.std.specs.Prelude.{ℤ}
use Rattle.lucy_host.specs.Operators.{Operator, kinds_of}
use Rattle.lucy_text.specs.declared.shelf.ShelfError.{ShelfError}
use Rattle.lucy_text.specs.declared.shelf.ShelfError.TheVariants as shelf
use Rattle.lucy_lines.specs.declared.reader.TextFault.{TextFault}
use Rattle.lucy_text.specs.Sources.{ReadStop}
use Rattle.lucy_fields.specs.Readings.{AreRead}
use Rattle.lucy_fields.proofs.ReadingLaws.{good, never_both, one_place}
use Rattle.lucy_trace.specs.Logs.{picks_of, IsFirstImpossible}
use Rattle.lucy_trace.specs.declared.error.TraceError.{TraceError}
use Rattle.lucy_trace.specs.declared.error.TraceError.TheVariants.{BadNumber}
use Rattle.lucy_place.specs.declared.placed.PlacedNode.{PlacedNode}
use Rattle.lucy_clock.specs.declared.node_clock.NodeClock.{NodeClock}
use Rattle.lucy_lines.specs.declared.output.OutputSpec.{OutputSpec}
use Rattle.lucy_net.specs.declared.net.Net.{Net}
use Rattle.lucy_net.specs.Plans.{net_system}
use Rattle.lucy_stream.specs.Runs.{none_done, after, IsRun}
use Rattle.lucy_host.specs.declared.kind.HostKind.{HostKind}
use Rattle.lucy_kahn.specs.Sizes.{all_places}
use Rattle.lucy_lines.specs.Outputs.{output_text}
use Rattle.lucy_results.specs.Streams.{param_words, main_streams, taken_of}
use Rattle.lucy_program.specs.declared.accepted.Accepted.{Accepted}
use Rattle.lucy_program.specs.declared.options.Options.{Options}
use Rattle.lucy_run.specs.declared.ending.Ending.{Ending}
use Rattle.lucy_run.specs.Owes.{EndsFor}
use Rattle.lucy_run.specs.Replays.{SaysFinished, tally, IsReplayText, Judges, OwesReplay}
use Rattle.lucy_run.specs.Laws.{OneReplay}
use Rattle.lucy_app.specs.Outcomes.{NoRun}
use Rattle.lucy_app.specs.Answers.{Answer, AreOneBut, AreRefusedAlike, log_refused}
use Rattle.lucy_app.specs.Replaying.{replayed, OwesEvents, OwesLog, OwesLogged}
use Rattle.lucy_app.proofs.RunsOnce.{AreSame, accepted_same, moves, fed_moves, runs_alike}

-- a log names one list of events
good_once : (xs ys : List ℕ) → good xs ≡ good ys → xs ≡ ys
good_once [] [] e = refl
good_once [] (y ∷ ys) e = absurd (cc e)
good_once (x ∷ xs) [] e = absurd (cc e)
good_once (x ∷ xs) (y ∷ ys) e = let rest : good xs ≡ good ys = cc e in let more = good_once xs ys rest in cc (e, more)

pub picks_one : (text : List ℕ) (xs ys : List ℕ) → AreRead (picks_of text) xs → AreRead (picks_of text) ys → xs ≡ ys
picks_one text xs ys is also = good_once xs ys (sym is ∙ also)

-- the text of a replay, by the parts of the program that it reads
abbrev pub IsTextBy : List HostKind → Net → List PlacedNode → List NodeClock → List OutputSpec → (lists : List (List ℤ)) → (horizon : ℕ) → (picks output : List ℕ) → Type 0
IsTextBy kinds net nodes clocks outputs lists horizon picks output =
    (line : List ℕ) × SaysFinished (net_system net horizon) (after none_done picks) line × (output ≡ tally (length picks) line
    ++ output_text outputs (taken_of (all_places nodes) (after none_done picks) (main_streams kinds lists nodes clocks horizon)) horizon)

-- what is owed of one program of a text is owed of the other
module _ (ops : List Operator) (a b : Accepted) (same : AreSame a b) where
  pub text_moves : (lists : List (List ℤ)) (horizon : ℕ) (picks output : List ℕ) → IsReplayText (kinds_of ops) a lists horizon picks output → IsReplayText (kinds_of ops) b lists horizon picks output
  text_moves lists horizon picks output text =
      let kinds = kinds_of ops in
      let P : Net → Type 0 = λ net. IsTextBy kinds net a.placed.nodes a.clocks.items a.outputs.items lists horizon picks output in
      let Q : List PlacedNode → Type 0 = λ ns. IsTextBy kinds b.net ns a.clocks.items a.outputs.items lists horizon picks output in
      let R : List NodeClock → Type 0 = λ cs. IsTextBy kinds b.net b.placed.nodes cs a.outputs.items lists horizon picks output in
      let S : List OutputSpec → Type 0 = λ os. IsTextBy kinds b.net b.placed.nodes b.clocks.items os lists horizon picks output in
      subst S same.outputs (subst R same.clocks (subst Q same.nodes (subst P same.net text)))

  module _ (instants : Option ℕ) (picks taken : List ℕ) (stop : ReadStop) (output : List ℕ) where
    judges_move : (lists : List (List ℤ)) (fault : Option TextFault) (horizon : ℕ) (result : Result Ending TraceError) →
        Judges (kinds_of ops) a instants lists fault horizon picks output result → Judges (kinds_of ops) b instants lists fault horizon picks output result
    judges_move lists fault horizon (Ok end) (run, text, ends) = (
      subst (λ net. IsRun (net_system net horizon) none_done picks) same.net run,
      text_moves lists horizon picks output text,
      moves (kinds_of ops) a b same instants taken stop (λ ns cs. EndsFor (param_words ns cs) instants lists fault end) ends,
    )
    judges_move lists fault horizon (Err e) (bad, none) = (subst (λ net. IsFirstImpossible (IsRun (net_system net horizon) none_done) picks e) same.net bad, none)

    pub replay_moves : (result : Result Ending TraceError) → OwesReplay ops a instants picks taken stop output result → OwesReplay ops b instants picks taken stop output result
    replay_moves result (lists, fault, horizon, fed, judged) =
        (lists, fault, horizon, fed_moves (kinds_of ops) a b same instants taken stop lists fault horizon fed, judges_move lists fault horizon result judged)

module _ (again : OneReplay) (ops : List Operator) (instants : Option ℕ) (taken : List ℕ) (stop : ReadStop) where
  events_once : (a b : Accepted) → AreSame a b → (picks : List ℕ) (x y : Answer) → OwesEvents ops a instants taken stop picks x → OwesEvents ops b instants taken stop picks y → x ≡ y
  events_once a b same picks x y (output, result, owed, is) (out, other, owes, also) =
      let one = again ops b instants picks taken stop output out result other (replay_moves ops a b same instants picks taken stop output result owed) owes in
      is ∙ ap (λ o. replayed o result) one.0 ∙ ap (replayed out) one.1 ∙ sym also

  -- what is owed of a log is one answer
  log_once : (a b : Accepted) → AreSame a b → (log : Result (List ℕ) ShelfError) (x y : Answer) → OwesLog (OwesEvents ops a instants taken stop) stop log x →
      OwesLog (OwesEvents ops b instants taken stop) stop log y → x ≡ y
  log_once a b same (Ok text) x y (inl (place, (front, rest, at), is, still)) (inl (other, (others, left, there), also, unread)) =
      is ∙ ap (λ p. log_refused (BadNumber p)) (one_place front others place other rest left (sym at ∙ there)) ∙ sym also
  log_once a b same (Ok text) x y (inl (place, (front, rest, at), is, still)) (inr (picks, read, owed)) = absurd (never_both picks front place rest (sym read ∙ at))
  log_once a b same (Ok text) x y (inr (picks, read, owed)) (inl (place, (front, rest, at), is, still)) = absurd (never_both picks front place rest (sym read ∙ at))
  log_once a b same (Ok text) x y (inr (picks, read, owed)) (inr (others, reads, owes)) =
      events_once a b same others x y (subst (λ ps. OwesEvents ops a instants taken stop ps x) (picks_one text picks others read reads) owed) owes
  log_once a b same (Err shelf.Failed) x y h k = h.0 ∙ sym k.0
  log_once a b same (Err shelf.Missing) x y h k = h.0 ∙ sym k.0
  log_once a b same (Err shelf.TooLong) x y h k = h.0 ∙ sym k.0
  log_once a b same (Err shelf.OutOfMemory) x y h k = absurd h.0

  -- and so is what is owed of both files
  pub logged_alike : (Differ : Answer → Answer → Type 0) (o : Options) (fetched : List (Result (List ℕ) ShelfError)) (x y : Answer) →
      OwesLogged ops o instants taken stop fetched x → OwesLogged ops o instants taken stop fetched y → AreOneBut Differ x y ⊎ AreRefusedAlike x y
  logged_alike Differ o [] x y h k = absurd h
  logged_alike Differ o (file ∷ []) x y h k =
      runs_alike Differ NoRun (λ a b output other end way same p q. absurd p) ops o instants stop (file ∷ []) x y h k
  logged_alike Differ o (Ok text ∷ (log ∷ [])) x y (a, can, owed) (b, may, owes) =
      inl (inl (log_once a b (accepted_same ops o text a b can.0 may.0) log x y owed owes))
  logged_alike Differ o (Err e ∷ (log ∷ [])) x y h k = absurd h
  logged_alike Differ o (file ∷ (log ∷ (other ∷ more))) x y h k = absurd h
