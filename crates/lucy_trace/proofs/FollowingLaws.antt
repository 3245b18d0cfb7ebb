-- Rounds behind rounds.
use Rattle.std.proofs.Common.{ℕ, ◌+◌, ◌-◌, ◌<◌, ◌≤◌, ◌≡◌, List, [], ◌∷◌, ◌++◌, map, length, append-nil, ap, sym, refl, ◌∙◌, subst, arith}
use Rattle.std.specs.Prelude.{All, Result, Ok, Err, OnOk}
use Rattle.std.specs.List.{concat}
use Rattle.std.proofs.lemmas.List.{map-append}
use Rattle.std.proofs.lemmas.List.Elements.{All-nil, All-cons, All-append}
use Rattle.std.proofs.lemmas.List.Folds.{concat-append}
use Rattle.lucy_stream.specs.Systems.{System}
use Rattle.lucy_stream.specs.Runs.{after, none_done, IsWhole}
use Rattle.lucy_stream.specs.Schedules.{all_done}
use Rattle.lucy_stream.specs.Totals.{total}
use Rattle.lucy_stream.proofs.AlikeLaws.{IsRun-same, after-same}
use Rattle.lucy_stream.proofs.TotalLaws.{total-same}
use Rattle.lucy_text.specs.Outside.{SeenSink, Writes, Fails}
use Rattle.lucy_lines.proofs.SinkLaws.{unwritten, writes_more, fails_behind, fails_longer}
use Rattle.lucy_core.specs.Seen.{Seen, machine_of, done_of, CanRun, IsOver, IsUnbegun, after_picks}
use Rattle.lucy_core.specs.Laws.{EventsGoByTheNet}
use Rattle.lucy_core.proofs.OpenLaws.{joined_picks}
use Rattle.lucy_runner.specs.Left.{events_left}
use Rattle.lucy_trace.proofs.CatchingLaws.{HasRuns, total_after}
use Rattle.lucy_trace.specs.Traces.{round_line, trace_text, IsTraceText}
use Rattle.lucy_trace.specs.Progress.{IsRoundPrinted, AreRoundsPrinted, LeadsToEnd, IsRest}

-- a run, and one from where it leads, are one run
abbrev pub AreJoined : Seen → Type 0
AreJoined first = (picks more : List ℕ) → CanRun first picks → CanRun (after_picks first picks) more → CanRun first (picks ++ more)

-- some run leads to the end
abbrev pub HasEnd : Seen → Type 0
HasEnd seen = (picks : List ℕ) × CanRun seen picks × IsOver (after_picks seen picks)

text_joined : (xs ys : List (List ℕ)) → trace_text (xs ++ ys) ≡ trace_text xs ++ trace_text ys
text_joined xs ys = ap concat (map-append round_line xs ys) ∙ concat-append (map round_line xs) (map round_line ys)

one_text : (picks : List ℕ) → trace_text (picks ∷ []) ≡ round_line picks
one_text picks = append-nil (round_line picks)

end_rounds : (seen : Seen) (picks : List ℕ) → CanRun seen picks → IsOver (after_picks seen picks) → (text : List ℕ) × IsRest seen text
end_rounds seen [] run over = ([], ([], record { run = tt; over = over; some = All-nil (λ (xs : List ℕ). 0 < length xs) }, refl))
end_rounds seen (a ∷ picks) run over =
    let all : (a ∷ picks) ++ [] ≡ a ∷ picks = append-nil (a ∷ picks) in
    let rounds : List (List ℕ) = (a ∷ picks) ∷ [] in
    let is : LeadsToEnd seen rounds = record {
      run = subst (CanRun seen) (sym all) run;
      over = subst (λ xs. IsOver (after_picks seen xs)) (sym all) over;
      some = All-cons (λ (xs : List ℕ). 0 < length xs) (a ∷ picks) [] (omega arith) (All-nil (λ (xs : List ℕ). 0 < length xs));
    } in
    (trace_text rounds, (rounds, is, refl))

-- from everywhere there is a trace to the end
pub end_trace : (seen : Seen) → HasEnd seen → (text : List ℕ) × IsRest seen text
end_trace seen end = end_rounds seen end.0 end.1 end.2

-- at the end there is none but the empty one
pub over_trace : (seen : Seen) → IsOver seen → IsRest seen []
over_trace seen over = ([], record { run = tt; over = over; some = All-nil (λ (xs : List ℕ). 0 < length xs) }, refl)

module _ (first now : Seen) (rounds : List (List ℕ)) (joined : AreJoined first) where
  -- a trace behind rounds that led there
  pub trace_behind : CanRun first (concat rounds) → now ≡ after_picks first (concat rounds) → All (λ picks. 0 < length picks) rounds → (text : List ℕ) → IsRest now text → IsRest first (trace_text rounds ++ text)
  trace_behind run here some text trace =
      let more : List (List ℕ) = trace.0 in
      let is : LeadsToEnd now more = trace.1 in
      let events : concat (rounds ++ more) ≡ concat rounds ++ concat more = concat-append rounds more in
      let on : CanRun (after_picks first (concat rounds)) (concat more) = subst (λ (s : Seen). CanRun s (concat more)) here is.run in
      let over : IsOver (after_picks (after_picks first (concat rounds)) (concat more)) = subst (λ (s : Seen). IsOver (after_picks s (concat more))) here is.over in (
        rounds ++ more,
        record {
          run = subst (CanRun first) (sym events) (joined (concat rounds) (concat more) run on);
          over = subst (λ xs. IsOver (after_picks first xs)) (sym events) (subst IsOver (joined_picks first (concat rounds) (concat more)) over);
          some = All-append (λ (xs : List ℕ). 0 < length xs) rounds more some is.some;
        },
        ap (λ t. trace_text rounds ++ t) trace.2 ∙ sym (text_joined rounds more),
      )

-- a trace behind one round
pub trace_after : (first now : Seen) (picks text : List ℕ) → AreJoined first → CanRun first picks → now ≡ after_picks first picks → 0 < length picks → IsRest now text → IsRest first (round_line picks ++ text)
trace_after first now picks text joined run here some trace =
    let all : picks ++ [] ≡ picks = append-nil picks in
    subst (λ t. IsRest first (t ++ text)) (one_text picks)
    (trace_behind first now (picks ∷ []) joined (subst (CanRun first) (sym all) run) (here ∙ ap (after_picks first) (sym all))
    (All-cons (λ (xs : List ℕ). 0 < length xs) picks [] some (All-nil (λ (xs : List ℕ). 0 < length xs))) text trace)

-- no round
pub none_printed : (first : Seen) (sink : SeenSink) → AreRoundsPrinted first first sink sink
none_printed first sink = record { rounds = []; some = All-nil (λ (xs : List ℕ). 0 < length xs); run = tt; here = refl; written = unwritten sink }

module _ (first now : Seen) (was is : SeenSink) (joined : AreJoined first) (printed : AreRoundsPrinted first now was is) where
  -- one round more
  pub more_printed : (next : Seen) (then : SeenSink) → IsRoundPrinted now next is then → AreRoundsPrinted first next was then
  more_printed next then round =
      let events : concat (printed.rounds ++ round.picks ∷ []) ≡ concat printed.rounds ++ round.picks =
      concat-append printed.rounds (round.picks ∷ []) ∙ ap (λ xs. concat printed.rounds ++ xs) (append-nil round.picks) in
      let on : CanRun (after_picks first (concat printed.rounds)) round.picks = subst (λ (s : Seen). CanRun s round.picks) printed.here round.run in
      record {
        rounds = printed.rounds ++ round.picks ∷ [];
        some = All-append (λ (xs : List ℕ). 0 < length xs) printed.rounds (round.picks ∷ []) printed.some (All-cons (λ (xs : List ℕ). 0 < length xs) round.picks [] round.some (All-nil (λ (xs : List ℕ). 0 < length xs)));
        run = subst (CanRun first) (sym events) (joined (concat printed.rounds) round.picks printed.run on);
        here = round.here ∙ ap (λ (s : Seen). after_picks s round.picks) printed.here ∙ joined_picks first (concat printed.rounds) round.picks ∙ ap (after_picks first) (sym events);
        written = subst (Writes was then) (ap (λ t. trace_text printed.rounds ++ t) (sym (one_text round.picks)) ∙ sym (text_joined printed.rounds (round.picks ∷ [])))
            (writes_more was is then (trace_text printed.rounds) (round_line round.picks) printed.written round.written);
      }

  -- a trace from here on, behind those rounds
  pub whole_trace : (text : List ℕ) → IsRest now text → IsRest first (trace_text printed.rounds ++ text)
  whole_trace text trace = trace_behind first now printed.rounds joined printed.run printed.here printed.some text trace

  -- all is printed
  pub all_printed : IsOver now → (text : List ℕ) × IsRest first text × Writes was is text
  all_printed over = (
    trace_text printed.rounds ++ [],
    whole_trace [] (over_trace now over),
    subst (Writes was is) (sym (append-nil (trace_text printed.rounds))) printed.written,
  )

  -- a write of what follows failed
  pub printing_fails : (then : SeenSink) (text : List ℕ) → IsRest now text → Fails is then text → (whole : List ℕ) × IsRest first whole × Fails was then whole
  printing_fails then text trace failed = (
    trace_text printed.rounds ++ text,
    whole_trace text trace,
    fails_behind was is then (trace_text printed.rounds) text printed.written failed,
  )

  -- memory ran out behind them
  pub printing_stops : HasEnd now → (front : List ℕ) × (rest : List ℕ) × IsRest first (front ++ rest) × Writes was is front
  printing_stops end = (let last = end_trace now end in (trace_text printed.rounds, last.0, whole_trace last.0 last.1, printed.written))

-- a failed write of a round's line
pub line_fails : (first now : Seen) (picks : List ℕ) (was is : SeenSink) → AreJoined first → CanRun first picks → now ≡ after_picks first picks → 0 < length picks → HasEnd now → Fails was is (round_line picks) →
    (text : List ℕ) × IsRest first text × Fails was is text
line_fails first now picks was is joined run here some end failed =
    let last = end_trace now end in (
      round_line picks ++ last.0,
      trace_after first now picks last.0 joined run here some last.1,
      fails_longer was is (round_line picks) last.0 failed,
    )

-- what is left of events that lead somewhere
less_there : (first : Seen) (picks : List ℕ) → HasRuns first → HasRuns (after_picks first picks) → HasEnd (after_picks first picks) → CanRun first picks → 0 < length picks →
    events_left (after_picks first picks) < events_left first
unfolding events_left
less_there first picks law later end run some =
    let n : ℕ = length first.net.actors in
    let there : Seen = after_picks first picks in
    let done : total n (done_of there.done) ≡ total n (done_of first.done) + length picks =
    total-same n (done_of there.done) (after (done_of first.done) picks) (λ b l. law.counts picks run b) ∙ total_after n (done_of first.done) picks (law.actors picks run) in
    let all : total n (all_done (machine_of first).sys) ≡ total n (done_of there.done) + length end.0 =
    total-same n (all_done (machine_of first).sys) (after (done_of there.done) end.0) (λ b l. sym (end.2 b) ∙ later.counts end.0 end.1 b)
    ∙ total_after n (done_of there.done) end.0 (later.actors end.0 end.1) in
    omega arith

pub less_left : (first now : Seen) (picks : List ℕ) → HasRuns first → HasRuns now → HasEnd now → CanRun first picks → now ≡ after_picks first picks → 0 < length picks → events_left now < events_left first
less_left first now picks law later end run here some =
    subst (λ (s : Seen). events_left s < events_left first) (sym here)
    (less_there first picks law (subst HasRuns here later) (subst HasEnd here end) run some)

-- rounds that lead a core without an event to its end are a trace of its net
pub whole_text : (first : Seen) (text : List ℕ) → EventsGoByTheNet → HasRuns first → IsUnbegun first → IsRest first text → IsTraceText first.net first.instants text
whole_text first text law runs none rest =
    let order : List ℕ = concat rest.0 in
    let sys : System = (machine_of first).sys in
    let whole : IsWhole sys order = record {
      run = IsRun-same sys (done_of first.done) none_done order none rest.1.run;
      all = λ a. sym (after-same (done_of first.done) none_done order none a) ∙ sym (runs.counts order rest.1.run a) ∙ rest.1.over a;
    } in
    (rest.0, record { whole = subst (λ (s : System). IsWhole s order) (law first) whole; some = rest.1.some }, rest.2)

module _ (first : Seen) (was is : SeenSink) (law : EventsGoByTheNet) (runs : HasRuns first) (none : IsUnbegun first) where
  -- what was written to the end is a trace
  pub whole_written : {T E : Type 0} (r : Result T E) → OnOk r ((text : List ℕ) × IsRest first text × Writes was is text) → OnOk r ((text : List ℕ) × IsTraceText first.net first.instants text × Writes was is text)
  whole_written (Ok v) h = (h.0, whole_text first h.0 law runs none h.1, h.2)
  whole_written (Err e) h = tt

  -- a write of a trace failed
  pub whole_fails : (text : List ℕ) × IsRest first text × Fails was is text → (text : List ℕ) × IsTraceText first.net first.instants text × Fails was is text
  whole_fails h = (h.0, whole_text first h.0 law runs none h.1, h.2)

  -- a front of a trace was written
  pub whole_stops : (front : List ℕ) × (rest : List ℕ) × IsRest first (front ++ rest) × Writes was is front → (front : List ℕ) × (rest : List ℕ) × IsTraceText first.net first.instants (front ++ rest) × Writes was is front
  whole_stops h = (h.0, h.1, whole_text first (h.0 ++ h.1) law runs none h.2, h.3)
