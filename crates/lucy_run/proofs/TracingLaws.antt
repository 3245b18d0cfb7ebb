-- What the trace of a run comes to.
use Rattle.std.proofs.Common.{◌≡◌, ℕ, ◌<◌, ◌≤◌, ◌^◌, List, [], ◌++◌, length, Option, Result, Ok, refl, ap, sym, ◌∙◌, subst, inl, inr, arith}
use Rattle.std.specs.Prelude.{ℤ, All, codes}
use Rattle.std.specs.List.{concat}
use Rattle.lucy_word.specs.Bits.{Bits}
use Rattle.std.specs.declared.alloc.AllocError.{AllocError}
use Rattle.lucy_host.specs.Operators.{Operator, kinds_of}
use Rattle.lucy_lines.specs.declared.reader.TextFault.{TextFault}
use Rattle.lucy_lines.specs.declared.feeds.Feed.{Feed}
use Rattle.lucy_text.specs.Sources.{ReadStop}
use Rattle.lucy_text.specs.Outside.{SeenSink, Writes, Fails}
use Rattle.lucy_net.specs.declared.net.Net.{Net}
use Rattle.lucy_net.specs.Schedules.{Timetable, IsScheduleOf}
use Rattle.lucy_core.specs.Seen.{Seen, CanMakeCore, first_seen}
use Rattle.lucy_runner.specs.Views.{RunnerView, first_runner}
use Rattle.lucy_fields.specs.Readings.{AreRead}
use Rattle.lucy_trace.specs.Logs.{picks_of}
use Rattle.lucy_trace.specs.Traces.{trace_text, IsTraceText, TracesAreLogs}
use Rattle.lucy_trace.specs.Together.{AreTogether}
use Rattle.lucy_lines.specs.Outputs.{output_text}
use Rattle.lucy_lines.proofs.SinkLaws.{unwritten}
use Rattle.lucy_clock.specs.declared.node_clock.NodeClock.{NodeClock}
use Rattle.lucy_results.specs.Streams.{param_words}
use Rattle.lucy_stream.specs.Runs.{IsWhole}
use Rattle.lucy_net.specs.Plans.{net_system}
use Rattle.lucy_results.specs.Taking.{LeadToStreams, LeadAlongStreams}
use Rattle.lucy_program.specs.declared.accepted.Accepted.{Accepted}
use Rattle.lucy_run.specs.declared.ending.Ending.{Ending}
use Rattle.lucy_run.specs.declared.ending.Ending.TheVariants as ending
use Rattle.lucy_run.specs.Feeds.{IsMainFeed}
use Rattle.lucy_run.specs.Owes.{input_words, lines_to, heading, IsHorizonOf, EndsFor, IsMainFed, OwesRun}
use Rattle.lucy_run.specs.Replays.{tally, IsReplayText, OwesReplay}
use Rattle.lucy_run.specs.Tracing.{OwesTrace}
use Rattle.lucy_run.specs.Ends.{EndsOwed, EndsTrace, IsFrontOf, Outputs}
use Rattle.lucy_run.specs.Steps.{first_core, EndsWhole, OwesTraceOf}
use Rattle.lucy_run.proofs.EndsLaws.{take_front}

-- a core can be made of the copies of a net and of inputs, by another schedule of the net
pub fixed_anew : (net copy : Net) (schedule anew : Timetable) (inputs lists : List (List ℤ)) (ops : List Operator) (instants : ℕ) →
    copy ≡ net → lists ≡ inputs → IsScheduleOf copy anew → CanMakeCore net schedule inputs ops instants → CanMakeCore copy anew lists ops instants
fixed_anew net copy schedule anew inputs lists ops instants e f is fixed =
    let of_net : IsScheduleOf net anew = subst (λ (n : Net). IsScheduleOf n anew) e is in
    let same : CanMakeCore net anew inputs ops instants =
    record { proper = fixed.proper; sound = of_net.sound; early = fixed.early; supplied = fixed.supplied; known = fixed.known } in
    subst (λ (n : Net). CanMakeCore n anew lists ops instants) (sym e) (subst (λ (ls : List (List ℤ)). CanMakeCore net anew ls ops instants)
    (sym f) same)

pub seen_anew : (net copy : Net) (anew : Timetable) (inputs lists : List (List ℤ)) (ops : List Operator) (instants : ℕ) → copy ≡ net →
    lists ≡ inputs →
    first_seen copy anew lists ops instants ≡ first_seen net anew inputs ops instants
seen_anew net copy anew inputs lists ops instants e f =
    ap (λ (n : Net). first_seen n anew lists ops instants) e ∙ ap (λ (ls : List (List ℤ)). first_seen net anew ls ops instants) f

-- a core and a runner of one net, one horizon and without an event so far stand together
pub stand_together : (core : Seen) (runner : RunnerView) (net : Net) (schedule anew : Timetable) (inputs : List (List ℤ))
    (ops others : List Operator) (instants : ℕ) →
    core ≡ first_seen net anew inputs ops instants → runner ≡ first_runner (first_seen net schedule inputs others instants) runner.crew →
    AreTogether core runner.seen
stand_together core runner net schedule anew inputs ops others instants is stands = record {
  net = ap (λ (v : RunnerView). v.seen.net) stands ∙ sym (ap (λ (s : Seen). s.net) is);
  instants = ap (λ (v : RunnerView). v.seen.instants) stands ∙ sym (ap (λ (s : Seen). s.instants) is);
  done = ap (λ (v : RunnerView). v.seen.done) stands ∙ sym (ap (λ (s : Seen). s.done) is);
}

-- nothing is a front
pub front_nothing : (Owes : List ℕ → Ending → Type 0) (s : SeenSink) → EndsOwed Owes s s ending.OutOfMemory
front_nothing Owes s = ([], inl refl, unwritten s)

front_written : (Owes : List ℕ → Ending → Type 0) (output : List ℕ) (end : Ending) (was now : SeenSink) → EndsWhole end →
    Owes output end → Writes was now output →
    EndsOwed Owes was now end
front_written Owes output ending.Done was now whole owes w = (output, owes, w)
front_written Owes output (ending.Input f) was now whole owes w = (output, owes, w)
front_written Owes output (ending.Limit l) was now whole owes w = (output, owes, w)
front_written Owes output ending.WriteFault was now whole owes w = absurd whole
front_written Owes output ending.OutOfMemory was now whole owes w = absurd whole

-- what is left where a net was traced up to a horizon, and the run then ends so
module _ (net : Net) (horizon : ℕ) (end : Ending) (was now : SeenSink) where
  pub all_traced : EndsWhole end → (text : List ℕ) × IsTraceText net horizon text × Writes was now text →
      EndsOwed (OwesTraceOf net horizon end) was now end
  all_traced whole (text, trace, w) = front_written (OwesTraceOf net horizon end) text end was now whole (trace, refl) w

  pub trace_failed : (text : List ℕ) × IsTraceText net horizon text × Fails was now text →
      EndsOwed (OwesTraceOf net horizon end) was now ending.WriteFault
  trace_failed (text, trace, f) = (text, (end, (trace, refl)), f)

  pub trace_stopped : (front : List ℕ) × (rest : List ℕ) × IsTraceText net horizon (front ++ rest) × Writes was now front →
      EndsOwed (OwesTraceOf net horizon end) was now ending.OutOfMemory
  trace_stopped (front, rest, trace, w) = (front, inr (front ++ rest, length front, (end, (trace, refl)), take_front front rest), w)

-- the net and the horizon are those of the core beside which it was traced
pub traced_beside : (net : Net) (anew : Timetable) (inputs : List (List ℤ)) (ops : List Operator) (horizon : ℕ) (core : Seen)
    (end : Ending) (was now : SeenSink)
    (result : Ending) → core ≡ first_seen net anew inputs ops horizon →
    EndsOwed (OwesTraceOf core.net core.instants end) was now result →
    EndsOwed (OwesTraceOf net horizon end) was now result
traced_beside net anew inputs ops horizon core end was now result is left =
    subst (λ (s : Seen). EndsOwed (OwesTraceOf s.net s.instants end) was now result) is left

-- a front of an output that is owed is one of an output that is owed so too
front_of_more : (A B : List ℕ → Type 0) → ((output : List ℕ) → A output → B output) → (front : List ℕ) → IsFrontOf A front →
    IsFrontOf B front
front_of_more A B more front (inl none) = inl none
front_of_more A B more front (inr (output, n, owed, is)) = inr (output, n, more output owed, is)

pub front_more : (A B : List ℕ → Ending → Type 0) → ((output : List ℕ) (end : Ending) → A output end → B output end) →
    (was now : SeenSink) (result : Ending) →
    EndsOwed A was now result → EndsOwed B was now result
front_more A B more was now ending.WriteFault (output, (end, owed), f) = (output, (end, more output end owed), f)
front_more A B more was now ending.OutOfMemory (front, owed, w) =
    (front, front_of_more (Outputs A) (Outputs B) (λ output so. (so.0, more output so.0 so.1)) front owed, w)
front_more A B more was now ending.Done (output, owed, w) = (output, more output ending.Done owed, w)
front_more A B more was now (ending.Input f) (output, owed, w) = (output, more output (ending.Input f) owed, w)
front_more A B more was now (ending.Limit l) (output, owed, w) = (output, more output (ending.Limit l) owed, w)

-- what is left of a trace up to the horizon of what main is fed
abbrev pub Leaves : Net → (words : List Bits) → (given : Option ℕ) → Feed → (was now : SeenSink) → Ending → Type 0
Leaves net words given feed was now result = (horizon : ℕ) × IsHorizonOf words given feed.items horizon
    × EndsOwed (λ output way. IsTraceText net horizon output × EndsFor words given feed.items feed.stop way) was now result

pub left_so : (net : Net) (words same : List Bits) (given : Option ℕ) (feed : Feed) (horizon : ℕ) (end : Ending) (was now : SeenSink)
    (result : Ending) →
    words ≡ same → IsHorizonOf words given feed.items horizon → EndsFor words given feed.items feed.stop end →
    EndsOwed (OwesTraceOf net horizon end) was now result → Leaves net same given feed was now result
left_so net words same given feed horizon end was now result e horizon_is ends left =
    let P : List Bits → Type 0 = λ ws. Leaves net ws given feed was now result in
    subst P e (
      horizon,
      horizon_is,
      front_more (OwesTraceOf net horizon end)
          (λ output way. IsTraceText net horizon output × EndsFor words given feed.items feed.stop way)
          (λ output way so. (so.0, subst (EndsFor words given feed.items feed.stop) (sym so.1) ends)) was now result left,
    )

-- main was fed, and its net was traced
pub trace_done : (a : Accepted) (given : Option ℕ) (taken : List ℕ) (stop : ReadStop) (was now : SeenSink) (result : Ending) (feed : Feed)
    (answer : Result Feed AllocError)
    (clocks : List NodeClock) → IsMainFeed a.inputs.items taken stop answer → answer ≡ Ok feed → clocks ≡ a.clocks.items →
    Leaves a.net (param_words a.placed.nodes clocks) given feed was now result → EndsTrace a given taken stop was now result
trace_done a given taken stop was now result feed answer clocks fed_so is e left =
    let P : List NodeClock → Type 0 = λ cs. Leaves a.net (param_words a.placed.nodes cs) given feed was now result in
    let (horizon, horizon_is, moved) = subst P e left in
    let feeds = subst (IsMainFeed a.inputs.items taken stop) is fed_so in
    let words : List Bits = param_words a.placed.nodes a.clocks.items in
    front_more (λ output way. IsTraceText a.net horizon output × EndsFor words given feed.items feed.stop way)
    (OwesTrace a given taken stop)
    (λ output way so. (feed.items, feed.stop, horizon, record { feeds = feeds; horizon_is = horizon_is }, so.0, so.1)) was now result moved

-- the replay of a trace, whose events lead to the streams
pub replayed : (ops : List Operator) (a : Accepted) (given : Option ℕ) (taken : List ℕ) (stop : ReadStop) (output : List ℕ) (end : Ending)
    (lists : List (List ℤ)) (fault : Option TextFault) (horizon : ℕ) (rounds : List (List ℕ)) →
    IsMainFed a given taken stop lists fault horizon →
    output ≡ trace_text rounds → EndsFor (input_words a) given lists fault end → TracesAreLogs → length a.net.actors ≤ 16384 →
    IsWhole (net_system a.net horizon) (concat rounds) → LeadToStreams a.placed.nodes a.clocks.items (first_core ops a lists horizon) (concat rounds) →
    LeadAlongStreams a.placed.nodes a.clocks.items (first_core ops a lists horizon) (concat rounds) →
    (picks : List ℕ) × (lines : List ℕ) × AreRead (picks_of output) picks × OwesRun (kinds_of ops) a given taken stop
    (heading a ++ lines) end
    × OwesReplay ops a given picks taken stop (tally (length picks) (codes "finished\n") ++ lines) (Ok end)
replayed ops a given taken stop output end lists fault horizon rounds fed is ends logs few whole leads along =
    let picks : List ℕ = concat rounds in
    let lines : List ℕ = lines_to (kinds_of ops) a lists horizon in
    let text : List ℕ = tally (length picks) (codes "finished\n") in
    let small : All (λ p. p < 2 ^ 32) picks = λ k d l. omega (arith, leads.actors k d l, few) in
    let printed : IsReplayText (kinds_of ops) a lists horizon picks (text ++ lines) = (
      codes "finished\n",
      inl (whole.all, refl),
      ap (λ ls. text ++ output_text a.outputs.items ls horizon) (sym leads.taken ∙ along.taken),
    ) in (
      picks,
      lines,
      subst (λ (t : List ℕ). AreRead (picks_of t) picks) (sym is) (logs rounds small),
      (lists, fault, horizon, fed, refl, ends),
      (lists, fault, horizon, fed, (whole.run, printed, ends)),
    )
