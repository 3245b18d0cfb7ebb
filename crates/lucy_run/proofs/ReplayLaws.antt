-- What the replay of a log comes to.
use Rattle.std.proofs.Common.{◌≡◌, ℕ, ◌+◌, ◌≤◌, List, [], ◌++◌, length, take, Option, Some, None, Result, Ok, Err, refl, ap, sym, ◌∙◌, subst, inl, inr, arith}
use Rattle.std.specs.Prelude.{ℤ, slice_get}
use Rattle.std.proofs.lemmas.List.{take_all}
use Rattle.std.proofs.lemmas.Option.{slice_get_within}
use Rattle.lucy_word.specs.Bits.{Bits}
use Rattle.std.specs.declared.alloc.AllocError.{AllocError}
use Rattle.lucy_host.specs.declared.kind.HostKind.{HostKind}
use Rattle.lucy_host.specs.Operators.{Operator, kinds_of}
use Rattle.lucy_lines.specs.CutLaws.{OneCut, CutInPieces}
use Rattle.lucy_lines.specs.declared.reader.TextFault.{TextFault}
use Rattle.lucy_lines.specs.declared.feeds.Feed.{Feed}
use Rattle.lucy_text.specs.Sources.{ReadStop}
use Rattle.lucy_lines.specs.Feeding.{OneFeed}
use Rattle.lucy_text.specs.Outside.{SeenSink, Writes, Fails}
use Rattle.lucy_stream.specs.Systems.{System}
use Rattle.lucy_stream.specs.Runs.{none_done, after, IsRun, IsFinished}
use Rattle.lucy_stream.specs.States.{State, IsSame, start, events}
use Rattle.lucy_stream.proofs.AlikeLaws.{IsRun-same}
use Rattle.lucy_stream.proofs.JoinedLaws.{length_longest}
use Rattle.lucy_net.specs.Plans.{net_system}
use Rattle.lucy_core.specs.Seen.{Seen, CanRun, IsUnbegun, after_picks, machine_of, done_of, state_of}
use Rattle.lucy_trace.specs.Logs.{possible_of, IsFirstImpossible}
use Rattle.lucy_trace.specs.declared.error.TraceError.{TraceError}
use Rattle.lucy_trace.specs.declared.error.TraceError.TheVariants.{NotPossible}
use Rattle.lucy_trace.proofs.RunLaws.{none_longer}
use Rattle.lucy_lines.specs.declared.output.OutputSpec.{OutputSpec}
use Rattle.lucy_lines.specs.Outputs.{output_text, lines_after}
use Rattle.lucy_lines.specs.Writing.{WriterState, new_writer}
use Rattle.lucy_lines.proofs.OutputLaws.{lines_from_first}
use Rattle.lucy_lines.proofs.SinkLaws.{writes_more, fails_behind, fails_longer}
use Rattle.lucy_place.specs.declared.placed.PlacedNode.{PlacedNode}
use Rattle.lucy_clock.specs.declared.node_clock.NodeClock.{NodeClock}
use Rattle.lucy_kahn.specs.Sizes.{all_places}
use Rattle.lucy_results.specs.Streams.{param_words, main_streams, taken_of}
use Rattle.lucy_results.specs.Taking.{taken_lists, LeadAlongStreams}
use Rattle.lucy_results.proofs.OutputLaws.{first_unbegun}
use Rattle.lucy_results.proofs.WholeRunLaws.{unbegun_start, taken_same}
use Rattle.lucy_program.specs.declared.accepted.Accepted.{Accepted}
use Rattle.lucy_run.specs.declared.ending.Ending.{Ending}
use Rattle.lucy_run.specs.declared.ending.Ending.TheVariants as ending
use Rattle.lucy_run.specs.Feeds.{IsMainFeed}
use Rattle.lucy_run.specs.Owes.{input_words, IsHorizonOf, EndsFor, IsMainFed}
use Rattle.lucy_run.specs.Replays.{SaysFinished, tally, IsReplayText, Judges, OwesReplay}
use Rattle.lucy_run.specs.Ends.{EndsReplay}
use Rattle.lucy_run.specs.Laws.{CompleteReplay}
use Rattle.lucy_run.specs.Steps.{first_core, EndsWhole, IsTally, IsEventText, JudgesFrom, LeavesOwed, LeavesJudged, IsPrinted}
use Rattle.lucy_run.proofs.OwesLaws.{OneHorizon, fed_once, ends_once, carried, done_for}
use Rattle.lucy_run.proofs.WholeLaws.{owed_so}
use Rattle.lucy_run.proofs.EndsLaws.{owed_written, owed_more, owed_ends}

-- all events of a run are possible
run_possible : (seen : Seen) (picks : List ℕ) → CanRun seen picks → take (possible_of seen picks) picks ≡ picks
run_possible seen picks run =
    let sys = (machine_of seen).sys in
    let done : ℕ → ℕ = done_of seen.done in
    let all : length picks ≤ possible_of seen picks =
    length_longest sys done picks (length picks) (omega arith) (subst (IsRun sys done) (sym (take_all (length picks) picks (omega arith))) run) in
    take_all (possible_of seen picks) picks all

-- events with one that isn't possible are no run
impossible_run : (sys : System) (done : ℕ → ℕ) (picks : List ℕ) (e : TraceError) → IsFirstImpossible (IsRun sys done) picks e → IsRun sys done picks → ⊥
impossible_run sys done picks e (count, actor, front, none, at, is) run =
    let all : IsRun sys done (take (length picks) picks) = subst (IsRun sys done) (sym (take_all (length picks) picks (omega arith))) run in
    absurd (omega (arith, none_longer sys done picks count (length picks) none all, slice_get_within picks count actor at))

module _ (first : Seen) (nodes : List PlacedNode) (outputs : List OutputSpec) (picks : List ℕ) where
  -- what a core prints behind a run is the text of these events
  pub printed_text : IsUnbegun first → IsSame (state_of (after_picks first picks)) (events (machine_of first) (state_of first) picks) → (output : List ℕ) →
      IsPrinted (after_picks first picks) nodes outputs (length picks) output → IsEventText first nodes outputs picks output
  printed_text none same output (told, is, text) =
      let s : State = state_of (after_picks first picks) in
      let t : State = events (machine_of first) start picks in
      let took : (r : ℕ) → s.took r ≡ t.took r = λ r. same.took r ∙ ap (λ (u : State). (events (machine_of first) u picks).took r) (unbegun_start first none) in
      (told, is, text ∙ ap (λ lists. told ++ output_text outputs lists first.instants) (taken_same _ s t took))

  -- and so a core that did the events leaves what they come to
  pub judged_run : (core : Seen) → IsUnbegun first → CanRun first picks → IsSame (state_of (after_picks first picks)) (events (machine_of first) (state_of first) picks) →
      core ≡ after_picks first (take (possible_of first picks) picks) → (end result : Ending) (was now : SeenSink) →
      LeavesOwed (λ output way. IsPrinted core nodes outputs (length picks) output × (way ≡ end)) was now result →
      (words : List Bits) (given : Option ℕ) (lists : List (List ℤ)) (fault : Option TextFault) → EndsFor words given lists fault end →
      LeavesJudged (JudgesFrom first nodes outputs words given lists fault picks) was now (Ok result)
  judged_run core none run same done end result was now left words given lists fault ends =
      let at : core ≡ after_picks first picks = done ∙ ap (after_picks first) (run_possible first picks run) in
      let Prints : List ℕ → Ending → Type 0 = λ output way. IsPrinted core nodes outputs (length picks) output × (way ≡ end) in
      owed_more Prints (λ output way. JudgesFrom first nodes outputs words given lists fault picks output (Ok way))
      (λ output way printed. (
        run,
        printed_text none same output (subst (λ (c : Seen). IsPrinted c nodes outputs (length picks) output) at printed.0),
        subst (EndsFor words given lists fault) (sym printed.1) ends,
      )) was now result left

-- what is printed of a core, from the parts that are written
module _ (core : Seen) (nodes : List PlacedNode) (outputs : List OutputSpec) (count horizon : ℕ) (lists : List (List ℤ)) (text bytes : List ℕ) (writer : WriterState) (end : Ending)
    (told : IsTally core count text) (same : bytes ≡ text) (took : lists ≡ taken_lists nodes core.net (state_of core)) (at : horizon ≡ core.instants) (new : writer ≡ new_writer outputs) where
  abbrev lines : List ℕ
  lines = output_text outputs (taken_lists nodes core.net (state_of core)) core.instants

  abbrev pub Prints : List ℕ → Ending → Type 0
  Prints output way = IsPrinted core nodes outputs count output × (way ≡ end)

  lines_are : lines_after writer.outputs lists writer.instants horizon ≡ lines
  lines_are =
      ap (λ (w : WriterState). lines_after w.outputs lists w.instants horizon) new ∙ lines_from_first outputs lists horizon
      ∙ ap (λ ls. output_text outputs ls horizon) took ∙ ap (output_text outputs (taken_lists nodes core.net (state_of core))) at

  prints : Prints (text ++ lines) end
  prints = ((text, told, refl), refl)

  -- the tally could not be written
  pub tally_failed : (was now : SeenSink) → Fails was now bytes → LeavesOwed Prints was now ending.WriteFault
  tally_failed was now f = (text ++ lines, end, prints, fails_longer was now text lines (subst (Fails was now) same f))

  module _ (was between now : SeenSink) (head : Writes was between bytes) where
    -- the lines could not
    pub lines_failed : Fails between now (lines_after writer.outputs lists writer.instants horizon) → LeavesOwed Prints was now ending.WriteFault
    lines_failed f = (text ++ lines, end, prints, fails_behind was between now text lines (subst (Writes was between) same head) (subst (Fails between now) lines_are f))

    -- all was written
    pub all_printed : EndsWhole end → Writes between now (lines_after writer.outputs lists writer.instants horizon) → LeavesOwed Prints was now end
    all_printed whole w =
        owed_written Prints (text ++ lines) end was now whole prints (writes_more was between now text lines (subst (Writes was between) same head) (subst (Writes between now) lines_are w))

-- a core without an event so far over what main is fed, whose events go by the net, leads them along the output streams
module _ (ops : List Operator) (a : Accepted) (given : Option ℕ) (picks : List ℕ) (lists : List (List ℤ)) (fault : Option TextFault) (horizon : ℕ)
    (go : (machine_of (first_core ops a lists horizon)).sys ≡ net_system a.net horizon) where
  abbrev core : Seen
  core = first_core ops a lists horizon

  unbegun : IsUnbegun core
  unbegun = first_unbegun a.net a.schedule lists ops horizon

  to_net : (es : List ℕ) → CanRun core es → IsRun (net_system a.net horizon) none_done es
  to_net es run = subst (λ (s : System). IsRun s none_done es) go (IsRun-same (machine_of core).sys (done_of core.done) none_done es unbegun run)

  from_net : (es : List ℕ) → IsRun (net_system a.net horizon) none_done es → CanRun core es
  from_net es run =
      IsRun-same (machine_of core).sys none_done (done_of core.done) es (λ b. sym (unbegun b)) (subst (λ (s : System). IsRun s none_done es) (sym go) run)

  finished_net : ((b : ℕ) → done_of (after_picks core picks).done b ≡ after none_done picks b) → (line : List ℕ) →
      SaysFinished (machine_of core).sys (done_of (after_picks core picks).done) line → SaysFinished (net_system a.net horizon) (after none_done picks) line
  finished_net counts line (inl (over, is)) = inl (subst (λ (s : System). IsFinished s (after none_done picks)) go (λ b. sym (counts b) ∙ over b), is)
  finished_net counts line (inr (none, is)) =
      inr ((λ over. let all = subst (λ (s : System). IsFinished s (after none_done picks)) (sym go) over in none (λ b. counts b ∙ all b)), is)

  text_net : LeadAlongStreams a.placed.nodes a.clocks.items core picks → (output : List ℕ) → IsEventText core a.placed.nodes a.outputs.items picks output →
      IsReplayText (kinds_of ops) a lists horizon picks output
  text_net leads output (told, (line, says, is), text) = (
    line,
    finished_net leads.counts line says,
    text ∙ ap (λ t. t ++ output_text a.outputs.items (taken_lists a.placed.nodes a.net (events (machine_of core) start picks)) horizon) is
        ∙ ap (λ ls. tally (length picks) line ++ output_text a.outputs.items ls horizon) leads.taken,
  )

  -- what they come to from the core is what they come to by the streams
  pub judged_by_streams : (CanRun core picks → LeadAlongStreams a.placed.nodes a.clocks.items core picks) → (output : List ℕ) (result : Result Ending TraceError) →
      JudgesFrom core a.placed.nodes a.outputs.items (input_words a) given lists fault picks output result → Judges (kinds_of ops) a given lists fault horizon picks output result
  judged_by_streams leads output (Ok end) (run, text, ends) = (to_net picks run, text_net (leads run) output text, ends)
  judged_by_streams leads output (Err e) ((count, actor, front, none, at, is), nothing) =
      ((count, actor, to_net (take count picks) front, (λ run. none (from_net (take (count + 1) picks) run)), at, is), nothing)

-- so it is whatever main is fed
abbrev pub JudgedByStreams : List Operator → Accepted → (given : Option ℕ) → (picks : List ℕ) → Type 0
JudgedByStreams ops a given picks = (lists : List (List ℤ)) (fault : Option TextFault) (horizon : ℕ) → IsHorizonOf (input_words a) given lists horizon → (output : List ℕ) (result : Result Ending TraceError) →
    JudgesFrom (first_core ops a lists horizon) a.placed.nodes a.outputs.items (input_words a) given lists fault picks output result → Judges (kinds_of ops) a given lists fault horizon picks output result

-- the line that says whether all is done is one
says_once : (sys : System) (done : ℕ → ℕ) (line other : List ℕ) → SaysFinished sys done line → SaysFinished sys done other → line ≡ other
says_once sys done line other (inl h) (inl k) = h.1 ∙ sym k.1
says_once sys done line other (inl h) (inr k) = absurd (k.0 h.0)
says_once sys done line other (inr h) (inl k) = absurd (h.0 k.0)
says_once sys done line other (inr h) (inr k) = h.1 ∙ sym k.1

pub text_once : (kinds : List HostKind) (a : Accepted) (lists : List (List ℤ)) (horizon : ℕ) (picks output out : List ℕ) →
    IsReplayText kinds a lists horizon picks output → IsReplayText kinds a lists horizon picks out → output ≡ out
text_once kinds a lists horizon picks output out (line, says, text) (other, said, same) =
    let done : ℕ → ℕ = after none_done picks in
    let streams : List (List ℤ) = main_streams kinds lists a.placed.nodes a.clocks.items horizon in
    text ∙ ap (λ l. tally (length picks) l ++ output_text a.outputs.items (taken_of (all_places a.placed.nodes) done streams) horizon)
    (says_once (net_system a.net horizon) done line other says said) ∙ sym same

impossible_once : (sys : System) (done : ℕ → ℕ) (picks : List ℕ) (e f : TraceError) → IsFirstImpossible (IsRun sys done) picks e → IsFirstImpossible (IsRun sys done) picks f → e ≡ f
impossible_once sys done picks e f (count, actor, front, none, at, is) (last, other, back, never, there, also) =
    let same : count ≡ last =
    omega (arith, none_longer sys done picks count last none back, none_longer sys done picks last count never front) in
    let one : Some actor ≡ Some other = sym at ∙ ap (slice_get picks) same ∙ there in
    is ∙ ap (λ n. NotPossible (n + 1) actor) same ∙ ap (NotPossible (last + 1)) (cc one) ∙ sym also

-- events come to one thing
judged_once : (kinds : List HostKind) (a : Accepted) (given : Option ℕ) (lists : List (List ℤ)) (fault : Option TextFault) (horizon : ℕ) (picks output out : List ℕ)
    (result other : Result Ending TraceError) → Judges kinds a given lists fault horizon picks output result → Judges kinds a given lists fault horizon picks out other → (output ≡ out) × (result ≡ other)
judged_once kinds a given lists fault horizon picks output out (Ok end) (Ok way) (run, text, ends) (ran, said, past) =
    (text_once kinds a lists horizon picks output out text said, ap Ok (ends_once (input_words a) given lists fault end way ends past))
judged_once kinds a given lists fault horizon picks output out (Ok end) (Err e) (run, text, ends) (bad, none) =
    absurd (impossible_run (net_system a.net horizon) none_done picks e bad run)
judged_once kinds a given lists fault horizon picks output out (Err e) (Ok way) (bad, none) (run, text, ends) =
    absurd (impossible_run (net_system a.net horizon) none_done picks e bad run)
judged_once kinds a given lists fault horizon picks output out (Err e) (Err f) (bad, none) (worse, nothing) =
    (none ∙ sym nothing, ap Err (impossible_once (net_system a.net horizon) none_done picks e f bad worse))

-- `replay` owes one answer
pub replay_once : OneFeed → OneHorizon → (ops : List Operator) (a : Accepted) (given : Option ℕ) (picks taken : List ℕ) (stop : ReadStop) (output out : List ℕ) (result other : Result Ending TraceError) →
    OwesReplay ops a given picks taken stop output result → OwesReplay ops a given picks taken stop out other → (output ≡ out) × (result ≡ other)
replay_once one horizons ops a given picks taken stop output out result other (lists, fault, horizon, fed, does) (others, stops, last, so, did) =
    let same = fed_once one horizons a given taken stop lists others fault stops horizon last fed so in
    let P : List (List ℤ) → Option TextFault → ℕ → Type 0 = λ u f t. Judges (kinds_of ops) a given u f t picks output result in
    judged_once (kinds_of ops) a given others stops last picks output out result other
    (carried P lists others fault stops horizon last same.0 same.1 same.2 does) did

judged_done : (kinds : List HostKind) (a : Accepted) (given : Option ℕ) (lists : List (List ℤ)) (horizon : ℕ) (picks output : List ℕ) (result : Result Ending TraceError) →
    ((end : Ending) → EndsFor (input_words a) given lists None end → end ≡ ending.Done) → IsRun (net_system a.net horizon) none_done picks →
    Judges kinds a given lists None horizon picks output result → IsReplayText kinds a lists horizon picks output × (result ≡ Ok ending.Done)
judged_done kinds a given lists horizon picks output (Ok end) few run (ran, text, ends) = (text, ap Ok (few end ends))
judged_done kinds a given lists horizon picks output (Err e) few run (bad, none) = absurd (impossible_run (net_system a.net horizon) none_done picks e bad run)

-- by an input without a fault a run is replayed to its end
pub replay_whole : OneCut → CutInPieces → OneHorizon → CompleteReplay
replay_whole cut pieces horizons ops a given before after picks taken stop lists horizon output result read well fed run (others, fault, last, is, does) =
    let P : List (List ℤ) → Option TextFault → ℕ → Type 0 = λ u f t. Judges (kinds_of ops) a given u f t picks output result in
    judged_done (kinds_of ops) a given lists horizon picks output result (λ end ends. done_for (input_words a) given lists end fed.few ends) run
    (owed_so cut pieces horizons a given before after taken stop lists horizon read well fed P others fault last is does)

module _ (ops : List Operator) (a : Accepted) (given : Option ℕ) (picks taken : List ℕ) (stop : ReadStop) (by_streams : JudgedByStreams ops a given picks) where
  judged_ends : (lists : List (List ℤ)) (fault : Option TextFault) (horizon : ℕ) → IsMainFed a given taken stop lists fault horizon → (was now : SeenSink) (result : Result Ending TraceError) →
      LeavesJudged (JudgesFrom (first_core ops a lists horizon) a.placed.nodes a.outputs.items (input_words a) given lists fault picks) was now result → EndsReplay ops a given picks taken stop was now result
  judged_ends lists fault horizon fed was now (Ok end) left =
      owed_ends (λ output way. OwesReplay ops a given picks taken stop output (Ok way)) was now end
      (owed_more (λ output way. JudgesFrom (first_core ops a lists horizon) a.placed.nodes a.outputs.items (input_words a) given lists fault picks output (Ok way))
      (λ output way. OwesReplay ops a given picks taken stop output (Ok way))
      (λ output way judged. (lists, fault, horizon, fed, by_streams lists fault horizon fed.horizon_is output (Ok way) judged)) was now end left)
  judged_ends lists fault horizon fed was now (Err e) (bad, same) =
      ((lists, fault, horizon, fed, by_streams lists fault horizon fed.horizon_is [] (Err e) bad), same)

  -- main was fed, and its events were judged
  pub replay_done : (was now : SeenSink) (result : Result Ending TraceError) (feed : Feed) (answer : Result Feed AllocError) (clocks : List NodeClock) (outputs : List OutputSpec) →
      IsMainFeed a.inputs.items taken stop answer → answer ≡ Ok feed → clocks ≡ a.clocks.items → outputs ≡ a.outputs.items →
      (horizon : ℕ) × IsHorizonOf (param_words a.placed.nodes clocks) given feed.items horizon
      × LeavesJudged (JudgesFrom (first_core ops a feed.items horizon) a.placed.nodes outputs (param_words a.placed.nodes clocks) given feed.items feed.stop picks) was now result →
      EndsReplay ops a given picks taken stop was now result
  replay_done was now result feed answer clocks outputs fed_so is e f left =
      let P : List NodeClock → Type 0 = λ u. (horizon : ℕ) × IsHorizonOf (param_words a.placed.nodes u) given feed.items horizon
      × LeavesJudged (JudgesFrom (first_core ops a feed.items horizon) a.placed.nodes outputs (param_words a.placed.nodes u) given feed.items feed.stop picks) was now result in
      let Q : List OutputSpec → Type 0 = λ u. (horizon : ℕ) × IsHorizonOf (input_words a) given feed.items horizon
      × LeavesJudged (JudgesFrom (first_core ops a feed.items horizon) a.placed.nodes u (input_words a) given feed.items feed.stop picks) was now result in
      let (horizon, horizon_is, moved) = subst Q f (subst P e left) in
      judged_ends feed.items feed.stop horizon (record { feeds = subst (IsMainFeed a.inputs.items taken stop) is fed_so; horizon_is = horizon_is }) was now result moved
