-- What a command owes that runs a program is one answer, but for the evidence of a refusal.
use Rattle.lucy_program.specs.declared.options.Options.{Options}
use Rattle.std.proofs.Common.{ℕ, ◌≡◌, ◌⊎◌, List, [], ◌∷◌, Option, Result, Ok, Err, refl, ap, sym, ◌∙◌, subst, inl, inr}
use Rattle.std.specs.Prelude.{ℤ, ◌++◌, codes}
use Rattle.lucy_host.specs.Operators.{Operator}
use Rattle.lucy_host.specs.declared.kind.HostKind.{HostKind}
use Rattle.lucy_text.specs.declared.shelf.ShelfError.{ShelfError}
use Rattle.lucy_lines.specs.declared.reader.TextFault.{TextFault}
use Rattle.lucy_text.specs.Sources.{ReadStop}
use Rattle.lucy_kahn.specs.Horizons.{IsHorizon}
use Rattle.lucy_place.specs.declared.placed.PlacedNode.{PlacedNode}
use Rattle.lucy_clock.specs.declared.node_clock.NodeClock.{NodeClock}
use Rattle.lucy_results.specs.Streams.{param_words}
use Rattle.lucy_program.specs.declared.accepted.Accepted.{Accepted}
use Rattle.lucy_program.specs.Accepting.{IsAccepted}
use Rattle.lucy_program.specs.Report.{report}
use Rattle.lucy_program.specs.Scheduled.{main_inputs, main_outputs}
use Rattle.lucy_program.proofs.AcceptedLaws.{text_proper}
use Rattle.lucy_front.proofs.OneAnswer.{one_program}
use Rattle.lucy_flat.specs.Refusals.{IsFlatNet}
use Rattle.lucy_flat.proofs.OneNet.{one_net}
use Rattle.lucy_net.specs.declared.net.Net.{Net}
use Rattle.lucy_trace.specs.Traces.{IsTraceText}
use Rattle.lucy_run.specs.declared.ending.Ending.{Ending}
use Rattle.lucy_run.specs.Feeds.{Feeds}
use Rattle.lucy_run.specs.Owes.{most_instants, stream_lines, EndsFor, Interprets, IsMainFed, OwesRun, OwesKahn}
use Rattle.lucy_run.specs.Tracing.{OwesTrace}
use Rattle.lucy_run.specs.Laws.{OneRun, OneInterpretation, OneTrace}
use Rattle.lucy_app.specs.Commands.{HasText}
use Rattle.lucy_app.specs.Answers.{Answer, AreTracedAlike, AreOneBut, AreRefusedAlike}
use Rattle.lucy_app.specs.Check.{RefusesCheck}
use Rattle.lucy_app.specs.Endings.{ending_told, ended_answer}
use Rattle.lucy_app.specs.Running.{LacksInstants, OwesEnded, OwesRunning}
use Rattle.lucy_app.proofs.Checked.{checks_apart, checks_alike}
use Rattle.lucy_app.proofs.OwedPrograms.{IsDecided, text_owes_one, text_owes_but}

-- what two programs of one text have in common: all that is run
pub record AreSame (a b : Accepted) : Type 0 where
  pub nodes : a.placed.nodes ≡ b.placed.nodes
  pub typed : a.typed ≡ b.typed
  pub clocks : a.clocks.items ≡ b.clocks.items
  pub inputs : a.inputs.items ≡ b.inputs.items
  pub outputs : a.outputs.items ≡ b.outputs.items
  pub net : a.net ≡ b.net

pub accepted_same : (ops : List Operator) (o : Options) (text : List ℕ) (a b : Accepted) → IsAccepted ops o text a → IsAccepted ops o text b → AreSame a b
accepted_same ops o text a b is also =
    let same = one_program ops o text a.placed b.placed a.typed b.typed a.clocks.items b.clocks.items is.clocked also.clocked in
    record {
      nodes = ap (λ p. p.nodes) same.0;
      typed = same.1;
      clocks = same.2;
      inputs = is.inputs ∙ ap (λ p. main_inputs p.nodes a.typed) same.0 ∙ ap (main_inputs b.placed.nodes) same.1 ∙ sym also.inputs;
      outputs =
          is.outputs ∙ ap (λ p. main_outputs p.nodes a.typed a.clocks.items) same.0 ∙ ap (λ ts. main_outputs b.placed.nodes ts a.clocks.items) same.1
          ∙ ap (main_outputs b.placed.nodes b.typed) same.2 ∙ sym also.outputs;
      net =
          one_net b.placed.nodes b.clocks.items (text_proper ops o text b.placed also.clocked.program.program) a.net b.net
          (subst (λ cs. IsFlatNet b.placed.nodes cs a.net) same.2 (subst (λ p. IsFlatNet p.nodes a.clocks.items a.net) same.0 is.net.flat)) also.net.flat;
    }

module _ (kinds : List HostKind) (a b : Accepted) (same : AreSame a b) (instants : Option ℕ) (taken : List ℕ) (stop : ReadStop) where
  -- what the nodes and the words say of one says it of the other
  pub moves : (P : List PlacedNode → List NodeClock → Type 0) → P a.placed.nodes a.clocks.items → P b.placed.nodes b.clocks.items
  moves P h = subst (λ cs. P b.placed.nodes cs) same.clocks (subst (λ ns. P ns a.clocks.items) same.nodes h)

  pub fed_moves : (lists : List (List _)) (fault : Option _) (horizon : ℕ) → IsMainFed a instants taken stop lists fault horizon → IsMainFed b instants taken stop lists fault horizon
  fed_moves lists fault horizon fed = record {
    feeds = subst (λ is. Feeds is taken stop lists fault) same.inputs fed.feeds;
    horizon_is = moves (λ ns cs. IsHorizon (param_words ns cs) lists (most_instants instants) horizon) fed.horizon_is;
  }

  pub run_moves : (output : List ℕ) (end : Ending) → OwesRun kinds a instants taken stop output end → OwesRun kinds b instants taken stop output end
  run_moves output end (lists, fault, horizon, fed, lines, ends) = (
    lists,
    fault,
    horizon,
    fed_moves lists fault horizon fed,
    moves (λ ns cs. output ≡ (report ns b.typed cs ++ codes "run\n") ++ stream_lines kinds ns cs b.outputs.items lists horizon)
        (subst (λ os. output ≡ (report a.placed.nodes b.typed a.clocks.items ++ codes "run\n") ++ stream_lines kinds a.placed.nodes a.clocks.items os lists horizon) same.outputs
        (subst (λ ts. output ≡ (report a.placed.nodes ts a.clocks.items ++ codes "run\n") ++ stream_lines kinds a.placed.nodes a.clocks.items a.outputs.items lists horizon) same.typed lines)),
    moves (λ ns cs. EndsFor (param_words ns cs) instants lists fault end) ends,
  )

  pub kahn_moves : (output : List ℕ) (end : Ending) → OwesKahn kinds a instants taken stop output end → OwesKahn kinds b instants taken stop output end
  kahn_moves output end (lists, fault, horizon, fed, is) = (
    lists,
    fault,
    horizon,
    fed_moves lists fault horizon fed,
    moves (λ ns cs. Interprets kinds ns cs b.outputs.items instants lists fault horizon output end)
        (subst (λ os. Interprets kinds a.placed.nodes a.clocks.items os instants lists fault horizon output end) same.outputs is),
  )

  pub trace_moves : (output : List ℕ) (end : Ending) → OwesTrace a instants taken stop output end →
      OwesTrace b instants taken stop output end
  trace_moves output end (lists, fault, horizon, fed, traced, ends) = (
    lists,
    fault,
    horizon,
    fed_moves lists fault horizon fed,
    subst (λ (net : Net). IsTraceText net horizon output) same.net traced,
    moves (λ ns cs. EndsFor (param_words ns cs) instants lists fault end) ends,
  )

-- what programs of one text owe is one output and one ending
abbrev pub OwesOnce : (Owed : Accepted → List ℕ → Ending → Type 0) → Type 0
OwesOnce Owed = (a b : Accepted) (output other : List ℕ) (end way : Ending) → AreSame a b → Owed a output end → Owed b other way → (output ≡ other) × (end ≡ way)

-- it comes to one answer, or to answers that differ so
abbrev pub OwesOneBut : (Differ : Answer → Answer → Type 0) → (Owed : Accepted → List ℕ → Ending → Type 0) → Type 0
OwesOneBut Differ Owed = (a b : Accepted) (output other : List ℕ) (end way : Ending) → AreSame a b → Owed a output end → Owed b other way →
    AreOneBut Differ (ended_answer output end) (ended_answer other way)

pub once_but : (Differ : Answer → Answer → Type 0) (Owed : Accepted → List ℕ → Ending → Type 0) → OwesOnce Owed → OwesOneBut Differ Owed
once_but Differ Owed once a b output other end way same h k =
    let one = once a b output other end way same h k in
    inl (ap (λ o. ended_answer o end) one.0 ∙ ap (ended_answer other) one.1)

module _ (Differ : Answer → Answer → Type 0) (Owed : Accepted → List ℕ → Ending → Type 0) (once : OwesOneBut Differ Owed)
    (ops : List Operator)
    (o : Options) (instants : Option ℕ) (stop : ReadStop) where
  -- where main of one program lacks the instants, that of the other does
  lacks_too : (text : List ℕ) (a b : Accepted) → IsAccepted ops o text a → IsAccepted ops o text b → LacksInstants a instants → LacksInstants b instants
  lacks_too text a b is also lacks = (sym (accepted_same ops o text a b is also).inputs ∙ lacks.0, lacks.1)

  ended_one : (text : List ℕ) (a b : Accepted) (x y : Answer) → IsAccepted ops o text a → IsAccepted ops o text b →
      OwesEnded (Owed a) instants stop a x → OwesEnded (Owed b) instants stop b y → AreOneBut Differ x y
  ended_one text a b x y is also (inl h) (inl k) = inl (h.1 ∙ sym k.1)
  ended_one text a b x y is also (inl h) (inr k) = absurd (k.0 (lacks_too text a b is also h.0))
  ended_one text a b x y is also (inr h) (inl k) = absurd (h.0 (lacks_too text b a also is k.0))
  ended_one text a b x y is also (inr h) (inr k) =
      let P : Answer → Type 0 = λ u. AreOneBut Differ u y in
      let Q : Answer → Type 0 = λ u. AreOneBut Differ (ended_answer h.1 h.2) u in
      subst P (sym h.4) (subst Q (sym k.4) (once a b h.1 k.1 h.2 k.2 (accepted_same ops o text a b is also) h.3 k.3))

  run_decided : IsDecided Differ (RefusesCheck ops o)
      (λ text told. (a : Accepted) × IsAccepted ops o text a × OwesEnded (Owed a) instants stop a told)
  run_decided = record {
    one = λ text x y h k. ended_one text h.0 k.0 x y h.1 k.1 h.2 k.2;
    apart = λ text x r h bad. checks_apart ops o text h.0 r h.1 bad;
    same = λ text r s h k. checks_alike ops o text r s h k;
  }

  pub runs_alike : (fetched : List (Result (List ℕ) ShelfError)) (x y : Answer) → OwesRunning Owed ops o instants stop fetched x →
      OwesRunning Owed ops o instants stop fetched y → AreOneBut Differ x y ⊎ AreRefusedAlike x y
  runs_alike fetched x y h k =
      text_owes_one Differ (RefusesCheck ops o)
      (λ text told. (a : Accepted) × IsAccepted ops o text a × OwesEnded (Owed a) instants stop a told)
      run_decided stop fetched x y h k

-- by the laws of one run and one interpretation
pub run_once : OneRun → (kinds : List HostKind) (instants : Option ℕ) (taken : List ℕ) (stop : ReadStop) → OwesOnce (λ a. OwesRun kinds a instants taken stop)
run_once law kinds instants taken stop a b output other end way same h k = law kinds b instants taken stop output other end way (run_moves kinds a b same instants taken stop output end h) k

pub kahn_once : OneInterpretation → (kinds : List HostKind) (instants : Option ℕ) (taken : List ℕ) (stop : ReadStop) → OwesOnce (λ a. OwesKahn kinds a instants taken stop)
kahn_once law kinds instants taken stop a b output other end way same h k = law kinds b instants taken stop output other end way (kahn_moves kinds a b same instants taken stop output end h) k

-- traces of programs of one text end alike
module _ (law : OneTrace) (ops : List Operator) (o : Options) (instants : Option ℕ) (taken : List ℕ) (stop : ReadStop) where
  -- the net and the horizon of the run of what was fetched
  abbrev Runs : List (Result (List ℕ) ShelfError) → Net → (horizon : ℕ) → Type 0
  Runs fetched net horizon = HasText fetched (λ text. (a : Accepted) × IsAccepted ops o text a × (a.net ≡ net)
      × (lists : List (List ℤ)) × (fault : Option TextFault) × IsMainFed a instants taken stop lists fault horizon)

  -- what is owed of a text
  abbrev Owed : List ℕ → Answer → Type 0
  Owed text told = (a : Accepted) × IsAccepted ops o text a × OwesEnded (OwesTrace a instants taken stop) instants stop a told

  traced_one : (text : List ℕ) (more : List (Result (List ℕ) ShelfError)) (a b : Accepted) (x y : Answer) → IsAccepted ops o text a →
      IsAccepted ops o text b → OwesEnded (OwesTrace a instants taken stop) instants stop a x →
      OwesEnded (OwesTrace b instants taken stop) instants stop b y → AreOneBut (AreTracedAlike (Runs (Ok text ∷ more))) x y
  traced_one text more a b x y is also (inl h) (inl k) = inl (h.1 ∙ sym k.1)
  traced_one text more a b x y is also (inl h) (inr k) = absurd (k.0 (sym (accepted_same ops o text a b is also).inputs ∙ h.0.0, h.0.1))
  traced_one text more a b x y is also (inr h) (inl k) = absurd (h.0 (sym (accepted_same ops o text b a also is).inputs ∙ k.0.0, k.0.1))
  traced_one text more a b x y is also (inr h) (inr k) =
      let (ends, lists, fault, horizon, fed, one, two) = law b instants taken stop h.1 k.1 h.2 k.2
      (trace_moves [] a b (accepted_same ops o text a b is also) instants taken stop h.1 h.2 h.3) k.3 in
      let P : Answer → Type 0 = λ u. AreOneBut (AreTracedAlike (Runs (Ok text ∷ more))) u y in
      let Q : Answer → Type 0 = λ u. AreOneBut (AreTracedAlike (Runs (Ok text ∷ more))) (ended_answer h.1 h.2) u in
      subst P (sym h.4) (subst Q (sym k.4)
      (inr (ap (λ e. (ending_told e).0) ends, ap (λ e. (ending_told e).1) ends, b.net, horizon, (b, also, refl, lists, fault, fed), one, two)))

  fetched_one : (fetched : List (Result (List ℕ) ShelfError)) (x y : Answer) → HasText fetched (λ text. Owed text x) →
      HasText fetched (λ text. Owed text y) → AreOneBut (AreTracedAlike (Runs fetched)) x y
  fetched_one [] x y h k = absurd h
  fetched_one (Ok text ∷ more) x y h k = traced_one text more h.0 k.0 x y h.1 k.1 h.2 k.2
  fetched_one (Err e ∷ more) x y h k = absurd h

  pub traces_alike : (fetched : List (Result (List ℕ) ShelfError)) (x y : Answer) →
      OwesRunning (λ a. OwesTrace a instants taken stop) ops o instants stop fetched x →
      OwesRunning (λ a. OwesTrace a instants taken stop) ops o instants stop fetched y →
      AreOneBut (AreTracedAlike (Runs fetched)) x y ⊎ AreRefusedAlike x y
  traces_alike fetched x y h k =
      text_owes_but (λ u v. Unit {0}) (RefusesCheck ops o) Owed
      (run_decided (λ u v. Unit {0}) (λ a. OwesTrace a instants taken stop) (λ a b out other end way same p q. inr tt) ops o instants stop)
      (AreTracedAlike (Runs fetched)) stop fetched (fetched_one fetched) x y h k
