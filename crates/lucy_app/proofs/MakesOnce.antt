-- What `make` owes of programs of one text is one output and one ending.
use Rattle.std.proofs.Common.{ℕ, ◌≡◌, Bool, true, List, [], ◌∷◌, length, Option, None, refl, ap, sym, subst, ◌∙◌}
use Rattle.std.specs.Prelude.{ℤ, IsTrue, slice_index_or}
use Rattle.lucy_word.specs.Bits.{Bits}
use Rattle.lucy_host.specs.declared.kind.HostKind.{HostKind}
use Rattle.lucy_lines.specs.Cuts.{Stop as Halt, At, Before, Cut, whole_input}
use Rattle.lucy_lines.specs.CutLaws.{OneCut}
use Rattle.lucy_lines.specs.declared.input.InputSpec.{InputSpec}
use Rattle.lucy_lines.specs.declared.reader.TextFault.{TextFault}
use Rattle.lucy_text.specs.Sources.{ReadStop, Unread, Ended, Failed, Passed, Open, Drained}
use Rattle.lucy_lines.specs.Feeding.{values_by_stream, is_closed, fault_of}
use Rattle.lucy_results.specs.Streams.{param_words, main_streams}
use Rattle.lucy_program.specs.declared.accepted.Accepted.{Accepted}
use Rattle.lucy_run.specs.declared.ending.Ending.{Ending}
use Rattle.lucy_run.specs.Feeds.{Feeds}
use Rattle.lucy_run.specs.Owes.{most_instants, input_words, IsHorizonOf, EndsFor, IsMainFed}
use Rattle.lucy_run.proofs.OwesLaws.{OneHorizon, ends_once}
use Rattle.lucy_make.specs.Text.{made_input}
use Rattle.lucy_make.specs.Figures.{figures}
use Rattle.lucy_make.specs.Owes.{printed_values, where_done, OwesSummary}
use Rattle.lucy_app.proofs.RunsOnce.{AreSame, OwesOnce, fed_moves}

whole_fault : (stop : ReadStop) (halt : Halt) → IsTrue (is_closed stop) → fault_of stop halt ≡ fault_of Ended halt
whole_fault Ended halt whole = refl
whole_fault Drained (At fault) whole = refl
whole_fault Drained (Before held) whole = refl
whole_fault Unread halt whole = absurd (cc whole)
whole_fault Failed halt whole = absurd (cc whole)
whole_fault Passed halt whole = absurd (cc whole)
whole_fault Open halt whole = absurd (cc whole)

-- an input that was taken whole has one feed, however reading stopped
pub whole_feeds : OneCut → (inputs : List InputSpec) (taken : List ℕ) (stop other : ReadStop) (lists others : List (List ℤ)) (fault way : Option TextFault) → IsTrue (is_closed stop) → IsTrue (is_closed other) →
    Feeds inputs taken stop lists fault → Feeds inputs taken other others way → (lists ≡ others) × (fault ≡ way)
whole_feeds cut [] taken stop other lists others fault way w v p q = (p.2 ∙ sym q.2, p.3 ∙ sym q.3)
whole_feeds cut (input ∷ inputs) taken stop other lists others fault way w v p q =
    let ins : List InputSpec = input ∷ inputs in
    let P : Bool → Type 0 = λ b. Cut ins b (whole_input taken) p.0 p.1 in
    let Q : Bool → Type 0 = λ b. Cut ins b (whole_input taken) q.0 q.1 in
    let one = cut ins true (whole_input taken) p.0 q.0 p.1 q.1 (subst P w p.2.cut) (subst Q v q.2.cut) in (
      p.2.lists ∙ ap (values_by_stream (length ins)) one.0 ∙ sym q.2.lists,
      p.2.fault ∙ whole_fault stop p.1 w ∙ ap (fault_of Ended) one.1 ∙ sym (whole_fault other q.1 v) ∙ sym q.2.fault,
    )

-- so has a run on the generated input, where all its bytes were taken
made_one : OneCut → OneHorizon → (a : Accepted) (stop halt : ReadStop) (lists others : List (List ℤ)) (fault way : Option TextFault) (horizon last : ℕ) (end other : Ending) → IsTrue (is_closed stop) → IsTrue (is_closed halt) →
    IsMainFed a None made_input stop lists fault horizon → IsMainFed a None made_input halt others way last → EndsFor (input_words a) None lists fault end → EndsFor (input_words a) None others way other →
    (lists ≡ others) × (horizon ≡ last) × (end ≡ other)
made_one cut horizons a stop halt lists others fault way horizon last end other whole all p q ends past =
    let words : List Bits = input_words a in
    let same = whole_feeds cut a.inputs.items made_input stop halt lists others fault way whole all p.feeds q.feeds in
    let P : List (List ℤ) → Type 0 = λ u. IsHorizonOf words None u horizon in
    let E : List (List ℤ) → Type 0 = λ u. EndsFor words None u fault end in
    let F : Option TextFault → Type 0 = λ f. EndsFor words None others f end in (
      same.0,
      horizons words others (most_instants None) horizon last (subst P same.0 p.horizon_is) q.horizon_is,
      ends_once words None others way end other (subst F same.1 (subst E same.0 ends)) past,
    )

module _ (stages : ℕ) (kinds : List HostKind) (a b : Accepted) (same : AreSame a b) where
  pub values_same : (lists : List (List ℤ)) (horizon : ℕ) → printed_values kinds a lists horizon ≡ printed_values kinds b lists horizon
  values_same lists horizon =
      ap (λ ns. slice_index_or (main_streams kinds lists ns a.clocks.items horizon) 0 []) same.nodes ∙ ap (λ cs. slice_index_or (main_streams kinds lists b.placed.nodes cs horizon) 0 []) same.clocks

  pub words_same : input_words a ≡ input_words b
  words_same = ap (λ ns. param_words ns a.clocks.items) same.nodes ∙ ap (λ cs. param_words b.placed.nodes cs) same.clocks

  pub summary_moves : (output : List ℕ) (end : Ending) → OwesSummary stages kinds a output end → OwesSummary stages kinds b output end
  summary_moves output end (stop, lists, fault, horizon, whole, fed, ends, is) =
      let E : List Bits → Type 0 = λ ws. EndsFor ws None lists fault end in (
        stop,
        lists,
        fault,
        horizon,
        whole,
        fed_moves kinds a b same None made_input stop lists fault horizon fed,
        subst E words_same ends,
        is ∙ ap (λ net. where_done end (figures stages net horizon (printed_values kinds a lists horizon))) same.net ∙ ap (λ vs. where_done end (figures stages b.net horizon vs)) (values_same lists horizon),
      )

pub summary_once : OneCut → OneHorizon → (stages : ℕ) (kinds : List HostKind) → OwesOnce (λ a. OwesSummary stages kinds a)
summary_once cut horizons stages kinds a b output other end way same h k =
    let (stop, lists, fault, horizon, whole, fed, ends, is) = summary_moves stages kinds a b same output end h in
    let (halt, others, broken, last, all, feeds, past, also) = k in
    let one = made_one cut horizons b stop halt lists others fault broken horizon last end way whole all fed feeds ends past in (
      is ∙ ap (λ e. where_done e (figures stages b.net horizon (printed_values kinds b lists horizon))) one.2
          ∙ ap (λ ls. where_done way (figures stages b.net horizon (printed_values kinds b ls horizon))) one.0
          ∙ ap (λ n. where_done way (figures stages b.net n (printed_values kinds b others n))) one.1 ∙ sym also,
      one.2,
    )
