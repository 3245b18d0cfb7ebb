-- What is taken of an input that is told and has no fault, where no count rose, is all of it, and a run of it is done.
use Rattle.std.proofs.Common.{ℕ, ◌≡◌, ◌⊎◌, true, false, List, [], ◌∷◌, ◌++◌, length, Option, None, Some, refl, ap, sym, ◌∙◌, subst, inl, inr}
use Rattle.std.specs.Prelude.{ℤ}
use Rattle.std.proofs.lemmas.List.{append-nil}
use Rattle.lucy_text.proofs.OutsideLaws.{followed, AtEnd}
use Rattle.lucy_text.specs.Outside.{Rose, SeenSource}
use Rattle.lucy_lines.specs.Cuts.{ItemOf, Held, Stop as Halt, At, Before, Cut, whole_input}
use Rattle.lucy_lines.specs.CutLaws.{OneCut, CutInPieces}
use Rattle.lucy_lines.specs.Fronts.{most_bytes}
use Rattle.lucy_lines.specs.declared.input.InputSpec.{InputSpec}
use Rattle.lucy_lines.specs.declared.reader.TextFault.{TextFault}
use Rattle.lucy_lines.specs.declared.reader.TextFault.TheVariants as text_fault
use Rattle.lucy_text.specs.Sources.{ReadStop, Unread, Ended, Failed, Passed, Open, Drained, StoppedAt, Read}
use Rattle.lucy_lines.specs.Feeding.{values_by_stream, is_closed, fault_of, StopsFor}
use Rattle.lucy_host.specs.declared.kind.HostKind.{HostKind}
use Rattle.lucy_results.specs.Running.{HasManyTurns, HasManyItems}
use Rattle.lucy_program.specs.declared.accepted.Accepted.{Accepted}
use Rattle.lucy_run.specs.declared.ending.Ending.{Ending}
use Rattle.lucy_run.specs.Feeds.{Feeds, IsMainInput}
use Rattle.lucy_run.specs.Owes.{most_instants, input_words, heading, lines_to, IsHorizonOf, EndsFor, IsMainFed, Interprets}
use Rattle.lucy_run.specs.Laws.{IsFedWell, CompleteRun, CompleteInterpretation}
use Rattle.lucy_run.proofs.OwesLaws.{OneHorizon, carried, done_for}

-- the bytes taken stand in front of those that were told
pub taken_front : (bytes taken : List ℕ) (now : Option (List ℕ)) → Some bytes ≡ followed taken now → (rest : List ℕ) × (now ≡ Some rest) × (bytes ≡ taken ++ rest)
taken_front bytes taken None e = absurd (cc e)
taken_front bytes taken (Some rest) e = (rest, refl, cc e)

-- and at the end are all of them
pub taken_all : (bytes taken : List ℕ) (now : Option (List ℕ)) → Some bytes ≡ followed taken now → AtEnd now → taken ≡ bytes
taken_all bytes taken None e ended = absurd (cc e)
taken_all bytes taken (Some rest) e ended =
    let whole : bytes ≡ taken ++ rest = cc e in
    sym (whole ∙ ap (λ r. taken ++ r) ended ∙ append-nil taken)

-- no line is refused where no fault is told
unrefused : (halt : Halt) → None ≡ fault_of Ended halt → (held : Held) × (halt ≡ Before held)
unrefused (At f) e = absurd (cc e)
unrefused (Before held) e = (held, refl)

-- a line is refused where a fault is told, and no read failed
refused_at : (stop : ReadStop) (halt : Halt) (f : TextFault) → (stop ≡ Failed → ⊥) → Some f ≡ fault_of stop halt → halt ≡ At f
refused_at stop (At g) f well e = ap At (cc (sym e))
refused_at Failed (Before held) f well e = absurd (well refl)
refused_at Unread (Before held) f well e = absurd (cc e)
refused_at Ended (Before held) f well e = absurd (cc e)
refused_at Passed (Before held) f well e = absurd (cc e)
refused_at Open (Before held) f well e = absurd (cc e)
refused_at Drained (Before held) f well e = absurd (cc e)

module _ (cut : OneCut) (pieces : CutInPieces) (inputs : List InputSpec) (before after : SeenSource) (bytes taken : List ℕ) (took : Some bytes ≡ followed taken after.left)
    (well : Rose before.faults after.faults → ⊥) (items : List ItemOf) (held : Held) (whole : Cut inputs true (whole_input bytes) items (Before held)) where
  -- of the whole input no line is refused
  none_refused : (others : List ItemOf) (f : TextFault) → Cut inputs true (whole_input bytes) others (At f) → ⊥
  none_refused others f refused =
      let one = cut inputs true (whole_input bytes) others items (At f) (Before held) refused whole in
      let apart : At f ≡ Before held = one.1 in
      cc apart

  -- so none is of a front of it
  front_unrefused : (others : List ItemOf) (f : TextFault) → Cut inputs false (whole_input taken) others (At f) → ⊥
  front_unrefused others f refused =
      let (rest, left, are) = taken_front bytes taken after.left took in
      let longer : Cut inputs true (whole_input (taken ++ rest)) others (At f) = (pieces inputs true (whole_input taken) rest others).0 f refused in
      none_refused others f (subst (λ bs. Cut inputs true (whole_input bs) others (At f)) (sym are) longer)

  -- and reading did not stop at one
  unstopped : (stop : ReadStop) (others : List ItemOf) (halt : Halt) (f : TextFault) → (stop ≡ Drained) ⊎ (stop ≡ Open) → StoppedAt most_bytes before after taken stop →
      Cut inputs (is_closed stop) (whole_input taken) others halt → Some f ≡ fault_of stop halt → ⊥
  unstopped Drained others halt f so stopped is told =
      let at : halt ≡ At f = refused_at Drained halt f (λ e. cc e) told in
      let all : taken ≡ bytes = taken_all bytes taken after.left took stopped.1.0 in
      none_refused others f (subst (λ bs. Cut inputs true (whole_input bs) others (At f)) all (subst (λ h. Cut inputs true (whole_input taken) others h) at is))
  unstopped Open others halt f so stopped is told =
      let at : halt ≡ At f = refused_at Open halt f (λ e. cc e) told in
      front_unrefused others f (subst (λ h. Cut inputs false (whole_input taken) others h) at is)
  unstopped Unread others halt f so stopped is told = absurd (elim so [ inl e ↦ cc e | inr e ↦ cc e ])
  unstopped Ended others halt f so stopped is told = absurd (elim so [ inl e ↦ cc e | inr e ↦ cc e ])
  unstopped Failed others halt f so stopped is told = absurd (elim so [ inl e ↦ cc e | inr e ↦ cc e ])
  unstopped Passed others halt f so stopped is told = absurd (elim so [ inl e ↦ cc e | inr e ↦ cc e ])

  -- it met the end, with the same items
  ended_so : (fault : Option TextFault) (stop : ReadStop) (others : List ItemOf) (halt : Halt) → StopsFor fault stop → StoppedAt most_bytes before after taken stop →
      Cut inputs (is_closed stop) (whole_input taken) others halt → fault ≡ fault_of stop halt → (others ≡ items) × (fault ≡ None)
  ended_so None Ended others halt so stopped is told =
      let all : taken ≡ bytes = taken_all bytes taken after.left took stopped.1.0 in
      let same = cut inputs true (whole_input bytes) others items halt (Before held) (subst (λ bs. Cut inputs true (whole_input bs) others halt) all is) whole in
      (same.0, refl)
  ended_so None Unread others halt so stopped is told = absurd (cc so)
  ended_so None Failed others halt so stopped is told = absurd (cc so)
  ended_so None Passed others halt so stopped is told = absurd (cc so)
  ended_so None Open others halt so stopped is told = absurd (cc so)
  ended_so None Drained others halt so stopped is told = absurd (cc so)
  ended_so (Some text_fault.ReadFault) stop others halt so stopped is told =
      let P : ReadStop → Type 0 = λ s. StoppedAt most_bytes before after taken s in
      let at : StoppedAt most_bytes before after taken Failed = subst P so stopped in
      absurd (well at.1)
  ended_so (Some (text_fault.BadLine n)) stop others halt so stopped is told = absurd (unstopped stop others halt (text_fault.BadLine n) so stopped is told)
  ended_so (Some (text_fault.UnknownStream n)) stop others halt so stopped is told = absurd (unstopped stop others halt (text_fault.UnknownStream n) so stopped is told)
  ended_so (Some (text_fault.BadValue n)) stop others halt so stopped is told = absurd (unstopped stop others halt (text_fault.BadValue n) so stopped is told)
  ended_so (Some text_fault.TooLong) stop others halt so stopped is told = absurd (unstopped stop others halt text_fault.TooLong so stopped is told)

-- main is fed the whole input, without a fault
pub feeds_whole : OneCut → CutInPieces → (inputs : List InputSpec) (before after : SeenSource) (taken : List ℕ) (stop : ReadStop) (lists others : List (List ℤ)) (fault : Option TextFault) →
    Read most_bytes before after taken stop → (Rose before.faults after.faults → ⊥) → IsMainInput inputs before.left lists → Feeds inputs taken stop others fault → (others ≡ lists) × (fault ≡ None)
feeds_whole cut pieces [] before after taken stop lists others fault read well is fed = (fed.2 ∙ sym is, fed.3)
feeds_whole cut pieces (input ∷ inputs) before after taken stop lists others fault read well is fed = told before.left refl is
  where
    ins : List InputSpec
    ins = input ∷ inputs

    told : (left : Option (List ℕ)) → before.left ≡ left → IsMainInput ins left lists → (others ≡ lists) × (fault ≡ None)
    told None e none = absurd none
    told (Some bytes) e (items, halt, feed) =
        let (held, at) = unrefused halt feed.fault in
        let whole : Cut ins true (whole_input bytes) items (Before held) = subst (λ h. Cut ins true (whole_input bytes) items h) at feed.cut in
        let same = ended_so cut pieces ins before after bytes taken (sym e ∙ read.took) well items held whole fault stop fed.0 fed.1 fed.2.stopped read.stopped fed.2.cut fed.2.fault in
        (fed.2.lists ∙ ap (values_by_stream (length ins)) same.0 ∙ sym feed.lists, same.1)

-- what is owed by such an input is owed by these lists, up to this horizon
module _ (cut : OneCut) (pieces : CutInPieces) (horizons : OneHorizon) (a : Accepted) (given : Option ℕ) (before after : SeenSource) (taken : List ℕ) (stop : ReadStop) (lists : List (List ℤ)) (horizon : ℕ)
    (read : Read most_bytes before after taken stop) (well : Rose before.faults after.faults → ⊥) (fed : IsFedWell a given before.left lists horizon) where
  pub owed_so : (P : List (List ℤ) → Option TextFault → ℕ → Type 0) (others : List (List ℤ)) (fault : Option TextFault) (last : ℕ) → IsMainFed a given taken stop others fault last → P others fault last → P lists None horizon
  owed_so P others fault last is owed =
      let (same, none) = feeds_whole cut pieces a.inputs.items before after taken stop lists others fault read well fed.input is.feeds in
      let Q : List (List ℤ) → Type 0 = λ u. IsHorizonOf (input_words a) given u last in
      let there = horizons (input_words a) lists (most_instants given) last horizon (subst Q same is.horizon_is) fed.horizon_is in
      carried P others lists fault None last horizon same none there owed

pub run_whole : OneCut → CutInPieces → OneHorizon → CompleteRun
run_whole cut pieces horizons kinds a given before after taken stop lists horizon output end read well fed (others, fault, last, is, text, ends) =
    let P : List (List ℤ) → Option TextFault → ℕ → Type 0 = λ u f t. (output ≡ heading a ++ lines_to kinds a u t) × EndsFor (input_words a) given u f end in
    let owed = owed_so cut pieces horizons a given before after taken stop lists horizon read well fed P others fault last is (text, ends) in
    (owed.0, done_for (input_words a) given lists end fed.few owed.1)

kahn_so : (kinds : List HostKind) (a : Accepted) (given : Option ℕ) (lists : List (List ℤ)) (horizon : ℕ) (output : List ℕ) (end : Ending) → (HasManyTurns a.placed.nodes horizon → ⊥) →
    (HasManyItems kinds lists a.placed.nodes a.clocks.items horizon → ⊥) → Interprets kinds a.placed.nodes a.clocks.items a.outputs.items given lists None horizon output end →
    (output ≡ lines_to kinds a lists horizon) × EndsFor (input_words a) given lists None end
kahn_so kinds a given lists horizon output end turns items (inl many) = absurd (turns many.0)
kahn_so kinds a given lists horizon output end turns items (inr (inl many)) = absurd (items many.0)
kahn_so kinds a given lists horizon output end turns items (inr (inr both)) = (both.2, both.3)

pub kahn_whole : OneCut → CutInPieces → OneHorizon → CompleteInterpretation
kahn_whole cut pieces horizons kinds a given before after taken stop lists horizon output end read well fed turns items (others, fault, last, is, does) =
    let P : List (List ℤ) → Option TextFault → ℕ → Type 0 = λ u f t. Interprets kinds a.placed.nodes a.clocks.items a.outputs.items given u f t output end in
    let owed = kahn_so kinds a given lists horizon output end turns items (owed_so cut pieces horizons a given before after taken stop lists horizon read well fed P others fault last is does) in
    (owed.0, done_for (input_words a) given lists end fed.few owed.1)
