-- How a call ends, from what its parts leave.
use Rattle.std.proofs.Common.{◌≡◌, ℕ, ◌+◌, ◌≤◌, ◌⊎◌, List, [], ◌++◌, length, take, append_assoc, Option, Some, None, Result, Ok, Err, OnOk, OnErr, refl, ap, sym, ◌∙◌, subst, inl, inr, arith}
use Rattle.std.specs.Prelude.{ℤ, IfOk}
use Rattle.std.proofs.lemmas.List.{take-append-le}
use Rattle.std.proofs.Math.Seq.{take-length}
use Rattle.std.proofs.lemmas.Result.{IfOk-at_ok}
use Rattle.lucy_word.specs.Bits.{Bits}
use Rattle.lucy_word.specs.declared.limit.Limit.TheVariants as limit
use Rattle.lucy_host.specs.declared.kind.HostKind.{HostKind}
use Rattle.lucy_kahn.specs.declared.error.KahnError.{KahnError}
use Rattle.lucy_kahn.specs.declared.error.KahnError.TheVariants as error
use Rattle.lucy_lines.specs.Fronts.{most_bytes}
use Rattle.lucy_lines.specs.declared.reader.TextFault.{TextFault}
use Rattle.lucy_lines.specs.declared.feeds.Feed.{Feed}
use Rattle.std.specs.declared.alloc.AllocError.{AllocError}
use Rattle.lucy_text.specs.Outside.{SeenSource, SeenSink, Writes, Fails}
use Rattle.lucy_text.specs.Sources.{ReadStop, Unread, Read}
use Rattle.lucy_lines.specs.declared.output.OutputSpec.{OutputSpec}
use Rattle.lucy_lines.specs.Outputs.{output_text}
use Rattle.lucy_lines.specs.declared.error.OutputError.TheVariants.{Failed, OutOfMemory as Memory}
use Rattle.lucy_lines.proofs.SinkLaws.{unwritten, writes_more, fails_behind, fails_longer}
use Rattle.lucy_kahn.specs.Horizons.{Suffice}
use Rattle.lucy_place.specs.declared.placed.PlacedNode.{PlacedNode}
use Rattle.lucy_clock.specs.declared.node_clock.NodeClock.{NodeClock}
use Rattle.lucy_results.specs.Running.{HasManyTurns, HasManyItems, RefusesStreams}
use Rattle.lucy_results.specs.Streams.{param_words, main_streams}
use Rattle.lucy_program.specs.declared.accepted.Accepted.{Accepted}
use Rattle.lucy_run.specs.declared.ending.Ending.{Ending}
use Rattle.lucy_run.specs.declared.ending.Ending.TheVariants as ending
use Rattle.lucy_run.specs.Feeds.{Feeds, IsNeededFor, IsMainFeed}
use Rattle.lucy_run.specs.Owes.{most_instants, input_words, lines_to, heading, EndsFor, IsMainFed, Interprets, OwesRun, OwesKahn, LinesAllow, IsHorizonOf}
use Rattle.lucy_lines.specs.Cuts.{ItemOf}
use Rattle.lucy_lines.specs.Writing.{WriterState}
use Rattle.lucy_run.specs.Courses.{Program, CanBeRunInBlocks, values, IsFedSoFar, IsCourseOver}
use Rattle.lucy_run.specs.Played.{HasWritten, FailsBehind, wanting_at, BreaksOff, LinesAgree, LinesByBlock}
use Rattle.lucy_lines.specs.Feeding.{IsAsked}
use Rattle.lucy_lines.proofs.FeedLaws.{asked_as}
use Rattle.lucy_run.specs.Ends.{EndsWith, EndsOwed, EndsRun, FailsInBlock}
use Rattle.lucy_run.specs.Steps.{LeavesOwed, EndsWhole, refusal_ending, LeavesUnwritten}
use Rattle.lucy_run.proofs.FedLaws.{read_nothing, some_lines}
use Rattle.lucy_run.proofs.HorizonLaws.{some_horizon}
use Rattle.lucy_run.proofs.ReadLaws.{suffice_longer, suffice_earlier}

-- a run that comes to its end so has the whole output
pub ends_whole : (words : List Bits) (given : Option ℕ) (lists : List (List ℤ)) (fault : Option TextFault) (end : Ending) → EndsFor words given lists fault end → EndsWhole end
ends_whole words given lists (Some fault) end e = subst EndsWhole (sym e) tt
ends_whole words (Some n) lists None end e = subst EndsWhole (sym e) tt
ends_whole words None lists None end (inl e) = subst EndsWhole (sym e.0) tt
ends_whole words None lists None end (inr e) = subst EndsWhole (sym e.0) tt

pub owed_written : (Owes : List ℕ → Ending → Type 0) (output : List ℕ) (end : Ending) (before after : SeenSink) → EndsWhole end → Owes output end → Writes before after output →
    LeavesOwed Owes before after end
owed_written Owes output ending.Done before after whole o w = (output, o, w)
owed_written Owes output (ending.Input f) before after whole o w = (output, o, w)
owed_written Owes output (ending.Limit l) before after whole o w = (output, o, w)
owed_written Owes output ending.WriteFault before after whole o w = absurd whole
owed_written Owes output ending.OutOfMemory before after whole o w = absurd whole

-- the plain interpreter gave no streams
pub interpreter_refused : (kinds : List HostKind) (nodes : List PlacedNode) (clocks : List NodeClock) (outputs : List OutputSpec) (given : Option ℕ) (lists : List (List ℤ)) (fault : Option TextFault) (horizon : ℕ)
    (e : KahnError) (s : SeenSink) → RefusesStreams kinds lists nodes clocks horizon e → LeavesOwed (Interprets kinds nodes clocks outputs given lists fault horizon) s s (refusal_ending e)
interpreter_refused kinds nodes clocks outputs given lists fault horizon error.OutOfMemory s refused = refl
interpreter_refused kinds nodes clocks outputs given lists fault horizon (error.Limit l) s (inl none) = cc
interpreter_refused kinds nodes clocks outputs given lists fault horizon (error.Limit l) s (inr (inl turns)) =
    ([], inl (turns.1, refl, ap refusal_ending turns.0), unwritten s)
interpreter_refused kinds nodes clocks outputs given lists fault horizon (error.Limit l) s (inr (inr items)) =
    ([], inr (inl (items.1, refl, ap refusal_ending items.0)), unwritten s)

-- what a call that writes the interpreter's lines leaves
abbrev pub Leaves : List HostKind → List PlacedNode → List NodeClock → List OutputSpec → (given : Option ℕ) (lists : List (List ℤ)) → Option TextFault → (was now : SeenSink) → Ending → Type 0
Leaves kinds nodes clocks outputs given lists fault was now result =
    (horizon : ℕ) × IsHorizonOf (param_words nodes clocks) given lists horizon × LeavesOwed (Interprets kinds nodes clocks outputs given lists fault horizon) was now result

pub refused_ends : (kinds : List HostKind) (nodes : List PlacedNode) (clocks : List NodeClock) (outputs : List OutputSpec) (given : Option ℕ) (lists : List (List ℤ)) (fault : Option TextFault) (horizon : ℕ)
    (words : List Bits) (e : KahnError) (s : SeenSink) (result : Ending) → words ≡ param_words nodes clocks → IsHorizonOf words given lists horizon → result ≡ refusal_ending e → RefusesStreams kinds lists nodes clocks horizon e →
    Leaves kinds nodes clocks outputs given lists fault s s result
refused_ends kinds nodes clocks outputs given lists fault horizon words e s result same horizon_is is refused =
    let P : List Bits → Type 0 = λ u. IsHorizonOf u given lists horizon in
    let Q : Ending → Type 0 = λ r. LeavesOwed (Interprets kinds nodes clocks outputs given lists fault horizon) s s r in
    (horizon, subst P same horizon_is, subst Q (sym is) (interpreter_refused kinds nodes clocks outputs given lists fault horizon e s refused))

-- the plain interpreter gave these streams, and their lines were written
module _ (kinds : List HostKind) (nodes : List PlacedNode) (clocks : List NodeClock) (outputs : List OutputSpec) (given : Option ℕ) (lists : List (List ℤ)) (fault : Option TextFault) (horizon : ℕ)
    (answer : Result (List (List ℤ)) KahnError) (streams : List (List ℤ)) (is : answer ≡ Ok streams) (ok : IfOk answer (λ got. got ≡ main_streams kinds lists nodes clocks horizon))
    (turns : HasManyTurns nodes horizon → answer ≡ Err (error.Limit limit.KahnTurns))
    (items : HasManyItems kinds lists nodes clocks horizon → (answer ≡ Err error.OutOfMemory) ⊎ (answer ≡ Err (error.Limit limit.KahnItems))) (words : List Bits) (same : words ≡ param_words nodes clocks) where
  few_turns : HasManyTurns nodes horizon → ⊥
  few_turns many = let both : Ok streams ≡ Err (error.Limit limit.KahnTurns) = sym is ∙ turns many in cc

  few_items : HasManyItems kinds lists nodes clocks horizon → ⊥
  few_items many = elim (items many) [
    | inl none ↦ let both : Ok streams ≡ Err error.OutOfMemory = sym is ∙ none in cc
    | inr past ↦ let both : Ok streams ≡ Err (error.Limit limit.KahnItems) = sym is ∙ past in cc
  ]

  interprets : (end : Ending) → EndsFor words given lists fault end → Interprets kinds nodes clocks outputs given lists fault horizon (output_text outputs streams horizon) end
  interprets end ends =
      let P : List Bits → Type 0 = λ u. EndsFor u given lists fault end in
      inr (inr (few_turns, few_items, ap (λ u. output_text outputs u horizon) (IfOk-at_ok (λ got. got ≡ main_streams kinds lists nodes clocks horizon) is ok), subst P same ends))

  module _ (horizon_is : IsHorizonOf words given lists horizon) where
    at_horizon : IsHorizonOf (param_words nodes clocks) given lists horizon
    at_horizon = (let P : List Bits → Type 0 = λ u. IsHorizonOf u given lists horizon in subst P same horizon_is)

    pub lines_interpreted : (end : Ending) (was now : SeenSink) → EndsFor words given lists fault end → Writes was now (output_text outputs streams horizon) →
        Leaves kinds nodes clocks outputs given lists fault was now end
    lines_interpreted end was now ends w = (
      horizon,
      at_horizon,
      owed_written (Interprets kinds nodes clocks outputs given lists fault horizon) (output_text outputs streams horizon) end was now (ends_whole words given lists fault end ends) (interprets end ends) w,
    )

    pub interpreted_failed : (end : Ending) (was now : SeenSink) → EndsFor words given lists fault end → Fails was now (output_text outputs streams horizon) →
        Leaves kinds nodes clocks outputs given lists fault was now ending.WriteFault
    interpreted_failed end was now ends f = (horizon, at_horizon, (output_text outputs streams horizon, end, interprets end ends, f))

pub on_ok : {T E P : Type 0} (r : Result T E) (x : T) → r ≡ Ok x → OnOk r P → P
on_ok {P = P} r x e h = subst (λ u. OnOk u P) e h

pub on_err : {T E P : Type 0} (r : Result T E) (y : E) → r ≡ Err y → OnErr r P → P
on_err {P = P} r y e h = subst (λ u. OnErr u P) e h

pub take_front : (a b : List ℕ) → a ≡ take (length a) (a ++ b)
take_front a b = sym (take-append-le (length a) a b (omega arith) ∙ take-length a)

-- what is left of an output that is owed is left of one that is so too
pub owed_more : (A B : List ℕ → Ending → Type 0) → ((output : List ℕ) (end : Ending) → A output end → B output end) → (was now : SeenSink) (result : Ending) → LeavesOwed A was now result → LeavesOwed B was now result
owed_more A B more was now ending.WriteFault (output, end, owed, f) = (output, end, more output end owed, f)
owed_more A B more was now ending.OutOfMemory left = left
owed_more A B more was now ending.Done (output, owed, w) = (output, more output ending.Done owed, w)
owed_more A B more was now (ending.Input f) (output, owed, w) = (output, more output (ending.Input f) owed, w)
owed_more A B more was now (ending.Limit l) (output, owed, w) = (output, more output (ending.Limit l) owed, w)

-- and so a call ends
pub owed_ends : (Owes : List ℕ → Ending → Type 0) (was now : SeenSink) (result : Ending) → LeavesOwed Owes was now result → EndsOwed Owes was now result
owed_ends Owes was now ending.WriteFault (output, end, owed, f) = (output, (end, owed), f)
owed_ends Owes was now ending.OutOfMemory left = ([], inl refl, subst (λ u. Writes was u []) (sym left) (unwritten was))
owed_ends Owes was now ending.Done left = left
owed_ends Owes was now (ending.Input f) left = left
owed_ends Owes was now (ending.Limit l) left = left

module _ (kinds : List HostKind) (a : Accepted) (given : Option ℕ) where
  -- what a call of `run` leaves
  abbrev pub RunGives : (block : ℕ) (before after : SeenSource) (was now : SeenSink) → Ending → Type 0
  RunGives block before after was now result = (taken : List ℕ) × (stop : ReadStop) × Read most_bytes before after taken stop
      × EndsRun kinds a given block taken stop was now result

  abbrev pub KahnGives : (before after : SeenSource) (was now : SeenSink) → Ending → Type 0
  KahnGives before after was now result = (taken : List ℕ) × (stop : ReadStop) × Read most_bytes before after taken stop
      × IsAsked a.inputs.items taken × EndsOwed (OwesKahn kinds a given taken stop) was now result

  -- memory ran out before anything was done
  pub run_unbegun : (block : ℕ) (s : SeenSource) (o : SeenSink) → RunGives block s s o o ending.OutOfMemory
  run_unbegun block s o = ([], Unread, read_nothing s, record { asked = inl refl; output = ([], inl refl, unwritten o); in_order = λ fault. cc })

  -- an output where nothing was read yet
  pub allowed_not_yet : (lines : List ℕ) × LinesAllow kinds a given [] Unread (heading a ++ lines)
  allowed_not_yet =
      let (lists, fed) = some_lines a.inputs.items [] Unread (λ failed. cc) in
      let (horizon, is) = some_horizon (input_words a) lists (most_instants given) in
      (lines_to kinds a lists horizon, (lists, horizon, fed, is, refl))

  -- the heading could not be written
  pub run_broken : (block : ℕ) (s : SeenSource) (was now : SeenSink) (text : List ℕ) → text ≡ heading a → Fails was now text → RunGives block s s was now ending.WriteFault
  run_broken block s was now text e f =
      let (lines, allowed) = allowed_not_yet in
      let head : Fails was now (heading a) = subst (Fails was now) e f in
      ([], Unread, read_nothing s, record { asked = inl refl; output = (heading a ++ lines, allowed, fails_longer was now (heading a) lines head); in_order = λ fault. inl (head, refl) })

  -- the heading was not written
  pub run_headless : (block : ℕ) (s : SeenSource) (was now : SeenSink) (end : Ending) → LeavesUnwritten (heading a) was now end → RunGives block s s was now end
  run_headless block s was now ending.WriteFault fails = run_broken block s was now (heading a) refl fails
  run_headless block s was now ending.OutOfMemory same = subst (λ u. RunGives block s s was u ending.OutOfMemory) (sym same) (run_unbegun block s was)
  run_headless block s was now ending.Done none = absurd none
  run_headless block s was now (ending.Input f) none = absurd none
  run_headless block s was now (ending.Limit l) none = absurd none

  -- memory ran out behind the heading, before anything was read
  pub run_unplayed : (block : ℕ) (s : SeenSource) (was now : SeenSink) (text : List ℕ) → text ≡ heading a → Writes was now text → RunGives block s s was now ending.OutOfMemory
  run_unplayed block s was now text e w =
      let (lines, allowed) = allowed_not_yet in
      let head : Writes was now (heading a) = subst (Writes was now) e w in (
        [],
        Unread,
        read_nothing s,
        record {
          asked = inl refl;
          output = (heading a, inr (heading a ++ lines, length (heading a), allowed, take_front (heading a) lines), head);
          in_order = λ fault. cc;
        },
      )

  -- the program that is run
  abbrev pub program : Program
  program = record { kinds = kinds; nodes = a.placed.nodes; clocks = a.clocks.items; inputs = a.inputs.items; outputs = a.outputs.items }

  -- it was run to its end
  pub run_whole : LinesAgree → CanBeRunInBlocks program → (block : ℕ) (before after : SeenSource) (was between now : SeenSink) (text : List ℕ) (items : List ItemOf) (horizon : ℕ) (writer : WriterState) (result : Ending) → text ≡ heading a → Writes was between text →
      IsCourseOver program before items given horizon after result → HasWritten program between items horizon now writer → RunGives block before after was now result
  run_whole agree can block before after was between now text items horizon writer result e w over has = (
    over.taken,
    over.stop,
    over.read,
    record {
      asked = over.asked;
      output = whole_with result over.ends (subst (Writes was between) e w);
      in_order = λ fault. absurd (subst EndsWhole fault (ends_whole (input_words a) given over.lists over.fault result over.ends));
    },
  )
    where
      lines : Writes between now (lines_to kinds a over.lists horizon)
      lines = subst (Writes between now) (sym (agree program (values program items) over.lists horizon can over.fronts over.suffice)) has.lines

      output : List ℕ
      output = heading a ++ lines_to kinds a over.lists horizon

      whole_with : (end : Ending) → EndsFor (input_words a) given over.lists over.fault end → Writes was between (heading a) →
          EndsWith (OwesRun kinds a given over.taken over.stop) (LinesAllow kinds a given over.taken over.stop) was now end
      whole_with end ends head = ends_with end (ends_whole (input_words a) given over.lists over.fault end ends)
          (over.lists, over.fault, horizon, record { feeds = over.feeds; horizon_is = over.horizon_is }, refl, ends) (writes_more was between now (heading a) (lines_to kinds a over.lists horizon) head lines)
        where
          ends_with : (end : Ending) → EndsWhole end → OwesRun kinds a given over.taken over.stop output end → Writes was now output →
              EndsWith (OwesRun kinds a given over.taken over.stop) (LinesAllow kinds a given over.taken over.stop) was now end
          ends_with ending.WriteFault whole owes all = absurd whole
          ends_with ending.OutOfMemory whole owes all = absurd whole
          ends_with ending.Done whole owes all = (output, owes, all)
          ends_with (ending.Input f) whole owes all = (output, owes, all)
          ends_with (ending.Limit l) whole owes all = (output, owes, all)

  -- an output of which the lines so far are a front
  module _ (Wanting : List ItemOf → Type 0) (blocks : LinesByBlock) (can : CanBeRunInBlocks program) (before after : SeenSource) (lists : List (List ℤ)) (horizon : ℕ) (within : horizon ≤ most_instants given) (suffice : Suffice (input_words a) lists horizon)
      (fed : IsFedSoFar Wanting a.inputs.items before after lists) where
    asked_so : IsAsked a.inputs.items fed.taken
    asked_so = asked_as a.inputs.items fed.taken Wanting (λ xs. Unit {0}) (λ xs wanting. tt) fed.asked

    allowed_beyond : (output rest : List ℕ) × LinesAllow kinds a given fed.taken fed.stop output × (output ≡ (heading a ++ lines_to kinds a lists horizon) ++ rest)
    allowed_beyond =
        let (last, is) = some_horizon (input_words a) fed.others (most_instants given) in
        let later : horizon ≤ last = is.greatest horizon within (suffice_longer (input_words a) lists fed.others horizon fed.fronts suffice) in
        let text = blocks program lists fed.others horizon last can fed.fronts later suffice in (
          heading a ++ lines_to kinds a fed.others last,
          _,
          (fed.others, last, fed.fed, is, refl),
          ap (λ xs. heading a ++ xs) text ∙ sym (append_assoc (heading a) (lines_to kinds a lists horizon) _),
        )

    -- the lines up to an instant were written, and then a write failed
    pub failed_block : (agree : LinesAgree) (block done aim : ℕ) → done ≤ horizon → aim ≤ done + block → IsNeededFor (input_words a) aim a.inputs.items fed.taken →
        (was between now : SeenSink) → Writes was between (heading a) → FailsBehind program lists done horizon between now → FailsInBlock kinds a given block fed.taken fed.stop was now
    failed_block agree block done aim later near needed was between now w behind =
        let (last, is) = some_horizon (input_words a) fed.others (most_instants given) in
        let beyond : horizon ≤ last = is.greatest horizon within (suffice_longer (input_words a) lists fed.others horizon fed.fronts suffice) in
        let same : lines_to kinds a fed.others done ≡ lines_to kinds a lists done = agree program lists fed.others done can fed.fronts (suffice_earlier (input_words a) lists done horizon later suffice) in
        record {
          lists = fed.others;
          horizon = last;
          fed = fed.fed;
          horizon_is = is;
          done = done;
          early = omega arith;
          between = behind.between;
          rest = behind.rest;
          written = subst (λ ls. Writes was behind.between (heading a ++ ls)) (sym same) (writes_more was between behind.between (heading a) (lines_to kinds a lists done) w behind.lines);
          failed = behind.failed;
          aim = aim;
          near = near;
          needed = needed;
        }

    pub broken_lines : (block : ℕ) (was between now : SeenSink) → Writes was between (heading a) → Fails between now (lines_to kinds a lists horizon) → FailsInBlock kinds a given block fed.taken fed.stop was now →
        RunGives block before after was now ending.WriteFault
    broken_lines block was between now w f in_block =
        let (output, rest, allowed, is) = allowed_beyond in
        let failed = subst (Fails was now) (sym is) (fails_longer was now (heading a ++ lines_to kinds a lists horizon) rest (fails_behind was between now (heading a) (lines_to kinds a lists horizon) w f)) in
        (fed.taken, fed.stop, fed.read, record { asked = asked_so; output = (output, allowed, failed); in_order = λ fault. inr in_block })

    pub lines_without_memory : (block : ℕ) (was between now : SeenSink) → Writes was between (heading a) → Writes between now (lines_to kinds a lists horizon) → RunGives block before after was now ending.OutOfMemory
    lines_without_memory block was between now w v =
        let (output, rest, allowed, is) = allowed_beyond in
        let front : List ℕ = heading a ++ lines_to kinds a lists horizon in
        let owes_front : front ≡ take (length front) output = take_front front rest ∙ ap (take (length front)) (sym is) in (
          fed.taken,
          fed.stop,
          fed.read,
          record {
            asked = asked_so;
            output = (front, inr (output, length front, allowed, owes_front), writes_more was between now (heading a) (lines_to kinds a lists horizon) w v);
            in_order = λ fault. cc;
          },
        )

  -- it was broken off
  pub run_failed : LinesByBlock → LinesAgree → CanBeRunInBlocks program → (block : ℕ) (before after : SeenSource) (was between now : SeenSink) (text : List ℕ) (most : ℕ) → most ≡ most_instants given → text ≡ heading a →
      Writes was between text → BreaksOff program before between block most after now Failed → RunGives block before after was now ending.WriteFault
  run_failed blocks agree can block before after was between now text most m e w off =
      let head : Writes was between (heading a) = subst (Writes was between) e w in
      let within : off.horizon ≤ most_instants given = omega (arith, off.within) in
      let fails = subst (Fails between now) (sym off.left.all) (fails_behind between off.left.between now (lines_to kinds a off.lists off.done) off.left.rest off.left.lines off.left.failed) in
      let Wanting : List ItemOf → Type 0 = wanting_at program off.aim Failed in
      broken_lines Wanting blocks can before after off.lists off.horizon within off.suffice off.fed block was between now head fails
      (failed_block Wanting blocks can before after off.lists off.horizon within off.suffice off.fed agree block off.done off.aim off.later off.near off.fed.asked was between now head off.left)

  pub run_out_of_memory : LinesByBlock → CanBeRunInBlocks program → (block : ℕ) (before after : SeenSource) (was between now : SeenSink) (text : List ℕ) (most : ℕ) → most ≡ most_instants given → text ≡ heading a →
      Writes was between text → BreaksOff program before between block most after now Memory → RunGives block before after was now ending.OutOfMemory
  run_out_of_memory blocks can block before after was between now text most m e w off =
      lines_without_memory (wanting_at program off.aim Memory) blocks can before after off.lists off.horizon (omega (arith, off.within)) off.suffice off.fed block was between now (subst (Writes was between) e w) off.left

  module _ (taken : List ℕ) (stop : ReadStop) (lists : List (List ℤ)) (fault : Option TextFault) (horizon : ℕ) (feeds : Feeds a.inputs.items taken stop lists fault)
      (horizon_is : IsHorizonOf (input_words a) given lists horizon) where
    fed : IsMainFed a given taken stop lists fault horizon
    fed = record { feeds = feeds; horizon_is = horizon_is }

    pub kahn_over : (before after : SeenSource) (was now : SeenSink) (result : Ending) → Read most_bytes before after taken stop → IsAsked a.inputs.items taken →
        LeavesOwed (Interprets kinds a.placed.nodes a.clocks.items a.outputs.items given lists fault horizon) was now result → KahnGives before after was now result
    kahn_over before after was now result read asked left = (
      taken,
      stop,
      read,
      asked,
      owed_ends (OwesKahn kinds a given taken stop) was now result
          (owed_more (Interprets kinds a.placed.nodes a.clocks.items a.outputs.items given lists fault horizon) (OwesKahn kinds a given taken stop)
          (λ output end owed. (lists, fault, horizon, fed, owed)) was now result left),
    )

  -- memory ran out while the input was read
  pub kahn_given_up : (before after : SeenSource) (taken : List ℕ) (stop : ReadStop) (o : SeenSink) → Read most_bytes before after taken stop → IsAsked a.inputs.items taken → KahnGives before after o o ending.OutOfMemory
  kahn_given_up before after taken stop o read asked = (taken, stop, read, asked, ([], inl refl, unwritten o))

  -- main was fed, and the lines were written or not
  pub kahn_done : (before after : SeenSource) (was now : SeenSink) (result : Ending) (feed : Feed) (answer : Result Feed AllocError) (clocks : List NodeClock) (outputs : List OutputSpec) (taken : List ℕ) (stop : ReadStop) →
      Read most_bytes before after taken stop → IsAsked a.inputs.items taken → IsMainFeed a.inputs.items taken stop answer → answer ≡ Ok feed → clocks ≡ a.clocks.items → outputs ≡ a.outputs.items →
      (horizon : ℕ) × IsHorizonOf (param_words a.placed.nodes clocks) given feed.items horizon × LeavesOwed (Interprets kinds a.placed.nodes clocks outputs given feed.items feed.stop horizon) was now result →
      KahnGives before after was now result
  kahn_done before after was now result feed answer clocks outputs taken stop read asked fed_so is e f left =
      let P : List NodeClock → Type 0 = λ u. (horizon : ℕ) × IsHorizonOf (param_words a.placed.nodes u) given feed.items horizon
      × LeavesOwed (Interprets kinds a.placed.nodes u outputs given feed.items feed.stop horizon) was now result in
      let Q : List OutputSpec → Type 0 = λ u. (horizon : ℕ) × IsHorizonOf (param_words a.placed.nodes a.clocks.items) given feed.items horizon
      × LeavesOwed (Interprets kinds a.placed.nodes a.clocks.items u given feed.items feed.stop horizon) was now result in
      let (horizon, horizon_is, moved) = subst Q f (subst P e left) in
      kahn_over taken stop feed.items feed.stop horizon (subst (IsMainFeed a.inputs.items taken stop) is fed_so) horizon_is before after was now result read asked moved
