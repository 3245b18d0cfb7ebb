-- The output that a run owes is what `run` prints.
use Rattle.std.proofs.Common.{◌≡◌, ◌≢◌, ◌-◌, ◌*◌, ◌++◌, ℕ, Bool, true, List, [], ◌∷◌, length, map, take, Option, Some, None, slice_get, refl, ap, sym, ◌∙◌, subst, inl, inr}
use Rattle.std.specs.Prelude.{ℤ, option_map, unwrap_or, IsSome, IsSomeAnd}
use Rattle.std.specs.Str.Lines.{lines}
use Rattle.std.proofs.lemmas.List.{length-map}
use Rattle.std.proofs.lemmas.Option.{slice_get-map, get_or_from_slice_get}
use Rattle.lucy_word.specs.Bits.{Bits, ones_to}
use Rattle.lucy_word.specs.Limits.{limit_number}
use Rattle.lucy_word.specs.declared.limit.Limit.TheVariants as limit
use Rattle.lucy_host.specs.declared.kind.HostKind.{HostKind}
use Rattle.lucy_host.specs.Operators.{Operator, kinds_of}
use Rattle.lucy_stream.specs.Fronts.{IsFront}
use Rattle.lucy_stream.specs.Items.{list_at}
use Rattle.lucy_stream.proofs.FrontLaws.{IsFront-take, IsFront-trans, IsFront-cut}
use Rattle.lucy_lines.specs.declared.input.InputSpec.{InputSpec}
use Rattle.lucy_lines.specs.declared.reader.TextFault.{TextFault}
use Rattle.lucy_lines.specs.declared.reader.TextFault.TheVariants.{ReadFault, TooLong}
use Rattle.lucy_lines.specs.Cuts.{ItemOf, Stop, At, Before, Held, Cut, whole_input}
use Rattle.lucy_text.specs.Sources.{ReadStop, Unread, Ended, Failed, Passed, Open, Drained}
use Rattle.lucy_lines.specs.Feeding.{is_closed, values_by_stream, fault_of, StopsFor, IsFeedOf}
use Rattle.lucy_lines.specs.declared.output.OutputSpec.{OutputSpec}
use Rattle.lucy_lines.specs.Outputs.{output_text}
use Rattle.lucy_place.specs.declared.placed.PlacedNode.{PlacedNode}
use Rattle.lucy_place.specs.Proper.{AreProper}
use Rattle.lucy_types.specs.declared.ty.Ty.{Ty}
use Rattle.lucy_types.specs.Tables.{table_at}
use Rattle.lucy_clock.specs.declared.node_clock.NodeClock.{NodeClock}
use Rattle.lucy_kahn.specs.Spots.{at, main_of, results_in}
use Rattle.lucy_kahn.specs.Sizes.{all_places}
use Rattle.lucy_kahn.specs.Horizons.{IsHorizon}
use Rattle.lucy_kahn.specs.Kahn.{kahn}
use Rattle.lucy_kahn.specs.Laws.{LaterLaw}
use Rattle.lucy_kahn.proofs.JoinedLists.{mapped}
use Rattle.lucy_flat.specs.Instances.{words_in}
use Rattle.lucy_flat.proofs.FlatLaws.{main_spot}
use Rattle.lucy_net.specs.Schedules.{events_at}
use Rattle.lucy_results.specs.Streams.{main_word, result_words, main_stream, main_streams}
use Rattle.lucy_results.specs.Running.{HasSchedule}
use Rattle.lucy_results.specs.Laws.{StreamsAreWhole}
use Rattle.lucy_program.specs.declared.accepted.Accepted.{Accepted}
use Rattle.lucy_program.specs.declared.options.Options.{Options}
use Rattle.lucy_program.specs.Names.{of_one}
use Rattle.lucy_program.specs.Scheduled.{main_output, main_outputs}
use Rattle.lucy_program.specs.Accepting.{IsAccepted}
use Rattle.lucy_program.specs.Laws.{AcceptedAreProper}
use Rattle.lucy_run.specs.declared.ending.Ending.{Ending}
use Rattle.lucy_run.specs.declared.ending.Ending.TheVariants as ending
use Rattle.lucy_run.specs.Feeds.{Feeds}
use Rattle.lucy_run.specs.Owes.{most_instants, input_words, IsHorizonOf, heading, lines_to, AllowsMore, EndsFor}
use Rattle.lucy_right.specs.Right.{Meaning, LineFails, LinesSay, IsStream}
use Rattle.lucy_right.specs.Earliest.{FoundAreEarliest}
use Rattle.lucy_right.specs.Owed.{meaning_of, AcceptedStand, IsRunOfText, CutsAreRuns, OwedAreRuns}
use Rattle.lucy_right.proofs.LineLaws.{Lined, cut_lines}

-- an accepted program's net has a sound schedule
scheduled : (ops : List Operator) (o : Options) (text : List ℕ) (a : Accepted) → IsAccepted ops o text a → HasSchedule a.placed.nodes a.clocks.items
scheduled ops o text a is = record { net = a.net; events = events_at a.schedule; flat = is.net.flat.flat; sound = is.schedule.sound }

module _ (nodes : List PlacedNode) (tables : List (List Ty)) (clocks : List NodeClock) where
  abbrev outputs : List OutputSpec
  outputs = main_outputs nodes tables clocks

  abbrev of_main : PlacedNode → List OutputSpec
  of_main main = map (main_output main (table_at tables (length nodes - 1)) (words_in (slice_get clocks (length nodes - 1)))) main.results

  -- an output's word is that of its result
  output_word : (i : ℕ) (output : OutputSpec) → slice_get outputs i ≡ Some output → slice_get (result_words nodes clocks) i ≡ Some output.word
  output_word i output e = from_main (main_of nodes) e
    where
      from_main : (o : Option PlacedNode) → slice_get (of_one of_main o) i ≡ Some output → slice_get (map (main_word nodes clocks) (results_in o)) i ≡ Some output.word
      from_main None f = absurd (cc f)
      from_main (Some main) f =
          let made : ℕ → OutputSpec = main_output main (table_at tables (length nodes - 1)) (words_in (slice_get clocks (length nodes - 1))) in
          let place = mapped made (slice_get main.results i) output (sym (slice_get-map made main.results i) ∙ f) in
          slice_get-map (main_word nodes clocks) main.results i ∙ ap (option_map (main_word nodes clocks)) place.1 ∙ ap (λ (x : OutputSpec). Some x.word) place.2

  -- there is one for each result
  output_count : length (results_in (main_of nodes)) ≡ length outputs
  output_count = from_main (main_of nodes)
    where
      from_main : (o : Option PlacedNode) → length (results_in o) ≡ length (of_one of_main o)
      from_main None = refl
      from_main (Some main) = sym (length-map main.results (main_output main (table_at tables (length nodes - 1)) (words_in (slice_get clocks (length nodes - 1)))))

  -- the list of an output's number has as many items as its word has ones
  list_count : (streams : List (List ℤ)) (words : List Bits) (t i : ℕ) (word : Bits) →
      map length streams ≡ map (λ w. ones_to w t) words → slice_get words i ≡ Some word → length (list_at streams i) ≡ ones_to word t
  list_count streams words t i word e there =
      let count : slice_get (map length streams) i ≡ Some (ones_to word t) =
      ap (λ xs. slice_get xs i) e ∙ slice_get-map (λ w. ones_to w t) words i ∙ ap (option_map (λ w. ones_to w t)) there in
      let list = mapped length (slice_get streams i) (ones_to word t) (sym (slice_get-map length streams i) ∙ count) in
      ap length (get_or_from_slice_get streams i list.0 [] list.1) ∙ list.2

  -- the first items of the stream of a result, as a run prints them
  module _ (later : LaterLaw) (kinds : List HostKind) (inputs : List (List ℤ)) (horizon : ℕ) (proper : AreProper nodes)
      (whole : map length (main_streams kinds inputs nodes clocks horizon) ≡ map (λ w. ones_to w horizon) (result_words nodes clocks)) where
    abbrev streams : List (List ℤ)
    streams = main_streams kinds inputs nodes clocks horizon

    is_stream : (i place : ℕ) (o : OutputSpec) → slice_get (results_in (main_of nodes)) i ≡ Some place → slice_get outputs i ≡ Some o →
        IsStream kinds inputs nodes horizon place o.word (list_at streams i)
    is_stream i place o e f =
        let items : List ℤ = main_stream kinds inputs nodes clocks horizon place in
        let turns : ℕ = horizon * all_places nodes in
        let listed : list_at streams i ≡ items =
        get_or_from_slice_get streams i items [] (slice_get-map (main_stream kinds inputs nodes clocks horizon) (results_in (main_of nodes)) i ∙ ap (option_map (main_stream kinds inputs nodes clocks horizon)) e) in
        let count : length (list_at streams i) ≡ ones_to o.word horizon = list_count streams (result_words nodes clocks) horizon i o.word whole (output_word i o f) in (
          count,
          turns,
          λ k l.
              let front : IsFront items (kahn kinds inputs nodes k (at [] place)) =
              IsFront-trans items (kahn kinds inputs nodes turns (at [] place)) (kahn kinds inputs nodes k (at [] place))
              (IsFront-take (ones_to (main_word nodes clocks place) horizon) (kahn kinds inputs nodes turns (at [] place)))
              (later kinds inputs nodes turns k (at [] place) proper (main_spot nodes proper i place e) l) in
              ap (λ xs. take (length xs) (kahn kinds inputs nodes k (at [] place))) listed ∙ sym (IsFront-cut items (kahn kinds inputs nodes k (at [] place)) front) ∙ sym listed,
        )

-- the laws below that are called
pub record Laws : Type 0 where
  pub stand : AcceptedStand
  pub found : FoundAreEarliest
  pub proper : AcceptedAreProper
  pub later : LaterLaw
  pub whole : StreamsAreWhole

-- a run ends for a refused line
abbrev EndsAtLine : Ending → Type 0
EndsAtLine end = (fault : TextFault) × (end ≡ ending.Input fault) × (fault ≢ ReadFault) × (fault ≢ TooLong)

-- a run that is done has met the end of its input, where no line stopped it
done_ends : (words : List Bits) (given : Option ℕ) (lists : List (List ℤ)) (fault : Option TextFault) (end : Ending) → EndsFor words given lists fault end → end ≡ ending.Done → fault ≡ None
done_ends words given lists None end e d = refl
done_ends words given lists (Some f) end e d = cc

-- and without given instants has not passed the most
ends_within : (words : List Bits) (given : Option ℕ) (lists : List (List ℤ)) (fault : Option TextFault) (end : Ending) → EndsFor words given lists fault end → end ≡ ending.Done → given ≡ None →
    AllowsMore words lists → ⊥
ends_within words given lists (Some f) end e d none more = cc
ends_within words (Some n) lists None end e d none more = cc
ends_within words None lists None end (inl e) d none more = let bad : ending.Limit limit.Instants ≡ ending.Done = sym e.0 ∙ d in cc bad
ends_within words None lists None end (inr e) d none more = e.1 more

-- one that ends for a fault has met it
faulted : (words : List Bits) (given : Option ℕ) (lists : List (List ℤ)) (fault : Option TextFault) (end : Ending) (f : TextFault) → EndsFor words given lists fault end → end ≡ ending.Input f → fault ≡ Some f
faulted words given lists (Some g) end f e d = let same : g ≡ f = cc (sym e ∙ d) in ap Some same
faulted words (Some n) lists None end f e d = cc
faulted words None lists None end f (inl e) d = let bad : ending.Limit limit.Instants ≡ ending.Input f = sym e.0 ∙ d in absurd (cc bad)
faulted words None lists None end f (inr e) d = let bad : ending.Done ≡ ending.Input f = sym e.0 ∙ d in absurd (cc bad)

-- where that isn't a failed read, it stopped at a line
stopped_at : (stop : ReadStop) (halt : Stop) (f : TextFault) → fault_of stop halt ≡ Some f → f ≢ ReadFault → halt ≡ At f
stopped_at stop (At g) f e well = ap At (cc e)
stopped_at Failed (Before held) f e well = absurd (well (cc (sym e)))
stopped_at Unread (Before held) f e well = absurd (cc e)
stopped_at Ended (Before held) f e well = absurd (cc e)
stopped_at Passed (Before held) f e well = absurd (cc e)
stopped_at Open (Before held) f e well = absurd (cc e)
stopped_at Drained (Before held) f e well = absurd (cc e)

stopped_so : (fault : Option TextFault) (stop : ReadStop) → StopsFor fault stop → fault ≡ None → stop ≡ Ended
stopped_so None stop s e = s
stopped_so (Some f) stop s e = cc

ended_before : (halt : Stop) → fault_of Ended halt ≡ None → (held : Held) × (halt ≡ Before held)
ended_before (At f) e = cc
ended_before (Before held) e = (held, refl)

all_read : (specs : List InputSpec) (taken : List ℕ) (stop : ReadStop) (items : List ItemOf) (halt : Stop) (lists : List (List ℤ)) (fault : Option TextFault) →
    IsFeedOf specs taken stop items halt (record { items = lists; stop = fault }) → fault ≡ None → (is_closed stop ≡ true) × (held : Held) × (halt ≡ Before held)
all_read specs taken stop items halt lists fault feed none =
    let ended : stop ≡ Ended = stopped_so fault stop feed.stopped none in
    let before = ended_before halt (ap (λ s. fault_of s halt) (sym ended) ∙ sym feed.fault ∙ none) in
    (ap is_closed ended, before.0, before.1)

-- the most instants of a run, given or not
most_of : (given : Option ℕ) → most_instants given ≡ unwrap_or given (limit_number limit.Instants)
most_of None = refl
most_of (Some n) = refl

module _ (laws : Laws) (ops : List Operator) (o : Options) (text : List ℕ) (a : Accepted) (is : IsAccepted ops o text a) (given : Option ℕ) (bounded : a.inputs.items ≡ [] → IsSome given) where
  abbrev m : Meaning
  m = meaning_of a

  abbrev lists_of : List ItemOf → List (List ℤ)
  lists_of items = values_by_stream (length a.inputs.items) items

  abbrev output_of : List (List ℤ) → (horizon : ℕ) → List ℕ
  output_of lists horizon = heading a ++ lines_to (kinds_of ops) a lists horizon

  -- what is printed of items that the first lines say
  of_items : (input : List ℕ) (many : ℕ) (items : List ItemOf) (horizon : ℕ) (Done Refused : Type 0) → LinesSay a.inputs.items (take many (lines input)) items →
      IsHorizonOf (input_words a) given (lists_of items) horizon → (Done → many ≡ length (lines input)) → (Done → given ≡ None → AllowsMore (input_words a) (lists_of items) → ⊥) →
      (Refused → IsSomeAnd (slice_get (lines input) many) (LineFails a.inputs.items)) → IsRunOfText ops o given text input (output_of (lists_of items) horizon) Done Refused
  of_items input many items horizon Done Refused say greatest all within next =
      let inputs : List (List ℤ) = lists_of items in
      let proper : AreProper m.nodes = laws.proper ops o text a is in
      let whole = laws.whole (kinds_of ops) inputs m.nodes m.clocks horizon proper (scheduled ops o text a is) greatest.suffice in (
        (laws.stand ops o text a is).0,
        (laws.stand ops o text a is).1,
        record {
          m = m;
          stands = (laws.stand ops o text a is).2;
          chosen = laws.found ops o text a is;
          bounded = λ none. bounded (is.inputs ∙ none);
          many = many;
          items = items;
          said = subst (λ specs. LinesSay specs (take many (lines input)) items) is.inputs say;
          inputs = inputs;
          fed = ap (λ (specs : List InputSpec). values_by_stream (length specs) items) is.inputs;
          horizon = horizon;
          greatest = subst (λ most. IsHorizon (input_words a) inputs most horizon) (most_of given) greatest;
          streams = main_streams (kinds_of ops) inputs m.nodes m.clocks horizon;
          count = length-map (results_in (main_of m.nodes)) (main_stream (kinds_of ops) inputs m.nodes m.clocks horizon) ∙ output_count m.nodes m.types m.clocks;
          kahn = is_stream m.nodes m.types m.clocks laws.later (kinds_of ops) inputs horizon proper whole;
          printed = ap (λ specs. heading a ++ output_text specs (main_streams (kinds_of ops) inputs m.nodes m.clocks horizon) horizon) is.outputs;
          all = all;
          within = within;
          next = λ r. subst (λ specs. IsSomeAnd (slice_get (lines input) many) (LineFails specs)) is.inputs (next r);
        },
      )

  -- with inputs, of a cut
  of_cut : (specs : List InputSpec) → a.inputs.items ≡ specs → specs ≢ [] → (closed : Bool) (taken more : List ℕ) (items : List ItemOf) (stop : Stop) (horizon : ℕ) (Done Refused : Type 0) →
      (closed ≡ true → more ≡ []) → Cut specs closed (whole_input taken) items stop → IsHorizonOf (input_words a) given (lists_of items) horizon →
      (Done → (closed ≡ true) × (held : Held) × (stop ≡ Before held)) → (Done → given ≡ None → AllowsMore (input_words a) (lists_of items) → ⊥) →
      (Refused → (f : TextFault) × (stop ≡ At f) × (f ≢ TooLong)) → IsRunOfText ops o given text (taken ++ more) (output_of (lists_of items) horizon) Done Refused
  of_cut [] e some closed taken more items stop horizon Done Refused shut cut greatest all within next = absurd (some refl)
  of_cut (input ∷ others) e some closed taken more items stop horizon Done Refused shut cut greatest all within next =
      let lined : Lined (input ∷ others) closed (whole_input taken) more items stop = cut_lines input others closed cut more shut in
      of_items (taken ++ more) lined.many items horizon Done Refused (subst (λ specs. LinesSay specs (take lined.many (lines (taken ++ more))) items) (sym e) lined.say) greatest
      (λ d. let h = all d in lined.all h.0 h.1 h.2) within
      (λ r. let h = next r in subst (λ specs. IsSomeAnd (slice_get (lines (taken ++ more)) lined.many) (LineFails specs)) (sym e) (lined.next h.0 h.1 h.2))

  nothing_said : (specs : List InputSpec) (ls : List (List ℕ)) → specs ≡ [] → LinesSay specs ls []
  nothing_said [] ls e = refl
  nothing_said (input ∷ others) ls e = cc

  -- what is owed of what main is fed
  of_feed : (specs : List InputSpec) → a.inputs.items ≡ specs → (taken more : List ℕ) (stop : ReadStop) (lists : List (List ℤ)) (fault : Option TextFault) (horizon : ℕ) (end : Ending) →
      (is_closed stop ≡ true → more ≡ []) → Feeds specs taken stop lists fault → IsHorizonOf (input_words a) given lists horizon → EndsFor (input_words a) given lists fault end →
      IsRunOfText ops o given text (taken ++ more) (output_of lists horizon) (end ≡ ending.Done) (EndsAtLine end)
  of_feed [] e taken more stop lists fault horizon end shut fed greatest ends =
      let none : lists_of [] ≡ [] = ap (λ (specs : List InputSpec). values_by_stream (length specs) []) e in
      let same : lists ≡ lists_of [] = fed.2 ∙ sym none in
      let input : List ℕ = taken ++ more in
      let ends_here : EndsFor (input_words a) given lists None end = subst (λ f. EndsFor (input_words a) given lists f end) fed.3 ends in
      subst (λ l. IsRunOfText ops o given text input (output_of l horizon) (end ≡ ending.Done) (EndsAtLine end)) (sym same)
      (of_items input (length (lines input)) [] horizon (end ≡ ending.Done) (EndsAtLine end) (nothing_said a.inputs.items (take (length (lines input)) (lines input)) e)
      (subst (λ l. IsHorizonOf (input_words a) given l horizon) same greatest) (λ d. refl)
      (λ d n. subst (λ l. AllowsMore (input_words a) l → ⊥) same (ends_within (input_words a) given lists fault end ends d n))
      (λ r. let bad : None ≡ Some r.0 = faulted (input_words a) given lists None end r.0 ends_here r.1 in cc bad))
  of_feed (input ∷ others) e taken more stop lists fault horizon end shut (items, halt, feed) greatest ends =
      let same : lists ≡ lists_of items = feed.lists ∙ ap (λ (specs : List InputSpec). values_by_stream (length specs) items) (sym e) in
      subst (λ l. IsRunOfText ops o given text (taken ++ more) (output_of l horizon) (end ≡ ending.Done) (EndsAtLine end)) (sym same)
      (of_cut (input ∷ others) e (λ bad. cc) (is_closed stop) taken more items halt horizon (end ≡ ending.Done) (EndsAtLine end) shut feed.cut
      (subst (λ l. IsHorizonOf (input_words a) given l horizon) same greatest)
      (λ d. all_read (input ∷ others) taken stop items halt lists fault feed (done_ends (input_words a) given lists fault end ends d))
      (λ d n. subst (λ l. AllowsMore (input_words a) l → ⊥) same (ends_within (input_words a) given lists fault end ends d n))
      (λ r. (r.0, stopped_at stop halt r.0 (sym feed.fault ∙ faulted (input_words a) given lists fault end r.0 ends r.1) r.2, r.3)))

pub cuts_are_runs : Laws → CutsAreRuns
cuts_are_runs laws ops o text a given closed taken more items stop horizon is some shut cut greatest =
    of_cut laws ops o text a is given (λ none. absurd (some none)) a.inputs.items refl some closed taken more items stop horizon _ _ shut cut greatest
    (λ d. (d.0, d.1, d.2)) (λ d. d.3) (λ r. r)

pub owed_are_runs : Laws → OwedAreRuns
owed_are_runs laws ops o text a given taken more stop output end is bounded shut (lists, fault, horizon, fed, printed, ends) =
    subst (λ x. IsRunOfText ops o given text (taken ++ more) x (end ≡ ending.Done) (EndsAtLine end)) (sym printed)
    (of_feed laws ops o text a is given bounded a.inputs.items refl taken more stop lists fault horizon end shut fed.feeds fed.horizon_is ends)
