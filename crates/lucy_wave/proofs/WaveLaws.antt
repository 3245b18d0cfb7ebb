-- How a call that writes the dump of a run ends, from what its parts leave.
use Rattle.std.proofs.Common.{◌≡◌, ℕ, ◌-◌, ◌<◌, ◌^◌, List, [], ◌++◌, length, Option, Some, None, Result, Ok, refl, ap, sym, ◌∙◌, subst, inl}
use Rattle.std.specs.Prelude.{ℤ, slice_get, IfSome}
use Rattle.std.proofs.lemmas.List.{length-map}
use Rattle.std.specs.List.{AllByRecursion}
use Rattle.lucy_word.specs.Bits.{Bits}
use Rattle.std.specs.declared.alloc.AllocError.{AllocError}
use Rattle.lucy_host.specs.declared.kind.HostKind.{HostKind}
use Rattle.lucy_lines.specs.Fronts.{most_bytes}
use Rattle.lucy_lines.specs.declared.reader.TextFault.{TextFault}
use Rattle.lucy_lines.specs.declared.feeds.Feed.{Feed}
use Rattle.lucy_text.specs.Sources.{ReadStop, Read}
use Rattle.lucy_lines.specs.Feeding.{IsAsked}
use Rattle.lucy_text.specs.Outside.{SeenSource, SeenSink, Writes, Fails}
use Rattle.lucy_lines.specs.declared.output.OutputSpec.{OutputSpec}
use Rattle.lucy_lines.proofs.SinkLaws.{unwritten}
use Rattle.lucy_place.specs.declared.placed.PlacedNode.{PlacedNode}
use Rattle.lucy_clock.specs.declared.node_clock.NodeClock.{NodeClock}
use Rattle.lucy_net.specs.declared.net.Net.{Net}
use Rattle.lucy_kahn.specs.Spots.{main_of, results_in}
use Rattle.lucy_results.specs.Streams.{main_word, param_words, main_stream, main_streams}
use Rattle.lucy_program.specs.declared.accepted.Accepted.{Accepted}
use Rattle.lucy_run.specs.declared.ending.Ending.{Ending}
use Rattle.lucy_run.specs.declared.ending.Ending.TheVariants as ending
use Rattle.lucy_run.specs.Feeds.{IsMainFeed}
use Rattle.lucy_run.specs.Owes.{EndsFor, IsHorizonOf}
use Rattle.lucy_run.specs.Ends.{EndsOwed}
use Rattle.lucy_run.specs.Steps.{LeavesOwed}
use Rattle.lucy_run.proofs.EndsLaws.{ends_whole, owed_written, owed_more, owed_ends}
use Rattle.lucy_need.specs.Meeting.{assigned}
use Rattle.lucy_flat.specs.Instances.{words_in}
use Rattle.lucy_wave.specs.Dumps.{Variable, dump, text_of}
use Rattle.lucy_wave.specs.Waves.{Fit, FitInside, inner_of, inner_in, notes, variables, IsWave, AreInside, Waves, OwesWave}
use Rattle.lucy_wave.specs.Seen.{IsDump}
use Rattle.lucy_wave.proofs.DumpLaws.{text_append}

-- a dump of these lists and streams is that of the run that has them
pub is_dump : (kinds : List HostKind) (nodes : List PlacedNode) (clocks : List NodeClock) (net : Net) (outputs : List OutputSpec) (lists : List (List ℤ)) (horizon : ℕ) (shown streams : List (List ℤ))
    (inside : Option (List (List ℤ))) (text : List ℕ) → shown ≡ lists → streams ≡ main_streams kinds lists nodes clocks horizon → AreInside kinds lists nodes clocks net horizon inside →
    IsWave nodes clocks outputs shown streams inside horizon text → IsDump kinds nodes clocks net outputs lists horizon text
is_dump kinds nodes clocks net outputs lists horizon shown streams inside text same are within wave = (
  inside,
  within,
  subst (λ xs. IsWave nodes clocks outputs lists xs inside horizon text) are (subst (λ xs. IsWave nodes clocks outputs xs streams inside horizon text) same wave),
)

module _ (kinds : List HostKind) (nodes : List PlacedNode) (clocks : List NodeClock) (net : Net) (outputs : List OutputSpec) (given : Option ℕ) (lists : List (List ℤ)) (fault : Option TextFault) (horizon : ℕ)
    (text : List ℕ) (dumped : IsDump kinds nodes clocks net outputs lists horizon text) (end : Ending) (ends : EndsFor (param_words nodes clocks) given lists fault end) (was now : SeenSink) where
  -- what was to be written
  owes : Waves kinds nodes clocks net outputs given lists fault horizon text end
  owes =
      let (inside, within, wave) = dumped in
      (inside, within, wave, ends)

  -- the dump was written
  pub wave_written : Writes was now text → LeavesOwed (Waves kinds nodes clocks net outputs given lists fault horizon) was now end
  wave_written w = owed_written (Waves kinds nodes clocks net outputs given lists fault horizon) text end was now (ends_whole (param_words nodes clocks) given lists fault end ends) owes w

  -- it could not be
  pub wave_failed : Fails was now text → LeavesOwed (Waves kinds nodes clocks net outputs given lists fault horizon) was now ending.WriteFault
  wave_failed f = (text, end, owes, f)

module _ (kinds : List HostKind) (a : Accepted) (given : Option ℕ) where
  -- what a call of `wave` leaves
  abbrev pub WaveGives : (before after : SeenSource) (was now : SeenSink) → Ending → Type 0
  WaveGives before after was now result = (taken : List ℕ) × (stop : ReadStop) × Read most_bytes before after taken stop
      × IsAsked a.inputs.items taken × EndsOwed (OwesWave kinds a given taken stop) was now result

  -- memory ran out while the input was read
  pub wave_given_up : (before after : SeenSource) (taken : List ℕ) (stop : ReadStop) (o : SeenSink) → Read most_bytes before after taken stop → IsAsked a.inputs.items taken → WaveGives before after o o ending.OutOfMemory
  wave_given_up before after taken stop o read asked = (taken, stop, read, asked, ([], inl refl, unwritten o))

  -- main was fed, and the dump was written or not
  pub wave_done : (before after : SeenSource) (was now : SeenSink) (result : Ending) (feed : Feed) (answer : Result Feed AllocError) (clocks : List NodeClock) (outputs : List OutputSpec) (taken : List ℕ) (stop : ReadStop) →
      Read most_bytes before after taken stop → IsAsked a.inputs.items taken → IsMainFeed a.inputs.items taken stop answer → answer ≡ Ok feed → clocks ≡ a.clocks.items → outputs ≡ a.outputs.items →
      (horizon : ℕ) × IsHorizonOf (param_words a.placed.nodes clocks) given feed.items horizon × LeavesOwed (Waves kinds a.placed.nodes clocks a.net outputs given feed.items feed.stop horizon) was now result →
      WaveGives before after was now result
  wave_done before after was now result feed answer clocks outputs taken stop read asked fed_so is e f left =
      let P : List NodeClock → Type 0 = λ u. (horizon : ℕ) × IsHorizonOf (param_words a.placed.nodes u) given feed.items horizon
      × LeavesOwed (Waves kinds a.placed.nodes u a.net outputs given feed.items feed.stop horizon) was now result in
      let Q : List OutputSpec → Type 0 = λ u. (horizon : ℕ) × IsHorizonOf (param_words a.placed.nodes a.clocks.items) given feed.items horizon
      × LeavesOwed (Waves kinds a.placed.nodes a.clocks.items a.net u given feed.items feed.stop horizon) was now result in
      let (horizon, horizon_is, moved) = subst Q f (subst P e left) in
      let feeds = subst (IsMainFeed a.inputs.items taken stop) is fed_so in (
        taken,
        stop,
        read,
        asked,
        owed_ends (OwesWave kinds a given taken stop) was now result
            (owed_more (Waves kinds a.placed.nodes a.clocks.items a.net a.outputs.items given feed.items feed.stop horizon) (OwesWave kinds a given taken stop)
            (λ output end owed. (feed.items, feed.stop, horizon, record { feeds = feeds; horizon_is = horizon_is }, owed)) was now result moved),
      )

-- the text of the dump of a run
pub wave_is : (nodes : List PlacedNode) (clocks : List NodeClock) (outputs : List OutputSpec) (lists streams : List (List ℤ)) (inside : Option (List (List ℤ))) (horizon : ℕ) (main : PlacedNode) (words : List Bits) (vs : List Variable) (text : List ℕ) →
    main_of nodes ≡ Some main → words ≡ words_in (slice_get clocks (length nodes - 1)) → vs ≡ variables main (assigned words) outputs lists streams inside → length vs < 2 ^ 64 → AllByRecursion Fit streams → FitInside inside →
    text ≡ text_of (notes inside) ++ text_of (dump main.name.text vs horizon) → IsWave nodes clocks outputs lists streams inside horizon text
wave_is nodes clocks outputs lists streams inside horizon main words vs text main_is of shown few fit fits is =
    let same : vs ≡ variables main (main_word nodes clocks) outputs lists streams inside = shown ∙ ap (λ ws. variables main (assigned ws) outputs lists streams inside) of in
    record {
      main = main;
      main_is = main_is;
      few = subst (λ (us : List Variable). length us < 2 ^ 64) same few;
      fit = fit;
      fit_inside = fits;
      text_is = is ∙ sym (text_append (notes inside) (dump main.name.text vs horizon)) ∙ ap (λ us. text_of (notes inside ++ dump main.name.text us horizon)) same;
    }

-- as many streams as results
pub streams_count : (kinds : List HostKind) (lists : List (List ℤ)) (nodes : List PlacedNode) (clocks : List NodeClock) (horizon : ℕ) (streams : List (List ℤ)) → streams ≡ main_streams kinds lists nodes clocks horizon →
    length streams ≡ length (results_in (main_of nodes))
streams_count kinds lists nodes clocks horizon streams is = ap length is ∙ length-map (results_in (main_of nodes)) (main_stream kinds lists nodes clocks horizon)

-- as many streams as inner places, where they are known
pub inside_count : (kinds : List HostKind) (lists : List (List ℤ)) (nodes : List PlacedNode) (clocks : List NodeClock) (net : Net) (horizon : ℕ) (inside : Option (List (List ℤ))) → AreInside kinds lists nodes clocks net horizon inside →
    IfSome inside (λ streams. length (inner_in (main_of nodes)) ≡ length streams)
inside_count kinds lists nodes clocks net horizon None is = tt
inside_count kinds lists nodes clocks net horizon (Some streams) is =
    sym (ap length is.1 ∙ length-map (inner_in (main_of nodes)) (main_stream kinds lists nodes clocks horizon))

-- so it is of the places of main
pub main_inside : (nodes : List PlacedNode) (main : PlacedNode) (inside : Option (List (List ℤ))) → main_of nodes ≡ Some main → IfSome inside (λ streams. length (inner_in (main_of nodes)) ≡ length streams) →
    IfSome inside (λ streams. length (inner_of main) ≡ length streams)
main_inside nodes main inside e count = subst (λ m. IfSome inside (λ streams. length (inner_in m) ≡ length streams)) e count
