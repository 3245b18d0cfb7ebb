-- The course of the generated program, from its begin to its end, and what is owed of it.
use Rattle.std.proofs.Common.{ℕ, ◌≡◌, ◌⊎◌, List, [], ◌++◌, None, length, ap, sym, refl, ◌∙◌, subst, inl, inr}
use Rattle.std.specs.Prelude.{ℤ, Result, Ok, Err, IfOk, IfErr}
use Rattle.std.proofs.lemmas.List.{nil_from_length}
use Rattle.lucy_host.specs.declared.kind.HostKind.{HostKind}
use Rattle.lucy_lines.specs.CutLaws.{CutInPieces}
use Rattle.lucy_text.specs.Outside.{SeenSource}
use Rattle.lucy_clock.specs.declared.node_clock.NodeClock.{NodeClock}
use Rattle.lucy_program.specs.declared.accepted.Accepted.{Accepted}
use Rattle.lucy_lines.specs.declared.output.OutputSpec.{OutputSpec}
use Rattle.lucy_results.proofs.StreamLaws.{params_count}
use Rattle.lucy_run.specs.declared.pace.Pace.{Pace}
use Rattle.lucy_run.specs.declared.ending.Ending.{Ending}
use Rattle.lucy_run.specs.declared.ending.Ending.TheVariants as ending
use Rattle.lucy_run.specs.Courses.{CourseView, Program, CanBeRunInBlocks, values, IsCourseBegun, IsAlong, IsCourseUnderWay, IsCourseOver}
use Rattle.lucy_make.specs.Text.{made_input}
use Rattle.lucy_make.specs.Figures.{sum_of, net_slots, net_lines, run_lines, figures}
use Rattle.lucy_make.specs.Owes.{printed_values, where_done, OwesSummary}
use Rattle.lucy_make.specs.Blocks.{first_to, IsBeforeFirst, TellsFirstResult, FirstAgrees, steady, RunsOut, IsMadeRun, IsDone, IsUndone}
use Rattle.lucy_make.specs.declared.summing.Told.{Told}
use Rattle.lucy_make.proofs.Feeds.{whole_feeds}

-- where the run is refused nothing stands
nothing : (end : Ending) (text : List ℕ) → (end ≡ ending.Done → ⊥) → [] ≡ where_done end text
nothing ending.Done text no_end = absurd (no_end refl)
nothing (ending.Input fault) text no_end = refl
nothing (ending.Limit limit) text no_end = refl
nothing ending.WriteFault text no_end = refl
nothing ending.OutOfMemory text no_end = refl

-- a course that was run on is still under way, with the words that it had
module _ (before now : SeenSource) (kinds : List HostKind) (course last : CourseView) (first : IsBeforeFirst kinds before course) (count : ℕ) (sum : ℤ)
    (tells : TellsFirstResult before now course last count sum) where
  pub under_way : IsCourseUnderWay now last
  under_way =
      let (p, source, can, along, at, same) = first in
      let (all, on, stopped, told) = tells p source can along at in
      (p, source, all, can, on)

  pub still_words : (course.words ≡ [] → ⊥) → last.words ≡ [] → ⊥
  still_words some none =
      let (p, source, can, along, at, same) = first in
      let (all, on, stopped, told) = tells p source can along at in
      some (along.words ∙ sym on.words ∙ none)

module _ (kinds : List HostKind) (a : Accepted) where
  -- the program that is run
  abbrev pub made_program : Program
  made_program = record { kinds = kinds; nodes = a.placed.nodes; clocks = a.clocks.items; inputs = a.inputs.items; outputs = a.outputs.items }

  module _ (can : CanBeRunInBlocks made_program) (clocks : List NodeClock) (e : clocks ≡ a.clocks.items) (outputs : List OutputSpec) (f : outputs ≡ a.outputs.items) (pace : Pace) (endless : pace.instants ≡ None) (course : CourseView)
      (begun : IsCourseBegun kinds a.placed.nodes clocks a.inputs.items outputs pace course) where
    begun_here : IsCourseBegun kinds a.placed.nodes a.clocks.items a.inputs.items a.outputs.items pace course
    begun_here = subst (λ os. IsCourseBegun kinds a.placed.nodes a.clocks.items a.inputs.items os pace course) f
        (subst (λ cs. IsCourseBegun kinds a.placed.nodes cs a.inputs.items outputs pace course) e begun)

    begun_along : (source : SeenSource) → IsAlong made_program source [] source course
    begun_along source = let (given_is, block_is, at, along) = begun_here in along source

    -- it is before its first block
    pub is_first : (source : SeenSource) → IsBeforeFirst kinds source course
    is_first source = let (given_is, block_is, at, along) = begun_here in (made_program, source, can, begun_along source, at, refl)

    -- a main with inputs has words of them
    pub some_words : (a.inputs.items ≡ [] → ⊥) → course.words ≡ [] → ⊥
    some_words some none =
        some (nil_from_length a.inputs.items (can.inputs ∙ sym (params_count a.placed.nodes a.clocks.items) ∙ sym (ap length (begun_along (steady [])).words) ∙ ap length none))

    -- what its run is, once it is over
    pub made_run : CutInPieces → FirstAgrees → (a.inputs.items ≡ [] → ⊥) → (instants count : ℕ) (sum : ℤ) (end : Ending) → RunsOut course instants count sum end →
        IsMadeRun kinds a instants count sum end
    made_run law agrees some instants count sum end (now, rest, last, tells, same, at, over) =
        let (given_is, block_is, before, along_all) = begun_here in
        let source : SeenSource = steady made_input in
        let (all, along, stopped, is) = tells made_program source can (begun_along source) before in
        let is_over = subst (λ g. IsCourseOver made_program source all g last.horizon (steady rest) end) (same ∙ given_is ∙ endless) (over made_program source all can along stopped) in
        let (stop, whole, feeds) = whole_feeds law a.inputs.items made_input rest is_over.taken is_over.stop source (steady rest) is_over.lists is_over.fault some refl refl refl refl is_over.read is_over.feeds in
        let one : first_to made_program is_over.lists last.horizon ≡ first_to made_program (values made_program all) last.horizon =
        agrees made_program (values made_program all) is_over.lists last.horizon can is_over.fronts is_over.suffice in
        subst (λ n. IsMadeRun kinds a n count sum end) (sym at) (
          stop,
          is_over.lists,
          is_over.fault,
          whole,
          record { feeds = feeds; horizon_is = is_over.horizon_is },
          is_over.ends,
          is.counted ∙ sym (ap length one),
          is.summed ∙ sym (ap sum_of one),
        )

    -- also as it is handed on, done or not
    pub made_done : CutInPieces → FirstAgrees → (a.inputs.items ≡ [] → ⊥) → (result : Result Told Ending) → IfOk result (IsDone (RunsOut course)) → IfOk result (IsDone (IsMadeRun kinds a))
    made_done law agrees some (Ok told) out = made_run law agrees some told.instants told.tally.count told.tally.sum ending.Done out
    made_done law agrees some (Err end) out = tt

    pub made_undone : CutInPieces → FirstAgrees → (a.inputs.items ≡ [] → ⊥) → (result : Result Told Ending) → IfErr result (IsUndone (RunsOut course)) → IfErr result (IsUndone (IsMadeRun kinds a))
    made_undone law agrees some (Ok told) out = tt
    made_undone law agrees some (Err end) (inl memory) = inl memory
    made_undone law agrees some (Err end) (inr (no_end, instants, count, sum, out)) = inr (no_end, instants, count, sum, made_run law agrees some instants count sum end out)

  -- where it isn't done, nothing stands
  pub refused : (stages : ℕ) (end : Ending) → IsUndone (IsMadeRun kinds a) end → (end ≡ ending.OutOfMemory) ⊎ ((end ≡ ending.Done → ⊥) × OwesSummary stages kinds a [] end)
  refused stages end (inl memory) = inl memory
  refused stages end (inr (no_end, instants, count, sum, (stop, lists, fault, whole, fed, ends, counted, summed))) =
      inr (no_end, (stop, lists, fault, instants, whole, fed, ends, nothing end (figures stages a.net instants (printed_values kinds a lists instants)) no_end))

  -- where it is, its figures do
  pub figured : (stages actors rings slots instants count : ℕ) (sum : ℤ) (text : List ℕ) → IsMadeRun kinds a instants count sum ending.Done →
      actors ≡ length a.net.actors → rings ≡ length a.net.rings → slots ≡ net_slots a.net.rings →
      text ≡ net_lines stages actors rings slots ++ run_lines instants count sum → OwesSummary stages kinds a text ending.Done
  figured stages actors rings slots instants count sum text (stop, lists, fault, whole, fed, ends, counted, summed) of_actors of_rings of_slots is =
      let of_net = ap (λ n. net_lines stages n rings slots) of_actors ∙ ap (λ n. net_lines stages (length a.net.actors) n slots) of_rings ∙ ap (net_lines stages (length a.net.actors) (length a.net.rings)) of_slots in
      let of_run = ap (λ n. run_lines instants n sum) counted ∙ ap (run_lines instants (length (printed_values kinds a lists instants))) summed in (
        stop,
        lists,
        fault,
        instants,
        whole,
        fed,
        ends,
        is ∙ ap (λ xs. xs ++ run_lines instants count sum) of_net ∙ ap (λ xs. net_lines stages (length a.net.actors) (length a.net.rings) (net_slots a.net.rings) ++ xs) of_run,
      )
