-- A call of `run`, from its course to its end.
use Rattle.std.proofs.Common.{ℕ, ◌≡◌, List, [], None, Result, Ok, Err, length, ap, sym, refl, ◌∙◌, subst}
use Rattle.std.proofs.lemmas.List.{nil_from_length}
use Rattle.std.proofs.lemmas.Result.{MatchResult-at_err, MatchResult-at_ok}
use Rattle.lucy_host.specs.declared.kind.HostKind.{HostKind}
use Rattle.lucy_text.specs.Outside.{SeenSource, SeenSink, Writes}
use Rattle.lucy_lines.specs.declared.output.OutputSpec.{OutputSpec}
use Rattle.lucy_lines.specs.declared.error.OutputError.{OutputError}
use Rattle.lucy_lines.specs.declared.error.OutputError.TheVariants as error
use Rattle.lucy_lines.specs.OutputLaws.{InstantByInstant}
use Rattle.lucy_lines.specs.Writing.{WriterState, new_writer}
use Rattle.lucy_clock.specs.declared.node_clock.NodeClock.{NodeClock}
use Rattle.lucy_program.specs.declared.accepted.Accepted.{Accepted}
use Rattle.lucy_run.specs.declared.pace.Pace.{Pace}
use Rattle.lucy_run.specs.declared.ending.Ending.{Ending}
use Rattle.lucy_run.specs.declared.ending.Ending.TheVariants as ending
use Rattle.lucy_run.specs.Owes.{most_instants, heading}
use Rattle.lucy_run.specs.Courses.{CourseView, CanBeRunInBlocks, IsCourseBegun, IsAlong, IsCourseUnderWay, IsCourseOver, EndsOver}
use Rattle.lucy_run.specs.Played.{HasWritten, AreBlocksWritten, BreaksOff, Plays, LinesAgree, LinesByBlock}
use Rattle.lucy_run.proofs.OverLaws.{words_count}
use Rattle.lucy_run.proofs.WriteLaws.{written_first}
use Rattle.lucy_run.proofs.EndsLaws.{program, RunGives, run_whole, run_failed, run_out_of_memory}

module _ (kinds : List HostKind) (a : Accepted) (pace : Pace) (can : CanBeRunInBlocks (program kinds a pace.instants)) (source : SeenSource) (clocks : List NodeClock) (e : clocks ≡ a.clocks.items) (course : CourseView)
    (begun : IsCourseBegun kinds a.placed.nodes clocks a.inputs.items a.outputs.items pace course) where
  begun_here : IsCourseBegun kinds a.placed.nodes a.clocks.items a.inputs.items a.outputs.items pace course
  begun_here = subst (λ cs. IsCourseBegun kinds a.placed.nodes cs a.inputs.items a.outputs.items pace course) e begun

  pub begun_along : IsAlong (program kinds a pace.instants) source [] source course
  begun_along = let (given_is, block_is, at, along) = begun_here in along source

  -- of no inputs there are no words
  pub no_inputs : a.inputs.items ≡ [] → course.words ≡ []
  no_inputs none = nil_from_length course.words (ap length begun_along.words ∙ sym (words_count (program kinds a pace.instants) can) ∙ ap length none)

  module _ (first_text : InstantByInstant) (outputs : List OutputSpec) (f : outputs ≡ a.outputs.items) (writer : WriterState) (new : writer ≡ new_writer outputs) (between : SeenSink) where
    begun_written : HasWritten (program kinds a pace.instants) between [] course.horizon between writer
    begun_written = let (given_is, block_is, at, along) = begun_here in written_first first_text (program kinds a pace.instants) writer course.horizon (new ∙ ap new_writer f) at between

    pub written : AreBlocksWritten source between course writer
    written = (program kinds a pace.instants, source, between, [], can, begun_along, begun_written)

    module _ (now : SeenSource) (out : SeenSink) (last : CourseView) (end : WriterState) (result : Result (Unit {0}) OutputError) (plays : Plays source now between out course last writer end result) (same : last.given ≡ course.given) where
      -- the course came to its last block
      pub under_way : result ≡ Ok tt → IsCourseUnderWay now last
      under_way is =
          let (items, on, stopped, lines) = MatchResult-at_ok _ _ tt is (plays (program kinds a pace.instants) source between [] can begun_along begun_written) in
          (program kinds a pace.instants, source, items, can, on)

      same_given : last.given ≡ pace.instants
      same_given = same ∙ begun_here.0

      pub last_words : result ≡ Ok tt → a.inputs.items ≡ [] → last.words ≡ []
      last_words is none =
          let (items, on, stopped, lines) = MatchResult-at_ok _ _ tt is (plays (program kinds a pace.instants) source between [] can begun_along begun_written) in
          nil_from_length last.words (ap length on.words ∙ sym (words_count (program kinds a pace.instants) can) ∙ ap length none)

      pub some_given : result ≡ Ok tt → (a.inputs.items ≡ [] → pace.instants ≡ None → ⊥) → last.words ≡ [] → last.given ≡ None → ⊥
      some_given is some none absent =
          let (items, on, stopped, lines) = MatchResult-at_ok _ _ tt is (plays (program kinds a pace.instants) source between [] can begun_along begun_written) in
          some (nil_from_length a.inputs.items (words_count (program kinds a pace.instants) can ∙ ap length (sym on.words ∙ none))) (sym same_given ∙ absent)

      module _ (after : SeenSource) (end_is : Ending) (over : EndsOver now after last end_is) (is : result ≡ Ok tt) where
        ended : (items : List _) × IsCourseOver (program kinds a pace.instants) source items pace.instants last.horizon after end_is × HasWritten (program kinds a pace.instants) between items last.horizon out end
        ended =
            let (items, on, stopped, lines) = MatchResult-at_ok _ _ tt is (plays (program kinds a pace.instants) source between [] can begun_along begun_written) in
            (items, subst (λ g. IsCourseOver (program kinds a pace.instants) source items g last.horizon after end_is) same_given (over (program kinds a pace.instants) source items can on stopped), lines)

        -- it was run to its end
        pub whole : LinesAgree → (was : SeenSink) (text : List ℕ) → text ≡ heading a → Writes was between text → RunGives kinds a pace.instants pace.block source after was out end_is
        whole agree was text heads head =
            let (items, is_over, lines) = ended in
            run_whole kinds a pace.instants agree can pace.block source after was between out text items last.horizon end end_is heads head is_over lines

      off : (e : OutputError) → result ≡ Err e → BreaksOff (program kinds a pace.instants) source between pace.block (most_instants pace.instants) now out e
      off e is =
          let at = MatchResult-at_err _ _ e is (plays (program kinds a pace.instants) source between [] can begun_along begun_written) in
          let (given_is, block_is, at_none, along) = begun_here in
          let paced = subst (λ b. BreaksOff (program kinds a pace.instants) source between b (most_instants course.given) now out e) block_is at in
          subst (λ g. BreaksOff (program kinds a pace.instants) source between pace.block (most_instants g) now out e) given_is paced

      module _ (was : SeenSink) (text : List ℕ) (heads : text ≡ heading a) (head : Writes was between text) where
        pub failed : LinesByBlock → LinesAgree → result ≡ Err error.Failed → RunGives kinds a pace.instants pace.block source now was out ending.WriteFault
        failed blocks agree is =
            run_failed kinds a pace.instants blocks agree can pace.block source now was between out text (most_instants pace.instants) refl heads head (off error.Failed is)

        pub out_of_memory : LinesByBlock → result ≡ Err error.OutOfMemory → RunGives kinds a pace.instants pace.block source now was out ending.OutOfMemory
        out_of_memory blocks is =
            run_out_of_memory kinds a pace.instants blocks can pace.block source now was between out text (most_instants pace.instants) refl heads head (off error.OutOfMemory is)
