-- The lines of a course, block by block.
use Rattle.std.proofs.Common.{ℕ, ◌+◌, ◌≤◌, ◌≡◌, List, [], ◌++◌, length, ap, sym, ◌∙◌, subst, inl, inr, arith}
use Rattle.std.specs.Prelude.{ℤ}
use Rattle.std.proofs.lemmas.Bool.{cases_lt}
use Rattle.std.proofs.lemmas.List.{length-map, append-nil}
use Rattle.lucy_lines.specs.Cuts.{ItemOf}
use Rattle.lucy_lines.specs.CutLaws.{OneCut, CutInPieces, SomeCut}
use Rattle.lucy_text.specs.Outside.{SeenSource, SeenSink, Writes, Fails}
use Rattle.lucy_lines.specs.Resuming.{ValuesInTurn}
use Rattle.lucy_lines.specs.declared.output.OutputSpec.{OutputSpec}
use Rattle.lucy_lines.specs.declared.error.OutputError.TheVariants as error
use Rattle.lucy_lines.specs.Outputs.{lines_after}
use Rattle.lucy_lines.specs.OutputLaws.{InstantByInstant}
use Rattle.lucy_lines.specs.Writing.{WriterState, new_writer}
use Rattle.lucy_lines.proofs.SinkLaws.{unwritten, writes_more}
use Rattle.lucy_kahn.specs.Horizons.{Suffice}
use Rattle.lucy_kahn.specs.Spots.{main_of, results_in}
use Rattle.lucy_results.specs.Streams.{main_word, main_streams, later_stream, later_streams}
use Rattle.lucy_run.specs.Owes.{most_instants}
use Rattle.lucy_run.specs.Courses.{CourseView, Program, CanBeRunInBlocks, words_of, values, HasFed, AreSilent, IsAlong, IsNextBlock, GivesUpBehind}
use Rattle.lucy_run.specs.Played.{lines_of, HasWritten, BreaksOff, LinesByBlock}
use Rattle.lucy_run.proofs.ReadLaws.{fed_feeds}
use Rattle.lucy_run.proofs.SilentLaws.{silent_earlier, silent_lines}
use Rattle.lucy_run.proofs.WantingLaws.{fed_for}

-- no line was written yet
pub written_first : InstantByInstant → (p : Program) (writer : WriterState) (horizon : ℕ) → writer ≡ new_writer p.outputs → horizon ≡ 0 → (sink : SeenSink) → HasWritten p sink [] horizon sink writer
written_first first_text p writer horizon new at sink =
    let none : HasWritten p sink [] 0 sink writer = record {
      outputs = ap (λ (w : WriterState). w.outputs) new;
      instants = ap (λ (w : WriterState). w.instants) new;
      whole = ap (λ (w : WriterState). w.broken) new;
      lines = subst (Writes sink sink) (sym (first_text p.outputs (main_streams p.kinds (values p []) p.nodes p.clocks 0)).0) (unwritten sink);
    } in
    subst (λ n. HasWritten p sink [] n sink writer) (sym at) none

module _ (p : Program) (first : SeenSource) (was : SeenSink) (items : List ItemOf) (before : SeenSource) (old : CourseView) (along : IsAlong p first items before old) (written : SeenSink) (writer : WriterState)
    (has : HasWritten p was items old.horizon written writer) where
  -- memory ran out before the next lines
  pub broken_off : (now : SeenSource) (block most : ℕ) → most_instants old.given ≡ most → GivesUpBehind old.words old.target before now old.reader → BreaksOff p first was block most now written error.OutOfMemory
  broken_off now block most same given_up = record {
    lists = values p items;
    done = old.horizon;
    horizon = old.horizon;
    aim = old.horizon;
    later = omega arith;
    near = omega arith;
    within = omega (arith, along.last.within, along.early);
    suffice = along.suffice;
    fed = subst (λ ws. GivesUpBehind ws old.target before now old.reader) along.words given_up p.inputs first items along.fed along.fresh along.kept;
    left = has.lines;
  }

  module _ (turn : ValuesInTurn) (blocks : LinesByBlock) (can : CanBeRunInBlocks p) (now : SeenSource) (new : CourseView) (streams : List (List ℤ)) (next : IsNextBlock p first items now old new streams) where
    -- there are lists enough
    pub lists_enough : length writer.outputs ≤ length streams
    lists_enough =
        let of_words = ap length can.words in
        let of_streams = ap length next.streams_are in
        let of_outputs = ap length has.outputs in
        omega (
          arith,
          of_words,
          of_streams,
          of_outputs,
          length-map p.outputs (λ (o : OutputSpec). o.word),
          length-map (results_in (main_of p.nodes)) (main_word p.nodes p.clocks),
          length-map (results_in (main_of p.nodes)) (later_stream p.kinds (values p (items ++ next.more)) p.nodes p.clocks old.horizon new.horizon),
        )

    pub later_lines : writer.instants ≤ new.horizon
    later_lines = omega (arith, has.instants, next.later)

    lines_are : lines_of p (values p (items ++ next.more)) new.horizon ≡ lines_of p (values p items) old.horizon ++ lines_after writer.outputs streams writer.instants new.horizon
    lines_are =
        blocks p (values p items) (values p (items ++ next.more)) old.horizon new.horizon can next.fronts next.later along.suffice
        ∙ ap (λ xs. lines_of p (values p items) old.horizon ++ lines_after p.outputs xs old.horizon new.horizon) (sym next.streams_are)
        ∙ ap (λ os. lines_of p (values p items) old.horizon ++ lines_after os streams old.horizon new.horizon) (sym has.outputs)
        ∙ ap (λ n. lines_of p (values p items) old.horizon ++ lines_after writer.outputs streams n new.horizon) (sym has.instants)

    -- the instants in which no output has an item have no lines
    lines_at : (t : ℕ) → old.horizon ≤ t → AreSilent p.outputs old.horizon t → lines_of p (values p (items ++ next.more)) t ≡ lines_of p (values p items) old.horizon
    lines_at t later still =
        blocks p (values p items) (values p (items ++ next.more)) old.horizon t can next.fronts later along.suffice
        ∙ ap (λ xs. lines_of p (values p items) old.horizon ++ xs)
        (silent_lines p.outputs (later_streams p.kinds (values p (items ++ next.more)) p.nodes p.clocks old.horizon t) old.horizon t later still)
        ∙ append-nil (lines_of p (values p items) old.horizon)

    -- a write of the lines failed behind those of so many instants, for whose block the items were read
    failed_behind : (sink : SeenSink) (block most done aim : ℕ) → most_instants new.given ≡ most → Fails written sink (lines_after writer.outputs streams writer.instants new.horizon) →
        done ≤ new.horizon → old.horizon ≤ done → AreSilent p.outputs old.horizon done → aim ≤ done + block → HasFed (words_of p) aim p.inputs first now new.reader (items ++ next.more) →
        BreaksOff p first was block most now sink error.Failed
    failed_behind sink block most done aim same fails within later still near fed =
        let rest : List ℕ = lines_after writer.outputs streams writer.instants new.horizon in
        let before_it = lines_at done later still in
        record {
          lists = values p (items ++ next.more);
          done = done;
          horizon = new.horizon;
          aim = aim;
          later = within;
          near = near;
          within = omega (arith, next.along.last.within, next.along.early);
          suffice = next.along.suffice;
          fed = fed_feeds turn (words_of p) aim p.inputs first now new.reader (items ++ next.more) fed;
          left = record {
            between = written;
            rest = rest;
            lines = subst (Writes was written) (sym before_it) has.lines;
            all = lines_are ∙ ap (λ xs. xs ++ rest) (sym before_it);
            failed = fails;
          };
        }

    -- a write of the lines failed
    pub writing_broken : OneCut → SomeCut → CutInPieces → (sink : SeenSink) (block most : ℕ) → old.block ≡ block → most_instants new.given ≡ most →
        Fails written sink (lines_after writer.outputs streams writer.instants new.horizon) → BreaksOff p first was block most now sink error.Failed
    writing_broken one some pieces sink block most paced same fails =
        let (silent, ahead, still, near) = next.goes.near in
        let fed = next.along.fed in
        elim (cases_lt new.horizon silent) [
          | inr late ↦ failed_behind sink block most silent new.target same fails late ahead still (omega (arith, near, paced)) fed
          | inl early ↦
              let quiet = silent_earlier p.outputs old.horizon new.horizon silent next.later (omega arith) still in
              elim (cases_lt new.horizon new.target) [
                | inr whole ↦ failed_behind sink block most new.horizon new.target same fails (omega arith) next.later quiet (omega arith) fed
                | inl short ↦ elim next.along.last.last [
                  | inl all ↦ absurd (omega (arith, all))
                  | inr cut ↦
                      let few : Suffice (words_of p) (values p (items ++ next.more)) (new.horizon + 1) → ⊥ =
                      λ enough. (let reached = cut.1 (new.horizon + 1) (omega arith) enough in absurd (omega (arith, reached))) in
                      failed_behind sink block most new.horizon (new.horizon + 1) same fails (omega arith) next.later quiet (omega (arith, along.block.0, paced))
                      (fed_for one some pieces turn (words_of p) (new.horizon + 1) new.target p.inputs first now new.reader (items ++ next.more) cut.0 few fed)
                ]
              ]
        ]

    -- they were written
    pub written_on : (sink : SeenSink) (end : WriterState) → end ≡ record writer { instants = new.horizon } → Writes written sink (lines_after writer.outputs streams writer.instants new.horizon) →
        HasWritten p was (items ++ next.more) new.horizon sink end
    written_on sink end is writes = record {
      outputs = ap (λ (w : WriterState). w.outputs) is ∙ has.outputs;
      instants = ap (λ (w : WriterState). w.instants) is;
      whole = ap (λ (w : WriterState). w.broken) is ∙ has.whole;
      lines = subst (Writes was sink) (sym lines_are)
          (writes_more was written sink (lines_of p (values p items) old.horizon) (lines_after writer.outputs streams writer.instants new.horizon) has.lines writes);
    }
