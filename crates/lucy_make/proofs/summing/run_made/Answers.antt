use Rattle.std.proofs.Common.{None, refl, sym, subst, inl}
use Rattle.lucy_host.specs.Host.{lent}
use Rattle.lucy_host.specs.Operators.{kinds_of}
use Rattle.lucy_flat.specs.Clocked.{AreClocked}
use Rattle.lucy_run.specs.declared.pace.Pace.{Pace}
use Rattle.lucy_run.proofs.AcceptedLaws.{few_inputs, inputs_count, can_run}
use Rattle.lucy_make.specs.Text.{made_input}
use Rattle.lucy_make.specs.Blocks.{steady}
use Rattle.lucy_make.proofs.Runs.{is_first, some_words, made_done, made_undone}
use Rattle.lucy_make.proofs.summing.run_made.Goals as goal
use Rattle.lucy_make.proofs.summing.run_made.Goals.{in-Ok, in-Err}

pub new-requires-clause-inputs : goal.new-requires-clause-inputs
new-requires-clause-inputs g c κs within = inputs_count _ c.requires.accepted.0 c.requires.accepted.1 c.args.accepted c.requires.accepted.2

pub new-requires-clause-clocked : goal.new-requires-clause-clocked
new-requires-clause-clocked g c κs within =
    subst (AreClocked c.args.accepted.placed.nodes) (sym c.deref.ensures.value)
    (c.accepted_programs_are_clocked.ensures.clocked (lent c.args.host.now) c.requires.accepted.1 c.requires.accepted.0 c.args.accepted c.requires.accepted.2)

pub new-requires-clause-known : goal.new-requires-clause-known
new-requires-clause-known g c κs within =
    c.accepted_programs_are_clocked.ensures.operators (lent c.args.host.now) c.requires.accepted.1 c.requires.accepted.0 c.args.accepted c.requires.accepted.2

pub new-requires-clause-few : goal.new-requires-clause-few
new-requires-clause-few g c κs within = few_inputs _ c.requires.accepted.0 c.requires.accepted.1 c.args.accepted c.requires.accepted.2

pub new-requires-clause-pace : goal.new-requires-clause-pace
new-requires-clause-pace g c κs within = record { few = tt; workers = c.requires.workers; block = c.requires.block }

pub run_out-told-requires-clause-first : goal.run_out-told-requires-clause-first
run_out-told-requires-clause-first g c κs within =
    let pace : Pace = record { instants = None; workers = c.args.workers; block = c.args.block } in
    let can = can_run _ c.requires.accepted.0 c.requires.accepted.1 c.args.accepted c.requires.accepted.2 (kinds_of (lent c.args.host.now)) in
    is_first (kinds_of (lent c.args.host.now)) c.args.accepted can c.deref.result.now c.deref.ensures.value c.deref-2.result.now c.deref-2.ensures.value pace refl c.in-Ok.course c.in-Ok.ensures.begun (steady made_input)

pub run_out-told-requires-clause-words : goal.run_out-told-requires-clause-words
run_out-told-requires-clause-words g c κs within =
    let pace : Pace = record { instants = None; workers = c.args.workers; block = c.args.block } in
    let can = can_run _ c.requires.accepted.0 c.requires.accepted.1 c.args.accepted c.requires.accepted.2 (kinds_of (lent c.args.host.now)) in
    some_words (kinds_of (lent c.args.host.now)) c.args.accepted can c.deref.result.now c.deref.ensures.value c.deref-2.result.now c.deref-2.ensures.value pace refl c.in-Ok.course c.in-Ok.ensures.begun c.requires.inputs

pub returns-clause-ok : goal.returns-clause-ok
returns-clause-ok g c =
    let pace : Pace = record { instants = None; workers = c.args.workers; block = c.args.block } in
    let can = can_run _ c.requires.accepted.0 c.requires.accepted.1 c.args.accepted c.requires.accepted.2 (kinds_of (lent c.args.host.now)) in
    elim c.match-new.branch [
      | in-Ok w ↦ rw w.told-is (made_done (kinds_of (lent c.args.host.now)) c.args.accepted can c.deref.result.now c.deref.ensures.value c.deref-2.result.now c.deref-2.ensures.value pace refl w.in-Ok.course w.in-Ok.ensures.begun
          c.cut_in_pieces.ensures c.first_goes_on.ensures.agrees c.requires.inputs w.run_out-told.result w.run_out-told.ensures.ok)
      | in-Err w ↦ rw w.told-is (tt)
    ]

pub returns-clause-err : goal.returns-clause-err
returns-clause-err g c =
    let pace : Pace = record { instants = None; workers = c.args.workers; block = c.args.block } in
    let can = can_run _ c.requires.accepted.0 c.requires.accepted.1 c.args.accepted c.requires.accepted.2 (kinds_of (lent c.args.host.now)) in
    elim c.match-new.branch [
      | in-Ok w ↦ rw w.told-is (made_undone (kinds_of (lent c.args.host.now)) c.args.accepted can c.deref.result.now c.deref.ensures.value c.deref-2.result.now c.deref-2.ensures.value pace refl w.in-Ok.course w.in-Ok.ensures.begun
          c.cut_in_pieces.ensures c.first_goes_on.ensures.agrees c.requires.inputs w.run_out-told.result w.run_out-told.ensures.err)
      | in-Err w ↦ rw w.told-is (inl refl)
    ]
