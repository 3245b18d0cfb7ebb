use Rattle.std.proofs.Common.{◌+◌, length, arith}
use Rattle.std.proofs.lemmas.List.{length-map}
use Rattle.lucy_net.specs.Faults.{rows_of}
use Rattle.lucy_net.proofs.AgendaLaws.{place_some, place_within, entered_none, entered_more}
use Rattle.lucy_net.proofs.agenda.enter.Goals as goal

pub loop-before-init : goal.loop-before-init
loop-before-init c = entered_none c.args.actor.now c.args.number (rows_of c.args.rows.now)

pub overflow_sub-instant : goal.overflow_sub-instant
overflow_sub-instant c = place_some c.args.actor.now.firing (c.loop-before.before + 1) c.instant_of-instant.result (omega arith) c.instant_of-instant.ensures

pub push_at-requires : goal.push_at-requires
push_at-requires c =
    omega (
      arith,
      place_some c.args.actor.now.firing (c.loop-before.before + 1) c.instant_of-instant.result (omega arith) c.instant_of-instant.ensures,
      place_within c.args.actor.now.firing (c.loop-before.before + 1) c.instant_of-instant.result (length c.args.rows.now) (omega (arith, c.ones-before-end.ensures)) c.instant_of-instant.ensures,
    )

pub loop-before-preserved : goal.loop-before-preserved
loop-before-preserved c =
    entered_more c.args.actor.now c.args.number c.loop-before.before c.instant_of-instant.result (rows_of c.args.rows.now) (rows_of c.loop-before.rows) (rows_of c.push_at.new.rows) c.loop-before.invariant c.instant_of-instant.ensures
    (omega (
      arith,
      length-map c.args.rows.now (λ row. row.items),
      place_within c.args.actor.now.firing (c.loop-before.before + 1) c.instant_of-instant.result (length c.args.rows.now) (omega (arith, c.ones-before-end.ensures)) c.instant_of-instant.ensures,
    ))
    c.in_ok-push_at.ensures
