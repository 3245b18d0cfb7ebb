use Rattle.std.proofs.Common.{◌∷◌, [], length, length-append, ap, ◌∙◌, arith}
use Rattle.std.specs.Prelude.{slice_index_or}
use Rattle.lucy_net.specs.Faults.{rows_of}
use Rattle.lucy_net.proofs.AgendaLaws.{more_empty}
use Rattle.lucy_net.proofs.agenda.agenda_of.Goals as goal

pub loop-row-preserved : goal.loop-row-preserved
loop-row-preserved c = record {
  empty = more_empty c.loop-row.agenda.items c.push.new.self.items c.new.result c.in_ok-push.ensures.items c.new.ensures.items c.loop-row.invariant.empty;
  count = omega (arith, ap length c.in_ok-push.ensures.items, length-append c.loop-row.agenda.items (c.new.result ∷ []), c.loop-row.invariant.count);
}

pub enter_all-requires-clause-empty : goal.enter_all-requires-clause-empty
enter_all-requires-clause-empty c = λ t. ap (λ rows. slice_index_or (rows_of rows) t []) c.deref_mut.ensures.value ∙ c.loop-row.invariant.empty t
