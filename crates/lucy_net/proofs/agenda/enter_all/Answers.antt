use Rattle.std.proofs.Common.{ℕ, ◌≡◌, ◌+◌, ◌<◌, List, [], length, get_or, subst, sym, ap, Vec, Global, Some, arith}
use Rattle.std.specs.Prelude.{slice_get}
use Rattle.std.proofs.lemmas.List.{length-map}
use Rattle.lucy_net.specs.Proper.{numbers_where}
use Rattle.lucy_net.specs.Instants.{is_busy}
use Rattle.lucy_net.specs.Faults.{rows_of}
use Rattle.lucy_net.proofs.PlayLaws.{actor_here}
use Rattle.lucy_net.proofs.AgendaLaws.{gathered_more, gathered_idle, gathered, none_by}
use Rattle.lucy_net.proofs.agenda.enter_all.Goals as goal
use Rattle.lucy_net.proofs.agenda.enter_all.Goals.{then-has_rings+in_ok-enter, else-has_rings}

pub loop-number-preserved : goal.loop-number-preserved
loop-number-preserved c =
    let here : slice_get c.args.net.now.actors c.loop-number.number ≡ Some c.actor-item.result =
    actor_here c.args.net.now.actors c.list-actor-items.result.now c.loop-number.number c.actor-item.result c.list-actor-items.ensures (omega (arith, ap length c.list-actor-items.ensures)) c.actor-item.is in
    let old : (t : ℕ) → t < length (rows_of c.loop-number.rows) → get_or (rows_of c.loop-number.rows) t [] ≡ numbers_where (is_busy c.args.net.now t) c.loop-number.number = λ t l.
    c.loop-number.invariant.rows t (omega (arith, length-map c.loop-number.rows (λ row. row.items))) in
    let P : List (Vec ℕ Global) → Type 0 = λ rs. (t : ℕ) → t < length rs → get_or (rows_of rs) t [] ≡ numbers_where (is_busy c.args.net.now t) (c.loop-number.number + 1) in
    elim c.if-has_rings.branch [
      | then-has_rings+in_ok-enter w ↦ record {
        rows = subst P (sym w.rows-is) (λ t l. gathered_more c.args.net.now c.loop-number.number (length c.loop-number.rows) c.actor-item.result (rows_of c.loop-number.rows) (rows_of w.enter.new.rows) c.requires.proper here
            (c.has_rings.ensures.0 w.if-has_rings.true) (sym (length-map c.loop-number.rows (λ row. row.items))) w.in_ok-enter.ensures old t (omega (arith, length-map w.enter.new.rows (λ row. row.items))));
      }
      | else-has_rings w ↦ record {
        rows = subst P (sym w.rows-is) (λ t l. gathered_idle c.args.net.now c.loop-number.number c.actor-item.result (rows_of c.loop-number.rows) c.requires.proper here
            (none_by c.has_rings.result (length c.actor-item.result.takes + length c.actor-item.result.gives) w.if-has_rings.false c.has_rings.ensures.1) old t (omega (arith, length-map c.loop-number.rows (λ row. row.items))));
      }
    ]

pub returns : goal.returns
returns c =
    gathered c.args.net.now (rows_of c.loop-number.rows) c.loop-number.number (omega (arith, ap length c.list-actor-items.ensures))
    (λ t l. c.loop-number.invariant.rows t (omega (arith, length-map c.loop-number.rows (λ row. row.items))))
