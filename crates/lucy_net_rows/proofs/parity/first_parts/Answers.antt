use Rattle.std.proofs.Common.{Vec, Global, ap, sym, ◌∙◌, subst, All}
use Rattle.lucy_worker.specs.declared.part.Part.{Part}
use Rattle.lucy_net_rows.specs.ByHand.{IsBegun}
use Rattle.lucy_net_rows.proofs.HandLaws.{begun_more}
use Rattle.lucy_net_rows.proofs.parity.first_parts.Goals as goal
use Rattle.lucy_net_rows.proofs.parity.first_parts.Goals.{then-number-eq0+in_ok-push, else-number-eq0+in_ok-push-2}

pub loop-number-preserved : goal.loop-number-preserved
loop-number-preserved c = elim c.if-number-eq0.branch [
  | then-number-eq0+in_ok-push w ↦ (
    begun_more c.loop-number.even.items c.if-number-eq0.even.items c.in_ok-part.part (ap (λ (v : Vec Part Global). v.items) w.even-is ∙ w.in_ok-push.ensures) c.loop-number.invariant.0 c.in_ok-part.ensures,
    subst (λ (v : Vec Part Global). All IsBegun v.items) (sym w.odd-is) c.loop-number.invariant.1,
  )
  | else-number-eq0+in_ok-push-2 w ↦ (
    subst (λ (v : Vec Part Global). All IsBegun v.items) (sym w.even-is) c.loop-number.invariant.0,
    begun_more c.loop-number.odd.items c.if-number-eq0.odd.items c.in_ok-part.part (ap (λ (v : Vec Part Global). v.items) w.odd-is ∙ w.in_ok-push-2.ensures) c.loop-number.invariant.1 c.in_ok-part.ensures,
  )
]
