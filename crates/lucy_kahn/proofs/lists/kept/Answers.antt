use Rattle.std.proofs.Common.{◌≡◌, ◌+◌, ◌≤◌, ◌++◌, true, false, length, drop, ap, sym, subst, ◌∙◌, arith, rules, get_or}
use Rattle.std.specs.Prelude.{pos}
use Rattle.std.specs.Int.{w64}
use mir.Val.{SFits}
use Rattle.std.proofs.lemmas.Int.{to_z-of_z}
use Rattle.lucy_word.specs.Bits.{bit_at}
use Rattle.lucy_stream.specs.Lists.{kept_past}
use Rattle.lucy_kahn.specs.Outcomes.{most_items}
use Rattle.lucy_kahn.proofs.ListSteps.{kept_put, kept_skip, kept_short, kept_end, grown, too_long}
use Rattle.lucy_kahn.proofs.lists.kept.Goals as goal
use Rattle.lucy_kahn.proofs.lists.kept.Goals.{then-bit+in_ok-put, else-bit}

pub loop-i-preserved : goal.loop-i-preserved
loop-i-preserved c = elim c.if-bit.branch [
  | then-bit+in_ok-put w ↦
      let b : bit_at c.args.word.now (c.loop-i.i + 1) ≡ true = sym c.bit.ensures ∙ w.if-bit.true in
      let fits : SFits w64 (get_or c.args.list.now c.loop-i.i (pos 0)) = search rules in
      let new = ap (λ v. v.items) w.made-is ∙ (simp to_z-of_z at w.in_ok-put.ensures.ok.0) in
      (kept_put c.args.word.now c.args.list.now c.loop-i.made.items _ c.loop-i.i (omega arith) b new c.loop-i.invariant.0, grown c.loop-i.made.items _ _ most_items new w.in_ok-put.ensures.ok.1)
  | else-bit w ↦
      let b : bit_at c.args.word.now (c.loop-i.i + 1) ≡ false = sym c.bit.ensures ∙ w.if-bit.false in
      let same = ap (λ v. v.items) w.made-is in (
        ap (λ xs. xs ++ kept_past c.args.word.now (c.loop-i.i + 1) (drop (c.loop-i.i + 1) c.args.list.now)) same ∙ kept_skip c.args.word.now c.args.list.now c.loop-i.made.items c.loop-i.i (omega arith) b c.loop-i.invariant.0,
        subst (λ xs. length xs ≤ most_items) (sym same) c.loop-i.invariant.1,
      )
]

pub returns-in_err-put-clause-limit : goal.returns-in_err-put-clause-limit
returns-in_err-put-clause-limit c =
    let b : bit_at c.args.word.now (c.loop-i.i + 1) ≡ true = sym c.bit.ensures ∙ c.if-bit.true in
    too_long c.from_residual.result _ c.loop-i.made.items _ c.from_residual.ensures.1 c.in_err-put.ensures.limit
    (kept_short c.args.word.now c.args.list.now c.loop-i.made.items c.loop-i.i (omega arith) b c.loop-i.invariant.0)

pub returns-clause-ok : goal.returns-clause-ok
returns-clause-ok c =
    let is = kept_end c.args.word.now c.args.list.now c.loop-i.made.items c.loop-i.i (omega arith) c.loop-i.invariant.0 in
    (is, subst (λ xs. length xs ≤ most_items) is c.loop-i.invariant.1)
