use Rattle.std.proofs.Common.{ℕ, ◌∙◌, refl, sym, subst, arith, get_or}
use Rattle.lucy_word.proofs.Results.{on_err}
use Rattle.lucy_lines.specs.Walks.{WalkState, FitsRoom}
use Rattle.lucy_lines.proofs.SinkLaws.{nothing_gathered, gathered_untouched, gathered_empty}
use Rattle.lucy_lines.proofs.WalkLaws.{no_lines, none_stepped, one_more_stepped, all_stepped, walked_now, one_more_gathered, instant_fails, first_empty}
use Rattle.lucy_lines.proofs.instant.put_instant.Goals as goal

pub loop-i-init : goal.loop-i-init
loop-i-init g c = record {
  gathered = nothing_gathered _ _ c.args.lines.now _ (no_lines c.args.lines.now.bytes c.args.walks.now c.args.lists.now);
  stepped = none_stepped c.args.lists.now c.args.walks.now;
  room = refl;
  count = omega arith;
}

pub put_next-requires : goal.put_next-requires
put_next-requires g c =
    let w : WalkState = get_or c.loop-i.walks c.loop-i.i c.index-walks-i.result in
    let at = walked_now c.args.lists.now c.args.walks.now c.loop-i.walks c.loop-i.i c.index-walks-i.result c.loop-i.invariant.stepped (omega arith) in
    let P : ℕ → Type 0 = λ room. FitsRoom w.output room in
    subst P (sym c.loop-i.invariant.room) (c.requires.fit c.loop-i.i w at)

pub returns-in_err-put_next-clause-failed : goal.returns-in_err-put_next-clause-failed
returns-in_err-put_next-clause-failed g c =
    let at = walked_now c.args.lists.now c.args.walks.now c.loop-i.walks c.loop-i.i c.index-walks-i.result c.loop-i.invariant.stepped (omega arith) in
    on_err c.from_residual.result _ (instant_fails _ _ _ _ _ _ _ _ _ _ _ _ _ at c.list.ensures refl c.loop-i.invariant.gathered c.in_err-put_next.ensures.failed)

pub returns-in_err-put_next-clause-untouched : goal.returns-in_err-put_next-clause-untouched
returns-in_err-put_next-clause-untouched g c = λ empty.
    let none = first_empty c.args.lines.now.bytes c.args.walks.now c.args.lists.now c.loop-i.i empty in
    c.in_err-put_next.ensures.untouched (gathered_empty _ _ _ _ _ _ c.loop-i.invariant.gathered none) ∙ gathered_untouched _ _ _ _ _ _ c.loop-i.invariant.gathered none

pub loop-i-preserved : goal.loop-i-preserved
loop-i-preserved g c =
    let at = walked_now c.args.lists.now c.args.walks.now c.loop-i.walks c.loop-i.i c.index-walks-i.result c.loop-i.invariant.stepped (omega arith) in
    record {
      gathered = one_more_gathered _ _ _ _ _ _ _ _ _ _ _ _ _ _ _ at c.list.ensures refl c.loop-i.invariant.gathered c.in_ok-put_next.ensures.ok;
      stepped = one_more_stepped c.args.lists.now c.list.result.now c.args.walks.now c.loop-i.walks c.loop-i.i _ c.put_next.new.walk c.loop-i.auto.walks c.list.ensures at c.in_ok-put_next.ensures.step
          c.loop-i.invariant.stepped;
      room = c.in_ok-put_next.ensures.room ∙ c.loop-i.invariant.room;
      count = omega (arith, c.in_ok-put_next.ensures.count, c.loop-i.invariant.count);
    }

pub returns-clause-steps : goal.returns-clause-steps
returns-clause-steps g c = all_stepped c.args.lists.now c.args.walks.now c.loop-i.walks c.loop-i.i (omega arith) c.loop-i.invariant.stepped

pub returns-clause-untouched : goal.returns-clause-untouched
returns-clause-untouched g c = λ empty.
    gathered_untouched _ _ _ _ _ _ c.loop-i.invariant.gathered (first_empty c.args.lines.now.bytes c.args.walks.now c.args.lists.now c.loop-i.i empty)
