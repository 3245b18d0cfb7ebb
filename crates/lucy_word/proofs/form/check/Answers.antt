use Rattle.std.proofs.Common.{List, ◌+◌, true, sym, ◌∙◌, subst, ℕ, Bool, arith}
use Rattle.std.proofs.lemmas.Bool.{both_ways}
use Rattle.lucy_word.specs.declared.form.Stage.TheVariants.{Closed}
use Rattle.lucy_word.specs.Cutting.{count_from}
use Rattle.lucy_word.proofs.Checking.{Checked, checked_first, checked_more, bad_byte, bad_end, bad_zero, good_text}
use Rattle.lucy_word.proofs.StayLaws.{checked_stays}
use Rattle.lucy_word.proofs.form.check.Goals as goal

pub bytes-init : goal.bytes-init
bytes-init c = subst (Checked c.args.text.now 0 0 _) (sym c.begin-stage.ensures) (checked_first c.args.text.now)

pub returns-in_default : goal.returns-in_default
returns-in_default c = bad_byte c.args.text.now c.bytes.i c.bytes.from c.bytes.zero c.bytes.stage c.bytes.invariant c.bytes-test.true (sym c.in_default.ensures)

pub returns-then-is_zero : goal.returns-then-is_zero
returns-then-is_zero c =
    let z = c.is_zero.ensures.0 c.if-is_zero.true in
    let k : Checked c.args.text.now c.bytes.i c.bytes.from true c.bytes.stage = subst (λ (b : Bool). Checked c.args.text.now c.bytes.i c.bytes.from b c.bytes.stage) z.0 c.bytes.invariant in
    bad_zero c.args.text.now c.bytes.i c.bytes.from c.bytes.stage c.in-Some.then k c.bytes-test.true (sym c.next.ensures ∙ c.in-Some.is) z.1

pub bytes-preserved : goal.bytes-preserved
bytes-preserved c =
    let T : List ℕ = c.args.text.now in
    let k = checked_more c.args.text.now c.bytes.i c.bytes.from c.bytes.zero c.bytes.stage c.in-Some.then c.bytes.invariant c.bytes-test.true (sym c.next.ensures ∙ c.in-Some.is)
    (λ a b. both_ways _ c.if-is_zero.false (c.is_zero.ensures.1 (a, b))) in
    let one : Checked T (c.bytes.i + 1) c.count_from-from.result c.all_zeros-zero.result c.in-Some.then =
    subst (λ (n : ℕ). Checked T (c.bytes.i + 1) n c.all_zeros-zero.result c.in-Some.then) (sym c.count_from-from.ensures)
    (subst (λ (b : Bool). Checked T (c.bytes.i + 1) (count_from c.bytes.stage c.bytes.i c.bytes.from) b c.in-Some.then) (sym c.all_zeros-zero.ensures) k) in
    checked_stays T (c.bytes.i + 1) c.stay-i.result c.count_from-from.result c.all_zeros-zero.result c.in-Some.then one c.stay-i.ensures

pub returns-then-is_closed : goal.returns-then-is_closed
returns-then-is_closed c =
    let T : List ℕ = c.args.text.now in
    let k : Checked T c.bytes.i c.bytes.from c.bytes.zero Closed = subst (Checked T c.bytes.i c.bytes.from c.bytes.zero) (c.is_closed.ensures.0 c.if-is_closed.true) c.bytes.invariant in
    good_text T c.bytes.from c.bytes.zero c.bytes.i k (omega (arith, c.bytes-test.false, c.bytes.invariant.within))

pub returns-else-is_closed : goal.returns-else-is_closed
returns-else-is_closed c =
    bad_end c.args.text.now c.bytes.from c.bytes.zero c.bytes.stage c.bytes.i c.bytes.invariant (omega (arith, c.bytes-test.false, c.bytes.invariant.within)) (λ e. both_ways _ c.if-is_closed.false (c.is_closed.ensures.1 e))
