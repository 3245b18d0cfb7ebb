use Rattle.lucy_word.proofs.StayLaws.{run_first, run_limb}
use Rattle.lucy_word.proofs.form.limbs_end.Goals as goal

pub limbs-init : goal.limbs-init
limbs-init c = run_first c.args.text.now c.args.from

pub limbs-preserved : goal.limbs-preserved
limbs-preserved c = run_limb c.args.text.now c.args.from c.limbs.i c.in-Some.field-0 c.limbs.invariant c.in-Some.ensures
