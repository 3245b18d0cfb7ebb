use Rattle.std.proofs.Common.{ℕ, ◌+◌, ◌≡◌, subst, arith}
use Rattle.lucy_check.specs.Turns.{IsBest}
use Rattle.lucy_check.proofs.ClassLeads.{class_within}
use Rattle.lucy_check.proofs.Seen.{steps_none, steps_more, steps_round}
use Rattle.lucy_check.proofs.StepsBack.{best_none, best_small}
use Rattle.lucy_check.proofs.classes.round_best.Goals as goal

pub overflow_add-t : goal.overflow_add-t
overflow_add-t c = omega (arith, class_within c.args.t c.requires.round c.args.class c.requires.class, c.requires.short.start, c.requires.short.turn)

pub loop-i-init : goal.loop-i-init
loop-i-init c = (
  steps_none c.args.t c.args.class (class_within c.args.t c.requires.round c.args.class c.requires.class),
  best_none c.args.a.now c.args.t c.args.class c.ones-best.result c.ones-best.ensures,
)

pub step_back-requires-clause-best : goal.step_back-requires-clause-best
step_back-requires-clause-best c =
    best_small c.args.a.now c.args.t c.requires.short c.loop-i.place c.loop-i.best (c.loop-i.i + 1) c.loop-i.invariant.0.within (omega arith) c.loop-i.invariant.1

pub loop-i-preserved : goal.loop-i-preserved
loop-i-preserved c = (
  steps_more c.args.t c.args.class c.loop-i.place c.step_back.result.0 c.loop-i.i c.loop-i.invariant.0 c.step_back.ensures.within c.step_back.ensures.back,
  c.step_back.ensures.best (c.loop-i.i + 1) c.loop-i.invariant.1,
)

pub returns : goal.returns
returns c =
    let a = c.args.a.now in
    let t = c.args.t in
    let within = class_within t c.requires.round c.args.class c.requires.class in
    let round : c.loop-i.i ≡ t.rounds = omega arith in
    let first : c.loop-i.place ≡ c.args.class = steps_round t c.requires.round c.args.class c.loop-i.place c.loop-i.i within c.loop-i.invariant.0 round in
    let P : ℕ → Type 0 = λ place. IsBest a t place c.loop-i.best (c.loop-i.i + 1) in
    let Q : ℕ → Type 0 = λ steps. IsBest a t c.args.class c.loop-i.best (steps + 1) in
    subst Q round (subst P first c.loop-i.invariant.1)
