use Rattle.std.proofs.Common.{ℕ, ◌+◌, ◌≡◌, subst, arith}
use Rattle.lucy_check.specs.Turns.{IsBest}
use Rattle.lucy_check.proofs.ClassLeads.{class_within, lead_from_seen}
use Rattle.lucy_check.proofs.Seen.{IsSeen, steps_none, steps_more, seen_none, seen_more}
use Rattle.lucy_check.proofs.StepsBack.{best_small}
use Rattle.lucy_check.proofs.classes.class_lead.Goals as goal

pub loop-i-init : goal.loop-i-init
loop-i-init c =
    let P : ℕ → Type 0 = λ steps. IsBest c.args.a.now c.args.t c.args.class c.round_best-best.result steps in (
      steps_none c.args.t c.args.class (class_within c.args.t c.requires.round c.args.class c.requires.class),
      subst P (let e : c.args.t.rounds + 1 ≡ c.args.t.rounds + 1 + 0 = omega arith in e) c.round_best-best.ensures,
      seen_none c.args.a.now c.args.b.now c.args.t c.args.class,
    )

pub step_back-requires-clause-best : goal.step_back-requires-clause-best
step_back-requires-clause-best c =
    best_small c.args.a.now c.args.t c.requires.short c.loop-i.place c.loop-i.best (c.args.t.rounds + 1 + c.loop-i.i) c.loop-i.invariant.0.within (omega arith) c.loop-i.invariant.1

pub loop-i-preserved : goal.loop-i-preserved
loop-i-preserved c =
    let a = c.args.a.now in
    let t = c.args.t in
    let i : ℕ = c.loop-i.i in
    let P : ℕ → Type 0 = λ steps. IsBest a t c.step_back.result.0 c.step_back.result.1 steps in (
      steps_more t c.args.class c.loop-i.place c.step_back.result.0 i c.loop-i.invariant.0 c.step_back.ensures.within c.step_back.ensures.back,
      subst P (let e : t.rounds + 1 + i + 1 ≡ t.rounds + 1 + (i + 1) = omega arith in e) (c.step_back.ensures.best (t.rounds + 1 + i) c.loop-i.invariant.1),
      seen_more a c.args.b.now t c.requires.round c.requires.turns c.args.class c.loop-i.place c.loop-i.best i c.lead_from.result c.loop-i.most c.max-most.result c.loop-i.invariant.2 c.loop-i.invariant.0 c.loop-i.invariant.1 c.lead_from.ensures c.max-most.ensures,
    )

pub returns : goal.returns
returns c =
    let P : ℕ → Type 0 = λ n. IsSeen c.args.a.now c.args.b.now c.args.t c.args.class n c.loop-i.most in
    let e : c.loop-i.i ≡ c.args.t.rounds = omega arith in
    lead_from_seen c.args.a.now c.args.b.now c.args.t c.requires.round c.requires.turns c.requires.rate c.args.class c.loop-i.most c.requires.class (subst P e c.loop-i.invariant.2)
