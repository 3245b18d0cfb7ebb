use Rattle.std.proofs.Common.{◌<◌, length, inl, inr, sym, subst}
use Rattle.lucy_word.proofs.Results.{leaves}
use Rattle.lucy_need.specs.declared.need.Term.{Term}
use Rattle.lucy_need.specs.Meeting.{Assignment, assigned, first_of, second_of}
use Rattle.lucy_check.specs.Lent.{seen}
use Rattle.lucy_check.specs.Passing.{AreWithinLimits, OrNoMemory, PassesTermLimit, RefusesNeed}
use Rattle.lucy_check.specs.declared.fault.CheckFault.{CheckFault}
use Rattle.lucy_check.proofs.CheckLaws.{both_within, of_terms, limit_refuses}
use Rattle.lucy_check.proofs.need.check_need.Goals as goal

pub words_within-requires-clause-first : goal.words_within-requires-clause-first
words_within-requires-clause-first c =
    subst (λ (t : Term). t.clock < length c.args.words.now) (sym c.terms.ensures.first) (both_within (length c.args.words.now) c.args.need.now c.requires.within).0

pub words_within-requires-clause-second : goal.words_within-requires-clause-second
words_within-requires-clause-second c =
    subst (λ (t : Term). t.clock < length c.args.words.now) (sym c.terms.ensures.second) (both_within (length c.args.words.now) c.args.need.now c.requires.within).1

pub returns-in_err-a-clause-refused : goal.returns-in_err-a-clause-refused
returns-in_err-a-clause-refused c =
    let w = assigned c.args.words.now in
    let need = c.args.need.now in
    leaves (OrNoMemory (PassesTermLimit w c.terms.result.0.now c.terms.result.1.now c.args.number)) (OrNoMemory (RefusesNeed w c.args.number need)) _
    c.from_residual.result c.from_residual.ensures.1 c.in_err-a.ensures.refused
    (λ y r. elim r [
      | inl none ↦ inl none
      | inr passed ↦
          inr (limit_refuses w c.args.number need y
          (subst (λ (s : Term). PassesTermLimit w s (second_of need) c.args.number y) c.terms.ensures.first
          (subst (λ (t : Term). PassesTermLimit w c.terms.result.0.now t c.args.number y) c.terms.ensures.second passed)))
    ])

pub returns-in_err-size-clause-refused : goal.returns-in_err-size-clause-refused
returns-in_err-size-clause-refused c =
    let w = assigned c.args.words.now in
    let need = c.args.need.now in
    leaves (λ (e : CheckFault). (v : Assignment) → AreWithinLimits v (first_of need) (second_of need) (seen c.in_ok-a.a) (seen c.in_ok-a.b) → RefusesNeed v c.args.number need e) (OrNoMemory (RefusesNeed w c.args.number need)) _
    c.from_residual-in_err-size.result c.from_residual-in_err-size.ensures.1 c.in_err-size.ensures.refused
    (λ y r. inr (r w (of_terms w need _ _ _ _ c.terms.ensures.first c.terms.ensures.second c.in_ok-a.ensures.ok)))

pub returns-clause-ok : goal.returns-clause-ok
returns-clause-ok c =
    let w = assigned c.args.words.now in
    c.in_ok-size.ensures.ok w (of_terms w c.args.need.now _ _ _ _ c.terms.ensures.first c.terms.ensures.second c.in_ok-a.ensures.ok)

pub returns-clause-kept : goal.returns-clause-kept
returns-clause-kept c = c.kept_of.ensures (assigned c.args.words.now) c.in_ok-a.ensures.ok.second
