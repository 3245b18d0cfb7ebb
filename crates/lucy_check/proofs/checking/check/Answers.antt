use Rattle.std.proofs.Common.{refl, inl, inr, sym, subst, length}
use Rattle.std.specs.Prelude.{IfErr}
use Rattle.std.specs.List.{AllByRecursion}
use Rattle.std.proofs.lemmas.Option.{slice_get_read}
use Rattle.lucy_word.proofs.Lists.{all_at}
use Rattle.lucy_word.proofs.Results.{leaves}
use Rattle.lucy_need.specs.Meeting.{assigned, MeetsAll, IsWithin}
use Rattle.lucy_check.specs.Passing.{OrNoMemory, IsFirstRefusal, RefusesNeed, PassesAll, AllWithinLimits, IsBeyond}
use Rattle.lucy_check.proofs.CheckLaws.{leaves_match, so_far_none, so_far_more, so_far_all, first_refusal, unmet, passes_all, all_within}
use Rattle.lucy_check.proofs.OneAnswer.{all_one, all_not, all_held, refusal_one}
use Rattle.lucy_check.proofs.checking.check.Goals as goal

pub each-init : goal.each-init
each-init c = (so_far_none (assigned c.args.words.now) c.list-list.result.now c.new-sizes.result.items c.new-sizes.ensures.items, tt)

pub each-preserved : goal.each-preserved
each-preserved c =
    let more = so_far_more (assigned c.args.words.now) c.list-list.result.now c.each.i c.each.sizes.items c.put.new.sizes.items c.index-list-i.result c.in_ok-size.size
    c.each.invariant.0 c.each-test.true c.index-list-i.is c.in_ok-size.ensures.ok c.in_ok-put.ensures.ok in
    (more, c.in_ok-size.ensures.kept)

pub check_need-requires-clause-within : goal.check_need-requires-clause-within
check_need-requires-clause-within c =
    let there = slice_get_read c.list-list.result.now (length c.list-list.result.now) c.each.i c.index-list-i.result refl c.each-test.true c.index-list-i.is in
    subst (λ n. IsWithin n c.index-list-i.result) (sym c.requires.words)
    (all_at (IsWithin c.args.needs.now.clocks) c.list-list.result.now c.each.i c.index-list-i.result (subst (λ l. AllByRecursion (IsWithin c.args.needs.now.clocks) l) (sym c.list-list.ensures) c.requires.needs.within) there)

pub returns-in_err-size-clause-refused : goal.returns-in_err-size-clause-refused
returns-in_err-size-clause-refused c =
    subst (λ l. IfErr c.from_residual.result (OrNoMemory (IsFirstRefusal (assigned c.args.words.now) l))) c.list-list.ensures
    (leaves (OrNoMemory (RefusesNeed (assigned c.args.words.now) c.each.i c.index-list-i.result)) (OrNoMemory (IsFirstRefusal (assigned c.args.words.now) c.list-list.result.now)) _
    c.from_residual.result c.from_residual.ensures.1 c.in_err-size.ensures.refused
    (λ y r. first_refusal (assigned c.args.words.now) c.list-list.result.now c.each.i c.each.sizes.items c.index-list-i.result y c.each.invariant.0 c.each-test.true c.index-list-i.is r))

pub returns-in_err-size-clause-accepted : goal.returns-in_err-size-clause-accepted
returns-in_err-size-clause-accepted c = λ met within.
    let met_list : MeetsAll (assigned c.args.words.now) c.list-list.result.now = subst (MeetsAll (assigned c.args.words.now)) (sym c.list-list.ensures) met in
    let within_list : AllWithinLimits (assigned c.args.words.now) c.list-list.result.now = subst (AllWithinLimits (assigned c.args.words.now)) (sym c.list-list.ensures) within in
    leaves (OrNoMemory (RefusesNeed (assigned c.args.words.now) c.each.i c.index-list-i.result)) _ _
    c.from_residual.result c.from_residual.ensures.1 c.in_err-size.ensures.refused
    (λ y r. elim (first_refusal (assigned c.args.words.now) c.list-list.result.now c.each.i c.each.sizes.items c.index-list-i.result y c.each.invariant.0 c.each-test.true c.index-list-i.is r) [
      | inl none ↦ none
      | inr first ↦ absurd (all_held (assigned c.args.words.now) c.list-list.result.now y met_list within_list first)
    ])

pub returns-clause-within : goal.returns-clause-within
returns-clause-within c =
    subst (AllWithinLimits (assigned c.args.words.now)) c.list-list.ensures
    (all_within (assigned c.args.words.now) c.list-list.result.now c.each.sizes.items
    (so_far_all (assigned c.args.words.now) c.list-list.result.now c.each.i c.each.sizes.items c.each.invariant.0 c.each-test.false))

pub returns-in_err-size-clause-unmet : goal.returns-in_err-size-clause-unmet
returns-in_err-size-clause-unmet c = λ met.
    let met_list : MeetsAll (assigned c.args.words.now) c.list-list.result.now = subst (MeetsAll (assigned c.args.words.now)) (sym c.list-list.ensures) met in
    leaves (OrNoMemory (RefusesNeed (assigned c.args.words.now) c.each.i c.index-list-i.result)) IsBeyond _
    c.from_residual.result c.from_residual.ensures.1 c.in_err-size.ensures.refused
    (λ y r.
    unmet (assigned c.args.words.now) c.list-list.result.now y
    (first_refusal (assigned c.args.words.now) c.list-list.result.now c.each.i c.each.sizes.items c.index-list-i.result y c.each.invariant.0 c.each-test.true c.index-list-i.is r) met_list)

pub returns-clause-sizes : goal.returns-clause-sizes
returns-clause-sizes c =
    subst (λ l. PassesAll (assigned c.args.words.now) l c.each.sizes.items) c.list-list.ensures
    (so_far_all (assigned c.args.words.now) c.list-list.result.now c.each.i c.each.sizes.items c.each.invariant.0 c.each-test.false)

pub returns-clause-met : goal.returns-clause-met
returns-clause-met c =
    subst (MeetsAll (assigned c.args.words.now)) c.list-list.ensures
    (passes_all (assigned c.args.words.now) c.list-list.result.now c.each.sizes.items
    (so_far_all (assigned c.args.words.now) c.list-list.result.now c.each.i c.each.sizes.items c.each.invariant.0 c.each-test.false))

pub returns-in_err-size-clause-passed : goal.returns-in_err-size-clause-passed
returns-in_err-size-clause-passed c = λ sizes p.
    let all : PassesAll (assigned c.args.words.now) c.list-list.result.now sizes = subst (λ l. PassesAll (assigned c.args.words.now) l sizes) (sym c.list-list.ensures) p in
    leaves_match _ (OrNoMemory (RefusesNeed (assigned c.args.words.now) c.each.i c.index-list-i.result)) _ _
    c.from_residual.result c.from_residual.ensures.1 c.in_err-size.ensures.refused
    (λ y r. elim (first_refusal (assigned c.args.words.now) c.list-list.result.now c.each.i c.each.sizes.items c.index-list-i.result y c.each.invariant.0 c.each-test.true c.index-list-i.is r) [
      | inl none ↦ none
      | inr first ↦ absurd (all_not (assigned c.args.words.now) c.list-list.result.now sizes y all first)
    ])

pub returns-in_err-size-clause-only : goal.returns-in_err-size-clause-only
returns-in_err-size-clause-only c = λ e p.
    let one : IsFirstRefusal (assigned c.args.words.now) c.list-list.result.now e = subst (λ l. IsFirstRefusal (assigned c.args.words.now) l e) (sym c.list-list.ensures) p in
    leaves_match _ (OrNoMemory (RefusesNeed (assigned c.args.words.now) c.each.i c.index-list-i.result)) _ _
    c.from_residual.result c.from_residual.ensures.1 c.in_err-size.ensures.refused
    (λ y r. elim (first_refusal (assigned c.args.words.now) c.list-list.result.now c.each.i c.each.sizes.items c.index-list-i.result y c.each.invariant.0 c.each-test.true c.index-list-i.is r) [
      | inl none ↦ inl none
      | inr first ↦ inr (refusal_one (assigned c.args.words.now) c.list-list.result.now y e first one)
    ])

pub returns-clause-passed : goal.returns-clause-passed
returns-clause-passed c = λ sizes p.
    all_one (assigned c.args.words.now) c.list-list.result.now c.each.sizes.items sizes
    (so_far_all (assigned c.args.words.now) c.list-list.result.now c.each.i c.each.sizes.items c.each.invariant.0 c.each-test.false)
    (subst (λ l. PassesAll (assigned c.args.words.now) l sizes) (sym c.list-list.ensures) p)

pub returns-clause-only : goal.returns-clause-only
returns-clause-only c = λ e p.
    all_not (assigned c.args.words.now) c.list-list.result.now c.each.sizes.items e
    (so_far_all (assigned c.args.words.now) c.list-list.result.now c.each.i c.each.sizes.items c.each.invariant.0 c.each-test.false)
    (subst (λ l. IsFirstRefusal (assigned c.args.words.now) l e) (sym c.list-list.ensures) p)
