use Rattle.std.proofs.Common.{◌≡◌, ◌++◌, ◌∷◌, [], sym, ◌∙◌, inr, refl, ap, map, rules}
use Rattle.lucy_fields.specs.Readings.{reading}
use Rattle.lucy_fields.proofs.ReadingLaws.{good, read_more, read_bad, read_all, never_both, one_place}
use Rattle.lucy_trace.specs.Logs.{pick_of, picks_of}
use Rattle.lucy_trace.specs.declared.error.TraceError.TheVariants.{BadNumber}
use Rattle.lucy_trace.proofs.log.read_log.Goals as goal

pub fields-preserved : goal.fields-preserved
fields-preserved c =
    let pushed : c.push.new.picks.items ≡ c.fields.picks.items ++ c.in-Some-pick.actor ∷ [] = search rules in
    read_more pick_of (picks_of c.args.text.now) c.fields.picks.items c.in-Some.place c.in-Some.field.now c.in-Some-pick.actor c.fields.fields c.next.new.self
    c.fields.invariant c.in-Some.ensures.some (sym c.pick.ensures ∙ c.in-Some-pick.is)
    ∙ ap (λ xs. good xs ++ map (reading pick_of) c.next.new.self) (sym pushed)

pub returns-in-None-clause-refused : goal.returns-in-None-clause-refused
returns-in-None-clause-refused c =
    let bad = read_bad pick_of (picks_of c.args.text.now) c.fields.picks.items c.in-Some.place c.in-Some.field.now c.fields.fields c.next.new.self
    c.fields.invariant c.in-Some.ensures.some (sym c.pick.ensures ∙ c.in-None.is) in
    inr (c.in-Some.place, refl, (c.fields.picks.items, map (reading pick_of) c.next.new.self, bad))

pub returns-in-None-clause-only : goal.returns-in-None-clause-only
returns-in-None-clause-only c =
    let bad = read_bad pick_of (picks_of c.args.text.now) c.fields.picks.items c.in-Some.place c.in-Some.field.now c.fields.fields c.next.new.self
    c.fields.invariant c.in-Some.ensures.some (sym c.pick.ensures ∙ c.in-None.is) in
    λ place first. inr (ap BadNumber (one_place c.fields.picks.items first.0 c.in-Some.place place (map (reading pick_of) c.next.new.self) first.1 (sym bad ∙ first.2)))

pub returns-clause-only : goal.returns-clause-only
returns-clause-only c =
    let all = read_all pick_of (picks_of c.args.text.now) c.fields.picks.items c.fields.fields c.fields.invariant (c.next.ensures.none c.in_default.is).0 in
    λ place first. never_both c.fields.picks.items first.0 place first.1 (sym all ∙ first.2)

pub returns-clause-ok : goal.returns-clause-ok
returns-clause-ok c =
    read_all pick_of (picks_of c.args.text.now) c.fields.picks.items c.fields.fields c.fields.invariant (c.next.ensures.none c.in_default.is).0
