use Rattle.std.proofs.Common.{◌<◌, ◌≤◌, [], length, map, refl, ap, sym, ◌∙◌, arith}
use Rattle.std.proofs.lemmas.Bool.{ltb-true}
use Rattle.std.proofs.lemmas.List.{length-map, get_or-map, get_or_past}
use Rattle.std.proofs.lemmas.Option.{slice_get_read}
use Rattle.lucy_word.proofs.Lists.{all_at}
use Rattle.lucy_kahn.specs.Turns.{own_at}
use Rattle.lucy_kahn.proofs.OwnLaws.{at_is}
use Rattle.lucy_kahn.proofs.own.operand.Goals as goal

pub at-requires-clause-low : goal.at-requires-clause-low
at-requires-clause-low c =
    let there : c.args.operand < length c.args.places.now = ltb-true c.args.operand (length c.args.places.now) (sym c.in-Some.ensures.lookup.0) in
    (all_at (λ place. (1 ≤ place) × (place ≤ length c.args.own.now)) c.args.places.now c.args.operand c.in-Some.place.now c.requires
    (slice_get_read c.args.places.now (length c.args.places.now) c.args.operand c.in-Some.place.now refl there c.in-Some.ensures.lookup.1)).0

pub at-requires-clause-high : goal.at-requires-clause-high
at-requires-clause-high c =
    let there : c.args.operand < length c.args.places.now = ltb-true c.args.operand (length c.args.places.now) (sym c.in-Some.ensures.lookup.0) in
    (all_at (λ place. (1 ≤ place) × (place ≤ length c.args.own.now)) c.args.places.now c.args.operand c.in-Some.place.now c.requires
    (slice_get_read c.args.places.now (length c.args.places.now) c.args.operand c.in-Some.place.now refl there c.in-Some.ensures.lookup.1)).1

pub returns-in-Some : goal.returns-in-Some
returns-in-Some c =
    let there : c.args.operand < length c.args.places.now = ltb-true c.args.operand (length c.args.places.now) (sym c.in-Some.ensures.lookup.0) in
    at_is c.args.own.now c.in-Some.place.now c.at.result.now c.at.ensures ∙ ap (own_at c.args.own.now) c.in-Some.ensures.lookup.1
    ∙ sym (get_or-map (own_at c.args.own.now) c.args.places.now c.args.operand c.in-Some.place.now [] there)

pub returns-in-None : goal.returns-in-None
returns-in-None c =
    sym (get_or_past (map (own_at c.args.own.now) c.args.places.now) c.args.operand [] (omega (arith, c.in-None.ensures.lookup, length-map c.args.places.now (own_at c.args.own.now))))
