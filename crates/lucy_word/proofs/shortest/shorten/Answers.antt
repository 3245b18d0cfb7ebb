use Rattle.std.proofs.Common.{ℕ, ◌≤◌, List, Bool, length, take, sym, subst, arith}
use Rattle.std.proofs.Math.Nat.{le_of_dvd}
use Rattle.lucy_word.specs.Shortest.{IsShortForm}
use Rattle.lucy_word.proofs.ShortPrefix.{short_form}
use Rattle.lucy_word.proofs.PackedLaws.{round}
use Rattle.lucy_word.proofs.shortest.shorten.Goals as goal

pub kept-kept-requires-clause-turn : goal.kept-kept-requires-clause-turn
kept-kept-requires-clause-turn c = le_of_dvd c.requires.nonempty c.shortest_turn-turn.ensures.whole

pub rotated-requires-clause-turn : goal.rotated-requires-clause-turn
rotated-requires-clause-turn c = le_of_dvd c.requires.nonempty c.shortest_turn-turn.ensures.whole

pub returns-clause-form : goal.returns-clause-form
returns-clause-form c =
    let u : List Bool = c.args.prefix in
    let v : List Bool = c.args.period in
    let p : ℕ = c.shortest_turn-turn.result in
    let k : ℕ = c.kept-kept.result.0 in
    let at : ℕ = c.kept-kept.result.1 in
    let le : p ≤ length v = le_of_dvd c.requires.nonempty c.shortest_turn-turn.ensures.whole in
    let turned = round v c.in_ok-period.period p at le (omega (arith, c.kept-kept.ensures.at)) c.in_ok-period.ensures in
    let form : IsShortForm (record { prefix = u; period = v }) (record { prefix = take k u; period = c.in_ok-period.period }) =
    short_form u v c.in_ok-period.period p k at c.shortest_turn-turn.ensures.some le c.shortest_turn-turn.ensures.repeats c.shortest_turn-turn.ensures.least c.kept-kept.ensures.within
    c.kept-kept.ensures.at c.kept-kept.ensures.goes_on c.kept-kept.ensures.least turned.0 turned.1 in
    let P : List Bool → Type 0 = λ a. IsShortForm (record { prefix = u; period = v }) (record { prefix = a; period = c.in_ok-period.period }) in
    subst P (sym c.in_ok-prefix.ensures) form
