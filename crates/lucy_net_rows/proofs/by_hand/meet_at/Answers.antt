use Rattle.std.proofs.Common.{◌≡◌, true, false}
use Rattle.lucy_net_rows.proofs.HandLaws.{ends_in, met_even_even, met_even_odd, met_odd_even, met_odd_odd}
use Rattle.lucy_net_rows.proofs.by_hand.meet_at.Goals as goal

pub meet_own-requires-clause-ring : goal.meet_own-requires-clause-ring
meet_own-requires-clause-ring c =
    let e : c.args.link.giver.odd ≡ true = cc in
    let f : c.args.link.taker.odd ≡ true = cc in
    (ends_in c.args.even.now.parts c.args.odd.now.parts c.args.link true true e f c.requires).ring

pub meet_between-requires-clause-ring : goal.meet_between-requires-clause-ring
meet_between-requires-clause-ring c =
    let e : c.args.link.giver.odd ≡ true = cc in
    let f : c.args.link.taker.odd ≡ false = cc in
    (ends_in c.args.even.now.parts c.args.odd.now.parts c.args.link true false e f c.requires).ring

pub meet_between-requires-then-link-3-clause-ring : goal.meet_between-requires-then-link-3-clause-ring
meet_between-requires-then-link-3-clause-ring c =
    let e : c.args.link.giver.odd ≡ false = cc in
    let f : c.args.link.taker.odd ≡ true = cc in
    (ends_in c.args.even.now.parts c.args.odd.now.parts c.args.link false true e f c.requires).ring

pub meet_own-requires-else-link-3-clause-ring : goal.meet_own-requires-else-link-3-clause-ring
meet_own-requires-else-link-3-clause-ring c =
    let e : c.args.link.giver.odd ≡ false = cc in
    let f : c.args.link.taker.odd ≡ false = cc in
    (ends_in c.args.even.now.parts c.args.odd.now.parts c.args.link false false e f c.requires).ring

pub returns-then-link-2 : goal.returns-then-link-2
returns-then-link-2 c =
    let e : c.args.link.giver.odd ≡ true = cc in
    let f : c.args.link.taker.odd ≡ true = cc in
    met_odd_odd c.args.even.now.parts c.args.odd.now.parts _ c.args.link c.ends_are_kept.ensures.own e f c.meet_own.ensures.met

pub returns-else-link-2 : goal.returns-else-link-2
returns-else-link-2 c =
    let e : c.args.link.giver.odd ≡ true = cc in
    let f : c.args.link.taker.odd ≡ false = cc in
    met_odd_even c.args.even.now.parts c.args.odd.now.parts _ _ c.args.link c.ends_are_kept.ensures.between e f c.meet_between.ensures.met

pub returns-then-link-3 : goal.returns-then-link-3
returns-then-link-3 c =
    let e : c.args.link.giver.odd ≡ false = cc in
    let f : c.args.link.taker.odd ≡ true = cc in
    met_even_odd c.args.even.now.parts c.args.odd.now.parts _ _ c.args.link c.ends_are_kept.ensures.between e f c.meet_between-then-link-3.ensures.met

pub returns-else-link-3 : goal.returns-else-link-3
returns-else-link-3 c =
    let e : c.args.link.giver.odd ≡ false = cc in
    let f : c.args.link.taker.odd ≡ false = cc in
    met_even_even c.args.even.now.parts c.args.odd.now.parts _ c.args.link c.ends_are_kept.ensures.own e f c.meet_own-else-link-3.ensures.met
