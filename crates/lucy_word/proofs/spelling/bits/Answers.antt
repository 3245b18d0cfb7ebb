use Rattle.std.proofs.Common.{◌≡◌, ℕ, ◌++◌, eqb, replicate, ap, ◌∙◌, arith}
use Rattle.lucy_word.proofs.CuttingLaws.{reading_more, reading_room, reading_ends}
use Rattle.lucy_word.proofs.DigitLaws.{reading_digits}
use Rattle.lucy_word.proofs.spelling.bits.Goals as goal

pub items-preserved-then-digits-gt0 : goal.items-preserved-then-digits-gt0
items-preserved-then-digits-gt0 c is h e few =
    reading_digits c.args.items.now c.items.rest.now c.items.bits is c.alone-digits.result.n c.alone-digits.result.limb c.split_at.result.1.now c.push.new.self (c.items.invariant is h e few)
    c.alone-digits.ensures.alone c.if-digits-gt0.true c.split_at.ensures.back c.in_ok-push.ensures

pub items-preserved : goal.items-preserved
items-preserved c is h e few =
    let n : ℕ = c.times-n.result.0 in
    let reading = c.items.invariant is h e few in
    let room = reading_room c.args.items.now c.items.rest.now c.items.bits is c.in-Some.c.now c.in-Some.more.now n c.times-n.result.1.now reading c.in-Some.ensures.cases.0 c.times-n.ensures.times few in
    let all : c.min.result ≡ n = omega (arith, c.min.ensures, c.saturating_sub-room.ensures, c.number-most.ensures, c.len.ensures.len, room) in
    reading_more c.args.items.now c.items.rest.now c.items.bits is c.in-Some.c.now c.in-Some.more.now n c.times-n.result.1.now c.push_run.new.self reading c.in-Some.ensures.cases.0
    c.times-n.ensures.times few (c.in_ok-push_run.ensures ∙ ap (λ k. c.items.bits ++ replicate k (eqb c.in-Some.c.now 49)) all)

pub returns : goal.returns
returns c is h e few =
    c.in_ok-count.ensures ∙ reading_ends c.args.items.now c.items.rest.now c.items.bits is (c.items.invariant is h e few) c.in_default.ensures.cases
