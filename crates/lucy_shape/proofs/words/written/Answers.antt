use Rattle.std.proofs.Common.{List, Bool, length, inr, sym, refl, ap, ◌∙◌, subst, arith}
use Rattle.std.proofs.lemmas.Bool.{false≢true}
use Rattle.lucy_word.specs.Bits.{Bits}
use Rattle.lucy_word.specs.Shortest.{IsShortForm}
use Rattle.lucy_shape.proofs.Marks.{parts_are, start_some, low_between, high_between, period_more, parts_written}
use Rattle.lucy_shape.proofs.words.written.Goals as goal

pub start_of-start-requires-clause-at : goal.start_of-start-requires-clause-at
start_of-start-requires-clause-at c = start_some c.args.period c.args.clock.now c.args.positions.now c.part-low.result.now c.part-high.result.now
    (parts_are c.args.period c.args.clock.now c.args.positions.now c.part-low.result.now c.part-high.result.now c.requires.some c.requires.first c.requires.solves c.part-low.ensures.size c.part-low.ensures.at c.part-high.ensures.size c.part-high.ensures.at)

pub marks-requires : goal.marks-requires
marks-requires c = low_between c.args.period c.args.clock.now c.args.positions.now c.part-low.result.now c.part-high.result.now
    (parts_are c.args.period c.args.clock.now c.args.positions.now c.part-low.result.now c.part-high.result.now c.requires.some c.requires.first c.requires.solves c.part-low.ensures.size c.part-low.ensures.at c.part-high.ensures.size c.part-high.ensures.at) c.start_of-start.result c.start_of-start.ensures

pub marks-requires-2 : goal.marks-requires-2
marks-requires-2 c = high_between c.args.period c.args.clock.now c.args.positions.now c.part-low.result.now c.part-high.result.now
    (parts_are c.args.period c.args.clock.now c.args.positions.now c.part-low.result.now c.part-high.result.now c.requires.some c.requires.first c.requires.solves c.part-low.ensures.size c.part-low.ensures.at c.part-high.ensures.size c.part-high.ensures.at) c.start_of-start.result c.start_of-start.ensures

pub from_bits-requires : goal.from_bits-requires
from_bits-requires c = let p = period_more c.args.period c.args.clock.now c.args.positions.now c.part-low.result.now c.part-high.result.now
    (parts_are c.args.period c.args.clock.now c.args.positions.now c.part-low.result.now c.part-high.result.now c.requires.some c.requires.first c.requires.solves c.part-low.ensures.size c.part-low.ensures.at c.part-high.ensures.size c.part-high.ensures.at) in let a = c.in_ok-turn.ensures.size in let b = ap length c.deref-2.ensures.value in omega arith

pub returns-in-Ok-clause-ok : goal.returns-in-Ok-clause-ok
returns-in-Ok-clause-ok c =
    let e = parts_written c.args.period c.args.clock.now c.args.positions.now c.part-low.result.now c.part-high.result.now
    (parts_are c.args.period c.args.clock.now c.args.positions.now c.part-low.result.now c.part-high.result.now c.requires.some c.requires.first c.requires.solves c.part-low.ensures.size c.part-low.ensures.at c.part-high.ensures.size c.part-high.ensures.at) c.start_of-start.result c.in_ok-prefix.prefix.items c.in_ok-turn.turn.items c.start_of-start.ensures c.in_ok-prefix.ensures.size c.in_ok-turn.ensures.size c.in_ok-prefix.ensures.marks c.in_ok-turn.ensures.marks in
    let made = c.in-Ok.ensures.ok in
    let P : List Bool → Type 0 = λ p. IsShortForm (record { prefix = p; period = c.deref-2.result.now }) c.in-Ok.word in
    let Q : List Bool → Type 0 = λ p. IsShortForm (record { prefix = c.in_ok-prefix.prefix.items; period = p }) c.in-Ok.word in
    let R : Bits → Type 0 = λ b. IsShortForm b c.in-Ok.word in
    subst R (sym e) (subst Q c.deref-2.ensures.value (subst P c.deref.ensures.value made.form))

pub returns-then-is_long-clause-refused : goal.returns-then-is_long-clause-refused
returns-then-is_long-clause-refused c = inr (refl, c.is_long.ensures.0 c.if-is_long.true)

pub returns-in-Ok-clause-short : goal.returns-in-Ok-clause-short
returns-in-Ok-clause-short c = λ long. false≢true (sym c.if-is_long.false ∙ c.is_long.ensures.1 long)
