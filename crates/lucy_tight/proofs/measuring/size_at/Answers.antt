use Rattle.std.proofs.Common.{◌≡◌, ap, sym, ◌∙◌, subst, arith}
use Rattle.std.specs.Option.{unwrap_or}
use Rattle.lucy_word.specs.Adaptable.{IsAdaptable, IsSize}
use Rattle.lucy_need.specs.Meeting.{assigned}
use Rattle.lucy_check.specs.Verdicts.{IsVerdict}
use Rattle.lucy_tight.proofs.BufferLaws.{operand_read, operand_one, read_word, adaptable_read, size_read}
use Rattle.lucy_tight.proofs.measuring.size_at.Goals.{After-adapt}
use Rattle.lucy_tight.proofs.measuring.size_at.Goals as goal

pub bounds-words-from : goal.bounds-words-from
bounds-words-from c =
    let b = c.requires.buffer in
    let read = ap (λ o. unwrap_or o 0) (c.first_operand.ensures ∙ operand_read c.args.node.now c.args.place b.0 b.1 b.2) in
    let there = (c.requires.words c.args.place b.0 b.1 b.2).0 in
    omega arith

pub bounds-words-place : goal.bounds-words-place
bounds-words-place c =
    let b = c.requires.buffer in
    let there = (c.requires.words c.args.place b.0 b.1 b.2).1 in
    omega arith

-- both words are those of the buffer
words_read : (c : After-adapt) → (assigned c.args.words.now c.requires.buffer.1 ≡ c.index-words-from.result) × (assigned c.args.words.now c.args.place ≡ c.index-words-place.result)
words_read c =
    let b = c.requires.buffer in
    let words = c.args.words.now in
    let is = c.unwrap_or-from.ensures ∙ ap (λ o. unwrap_or o 0) (c.first_operand.ensures ∙ operand_read c.args.node.now c.args.place b.0 b.1 b.2) in
    let from_there = (c.requires.words c.args.place b.0 b.1 b.2).0 in
    let place_there = (c.requires.words c.args.place b.0 b.1 b.2).1 in
    let first = read_word words _ c.index-words-from.result (omega arith) c.index-words-from.is in
    let second = read_word words c.args.place c.index-words-place.result (omega arith) c.index-words-place.is in
    (ap (assigned words) (sym is) ∙ first, second)

-- so the first is adaptable to the second
adaptable : (c : After-adapt) → IsAdaptable c.index-words-from.result c.index-words-place.result
adaptable c =
    let b = c.requires.buffer in
    adaptable_read c.args.words.now b.1 c.args.place c.index-words-from.result c.index-words-place.result (words_read c).0 (words_read c).1 (c.requires.words c.args.place b.0 b.1 b.2).2

pub unreachable-requires : goal.unreachable-requires
unreachable-requires c =
    let told = subst (IsVerdict c.index-words-from.result c.index-words-place.result) c.in-Rates.is c.adapt.ensures.is in
    told (adaptable (goal.at.unreachable-requires c).After-adapt).0

pub unreachable-requires-in-Late : goal.unreachable-requires-in-Late
unreachable-requires-in-Late c =
    let told = subst (IsVerdict c.index-words-from.result c.index-words-place.result) c.in-Late.is c.adapt.ensures.is in
    let late = told.1.late in
    let never = (adaptable (goal.at.unreachable-requires-in-Late c).After-adapt).1 c.in-Late.field-0 in
    omega arith

pub returns : goal.returns
returns c = λ k e stands.
    let b = c.requires.buffer in
    let words = c.args.words.now in
    let own = words_read (goal.at.returns c).After-adapt in
    let told = subst (IsVerdict c.index-words-from.result c.index-words-place.result) c.in-Adaptable.is c.adapt.ensures.is in
    subst (λ j. IsSize (assigned words j) (assigned words c.args.place) c.in-Adaptable.size) (operand_one c.args.node.now c.args.place b.0 b.1 k e b.2 stands)
    (size_read words b.1 c.args.place c.index-words-from.result c.index-words-place.result c.in-Adaptable.size own.0 own.1 told.1)
