use Rattle.std.proofs.Common.{◌≡◌, true, false, is_some, Option, Some, None, ap, refl, sym, ◌∙◌, arith}
use Rattle.lucy_tree.specs.declared.span.Name.{Name}
use Rattle.lucy_clock.proofs.LastLaws.{marks_nothing, marks_raised}
use Rattle.lucy_clock.proofs.reading.mark_last.Goals as goal

has_name : (name : Option Name) → is_some name ≡ true → name ≡ None → ⊥
has_name name e f = let x : false ≡ true = sym (ap (λ (n : Option Name). is_some n) f) ∙ e in cc x

no_name : (name : Option Name) → is_some name ≡ false → name ≡ None
no_name None e = refl
no_name (Some name) e = absurd (cc e)

pub overflow_sub-reader : goal.overflow_sub-reader
overflow_sub-reader c = (c.requires.reader (no_name c.args.entry.now.name (sym c.is_some.ensures ∙ c.if-is_some.false))).0

pub raise-requires : goal.raise-requires
raise-requires c =
    let read = c.requires.reader (no_name c.args.entry.now.name (sym c.is_some.ensures ∙ c.if-is_some.false)) in
    let low = read.0 in
    let before = read.1 in
    let high = c.requires.place.1 in
    omega arith

pub returns-then-is_some : goal.returns-then-is_some
returns-then-is_some c =
    marks_nothing c.args.entry.now c.args.reader c.args.place c.args.lasts.now
    (λ none asks. has_name c.args.entry.now.name (sym c.is_some.ensures ∙ c.if-is_some.true) none)

pub returns-then-not-asks : goal.returns-then-not-asks
returns-then-not-asks c =
    marks_nothing c.args.entry.now c.args.reader c.args.place c.args.lasts.now
    (λ none asks. (let e : true ≡ false = sym (c.asks.ensures.1 asks) ∙ c.if-not-asks.true in cc e))

pub returns : goal.returns
returns c =
    let read = c.requires.reader (no_name c.args.entry.now.name (sym c.is_some.ensures ∙ c.if-is_some.false)) in
    marks_raised c.args.entry.now c.args.reader c.args.place c.args.lasts.now c.raise.new.list
    read.0 read.1 c.requires.place.1 c.raise.ensures
