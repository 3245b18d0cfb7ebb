use Rattle.std.proofs.Common.{◌≡◌, ◌<◌, length, inr, sym, arith, ◌∙◌}
use Rattle.lucy_word.specs.declared.limit.Limit.TheVariants as limit
use Rattle.lucy_tables.specs.Tables.{most_items, RefusesTable, IsTableText}
use Rattle.lucy_tables.specs.declared.error.TableError.TheVariants.{BadNumber, Limit}
use Rattle.lucy_tables.proofs.TableLaws.{full_refuses, bad_refuses, all_are_table, one_refusal, table_or_refusal}
use Rattle.lucy_tables.proofs.table.read_table.Goals as goal

pub returns-then-len-number-clause-refused : goal.returns-then-len-number-clause-refused
returns-then-len-number-clause-refused c =
    let full : length c.fields.list.items ≡ most_items = omega (arith, c.len.ensures, c.number.ensures, c.if-len-number.true) in
    inr (full_refuses c.args.text.now c.fields.list.items c.fields.fields c.next.new.self _ c.fields.invariant.read c.in-Some.ensures.some full)

pub returns-then-len-number-clause-only : goal.returns-then-len-number-clause-only
returns-then-len-number-clause-only c =
    let full : length c.fields.list.items ≡ most_items = omega (arith, c.len.ensures, c.number.ensures, c.if-len-number.true) in
    let refuses : RefusesTable c.args.text.now (Limit limit.TableItems) =
    full_refuses c.args.text.now c.fields.list.items c.fields.fields c.next.new.self _ c.fields.invariant.read c.in-Some.ensures.some full in
    λ e f. inr (one_refusal c.args.text.now _ e refuses f)

pub returns-in-None-clause-refused : goal.returns-in-None-clause-refused
returns-in-None-clause-refused c =
    let few : length c.fields.list.items < most_items = omega (arith, c.len.ensures, c.number.ensures, c.if-len-number.false, c.fields.invariant.short) in
    inr (bad_refuses c.args.text.now c.fields.list.items c.fields.fields c.next.new.self c.in-Some.place c.in-Some.field.now
    c.fields.invariant.read c.in-Some.ensures.some (sym c.int.ensures ∙ c.in-None.is) few)

pub returns-in-None-clause-only : goal.returns-in-None-clause-only
returns-in-None-clause-only c =
    let few : length c.fields.list.items < most_items = omega (arith, c.len.ensures, c.number.ensures, c.if-len-number.false, c.fields.invariant.short) in
    let refuses : RefusesTable c.args.text.now (BadNumber c.in-Some.place) =
    bad_refuses c.args.text.now c.fields.list.items c.fields.fields c.next.new.self c.in-Some.place c.in-Some.field.now
    c.fields.invariant.read c.in-Some.ensures.some (sym c.int.ensures ∙ c.in-None.is) few in
    λ e f. inr (one_refusal c.args.text.now _ e refuses f)

pub returns-clause-only : goal.returns-clause-only
returns-clause-only c =
    let is : IsTableText c.args.text.now c.fields.list.items =
    all_are_table c.args.text.now c.fields.list.items c.fields.fields c.fields.invariant.read (c.next.ensures.none c.in_default.is).0 c.fields.invariant.short in
    λ e f. table_or_refusal c.args.text.now c.fields.list.items e is f
