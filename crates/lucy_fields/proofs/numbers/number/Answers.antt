use Rattle.std.proofs.Common.{sym, arith, subst}
use Rattle.std.specs.Str.Parse.{ParsesUnsigned}
use Rattle.lucy_fields.proofs.NumberLaws.{digits_are_text, none_past, unparsed_past}
use Rattle.lucy_fields.proofs.numbers.number.Goals as goal

pub returns-in_default : goal.returns-in_default
returns-in_default c =
    absurd (c.in_default.ensures.cases.0 (digits_are_text c.args.bytes.now (sym c.if-not-are_digits.ensures)))

pub returns-in_default-parse : goal.returns-in_default-parse
returns-in_default-parse c =
    let parses = subst (λ t. ParsesUnsigned 64 10 t c.parse.result) c.in-Ok.ensures.cases.0 c.parse.ensures.value.0 in
    let past = unparsed_past c.args.bytes.now c.parse.result c.in_default-parse.field-0 parses
    (sym c.if-not-are_digits.ensures) c.if-is_empty.ensures c.in_default-parse.is in
    none_past c.args.digits c.args.least c.args.most c.args.bytes.now (omega (arith, past, c.ranges.most.fits))
