use Rattle.std.proofs.Common.{◌≡◌, ◌↔◌, ℕ, ◌+◌, ◌<◌, ◌≤◌, List, IsTrue, nat_lt, length, arith}
use Rattle.std.proofs.lemmas.Bool.Decides.{nat_tests}
use Rattle.lucy_word.specs.Bits.{Bits, ones_in, bit_count, most_written}
use Rattle.lucy_word.specs.Items.{items_bits, form_bits}
use Rattle.lucy_word.specs.Spelling.{Spells}
use Rattle.lucy_word.specs.Reading.{IsReadable}
use Rattle.lucy_word.specs.Shortened.{word_of}
use Rattle.lucy_word.proofs.SpellingLaws.{too_long, no_one, readable, has_zero}
use Rattle.lucy_word.proofs.read.Spelled.read.Goals as goal

-- the prefix alone has too many bits
pub returns-in_default-add_up-clause-refused : goal.returns-in_default-add_up-clause-refused
returns-in_default-add_up-clause-refused c =
    let g = c.in_default.ensures.1 in
    let s = c.parts.ensures g.form g.is_form g.shape in
    too_long c.args.text.now g (omega (arith, c.in_default-add_up.ensures.sums g.form.prefix g.is_form.prefix s.prefix_is, c.number-most.ensures))

-- prefix and period have
pub returns-in_default-add_up-2-clause-refused : goal.returns-in_default-add_up-2-clause-refused
returns-in_default-add_up-2-clause-refused c =
    let g = c.in_default.ensures.1 in
    let s = c.parts.ensures g.form g.is_form g.shape in
    let before = c.in-Some.ensures.sums g.form.prefix g.is_form.prefix s.prefix_is in
    too_long c.args.text.now g (omega (arith, before.0, c.in_default-add_up-2.ensures.sums g.form.period g.is_form.period s.period_is, c.number-most.ensures))

-- what was counted of the text: its bits are not too many, and these are those of its period
record Counted (text : List ℕ) (bits ones : ℕ) : Type 0 where
  word : Bits
  good : Spells text word
  short : bit_count (form_bits good.form) ≤ most_written
  bits_are : bits ≡ length (form_bits good.form).period
  ones_are : ones ≡ ones_in (form_bits good.form).period

counted : (text : List ℕ) {u : Bits} (g : Spells text u) (before bits ones : ℕ) → before ≡ length (items_bits g.form.prefix) →
    (bits ≡ length (items_bits g.form.period)) × (ones ≡ ones_in (items_bits g.form.period)) → before + bits ≤ most_written → Counted text bits ones
counted text {u = u} g before bits ones h k short = record { word = u; good = g; short = omega (arith, h, k.0, short); bits_are = k.0; ones_are = k.1 }

is_readable : (text : List ℕ) (bits ones : ℕ) → Counted text bits ones → (ones ≡ 0 → ⊥) → IsReadable text (word_of text)
is_readable text bits ones k some = readable text k.good k.short (omega (arith, k.ones_are, some))

less_so : (a b : ℕ) → IsTrue (nat_lt a b) → a < b
less_so a b h = grind (arith, nat_tests)

so_less : (a b : ℕ) → a < b → IsTrue (nat_lt a b)
so_less a b h = grind (arith, nat_tests)

-- whether a zero was counted
zeros : (text : List ℕ) (bits ones : ℕ) → Counted text bits ones → IsReadable text (word_of text) →
    IsTrue (nat_lt ones bits) ↔ (ones_in (word_of text).period < length (word_of text).period)
zeros text bits ones k r =
    let own = has_zero text (word_of text) k.good r in (
      λ h. own.0 (omega (arith, less_so ones bits h, k.bits_are, k.ones_are)),
      λ h. so_less ones bits (omega (arith, own.1 h, k.bits_are, k.ones_are)),
    )

pub returns-then-period-eq0-clause-refused : goal.returns-then-period-eq0-clause-refused
returns-then-period-eq0-clause-refused c =
    let g = c.in_default.ensures.1 in
    let s = c.parts.ensures g.form g.is_form g.shape in
    let before = c.in-Some.ensures.sums g.form.prefix g.is_form.prefix s.prefix_is in
    let turn = c.in-Some-add_up.ensures.sums g.form.period g.is_form.period s.period_is in
    let few : c.in-Some.prefix.bits + c.in-Some-add_up.period.bits ≤ most_written = omega (arith, c.number-most.ensures, c.in-Some.ensures.within.1, c.in-Some-add_up.ensures.within.1) in
    let k = counted c.args.text.now g c.in-Some.prefix.bits c.in-Some-add_up.period.bits c.in-Some-add_up.period.ones before.0 turn few in
    no_one c.args.text.now k.good k.short (omega (arith, k.ones_are, c.if-period-eq0.true))

pub invariant_of-result : goal.invariant_of-result
invariant_of-result c =
    let g = c.in_default.ensures.1 in
    let s = c.parts.ensures g.form g.is_form g.shape in
    let before = c.in-Some.ensures.sums g.form.prefix g.is_form.prefix s.prefix_is in
    let turn = c.in-Some-add_up.ensures.sums g.form.period g.is_form.period s.period_is in
    let few : c.in-Some.prefix.bits + c.in-Some-add_up.period.bits ≤ most_written = omega (arith, c.number-most.ensures, c.in-Some.ensures.within.1, c.in-Some-add_up.ensures.within.1) in
    let k = counted c.args.text.now g c.in-Some.prefix.bits c.in-Some-add_up.period.bits c.in-Some-add_up.period.ones before.0 turn few in
    let r = is_readable c.args.text.now c.in-Some-add_up.period.bits c.in-Some-add_up.period.ones k c.if-period-eq0.false in
    (r, zeros c.args.text.now c.in-Some-add_up.period.bits c.in-Some-add_up.period.ones k r)

pub returns-clause-ok : goal.returns-clause-ok
returns-clause-ok c =
    let g = c.in_default.ensures.1 in
    let s = c.parts.ensures g.form g.is_form g.shape in
    let before = c.in-Some.ensures.sums g.form.prefix g.is_form.prefix s.prefix_is in
    let turn = c.in-Some-add_up.ensures.sums g.form.period g.is_form.period s.period_is in
    let few : c.in-Some.prefix.bits + c.in-Some-add_up.period.bits ≤ most_written = omega (arith, c.number-most.ensures, c.in-Some.ensures.within.1, c.in-Some-add_up.ensures.within.1) in
    let k = counted c.args.text.now g c.in-Some.prefix.bits c.in-Some-add_up.period.bits c.in-Some-add_up.period.ones before.0 turn few in
    is_readable c.args.text.now c.in-Some-add_up.period.bits c.in-Some-add_up.period.ones k c.if-period-eq0.false
