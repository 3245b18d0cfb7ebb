use Rattle.std.proofs.Common.{◌≡◌, ◌+◌, ◌≤◌, ◌∙◌, length, ap, sym, subst, arith, List, Bool}
use Rattle.lucy_word.specs.Bits.{Bits, bit_count}
use Rattle.lucy_word.specs.Shortest.{IsShortForm}
use Rattle.lucy_word.specs.Items.{items_bits, form_bits}
use Rattle.lucy_word.specs.Shortened.{word_of}
use Rattle.lucy_word.proofs.ShortLaws.{short_form_one}
use Rattle.lucy_word.proofs.read.Spelled.word.Goals as goal

pub returns-clause-equal : goal.returns-clause-equal
returns-clause-equal c =
    let r = c.self.invariant.0 in
    let f = r.1.form in
    let s = c.parts.ensures f r.1.is_form r.1.shape in
    let count : length r.0.prefix + length r.0.period ≡ length (items_bits f.prefix) + length (items_bits f.period) = ap bit_count r.1.bits in
    let few : length r.0.prefix + length r.0.period ≤ 65536 = r.2 in
    let u : c.in_ok-prefix.prefix ≡ items_bits f.prefix = c.in_ok-prefix.ensures f.prefix r.1.is_form.prefix s.prefix_is (omega (arith, count, few)) in
    let v : c.in_ok-period.period ≡ items_bits f.period = c.in_ok-period.ensures f.period r.1.is_form.period s.period_is (omega (arith, count, few)) in
    let P : List Bool → Type 0 = λ a. IsShortForm (record { prefix = a; period = c.in_ok-period.period }) c.in_ok-shortest.field-0 in
    let Q : List Bool → Type 0 = λ a. IsShortForm (record { prefix = items_bits f.prefix; period = a }) c.in_ok-shortest.field-0 in
    let form : IsShortForm (form_bits f) c.in_ok-shortest.field-0 = subst Q v (subst P u c.in_ok-shortest.ensures) in
    let own : IsShortForm (form_bits f) (word_of c.self.inside.text.now) = subst (λ (b : Bits). IsShortForm b (word_of c.self.inside.text.now)) r.1.bits r.4 in
    let same : c.in_ok-shortest.field-0 ≡ word_of c.self.inside.text.now = short_form_one (form_bits f) _ _ form own in
    let seen : c.args.self.now ≡ word_of c.self.inside.text.now = cc in
    same ∙ sym seen
