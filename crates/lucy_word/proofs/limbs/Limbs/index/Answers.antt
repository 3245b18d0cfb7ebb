use Rattle.std.proofs.Common.{◌≡◌, ℕ, ◌+◌, ◌*◌, ◌-◌, ◌<◌, ◌≤◌, ◌%◌, ◌^◌, Bool, List, length, take, get_or, ap, sym, ◌∙◌, subst, arith}
use Rattle.std.specs.Prelude.{slice_index}
use Rattle.std.specs.Int.RustNames.{count_ones}
use Rattle.std.proofs.lemmas.Grind.{get_or_default_zero}
use Rattle.std.specs.List.Sorted.{IsNonDecreasingBy}
use Rattle.lucy_word.specs.Bits.{ones_in}
use Rattle.lucy_word.specs.Counting.{CountsBefore}
use Rattle.lucy_word.specs.Packing.{unpacked, ArePacked}
use Rattle.lucy_word.proofs.CountedLaws.{kept_rise}
use Rattle.lucy_word.proofs.LimbLaws.{InLimb, InLimb-last, InLimb-within, InLimb-there, InLimb-first, length-unpacked}
use Rattle.lucy_word.proofs.limbs.Limbs.index.Goals as goal

pub less_than-limbs-requires : goal.less_than-limbs-requires
less_than-limbs-requires c =
    let P : List ℕ → Type 0 = λ l. IsNonDecreasingBy (λ n. n) l in
    subst P (sym c.deref.ensures.value) (kept_rise (unpacked c.self.inside.len c.self.inside.limbs.items) c.self.inside.before.items c.self.invariant.2)

-- what is known of the last limb with fewer ones before it
last : (len : ℕ) (limbs before counts : List ℕ) (bits : List Bool) (number n : ℕ) → ArePacked len limbs → CountsBefore (unpacked len limbs) before → unpacked len limbs ≡ bits →
    number ≤ ones_in bits → counts ≡ before → n ≤ length counts → ((k : ℕ) → k < n → slice_index counts k < number) →
    ((k : ℕ) → n ≤ k → k < length counts → number ≤ slice_index counts k) → 0 < n → InLimb len limbs number (n - 1) (slice_index before (n - 1))
last len limbs before counts bits number n are kept view enough same within less not_less some =
    let size : length counts ≡ length before = ap length same in
    InLimb-last len limbs before number (n - 1) are kept (omega (arith, ap ones_in view)) (omega arith)
    (omega (arith, less (n - 1) (omega arith), ap (λ l. slice_index l (n - 1)) same))
    (λ k late here. omega (arith, not_less k (omega arith) (omega arith), ap (λ l. slice_index l k) same))

pub overflow_mul-result : goal.overflow_mul-result
overflow_mul-result c =
    let h = last c.self.inside.len c.self.inside.limbs.items c.self.inside.before.items c.deref.result.now c.args.self.now c.args.number c.less_than-limbs.result
    c.self.invariant.1 c.self.invariant.2 c.self.view_is c.requires.enough c.deref.ensures.value c.less_than-limbs.ensures.within c.less_than-limbs.ensures.less c.less_than-limbs.ensures.not_less (omega arith) in
    omega (arith, h.within, c.self.invariant.0)

pub index-requires : goal.index-requires
index-requires c = omega (arith, c.less_than-limbs.ensures.within, ap length c.deref.ensures.value, c.self.invariant.1.count, c.self.invariant.2.len, length-unpacked c.self.inside.len c.self.inside.limbs.items)

-- the count and the limb, as they are read
read : (before : List ℕ) (s x : ℕ) → s < length before → x ≡ get_or before s x → x ≡ slice_index before s
read before s x here is = is ∙ get_or_default_zero before s x here

pub overflow_sub-number : goal.overflow_sub-number
overflow_sub-number c =
    let h = last c.self.inside.len c.self.inside.limbs.items c.self.inside.before.items c.deref.result.now c.args.self.now c.args.number c.less_than-limbs.result
    c.self.invariant.1 c.self.invariant.2 c.self.view_is c.requires.enough c.deref.ensures.value c.less_than-limbs.ensures.within c.less_than-limbs.ensures.less c.less_than-limbs.ensures.not_less (omega arith) in
    let here : c.less_than-limbs.result - 1 < length c.self.inside.before.items = omega (arith, c.less_than-limbs.ensures.within, ap length c.deref.ensures.value) in
    omega (arith, h.less, c.from.ensures, read c.self.inside.before.items (c.less_than-limbs.result - 1) c.index-2.result.now here c.index-2.ensures)

pub select-requires : goal.select-requires
select-requires c =
    let h = last c.self.inside.len c.self.inside.limbs.items c.self.inside.before.items c.deref.result.now c.args.self.now c.args.number c.less_than-limbs.result
    c.self.invariant.1 c.self.invariant.2 c.self.view_is c.requires.enough c.deref.ensures.value c.less_than-limbs.ensures.within c.less_than-limbs.ensures.less c.less_than-limbs.ensures.not_less (omega arith) in
    let s : ℕ = c.less_than-limbs.result - 1 in
    let here : s < length c.self.inside.before.items = omega (arith, c.less_than-limbs.ensures.within, ap length c.deref.ensures.value) in
    let there : s < length c.self.inside.limbs.items = omega (arith, c.self.invariant.1.count, c.self.invariant.2.len, length-unpacked c.self.inside.len c.self.inside.limbs.items) in
    record { enough = omega (arith, h.enough, h.less, c.from.ensures, read c.self.inside.before.items s c.index-2.result.now here c.index-2.ensures, ap count_ones (read c.self.inside.limbs.items s c.index.result.now there c.index.ensures)) }

-- what `select` found, said of the list
record Found (bits : List Bool) (number place : ℕ) : Type 0 where
  within : place ≤ length bits
  there : ones_in (take place bits) ≡ number
  first : (k : ℕ) → k < place → ones_in (take k bits) < number

found : (len : ℕ) (limbs : List ℕ) (bits : List Bool) (number s x y z r : ℕ) → InLimb len limbs number s x → y ≡ x → z ≡ slice_index limbs s → unpacked len limbs ≡ bits →
    count_ones (z % 2 ^ r) ≡ number - y → ((k : ℕ) → k < r → count_ones (z % 2 ^ k) < number - y) → Found bits number (s * 64 + r)
found len limbs bits number s x y z r h same limb view there first =
    let there_h : count_ones (slice_index limbs s % 2 ^ r) ≡ number - x = sym (ap (λ l. count_ones (l % 2 ^ r)) limb) ∙ there ∙ ap (λ v. number - v) same in
    let first_h : (k : ℕ) → k < r → count_ones (slice_index limbs s % 2 ^ k) < number - x = λ k less. omega (arith, first k less, ap (λ l. count_ones (l % 2 ^ k)) limb) in
    let within : r ≤ h.rest = InLimb-within len limbs number s x r h first_h in
    record {
      within = omega (arith, h.within, ap length view, length-unpacked len limbs);
      there = sym (ap (λ b. ones_in (take (s * 64 + r) b)) view) ∙ InLimb-there len limbs number s x r h within there_h;
      first = λ k below. omega (arith, InLimb-first len limbs number s x r h within first_h k below, ap (λ b. ones_in (take k b)) view);
    }

all : (c : goal.After-select) → Found c.args.self.now c.args.number ((c.less_than-limbs.result - 1) * 64 + c.select.result)
all c =
    let h = last c.self.inside.len c.self.inside.limbs.items c.self.inside.before.items c.deref.result.now c.args.self.now c.args.number c.less_than-limbs.result
    c.self.invariant.1 c.self.invariant.2 c.self.view_is c.requires.enough c.deref.ensures.value c.less_than-limbs.ensures.within c.less_than-limbs.ensures.less c.less_than-limbs.ensures.not_less (omega arith) in
    let s : ℕ = c.less_than-limbs.result - 1 in
    let here : s < length c.self.inside.before.items = omega (arith, c.less_than-limbs.ensures.within, ap length c.deref.ensures.value) in
    let there : s < length c.self.inside.limbs.items = omega (arith, c.self.invariant.1.count, c.self.invariant.2.len, length-unpacked c.self.inside.len c.self.inside.limbs.items) in
    found c.self.inside.len c.self.inside.limbs.items c.args.self.now c.args.number s (slice_index c.self.inside.before.items s) c.from.result c.index.result.now c.select.result h
    (c.from.ensures ∙ read c.self.inside.before.items s c.index-2.result.now here c.index-2.ensures) (read c.self.inside.limbs.items s c.index.result.now there c.index.ensures) c.self.view_is
    c.select.ensures.there c.select.ensures.first

pub overflow_add-result : goal.overflow_add-result
overflow_add-result c = omega (arith, (all c).within, ap length c.self.view_is, length-unpacked c.self.inside.len c.self.inside.limbs.items, c.self.invariant.0)

pub returns-clause-within : goal.returns-clause-within
returns-clause-within c = (all c).within

pub returns-clause-there : goal.returns-clause-there
returns-clause-there c = (all c).there

pub returns-clause-first : goal.returns-clause-first
returns-clause-first c = (all c).first
