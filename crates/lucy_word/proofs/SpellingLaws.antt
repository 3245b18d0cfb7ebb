-- A text has one answer: the word that it spells, or one refusal.
use Rattle.std.specs.Prelude.{ℕ, ◌<◌, ◌≤◌, ◌≡◌, ◌↔◌, List, length, Some, Result, Ok, Err}
use Rattle.std.proofs.Common.{ap, sym, refl, ◌∙◌, subst, inl, inr, arith}
use Rattle.std.proofs.lemmas.List.{take_all}
use Rattle.lucy_word.specs.Bits.{Bits, ones_in, bit_count, most_written}
use Rattle.lucy_word.specs.Items.{form_bits}
use Rattle.lucy_word.specs.Spelling.{Spells}
use Rattle.lucy_word.specs.Forms.{IsBadAt, IsBreak}
use Rattle.lucy_word.specs.Shortest.{Same, IsShortForm}
use Rattle.std.proofs.lemmas.List.Sums.{count_by-le-length}
use Rattle.lucy_word.proofs.ShortLaws.{same_sym, short_form_one}
use Rattle.lucy_word.specs.Partials.{whole, run, start, read_bits, expanded}
use Rattle.lucy_word.specs.Shortened.{word_of}
use Rattle.lucy_word.proofs.ShortenedLaws.{shortened_is, zero_by_same}
use Rattle.lucy_word.proofs.PartialLaws.{one_form, form_runs}
use Rattle.lucy_word.proofs.Checking.{to, zero_end, no_zero_before}
use Rattle.lucy_word.specs.Reading.{RefusesWordText, IsReadable, AnswersText}
use Rattle.lucy_word.specs.declared.error.WordError.{WordError}
use Rattle.lucy_word.specs.declared.error.WordError.TheVariants.{BadWord, TooLong, NoOne, OutOfMemory}

-- a text spells one word
spells_one : (text : List ℕ) (v w : Bits) → Spells text v → Spells text w → v ≡ w
spells_one text v w s t = s.bits ∙ ap form_bits (one_form s.form t.form s.is_form t.is_form (sym s.shape ∙ t.shape)) ∙ sym t.bits

-- and has no place where it is bad
spells_or_bad : (text : List ℕ) (w : Bits) (place : ℕ) → Spells text w → IsBadAt text place → ⊥
spells_or_bad text w place s b = go b.breaks
  where
    go : IsBreak text place → ⊥
    go (inl u) = u.none s.form s.is_form s.shape
    go (inr z) =
        let end = zero_end text place z in
        let all : to (length text) text ≡ Some (whole s.form.prefix s.form.period) = ap (run (Some start)) (take_all (length text) text (omega arith) ∙ s.shape) ∙ form_runs s.form s.is_form in
        omega (arith, no_zero_before text (length text) (whole s.form.prefix s.form.period) all (s.counts.prefix, s.counts.period) place end, end.within)

one_place : (text : List ℕ) (p q : ℕ) → IsBadAt text p → IsBadAt text q → p ≡ q
one_place text p q bad worse = omega (arith, bad.least q worse.breaks, worse.least p bad.breaks)

same_count : (text : List ℕ) (v w : Bits) → Spells text v → Spells text w → bit_count v ≡ bit_count w
same_count text v w s t = ap bit_count (spells_one text v w s t)

same_ones : (text : List ℕ) (v w : Bits) → Spells text v → Spells text w → ones_in v.period ≡ ones_in w.period
same_ones text v w s t = ap (λ u. ones_in u.period) (spells_one text v w s t)

pub refuses_one : (text : List ℕ) (e f : WordError) → RefusesWordText text e → RefusesWordText text f → e ≡ f
refuses_one text (BadWord p) (BadWord q) h k = ap (λ n. BadWord n) (one_place text p q h k)
refuses_one text (BadWord p) TooLong h k = absurd (spells_or_bad text k.0 p k.1 h)
refuses_one text (BadWord p) NoOne h k = absurd (spells_or_bad text k.0 p k.1 h)
refuses_one text TooLong (BadWord q) h k = absurd (spells_or_bad text h.0 q h.1 k)
refuses_one text TooLong TooLong h k = refl
refuses_one text TooLong NoOne h k = absurd (omega (arith, same_count text h.0 k.0 h.1 k.1, h.2, k.2))
refuses_one text NoOne (BadWord q) h k = absurd (spells_or_bad text h.0 q h.1 k)
refuses_one text NoOne TooLong h k = absurd (omega (arith, same_count text h.0 k.0 h.1 k.1, h.2, k.2))
refuses_one text NoOne NoOne h k = refl
refuses_one text OutOfMemory f h k = absurd h
refuses_one text e OutOfMemory h k = absurd k

read_or_refused : (text : List ℕ) (w : Bits) (e : WordError) → IsReadable text w → RefusesWordText text e → ⊥
read_or_refused text w (BadWord place) s r = spells_or_bad text s.0 place s.1 r
read_or_refused text w TooLong s r = omega (arith, same_count text r.0 s.0 r.1 s.1, r.2, s.2)
read_or_refused text w NoOne s r = omega (arith, same_ones text r.0 s.0 r.1 s.1, r.3, s.3)
read_or_refused text w OutOfMemory s r = r

pub reads_one : (text : List ℕ) (a b : Result Bits WordError) → AnswersText text a → AnswersText text b → a ≡ b
reads_one text (Ok v) (Ok w) h k =
    let P : Bits → Type 0 = λ u. IsShortForm u v in
    ap (λ u. Ok u) (short_form_one k.0 v w (subst P (spells_one text h.0 k.0 h.1 k.1) h.4) k.4)
reads_one text (Ok v) (Err f) h k = absurd (read_or_refused text v f h k)
reads_one text (Err e) (Ok w) h k = absurd (read_or_refused text w e k h)
reads_one text (Err e) (Err f) h k = ap (λ u. Err u) (refuses_one text e f h k)

-- the bits of a text are those of its form
pub good_spells : (text : List ℕ) {u : Bits} (g : Spells text u) → Spells text (form_bits g.form)
good_spells text g = record { form = g.form; is_form = g.is_form; counts = g.counts; shape = g.shape; bits = refl }

-- the bits of a text, where they are too many, or have no one
pub too_long : (text : List ℕ) {u : Bits} (g : Spells text u) → most_written < bit_count (form_bits g.form) → RefusesWordText text TooLong
too_long text g h = (form_bits g.form, good_spells text g, h)

pub no_one : (text : List ℕ) {u : Bits} (g : Spells text u) → bit_count (form_bits g.form) ≤ most_written →
    ones_in (form_bits g.form).period ≡ 0 → RefusesWordText text NoOne
no_one text g h none = (form_bits g.form, good_spells text g, h, none)

-- the bits of a text that is a form's
expanded_is : (text : List ℕ) {u : Bits} (g : Spells text u) → expanded text ≡ form_bits g.form
unfolding expanded
expanded_is text g = ap (λ t. read_bits (run (Some start) t)) g.shape ∙ ap read_bits (form_runs g.form g.is_form)

some_bits : (text : List ℕ) {u : Bits} (g : Spells text u) → 0 < ones_in (form_bits g.form).period → 0 < length (expanded text).period
some_bits text g some = omega (arith, ap (λ (b : Bits). length b.period) (expanded_is text g), count_by-le-length (λ b. b) (form_bits g.form).period, some)

-- the word of a text, where they are not too many and have a one
pub readable : (text : List ℕ) {u : Bits} (g : Spells text u) → bit_count (form_bits g.form) ≤ most_written →
    0 < ones_in (form_bits g.form).period → IsReadable text (word_of text)
readable text g h some = (
  form_bits g.form,
  good_spells text g,
  h,
  some,
  subst (λ (b : Bits). IsShortForm b (word_of text)) (expanded_is text g) (shortened_is (expanded text) (some_bits text g some)),
)

-- and whether its period has a zero
pub has_zero : (text : List ℕ) (w : Bits) {u : Bits} (g : Spells text u) → IsReadable text w →
    (ones_in (form_bits g.form).period < length (form_bits g.form).period) ↔ (ones_in w.period < length w.period)
has_zero text w g r = (
  zero_by_same (form_bits g.form) w same some_g form.nonempty,
  zero_by_same w (form_bits g.form) (same_sym (form_bits g.form) w same) form.nonempty some_g,
)
  where
    form : IsShortForm (form_bits g.form) w
    form = subst (λ (b : Bits). IsShortForm b w) (spells_one text r.0 (form_bits g.form) r.1 (good_spells text g)) r.4

    same : Same (form_bits g.form) w
    same = form.same

    some_g : 0 < length (form_bits g.form).period
    some_g = omega (arith, ap (λ (b : Bits). ones_in b.period) (spells_one text r.0 (form_bits g.form) r.1 (good_spells text g)), count_by-le-length (λ b. b) (form_bits g.form).period, r.3)
