-- Instants in which no output has an item.
use Rattle.std.proofs.Common.{ℕ, suc, zero, ◌≡◌, ◌≤◌, ◌<◌, ◌+◌, ◌-◌, ◌*◌, ◌/◌, min, List, [], ◌∷◌, ◌++◌, true, false, None, inl, inr, if◌then◌else◌, ap, sym, refl, ◌∙◌, subst, arith}
use Rattle.std.specs.Prelude.{ℤ, Bool, slice_get}
use Rattle.std.proofs.lemmas.Bool.{cases_lt}
use Rattle.std.proofs.Math.Nat.{div-mul-le_self, add-mul}
use Rattle.lucy_word.specs.Bits.{Bits, bit_at, ones_to, one_if}
use Rattle.lucy_word.specs.Index.{IsIndex}
use Rattle.lucy_word.proofs.BitsLaws.{ones_to-more}
use Rattle.lucy_word.proofs.IndexLaws.{ones_to-rises, IsIndex-before}
use Rattle.lucy_lines.specs.declared.output.OutputSpec.{OutputSpec}
use Rattle.lucy_lines.specs.Outputs.{line_with_value, instant_after, more_lines, lines_after}
use Rattle.lucy_lines.proofs.OutputLaws.{no_more_lines, one_instant_on}
use Rattle.lucy_run.specs.Courses.{AreSilent, long_block, IsNextTarget}

-- the next one of a word stands behind the instant
pub next_behind : (w : Bits) (from items place : ℕ) → items ≡ ones_to w from → IsIndex w (items + 1) place → from < place
next_behind w from items place e h = elim (cases_lt from place) [
  | inl later ↦ later
  | inr early ↦ absurd (omega (arith, e, h.there, ones_to-rises w place from early))
]

-- up to it the word has no more ones
pub still_before : (w : Bits) (from items place t : ℕ) → items ≡ ones_to w from → IsIndex w (items + 1) place → from ≤ t → t < place → ones_to w t ≡ ones_to w from
still_before w from items place t e h l m = omega (arith, e, ones_to-rises w from t l, IsIndex-before w (items + 1) place t h m)

-- a word that has no more ones up to an instant has none up to one between
pub still_earlier : (w : Bits) (from t to : ℕ) → from ≤ t → t ≤ to → ones_to w to ≡ ones_to w from → ones_to w t ≡ ones_to w from
still_earlier w from t to l m still = omega (arith, ones_to-rises w from t l, ones_to-rises w t to m, still)

pub silent_earlier : (outputs : List OutputSpec) (from t to : ℕ) → from ≤ t → t ≤ to → AreSilent outputs from to → AreSilent outputs from t
silent_earlier outputs from t to l m silent i o e = still_earlier o.word from t to l m (silent i o e)

no_one : (b : Bool) (m n : ℕ) → m ≤ n → m ≡ n + one_if b → b ≡ false
no_one true m n l e = absurd (omega (arith, e))
no_one false m n l e = refl

no_bit : (w : Bits) (from t : ℕ) → from ≤ t → ones_to w (t + 1) ≡ ones_to w from → bit_at w (t + 1) ≡ false
no_bit w from t l e = no_one (bit_at w (t + 1)) (ones_to w from) (ones_to w t) (ones_to-rises w from t l) (sym e ∙ ones_to-more w t)

no_instant : (outputs : List OutputSpec) (lists : List (List ℤ)) (before t : ℕ) → before ≤ t → AreSilent outputs before (t + 1) → instant_after outputs lists before (t + 1) ≡ []
unfolding instant_after
no_instant [] lists before t l silent = refl
no_instant (o ∷ outputs) [] before t l silent = refl
no_instant (o ∷ outputs) (items ∷ lists) before t l silent =
    ap (λ (b : Bool). line_with_value o (if b then slice_get items (ones_to o.word (t + 1) - 1 - ones_to o.word before) else None) ++ instant_after outputs lists before (t + 1))
    (no_bit o.word before t l (silent 0 o refl))
    ∙ no_instant outputs lists before t l (λ i x e. silent (suc i) x e)

no_lines : (outputs : List OutputSpec) (lists : List (List ℤ)) (before n : ℕ) → AreSilent outputs before (before + n) → more_lines outputs lists before n ≡ []
no_lines outputs lists before zero silent = no_more_lines outputs lists before
no_lines outputs lists before (suc n) silent =
    let next : before + suc n ≡ before + n + 1 = omega arith in
    let more : suc n ≡ n + 1 = omega arith in
    let here : AreSilent outputs before (before + n + 1) = subst (AreSilent outputs before) next silent in
    ap (more_lines outputs lists before) more
    ∙ one_instant_on outputs lists before n
    ∙ ap (λ xs. xs ++ instant_after outputs lists before (before + n + 1)) (no_lines outputs lists before n (silent_earlier outputs before (before + n) (before + n + 1) (omega arith) (omega arith) here))
    ∙ no_instant outputs lists before (before + n) (omega arith) here

-- there is no line in them
pub silent_lines : (outputs : List OutputSpec) (lists : List (List ℤ)) (before t : ℕ) → before ≤ t → AreSilent outputs before t → lines_after outputs lists before t ≡ []
silent_lines outputs lists before t l silent =
    let there : t ≡ before + (t - before) = omega arith in
    no_lines outputs lists before (t - before) (subst (AreSilent outputs before) there silent)

-- to which instant a run goes by whole blocks within the silence, and one more
pub target_is : (outputs : List OutputSpec) (block most last silent target : ℕ) → 1 ≤ block → last ≤ most → last ≤ silent → AreSilent outputs last silent → silent ≤ last + (long_block - block) →
    target ≡ min most (last + (silent - last) / block * block + block) → IsNextTarget outputs block most last target
target_is outputs block most last silent target some early later still few is =
    let part = div-mul-le_self (silent - last) block in
    let blocks : ℕ = (silent - last) / block + 1 in
    let all : blocks * block ≡ (silent - last) / block * block + block = omega (arith, add-mul ((silent - last) / block) 1 block) in
    record {
      within = omega (arith, is);
      whole = elim (cases_lt most (last + blocks * block)) [
        | inl less ↦ inl (omega (arith, is, all))
        | inr enough ↦ inr (blocks, omega arith, omega (arith, is, all))
      ];
      near = (last + (silent - last) / block * block, omega arith, silent_earlier outputs last (last + (silent - last) / block * block) silent (omega arith) (omega (arith, part)) still, omega (arith, is));
      short = elim (cases_lt long_block block) [
        | inl less ↦ inl (omega (arith, is, part))
        | inr enough ↦ inr (omega (arith, is, part))
      ];
    }
