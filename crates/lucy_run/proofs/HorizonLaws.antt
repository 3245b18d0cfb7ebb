-- Inputs have a horizon.
use Rattle.std.proofs.Common.{◌≡◌, ℕ, suc, zero, ◌<◌, ◌≤◌, ◌⊎◌, List, Option, Some, None, refl, ap, sym, ◌∙◌, subst, inl, inr, arith}
use Rattle.std.specs.Prelude.{ℤ, Bool, ◌+◌, ◌↔◌, IsTrue, length, slice_get, slice_index, IfSome}
use Rattle.std.proofs.lemmas.Bool.{cases_lt}
use Rattle.std.proofs.lemmas.Option.{same_Some, slice_get_within}
use Rattle.lucy_word.specs.Bits.{Bits, ones_to}
use Rattle.lucy_word.specs.Limits.{limit_number}
use Rattle.lucy_word.specs.declared.limit.Limit.TheVariants as limit
use Rattle.lucy_word.proofs.BitsLaws.{ones_to-none}
use Rattle.lucy_stream.specs.Items.{list_at}
use Rattle.lucy_kahn.specs.Horizons.{Suffice, IsHorizon}
use Rattle.lucy_run.specs.Owes.{most_instants, IsHorizonOf, AllowsMore}

-- the inputs of the first so many words suffice
abbrev SufficeTo : List Bits → List (List ℤ) → (instants count : ℕ) → Type 0
SufficeTo words inputs instants count = (i : ℕ) (word : Bits) → i < count → slice_get words i ≡ Some word → ones_to word instants ≤ length (list_at inputs i)

one_more : (words : List Bits) (inputs : List (List ℤ)) (t n : ℕ) (found : Option Bits) → slice_get words n ≡ found → SufficeTo words inputs t n →
    SufficeTo words inputs t (suc n) ⊎ (SufficeTo words inputs t (suc n) → ⊥)
one_more words inputs t n None e fits = inl (λ i w low f. elim (cases_lt i n) [
  | inl less ↦ fits i w less f
  | inr most ↦
      let same : n ≡ i = omega arith in
      let none : None ≡ Some w = sym e ∙ ap (slice_get words) same ∙ f in
      cc
])
one_more words inputs t n (Some word) e fits = elim (cases_lt (length (list_at inputs n)) (ones_to word t)) [
  | inl wants ↦ inr (λ all. let few = all n word (omega arith) e in absurd (omega arith))
  | inr enough ↦ inl (λ i w low f. elim (cases_lt i n) [
    | inl less ↦ fits i w less f
    | inr most ↦
        let same : n ≡ i = omega arith in
        let one : word ≡ w = same_Some word w (sym e ∙ ap (slice_get words) same ∙ f) in
        let P : ℕ → Type 0 = λ m. ones_to w t ≤ length (list_at inputs m) in
        let Q : Bits → Type 0 = λ u. ones_to u t ≤ length (list_at inputs n) in
        subst P same (subst Q one enough)
  ])
]

suffice_or : (words : List Bits) (inputs : List (List ℤ)) (t n : ℕ) → SufficeTo words inputs t n ⊎ (SufficeTo words inputs t n → ⊥)
suffice_or words inputs t zero = inl (λ i w low e. absurd (omega arith))
suffice_or words inputs t (suc n) = elim (suffice_or words inputs t n) [
  | inl fits ↦ one_more words inputs t n (slice_get words n) refl fits
  | inr none ↦ inr (λ all. none (λ i w low e. all i w (omega arith) e))
]

-- the inputs suffice for so many instants, or they don't
suffice_either : (words : List Bits) (inputs : List (List ℤ)) (t : ℕ) → Suffice words inputs t ⊎ (Suffice words inputs t → ⊥)
suffice_either words inputs t = elim (suffice_or words inputs t (length words)) [
  | inl fits ↦ inl (λ i w e. fits i w (slice_get_within words i w e) e)
  | inr none ↦ inr (λ all. none (λ i w low e. all i w e))
]

-- inputs have a horizon
pub some_horizon : (words : List Bits) (inputs : List (List ℤ)) (most : ℕ) → (t : ℕ) × IsHorizon words inputs most t
some_horizon words inputs zero =
    (0, record { within = omega arith; suffice = λ i w e. omega (arith, ones_to-none w); greatest = λ u low s. low })
some_horizon words inputs (suc m) = elim (suffice_either words inputs (suc m)) [
  | inl fits ↦ (suc m, record { within = omega arith; suffice = fits; greatest = λ u low s. low })
  | inr none ↦
      let before = some_horizon words inputs m in
      let within = before.1.within in (
        before.0,
        record {
          within = omega arith;
          suffice = before.1.suffice;
          greatest = λ u low s. elim (cases_lt u (suc m)) [
            | inl less ↦ before.1.greatest u (omega arith) s
            | inr all ↦
                let same : u ≡ suc m = omega arith in
                let P : ℕ → Type 0 = λ v. Suffice words inputs v in
                absurd (none (subst P same s))
          ];
        },
      )
]

-- the most instants of a run are few
pub few_most : (given : Option ℕ) → IfSome given (λ n. n ≤ limit_number limit.Instants) → most_instants given ≤ limit_number limit.Instants
few_most None few = omega arith
few_most (Some n) few = few

-- the horizon of lists whose lengths are counted
pub horizon_at : (words : List Bits) (counts held : List ℕ) (lists : List (List ℤ)) (given : Option ℕ) (most horizon : ℕ) → held ≡ counts → most ≡ most_instants given →
    ((i : ℕ) → slice_index counts i ≡ length (list_at lists i)) → ((xs : List (List ℤ)) → ((i : ℕ) → slice_index held i ≡ length (list_at xs i)) → IsHorizon words xs most horizon) →
    IsHorizonOf words given lists horizon
horizon_at words counts held lists given most horizon same e are allow =
    subst (λ n. IsHorizon words lists n horizon) e (allow lists (subst (λ (ks : List ℕ). (i : ℕ) → slice_index ks i ≡ length (list_at lists i)) (sym same) are))

-- whether they allow more instants than a run may have
pub more_at : (words : List Bits) (counts held : List ℕ) (lists : List (List ℤ)) (most : ℕ) (more : Bool) → held ≡ counts → most ≡ limit_number limit.Instants →
    ((i : ℕ) → slice_index counts i ≡ length (list_at lists i)) → ((xs : List (List ℤ)) → ((i : ℕ) → slice_index held i ≡ length (list_at xs i)) → (IsTrue more ↔ Suffice words xs (most + 1))) →
    IsTrue more ↔ AllowsMore words lists
more_at words counts held lists most more same e are allow =
    let P : ℕ → Type 0 = λ n. IsTrue more ↔ Suffice words lists (n + 1) in
    subst P e (allow lists (subst (λ (ks : List ℕ). (i : ℕ) → slice_index ks i ≡ length (list_at lists i)) (sym same) are))
