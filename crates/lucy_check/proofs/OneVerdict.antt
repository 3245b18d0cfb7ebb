-- Of two words one verdict holds, and their bits differ first at one instant.
use Rattle.std.proofs.Common.{ℕ, ◌<◌, ◌≡◌, ap, refl, inl, inr, arith}
use Rattle.std.proofs.lemmas.Bool.{cases_order}
use Rattle.lucy_word.specs.Bits.{Bits}
use Rattle.lucy_word.specs.Adaptable.{IsAdaptable, IsSize, IsFirstLate}
use Rattle.lucy_check.specs.Difference.{IsFirstDifference}
use Rattle.lucy_check.specs.Verdicts.{IsVerdict}
use Rattle.lucy_check.specs.declared.verdict.Verdict.{Verdict}
use Rattle.lucy_check.specs.declared.verdict.Verdict.TheVariants.{Adaptable, Rates, Late}

-- one size is the greatest lead
pub one_size : (a b : Bits) (s t : ℕ) → IsSize a b s → IsSize a b t → s ≡ t
one_size a b s t h k = omega (arith, h.reached.1, k.reached.1, h.passed k.reached.0, k.passed h.reached.0)

not_before : (a b : Bits) (s t : ℕ) → IsFirstLate a b s → IsFirstLate a b t → s < t → ⊥
not_before a b s t h k less = omega (arith, h.late, k.first s less)

-- one instant is the first late one
pub one_late : (a b : Bits) (s t : ℕ) → IsFirstLate a b s → IsFirstLate a b t → s ≡ t
one_late a b s t h k =
    elim (cases_order s t) [
      | inl same ↦ same
      | inr (inl less) ↦ absurd (not_before a b s t h k less)
      | inr (inr more) ↦ absurd (not_before a b t s k h more)
    ]

-- where the words are adaptable no instant is late
pub never_late : (a b : Bits) (at : ℕ) → IsAdaptable a b → IsFirstLate a b at → ⊥
never_late a b at h k = omega (arith, h.1 at, k.late)

-- so one verdict holds
pub one_verdict : (a b : Bits) (v w : Verdict) → IsVerdict a b v → IsVerdict a b w → v ≡ w
one_verdict a b (Adaptable s) (Adaptable t) h k = ap (λ n. Adaptable n) (one_size a b s t h.1 k.1)
one_verdict a b (Adaptable s) Rates h k = absurd (k h.0.0)
one_verdict a b (Adaptable s) (Late t) h k = absurd (never_late a b t h.0 k.1)
one_verdict a b Rates (Adaptable t) h k = absurd (h k.0.0)
one_verdict a b Rates Rates h k = refl
one_verdict a b Rates (Late t) h k = absurd (h k.0)
one_verdict a b (Late s) (Adaptable t) h k = absurd (never_late a b s k.0 h.1)
one_verdict a b (Late s) Rates h k = absurd (k h.0)
one_verdict a b (Late s) (Late t) h k = ap (λ n. Late n) (one_late a b s t h.1 k.1)

-- and one instant is the first at which the bits differ
pub one_difference : (a b : Bits) (s t : ℕ) → IsFirstDifference a b s → IsFirstDifference a b t → s ≡ t
one_difference a b s t h k =
    elim (cases_order s t) [
      | inl same ↦ same
      | inr (inl less) ↦ absurd (h.differs (k.first s h.instant less))
      | inr (inr more) ↦ absurd (k.differs (h.first t k.instant more))
    ]
