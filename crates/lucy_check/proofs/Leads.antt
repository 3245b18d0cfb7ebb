-- Leads among more and more instants.
use Rattle.std.proofs.Common.{ℕ, ◌-◌, ◌≡◌, max, ap, inl, inr, arith, ◌⊎◌}
use Rattle.std.proofs.lemmas.Bool.{cases_lt}
use Rattle.lucy_word.specs.Bits.{Bits, ones_to}
use Rattle.lucy_word.proofs.BitsLaws.{ones_to-none}
use Rattle.lucy_check.specs.Leads.{IsLeadAmong}

pub lead_none : (a b : Bits) (These : ℕ → Type 0) → ((i : ℕ) → These i → ⊥) → IsLeadAmong a b These 0
lead_none a b These none = record {
  reached = (0, omega (arith, ones_to-none a, ones_to-none b));
  passed = λ i these. absurd (none i these);
}

-- among the instants of two sorts the greatest lead is the greater of the two
pub lead_both : (a b : Bits) (These Those All : ℕ → Type 0) (x y most : ℕ) → IsLeadAmong a b These x → IsLeadAmong a b Those y → most ≡ max x y →
    ((i : ℕ) → All i → These i ⊎ Those i) → IsLeadAmong a b All most
lead_both a b These Those All x y most h k e either = record {
  reached = elim (cases_lt x y) [ inl l ↦ (k.reached.0, omega (arith, k.reached.1)) | inr l ↦ (h.reached.0, omega (arith, h.reached.1)) ];
  passed = λ i all. elim (either i all) [ inl these ↦ omega (arith, h.passed i these) | inr those ↦ omega (arith, k.passed i those) ];
}

-- one instant
pub lead_one : (a b : Bits) (at lead : ℕ) → lead ≡ ones_to a at - ones_to b at → IsLeadAmong a b (λ i. i ≡ at) lead
lead_one a b at lead e = record {
  reached = elim (cases_lt (ones_to b at) (ones_to a at)) [ inl l ↦ (at, omega arith) | inr l ↦ (0, omega (arith, ones_to-none a, ones_to-none b)) ];
  passed = λ i same. omega (arith, ap (ones_to a) same, ap (ones_to b) same);
}

pub lead_fewer : (a b : Bits) (These Fewer : ℕ → Type 0) (lead : ℕ) → IsLeadAmong a b These lead → ((i : ℕ) → Fewer i → These i) → IsLeadAmong a b Fewer lead
lead_fewer a b These Fewer lead h within = record { reached = h.reached; passed = λ i fewer. h.passed i (within i fewer) }
