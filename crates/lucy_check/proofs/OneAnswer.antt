-- A need is passed, or refused in one way.
use Rattle.std.proofs.Common.{ℕ, zero, suc, ◌<◌, ◌≡◌, ◌∷◌, ◌++◌, [], List, Option, Some, ap, sym, ◌∙◌, subst, inl, inr, arith}
use Rattle.std.specs.Prelude.{slice_get, option_to_list, ◌⊎◌}
use Rattle.std.proofs.lemmas.Bool.{cases_order}
use Rattle.std.proofs.lemmas.Option.{same_Some}
use Rattle.lucy_word.specs.Bits.{Bits, ones_to}
use Rattle.lucy_word.specs.Shortest.{Same}
use Rattle.lucy_word.specs.Adaptable.{IsAdaptable}
use Rattle.lucy_word.proofs.BitsLaws.{period_some}
use Rattle.lucy_word.proofs.ShortLaws.{shortest_one}
use Rattle.lucy_word.proofs.Lists.{all_at}
use Rattle.lucy_check.specs.Horizon.{AreFar}
use Rattle.lucy_check.specs.Difference.{IsFirstDifference}
use Rattle.lucy_check.specs.Verdicts.{IsVerdict}
use Rattle.lucy_check.proofs.OneVerdict.{one_size, one_late, one_difference}
use Rattle.lucy_check.specs.declared.verdict.Verdict.TheVariants as verdict
use Rattle.lucy_need.specs.declared.need.Term.{Term}
use Rattle.lucy_need.specs.declared.need.Need.{Need}
use Rattle.lucy_need.specs.declared.need.Need.TheVariants.{Equal, Adapt}
use Rattle.lucy_need.specs.Meeting.{Assignment, Meets, MeetsAll}
use Rattle.lucy_need.proofs.TermLaws.{one_term}
use Rattle.lucy_check.specs.declared.fault.CheckFault.{CheckFault}
use Rattle.lucy_check.specs.declared.fault.CheckFault.TheVariants as fault
use Rattle.lucy_check.specs.Passing.{IsTermPassing, AreWithinLimits, PassesTermLimit, Passes, RefusesNeed, PassesAll, IsWithinLimits, AllWithinLimits, IsFirstRefusal}
use Rattle.lucy_check.proofs.CheckLaws.{met_adaptable}

-- a term has one word in shortest form
term_one : (w : Assignment) (t : Term) (u v : Bits) → IsTermPassing w t u → IsTermPassing w t v → u ≡ v
term_one w t u v h k = shortest_one u v h.shortest k.shortest (period_some u h.is.is_word) (period_some v k.is.is_word) (one_term w t u v h.is k.is)

module _ (w : Assignment) (s t : Term) where
  -- what is said of the words of the terms, said of others that are theirs
  carried : (P : Bits → Bits → Type 0) (a b x y : Bits) → AreWithinLimits w s t a b → AreWithinLimits w s t x y → P a b → P x y
  carried P a b x y h k p = subst (λ u. P u y) (term_one w s a x h.first k.first) (subst (λ v. P a v) (term_one w t b y h.second k.second) p)

  -- no limit is passed where the words are within them
  within_limit : (a b : Bits) (number : ℕ) (e : CheckFault) → AreWithinLimits w s t a b → PassesTermLimit w s t number e → ⊥
  within_limit a b number e h (inl (inl p)) = h.first.within p.1
  within_limit a b number e h (inl (inr p)) = h.second.within p.1
  within_limit a b number e h (inr p) =
      let c = p.1 in
      h.near (subst (λ u. AreFar u b) (term_one w s c.a a c.first h.first) (subst (λ v. AreFar c.a v) (term_one w t c.b b c.second h.second) c.far))

  limit_one : (number : ℕ) (e f : CheckFault) → PassesTermLimit w s t number e → PassesTermLimit w s t number f → e ≡ f
  limit_one number e f (inl (inl p)) (inl (inl q)) = p.0 ∙ sym q.0
  limit_one number e f (inl (inl p)) (inl (inr q)) = p.0 ∙ sym q.0
  limit_one number e f (inl (inr p)) (inl (inl q)) = p.0 ∙ sym q.0
  limit_one number e f (inl (inr p)) (inl (inr q)) = p.0 ∙ sym q.0
  limit_one number e f (inl (inl p)) (inr q) = absurd (q.1.first.within p.1)
  limit_one number e f (inl (inr p)) (inr q) = absurd (q.1.second.within p.1)
  limit_one number e f (inr p) (inl (inl q)) = absurd (p.1.first.within q.1)
  limit_one number e f (inr p) (inl (inr q)) = absurd (p.1.second.within q.1)
  limit_one number e f (inr p) (inr q) = p.0 ∙ sym q.0

pub passes_one : (w : Assignment) (need : Need) (m n : Option ℕ) → Passes w need m → Passes w need n → m ≡ n
passes_one w (Equal s t) m n p q = p.4 ∙ sym q.4
passes_one w (Adapt s t) m n p q =
    let is : IsVerdict q.0 q.1 (verdict.Adaptable p.3) = carried w s t (λ a b. IsVerdict a b (verdict.Adaptable p.3)) p.0 p.1 q.0 q.1 p.2 q.2 p.4 in
    p.5 ∙ ap (λ k. Some k) (one_size q.0 q.1 p.3 q.3 is.1 q.4.1) ∙ sym q.5

pub passes_not : (w : Assignment) (need : Need) (size : Option ℕ) (number : ℕ) (e : CheckFault) → Passes w need size → RefusesNeed w number need e → ⊥
passes_not w (Equal s t) size number e p (inl l) = within_limit w s t p.0 p.1 number e p.2 l
passes_not w (Equal s t) size number e p (inr d) =
    let same : Same d.0 d.1 = carried w s t Same p.0 p.1 d.0 d.1 p.2 d.2 p.3 in
    d.3.2.differs (same d.3.0 d.3.2.instant)
passes_not w (Adapt s t) size number e p (inl l) = within_limit w s t p.0 p.1 number e p.2 l
passes_not w (Adapt s t) size number e p (inr d) =
    let is : IsAdaptable d.0 d.1 = carried w s t IsAdaptable p.0 p.1 d.0 d.1 p.2 d.2 p.4.0 in
    elim d.3 [
      | inl r ↦ r.1 is.0
      | inr r ↦ (let late : ones_to d.0 r.0 < ones_to d.1 r.0 = r.2.1.late in omega (arith, is.1 r.0))
    ]

adapt_one : (w : Assignment) (s t : Term) (number : ℕ) (e f : CheckFault) (a b : Bits) →
    (((e ≡ fault.Rates number) × IsVerdict a b verdict.Rates) ⊎ ((at : ℕ) × (e ≡ fault.Late number at) × IsVerdict a b (verdict.Late at))) →
    (((f ≡ fault.Rates number) × IsVerdict a b verdict.Rates) ⊎ ((at : ℕ) × (f ≡ fault.Late number at) × IsVerdict a b (verdict.Late at))) → e ≡ f
adapt_one w s t number e f a b (inl p) (inl q) = p.0 ∙ sym q.0
adapt_one w s t number e f a b (inl p) (inr q) = absurd (p.1 q.2.0)
adapt_one w s t number e f a b (inr p) (inl q) = absurd (q.1 p.2.0)
adapt_one w s t number e f a b (inr p) (inr q) = p.1 ∙ ap (fault.Late number) (one_late a b p.0 q.0 p.2.1 q.2.1) ∙ sym q.1

pub refuses_one : (w : Assignment) (need : Need) (number : ℕ) (e f : CheckFault) → RefusesNeed w number need e → RefusesNeed w number need f → e ≡ f
refuses_one w (Equal s t) number e f (inl p) (inl q) = limit_one w s t number e f p q
refuses_one w (Equal s t) number e f (inl p) (inr q) = absurd (within_limit w s t q.0 q.1 number e q.2 p)
refuses_one w (Equal s t) number e f (inr p) (inl q) = absurd (within_limit w s t p.0 p.1 number f p.2 q)
refuses_one w (Equal s t) number e f (inr p) (inr q) =
    let is : IsFirstDifference q.0 q.1 p.3.0 = carried w s t (λ a b. IsFirstDifference a b p.3.0) p.0 p.1 q.0 q.1 p.2 q.2 p.3.2 in
    p.3.1 ∙ ap (fault.Differs number) (one_difference q.0 q.1 p.3.0 q.3.0 is q.3.2) ∙ sym q.3.1
refuses_one w (Adapt s t) number e f (inl p) (inl q) = limit_one w s t number e f p q
refuses_one w (Adapt s t) number e f (inl p) (inr q) = absurd (within_limit w s t q.0 q.1 number e q.2 p)
refuses_one w (Adapt s t) number e f (inr p) (inl q) = absurd (within_limit w s t p.0 p.1 number f p.2 q)
refuses_one w (Adapt s t) number e f (inr p) (inr q) =
    adapt_one w s t number e f q.0 q.1
    (carried w s t (λ a b. ((e ≡ fault.Rates number) × IsVerdict a b verdict.Rates) ⊎ ((at : ℕ) × (e ≡ fault.Late number at) × IsVerdict a b (verdict.Late at))) p.0 p.1 q.0 q.1 p.2 q.2 p.3) q.3

-- all of them
pub all_one : (w : Assignment) (needs : List Need) (xs ys : List ℕ) → PassesAll w needs xs → PassesAll w needs ys → xs ≡ ys
all_one w [] xs ys p q = p ∙ sym q
all_one w (need ∷ needs) xs ys p q =
    p.4 ∙ ap (λ s. option_to_list s ++ p.1) (passes_one w need p.0 q.0 p.2 q.2) ∙ ap (λ r. option_to_list q.0 ++ r) (all_one w needs p.1 q.1 p.3 q.3) ∙ sym q.4

passed_at : (w : Assignment) (needs : List Need) (sizes : List ℕ) (i : ℕ) (need : Need) → PassesAll w needs sizes → slice_get needs i ≡ Some need → (size : Option ℕ) × Passes w need size
passed_at w [] sizes i need p e = absurd (cc)
passed_at w (x ∷ needs) sizes zero need p e = (p.0, subst (λ n. Passes w n p.0) (same_Some x need e) p.2)
passed_at w (x ∷ needs) sizes (suc i) need p e = passed_at w needs p.1 i need p.3 e

pub all_not : (w : Assignment) (needs : List Need) (sizes : List ℕ) (e : CheckFault) → PassesAll w needs sizes → IsFirstRefusal w needs e → ⊥
all_not w needs sizes e p r =
    let at = passed_at w needs sizes r.number r.need p r.stands in
    passes_not w r.need at.0 r.number e at.1 r.refused

pub refusal_one : (w : Assignment) (needs : List Need) (e f : CheckFault) → IsFirstRefusal w needs e → IsFirstRefusal w needs f → e ≡ f
refusal_one w needs e f p q =
    elim (cases_order p.number q.number) [
      | inl same ↦
          let one : p.need ≡ q.need = same_Some p.need q.need (sym p.stands ∙ ap (slice_get needs) same ∙ q.stands) in
          refuses_one w q.need q.number e f (subst (λ n. RefusesNeed w n q.need e) same (subst (λ x. RefusesNeed w p.number x e) one p.refused)) q.refused
      | inr (inl less) ↦ (let at = q.before p.number p.need less p.stands in absurd (passes_not w p.need at.0 p.number e at.1 p.refused))
      | inr (inr more) ↦ (let at = p.before q.number q.need more q.stands in absurd (passes_not w q.need at.0 q.number f at.1 q.refused))
    ]

-- where all needs are met within the limits no need is refused
held_not : (w : Assignment) (need : Need) (number : ℕ) (e : CheckFault) → IsWithinLimits w need → Meets w need → RefusesNeed w number need e → ⊥
held_not w (Equal s t) number e within met (inl l) = within_limit w s t within.0 within.1 number e within.2 l
held_not w (Equal s t) number e within met (inr d) =
    let here = d.3.2 in
    here.differs (d.2.first.is.on d.3.0 here.instant ∙ met d.3.0 here.instant ∙ sym (d.2.second.is.on d.3.0 here.instant))
held_not w (Adapt s t) number e within met (inl l) = within_limit w s t within.0 within.1 number e within.2 l
held_not w (Adapt s t) number e within met (inr d) =
    let is : IsAdaptable d.0 d.1 = met_adaptable w s t d.0 d.1 d.2 met in
    elim d.3 [
      | inl r ↦ r.1 is.0
      | inr r ↦ (let late : ones_to d.0 r.0 < ones_to d.1 r.0 = r.2.1.late in omega (arith, is.1 r.0))
    ]

pub all_held : (w : Assignment) (needs : List Need) (e : CheckFault) → MeetsAll w needs → AllWithinLimits w needs → IsFirstRefusal w needs e → ⊥
all_held w needs e met within r =
    held_not w r.need r.number e (all_at (IsWithinLimits w) needs r.number r.need within r.stands) (all_at (Meets w) needs r.number r.need met r.stands) r.refused
