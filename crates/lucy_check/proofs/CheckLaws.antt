-- Laws of passing needs.
use Rattle.std.proofs.Common.{ℕ, ◌+◌, ◌<◌, ◌≤◌, ◌≡◌, ◌∷◌, ◌++◌, [], List, Option, Some, Result, length, get_or, drop, ap, sym, refl, ◌∙◌, subst, inl, inr, arith, append_assoc}
use Rattle.std.specs.Prelude.{slice_get, option_to_list, MatchResult, IsErrAnd}
use Rattle.std.proofs.lemmas.Bool.{cases_lt}
use Rattle.std.proofs.lemmas.Result.{err_from_is_err_and}
use Rattle.std.proofs.lemmas.Option.{same_Some, slice_get_read, get_or_from_slice_get}
use Rattle.std.proofs.lemmas.List.{drop_all, append-nil}
use Rattle.lucy_word.specs.Bits.{Bits, ones_to}
use Rattle.lucy_word.specs.Sampling.{IsOn, IsOnTooLong}
use Rattle.lucy_word.specs.Adaptable.{IsAdaptable}
use Rattle.lucy_need.specs.declared.need.Term.{Term}
use Rattle.lucy_need.specs.declared.need.Need.{Need}
use Rattle.lucy_need.specs.declared.need.Need.TheVariants.{Equal, Adapt}
use Rattle.lucy_need.specs.Meeting.{Assignment, first_of, second_of, IsWithin, Meets, MeetsAll, assigned}
use Rattle.lucy_word.specs.Stored.{IsStored}
use Rattle.lucy_word.specs.Always.{always}
use Rattle.lucy_word.proofs.AdaptableLaws.{adaptable_same}
use Rattle.lucy_word.proofs.Multiples.{lcm_one}
use Rattle.lucy_word.proofs.Lists.{drop_next, all_at}
use Rattle.lucy_check.specs.Horizon.{AreDecidedBy}
use Rattle.lucy_check.specs.declared.fault.CheckFault.{CheckFault}
use Rattle.lucy_check.specs.Passing.{IsTermPassing, AreWithinLimits, OrNoMemory, PassesTermLimit, Passes, RefusesNeed, PassesAll, IsWithinLimits, AllWithinLimits, IsFirstRefusal, IsBeyond}

-- the error of a call goes out of the function by `?`
pub leaves_match : {T : Type 0} (R : T → Type 0) (P Q : CheckFault → Type 0) (e : CheckFault) (r : Result T CheckFault) →
    IsErrAnd r (λ y. y ≡ e) → P e → ((y : CheckFault) → P y → Q y) → MatchResult r R Q
leaves_match R P Q e r i h f =
    let p = err_from_is_err_and r i in
    rw (p.1, p.2) (f e h)

-- the word of a clock, as it stands in the list
pub picked : (words : List Bits) (clock : ℕ) (a : Bits) → clock < length words → a ≡ get_or words clock a → a ≡ assigned words clock
picked words clock a h e = sym (get_or_from_slice_get words clock a always (slice_get_read words (length words) clock a refl h e))

pub passing : (w : Assignment) (t : Term) (a word : Bits) → a ≡ w t.clock → IsOn a t.word word → IsStored word → (IsOnTooLong a t.word → ⊥) → IsTermPassing w t word
passing w t a word e on stored within = record {
  is = record { is_word = stored.word; on = subst (λ b. IsOn b t.word word) e on };
  shortest = stored.shortest;
  within = subst (λ b. IsOnTooLong b t.word → ⊥) e within;
}

-- two words have one horizon
pub horizon_one : (a b : Bits) (m n : ℕ) → AreDecidedBy a b m → AreDecidedBy a b n → m ≡ n
horizon_one a b m n h k = omega (arith, h.2, k.2, lcm_one (length a.period) (length b.period) h.0 k.0 h.1 k.1)

-- the clocks of a need's terms
pub both_within : (n : ℕ) (need : Need) → IsWithin n need → ((first_of need).clock < n) × ((second_of need).clock < n)
both_within n (Equal s t) h = h
both_within n (Adapt s t) h = h

-- what is known of its terms
pub of_terms : (w : Assignment) (need : Need) (s t : Term) (a b : Bits) → s ≡ first_of need → t ≡ second_of need → AreWithinLimits w s t a b → AreWithinLimits w (first_of need) (second_of need) a b
of_terms w need s t a b e f h =
    subst (λ (x : Term). AreWithinLimits w x (second_of need) a b) e (subst (λ (x : Term). AreWithinLimits w s x a b) f h)

pub limit_refuses : (w : Assignment) (number : ℕ) (need : Need) (e : CheckFault) → PassesTermLimit w (first_of need) (second_of need) number e → RefusesNeed w number need e
limit_refuses w number (Equal s t) e h = inl h
limit_refuses w number (Adapt s t) e h = inl h

-- a need that is passed is met
pub passes_meets : (w : Assignment) (need : Need) (size : Option ℕ) → Passes w need size → Meets w need
passes_meets w (Equal s t) size p = λ i h. sym (p.2.first.is.on i h) ∙ p.3 i h ∙ p.2.second.is.on i h
passes_meets w (Adapt s t) size p = record { first = p.0; second = p.1; of_first = p.2.first.is; of_second = p.2.second.is; adaptable = p.4.0 }

pub passes_all : (w : Assignment) (needs : List Need) (sizes : List ℕ) → PassesAll w needs sizes → MeetsAll w needs
passes_all w [] sizes p = tt
passes_all w (need ∷ needs) sizes p = (passes_meets w need p.0 p.2, passes_all w needs p.1 p.3)

-- and no limit is passed at it
passes_within : (w : Assignment) (need : Need) (size : Option ℕ) → Passes w need size → IsWithinLimits w need
passes_within w (Equal s t) size p = (p.0, p.1, p.2)
passes_within w (Adapt s t) size p = (p.0, p.1, p.2)

-- needs that words pass are within the limits
pub all_within : (w : Assignment) (needs : List Need) (sizes : List ℕ) → PassesAll w needs sizes → AllWithinLimits w needs
all_within w [] sizes p = tt
all_within w (need ∷ needs) sizes p = (passes_within w need p.0 p.2, all_within w needs p.1 p.3)

-- a refusal of a need that is met is one of a limit
limit_beyond : (w : Assignment) (s t : Term) (number : ℕ) (e : CheckFault) → PassesTermLimit w s t number e → IsBeyond e
limit_beyond w s t number e (inl (inl p)) = subst IsBeyond (sym p.0) tt
limit_beyond w s t number e (inl (inr p)) = subst IsBeyond (sym p.0) tt
limit_beyond w s t number e (inr p) = subst IsBeyond (sym p.0) tt

pub met_adaptable : (w : Assignment) (s t : Term) (a b : Bits) → AreWithinLimits w s t a b → Meets w (Adapt s t) → IsAdaptable a b
met_adaptable w s t a b within met =
    adaptable_same met.first met.second a b met.of_first.is_word met.of_second.is_word
    (λ i h. met.of_first.on i h ∙ sym (within.first.is.on i h)) (λ i h. met.of_second.on i h ∙ sym (within.second.is.on i h)) met.adaptable

pub refuses_beyond : (w : Assignment) (number : ℕ) (need : Need) (e : CheckFault) → RefusesNeed w number need e → Meets w need → IsBeyond e
refuses_beyond w number (Equal s t) e (inl p) met = limit_beyond w s t number e p
refuses_beyond w number (Equal s t) e (inr d) met =
    let at : ℕ = d.3.0 in
    let here = d.3.2 in
    absurd (here.differs (d.2.first.is.on at here.instant ∙ met at here.instant ∙ sym (d.2.second.is.on at here.instant)))
refuses_beyond w number (Adapt s t) e (inl p) met = limit_beyond w s t number e p
refuses_beyond w number (Adapt s t) e (inr d) met =
    let is : IsAdaptable d.0 d.1 = met_adaptable w s t d.0 d.1 d.2 met in
    elim d.3 [
      | inl r ↦ absurd (r.1 is.0)
      | inr r ↦ (let late : ones_to d.0 r.0 < ones_to d.1 r.0 = r.2.1.late in absurd (omega (arith, is.1 r.0)))
    ]

pub unmet : (w : Assignment) (needs : List Need) (e : CheckFault) → OrNoMemory (IsFirstRefusal w needs) e → MeetsAll w needs → IsBeyond e
unmet w needs e (inl p) met = subst IsBeyond (sym p) tt
unmet w needs e (inr r) met = refuses_beyond w r.number r.need e r.refused (all_at (Meets w) needs r.number r.need met r.stands)

-- the needs before a number are passed, and whatever the others give stands behind
pub record PassesSoFar (w : Assignment) (needs : List Need) (i : ℕ) (sizes : List ℕ) : Type 0 where
  pub rest : (more : List ℕ) → PassesAll w (drop i needs) more → PassesAll w needs (sizes ++ more)
  pub before : (k : ℕ) (earlier : Need) → k < i → slice_get needs k ≡ Some earlier → (size : Option ℕ) × Passes w earlier size

pub so_far_none : (w : Assignment) (needs : List Need) (sizes : List ℕ) → sizes ≡ [] → PassesSoFar w needs 0 sizes
so_far_none w needs sizes e = record {
  rest = λ more p. subst (λ l. PassesAll w needs (l ++ more)) (sym e) p;
  before = λ k earlier h f. absurd (omega arith);
}

pub so_far_more : (w : Assignment) (needs : List Need) (i : ℕ) (sizes more : List ℕ) (need : Need) (size : Option ℕ) → PassesSoFar w needs i sizes → i < length needs → need ≡ get_or needs i need →
    Passes w need size → more ≡ sizes ++ option_to_list size → PassesSoFar w needs (i + 1) more
so_far_more w needs i sizes more need size far h e p f = record {
  rest = λ rest q.
      let here : PassesAll w (drop i needs) (option_to_list size ++ rest) = subst (λ l. PassesAll w l (option_to_list size ++ rest)) (sym (drop_next needs i need h e)) (size, rest, p, q, refl) in
      subst (PassesAll w needs) (sym (append_assoc sizes (option_to_list size) rest) ∙ ap (λ l. l ++ rest) (sym f)) (far.rest (option_to_list size ++ rest) here);
  before = λ k earlier l g. elim (cases_lt k i) [
    | inl less ↦ far.before k earlier less g
    | inr not ↦
        let same : k ≡ i = omega arith in
        let there : slice_get needs i ≡ Some need = slice_get_read needs (length needs) i need refl h e in
        let one : need ≡ earlier = same_Some need earlier (sym there ∙ ap (slice_get needs) (sym same) ∙ g) in
        (size, subst (λ n. Passes w n size) one p)
  ];
}

pub so_far_all : (w : Assignment) (needs : List Need) (i : ℕ) (sizes : List ℕ) → PassesSoFar w needs i sizes → length needs ≤ i → PassesAll w needs sizes
so_far_all w needs i sizes far h =
    let none : drop i needs ≡ [] = drop_all i needs h in
    subst (PassesAll w needs) (append-nil sizes) (far.rest [] (subst (λ l. PassesAll w l []) (sym none) refl))

pub first_refusal : (w : Assignment) (needs : List Need) (i : ℕ) (sizes : List ℕ) (need : Need) (e : CheckFault) → PassesSoFar w needs i sizes → i < length needs → need ≡ get_or needs i need →
    OrNoMemory (RefusesNeed w i need) e → OrNoMemory (IsFirstRefusal w needs) e
first_refusal w needs i sizes need e far h f (inl p) = inl p
first_refusal w needs i sizes need e far h f (inr r) = inr (record {
  number = i;
  need = need;
  stands = slice_get_read needs (length needs) i need refl h f;
  refused = r;
  before = far.before;
})
