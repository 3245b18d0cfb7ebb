-- Between two clocks of a shape there is one least size, with one answer but for the cycle, or one reason why it isn't told.
use Rattle.std.proofs.Common.{◌≡◌, ℕ, List, ℤ, pos, inl, inr, sym, ap, ◌∙◌, subst, arith}
use Rattle.std.proofs.lemmas.Int.{ints}
use Rattle.std.proofs.lemmas.Bool.{cases_Bool}
use Rattle.std.proofs.lemmas.List.{ext_get_or}
use Rattle.lucy_word.specs.Bits.{Bits}
use Rattle.lucy_word.specs.Always.{always}
use Rattle.lucy_word.specs.declared.limit.Limit.{Limit}
use Rattle.lucy_word.proofs.ShortLaws.{short_form_one}
use Rattle.lucy_need.specs.Meeting.{assigned, word_bits}
use Rattle.lucy_need.specs.declared.need.Needs.{Needs}
use Rattle.lucy_solve.specs.System.{DifferenceSystem, IsEarliest}
use Rattle.lucy_shape.specs.declared.shape.Shape.{Shape}
use Rattle.lucy_shape.specs.declared.shape.RateFault.TheVariants as fault
use Rattle.lucy_shape.specs.Fitting.{clock_at}
use Rattle.lucy_shape.specs.Sized.{sized_system}
use Rattle.lucy_shape.specs.WordOf.{written_word}
use Rattle.lucy_shape.specs.Writing.{AreWordsOf, AreAnswered, AreRefused}
use Rattle.lucy_tight.specs.declared.answer.TightError.{TightError}
use Rattle.lucy_tight.specs.declared.answer.TightError.TheVariants.{Fixed, Limit as LimitPassed, OutOfMemory}
use Rattle.lucy_tight.specs.Least.{IsEarliestAtLeast, RefusesTightest}
use Rattle.lucy_tight.proofs.SizeLaws.{least_one}

-- a system has one earliest solution
earliest_one : (s : DifferenceSystem) (xs ys : List ℤ) → IsEarliest s xs → IsEarliest s ys → xs ≡ ys
earliest_one s xs ys first second =
    ext_get_or (pos 0) xs ys (first.solves.size ∙ sym second.solves.size) (λ v l.
    let a = first.least ys second.solves v in
    let b = second.least xs first.solves v in
    omega (arith, ints))

-- positions have one list of words
words_one : (shape : Shape) (xs : List ℤ) (one two : List Bits) → AreWordsOf shape xs one → AreWordsOf shape xs two → one ≡ two
words_one shape xs one two first second =
    ext_get_or always one two (first.size ∙ sym second.size) (λ c l.
    let a = first.each c l in
    let b = second.each c (omega (arith, first.size, second.size)) in
    elim (cases_Bool (clock_at shape.clocks c).used) [
      | inl used ↦ short_form_one (written_word shape.period (clock_at shape.clocks c) xs) (assigned one c) (assigned two c) (a.used used) (b.used used)
      | inr none ↦ short_form_one always (assigned one c) (assigned two c) (a.unused none) (b.unused none)
    ])

module _ (needs : Needs) (shape : Shape) (from to : ℕ) where
  positions_one : (one two : ℕ) (xs ys : List ℤ) → IsEarliestAtLeast needs shape from to one xs → IsEarliestAtLeast needs shape from to two ys → xs ≡ ys
  positions_one one two xs ys first second =
      let e = least_one needs shape from to one two first.is second.is in
      earliest_one (sized_system needs shape from to two) xs ys (subst (λ n. IsEarliest (sized_system needs shape from to n) xs) e first.earliest) second.earliest

  -- words that are answered pass no limit
  answered_kept : (xs : List ℤ) (words : List Bits) (l : Limit) → AreAnswered shape xs words → AreRefused shape xs (fault.Limit l) → ⊥
  answered_kept xs words l answered (inl e) = absurd (cc)
  answered_kept xs words l answered (inr (inl long)) = answered.short long.1
  answered_kept xs words l answered (inr (inr many)) =
      let few = answered.few in
      let same = ap word_bits (words_one shape xs words many.2.0 answered.each many.2.1) in
      let more = many.2.2 in
      omega arith

  -- and the words of positions pass one limit
  refused_one : (xs : List ℤ) (l m : Limit) → AreRefused shape xs (fault.Limit l) → AreRefused shape xs (fault.Limit m) → l ≡ m
  refused_one xs l m (inl e) q = absurd (cc)
  refused_one xs l m (inr p) (inl e) = absurd (cc)
  refused_one xs l m (inr (inl p)) (inr (inl q)) = let a = p.0 in let b = q.0 in cc
  refused_one xs l m (inr (inl p)) (inr (inr q)) = absurd (q.1 p.1)
  refused_one xs l m (inr (inr p)) (inr (inl q)) = absurd (p.1 q.1)
  refused_one xs l m (inr (inr p)) (inr (inr q)) = let a = p.0 in let b = q.0 in cc

  pub answered_or_refused : (least : ℕ) (xs : List ℤ) (words : List Bits) (e : TightError) → IsEarliestAtLeast needs shape from to least xs → AreAnswered shape xs words → RefusesTightest needs shape from to e → ⊥
  answered_or_refused least xs words OutOfMemory at answered refused = refused
  answered_or_refused least xs words (Fixed size) at answered refused = refused
  answered_or_refused least xs words (LimitPassed l) at answered (inl p) = at.few p.1
  answered_or_refused least xs words (LimitPassed l) at answered (inr p) =
      let same = positions_one p.0 least p.1 xs p.2 at in
      answered_kept xs words l answered (subst (λ (ys : List ℤ). AreRefused shape ys (fault.Limit l)) same p.3)

  pub only : (e f : TightError) → RefusesTightest needs shape from to e → RefusesTightest needs shape from to f → e ≡ f
  only OutOfMemory f p q = absurd p
  only (Fixed size) f p q = absurd p
  only (LimitPassed l) OutOfMemory p q = absurd q
  only (LimitPassed l) (Fixed size) p q = absurd q
  only (LimitPassed l) (LimitPassed m) (inl p) (inl q) = ap LimitPassed (p.0 ∙ sym q.0)
  only (LimitPassed l) (LimitPassed m) (inl p) (inr q) = absurd (q.2.few p.1)
  only (LimitPassed l) (LimitPassed m) (inr p) (inl q) = absurd (p.2.few q.1)
  only (LimitPassed l) (LimitPassed m) (inr p) (inr q) =
      let same = positions_one p.0 q.0 p.1 q.1 p.2 q.2 in
      ap LimitPassed (refused_one q.1 l m (subst (λ (xs : List ℤ). AreRefused shape xs (fault.Limit l)) same p.3) q.3)
