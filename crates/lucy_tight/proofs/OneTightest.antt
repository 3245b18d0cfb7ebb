-- Within a shape a buffer has one least size, with one answer but for the cycle, or passes one limit.
use Rattle.std.proofs.Common.{◌≡◌, ℕ, ◌+◌, ◌-◌, ◌<◌, length, List, inl, inr, sym, ap, ◌∙◌, subst, arith}
use Rattle.std.proofs.lemmas.List.{ext_get_or}
use Rattle.std.proofs.lemmas.List.Elements.{All-from_recursion}
use Rattle.lucy_word.specs.Bits.{Bits, IsWord, most_bits}
use Rattle.lucy_word.specs.Always.{always}
use Rattle.lucy_word.specs.Shortest.{IsShortest}
use Rattle.lucy_word.proofs.BitsLaws.{period_some}
use Rattle.lucy_word.proofs.ShortLaws.{shortest_one}
use Rattle.lucy_need.specs.Meeting.{Assignment, assigned, word_bits}
use Rattle.lucy_need.specs.declared.need.Needs.{Needs}
use Rattle.lucy_solve.specs.System.{DifferenceSystem}
use Rattle.lucy_shape.specs.declared.shape.Shape.{Shape}
use Rattle.lucy_shape.specs.Index.{index_of}
use Rattle.lucy_shape.specs.Fitting.{clock_at}
use Rattle.lucy_shape.specs.Sized.{sized_system}
use Rattle.lucy_inference.specs.Inference.{HasLongClock}
use Rattle.lucy_inference.proofs.OneAnswer.{same_by_places}
use Rattle.lucy_tight.specs.declared.answer.TightError.{TightError}
use Rattle.lucy_tight.specs.declared.answer.TightError.TheVariants.{Fixed, Limit as LimitPassed, OutOfMemory}
use Rattle.lucy_tight.specs.Tightening.{IsTightestAssignment, AreTightestWords, AreTight, PassesLimit}

-- there is one least size
pub least_once : (needs : Needs) (shape : Shape) (from to one two : ℕ) (v w : Assignment) → IsTightestAssignment needs shape from to one v → IsTightestAssignment needs shape from to two w → one ≡ two
least_once needs shape from to one two v w first second = omega (arith, first.smallest two w second.is, second.smallest one v first.is)

module _ (needs : Needs) (shape : Shape) (from to : ℕ) (clocks : length shape.clocks ≡ needs.clocks) where
  -- at which the earliest have their ones at the same places
  places_once : (one two : ℕ) (v w : Assignment) → IsTightestAssignment needs shape from to one v → IsTightestAssignment needs shape from to two w →
      (clock number : ℕ) → clock < needs.clocks → index_of (v clock) number ≡ index_of (w clock) number
  places_once one two v w first second clock number within =
      let at : IsTightestAssignment needs shape from to two v = subst (λ n. IsTightestAssignment needs shape from to n v) (least_once needs shape from to one two v w first second) first in
      omega (arith, at.earliest w second.is clock number within, second.earliest v at.is clock number within)

  -- so one of them has a long word where the other has
  long_once : (one two : ℕ) (v w : Assignment) → IsTightestAssignment needs shape from to one v → IsTightestAssignment needs shape from to two w →
      HasLongClock shape v → HasLongClock shape w
  long_once one two v w first second long =
      let within : long.0 < needs.clocks = subst (λ n. long.0 < n) clocks long.1.0 in
      let e = places_once one two v w first second long.0 ((clock_at shape.clocks long.0).lead + 1) within in
      (long.0, long.1, subst (λ n. most_bits < n - 1 + shape.period) e long.2)

  -- and the words are equal
  words_once : (one two : ℕ) (xs ys : List Bits) → AreTightestWords needs shape from to one xs → AreTightestWords needs shape from to two ys → xs ≡ ys
  words_once one two xs ys first second =
      ext_get_or always xs ys (first.count ∙ sym second.count) (λ c h.
      let within : c < needs.clocks = subst (λ n. c < n) first.count h in
      let inside : c < length shape.clocks = subst (λ n. c < n) (sym clocks) within in
      let is_x : IsWord (assigned xs c) = first.tightest.is.is.fits.words c inside in
      let is_y : IsWord (assigned ys c) = second.tightest.is.is.fits.words c inside in
      let short_x : IsShortest (assigned xs c) = All-from_recursion IsShortest xs first.shortest c always h in
      let short_y : IsShortest (assigned ys c) = All-from_recursion IsShortest ys second.shortest c always (omega (arith, first.count, second.count)) in
      shortest_one (assigned xs c) (assigned ys c) short_x short_y (period_some (assigned xs c) is_x) (period_some (assigned ys c) is_y)
      (same_by_places (assigned xs c) (assigned ys c) is_x is_y (λ k. places_once one two (assigned xs) (assigned ys) first.tightest second.tightest c k within)))

  pub alike : (l m : ℕ) (ws vs : List Bits) (d e : DifferenceSystem) (xs ys : List ℕ) → AreTight needs shape from to l ws d xs → AreTight needs shape from to m vs e ys →
      (l ≡ m) × (ws ≡ vs) × (d ≡ e)
  alike l m ws vs d e xs ys first second =
      let same = least_once needs shape from to l m (assigned ws) (assigned vs) first.are.tightest second.are.tightest in
      (same, words_once l m ws vs first.are second.are, first.less ∙ ap (λ n. sized_system needs shape from to (n - 1)) same ∙ sym second.less)

  -- an answer passes no limit
  pub kept : (l : ℕ) (ws : List Bits) (d : DifferenceSystem) (xs : List ℕ) (e : TightError) → AreTight needs shape from to l ws d xs → PassesLimit needs shape from to e → ⊥
  kept l ws d xs OutOfMemory is passed = passed
  kept l ws d xs (Fixed size) is passed = passed
  kept l ws d xs (LimitPassed k) is (inl many) = is.few many.1
  kept l ws d xs (LimitPassed k) is (inr (few, m, inl (e, w, at, long))) = is.short (long_once m l w (assigned ws) at is.are.tightest long)
  kept l ws d xs (LimitPassed k) is (inr (few, m, inr (e, vs, at, short, many))) =
      let same = ap word_bits (words_once m l vs ws at is.are) in
      let bits = is.bits in
      omega arith

  pub only : (e f : TightError) → PassesLimit needs shape from to e → PassesLimit needs shape from to f → e ≡ f
  only OutOfMemory f p q = absurd p
  only (Fixed size) f p q = absurd p
  only (LimitPassed l) OutOfMemory p q = absurd q
  only (LimitPassed l) (Fixed size) p q = absurd q
  only (LimitPassed l) (LimitPassed k) (inl p) (inl q) = ap LimitPassed (p.0 ∙ sym q.0)
  only (LimitPassed l) (LimitPassed k) (inl p) (inr q) = absurd (q.0 p.1)
  only (LimitPassed l) (LimitPassed k) (inr p) (inl q) = absurd (p.0 q.1)
  only (LimitPassed l) (LimitPassed k) (inr (few, m, inl p)) (inr (also, n, inl q)) = ap LimitPassed (p.0 ∙ sym q.0)
  only (LimitPassed l) (LimitPassed k) (inr (few, m, inl (e, w, at, long))) (inr (also, n, inr (f, vs, are, short, many))) =
      absurd (short (long_once m n w (assigned vs) at are.tightest long))
  only (LimitPassed l) (LimitPassed k) (inr (few, m, inr (f, vs, are, short, many))) (inr (also, n, inl (e, w, at, long))) =
      absurd (short (long_once n m w (assigned vs) at are.tightest long))
  only (LimitPassed l) (LimitPassed k) (inr (few, m, inr p)) (inr (also, n, inr q)) = ap LimitPassed (p.0 ∙ sym q.0)
