-- The lists of numbers as they are read on the way to a shape.
use Rattle.std.proofs.Common.{◌≡◌, ℕ, ◌+◌, ◌*◌, ◌^◌, ◌<◌, ◌≤◌, ◌↔◌, Bool, true, List, length, sym, ap, ◌∙◌, subst, arith}
use Rattle.std.specs.Prelude.{slice_index}
use Rattle.std.specs.List.{AllByRecursion}
use Rattle.lucy_need.specs.Meeting.{AreProperNeeds}
use Rattle.lucy_need.specs.Stored.{HasWords}
use Rattle.lucy_need.specs.declared.need.Need.{Need}
use Rattle.lucy_need.specs.declared.need.Needs.{Needs}
use Rattle.lucy_shape.specs.declared.shape.ClockShape.{ClockShape}
use Rattle.lucy_shape.specs.Fitting.{variable_count, most_positions}
use Rattle.lucy_rates.specs.declared.fraction.Fraction.{Fraction}
use Rattle.lucy_rates.specs.Forests.{IsForest}
use Rattle.lucy_rates.specs.Vectors.{IsNamedBySome, IsShapeOf, IsTooWide}
use Rattle.lucy_rates.specs.Laying.{AreFactors, HasLargeFactor, AreNumbers, AreTops, HaveOnes, HaveLargeCommon, AreCounted, most_ones, AreShapes}
use Rattle.lucy_rates.proofs.Asking.{root_below}
use Rattle.lucy_rates.proofs.Factoring.{AreRated}
use Rattle.lucy_rates.proofs.Widening.{wide_by_factor}
use Rattle.lucy_rates.proofs.Composing.{AreFound, listed_some, listed_few, common_refused, found_shape, found_many}

-- a root is a clock
pub roots_within : (needs : List Need) (clocks : ℕ) (roots parents : List ℕ) (rates : List Fraction) → IsForest needs clocks roots parents rates → (copy : List ℕ) → copy ≡ roots → (c : ℕ) → c < length copy → slice_index copy c < length copy
roots_within needs clocks roots parents rates forest copy e = subst (λ (z : List ℕ). (c : ℕ) → c < length z → slice_index z c < length z) (sym e)
    (λ c l. (let s = forest.roots_size in let r = root_below needs clocks roots parents rates forest c (omega arith) in omega arith))

module _ (needs : Needs) (roots parents : List ℕ) (rates : List Fraction) (rated : AreRated needs roots parents rates) (list : List Need) (same : list ≡ needs.list) where
  pub factor_refused : (scale lead : ℕ) → AreProperNeeds needs → AllByRecursion HasWords needs.list → 0 < scale → scale ≤ 64 → HasLargeFactor list roots rates → IsTooWide needs scale lead
  factor_refused scale lead proper words low high large = wide_by_factor needs roots parents rates rated scale lead proper words low high (subst (λ (z : List Need). HasLargeFactor z roots rates) same large)

  -- with copies of the roots and of the numbers
  module _ (vector : List ℕ) (numbers : AreNumbers list roots rates vector) (copy copy' : List ℕ) (e : copy ≡ roots) (f : copy' ≡ vector) where
    found : AreFound needs roots rates numbers.factors vector
    found = record {
      are_factors = subst (λ (z : List Need). AreFactors z roots rates (length z) numbers.factors) same numbers.are_factors;
      are_multiplied = numbers.are_multiplied;
    }

    pub sizes : length copy' ≡ length copy
    sizes = ap length f ∙ numbers.are_multiplied.size ∙ sym (ap length e)

    pub numbers_few : (c : ℕ) → c < length copy → slice_index copy' c ≤ 2 ^ 32
    numbers_few c l = subst (λ (y : List ℕ). slice_index y c ≤ 2 ^ 32) (sym f) (numbers.are_multiplied.few c (let s = ap length e in omega arith))

    pub tops_have_ones : (tops : List ℕ) → AreTops copy copy' (length copy) tops → HaveOnes copy tops
    tops_have_ones = subst (λ (y : List ℕ). (tops : List ℕ) → AreTops copy y (length copy) tops → HaveOnes copy tops) (sym f) (subst (λ (z : List ℕ). (tops : List ℕ) → AreTops z vector (length z) tops → HaveOnes z tops) (sym e)
        (λ tops are. record {
          some = λ c l. listed_some needs roots parents rates rated numbers.factors vector found tops are c (let s = rated.forest.roots_size in omega arith);
          few = λ c l. listed_few needs roots parents rates rated numbers.factors vector found tops are c (let s = rated.forest.roots_size in omega arith);
        }))

    module _ (b : Bool) (tells : b ≡ true ↔ IsNamedBySome list 0) (scale lead : ℕ) (proper : AreProperNeeds needs) (words : AllByRecursion HasWords needs.list) (low : 0 < scale) (high : scale ≤ 64) where
      named : b ≡ true ↔ IsNamedBySome needs.list 0
      named = subst (λ (z : List Need). (b ≡ true ↔ IsNamedBySome z 0)) same tells

      pub period_refused : HaveLargeCommon b copy copy' → IsTooWide needs scale lead
      period_refused large =
          let h : HaveLargeCommon b roots vector = subst (λ (z : List ℕ). HaveLargeCommon b z vector) e (subst (HaveLargeCommon b copy) f large) in
          common_refused needs roots parents rates rated numbers.factors vector found h.0 h.1 b named scale lead proper words low high h.2

      -- and of the ones
      module _ (period : ℕ) (ones ones' : List ℕ) (g : ones' ≡ ones) (counted : AreCounted b copy copy' scale period ones) where
        is : AreCounted b roots vector scale period ones'
        is = subst (λ (z : List ℕ). AreCounted b z vector scale period ones') e
            (subst (λ (y : List ℕ). AreCounted b copy y scale period ones') f (subst (AreCounted b copy copy' scale period) (sym g) counted))

        pub ones_size : length ones' ≡ needs.clocks
        ones_size = is.are_ones.size ∙ rated.forest.roots_size

        pub ones_few : (c : ℕ) → c < length ones' → slice_index ones' c ≤ most_ones
        ones_few c l = is.are_ones.few c (let s = is.are_ones.size in omega arith)

        pub shape_found : (shapes result : List ClockShape) → AreShapes b lead needs ones' shapes → variable_count shapes ≤ 1 + most_positions → result ≡ shapes → IsShapeOf needs scale lead (record { period = period; clocks = result })
        shape_found shapes result s few e' =
            subst (λ (p : ℕ). IsShapeOf needs scale lead (record { period = p; clocks = result })) (sym is.period_is)
            (subst (λ (z : List ClockShape). IsShapeOf needs scale lead (record { period = scale * is.common; clocks = z })) (sym e')
            (found_shape needs roots parents rates rated numbers.factors vector found is.tops is.are_tops b named scale lead proper words low high is.common is.is_common.common ones' s.prefixes is.are_ones s.are_longest (length ones') ones_size shapes s.are few))

        pub shapes_refused : (shapes : List ClockShape) → AreShapes b lead needs ones' shapes → 1 + most_positions < variable_count shapes → IsTooWide needs scale lead
        shapes_refused shapes s many =
            found_many needs roots parents rates rated numbers.factors vector found is.tops is.are_tops b named scale lead proper words low high is.common is.is_common.common ones' s.prefixes is.are_ones s.are_longest (length ones') ones_size
            (subst (λ (z : List ClockShape). 1 + most_positions < variable_count z) s.are many)
