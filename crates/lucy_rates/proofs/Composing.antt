-- From the lists of numbers to the shape of needs.
use Rattle.std.proofs.Common.{◌≡◌, ℕ, ◌+◌, ◌*◌, ◌^◌, ◌<◌, ◌≤◌, ◌↔◌, Bool, true, List, length, inl, inr, sym, ap, ◌∙◌, subst, refl, arith}
use Rattle.std.specs.Prelude.{slice_index, slice_index_or}
use Rattle.std.specs.List.{AllByRecursion}
use Rattle.std.proofs.Math.Nat.{dvd_refl, dvd-mul_left}
use Rattle.std.proofs.lemmas.Nat.Gcd.{dvd_trans}
use Rattle.std.proofs.lemmas.List.{get_or_default, get_or_past}
use Rattle.std.proofs.lemmas.List.Elements.{All-from_recursion}
use Rattle.lucy_need.specs.Meeting.{AreProperNeeds, IsWithin}
use Rattle.lucy_need.specs.Stored.{HasWords}
use Rattle.lucy_need.specs.declared.need.Need.{Need}
use Rattle.lucy_need.specs.declared.need.Needs.{Needs}
use Rattle.lucy_shape.specs.declared.shape.ClockShape.{ClockShape}
use Rattle.lucy_shape.specs.Fitting.{variable_count, most_positions}
use Rattle.lucy_rates.specs.declared.fraction.Fraction.{Fraction}
use Rattle.lucy_rates.specs.Trees.{HasLargeRate}
use Rattle.lucy_rates.specs.Forests.{IsForest}
use Rattle.lucy_rates.specs.Vectors.{IsNamedBySome, IsInUse, AreBalanced, IsLeastVector, IsTop, IsWideShape, IsShapeOf, IsTooWide}
use Rattle.lucy_rates.specs.Laying.{AreFactors, AreMultiplied, top_to, AreTops, IsCommonTo, HasLargeCommon, AreLongest, AreOnes, laid_out}
use Rattle.lucy_rates.proofs.Factoring.{AreRated, least_vector, root_within}
use Rattle.lucy_rates.proofs.Topping.{is_top, top_some, top_reached, in_use}
use Rattle.lucy_rates.proofs.Widening.{ones_of, wide, wide_by_common}

-- no rate is large where all are in a forest
pub none_large : (needs : List Need) (clocks : ℕ) (roots parents : List ℕ) (rates : List Fraction) → IsForest needs clocks roots parents rates → HasLargeRate needs clocks → ⊥
none_large needs clocks roots parents rates forest (c, num, den, l, is, large) =
    let o = forest.only c num den l is in
    let f = forest.rate c l in
    let a = f.num_few in
    let b = f.den_few in
    let x = o.0 in
    let y = o.1 in
    elim large [ inl m ↦ absurd (omega arith) | inr m ↦ absurd (omega arith) ]

pub rated_from : (needs : Needs) (roots parents : List ℕ) (rates : List Fraction) → AreProperNeeds needs → AllByRecursion HasWords needs.list → IsForest needs.list needs.clocks roots parents rates → AreBalanced needs.list → AreRated needs roots parents rates
rated_from needs roots parents rates proper words forest balanced = record {
  within = All-from_recursion (IsWithin needs.clocks) needs.list proper.within;
  words = All-from_recursion HasWords needs.list words;
  forest = forest;
  balanced = balanced;
}

-- the numbers that are found on the way to a shape
pub record AreFound (needs : Needs) (roots : List ℕ) (rates : List Fraction) (factors vector : List ℕ) : Type 0 where
  pub are_factors : AreFactors needs.list roots rates (length needs.list) factors
  pub are_multiplied : AreMultiplied roots rates factors (length roots) vector

module _ (needs : Needs) (roots parents : List ℕ) (rates : List Fraction) (rated : AreRated needs roots parents rates) (factors vector : List ℕ) (found : AreFound needs roots rates factors vector) where
  sized : (c : ℕ) → c < needs.clocks → c < length roots
  sized c l = let e = rated.forest.roots_size in omega arith

  abbrev r : ℕ → ℕ
  r c = slice_index_or vector c 1

  same : (c : ℕ) → c < needs.clocks → slice_index vector c ≡ r c
  same c l = get_or_default vector c 0 1 (let e = found.are_multiplied.size in let m = sized c l in omega arith)

  least : IsLeastVector needs r
  least = least_vector needs roots parents rates rated (slice_index factors) (λ root l. found.are_factors.some root (sized root l)) (λ root n l. found.are_factors.exact root n (sized root l)) r
      (λ c l. sym (same c l) ∙ found.are_multiplied.each c (sized c l))
      (λ c l. get_or_past vector c 1 (let e = found.are_multiplied.size in let m = rated.forest.roots_size in omega arith))

  module _ (tops : List ℕ) (are : AreTops roots vector (length roots) tops) where
    top_is : (c : ℕ) → c < needs.clocks → slice_index tops (slice_index roots c) ≡ top_to roots (slice_index vector) (slice_index roots c) needs.clocks
    top_is c l = are.each (slice_index roots c) (sized _ (root_within needs roots parents rates rated c l)) ∙ ap (λ z. top_to roots (slice_index vector) (slice_index roots c) z) rated.forest.roots_size

    pub listed_top : (c : ℕ) → c < needs.clocks → IsTop needs r c (slice_index tops (slice_index roots c))
    listed_top c l = subst (IsTop needs r c) (sym (top_is c l)) (is_top needs roots parents rates rated r (slice_index vector) same least.is.some c l)

    pub listed_some : (c : ℕ) → c < needs.clocks → 0 < slice_index tops (slice_index roots c)
    listed_some c l = let e = top_is c l in let f = top_some needs roots parents rates rated r (slice_index vector) same least.is.some c l in omega arith

    pub listed_few : (c : ℕ) → c < needs.clocks → slice_index tops (slice_index roots c) ≤ 2 ^ 32
    listed_few c l =
        let e = top_is c l in
        let x = top_reached roots (slice_index vector) (slice_index roots c) needs.clocks (top_some needs roots parents rates rated r (slice_index vector) same least.is.some c l) in
        let m = found.are_multiplied.few x.0 (sized x.0 x.1) in
        let y = x.3 in
        omega arith

    module _ (b : Bool) (tells : b ≡ true ↔ IsNamedBySome needs.list 0) (scale lead : ℕ) (proper : AreProperNeeds needs) (words : AllByRecursion HasWords needs.list) (low : 0 < scale) (high : scale ≤ 64) where
      pub common_refused : HasLargeCommon b (λ c. slice_index tops (slice_index roots c)) (length roots) → IsTooWide needs scale lead
      common_refused large = wide_by_common needs roots parents rates rated scale lead proper words low high r least (λ c. slice_index tops (slice_index roots c)) listed_top listed_some b tells
          (subst (λ (z : ℕ). HasLargeCommon b (λ c. slice_index tops (slice_index roots c)) z) rated.forest.roots_size large)

      module _ (common : ℕ) (is : IsCommonTo b (λ c. slice_index tops (slice_index roots c)) (length roots) common) (ones prefixes : List ℕ) (are_ones : AreOnes roots vector tops (scale * common) (length roots) ones)
          (longest : AreLongest needs.list needs.clocks (length needs.list) prefixes) where
        common_is : IsCommonTo b (λ c. slice_index tops (slice_index roots c)) needs.clocks common
        common_is = subst (λ (z : ℕ). IsCommonTo b (λ c. slice_index tops (slice_index roots c)) z common) rated.forest.roots_size is

        ones_are : (c : ℕ) → IsInUse needs c → slice_index ones c * slice_index tops (slice_index roots c) ≡ r c * (scale * common)
        ones_are c u =
            let d = dvd_trans (slice_index tops (slice_index roots c)) ((common_is.exact common).0 (dvd_refl common) c u.0 ((in_use needs b c tells u.0).1 u)) (dvd-mul_left common scale) in
            ap (λ z. z * slice_index tops (slice_index roots c)) (are_ones.each c (sized c u.0))
            ∙ ones_of (slice_index vector c) (slice_index tops (slice_index roots c)) (scale * common) d ∙ ap (λ z. z * (scale * common)) (same c u.0)

        pub found_wide : IsWideShape needs scale lead (record { period = scale * common; clocks = laid_out b lead (slice_index ones) (slice_index prefixes) needs.clocks })
        found_wide = wide needs scale lead r least (λ c. slice_index tops (slice_index roots c)) listed_top b tells common common_is (slice_index ones) (slice_index prefixes) ones_are (λ c l. longest.each c l)

        found_all : (clocks : ℕ) → clocks ≡ needs.clocks → (list : List ClockShape) → list ≡ laid_out b lead (slice_index ones) (slice_index prefixes) clocks → IsWideShape needs scale lead (record { period = scale * common; clocks = list })
        found_all clocks e list f = subst (λ (z : List ClockShape). IsWideShape needs scale lead (record { period = scale * common; clocks = z })) (sym (f ∙ ap (λ z. laid_out b lead (slice_index ones) (slice_index prefixes) z) e)) found_wide

        pub found_shape : (clocks : ℕ) → clocks ≡ needs.clocks → (list : List ClockShape) → list ≡ laid_out b lead (slice_index ones) (slice_index prefixes) clocks → variable_count list ≤ 1 + most_positions → IsShapeOf needs scale lead (record { period = scale * common; clocks = list })
        found_shape clocks e list f few = record {
          small = none_large needs.list needs.clocks roots parents rates rated.forest;
          balanced = rated.balanced;
          wide = found_all clocks e list f;
          few = few;
        }

        pub found_many : (clocks : ℕ) → clocks ≡ needs.clocks → 1 + most_positions < variable_count (laid_out b lead (slice_index ones) (slice_index prefixes) clocks) → IsTooWide needs scale lead
        found_many clocks e many = (record { period = scale * common; clocks = laid_out b lead (slice_index ones) (slice_index prefixes) clocks }, found_all clocks e (laid_out b lead (slice_index ones) (slice_index prefixes) clocks) refl, many)
