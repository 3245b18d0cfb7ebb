-- A line grows by an inequality, and follows from those that it stands for.
use Rattle.std.proofs.Common.{neg_ℤ, inl, inr, ◌≡◌, ℕ, ◌+◌, ◌-◌, ◌*◌, ◌<◌, ℤ, pos, ◌+ℤ◌, ◌≤ℤ◌, List, [], ◌∷◌, ◌++◌, length, take, drop, get_or, zero, suc, sym, ap, ◌∙◌, subst, refl, arith}
use Rattle.std.specs.List.{fold}
use Rattle.std.proofs.lemmas.Int.{ints}
use Rattle.std.proofs.lemmas.Bool.{cases_lt}
use Rattle.std.proofs.lemmas.List.{take-append-drop}
use Rattle.std.proofs.lemmas.List.Sums.{fold-append}
use Rattle.lucy_solve.specs.declared.diffs.Diff.{Diff}
use Rattle.lucy_solve.specs.System.{DifferenceSystem, diff_at, no_diff, IsProper, IsSystem, value, constants, most_constant}
use Rattle.lucy_solve.proofs.Chains.{constants_more}
use Rattle.lucy_explain.specs.declared.line.Line.{Line}
use Rattle.lucy_explain.specs.Folds.{Folds, HoldsBetween, FollowsLaw, SumLaw}
use Rattle.lucy_explain.specs.Folded.{IsOfOneStream}

-- what a line knows that stands for the first k inequalities
pub record IsFolding (diffs : DifferenceSystem) (streams positions : List ℕ) (k : ℕ) (line : Line) : Type 0 where
  pub count : line.count ≡ k
  pub folds : Folds diffs.list positions line
  pub stream : IsOfOneStream streams diffs.list positions line
  pub low : neg_ℤ (pos (most_constant * k)) ≤ℤ line.most
  pub high : line.most ≤ℤ pos (most_constant * k)
  pub left : line.left < diffs.count
  pub right : line.right < diffs.count

pub folding_one : (s : DifferenceSystem) (streams positions : List ℕ) (d : Diff) (line : Line) → 0 < length positions → d ≡ diff_at s.list (get_or positions 0 0) → IsProper s.count d →
    line.left ≡ d.left → line.right ≡ d.right → line.most ≡ d.most → line.count ≡ 1 → IsFolding s streams positions 1 line
folding_one s streams positions d line some is proper left right most count =
    let low = proper.low in
    let high = proper.high in
    let in_left = proper.left in
    let in_right = proper.right in
    let first : take 1 positions ≡ take (0 + 1) positions = refl in
    let step = constants_more s.list positions 0 some in
    let none : constants s.list (take 0 positions) ≡ pos 0 = refl in
    let same : d.most ≡ (diff_at s.list (get_or positions 0 0)).most = ap (λ (d : Diff). d.most) is in
    let one : line.most ≡ constants s.list (take 1 positions) = omega (arith, ints) in
    record {
      count = count;
      folds = record {
        some = omega arith;
        within = omega arith;
        joined = λ k l. absurd (omega arith);
        left = left ∙ ap (λ (d : Diff). d.left) is;
        right = λ k l. let e : 0 ≡ k = omega arith in
            subst (λ (m : ℕ). line.right ≡ (diff_at s.list (get_or positions m 0)).right) e (right ∙ ap (λ (d : Diff). d.right) is);
        most = subst (λ (m : ℕ). line.most ≡ constants s.list (take m positions)) (sym count) one;
      };
      stream = λ several k l. absurd (omega arith);
      low = omega (arith, ints);
      high = omega (arith, ints);
      left = omega arith;
      right = omega arith;
    }

more_joined : (list : List Diff) (positions : List ℕ) (line : Line) → Folds list positions line → (d : Diff) → d ≡ diff_at list (get_or positions line.count 0) → line.right ≡ d.left →
    (k : ℕ) → k + 1 < line.count + 1 → (diff_at list (get_or positions k 0)).right ≡ (diff_at list (get_or positions (k + 1) 0)).left
more_joined list positions line f d is meets k l = elim (cases_lt (k + 1) line.count) [
  | inl m ↦ f.joined k m
  | inr m ↦ let same : k + 1 ≡ line.count = omega arith in
      let P : ℕ → Type 0 = λ m. (diff_at list (get_or positions k 0)).right ≡ (diff_at list (get_or positions m 0)).left in
      subst P (sym same) (sym (f.right k same) ∙ meets ∙ ap (λ (d : Diff). d.left) is)
]

-- the first inequality of a line that has several is within its stream, as the ones before are
more_stream : (list : List Diff) (streams positions : List ℕ) (line next : Line) → Folds list positions line → IsOfOneStream streams list positions line → (d : Diff) →
    d ≡ diff_at list (get_or positions line.count 0) → line.right ≡ d.left → get_or streams line.right 0 ≡ get_or streams line.left 0 → get_or streams d.right 0 ≡ get_or streams line.left 0 →
    next.left ≡ line.left → next.count ≡ line.count + 1 → IsOfOneStream streams list positions next
more_stream list streams positions line next f one d is meets within more left count several k l =
    let at : ℕ → ℕ = λ v. get_or streams v 0 in
    let to : at line.left ≡ at next.left = ap at (sym left) in
    elim (cases_lt k line.count) [
      | inl m ↦ elim (cases_lt 1 line.count) [
        | inl many ↦ let h = one many k m in (h.0 ∙ to, h.1 ∙ to)
        | inr single ↦ let zero_k : 0 ≡ k = omega arith in let only : k + 1 ≡ line.count = omega arith in
            let first : line.left ≡ (diff_at list (get_or positions k 0)).left = f.left ∙ ap (λ m. (diff_at list (get_or positions m 0)).left) zero_k in
            (ap at (sym first) ∙ to, ap at (sym (f.right k only)) ∙ within ∙ to)
      ]
      | inr m ↦ let last : line.count ≡ k = omega arith in
          let here : d ≡ diff_at list (get_or positions k 0) = is ∙ ap (λ m. diff_at list (get_or positions m 0)) last in
          (ap at (sym (meets ∙ ap (λ (d : Diff). d.left) here)) ∙ within ∙ to, ap at (sym (ap (λ (d : Diff). d.right) here)) ∙ more ∙ to)
    ]

pub folding_more : (s : DifferenceSystem) (streams positions : List ℕ) (k : ℕ) (line next : Line) (d : Diff) → IsFolding s streams positions k line → k < length positions → d ≡ diff_at s.list (get_or positions k 0) →
    IsProper s.count d → line.right ≡ d.left → get_or streams line.right 0 ≡ get_or streams line.left 0 → get_or streams d.right 0 ≡ get_or streams line.left 0 →
    next.left ≡ line.left → next.right ≡ d.right → next.most ≡ line.most +ℤ d.most → next.count ≡ line.count + 1 → IsFolding s streams positions (k + 1) next
folding_more s streams positions k line next d h l is proper meets within more left right most count =
    let counted = h.count in
    let here : d ≡ diff_at s.list (get_or positions line.count 0) = is ∙ ap (λ m. diff_at s.list (get_or positions m 0)) (sym counted) in
    let is_next : next.count ≡ k + 1 = omega arith in
    let f = h.folds in
    let low = proper.low in
    let high = proper.high in
    let low_h = h.low in
    let high_h = h.high in
    let in_left = h.left in
    let in_right = proper.right in
    let step = constants_more s.list positions k l in
    let same : d.most ≡ (diff_at s.list (get_or positions k 0)).most = ap (λ (d : Diff). d.most) is in
    let before : line.most ≡ constants s.list (take k positions) = subst (λ (m : ℕ). line.most ≡ constants s.list (take m positions)) counted f.most in
    let sum : next.most ≡ constants s.list (take (k + 1) positions) = omega (arith, ints) in
    record {
      count = is_next;
      folds = record {
        some = omega arith;
        within = omega arith;
        joined = λ j m. more_joined s.list positions line f d here meets j (omega arith);
        left = left ∙ f.left;
        right = λ j m. let e : k ≡ j = omega arith in
            subst (λ (m : ℕ). next.right ≡ (diff_at s.list (get_or positions m 0)).right) e (right ∙ ap (λ (d : Diff). d.right) is);
        most = subst (λ (m : ℕ). next.most ≡ constants s.list (take m positions)) (sym is_next) sum;
      };
      stream = more_stream s.list streams positions line next f h.stream d here meets within more left count;
      low = omega (arith, ints);
      high = omega (arith, ints);
      left = omega arith;
      right = omega arith;
    }

-- along the inequalities of a line a value rises by no more than their constants
rises : (list : List Diff) (positions : List ℕ) (line : Line) (values : List ℤ) → Folds list positions line →
    ((k : ℕ) → k < line.count → HoldsBetween values (diff_at list (get_or positions k 0)).left (diff_at list (get_or positions k 0)).right (diff_at list (get_or positions k 0)).most) →
    (j : ℕ) → j < line.count → HoldsBetween values line.left (diff_at list (get_or positions j 0)).right (constants list (take (j + 1) positions))
rises list positions line values f holds zero l =
    let within = f.within in
    let a = holds 0 l in
    let b = constants_more list positions 0 (omega arith) in
    let c : constants list (take 0 positions) ≡ pos 0 = refl in
    let d : value values line.left ≡ value values (diff_at list (get_or positions 0 0)).left = ap (value values) f.left in
    omega (arith, ints)
rises list positions line values f holds (suc j) l =
    let within = f.within in
    let m : j + 1 ≡ suc j = omega arith in
    let a = rises list positions line values f holds j (omega arith) in
    let P : ℕ → Type 0 = λ m. HoldsBetween values line.left (diff_at list (get_or positions j 0)).right (constants list (take m positions)) in
    let a' = subst P m a in
    let b = holds (suc j) l in
    let c = constants_more list positions (suc j) (omega arith) in
    let d : (diff_at list (get_or positions j 0)).right ≡ (diff_at list (get_or positions (suc j) 0)).left =
    f.joined j (omega arith) ∙ ap (λ m. (diff_at list (get_or positions m 0)).left) m in
    let e : value values (diff_at list (get_or positions j 0)).right ≡ value values (diff_at list (get_or positions (suc j) 0)).left = ap (value values) d in
    omega (arith, ints)

pub follows : FollowsLaw
follows list positions line values f holds =
    let some = f.some in
    let j = line.count - 1 in
    let last : j + 1 ≡ line.count = omega arith in
    let a = rises list positions line values f holds j (omega arith) in
    let b : value values line.right ≡ value values (diff_at list (get_or positions j 0)).right = ap (value values) (f.right j last) in
    let c : constants list (take (j + 1) positions) ≡ constants list (take line.count positions) = ap (λ m. constants list (take m positions)) last in
    let d = f.most in
    omega (arith, ints)

-- a sum that begins at another number
pub sum_from : (list : List Diff) (a : ℤ) (positions : List ℕ) → fold (λ s i. s +ℤ (diff_at list i).most) a positions ≡ a +ℤ constants list positions
sum_from list a [] = omega (arith, ints)
sum_from list a (i ∷ positions) =
    let b = sum_from list (a +ℤ (diff_at list i).most) positions in
    let c = sum_from list (pos 0 +ℤ (diff_at list i).most) positions in
    omega (arith, ints)

lines_from : (a : ℤ) (lines : List Line) → fold (λ sum line. sum +ℤ line.most) a lines ≡ a +ℤ fold (λ sum line. sum +ℤ line.most) (pos 0) lines
lines_from a [] = omega (arith, ints)
lines_from a (line ∷ lines) =
    let b = lines_from (a +ℤ line.most) lines in
    let c = lines_from (pos 0 +ℤ line.most) lines in
    omega (arith, ints)

constants-append : (list : List Diff) (one two : List ℕ) → constants list (one ++ two) ≡ constants list one +ℤ constants list two
constants-append list one two = fold-append (λ s i. s +ℤ (diff_at list i).most) (pos 0) one two ∙ sum_from list (constants list one) two

pub sums : SumLaw
sums list positions [] none = ap (constants list) (sym none)
sums list positions (line ∷ lines) (f, more) =
    let a = sums list (drop line.count positions) lines more in
    let b = lines_from (pos 0 +ℤ line.most) lines in
    let c = constants-append list (take line.count positions) (drop line.count positions) in
    let d : constants list (take line.count positions ++ drop line.count positions) ≡ constants list positions = ap (constants list) (take-append-drop line.count positions) in
    let e = f.most in
    omega (arith, ints)

-- a line with the next inequality of a list
pub folding_step : (s : DifferenceSystem) (streams positions : List ℕ) (k : ℕ) (line next : Line) (list : List Diff) → list ≡ s.list → IsSystem s → IsFolding s streams positions k line → k < length positions →
    get_or positions k 0 < length s.list → line.right ≡ (diff_at list (get_or positions k 0)).left → get_or streams line.right 0 ≡ get_or streams line.left 0 →
    get_or streams (diff_at list (get_or positions k 0)).right 0 ≡ get_or streams line.left 0 → next.left ≡ line.left → next.right ≡ (diff_at list (get_or positions k 0)).right →
    next.most ≡ line.most +ℤ (diff_at list (get_or positions k 0)).most → next.count ≡ line.count + 1 → IsFolding s streams positions (k + 1) next
folding_step s streams positions k line next list same all h l there meets within more left right most count =
    let i = get_or positions k 0 in
    let is : diff_at list i ≡ diff_at s.list i = ap (λ (ds : List Diff). diff_at ds i) same in
    let proper : IsProper s.count (diff_at list i) = subst (λ (ds : List Diff). IsProper s.count (diff_at ds i)) (sym same) (all i no_diff there) in
    folding_more s streams positions k line next (diff_at list i) h l is proper meets within more left right most count
