-- What is known of the instants of marks.
use Rattle.std.proofs.Common.{ℕ, ◌+◌, ◌≡◌, ◌<◌, ◌≤◌, Bool, true, false, List, [], ◌∷◌, ◌++◌, length, get_or, sym, ap, ◌∙◌, subst, inl, inr, arith, append-nil}
use Rattle.std.specs.Prelude.{if◌then◌else◌}
use Rattle.std.proofs.lemmas.List.{length_push}
use Rattle.std.proofs.lemmas.List.FromFn.{length-map-range_with_len, get_or-map-range_with_len, map-range_with_len_more}
use Rattle.std.proofs.lemmas.Bool.{cases_Bool}
use Rattle.std.proofs.lemmas.Option.{none-some}
use Rattle.lucy_word.specs.Bits.{Bits, bit_at, one_if, ones_to}
use Rattle.lucy_word.specs.Index.{IsIndex}
use Rattle.lucy_word.proofs.BitsLaws.{ones_to-more, ones_to-none}
use Rattle.lucy_word.proofs.IndexLaws.{ones_to-rises, IsIndex-from}
use Rattle.lucy_types.proofs.ListLaws.{get_push}
use Rattle.lucy_picture.specs.Charts.{marks_of}
use Rattle.lucy_svg.specs.Flows.{counts_of}
use Rattle.lucy_svg.specs.Ones.{AreOnes}

pub ones_none : (w : Bits) → AreOnes w 0 []
ones_none w = record {
  all = sym (ones_to-none w);
  each = λ k at h. absurd (none-some at h);
}

module _ (w : Bits) (i : ℕ) (old : List ℕ) (are : AreOnes w i old) where
  -- one instant more, with a one
  one_more : bit_at w (i + 1) ≡ true → AreOnes w (i + 1) (old ++ (i + 1) ∷ [])
  one_more bit =
      let more = ones_to-more w i in
      let one : one_if (bit_at w (i + 1)) ≡ 1 = ap one_if bit in
      let count : ones_to w (i + 1) ≡ length old + 1 = omega (arith, are.all) in
      record {
        all = length_push old (i + 1) ∙ sym count;
        each = λ k at h.
            elim (get_push old (i + 1) k at h) [
              | inl p ↦ (let o = are.each k at p.1 in let l : at ≤ i = o.1 in (o.0, omega arith))
              | inr p ↦
                  let last : k ≡ length old = p.0 in
                  let here : ones_to w (i + 1) ≡ k + 1 = omega arith in
                  let fewer : (j : ℕ) → j < i + 1 → ones_to w j < k + 1 =
                  λ j less. (let r = ones_to-rises w j i (omega arith) in omega (arith, are.all)) in
                  let is : IsIndex w (k + 1) (i + 1) = IsIndex-from w (k + 1) (i + 1) here fewer in
                  let there : i + 1 ≡ at = p.1 in
                  (subst (λ a. IsIndex w (k + 1) a) there is, omega arith)
            ];
      }

  -- and with a zero
  one_stays : bit_at w (i + 1) ≡ false → AreOnes w (i + 1) old
  one_stays bit =
      let more = ones_to-more w i in
      let none : one_if (bit_at w (i + 1)) ≡ 0 = ap one_if bit in
      record {
        all = omega (arith, are.all);
        each = λ k at h. (let o = are.each k at h in let l : at ≤ i = o.1 in (o.0, omega arith));
      }

-- the mark of an instant that is shown
pub mark_is : (marks : List Bool) (w : Bits) (shown i : ℕ) (d : Bool) → marks ≡ marks_of w shown → i < length marks →
    get_or marks i d ≡ bit_at w (i + 1)
mark_is marks w shown i d made h =
    let count : length marks ≡ shown = ap length made ∙ length-map-range_with_len (bit_at w) 1 shown in
    ap (λ l. get_or l i d) made ∙ get_or-map-range_with_len (bit_at w) 1 shown i (i + 1) d (omega arith) (omega arith)

-- one instant more
pub ones_more : (w : Bits) (i : ℕ) (mark : Bool) (old new : List ℕ) → AreOnes w i old → mark ≡ bit_at w (i + 1) →
    new ≡ old ++ (if mark then (i + 1) ∷ [] else []) → AreOnes w (i + 1) new
ones_more w i mark old new are is more =
    elim (cases_Bool mark) [
      | inl one ↦
          let made : new ≡ old ++ (i + 1) ∷ [] = more ∙ ap (λ b. old ++ (if b then (i + 1) ∷ [] else [])) one in
          subst (λ l. AreOnes w (i + 1) l) (sym made) (one_more w i old are (sym is ∙ one))
      | inr none ↦
          let made : new ≡ old = more ∙ ap (λ b. old ++ (if b then (i + 1) ∷ [] else [])) none ∙ append-nil old in
          subst (λ l. AreOnes w (i + 1) l) (sym made) (one_stays w i old are (sym is ∙ none))
    ]

-- as many as are shown
pub ones_all : (marks : List Bool) (w : Bits) (shown i : ℕ) (ones : List ℕ) → marks ≡ marks_of w shown → i ≡ length marks →
    AreOnes w i ones → AreOnes w shown ones
ones_all marks w shown i ones made whole are =
    subst (λ n. AreOnes w n ones) (whole ∙ ap length made ∙ length-map-range_with_len (bit_at w) 1 shown) are

-- one count more
pub counts_more : (w : Bits) (i count next : ℕ) (mark : Bool) (old new : List ℕ) → count ≡ ones_to w i → old ≡ counts_of w i →
    mark ≡ bit_at w (i + 1) → next ≡ count + one_if mark → new ≡ old ++ next ∷ [] →
    (next ≡ ones_to w (i + 1)) × (new ≡ counts_of w (i + 1))
counts_more w i count next mark old new is before bit step more =
    let there : next ≡ ones_to w (i + 1) = step ∙ ap (λ n. n + one_if mark) is ∙ ap (λ b. ones_to w i + one_if b) bit
    ∙ sym (ones_to-more w i) in (
      there,
      more ∙ ap (λ l. l ++ next ∷ []) before ∙ ap (λ n. counts_of w i ++ n ∷ []) there
          ∙ sym (map-range_with_len_more (ones_to w) 1 i (i + 1) (omega arith)),
    )

pub counts_all : (marks : List Bool) (w : Bits) (shown i : ℕ) (counts : List ℕ) → marks ≡ marks_of w shown → i ≡ length marks →
    counts ≡ counts_of w i → counts ≡ counts_of w shown
counts_all marks w shown i counts made whole are =
    are ∙ ap (counts_of w) (whole ∙ ap length made ∙ length-map-range_with_len (bit_at w) 1 shown)
