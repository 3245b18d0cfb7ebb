-- Laws of fields with their offsets.
use Rattle.std.proofs.Common.{ℕ, ◌+◌, ◌<◌, ◌≤◌, ◌≡◌, true, false, List, [], ◌∷◌, ◌++◌, ◌-◌, length, get_or, take, drop, append-nil, refl, ap, sym, subst, ◌∙◌, arith, true≢false}
use Rattle.std.specs.List.{slice_split, filter}
use Rattle.std.proofs.lemmas.List.{drop_more, take_more, get_or-drop, length-drop, length-take-le}
use Rattle.std.proofs.lemmas.List.Elements.{All-push}
use Rattle.std.proofs.lemmas.List.Folds.{drop_split}
use Rattle.std.proofs.lemmas.List.Splits.{slice_split-cons_yes, slice_split_none, slice_split_at}
use Rattle.lucy_fields.specs.Fields.{is_blank, placed, is_field, fields_from}
use Rattle.lucy_fields.specs.Steps.{BeginsGap, BeginsField, IsFull}

-- a blank in front is passed over
pub blank_passed : (at c : ℕ) (text : List ℕ) → is_blank c ≡ true → fields_from at (c ∷ text) ≡ fields_from (at + 1) text
unfolding fields_from
blank_passed at c text e =
    ap (λ ps. filter is_field (placed at ps)) (slice_split-cons_yes is_blank c text e)
    ∙ ap (λ n. filter is_field (placed n (slice_split is_blank text))) (omega arith)

-- a field, and what follows it
pub field_first : (at c : ℕ) (field rest : List ℕ) → IsFull (c ∷ field) → BeginsGap rest →
    fields_from at ((c ∷ field) ++ rest) ≡ (at, c ∷ field) ∷ fields_from (at + length (c ∷ field)) rest
unfolding fields_from
field_first at c field [] full begins =
    ap (λ xs. filter is_field (placed at (slice_split is_blank xs))) (append-nil (c ∷ field))
    ∙ ap (λ ps. filter is_field (placed at ps)) (slice_split_none is_blank (c ∷ field) full)
field_first at c field (b ∷ rest) full begins =
    ap (λ ps. filter is_field (placed at ps)) (slice_split_at is_blank (c ∷ field) b rest full begins)
    ∙ ap (λ fs. (at, c ∷ field) ∷ fs) (sym (blank_passed (at + length (c ∷ field)) b rest begins))

module _ (text : List ℕ) (i : ℕ) (within : i < length text) where
  -- a blank at a place is passed over
  pub blank_at : is_blank (get_or text i 0) ≡ true → fields_from (i + 1) (drop (i + 1) text) ≡ fields_from i (drop i text)
  blank_at e = sym (ap (fields_from i) (drop_more text i 0 within) ∙ blank_passed i (get_or text i 0) (drop (i + 1) text) e)

  -- a text that goes on with a blank begins with one
  pub gap_at : is_blank (get_or text i 0) ≡ true → BeginsGap (drop i text)
  gap_at e = subst BeginsGap (sym (drop_more text i 0 within)) e

  -- a text that goes on with no blank begins with none
  pub byte_at : is_blank (get_or text i 0) ≡ false → BeginsField (drop i text)
  byte_at e = subst BeginsField (sym (drop_more text i 0 within)) e

  -- one byte more of a field
  pub full_more : (from : ℕ) → from ≤ i → IsFull (take (i - from) (drop from text)) → is_blank (get_or text i 0) ≡ false →
      IsFull (take (i + 1 - from) (drop from text))
  full_more from l full e =
      let left : i - from < length (drop from text) = omega (arith, within, l, length-drop from text) in
      let count : i + 1 - from ≡ i - from + 1 = omega (arith, l) in
      let place : from + (i - from) ≡ i = omega (arith, l) in
      let is : get_or (drop from text) (i - from) 0 ≡ get_or text i 0 = get_or-drop from text (i - from) 0 ∙ ap (λ k. get_or text k 0) place in
      let grown : take (i + 1 - from) (drop from text) ≡ take (i - from) (drop from text) ++ get_or text i 0 ∷ [] =
      ap (λ n. take n (drop from text)) count ∙ take_more (drop from text) (i - from) 0 left ∙ ap (λ c. take (i - from) (drop from text) ++ c ∷ []) is in
      subst IsFull (sym grown) (All-push (λ c. is_blank c ≡ false) (take (i - from) (drop from text)) (get_or text i 0) full e)

-- a field that isn't empty stands first, and what follows it is left
pub field_at : (text : List ℕ) (from end : ℕ) → from < end → end ≤ length text → IsFull (take (end - from) (drop from text)) → BeginsGap (drop end text) →
    fields_from from (drop from text) ≡ (from, take (end - from) (drop from text)) ∷ fields_from end (drop end text)
field_at text from end some within full begins =
    let split : drop from text ≡ take (end - from) (drop from text) ++ drop end text = drop_split text from end (omega (arith, some)) in
    let size : length (take (end - from) (drop from text)) ≡ end - from =
    omega (arith, within, length-take-le (end - from) (drop from text) (omega (arith, within, length-drop from text))) in
    ap (fields_from from) split
    ∙ first (take (end - from) (drop from text)) full (omega (arith, size, some))
    ∙ ap (λ n. (from, take (end - from) (drop from text)) ∷ fields_from n (drop end text)) (omega (arith, size, some))
  where
    first : (field : List ℕ) → IsFull field → 0 < length field → fields_from from (field ++ drop end text) ≡ (from, field) ∷ fields_from (from + length field) (drop end text)
    first [] f l = absurd (omega (arith, l))
    first (c ∷ field) f l = field_first from c field (drop end text) f begins

-- what begins with a blank and with none is nothing, and has no field
pub nothing_left : (i : ℕ) (rest : List ℕ) → BeginsGap rest → BeginsField rest → fields_from i rest ≡ []
unfolding fields_from
nothing_left i [] b l = refl
nothing_left i (c ∷ rest) b l = absurd (true≢false (sym b ∙ l))
