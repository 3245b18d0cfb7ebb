-- Laws of firings: what a firing gives is the item of its number in the form's list of what was taken.
use Rattle.std.proofs.Common.{ℕ, suc, zero, ◌+◌, ◌-◌, ◌<◌, ◌≤◌, ◌≡◌, true, false, cond, List, map, length, get_or, ap, sym, refl, ◌∙◌, subst, inl, inr, arith}
use Rattle.std.specs.Prelude.{ℤ, pos, Option, Some}
use Rattle.std.specs.List.{range_with_len}
use Rattle.std.proofs.lemmas.Bool.{cases_Bool}
use Rattle.std.proofs.lemmas.List.{get_or-replicate, length-replicate}
use Rattle.std.proofs.lemmas.List.FromFn.{length-map-range_with_len, get_or-map-range_with_len}
use Rattle.lucy_word.specs.Bits.{Bits, bit_at, one_if, ones_to}
use Rattle.lucy_word.proofs.BitsLaws.{ones_to-more, ones_to-le}
use Rattle.lucy_word.proofs.IndexLaws.{ones_to-rises}
use Rattle.lucy_host.specs.OpValue.{op_value}
use Rattle.lucy_host.specs.declared.kind.HostKind.{HostKind}
use Rattle.lucy_stream.specs.Items.{item_at, newest, HasItem, list_at}
use Rattle.lucy_host.specs.Arity.{arity}
use Rattle.lucy_stream.specs.Forms.{Form, Given, Constant, Pointwise, Hosted, Kept, Merged, Delayed, Same}
use Rattle.lucy_stream.specs.Merges.{merge_item, item_then, items_past, merged}
use Rattle.lucy_host.specs.HostValue.{hosted_value}
use Rattle.lucy_stream.specs.Lists.{shortest, item_by_item, kept, form_list}
use Rattle.lucy_stream.specs.Firings.{fire_value, DoesGive, gave_in, HasTaken, IsThere}
use Rattle.lucy_stream.proofs.MergeLaws.{merge_item-one, merge_item-zero, get_some}
use Rattle.lucy_stream.proofs.KeptLaws.{kept-item}
use Rattle.lucy_stream.proofs.ListLaws.{op_value-lacks, LooksAt, arity-some, hosted_value-looks}

newest_at : (items : List ℤ) (k : ℕ) → length items ≡ k + 1 → newest items ≡ item_at items k
newest_at items k e = ap (item_at items) (let last : length items - 1 ≡ k = omega arith in last)

-- operands of one length: the shortest has it too
shortest-all : (count n : ℕ) (lists : List (List ℤ)) → 0 < count → ((i : ℕ) → i < count → length (list_at lists i) ≡ n) → shortest count lists ≡ n
shortest-all zero n lists some h = absurd (omega arith)
shortest-all (suc zero) n lists some h = h 0 (omega arith)
shortest-all (suc (suc count)) n lists some h = omega (arith, shortest-all (suc count) n lists (omega arith) (λ i l. h i (omega arith)), h (suc count) (omega arith))

-- item by item, the value of the newest items is the last one
item_by_item-last : (count k : ℕ) (value : ℤ → ℤ → ℤ → ℤ) (took : List (List ℤ)) → 0 < count → LooksAt count value → ((i : ℕ) → i < count → length (list_at took i) ≡ k + 1) →
    HasItem (item_by_item count value took) k (value (newest (list_at took 0)) (newest (list_at took 1)) (newest (list_at took 2)))
item_by_item-last count k value took some looks h =
    let at : ℕ → ℤ = λ (i : ℕ). item_at (list_at took i) k in
    let each : ℕ → ℤ = λ (j : ℕ). value (item_at (list_at took 0) j) (item_at (list_at took 1) j) (item_at (list_at took 2) j) in
    let n : ℕ = shortest count took in
    let size : n ≡ k + 1 = shortest-all count (k + 1) took some h in
    let first : newest (list_at took 0) ≡ at 0 = newest_at (list_at took 0) k (h 0 some) in
    let others : value (at 0) (newest (list_at took 1)) (newest (list_at took 2)) ≡ value (at 0) (at 1) (at 2) =
    looks (at 0) (newest (list_at took 1)) (newest (list_at took 2)) (at 1) (at 2) (λ there. newest_at (list_at took 1) k (h 1 there)) (λ there. newest_at (list_at took 2) k (h 2 there)) in
    let there : get_or (map each (range_with_len 0 n)) k (pos 0) ≡ each k = get_or-map-range_with_len each 0 n k k (pos 0) (omega arith) (omega arith) in
    (omega (arith, length-map-range_with_len each 0 n), ap (λ t. value t (newest (list_at took 1)) (newest (list_at took 2))) first ∙ others ∙ sym there)

-- a list of items of which the first are there
items_past-item : (item : ℕ → Option ℤ) (value : ℕ → ℤ) (n k size : ℕ) → k < size → ((i : ℕ) → i < k + 1 → item (n + i + 1) ≡ Some (value (n + i + 1))) →
    HasItem (items_past item n size) k (value (n + k + 1))
items_past-item item value n k zero l h = absurd (omega arith)
items_past-item item value n zero (suc size) l h =
    let first : item (n + 1) ≡ Some (value (n + 0 + 1)) = ap item (omega arith) ∙ h 0 (omega arith) in
    subst (λ (o : Option ℤ). HasItem (item_then o (items_past item (n + 1) size)) 0 (value (n + 0 + 1))) (sym first) (omega arith, refl)
items_past-item item value n (suc k) (suc size) l h =
    let first : item (n + 1) ≡ Some (value (n + 0 + 1)) = ap item (omega arith) ∙ h 0 (omega arith) in
    let found = items_past-item item value (n + 1) k size (omega arith) (λ i t. ap item (omega arith) ∙ h (i + 1) (omega arith) ∙ ap (λ j. Some (value j)) (omega arith)) in
    let same : value (n + suc k + 1) ≡ value (n + 1 + k + 1) = ap value (omega arith) in
    subst (λ (o : Option ℤ). HasItem (item_then o (items_past item (n + 1) size)) (suc k) (value (n + suc k + 1))) (sym first) (omega (arith, found.0), same ∙ found.1)

-- counts rise by at most one an instant
pub ones_to-most : (word : Bits) (n k : ℕ) → ones_to word (n + k) ≤ ones_to word n + k
ones_to-most word n zero = (let e : ones_to word (n + 0) ≡ ones_to word n = ap (ones_to word) (omega arith) in omega arith)
ones_to-most word n (suc k) =
    let e : ones_to word (n + suc k) ≡ ones_to word (n + k + 1) = ap (ones_to word) (omega arith) in
    let h : one_if (bit_at word (n + k + 1)) ≤ 1 = elim (bit_at word (n + k + 1)) as (λ b. one_if b ≤ 1) [ true ↦ omega arith | false ↦ omega arith ] in
    omega (arith, ones_to-most word n k, ones_to-more word (n + k))

-- the value of item j of a merge
abbrev merge_value : Bits → List ℤ → List ℤ → ℕ → ℤ
merge_value word xs ys j = cond (bit_at word j) (item_at xs (ones_to word j - 1)) (item_at ys (j - ones_to word j - 1))

-- the first k + 1 items of a merge, where so many of each list are there
merge_item-there : (word : Bits) (xs ys : List ℤ) (k : ℕ) → length xs ≡ ones_to word (k + 1) → length ys ≡ k + 1 - ones_to word (k + 1) → (i : ℕ) → i < k + 1 →
    merge_item word xs ys (0 + i + 1) ≡ Some (merge_value word xs ys (0 + i + 1))
merge_item-there word xs ys k a b i l =
    let j : ℕ = 0 + i + 1 in
    let bits : bit_at word j ≡ bit_at word (i + 1) = ap (bit_at word) (omega arith) in
    let here : ones_to word j ≡ ones_to word i + one_if (bit_at word (i + 1)) = ap (ones_to word) (omega arith) ∙ ones_to-more word i in
    let end : ones_to word (j + (k - i)) ≡ ones_to word (k + 1) = ap (ones_to word) (omega arith) in
    let rises : ones_to word j ≤ ones_to word (k + 1) = ones_to-rises word j (k + 1) (omega arith) in
    elim (cases_Bool (bit_at word j)) [
      | inl h ↦
          let one : one_if (bit_at word (i + 1)) ≡ 1 = ap one_if (sym bits ∙ h) in
          merge_item-one word xs ys j h ∙ get_some xs (ones_to word j - 1) (omega arith)
          ∙ sym (ap (λ c. Some (cond c (item_at xs (ones_to word j - 1)) (item_at ys (j - ones_to word j - 1)))) h)
      | inr h ↦
          let none : one_if (bit_at word (i + 1)) ≡ 0 = ap one_if (sym bits ∙ h) in
          merge_item-zero word xs ys j h ∙ get_some ys (j - ones_to word j - 1) (omega (arith, ones_to-le word i, ones_to-most word j (k - i)))
          ∙ sym (ap (λ c. Some (cond c (item_at xs (ones_to word j - 1)) (item_at ys (j - ones_to word j - 1)))) h)
    ]

merged-item : (word : Bits) (xs ys : List ℤ) (k : ℕ) → length xs ≡ ones_to word (k + 1) → length ys ≡ k + 1 - ones_to word (k + 1) →
    HasItem (merged word xs ys) k (cond (bit_at word (k + 1)) (newest xs) (newest ys))
merged-item word xs ys k a b =
    let value : ℕ → ℤ = merge_value word xs ys in
    let found : HasItem (merged word xs ys) k (value (0 + k + 1)) =
    items_past-item (merge_item word xs ys) value 0 k (length xs + length ys) (omega (arith, ones_to-le word (k + 1))) (merge_item-there word xs ys k a b) in
    let last : cond (bit_at word (k + 1)) (newest xs) (newest ys) ≡ value (k + 1) =
    ap (λ n. cond (bit_at word (k + 1)) (item_at xs n) (newest ys)) (let e : length xs - 1 ≡ ones_to word (k + 1) - 1 = omega arith in e)
    ∙ ap (λ n. cond (bit_at word (k + 1)) (item_at xs (ones_to word (k + 1) - 1)) (item_at ys n)) (let e : length ys - 1 ≡ k + 1 - ones_to word (k + 1) - 1 = omega arith in e) in
    (found.0, last ∙ ap value (omega arith) ∙ found.1)

-- what a firing gives is, in the form's list of what was taken, the item after those that were given before
pub fire_value-item : (kinds : List HostKind) (inputs : List (List ℤ)) (n : ℕ) (form : Form) (fired : ℕ) (took : List (List ℤ)) →
    IsThere inputs n form fired → HasTaken form fired took → DoesGive form fired → HasItem (form_list kinds inputs n form took) (gave_in form fired) (fire_value kinds inputs form fired took)
fire_value-item kinds inputs n (Given input) k took there h gives = (there, refl)
fire_value-item kinds inputs n (Constant value) k took there h gives =
    (omega (arith, length-replicate (n + 1) value), sym (get_or-replicate (n + 1) k value (pos 0) (omega arith)))
fire_value-item kinds inputs n (Pointwise op) k took there h gives = item_by_item-last (arity op) k (op_value op) took (arity-some op) (op_value-lacks op) h
fire_value-item kinds inputs n (Hosted op) k took there h gives = item_by_item-last 2 k (λ a b c. hosted_value kinds op a b) took (omega arith) (hosted_value-looks kinds op) h
fire_value-item kinds inputs n (Kept word) k took there h gives =
    let items : List ℤ = list_at took 0 in
    let found : HasItem (kept word items) (ones_to word k) (item_at items k) = kept-item word items k (omega (arith, h 0 (omega arith))) gives in
    (found.0, newest_at items k (h 0 (omega arith)) ∙ found.1)
fire_value-item kinds inputs n (Merged word) k took there h gives = merged-item word (list_at took 0) (list_at took 1) k (h 0 (omega arith)) (h 1 (omega arith))
fire_value-item kinds inputs n (Delayed first) zero took there h gives = (omega arith, refl)
fire_value-item kinds inputs n (Delayed first) (suc k) took there h gives =
    let items : List ℤ = list_at took 0 in
    let size : length items ≡ suc k = h 0 (omega arith) in
    (omega arith, newest_at items k (omega arith))
fire_value-item kinds inputs n Same k took there h gives = (omega (arith, h 0 (omega arith)), newest_at (list_at took 0) k (h 0 (omega arith)))
