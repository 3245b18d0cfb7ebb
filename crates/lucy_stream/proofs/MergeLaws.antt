-- Laws of merges: they grow with their lists, and are as long as can be.
use Rattle.std.proofs.Common.{ℕ, suc, zero, ◌+◌, ◌-◌, ◌<◌, ◌≤◌, ◌≡◌, true, false, cond, List, [], ◌∷◌, length, ap, sym, refl, ◌∙◌, subst, inl, inr, arith}
use Rattle.std.specs.Prelude.{ℤ, pos, Option, Some, None, slice_get}
use Rattle.std.proofs.lemmas.Bool.{cases_Bool}
use Rattle.std.proofs.lemmas.Option.{slice_get-get_or, slice_get_within}
use Rattle.lucy_word.specs.Bits.{Bits, bit_at, one_if, ones_to}
use Rattle.lucy_word.proofs.BitsLaws.{ones_to-none, ones_to-more, ones_to-le}
use Rattle.lucy_stream.specs.Items.{item_at}
use Rattle.lucy_stream.specs.Fronts.{IsFront}
use Rattle.lucy_stream.specs.Merges.{merge_item, IsMerge, item_then, items_past, merged}
use Rattle.lucy_stream.proofs.FrontLaws.{IsFront-length, IsFront-get}

-- where the word has a one, the item is of the first list
pub merge_item-one : (word : Bits) (xs ys : List ℤ) (k : ℕ) → bit_at word k ≡ true → merge_item word xs ys k ≡ slice_get xs (ones_to word k - 1)
merge_item-one word xs ys k b = ap (λ c. cond c (slice_get xs (ones_to word k - 1)) (slice_get ys (k - ones_to word k - 1))) b

-- else of the second
pub merge_item-zero : (word : Bits) (xs ys : List ℤ) (k : ℕ) → bit_at word k ≡ false → merge_item word xs ys k ≡ slice_get ys (k - ones_to word k - 1)
merge_item-zero word xs ys k b = ap (λ c. cond c (slice_get xs (ones_to word k - 1)) (slice_get ys (k - ones_to word k - 1))) b

-- an item that is there
pub get_some : (xs : List ℤ) (i : ℕ) → i < length xs → slice_get xs i ≡ Some (item_at xs i)
get_some xs i l = slice_get-get_or xs i (pos 0) l

item_then-front : (o q : Option ℤ) (xs ys : List ℤ) → ((v : ℤ) → o ≡ Some v → q ≡ Some v) → IsFront xs ys → IsFront (item_then o xs) (item_then q ys)
item_then-front None q xs ys h f = tt
item_then-front (Some v) q xs ys h f = subst (λ (t : Option ℤ). IsFront (v ∷ xs) (item_then t ys)) (sym (h v refl)) (refl, f)

items_past-front : (f g : ℕ → Option ℤ) → ((k : ℕ) (v : ℤ) → f k ≡ Some v → g k ≡ Some v) → (k n m : ℕ) → n ≤ m → IsFront (items_past f k n) (items_past g k m)
items_past-front f g h k zero m l = tt
items_past-front f g h k (suc n) zero l = absurd (omega arith)
items_past-front f g h k (suc n) (suc m) l =
    item_then-front (f (k + 1)) (g (k + 1)) (items_past f (k + 1) n) (items_past g (k + 1) m) (h (k + 1)) (items_past-front f g h (k + 1) n m (omega arith))

-- an item that is there stays there
pub merge_item-more : (word : Bits) (xs ys us vs : List ℤ) → IsFront xs us → IsFront ys vs → (k : ℕ) (v : ℤ) → merge_item word xs ys k ≡ Some v → merge_item word us vs k ≡ Some v
merge_item-more word xs ys us vs f g k v h = elim (cases_Bool (bit_at word k)) [
  | inl b ↦ merge_item-one word us vs k b ∙ IsFront-get xs us (ones_to word k - 1) v f (sym (merge_item-one word xs ys k b) ∙ h)
  | inr b ↦ merge_item-zero word us vs k b ∙ IsFront-get ys vs (k - ones_to word k - 1) v g (sym (merge_item-zero word xs ys k b) ∙ h)
]

-- merges grow with their lists
pub merged-front : (word : Bits) (xs ys us vs : List ℤ) → IsFront xs us → IsFront ys vs → IsFront (merged word xs ys) (merged word us vs)
merged-front word xs ys us vs f g =
    items_past-front (merge_item word xs ys) (merge_item word us vs) (merge_item-more word xs ys us vs f g) 0 (length xs + length ys) (length us + length vs)
    (omega (arith, IsFront-length xs us f, IsFront-length ys vs g))

-- the first items of a merge are there: those of each list that they need
record IsBegun (word : Bits) (xs ys : List ℤ) (k : ℕ) : Type 0 where
  pub ones : ones_to word k ≤ length xs
  pub zeros : k ≤ ones_to word k + length ys

-- one item more
begun_more : (word : Bits) (xs ys : List ℤ) (k : ℕ) (v : ℤ) → IsBegun word xs ys k → merge_item word xs ys (k + 1) ≡ Some v → IsBegun word xs ys (k + 1)
begun_more word xs ys k v begun h = elim (cases_Bool (bit_at word (k + 1))) [
  | inl b ↦
      let one : one_if (bit_at word (k + 1)) ≡ 1 = ap one_if b in
      let there : ones_to word (k + 1) - 1 < length xs = slice_get_within xs (ones_to word (k + 1) - 1) v (sym (merge_item-one word xs ys (k + 1) b) ∙ h) in
      record { ones = omega (arith, ones_to-more word k); zeros = omega (arith, ones_to-more word k, begun.zeros) }
  | inr b ↦
      let none : one_if (bit_at word (k + 1)) ≡ 0 = ap one_if b in
      let there : k + 1 - ones_to word (k + 1) - 1 < length ys = slice_get_within ys (k + 1 - ones_to word (k + 1) - 1) v (sym (merge_item-zero word xs ys (k + 1) b) ∙ h) in
      record { ones = omega (arith, ones_to-more word k, begun.ones); zeros = omega (arith, ones_to-more word k, ones_to-le word k) }
]

-- from item k on: what the list has, and that it could have no more
record IsRest (word : Bits) (xs ys : List ℤ) (k : ℕ) (items : List ℤ) : Type 0 where
  pub each : (i : ℕ) → i < length items → merge_item word xs ys (k + i + 1) ≡ Some (item_at items i)
  pub longest : merge_item word xs ys (k + length items + 1) ≡ None

-- with nothing left of either list no item is there
nothing_left : (word : Bits) (xs ys : List ℤ) (k : ℕ) → length xs + length ys ≤ k → IsBegun word xs ys k → (o : Option ℤ) → merge_item word xs ys (k + 1) ≡ o → o ≡ None
nothing_left word xs ys k l begun None e = refl
nothing_left word xs ys k l begun (Some v) e =
    let more : IsBegun word xs ys (k + 1) = begun_more word xs ys k v begun e in
    absurd (omega (arith, more.ones, more.zeros))

each_of : (word : Bits) (xs ys : List ℤ) (k : ℕ) (v : ℤ) (items : List ℤ) → merge_item word xs ys (k + 1) ≡ Some v → IsRest word xs ys (k + 1) items → (i : ℕ) → i < length (v ∷ items) →
    merge_item word xs ys (k + i + 1) ≡ Some (item_at (v ∷ items) i)
each_of word xs ys k v items e rest zero h = ap (merge_item word xs ys) (let same : k + 0 + 1 ≡ k + 1 = omega arith in same) ∙ e
each_of word xs ys k v items e rest (suc i) h =
    ap (merge_item word xs ys) (let same : k + suc i + 1 ≡ k + 1 + i + 1 = omega arith in same) ∙ rest.each i (omega arith)

-- one step of it
rest_then : (word : Bits) (xs ys : List ℤ) (k : ℕ) (o : Option ℤ) (items : List ℤ) → merge_item word xs ys (k + 1) ≡ o → ((v : ℤ) → o ≡ Some v → IsRest word xs ys (k + 1) items) →
    IsRest word xs ys k (item_then o items)
rest_then word xs ys k None items e next = record {
  each = λ i h. absurd (omega arith);
  longest = ap (merge_item word xs ys) (let same : k + 0 + 1 ≡ k + 1 = omega arith in same) ∙ e;
}
rest_then word xs ys k (Some v) items e next =
    let rest : IsRest word xs ys (k + 1) items = next v refl in
    record {
      each = each_of word xs ys k v items e rest;
      longest = ap (merge_item word xs ys) (let same : k + suc (length items) + 1 ≡ k + 1 + length items + 1 = omega arith in same) ∙ rest.longest;
    }

rest_of : (word : Bits) (xs ys : List ℤ) (k n : ℕ) → length xs + length ys ≤ k + n → IsBegun word xs ys k → IsRest word xs ys k (items_past (merge_item word xs ys) k n)
rest_of word xs ys k zero l begun = record {
  each = λ i h. absurd (omega arith);
  longest = ap (merge_item word xs ys) (let same : k + 0 + 1 ≡ k + 1 = omega arith in same) ∙ nothing_left word xs ys k (omega arith) begun (merge_item word xs ys (k + 1)) refl;
}
rest_of word xs ys k (suc n) l begun =
    rest_then word xs ys k (merge_item word xs ys (k + 1)) (items_past (merge_item word xs ys) (k + 1) n) refl
    (λ v e. rest_of word xs ys (k + 1) n (omega arith) (begun_more word xs ys k v begun e))

-- the merge is the longest list of its items
pub merged-is : (word : Bits) (xs ys : List ℤ) → IsMerge word xs ys (merged word xs ys)
merged-is word xs ys =
    let items : List ℤ = merged word xs ys in
    let rest : IsRest word xs ys 0 items = rest_of word xs ys 0 (length xs + length ys) (omega arith) (record { ones = omega (arith, ones_to-none word); zeros = omega arith }) in
    record {
      each = λ k h. ap (merge_item word xs ys) (let same : k + 1 ≡ 0 + k + 1 = omega arith in same) ∙ rest.each k h;
      longest = ap (merge_item word xs ys) (let same : length items + 1 ≡ 0 + length items + 1 = omega arith in same) ∙ rest.longest;
    }
