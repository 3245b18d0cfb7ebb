-- Laws of samplings: they grow with their lists, keep the items of the ones, and as many as there are ones.
use Rattle.std.proofs.Common.{ℕ, suc, zero, ◌+◌, ◌-◌, ◌<◌, ◌≡◌, Bool, true, cond, List, [], ◌∷◌, length, ap, sym, refl, ◌∙◌, subst, inl, inr, arith, add-one}
use Rattle.std.specs.Prelude.{ℤ}
use Rattle.std.proofs.lemmas.Bool.{cases_Bool}
use Rattle.lucy_word.specs.Bits.{Bits, bit_at, one_if, ones_to}
use Rattle.lucy_word.proofs.BitsLaws.{ones_to-none, ones_to-more}
use Rattle.lucy_word.proofs.IndexLaws.{ones_to-rises}
use Rattle.lucy_stream.specs.Items.{item_at, HasItem}
use Rattle.lucy_stream.specs.Fronts.{IsFront}
use Rattle.lucy_stream.specs.Lists.{kept_past, kept}

item_next : (x : ℤ) (xs : List ℤ) (i : ℕ) → item_at (x ∷ xs) (i + 1) ≡ item_at xs i
item_next x xs i = ap (item_at (x ∷ xs)) (add-one i)

-- the item after k others, where its number has a one, is the kept item of this one's number
kept_past-item : (word : Bits) (n k : ℕ) (xs : List ℤ) → k < length xs → bit_at word (n + k + 1) ≡ true → (o : ℕ) → ones_to word n + o ≡ ones_to word (n + k) →
    HasItem (kept_past word n xs) o (item_at xs k)
kept_past-item word n k [] l b o e = absurd (omega arith)
kept_past-item word n zero (x ∷ xs) l b o e =
    let rest : List ℤ = kept_past word (n + 1) xs in
    let one : bit_at word (n + 1) ≡ true = ap (bit_at word) (omega arith) ∙ b in
    let none : o ≡ 0 = (let q : ones_to word (n + 0) ≡ ones_to word n = ap (ones_to word) (omega arith) in omega arith) in
    subst (λ (c : Bool). HasItem (cond c (x ∷ rest) rest) o x) (sym one) (subst (λ (t : ℕ). HasItem (x ∷ rest) t x) (sym none) (omega arith, refl))
kept_past-item word n (suc k) (x ∷ xs) l b o e =
    let rest : List ℤ = kept_past word (n + 1) xs in
    let bit : bit_at word (n + 1 + k + 1) ≡ true = ap (bit_at word) (omega arith) ∙ b in
    let more : ones_to word (n + 1) ≡ ones_to word n + one_if (bit_at word (n + 1)) = ones_to-more word n in
    let count : ones_to word (n + suc k) ≡ ones_to word (n + 1 + k) = ap (ones_to word) (omega arith) in
    elim (cases_Bool (bit_at word (n + 1))) [
      | inl h ↦
          let one : one_if (bit_at word (n + 1)) ≡ 1 = ap one_if h in
          let some : o ≡ (o - 1) + 1 = omega (arith, ones_to-rises word (n + 1) (n + 1 + k) (omega arith)) in
          let found : HasItem rest (o - 1) (item_at xs k) = kept_past-item word (n + 1) k xs (omega arith) bit (o - 1) (omega arith) in
          subst (λ (c : Bool). HasItem (cond c (x ∷ rest) rest) o (item_at xs k)) (sym h)
          (omega (arith, found.0), found.1 ∙ sym (item_next x rest (o - 1)) ∙ ap (item_at (x ∷ rest)) (sym some))
      | inr h ↦
          let none : one_if (bit_at word (n + 1)) ≡ 0 = ap one_if h in
          subst (λ (c : Bool). HasItem (cond c (x ∷ rest) rest) o (item_at xs k)) (sym h) (kept_past-item word (n + 1) k xs (omega arith) bit o (omega arith))
    ]

kept_past-front : (word : Bits) (k : ℕ) (xs ys : List ℤ) → IsFront xs ys → IsFront (kept_past word k xs) (kept_past word k ys)
kept_past-front word k [] ys f = tt
kept_past-front word k (x ∷ xs) [] f = absurd f
kept_past-front word k (x ∷ xs) (y ∷ ys) f =
    let rest_x : List ℤ = kept_past word (k + 1) xs in
    let rest_y : List ℤ = kept_past word (k + 1) ys in
    let rest : IsFront rest_x rest_y = kept_past-front word (k + 1) xs ys f.1 in
    elim (cases_Bool (bit_at word (k + 1))) [
      | inl b ↦ subst (λ (c : Bool). IsFront (cond c (x ∷ rest_x) rest_x) (cond c (y ∷ rest_y) rest_y)) (sym b) (f.0, rest)
      | inr b ↦ subst (λ (c : Bool). IsFront (cond c (x ∷ rest_x) rest_x) (cond c (y ∷ rest_y) rest_y)) (sym b) rest
    ]

-- samplings grow with their lists
pub kept-front : (word : Bits) (xs ys : List ℤ) → IsFront xs ys → IsFront (kept word xs) (kept word ys)
kept-front word xs ys f = kept_past-front word 0 xs ys f

-- where an item's number has a one, it is kept, after the ones before
pub kept-item : (word : Bits) (items : List ℤ) (k : ℕ) → k < length items → bit_at word (k + 1) ≡ true → HasItem (kept word items) (ones_to word k) (item_at items k)
kept-item word items k l one =
    let bit : bit_at word (0 + k + 1) ≡ true = ap (bit_at word) (omega arith) ∙ one in
    let count : ones_to word (0 + k) ≡ ones_to word k = ap (ones_to word) (omega arith) in
    kept_past-item word 0 k items l bit (ones_to word k) (omega (arith, ones_to-none word))

kept_past-length : (word : Bits) (n : ℕ) (items : List ℤ) → ones_to word n + length (kept_past word n items) ≡ ones_to word (n + length items)
kept_past-length word n [] = (let same : n ≡ n + 0 = omega arith in omega (arith, ap (ones_to word) same))
kept_past-length word n (x ∷ xs) =
    let rest : List ℤ = kept_past word (n + 1) xs in
    let end : ones_to word (n + length (x ∷ xs)) ≡ ones_to word (n + 1 + length xs) = ap (ones_to word) (omega arith) in
    elim (cases_Bool (bit_at word (n + 1))) [
      | inl h ↦
          let one : one_if (bit_at word (n + 1)) ≡ 1 = ap one_if h in
          subst (λ (c : Bool). ones_to word n + length (cond c (x ∷ rest) rest) ≡ ones_to word (n + length (x ∷ xs))) (sym h)
          (omega (arith, kept_past-length word (n + 1) xs, ones_to-more word n))
      | inr h ↦
          let none : one_if (bit_at word (n + 1)) ≡ 0 = ap one_if h in
          subst (λ (c : Bool). ones_to word n + length (cond c (x ∷ rest) rest) ≡ ones_to word (n + length (x ∷ xs))) (sym h)
          (omega (arith, kept_past-length word (n + 1) xs, ones_to-more word n))
    ]

-- as many are kept as there are ones among the items' numbers
pub kept-length : (word : Bits) (items : List ℤ) → length (kept word items) ≡ ones_to word (length items)
kept-length word items =
    let end : ones_to word (0 + length items) ≡ ones_to word (length items) = ap (ones_to word) (omega arith) in
    omega (arith, kept_past-length word 0 items, ones_to-none word)
