-- Lists, element by element.
use Rattle.std.proofs.Common.{ℕ, zero, suc, ◌+◌, ◌-◌, ◌≡◌, ◌<◌, ◌≤◌, List, [], ◌∷◌, ◌++◌, Some, length, map, take, drop, sym, ap, ◌∙◌, subst, append_assoc, arith, inl, inr}
use Rattle.std.specs.Prelude.{slice_get, flat_map, ◌⊎◌}
use Rattle.std.specs.List.{range_with_len}
use Rattle.std.proofs.lemmas.List.{length_push, drop_more, map_push, take_at, take_more}
use Rattle.std.proofs.lemmas.Option.{slice_get_within, get_or_from_slice_get}
use Rattle.lucy_word.proofs.Lists.{range_more}
use Rattle.lucy_host.proofs.Elements.{get_there}
use Rattle.lucy_types.proofs.ListLaws.{get_push}

-- an element of two lists stands in one of them
pub in_one : {A : Type 0} (xs ys : List A) (i : ℕ) (x : A) → slice_get (xs ++ ys) i ≡ Some x → ((i < length xs) × (slice_get xs i ≡ Some x)) ⊎ ((j : ℕ) × (i ≡ length xs + j) × (slice_get ys j ≡ Some x))
in_one [] ys i x h = inr (i, omega arith, h)
in_one (y ∷ xs) ys zero x h = inl (omega arith, h)
in_one (y ∷ xs) ys (suc i) x h = elim (in_one xs ys i x h) [ inl a ↦ inl (let l : i < length xs = a.0 in omega arith, a.1) | inr b ↦ inr (b.0, (let e : i ≡ length xs + b.0 = b.1 in omega arith), b.2) ]

-- one element more, which is that of its number, from 1
pub each_more : {X : Type 0} (P : ℕ → X → Type 0) (i : ℕ) (old new : List X) (x : X) → length old ≡ i → ((k : ℕ) (y : X) → slice_get old k ≡ Some y → P (k + 1) y) → new ≡ old ++ x ∷ [] → P (i + 1) x →
    (length new ≡ i + 1) × ((k : ℕ) (y : X) → slice_get new k ≡ Some y → P (k + 1) y)
each_more P i old new x count before more own = (
  (let a = ap length more in let b = length_push old x in omega arith),
  λ k y at.
      elim (get_push old x k y (ap (λ l. slice_get l k) (sym more) ∙ at)) [
        | inl u ↦ before k y u.1
        | inr u ↦ subst (λ z. P (k + 1) z) u.1 (subst (λ j. P (j + 1) x) (sym (u.0 ∙ count)) own)
      ],
)

-- what an element stands for goes last
pub flat_more : {X Y : Type 0} (f : X → List Y) (xs : List X) (i : ℕ) (x : X) (old new whole : List Y) → slice_get xs i ≡ Some x → new ≡ old ++ f x →
    old ++ flat_map f (drop i xs) ≡ whole → new ++ flat_map f (drop (i + 1) xs) ≡ whole
flat_more f xs i x old new whole at more before =
    let rest : drop i xs ≡ x ∷ drop (i + 1) xs = drop_more xs i x (slice_get_within xs i x at) ∙ ap (λ y. y ∷ drop (i + 1) xs) (get_or_from_slice_get xs i x x at) in
    ap (λ l. l ++ flat_map f (drop (i + 1) xs)) more ∙ append_assoc old (f x) (flat_map f (drop (i + 1) xs)) ∙ ap (λ l. old ++ flat_map f l) (sym rest) ∙ before

-- what the next number stands for goes last
pub mapped_more : {Y : Type 0} (f : ℕ → Y) (number : ℕ) (first old new : List Y) (y : Y) → 1 ≤ number → old ≡ first ++ map f (range_with_len 1 (number - 1)) → new ≡ old ++ y ∷ [] → y ≡ f number →
    new ≡ first ++ map f (range_with_len 1 (number + 1 - 1))
mapped_more f number first old new y some is more own =
    let n : ℕ = number - 1 in
    let here : 1 + n ≡ number = omega arith in
    let next : n + 1 ≡ number + 1 - 1 = omega arith in
    let all : map f (range_with_len 1 (n + 1)) ≡ map f (range_with_len 1 n) ++ y ∷ [] =
    ap (map f) (range_more 1 n) ∙ map_push f (range_with_len 1 n) (1 + n) ∙ ap (λ z. map f (range_with_len 1 n) ++ z ∷ []) (ap f here ∙ sym own) in
    more ∙ ap (λ l. l ++ y ∷ []) is ∙ append_assoc first (map f (range_with_len 1 n)) (y ∷ []) ∙ ap (λ l. first ++ l) (sym all) ∙ ap (λ m. first ++ map f (range_with_len 1 m)) next

-- behind the last number
pub mapped_end : {Y : Type 0} (f : ℕ → Y) (number end : ℕ) (first old : List Y) → end ≤ number → number - 1 ≤ end - 1 → old ≡ first ++ map f (range_with_len 1 (number - 1)) →
    old ≡ first ++ map f (range_with_len 1 (end - 1))
mapped_end f number end first old far near is = let e : number - 1 ≡ end - 1 = omega arith in is ∙ ap (λ m. first ++ map f (range_with_len 1 m)) e

-- all of a list, as it is written back
pub whole : {X : Type 0} (n : ℕ) (new old : List X) → length new ≡ n → take n (new ++ drop (length new) old) ≡ new
whole n new old e = take_at new (drop (length new) old) n e

-- what the next element stands for goes last
pub map_next : {X Y : Type 0} (f : X → Y) (xs : List X) (i : ℕ) (y : Y) (old new : List Y) → i < length xs → new ≡ old ++ y ∷ [] → old ≡ map f (take i xs) → ((x : X) → slice_get xs i ≡ Some x → y ≡ f x) → new ≡ map f (take (i + 1) xs)
map_next f xs i y old new within more before own =
    let found = get_there xs i within in
    let x = found.0 in
    let next : take (i + 1) xs ≡ take i xs ++ x ∷ [] = take_more xs i x within ∙ ap (λ z. take i xs ++ z ∷ []) (get_or_from_slice_get xs i x x found.1) in
    more ∙ ap (λ l. l ++ y ∷ []) before ∙ ap (λ z. map f (take i xs) ++ z ∷ []) (own x found.1) ∙ sym (map_push f (take i xs) x) ∙ ap (map f) (sym next)

-- the next number behind others
pub range_next : (first : List ℕ) (n : ℕ) (old new : List ℕ) → new ≡ old ++ n ∷ [] → old ≡ first ++ range_with_len 0 n → new ≡ first ++ range_with_len 0 (n + 1)
range_next first n old new more before =
    let e : n ≡ 0 + n = omega arith in
    more ∙ ap (λ l. l ++ n ∷ []) before ∙ append_assoc first (range_with_len 0 n) (n ∷ []) ∙ ap (λ x. first ++ (range_with_len 0 n ++ x ∷ [])) e ∙ ap (λ l. first ++ l) (sym (range_more 0 n))
