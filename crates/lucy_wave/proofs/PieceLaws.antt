-- Lists that are made piece by piece.
use Rattle.std.proofs.Common.{ℕ, ◌+◌, ◌<◌, ◌≡◌, List, [], ◌∷◌, ◌++◌, length, map, drop, get_or, Some, ap, sym, ◌∙◌, append_assoc}
use Rattle.std.specs.Prelude.{slice_get}
use Rattle.std.proofs.lemmas.List.{drop_more, drop-map}
use Rattle.std.proofs.lemmas.Option.{get_or_from_slice_get}
use Rattle.lucy_word.proofs.Lists.{drop_next}

-- what is made so far, with the next piece and what is left
pub pieces : {A : Type 0} (old new whole piece left rest : List A) → new ≡ old ++ piece → left ≡ piece ++ rest → old ++ left ≡ whole → new ++ rest ≡ whole
pieces old new whole piece left rest more split before =
    ap (λ xs. xs ++ rest) more ∙ append_assoc old piece rest ∙ ap (λ xs. old ++ xs) (sym split) ∙ before

-- what is left of a list, with its first item
pub items_split : {A : Type 0} (xs : List (List A)) (i : ℕ) (x : List A) → slice_get xs i ≡ Some x → i < length xs → drop i xs ≡ x ∷ drop (i + 1) xs
items_split xs i x at h = drop_more xs i [] h ∙ ap (λ y. y ∷ drop (i + 1) xs) (get_or_from_slice_get xs i x [] at)

-- of one that was mapped
pub mapped_split : {A B : Type 0} (f : A → B) (xs : List A) (i : ℕ) (x : A) → i < length xs → x ≡ get_or xs i x → drop i (map f xs) ≡ f x ∷ drop (i + 1) (map f xs)
mapped_split f xs i x h is = drop-map f i xs ∙ ap (map f) (drop_next xs i x h is) ∙ ap (λ ys. f x ∷ ys) (sym (drop-map f (i + 1) xs))
