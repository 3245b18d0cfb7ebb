-- Lists, entry by entry.
use Rattle.std.proofs.Common.{◌≡◌, ◌+◌, ◌<◌, ℕ, List, [], ◌∷◌, ◌++◌, length, map, drop, get_or, ap, sym, ◌∙◌, append_assoc}
use Rattle.lucy_word.proofs.Lists.{drop_next}

-- what the entries up to one give, and what is left gives
pub listed_next : {A B : Type 0} (f : A → B) (found more all : List B) (xs : List A) (i : ℕ) (x : A) → i < length xs → x ≡ get_or xs i x → more ≡ found ++ f x ∷ [] →
    found ++ map f (drop i xs) ≡ all → more ++ map f (drop (i + 1) xs) ≡ all
listed_next f found more all xs i x h e put before =
    ap (λ l. l ++ map f (drop (i + 1) xs)) put ∙ append_assoc found (f x ∷ []) (map f (drop (i + 1) xs)) ∙ ap (λ l. found ++ map f l) (sym (drop_next xs i x h e)) ∙ before
