-- How texts grow piece by piece.
use Rattle.std.proofs.Common.{ℕ, zero, suc, ◌+◌, ◌≡◌, ◌≤◌, List, [], ◌∷◌, ◌++◌, Some, drop, length, ap, sym, ◌∙◌, subst, append_assoc, append-nil, arith}
use Rattle.std.proofs.lemmas.List.{at_drop_all}
use Rattle.std.specs.Prelude.{slice_get, flat_map, Result, Ok, Err, OnOk}
use Rattle.lucy_word.proofs.Lists.{four}
use Rattle.lucy_picture.specs.Holding.{Extends}

-- what follows from what is known where there was memory
pub on_ok : {T E : Type 0} (r : Result T E) (P Q : Type 0) → OnOk r P → (P → Q) → OnOk r Q
on_ok (Ok x) P Q p f = f p
on_ok (Err e) P Q p f = tt

pub extends_by : (old new more : List ℕ) → new ≡ old ++ more → Extends old new
extends_by old new more e = record { more = more; puts = e }

pub extends_same : (text : List ℕ) → Extends text text
extends_same text = record { more = []; puts = sym (append-nil text) }

pub extends_more : (a b c : List ℕ) → Extends a b → Extends b c → Extends a c
extends_more a b c m n = record { more = m.more ++ n.more; puts = n.puts ∙ ap (λ t. t ++ n.more) m.puts ∙ append_assoc a m.more n.more }

-- one piece more of a text that is put piece by piece
pub piece_more : (old new whole piece rest : List ℕ) → new ≡ old ++ piece → old ++ (piece ++ rest) ≡ whole → new ++ rest ≡ whole
piece_more old new whole piece rest more before = ap (λ t. t ++ rest) more ∙ append_assoc old piece rest ∙ before

-- where nothing is left to put
pub all_put : {A : Type 0} (text : List A → List ℕ) (xs : List A) (i : ℕ) (out whole : List ℕ) → length xs ≤ i → text [] ≡ [] → out ++ text (drop i xs) ≡ whole → out ≡ whole
all_put text xs i out whole end none before = sym (append-nil out) ∙ ap (λ t. out ++ t) (sym (at_drop_all text xs i end ∙ none)) ∙ before

-- the rest of a list from an element on
pub drop_suc : {A : Type 0} (xs : List A) (i : ℕ) (x : A) → slice_get xs i ≡ Some x → drop i xs ≡ x ∷ drop (suc i) xs
drop_suc [] i x at = cc
drop_suc (y ∷ xs) zero x at = let e : y ≡ x = cc in ap (λ z. z ∷ xs) e
drop_suc (y ∷ xs) (suc i) x at = drop_suc xs i x at

-- that of the next element
pub element_more : {A : Type 0} (text : A → List ℕ) (xs : List A) (i : ℕ) (x : A) (old new whole : List ℕ) → slice_get xs i ≡ Some x → new ≡ old ++ text x →
    old ++ flat_map text (drop i xs) ≡ whole → new ++ flat_map text (drop (i + 1) xs) ≡ whole
element_more text xs i x old new whole at more before =
    let next : suc i ≡ i + 1 = omega arith in
    piece_more old new whole (text x) (flat_map text (drop (i + 1) xs)) more
    (subst (λ l. old ++ flat_map text l ≡ whole) (drop_suc xs i x at ∙ ap (λ n. x ∷ drop n xs) next) before)

-- four pieces, the first of which is of five
pub of_head : (a b c d e p q r s t u v w : List ℕ) → b ≡ a ++ (p ++ (q ++ (r ++ (s ++ t)))) → c ≡ b ++ u → d ≡ c ++ v → e ≡ d ++ w → e ≡ a ++ (p ++ (q ++ (r ++ (s ++ (t ++ (u ++ (v ++ w)))))))
of_head a b c d e p q r s t u v w one two three last =
    four a b c d e (p ++ (q ++ (r ++ (s ++ t)))) u v w one two three last ∙ simp append_assoc
