-- Laws of the words that ask for tables.
use Rattle.std.proofs.Common.{ℕ, ◌≡◌, ◌<◌, ◌≤◌, Bool, true, false, List, [], ◌∷◌, ◌++◌, length, drop, refl, ap, sym, subst, inl, inr, ◌∙◌, lit<, arith}
use Rattle.std.specs.Str.{bytes_eq}
use Rattle.std.proofs.lemmas.Slice.Eq.{bytes_eq-Decides}
use Rattle.lucy_app.specs.Answers.{Answer}
use Rattle.lucy_tables.specs.Words.{table_word, TableWords, words_of, BeginsTable, IsCut, AreWhole, most_tables}
use Rattle.lucy_tables.specs.Refusals.{RefusesTableWords}
use Rattle.lucy_tables.specs.Ends.{AreRefused}
use Rattle.lucy_tables.specs.Named.{tables_named}
use Rattle.lucy_tables.specs.declared.words.TableWords.{TableWords as Kept}

cut_once : (t u : List TableWords) (r s : List (List ℕ)) → words_of t ++ r ≡ words_of u ++ s →
    (BeginsTable r → length r < 3) → (BeginsTable s → length s < 3) → (t ≡ u) × (r ≡ s)
cut_once [] [] r s e f g = (refl, e)
cut_once [] (y ∷ u) r s e f g =
    let begins : BeginsTable r = subst BeginsTable (sym e) refl in
    let long : length r ≡ length (table_word ∷ y.name ∷ y.file ∷ (words_of u ++ s)) = ap length e in
    let short : length r < 3 = f begins in
    absurd (omega arith)
cut_once (x ∷ t) [] r s e f g =
    let begins : BeginsTable s = subst BeginsTable e refl in
    let long : length (table_word ∷ x.name ∷ x.file ∷ (words_of t ++ r)) ≡ length s = ap length e in
    let short : length s < 3 = g begins in
    absurd (omega arith)
cut_once (x ∷ t) (y ∷ u) r s e f g =
    let more = cut_once t u r s (ap (drop 3) e) f g in
    let name : x.name ≡ y.name = cc in
    let file : x.file ≡ y.file = cc in
    let same : x ≡ y = ap (λ n. record { name = n; file = x.file }) name ∙ ap (λ f. record { name = y.name; file = f }) file in
    (ap (λ v. v ∷ t) same ∙ ap (λ ts. y ∷ ts) more.0, more.1)

-- words have one cut
pub one_cut : (words : List (List ℕ)) (t u : List TableWords) (r s : List (List ℕ)) → IsCut words t r → IsCut words u s → (t ≡ u) × (r ≡ s)
one_cut words t u r s a b = cut_once t u r s (sym a.joined ∙ b.joined) a.whole b.whole

-- and none are without one
pub some_cut : (words : List (List ℕ)) → (tables : List TableWords) × (rest : List (List ℕ)) × IsCut words tables rest
some_cut [] = ([], [], record { joined = refl; whole = λ h. absurd h })
some_cut (w ∷ []) = ([], w ∷ [], record { joined = refl; whole = λ h. lit< tt })
some_cut (w ∷ n ∷ []) = ([], w ∷ n ∷ [], record { joined = refl; whole = λ h. lit< tt })
some_cut (w ∷ n ∷ f ∷ words) = cut_first w n f words (bytes_eq w table_word) refl (some_cut words)
  where
    cut_first : (w n f : List ℕ) (words : List (List ℕ)) (same : Bool) → bytes_eq w table_word ≡ same →
        (tables : List TableWords) × (rest : List (List ℕ)) × IsCut words tables rest →
        (tables : List TableWords) × (rest : List (List ℕ)) × IsCut (w ∷ n ∷ f ∷ words) tables rest
    cut_first w n f words true e more =
        let first : w ≡ table_word = (bytes_eq-Decides w table_word).0 e in (
          record { name = n; file = f } ∷ more.0,
          more.1,
          record { joined = ap (λ v. v ∷ n ∷ f ∷ words) first ∙ ap (λ vs. table_word ∷ n ∷ f ∷ vs) more.2.joined; whole = more.2.whole },
        )
    cut_first w n f words false e more =
        let other : w ≡ table_word → ⊥ = λ h. let both : bytes_eq w table_word ≡ true = (bytes_eq-Decides w table_word).1 h in cc in
        ([], w ∷ n ∷ f ∷ words, record { joined = refl; whole = λ h. absurd (other h) })

-- no tables are asked for by no words
none_named : (tables : List Kept) → tables_named tables ≡ [] → tables ≡ []
none_named [] e = refl
none_named (t ∷ tables) e = cc e

-- what is refused of words is refused of their cut
pub kept_refused : (there words : List (List ℕ)) (tables : List TableWords) (rest : List (List ℕ)) → IsCut words tables rest → AreRefused there words →
    (answer : Answer) × RefusesTableWords there tables rest answer
kept_refused there words tables rest cut refused =
    let same = one_cut words refused.0 tables refused.1 rest refused.3 cut in
    (refused.2, subst (λ t. RefusesTableWords there t rest refused.2) same.0 (subst (λ r. RefusesTableWords there refused.0 r refused.2) same.1 refused.4))

-- no tables are kept of words that ask for none
pub kept_none : (words : List (List ℕ)) (tables : List Kept) (rest behind : List (List ℕ)) → IsCut words (tables_named tables) rest → IsCut words [] behind →
    tables ≡ []
kept_none words tables rest behind cut none = none_named tables (one_cut words (tables_named tables) [] rest behind cut none).0

-- words that are refused for their tables may not ask for them
pub not_both : (there : List (List ℕ)) (tables : List TableWords) (rest : List (List ℕ)) (answer : Answer) →
    AreWhole there tables rest → length tables ≤ most_tables → RefusesTableWords there tables rest answer → ⊥
not_both there tables rest answer whole few (inl h) = h.0 whole
not_both there tables rest answer whole few (inr h) = absurd (omega (arith, few, h.1))
