-- Laws of names that a set counts.
use Rattle.std.proofs.Common.{ℕ, ◌≡◌, ◌<◌, false, List, [], ◌∷◌, length, map, Bor, Ordering, refl, ap, sym, subst, ◌∙◌, arith}
use Rattle.std.specs.Prelude.{◌↔◌, IsTrue, nat_eq}
use Rattle.std.specs.List.{All, IsDistinct, AllByRecursion}
use Rattle.std.specs.Str.{bytes_eq}
use Rattle.std.specs.Cmp.{IsEquivalence}
use Rattle.std.specs.Cmp.Lexicographic.{slice_cmp, on_texts, texts_ties}
use Rattle.std.specs.Ordering.{nat_cmp, eq_by_cmp}
use Rattle.std.specs.BTreeSet.{BTreeSet, btree_set_len, IsFromIterResult}
use Rattle.std.specs.Set.{distinct_count}
use Rattle.std.proofs.lemmas.Bool.{eq-eqb, eqb-true}
use Rattle.std.proofs.lemmas.List.{length-map, get_or-map}
use Rattle.std.proofs.lemmas.List.Elements.{All-map}
use Rattle.std.proofs.lemmas.Cmp.{eq_by_cmp_equiv}
use Rattle.std.proofs.lemmas.Map.Keys.{IsDistinct-from_sorted}
use Rattle.std.proofs.lemmas.Map.Made.{length-from_keys, IsDistinct-from_count, distinct_count-from_IsDistinct}
use Rattle.lucy_tables.specs.Words.{AreNew}
use Rattle.lucy_tables.specs.Named.{IsFree, names_named, tables_named}
use Rattle.lucy_tables.specs.declared.words.TableWords.{TableWords}

module _ {K : Type 0} (text : K → List ℕ) where
  -- the order of what has names
  abbrev order : K → K → Ordering
  order x y = slice_cmp nat_cmp (text x) (text y)

  laws : IsEquivalence (eq_by_cmp order)
  laws = eq_by_cmp_equiv (on_texts text)

  count : (names : List K) (s : BTreeSet K) → IsFromIterResult order names s → length s.keys ≡ distinct_count (eq_by_cmp order) names
  count names s h = length-from_keys laws s.keys names (IsDistinct-from_sorted order s.keys h.1) h.0

  texts_apart : (x : K) (xs : List K) → AllByRecursion (λ y. eq_by_cmp order x y ≡ false) xs → AllByRecursion (λ b. bytes_eq (text x) b ≡ false) (map text xs)
  texts_apart x [] h = h
  texts_apart x (y ∷ xs) h = (texts_ties (text x) (text y) ∙ h.0, texts_apart x xs h.1)

  names_apart : (x : K) (xs : List K) → AllByRecursion (λ b. bytes_eq (text x) b ≡ false) (map text xs) → AllByRecursion (λ y. eq_by_cmp order x y ≡ false) xs
  names_apart x [] h = h
  names_apart x (y ∷ xs) h = (sym (texts_ties (text x) (text y)) ∙ h.0, names_apart x xs h.1)

  texts_distinct : (xs : List K) → IsDistinct (eq_by_cmp order) xs → IsDistinct bytes_eq (map text xs)
  unfolding IsDistinct
  texts_distinct [] h = h
  texts_distinct (x ∷ xs) h = (texts_apart x xs h.0, texts_distinct xs h.1)

  names_distinct : (xs : List K) → IsDistinct bytes_eq (map text xs) → IsDistinct (eq_by_cmp order) xs
  unfolding IsDistinct
  names_distinct [] h = h
  names_distinct (x ∷ xs) h = (names_apart x xs h.0, names_distinct xs h.1)

  -- where the set of all has as many, no two texts are the same
  distinct_counted : (names : List K) (s : BTreeSet K) → IsFromIterResult order names s → length s.keys ≡ length names → IsDistinct bytes_eq (map text names)
  distinct_counted names s h n = texts_distinct names (IsDistinct-from_count laws names (sym (count names s h) ∙ n))

  -- and the other way round
  counted_distinct : (names : List K) (s : BTreeSet K) → IsFromIterResult order names s → IsDistinct bytes_eq (map text names) → length s.keys ≡ length names
  counted_distinct names s h d = count names s h ∙ distinct_count-from_IsDistinct laws names (names_distinct names d)

-- the names of tables, by the words and by what these stand for
pub names_same : (tables : List TableWords) → map (λ t. t.name) (tables_named tables) ≡ names_named tables
names_same [] = refl
names_same (t ∷ tables) = ap (λ names. t.name.now ∷ names) (names_same tables)

same_names : (tables : List TableWords) → map (λ name. name.now) (map (λ t. t.name) tables) ≡ names_named tables
same_names [] = refl
same_names (t ∷ tables) = ap (λ names. t.name.now ∷ names) (same_names tables)

-- the set of the names has as many exactly where no two are the same
pub distinct_by_count : (tables : List TableWords) (s : BTreeSet (Bor (List ℕ))) (n : ℕ) →
    IsFromIterResult (λ x y. slice_cmp nat_cmp x.now y.now) (map (λ t. t.name) tables) s → n ≡ btree_set_len s →
    IsTrue (nat_eq n (length tables)) ↔ IsDistinct bytes_eq (names_named tables)
distinct_by_count tables s n h len =
    let names : List (Bor (List ℕ)) = map (λ t. t.name) tables in
    let many : length names ≡ length tables = length-map tables (λ t. t.name) in (
      λ e. subst (IsDistinct bytes_eq) (same_names tables) (distinct_counted (λ x. x.now) names s h (sym len ∙ eqb-true n (length tables) e ∙ sym many)),
      λ d. eq-eqb n (length tables) (len ∙ counted_distinct (λ x. x.now) names s h (subst (IsDistinct bytes_eq) (sym (same_names tables)) d) ∙ many),
    )

module _ (there : List (List ℕ)) (tables : List TableWords) where
  -- names that are free, none of which stands twice, are new
  pub new_from_free : All (λ t. IsFree there t.name.now) tables → IsDistinct bytes_eq (names_named tables) → AreNew there (map (λ t. t.name) (tables_named tables))
  new_from_free free once =
      let all : All (IsFree there) (names_named tables) = All-map (IsFree there) (λ t. t.name.now) tables free in
      subst (AreNew there) (sym (names_same tables)) (record { spelled = λ k d h. (all k d h).0; apart = λ k d h. (all k d h).1; once = once })

  -- new names are free
  pub free_from_new : AreNew there (map (λ t. t.name) (tables_named tables)) → All (λ t. IsFree there t.name.now) tables
  free_from_new new =
      let at : AreNew there (names_named tables) = subst (AreNew there) (names_same tables) new in
      λ k d h.
      let l : k < length (names_named tables) = omega (arith, h, length-map tables (λ t. t.name.now)) in
      subst (IsFree there) (get_or-map (λ t. t.name.now) tables k d d.name.now h) (at.spelled k d.name.now l, at.apart k d.name.now l)

  -- and none of them stands twice
  pub once_from_new : AreNew there (map (λ t. t.name) (tables_named tables)) → IsDistinct bytes_eq (names_named tables)
  once_from_new new = (subst (AreNew there) (names_same tables) new).once
