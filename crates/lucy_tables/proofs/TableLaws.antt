-- Laws of the texts of tables.
use Rattle.std.proofs.Common.{ℕ, zero, suc, ℤ, ◌≡◌, ◌<◌, ◌≤◌, List, [], ◌∷◌, ◌++◌, length, take, drop, map, None, Result, Ok, Err, refl, ap, sym, ◌∙◌, arith, length-append}
use Rattle.std.proofs.lemmas.List.{take_all, take_at, length-map}
use Rattle.lucy_word.specs.declared.limit.Limit.TheVariants as limit
use Rattle.lucy_fields.specs.Numbers.{int_of}
use Rattle.lucy_fields.specs.Readings.{reading}
use Rattle.lucy_fields.proofs.ReadingLaws.{good, read_bad, read_all, never_both, one_place}
use Rattle.lucy_tables.specs.Tables.{numbers_of, most_items, IsTableText, RefusesTable}
use Rattle.lucy_tables.specs.declared.error.TableError.{TableError}
use Rattle.lucy_tables.specs.declared.error.TableError.TheVariants.{BadNumber, Limit, OutOfMemory}

-- the first bad field stands in each front that is long enough
bad_in_front : {A : Type 0} (front : List A) (place n : ℕ) (rest : List (Result A ℕ)) → length front < n →
    (more : List (Result A ℕ)) × (take n (good front ++ (Err place ∷ rest)) ≡ good front ++ (Err place ∷ more))
bad_in_front [] place zero rest h = absurd (omega arith)
bad_in_front [] place (suc n) rest h = (take n rest, refl)
bad_in_front (v ∷ front) place zero rest h = absurd (omega arith)
bad_in_front (v ∷ front) place (suc n) rest h =
    let r = bad_in_front front place n rest (omega arith) in (r.0, ap (λ rs. Ok v ∷ rs) r.1)

good_length : (items : List ℤ) → length (good items) ≡ length items
good_length items = length-map items (λ v. Ok v)

module _ (text : List ℕ) (items : List ℤ) where
  -- one more field behind as many items as a table may have
  pub full_refuses : (left more : List (ℕ × List ℕ)) (next : ℕ × List ℕ) → numbers_of text ≡ good items ++ map (reading int_of) left →
      left ≡ next ∷ more → length items ≡ most_items → RefusesTable text (Limit limit.TableItems)
  full_refuses left more next e l full =
      let all : numbers_of text ≡ good items ++ (reading int_of next ∷ map (reading int_of) more) = e ∙ ap (λ fs. good items ++ map (reading int_of) fs) l in
      let front : take most_items (numbers_of text) ≡ good items =
      ap (take most_items) all ∙ take_at (good items) (reading int_of next ∷ map (reading int_of) more) most_items (good_length items ∙ full) in
      let count : length (numbers_of text) ≡ length (good items ++ (reading int_of next ∷ map (reading int_of) more)) = ap length all in
      (refl, (items, front), omega (arith, full, count, good_length items, length-append (good items) (reading int_of next ∷ map (reading int_of) more)))

  -- a field that is no number behind fewer
  pub bad_refuses : (left more : List (ℕ × List ℕ)) (place : ℕ) (field : List ℕ) → numbers_of text ≡ good items ++ map (reading int_of) left →
      left ≡ (place, field) ∷ more → int_of field ≡ None → length items < most_items → RefusesTable text (BadNumber place)
  bad_refuses left more place field e l none few =
      let bad = read_bad int_of (numbers_of text) items place field left more e l none in
      let front = bad_in_front items place most_items (map (reading int_of) more) few in
      (items, front.0, ap (take most_items) bad ∙ front.1)

  -- no field is left
  pub all_are_table : (left : List (ℕ × List ℕ)) → numbers_of text ≡ good items ++ map (reading int_of) left → left ≡ [] →
      length items ≤ most_items → IsTableText text items
  all_are_table left e l few = record { read = read_all int_of (numbers_of text) items left e l; short = few }

one_list : (a b : List ℤ) → good a ≡ good b → a ≡ b
one_list [] [] e = refl
one_list [] (y ∷ b) e = cc e
one_list (x ∷ a) [] e = cc e
one_list (x ∷ a) (y ∷ b) e =
    let head : x ≡ y = cc in
    ap (λ v. v ∷ a) head ∙ ap (λ vs. y ∷ vs) (one_list a b (ap (drop 1) e))

-- a text is one table at most
pub one_table : (text : List ℕ) (a b : List ℤ) → IsTableText text a → IsTableText text b → a ≡ b
one_table text a b f g = one_list a b (sym f.read ∙ g.read)

-- a text is refused for one reason
pub one_refusal : (text : List ℕ) (a b : TableError) → RefusesTable text a → RefusesTable text b → a ≡ b
one_refusal text (BadNumber p) (BadNumber q) f g = ap BadNumber (one_place f.0 g.0 p q f.1 g.1 (sym f.2 ∙ g.2))
one_refusal text (BadNumber p) (Limit m) f g = absurd (never_both g.1.0 f.0 p f.1 (sym g.1.1 ∙ f.2))
one_refusal text (Limit l) (BadNumber q) f g = absurd (never_both f.1.0 g.0 q g.1 (sym f.1.1 ∙ g.2))
one_refusal text (Limit l) (Limit m) f g = ap Limit (f.0 ∙ sym g.0)
one_refusal text OutOfMemory b f g = absurd f
one_refusal text (BadNumber p) OutOfMemory f g = absurd g
one_refusal text (Limit l) OutOfMemory f g = absurd g

-- and a table for none
pub table_or_refusal : (text : List ℕ) (items : List ℤ) (e : TableError) → IsTableText text items → RefusesTable text e → ⊥
table_or_refusal text items (BadNumber place) is f =
    let front : take most_items (numbers_of text) ≡ good items =
    ap (take most_items) is.read ∙ take_all most_items (good items) (omega (arith, is.short, good_length items)) in
    never_both items f.0 place f.1 (sym front ∙ f.2)
table_or_refusal text items (Limit l) is f =
    let count : length (numbers_of text) ≡ length (good items) = ap length is.read in
    absurd (omega (arith, is.short, f.2, count, good_length items))
table_or_refusal text items OutOfMemory is f = f
