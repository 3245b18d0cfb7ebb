-- A text is one table, and words have one cut.
use Rattle.std.specs.Prelude.{ℕ, ℤ, ◌≡◌, List}
use Rattle.lucy_tables.specs.Tables.{IsTableText, RefusesTable}
use Rattle.lucy_tables.specs.Words.{TableWords, IsCut}
use Rattle.lucy_tables.specs.declared.error.TableError.{TableError}

-- a text is one table at most, or is refused for one reason
pub record AreOneTable : Type 0 where
  pub table : (text : List ℕ) (a b : List ℤ) → IsTableText text a → IsTableText text b → a ≡ b
  pub refused : (text : List ℕ) (a b : TableError) → RefusesTable text a → RefusesTable text b → a ≡ b
  pub apart : (text : List ℕ) (items : List ℤ) (e : TableError) → IsTableText text items → RefusesTable text e → ⊥

-- words have one cut behind the tables that they ask for
pub record HaveOneCut : Type 0 where
  pub one : (words : List (List ℕ)) (tables others : List TableWords) (rest behind : List (List ℕ)) →
      IsCut words tables rest → IsCut words others behind → (tables ≡ others) × (rest ≡ behind)
  pub some : (words : List (List ℕ)) → (tables : List TableWords) × (rest : List (List ℕ)) × IsCut words tables rest
