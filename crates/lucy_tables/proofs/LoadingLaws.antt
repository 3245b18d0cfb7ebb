-- Laws of the files of tables, one after the other.
use Rattle.std.proofs.Common.{ℕ, ℤ, suc, ◌≡◌, ◌<◌, ◌≤◌, ◌+◌, List, [], ◌∷◌, ◌++◌, length, map, take, drop, get_or, Result, refl, ap, sym, subst, ◌∙◌, arith, length-append, append_assoc}
use Rattle.std.proofs.lemmas.List.{length-map, length-take-le, take-append-drop, drop_more, take_more, get_or-map}
use Rattle.lucy_host.specs.Operators.{Operator}
use Rattle.lucy_text.specs.Shelf.{SeenShelf}
use Rattle.lucy_text.specs.declared.shelf.ShelfError.{ShelfError}
use Rattle.lucy_app.specs.World.{Fetched, Fetches}
use Rattle.lucy_app.specs.Answers.{Answer}
use Rattle.lucy_tables.specs.Words.{TableWords}
use Rattle.lucy_tables.specs.Loading.{file_of, IsFile, table_operator, AreLoaded}
use Rattle.lucy_tables.specs.Refusals.{RefusesFile, RefusesFiles}
use Rattle.lucy_tables.specs.Named.{table_named, tables_named}
use Rattle.lucy_tables.specs.declared.words.TableWords.{TableWords as Kept}

-- one operator for each table
pub loaded_length : (tables : List TableWords) (fetched : List (Result (List ℕ) ShelfError)) (operators : List Operator) →
    AreLoaded tables fetched operators → length operators ≡ length tables
loaded_length [] [] operators h = ap length h
loaded_length [] (f ∷ fetched) operators h = absurd h
loaded_length (t ∷ tables) [] operators h = absurd h
loaded_length (t ∷ tables) (f ∷ fetched) operators h =
    ap length h.4 ∙ ap (λ n. suc n) (loaded_length tables fetched h.1 h.3)

-- the file of the next table is fetched
pub fetched_more : (front : List TableWords) (t : TableWords) (behind : List TableWords) (fetched : List (Result (List ℕ) ShelfError)) (operators : List Operator)
    (f : Result (List ℕ) ShelfError) (a b c : SeenShelf) → AreLoaded front fetched operators → Fetches (map file_of (front ++ t ∷ behind)) a b fetched →
    Fetched (file_of t) b c f → Fetches (map file_of (front ++ t ∷ behind)) a c (fetched ++ f ∷ [])
fetched_more [] t behind [] operators f a b c h all next = (c, subst (λ s. Fetched (file_of t) s c f) all next, refl)
fetched_more [] t behind (g ∷ fetched) operators f a b c h all next = absurd h
fetched_more (x ∷ front) t behind [] operators f a b c h all next = absurd h
fetched_more (x ∷ front) t behind (g ∷ fetched) operators f a b c h all next =
    (all.0, all.1, fetched_more front t behind fetched h.1 f all.0 b c h.3 all.2 next)

-- and is a table's
pub loaded_more : (front : List TableWords) (t : TableWords) (fetched : List (Result (List ℕ) ShelfError)) (operators : List Operator)
    (f : Result (List ℕ) ShelfError) (items : List ℤ) → AreLoaded front fetched operators → IsFile f items →
    AreLoaded (front ++ t ∷ []) (fetched ++ f ∷ []) (operators ++ table_operator t.name items ∷ [])
loaded_more [] t [] operators f items h is =
    (items, [], is, refl, ap (λ os. os ++ table_operator t.name items ∷ []) h)
loaded_more [] t (g ∷ fetched) operators f items h is = absurd h
loaded_more (x ∷ front) t [] operators f items h is = absurd h
loaded_more (x ∷ front) t (g ∷ fetched) operators f items h is =
    (h.0, h.1 ++ table_operator t.name items ∷ [], h.2, loaded_more front t fetched h.1 f items h.3 is, ap (λ os. os ++ table_operator t.name items ∷ []) h.4)

-- or is refused
pub refused_next : (front : List TableWords) (t : TableWords) (behind : List TableWords) (fetched : List (Result (List ℕ) ShelfError)) (operators : List Operator)
    (f : Result (List ℕ) ShelfError) (answer : Answer) → AreLoaded front fetched operators → RefusesFile t.name f answer →
    RefusesFiles (front ++ t ∷ behind) (fetched ++ f ∷ []) answer
refused_next [] t behind [] operators f answer h no_table = no_table
refused_next [] t behind (g ∷ fetched) operators f answer h no_table = absurd h
refused_next (x ∷ front) t behind [] operators f answer h no_table = absurd h
refused_next (x ∷ front) t behind (g ∷ []) operators f answer h no_table =
    ((h.0, h.2), refused_next front t behind [] h.1 f answer h.3 no_table)
refused_next (x ∷ front) t behind (g ∷ (k ∷ fetched)) operators f answer h no_table =
    ((h.0, h.2), refused_next front t behind (k ∷ fetched) h.1 f answer h.3 no_table)

-- one step on in a list of tables
module _ (tables : List Kept) (i : ℕ) (d : Kept) (l : i < length tables) where
  names_within : i < length (tables_named tables)
  names_within = omega (arith, l, length-map tables table_named)

  next_table : get_or (tables_named tables) i (table_named d) ≡ table_named (get_or tables i d)
  next_table = get_or-map table_named tables i d (table_named d) l

  next_split : tables_named tables ≡ take i (tables_named tables) ++ table_named (get_or tables i d) ∷ drop (i + 1) (tables_named tables)
  next_split =
      sym (take-append-drop i (tables_named tables))
      ∙ ap (λ us. take i (tables_named tables) ++ us) (drop_more (tables_named tables) i (table_named d) names_within)
      ∙ ap (λ t. take i (tables_named tables) ++ t ∷ drop (i + 1) (tables_named tables)) next_table

  next_front : take (i + 1) (tables_named tables) ≡ take i (tables_named tables) ++ table_named (get_or tables i d) ∷ []
  next_front =
      take_more (tables_named tables) i (table_named d) names_within ∙ ap (λ t. take i (tables_named tables) ++ t ∷ []) next_table

  module _ (fetched : List (Result (List ℕ) ShelfError)) (operators : List Operator) (loaded : AreLoaded (take i (tables_named tables)) fetched operators)
      (f : Result (List ℕ) ShelfError) where
    pub next_fetched : (a b c : SeenShelf) → Fetches (map file_of (tables_named tables)) a b fetched → Fetched (file_of (table_named (get_or tables i d))) b c f →
        Fetches (map file_of (tables_named tables)) a c (fetched ++ f ∷ [])
    next_fetched a b c all next =
        let Of : List TableWords → List (Result (List ℕ) ShelfError) → SeenShelf → Type 0 = λ us gs s. Fetches (map file_of us) a s gs in
        subst (λ us. Of us (fetched ++ f ∷ []) c) (sym next_split)
        (fetched_more (take i (tables_named tables)) (table_named (get_or tables i d)) (drop (i + 1) (tables_named tables)) fetched operators f a b c loaded
        (subst (λ us. Of us fetched b) next_split all) next)

    next_loaded : (items : List ℤ) → IsFile f items →
        AreLoaded (take (i + 1) (tables_named tables)) (fetched ++ f ∷ []) (operators ++ table_operator (get_or tables i d).name.now items ∷ [])
    next_loaded items is =
        subst (λ us. AreLoaded us (fetched ++ f ∷ []) (operators ++ table_operator (get_or tables i d).name.now items ∷ [])) (sym next_front)
        (loaded_more (take i (tables_named tables)) (table_named (get_or tables i d)) fetched operators f items loaded is)

    pub next_refused : (answer : Answer) → RefusesFile (get_or tables i d).name.now f answer → RefusesFiles (tables_named tables) (fetched ++ f ∷ []) answer
    next_refused answer why =
        subst (λ us. RefusesFiles us (fetched ++ f ∷ []) answer) (sym next_split)
        (refused_next (take i (tables_named tables)) (table_named (get_or tables i d)) (drop (i + 1) (tables_named tables)) fetched operators f answer loaded why)

    -- one more is put behind the operators
    pub next_step : (a b c : SeenShelf) (items : List ℤ) (before now then : List Operator) → Fetches (map file_of (tables_named tables)) a b fetched →
        now ≡ before ++ operators → Fetched (file_of (table_named (get_or tables i d))) b c f → IsFile f items →
        then ≡ now ++ table_operator (get_or tables i d).name.now items ∷ [] →
        (gave : List (Result (List ℕ) ShelfError)) × (more : List Operator) × Fetches (map file_of (tables_named tables)) a c gave
        × AreLoaded (take (i + 1) (tables_named tables)) gave more × (then ≡ before ++ more)
    next_step a b c items before now then all so_far next is put =
        let operator : Operator = table_operator (get_or tables i d).name.now items in (
          fetched ++ f ∷ [],
          operators ++ operator ∷ [],
          next_fetched a b c all next,
          next_loaded items is,
          put ∙ ap (λ os. os ++ operator ∷ []) so_far ∙ append_assoc before operators (operator ∷ []),
        )

-- there is room for one more
pub next_fits : (tables : List Kept) (i : ℕ) (fetched : List (Result (List ℕ) ShelfError)) (before after more : List Operator) (most : ℕ) → i < length tables →
    AreLoaded (take i (tables_named tables)) fetched more → after ≡ before ++ more → length before + length tables ≤ most → length after + 1 ≤ most
next_fits tables i fetched before after more most l loaded is fits =
    let all : length after ≡ length (before ++ more) = ap length is in
    let many : length (tables_named tables) ≡ length tables = length-map tables table_named in
    let front : length (take i (tables_named tables)) ≡ i = length-take-le i (tables_named tables) (omega (arith, many, l)) in
    omega (arith, all, length-append before more, loaded_length (take i (tables_named tables)) fetched more loaded, front, l, fits)
