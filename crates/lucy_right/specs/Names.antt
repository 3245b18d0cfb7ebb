-- That the names of a program are good, read off its tree.
use Rattle.std.specs.Prelude.{ℕ, ◌≡◌, ◌≢◌, List, Some, length, map, take, slice_get, IsSome, IsSomeAnd, Contains, AllPairs}
use Rattle.std.specs.List.{AllByRecursion}
use Rattle.lucy_host.specs.Operators.{Operator, operator_number}
use Rattle.lucy_tree.specs.View.{NodeTree, ProgramTree}
use Rattle.lucy_naming.specs.Texts.{place_in}
use Rattle.lucy_naming.specs.Streams.{streams, node_names, result_count}
use Rattle.lucy_naming.specs.Phrases.{Head, Host, Called, Phrase, Phrases, name, headed, none, and, count, phrase_of}
use Rattle.lucy_naming.specs.Places.{Known, known_in}

-- a form names an operator of the host, or a node above that has so many parameters and results, where it names any
abbrev pub HasOwner : Known → ProgramTree → ℕ → ℕ → Head → Type 0
HasOwner k above results args (Host n) = IsSome (operator_number k.operators n.text)
HasOwner k above results args (Called n base) =
    IsSomeAnd (slice_get above (place_in k.nodes n.text)) (λ f. (length f.params ≡ args) × (length f.results ≡ results))
HasOwner k above results args h = Unit {0}

-- so does each form of an expression, and its names are streams
abbrev mutual
  pub NamesWell : Known → ProgramTree → ℕ → Phrase → Type 0
  NamesWell k above results (name n) = Contains k.streams n.text
  NamesWell k above results (headed h span fs) = HasOwner k above results (count fs) h × AllNameWell k above fs

  pub AllNameWell : Known → ProgramTree → Phrases → Type 0
  AllNameWell k above none = Unit {0}
  AllNameWell k above (and f fs) = NamesWell k above 1 f × AllNameWell k above fs

-- the names of a node with these nodes above it are good: no node above has its name, no two streams and no two results have one, its results are
-- streams, and its right sides name what is there
pub record IsWellNamed (ops : List Operator) (above : ProgramTree) (n : NodeTree) : Type 0 where
  pub new : Contains (node_names above) n.name.text → ⊥
  pub streams_apart : AllPairs (λ t u. t ≢ u) (map (λ s. s.text) (streams n))
  pub results_apart : AllPairs (λ t u. t ≢ u) (map (λ s. s.text) n.results)
  pub results : AllByRecursion (λ r. Contains (map (λ s. s.text) (streams n)) r.text) n.results
  pub defs : AllByRecursion (λ d. NamesWell (known_in ops above n) above (result_count d.left) (phrase_of d.right)) n.defs

-- each node of a program is well named, with those above it
abbrev pub AreWellNamed : List Operator → ProgramTree → Type 0
AreWellNamed ops program = (i : ℕ) (n : NodeTree) → slice_get program i ≡ Some n → IsWellNamed ops (take i program) n
