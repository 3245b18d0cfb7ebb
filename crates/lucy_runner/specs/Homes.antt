-- Which worker has which actors. Workers and actors count from 0.
use Rattle.std.specs.Prelude.{ℕ, Bool, List, length, map, nat_eq, slice_index}
use Rattle.std.specs.List.{list_any}
use Rattle.lucy_net.specs.Proper.{numbers_where}
use Rattle.lucy_worker.specs.declared.part.Part.{Part}

-- by the homes of all actors, whether a worker is the home of some actor
abbrev pub is_home : (homes : List ℕ) → (worker : ℕ) → Bool
is_home homes worker = list_any (nat_eq worker) homes

-- the actors whose home it is, ascending
abbrev pub at_home : (homes : List ℕ) → (worker : ℕ) → List ℕ
at_home homes worker = numbers_where (λ actor. nat_eq (slice_index homes actor) worker) (length homes)

-- for each of so many workers that is the home of an actor, in order of the workers, the actors whose home it is
abbrev pub crew_by : (workers : ℕ) → (homes : List ℕ) → List (List ℕ)
crew_by workers homes = map (at_home homes) (numbers_where (is_home homes) workers)

-- by the parts that each worker has, the actors that these are, in order of its parts
abbrev pub actors_by : List (List Part) → List (List ℕ)
actors_by crew = map (map (λ (p : Part). p.number)) crew
