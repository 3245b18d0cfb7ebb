-- What is gathered of a call by the ports of its callee.
use Rattle.std.specs.Prelude.{ℕ, zero, suc, ◌+◌, ◌-◌, ◌≡◌, ◌≤◌, ◌<◌, List, [], ◌∷◌, ◌++◌, Some, length, map, take, slice_get, slice_index, slice_index_or, slice_set, ◌⊎◌}
use Rattle.std.specs.List.{AllByRecursion}
use Rattle.lucy_host.specs.declared.data_type.DataType.TheVariants.{Int, Bool}
use Rattle.lucy_types.specs.declared.ty.Ty.{Ty}
use Rattle.lucy_types.specs.declared.ty.Ty.TheVariants as ty
use Rattle.lucy_types.specs.declared.rule.Rule.{Rule}
use Rattle.lucy_types.specs.declared.rule.Rule.TheVariants.{Is, Alike}

-- numbers of places, of which there are so many
abbrev pub ArePlacesOf : ℕ → List ℕ → Type 0
ArePlacesOf n ps = AllByRecursion (λ p. (1 ≤ p) × (p ≤ n)) ps

-- the types of a node's ports: of its parameters, then of its results
abbrev pub port_types : ℕ → List ℕ → List Ty → List Ty
port_types params results tys = take params tys ++ map (λ p. slice_index_or tys (p - 1) ty.Int) results

-- the open classes are at most so many
abbrev pub HaveClasses : ℕ → List Ty → Type 0
HaveClasses most tys = (i k : ℕ) → slice_get tys i ≡ Some (ty.Open k) → k ≤ most

-- there is a seat for the type's class
abbrev pub HasSeat : Ty → List ℕ → Type 0
HasSeat ty.Int seats = Unit {0}
HasSeat ty.Bool seats = Unit {0}
HasSeat (ty.Open k) seats = k < length seats

-- a port of a type is its own head, or has the one that stands, with one added, at the seat of its class
abbrev pub IsSeated : Ty → ℕ → List ℕ → List ℕ → ℕ → Type 0
IsSeated ty.Int port old new head = (new ≡ old) × (head ≡ port)
IsSeated ty.Bool port old new head = (new ≡ old) × (head ≡ port)
IsSeated (ty.Open k) port old new head =
    ((slice_index old k ≡ 0) × (new ≡ slice_set old k (port + 1)) × (head ≡ port)) ⊎ ((slice_index old k ≡ head + 1) × (new ≡ old))

-- for each port one of its class, the same for all of a class
pub record AreHeads (ports : List Ty) (heads : List ℕ) : Type 0 where
  pub all : length heads ≡ length ports
  pub inside : (i : ℕ) → i < length ports → slice_index heads i < length ports
  pub same : (i k : ℕ) → slice_get ports i ≡ Some (ty.Open k) → slice_get ports (slice_index heads i) ≡ Some (ty.Open k)
  pub one : (i j k : ℕ) → slice_get ports i ≡ Some (ty.Open k) → slice_get ports j ≡ Some (ty.Open k) → slice_index heads i ≡ slice_index heads j

-- so many numbers from one on
abbrev pub counted : ℕ → ℕ → List ℕ
counted first zero = []
counted first (suc n) = first ∷ counted (first + 1) n

-- what a port of a type says of its place, where the head of its class has another
abbrev pub port_rule : Ty → ℕ → ℕ → Rule
port_rule ty.Int p head = Is p Int
port_rule ty.Bool p head = Is p Bool
port_rule (ty.Open k) p head = Alike p head

-- what ports with these types and heads say of their places, where these are the places of all ports
abbrev pub joined_rules : List ℕ → List Ty → List ℕ → List ℕ → List Rule
joined_rules all (t ∷ ports) (h ∷ heads) (p ∷ places) = port_rule t p (slice_index all h) ∷ joined_rules all ports heads places
joined_rules all ports heads places = []
