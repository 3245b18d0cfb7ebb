-- The instances of a program in the order in which they are made, and what holds of them.
use Rattle.std.specs.Prelude.{ℕ, suc, ◌+◌, ◌-◌, ◌≡◌, ◌≤◌, ◌<◌, List, [], ◌∷◌, length, slice_get, Option, Some, None, if◌then◌else◌, nat_lt}
use Rattle.lucy_place.specs.declared.placed.PlacedNode.{PlacedNode}
use Rattle.lucy_place.specs.declared.entry.CallSite.{CallSite}
use Rattle.lucy_kahn.specs.declared.instances.Caller.{Caller}
use Rattle.lucy_kahn.specs.declared.instances.Instance.{Instance}
use Rattle.lucy_kahn.specs.Spots.{node_at}

-- the instances that calls of an instance make, from a call of this number on
abbrev pub made : ℕ → ℕ → List CallSite → List Instance
made instance call [] = []
made instance call (site ∷ sites) = record { node = site.node; caller = Some (record { instance = instance; call = call }) } ∷ made instance (suc call) sites

-- the path of an instance is that of its caller and the call; that of main is empty
abbrev pub IsCalledBy : (ℕ → List ℕ) → ℕ → List ℕ → Option Caller → Type 0
IsCalledBy paths count path None = path ≡ []
IsCalledBy paths count path (Some by) = (by.instance < count) × (path ≡ by.call ∷ paths by.instance)

-- the instance of this path, among so many
pub record IsInstance (nodes : List PlacedNode) (paths : ℕ → List ℕ) (count : ℕ) (path : List ℕ) (x : Instance) : Type 0 where
  pub within : x.node < length nodes
  pub node : node_at nodes path ≡ slice_get nodes x.node
  pub caller : IsCalledBy paths count path x.caller

-- the calls of an instance with this path make the instances from the first one on
abbrev pub AreMade : List PlacedNode → (ℕ → List ℕ) → ℕ → List ℕ → ℕ → Type 0
AreMade nodes paths count path first =
    (n : PlacedNode) (site : CallSite) (j : ℕ) → node_at nodes path ≡ Some n → slice_get n.calls j ≡ Some site → (first + j < count) × (paths (first + j) ≡ suc j ∷ path)

-- instances with these paths, of which those that have an entry in `inner` have all their calls made
pub record AreInstances (nodes : List PlacedNode) (list : List Instance) (inner : List ℕ) (paths : ℕ → List ℕ) : Type 0 where
  pub some : 0 < length list
  pub most : length inner ≤ length list
  pub main : paths 0 ≡ []
  pub each : (i : ℕ) (x : Instance) → slice_get list i ≡ Some x → IsInstance nodes paths (length list) (paths i) x
  pub calls : (i first : ℕ) → slice_get inner i ≡ Some first → AreMade nodes paths (length list) (paths i) first

-- all instances of a program
pub record AreAll (nodes : List PlacedNode) (list : List Instance) (inner : List ℕ) : Type 0 where
  pub paths : ℕ → List ℕ
  pub instances : AreInstances nodes list inner paths
  pub all : length inner ≡ length list

-- the paths, once the calls of an instance have made the instances from the first one on
abbrev pub paths_with : (ℕ → List ℕ) → ℕ → ℕ → ℕ → List ℕ
paths_with paths first caller i = if nat_lt i first then paths i else suc (i - first) ∷ paths caller
