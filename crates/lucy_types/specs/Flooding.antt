-- What holds while types spread over a graph.
use Rattle.std.specs.Prelude.{ℕ, suc, ◌+◌, ◌≡◌, ◌≤◌, ◌<◌, ◌⊎◌, List, [], ◌∷◌, Option, Some, None, length, map, drop, slice_get, slice_index_or}
use Rattle.lucy_host.specs.declared.data_type.DataType.TheVariants.{Int, Bool}
use Rattle.lucy_types.specs.declared.ty.Ty.{Ty}
use Rattle.lucy_types.specs.declared.ty.Ty.TheVariants as ty
use Rattle.lucy_types.specs.declared.graph.Graph.{Graph}
use Rattle.lucy_types.specs.declared.flood.Flood.{Flood}
use Rattle.lucy_types.specs.declared.flood.Reached.{Reached}
use Rattle.lucy_types.specs.declared.rule.Rule.TheVariants.{Is, Alike}
use Rattle.lucy_types.specs.declared.solve.Solution.{Solution}
use Rattle.lucy_types.specs.declared.solve.Solution.TheVariants.{Types, Clash}
use Rattle.lucy_types.specs.Clash.{IsClashPath}
use Rattle.lucy_types.specs.Graphs.{GraphRule, HasTrue}

-- the type of a place, where it was reached
abbrev pub mark : Flood → ℕ → Option Ty
mark f p = slice_index_or f.marks.items p None

-- what was reached there
abbrev pub reached : Flood → ℕ → Option Reached
reached f i = slice_get f.queue.items i

-- how many places are reached
abbrev pub marked : List (Option Ty) → ℕ
marked [] = 0
marked (None ∷ marks) = marked marks
marked (Some t ∷ marks) = marked marks + 1

-- a type may spread from this place
abbrev pub MayBegin : Graph → ℕ → Ty → Type 0
MayBegin g p ty.Int = GraphRule g (Is p Int)
MayBegin g p ty.Bool = GraphRule g (Is p Bool)
MayBegin g p (ty.Open k) = Unit {0}

-- no place is of the class
abbrev pub IsNew : Flood → Ty → Type 0
IsNew f (ty.Open k) = (p : ℕ) → mark f p ≡ Some (ty.Open k) → ⊥
IsNew f ty.Int = Unit {0}
IsNew f ty.Bool = Unit {0}

-- the type is no open class
abbrev pub IsFixed : Ty → Type 0
IsFixed (ty.Open k) = ⊥
IsFixed ty.Int = Unit {0}
IsFixed ty.Bool = Unit {0}

-- a place was reached as the first of its class, or from one before it that is beside it and of its type
abbrev pub HasOrigin : Graph → Flood → ℕ → Reached → Ty → Type 0
HasOrigin g f i r t =
    ((r.from ≡ i) × MayBegin g r.place t)
    ⊎ ((r.from < i) × (before : Reached) × (reached f r.from ≡ Some before) × GraphRule g (Alike before.place r.place) × (mark f before.place ≡ Some t))

-- the queue holds the places that were reached, each of which has its origin
pub record IsFlood (g : Graph) (f : Flood) : Type 0 where
  pub room : length f.marks.items ≡ length g.near.items
  pub count : length f.queue.items ≡ marked f.marks.items
  pub inside : (i : ℕ) (r : Reached) → reached f i ≡ Some r → (1 ≤ r.place) × (r.place < length g.near.items)
  pub typed : (i : ℕ) (r : Reached) → reached f i ≡ Some r → (t : Ty) × (mark f r.place ≡ Some t)
  pub queued : (p : ℕ) (t : Ty) → mark f p ≡ Some t → (i : ℕ) × (r : Reached) × (reached f i ≡ Some r) × (r.place ≡ p)
  pub origin : (i : ℕ) (r : Reached) (t : Ty) → reached f i ≡ Some r → mark f r.place ≡ Some t → HasOrigin g f i r t
  pub single : (i j k : ℕ) (r s : Reached) → reached f i ≡ Some r → reached f j ≡ Some s → r.from ≡ i → s.from ≡ j
      → mark f r.place ≡ Some (ty.Open k) → mark f s.place ≡ Some (ty.Open k) → i ≡ j

-- what is beside the places reached before this one is of their types
abbrev pub IsClosed : Graph → Flood → ℕ → Type 0
IsClosed g f upto = (i q : ℕ) (r : Reached) → i < upto → reached f i ≡ Some r → GraphRule g (Alike r.place q) → mark f q ≡ mark f r.place

-- a flood that has come to rest
pub record IsSettled (g : Graph) (f : Flood) : Type 0 where
  pub flood : IsFlood g f
  pub closed : IsClosed g f (length f.queue.items)

-- more places were reached, all of this type
pub record Grows (t : Ty) (old new : Flood) : Type 0 where
  pub kept : (p : ℕ) (s : Ty) → mark old p ≡ Some s → mark new p ≡ Some s
  pub only : (p : ℕ) (s : Ty) → mark new p ≡ Some s → (mark old p ≡ Some s) ⊎ ((mark old p ≡ None) × (s ≡ t))
  pub longer : length old.queue.items ≤ length new.queue.items
  pub queue : (i : ℕ) → i < length old.queue.items → reached new i ≡ reached old i
  pub recent : (i : ℕ) (r : Reached) → length old.queue.items ≤ i → reached new i ≡ Some r → mark new r.place ≡ Some t

-- the places reached from this number on are of the type
abbrev pub AreRecent : Flood → ℕ → Ty → Type 0
AreRecent f start t = (i : ℕ) (r : Reached) → start ≤ i → reached f i ≡ Some r → mark f r.place ≡ Some t

-- what is beside the place is not reached yet or of the type
abbrev pub MayReach : Graph → Flood → ℕ → Ty → Type 0
MayReach g f p t = (q : ℕ) → GraphRule g (Alike p q) → (mark f q ≡ None) ⊎ (mark f q ≡ Some t)

-- all that is beside the place is of the type
abbrev pub HasReached : Graph → Flood → ℕ → Ty → Type 0
HasReached g f p t = (q : ℕ) → GraphRule g (Alike p q) → mark f q ≡ Some t

-- a place comes from this number in the queue: as the first of its class, or from one that is beside it and of its type
abbrev pub Comes : Graph → Flood → ℕ → ℕ → Ty → Type 0
Comes g f p from t =
    ((from ≡ length f.queue.items) × MayBegin g p t × IsNew f t)
    ⊎ ((from < length f.queue.items) × (before : Reached) × (reached f from ≡ Some before) × GraphRule g (Alike before.place p) × (mark f before.place ≡ Some t))

-- the flood has grown until the place was reached
pub record HasGrown (g : Graph) (p : ℕ) (t : Ty) (old new : Flood) : Type 0 where
  pub flood : IsFlood g new
  pub grows : Grows t old new
  pub reaches : mark new p ≡ Some t

-- the flood has grown by what is beside the place
pub record Floods (g : Graph) (p : ℕ) (t : Ty) (old new : Flood) : Type 0 where
  pub flood : IsFlood g new
  pub grows : Grows t old new
  pub reaches : HasReached g new p t

-- the flood has grown and come to rest
pub record Settles (g : Graph) (t : Ty) (old new : Flood) : Type 0 where
  pub settled : IsSettled g new
  pub grows : Grows t old new

-- the place was reached
abbrev pub IsReached : Flood → ℕ → Type 0
IsReached f p = (t : Ty) × (mark f p ≡ Some t)

-- each place that must be was reached, and the flood has come to rest
pub record FloodsForced (g : Graph) (forced : ℕ → Type 0) (t : Ty) (old new : Flood) : Type 0 where
  pub settled : IsSettled g new
  pub kept : (p : ℕ) (s : Ty) → mark old p ≡ Some s → mark new p ≡ Some s
  pub only : (p : ℕ) (s : Ty) → mark new p ≡ Some s → (mark old p ≡ Some s) ⊎ (s ≡ t)
  pub all : (p : ℕ) → forced p → IsReached new p

-- open classes count from 1 in order of their first place
pub record HaveOrder (f : Flood) : Type 0 where
  pub from_one : (p : ℕ) → mark f p ≡ Some (ty.Open 0) → ⊥
  pub in_order : (p k : ℕ) → mark f p ≡ Some (ty.Open (suc (suc k))) → (q : ℕ) × (q < p) × (mark f q ≡ Some (ty.Open (suc k)))

-- all places were reached, the new ones in open classes
pub record FloodsAll (g : Graph) (old new : Flood) : Type 0 where
  pub settled : IsSettled g new
  pub kept : (p : ℕ) (s : Ty) → mark old p ≡ Some s → mark new p ≡ Some s
  pub only : (p : ℕ) (s : Ty) → mark new p ≡ Some s → (mark old p ≡ Some s) ⊎ ((k : ℕ) × (s ≡ ty.Open k))
  pub all : (p : ℕ) → 1 ≤ p → p < length g.near.items → IsReached new p
  pub order : HaveOrder new

-- int and then bool spread from the places that must be so, and then all others were reached
pub record HasFlooded (g : Graph) (old new : Flood) : Type 0 where
  pub ints : Flood
  pub bools : Flood
  pub forced_ints : FloodsForced g (HasTrue g.ints.items) ty.Int old ints
  pub forced_bools : FloodsForced g (HasTrue g.bools.items) ty.Bool ints bools
  pub others : FloodsAll g bools new

-- the place is int, though a rule makes it bool
abbrev pub IsTorn : Graph → Flood → ℕ → Type 0
IsTorn g f p = HasTrue g.bools.items p × (mark f p ≡ Some ty.Int)

-- what a flood tells: a clash path, or the types of the places, where none is torn
abbrev pub Tells : Graph → Flood → Solution → Type 0
Tells g f (Types tys) = ((p : ℕ) → IsTorn g f p → ⊥) × (map Some tys.items ≡ drop 1 f.marks.items)
Tells g f (Clash path) = IsClashPath (GraphRule g) path.items
