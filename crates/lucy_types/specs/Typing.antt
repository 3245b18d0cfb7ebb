-- What the typings that meet rules tell of places.
use Rattle.std.specs.Prelude.{ℕ, suc, ◌≡◌, ◌<◌, ◌↔◌, List, Some, length}
use Rattle.lucy_host.specs.declared.data_type.DataType.{DataType}
use Rattle.lucy_host.specs.declared.data_type.DataType.TheVariants.{Int, Bool}
use Rattle.lucy_place.specs.Proper.{at_one}
use Rattle.lucy_types.specs.declared.ty.Ty.{Ty}
use Rattle.lucy_types.specs.declared.ty.Ty.TheVariants as ty
use Rattle.lucy_types.specs.declared.rule.Rule.{Rule}
use Rattle.lucy_types.specs.declared.rule.Rule.TheVariants.{Is, Alike}

-- a type for each place
abbrev pub Typing : Type 0
Typing = ℕ → DataType

-- a type as that of a place
abbrev pub as_ty : DataType → Ty
as_ty Int = ty.Int
as_ty Bool = ty.Bool

-- a typing meets a rule: the place is of the type, or the two places are of one type
abbrev pub MeetsRule : Typing → Rule → Type 0
MeetsRule a (Is p t) = a p ≡ t
MeetsRule a (Alike p q) = a p ≡ a q

-- a typing that meets each of the rules
abbrev pub IsTyping : (Rule → Type 0) → Typing → Type 0
IsTyping Rules a = (rule : Rule) → Rules rule → MeetsRule a rule

-- every typing says that the place is of the type
abbrev pub SaysType : (Rule → Type 0) → ℕ → DataType → Type 0
SaysType Rules p t = (a : Typing) → IsTyping Rules a → a p ≡ t

-- some typing says so
abbrev pub Allows : (Rule → Type 0) → ℕ → DataType → Type 0
Allows Rules p t = (a : Typing) × IsTyping Rules a × (a p ≡ t)

-- every typing gives the two places one type
abbrev pub AgreeOnType : (Rule → Type 0) → ℕ → ℕ → Type 0
AgreeOnType Rules p q = (a : Typing) → IsTyping Rules a → a p ≡ a q

-- open classes count from 1, and before the first place of each but the first stands one of the class before it
pub record AreNumbered (tys : List Ty) : Type 0 where
  pub from_one : (p : ℕ) → at_one tys p ≡ Some (ty.Open 0) → ⊥
  pub in_order : (p k : ℕ) → at_one tys p ≡ Some (ty.Open (suc (suc k))) → (q : ℕ) × (q < p) × (at_one tys q ≡ Some (ty.Open (suc k)))

-- Some typing meets the rules, and these are the types of so many places: int or bool where every typing says so, and
-- open where some typing says each. Two open places are of one class exactly where every typing gives them one type.
pub record AreTypes (Rules : Rule → Type 0) (places : ℕ) (tys : List Ty) : Type 0 where
  pub typing : Typing
  pub meets : IsTyping Rules typing
  pub all : length tys ≡ places
  pub told : (p : ℕ) (t : DataType) → at_one tys p ≡ Some (as_ty t) → SaysType Rules p t
  pub untold : (p k : ℕ) (t : DataType) → at_one tys p ≡ Some (ty.Open k) → Allows Rules p t
  pub classes : (p q k l : ℕ) → at_one tys p ≡ Some (ty.Open k) → at_one tys q ≡ Some (ty.Open l) → (k ≡ l) ↔ AgreeOnType Rules p q
  pub numbered : AreNumbered tys
