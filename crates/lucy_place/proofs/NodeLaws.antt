-- What stands at the numbers of a placed node.
use Rattle.std.proofs.Common.{ℕ, zero, suc, ◌+◌, ◌≡◌, ◌≤◌, ◌<◌, List, Some, length, get_or, refl, ap, sym, ◌∙◌, arith}
use Rattle.std.specs.Prelude.{slice_get}
use Rattle.std.proofs.lemmas.Option.{none-some, same_Some, slice_get_within, slice_get_read}
use Rattle.lucy_place.specs.declared.entry.CallSite.{CallSite}
use Rattle.lucy_place.specs.declared.entry.PlaceEntry.{PlaceEntry}
use Rattle.lucy_place.specs.declared.entry.PlaceKind.{PlaceKind}
use Rattle.lucy_place.specs.declared.entry.PlaceKind.TheVariants as place_kind
use Rattle.lucy_place.specs.declared.placed.PlacedNode.{PlacedNode}
use Rattle.lucy_place.specs.Standing.{at_one, Stands, IsPlace, IsNamed}
use Rattle.lucy_place.specs.Proper.{IsProperKind}

-- the number of an element counts from 1 up to the length
pub at_one_within : {A : Type 0} (xs : List A) (p : ℕ) (x : A) → at_one xs p ≡ Some x → (1 ≤ p) × (p ≤ length xs)
at_one_within xs zero x h = absurd (none-some x h)
at_one_within xs (suc n) x h = let w : n < length xs = slice_get_within xs n x h in (omega arith, omega arith)

-- what has a name is a place
pub named_place : (n : PlacedNode) (p : ℕ) → IsNamed n p → IsPlace n p
named_place n p named = let own = at_one_within n.places p named.0 named.2 in (own.0, own.1)

-- what stands at a place is one thing
pub stands_one : (n : PlacedNode) (p : ℕ) (kind other : PlaceKind) → Stands n p kind → Stands n p other → kind ≡ other
stands_one n p kind other s t = sym s.2 ∙ ap (λ (e : PlaceEntry). e.kind) (same_Some s.0 t.0 (sym s.1 ∙ t.1)) ∙ t.2

-- a call as it is read
pub site_stands : (n : PlacedNode) (sites : List CallSite) (i : ℕ) (site : CallSite) → sites ≡ n.calls → i < length sites → site ≡ get_or sites i site → slice_get n.calls i ≡ Some site
site_stands n sites i site e l r = ap (λ cs. slice_get cs i) (sym e) ∙ slice_get_read sites (length sites) i site refl l r

-- a kind that stands no later than the parameters is a parameter
pub only_param : (n : PlacedNode) (p : ℕ) (kind : PlaceKind) → p ≤ n.params → IsProperKind n p kind → kind ≡ place_kind.Param
only_param n p place_kind.Param low is = refl
only_param n p (place_kind.Defined e) low is = absurd (let l : n.params < p = is.0 in omega arith)
only_param n p (place_kind.Lit l) low is = absurd (let l : n.params < p = is in omega arith)
only_param n p (place_kind.Op op args) low is = absurd (let l : n.params < p = is.0 in omega arith)
only_param n p (place_kind.Host op a b) low is = absurd (let l : n.params < p = is.0 in omega arith)
only_param n p (place_kind.When e w) low is = absurd (let l : n.params < p = is.0 in omega arith)
only_param n p (place_kind.Merge w a b) low is = absurd (let l : n.params < p = is.0 in omega arith)
only_param n p (place_kind.Fby l e) low is = absurd (let l : n.params < p = is.0 in omega arith)
only_param n p (place_kind.Buffer k e) low is = absurd (let l : n.params < p = is.0 in omega arith)
only_param n p (place_kind.Result c j) low is = absurd (let l : n.params < p = is.0 in omega arith)
