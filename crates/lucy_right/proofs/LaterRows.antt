-- A program with a buffer stands for one thing, and what that is: let node later (x : int :: (10)) = y where rec y :: (01) = buffer x
use Rattle.std.proofs.Common.{ℕ, zero, suc, ◌+◌, ◌*◌, ◌<◌, ◌≤◌, ◌≡◌, true, false, List, [], ◌∷◌, Some, None, length, take, slice_get, refl, ap, ◌∙◌, subst, inl, inr, arith}
use Rattle.std.specs.Prelude.{codes, slice_index_or}
use Rattle.std.specs.List.{AllByRecursion}
use Rattle.std.proofs.lemmas.List.{ext_get_or}
use Rattle.std.proofs.lemmas.Option.{same_Some, slice_get-get_or, none-some}
use Rattle.lucy_word.specs.Bits.{Bits, IsWord, bit_at, ones_to}
use Rattle.lucy_word.specs.Adaptable.{IsSize}
use Rattle.lucy_word.specs.Always.{always}
use Rattle.lucy_word.specs.Shortest.{Same, IsShortest}
use Rattle.lucy_word.specs.Shortened.{shortened}
use Rattle.lucy_word.proofs.BitsLaws.{ones_to-none, period_some}
use Rattle.lucy_word.proofs.IndexLaws.{ones_to-periods}
use Rattle.lucy_word.proofs.ShortLaws.{shortest_one, same_sym, same_trans}
use Rattle.lucy_word.proofs.ShortenedLaws.{shortened_is}
use Rattle.lucy_host.specs.declared.data_type.DataType.{DataType}
use Rattle.lucy_host.specs.declared.data_type.DataType.TheVariants.{Int, Bool}
use Rattle.lucy_host.specs.Operators.{Operator}
use Rattle.lucy_tree.specs.declared.span.Name.{Name}
use Rattle.lucy_tree.specs.Tree.{variable, buffered}
use Rattle.lucy_tree.specs.View.{NodeTree}
use Rattle.lucy_place.specs.declared.entry.PlaceEntry.{PlaceEntry}
use Rattle.lucy_place.specs.declared.entry.PlaceKind.TheVariants as kind
use Rattle.lucy_place.specs.declared.placed.PlacedNode.{PlacedNode}
use Rattle.lucy_place.specs.Proper.{at_one}
use Rattle.lucy_types.specs.declared.ty.Ty.{Ty}
use Rattle.lucy_types.specs.declared.ty.Ty.TheVariants as ty
use Rattle.lucy_types.specs.Rules.{IsRule}
use Rattle.lucy_types.specs.Typing.{Typing, MeetsRule, IsTyping, SaysType, AreTypes, as_ty}
use Rattle.lucy_types.specs.Gathered.{own_rules}
use Rattle.lucy_types.specs.Programs.{IsTyped}
use Rattle.lucy_types.proofs.ListLaws.{contains_head, all_at}
use Rattle.lucy_types.proofs.RuleLaws.{all_contains, own_complete}
use Rattle.lucy_types.proofs.ProgramLaws.{typed_unique}
use Rattle.lucy_need.specs.Meeting.{assigned}
use Rattle.lucy_clock.specs.declared.node_clock.NodeClock.{NodeClock}
use Rattle.lucy_check.proofs.OneVerdict.{one_size}
use Rattle.lucy_flat.specs.Clocked.{IsClock, AreClocked}
use Rattle.lucy_naming.specs.Places.{AreNodesOf}
use Rattle.lucy_right.specs.Right.{Meaning, StandsFor}
use Rattle.lucy_naming.proofs.NodesLaws.{are_placed}

-- (10) and (01)
abbrev pub odd : Bits
odd = record { prefix = []; period = true ∷ false ∷ [] }

abbrev pub even : Bits
even = record { prefix = []; period = false ∷ true ∷ [] }

-- the program
abbrev pub a_name : List ℕ → ℕ → ℕ → Name
a_name text from to = record { text = text; span = record { from = from; to = to } }

unfoldable pub later : NodeTree
later = record {
  name = a_name (codes "later") 9 14;
  params = record { name = a_name (codes "x") 16 17; holds = Some Int; word = Some odd } ∷ [];
  results = a_name (codes "y") 35 36 ∷ [];
  defs = record { left = record { name = a_name (codes "y") 47 48; holds = None; word = Some even } ∷ []; right = buffered None (variable (a_name (codes "x") 66 67)) (record { from = 59; to = 65 }) } ∷ [];
}

-- its places: x, y, and the buffer
abbrev pub x_place : PlaceEntry
x_place = record { name = Some (a_name (codes "x") 16 17); holds = Some Int; word = Some odd; kind = kind.Param }

abbrev pub y_place : PlaceEntry
y_place = record { name = Some (a_name (codes "y") 47 48); holds = None; word = Some even; kind = kind.Defined 3 }

abbrev pub b_place : PlaceEntry
b_place = record { name = None; holds = None; word = None; kind = kind.Buffer 1 1 }

abbrev pub node : PlacedNode
node = record { name = a_name (codes "later") 9 14; params = 1; places = x_place ∷ y_place ∷ b_place ∷ []; results = 2 ∷ []; buffers = 3 ∷ []; bounds = None ∷ []; calls = [] }

-- their types, their words behind that of the base, and the size of the buffer
abbrev pub types : List Ty
types = ty.Int ∷ ty.Int ∷ ty.Int ∷ []

abbrev pub words : List Bits
words = always ∷ odd ∷ even ∷ even ∷ []

abbrev pub clock : NodeClock
clock = record { words = words; sizes = 1 ∷ [] }

abbrev pub meaning : Meaning
meaning = record { nodes = node ∷ []; types = types ∷ []; clocks = clock ∷ [] }

-- what holds of the one element of a list
pub only : {A : Type 0} (P : ℕ → A → Type 0) (x : A) → P 0 x → (i : ℕ) (y : A) → slice_get (x ∷ []) i ≡ Some y → P i y
only P x h zero y e = subst (P 0) (same_Some x y e) h
only P x h (suc i) y e = absurd (none-some y e)

-- its nodes
nodes_alone : (ops : List Operator) (nodes : List PlacedNode) → AreNodesOf ops (later ∷ []) nodes → nodes ≡ node ∷ []
unfolding later
nodes_alone ops nodes are = are_placed ops (later ∷ []) nodes are

-- its types: every typing says that each place is int
ints : (a : Typing) → IsTyping (IsRule [] [] node) a → (a 1 ≡ Int) × (a 2 ≡ Int) × (a 3 ≡ Int)
ints a meets =
    let x : a 1 ≡ Int = meets _ (inl record { place = 1; entry = x_place; stands = refl; says = contains_head _ [] }) in
    let y : a 2 ≡ a 3 = meets _ (inl record { place = 2; entry = y_place; stands = refl; says = contains_head _ [] }) in
    let b : a 3 ≡ a 1 = meets _ (inl record { place = 3; entry = b_place; stands = refl; says = contains_head _ [] }) in
    (x, y ∙ b ∙ x, b ∙ x)

ints_meet : IsTyping (IsRule [] [] node) (λ p. Int)
ints_meet rule (inl r) = all_contains (MeetsRule (λ p. Int)) (own_rules 1 node.places) rule (refl, (refl, (refl, tt))) (own_complete node rule r)
ints_meet rule (inr r) = absurd (none-some r.callee r.called)

int_at : (p : ℕ) (u : Ty) → at_one types p ≡ Some u → (u ≡ ty.Int) × SaysType (IsRule [] [] node) p Int
int_at zero u e = absurd (none-some u e)
int_at (suc zero) u e = (cc, λ a m. (ints a m).0)
int_at (suc (suc zero)) u e = (cc, λ a m. (ints a m).1)
int_at (suc (suc (suc zero))) u e = (cc, λ a m. (ints a m).2)
int_at (suc (suc (suc (suc p)))) u e = absurd (none-some u e)

int_told : (p : ℕ) (t : DataType) → at_one types p ≡ Some (as_ty t) → SaysType (IsRule [] [] node) p t
int_told p Int e = (int_at p ty.Int e).1
int_told p Bool e = let bad : ty.Bool ≡ ty.Int = (int_at p ty.Bool e).0 in absurd (cc bad)

none_open : (p k : ℕ) → at_one types p ≡ Some (ty.Open k) → ⊥
none_open p k e = let bad : ty.Open k ≡ ty.Int = (int_at p (ty.Open k) e).0 in cc bad

are_types : AreTypes (IsRule [] [] node) 3 types
are_types = record {
  typing = λ p. Int;
  meets = ints_meet;
  all = refl;
  told = int_told;
  untold = λ p k t e. absurd (none_open p k e);
  classes = λ p q k l e f. absurd (none_open p k e);
  numbered = record { from_one = λ p e. none_open p 0 e; in_order = λ p k e. absurd (none_open p (suc (suc k)) e) };
}

pub typed : IsTyped (node ∷ []) (types ∷ [])
typed = record {
  all = refl;
  each = λ i n tys e f. only (λ (i : ℕ) (n : PlacedNode). (tys : List Ty) → slice_get (types ∷ []) i ≡ Some tys → AreTypes (IsRule (take i (node ∷ [])) (take i (types ∷ [])) n) (length n.places) tys) node
      (λ tys f. subst (AreTypes (IsRule [] [] node) 3) (same_Some types tys f) are_types) i n e tys f;
}

-- its words: at each instant (01) has had as many ones as (10), or one less
pub counts : (ones_to odd 1 ≡ 1) × (ones_to odd 2 ≡ 1) × (ones_to odd 3 ≡ 2) × (ones_to odd 4 ≡ 2) × (ones_to odd 5 ≡ 3) × (ones_to even 1 ≡ 0)
unfolding ones_to bit_at
counts = (refl, refl, refl, refl, refl, refl)

pub lead : (i : ℕ) → (ones_to even i ≤ ones_to odd i) × (ones_to odd i ≤ ones_to even i + 1)
lead zero = (omega (arith, ones_to-none odd, ones_to-none even), omega (arith, ones_to-none odd, ones_to-none even))
lead (suc zero) = (omega (arith, counts.0, counts.5), omega (arith, counts.0, counts.5))
lead (suc (suc i)) =
    let e : suc (suc i) ≡ i + 1 * 2 = omega arith in
    let of_odd : ones_to odd (suc (suc i)) ≡ ones_to odd i + 1 = ap (ones_to odd) e ∙ ones_to-periods odd i 1 (omega arith) in
    let of_even : ones_to even (suc (suc i)) ≡ ones_to even i + 1 = ap (ones_to even) e ∙ ones_to-periods even i 1 (omega arith) in
    let h = lead i in (omega (arith, h.0), omega (arith, h.1))

pub size_one : IsSize odd even 1
size_one = record { reached = (1, omega (arith, counts.0, counts.5)); passed = λ i. (lead i).1 }

pub shorts : IsShortest always × IsShortest odd × IsShortest even
unfolding shortened bit_at
shorts = ((shortened_is always (omega arith)).shortest, (shortened_is odd (omega arith)).shortest, (shortened_is even (omega arith)).shortest)

pub word_at : (c : ℕ) → c < 4 → IsWord (assigned words c) × IsShortest (assigned words c)
word_at zero h = (record { has_one = omega arith }, shorts.0)
word_at (suc zero) h = (record { has_one = omega arith }, shorts.1)
word_at (suc (suc zero)) h = (record { has_one = omega arith }, shorts.2)
word_at (suc (suc (suc zero))) h = (record { has_one = omega arith }, shorts.2)
word_at (suc (suc (suc (suc c)))) h = absurd (omega (arith, h))

module _ (c : NodeClock) (is : IsClock [] node c) (short : AllByRecursion IsShortest c.words) where
  same_at : (i : ℕ) → i < 4 → Same (assigned c.words i) (assigned words i)
  same_at zero h = is.well.base
  same_at (suc zero) h = is.well.written 1 x_place odd refl refl
  same_at (suc (suc zero)) h = is.well.written 2 y_place even refl refl
  same_at (suc (suc (suc zero))) h =
      same_trans (assigned c.words 3) (assigned c.words 2) even (same_sym (assigned c.words 2) (assigned c.words 3) (is.well.forms 2 y_place refl)) (is.well.written 2 y_place even refl refl)
  same_at (suc (suc (suc (suc i)))) h = absurd (omega (arith, h))

  words_alone : c.words ≡ words
  words_alone = ext_get_or always c.words words is.count
      (λ i h.
      let below : i < 4 = omega (arith, h, is.count) in
      let own = word_at i below in
      shortest_one (assigned c.words i) (assigned words i) (all_at IsShortest c.words i (assigned c.words i) short (slice_get-get_or c.words i always h)) own.1
      (period_some (assigned c.words i) (is.well.words i below)) (period_some (assigned words i) own.0) (same_at i below))

  size_at : (i : ℕ) → i < length c.sizes → slice_index_or c.sizes i 0 ≡ slice_index_or (1 ∷ []) i 0
  size_at zero h =
      let s : ℕ = slice_index_or c.sizes 0 0 in
      let is_size = is.sizes.each 0 3 1 1 s refl (slice_get-get_or c.sizes 0 0 h) (b_place, refl, refl) in
      one_size odd even s 1 (subst (λ (ws : List Bits). IsSize (assigned ws 1) (assigned ws 3) s) words_alone is_size) size_one
  size_at (suc i) h = absurd (omega (arith, h, is.sizes.count))

  clock_alone : c ≡ clock
  clock_alone =
      let sizes : c.sizes ≡ 1 ∷ [] = ext_get_or 0 c.sizes (1 ∷ []) is.sizes.count size_at in
      ap (λ (ws : List Bits). let r : NodeClock = record { words = ws; sizes = c.sizes } in r) words_alone
      ∙ ap (λ (ss : List ℕ). let r : NodeClock = record { words = words; sizes = ss } in r) sizes

clocks_alone : (cs : List NodeClock) → AreClocked (node ∷ []) cs → AllByRecursion (λ (c : NodeClock). AllByRecursion IsShortest c.words) cs → cs ≡ clock ∷ []
clocks_alone [] are short = absurd (omega (arith, are.count))
clocks_alone (c ∷ []) are short = ap (λ c. c ∷ []) (clock_alone c (are.each 0 node c refl refl) short.0)
clocks_alone (c ∷ d ∷ cs) are short = absurd (omega (arith, are.count))

-- so it stands for nothing else
pub alone : (ops : List Operator) (m : Meaning) → StandsFor ops (later ∷ []) m → m ≡ meaning
alone ops m stands =
    let nodes : m.nodes ≡ node ∷ [] = nodes_alone ops m.nodes stands.placed in
    let tables : m.types ≡ types ∷ [] = typed_unique (node ∷ []) m.types (types ∷ []) (subst (λ ns. IsTyped ns m.types) nodes stands.typed) typed in
    let clocks : m.clocks ≡ clock ∷ [] = clocks_alone m.clocks (subst (λ ns. AreClocked ns m.clocks) nodes stands.clocked) stands.shortest in
    ap (λ (ns : List PlacedNode). let r : Meaning = record { nodes = ns; types = m.types; clocks = m.clocks } in r) nodes
    ∙ ap (λ (ts : List (List Ty)). let r : Meaning = record { nodes = node ∷ []; types = ts; clocks = m.clocks } in r) tables
    ∙ ap (λ (cs : List NodeClock). let r : Meaning = record { nodes = node ∷ []; types = types ∷ []; clocks = cs } in r) clocks
