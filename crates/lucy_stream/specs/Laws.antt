-- Laws of forms, of iterates and of what items need.
use Rattle.std.specs.Prelude.{ℕ, ◌+◌, ◌<◌, ◌≡◌, true, List, ℤ, length, suc, ◌≤◌, Some, slice_get}
use Rattle.lucy_word.specs.Bits.{Bits, bit_at, ones_to}
use Rattle.lucy_host.specs.declared.kind.HostKind.{HostKind}
use Rattle.lucy_stream.specs.Items.{item_at, HasItem, list_at}
use Rattle.lucy_stream.specs.Lists.{kept, form_list}
use Rattle.lucy_stream.specs.Merges.{IsMerge, merged}
use Rattle.lucy_stream.specs.Fronts.{IsFront, AreFronts}
use Rattle.lucy_stream.specs.Forms.{Form, operands}
use Rattle.lucy_stream.specs.Iterates.{Place, lists_of, iterate}
use Rattle.lucy_stream.specs.Firings.{fire_value, DoesGive, gave_in, HasTaken, IsThere}
use Rattle.lucy_stream.specs.Needs.{IsNeed, StreamItem, Needs, ReachesItself}

-- a sampling keeps the items whose number has a one, in their order, and no others
pub record SamplingsKeepTheOnes : Type 0 where
  pub item : (word : Bits) (items : List ℤ) (k : ℕ) → k < length items → bit_at word (k + 1) ≡ true →
      HasItem (kept word items) (ones_to word k) (item_at items k)
  pub count : (word : Bits) (items : List ℤ) → length (kept word items) ≡ ones_to word (length items)

-- a merge is the longest list of its items that are all there
abbrev pub MergesAreLongest : Type 0
MergesAreLongest = (word : Bits) (xs ys : List ℤ) → IsMerge word xs ys (merged word xs ys)

-- where the lists of the operands grow, the list of each form grows, in the same turn and in every later one (Kahn 1974)
abbrev pub ListsGrow : Type 0
ListsGrow = (kinds : List HostKind) (inputs : List (List ℤ)) (n m : ℕ) (form : Form) (lists longer : List (List ℤ)) → n ≤ m →
    AreFronts lists longer → IsFront (form_list kinds inputs n form lists) (form_list kinds inputs m form longer)

-- Each list of an iterate is a front of the same place's list in the next one, and in every later one, and where the inputs go on. In the
-- iterate after it, a place has the list that its form makes of what it reads.
pub record IteratesGrow : Type 0 where
  pub next : (kinds : List HostKind) (inputs : List (List ℤ)) (places : List Place) (n : ℕ) →
      AreFronts (iterate kinds inputs places n) (iterate kinds inputs places (suc n))
  pub later : (kinds : List HostKind) (inputs : List (List ℤ)) (places : List Place) (n m : ℕ) → n ≤ m →
      AreFronts (iterate kinds inputs places n) (iterate kinds inputs places m)
  pub inputs : (kinds : List HostKind) (inputs more : List (List ℤ)) (places : List Place) (n : ℕ) → AreFronts inputs more →
      AreFronts (iterate kinds inputs places n) (iterate kinds more places n)
  pub place : (kinds : List HostKind) (inputs : List (List ℤ)) (places : List Place) (n i : ℕ) (place : Place) →
      slice_get places i ≡ Some place →
      list_at (iterate kinds inputs places (suc n)) i
      ≡ form_list kinds inputs n place.form (lists_of (iterate kinds inputs places n) place.reads)

-- where a form's list has an item, the operands' lists have what this item depends on; so an item that an iterate has depends only on
-- items that the iterate before has
pub record ItemsNeedWhatWasThere : Type 0 where
  pub form : (kinds : List HostKind) (inputs : List (List ℤ)) (n : ℕ) (form : Form) (lists : List (List ℤ)) (k j m : ℕ) →
      j < operands form → 1 ≤ k → 1 ≤ m → IsNeed form k j m → k ≤ length (form_list kinds inputs n form lists) →
      m ≤ length (list_at lists j)
  pub iterates : (kinds : List HostKind) (inputs : List (List ℤ)) (places : List Place) (n : ℕ) (x y : StreamItem) → 1 ≤ x.number →
      Needs places x y → x.number ≤ length (list_at (iterate kinds inputs places (suc n)) x.place) →
      y.number ≤ length (list_at (iterate kinds inputs places n) y.place)

-- no item that some iterate has reaches itself
abbrev pub IteratesHaveNoCycle : Type 0
IteratesHaveNoCycle = (kinds : List HostKind) (inputs : List (List ℤ)) (places : List Place) (n : ℕ) (x : StreamItem) → 1 ≤ x.number →
    x.number ≤ length (list_at (iterate kinds inputs places n) x.place) → ReachesItself places x → ⊥

-- what a firing gives, by the newest item of each operand, is in its form's list of all that was taken: the item after those that were
-- given before
abbrev pub FiringsGiveTheItems : Type 0
FiringsGiveTheItems = (kinds : List HostKind) (inputs : List (List ℤ)) (n : ℕ) (form : Form) (fired : ℕ) (took : List (List ℤ)) →
    IsThere inputs n form fired → HasTaken form fired took → DoesGive form fired →
    HasItem (form_list kinds inputs n form took) (gave_in form fired) (fire_value kinds inputs form fired took)
