-- The needs of a node as they are listed, on examples.
use Rattle.std.proofs.Common.{◌≡◌, List, [], ◌∷◌, Some, None, Bool, true, false, refl}
use Rattle.lucy_word.specs.Bits.{Bits}
use Rattle.lucy_tree.specs.declared.span.Name.{Name}
use Rattle.lucy_place.specs.declared.entry.PlaceEntry.{PlaceEntry}
use Rattle.lucy_place.specs.declared.entry.PlaceKind.{PlaceKind}
use Rattle.lucy_place.specs.declared.entry.PlaceKind.TheVariants.{Param, Defined, When, Merge, Buffer, Result}
use Rattle.lucy_place.specs.declared.placed.PlacedNode.{PlacedNode}
use Rattle.lucy_need.specs.declared.need.Need.TheVariants.{Equal, Adapt}
use Rattle.lucy_need.specs.Meeting.{alone, term}
use Rattle.lucy_clock.specs.declared.signature.Signature.{Signature}
use Rattle.lucy_clock.specs.Listing.{needs_of}

abbrev turning : List Bool → Bits
turning bits = record { prefix = []; period = bits }

abbrev one : Bits
one = turning (true ∷ [])

abbrev two_of_three : Bits
two_of_three = turning (true ∷ true ∷ false ∷ [])

abbrev first_and_last : Bits
first_and_last = turning (true ∷ false ∷ true ∷ [])

abbrev one_late : Bits
one_late = record { prefix = false ∷ []; period = true ∷ [] }

abbrev odd : Bits
odd = turning (true ∷ false ∷ [])

abbrev even : Bits
even = turning (false ∷ true ∷ [])

abbrev nobody : Name
nobody = record { text = []; span = record { from = 0; to = 0 } }

abbrev named : PlaceKind → Bits → PlaceEntry
named kind word = record { name = Some nobody; holds = None; word = Some word; kind = kind }

abbrev unnamed : PlaceKind → PlaceEntry
unnamed kind = record { name = None; holds = None; word = None; kind = kind }

-- let node f (x :: (1)) = y where rec a :: (110) = x when (110) and y :: (101) = buffer 1 (a)
abbrev f : PlacedNode
f = record {
  name = nobody;
  params = 1;
  places = named Param one ∷ named (Defined 4) two_of_three ∷ named (Defined 5) first_and_last ∷ unnamed (When 1 two_of_three) ∷ unnamed (Buffer 1 2) ∷ [];
  results = 3 ∷ [];
  buffers = 5 ∷ [];
  bounds = Some 1 ∷ [];
  calls = [];
}

f_needs : needs_of [] f ≡ Equal (alone 1) (term 0 one) ∷ Equal (alone 2) (term 0 two_of_three) ∷ Equal (alone 2) (alone 4) ∷ Equal (alone 3) (term 0 first_and_last) ∷ Equal (alone 3) (alone 5)
    ∷ Equal (alone 4) (term 1 two_of_three) ∷ Adapt (alone 2) (alone 5) ∷ Adapt (alone 5) (term 2 one_late) ∷ []
f_needs = refl

-- let node g (z :: (1)) = p where rec e :: (10) = z when (10) and p :: (10) = h at (10) (e) and m :: (1) = merge (10) e p,
-- where h takes one stream on (1) and gives one on (01)
abbrev g : PlacedNode
g = record {
  name = nobody;
  params = 1;
  places = named Param one ∷ named (Defined 5) odd ∷ named (Defined 6) odd ∷ named (Defined 7) one ∷ unnamed (When 1 odd) ∷ unnamed (Result 1 0) ∷ unnamed (Merge odd 2 3) ∷ [];
  results = 3 ∷ [];
  buffers = [];
  bounds = [];
  calls = record { node = 0; at = Some odd; first = 6; args = 2 ∷ [] } ∷ [];
}

abbrev h : Signature
h = record { params = one ∷ []; results = even ∷ [] }

g_needs : needs_of (h ∷ []) g ≡ Equal (alone 1) (term 0 one) ∷ Equal (alone 2) (term 0 odd) ∷ Equal (alone 2) (alone 5) ∷ Equal (alone 3) (term 0 odd) ∷ Equal (alone 3) (alone 6)
    ∷ Equal (alone 4) (term 0 one) ∷ Equal (alone 4) (alone 7) ∷ Equal (alone 5) (term 1 odd)
    ∷ Equal (alone 8) (term 0 odd) ∷ Equal (alone 2) (term 8 one) ∷ Equal (alone 6) (term 8 even)
    ∷ Equal (alone 2) (term 7 odd) ∷ Equal (alone 3) (term 7 even) ∷ []
g_needs = refl
