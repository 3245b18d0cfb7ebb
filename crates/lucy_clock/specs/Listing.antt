-- The needs of a node, in order of its places.
use Rattle.std.specs.Prelude.{ℕ, zero, suc, ◌+◌, ◌<◌, ◌≤◌, ◌≡◌, ◌⊎◌, length, List, [], ◌∷◌, ◌++◌, Option, Some, None, slice_index_or}
use Rattle.lucy_word.specs.Bits.{Bits}
use Rattle.lucy_word.specs.Always.{delayed}
use Rattle.lucy_word.specs.Limits.{limit_number}
use Rattle.lucy_word.specs.declared.limit.Limit.TheVariants as limit
use Rattle.lucy_place.specs.declared.entry.PlaceEntry.{PlaceEntry}
use Rattle.lucy_place.specs.declared.entry.PlaceKind.{PlaceKind}
use Rattle.lucy_place.specs.declared.entry.PlaceKind.TheVariants.{Param, Defined, Lit, Op, Host, When, Merge, Fby, Buffer, Result}
use Rattle.lucy_place.specs.declared.entry.CallSite.{CallSite}
use Rattle.lucy_place.specs.declared.placed.PlacedNode.{PlacedNode}
use Rattle.lucy_word.specs.Complement.{turned}
use Rattle.lucy_place.specs.Proper.{at_one, bound_of}
use Rattle.lucy_need.specs.declared.need.Need.{Need}
use Rattle.lucy_need.specs.declared.need.Need.TheVariants.{Equal, Adapt}
use Rattle.lucy_need.specs.Meeting.{alone, term, all_bits, most_needs}
use Rattle.lucy_clock.specs.declared.signature.Signature.{Signature}
use Rattle.lucy_clock.specs.declared.error.ClockError.{ClockError}
use Rattle.lucy_clock.specs.declared.error.ClockError.TheVariants as error
use Rattle.lucy_clock.specs.Clocks.{call_clock}

-- a written word: the clock is the base on the word
abbrev pub word_needs : ℕ → Option Bits → List Need
word_needs clock None = []
word_needs clock (Some word) = Equal (alone clock) (term 0 word) ∷ []

-- each argument is the call's base on its parameter's word
abbrev pub argument_needs : ℕ → List ℕ → List Bits → List Need
argument_needs base (arg ∷ args) (word ∷ words) = Equal (alone arg) (term base word) ∷ argument_needs base args words
argument_needs base args words = []

-- each result, from a place on, is the call's base on its word
abbrev pub result_needs : ℕ → ℕ → List Bits → List Need
result_needs base place [] = []
result_needs base place (word ∷ words) = Equal (alone place) (term base word) ∷ result_needs base (place + 1) words

-- no words
abbrev pub no_signature : Signature
no_signature = record { params = []; results = [] }

-- the needs of a call whose base has this clock and whose first result stands at this place
abbrev pub site_needs : List Signature → ℕ → ℕ → Option CallSite → List Need
site_needs above base place None = []
site_needs above base place (Some site) =
    word_needs base site.at
    ++ (argument_needs base site.args (slice_index_or above site.node no_signature).params
    ++ result_needs base place (slice_index_or above site.node no_signature).results)

-- a call's needs stand at its first result
abbrev pub call_needs : List Signature → PlacedNode → ℕ → ℕ → ℕ → List Need
call_needs above n place call zero = site_needs above (call_clock n call) place (at_one n.calls call)
call_needs above n place call (suc j) = []

-- each operand has the clock of the place
abbrev pub operand_needs : ℕ → List ℕ → List Need
operand_needs place [] = []
operand_needs place (arg ∷ args) = Equal (alone place) (alone arg) ∷ operand_needs place args

-- a written bound, where there is one: the reader's clock is adaptable to the writer's on so many zeros and then ones
abbrev pub bound_needs : ℕ → ℕ → Option ℕ → List Need
bound_needs place operand None = []
bound_needs place operand (Some most) = Adapt (alone place) (term operand (delayed most)) ∷ []

-- the needs of what stands at a place
abbrev pub kind_needs : List Signature → PlacedNode → ℕ → PlaceKind → List Need
kind_needs above n p Param = []
kind_needs above n p (Defined e) = Equal (alone p) (alone e) ∷ []
kind_needs above n p (Lit l) = []
kind_needs above n p (Op op args) = operand_needs p args
kind_needs above n p (Host op a b) = Equal (alone p) (alone a) ∷ Equal (alone p) (alone b) ∷ []
kind_needs above n p (When e word) = Equal (alone p) (term e word) ∷ []
kind_needs above n p (Merge word a b) = Equal (alone a) (term p word) ∷ Equal (alone b) (term p (turned word)) ∷ []
kind_needs above n p (Fby l e) = Equal (alone p) (alone e) ∷ []
kind_needs above n p (Buffer k e) = Adapt (alone e) (alone p) ∷ bound_needs p e (bound_of n k)
kind_needs above n p (Result call j) = call_needs above n p call j

-- the needs of a place
abbrev pub place_needs : List Signature → PlacedNode → ℕ → PlaceEntry → List Need
place_needs above n p entry = word_needs p entry.word ++ kind_needs above n p entry.kind

-- the needs of places from a number on
abbrev pub needs_from : List Signature → PlacedNode → ℕ → List PlaceEntry → List Need
needs_from above n p [] = []
needs_from above n p (entry ∷ entries) = place_needs above n p entry ++ needs_from above n (p + 1) entries

-- the needs of a node
abbrev pub needs_of : List Signature → PlacedNode → List Need
needs_of above n = needs_from above n 1 n.places

-- why there are no needs: memory ran out, or there are too many, else their words have too many bits
abbrev pub RefusesNeeds : List Need → ClockError → Type 0
RefusesNeeds needs error.OutOfMemory = Unit {0}
RefusesNeeds needs (error.Limit l) =
    ((l ≡ limit.Needs) × (most_needs < length needs)) ⊎ ((l ≡ limit.Bits) × (length needs ≤ most_needs) × (limit_number limit.Bits < all_bits needs))
