-- What the laws of the clock rules say.
use Rattle.std.specs.Prelude.{◌↔◌, List}
use Rattle.lucy_word.specs.Always.{always}
use Rattle.lucy_word.specs.Shortest.{Same}
use Rattle.lucy_place.specs.declared.placed.PlacedNode.{PlacedNode}
use Rattle.lucy_place.specs.Proper.{IsProperNode}
use Rattle.lucy_place.specs.WrittenNodes.{IsWritten}
use Rattle.lucy_need.specs.Meeting.{Assignment, AreWordsIn, Agree, MeetsAll}
use Rattle.lucy_clock.specs.declared.signature.Signature.{Signature}
use Rattle.lucy_clock.specs.Clocks.{AreSignatures, clocks_of}
use Rattle.lucy_clock.specs.WellClocked.{IsWellClocked}
use Rattle.lucy_clock.specs.Listing.{needs_of}
use Rattle.lucy_clock.specs.HandedDown.{AreHandedWords}

-- words with (1) for the base keep the clock rules of a node exactly where they meet its needs
abbrev pub RulesLaw : Type 0
RulesLaw = (above : List PlacedNode) (signatures : List Signature) (n : PlacedNode) (w : Assignment) →
    IsProperNode above n → AreSignatures above signatures → AreWordsIn w (clocks_of n) → Same (w 0) always →
    MeetsAll w (needs_of signatures n) ↔ IsWellClocked signatures n w

-- words that keep the clock rules of a written node are those that it hands down
abbrev pub HandedLaw : Type 0
HandedLaw = (above : List PlacedNode) (signatures : List Signature) (n : PlacedNode) (v w : Assignment) →
    IsProperNode above n → IsWritten n → IsWellClocked signatures n v → AreHandedWords n w → Agree v w (clocks_of n)

-- and so are one
abbrev pub OneAssignmentLaw : Type 0
OneAssignmentLaw = (above : List PlacedNode) (signatures : List Signature) (n : PlacedNode) (v w : Assignment) →
    IsProperNode above n → IsWritten n → IsWellClocked signatures n v → IsWellClocked signatures n w → Agree v w (clocks_of n)
