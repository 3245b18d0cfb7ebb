-- The words that a written node hands down to its places.
use Rattle.std.specs.Prelude.{ℕ, zero, suc, ◌<◌, ◌≤◌, ◌≡◌, ◌⊎◌, List, Some, length}
use Rattle.std.specs.List.{AllByRecursion}
use Rattle.lucy_word.specs.Bits.{Bits}
use Rattle.lucy_word.specs.Limits.{limit_number}
use Rattle.lucy_word.specs.declared.limit.Limit.TheVariants as limit
use Rattle.lucy_word.specs.Shortest.{Same}
use Rattle.lucy_word.specs.Stored.{IsStored}
use Rattle.lucy_word.specs.Always.{always}
use Rattle.lucy_word.specs.Sampling.{IsOn, IsOnNot, IsOnTooLong}
use Rattle.lucy_place.specs.declared.entry.PlaceEntry.{PlaceEntry}
use Rattle.lucy_place.specs.declared.entry.PlaceKind.{PlaceKind}
use Rattle.lucy_place.specs.declared.entry.PlaceKind.TheVariants.{Merge}
use Rattle.lucy_place.specs.declared.entry.CallSite.{CallSite}
use Rattle.lucy_place.specs.declared.placed.PlacedNode.{PlacedNode}
use Rattle.lucy_word.specs.Complement.{turned}
use Rattle.lucy_place.specs.Proper.{at_one, Reads, IsUnnamed}
use Rattle.lucy_need.specs.Meeting.{Assignment, assigned}
pub use Rattle.lucy_need.specs.Meeting.{word_bits}
use Rattle.lucy_clock.specs.declared.error.ClockError.{ClockError}
use Rattle.lucy_clock.specs.declared.error.ClockError.TheVariants as error
use Rattle.lucy_clock.specs.Clocks.{call_clock, clocks_of}

-- a place of the kind, with its own word, hands this word down to its operand of a number: `merge` its own on its word, and
-- on that word turned, and each other its own (in a written node a sampling, a buffer and a call read names alone)
abbrev pub Hands : PlaceKind → ℕ → Bits → Bits → Type 0
Hands (Merge p a b) zero own word = IsOn own p word
Hands (Merge p a b) (suc k) own word = IsOnNot own p word
Hands kind k own word = Same word own

-- up to a place, the words are those that the node's written words hand down: the base has (1), a name its written word, and
-- a place without a name the word that its reader hands down to it
pub record AreHandedDown (n : PlacedNode) (upto : ℕ) (w : Assignment) : Type 0 where
  pub base : Same (w 0) always
  pub named : (p : ℕ) (entry : PlaceEntry) (word : Bits) → p ≤ upto → at_one n.places p ≡ Some entry → entry.word ≡ Some word → Same (w p) word
  pub passed : (p k q : ℕ) → q ≤ upto → IsUnnamed n q → (reads : Reads n p k q) → Hands reads.entry.kind k (w p) (w q)

-- the words of all clocks are those that are handed down, and those of the calls' bases the written ones
pub record AreHandedWords (n : PlacedNode) (w : Assignment) : Type 0 where
  pub places : AreHandedDown n (length n.places) w
  pub bases : (call : ℕ) (site : CallSite) (word : Bits) → at_one n.calls call ≡ Some site → site.at ≡ Some word → Same (w (call_clock n call)) word

-- with this word of its own a place of the kind hands down a word whose computed length is too long: a merge, to one operand
-- or the other, be they names with words of their own or not
abbrev pub HandsTooLong : PlaceKind → Bits → Type 0
HandsTooLong (Merge p a b) own = IsOnTooLong own p ⊎ IsOnTooLong own (turned p)
HandsTooLong kind own = ⊥

-- some place hands down a word that is too long: up to that place all words are handed down, in shortest form
pub record IsWordTooLong (n : PlacedNode) : Type 0 where
  pub words : Assignment
  pub place : ℕ
  pub entry : PlaceEntry
  pub stands : at_one n.places place ≡ Some entry
  pub handed : AreHandedDown n place words
  pub stored : (p : ℕ) → p ≤ place → IsStored (words p)
  pub too_long : HandsTooLong entry.kind (words place)

-- the words of a written node, one for each of its clocks and in shortest form
pub record AreWordsOf (n : PlacedNode) (words : List Bits) : Type 0 where
  pub count : length words ≡ clocks_of n
  pub stored : AllByRecursion IsStored words
  pub handed : AreHandedWords n (assigned words)

-- why there are no words: memory ran out, or one is too long, else they have too many bits
abbrev pub RefusesWords : PlacedNode → ClockError → Type 0
RefusesWords n error.OutOfMemory = Unit {0}
RefusesWords n (error.Limit l) =
    ((l ≡ limit.Word) × IsWordTooLong n)
    ⊎ ((l ≡ limit.Bits) × (IsWordTooLong n → ⊥) × (words : List Bits) × AreWordsOf n words × (limit_number limit.Bits < word_bits words))
