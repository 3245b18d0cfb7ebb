-- What the calls on a node give is what its clocks are, or why it has none.
use Rattle.std.proofs.Common.{true, Result, Ok, Err, ℕ, ◌≤◌, ◌≡◌, List, Some, length, ap, sym, ◌∙◌, subst, inl, inr}
use Rattle.std.specs.Prelude.{slice_get, IfErr, IsErrAnd}
use Rattle.lucy_word.specs.Always.{always}
use Rattle.lucy_word.specs.Shortest.{Same}
use Rattle.lucy_word.specs.Bits.{Bits}
use Rattle.lucy_word.specs.Limits.{limit_number}
use Rattle.lucy_word.specs.declared.limit.Limit.TheVariants as limit
use Rattle.lucy_tree.specs.declared.span.Span.{Span}
use Rattle.lucy_place.specs.declared.placed.PlacedNode.{PlacedNode}
use Rattle.lucy_place.specs.PlacedProgram.{PlacedProgram}
use Rattle.lucy_place.specs.Proper.{IsProperNode}
use Rattle.lucy_place.specs.WrittenNodes.{IsWritten}
use Rattle.lucy_need.specs.declared.need.Need.{Need}
use Rattle.lucy_need.specs.declared.need.Needs.{Needs}
use Rattle.lucy_need.specs.Meeting.{AreWordsIn, assigned, all_bits, most_needs, MeetsAll}
use Rattle.lucy_clock.specs.declared.signature.Signature.{Signature}
use Rattle.lucy_clock.specs.declared.node_clock.NodeClock.{NodeClock}
use Rattle.lucy_clock.specs.declared.error.ClockError.{ClockError}
use Rattle.lucy_clock.specs.declared.error.ClockError.TheVariants as error
use Rattle.lucy_clock.specs.Clocks.{AreSignatures, clocks_of}
use Rattle.lucy_clock.specs.Listing.{needs_of, RefusesNeeds}
use Rattle.lucy_clock.specs.HandedDown.{AreWordsOf, IsWordTooLong, RefusesWords, word_bits}
use Rattle.lucy_clock.proofs.NeedLaws.{rules_law}
use Rattle.lucy_clock.proofs.WordLaws.{stored_at}
use Rattle.lucy_check.specs.declared.fault.CheckFault.{CheckFault}
use Rattle.lucy_check.specs.declared.fault.CheckFault.TheVariants as fault
use Rattle.lucy_check.specs.Passing.{OrNoMemory, PassesAll, AllWithinLimits, IsFirstRefusal}
use Rattle.lucy_front.specs.declared.fault.NoClocks.{NoClocks}
use Rattle.lucy_front.specs.declared.fault.NoClocks.TheVariants.{Fault}
use Rattle.lucy_front.specs.declared.fault.NodeFault.TheVariants.{NotWritten, Check}
use Rattle.lucy_program.specs.declared.options.Options.{Options}
use Rattle.lucy_program.specs.Inferring.{node_needs}
use Rattle.lucy_front.specs.Unclocked.{IsShut}
use Rattle.lucy_program.specs.Clocked.{AreFewNeeds, AreNodeWords, IsClocked}
use Rattle.lucy_front.specs.Unclocked.{FailsCheck, AreItsNeeds, RefusesNode}
use Rattle.lucy_front.specs.Clocking.{AreItsClocks, IsTold, clock_fault, check_fault, HasNoClocks}
use Rattle.lucy_front.specs.Sizes.{buffer_sizes}
use Rattle.lucy_front.proofs.SizeLaws.{Sized, node_sized, sized_count, sized_at}

-- the words of a node, as they are made
pub words_of : (n : PlacedNode) (words : List Bits) → AreWordsOf n words → (IsWordTooLong n → ⊥) × (word_bits words ≤ limit_number limit.Bits) → AreNodeWords n words
words_of n words of few = record { of = of; fit = few.0; bits = few.1 }

module _ (o : Options) (nodes : List PlacedNode) (above : List Signature) (n : PlacedNode) (proper : IsProperNode nodes n) (ports : AreSignatures nodes above) where
  -- words that meet the needs within the limits, with what the checker tells of sizes, are clocks
  pub clocked_by : (c : NodeClock) (sizes : List ℕ) → c.sizes ≡ buffer_sizes n.bounds sizes → AreFewNeeds above n → AreItsClocks o above n c → length c.words ≡ clocks_of n → AreWordsIn (assigned c.words) (clocks_of n) → Same (assigned c.words 0) always →
      MeetsAll (assigned c.words) (needs_of above n) → AllWithinLimits (assigned c.words) (needs_of above n) → PassesAll (assigned c.words) (needs_of above n) sizes → IsClocked o above n c
  clocked_by c sizes own few its count are_words base met within passes =
      let sized = subst (Sized (assigned c.words) n n.buffers) (sym own) (node_sized (assigned c.words) nodes above n sizes proper passes) in
      record {
        needs = few;
        its = its;
        count = count;
        well = (rules_law (assigned c.words) nodes above n proper ports are_words base).0 met;
        within = within;
        sizes = record {
          count = sized_count (assigned c.words) n n.buffers c.sizes sized;
          each = λ i p k e size at of stands. sized_at (assigned c.words) n n.buffers c.sizes sized i p k e size at of stands;
        };
      }

  pub clocked : (c : NodeClock) (sizes : List ℕ) → c.sizes ≡ buffer_sizes n.bounds sizes → IsWritten n → AreFewNeeds above n → AreNodeWords n c.words → MeetsAll (assigned c.words) (needs_of above n) → AllWithinLimits (assigned c.words) (needs_of above n) →
      PassesAll (assigned c.words) (needs_of above n) sizes → IsClocked o above n c
  clocked c sizes own is_written few words met within passes =
      clocked_by c sizes own few (inl (is_written, words)) words.of.count (λ i l. (stored_at c.words i words.of.stored).word) words.of.handed.places.base met within passes

-- a written node isn't refused for not being so
pub unshut : (o : Options) (n : PlacedNode) → IsWritten n → IsShut o n → ⊥
unshut o n is_written shut = shut.1 is_written

-- a span that keeps a node from being written
pub unwritten : (o : Options) (placed : PlacedProgram) (node : ℕ) (above : List Signature) (n : PlacedNode) (span : Span) → slice_get placed.unwritten node ≡ Some (Some span) → o.written_only ≡ true → (IsWritten n → ⊥) →
    HasNoClocks o placed node above n (Fault (NotWritten span))
unwritten o placed node above n span at asked is = (at, (asked, is))

-- a limit of the needs, of the words and of the checker
pub needs_refused : (o : Options) (placed : PlacedProgram) (node : ℕ) (above : List Signature) (n : PlacedNode) (e : ClockError) → (IsShut o n → ⊥) → RefusesNeeds (needs_of above n) e → HasNoClocks o placed node above n (clock_fault e)
needs_refused o placed node above n (error.Limit l) shut h = inl (shut, h)
needs_refused o placed node above n error.OutOfMemory shut h = tt

pub words_refused : (o : Options) (placed : PlacedProgram) (node : ℕ) (above : List Signature) (n : PlacedNode) (e : ClockError) → IsWritten n → AreFewNeeds above n → RefusesWords n e → HasNoClocks o placed node above n (clock_fault e)
words_refused o placed node above n (error.Limit l) is_written few h = inr (few, inl (is_written, h))
words_refused o placed node above n error.OutOfMemory is_written few h = tt

-- needs by their clocks and their list
pub needs_are : (above : List Signature) (n : PlacedNode) (needs : Needs) → needs.clocks ≡ clocks_of n → needs.list ≡ needs_of above n → needs ≡ node_needs above n
needs_are above n needs clocks list =
    ap (λ (c : ℕ). let r : Needs = record { clocks = c; list = needs.list } in r) clocks
    ∙ ap (λ (l : List Need). let r : Needs = record { clocks = clocks_of n; list = l } in r) list

module _ (o : Options) (placed : PlacedProgram) (node : ℕ) (above : List Signature) (n : PlacedNode) (words : List Bits) (needs : Needs) (is_written : IsWritten n) (are_needs : needs ≡ node_needs above n)
    (few : AreFewNeeds above n) (are : AreNodeWords n words) where
  pub check_refused : (e : CheckFault) → OrNoMemory (IsFirstRefusal (assigned words) (needs_of above n)) e → HasNoClocks o placed node above n (check_fault needs e)
  check_refused (fault.Limit need l) (inl none) = absurd (cc none)
  check_refused (fault.Limit need l) (inr first) = inr (few, inr (inl (need, (is_written, words, are, first))))
  check_refused fault.OutOfMemory h = tt
  check_refused (fault.Differs need at) (inl none) = absurd (cc none)
  check_refused (fault.Differs need at) (inr first) = ((are_needs, few), (is_written, words, are, first))
  check_refused (fault.Rates need) (inl none) = absurd (cc none)
  check_refused (fault.Rates need) (inr first) = ((are_needs, few), (is_written, words, are, first))
  check_refused (fault.Late need at) (inl none) = absurd (cc none)
  check_refused (fault.Late need at) (inr first) = ((are_needs, few), (is_written, words, are, first))

-- what the checker tells of a node that is refused
pub check_told : (o : Options) (placed : PlacedProgram) (node : ℕ) (needs : Needs) (e : CheckFault) (above : List Signature) (n : PlacedNode) →
    RefusesNode o placed node (Check needs e) above n → AreItsNeeds above n needs × FailsCheck above n e × IsTold e
check_told o placed node needs (fault.Limit need l) above n h = absurd h
check_told o placed node needs fault.OutOfMemory above n h = absurd h
check_told o placed node needs (fault.Differs need at) above n h = (h.0, h.1, tt)
check_told o placed node needs (fault.Rates need) above n h = (h.0, h.1, tt)
check_told o placed node needs (fault.Late need at) above n h = (h.0, h.1, tt)

-- what is refused for one reason
pub refused_so : {A : Type 0} (r : Result A NoClocks) (f : NoClocks) (P : NoClocks → Type 0) → IsErrAnd r (λ e. e ≡ f) → P f → IfErr r P
refused_so (Ok a) f P is h = tt
refused_so (Err e) f P is h = subst P (sym is) h

-- what holds of the node of a number holds of one
pub few_of : (above : List Signature) (n : PlacedNode) → (length (needs_of above n) ≤ most_needs) × (all_bits (needs_of above n) ≤ limit_number limit.Bits) → AreFewNeeds above n
few_of above n h = record { count = h.0; bits = h.1 }
