-- What is known of the clocks that a chronogram shows.
use Rattle.std.proofs.Common.{ℕ, suc, ◌+◌, ◌≡◌, ◌<◌, ◌≤◌, List, [], ◌∷◌, ◌++◌, Some, length, map, take, drop, get_or, max, refl, sym, ap, ◌∙◌, subst, arith}
use Rattle.std.specs.Prelude.{slice_get}
use Rattle.std.specs.List.{AllByRecursion}
use Rattle.std.specs.Option.{option_and_then, unwrap_or}
use Rattle.std.proofs.lemmas.List.{take_more, drop_more, map-append, take-append-drop}
use Rattle.lucy_word.specs.Bits.{Bits}
use Rattle.lucy_word.specs.Limits.{limit_number}
use Rattle.lucy_word.specs.Multiple.{IsLcm}
use Rattle.lucy_word.specs.declared.limit.Limit.TheVariants as limit
use Rattle.lucy_word.proofs.Lists.{all_join, all_weaker}
use Rattle.lucy_place.specs.declared.entry.PlaceEntry.{PlaceEntry}
use Rattle.lucy_place.specs.declared.entry.PlaceKind.TheVariants.{Buffer}
use Rattle.lucy_place.specs.declared.placed.PlacedNode.{PlacedNode}
use Rattle.lucy_place.specs.Proper.{IsProperNode, Stands}
use Rattle.lucy_place.specs.Reads.{operands_of}
use Rattle.lucy_need.specs.Meeting.{assigned}
use Rattle.lucy_clock.specs.Clocks.{clocks_of}
use Rattle.lucy_clock.proofs.WithinLaws.{buffer_within}
use Rattle.lucy_net.specs.Lengths.{AreLengths}
use Rattle.lucy_net.proofs.LengthLaws.{lengths_more, lengths_too_long}
use Rattle.lucy_program.specs.Report.{first_operand}
use Rattle.lucy_picture.specs.Charts.{named_places}
use Rattle.lucy_picture.specs.Turns.{buffer_clocks, shown_clocks, AreTooLong}
use Rattle.lucy_picture.proofs.ChartLaws.{places_within}

-- the words of one clock more
words_more : (words : List Bits) (clocks : List ℕ) (i : ℕ) → i < length clocks → map (assigned words) (take (i + 1) clocks) ≡ map (assigned words) (take i clocks) ++ assigned words (get_or clocks i 0) ∷ []
words_more words clocks i h = ap (map (assigned words)) (take_more clocks i 0 h) ∙ map-append (assigned words) (take i clocks) (get_or clocks i 0 ∷ [])

pub turn_more : (words : List Bits) (clocks : List ℕ) (i clock prefix period new_prefix new_period : ℕ) (w : Bits) → i < length clocks → clock ≡ get_or clocks i 0 → w ≡ assigned words clock →
    AreLengths (map (assigned words) (take i clocks)) prefix period → 0 < length w.period → new_prefix ≡ max prefix (length w.prefix) → IsLcm period (length w.period) new_period →
    AreLengths (map (assigned words) (take (i + 1) clocks)) new_prefix new_period
turn_more words clocks i clock prefix period new_prefix new_period w h at is before some greatest common =
    let same : w ≡ assigned words (get_or clocks i 0) = is ∙ ap (assigned words) at in
    subst (λ ws. AreLengths ws new_prefix new_period) (ap (λ v. map (assigned words) (take i clocks) ++ v ∷ []) same ∙ sym (words_more words clocks i h))
    (lengths_more (map (assigned words) (take i clocks)) w prefix period new_prefix new_period before some greatest common)

pub turn_too_long : (words : List Bits) (clocks : List ℕ) (i clock prefix period m : ℕ) (w : Bits) → i < length clocks → clock ≡ get_or clocks i 0 → w ≡ assigned words clock → AreLengths (map (assigned words) (take i clocks)) prefix period →
    IsLcm period (length w.period) m → limit_number limit.Schedule < max prefix (length w.prefix) + m → AreTooLong (map (assigned words) clocks)
turn_too_long words clocks i clock prefix period m w h at is before common over = λ P Q whole.
    let same : w ≡ assigned words (get_or clocks i 0) = is ∙ ap (assigned words) at in
    let split : clocks ≡ take i clocks ++ (get_or clocks i 0 ∷ drop (i + 1) clocks) = sym (take-append-drop i clocks) ∙ ap (λ l. take i clocks ++ l) (drop_more clocks i 0 h) in
    let parts : map (assigned words) clocks ≡ map (assigned words) (take i clocks) ++ (w ∷ map (assigned words) (drop (i + 1) clocks)) =
    ap (map (assigned words)) split ∙ map-append (assigned words) (take i clocks) (get_or clocks i 0 ∷ drop (i + 1) clocks)
    ∙ ap (λ v. map (assigned words) (take i clocks) ++ (v ∷ map (assigned words) (drop (i + 1) clocks))) (sym same) in
    lengths_too_long (map (assigned words) (take i clocks)) (map (assigned words) (drop (i + 1) clocks)) w prefix period m (limit_number limit.Schedule) P Q before common over (subst (λ ws. AreLengths ws P Q) parts whole)

-- a buffer and what it reads are places
pub operand_is : (n : PlacedNode) (p k e : ℕ) → Stands n p (Buffer k e) → unwrap_or (first_operand n p) 0 ≡ e
operand_is n p k e stands =
    ap (λ o. unwrap_or (option_and_then (λ (x : PlaceEntry). slice_get (operands_of x.kind) 0) o) 0) stands.1 ∙ ap (λ kind. unwrap_or (slice_get (operands_of kind) 0) 0) stands.2

buffers_within : (above : List PlacedNode) (n : PlacedNode) → IsProperNode above n → (ps : List ℕ) → ((i p : ℕ) → slice_get ps i ≡ Some p → (k : ℕ) × (e : ℕ) × Stands n p (Buffer k e)) → AllByRecursion (λ c. c < clocks_of n) (buffer_clocks n ps)
buffers_within above n proper [] h = tt
buffers_within above n proper (p ∷ ps) h =
    let b = h 0 p refl in
    let w = buffer_within above n p b.0 b.1 proper b.2 in
    let read : unwrap_or (first_operand n p) 0 < clocks_of n = subst (λ e. e < clocks_of n) (sym (operand_is n p b.0 b.1 b.2)) w.0 in
    (read, (w.1, buffers_within above n proper ps (λ i q at. h (suc i) q at)))

pub shown_within : (above : List PlacedNode) (n : PlacedNode) → IsProperNode above n → AllByRecursion (λ c. c < clocks_of n) (shown_clocks n)
shown_within above n proper =
    all_join (λ c. c < clocks_of n) (named_places n) (buffer_clocks n n.buffers) (all_weaker (λ q. q ≤ length n.places) (λ c. c < clocks_of n) (named_places n) (λ q h. omega arith) (places_within n))
    (buffers_within above n proper n.buffers (λ i p at. let own = proper.buffers (suc i) p at in (suc i, own.0, own.1)))
