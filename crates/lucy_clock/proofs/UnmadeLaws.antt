-- Each place has a word, though it isn't made: a clock on a clock that isn't too long is a word as words are in memory.
use Rattle.std.proofs.Common.{ℕ, suc, zero, ◌+◌, ◌-◌, ◌<◌, ◌≤◌, ◌≡◌, List, Bool, true, false, Some, cond, length, get_or, ap, sym, refl, ◌∙◌, subst, inl, inr, arith}
use Rattle.std.specs.Prelude.{slice_index}
use Rattle.std.proofs.lemmas.Bool.{cases_lt}
use Rattle.std.proofs.lemmas.Option.{same_Some}
use Rattle.lucy_word.specs.Bits.{Bits, IsWord, bit_count, most_bits}
use Rattle.lucy_word.specs.Shortest.{IsShortForm}
use Rattle.lucy_word.specs.Stored.{IsStored}
use Rattle.lucy_word.specs.Sampling.{IsOn, IsOnTooLong}
use Rattle.lucy_word.specs.Shortened.{least, comes_again, turn_of, kept_of, bits_past, shortened}
use Rattle.lucy_word.specs.Complement.{turned}
use Rattle.lucy_word.proofs.BitsLaws.{period_some}
use Rattle.lucy_word.proofs.OnLaws.{on_exists, on_not_from}
use Rattle.lucy_word.proofs.SamplingLaws.{IsOn-same, IsWord-on}
use Rattle.lucy_word.proofs.ShortenedLaws.{shortened_is, length-bits_past}
use Rattle.lucy_word.proofs.ComplementLaws.{turned_stored}
use Rattle.lucy_place.specs.declared.entry.PlaceEntry.{PlaceEntry}
use Rattle.lucy_place.specs.declared.entry.PlaceKind.{PlaceKind}
use Rattle.lucy_place.specs.declared.entry.PlaceKind.TheVariants.{Merge}
use Rattle.lucy_place.specs.declared.placed.PlacedNode.{PlacedNode}
use Rattle.lucy_place.specs.Proper.{at_one, IsUnnamed}
use Rattle.lucy_need.specs.Meeting.{assigned}
use Rattle.lucy_clock.specs.HandedDown.{Hands, HandsTooLong}
use Rattle.lucy_clock.specs.Reading.{AreHandedSoFar, CanHandDown, HasStoredWord, HasTurned, IsNextWord}
use Rattle.lucy_clock.proofs.ReaderLaws.{one_read, next_handed, reader_is, reader_bounds, reader_hands}
use Rattle.lucy_clock.proofs.WordLaws.{stored_at}

-- the least number that is tried is found among those
least_most : (f : ℕ → Bool) (more n : ℕ) → least f more n ≤ n + more
least_most f zero n = omega arith
least_most f (suc more) n = go (f n) (least_most f more (n + 1))
  where
    go : (t : Bool) → least f more (n + 1) ≤ n + 1 + more → cond t n (least f more (n + 1)) ≤ n + suc more
    go true later = let e : n ≤ n + suc more = omega arith in e
    go false later = let e : least f more (n + 1) ≤ n + suc more = omega (arith, later) in e

-- the shortest form has no more bits
no_longer : (w : Bits) → 0 < length w.period → bit_count (shortened w) ≤ bit_count w
unfolding shortened
no_longer w some =
    let form : IsShortForm w (shortened w) = shortened_is w some in
    let prefix : length (bits_past w 0 (kept_of w)) ≡ kept_of w = length-bits_past w 0 (kept_of w) in
    let kept : kept_of w ≤ 0 + length w.prefix = least_most (λ k. comes_again w k (turn_of w)) (length w.prefix) 0 in
    let period : length (bits_past w (kept_of w) (turn_of w)) ≤ length w.period = form.shortest.period w some form.same in
    omega (arith, prefix, kept, period)

-- the word of a clock on a clock
pub stored_on : (a b : Bits) → IsWord a → IsWord b → (IsOnTooLong a b → ⊥) → (w : Bits) × IsOn a b w × IsStored w
stored_on a b of_a of_b fits =
    let made = on_exists a b of_a of_b in
    let v : Bits = made.0 in
    let some : 0 < length v.period = period_some v made.2 in
    let form : IsShortForm v (shortened v) = shortened_is v some in
    let on : IsOn a b (shortened v) = IsOn-same a b v (shortened v) form.same made.1 in
    let short : bit_count v ≤ most_bits = (elim (cases_lt most_bits (bit_count v)) [
      | inl past ↦ absurd (fits (bit_count v, (length v.prefix, length v.period, made.3, refl), past))
      | inr within ↦ within
    ]) in
    let few : bit_count (shortened v) ≤ bit_count v = no_longer v some in (
      shortened v,
      on,
      record {
        word = IsWord-on a b (shortened v) on of_a of_b form.nonempty;
        nonempty = form.nonempty;
        short = omega (arith, few, short);
        shortest = form.shortest;
      },
    )

-- the word that a place hands down, if none that it hands down is too long
pub hands_one_down : (kind : PlaceKind) (k : ℕ) (own : Bits) → HasTurned kind → HasStoredWord kind → IsStored own →
    (HandsTooLong kind own → ⊥) → (w : Bits) × Hands kind k own w × IsStored w
hands_one_down (Merge word a b) zero own zeros is_stored stored fits = stored_on own word stored.word is_stored.word (λ long. fits (inl long))
hands_one_down (Merge word a b) (suc k) own zeros is_stored stored fits =
    let on = stored_on own (turned word) stored.word (turned_stored word zeros is_stored).word (λ long. fits (inr long)) in
    let some = is_stored.nonempty in
    (on.0, on_not_from own word on.0 some on.1, on.2)
hands_one_down kind k own zeros is_stored stored fits = (own, λ i h. refl, stored)

-- the next place, which has no name
module _ (n : PlacedNode) (readers : List ℕ) (can : CanHandDown n readers) (i : ℕ) (un : IsUnnamed n (i + 1)) where
  one_less : i + 1 - 1 ≡ i
  one_less = omega arith

  pub next_bounds : (1 ≤ slice_index readers i) × (slice_index readers i ≤ length n.places)
  next_bounds =
      let b = reader_bounds n can.written can.once (i + 1) un readers can.beside in
      let r = ap (λ k. slice_index readers k) one_less in
      (omega (arith, b.0, r), omega (arith, b.1, r))

  -- a word that is handed down to it, if the word of its reader is stored, where that is a merge
  pub next_there : (list : List PlaceEntry) (x : PlaceEntry) → list ≡ n.places → x ≡ get_or list (slice_index readers i - 1) x →
      HasStoredWord x.kind → (words : List Bits) → AreHandedSoFar n i words →
      (next : Bits) × IsNextWord n (i + 1) (assigned words) next
  next_there list x e is is_stored words far =
      let one = can.once (i + 1) un in
      let at : slice_index readers i ≡ one.reader =
      ap (λ k. slice_index readers k) (sym one_less) ∙ reader_is n can.written can.once (i + 1) un readers can.beside in
      let read : at_one n.places (slice_index readers i) ≡ Some x =
      one_read list n.places (slice_index readers i) x e next_bounds.0 next_bounds.1 is in
      let same : x ≡ one.reads.entry = same_Some x one.reads.entry (sym read ∙ ap (λ r. at_one n.places r) at ∙ one.reads.stands) in
      let before = one.before in
      let within : one.reader ≤ i = omega arith in
      let handed =
      hands_one_down one.reads.entry.kind one.operand (assigned words one.reader) (can.turned one.reader one.reads.entry one.reads.stands)
      (subst (λ (y : PlaceEntry). HasStoredWord y.kind) same is_stored) (stored_at words one.reader far.stored)
      (far.fits one.reader one.reads.entry within one.reads.stands) in
      let hands = reader_hands n can.written can.once (i + 1) un readers can.beside (assigned words) handed.0 handed.1 in
      (handed.0, next_handed n can.labels (i + 1) handed.0 (assigned words) un hands handed.2)
