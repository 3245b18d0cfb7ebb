-- The first words, and those behind them of which not all are kept.
use Rattle.std.proofs.Common.{ℕ, zero, suc, ◌+◌, ◌-◌, ◌<◌, ◌≤◌, ◌≡◌, List, [], ◌∷◌, ◌++◌, length, get_or, set, ap, refl, ◌∙◌, subst, inl, inr, arith, length-set, get_or-set_other}
use Rattle.std.specs.Prelude.{slice_index}
use Rattle.std.specs.List.{AllByRecursion}
use Rattle.std.proofs.lemmas.Bool.{cases_eq}
use Rattle.std.proofs.lemmas.List.{length_push}
use Rattle.std.proofs.lemmas.List.Sums.{sum_by-append}
use Rattle.lucy_word.specs.Bits.{Bits, bit_count}
use Rattle.lucy_word.specs.Always.{always}
use Rattle.lucy_word.specs.Stored.{IsStored}
use Rattle.lucy_word.specs.Limits.{limit_number}
use Rattle.lucy_word.specs.declared.limit.Limit.TheVariants as lim
use Rattle.lucy_place.specs.declared.entry.PlaceKind.{PlaceKind}
use Rattle.lucy_place.specs.declared.entry.PlaceKind.TheVariants.{Merge}
use Rattle.lucy_place.specs.declared.placed.PlacedNode.{PlacedNode}
use Rattle.lucy_place.specs.Proper.{Reads, IsUnnamed, AreReadOnce}
use Rattle.lucy_place.specs.WrittenNodes.{IsWritten}
use Rattle.lucy_need.specs.Meeting.{assigned, word_bits}
use Rattle.lucy_clock.specs.HandedDown.{Hands, HandsTooLong, IsWordTooLong, RefusesWords}
use Rattle.lucy_clock.specs.declared.error.ClockError.TheVariants as err
use Rattle.lucy_clock.specs.Reading.{AreHandedSoFar, AreFirstWords, AsksFor, IsAskedFor, AreLasts, AreKept, AreKeptSoFar, AreContinued, IsNextWord, NextHandsTooLong, IsTooLongBefore, base_words}
use Rattle.lucy_clock.proofs.WordLaws.{none_long, so_far_push, last_long, before_long}
use Rattle.lucy_clock.proofs.BaseLaws.{bits_push, words_are}
use Rattle.lucy_clock.proofs.LastLaws.{asks_from}

bits_behind : (words more : List Bits) → word_bits words ≤ word_bits (words ++ more)
bits_behind words more = let a = sum_by-append bit_count words more in omega arith

-- the same word behind lists that have the same at a place
push_alike : (xs ys : List Bits) (next d : Bits) (p : ℕ) → length ys ≡ length xs → get_or ys p d ≡ get_or xs p d →
    get_or (ys ++ next ∷ []) p d ≡ get_or (xs ++ next ∷ []) p d
push_alike [] [] next d p l e = refl
push_alike [] (y ∷ ys) next d p l e = absurd (omega (arith, l))
push_alike (x ∷ xs) [] next d p l e = absurd (omega (arith, l))
push_alike (x ∷ xs) (y ∷ ys) next d zero l e = e
push_alike (x ∷ xs) (y ∷ ys) next d (suc p) l e = push_alike xs ys next d p (omega (arith, l)) e

-- and behind lists that have the same at another place, one word and another
push_apart : (xs ys : List Bits) (a b d : Bits) (p : ℕ) → length ys ≡ length xs → (p ≡ length xs → ⊥) → get_or ys p d ≡ get_or xs p d →
    get_or (ys ++ b ∷ []) p d ≡ get_or (xs ++ a ∷ []) p d
push_apart [] [] a b d zero l apart e = absurd (apart refl)
push_apart [] [] a b d (suc p) l apart e = refl
push_apart [] (y ∷ ys) a b d p l apart e = absurd (omega (arith, l))
push_apart (x ∷ xs) [] a b d p l apart e = absurd (omega (arith, l))
push_apart (x ∷ xs) (y ∷ ys) a b d zero l apart e = e
push_apart (x ∷ xs) (y ∷ ys) a b d (suc p) l apart e = push_apart xs ys a b d p (omega (arith, l)) (λ h. apart (ap suc h)) e

-- what is kept of what is kept
module _ (n : PlacedNode) (lasts : List ℕ) (i : ℕ) where
  kept_on : (words mid kept : List Bits) → AreKept n lasts i words mid → AreKept n lasts i mid kept → AreKept n lasts i words kept
  kept_on words mid kept a b = record { count = b.count ∙ a.count; waiting = λ p k q l un asked reads. b.waiting p k q l un asked reads ∙ a.waiting p k q l un asked reads }

  -- one word more
  kept_push : (words kept new : List Bits) (next : Bits) → AreKept n lasts i words kept → new ≡ kept ++ next ∷ [] →
      AreKept n lasts (i + 1) (words ++ next ∷ []) new
  kept_push words kept new next is e = record {
    count = (let a = length_push kept next in let b = length_push words next in let c = is.count in let d = ap length e in omega arith);
    waiting = λ p k q l un asked reads. ap (λ ws. assigned ws p) e ∙ push_alike words kept next always p is.count (is.waiting p k q (omega (arith, l)) un asked reads);
  }

  -- the next word is that of all words, and what is too long before it too
  next_kept : (words kept : List Bits) (next : Bits) → AreKept n lasts i words kept → IsAskedFor n lasts (i + 1) →
      IsNextWord n (i + 1) (assigned kept) next → IsNextWord n (i + 1) (assigned words) next
  next_kept words kept next are asked is = record {
    named = is.named;
    passed = λ p k un reads. subst (λ w. Hands reads.entry.kind k w next) (are.waiting p k (i + 1) (omega arith) un asked reads) (is.passed p k un reads);
    stored = is.stored;
  }

  long_kept : (words kept : List Bits) → AreKept n lasts i words kept → IsAskedFor n lasts (i + 1) →
      IsTooLongBefore n (i + 1) (assigned kept) → IsTooLongBefore n (i + 1) (assigned words)
  long_kept words kept are asked long = record {
    reader = long.reader;
    operand = long.operand;
    before = long.before;
    unnamed = long.unnamed;
    reads = long.reads;
    hands = (long.hands.0, long.hands.1, subst (HandsTooLong long.hands.0.kind) (are.waiting long.reader long.operand (i + 1) (omega arith) long.unnamed asked long.reads) long.hands.2);
  }

-- the word of a clock is let go of, of which no place behind the first ones asks for one
pub kept_set : (n : PlacedNode) (upto clock : ℕ) (lasts : List ℕ) (words new : List Bits) (other : Bits) → AreLasts n lasts →
    slice_index lasts (clock - 1) ≤ upto →
    new ≡ set words clock other → AreKept n lasts upto words new
kept_set n upto clock lasts words new other are last e = record {
  count = ap length e ∙ length-set words clock other;
  waiting = λ p k q l un asked reads. elim (cases_eq p clock) [
    | inl same ↦ absurd (
        let m : q ≤ slice_index lasts (clock - 1) = subst (λ c. q ≤ slice_index lasts (c - 1)) same (are p k q un asked reads) in
        omega (arith, m, l, last)
        )
    | inr apart ↦ ap (λ ws. assigned ws p) e ∙ get_or-set_other words clock p other always apart
  ];
}

-- and where it isn't let go of
pub kept_all : (n : PlacedNode) (upto : ℕ) (lasts : List ℕ) (words : List Bits) → AreKept n lasts upto words words
kept_all n upto lasts words = record { count = refl; waiting = λ p k q l un asked reads. refl }

-- what is kept of the words of one place more, which is asked for
module _ (n : PlacedNode) (once : AreReadOnce n) (lasts : List ℕ) (i least : ℕ) (kept : List Bits) (next : Bits) (so : AreKeptSoFar n lasts i least kept) (asked : IsAskedFor n lasts (i + 1)) (is : IsNextWord n (i + 1) (assigned kept) next) where
  of_all : IsNextWord n (i + 1) (assigned so.words) next
  of_all = next_kept n lasts i so.words kept next so.are asked is

  pub kept_more : (pushed mid new : List Bits) → (NextHandsTooLong n (i + 1) next → ⊥) → pushed ≡ kept ++ next ∷ [] →
      AreKept n lasts (i + 1) pushed mid → AreKept n lasts (i + 1) mid new → AreKeptSoFar n lasts (i + 1) least new
  kept_more pushed mid new fits e a b = record {
    words = so.words ++ next ∷ [];
    far = so_far_push n once i so.words (so.words ++ next ∷ []) next so.far of_all refl fits;
    are = kept_on n lasts (i + 1) (so.words ++ next ∷ []) pushed new (kept_push n lasts i so.words kept pushed next so.are e) (kept_on n lasts (i + 1) pushed mid new a b);
    most = (let m = so.most in let p = bits_push so.words next in omega arith);
  }

  pub kept_last_long : NextHandsTooLong n (i + 1) next → IsWordTooLong n
  kept_last_long long = last_long n once i so.words (so.words ++ next ∷ []) next so.far of_all refl long

pub kept_before_long : (n : PlacedNode) (lasts : List ℕ) (i least : ℕ) (kept : List Bits) → AreKeptSoFar n lasts i least kept →
    IsAskedFor n lasts (i + 1) → IsTooLongBefore n (i + 1) (assigned kept) → IsWordTooLong n
kept_before_long n lasts i least kept so asked long = before_long n i so.words so.far (long_kept n lasts i so.words kept so.are asked long)

-- a place that isn't asked for hands down nothing that is too long
unasked_fits : (kind : PlaceKind) (last : ℕ) (own : Bits) → (AsksFor kind last → ⊥) → HandsTooLong kind own → ⊥
unasked_fits (Merge word a b) last own unasked long = unasked tt
unasked_fits kind last own unasked long = long

-- one place more, which isn't asked for: another word stands for its own
module _ (n : PlacedNode) (once : AreReadOnce n) (lasts : List ℕ) (are : AreLasts n lasts) (i : ℕ) (unasked : IsAskedFor n lasts (i + 1) → ⊥) where
  kept_apart : (words kept new : List Bits) (next other : Bits) → length words ≡ i + 1 → AreKept n lasts i words kept →
      new ≡ kept ++ other ∷ [] → AreKept n lasts (i + 1) (words ++ next ∷ []) new
  kept_apart words kept new next other count is e = record {
    count = (let a = length_push kept other in let b = length_push words next in let c = is.count in let d = ap length e in omega arith);
    waiting = λ p k q l un asked reads.
        ap (λ ws. assigned ws p) e
        ∙ push_apart words kept next other always p is.count (λ h. apart p k q (h ∙ count) l un asked reads) (is.waiting p k q (omega (arith, l)) un asked reads);
  }
    where
      apart : (p k q : ℕ) → p ≡ i + 1 → i + 1 < q → IsUnnamed n q → IsAskedFor n lasts q → Reads n p k q → ⊥
      apart p k q same l un asked reads =
          let m : q ≤ slice_index lasts (p - 1) = are p k q un asked reads in
          let some : 0 < slice_index lasts (p - 1) = omega (arith, m, l) in
          unasked (subst (IsAskedFor n lasts) same (reads.entry, reads.stands, asks_from reads.entry.kind (slice_index lasts (p - 1)) some))

  pub kept_past : (least : ℕ) (kept new : List Bits) (other : Bits) → ((words : List Bits) → AreHandedSoFar n i words →
      (next : Bits) × IsNextWord n (i + 1) (assigned words) next) →
      AreKeptSoFar n lasts i least kept → new ≡ kept ++ other ∷ [] → AreKeptSoFar n lasts (i + 1) least new
  kept_past least kept new other there so e =
      let next = there so.words so.far in
      record {
        words = so.words ++ next.0 ∷ [];
        far = so_far_push n once i so.words (so.words ++ next.0 ∷ []) next.0 so.far next.1 refl (λ long. unasked_fits long.0.kind (slice_index lasts (i + 1 - 1)) next.0 (λ asks. unasked (long.0, long.1, asks)) long.2);
        are = kept_apart so.words kept new next.0 other so.far.count so.are e;
        most = (let m = so.most in let p = bits_push so.words next.0 in omega arith);
      }

-- nothing is let go of of the first words
pub kept_first : (n : PlacedNode) (lasts : List ℕ) (first : List Bits) (i : ℕ) → AreFirstWords n first → i + 1 ≡ length first →
    AreKeptSoFar n lasts i (word_bits first) first
kept_first n lasts first i are e =
    let count = are.far.count in
    let here : are.upto ≡ i = omega arith in
    record { words = first; far = subst (λ k. AreHandedSoFar n k first) here are.far; are = kept_all n i lasts first; most = omega arith }

-- the first words are all, where there are so many
pub all_first : (n : PlacedNode) (words : List Bits) → AreFirstWords n words → length n.places < length words →
    AreHandedSoFar n (length n.places) words
all_first n words are more =
    let count = are.far.count in
    let within = are.within in
    let last : are.upto ≡ length n.places = omega arith in
    subst (λ i. AreHandedSoFar n i words) last are.far

-- a node whose first words have too many bits, of which none behind is too long
pub past_are : (n : PlacedNode) → IsWritten n → AreReadOnce n → (first : List Bits) → AreFirstWords n first →
    length first ≤ length n.places → AreContinued n first → AllByRecursion IsStored (base_words n.calls) →
    RefusesWords n (err.Limit lim.Bits)
past_are n is_written once first are past all stored =
    let count = are.far.count in
    let far : limit_number lim.Bits < word_bits first = are.past (omega arith) in
    let more : word_bits first ≤ word_bits all.0 = all.2 in
    let most : word_bits all.0 ≤ word_bits (all.0 ++ base_words n.calls) = bits_behind all.0 (base_words n.calls) in
    inr (refl, none_long n is_written once all.0 all.1, all.0 ++ base_words n.calls, words_are n is_written all.0 (all.0 ++ base_words n.calls) all.1 stored refl, omega arith)
