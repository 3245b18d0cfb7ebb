-- An operand whose word isn't too long has a ring, though none is made.
use Rattle.std.proofs.Common.{ℕ, suc, zero, ◌<◌, ◌≡◌, not, List, Some, length, sym, refl, subst, arith}
use Rattle.std.specs.Prelude.{slice_get}
use Rattle.std.proofs.lemmas.List.{length-map}
use Rattle.lucy_tree.specs.Shaped.{HasZero}
use Rattle.lucy_word.specs.Bits.{Bits, ones_in}
use Rattle.lucy_word.specs.Index.{IsIndex}
use Rattle.lucy_word.specs.Multiple.{IsLcm}
use Rattle.lucy_word.specs.Limits.{limit_number}
use Rattle.lucy_word.specs.declared.limit.Limit.TheVariants as limit
use Rattle.lucy_word.specs.Stored.{IsStored}
use Rattle.lucy_word.specs.Sampling.{AreComputedLengths, IsOnTooLong}
use Rattle.lucy_word.specs.Complement.{turned}
use Rattle.lucy_word.proofs.ComplementLaws.{turned_word}
use Rattle.lucy_net.specs.declared.kind.ActorKind.{ActorKind}
use Rattle.lucy_net.specs.declared.kind.ActorKind.TheVariants.{When, Merge}
use Rattle.lucy_net.specs.declared.net.RingSpec.{RingSpec}
use Rattle.lucy_clock.proofs.HandingLaws.{turned_long}
use Rattle.lucy_flat.specs.declared.draft.Draft.{Draft}
use Rattle.lucy_flat.specs.declared.held.Held.{Held}
use Rattle.lucy_flat.specs.Assembly.{ReadsTooLong, IsReadThere, AreHeld, IsRingHeld}
use Rattle.lucy_flat.proofs.AssemblyLaws.{ring_is}
use Rattle.lucy_flat.proofs.HeldLaws.{held_past}
use Rattle.lucy_clock.proofs.UnmadeLaws.{stored_on}

-- a clock on a word turned is computed with as many bits as one on the word
long_turned : (own word : Bits) → IsOnTooLong own word → IsOnTooLong own (turned word)
long_turned own word long =
    let lengths = long.1.2 in
    let prefix : length (turned word).prefix ≡ length word.prefix = length-map word.prefix not in
    let period : length (turned word).period ≡ length word.period = length-map word.period not in
    let are : AreComputedLengths own (turned word) long.1.0 long.1.1 = record {
      place = lengths.place;
      last_read = subst (λ n. IsIndex own n lengths.place) (sym prefix) lengths.last_read;
      of_prefix = lengths.of_prefix;
      ones = lengths.ones;
      common = subst (λ n. IsLcm (ones_in own.period) n lengths.ones) (sym period) lengths.common;
      of_period = lengths.of_period;
    } in
    (long.0, (long.1.0, long.1.1, are, long.1.3), long.2)

-- what a merge takes on
pub merge_read : (p : Bits) (k : ℕ) (own write : Bits) → IsStored own → IsStored p → HasZero p → (IsOnTooLong own p → ⊥) → IsReadThere (Merge p) k own write
merge_read p zero own write of_own of_p some fits = let w = stored_on own p of_own.word of_p.word fits in record { read = w.0; is = w.1; stored = w.2; fits = fits }
merge_read p (suc k) own write of_own of_p some fits =
    let few : IsOnTooLong own (turned p) → ⊥ = λ long. fits (turned_long own p long) in
    let w = stored_on own (turned p) of_own.word (turned_word p some) few in
    record { read = w.0; is = w.1; stored = w.2; fits = few }

pub merge_long : (p : Bits) (k : ℕ) (own : Bits) → IsOnTooLong own p → ReadsTooLong (Merge p) k own
merge_long p zero own long = long
merge_long p (suc k) own long = long_turned own p long

-- what isn't a merge takes on its own word, or on that of its operand
pub plain_read : (kind : ActorKind) (k : ℕ) (own write : Bits) → ((p : Bits) → kind ≡ Merge p → ⊥) → IsStored own → IsStored write → IsReadThere kind k own write
plain_read (When p) k own write other of_own of_write = record { read = write; is = refl; stored = of_write; fits = λ long. long }
plain_read (Merge p) k own write other of_own of_write = absurd (other p refl)
plain_read kind k own write other of_own of_write = record { read = own; is = refl; stored = of_own; fits = λ long. long }

-- the ring that isn't made
pub ring_held : (drafts : List Draft) (a k source : ℕ) (taker giver : Draft) (rings : List RingSpec) (held : Held) → slice_get drafts a ≡ Some taker → slice_get taker.reads.items k ≡ Some source → slice_get drafts source ≡ Some giver →
    IsReadThere taker.kind k taker.word giver.word → IsStored giver.word → AreHeld rings held → limit_number limit.Bits < held.bits → IsRingHeld drafts a k rings held
ring_held drafts a k source taker giver rings held at got there read write holds past =
    let ring : RingSpec = record { from = source; to = a; write = giver.word; read = read.read; size = taker.size } in
    record {
      ring = ring;
      is = λ from draft e f. ring_is drafts a k taker giver draft source from giver.word read.read at got there refl read.is read.stored.shortest read.fits e f;
      holds = held_past rings held held ring holds write read.stored (omega arith) past refl;
    }
