-- The net of drafts: a ring for each operand, numbered by the taking actor and then by operand.
use Rattle.std.specs.Prelude.{ℕ, zero, suc, ◌+◌, ◌<◌, ◌≤◌, ◌≡◌, ◌^◌, List, [], ◌∷◌, ◌++◌, All, length, take, Option, Some, None, slice_get, nat_eq, sum_by}
use Rattle.std.specs.List.{range_with_len}
use Rattle.lucy_tree.specs.Shaped.{HasZero}
use Rattle.lucy_word.specs.Bits.{Bits}
use Rattle.lucy_word.specs.Limits.{limit_number}
use Rattle.lucy_word.specs.declared.limit.Limit.TheVariants as limit
use Rattle.lucy_word.specs.Shortest.{IsShortest}
use Rattle.lucy_word.specs.Stored.{IsStored}
use Rattle.lucy_word.specs.Sampling.{IsOn, IsOnTooLong}
use Rattle.lucy_word.specs.Complement.{turned}
use Rattle.lucy_net.specs.declared.kind.ActorKind.{ActorKind}
use Rattle.lucy_net.specs.declared.kind.ActorKind.TheVariants.{When, Merge}
use Rattle.lucy_net.specs.declared.net.Actor.{Actor}
use Rattle.lucy_net.specs.declared.net.RingSpec.{RingSpec}
use Rattle.lucy_net.specs.declared.net.Net.{Net}
use Rattle.lucy_net.specs.Proper.{numbers_where}
use Rattle.lucy_net.specs.Words.{ring_words, net_words}
use Rattle.lucy_flat.specs.declared.draft.Draft.{Draft}
use Rattle.lucy_flat.specs.declared.held.Held.{Held}
use Rattle.lucy_flat.specs.Extents.{ring_bits}
use Rattle.lucy_flat.specs.Refusals.{net_bits}

abbrev pub reads_count : Draft → ℕ
reads_count draft = length draft.reads.items

-- where the rings of a draft begin
abbrev pub first_ring : List Draft → ℕ → ℕ
first_ring drafts a = sum_by reads_count (take a drafts)

abbrev pub all_reads : List Draft → ℕ
all_reads drafts = sum_by reads_count drafts

-- the word on which a draft takes an operand, by its kind, its own word, and the word on which the operand is written
abbrev pub IsReadOn : ActorKind → ℕ → Bits → Bits → Bits → Type 0
IsReadOn (When p) k own write word = word ≡ write
IsReadOn (Merge p) zero own write word = IsOn own p word
IsReadOn (Merge p) (suc k) own write word = IsOn own (turned p) word
IsReadOn kind k own write word = word ≡ own

abbrev pub ReadsTooLong : ActorKind → ℕ → Bits → Type 0
ReadsTooLong (Merge p) zero own = IsOnTooLong own p
ReadsTooLong (Merge p) (suc k) own = IsOnTooLong own (turned p)
ReadsTooLong kind k own = ⊥

-- there is the word on which a draft takes an operand, as words are in memory, and it isn't too long
pub record IsReadThere (kind : ActorKind) (k : ℕ) (own write : Bits) : Type 0 where
  pub read : Bits
  pub is : IsReadOn kind k own write read
  pub stored : IsStored read
  pub fits : ReadsTooLong kind k own → ⊥

-- the ring of operand k of a draft
pub record IsRingOf (drafts : List Draft) (a k source : ℕ) (draft : Draft) (ring : RingSpec) : Type 0 where
  pub giver : Draft
  pub gives : slice_get drafts source ≡ Some giver
  pub from : ring.from ≡ source
  pub to : ring.to ≡ a
  pub size : ring.size ≡ draft.size
  pub write : ring.write ≡ giver.word
  pub read : IsReadOn draft.kind k draft.word giver.word ring.read
  pub shortest : IsShortest ring.read
  pub fits : ReadsTooLong draft.kind k draft.word → ⊥

-- the rings of the first drafts
pub record AreRingsOf (drafts : List Draft) (upto : ℕ) (rings : List RingSpec) : Type 0 where
  pub count : length rings ≡ first_ring drafts upto
  pub each : (a k from : ℕ) (draft : Draft) → a < upto → slice_get drafts a ≡ Some draft → slice_get draft.reads.items k ≡ Some from →
      (ring : RingSpec) × (slice_get rings (first_ring drafts a + k) ≡ Some ring) × IsRingOf drafts a k from draft ring

-- the actor that gives on a ring
abbrev pub from_of : Option RingSpec → ℕ
from_of None = 0
from_of (Some ring) = ring.from

abbrev pub from_at : List RingSpec → ℕ → ℕ
from_at rings r = from_of (slice_get rings r)

-- the actor of a draft
abbrev pub IsFiring : ActorKind → Bits → Option RingSpec → Bits → Type 0
IsFiring (When p) own (Some ring) firing = firing ≡ ring.write
IsFiring (When p) own None firing = ⊥
IsFiring kind own first firing = firing ≡ own

abbrev pub IsSampling : ActorKind → Type 0
IsSampling (When p) = Unit {0}
IsSampling kind = ⊥

pub record IsDraftActor (rings : List RingSpec) (first : ℕ) (draft : Draft) (actor : Actor) : Type 0 where
  pub kind : actor.kind ≡ draft.kind
  pub takes : actor.takes ≡ range_with_len first (reads_count draft)
  pub gives : actor.gives ≡ draft.gives.items
  pub firing : IsFiring draft.kind draft.word (slice_get rings first) actor.firing

-- the actors of drafts, whose rings follow one another
pub record AreActorsOf (rings : List RingSpec) (drafts : List Draft) (actors : List Actor) : Type 0 where
  pub count : length actors ≡ length drafts
  pub each : (a : ℕ) (draft : Draft) → slice_get drafts a ≡ Some draft → (actor : Actor) × (slice_get actors a ≡ Some actor) × IsDraftActor rings (first_ring drafts a) draft actor

-- the rings among the first that come from an actor
abbrev pub given_by : List RingSpec → ℕ → ℕ → List ℕ
given_by rings upto a = numbers_where (λ r. nat_eq (from_at rings r) a) upto

-- the drafts with the first rings handed out
pub record IsGiven (rings : List RingSpec) (upto a : ℕ) (old new : Draft) : Type 0 where
  pub kind : new.kind ≡ old.kind
  pub word : new.word ≡ old.word
  pub reads : new.reads.items ≡ old.reads.items
  pub gives : new.gives.items ≡ given_by rings upto a

pub record AreGiven (old : List Draft) (rings : List RingSpec) (upto : ℕ) (new : List Draft) : Type 0 where
  pub count : length new ≡ length old
  pub each : (a : ℕ) (draft : Draft) → slice_get old a ≡ Some draft → (next : Draft) × (slice_get new a ≡ Some next) × IsGiven rings upto a draft next

pub record IsActorFrom (drafts : List Draft) (net : Net) (a : ℕ) (draft : Draft) (actor : Actor) : Type 0 where
  pub kind : actor.kind ≡ draft.kind
  pub takes : actor.takes ≡ range_with_len (first_ring drafts a) (reads_count draft)
  pub gives : actor.gives ≡ given_by net.rings (length net.rings) a
  pub firing : IsFiring draft.kind draft.word (slice_get net.rings (first_ring drafts a)) actor.firing

-- the net has the drafts' actors and rings
pub record IsAssembled (drafts : List Draft) (net : Net) : Type 0 where
  pub count : length net.actors ≡ length drafts
  pub rings : AreRingsOf drafts (length drafts) net.rings
  pub actors : (a : ℕ) (draft : Draft) → slice_get drafts a ≡ Some draft → (actor : Actor) × (slice_get net.actors a ≡ Some actor) × IsActorFrom drafts net a draft actor

-- what a draft reads is there; a sampling reads something, and a merge has a zero
abbrev pub HasKind : ActorKind → ℕ → Type 0
HasKind (When p) count = 0 < count
HasKind (Merge p) count = HasZero p
HasKind kind count = Unit {0}

pub record AreReadyDrafts (drafts : List Draft) : Type 0 where
  pub reads : (a k from : ℕ) (draft : Draft) → slice_get drafts a ≡ Some draft → slice_get draft.reads.items k ≡ Some from → from < length drafts
  pub kinds : (a : ℕ) (draft : Draft) → slice_get drafts a ≡ Some draft → HasKind draft.kind (reads_count draft)
  pub gives : (a : ℕ) (draft : Draft) → slice_get drafts a ≡ Some draft → draft.gives.items ≡ []
  pub short : (a : ℕ) (draft : Draft) → slice_get drafts a ≡ Some draft → IsShortest draft.word
  pub few : length drafts < 2 ^ 32
  pub few_rings : all_reads drafts < 2 ^ 32

-- some word on which a draft takes is too long
pub record IsReadTooLong (drafts : List Draft) : Type 0 where
  pub a : ℕ
  pub draft : Draft
  pub there : slice_get drafts a ≡ Some draft
  pub operand : ℕ
  pub within : operand < reads_count draft
  pub too_long : ReadsTooLong draft.kind operand draft.word

-- the rings of the first drafts, and those of the first operands of the next one
pub record AreRingsSoFar (drafts : List Draft) (to upto : ℕ) (rings : List RingSpec) : Type 0 where
  pub count : length rings ≡ first_ring drafts to + upto
  pub before : (a k from : ℕ) (draft : Draft) → a < to → slice_get drafts a ≡ Some draft → slice_get draft.reads.items k ≡ Some from →
      (ring : RingSpec) × (slice_get rings (first_ring drafts a + k) ≡ Some ring) × IsRingOf drafts a k from draft ring
  pub here : (k from : ℕ) (draft : Draft) → k < upto → slice_get drafts to ≡ Some draft → slice_get draft.reads.items k ≡ Some from →
      (ring : RingSpec) × (slice_get rings (first_ring drafts to + k) ≡ Some ring) × IsRingOf drafts to k from draft ring

-- of these rings those are held whose words have together no more bits than are allowed: all, unless all have more
pub record AreHeld (rings : List RingSpec) (held : Held) : Type 0 where
  pub stored : All IsStored (ring_words rings)
  pub most : held.bits ≤ sum_by ring_bits rings
  pub all : held.bits ≤ limit_number limit.Bits → (held.rings.items ≡ rings) × (held.bits ≡ sum_by ring_bits rings)
  pub few : sum_by ring_bits held.rings.items ≤ limit_number limit.Bits

-- the ring of an operand comes behind others, made or not, and some of all are held
pub record IsRingHeld (drafts : List Draft) (to operand : ℕ) (rings : List RingSpec) (held : Held) : Type 0 where
  pub ring : RingSpec
  pub is : (from : ℕ) (draft : Draft) → slice_get drafts to ≡ Some draft → slice_get draft.reads.items operand ≡ Some from → IsRingOf drafts to operand from draft ring
  pub holds : AreHeld (rings ++ ring ∷ []) held

-- of the rings of the first drafts
pub record AreRingsHeld (drafts : List Draft) (upto : ℕ) (held : Held) : Type 0 where
  pub rings : List RingSpec
  pub are : AreRingsOf drafts upto rings
  pub holds : AreHeld rings held
  pub words : (a : ℕ) (draft : Draft) → a < upto → slice_get drafts a ≡ Some draft → IsStored draft.word

-- and of those of the first operands of the next one
pub record AreRingsHeldSoFar (drafts : List Draft) (to upto : ℕ) (held : Held) : Type 0 where
  pub rings : List RingSpec
  pub are : AreRingsSoFar drafts to upto rings
  pub holds : AreHeld rings held

-- no word of the drafts' net is too long, and together they have more bits than are allowed
pub record IsNetPast (drafts : List Draft) : Type 0 where
  pub net : Net
  pub is : IsAssembled drafts net
  pub stored : All IsStored (net_words net)
  pub fits : IsReadTooLong drafts → ⊥
  pub past : limit_number limit.Bits < net_bits net
