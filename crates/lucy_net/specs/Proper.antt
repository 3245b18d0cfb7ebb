-- Which nets are proper: the limits are kept, the actors are plugged to their rings, and the words of each ring are those on
-- which its giver gives and its taker takes, adaptable within its size.
use Rattle.std.specs.Prelude.{ℕ, suc, zero, ◌+◌, ◌<◌, ◌≤◌, ◌≡◌, Bool, List, [], ◌∷◌, ◌++◌, length, nat_eq, sum_by, ℤ, slice_get, slice_index_or, if◌then◌else◌, Some}
use Rattle.std.specs.List.{flat_map}
use Rattle.lucy_word.specs.Bits.{Bits, ones_to}
use Rattle.lucy_word.specs.Shortest.{Same}
use Rattle.lucy_word.specs.Sampling.{IsOn}
use Rattle.lucy_word.specs.Complement.{IsComplement}
use Rattle.lucy_word.specs.Adaptable.{IsAdaptable, IsSize}
use Rattle.lucy_word.specs.Limits.{limit_number}
use Rattle.lucy_word.specs.declared.limit.Limit.TheVariants as limit
use Rattle.lucy_stream.specs.Forms.{Form, Kept, Merged, operands}
use Rattle.lucy_stream.specs.Plans.{times, HasInput}
use Rattle.lucy_net.specs.declared.kind.ActorKind.{ActorKind}
use Rattle.lucy_net.specs.declared.kind.ActorKind.TheVariants.{Input, Output}
use Rattle.lucy_net.specs.declared.net.Actor.{Actor}
use Rattle.lucy_net.specs.declared.net.RingSpec.{RingSpec}
use Rattle.lucy_net.specs.declared.net.Net.{Net}
use Rattle.lucy_net.specs.Plans.{form_of, giver, taker}
use Rattle.lucy_net.specs.States.{GivesNone}

-- of the first n numbers, in order, those for which the test holds
abbrev pub numbers_where : (ℕ → Bool) → ℕ → List ℕ
numbers_where holds zero = []
numbers_where holds (suc n) = numbers_where holds n ++ (if holds n then n ∷ [] else [])

-- the number of an input
abbrev pub input_of : ActorKind → List ℕ
input_of (Input input) = input ∷ []
input_of kind = []

-- the number of an output
abbrev pub output_of : ActorKind → List ℕ
output_of (Output output) = output ∷ []
output_of kind = []

-- the numbers are 0, 1 and so on without a gap, each once
abbrev pub IsNumbering : List ℕ → Type 0
IsNumbering numbers = (n : ℕ) → n < length numbers → times n numbers ≡ 1

-- an actor's lists are the rings from it and the rings to it, in order of the rings, as many of these as it has operands
pub record IsProperActor (net : Net) (a : ℕ) (actor : Actor) : Type 0 where
  pub gives : actor.gives ≡ numbers_where (λ r. nat_eq (giver net r) a) (length net.rings)
  pub takes : actor.takes ≡ numbers_where (λ r. nat_eq (taker net r) a) (length net.rings)
  pub arity : length actor.takes ≡ operands (form_of actor.kind)
  pub gives_none : GivesNone actor.kind actor.gives

-- the word on which an actor gives, by its form and its firing word
abbrev pub IsWriteWord : Form → Bits → Bits → Type 0
IsWriteWord (Kept word) firing write = IsOn firing word write
IsWriteWord form firing write = Same firing write

-- the word on which it takes from the operand of this number: a merge at a one of its word from the first, else from the second
abbrev pub IsReadWord : Form → Bits → ℕ → Bits → Type 0
IsReadWord (Merged word) firing zero read = IsOn firing word read
IsReadWord (Merged word) firing (suc j) read = (other : Bits) × IsComplement word other × IsOn firing other read
IsReadWord form firing j read = Same firing read

-- a ring's two words are those on which its giver gives and its taker takes, adaptable, and their size is the ring's
pub record IsProperRing (net : Net) (r : ℕ) (ring : RingSpec) : Type 0 where
  pub giver : Actor
  pub taker : Actor
  pub gives_here : slice_get net.actors ring.from ≡ Some giver
  pub takes_here : slice_get net.actors ring.to ≡ Some taker
  pub write : IsWriteWord (form_of giver.kind) giver.firing ring.write
  pub read : (j : ℕ) → j < length taker.takes → slice_index_or taker.takes j 0 ≡ r → IsReadWord (form_of taker.kind) taker.firing j ring.read
  pub adaptable : IsAdaptable ring.write ring.read
  pub size : IsSize ring.write ring.read ring.size

-- the net is proper
pub record IsProper (net : Net) : Type 0 where
  pub few_actors : length net.actors ≤ limit_number limit.Actors
  pub few_rings : length net.rings ≤ limit_number limit.Rings
  pub few_slots : sum_by (λ ring. ring.size + 1) net.rings ≤ limit_number limit.Slots
  pub inputs : IsNumbering (flat_map (λ actor. input_of actor.kind) net.actors)
  pub outputs : IsNumbering (flat_map (λ actor. output_of actor.kind) net.actors)
  pub actors : (a : ℕ) (actor : Actor) → slice_get net.actors a ≡ Some actor → IsProperActor net a actor
  pub rings : (r : ℕ) (ring : RingSpec) → slice_get net.rings r ≡ Some ring → IsProperRing net r ring

-- each input has an item for each firing of its actor in the first instants
abbrev pub IsSupplied : List (List ℤ) → Net → ℕ → Type 0
IsSupplied inputs net instants = (a : ℕ) (actor : Actor) → slice_get net.actors a ≡ Some actor → HasInput inputs (form_of actor.kind) (ones_to actor.firing instants)
