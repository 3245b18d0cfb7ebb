-- How a runner is made: the parts of all actors, then the ends of all rings, then the seats.
use Rattle.std.specs.Prelude.{ℕ, ◌+◌, ◌<◌, ◌≤◌, ◌≡◌, Bool, true, false, List, [], ◌∷◌, ◌++◌, ℤ, All, length, map, nat_eq, replicate, slice_get, slice_index, slice_index_or, vec_capacity, if◌then◌else◌, Some}
use Rattle.lucy_word.specs.Bits.{ones_to}
use Rattle.lucy_word.specs.Limits.{limit_number}
use Rattle.lucy_word.specs.declared.limit.Limit.TheVariants as limit
use Rattle.lucy_stream.specs.Forms.{operands}
use Rattle.lucy_net.specs.declared.net.Actor.{Actor}
use Rattle.lucy_net.specs.declared.net.RingSpec.{RingSpec}
use Rattle.lucy_net.specs.declared.net.Net.{Net}
use Rattle.lucy_net.specs.Plans.{form_of}
use Rattle.lucy_net.specs.Proper.{numbers_where}
use Rattle.lucy_net.specs.States.{IsActorState, ReadsInput}
use Rattle.lucy_ring.specs.Views.{GiverView, TakerView}
use Rattle.lucy_worker.specs.declared.part.Part.{Part}
use Rattle.lucy_worker.specs.News.{HasRoom, IsNew, ends_by, most_ends}
use Rattle.lucy_runner.specs.declared.place.Place.{Place}
use Rattle.lucy_runner.specs.declared.place.Ends.{Ends}
use Rattle.lucy_runner.specs.declared.sitting.Bench.{Bench}
use Rattle.lucy_runner.specs.declared.sitting.Hall.{Hall}
use Rattle.lucy_runner.specs.Views.{most_workers}
use Rattle.lucy_runner.specs.Crews.{part_of, AreShared}
use Rattle.lucy_runner.specs.Standing.{AreCovered}

-- an actor that has done nothing: an input has its list, and an output room for all that it takes
pub record IsBegun (inputs : List (List ℤ)) (instants number : ℕ) (actor : Actor) (p : Part) : Type 0 where
  pub is : p.number ≡ number
  pub of_actor : p.actor ≡ actor
  pub begins : IsActorState actor instants 0 (replicate (operands (form_of actor.kind)) []) p.state
  pub reads : ReadsInput actor.kind inputs p.input.items
  pub empty : p.output.items ≡ []
  pub room : HasRoom actor.kind (ones_to actor.firing instants) 0 (vec_capacity p.output)

-- one without ends
pub record IsFirstPart (inputs : List (List ℤ)) (instants number : ℕ) (actor : Actor) (p : Part) : Type 0 where
  pub begun : IsBegun inputs instants number actor p
  pub no_givers : p.givers.items ≡ []
  pub no_takers : p.takers.items ≡ []

-- one for each actor
pub record AreFirstParts (inputs : List (List ℤ)) (instants : ℕ) (actors : List Actor) (parts : List Part) : Type 0 where
  pub count : length parts ≡ length actors
  pub each : (a : ℕ) (actor : Actor) (p : Part) → slice_get actors a ≡ Some actor → slice_get parts a ≡ Some p → IsFirstPart inputs instants a actor p

-- of the first rings, so many of them, those from an actor
abbrev pub rings_from : List RingSpec → ℕ → ℕ → List ℕ
rings_from rings a n = numbers_where (λ r. nat_eq (slice_index_or (map (λ ring. ring.from) rings) r 0) a) n

-- of the first rings those to an actor
abbrev pub rings_to : List RingSpec → ℕ → ℕ → List ℕ
rings_to rings a n = numbers_where (λ r. nat_eq (slice_index_or (map (λ ring. ring.to) rings) r 0) a) n

-- the ends of a ring that was just made: it has its size and one slot more, and no item
pub record AreNewEnds (ring : RingSpec) (g : GiverView) (t : TakerView) : Type 0 where
  pub name : g.ring ≡ t.ring
  pub capacity : g.ring.capacity ≡ ring.size + 1
  pub slots : g.slots ≡ ring.size + 1
  pub given : g.given ≡ []
  pub held : t.held ≡ []
  pub taken : t.taken ≡ []
  pub known : t.known ≡ []

-- the same part with these ends more
pub record HasGained (p : Part) (givers : List GiverView) (takers : List TakerView) (q : Part) : Type 0 where
  pub rest : q ≡ record p { givers = q.givers; takers = q.takers }
  pub givers_on : q.givers.items ≡ p.givers.items ++ givers
  pub takers_on : q.takers.items ≡ p.takers.items ++ takers

-- an end where the actor is the one that has it
abbrev pub end_for : {X : Type 0} → ℕ → ℕ → X → List X
end_for owner a x = if nat_eq owner a then x ∷ [] else []

-- a ring was made and its ends given to the parts of its two actors, which have them at these places
pub record HaveJoined (before : List Part) (ring : RingSpec) (at : Ends) (after : List Part) : Type 0 where
  pub g : GiverView
  pub t : TakerView
  pub ends : AreNewEnds ring g t
  pub count : length after ≡ length before
  pub each : (a : ℕ) (p q : Part) → slice_get before a ≡ Some p → slice_get after a ≡ Some q → HasGained p (end_for ring.from a g) (end_for ring.to a t) q
  pub giver : (p : Part) → slice_get before ring.from ≡ Some p → at.giver ≡ length p.givers.items
  pub taker : (p : Part) → slice_get before ring.to ≡ Some p → at.taker ≡ length p.takers.items

-- the ends of these rings, among those of all
abbrev pub AreEndsOf : {X : Type 0} → List X → List ℕ → List X → Type 0
AreEndsOf all rings ends = map Some ends ≡ map (slice_get all) rings

-- a part with the ends of the rings from its actor and to it, in order of the rings
pub record HasEndsOf (givers : List GiverView) (takers : List TakerView) (from to : List ℕ) (p q : Part) : Type 0 where
  pub rest : q ≡ record p { givers = q.givers; takers = q.takers }
  pub givers_are : AreEndsOf givers from q.givers.items
  pub takers_are : AreEndsOf takers to q.takers.items

-- the first rings, so many of them, were made, and their ends given to the parts of their actors
pub record HaveAllJoined (rings : List RingSpec) (n : ℕ) (before after : List Part) (ends : List Ends) : Type 0 where
  pub givers : List GiverView
  pub takers : List TakerView
  pub made : (length givers ≡ n) × (length takers ≡ n)
  pub new : (r : ℕ) (ring : RingSpec) (g : GiverView) (t : TakerView) → slice_get rings r ≡ Some ring → slice_get givers r ≡ Some g → slice_get takers r ≡ Some t → AreNewEnds ring g t
  pub count : length after ≡ length before
  pub each : (a : ℕ) (p q : Part) → slice_get before a ≡ Some p → slice_get after a ≡ Some q → HasEndsOf givers takers (rings_from rings a n) (rings_to rings a n) p q
  pub ended : length ends ≡ n
  pub at : (r : ℕ) (ring : RingSpec) (at : Ends) → slice_get rings r ≡ Some ring → slice_get ends r ≡ Some at →
      (at.giver ≡ length (rings_from rings ring.from r)) × (at.taker ≡ length (rings_to rings ring.to r))

-- few ends, as long as rings are made
abbrev pub HasFewEnds : Part → Type 0
HasFewEnds p = (length p.givers.items ≤ limit_number limit.Rings) × (length p.takers.items ≤ limit_number limit.Rings)

-- the parts of benches
abbrev pub benched : Bench → List Part
benched bench = bench.parts.items

-- the homes of benches
abbrev pub homes_in : List Bench → List ℕ
homes_in benches = map (λ (bench : Bench). bench.home) benches

-- the home is used
abbrev pub is_used : List Bool → ℕ → Bool
is_used used home = slice_index_or used home false

-- the first parts, so many of them, are at their places, each once, and no others are
pub record ArePlaced (parts : List Part) (n : ℕ) (crew : List (List Part)) (places : List Place) : Type 0 where
  pub placed : length places ≡ n
  pub each : (a : ℕ) (p : Part) → a < n → slice_get parts a ≡ Some p → part_of crew places a ≡ Some p
  pub covered : AreCovered crew places
  pub shared : AreShared crew n

-- the empty benches of the homes that are used, of which each knows the number of its bench
pub record HaveSeats (used : List Bool) (hall : Hall) : Type 0 where
  pub count : length hall.numbers.items ≡ length used
  pub few_benches : length hall.benches.items ≤ length used
  pub seats : (home : ℕ) → slice_get used home ≡ Some true → slice_index hall.numbers.items home < length hall.benches.items
  pub homes : homes_in hall.benches.items ≡ numbers_where (is_used used) (length used)
  pub places : (home : ℕ) → home < length used → slice_index hall.numbers.items home ≡ length (numbers_where (is_used used) home)
  pub none : All (λ bench. benched bench ≡ []) hall.benches.items

-- the parts are in the order of their numbers
abbrev pub AreNumbered : List Part → Type 0
AreNumbered parts = (a : ℕ) (p : Part) → slice_get parts a ≡ Some p → p.number ≡ a

-- a worker can be made of the parts
abbrev pub CanWork : List Part → Type 0
CanWork parts = All IsNew parts × (ends_by parts ≤ most_ends)

-- the actors of a net, with the items of the inputs, in at most so many seats at their beginning
pub record AreMade (net : Net) (inputs : List (List ℤ)) (instants : ℕ) (crew : List (List Part)) (places : List Place) (ends : List Ends) : Type 0 where
  pub alone : List Part
  pub parts : List Part
  pub first : AreFirstParts inputs instants net.actors alone
  pub joined : HaveAllJoined net.rings (length net.rings) alone parts ends
  pub seated : ArePlaced parts (length net.actors) crew places
  pub few : length crew ≤ most_workers
