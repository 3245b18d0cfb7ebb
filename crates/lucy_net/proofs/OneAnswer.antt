-- A net has one answer: the lengths of its schedule, or one limit, or the first instant that has a cycle.
use Rattle.std.proofs.Common.{ℕ, ◌+◌, ◌<◌, ◌≡◌, List, [], ◌∷◌, map, ap, sym, refl, ◌∙◌, inl, inr, arith}
use Rattle.std.proofs.lemmas.Bool.{cases_lt}
use Rattle.std.proofs.lemmas.Nat.Gcd.{dvd_antisymm}
use Rattle.std.proofs.lemmas.List.Elements.{All-head}
use Rattle.lucy_word.specs.Bits.{Bits}
use Rattle.lucy_stream.specs.Needs.{StreamItem, ReachesItself}
use Rattle.lucy_net.specs.declared.net.Net.{Net}
use Rattle.lucy_net.specs.Causal.{net_places, IsOfInstant}
use Rattle.lucy_net.specs.Words.{net_words}
use Rattle.lucy_net.specs.declared.error.CauseFault.{CauseFault}
use Rattle.lucy_net.specs.declared.error.CauseFault.TheVariants as fault
use Rattle.lucy_net.specs.Lengths.{AreLengths, operations_by}
use Rattle.lucy_net.specs.Faults.{item_of, IsFirstCycle, StopsAt}
use Rattle.lucy_net.specs.Schedules.{Timetable, IsAllowed, IsScheduleOf, IsTooLong, HasTooManyEvents, RefusesTimetable, TellSame}

pub one_length : (words : List Bits) (prefix period p q : ℕ) → AreLengths words prefix period → AreLengths words p q → (prefix ≡ p) × (period ≡ q)
one_length words prefix period p q is other = (
  omega (arith, is.prefix_least p other.prefixes, other.prefix_least prefix is.prefixes),
  dvd_antisymm (is.period_least q other.some other.periods) (other.period_least period is.some is.periods),
)

-- what is allowed passes no limit
allowed_short : (net : Net) (prefix period : ℕ) → IsAllowed net prefix period → IsTooLong net → ⊥
allowed_short net prefix period allowed long =
    let same = one_length (net_words net) prefix period long.0 long.1 allowed.lengths long.2 in
    omega (arith, allowed.short, long.3, same.0, same.1)

allowed_few : (net : Net) (prefix period : ℕ) → IsAllowed net prefix period → HasTooManyEvents net → ⊥
allowed_few net prefix period allowed many =
    let same = one_length (net_words net) prefix period many.0 many.1 allowed.lengths many.2 in
    let total : prefix + period ≡ many.0 + many.1 = omega (arith, same.0, same.1) in
    omega (arith, allowed.few, many.4, ap (operations_by net) total)

long_not_many : (net : Net) → IsTooLong net → HasTooManyEvents net → ⊥
long_not_many net long many =
    let same = one_length (net_words net) many.0 many.1 long.0 long.1 many.2 long.2 in
    omega (arith, many.3, long.3, same.0, same.1)

-- an item of a cycle reaches itself
record Turns (net : Net) (before : ℕ) : Type 0 where
  pub item : StreamItem
  pub of_instant : IsOfInstant net before item
  pub reaches : ReachesItself (net_places net) item

turns : (net : Net) (instant : ℕ) (items : List StreamItem) (is : IsFirstCycle net instant items) → Turns net is.before
turns net instant [] is = absurd is.cycle
turns net instant (x ∷ walk) is = record { item = x; of_instant = All-head (IsOfInstant net is.before) x walk is.of_instant; reaches = (walk, is.cycle) }

pub never_both : (net : Net) (s : Timetable) (e : CauseFault) → IsScheduleOf net s → RefusesTimetable net e → e ≡ fault.OutOfMemory
never_both net s (fault.Limit which) is (inl (long, same)) = absurd (allowed_short net s.prefix s.period is.allowed long)
never_both net s (fault.Limit which) is (inr (many, same)) = absurd (allowed_few net s.prefix s.period is.allowed many)
never_both net s (fault.Cycle instant items) is why =
    let found = turns net instant (map item_of items.items) why.1 in
    absurd (is.causal found.item (omega (arith, found.of_instant.earlier)) found.reaches)
never_both net s fault.OutOfMemory is why = refl

-- no cycle of a later instant is the first
not_later : (net : Net) (instant other : ℕ) (items others : List StreamItem) (is : IsFirstCycle net instant items) (later : IsFirstCycle net other others) → is.before < later.before → ⊥
not_later net instant other items others is later l = (let found = turns net instant items is in later.first is.before found.item l found.of_instant found.reaches)

one_instant : (net : Net) (instant other : ℕ) (items others : List StreamItem) → IsFirstCycle net instant items → IsFirstCycle net other others → instant ≡ other
one_instant net instant other items others is also = elim (cases_lt is.before also.before) [
  | inl l ↦ absurd (not_later net instant other items others is also l)
  | inr up ↦ elim (cases_lt also.before is.before) [
    | inl l ↦ absurd (not_later net other instant others items also is l)
    | inr down ↦ omega (arith, is.instant_is, also.instant_is)
  ]
]

pub one_refusal : (net : Net) (e f : CauseFault) → RefusesTimetable net e → RefusesTimetable net f → TellSame e f
one_refusal net fault.OutOfMemory f why other = tt
one_refusal net (fault.Limit which) fault.OutOfMemory why other = tt
one_refusal net (fault.Cycle instant items) fault.OutOfMemory why other = tt
one_refusal net (fault.Limit which) (fault.Limit other_one) (inl (long, e)) (inl (also, f)) = e ∙ sym f
one_refusal net (fault.Limit which) (fault.Limit other_one) (inr (many, e)) (inr (also, f)) = e ∙ sym f
one_refusal net (fault.Limit which) (fault.Limit other_one) (inl (long, e)) (inr (many, f)) = absurd (long_not_many net long many)
one_refusal net (fault.Limit which) (fault.Limit other_one) (inr (many, e)) (inl (long, f)) = absurd (long_not_many net long many)
one_refusal net (fault.Limit which) (fault.Cycle instant items) (inl (long, e)) ((prefix, period, allowed, up), is) = allowed_short net prefix period allowed long
one_refusal net (fault.Limit which) (fault.Cycle instant items) (inr (many, e)) ((prefix, period, allowed, up), is) = allowed_few net prefix period allowed many
one_refusal net (fault.Cycle instant items) (fault.Limit which) ((prefix, period, allowed, up), is) (inl (long, e)) = allowed_short net prefix period allowed long
one_refusal net (fault.Cycle instant items) (fault.Limit which) ((prefix, period, allowed, up), is) (inr (many, e)) = allowed_few net prefix period allowed many
one_refusal net (fault.Cycle instant items) (fault.Cycle other others) why also = one_instant net instant other (map item_of items.items) (map item_of others.items) why.1 also.1

-- a play that stops is a refusal
pub stops : (net : Net) (prefix period instants : ℕ) (e : CauseFault) → IsAllowed net prefix period → instants ≡ prefix + period → StopsAt net instants e → RefusesTimetable net e
stops net prefix period instants (fault.Limit which) allowed same why = absurd why
stops net prefix period instants (fault.Cycle instant items) allowed same why = ((prefix, period, allowed, omega (arith, why.0)), why.1)
stops net prefix period instants fault.OutOfMemory allowed same why = tt
