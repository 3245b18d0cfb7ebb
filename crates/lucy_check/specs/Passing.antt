-- When words pass needs, and what is told of the first need that they don't pass.
use Rattle.std.specs.Prelude.{ℕ, ◌⊎◌, ◌<◌, ◌≡◌, List, [], ◌∷◌, ◌++◌, Option, Some, None, slice_get, option_to_list}
use Rattle.std.specs.List.{AllByRecursion}
use Rattle.lucy_word.specs.Bits.{Bits}
use Rattle.lucy_word.specs.declared.limit.Limit.TheVariants as limit
use Rattle.lucy_word.specs.Shortest.{Same, IsShortest}
use Rattle.lucy_word.specs.Sampling.{IsOnTooLong}
use Rattle.lucy_check.specs.Horizon.{AreFar}
use Rattle.lucy_check.specs.Difference.{IsFirstDifference}
use Rattle.lucy_check.specs.Verdicts.{IsVerdict}
use Rattle.lucy_check.specs.declared.verdict.Verdict.TheVariants as verdict
use Rattle.lucy_need.specs.declared.need.Term.{Term}
use Rattle.lucy_need.specs.declared.need.Need.{Need}
use Rattle.lucy_need.specs.declared.need.Need.TheVariants.{Equal, Adapt}
use Rattle.lucy_need.specs.Meeting.{Assignment, IsTermWord}
use Rattle.lucy_check.specs.declared.fault.CheckFault.{CheckFault}
use Rattle.lucy_check.specs.declared.fault.CheckFault.TheVariants as fault

-- the word of a term, in shortest form, where its computed length passes no limit
pub record IsTermPassing (w : Assignment) (t : Term) (word : Bits) : Type 0 where
  pub is : IsTermWord w t word
  pub shortest : IsShortest word
  pub within : IsOnTooLong (w t.clock) t.word → ⊥

-- the words of two terms, where no limit is passed
pub record AreWithinLimits (w : Assignment) (s t : Term) (a b : Bits) : Type 0 where
  pub first : IsTermPassing w s a
  pub second : IsTermPassing w t b
  pub near : AreFar a b → ⊥

-- the instants that decide about the words of two terms are too many
pub record IsComparedTooLong (w : Assignment) (s t : Term) : Type 0 where
  pub a : Bits
  pub b : Bits
  pub first : IsTermPassing w s a
  pub second : IsTermPassing w t b
  pub far : AreFar a b

-- memory ran out, or else
abbrev pub OrNoMemory : (CheckFault → Type 0) → CheckFault → Type 0
OrNoMemory P e = (e ≡ fault.OutOfMemory) ⊎ P e

-- the limit that a term of the need of a number passes
abbrev pub PassesWord : Assignment → Term → ℕ → CheckFault → Type 0
PassesWord w t number e = (e ≡ fault.Limit number limit.Word) × IsOnTooLong (w t.clock) t.word

-- the limits that the terms of the need of a number pass, in the order in which they are looked at
abbrev pub PassesTermLimit : Assignment → Term → Term → ℕ → CheckFault → Type 0
PassesTermLimit w s t number e =
    (PassesWord w s number e ⊎ PassesWord w t number e) ⊎ ((e ≡ fault.Limit number limit.Compare) × IsComparedTooLong w s t)

-- the need is met within the limits, with the size of its buffer, where it is one of a buffer
abbrev pub Passes : Assignment → Need → Option ℕ → Type 0
Passes w (Equal s t) size = (a b : Bits) × AreWithinLimits w s t a b × Same a b × (size ≡ None)
Passes w (Adapt s t) size = (a b : Bits) × AreWithinLimits w s t a b × (most : ℕ) × IsVerdict a b (verdict.Adaptable most) × (size ≡ Some most)

-- the need of a number is refused so
abbrev pub RefusesNeed : Assignment → ℕ → Need → CheckFault → Type 0
RefusesNeed w number (Equal s t) e =
    PassesTermLimit w s t number e ⊎ ((a b : Bits) × AreWithinLimits w s t a b × ((at : ℕ) × (e ≡ fault.Differs number at) × IsFirstDifference a b at))
RefusesNeed w number (Adapt s t) e =
    PassesTermLimit w s t number e
    ⊎ ((a b : Bits) × AreWithinLimits w s t a b
    × (((e ≡ fault.Rates number) × IsVerdict a b verdict.Rates) ⊎ ((at : ℕ) × (e ≡ fault.Late number at) × IsVerdict a b (verdict.Late at))))

-- all needs are met within the limits, and these are the sizes of the buffers
abbrev pub PassesAll : Assignment → List Need → List ℕ → Type 0
PassesAll w [] sizes = sizes ≡ []
PassesAll w (need ∷ needs) sizes = (size : Option ℕ) × (rest : List ℕ) × Passes w need size × PassesAll w needs rest × (sizes ≡ option_to_list size ++ rest)

-- the refusal is that of the first need that is not met within the limits
pub record IsFirstRefusal (w : Assignment) (needs : List Need) (e : CheckFault) : Type 0 where
  pub number : ℕ
  pub need : Need
  pub stands : slice_get needs number ≡ Some need
  pub refused : RefusesNeed w number need e
  pub before : (k : ℕ) (earlier : Need) → k < number → slice_get needs k ≡ Some earlier → (size : Option ℕ) × Passes w earlier size

-- no limit is passed at a need
abbrev pub IsWithinLimits : Assignment → Need → Type 0
IsWithinLimits w (Equal s t) = (a b : Bits) × AreWithinLimits w s t a b
IsWithinLimits w (Adapt s t) = (a b : Bits) × AreWithinLimits w s t a b

-- no limit is passed at any of them
abbrev pub AllWithinLimits : Assignment → List Need → Type 0
AllWithinLimits w needs = AllByRecursion (IsWithinLimits w) needs

-- the refusal says nothing against the words: memory ran out, or a limit is passed
abbrev pub IsBeyond : CheckFault → Type 0
IsBeyond (fault.Limit need l) = Unit {0}
IsBeyond fault.OutOfMemory = Unit {0}
IsBeyond e = ⊥
