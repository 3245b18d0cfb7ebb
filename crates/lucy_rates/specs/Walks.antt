-- Walks along needs, and what they multiply a rate by.
use Rattle.std.specs.Prelude.{ℕ, ◌*◌, ◌<◌, ◌≤◌, ◌≡◌, ◌⊎◌, List, [], ◌∷◌, length, slice_index_or}
use Rattle.std.specs.List.{AllByRecursion}
use Rattle.lucy_word.specs.Always.{always}
use Rattle.lucy_word.specs.Bits.{ones_in}
use Rattle.lucy_need.specs.Meeting.{Assignment, AreWordsIn, IsWithin, MeetsAll}
pub use Rattle.lucy_need.specs.Meeting.{first_of, second_of}
use Rattle.lucy_need.specs.Stored.{HasWords}
use Rattle.lucy_need.specs.declared.need.Need.{Need}
use Rattle.lucy_need.specs.declared.need.Need.TheVariants.{Equal}

-- what stands past the end of a list
abbrev pub no_need : Need
no_need = Equal (record { clock = 0; word = always }) (record { clock = 0; word = always })

-- the need of a number, from 0
abbrev pub need_at : List Need → ℕ → Need
need_at needs k = slice_index_or needs k no_need

-- what a rate is multiplied by along a need, from its first clock to its second
abbrev pub over : Need → ℕ
over need = ones_in (first_of need).word.period * length (second_of need).word.period

-- and what it is divided by
abbrev pub under : Need → ℕ
under need = length (first_of need).word.period * ones_in (second_of need).word.period

-- the need leads from one clock to another, either way, and multiplies the rate by num / den
abbrev pub LeadsBetween : Need → ℕ → ℕ → ℕ → ℕ → Type 0
LeadsBetween need c d num den = (((first_of need).clock ≡ c) × ((second_of need).clock ≡ d) × (num ≡ over need) × (den ≡ under need))
    ⊎ (((second_of need).clock ≡ c) × ((first_of need).clock ≡ d) × (num ≡ under need) × (den ≡ over need))

-- the needs of these numbers lead, one after the other, from one clock to another, and multiply the rate by num / den together
abbrev pub IsNeedWalk : List Need → List ℕ → ℕ → ℕ → ℕ → ℕ → Type 0
IsNeedWalk needs [] c d num den = (c ≡ d) × (num ≡ 1) × (den ≡ 1)
IsNeedWalk needs (k ∷ walk) c d num den = (k < length needs) × ((e : ℕ) × (a : ℕ) × (b : ℕ) × (x : ℕ) × (y : ℕ) ×
    LeadsBetween (need_at needs k) c e a b × IsNeedWalk needs walk e d x y × (num ≡ a * x) × (den ≡ b * y))

-- a walk from a clock back to it that multiplies its rate by another number than 1
pub record IsUnequalWalk (needs : List Need) (walk : List ℕ) : Type 0 where
  pub some : 0 < length walk
  pub clock : ℕ
  pub num : ℕ
  pub den : ℕ
  pub round : IsNeedWalk needs walk clock clock num den
  pub unequal : num ≡ den → ⊥

-- a walk shows that no words of the clocks at all meet the needs
abbrev pub UnmetLaw : Type 0
UnmetLaw = (needs : List Need) (clocks : ℕ) (w : Assignment) (walk : List ℕ) → AllByRecursion (IsWithin clocks) needs → AllByRecursion HasWords needs → AreWordsIn w clocks → MeetsAll w needs → IsUnequalWalk needs walk → ⊥

-- needs join the clocks, in steps
abbrev pub AreJoinedClocks : List Need → ℕ → ℕ → Type 0
AreJoinedClocks needs c d = (walk : List ℕ) × (num : ℕ) × (den : ℕ) × IsNeedWalk needs walk c d num den

-- the least clock of its component
pub record IsRoot (needs : List Need) (root c : ℕ) : Type 0 where
  pub joined : AreJoinedClocks needs root c
  pub least : (d : ℕ) → AreJoinedClocks needs d c → root ≤ d
