-- The words of needs, as they lie in memory.
use Rattle.lucy_word.specs.Stored.{IsStored}
use Rattle.lucy_need.specs.declared.need.Need.{Need}
use Rattle.lucy_need.specs.declared.need.Need.TheVariants.{Equal, Adapt}

-- the words of a need are words as they lie in memory
abbrev pub HasWords : Need → Type 0
HasWords (Equal s t) = IsStored s.word × IsStored t.word
HasWords (Adapt s t) = IsStored s.word × IsStored t.word
