-- What each verdict says of two words.
use Rattle.lucy_word.specs.Bits.{Bits}
use Rattle.lucy_word.specs.Adaptable.{SameRate, IsAdaptable, IsSize, IsFirstLate}
use Rattle.lucy_check.specs.declared.verdict.Verdict.{Verdict}
use Rattle.lucy_check.specs.declared.verdict.Verdict.TheVariants.{Adaptable, Rates, Late}

-- the verdict holds of the words
abbrev pub IsVerdict : Bits → Bits → Verdict → Type 0
IsVerdict a b (Adaptable size) = IsAdaptable a b × IsSize a b size
IsVerdict a b Rates = SameRate a b → ⊥
IsVerdict a b (Late at) = SameRate a b × IsFirstLate a b at
