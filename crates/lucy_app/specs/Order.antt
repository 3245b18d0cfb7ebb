-- What `order` prints, and why it refuses its input.
use Rattle.std.specs.Prelude.{ℕ, ◌≡◌, ◌⊎◌, List, [], ◌∷◌, ◌++◌, length, codes}
use Rattle.std.specs.Fmt.{decimal}
use Rattle.lucy_word.specs.Bits.{Bits}
use Rattle.lucy_word.specs.Reading.{IsReadable, RefusesWordText}
use Rattle.lucy_word.specs.declared.error.WordError.TheVariants as word
use Rattle.lucy_word.specs.declared.limit.Limit.TheVariants as limit
use Rattle.lucy_check.specs.Horizon.{AreFar}
use Rattle.lucy_check.specs.Verdicts.{IsVerdict}
use Rattle.lucy_check.specs.declared.verdict.Verdict.{Verdict}
use Rattle.lucy_check.specs.declared.verdict.Verdict.TheVariants.{Adaptable, Rates, Late}
use Rattle.lucy_app.specs.Fields.{field_texts}
use Rattle.lucy_app.specs.declared.input_refusal.InputCause.{InputCause}
use Rattle.lucy_app.specs.declared.input_refusal.InputCause.TheVariants.{Count, BadWord, NoOne, Limit}

-- the text is two fields, and they are read as these words
abbrev pub IsPair : List ℕ → Bits → Bits → Type 0
IsPair text a b = (u : List ℕ) × (v : List ℕ) × (field_texts text ≡ u ∷ v ∷ []) × IsReadable u a × IsReadable v b

-- the line of a verdict
abbrev pub verdict_line : Verdict → List ℕ
verdict_line (Adaptable size) = codes "adaptable size " ++ (decimal size ++ codes "\n")
verdict_line Rates = codes "unequal rates\n"
verdict_line (Late at) = codes "late at " ++ (decimal at ++ codes "\n")

-- the line is that of the verdict which holds of the text's two words, about which not too many instants decide
abbrev pub IsVerdictLine : (text line : List ℕ) → Type 0
IsVerdictLine text line = (a : Bits) × (b : Bits) × (v : Verdict) × IsPair text a b × IsVerdict a b v × (line ≡ verdict_line v) × (AreFar a b → ⊥)

-- the field with this number, from 1, is refused for this cause
abbrev pub RefusesWord : ℕ → List ℕ → InputCause → Type 0
RefusesWord number text (BadWord which place) = (which ≡ number) × RefusesWordText text (word.BadWord place)
RefusesWord number text (NoOne which) = (which ≡ number) × RefusesWordText text word.NoOne
RefusesWord number text (Limit passed) = (passed ≡ limit.Written) × RefusesWordText text word.TooLong
RefusesWord number text (Count count) = ⊥

-- the fields are refused for this cause: of two the first word that is refused, else that too many instants decide; else their count
abbrev pub RefusesFields : List (List ℕ) → InputCause → Type 0
RefusesFields (u ∷ (v ∷ [])) cause =
    RefusesWord 1 u cause
    ⊎ ((a : Bits) × IsReadable u a × (RefusesWord 2 v cause ⊎ ((b : Bits) × IsReadable v b × AreFar a b × (cause ≡ Limit limit.Compare))))
RefusesFields texts cause = cause ≡ Count (length texts)
