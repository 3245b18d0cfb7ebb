-- What shows that nothing meets rules.
use Rattle.std.specs.Prelude.{ℕ, ◌⊎◌, List, [], ◌∷◌}
use Rattle.lucy_host.specs.declared.data_type.DataType.TheVariants.{Int, Bool}
use Rattle.lucy_types.specs.declared.rule.Rule.{Rule}
use Rattle.lucy_types.specs.declared.rule.Rule.TheVariants.{Is, Alike}

-- two places are alike by a rule
abbrev pub Touch : (Rule → Type 0) → ℕ → ℕ → Type 0
Touch Rules p q = Rules (Alike p q) ⊎ Rules (Alike q p)

-- from a place on, neighbours are alike by a rule, and the last place is bool by a rule
abbrev pub EndsInBool : (Rule → Type 0) → ℕ → List ℕ → Type 0
EndsInBool Rules p [] = Rules (Is p Bool)
EndsInBool Rules p (q ∷ path) = Touch Rules p q × EndsInBool Rules q path

-- the first place is int by a rule and the last bool by a rule, and neighbours are alike by a rule
abbrev pub IsClashPath : (Rule → Type 0) → List ℕ → Type 0
IsClashPath Rules [] = ⊥
IsClashPath Rules (p ∷ path) = Rules (Is p Int) × EndsInBool Rules p path
