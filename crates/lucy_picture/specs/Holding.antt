-- What a text holds, and how texts grow.
use Rattle.std.specs.Prelude.{ℕ, ◌≡◌, List, [], ◌∷◌, ◌++◌}

-- texts of these things stand in a text, one behind another
abbrev pub HoldsAll : {A : Type 0} → (IsOf : A → List ℕ → Type 0) → List A → (text : List ℕ) → Type 0
HoldsAll IsOf [] text = Unit {0}
HoldsAll IsOf (x ∷ xs) text =
    (before : List ℕ) × (part : List ℕ) × (behind : List ℕ) × (text ≡ before ++ (part ++ behind)) × IsOf x part × HoldsAll IsOf xs behind

-- what is put behind a text holds them
pub record Puts {A : Type 0} (IsOf : A → List ℕ → Type 0) (xs : List A) (old new : List ℕ) : Type 0 where
  pub more : List ℕ
  pub puts : new ≡ old ++ more
  pub holds : HoldsAll IsOf xs more

-- a text stands in front of another
pub record Extends (old new : List ℕ) : Type 0 where
  pub more : List ℕ
  pub puts : new ≡ old ++ more
