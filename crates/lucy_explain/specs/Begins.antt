-- What an explanation begins with.
use Rattle.std.specs.Prelude.{ℕ, ◌==◌, ◌≡◌, List, ◌∷◌, ◌++◌}
use Rattle.std.specs.List.{before_first}
use Rattle.lucy_front.specs.declared.refusal.Refusal.{Refusal}
use Rattle.lucy_front.specs.Refusals.{refusal_text}

-- a text up to its first line feed
abbrev pub first_line : List ℕ → List ℕ
first_line text = before_first (λ byte. byte == 10) text

-- the first line is that of the refusal's text
abbrev pub BeginsAs : Refusal → List ℕ → Type 0
BeginsAs refusal told = (more : List ℕ) × (told ≡ first_line (refusal_text refusal) ++ 10 ∷ more)
