-- The lines of items.
use Rattle.std.proofs.Common.{ℕ, ◌≡◌, List, [], ◌∷◌, length, refl, inl, inr, arith}
use Rattle.std.specs.Prelude.{◌⊎◌}
use Rattle.lucy_net.specs.declared.error.Item.{Item}
use Rattle.lucy_front.specs.Refusals.{item_lines}

-- none are left without names, or without items
pub no_lines : (names : List (List ℕ)) (items : List Item) → (length names ≡ 0) ⊎ (length items ≡ 0) → item_lines names items ≡ []
no_lines [] items none = refl
no_lines (name ∷ names) [] none = refl
no_lines (name ∷ names) (item ∷ items) (inl none) = absurd (omega (arith, none))
no_lines (name ∷ names) (item ∷ items) (inr none) = absurd (omega (arith, none))
