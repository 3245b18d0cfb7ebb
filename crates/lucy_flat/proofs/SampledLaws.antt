-- What the tests of a place say together of words that aren't made.
use Rattle.std.proofs.Common.{ℕ, ◌≡◌, subst, inl, inr}
use Rattle.lucy_word.specs.Bits.{Bits}
use Rattle.lucy_word.specs.Stored.{IsStored}
use Rattle.lucy_word.specs.Sampling.{IsOn, IsOnTooLong}
use Rattle.lucy_word.proofs.OnLaws.{on_one}
use Rattle.lucy_word.proofs.ShortLaws.{shortest_one}
use Rattle.lucy_place.specs.declared.entry.PlaceKind.{PlaceKind}
use Rattle.lucy_place.specs.declared.entry.PlaceKind.TheVariants as place_kind
use Rattle.lucy_clock.specs.HandedDown.{HandsTooLong}
use Rattle.lucy_flat.specs.Drafts.{HasTooLong}
use Rattle.lucy_clock.proofs.HandingLaws.{other_fits}

-- what the tests of a place say together
pub made_fits : (kind : PlaceKind) (base word own : Bits) → IsOn base word own → IsStored own → (IsOnTooLong base word → ⊥) → (HandsTooLong kind own → ⊥) → HasTooLong kind base word → ⊥
made_fits kind base word own on stored fits reads long =
    elim long [
      | inl l ↦ fits l
      | inr r ↦ reads (subst (HandsTooLong kind) (shortest_one r.0 own r.2.shortest stored.shortest r.2.nonempty stored.nonempty (on_one base word r.0 own r.1 on)) r.3)
    ]

-- what isn't a merge takes on no word but its own
pub unmade_fits : (kind : PlaceKind) (base word : Bits) → ((p : Bits) (a b : ℕ) → kind ≡ place_kind.Merge p a b → ⊥) → (IsOnTooLong base word → ⊥) → HasTooLong kind base word → ⊥
unmade_fits kind base word other fits long = elim long [ inl l ↦ fits l | inr r ↦ other_fits kind r.0 other r.3 ]
