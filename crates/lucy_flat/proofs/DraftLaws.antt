-- The drafts of main are those of the program.
use Rattle.std.proofs.Common.{ℕ, ◌≡◌, List, [], None, ap, sym, refl, subst}
use Rattle.std.specs.Prelude.{slice_get}
use Rattle.lucy_place.specs.declared.placed.PlacedNode.{PlacedNode}
use Rattle.lucy_word.specs.Always.{always}
use Rattle.lucy_word.specs.Bits.{Bits, bit_at}
use Rattle.lucy_word.specs.Sampling.{bit_on}
use Rattle.lucy_word.proofs.OnLaws.{always_ticks, always_word, always_on, same_self}
use Rattle.lucy_kahn.specs.Spots.{at}
use Rattle.lucy_flat.specs.Instances.{word_at, IsBase, IsSpotWord}
use Rattle.lucy_flat.specs.Counts.{last_of}
use Rattle.lucy_clock.specs.declared.node_clock.NodeClock.{NodeClock}
use Rattle.lucy_flat.specs.declared.draft.Draft.{Draft}
use Rattle.lucy_flat.specs.Refusals.{IsClockTooLong}
use Rattle.lucy_flat.specs.Drafts.{IsInstanceAt, AreFit, ArePut}
use Rattle.lucy_flat.proofs.SpotLaws.{all_fit}

-- main's instance
pub main_at : (nodes : List PlacedNode) (clocks : List NodeClock) (main begin : ℕ) (base : Bits) → main ≡ last_of nodes → begin ≡ 0 → base ≡ always → IsInstanceAt nodes clocks [] main begin base None
main_at nodes clocks main begin base m b w = record {
  index = sym m;
  found = ap (slice_get nodes) (sym m);
  begins = sym b;
  is_base = subst (IsBase nodes clocks []) (sym w) (always_word, always_ticks);
  is_called = refl;
}

pub main_fits : (nodes : List PlacedNode) (clocks : List NodeClock) (main : ℕ) (old new : List Draft) → main ≡ last_of nodes → ArePut nodes clocks [] main old new → IsClockTooLong nodes clocks → ⊥
main_fits nodes clocks main old new m put = all_fit nodes clocks (subst (AreFit nodes clocks []) m put.fit)

-- a place of main has the word that it has in its node
pub main_word : (nodes : List PlacedNode) (clocks : List NodeClock) (place : ℕ) (w : Bits) → word_at nodes clocks [] place ≡ w → IsSpotWord nodes clocks (at [] place) w
main_word nodes clocks place w e = (always, (always_word, always_ticks), λ i h. subst (λ t. bit_at w i ≡ bit_on always t i) (sym e) (sym (always_on always w i (same_self always) h)))
