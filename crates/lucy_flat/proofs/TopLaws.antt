-- Why there is no net.
use Rattle.std.proofs.Common.{◌≡◌, List, sym, refl, subst, inl, inr}
use Rattle.std.specs.Prelude.{◌⊎◌}
use Rattle.lucy_word.specs.declared.limit.Limit.TheVariants as lim
use Rattle.lucy_place.specs.declared.placed.PlacedNode.{PlacedNode}
use Rattle.lucy_place.specs.Proper.{AreProper}
use Rattle.lucy_flat.specs.declared.error.FlatError.{FlatError}
use Rattle.lucy_flat.specs.declared.error.FlatError.TheVariants as err
use Rattle.lucy_clock.specs.declared.node_clock.NodeClock.{NodeClock}
use Rattle.lucy_flat.specs.declared.draft.Draft.{Draft}
use Rattle.lucy_flat.specs.Clocked.{AreClocked}
use Rattle.lucy_flat.specs.Counts.{HasSmallNet}
use Rattle.lucy_flat.specs.Drafts.{AreDrafts, RefusesDrafts}
use Rattle.lucy_flat.specs.Assembly.{IsReadTooLong, IsNetPast}
use Rattle.lucy_flat.specs.Refusals.{NetWordIsTooLong, IsClockTooLong, RefusesFlat}
use Rattle.lucy_flat.proofs.FlatLaws.{read_long}
use Rattle.lucy_flat.proofs.NetLaws.{flat_net}

refuses_word : (nodes : List PlacedNode) (clocks : List NodeClock) → HasSmallNet nodes clocks → NetWordIsTooLong nodes clocks → RefusesFlat nodes clocks (err.Limit lim.Word)
refuses_word nodes clocks small long = inr (inl (refl, small, long))

pub refuses_net : (nodes : List PlacedNode) (clocks : List NodeClock) → AreProper nodes → AreClocked nodes clocks → (drafts : List Draft) → AreDrafts nodes clocks drafts → (e : FlatError) → HasSmallNet nodes clocks → (IsClockTooLong nodes clocks → ⊥) →
    (e ≡ err.OutOfMemory) ⊎ ((e ≡ err.Limit lim.Word) × IsReadTooLong drafts) ⊎ ((e ≡ err.Limit lim.Bits) × IsNetPast drafts) → RefusesFlat nodes clocks e
refuses_net nodes clocks proper clocked drafts are e small fits (inl none) = subst (RefusesFlat nodes clocks) (sym none) tt
refuses_net nodes clocks proper clocked drafts are e small fits (inr (inl long)) =
    subst (RefusesFlat nodes clocks) (sym long.0) (refuses_word nodes clocks small (inr (read_long nodes clocks proper clocked drafts are long.1)))
refuses_net nodes clocks proper clocked drafts are e small fits (inr (inr past)) =
    let p = past.1 in
    subst (RefusesFlat nodes clocks) (sym past.0) (inr (inr (refl, p.net, flat_net nodes clocks proper clocked drafts p.net are p.is p.stored small fits p.fits, p.past)))

pub refuses_drafts : (nodes : List PlacedNode) (clocks : List NodeClock) → AreProper nodes → AreClocked nodes clocks → (e : FlatError) → HasSmallNet nodes clocks → RefusesDrafts nodes clocks e → RefusesFlat nodes clocks e
refuses_drafts nodes clocks proper clocked e small (inl none) = subst (RefusesFlat nodes clocks) (sym none) tt
refuses_drafts nodes clocks proper clocked e small (inr (inl long)) = subst (RefusesFlat nodes clocks) (sym long.0) (refuses_word nodes clocks small long.1)
refuses_drafts nodes clocks proper clocked e small (inr (inr past)) = refuses_net nodes clocks proper clocked past.1.drafts past.1.are e small past.1.fits (inr (inr (past.0, past.1.past)))
