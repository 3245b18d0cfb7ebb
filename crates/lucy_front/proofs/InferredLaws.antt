-- What inference gives is clocks of a node that isn't written, and its refusals are refusals of the node.
use Rattle.std.proofs.Common.{ℕ, ◌<◌, ◌≡◌, List, [], length, sym, subst, inl, inr}
use Rattle.lucy_place.specs.declared.placed.PlacedNode.{PlacedNode}
use Rattle.lucy_place.specs.PlacedProgram.{PlacedProgram}
use Rattle.lucy_place.specs.Proper.{IsProperNode}
use Rattle.lucy_need.specs.declared.need.Needs.{Needs}
use Rattle.lucy_need.specs.Meeting.{Assignment, assigned}
use Rattle.lucy_clock.specs.declared.signature.Signature.{Signature}
use Rattle.lucy_clock.specs.declared.node_clock.NodeClock.{NodeClock}
use Rattle.lucy_clock.specs.Clocks.{AreSignatures, clocks_of}
use Rattle.lucy_clock.specs.WellClocked.{IsWellClocked}
use Rattle.lucy_clock.proofs.NeedLaws.{rules_law}
use Rattle.lucy_check.proofs.CheckLaws.{all_within}
use Rattle.lucy_shape.specs.declared.shape.Shape.{Shape}
use Rattle.lucy_shape.specs.Fitting.{FitsShape}
use Rattle.lucy_inference.specs.declared.refusal.Uninferred.{Uninferred}
use Rattle.lucy_inference.specs.declared.refusal.Uninferred.TheVariants as uninferred
use Rattle.lucy_inference.specs.Earliest.{FitsAndMeets}
use Rattle.lucy_inference.specs.Inference.{IsInference}
use Rattle.lucy_inference.specs.Refusals.{OrNoMemory, RefusesInference}
use Rattle.lucy_program.specs.declared.options.Options.{Options}
use Rattle.lucy_program.specs.Inferring.{node_needs, IsOpen, IsInferred}
use Rattle.lucy_front.specs.Unclocked.{IsShut}
use Rattle.lucy_program.specs.Clocked.{AreFewNeeds, IsClocked}
use Rattle.lucy_front.specs.Clocking.{inference_fault, HasNoClocks}
use Rattle.lucy_front.specs.Sizes.{buffer_sizes}
use Rattle.lucy_front.proofs.ClockedLaws.{clocked_by}

module _ (o : Options) (nodes : List PlacedNode) (above : List Signature) (n : PlacedNode) (proper : IsProperNode nodes n) (ports : AreSignatures nodes above) where
  -- an assignment by which the node is well clocked, and which fits a shape of its clocks, fits and meets
  fits_meets : (shape : Shape) (w : Assignment) → length shape.clocks ≡ clocks_of n → IsWellClocked above n w → FitsShape w shape → FitsAndMeets (node_needs above n) shape w
  fits_meets shape w count well fits = record {
    fits = record { words = λ c l. well.words c (subst (λ k. c < k) count l); base = well.base; fits = fits };
    meets = (rules_law w nodes above n proper ports well.words well.base).1 well;
  }

  pub inferred : (c : NodeClock) (sizes : List ℕ) → c.sizes ≡ buffer_sizes n.bounds sizes → IsOpen o n → AreFewNeeds above n →
      IsInference (node_needs above n) o.scale o.lead c.words sizes → IsClocked o above n c
  inferred c sizes own is_open few is =
      let words = is.are in
      let earliest = words.earliest.earliest in
      let count : length is.shape.clocks ≡ clocks_of n = is.of_needs.wide.clocks in
      let its : IsInferred o above n c = record {
        is_open = is_open;
        sizes = sizes;
        inferred = is;
        fits = earliest.is.fits.fits;
        earliest = λ other well fits clock number l. earliest.earliest other (fits_meets is.shape other count well fits) clock number l;
      } in
      clocked_by o nodes above n proper ports c sizes own few (inr its) words.earliest.count (λ i l. earliest.is.fits.words i (subst (λ k. i < k) (sym count) l)) earliest.is.fits.base earliest.is.meets
      (all_within (assigned c.words) _ sizes is.passes) is.passes

-- a node that may be inferred needn't be written
pub open_unshut : (o : Options) (n : PlacedNode) → IsOpen o n → IsShut o n → ⊥
open_unshut o n is_open shut = let a = is_open.0 in let b = shut.0 in cc

pub inference_refused : (o : Options) (placed : PlacedProgram) (node : ℕ) (above : List Signature) (n : PlacedNode) (needs : Needs) (e : Uninferred) → needs ≡ node_needs above n → IsOpen o n → AreFewNeeds above n →
    OrNoMemory (RefusesInference (node_needs above n) o.scale o.lead) e → HasNoClocks o placed node above n (inference_fault needs e)
inference_refused o placed node above n needs (uninferred.Rates walk) same is_open few (inl none) = absurd (cc none)
inference_refused o placed node above n needs (uninferred.Rates walk) same is_open few (inr h) = ((same, few), (is_open, h))
inference_refused o placed node above n needs (uninferred.Clocks shape diffs cycle) same is_open few (inl none) = absurd (cc none)
inference_refused o placed node above n needs (uninferred.Clocks shape diffs cycle) same is_open few (inr h) = ((same, few), (is_open, h))
inference_refused o placed node above n needs (uninferred.Limit l) same is_open few (inl none) = absurd (cc none)
inference_refused o placed node above n needs (uninferred.Limit l) same is_open few (inr h) = inr (few, inr (inr (is_open, h)))
inference_refused o placed node above n needs uninferred.OutOfMemory same is_open few h = tt
