-- The numbers in what shows that no clocks are inferred are those of needs and of inequalities that are there.
use Rattle.std.proofs.Common.{ℕ, suc, ◌<◌, ◌≡◌, List, [], ◌∷◌, length, ap, sym, ◌∙◌, subst, inl, inr, arith}
use Rattle.std.specs.Prelude.{slice_index}
use Rattle.std.specs.Prelude.{Vec}
use Rattle.std.specs.Global.{Global}
use Rattle.lucy_need.specs.declared.need.Need.{Need}
use Rattle.lucy_need.specs.declared.need.Needs.{Needs}
use Rattle.lucy_solve.specs.System.{DifferenceSystem}
use Rattle.lucy_shape.specs.declared.shape.Shape.{Shape}
use Rattle.lucy_shape.specs.Fitting.{variable_count}
use Rattle.lucy_shape.specs.Inequalities.{system_of}
use Rattle.lucy_rates.specs.Walks.{IsNeedWalk}
use Rattle.lucy_inference.specs.declared.refusal.Uninferred.TheVariants as uninferred
use Rattle.lucy_inference.specs.Refusals.{RefusesInference}
use Rattle.lucy_front.specs.Refusals.{AreBelow}

-- the needs of a walk are there
walk_below : (needs : List Need) (walk : List ℕ) (c d num den : ℕ) → IsNeedWalk needs walk c d num den → AreBelow (length needs) walk
walk_below needs [] c d num den is = tt
walk_below needs (k ∷ walk) c d num den is = (is.0, walk_below needs walk _ _ _ _ is.1.6)

pub walk_there : (needs : Needs) (scale lead : ℕ) (walk : Vec ℕ Global) → RefusesInference needs scale lead (uninferred.Rates walk) → AreBelow (length needs.list) walk.items
walk_there needs scale lead walk (inl h) =
    let first = h.1 in
    subst (AreBelow (length needs.list)) (sym first.is) (first.within, walk_below needs.list first.back _ _ _ _ first.returns)
walk_there needs scale lead walk (inr h) = absurd h.2

-- numbers that are below another one each
pub all_below : (count : ℕ) (numbers : List ℕ) → ((k : ℕ) → k < length numbers → slice_index numbers k < count) → AreBelow count numbers
all_below count [] each = tt
all_below count (k ∷ numbers) each = (each 0 (omega arith), all_below count numbers (λ i l. each (suc i) (omega (arith, l))))

pub cycle_there : (needs : Needs) (scale lead : ℕ) (shape : Shape) (diffs : DifferenceSystem) (cycle : Vec ℕ Global) → RefusesInference needs scale lead (uninferred.Clocks shape diffs cycle) →
    (length shape.clocks ≡ needs.clocks) × (diffs.count ≡ variable_count shape.clocks) × AreBelow (length diffs.list) cycle.items
cycle_there needs scale lead shape diffs cycle (inl h) = absurd h
cycle_there needs scale lead shape diffs cycle (inr h) =
    let refused = h.2 in
    let told : shape ≡ h.0 = refused.0 in
    let is : diffs ≡ system_of needs h.0 = refused.1 in (
      ap (λ (s : Shape). length s.clocks) told ∙ h.1.wide.clocks,
      ap (λ (s : DifferenceSystem). s.count) is ∙ ap (λ (s : Shape). variable_count s.clocks) (sym told),
      subst (λ (s : DifferenceSystem). AreBelow (length s.list) cycle.items) (sym is) (all_below _ cycle.items refused.2.shown.within),
    )
