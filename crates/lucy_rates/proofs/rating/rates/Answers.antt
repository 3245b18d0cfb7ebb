use Rattle.std.proofs.Common.{◌≡◌, ◌⊎◌, ℕ, inl, inr, sym, subst, refl, ◌∙◌, Vec}
use Rattle.std.specs.Global.{Global}
use Rattle.std.proofs.lemmas.Result.{IfOk-weaker, IfErr-weaker, err_from_is_err_and}
use Rattle.lucy_need.specs.declared.need.Needs.{Needs}
use Rattle.lucy_shape.specs.declared.shape.RateFault.{RateFault}
use Rattle.lucy_shape.specs.declared.shape.RateFault.TheVariants as fault
use Rattle.lucy_word.specs.declared.limit.Limit.TheVariants as limit
use Rattle.lucy_rates.specs.Walks.{IsUnequalWalk}
use Rattle.lucy_rates.specs.Trees.{HasLargeRate}
use Rattle.lucy_rates.specs.Vectors.{AreBalanced, IsTooWide, HasNoShape}
use Rattle.lucy_rates.specs.Growing.{IsUnequal}
use Rattle.lucy_rates.proofs.Composing.{none_large}
use Rattle.lucy_rates.proofs.Carrying.{carries_law}
use Rattle.lucy_rates.proofs.rating.rates.Goals as goal

-- what stands in the place of a shape where some need isn't balanced
unequal_fault : (needs : Needs) (scale lead : ℕ) (e : RateFault) → (HasLargeRate needs.list needs.clocks → ⊥) → (e ≡ fault.OutOfMemory) ⊎ IsUnequal needs.list e → HasNoShape needs scale lead e
unequal_fault needs scale lead (fault.Unequal walk) small (inl e) = absurd (cc)
unequal_fault needs scale lead (fault.Unequal walk) small (inr h) = (small, h.0, h.1)
unequal_fault needs scale lead (fault.Limit l) small (inl e) = absurd (cc)
unequal_fault needs scale lead (fault.Limit l) small (inr h) = absurd h
unequal_fault needs scale lead fault.OutOfMemory small h = tt

-- and where there are too many positions
wide_fault : (needs : Needs) (scale lead : ℕ) (e : RateFault) → (HasLargeRate needs.list needs.clocks → ⊥) → AreBalanced needs.list → (e ≡ fault.OutOfMemory) ⊎ ((e ≡ fault.Limit limit.Positions) × IsTooWide needs scale lead) → HasNoShape needs scale lead e
wide_fault needs scale lead e small balanced (inl h) = subst (HasNoShape needs scale lead) (sym h) tt
wide_fault needs scale lead e small balanced (inr h) = subst (HasNoShape needs scale lead) (sym h.0) (inr (refl, small, balanced, h.1))

no_walk : (e : RateFault) (W : Vec ℕ Global → Type 0) → (P : Type 0) → (e ≡ fault.OutOfMemory) ⊎ ((e ≡ fault.Limit limit.Positions) × P) → (walk : Vec ℕ Global) → e ≡ fault.Unequal walk → W walk
no_walk e W P (inl h) walk k = absurd (let z : fault.OutOfMemory ≡ fault.Unequal walk = sym h ∙ k in cc)
no_walk e W P (inr h) walk k = absurd (let z : fault.Limit limit.Positions ≡ fault.Unequal walk = sym h.0 ∙ k in cc)

pub returns-in_err-balanced-clause-refused : goal.returns-in_err-balanced-clause-refused
returns-in_err-balanced-clause-refused c =
    let needs = c.args.needs.now in
    let f = c.in_ok-forest.forest in
    let small = none_large needs.list needs.clocks f.roots.items f.parents.items f.rates.items c.in_ok-forest.ensures.grown.is in
    let p = err_from_is_err_and c.from_residual-in_err-balanced.result c.from_residual-in_err-balanced.ensures.1 in
    rw (p.1, p.2) (unequal_fault needs c.args.scale c.args.lead c.in_err-balanced.field-0.0 small c.in_err-balanced.ensures.refused)

pub returns : goal.returns
returns c =
    let needs = c.args.needs.now in
    let scale = c.args.scale in
    let lead = c.args.lead in
    let f = c.in_ok-forest.forest in
    let small = none_large needs.list needs.clocks f.roots.items f.parents.items f.rates.items c.in_ok-forest.ensures.grown.is in
    record {
      shape = c.shape_of.ensures.shape;
      refused = IfErr-weaker c.shape_of.result _ _ (λ e h. wide_fault needs scale lead e small c.in_ok-balanced.ensures.balanced h) c.shape_of.ensures.refused;
      carries = IfOk-weaker c.shape_of.result _ _ (λ s h. carries_law needs scale lead s c.requires.proper c.needs_have_words.ensures c.requires.scale c.requires.scale_few h) c.shape_of.ensures.shape;
      unequal = IfErr-weaker c.shape_of.result _ _ (λ e h. no_walk e (λ walk. IsUnequalWalk needs.list walk.items) (IsTooWide needs scale lead) h) c.shape_of.ensures.refused;
    }
