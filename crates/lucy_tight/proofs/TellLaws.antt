-- What is found of a buffer is what is told of it.
use Rattle.std.proofs.Common.{◌≡◌, ℕ, List, inl, inr, subst}
use Rattle.std.specs.Prelude.{◌⊎◌}
use Rattle.lucy_word.specs.Bits.{Bits}
use Rattle.lucy_need.specs.declared.need.Needs.{Needs}
use Rattle.lucy_shape.specs.declared.shape.Shape.{Shape}
use Rattle.lucy_rates.specs.Vectors.{IsShapeOf}
use Rattle.lucy_program.specs.declared.accepted.Accepted.{Accepted}
use Rattle.lucy_program.specs.declared.options.Options.{Options}
use Rattle.lucy_tight.specs.declared.answer.Least.{Least}
use Rattle.lucy_tight.specs.declared.answer.TightError.{TightError}
use Rattle.lucy_tight.specs.declared.answer.TightError.TheVariants.{Fixed, Limit as LimitPassed, OutOfMemory}
use Rattle.lucy_tight.specs.Least.{IsTightest, RefusesTightest}
use Rattle.lucy_tight.specs.Tightening.{AreTight, PassesLimit, IsTightened, RefusesTight}
use Rattle.lucy_tight.proofs.AtLeast.{all_used, tightest_from, limit_from}
use Rattle.lucy_tight.proofs.PrintedLaws.{AtHand, need_there}
use Rattle.lucy_tight.proofs.WellLaws.{AreFound}

module _ {a : Accepted} {o : Options} {node buffer from to : ℕ} (t : Least) (f : AreFound a o node buffer from to t.printed t.needs t.shape t.least t.clocks) where
  pub tells : (words : List Bits) → IsTightest t.needs t.shape from to t.least words t.diffs t.cycle.items → words ≡ t.clocks.words → IsTightened a o node buffer t
  tells words tightest same =
      let h = f.hand in
      let tight = tightest_from t.needs t.shape from to h.words h.carries (need_there h) (all_used t.needs o.scale o.lead t.shape h.shaped) t.least words t.diffs t.cycle.items tightest in
      let P : (e p : ℕ) → List Bits → Type 0 = λ e p ws. AreTight t.needs t.shape e p t.least ws t.diffs t.cycle.items in
      record {
        of = h.of;
        unwritten = h.unwritten;
        printed = h.size_is;
        needs = h.same;
        shape = h.shaped;
        tightest = subst (P h.of.from h.of.to) same (subst (λ k. P h.of.from k words) h.to_is (subst (λ k. P k to words) h.from_is tight));
        sizes = f.sizes;
      }

-- so is a reason why nothing is told
module _ {a : Accepted} {o : Options} {node buffer from to size : ℕ} {needs : Needs} {shape : Shape} (h : AtHand a o node buffer from to size needs shape) where
  refuses : (e : TightError) → PassesLimit needs shape from to e → RefusesTight a o node buffer e
  refuses (Fixed size) passed = absurd passed
  refuses OutOfMemory passed = absurd passed
  refuses (LimitPassed l) passed = (
    h.of,
    h.unwritten,
    shape,
    subst (λ (x : Needs). IsShapeOf x o.scale o.lead shape) h.same h.shaped,
    subst (λ (x : Needs). PassesLimit x shape h.of.from h.of.to (LimitPassed l)) h.same
        (subst (λ k. PassesLimit needs shape h.of.from k (LimitPassed l)) h.to_is (subst (λ k. PassesLimit needs shape k to (LimitPassed l)) h.from_is passed)),
  )

  pub refuses_so : (e : TightError) → (e ≡ OutOfMemory) ⊎ RefusesTightest needs shape from to e → (e ≡ OutOfMemory) ⊎ RefusesTight a o node buffer e
  refuses_so e (inl none) = inl none
  refuses_so e (inr refused) = inr (refuses e (limit_from needs shape from to h.words h.carries (need_there h) (all_used needs o.scale o.lead shape h.shaped) e refused))
