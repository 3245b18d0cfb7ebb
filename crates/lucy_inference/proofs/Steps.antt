-- What the steps of the inference come to.
use Rattle.std.proofs.Common.{◌≡◌, ℕ, [], length, List, ℤ, Result, Ok, Err, inl, inr, sym, ap, ◌∙◌, subst, refl, arith}
use Rattle.std.specs.Prelude.{◌⊎◌, IfErr, IfOk, MatchResult, IsErrAnd, Vec}
use Rattle.std.specs.Global.{Global}
use Rattle.std.specs.List.{AllByRecursion}
use Rattle.std.proofs.lemmas.Bool.{cases_lt}
use Rattle.std.proofs.lemmas.List.Elements.{All-from_recursion, recursion_from_All, All-from_get_or}
use Rattle.std.proofs.lemmas.Result.{err_from_is_err_and}
use Rattle.lucy_word.specs.Bits.{Bits, IsWord}
use Rattle.lucy_word.specs.Always.{always}
use Rattle.lucy_word.specs.Shortest.{IsShortest}
use Rattle.lucy_word.specs.declared.limit.Limit.{Limit}
use Rattle.lucy_word.specs.declared.limit.Limit.TheVariants as limit
use Rattle.lucy_word.proofs.BitsLaws.{period_some}
use Rattle.lucy_word.proofs.ShortLaws.{shortest_one}
use Rattle.lucy_word.proofs.OnLaws.{always_shortest}
use Rattle.lucy_need.specs.Meeting.{assigned, MeetsAll}
use Rattle.lucy_need.specs.Stored.{HasWords}
use Rattle.lucy_need.specs.declared.need.Needs.{Needs}
use Rattle.lucy_check.specs.Passing.{AllWithinLimits, IsFirstRefusal, OrNoMemory as OrNoFault}
use Rattle.lucy_check.specs.declared.fault.CheckFault.{CheckFault}
use Rattle.lucy_check.specs.declared.fault.CheckFault.TheVariants as check
use Rattle.lucy_check.proofs.CheckLaws.{passes_all, all_within}
use Rattle.lucy_solve.specs.System.{DifferenceSystem, IsEarliest, IsGrounded}
use Rattle.lucy_solve.specs.Outcomes.{IsRefutedBy}
use Rattle.lucy_shape.specs.declared.shape.Shape.{Shape}
use Rattle.lucy_shape.specs.declared.shape.RateFault.{RateFault}
use Rattle.lucy_shape.specs.declared.shape.RateFault.TheVariants as fault
use Rattle.lucy_shape.specs.Fitting.{IsShapeFor}
use Rattle.lucy_shape.specs.Inequalities.{inequalities, system_of, SolvesShape}
use Rattle.lucy_shape.specs.Writing.{AreWordsOf, AreAnswered, AreRefused}
use Rattle.lucy_shape.proofs.Writings.{words_law, past}
use Rattle.lucy_rates.specs.Walks.{IsUnequalWalk}
use Rattle.lucy_rates.specs.Vectors.{IsShapeOf, HasNoShape}
use Rattle.lucy_inference.specs.declared.refusal.Uninferred.{Uninferred}
use Rattle.lucy_inference.specs.declared.refusal.Uninferred.TheVariants.{Rates, Clocks, Limit as LimitPassed, OutOfMemory}
use Rattle.lucy_inference.specs.Earliest.{AreEarliestWords}
use Rattle.lucy_inference.specs.Inference.{AreFewInequalities, AreInferredWords, IsInference}
use Rattle.lucy_inference.specs.Refusals.{OrNoMemory, RefusesIn, RefusesInference, AreAlike}
use Rattle.lucy_inference.specs.Stages.{AreAllUsed, of_rates}
use Rattle.lucy_inference.proofs.OneAnswer.{inference_kept, refusals_alike}
use Rattle.lucy_inference.proofs.AtEarliest.{no_assignment, earliest_at, found_at, long_from, long_to}

-- what an answer is, by what it holds
pub ok_as : {T E : Type 0} (P Q : T → Type 0) (r : Result T E) → IfOk r P → ((x : T) → P x → Q x) → IfOk r Q
ok_as P Q (Ok x) h f = f x h
ok_as P Q (Err e) h f = tt

pub err_as : {T E : Type 0} (P Q : E → Type 0) (r : Result T E) → IfErr r P → ((e : E) → P e → Q e) → IfErr r Q
err_as P Q (Ok x) h f = tt
err_as P Q (Err e) h f = f e h

pub match_as : {T E : Type 0} (P R : T → Type 0) (Q S : E → Type 0) (r : Result T E) → IfOk r P → IfErr r Q → ((x : T) → P x → R x) → ((e : E) → Q e → S e) → MatchResult r R S
match_as P R Q S (Ok x) p q f g = f x p
match_as P R Q S (Err e) p q f g = g e q

-- an error that goes out of a function
pub leaves_match : {T : Type 0} (R : T → Type 0) (P : Uninferred → Type 0) (e : Uninferred) (r : Result T Uninferred) → IsErrAnd r (λ y. y ≡ e) → P e → MatchResult r R P
leaves_match R P e r i h =
    let p = err_from_is_err_and r i in
    rw (p.1, p.2) h

-- and it is the base
pub base_word : (needs : Needs) (shape : Shape) (words : List Bits) → length shape.clocks ≡ needs.clocks → AreEarliestWords needs shape words → assigned words 0 ≡ always
base_word needs shape words clocks are = elim (cases_lt 0 (length words)) [
  | inr none ↦ past words none
  | inl some ↦
      let is : IsWord (assigned words 0) = are.earliest.is.fits.words 0 (omega (arith, are.count, clocks)) in
      shortest_one (assigned words 0) always (All-from_recursion IsShortest words are.shortest 0 always some) always_shortest (period_some (assigned words 0) is) (omega arith) are.earliest.is.fits.base
]

module _ (needs : Needs) (shape : Shape) (xs : List ℤ) (words : AllByRecursion HasWords needs.list) (carries : IsShapeFor needs shape) (used : AreAllUsed shape)
    (few : AreFewInequalities needs shape) (best : IsEarliest (system_of needs shape) xs) (solves : SolvesShape shape xs) where
  earliest_words : (ws : List Bits) → AreWordsOf shape xs ws → AreEarliestWords needs shape ws
  earliest_words ws are =
      let law = words_law shape xs ws carries.laid solves are in
      record {
        count = are.size ∙ carries.clocks;
        shortest = recursion_from_All IsShortest ws (All-from_get_or IsShortest ws always law.2);
        earliest = earliest_at needs shape words carries (assigned ws) xs used best law.0 law.1;
      }

  pub words_in : (ws : List Bits) → AreAnswered shape xs ws → AreInferredWords needs shape ws
  words_in ws are = record {
    inequalities = few;
    earliest = earliest_words ws are.each;
    short = λ long. are.short (long_to shape (assigned ws) xs carries.laid (words_law shape xs ws carries.laid solves are.each).1 long);
    few = are.few;
  }

  pub refused_in : (e : RateFault) → AreRefused shape xs e → OrNoMemory (RefusesIn needs shape) (of_rates e)
  refused_in e (inl none) = inl (ap of_rates none)
  refused_in e (inr (inl long)) =
      let found = found_at needs shape words carries xs solves in
      subst (λ f. OrNoMemory (RefusesIn needs shape) (of_rates f)) (sym long.0) (inr (inr (inl (
        refl,
        record {
          inequalities = few;
          words = found.0;
          earliest = earliest_at needs shape words carries found.0 xs used best found.1 found.2;
          long = long_from shape found.0 xs carries.laid found.2 long.1;
        },
      ))))
  refused_in e (inr (inr many)) =
      subst (λ f. OrNoMemory (RefusesIn needs shape) (of_rates f)) (sym many.0) (inr (inr (inr (inl (
        refl,
        record {
          inequalities = few;
          words = many.2.0;
          earliest = earliest_words many.2.0 many.2.1;
          short = λ long. many.1 (long_to shape (assigned many.2.0) xs carries.laid (words_law shape xs many.2.0 carries.laid solves many.2.1).1 long);
          many = many.2.2;
        },
      )))))

-- a limit of the checker is passed
pub checked_in : (needs : Needs) (shape : Shape) (ws vs : List Bits) (e : CheckFault) (need : ℕ) (l : Limit) → AreInferredWords needs shape ws → vs ≡ ws → e ≡ check.Limit need l →
    OrNoFault (IsFirstRefusal (assigned vs) needs.list) e → OrNoMemory (RefusesIn needs shape) (LimitPassed l)
checked_in needs shape ws vs e need l are same is (inl none) = absurd (cc)
checked_in needs shape ws vs e need l are same is (inr refused) = inr (inr (inr (inr (record {
  words = ws;
  are = are;
  need = need;
  refused = subst (λ f. IsFirstRefusal (assigned ws) needs.list f) is (subst (λ w. IsFirstRefusal (assigned w) needs.list e) same refused);
}))))

-- there is no shape
pub no_shape : (needs : Needs) (scale lead : ℕ) (e : RateFault) → HasNoShape needs scale lead e → OrNoMemory (RefusesInference needs scale lead) (of_rates e)
no_shape needs scale lead (fault.Unequal walk) p = inr (inl p)
no_shape needs scale lead (fault.Limit l) p = inr (inl p)
no_shape needs scale lead fault.OutOfMemory p = inl refl

-- what is refused in the shape of the needs
pub in_shape : (needs : Needs) (scale lead : ℕ) (shape : Shape) (e : Uninferred) → IsShapeOf needs scale lead shape → OrNoMemory (RefusesIn needs shape) e → OrNoMemory (RefusesInference needs scale lead) e
in_shape needs scale lead shape e is (inl none) = inl none
in_shape needs scale lead shape e is (inr refused) = inr (inr (shape, is, refused))

-- what is inferred meets the needs within the limits
pub inference_met : (needs : Needs) (scale lead : ℕ) (words : List Bits) (sizes : List ℕ) → IsInference needs scale lead words sizes → MeetsAll (assigned words) needs.list
inference_met needs scale lead words sizes is = passes_all (assigned words) needs.list sizes is.passes

pub inference_within : (needs : Needs) (scale lead : ℕ) (words : List Bits) (sizes : List ℕ) → IsInference needs scale lead words sizes → AllWithinLimits (assigned words) needs.list
inference_within needs scale lead words sizes is = all_within (assigned words) needs.list sizes is.passes

pub inference_base : (needs : Needs) (scale lead : ℕ) (words : List Bits) (sizes : List ℕ) → IsInference needs scale lead words sizes → assigned words 0 ≡ always
inference_base needs scale lead words sizes is = base_word needs is.shape words is.of_needs.wide.clocks is.are.earliest

-- the answers of the laws, of one that is right
pub accepted_as : (needs : Needs) (scale lead : ℕ) (words : List Bits) (sizes : List ℕ) → IsInference needs scale lead words sizes → (e : Uninferred) → OrNoMemory (RefusesInference needs scale lead) e → e ≡ OutOfMemory
accepted_as needs scale lead words sizes is e (inl none) = none
accepted_as needs scale lead words sizes is e (inr refused) = absurd (inference_kept needs scale lead words sizes e is refused)

pub refused_as : (needs : Needs) (scale lead : ℕ) (e : Uninferred) → RefusesInference needs scale lead e → (f : Uninferred) → OrNoMemory (RefusesInference needs scale lead) f → (f ≡ OutOfMemory) ⊎ AreAlike f e
refused_as needs scale lead e is f (inl none) = inl none
refused_as needs scale lead e is f (inr refused) = inr (refusals_alike needs scale lead f e refused is)

-- the walk that rates tell of
pub walk_as : (needs : Needs) (e : RateFault) → ((walk : Vec ℕ Global) → e ≡ fault.Unequal walk → IsUnequalWalk needs.list walk.items) → (walk : Vec ℕ Global) → of_rates e ≡ Rates walk → IsUnequalWalk needs.list walk.items
walk_as needs (fault.Unequal told) is walk same = is walk (let e : told ≡ walk = cc in ap fault.Unequal e)
walk_as needs (fault.Limit l) is walk same = absurd (cc)
walk_as needs fault.OutOfMemory is walk same = absurd (cc)

-- there are no clocks in the shape
pub no_clocks : (needs : Needs) (shape : Shape) (diffs : DifferenceSystem) (cycle : Vec ℕ Global) → AllByRecursion HasWords needs.list → IsShapeFor needs shape → diffs ≡ system_of needs shape → IsGrounded diffs →
    IsRefutedBy diffs cycle.items → OrNoMemory (RefusesIn needs shape) (Clocks shape diffs cycle)
no_clocks needs shape diffs cycle words carries same ready refuted =
    let few : AreFewInequalities needs shape = (subst IsGrounded same ready).few in
    let both : IsRefutedBy (system_of needs shape) cycle.items = subst (λ s. IsRefutedBy s cycle.items) same refuted in
    inr (refl, same, record { inequalities = few; shown = both.0; none = no_assignment needs shape words carries both.1 })
