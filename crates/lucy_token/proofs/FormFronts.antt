-- What stands at the front of a text where a word is due is told by the form alone.
use Rattle.std.proofs.Common.{◌≡◌, ℕ, ◌+◌, ◌<◌, List, [], ◌∷◌, ◌++◌, length, take, Option, Some, None, refl, ap, sym, ◌∙◌, subst, arith, append_assoc, length-append}
use Rattle.std.proofs.lemmas.List.{take_at}
use Rattle.lucy_word.specs.Items.{WordItem, WordForm}
use Rattle.lucy_word.specs.Forms.{BeginsForm}
use Rattle.lucy_word.specs.Partials.{At, item, digit, brace, count, Partial, going, whole, step, run, start}
use Rattle.lucy_word.specs.Stages.{next}
use Rattle.lucy_word.proofs.PartialLaws.{ran, run_append, form_runs, begins_read, read_begins}
use Rattle.lucy_word.proofs.Checking.{stage_of, staged, step_stage}
use Rattle.lucy_token.specs.declared.front.Front.TheVariants.{Bad}
use Rattle.lucy_token.specs.Fronts.{IsWordFront}
use Rattle.lucy_token.specs.Scans.{word_end, word_from, word_front}
use Rattle.lucy_token.proofs.WordFronts.{word_more, word_stops}

-- the bytes that were read are the front of the text
front_of_text : (front rest : List ℕ) (n : ℕ) → n ≡ length front → take n (front ++ rest) ≡ front
front_of_text front rest n e = take_at front rest n (sym e)

one_further : (front : List ℕ) (c : ℕ) (more : List ℕ) (n : ℕ) → n ≡ length front → take (n + 1) (front ++ c ∷ more) ≡ front ++ c ∷ []
one_further front c more n e =
    ap (take (n + 1)) (sym (append_assoc front (c ∷ []) more)) ∙ take_at (front ++ c ∷ []) more (n + 1) (omega (arith, e, length-append front (c ∷ [])))

not_ended : (n : ℕ) (b : Option (List WordItem)) (is : List WordItem) (at : At) → word_end n (stage_of (going b is at)) ≡ Bad n
not_ended n b is item = refl
not_ended n b is (digit x) = refl
not_ended n b is (brace x) = refl
not_ended n b is (count x ds) = refl

-- behind these bytes no other fits
Stops : Partial → List ℕ → Type 0
Stops p rest = (c : ℕ) (more : List ℕ) → rest ≡ c ∷ more → step p c ≡ None

ends_so : (front rest : List ℕ) (p : Partial) (n : ℕ) → n ≡ length front → run (Some start) front ≡ Some p → Stops p rest →
    IsWordFront (front ++ rest) (word_end n (stage_of p))
unfolding Stops
ends_so front rest (whole ps is) n e r stops =
    let a = ran (Some start) front (whole ps is) r start refl in
    let w = a.is (tt, tt) in
    let f : WordForm = record { prefix = ps; period = is } in (
      refl,
      omega (arith, e, length-append front rest),
      f,
      record { prefix = w.0; period = w.1.0; nonempty = w.1.1 },
      front_of_text front rest n e ∙ sym a.reads,
    )
ends_so front rest (going b is at) n e r stops = subst (IsWordFront (front ++ rest)) (sym (not_ended n b is at)) (
  omega (arith, e, length-append front rest),
  subst BeginsForm (sym (front_of_text front rest n e)) (read_begins front (going b is at) r),
  (λ f h k.
      let same : Some (going b is at) ≡ Some (whole f.prefix f.period) = sym r ∙ ap (run (Some start)) (sym (front_of_text front rest n e) ∙ k) ∙ form_runs f h in
      cc),
  further rest refl,
)
  where
    further : (u : List ℕ) → rest ≡ u → n < length (front ++ rest) → BeginsForm (take (n + 1) (front ++ rest)) → ⊥
    further [] k less begins = omega (arith, less, e, ap length k, length-append front rest)
    further (c ∷ more) k less begins =
        let at : take (n + 1) (front ++ rest) ≡ front ++ c ∷ [] = ap (λ u. take (n + 1) (front ++ u)) k ∙ one_further front c more n e in
        begins_read (front ++ c ∷ []) (subst BeginsForm at begins)
        (run_append (Some start) front (c ∷ []) ∙ ap (λ o. run o (c ∷ [])) r ∙ ap (λ o. run o []) (stops c more k))

from_so : (front text : List ℕ) (p : Partial) (n : ℕ) → n ≡ length front → run (Some start) front ≡ Some p →
    IsWordFront (front ++ text) (word_from n (stage_of p) text)
unfolding Stops
from_so front [] p n e r = ends_so front [] p n e r (λ c more k. absurd cc)
from_so front (c ∷ text) p n e r =
    go (step p c) refl (λ q k. from_so (front ++ c ∷ []) text q (n + 1) (omega (arith, e, length-append front (c ∷ [])))
    (run_append (Some start) front (c ∷ []) ∙ ap (λ o. run o (c ∷ [])) r ∙ ap (λ o. run o []) k))
  where
    go : (o : Option Partial) → step p c ≡ o →
        ((q : Partial) → step p c ≡ Some q → IsWordFront ((front ++ c ∷ []) ++ text) (word_from (n + 1) (stage_of q) text)) →
        IsWordFront (front ++ c ∷ text) (word_from n (stage_of p) (c ∷ text))
    go None k f =
        let none : next (stage_of p) c ≡ None = sym (step_stage p c) ∙ ap staged k in
        subst (IsWordFront (front ++ c ∷ text)) (sym (word_stops n (stage_of p) c text none))
        (ends_so front (c ∷ text) p n e r (λ d more h. let same : d ≡ c = cc in ap (step p) same ∙ k))
    go (Some q) k f =
        let some : next (stage_of p) c ≡ Some (stage_of q) = sym (step_stage p c) ∙ ap staged k in
        subst (IsWordFront (front ++ c ∷ text)) (sym (word_more n (stage_of p) (stage_of q) c text some))
        (subst (λ (u : List ℕ). IsWordFront u (word_from (n + 1) (stage_of q) text)) (append_assoc front (c ∷ []) text) (f q k))

-- what stands at the front of a text is what the form says
pub word_front_so : (text : List ℕ) → IsWordFront text (word_front text)
unfolding word_front
word_front_so text = from_so [] text start 0 refl refl
