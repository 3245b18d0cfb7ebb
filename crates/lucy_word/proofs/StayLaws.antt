-- Digits behind a digit leave the stage of a word's text as it is.
use Rattle.std.proofs.Common.{ℕ, suc, zero, ◌+◌, ◌-◌, ◌<◌, ◌≤◌, ◌≡◌, Bool, true, false, cond, eqb, ◌&&◌, List, [], ◌∷◌, length, drop, get_or, Some, ap, sym, refl, ◌∙◌, subst, inl, inr, arith, length-drop}
use Rattle.std.specs.List.{prefix_len}
use Rattle.std.proofs.lemmas.Bool.{cases_lt}
use Rattle.std.proofs.lemmas.List.{get_or-drop}
use Rattle.lucy_word.specs.Items.{digit_of}
use Rattle.lucy_word.specs.Packing.{is_set}
use Rattle.lucy_word.specs.Spelling.{is_digit}
use Rattle.lucy_word.specs.Stages.{next, ended}
use Rattle.lucy_word.specs.declared.form.Stage as stage_type
use Rattle.lucy_word.specs.declared.form.Stage.TheVariants as stage
use Rattle.lucy_word.specs.Cutting.{is_no_open, AreDigits, IsDigitRun, Stays, at_digit}
use Rattle.lucy_word.specs.Partials.{item, digit, brace, count, Partial, going, whole}
use Rattle.lucy_word.proofs.DigitLaws.{digit_again}
use Rattle.lucy_word.proofs.Checking.{Checked, IsPending, stage_of, checked_more}

-- no digit, one more, and as many more as a limb has bits
pub run_first : (text : List ℕ) (from : ℕ) → IsDigitRun text from from
run_first text from = record { ordered = omega arith; within = λ h. h; digits = λ k h less. absurd (omega (arith, h, less)) }

pub run_more : (text : List ℕ) (from i : ℕ) → IsDigitRun text from i → i < length text → is_digit (get_or text i 0) ≡ true → IsDigitRun text from (i + 1)
run_more text from i k here good = record {
  ordered = omega (arith, k.ordered);
  within = λ h. omega (arith, here);
  digits = λ j h less.
      elim (cases_lt j i) [
        | inl before ↦ k.digits j h before
        | inr past ↦ (let same : i ≡ j = omega (arith, less, past) in subst (λ (n : ℕ). is_digit (get_or text n 0) ≡ true) same good)
      ];
}

digit_good : (b : Bool) → is_digit (digit_of b) ≡ true
digit_good true = refl
digit_good false = refl

good_at : (text : List ℕ) (i j limb : ℕ) → AreDigits (drop i text) 64 limb → i ≤ j → j < i + 64 → is_digit (get_or text j 0) ≡ true
good_at text i j limb d past less =
    let m : ℕ = j - i in
    let here : m < 64 = omega (arith, past, less) in
    let same : i + m ≡ j = omega (arith, past) in
    let place : get_or (drop i text) m 0 ≡ get_or text j 0 = get_or-drop i text m 0 ∙ ap (λ n. get_or text n 0) same in
    ap is_digit (sym place ∙ d.digits m here) ∙ digit_good (is_set limb m)

pub run_limb : (text : List ℕ) (from i limb : ℕ) → IsDigitRun text from i → AreDigits (drop i text) 64 limb → IsDigitRun text from (i + 64)
run_limb text from i limb k d = record {
  ordered = omega (arith, k.ordered);
  within = λ h. omega (arith, d.within, length-drop i text);
  digits = λ j h less.
      elim (cases_lt j i) [
        | inl before ↦ k.digits j h before
        | inr past ↦ good_at text i j limb d past less
      ];
}

-- no digit is a `(`
no_open : (c : ℕ) → is_digit c ≡ true → is_no_open c ≡ true
no_open c h = ap is_no_open (digit_again c h) ∙ closed (eqb c 49)
  where
    closed : (b : Bool) → is_no_open (digit_of b) ≡ true
    closed true = refl
    closed false = refl

past_digits : (n : ℕ) (text : List ℕ) → ((k : ℕ) → k < n → is_digit (get_or text k 0) ≡ true) → n ≤ length text → prefix_len is_no_open text ≡ n + prefix_len is_no_open (drop n text)
past_digits zero text good within = omega arith
past_digits (suc n) [] good within = absurd (omega (arith, within))
past_digits (suc n) (c ∷ text) good within =
    let rest : prefix_len is_no_open text ≡ n + prefix_len is_no_open (drop n text) = past_digits n text (λ k h. good (suc k) (omega (arith, h))) (omega (arith, within)) in
    ap (λ t. cond t (1 + prefix_len is_no_open text) 0) (no_open c (good 0 (omega arith))) ∙ omega (arith, rest)

pub past_run : (text : List ℕ) (n : ℕ) → IsDigitRun text 0 n → prefix_len is_no_open text ≡ n + prefix_len is_no_open (drop n text)
past_run text n run = past_digits n text (λ k h. run.digits k (omega arith) h) (run.within (omega arith))

-- behind a digit no count is read
none_kept : (p : Partial) (all : Bool) (from i : ℕ) (inside : Bool) → stage_of p ≡ stage.Digit inside → IsPending p all from i → all ≡ false
none_kept (going b is (digit x)) all from i inside e h = h
none_kept (going b is item) all from i inside e h = h
none_kept (going b is (brace x)) all from i inside e h = h
none_kept (going b is (count x ds)) all from i inside e h = absurd cc
none_kept (whole ps is) all from i inside e h = h

checked_digit : (text : List ℕ) (i from : ℕ) (all : Bool) (inside : Bool) → Checked text i from all (stage.Digit inside) → i < length text → is_digit (get_or text i 0) ≡ true →
    Checked text (i + 1) from all (stage.Digit inside)
checked_digit text i from all inside k less good =
    let c : ℕ = get_or text i 0 in
    let none : all ≡ false = none_kept k.state all from i inside k.staged k.pending in
    let goes : next (stage.Digit inside) c ≡ Some (stage.Digit inside) =
    ap (λ t. cond t (Some (stage.Digit inside)) (cond (eqb c 123) (Some (stage.Brace inside)) (ended inside true c))) good in
    let more : Checked text (i + 1) from (all && eqb c 48) (stage.Digit inside) =
    checked_more text i from all (stage.Digit inside) (stage.Digit inside) k less goes (λ t u. absurd (let wrong : false ≡ true = sym none ∙ t in cc)) in
    let same : (all && eqb c 48) ≡ all = ap (λ t. t && eqb c 48) none ∙ sym none in
    subst (λ (t : Bool). Checked text (i + 1) from t (stage.Digit inside)) same more

checked_stay : (text : List ℕ) (i from : ℕ) (all : Bool) (s : stage_type.Stage) → Checked text i from all s → i < length text → at_digit s ≡ true → is_digit (get_or text i 0) ≡ true →
    Checked text (i + 1) from all s
checked_stay text i from all (stage.Digit inside) k less at good = checked_digit text i from all inside k less good
checked_stay text i from all (stage.Item inside some) k less at good = absurd cc
checked_stay text i from all (stage.Brace inside) k less at good = absurd cc
checked_stay text i from all (stage.Count inside) k less at good = absurd cc
checked_stay text i from all stage.Closed k less at good = absurd cc

pub checked_stays : (text : List ℕ) (i to from : ℕ) (all : Bool) (s : stage_type.Stage) → Checked text i from all s → Stays text s i to → Checked text to from all s
checked_stays text i to from all s k stays =
    let all_of : i + (to - i) ≡ to = omega (arith, stays.run.ordered) in
    subst (λ (n : ℕ). Checked text n from all s) all_of (go (to - i) (omega (arith, stays.run.ordered)))
  where
    go : (d : ℕ) → i + d ≤ to → Checked text (i + d) from all s
    go zero h = let same : i ≡ i + 0 = omega arith in subst (λ (n : ℕ). Checked text n from all s) same k
    go (suc d) h =
        let good = stays.run.digits (i + d) (omega arith) (omega (arith, h)) in
        let here : i + d < length text = omega (arith, stays.run.within k.within, h) in
        let next_place : i + d + 1 ≡ i + suc d = omega arith in
        subst (λ (n : ℕ). Checked text n from all s) next_place (checked_stay text (i + d) from all s (go d (omega (arith, h))) here (stays.behind (omega (arith, h))) good)
