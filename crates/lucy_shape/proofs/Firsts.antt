-- The places of the first ones of a word, listed.
use Rattle.std.proofs.Common.{◌≡◌, ℕ, ◌+◌, ◌-◌, ◌*◌, ◌<◌, ◌≤◌, ◌^◌, List, length, get_or, set, inl, inr, sym, ap, ◌∙◌, subst, arith}
use Rattle.std.proofs.lemmas.Bool.{cases_eq}
use Rattle.std.proofs.lemmas.Grind.{get_or_default_zero, get_or-set_at}
use Rattle.std.proofs.lemmas.List.{length-set, get_or-set_other}
use Rattle.lucy_word.specs.Bits.{Bits, ones_to, ones_in, IsWord}
use Rattle.lucy_solve.specs.System.{most_inequalities, most_constant}
use Rattle.lucy_shape.specs.declared.shape.ClockShape.{ClockShape}
use Rattle.lucy_shape.specs.Added.{IsSpreadable, IsFoldable, AreFirsts}
use Rattle.lucy_shape.specs.Fitting.{most_positions}
use Rattle.lucy_shape.specs.Index.{index_of}
use Rattle.lucy_shape.specs.Rows.{turns_of, row}
use Rattle.lucy_shape.proofs.Indexes.{index_turn}
use Rattle.lucy_shape.proofs.Places.{index_some}
use Rattle.lucy_shape.proofs.Reaches.{fold_fits, position_fits, spreadable_wide}
use Rattle.lucy_shape.proofs.WordIndex.{word_index, word_rises, word_turns}

pub firsts_at : (w : Bits) (n i x : ℕ) (list : List ℕ) → AreFirsts w n list → i < n → x ≡ get_or list i x → x ≡ index_of w (i + 1)
firsts_at w n i x list h l at = at ∙ get_or_default_zero list i x (let m = h.within in omega arith) ∙ h.at i l

-- one more of them
pub firsts_set : (w : Bits) (k x : ℕ) (list next : List ℕ) → AreFirsts w k list → k < length list → next ≡ set list k x → x ≡ index_of w (k + 1) → AreFirsts w (k + 1) next
firsts_set w k x list next h l is e = record {
  within = let a = ap length is in let b = length-set list k x in omega arith;
  at = λ j m. ap (λ (xs : List ℕ). get_or xs j 0) is ∙ elim (cases_eq j k) as (λ _. get_or (set list k x) j 0 ≡ index_of w (j + 1)) [
    | inl same ↦ get_or-set_at list k j x 0 same l ∙ e ∙ ap (λ n. index_of w (n + 1)) (sym same)
    | inr other ↦ get_or-set_other list k j x 0 other ∙ h.at j (omega arith)
  ];
}

-- past the first period there are its ones
pub turn_ones : (w : Bits) → ones_to w (length w.prefix + length w.period) ≡ ones_to w (length w.prefix) + ones_in w.period
turn_ones w = word_turns w (length w.prefix) (omega arith)

-- each further one stands a period behind that which comes a period's ones before
further : (w : Bits) (k : ℕ) → IsWord w → ones_to w (length w.prefix + length w.period) ≤ k → index_of w (k + 1) ≡ index_of w (k - ones_in w.period + 1) + length w.period
further w k is past =
    let t = turn_ones w in
    let a = index_turn (ones_to w) (index_of w) (length w.prefix) (length w.period) (ones_in w.period) (word_index w is) (word_rises w) (word_turns w) (k - ones_in w.period + 1) (omega arith) in
    let e : index_of w (k - ones_in w.period + 1 + ones_in w.period) ≡ index_of w (k + 1) = ap (index_of w) (omega arith) in
    omega arith

pub next_is : (w : Bits) (k ones period : ℕ) (list : List ℕ) → IsWord w → AreFirsts w k list → ones ≡ ones_in w.period → period ≡ length w.period →
    ones_to w (length w.prefix + length w.period) ≤ k → get_or list (k - ones) 0 + period ≡ index_of w (k + 1)
next_is w k ones period list is h f g past =
    let t = turn_ones w in
    let some = is.has_one in
    let a = h.at (k - ones) (omega arith) in
    let same : index_of w (k - ones + 1) ≡ index_of w (k - ones_in w.period + 1) = ap (λ n. index_of w (k - n + 1)) f in
    let b = further w k is past in
    omega arith

-- the ones of a term that can be spread stand at positions that fit, and can be folded
pub term_fits : (N : ℕ) (c : ClockShape) (w : Bits) (n : ℕ) → IsSpreadable N c w → N ≤ 1 + most_positions → n ≤ most_inequalities → (k : ℕ) → k ≤ n → index_of w k < 2 ^ 64
term_fits N c w n is wide few k l = position_fits c w k (spreadable_wide N c w wide is) (omega arith)

pub term_fold : (P N : ℕ) (c : ClockShape) (w : Bits) (n i x : ℕ) → IsSpreadable N c w → N ≤ 1 + most_positions → n ≤ most_inequalities → P ≤ most_positions →
    i < n → x ≡ index_of w (i + 1) → IsFoldable P c x
term_fold P N c w n i x is wide few short l at =
    let s = spreadable_wide N c w wide is in
    record {
      placed = s.placed;
      some = subst (λ (m : ℕ). 0 < m) (sym at) (index_some w s.word (i + 1) (omega arith));
      fits = subst (λ (m : ℕ). turns_of c m * P < most_constant) (sym at) (fold_fits c w (i + 1) P s (omega arith) short);
    }

pub row_same : (P : ℕ) (c d : ClockShape) (m k x y : ℕ) → m ≡ x → k ≡ y → row P c m d k ≡ row P c x d y
row_same P c d m k x y e f = ap (λ n. row P c n d k) e ∙ ap (λ n. row P c x d n) f
