-- What is known of what is told, as it is printed.
use Rattle.std.proofs.Common.{◌≡◌, ℕ, zero, suc, ◌-◌, ◌<◌, List, [], ◌++◌, length, Some, ap, sym, ◌∙◌, refl, arith, append_assoc}
use Rattle.std.specs.Prelude.{codes, slice_get}
use Rattle.std.specs.Fmt.{decimal}
use Rattle.std.proofs.lemmas.Option.{same_Some}
use Rattle.lucy_place.specs.declared.placed.PlacedNode.{PlacedNode}
use Rattle.lucy_clock.specs.Clocks.{clocks_of}
use Rattle.lucy_need.specs.declared.need.Needs.{Needs}
use Rattle.lucy_solve.specs.System.{DifferenceSystem}
use Rattle.lucy_shape.specs.Fitting.{variable_count}
use Rattle.lucy_program.specs.declared.accepted.Accepted.{Accepted}
use Rattle.lucy_program.specs.declared.options.Options.{Options}
use Rattle.lucy_front.specs.Evidence.{variable_names, cycle_lines}
use Rattle.lucy_front.specs.Refusals.{AreBelow}
use Rattle.lucy_front.proofs.EvidenceLaws.{all_below}
use Rattle.lucy_tight.specs.declared.answer.Least.{Least}
use Rattle.lucy_tight.specs.Tightening.{IsTightened}
use Rattle.lucy_tight.specs.Report.{less_lines}

-- that a size is too small
abbrev pub too_small : (less period : ℕ) → List ℕ
too_small less period = codes "no size " ++ (decimal less ++ (codes " for period " ++ (decimal period ++ codes "\n")))

module _ (a : Accepted) (o : Options) (node buffer : ℕ) (t : Least) (is : IsTightened a o node buffer t) (n : PlacedNode)
    (at : slice_get a.placed.nodes node ≡ Some n) where
  same : is.of.n ≡ n
  same = same_Some is.of.n n (sym is.of.stands ∙ at)

  pub told_sizes : length t.clocks.sizes ≡ length n.buffers
  told_sizes = is.sizes.count ∙ ap (λ (m : PlacedNode). length m.buffers) same

  pub told_clocks : length t.shape.clocks ≡ clocks_of n
  told_clocks = is.shape.wide.clocks ∙ ap (λ (x : Needs). x.clocks) is.needs ∙ ap clocks_of same

-- the cycle is of the inequalities
pub told_variables : (a : Accepted) (o : Options) (node buffer : ℕ) (t : Least) → IsTightened a o node buffer t →
    t.diffs.count ≡ variable_count t.shape.clocks
told_variables a o node buffer t is = ap (λ (s : DifferenceSystem). s.count) is.tightest.less

pub told_there : (a : Accepted) (o : Options) (node buffer : ℕ) (t : Least) → IsTightened a o node buffer t →
    0 < t.least → AreBelow (length t.diffs.list) t.cycle.items
told_there a o node buffer t is some = all_below (length t.diffs.list) t.cycle.items (is.tightest.shown some).within

-- nothing is told of less than 0, and else of one less
pub none_less : (n : PlacedNode) (least : ℕ) (t : Least) → least ≡ 0 → less_lines n least t ≡ []
none_less n zero t e = refl
none_less n (suc less) t e = absurd (cc e)

pub one_less : (n : PlacedNode) (least : ℕ) (t : Least) → 0 < least →
    less_lines n least t ≡ too_small (least - 1) t.shape.period ++ cycle_lines (variable_names n t.shape.clocks) t.diffs.list t.cycle.items
one_less n zero t some = absurd (omega arith)
one_less n (suc less) t some =
    let same : less ≡ suc less - 1 = omega arith in
    ap (λ k. too_small k t.shape.period ++ cycle_lines (variable_names n t.shape.clocks) t.diffs.list t.cycle.items) same

-- two parts, one put behind the other
pub two : (s t a b c : List ℕ) → b ≡ a ++ s → c ≡ b ++ t → c ≡ a ++ (s ++ t)
two s t a b c e f = f ∙ ap (λ x. x ++ t) e ∙ append_assoc a s t

pub two_new : (s t a b c : List ℕ) → a ≡ [] → b ≡ a ++ s → c ≡ b ++ t → c ≡ s ++ t
two_new s t a b c none e f = two s t a b c e f ∙ ap (λ x. x ++ (s ++ t)) none
