use Rattle.std.proofs.Common.{◌≡◌, ◌<◌, ◌≤◌, ◌-◌, ℕ, Bool, true, false, not, List, length, take, get_or, sym, subst, ◌∙◌, refl, inl, inr, arith}
use mathlib.Core.Bool.{beq}
use Rattle.std.proofs.lemmas.List.{length-take, get_or-take}
use Rattle.lucy_word.specs.Turns.{GoesOnAs, EndsAt}
use Rattle.lucy_word.proofs.ShortPrefix.{IsBefore, goes_start, goes_back, goes_ends}
use Rattle.lucy_word.proofs.shortest.kept.Goals as goal
use Rattle.lucy_word.proofs.shortest.kept.Goals.{then-at-eq0, else-at-eq0}

start : (u v : List Bool) (n : ℕ) → n ≡ length u → GoesOnAs (record { prefix = u; period = v }) n v 0
start u v n e = subst (λ k. GoesOnAs (record { prefix = u; period = v }) k v 0) (sym e) (goes_start u v)

pub loop-kept-init : goal.loop-kept-init
loop-kept-init c = record {
  within = omega (arith, c.len-kept.ensures.len);
  at = c.requires.some;
  goes_on = start c.args.prefix.now (take c.args.turn c.args.period.now) c.len-kept.result c.len-kept.ensures.len;
}

same_bit : (a b : Bool) → not (beq a b) ≡ false → a ≡ b
same_bit true true h = refl
same_bit true false h = cc
same_bit false true h = cc
same_bit false false h = refl

other_bit : (a b : Bool) → not (beq a b) ≡ true → a ≡ b → ⊥
other_bit true true h e = cc
other_bit true false h e = cc
other_bit false true h e = cc
other_bit false false h e = cc

-- one bit back in the first turn of a period
IsTurnBefore : (at before turn : ℕ) → Type 0
IsTurnBefore at before turn = IsBefore at before turn × (before < turn)

back : (u v : List Bool) (k at before turn : ℕ) (x y : Bool) → turn ≤ length v → 0 < k → k ≤ length u → IsTurnBefore at before turn →
    GoesOnAs (record { prefix = u; period = take turn v }) k (take turn v) at → x ≡ get_or u (k - 1) false → y ≡ get_or v before false → x ≡ y →
    GoesOnAs (record { prefix = u; period = take turn v }) (k - 1) (take turn v) before
unfolding IsTurnBefore
back u v k at before turn x y turn_within some within is goes is_x is_y same =
    let t : List Bool = take turn v in
    let size : turn ≡ length t = omega (arith, length-take turn v) in
    goes_back u t k at before some within (omega (arith, is.1, size)) (subst (IsBefore at before) size is.0) goes (sym is_x ∙ same ∙ is_y ∙ sym (get_or-take turn v before false is.1))

ends : (u v : List Bool) (k at before turn : ℕ) (x y : Bool) → turn ≤ length v → 0 < k → k ≤ length u → IsTurnBefore at before turn →
    GoesOnAs (record { prefix = u; period = take turn v }) k (take turn v) at → x ≡ get_or u (k - 1) false → y ≡ get_or v before false → (x ≡ y → ⊥) →
    EndsAt (record { prefix = u; period = take turn v }) k
unfolding IsTurnBefore
ends u v k at before turn x y turn_within some within is goes is_x is_y other =
    let t : List Bool = take turn v in
    let size : turn ≡ length t = omega (arith, length-take turn v) in
    goes_ends u t k at before some within (omega (arith, is.1, size)) (subst (IsBefore at before) size is.0) goes (λ same.
    other (is_x ∙ same ∙ get_or-take turn v before false is.1 ∙ sym is_y))

pub loop-kept-preserved : goal.loop-kept-preserved
unfolding IsTurnBefore
loop-kept-preserved c =
    let is : IsTurnBefore c.loop-kept.at c.if-at-eq0.before c.args.turn =
    elim c.if-at-eq0.branch [ then-at-eq0 w ↦ (inl (omega arith, omega arith), omega arith) | else-at-eq0 w ↦ (inr (omega arith), omega arith) ] in
    record {
      within = omega (arith, c.loop-kept.invariant.within);
      at = is.1;
      goes_on = back c.args.prefix.now c.args.period.now c.loop-kept.kept c.loop-kept.at c.if-at-eq0.before c.args.turn c.bit.result c.bit-in-loop-kept.result c.requires.turn c.loop-kept-test.true
          c.loop-kept.invariant.within is c.loop-kept.invariant.goes_on c.bit.ensures.bit c.bit-in-loop-kept.ensures.bit (same_bit _ _ c.if-bit.false);
    }

pub returns-then-bit-clause-least : goal.returns-then-bit-clause-least
unfolding IsTurnBefore
returns-then-bit-clause-least c =
    let is : IsTurnBefore c.loop-kept.at c.if-at-eq0.before c.args.turn =
    elim c.if-at-eq0.branch [ then-at-eq0 w ↦ (inl (omega arith, omega arith), omega arith) | else-at-eq0 w ↦ (inr (omega arith), omega arith) ] in
    ends c.args.prefix.now c.args.period.now c.loop-kept.kept c.loop-kept.at c.if-at-eq0.before c.args.turn c.bit.result c.bit-in-loop-kept.result c.requires.turn c.loop-kept-test.true
    c.loop-kept.invariant.within is c.loop-kept.invariant.goes_on c.bit.ensures.bit c.bit-in-loop-kept.ensures.bit (other_bit _ _ c.if-bit.true)
