use Rattle.std.proofs.Common.{◌≡◌, ◌<◌, ℕ, ◌+◌, ◌-◌, Bool, false, List, get_or, ap, sym, ◌∙◌, inl, inr, arith, refl}
use Rattle.std.proofs.Math.Nat.{le_of_dvd}
use Rattle.std.proofs.lemmas.Bool.{cases_lt}
use Rattle.lucy_word.specs.Packing.{is_set}
use Rattle.lucy_word.proofs.ShortTurn.{repeats_cut, cut_repeats}
use Rattle.lucy_word.proofs.PackedLaws.{same_limb}
use Rattle.lucy_word.proofs.shortest.comes_again.Goals as goal

pub loop-i-init : goal.loop-i-init
loop-i-init c = record { from = omega arith; within = le_of_dvd c.requires.nonempty c.requires.whole; again = λ k h. absurd (omega arith) }

pub returns-then-part : goal.returns-then-part
returns-then-part c = (
  λ is. absurd (cc),
  λ again.
      let v : List Bool = c.args.period.now in
      let d : ℕ = c.args.distance in
      let at : ℕ = c.loop-i.i in
      absurd (c.if-part.true (same_limb c.min-some.result _ _ c.part.ensures.below c.part-in-loop-i.ensures.below (λ i h.
      c.part.ensures.bits i h ∙ ap (λ k. get_or v k false) (let e : at + i ≡ at - d + i + d = omega (arith, c.loop-i.invariant.from) in e)
      ∙ cut_repeats v c.args.turn d (at - d + i) c.requires.within again (omega (arith, c.loop-i.invariant.from, c.min-some.ensures)) ∙ sym (c.part-in-loop-i.ensures.bits i h)))),
)

pub loop-i-preserved : goal.loop-i-preserved
loop-i-preserved c =
    let v : List Bool = c.args.period.now in
    let d : ℕ = c.args.distance in
    let at : ℕ = c.loop-i.i in
    record {
      from = omega (arith, c.loop-i.invariant.from);
      within = omega (arith, c.min-some.ensures);
      again = λ k h.
          elim (cases_lt (k + d) at) [
            | inl before ↦ c.loop-i.invariant.again k before
            | inr past ↦
                let i : ℕ = k + d - at in
                let here : i < c.min-some.result = omega arith in
                ap (λ j. get_or v j false) (let e : k + d ≡ at + i = omega arith in e) ∙ sym (c.part.ensures.bits i here) ∙ ap (λ x. is_set x i) c.if-part.false
                ∙ c.part-in-loop-i.ensures.bits i here ∙ ap (λ j. get_or v j false) (let e : at - d + i ≡ k = omega (arith, c.loop-i.invariant.from) in e)
          ];
    }

pub returns : goal.returns
returns c = (
  λ is.
      repeats_cut c.args.period.now c.args.turn c.args.distance c.requires.within c.requires.nonempty c.requires.some c.requires.whole (λ k h.
      c.loop-i.invariant.again k (omega (arith, c.loop-i-test.false, c.loop-i.invariant.within))),
  λ again. refl,
)
