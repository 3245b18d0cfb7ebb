use Rattle.std.proofs.Common.{◌≡◌, ℕ, Bool, false, length, ap, sym, ◌∙◌, subst, refl}
use Rattle.std.specs.List.{All}
use Rattle.std.proofs.lemmas.List.{length-replicate, take_at}
use Rattle.std.proofs.lemmas.List.Elements.{All-replicate}
use Rattle.lucy_shape.specs.Marking.{IsBetween, AreMarks}
use Rattle.lucy_shape.proofs.marking.marks.Goals as goal

pub mark-requires-clause-within : goal.mark-requires-clause-within
mark-requires-clause-within c =
    let e = c.deref_mut.ensures.value ∙ c.in_ok-bits.ensures.items_if_clones_equal (λ y e. e) in
    subst (λ (n : ℕ). All (IsBetween c.args.from n) c.args.positions.now) (sym (ap length e ∙ length-replicate c.args.len false)) c.requires

pub mark-requires-clause-none : goal.mark-requires-clause-none
mark-requires-clause-none c =
    let e = c.deref_mut.ensures.value ∙ c.in_ok-bits.ensures.items_if_clones_equal (λ y e. e) in
    subst (All (λ (bit : Bool). bit ≡ false)) (sym e) (All-replicate (λ (bit : Bool). bit ≡ false) c.args.len false refl)

pub returns-clause-size : goal.returns-clause-size
returns-clause-size c =
    let same = c.mark.ensures.size ∙ c.deref_mut.ensures.len in
    ap length (take_at c.mark.new.bits _ _ same) ∙ same ∙ c.in_ok-bits.ensures.len

pub returns-clause-marks : goal.returns-clause-marks
returns-clause-marks c = subst (AreMarks c.args.from c.args.positions.now) (sym (take_at c.mark.new.bits _ _ (c.mark.ensures.size ∙ c.deref_mut.ensures.len))) c.mark.ensures.marks
