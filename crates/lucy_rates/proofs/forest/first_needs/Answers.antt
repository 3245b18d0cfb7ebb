use Rattle.std.proofs.Common.{ℕ, length, ap, sym, ◌∙◌, subst, refl}
use Rattle.std.specs.List.{All}
use Rattle.std.proofs.lemmas.List.{length-replicate, take_at}
use Rattle.lucy_need.specs.Meeting.{IsWithin}
use Rattle.lucy_rates.specs.Growing.{AreFirstSoFar}
use Rattle.lucy_rates.proofs.Growing.{named_none, named_all}
use Rattle.lucy_rates.proofs.forest.first_needs.Goals as goal

pub name_all-requires-clause-within : goal.name_all-requires-clause-within
name_all-requires-clause-within c =
    let e = c.deref_mut.ensures.value ∙ c.in_ok-list.ensures.items_if_clones_equal (λ y e. e) in
    subst (λ (n : ℕ). All (IsWithin n) c.args.needs.now) (sym (ap length e ∙ length-replicate c.args.clocks (length c.args.needs.now))) c.requires.within

pub name_all-requires-clause-none : goal.name_all-requires-clause-none
name_all-requires-clause-none c =
    named_none c.args.needs.now c.args.clocks (length c.args.needs.now) c.deref_mut.result.now (c.deref_mut.ensures.value ∙ c.in_ok-list.ensures.items_if_clones_equal (λ y e. e)) refl

pub returns : goal.returns
returns c =
    let e = c.deref_mut.ensures.value ∙ c.in_ok-list.ensures.items_if_clones_equal (λ y e. e) in
    let n = length c.deref_mut.result.now in
    named_all c.args.needs.now n c.args.clocks _ (ap length e ∙ length-replicate c.args.clocks (length c.args.needs.now))
    (subst (AreFirstSoFar c.args.needs.now n (length c.args.needs.now)) (sym (take_at c.name_all.new.list _ _ (c.name_all.ensures.size ∙ c.deref_mut.ensures.len))) c.name_all.ensures)
