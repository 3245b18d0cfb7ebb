use Rattle.std.proofs.Common.{◌≡◌, ℕ, ◌<◌, ◌∷◌, List, length, get_or, sym, ap, ◌∙◌, subst}
use Rattle.std.proofs.lemmas.Result.{IfOk-weaker}
use Rattle.lucy_need.specs.declared.need.Term.{Term}
use Rattle.lucy_need.specs.declared.need.Need.{Need}
use Rattle.lucy_rates.specs.Walks.{first_of, second_of, need_at, no_need, IsUnequalWalk}
use Rattle.lucy_rates.specs.Trees.{IsFirstUnequal}
use Rattle.lucy_rates.specs.Growing.{IsWayBack}
use Rattle.lucy_rates.proofs.Growing.{both_within, need_is}
use Rattle.lucy_rates.proofs.Showing.{unequal_of, first_of_all, one_root_at}
use Rattle.lucy_rates.proofs.walk.walk_of.Goals as goal

first_clock : (needs : List Need) (k : ℕ) (need : Need) (s : Term) → k < length needs → need ≡ get_or needs k need → s ≡ first_of need → (first_of (need_at needs k)).clock ≡ s.clock
first_clock needs k need s l e f = ap (λ (n : Need). (first_of n).clock) (sym (need_is needs k need l e)) ∙ ap (λ (z : Term). z.clock) (sym f)

second_clock : (needs : List Need) (k : ℕ) (need : Need) (t : Term) → k < length needs → need ≡ get_or needs k need → t ≡ second_of need → (second_of (need_at needs k)).clock ≡ t.clock
second_clock needs k need t l e f = ap (λ (n : Need). (second_of n).clock) (sym (need_is needs k need l e)) ∙ ap (λ (z : Term). z.clock) (sym f)

pub way_back-requires : goal.way_back-requires
way_back-requires c =
    let f = c.args.forest.now in
    let n = length f.roots.items in
    let needs = c.args.needs.now in
    let k = c.args.need in
    let ends = both_within n (need_at needs k) (c.requires.within k no_need c.requires.need) in
    let a = first_clock needs k c.index-needs-need.result c.terms.result.0.now c.requires.need c.index-needs-need.is c.terms.ensures.first in
    let b = second_clock needs k c.index-needs-need.result c.terms.result.1.now c.requires.need c.index-needs-need.is c.terms.ensures.second in
    let one = one_root_at needs n f.roots.items f.parents.items f.rates.items k c.requires.within c.requires.grown.is c.requires.need in
    record {
      within = c.requires.within;
      grown = c.requires.grown;
      from = subst (λ (x : ℕ). x < n) b ends.1;
      to = subst (λ (x : ℕ). x < n) a ends.0;
      one = ap (λ x. get_or f.roots.items x 0) (sym b) ∙ one ∙ ap (λ x. get_or f.roots.items x 0) a;
    }

pub returns : goal.returns
returns c =
    let f = c.args.forest.now in
    let n = length f.roots.items in
    let needs = c.args.needs.now in
    let k = c.args.need in
    let a = first_clock needs k c.index-needs-need.result c.terms.result.0.now c.requires.need c.index-needs-need.is c.terms.ensures.first in
    let b = second_clock needs k c.index-needs-need.result c.terms.result.1.now c.requires.need c.index-needs-need.is c.terms.ensures.second in
    let way : IsWayBack needs f.roots.items f.rates.items (second_of (need_at needs k)).clock (first_of (need_at needs k)).clock c.in_ok-back.back.items =
    subst (λ (x : ℕ). IsWayBack needs f.roots.items f.rates.items x (first_of (need_at needs k)).clock c.in_ok-back.back.items) (sym b)
    (subst (λ (x : ℕ). IsWayBack needs f.roots.items f.rates.items c.terms.result.1.now.clock x c.in_ok-back.back.items) (sym a) c.in_ok-back.ensures) in
    record {
      first = IfOk-weaker c.led_by.result _ _ (λ walk e. subst (λ (x : List ℕ). IsFirstUnequal needs x) (sym (e ∙ ap (λ x. k ∷ x) c.deref.ensures.value))
          (first_of_all needs n f.roots.items f.parents.items f.rates.items k c.in_ok-back.back.items c.requires.within c.requires.grown.is c.requires.need c.requires.uneven c.requires.before way)) c.led_by.ensures;
      unequal = IfOk-weaker c.led_by.result _ _ (λ walk e. subst (λ (x : List ℕ). IsUnequalWalk needs x) (sym (e ∙ ap (λ x. k ∷ x) c.deref.ensures.value))
          (unequal_of needs n f.roots.items f.parents.items f.rates.items k c.in_ok-back.back.items c.requires.within c.requires.words c.requires.grown.is c.requires.need c.requires.uneven way)) c.led_by.ensures;
    }
