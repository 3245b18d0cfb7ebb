use Rattle.std.proofs.Common.{◌≡◌, ◌<◌, ℕ, List, length, get_or, replicate, ap, sym, ◌∙◌, subst, arith}
use Rattle.std.specs.List.{All}
use Rattle.std.proofs.lemmas.List.{length-replicate, get_or-replicate, take_at}
use Rattle.lucy_need.specs.Meeting.{IsWithin}
use Rattle.lucy_need.specs.declared.need.Need.{Need}
use Rattle.lucy_rates.specs.Laying.{AreLongest}
use Rattle.lucy_rates.proofs.shaping.prefixes.Goals as goal

none : (needs : List Need) (list : List ℕ) (n : ℕ) → list ≡ replicate n 0 → AreLongest needs n 0 list
none needs list n e =
    let zero' : (c : ℕ) → c < n → get_or list c 0 ≡ 0 = λ c l. ap (λ (x : List ℕ). get_or x c 0) e ∙ get_or-replicate n c 0 0 l in
    record { size = ap length e ∙ length-replicate n 0; each = zero'; few = λ c l. (let z = zero' c l in omega arith) }

zeros : (c : goal.After-deref_mut) → c.deref_mut.result.now ≡ replicate c.args.clocks 0
zeros c = c.deref_mut.ensures.value ∙ c.in_ok-list.ensures.items_if_clones_equal (λ y e. e)

pub raise_prefixes-requires-clause-within : goal.raise_prefixes-requires-clause-within
raise_prefixes-requires-clause-within c = subst (λ (n : ℕ). All (IsWithin n) c.args.needs.now) (sym (ap length (zeros c) ∙ length-replicate c.args.clocks 0)) c.requires

pub raise_prefixes-requires-clause-none : goal.raise_prefixes-requires-clause-none
raise_prefixes-requires-clause-none c =
    subst (λ (n : ℕ). AreLongest c.args.needs.now n 0 c.deref_mut.result.now) (sym (ap length (zeros c) ∙ length-replicate c.args.clocks 0)) (none _ _ _ (zeros c))

pub returns-clause-ok : goal.returns-clause-ok
returns-clause-ok c =
    let e = c.deref_mut.ensures.value ∙ c.in_ok-list.ensures.items_if_clones_equal (λ y e. e) in
    subst (AreLongest c.args.needs.now c.args.clocks (length c.args.needs.now))
    (sym (take_at c.raise_prefixes.new.prefixes _ c.in_ok-list.list.len (c.raise_prefixes.ensures.size ∙ c.deref_mut.ensures.len)))
    (subst (λ (n : ℕ). AreLongest c.args.needs.now n (length c.args.needs.now) c.raise_prefixes.new.prefixes) (ap length e ∙ length-replicate c.args.clocks 0) c.raise_prefixes.ensures)
