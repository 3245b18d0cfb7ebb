use Rattle.std.proofs.Common.{ℕ, suc, ◌+◌, ◌<◌, ◌≤◌, ◌≡◌, List, [], ◌∷◌, ◌++◌, length, get_or, drop, ap, sym, subst, ◌∙◌, add-one}
use Rattle.std.proofs.Math.Seq.{drop-cons}
use Rattle.std.proofs.lemmas.List.{drop_all}
use Rattle.clap.specs.Simple.{Shape}
use Rattle.lucy_asking.specs.declared.told.Told.{Told}
use Rattle.lucy_asking.specs.Saying.{HasShape, rule_told, taking_more}
use Rattle.lucy_asking.proofs.Shapes.{taken}
use Rattle.lucy_asking.proofs.commands.with_args.Goals as goal

-- with one more, what is left is less by that
one_less : (shape : Shape) (list : List Told) (i : ℕ) (d : Told) → i < length list →
    taking_more (record shape { rules = shape.rules ++ rule_told (get_or list i d) ∷ [] }) (drop (i + 1) list) ≡ taking_more shape (drop i list)
one_less shape list i d within =
    ap (λ n. taking_more (record shape { rules = shape.rules ++ rule_told (get_or list i d) ∷ [] }) (drop n list)) (add-one i)
    ∙ sym (ap (taking_more shape) (drop-cons list i d within))

-- at the end nothing is left
none_less : (shape now : Shape) (list : List Told) (i : ℕ) → length list ≤ i → taking_more now (drop i list) ≡ taking_more shape list → now ≡ taking_more shape list
none_less shape now list i end e = sym (ap (taking_more now) (drop_all i list end)) ∙ e

pub each-preserved : goal.each-preserved
each-preserved c = λ shape was.
    let (now, is, e) = c.each.invariant shape was in
    (_, taken now _ _ _ _ is c.arg_of.ensures.rule c.arg_of.ensures.local c.in-Ok.ensures, one_less now c.args.list.now c.each.one-index _ c.each-test.true ∙ e)

pub returns : goal.returns
returns c = λ shape was.
    let (now, is, e) = c.each.invariant shape was in
    subst (λ s. HasShape s c.each.command) (none_less shape now c.args.list.now c.each.one-index c.each-test.false e) is
