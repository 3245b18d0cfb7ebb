use Rattle.std.proofs.Common.{◌≡◌, ◌+◌, ◌-◌, ◌++◌, ◌∷◌, [], ap, sym, ◌∙◌, arith, append_assoc}
use Rattle.lucy_types.specs.Ports.{counted}
use Rattle.lucy_types.proofs.CallLaws.{counted_next}
use Rattle.lucy_types.proofs.calls.call_places.Goals as goal

pub results-init : goal.results-init
results-init c =
    ap (λ l. l ++ counted (c.args.first + 0) (c.args.results - 0)) c.in_ok-list.ensures.items
    ∙ ap (λ n. c.args.args.now ++ counted n (c.args.results - 0)) (let e : c.args.first + 0 ≡ c.args.first = omega arith in e)
    ∙ ap (λ n. c.args.args.now ++ counted c.args.first n) (let e : c.args.results - 0 ≡ c.args.results = omega arith in e)

pub results-preserved : goal.results-preserved
results-preserved c =
    ap (λ l. l ++ counted (c.args.first + (c.results.i + 1)) (c.args.results - (c.results.i + 1))) c.in_ok-push.ensures.items
    ∙ append_assoc c.results.list.items ((c.args.first + c.results.i) ∷ []) (counted (c.args.first + (c.results.i + 1)) (c.args.results - (c.results.i + 1)))
    ∙ ap (λ l. c.results.list.items ++ l) (sym (counted_next c.args.first c.results.i c.args.results (omega arith))) ∙ c.results.invariant
