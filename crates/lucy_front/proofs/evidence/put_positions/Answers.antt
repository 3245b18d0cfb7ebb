use Rattle.std.proofs.Common.{◌≡◌, ◌+◌, ◌-◌, ◌++◌, ◌∷◌, [], map, ap, sym, ◌∙◌, arith, append_assoc}
use Rattle.std.specs.List.{range_with_len}
use Rattle.std.proofs.lemmas.List.FromFn.{map-range_with_len_more}
use Rattle.lucy_front.proofs.LineLaws.{position_name}
use Rattle.lucy_front.proofs.evidence.put_positions.Goals as goal

pub each-preserved : goal.each-preserved
each-preserved c =
    let l = c.each in
    let f = position_name c.args.clock.now in
    let start = c.args.names.now.items in
    let some = l.auto.position in
    let next : 1 + (l.position - 1) ≡ l.position = omega (arith, some) in
    let step = map-range_with_len_more f 1 (l.position - 1) l.position next in
    let same : l.position - 1 + 1 ≡ l.position + 1 - 1 = omega (arith, some) in
    c.in_ok-push.ensures ∙ ap (λ x. l.names.items ++ x ∷ []) c.in_ok-position_name.ensures ∙ ap (λ xs. xs ++ f l.position ∷ []) l.invariant
    ∙ append_assoc start (map f (range_with_len 1 (l.position - 1))) (f l.position ∷ []) ∙ ap (λ xs. start ++ xs) (sym step) ∙ ap (λ k. start ++ map f (range_with_len 1 k)) same
