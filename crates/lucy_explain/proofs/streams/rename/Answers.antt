use Rattle.std.proofs.Common.{ℕ, ◌≡◌, ◌<◌, List, set, get_or, refl, sym, subst, arith}
use Rattle.lucy_explain.specs.Joining.{renamed}
use Rattle.lucy_explain.proofs.StreamLaws.{renamed_here, renamed_not, rename_next, index_within}
use Rattle.lucy_explain.proofs.streams.rename.Goals.{then-stream-old, else-stream-old}
use Rattle.lucy_explain.proofs.streams.rename.Goals as goal

pub each-init : goal.each-init
each-init c = record { done = λ k l. absurd (omega arith); rest = λ k l. refl }

pub each-preserved : goal.each-preserved
each-preserved c =
    let now : List ℕ = c.each.streams in
    let i : ℕ = c.each.stream-index in
    let turn : (v : ℕ) × (c.if-stream-old.streams ≡ set now i v) × (v ≡ renamed c.args.old c.args.new (get_or now i 0)) = elim c.if-stream-old.branch [
      | then-stream-old w ↦ renamed_here c.args.old c.args.new now c.if-stream-old.streams i w.streams-is w.if-stream-old.true
      | else-stream-old w ↦ renamed_not c.args.old c.args.new now c.if-stream-old.streams i w.streams-is w.if-stream-old.false
    ] in
    let next = rename_next c.args.old c.args.new c.args.streams.now now c.if-stream-old.streams i turn.0 (subst (λ n. i < n) (sym c.each.auto.streams) c.each-test.true) c.each.invariant.done c.each.invariant.rest turn.1 turn.2 in
    record { done = next.0; rest = next.1 }

pub returns : goal.returns
returns c k l = c.each.invariant.done k (index_within _ _ _ l c.each-test.false)
