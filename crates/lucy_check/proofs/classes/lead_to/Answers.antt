use Rattle.std.proofs.Common.{ℕ, ◌+◌, ◌<◌, ◌≤◌, ◌≡◌, inl, inr, arith}
use Rattle.std.proofs.lemmas.Bool.{cases_lt}
use Rattle.lucy_check.proofs.Leads.{lead_none, lead_one, lead_both, lead_fewer}
use Rattle.lucy_check.proofs.classes.lead_to.Goals as goal

pub loop-i-init : goal.loop-i-init
loop-i-init c = lead_none c.args.a.now c.args.b.now (λ i. i < 0) (λ i h. omega arith)

pub loop-i-preserved : goal.loop-i-preserved
loop-i-preserved c =
    let a = c.args.a.now in
    let b = c.args.b.now in
    let n : ℕ = c.loop-i.i in
    let here = lead_one a b n c.saturating_sub.result (omega (arith, c.saturating_sub.ensures, c.ones.ensures, c.ones-in-loop-i.ensures)) in
    lead_both a b (λ i. i < n) (λ i. i ≡ n) (λ i. i < n + 1) _ _ _ c.loop-i.invariant here c.max-most.ensures (λ i h.
    elim (cases_lt i n) [ inl less ↦ inl less | inr more ↦ inr (omega arith) ])

pub returns : goal.returns
returns c = lead_fewer c.args.a.now c.args.b.now (λ i. i < c.loop-i.i) (λ i. i ≤ c.args.last) _ c.loop-i.invariant (λ i h. omega arith)
