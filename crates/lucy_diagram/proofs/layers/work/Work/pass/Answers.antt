use Rattle.std.proofs.Common.{◌≡◌, ◌-◌, get_or, refl, ap, ◌∙◌, arith}
use Rattle.lucy_diagram.proofs.LayeringLaws.{passing, passing_more, passing_less, passing_end}
use Rattle.lucy_diagram.proofs.layers.work.Work.pass.Goals as goal

pub each-init : goal.each-init
each-init c =
    let last = c.args.chains.now.last.items in
    let number : c.at-number.result ≡ get_or last c.args.place 0 = c.at-number.ensures ∙ ap (λ l. get_or l c.args.place 0) c.deref.ensures.value in (
      passing c.args.ways.now last c.args.chains.now.before.items c.args.place c.at-number.result c.args.layer c.args.self.now c.requires.chained c.requires.place number c.requires.counts c.requires.free c.requires.low,
      refl,
    )

pub way_at-requires : goal.way_at-requires
way_at-requires c = let h = c.each.invariant.0.within in omega arith

pub go-requires : goal.go-requires
go-requires c = let h = c.each.invariant.0.low in let f = c.each.invariant.0.counts.few in omega arith

pub each-smaller : goal.each-smaller
each-smaller c =
    let before = c.args.chains.now.before.items in
    let next : c.at-number-in-each.result ≡ get_or before (c.each.number - 1) 0 = c.at-number-in-each.ensures ∙ ap (λ l. get_or l (c.each.number - 1) 0) c.deref-in-each.ensures.value in
    passing_less c.args.ways.now c.args.chains.now.last.items before c.args.place c.each.number _ c.args.layer c.way_at.result.now c.each.self c.requires.chained c.requires.place (omega arith) c.way_at.ensures next c.each.invariant.0

pub each-preserved : goal.each-preserved
each-preserved c =
    let before = c.args.chains.now.before.items in
    let next : c.at-number-in-each.result ≡ get_or before (c.each.number - 1) 0 = c.at-number-in-each.ensures ∙ ap (λ l. get_or l (c.each.number - 1) 0) c.deref-in-each.ensures.value in (
      passing_more c.args.ways.now c.args.chains.now.last.items before c.args.place c.each.number _ c.args.layer c.way_at.result.now c.each.self c.go.new.self c.requires.chained c.requires.place (omega arith) c.way_at.ensures next c.each.invariant.0
          c.in_ok-go.ensures.found c.in_ok-go.ensures.least c.in_ok-go.ensures.waits c.in_ok-go.ensures.free,
      c.in_ok-go.ensures.found ∙ c.each.invariant.1,
    )

pub returns-clause-counts : goal.returns-clause-counts
returns-clause-counts c = passing_end c.args.ways.now c.args.place c.each.number c.args.layer c.each.self (omega arith) c.each.invariant.0
