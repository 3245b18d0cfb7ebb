use Rattle.std.proofs.Common.{ℕ, ◌<◌, get_or, ◌∙◌, arith}
use Rattle.std.proofs.lemmas.List.{length-set}
use Rattle.std.proofs.lemmas.List.Elements.{All-get_or}
use Rattle.lucy_runner.proofs.HomeLaws.{only_more, marked_more}
use Rattle.lucy_runner.proofs.sitting.used_homes.Goals as goal

pub loop-home-preserved : goal.loop-home-preserved
loop-home-preserved c =
    let i : ℕ = c.loop-home.home-index in
    let below : get_or c.args.homes.now i 0 < c.args.workers = All-get_or (λ home. home < c.args.workers) c.args.homes.now i 0 c.loop-home-test.true c.requires in
    record {
      count = length-set c.loop-home.used.items _ _ ∙ c.loop-home.invariant.count;
      only = only_more c.loop-home.used.items c.args.homes.now i c.loop-home-test.true c.loop-home.invariant.only;
      marked = marked_more c.loop-home.used.items c.args.homes.now i c.loop-home-test.true (omega (arith, below, c.loop-home.invariant.count)) c.loop-home.invariant.marked;
    }
