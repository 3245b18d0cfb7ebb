use Rattle.std.proofs.Common.{ℕ, ◌<◌, ◌≡◌, List, length, ap, sym, ◌∙◌, arith}
use Rattle.lucy_core.specs.Seen.{Seen, CanRun, after_picks}
use Rattle.lucy_trace.specs.Together.{AreTogether}
use Rattle.lucy_trace.proofs.RoundLaws.{next_net, next_counts, next_ahead, next_together, next_some, if_ok, on_ok}
use Rattle.lucy_trace.proofs.rounds.round.Goals as goal

pub count_all-requires : goal.count_all-requires
count_all-requires g c =
    let core : Seen = c.args.core.now in
    let next : Seen = c.round_in_place.new.self.seen in
    record {
      few = omega (arith, c.requires.count, c.runs_go_on.ensures.few);
      count = c.requires.count
          ∙ sym (ap (λ n. length n.actors) (next_net core c.args.runner.now.seen next c.round_in_place.result c.requires.together c.round_in_place.ensures.round));
    }

pub catch_up-requires-clause-ahead : goal.catch_up-requires-clause-ahead
catch_up-requires-clause-ahead g c κs within =
    let core : Seen = c.args.core.now in
    let runner : Seen = c.args.runner.now.seen in
    let next : Seen = c.round_in_place.new.self.seen in
    let moves : ℕ = c.round_in_place.result in
    let round = c.round_in_place.ensures.round in
    let counts : List ℕ = c.count_all.new.counts in
    next_ahead core runner next moves c.requires.together round c.events_go_by_the_net.ensures counts
    (next_counts core runner next moves c.requires.together round counts (c.count_all.auto.counts ∙ c.requires.count) (c.runs_go_on.ensures.counted round.picks)
    (λ a l. c.count_all.ensures.each a (omega (arith, l, c.count_all.auto.counts))))

pub returns : goal.returns
returns g c =
    let core : Seen = c.args.core.now in
    let runner : Seen = c.args.runner.now.seen in
    let next : Seen = c.round_in_place.new.self.seen in
    let moves : ℕ = c.round_in_place.result in
    let round = c.round_in_place.ensures.round in
    let counts : List ℕ = c.count_all.new.counts in
    let there : Seen = c.catch_up.new.core in
    let same : counts ≡ next.done =
    next_counts core runner next moves c.requires.together round counts (c.count_all.auto.counts ∙ c.requires.count) (c.runs_go_on.ensures.counted round.picks)
    (λ a l. c.count_all.ensures.each a (omega (arith, l, c.count_all.auto.counts))) in
    record {
      some = if_ok c.catch_up.result (λ picks. CanRun core picks.items × (there ≡ after_picks core picks.items)) (λ picks. 0 < length picks.items) (there ≡ record core { done = counts })
          c.catch_up.ensures.run c.catch_up.ensures.there
          (λ picks run is. next_some core runner next moves c.requires.together round counts picks.items there c.requires.unfinished same is run.1);
      run = c.catch_up.ensures.run;
      together = on_ok c.catch_up.result (there ≡ record core { done = counts }) (AreTogether there next) c.catch_up.ensures.there
          (λ is. next_together core runner next moves c.requires.together round counts there same is);
      operators = ap (λ (s : Seen). s.operators) round.is;
      crew = c.round_in_place.ensures.crew;
      refused = c.catch_up.ensures.refused;
    }
