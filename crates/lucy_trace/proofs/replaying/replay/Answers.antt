use Rattle.std.proofs.Common.{ℕ, refl, sym, ap, ◌∙◌, ◌+◌, ◌<◌, length, slice_get, arith}
use Rattle.std.proofs.lemmas.Bool.{ltb-true}
use Rattle.std.proofs.lemmas.Option.{slice_get_read}
use Rattle.lucy_core.specs.Seen.{machine_of, done_of}
use Rattle.lucy_trace.specs.declared.error.TraceError.TheVariants.{NotPossible}
use Rattle.lucy_stream.specs.Deciding.{run_length}
use Rattle.lucy_stream.proofs.JoinedLaws.{length_run}
use Rattle.lucy_trace.proofs.RunLaws.{all_run, none_beyond, none_longer_than}
use Rattle.lucy_trace.proofs.replaying.replay.Goals as goal

pub returns-in-Some-clause-exact : goal.returns-in-Some-clause-exact
returns-in-Some-clause-exact g c =
    let count = c.run_picks-count.ensures.count in
    let there : c.run_picks-count.result < length c.args.picks.now = ltb-true c.run_picks-count.result (length c.args.picks.now) (sym c.in-Some.ensures.lookup.0) in (
      λ e. cc e,
      λ run. absurd (none_beyond (machine_of c.args.core.now).sys (done_of c.args.core.now.done) c.args.picks.now
          (omega (arith, count, there)) run),
    )

pub returns-in-Some-clause-refused : goal.returns-in-Some-clause-refused
returns-in-Some-clause-refused g c =
    let count = c.run_picks-count.ensures.count in
    let there : c.run_picks-count.result < length c.args.picks.now = ltb-true c.run_picks-count.result (length c.args.picks.now) (sym c.in-Some.ensures.lookup.0) in
    let sys = (machine_of c.args.core.now).sys in
    let done : ℕ → ℕ = done_of c.args.core.now.done in
    let n : ℕ = run_length sys done c.args.picks.now in (
      n,
      c.in-Some.actor.now,
      length_run sys done c.args.picks.now,
      λ run. none_longer_than sys done c.args.picks.now (omega (arith, count, there)) run,
      ap (slice_get c.args.picks.now) (sym count)
          ∙ slice_get_read c.args.picks.now (length c.args.picks.now) c.run_picks-count.result c.in-Some.actor.now refl
          there c.in-Some.ensures.lookup.1,
      ap (λ k. NotPossible (k + 1) c.in-Some.actor.now) count,
    )

pub returns-in-None-clause-exact : goal.returns-in-None-clause-exact
returns-in-None-clause-exact g c =
    let count = c.run_picks-count.ensures.count in (
      λ e. all_run (machine_of c.args.core.now).sys (done_of c.args.core.now.done) c.args.picks.now (omega (arith, count, c.in-None.ensures.lookup)),
      λ run. refl,
    )
