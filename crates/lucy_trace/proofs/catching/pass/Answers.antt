use Rattle.std.proofs.Common.{ℕ, ◌-◌, ◌<◌, ◌≡◌, cond, length, ap, sym, ◌∙◌, subst, inl, inr, arith}
use Rattle.std.specs.Prelude.{[], ◌∷◌, vec_capacity}
use Rattle.std.proofs.lemmas.Bool.{cases_eq}
use Rattle.std.proofs.lemmas.List.Elements.{All-head}
use Rattle.lucy_core.specs.Seen.{Seen, CanStep, done_of}
use Rattle.lucy_trace.proofs.CatchingLaws.{HasRuns, gone_further, gone_still, gone_length, room_left, back_in, back_there}
use Rattle.lucy_trace.proofs.catching.pass.Goals as goal
use Rattle.lucy_trace.proofs.catching.pass.Goals.{then-back, else-back}

pub go_on-requires-clause-room : goal.go_on-requires-clause-room
go_on-requires-clause-room g c κs within =
    let first : Seen = c.args.core.now in
    let law : HasRuns first = record { counts = c.runs_go_on.ensures.counts; actors = c.runs_go_on.ensures.actors; joined = c.runs_go_on.ensures.joined } in
    room_left c.args.counts.now first c.loop-k.core c.args.picks.now.items c.loop-k.picks.items law c.loop-k.invariant.on (vec_capacity c.args.picks.now) (vec_capacity c.loop-k.picks) c.requires.room c.loop-k.invariant.room

pub loop-k-preserved : goal.loop-k-preserved
loop-k-preserved g c =
    let first : Seen = c.args.core.now in
    let law : HasRuns first = record { counts = c.runs_go_on.ensures.counts; actors = c.runs_go_on.ensures.actors; joined = c.runs_go_on.ensures.joined } in
    let on = c.loop-k.invariant.on in
    let counts = c.args.counts.now in
    let actor_is : c.if-back.actor ≡ cond c.args.back (length counts - 1 - c.loop-k.k) c.loop-k.k = elim c.if-back.branch [
      | then-back w ↦ w.actor-is ∙ sym (ap (λ b. cond b (length counts - 1 - c.loop-k.k) c.loop-k.k) w.if-back.true)
      | else-back w ↦ w.actor-is ∙ sym (ap (λ b. cond b (length counts - 1 - c.loop-k.k) c.loop-k.k) w.if-back.false)
    ] in
    record {
      on = gone_further counts first c.loop-k.core c.args.picks.now.items c.loop-k.picks.items law on c.go_on.new.core c.go_on.new.picks.items c.go_on.ensures.on;
      room = omega (arith, c.loop-k.invariant.room, c.go_on.ensures.room);
      stopped = λ same j a l is less can.
          (let all = gone_length counts first c.loop-k.core c.args.picks.now.items c.loop-k.picks.items on in
          let more = gone_length counts c.loop-k.core c.go_on.new.core c.loop-k.picks.items c.go_on.new.picks.items c.go_on.ensures.on in
          let none : length c.loop-k.picks.items ≡ length c.args.picks.now.items = omega arith in
          elim (cases_eq j c.loop-k.k) [
            | inl e ↦
                let here : a ≡ c.if-back.actor = is ∙ ap (λ k. cond c.args.back (length counts - 1 - k) k) e ∙ sym actor_is in
                let still : c.loop-k.core ≡ first = gone_still counts first c.loop-k.core c.args.picks.now.items c.loop-k.picks.items on none in
                c.go_on.ensures.stopped (omega arith)
                (subst (λ (s : Seen). done_of s.done c.if-back.actor < done_of counts c.if-back.actor) (sym still) (subst (λ (b : ℕ). done_of first.done b < done_of counts b) here less))
                (subst (λ (s : Seen). CanStep s c.if-back.actor) (sym still) (subst (CanStep first) here can))
            | inr ne ↦ c.loop-k.invariant.stopped none j a (omega (arith, ne)) is less can
          ]);
    }

pub returns-clause-stopped : goal.returns-clause-stopped
returns-clause-stopped g c = λ same on.
    (let there : on.actor < length c.args.core.now.net.actors = All-head (λ a. a < length c.args.core.now.net.actors) on.actor [] (c.runs_go_on.ensures.actors (on.actor ∷ []) (on.can, tt)) in
    c.loop-k.invariant.stopped same (cond c.args.back (length c.args.counts.now - 1 - on.actor) on.actor) on.actor
    (omega (arith, back_in c.args.back (length c.args.counts.now) on.actor (omega (arith, there, c.requires.count)), c.loop-k-test.false, c.loop-k.auto.k-end))
    (back_there c.args.back (length c.args.counts.now) on.actor (omega (arith, there, c.requires.count))) on.fewer on.can)
