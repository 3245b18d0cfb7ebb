-- How a run by an engine ends, from what its parts leave.
use Rattle.std.proofs.Common.{◌≡◌, ℕ, List, [], ◌++◌, length, Option, Result, Ok, refl, ap, sym, ◌∙◌, subst, inl, inr}
use Rattle.std.specs.Prelude.{ℤ}
use Rattle.std.specs.declared.alloc.AllocError.{AllocError}
use Rattle.lucy_host.specs.declared.kind.HostKind.{HostKind}
use Rattle.lucy_lines.specs.Fronts.{most_bytes}
use Rattle.lucy_text.specs.Outside.{SeenSource, SeenSink, Writes, Fails}
use Rattle.lucy_lines.specs.declared.feeds.Feed.{Feed}
use Rattle.lucy_text.specs.Sources.{ReadStop, Unread, Failed, Open, Read}
use Rattle.lucy_lines.specs.Feeding.{IsAsked}
use Rattle.lucy_lines.specs.declared.output.OutputSpec.{OutputSpec}
use Rattle.lucy_lines.specs.Outputs.{output_text}
use Rattle.lucy_lines.proofs.SinkLaws.{unwritten, writes_more, fails_behind, fails_longer}
use Rattle.lucy_program.specs.declared.accepted.Accepted.{Accepted}
use Rattle.lucy_run.specs.declared.ending.Ending.{Ending}
use Rattle.lucy_run.specs.declared.ending.Ending.TheVariants as ending
use Rattle.lucy_run.specs.declared.playing.Played.{Played}
use Rattle.lucy_run.specs.Feeds.{Feeds, LinesFeed, IsMainFeed}
use Rattle.lucy_run.specs.Owes.{most_instants, input_words, lines_to, heading, OwesRun}
use Rattle.lucy_run.specs.Engines.{PlayRequest, AsksOnce, AsksUnless, AsksToRun, HasBroken, EndsRunBy}
use Rattle.lucy_run.specs.Steps.{EndsWhole, HasPlayed, AsksToPlay, LeavesWritten, LeavesUnwritten}
use Rattle.lucy_run.proofs.EndsLaws.{allowed_not_yet, take_front, ends_whole}
use Rattle.lucy_run.proofs.FedLaws.{read_nothing, lines_feed, some_lines}
use Rattle.lucy_run.proofs.HorizonLaws.{some_horizon}

-- what an engine was asked for once is such, or it may not have been asked
pub asks_more : (A B : PlayRequest → Type 0) (P Q : Type 0) → ((one : PlayRequest) → A one → B one) → (P → Q) →
    (asked asked' : Option (List PlayRequest)) → AsksUnless P A asked asked' → AsksUnless Q B asked asked'
asks_more A B P Q more may asked asked' (inl (one, is, e)) = inl (one, more one is, e)
asks_more A B P Q more may asked asked' (inr (p, e)) = inr (may p, e)

-- it was asked once where it can't be that it wasn't asked
must_ask : (A : PlayRequest → Type 0) (P : Type 0) → (P → ⊥) → (asked asked' : Option (List PlayRequest)) → AsksUnless P A asked asked' →
    AsksOnce A asked asked'
must_ask A P must asked asked' (inl once) = once
must_ask A P must asked asked' (inr (p, e)) = absurd (must p)

module _ (kinds : List HostKind) (a : Accepted) (given : Option ℕ) (workers : ℕ) (asked asked' : Option (List PlayRequest)) where
  -- how a call ends where these bytes were taken and reading stopped so
  abbrev pub EngineEnds : (taken : List ℕ) → ReadStop → (was now : SeenSink) → Ending → Type 0
  EngineEnds taken stop was now end = EndsRunBy kinds a given workers taken stop asked asked' was now end

  -- what a call leaves
  abbrev pub EngineGives : (before after : SeenSource) (was now : SeenSink) → Ending → Type 0
  EngineGives before after was now result = (taken : List ℕ) × (stop : ReadStop) × Read most_bytes before after taken stop
      × IsAsked a.inputs.items taken × EngineEnds taken stop was now result

  -- memory ran out before anything was done
  pub engine_unbegun : asked' ≡ asked → (s : SeenSource) (o : SeenSink) → EngineGives s s o o ending.OutOfMemory
  engine_unbegun same s o =
      ([], Unread, read_nothing s, inl refl, record { output = ([], inl refl, unwritten o); in_order = λ fault. cc; asks = inr (inr refl, same) })

  -- the heading was not written
  pub engine_headless : asked' ≡ asked → (s : SeenSource) (was now : SeenSink) (end : Ending) → LeavesUnwritten (heading a) was now end →
      EngineGives s s was now end
  engine_headless same s was now ending.WriteFault fails =
      let (lines, allowed) = allowed_not_yet kinds a given in (
        [],
        Unread,
        read_nothing s,
        inl refl,
        record {
          output = (heading a ++ lines, allowed, fails_longer was now (heading a) lines fails);
          in_order = λ fault. inl ((fails, refl), same);
          asks = inr (inl refl, same);
        },
      )
  engine_headless same s was now ending.OutOfMemory as_was = subst (λ o. EngineGives s s was o ending.OutOfMemory) (sym as_was) (engine_unbegun same s was)
  engine_headless same s was now ending.Done none = absurd none
  engine_headless same s was now (ending.Input f) none = absurd none
  engine_headless same s was now (ending.Limit l) none = absurd none

  -- memory ran out behind the heading, where the whole lines feed main so
  heading_alone : (taken : List ℕ) (stop : ReadStop) (lists : List (List ℤ)) → LinesFeed a.inputs.items taken stop lists → (was now : SeenSink) →
      Writes was now (heading a) → AsksUnless (HasBroken ending.OutOfMemory) (AsksToRun a given workers taken stop) asked asked' →
      EngineEnds taken stop was now ending.OutOfMemory
  heading_alone taken stop lists fed was now head asks =
      let (horizon, is) = some_horizon (input_words a) lists (most_instants given) in
      let lines : List ℕ = lines_to kinds a lists horizon in
      record {
        output = (heading a, inr (heading a ++ lines, length (heading a), (lists, horizon, fed, is, refl), take_front (heading a) lines), head);
        in_order = λ fault. cc;
        asks = asks;
      }

  -- it ran out while the input was read
  pub engine_unfed : asked' ≡ asked → (before after : SeenSource) (was now : SeenSink) (taken : List ℕ) (stop : ReadStop) → Writes was now (heading a) →
      Read most_bytes before after taken stop → IsAsked a.inputs.items taken → stop ≡ Open → EngineGives before after was now ending.OutOfMemory
  engine_unfed same before after was now taken stop head read bytes broken =
      let (lists, fed) = some_lines a.inputs.items taken stop (λ failed. (let no_more : Open ≡ Failed = sym broken ∙ failed in cc)) in
      (taken, stop, read, bytes, heading_alone taken stop lists fed was now head (inr (inr refl, same)))

  -- main was fed
  module _ (before after : SeenSource) (taken : List ℕ) (stop : ReadStop) (read : Read most_bytes before after taken stop)
      (bytes : IsAsked a.inputs.items taken) (answer : Result Feed AllocError) (feed : Feed)
      (is : answer ≡ Ok feed) (fed_so : IsMainFeed a.inputs.items taken stop answer) (was between : SeenSink) (head : Writes was between (heading a))
      (MayNot : Type 0) (asks : AsksUnless MayNot (AsksToPlay a given feed.items workers) asked asked') where
    feeds : Feeds a.inputs.items taken stop feed.items feed.stop
    feeds = subst (IsMainFeed a.inputs.items taken stop) is fed_so

    -- the whole lines fed it
    by_lines : LinesFeed a.inputs.items taken stop feed.items
    by_lines = lines_feed a.inputs.items taken stop feed.items feed.stop feeds

    -- the engine was asked to play that
    asks_so : (Broken : Type 0) → (MayNot → Broken) → AsksUnless Broken (AsksToRun a given workers taken stop) asked asked'
    asks_so Broken may = asks_more (AsksToPlay a given feed.items workers) (AsksToRun a given workers taken stop) MayNot Broken
        (λ one so. record { lists = feed.items; fault = feed.stop; fed = record { feeds = feeds; horizon_is = so.0 }; workers_are = so.1 })
        may asked asked' asks

    -- and then memory ran out
    pub engine_unplayed : EngineGives before after was between ending.OutOfMemory
    engine_unplayed = (taken, stop, read, bytes, heading_alone taken stop feed.items by_lines was between head (asks_so (HasBroken ending.OutOfMemory) (λ may. inr refl)))

    -- the program was played
    module _ (once : MayNot → ⊥) (played : Played) (has : HasPlayed kinds a given feed.items feed.stop played) where
      abbrev output : List ℕ
      output = heading a ++ lines_to kinds a feed.items played.horizon

      owes : OwesRun kinds a given taken stop output played.ending
      owes = (feed.items, feed.stop, played.horizon, record { feeds = feeds; horizon_is = has.horizon_is }, refl, has.ends)

      asks_once : AsksOnce (AsksToRun a given workers taken stop) asked asked'
      asks_once = must_ask (AsksToRun a given workers taken stop) MayNot once asked asked' (asks_so MayNot (λ may. may))

      whole : (end : Ending) (now : SeenSink) → EndsWhole end → OwesRun kinds a given taken stop output end → Writes was now output →
          EngineEnds taken stop was now end
      whole ending.WriteFault now all owed lines = absurd all
      whole ending.OutOfMemory now all owed lines = absurd all
      whole ending.Done now all owed lines = record { output = (output, owed, lines); in_order = λ fault. cc; asks = inl asks_once }
      whole (ending.Input f) now all owed lines = record { output = (output, owed, lines); in_order = λ fault. cc; asks = inl asks_once }
      whole (ending.Limit l) now all owed lines = record { output = (output, owed, lines); in_order = λ fault. cc; asks = inl asks_once }

      -- a write of the lines failed
      broken : (lines : List ℕ) → lines ≡ lines_to kinds a feed.items played.horizon → (now : SeenSink) → Fails between now lines →
          EngineEnds taken stop was now ending.WriteFault
      broken lines are now fails = record {
        output = (
          output,
          (feed.items, played.horizon, by_lines, has.horizon_is, refl),
          fails_behind was between now (heading a) (lines_to kinds a feed.items played.horizon) head (subst (Fails between now) are fails),
        );
        in_order = λ fault. inr ((between, lines, head, fails), asks_once);
        asks = inl asks_once;
      }

      lines_are : (outputs : List OutputSpec) → outputs ≡ a.outputs.items →
          output_text outputs played.streams played.horizon ≡ lines_to kinds a feed.items played.horizon
      lines_are outputs same =
          ap (λ os. output_text os played.streams played.horizon) same
          ∙ ap (λ ls. output_text a.outputs.items ls played.horizon) has.streams_are

      ends_so : (lines : List ℕ) → lines ≡ lines_to kinds a feed.items played.horizon → (now : SeenSink) (result : Ending) →
          LeavesWritten lines played.ending between now result → EngineEnds taken stop was now result
      ends_so lines are now result (inl left) =
          let P : Ending → Type 0 = λ r. EngineEnds taken stop was now r in
          let all = writes_more was between now (heading a) (lines_to kinds a feed.items played.horizon) head
          (subst (Writes between now) are left.1) in
          subst P (sym left.0)
          (whole played.ending now (ends_whole (input_words a) given feed.items feed.stop played.ending has.ends) owes all)
      ends_so lines are now result (inr (inl left)) =
          let P : Ending → Type 0 = λ r. EngineEnds taken stop was now r in
          subst P (sym left.0) (broken lines are now left.1)
      ends_so lines are now result (inr (inr left)) =
          let P : Ending → SeenSink → Type 0 = λ r s. EngineEnds taken stop was s r in
          subst (λ r. P r now) (sym left.0) (subst (P ending.OutOfMemory) (sym left.1)
          (heading_alone taken stop feed.items by_lines was between head (inl asks_once)))

      pub engine_played : (outputs : List OutputSpec) → outputs ≡ a.outputs.items → (now : SeenSink) (result : Ending) →
          LeavesWritten (output_text outputs played.streams played.horizon) played.ending between now result →
          EngineGives before after was now result
      engine_played outputs same now result left =
          (taken, stop, read, bytes, ends_so (output_text outputs played.streams played.horizon) (lines_are outputs same) now result left)
