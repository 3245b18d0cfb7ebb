-- What main is fed where nothing was read, or reading was given up.
use Rattle.std.proofs.Common.{◌≡◌, ℕ, List, [], ◌∷◌, ◌++◌, Option, Some, None, refl, sym, ◌∙◌, inl, inr, arith}
use Rattle.std.specs.Prelude.{ℤ, ◌⊎◌, length}
use Rattle.lucy_text.proofs.OutsideLaws.{followed-nil, still_none}
use Rattle.lucy_host.specs.declared.kind.HostKind.{HostKind}
use Rattle.lucy_lines.specs.declared.input.InputSpec.{InputSpec}
use Rattle.lucy_lines.specs.Cuts.{ItemOf, whole_input}
use Rattle.lucy_lines.specs.declared.reader.TextFault.{TextFault}
use Rattle.lucy_lines.specs.declared.reader.TextFault.TheVariants.{BadLine, UnknownStream, BadValue, ReadFault, TooLong}
use Rattle.lucy_lines.specs.Fronts.{most_bytes}
use Rattle.lucy_lines.proofs.Exists.{some_cut}
use Rattle.lucy_text.specs.Outside.{SeenSource}
use Rattle.lucy_text.specs.Sources.{ReadStop, Unread, Ended, Failed, Open, Drained, Read}
use Rattle.lucy_lines.specs.Feeding.{is_closed, values_by_stream, StopsFor, IsAsked}
use Rattle.lucy_lines.specs.Resuming.{IsGivenUp}
use Rattle.lucy_program.specs.declared.accepted.Accepted.{Accepted}
use Rattle.lucy_run.specs.declared.ending.Ending.{Ending}
use Rattle.lucy_run.specs.Feeds.{Feeds, LinesFeed}
use Rattle.lucy_run.specs.Owes.{OwesRun, LinesAllow}

-- a source that was left alone
pub read_nothing : (s : SeenSource) → Read most_bytes s s [] Unread
read_nothing s = record { took = sym (followed-nil s.left); stopped = (refl, refl); none_follows = still_none s.since_stop }

-- main has no inputs
pub fed_nothing : (inputs : List InputSpec) (s : SeenSource) (lists : List (List ℤ)) → length inputs ≡ 0 → lists ≡ [] →
    (taken : List ℕ) × (stop : ReadStop) × Read most_bytes s s taken stop × IsAsked inputs taken × Feeds inputs taken stop lists None
fed_nothing [] s lists none e = ([], Unread, read_nothing s, inl refl, (refl, refl, e, refl))
fed_nothing (input ∷ inputs) s lists none e = absurd (omega arith)

never_failed : (stop : ReadStop) → (stop ≡ Drained) ⊎ (stop ≡ Open) → stop ≡ Failed → ⊥
never_failed stop (inl drained) e = let no_more : Drained ≡ Failed = sym drained ∙ e in cc
never_failed stop (inr open_yet) e = let no_more : Open ≡ Failed = sym open_yet ∙ e in cc

-- reading stops at a read that failed for no other fault
failed_for : (fault : Option TextFault) (stop : ReadStop) → StopsFor fault stop → stop ≡ Failed → fault ≡ Some ReadFault
failed_for None stop ended e = let no_more : Ended ≡ Failed = sym ended ∙ e in cc
failed_for (Some ReadFault) stop is e = refl
failed_for (Some (BadLine n)) stop is e = absurd (never_failed stop is e)
failed_for (Some (UnknownStream n)) stop is e = absurd (never_failed stop is e)
failed_for (Some (BadValue n)) stop is e = absurd (never_failed stop is e)
failed_for (Some TooLong) stop is e = absurd (never_failed stop is e)

-- what main is fed is what the whole lines feed it
pub lines_feed : (inputs : List InputSpec) (taken : List ℕ) (stop : ReadStop) (lists : List (List ℤ)) (fault : Option TextFault) → Feeds inputs taken stop lists fault →
    LinesFeed inputs taken stop lists
lines_feed [] taken stop lists fault (none, unread, empty, calm) =
    let (items, halt, cut) = some_cut [] (is_closed stop) (whole_input taken) in
    (items, halt, cut, λ e. (let no_more : Unread ≡ Failed = sym unread ∙ e in cc), empty)
lines_feed (input ∷ inputs) taken stop lists fault (items, halt, feed) = (items, halt, feed.cut, λ e. sym feed.fault ∙ failed_for fault stop feed.stopped e, feed.lists)

-- and of an output that is owed a front may stand where `run` breaks off
pub owed_allowed : (kinds : List HostKind) (a : Accepted) (given : Option ℕ) (taken : List ℕ) (stop : ReadStop) (output : List ℕ) (end : Ending) →
    OwesRun kinds a given taken stop output end → LinesAllow kinds a given taken stop output
owed_allowed kinds a given taken stop output end (lists, fault, horizon, fed, text, ends) =
    (lists, horizon, lines_feed a.inputs.items taken stop lists fault fed.feeds, fed.horizon_is, text)

-- bytes feed something, whatever they are
pub some_lines : (inputs : List InputSpec) (taken : List ℕ) (stop : ReadStop) → (stop ≡ Failed → ⊥) → (lists : List (List ℤ)) × LinesFeed inputs taken stop lists
some_lines inputs taken stop calm =
    let (items, halt, cut) = some_cut inputs (is_closed stop) (whole_input taken) in
    (values_by_stream (length inputs) items, (items, halt, cut, λ e. absurd (calm e), refl))

-- where reading was given up, those lines feed main that stand behind its items too
pub given_up_lines : (inputs : List InputSpec) (first now : SeenSource) (items : List ItemOf) (taken : List ℕ) (g : IsGivenUp inputs first now items taken) →
    LinesFeed inputs taken g.stop (values_by_stream (length inputs) (items ++ g.begin.0))
given_up_lines inputs first now items taken g = (items ++ g.begin.0, g.begin.1, g.begin.2, λ e. absurd (never_failed g.stop g.early e), refl)
