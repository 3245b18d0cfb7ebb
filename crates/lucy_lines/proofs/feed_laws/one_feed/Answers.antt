use Rattle.std.proofs.Common.{◌≡◌, ℕ, List, Option, Ok, length, ap, sym, ◌∙◌}
use Rattle.std.specs.Prelude.{ℤ}
use Rattle.lucy_lines.specs.CutLaws.{OneCut}
use Rattle.lucy_lines.specs.declared.input.InputSpec.{InputSpec}
use Rattle.lucy_lines.specs.declared.reader.TextFault.{TextFault}
use Rattle.lucy_lines.specs.declared.feeds.Feed.{Feed}
use Rattle.lucy_text.specs.Sources.{ReadStop}
use Rattle.lucy_lines.specs.Feeding.{values_by_stream, is_closed, fault_of, IsFeed}
use Rattle.lucy_lines.specs.Cuts.{whole_input}
use Rattle.lucy_lines.proofs.feed_laws.one_feed.Goals as goal

one : OneCut → (inputs : List InputSpec) (taken : List ℕ) (stop : ReadStop) (feed other : Feed) → IsFeed inputs taken stop (Ok feed) → IsFeed inputs taken stop (Ok other) → feed ≡ other
one cuts inputs taken stop feed other (items, halt, is) (others, rest, so) =
    let same = cuts inputs (is_closed stop) (whole_input taken) items others halt rest is.cut so.cut in
    let lists : feed.items ≡ other.items = is.lists ∙ ap (values_by_stream (length inputs)) same.0 ∙ sym so.lists in
    let fault : feed.stop ≡ other.stop = is.fault ∙ ap (fault_of stop) same.1 ∙ sym so.fault in
    let f : List (List ℤ) → Feed = λ u. record { items = u; stop = feed.stop } in
    let g : Option TextFault → Feed = λ u. record { items = other.items; stop = u } in
    ap f lists ∙ ap g fault

pub returns : goal.returns
returns c = one c.one_cut.ensures
