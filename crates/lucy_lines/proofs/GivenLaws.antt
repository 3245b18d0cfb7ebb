-- Laws of what the reading of a whole input gives.
use Rattle.std.proofs.Common.{◌≡◌, ℕ, Result, Ok, Err, true, false, List, [], length, refl, ap, sym, ◌∙◌, subst, inl, inr, arith}
use Rattle.std.specs.Prelude.{ℤ, IsErr}
use Rattle.lucy_lines.specs.declared.input.InputSpec.{InputSpec}
use Rattle.lucy_lines.specs.Cuts.{ItemOf}
use Rattle.lucy_lines.specs.Fronts.{most_bytes}
use Rattle.std.specs.declared.alloc.AllocError.{AllocError}
use Rattle.lucy_text.proofs.OutsideLaws.{followed-nil, still_none}
use Rattle.std.proofs.lemmas.List.FromFn.{length-map-range_with_len}
use Rattle.lucy_lines.specs.declared.feeds.Feed.{Feed}
use Rattle.lucy_text.specs.Outside.{SeenSource}
use Rattle.lucy_text.specs.Sources.{ReadStop, Open, Read}
use Rattle.lucy_lines.specs.Feeding.{values_of, IsAsked, IsFeed, IsFeedOf}
use Rattle.lucy_lines.specs.Resuming.{FeedState, HasRead, IsGivenUp, AreFresh, ReadsMore, GivesUp}

-- what the reading of an input gives
abbrev pub GivesFeed : List InputSpec → (before after : SeenSource) → Result Feed AllocError → Type 0
GivesFeed inputs before after result = (taken : List ℕ) × (stop : ReadStop) × Read most_bytes before after taken stop × IsAsked inputs taken × IsFeed inputs taken stop result

-- memory ran out before anything was read
pub nothing_read : (inputs : List InputSpec) (source : SeenSource) (result : Result Feed AllocError) → IsErr result → GivesFeed inputs source source result
nothing_read inputs source (Ok feed) is = cc
nothing_read inputs source (Err e) is = ([], Open, record { took = sym (followed-nil source.left); stopped = (omega arith, refl); none_follows = still_none source.since_stop }, inl refl, refl)

-- a reading that was given up ended early, also where it had met the end
read_early : (inputs : List InputSpec) (first now : SeenSource) (items : List ItemOf) (taken : List ℕ) → IsGivenUp inputs first now items taken → Read most_bytes first now taken Open
read_early inputs first now items taken g = elim g.early [
  | inl e ↦
      let read = subst (λ s. Read most_bytes first now taken s) e g.read in
      record { took = read.took; stopped = (read.stopped.0, read.stopped.2); none_follows = read.none_follows }
  | inr e ↦ subst (λ s. Read most_bytes first now taken s) e g.read
]

-- or later
pub none_read_on : (inputs : List InputSpec) (first now : SeenSource) (s : FeedState) (result : Result Feed AllocError) → IsErr result → HasRead inputs first first s [] [] → AreFresh inputs s [] →
    GivesUp first now s → GivesFeed inputs first now result
none_read_on inputs first now s (Ok feed) is begun fresh up = cc
none_read_on inputs first now s (Err e) is begun fresh up = let (bytes, g) = up inputs first [] [] [] begun fresh in (bytes, Open, read_early inputs first now [] bytes g, g.asked, refl)

as_feed : (inputs : List InputSpec) (first now : SeenSource) (s : FeedState) (feed : Feed) (items : List ItemOf) (taken : List ℕ) → s.reader.ended ≡ true → HasRead inputs first now s items taken →
    AreFresh inputs s items → feed ≡ record { items = s.fresh; stop = s.fault } → GivesFeed inputs first now (Ok feed)
as_feed inputs first now s feed items taken ended (inl open_yet) fresh is = let no_more : false ≡ true = sym open_yet.open_yet ∙ ended in cc
as_feed inputs first now s feed items taken ended (inr (stop, halt, stopped)) fresh is =
    let P : Feed → Type 0 = λ f. IsFeedOf inputs taken stop items halt f in
    let f : List (List ℤ) → Feed = λ u. record { items = u; stop = s.fault } in
    (taken, stop, stopped.read, stopped.asked, (items, halt, subst P (sym (is ∙ ap f fresh)) stopped.feed))

-- all was read and kept
pub all_read : (inputs : List InputSpec) (first now : SeenSource) (s t : FeedState) (feed : Feed) → HasRead inputs first first s [] [] → AreFresh inputs s [] → ReadsMore first now s t →
    t.reader.ended ≡ true → feed ≡ record { items = t.fresh; stop = t.fault } → GivesFeed inputs first now (Ok feed)
all_read inputs first now s t feed begun fresh reads ended is =
    let (more, bytes, read, kept, asks) = reads inputs first [] [] [] begun fresh in
    as_feed inputs first now t feed more bytes ended read kept is

-- there is a list for each stream
pub as_many : (inputs : List InputSpec) (first now : SeenSource) (s t : FeedState) (feed : Feed) → HasRead inputs first first s [] [] → AreFresh inputs s [] → ReadsMore first now s t →
    feed ≡ record { items = t.fresh; stop = t.fault } → length feed.items ≡ length inputs
as_many inputs first now s t feed begun fresh reads is =
    let (more, bytes, read, kept, asks) = reads inputs first [] [] [] begun fresh in
    ap (λ f. length f.items) is ∙ ap length kept ∙ length-map-range_with_len (λ k. values_of k more) 0 (length inputs)
