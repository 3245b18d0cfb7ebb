-- The feed of an input that a source holds which never fails.
use Rattle.std.proofs.Common.{ℕ, ◌≡◌, ◌⊎◌, true, List, [], ◌∷◌, ◌++◌, Option, Some, None, Ok, refl, ap, sym, ◌∙◌, subst, inl, inr, arith}
use Rattle.std.specs.Prelude.{ℤ, IsTrue}
use Rattle.std.proofs.lemmas.List.{append-nil}
use Rattle.std.proofs.lemmas.Option.{same_Some}
use Rattle.lucy_text.proofs.OutsideLaws.{followed, AtEnd}
use Rattle.lucy_text.specs.Outside.{SeenSource}
use Rattle.lucy_lines.specs.Cuts.{ItemOf, Stop as Halt, At, Before, Cut, whole_input}
use Rattle.lucy_lines.specs.CutLaws.{CutInPieces}
use Rattle.lucy_lines.specs.Fronts.{most_bytes}
use Rattle.lucy_lines.specs.declared.input.InputSpec.{InputSpec}
use Rattle.lucy_lines.specs.declared.reader.TextFault.{TextFault}
use Rattle.lucy_lines.specs.declared.reader.TextFault.TheVariants.{BadLine, UnknownStream, BadValue, ReadFault, TooLong}
use Rattle.lucy_lines.specs.declared.feeds.Feed.{Feed}
use Rattle.lucy_text.specs.Sources.{ReadStop, Ended, Failed, Open, Drained, StoppedAt, Read}
use Rattle.lucy_lines.specs.Feeding.{is_closed, StopsFor, IsFeedOf, IsFeed}
use Rattle.lucy_run.specs.Feeds.{Feeds}

-- a feed of all of this input
abbrev IsWholeFeed : List InputSpec → (input : List ℕ) → Feed → Type 0
IsWholeFeed inputs input feed = (stop : ReadStop) × IsTrue (is_closed stop) × IsFeed inputs input stop (Ok feed)

module _ (law : CutInPieces) (inputs : List InputSpec) (input rest taken : List ℕ) (before after : SeenSource) (held : before.left ≡ Some input) (left : after.left ≡ Some rest)
    (steady : before.faults ≡ 0) (still : after.faults ≡ 0) where
  all_taken : before.left ≡ followed taken after.left → taken ++ rest ≡ input
  all_taken took = same_Some (taken ++ rest) input (sym (ap (followed taken) left) ∙ sym took ∙ held)

  at_end : before.left ≡ followed taken after.left → AtEnd after.left → taken ≡ input
  at_end took end =
      let none : rest ≡ [] = subst AtEnd left end in
      sym (append-nil taken) ∙ ap (λ u. taken ++ u) (sym none) ∙ all_taken took

  moved : (stop other : ReadStop) (items : List ItemOf) (halt : Halt) (feed : Feed) → stop ≡ other → taken ≡ input → IsFeedOf inputs taken stop items halt feed → IsFeedOf inputs input other items halt feed
  moved stop other items halt feed e same is =
      let P : ReadStop → Type 0 = λ s. IsFeedOf inputs input s items halt feed in
      let Q : List ℕ → Type 0 = λ t. IsFeedOf inputs t stop items halt feed in
      subst P e (subst Q same is)

  -- reading was given up behind a refused line, which is refused in the whole input too
  open_fed : (fault : TextFault) (items : List ItemOf) (halt : Halt) (feed : Feed) → taken ++ rest ≡ input → StopsFor (Some fault) Drained → feed.stop ≡ Some fault →
      IsFeedOf inputs taken Open items halt feed → IsFeedOf inputs input Drained items halt feed
  open_fed fault items (Before h) feed all stops e is = (let no : None ≡ Some fault = sym is.fault ∙ e in cc)
  open_fed fault items (At f) feed all stops e is =
      let P : List ℕ → Type 0 = λ t. Cut inputs true (whole_input t) items (At f) in
      let Q : Option TextFault → Type 0 = λ o. StopsFor o Drained in record {
        cut = subst P all ((law inputs true (whole_input taken) rest items).0 f is.cut);
        lists = is.lists;
        fault = is.fault;
        stopped = subst Q (sym e) stops;
      }

  refused : (fault : TextFault) (stop : ReadStop) (items : List ItemOf) (halt : Halt) (feed : Feed) → Read most_bytes before after taken stop → StopsFor (Some fault) Drained → feed.stop ≡ Some fault →
      IsFeedOf inputs taken stop items halt feed → (stop ≡ Drained) ⊎ (stop ≡ Open) → IsWholeFeed inputs input feed
  refused fault stop items halt feed read stops e is (inl drained) =
      let P : ReadStop → Type 0 = λ s. StoppedAt most_bytes before after taken s in
      let so : StoppedAt most_bytes before after taken Drained = subst P drained read.stopped in
      (Drained, refl, (items, halt, moved stop Drained items halt feed drained (at_end read.took so.1.0) is))
  refused fault stop items halt feed read stops e is (inr given_up) =
      let P : ReadStop → Type 0 = λ s. IsFeedOf inputs taken s items halt feed in
      (Drained, refl, (items, halt, open_fed fault items halt feed (all_taken read.took) stops e (subst P given_up is)))

  stopped_for : (feed : Feed) (fault : Option TextFault) (stop : ReadStop) → feed.stop ≡ fault → StopsFor feed.stop stop → StopsFor fault stop
  stopped_for feed fault stop e h = (let P : Option TextFault → Type 0 = λ o. StopsFor o stop in subst P e h)

  whole_for : (fault : Option TextFault) (stop : ReadStop) (items : List ItemOf) (halt : Halt) (feed : Feed) → feed.stop ≡ fault → Read most_bytes before after taken stop →
      IsFeedOf inputs taken stop items halt feed → IsWholeFeed inputs input feed
  whole_for None stop items halt feed e read is =
      let ended : stop ≡ Ended = stopped_for feed None stop e is.stopped in
      let P : ReadStop → Type 0 = λ s. StoppedAt most_bytes before after taken s in
      let so : StoppedAt most_bytes before after taken Ended = subst P ended read.stopped in
      (Ended, refl, (items, halt, moved stop Ended items halt feed ended (at_end read.took so.1.0) is))
  whole_for (Some ReadFault) stop items halt feed e read is =
      let failed : stop ≡ Failed = stopped_for feed (Some ReadFault) stop e is.stopped in
      let P : ReadStop → Type 0 = λ s. StoppedAt most_bytes before after taken s in
      let so : StoppedAt most_bytes before after taken Failed = subst P failed read.stopped in
      let rose = so.1 in
      absurd (omega (arith, rose, steady, still))
  whole_for (Some (BadLine n)) stop items halt feed e read is = refused (BadLine n) stop items halt feed read (inl refl) e is (stopped_for feed (Some (BadLine n)) stop e is.stopped)
  whole_for (Some (UnknownStream n)) stop items halt feed e read is = refused (UnknownStream n) stop items halt feed read (inl refl) e is (stopped_for feed (Some (UnknownStream n)) stop e is.stopped)
  whole_for (Some (BadValue n)) stop items halt feed e read is = refused (BadValue n) stop items halt feed read (inl refl) e is (stopped_for feed (Some (BadValue n)) stop e is.stopped)
  whole_for (Some TooLong) stop items halt feed e read is = refused TooLong stop items halt feed read (inl refl) e is (stopped_for feed (Some TooLong) stop e is.stopped)

  whole : (stop : ReadStop) (items : List ItemOf) (halt : Halt) (feed : Feed) → Read most_bytes before after taken stop → IsFeedOf inputs taken stop items halt feed → IsWholeFeed inputs input feed
  whole stop items halt feed read is = whole_for feed.stop stop items halt feed refl read is

-- what main is fed of the generated input, by a source that held it and never failed
pub whole_feeds : CutInPieces → (inputs : List InputSpec) (input rest taken : List ℕ) (stop : ReadStop) (before after : SeenSource) (lists : List (List ℤ)) (fault : Option TextFault) → (inputs ≡ [] → ⊥) →
    before.left ≡ Some input → after.left ≡ Some rest → before.faults ≡ 0 → after.faults ≡ 0 → Read most_bytes before after taken stop → Feeds inputs taken stop lists fault →
    (other : ReadStop) × IsTrue (is_closed other) × Feeds inputs input other lists fault
whole_feeds law [] input rest taken stop before after lists fault some held left steady still read feeds = absurd (some refl)
whole_feeds law (i ∷ inputs) input rest taken stop before after lists fault some held left steady still read (items, halt, is) =
    let (other, all, (found, at, fed)) = whole law (i ∷ inputs) input rest taken before after held left steady still stop items halt (record { items = lists; stop = fault }) read is in
    (other, all, (found, at, fed))
