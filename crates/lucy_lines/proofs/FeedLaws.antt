-- What items that were taken one by one make of the bytes taken.
use Rattle.std.proofs.Common.{◌≡◌, ℕ, ◌+◌, ◌<◌, ◌≤◌, Bool, true, false, List, [], ◌∷◌, ◌++◌, length, Option, Some, None, Result, Ok, Err, refl, ap, sym, ◌∙◌, subst, inl, inr, arith, append_assoc, append-nil, length-append}
use Rattle.std.specs.Prelude.{ℤ, ◌⊎◌, IsTrue, take, slice_set, slice_index_or}
use Rattle.std.specs.Int.{w64}
use Rattle.std.proofs.lemmas.Bool.{cases_Bool}
use mir.Val.{SFits as FitsSigned}
use Rattle.lucy_text.specs.Outside.{SeenSource, HasEnded, Rose, NoneFollows}
use Rattle.lucy_text.proofs.OutsideLaws.{followed_more, followed-nil, still_none}
use Rattle.lucy_lines.specs.declared.input.InputSpec.{InputSpec}
use Rattle.lucy_lines.specs.declared.reader.Line as line_type
use Rattle.lucy_lines.specs.declared.reader.Line.TheVariants.{Item, End}
use Rattle.lucy_lines.specs.declared.reader.TextFault.{TextFault}
use Rattle.lucy_lines.specs.declared.reader.TextFault.TheVariants.{BadLine, UnknownStream, BadValue, ReadFault, TooLong}
use Rattle.lucy_lines.specs.Fronts.{most_bytes}
use Rattle.lucy_lines.specs.Cuts.{Held, bytes_taken, ItemOf, with_more, Stop as Halt, At, Before, Cut, whole_input}
use Rattle.lucy_lines.specs.Nexts.{Answer, Gives, Refuses, Wants, Next, blank, item, refused, long, too_long, wants, first, turn}
use Rattle.lucy_lines.specs.Reading.{ReaderState, new_reader, Took, Asked, Blames, KeepsGoing, OfItem, IsLast, most_taken, most_read}
use Rattle.lucy_lines.proofs.Answered.{refused_line, undecided, cut_of}
use Rattle.lucy_lines.proofs.CutLaws.{turns_cut}
use Rattle.lucy_lines.proofs.Exists.{some_cut}
use Rattle.lucy_lines.proofs.ReaderLaws.{kind_fits}
use Rattle.lucy_text.specs.Sources.{ReadStop, Ended, Failed, Open, Drained}
use Rattle.lucy_lines.specs.Feeding.{StopsFor, IsAskedWhile}
use Rattle.lucy_lines.specs.Going.{ExtendsCut, Behind, CanGoOn, CanCount}
use Rattle.lucy_lines.specs.Resuming.{AreCounts, AsksWhile, BeginCut, IsGivenUp, IsOpen, IsStopped}
use Rattle.lucy_lines.proofs.ListLaws.{counts_more, no_counts}

-- one item on
lead_on : (inputs : List InputSpec) (items : List ItemOf) (taken bytes : List ℕ) (held next : Held) (was now : Bool) (i : ItemOf) → ExtendsCut inputs items taken held was →
    (was ≡ true → (bytes ≡ []) × (now ≡ true)) → Next inputs now (with_more held bytes) (Gives i next) → ExtendsCut inputs (items ++ i ∷ []) (taken ++ bytes) next now
lead_on inputs items taken bytes held next was now i leads quiet n shut late others halt after c =
    let P : List ℕ → Type 0 = λ u. Cut inputs shut (with_more held (u ++ late)) (i ∷ others) halt in
    let one : Cut inputs shut (with_more held (bytes ++ late)) (i ∷ others) halt = subst P (append-nil bytes) (turns_cut shut late others halt (turn n quiet first) after c) in
    let both : Cut inputs shut (whole_input (taken ++ (bytes ++ late))) (items ++ i ∷ others) halt = leads shut (bytes ++ late) (i ∷ others) halt (λ e. joined (quiet e) after) one in
    let Q : List ℕ → Type 0 = λ u. Cut inputs shut (whole_input u) (items ++ i ∷ others) halt in
    let R : List ItemOf → Type 0 = λ u. Cut inputs shut (whole_input ((taken ++ bytes) ++ late)) u halt in
    subst R (sym (append_assoc items (i ∷ []) others)) (subst Q (sym (append_assoc taken bytes late)) both)
  where
    joined : (bytes ≡ []) × (now ≡ true) → (now ≡ true → (late ≡ []) × (shut ≡ true)) → (bytes ++ late ≡ []) × (shut ≡ true)
    joined (b, t) f = let (l, s) = f t in (ap (λ u. u ++ late) b ∙ l, s)

-- what a call of the reader tells
pub record Called (old new : ReaderState) (before after : SeenSource) (result : Result line_type.Line TextFault) (bytes : List ℕ) : Type 0 where
  pub took : Took old new before after result bytes
  pub inputs : new.inputs ≡ old.inputs
  pub within : bytes_taken new.held ≤ most_taken result
  pub unread : old.closed ≡ true → after ≡ before
  pub at_end : old.closed ≡ false → new.closed ≡ true → HasEnded after
  pub goes_on : new.closed ≡ false → KeepsGoing before.since_stop after.since_stop result
  pub none_follows : NoneFollows before.since_stop after.since_stop
  pub cause : Blames before.faults after.faults result

pub called : {S : Type 0} (seen : S → SeenSource) (old new : ReaderState) (before after : S) (result : Result line_type.Line TextFault) (bytes : List ℕ) →
    Took old new (seen before) (seen after) result bytes → new.inputs ≡ old.inputs → bytes_taken new.held ≤ most_taken result → (IsTrue old.closed → after ≡ before) →
    (old.closed ≡ false → new.closed ≡ true → HasEnded (seen after)) → (new.closed ≡ false → KeepsGoing (seen before).since_stop (seen after).since_stop result) →
    NoneFollows (seen before).since_stop (seen after).since_stop → Blames (seen before).faults (seen after).faults result → Called old new (seen before) (seen after) result bytes
called seen old new before after result bytes t i w u e g n c = record {
  took = t;
  inputs = i;
  within = w;
  unread = λ shut. ap seen (u shut);
  at_end = e;
  goes_on = g;
  none_follows = n;
  cause = c;
}

-- the same of equal answers
pub called_as : (old new : ReaderState) (before after : SeenSource) (result answer : Result line_type.Line TextFault) (bytes : List ℕ) → result ≡ answer → Called old new before after result bytes → Called old new before after answer bytes
called_as old new before after result answer bytes e c = let P : Result line_type.Line TextFault → Type 0 = λ r. Called old new before after r bytes in subst P e c

-- what is told of an item's stream
pub of_item : (Holds : ℕ → Type 0) (result : Result line_type.Line TextFault) (stream : ℕ) (value : ℤ) → result ≡ Ok (Item stream value) → OfItem Holds result → Holds stream
of_item Holds result stream value e h = let P : Result line_type.Line TextFault → Type 0 = λ r. OfItem Holds r in subst P e h

-- what has been read begins what the bytes taken have
begins_cut : (inputs : List InputSpec) (reader : ReaderState) (before after : SeenSource) (items : List ItemOf) (taken : List ℕ) → CanGoOn inputs reader before after items taken →
    BeginCut inputs reader.closed taken items
begins_cut inputs reader before after items taken g =
    let rest = some_cut inputs reader.closed (with_more reader.held []) in
    let P : List ℕ → Type 0 = λ u. Cut inputs reader.closed (whole_input u) (items ++ rest.0) rest.1 in
    (rest.0, rest.1, subst P (append-nil taken) (g.leads reader.closed [] rest.0 rest.1 (λ e. (refl, e)) rest.2))

-- reading may be given up behind what has been read
up_to_here : (inputs : List InputSpec) (reader : ReaderState) (before after : SeenSource) (items : List ItemOf) (taken : List ℕ) → CanGoOn inputs reader before after items taken →
    IsGivenUp inputs before after items taken
up_to_here inputs reader before after items taken g =
    let begin = begins_cut inputs reader before after items taken g in
    let few : length taken ≤ most_bytes + 1 = omega (arith, g.behind.counted, g.within) in
    elim (cases_Bool reader.closed) [
      | inl shut ↦ record {
        stop = Drained;
        early = inl refl;
        read = record { took = g.behind.took; stopped = (few, g.behind.met_end shut, g.calm); none_follows = g.behind.none_follows };
        asked = g.behind.asked;
        begin = subst (λ b. BeginCut inputs b taken items) shut begin;
      }
      | inr open_yet ↦ record {
        stop = Open;
        early = inr refl;
        read = record { took = g.behind.took; stopped = (few, g.calm); none_follows = g.behind.none_follows };
        asked = g.behind.asked;
        begin = subst (λ b. BeginCut inputs b taken items) open_yet begin;
      }
    ]

-- reading goes on
open_now : (inputs : List InputSpec) (reader : ReaderState) (before after : SeenSource) (counts : List ℕ) (items : List ItemOf) (taken : List ℕ) → reader.ended ≡ false → AreCounts inputs counts items →
    CanGoOn inputs reader before after items taken → IsOpen inputs before after reader counts items taken
open_now inputs reader before after counts items taken open_yet counted g =
    record { open_yet = open_yet; counted = counted; given_up = up_to_here inputs reader before after items taken g; goes_on = g }

none_taken : (inputs : List InputSpec) (source : SeenSource) → CanGoOn inputs (new_reader inputs) source source [] []
none_taken inputs source = record {
  behind = record { took = sym (followed-nil source.left); counted = refl; met_end = λ e. cc; none_follows = still_none source.since_stop; asked = inl refl };
  kept = refl;
  leads = λ shut late others halt after c. c;
  within = omega arith;
  calm = refl;
  going = λ e none. none;
}

-- nothing was read yet
pub nothing_yet : (inputs : List InputSpec) (reader : ReaderState) (source : SeenSource) (counts : List ℕ) → reader ≡ new_reader inputs → length counts ≡ length inputs → ((i : ℕ) → slice_index_or counts i 0 ≡ 0) →
    IsOpen inputs source source reader counts [] []
nothing_yet inputs reader source counts new many none =
    let P : ReaderState → Type 0 = λ r. CanGoOn inputs r source source [] [] in
    open_now inputs reader source source counts [] [] (ap (λ r. r.ended) new) (no_counts inputs counts many none) (subst P (sym new) (none_taken inputs source))

-- bytes were asked for in this call
asked_now : (inputs : List InputSpec) (items : List ItemOf) (taken bytes : List ℕ) (held : Held) (closed : Bool) → ExtendsCut inputs items taken held closed → closed ≡ false →
    (early late : List ℕ) (h : Held) → bytes ≡ early ++ late → length late ≤ most_read → Next inputs false (with_more held early) (Wants h) →
    IsAskedWhile (λ xs. xs ≡ items) inputs (taken ++ bytes)
asked_now inputs items taken bytes held closed leads open_yet early late h e few n =
    let cut = leads false early [] (Before h) (λ t. let no_more : true ≡ false = sym t ∙ open_yet in cc) (cut_of (undecided n)) in
    inr (taken ++ early, late, items ++ [], h, ap (λ u. taken ++ u) e ∙ sym (append_assoc taken early late), few, cut, append-nil items)

-- bytes were asked for in this call, if at all, behind these items
asks_so : (inputs : List InputSpec) (old new : ReaderState) (before after : SeenSource) (result : Result line_type.Line TextFault) (items : List ItemOf) (taken bytes : List ℕ) → old.inputs ≡ inputs →
    ExtendsCut inputs items taken old.held old.closed → Took old new before after result bytes → (bytes ≡ []) ⊎ Asked old bytes → (old.closed ≡ true) ⊎ (old.closed ≡ false) →
    AsksWhile (λ xs. xs ≡ items) inputs taken bytes
asks_so inputs old new before after result items taken bytes same leads t (inl none) closed = inl none
asks_so inputs old new before after result items taken bytes same leads t (inr now) (inl shut) = let q = t.quiet shut in inl q.0
asks_so inputs old new before after result items taken bytes same leads t (inr (early, late, h, e, few, n)) (inr open_yet) =
    let P : List InputSpec → Type 0 = λ u. Next u false (with_more old.held early) (Wants h) in
    inr (asked_now inputs items taken bytes old.held old.closed leads open_yet early late h e few (subst P same n))

-- what was wanting was wanting of more
pub asked_as : (inputs : List InputSpec) (taken : List ℕ) (P Q : List ItemOf → Type 0) → ((xs : List ItemOf) → P xs → Q xs) → IsAskedWhile P inputs taken → IsAskedWhile Q inputs taken
asked_as inputs taken P Q more (inl none) = inl none
asked_as inputs taken P Q more (inr (early, late, items, held, e, few, cut, wanting)) = inr (early, late, items, held, e, few, cut, more items wanting)

pub asks_as : (inputs : List InputSpec) (taken bytes : List ℕ) (P Q : List ItemOf → Type 0) → ((xs : List ItemOf) → P xs → Q xs) → AsksWhile P inputs taken bytes → AsksWhile Q inputs taken bytes
asks_as inputs taken bytes P Q more (inl none) = inl none
asks_as inputs taken bytes P Q more (inr asked) = inr (asked_as inputs (taken ++ bytes) P Q more asked)

-- where it was asked before, it was asked behind more
pub asked_still : (inputs : List InputSpec) (taken bytes : List ℕ) (P : List ItemOf → Type 0) → IsAskedWhile P inputs taken → AsksWhile P inputs taken bytes → IsAskedWhile P inputs (taken ++ bytes)
asked_still inputs taken bytes P asked (inl none) =
    let Q : List ℕ → Type 0 = λ u. IsAskedWhile P inputs u in
    let R : List ℕ → Type 0 = λ u. IsAskedWhile P inputs (taken ++ u) in
    subst R (sym none) (subst Q (sym (append-nil taken)) asked)
asked_still inputs taken bytes P asked (inr now) = now

-- what holds of the bytes taken behind a call, whatever it answered
behind_call : (inputs : List InputSpec) (old new : ReaderState) (before between after : SeenSource) (result : Result line_type.Line TextFault) (items : List ItemOf) (taken bytes : List ℕ) →
    CanGoOn inputs old before between items taken → Called old new between after result bytes → Behind inputs new before after (taken ++ bytes)
behind_call inputs old new before between after result items taken bytes s c = record {
  took = followed_more before.left between.left after.left taken bytes s.behind.took c.took.bytes;
  counted = let a = s.behind.counted in let b = c.took.counted in let l = length-append taken bytes in omega arith;
  met_end = λ e. elim (cases_Bool old.closed) [
    | inl shut ↦ subst HasEnded (sym (c.unread shut)) (s.behind.met_end shut)
    | inr open_yet ↦ c.at_end open_yet e
  ];
  none_follows = elim (cases_Bool old.closed) [
    | inl shut ↦ let P : SeenSource → Type 0 = λ u. NoneFollows before.since_stop u.since_stop in subst P (sym (c.unread shut)) s.behind.none_follows
    | inr open_yet ↦ λ none. c.none_follows (s.going open_yet none)
  ];
  asked = asked_still inputs taken bytes _ s.behind.asked
      (asks_as inputs taken bytes (λ xs. xs ≡ items) (λ xs. Unit {0}) (λ xs same. tt) (asks_so inputs old new between after result items taken bytes s.kept s.leads c.took c.took.needed (cases_Bool old.closed)));
}

-- a call asks behind the items that were read before it
pub asks_behind : (inputs : List InputSpec) (old new : ReaderState) (counts : List ℕ) (before between after : SeenSource) (result : Result line_type.Line TextFault) (items : List ItemOf) (taken bytes : List ℕ) →
    IsOpen inputs before between old counts items taken → Called old new between after result bytes → AsksWhile (λ xs. xs ≡ items) inputs taken bytes
asks_behind inputs old new counts before between after result items taken bytes o c =
    asks_so inputs old new between after result items taken bytes o.goes_on.kept o.goes_on.leads c.took c.took.needed (cases_Bool old.closed)

-- what a call that gave an item goes on from
item_more : (inputs : List InputSpec) (old new : ReaderState) (before between after : SeenSource) (items : List ItemOf) (taken bytes : List ℕ) (stream : ℕ) (value : ℤ) →
    CanGoOn inputs old before between items taken → Called old new between after (Ok (Item stream value)) bytes →
    CanGoOn inputs new before after (items ++ record { stream = stream; value = value } ∷ []) (taken ++ bytes)
item_more inputs old new before between after items taken bytes stream value s c =
    let i : ItemOf = record { stream = stream; value = value } in
    let P : List InputSpec → Type 0 = λ u. Next u new.closed (with_more old.held bytes) (Gives i new.held) in
    record {
      behind = behind_call inputs old new before between after (Ok (Item stream value)) items taken bytes s c;
      kept = c.inputs ∙ s.kept;
      leads = lead_on inputs items taken bytes old.held new.held old.closed new.closed i s.leads c.took.quiet (subst P s.kept c.took.answer);
      within = c.within;
      calm = c.cause ∙ s.calm;
      going = λ e none. c.goes_on e (s.going (still_open old.closed new.closed bytes (cases_Bool old.closed) c.took.quiet e) none);
    }
  where
    still_open : (was closed : Bool) (bytes : List ℕ) → (was ≡ true) ⊎ (was ≡ false) → (was ≡ true → (bytes ≡ []) × (closed ≡ true)) → closed ≡ false → was ≡ false
    still_open was closed bytes (inl shut) quiet e = let q = quiet shut in let no_more : true ≡ false = sym q.1 ∙ e in cc
    still_open was closed bytes (inr open_yet) quiet e = open_yet

-- an item more
pub item_read : (inputs : List InputSpec) (old new : ReaderState) (counts now : List ℕ) (before between after : SeenSource) (items : List ItemOf) (taken bytes : List ℕ) (stream : ℕ) (value : ℤ) →
    IsOpen inputs before between old counts items taken → Called old new between after (Ok (Item stream value)) bytes → stream < length old.inputs → new.ended ≡ false →
    now ≡ slice_set counts stream (slice_index_or counts stream 0 + 1) →
    IsOpen inputs before after new now (items ++ record { stream = stream; value = value } ∷ []) (taken ++ bytes)
item_read inputs old new counts now before between after items taken bytes stream value s c known open_yet pushed =
    let i : ItemOf = record { stream = stream; value = value } in
    let Q : List InputSpec → Type 0 = λ u. stream < length u in
    open_now inputs new before after now (items ++ i ∷ []) (taken ++ bytes) open_yet
    (counts_more inputs counts now items i (subst Q s.goes_on.kept known) s.counted pushed)
    (item_more inputs old new before between after items taken bytes stream value s.goes_on c)

-- how the reading of an input stops behind these items
abbrev pub Stops : List InputSpec → (before after : SeenSource) → ReaderState → (counts : List ℕ) → Option TextFault → List ItemOf → (taken : List ℕ) → Type 0
Stops inputs before after reader counts fault items taken =
    (bytes : List ℕ) × (stop : ReadStop) × (halt : Halt) × IsStopped inputs before after reader counts fault items (taken ++ bytes) stop halt
    × AsksWhile (λ xs. xs ≡ items) inputs taken bytes

-- the input was read to its end
pub ended : (inputs : List InputSpec) (old new : ReaderState) (counts : List ℕ) (fault : Option TextFault) (before between after : SeenSource) (items : List ItemOf) (taken bytes : List ℕ) →
    IsOpen inputs before between old counts items taken → Called old new between after (Ok End) bytes → new.ended ≡ true → fault ≡ None → Stops inputs before after new counts fault items taken
ended inputs old new counts fault before between after items taken bytes o c shut none =
    let s = o.goes_on in
    let b = behind_call inputs old new before between after (Ok End) items taken bytes s c in
    let count = b.counted in
    let room = c.within in
    let met = b.met_end c.took.answer.0 in
    let P : List InputSpec → Type 0 = λ u. Next u true (with_more old.held bytes) (Wants new.held) in
    let Q : Bool → Type 0 = λ u. Next old.inputs u (with_more old.held bytes) (Wants new.held) in
    let R : List ItemOf → Type 0 = λ u. Cut inputs true (whole_input (taken ++ bytes)) u (Before new.held) in
    let T : Option TextFault → Type 0 = λ u. StopsFor u Ended in
    let cut = s.leads true bytes [] (Before new.held) (λ e. let q = c.took.quiet e in (q.0, refl)) (cut_of (undecided (subst P s.kept (subst Q c.took.answer.0 c.took.answer.1)))) in (
      bytes,
      Ended,
      Before new.held,
      record {
        ended = shut;
        kept = c.inputs ∙ s.kept;
        counted = o.counted;
        read = record { took = b.took; stopped = (omega arith, met, c.cause ∙ s.calm); none_follows = b.none_follows };
        asked = b.asked;
        feed = record { cut = subst R (append-nil items) cut; lists = refl; fault = none; stopped = subst T (sym none) refl };
      },
      asks_behind inputs old new counts before between after (Ok End) items taken bytes o c,
    )

-- a read failed
failed : (inputs : List InputSpec) (old new : ReaderState) (counts : List ℕ) (before between after : SeenSource) (items : List ItemOf) (taken bytes : List ℕ) →
    IsOpen inputs before between old counts items taken → Called old new between after (Err ReadFault) bytes → new.ended ≡ true → Stops inputs before after new counts (Some ReadFault) items taken
failed inputs old new counts before between after items taken bytes o c shut =
    let s = o.goes_on in
    let b = behind_call inputs old new before between after (Err ReadFault) items taken bytes s c in
    let count = b.counted in
    let room = c.within in
    let P : List InputSpec → Type 0 = λ u. Next u false (with_more old.held bytes) (Wants new.held) in
    let Q : Bool → Type 0 = λ u. Next old.inputs u (with_more old.held bytes) (Wants new.held) in
    let R : ℕ → Type 0 = λ u. Rose u after.faults in
    let T : List ItemOf → Type 0 = λ u. Cut inputs false (whole_input (taken ++ bytes)) u (Before new.held) in
    let cut = s.leads false bytes [] (Before new.held) (λ e. let q = c.took.quiet e in let no_more : true ≡ false = sym q.1 ∙ c.took.answer.0 in cc)
    (cut_of (undecided (subst P s.kept (subst Q c.took.answer.0 c.took.answer.1)))) in (
      bytes,
      Failed,
      Before new.held,
      record {
        ended = shut;
        kept = c.inputs ∙ s.kept;
        counted = o.counted;
        read = record { took = b.took; stopped = (omega arith, subst R s.calm c.cause); none_follows = b.none_follows };
        asked = b.asked;
        feed = record { cut = subst T (append-nil items) cut; lists = refl; fault = refl; stopped = refl };
      },
      asks_behind inputs old new counts before between after (Err ReadFault) items taken bytes o c,
    )

-- a line was refused
line_refused : (inputs : List InputSpec) (old new : ReaderState) (counts : List ℕ) (before between after : SeenSource) (items : List ItemOf) (taken bytes : List ℕ) (f : TextFault) →
    IsOpen inputs before between old counts items taken → Called old new between after (Err f) bytes → new.ended ≡ true → Next old.inputs new.closed (with_more old.held bytes) (Refuses f) →
    most_taken (Err f) ≡ most_bytes + 1 → after.faults ≡ between.faults → ((stop : ReadStop) → (stop ≡ Drained) ⊎ (stop ≡ Open) → StopsFor (Some f) stop) →
    (new.closed ≡ true) ⊎ (new.closed ≡ false) → Stops inputs before after new counts (Some f) items taken
line_refused inputs old new counts before between after items taken bytes f o c ended_now n most calm stops (inl shut) =
    let s = o.goes_on in
    let b = behind_call inputs old new before between after (Err f) items taken bytes s c in
    let count = b.counted in
    let room = c.within in
    let met = b.met_end shut in
    let P : List InputSpec → Type 0 = λ u. Next u true (with_more old.held bytes) (Refuses f) in
    let Q : Bool → Type 0 = λ u. Next old.inputs u (with_more old.held bytes) (Refuses f) in
    let T : List ItemOf → Type 0 = λ u. Cut inputs true (whole_input (taken ++ bytes)) u (At f) in
    let cut = s.leads true bytes [] (At f) (λ e. let q = c.took.quiet e in (q.0, refl)) (cut_of (refused_line (subst P s.kept (subst Q shut n)))) in (
      bytes,
      Drained,
      At f,
      record {
        ended = ended_now;
        kept = c.inputs ∙ s.kept;
        counted = o.counted;
        read = record { took = b.took; stopped = (omega arith, met, calm ∙ s.calm); none_follows = b.none_follows };
        asked = b.asked;
        feed = record { cut = subst T (append-nil items) cut; lists = refl; fault = refl; stopped = stops Drained (inl refl) };
      },
      asks_behind inputs old new counts before between after (Err f) items taken bytes o c,
    )
line_refused inputs old new counts before between after items taken bytes f o c ended_now n most calm stops (inr open_yet) =
    let s = o.goes_on in
    let b = behind_call inputs old new before between after (Err f) items taken bytes s c in
    let count = b.counted in
    let room = c.within in
    let P : List InputSpec → Type 0 = λ u. Next u false (with_more old.held bytes) (Refuses f) in
    let Q : Bool → Type 0 = λ u. Next old.inputs u (with_more old.held bytes) (Refuses f) in
    let T : List ItemOf → Type 0 = λ u. Cut inputs false (whole_input (taken ++ bytes)) u (At f) in
    let cut = s.leads false bytes [] (At f) (λ e. let q = c.took.quiet e in let no_more : true ≡ false = sym q.1 ∙ open_yet in cc)
    (cut_of (refused_line (subst P s.kept (subst Q open_yet n)))) in (
      bytes,
      Open,
      At f,
      record {
        ended = ended_now;
        kept = c.inputs ∙ s.kept;
        counted = o.counted;
        read = record { took = b.took; stopped = (omega arith, calm ∙ s.calm); none_follows = b.none_follows };
        asked = b.asked;
        feed = record { cut = subst T (append-nil items) cut; lists = refl; fault = refl; stopped = stops Open (inr refl) };
      },
      asks_behind inputs old new counts before between after (Err f) items taken bytes o c,
    )

stopped_at : (inputs : List InputSpec) (old new : ReaderState) (counts : List ℕ) (before between after : SeenSource) (items : List ItemOf) (taken bytes : List ℕ) (f : TextFault) →
    IsOpen inputs before between old counts items taken → Called old new between after (Err f) bytes → new.ended ≡ true → Stops inputs before after new counts (Some f) items taken
stopped_at inputs old new counts before between after items taken bytes ReadFault s c e = failed inputs old new counts before between after items taken bytes s c e
stopped_at inputs old new counts before between after items taken bytes (BadLine k) s c e = line_refused inputs old new counts before between after items taken bytes (BadLine k) s c e c.took.answer refl c.cause (λ stop e. e) (cases_Bool new.closed)
stopped_at inputs old new counts before between after items taken bytes (UnknownStream k) s c e = line_refused inputs old new counts before between after items taken bytes (UnknownStream k) s c e c.took.answer refl c.cause (λ stop e. e) (cases_Bool new.closed)
stopped_at inputs old new counts before between after items taken bytes (BadValue k) s c e = line_refused inputs old new counts before between after items taken bytes (BadValue k) s c e c.took.answer refl c.cause (λ stop e. e) (cases_Bool new.closed)
stopped_at inputs old new counts before between after items taken bytes TooLong s c e = line_refused inputs old new counts before between after items taken bytes TooLong s c e c.took.answer refl c.cause (λ stop e. e) (cases_Bool new.closed)

-- the items stop before the end
pub stopped : (inputs : List InputSpec) (old new : ReaderState) (counts : List ℕ) (fault : Option TextFault) (before between after : SeenSource) (items : List ItemOf) (taken bytes : List ℕ) (f : TextFault) →
    IsOpen inputs before between old counts items taken → Called old new between after (Err f) bytes → new.ended ≡ true → fault ≡ Some f → Stops inputs before after new counts fault items taken
stopped inputs old new counts fault before between after items taken bytes f s c e is =
    let P : Option TextFault → Type 0 = λ u. Stops inputs before after new counts u items taken in
    subst P (sym is) (stopped_at inputs old new counts before between after items taken bytes f s c e)

-- a reader that gave an item has not ended
pub not_ended : (ended : Bool) (result : Result line_type.Line TextFault) (stream : ℕ) (value : ℤ) → result ≡ Ok (Item stream value) → (IsTrue ended → IsLast result) → ended ≡ false
not_ended true result stream value is last = let P : Result line_type.Line TextFault → Type 0 = λ r. IsLast r in absurd (subst P is (last refl))
not_ended false result stream value is last = refl

-- one that answered without an item has
pub has_ended : (ended : Bool) (result answer : Result line_type.Line TextFault) → result ≡ answer → IsLast answer → (IsLast result → IsTrue ended) → ended ≡ true
has_ended ended result answer is last ends = let P : Result line_type.Line TextFault → Type 0 = λ r. IsLast r in ends (subst P (sym is) last)

pub err_ended : (ended : Bool) (result : Result line_type.Line TextFault) (f : TextFault) → result ≡ Err f → (IsLast result → IsTrue ended) → ended ≡ true
err_ended ended result f is ends = has_ended ended result (Err f) is tt ends

-- a reader that has read nothing can count
pub can_count : (inputs : List InputSpec) (reader : ReaderState) (counts : List ℕ) → reader ≡ new_reader inputs → ((i : ℕ) → slice_index_or counts i 0 ≡ 0) → CanCount reader counts None
can_count inputs reader counts new none =
    let used : reader.held.used ≡ 0 = ap (λ r. r.held.used) new in
    record { within = omega arith; few = λ i. let e = none i in omega arith; none = refl }

-- while reading goes on no fault was met
pub no_fault : (reader : ReaderState) (counts : List ℕ) (fault : Option TextFault) → reader.ended ≡ false → (reader.ended ≡ false → CanCount reader counts fault) → fault ≡ None
no_fault reader counts fault open_yet can = (can open_yet).none

abbrev gives_holds : (ItemOf → Type 0) → Answer → Type 0
gives_holds P (Gives i k) = P i
gives_holds P a = Unit {0}

gives_fits : {inputs : List InputSpec} {closed : Bool} {h g : Held} {i : ItemOf} (a : Answer) → a ≡ Gives i g → Next inputs closed h a → FitsSigned w64 i.value
gives_fits a e (blank f k next) = gives_fits a e next
gives_fits {inputs = inputs} {h = h} a e (item {content = content} {stream = s} {value = v} f k) =
    let P : Answer → Type 0 = λ u. gives_holds (λ j. FitsSigned w64 j.value) u in
    subst P e (kind_fits inputs (take content h.rest) s v k)
gives_fits a e (refused k f s r) = cc
gives_fits a e (long f) = cc
gives_fits a e (too_long f) = cc
gives_fits a e (wants f) = cc

-- a value of an item is within 64 bits
pub value_fits : (old new : ReaderState) (before after : SeenSource) (stream : ℕ) (value : ℤ) (bytes : List ℕ) → Called old new before after (Ok (Item stream value)) bytes → FitsSigned w64 value
value_fits old new before after stream value bytes c = gives_fits (Gives (record { stream = stream; value = value }) new.held) refl c.took.answer
