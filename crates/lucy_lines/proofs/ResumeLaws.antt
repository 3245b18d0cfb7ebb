-- Laws of a reading that is resumed.
use Rattle.std.proofs.Common.{◌≡◌, ℕ, Bool, Option, Some, None, ◌<◌, true, false, List, [], ◌∷◌, ◌++◌, length, refl, ap, sym, ◌∙◌, subst, inl, inr, arith, append_assoc, append-nil}
use Rattle.std.specs.Prelude.{ℤ, ◌⊎◌, slice_set, slice_index_or, IfSome, MatchOption}
use Rattle.lucy_lines.specs.declared.input.InputSpec.{InputSpec}
use Rattle.lucy_lines.specs.Cuts.{ItemOf, Stop as Halt, Cut, whole_input}
use Rattle.lucy_lines.specs.Reading.{ReaderState}
use Rattle.lucy_text.specs.Outside.{SeenSource}
use Rattle.lucy_text.specs.Sources.{ReadStop}
use Rattle.lucy_lines.specs.Resuming.{FeedState, AreCounts, AsksWhile, BeginCut, IsOpen, IsStopped, HasRead, IsGivenUp, AreFresh, ReadsWhile, PassesMore, GivesUp}
use Rattle.lucy_lines.specs.Feeding.{values_by_stream, is_closed, IsAskedWhile}
use Rattle.lucy_lines.proofs.FeedLaws.{asks_as}
use Rattle.lucy_lines.proofs.ListLaws.{item_pushed}

-- nothing more was read
pub none_read : (Wanting : List InputSpec → List ItemOf → Type 0) (source : SeenSource) (s : FeedState) → ReadsWhile Wanting source source s s
none_read Wanting source s inputs first items recent taken read fresh =
    let P : List ItemOf → Type 0 = λ u. HasRead inputs first source s u (taken ++ []) in
    let Q : List ℕ → Type 0 = λ u. HasRead inputs first source s items u in
    let R : List ItemOf → Type 0 = λ u. AreFresh inputs s u in
    ([], [], subst P (sym (append-nil items)) (subst Q (sym (append-nil taken)) read), subst R (sym (append-nil recent)) fresh, inl refl)

-- what two readings in turn asked for
asks_on : (Wanting : List ItemOf → Type 0) (inputs : List InputSpec) (taken bytes late : List ℕ) → AsksWhile Wanting inputs taken bytes → AsksWhile Wanting inputs (taken ++ bytes) late →
    AsksWhile Wanting inputs taken (bytes ++ late)
asks_on Wanting inputs taken bytes late asks (inr asked) =
    let P : List ℕ → Type 0 = λ u. IsAskedWhile Wanting inputs u in
    inr (subst P (append_assoc taken bytes late) asked)
asks_on Wanting inputs taken bytes late asks (inl none) =
    let P : List ℕ → Type 0 = λ u. AsksWhile Wanting inputs taken u in
    let same : bytes ≡ bytes ++ late = sym (append-nil bytes) ∙ ap (λ u. bytes ++ u) (sym none) in
    subst P same asks

-- and more again
pub reads_on : (Wanting : List InputSpec → List ItemOf → Type 0) (a b c : SeenSource) (s t u : FeedState) → ReadsWhile Wanting a b s t → ReadsWhile Wanting b c t u → ReadsWhile Wanting a c s u
reads_on Wanting a b c s t u p q inputs first items recent taken read fresh =
    let (more, bytes, now, kept, asks) = p inputs first items recent taken read fresh in
    let (others, late, next, all, asks_then) = q inputs first (items ++ more) (recent ++ more) (taken ++ bytes) now kept in
    let P : List ItemOf → Type 0 = λ v. HasRead inputs first c u v (taken ++ (bytes ++ late)) in
    let Q : List ℕ → Type 0 = λ v. HasRead inputs first c u ((items ++ more) ++ others) v in
    let R : List ItemOf → Type 0 = λ v. AreFresh inputs u v in (
      more ++ others,
      bytes ++ late,
      subst P (append_assoc items more others) (subst Q (append_assoc taken bytes late) next),
      subst R (append_assoc recent more others) all,
      asks_on (Wanting inputs) inputs taken bytes late asks asks_then,
    )

-- what was wanting was wanting of more
pub reads_as : (P Q : List InputSpec → List ItemOf → Type 0) (a b : SeenSource) (s t : FeedState) → ((inputs : List InputSpec) (xs : List ItemOf) → P inputs xs → Q inputs xs) → ReadsWhile P a b s t →
    ReadsWhile Q a b s t
reads_as P Q a b s t wider reads inputs first items recent taken read fresh =
    let (more, bytes, now, kept, asks) = reads inputs first items recent taken read fresh in
    (more, bytes, now, kept, asks_as inputs taken bytes (P inputs) (Q inputs) (wider inputs) asks)

-- items with these counts have too few values of a stream
pub reads_lacking : (a b : SeenSource) (s t : FeedState) (stream least : ℕ) → slice_index_or s.counts stream 0 < least → ReadsWhile (λ inputs xs. AreCounts inputs s.counts xs) a b s t →
    ReadsWhile (λ inputs xs. length (slice_index_or (values_by_stream (length inputs) xs) stream []) < least) a b s t
reads_lacking a b s t stream least few reads =
    reads_as (λ inputs xs. AreCounts inputs s.counts xs) (λ inputs xs. length (slice_index_or (values_by_stream (length inputs) xs) stream []) < least) a b s t
    (λ inputs xs counts. let same = counts.each stream in omega arith) reads

-- so where values are counted alone
pub none_passed : (source : SeenSource) (s : FeedState) → PassesMore source source s s
none_passed source s inputs first items taken read =
    let P : List ItemOf → Type 0 = λ u. HasRead inputs first source s u (taken ++ []) in
    let Q : List ℕ → Type 0 = λ u. HasRead inputs first source s items u in
    ([], [], subst P (sym (append-nil items)) (subst Q (sym (append-nil taken)) read))

pub passes_on : (a b c : SeenSource) (s t u : FeedState) → PassesMore a b s t → PassesMore b c t u → PassesMore a c s u
passes_on a b c s t u p q inputs first items taken read =
    let (more, bytes, now) = p inputs first items taken read in
    let (others, late, next) = q inputs first (items ++ more) (taken ++ bytes) now in
    let P : List ItemOf → Type 0 = λ v. HasRead inputs first c u v (taken ++ (bytes ++ late)) in
    let Q : List ℕ → Type 0 = λ v. HasRead inputs first c u ((items ++ more) ++ others) v in
    (more ++ others, bytes ++ late, subst P (append_assoc items more others) (subst Q (append_assoc taken bytes late) next))

-- what stands in front of items stands in front of what they begin
begin_before : (inputs : List InputSpec) (closed : Bool) (taken : List ℕ) (items more : List ItemOf) → BeginCut inputs closed taken (items ++ more) → BeginCut inputs closed taken items
begin_before inputs closed taken items more (others, halt, cut) =
    let P : List ItemOf → Type 0 = λ u. Cut inputs closed (whole_input taken) u halt in
    (more ++ others, halt, subst P (append_assoc items more others) cut)

given_up_before : (inputs : List InputSpec) (first now : SeenSource) (items more : List ItemOf) (taken : List ℕ) → IsGivenUp inputs first now (items ++ more) taken → IsGivenUp inputs first now items taken
given_up_before inputs first now items more taken g =
    record { stop = g.stop; early = g.early; read = g.read; asked = g.asked; begin = begin_before inputs (is_closed g.stop) taken items more g.begin }

-- reading was given up behind what was read
pub given_up_later : (Wanting : List InputSpec → List ItemOf → Type 0) (a b c : SeenSource) (s t : FeedState) → ReadsWhile Wanting a b s t → GivesUp b c t → GivesUp a c s
given_up_later Wanting a b c s t p q inputs first items recent taken read fresh =
    let (more, bytes, now, kept, asks) = p inputs first items recent taken read fresh in
    let (late, g) = q inputs first (items ++ more) (recent ++ more) (taken ++ bytes) now kept in
    let P : List ℕ → Type 0 = λ v. IsGivenUp inputs first c items v in
    (bytes ++ late, subst P (append_assoc taken bytes late) (given_up_before inputs first c items more ((taken ++ bytes) ++ late) g))

-- where reading goes on, what was read is open
pub still_open : (inputs : List InputSpec) (first now : SeenSource) (s : FeedState) (items : List ItemOf) (taken : List ℕ) → s.reader.ended ≡ false → HasRead inputs first now s items taken →
    IsOpen inputs first now s.reader s.counts items taken
still_open inputs first now s items taken open_yet (inl is) = is
still_open inputs first now s items taken open_yet (inr (stop, halt, is)) = let no_more : false ≡ true = sym open_yet ∙ is.ended in cc

-- an item more is given by what was open before it
abbrev pub OpensMore : (before after : SeenSource) (old new : FeedState) → ItemOf → Type 0
OpensMore before after old new i = (inputs : List InputSpec) (first : SeenSource) (items : List ItemOf) (taken : List ℕ) →
    IsOpen inputs first before old.reader old.counts items taken → (bytes : List ℕ) × IsOpen inputs first after new.reader new.counts (items ++ i ∷ []) (taken ++ bytes)
    × AsksWhile (λ xs. xs ≡ items) inputs taken bytes

-- a stop
abbrev pub OpensNoMore : (before after : SeenSource) (old new : FeedState) → Type 0
OpensNoMore before after old new = (inputs : List InputSpec) (first : SeenSource) (items : List ItemOf) (taken : List ℕ) →
    IsOpen inputs first before old.reader old.counts items taken →
    (bytes : List ℕ) × (stop : ReadStop) × (halt : Halt) × IsStopped inputs first after new.reader new.counts new.fault items (taken ++ bytes) stop halt
    × AsksWhile (λ xs. xs ≡ items) inputs taken bytes

-- the items behind which bytes were asked for have these counts
asks_counted : (inputs : List InputSpec) (counts : List ℕ) (items : List ItemOf) (taken bytes : List ℕ) → AreCounts inputs counts items → AsksWhile (λ xs. xs ≡ items) inputs taken bytes →
    AsksWhile (λ xs. AreCounts inputs counts xs) inputs taken bytes
asks_counted inputs counts items taken bytes counted asks =
    asks_as inputs taken bytes (λ xs. xs ≡ items) (λ xs. AreCounts inputs counts xs) (λ xs same. subst (λ ys. AreCounts inputs counts ys) (sym same) counted) asks

-- the item was kept
pub item_kept : (before after : SeenSource) (old new now : FeedState) (i : ItemOf) → old.reader.ended ≡ false → OpensMore before after old new i → i.stream < length old.reader.inputs →
    now.reader ≡ new.reader → now.counts ≡ new.counts → now.fresh ≡ slice_set old.fresh i.stream (slice_index_or old.fresh i.stream [] ++ i.value ∷ []) →
    ReadsWhile (λ inputs xs. AreCounts inputs old.counts xs) before after old now
item_kept before after old new now i open_yet opens known same counted pushed inputs first items recent taken read fresh =
    let o = still_open inputs first before old items taken open_yet read in
    let (bytes, is, asks) = opens inputs first items taken o in
    let P : ReaderState → Type 0 = λ r. IsOpen inputs first after r now.counts (items ++ i ∷ []) (taken ++ bytes) in
    let Q : List ℕ → Type 0 = λ n. IsOpen inputs first after new.reader n (items ++ i ∷ []) (taken ++ bytes) in
    let f : List (List ℤ) → List (List ℤ) = λ u. slice_set u i.stream (slice_index_or u i.stream [] ++ i.value ∷ []) in
    let there : i.stream < length inputs = let e = ap length o.goes_on.kept in omega arith in
    (i ∷ [], bytes, inl (subst P (sym same) (subst Q (sym counted) is)), pushed ∙ ap f fresh ∙ item_pushed (length inputs) recent i there, asks_counted inputs old.counts items taken bytes o.counted asks)

-- the item was counted alone
pub item_passed : (before after : SeenSource) (old new : FeedState) (i : ItemOf) → old.reader.ended ≡ false → OpensMore before after old new i → PassesMore before after old new
item_passed before after old new i open_yet opens inputs first items taken read =
    let o = still_open inputs first before old items taken open_yet read in
    let (bytes, is, asks) = opens inputs first items taken o in
    (i ∷ [], bytes, inl is)

-- there was no room for it
pub item_lost : (before after : SeenSource) (old new : FeedState) (i : ItemOf) → old.reader.ended ≡ false → OpensMore before after old new i → GivesUp before after old
item_lost before after old new i open_yet opens inputs first items recent taken read fresh =
    let o = still_open inputs first before old items taken open_yet read in
    let (bytes, is, asks) = opens inputs first items taken o in
    (bytes, given_up_before inputs first after items (i ∷ []) (taken ++ bytes) is.given_up)

-- reading stopped
pub stop_passed : (before after : SeenSource) (old new : FeedState) → old.reader.ended ≡ false → OpensNoMore before after old new → PassesMore before after old new
stop_passed before after old new open_yet stops inputs first items taken read =
    let o = still_open inputs first before old items taken open_yet read in
    let (bytes, stop, halt, is, asks) = stops inputs first items taken o in
    let P : List ItemOf → Type 0 = λ u. HasRead inputs first after new u (taken ++ bytes) in
    ([], bytes, subst P (sym (append-nil items)) (inr (stop, halt, is)))

pub stop_kept : (before after : SeenSource) (old new : FeedState) → old.reader.ended ≡ false → OpensNoMore before after old new → new.fresh ≡ old.fresh → ReadsWhile (λ inputs xs. AreCounts inputs old.counts xs) before after old new
stop_kept before after old new open_yet stops same inputs first items recent taken read fresh =
    let o = still_open inputs first before old items taken open_yet read in
    let (bytes, stop, halt, is, asks) = stops inputs first items taken o in
    let P : List ItemOf → Type 0 = λ u. HasRead inputs first after new u (taken ++ bytes) in
    let R : List ItemOf → Type 0 = λ u. AreFresh inputs new u in
    ([], bytes, subst P (sym (append-nil items)) (inr (stop, halt, is)), subst R (sym (append-nil recent)) (same ∙ fresh), asks_counted inputs old.counts items taken bytes o.counted asks)

-- an item or a stop, where values are counted alone
pub line_passed : {A : Type 0} (before after : SeenSource) (old new : FeedState) (result : Option A) (item : A → ItemOf) → old.reader.ended ≡ false →
    IfSome result (λ a. OpensMore before after old new (item a)) → MatchOption result (OpensNoMore before after old new) (λ a. Unit {0}) → PassesMore before after old new
line_passed before after old new None item open_yet more stops = stop_passed before after old new open_yet stops
line_passed before after old new (Some a) item open_yet more stops = item_passed before after old new (item a) open_yet more

pub one_way : {A : Type 0} (result : Option A) (P Q : Type 0) → MatchOption result P (λ a. Q) → P ⊎ Q
one_way None P Q is = inl is
one_way (Some a) P Q is = inr is
