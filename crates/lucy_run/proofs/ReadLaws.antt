-- What main was fed so far.
use Rattle.std.proofs.Common.{ℕ, zero, suc, ◌≤◌, ◌≡◌, List, [], ◌∷◌, ◌++◌, Option, Some, None, length, map, ap, sym, refl, ◌∙◌, subst, inl, inr, arith}
use Rattle.std.specs.Prelude.{ℤ, slice_index, slice_index_or, slice_get, option_map}
use Rattle.std.proofs.lemmas.List.FromFn.{fill_by_all, length-map-range_with_len, get_or-map-range_with_len}
use Rattle.std.proofs.lemmas.Option.{get_or_from_slice_get, slice_get-map}
use Rattle.lucy_word.specs.Bits.{Bits, ones_to}
use Rattle.lucy_word.proofs.IndexLaws.{ones_to-rises}
use Rattle.lucy_stream.specs.Items.{list_at}
use Rattle.lucy_stream.specs.Fronts.{IsFront, AreFronts}
use Rattle.lucy_stream.proofs.FrontLaws.{IsFront-refl, IsFront-trans, IsFront-append, IsFront-length}
use Rattle.lucy_lines.specs.Cuts.{ItemOf}
use Rattle.lucy_lines.specs.Fronts.{most_bytes}
use Rattle.lucy_lines.specs.declared.input.InputSpec.{InputSpec}
use Rattle.lucy_text.specs.Outside.{SeenSource}
use Rattle.lucy_text.specs.Sources.{Unread, Read}
use Rattle.lucy_lines.specs.Feeding.{values_of, values_by_stream, IsAskedWhile}
use Rattle.lucy_lines.specs.Resuming.{FeedState, AreCounts, AreMet, HasRead, IsGivenUp, IsShort, AreFresh, ReadsWhile, GivesUp, ValuesInTurn}
use Rattle.lucy_lines.proofs.FeedLaws.{asked_as, asks_as, asked_still}
use Rattle.lucy_kahn.specs.Horizons.{Suffice}
use Rattle.lucy_results.specs.Playing.{joined}
use Rattle.lucy_results.proofs.LaterLaws.{joined_count, joined_at}
use Rattle.lucy_run.specs.Courses.{HasFed, IsFedSoFar, GivesUpBehind}
use Rattle.lucy_run.specs.Played.{ReadsOn}
use Rattle.lucy_run.specs.Feeds.{IsShortOf}
use Rattle.lucy_run.proofs.FedLaws.{read_nothing, lines_feed, given_up_lines}

pub fronts_same : (lists : List (List ℤ)) → AreFronts lists lists
fronts_same lists i = IsFront-refl (list_at lists i)

pub fronts_longer : (lists more most : List (List ℤ)) → AreFronts lists more → AreFronts more most → AreFronts lists most
fronts_longer lists more most f g i = IsFront-trans (list_at lists i) (list_at more i) (list_at most i) (f i) (g i)

-- more items suffice for as many instants
pub suffice_longer : (words : List Bits) (lists more : List (List ℤ)) (t : ℕ) → AreFronts lists more → Suffice words lists t → Suffice words more t
suffice_longer words lists more t f suffice i word e = let few = suffice i word e in omega (arith, IsFront-length (list_at lists i) (list_at more i) (f i))

pub values_count : (n : ℕ) (items : List ItemOf) → length (values_by_stream n items) ≡ n
values_count n items = length-map-range_with_len (λ stream. values_of stream items) 0 n

module _ (turn : ValuesInTurn) where
  -- the values of items are a front of those of more items
  pub values_front : (n : ℕ) (items more : List ItemOf) → AreFronts (values_by_stream n items) (values_by_stream n (items ++ more))
  values_front n items more i =
      subst (λ ys. IsFront (list_at (values_by_stream n items) i) ys) (sym (turn n i items more)) (IsFront-append (list_at (values_by_stream n items) i) (list_at (values_by_stream n more) i))

  -- and are joined by those of the others
  pub values_joined : (n : ℕ) (items more : List ItemOf) → joined (values_by_stream n items) (values_by_stream n more) ≡ values_by_stream n (items ++ more)
  values_joined n items more =
      fill_by_all (λ stream. values_of stream (items ++ more)) (joined (values_by_stream n items) (values_by_stream n more)) n []
      (joined_count (values_by_stream n items) (values_by_stream n more) ∙ values_count n items)
      (λ k l. joined_at (values_by_stream n items) (values_by_stream n more) k (values_count n items ∙ sym (values_count n more)) ∙ sym (turn n k items more)
      ∙ get_or-map-range_with_len (λ stream. values_of stream (items ++ more)) 0 n k k [] l (omega arith))

  -- what was read feeds main so far
  read_feeds : (Wanting : List ItemOf → Type 0) (input : InputSpec) (inputs : List InputSpec) (first now : SeenSource) (reader : FeedState) (items : List ItemOf) (taken : List ℕ) → HasRead (input ∷ inputs) first now reader items taken →
      IsAskedWhile Wanting (input ∷ inputs) taken → IsFedSoFar Wanting (input ∷ inputs) first now (values_by_stream (length (input ∷ inputs)) items)
  read_feeds Wanting input inputs first now reader items taken (inl going) asked = record {
    taken = taken;
    asked = asked;
    stop = going.given_up.stop;
    read = going.given_up.read;
    others = values_by_stream (length (input ∷ inputs)) (items ++ going.given_up.begin.0);
    fronts = values_front (length (input ∷ inputs)) items going.given_up.begin.0;
    fed = given_up_lines (input ∷ inputs) first now items taken going.given_up;
  }
  read_feeds Wanting input inputs first now reader items taken (inr (stop, halt, stopped)) asked = record {
    taken = taken;
    asked = asked;
    stop = stop;
    read = stopped.read;
    others = values_by_stream (length (input ∷ inputs)) items;
    fronts = fronts_same (values_by_stream (length (input ∷ inputs)) items);
    fed = lines_feed (input ∷ inputs) taken stop (values_by_stream (length (input ∷ inputs)) items) reader.fault (items, halt, stopped.feed);
  }

  pub fed_feeds : (words : List Bits) (aim : ℕ) (inputs : List InputSpec) (first now : SeenSource) (reader : FeedState) (items : List ItemOf) → HasFed words aim inputs first now reader items →
      IsFedSoFar (IsShortOf words aim inputs) inputs first now (values_by_stream (length inputs) items)
  fed_feeds words aim [] first now reader items (e, counted) = record {
    taken = [];
    asked = inl refl;
    stop = Unread;
    read = subst (λ u. Read most_bytes first u [] Unread) (sym e) (read_nothing first);
    others = [];
    fronts = λ i. tt;
    fed = lines_feed [] [] Unread [] None (refl, refl, refl, refl);
  }
  fed_feeds words aim (input ∷ inputs) first now reader items (taken, has, asked) = read_feeds (IsShortOf words aim (input ∷ inputs)) input inputs first now reader items taken has asked

  given_up_feeds : (input : InputSpec) (inputs : List InputSpec) (first now : SeenSource) (items : List ItemOf) (taken : List ℕ) → IsGivenUp (input ∷ inputs) first now items taken →
      IsFedSoFar (λ xs. Unit {0}) (input ∷ inputs) first now (values_by_stream (length (input ∷ inputs)) items)
  given_up_feeds input inputs first now items taken given_up = record {
    taken = taken;
    asked = given_up.asked;
    stop = given_up.stop;
    read = given_up.read;
    others = values_by_stream (length (input ∷ inputs)) (items ++ given_up.begin.0);
    fronts = values_front (length (input ∷ inputs)) items given_up.begin.0;
    fed = given_up_lines (input ∷ inputs) first now items taken given_up;
  }

  -- reading is given up behind what was read
  pub gives_up : (words : List Bits) (aim : ℕ) (before after : SeenSource) (old : FeedState) → (old.reader.inputs ≡ [] → ⊥) → GivesUp before after old → GivesUpBehind words aim before after old
  gives_up words aim before after old none given_up [] first items fed fresh kept = absurd (none kept)
  gives_up words aim before after old none given_up (input ∷ inputs) first items (taken, has, asked) fresh kept =
      let (bytes, is) = given_up (input ∷ inputs) first items [] taken has fresh in
      given_up_feeds input inputs first after items (taken ++ bytes) is

-- less is fed so far too
pub feeds_less : (Wanting : List ItemOf → Type 0) (inputs : List InputSpec) (first now : SeenSource) (lists more : List (List ℤ)) → AreFronts lists more → IsFedSoFar Wanting inputs first now more →
    IsFedSoFar (λ xs. Unit {0}) inputs first now lists
feeds_less Wanting inputs first now lists more f fed = record {
  taken = fed.taken;
  asked = asked_as inputs fed.taken Wanting (λ xs. Unit {0}) (λ xs wanting. tt) fed.asked;
  stop = fed.stop;
  read = fed.read;
  others = fed.others;
  fronts = fronts_longer lists more fed.others f fed.fronts;
  fed = fed.fed;
}

-- how many items there are is counted
pub read_counts : (inputs : List InputSpec) (first now : SeenSource) (reader : FeedState) (items : List ItemOf) (taken : List ℕ) → HasRead inputs first now reader items taken → AreCounts inputs reader.counts items
read_counts inputs first now reader items taken (inl going) = going.counted
read_counts inputs first now reader items taken (inr (stop, halt, stopped)) = stopped.counted

pub fed_counts : (words : List Bits) (aim : ℕ) (inputs : List InputSpec) (first now : SeenSource) (reader : FeedState) (items : List ItemOf) → HasFed words aim inputs first now reader items →
    AreCounts inputs reader.counts items
fed_counts words aim [] first now reader items (e, counted) = counted
fed_counts words aim (input ∷ inputs) first now reader items (taken, has, asked) = read_counts (input ∷ inputs) first now reader items taken has

-- values that are carried away were read all the same
pub fed_carried : (words : List Bits) (aim : ℕ) (inputs : List InputSpec) (first now : SeenSource) (reader : FeedState) (items : List ItemOf) (fresh : List (List ℤ)) → HasFed words aim inputs first now reader items →
    HasFed words aim inputs first now (record reader { fresh = fresh }) items
fed_carried words aim [] first now reader items fresh fed = fed
fed_carried words aim (input ∷ inputs) first now reader items fresh fed = fed

-- nothing was read yet
pub fed_none : (words : List Bits) (aim : ℕ) (inputs : List InputSpec) (source : SeenSource) (reader : FeedState) → ((s : SeenSource) → HasRead inputs s s reader [] []) → HasFed words aim inputs source source reader []
fed_none words aim [] source reader begun = (refl, counted_none (begun source))
  where
    counted_none : HasRead [] source source reader [] [] → AreCounts [] reader.counts []
    counted_none (inl going) = going.counted
    counted_none (inr (stop, halt, stopped)) = stopped.counted
fed_none words aim (input ∷ inputs) source reader begun = ([], begun source, inl refl)

-- fewer instants need no more items
pub suffice_earlier : (words : List Bits) (lists : List (List ℤ)) (s t : ℕ) → s ≤ t → Suffice words lists t → Suffice words lists s
suffice_earlier words lists s t l suffice i word e = let few = suffice i word e in omega (arith, ones_to-rises word s t l)

none_there : (xs : List ℕ) (i d : ℕ) → slice_get xs i ≡ None → slice_index_or xs i d ≡ d
none_there [] i d e = refl
none_there (x ∷ xs) zero d e = cc
none_there (x ∷ xs) (suc i) d e = none_there xs i d e

-- where some stream has too few items they don't suffice
short_of : (words : List Bits) (wanted : List ℕ) (t : ℕ) → wanted ≡ map (λ word. ones_to word t) words → (inputs : List InputSpec) (items : List ItemOf) → IsShort wanted inputs items → IsShortOf words t inputs items
short_of words wanted t is inputs items (i, few) suffice = short_at (slice_get words i) refl
  where
    there : slice_get wanted i ≡ option_map (λ word. ones_to word t) (slice_get words i)
    there = ap (λ ns. slice_get ns i) is ∙ slice_get-map (λ word. ones_to word t) words i

    short_at : (o : Option Bits) → slice_get words i ≡ o → ⊥
    short_at (Some word) e =
        let enough = suffice i word e in
        let most : slice_index_or wanted i 0 ≡ ones_to word t = get_or_from_slice_get wanted i (ones_to word t) 0 (there ∙ ap (option_map (λ w. ones_to w t)) e) in
        absurd (omega (arith, enough, most, few))
    short_at None e =
        let none : slice_index_or wanted i 0 ≡ 0 = none_there wanted i 0 (there ∙ ap (option_map (λ w. ones_to w t)) e) in
        absurd (omega (arith, none, few))

-- more was read behind what was read
pub reads_on : (words : List Bits) (instants : ℕ) (wanted : List ℕ) → wanted ≡ map (λ word. ones_to word instants) words → (before after : SeenSource) (old new : FeedState) →
    (old.reader.inputs ≡ [] → (after ≡ before) × (new ≡ old)) → new.reader.inputs ≡ old.reader.inputs → ReadsWhile (IsShort wanted) before after old new → ReadsOn words instants before after old new
reads_on words instants wanted is before after old new unread same more [] first items aim l fed fresh kept =
    let (source, state) = unread kept in (
      [],
      (source ∙ fed.0, subst (λ (s : FeedState). AreCounts [] s.counts (items ++ [])) (sym state) (record { many = fed.1.many; each = fed.1.each })),
      subst (λ (s : FeedState). AreFresh [] s []) (sym state) fresh,
      same ∙ kept,
    )
reads_on words instants wanted is before after old new unread same more (input ∷ inputs) first items aim l (taken, has, asked) fresh kept =
    let (others, bytes, read, recent, asks) = more (input ∷ inputs) first items [] taken has fresh in
    let all : List InputSpec = input ∷ inputs in
    let before_now = asked_as all taken (IsShortOf words aim all) (IsShortOf words instants all)
    (λ xs short suffice. short (suffice_earlier words (values_by_stream (length all) xs) aim instants l suffice)) asked in
    let asks_now = asks_as all taken bytes (IsShort wanted all) (IsShortOf words instants all) (short_of words wanted instants is all) asks in
    (others, (taken ++ bytes, read, asked_still all taken bytes (IsShortOf words instants all) before_now asks_now), recent, same ∙ kept)

-- reading that went on may be given up behind what was read before it
pub gives_up_on : ValuesInTurn → (words : List Bits) (aim instants : ℕ) → aim ≤ instants → (before after : SeenSource) (old new : FeedState) → ReadsOn words instants before after old new → GivesUpBehind words aim before after old
gives_up_on turn words aim instants l before after old new reads inputs first items fed fresh kept =
    let (more, fed_on, fresh_on, kept_on) = reads inputs first items aim l fed fresh kept in
    feeds_less (IsShortOf words instants inputs) inputs first after (values_by_stream (length inputs) items) (values_by_stream (length inputs) (items ++ more)) (values_front turn (length inputs) items more)
    (fed_feeds turn words instants inputs first after new (items ++ more) fed_on)

-- where there are the items that are wanted, they suffice
pub met_suffices : (words : List Bits) (counts : List ℕ) (lists : List (List ℤ)) (t : ℕ) → AreMet (map (λ word. ones_to word t) words) counts → ((i : ℕ) → slice_index counts i ≡ length (list_at lists i)) → Suffice words lists t
met_suffices words counts lists t met are i word e =
    let wanted : slice_index_or (map (λ w. ones_to w t) words) i 0 ≡ ones_to word t =
    get_or_from_slice_get (map (λ w. ones_to w t) words) i (ones_to word t) 0 (slice_get-map (λ w. ones_to w t) words i ∙ ap (option_map (λ w. ones_to w t)) e) in
    let enough = met i in
    let count = are i in
    omega (arith, wanted, enough, count)

-- of no inputs no items are wanted
pub met_none : (words : List Bits) (inputs : List InputSpec) (wanted counts : List ℕ) (t : ℕ) → wanted ≡ map (λ word. ones_to word t) words → length words ≡ length inputs → inputs ≡ [] → AreMet wanted counts
met_none [] inputs wanted counts t e f none = subst (λ ws. AreMet ws counts) (sym e) (λ i. omega arith)
met_none (word ∷ words) inputs wanted counts t e f none = let empty = ap length none in absurd (omega arith)
