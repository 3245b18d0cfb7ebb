-- The last block, and the end of a run.
use Rattle.std.proofs.Common.{ℕ, ◌<◌, ◌≤◌, ◌≡◌, ◌⊎◌, true, false, List, [], ◌∷◌, ◌++◌, Option, None, Some, length, ap, sym, refl, ◌∙◌, subst, inl, inr, arith}
use Rattle.std.specs.Prelude.{ℤ, slice_index}
use Rattle.std.proofs.lemmas.Bool.{cases_lt}
use Rattle.std.proofs.lemmas.List.{nil_from_length}
use Rattle.lucy_word.specs.Bits.{Bits}
use Rattle.lucy_stream.specs.Items.{list_at}
use Rattle.lucy_stream.specs.Fronts.{AreFronts}
use Rattle.lucy_lines.specs.Cuts.{ItemOf}
use Rattle.lucy_lines.specs.Fronts.{most_bytes}
use Rattle.lucy_lines.specs.declared.input.InputSpec.{InputSpec}
use Rattle.lucy_text.specs.Outside.{SeenSource}
use Rattle.lucy_text.specs.Sources.{Unread, Read}
use Rattle.lucy_lines.specs.Feeding.{values_by_stream, IsAsked}
use Rattle.lucy_lines.specs.Resuming.{FeedState, HasRead, PassesMore, ValuesInTurn}
use Rattle.lucy_kahn.specs.Horizons.{Suffice, IsHorizon}
use Rattle.lucy_results.proofs.StreamLaws.{params_count}
use Rattle.lucy_run.specs.declared.ending.Ending.{Ending}
use Rattle.lucy_run.specs.declared.ending.Ending.TheVariants as ending
use Rattle.lucy_run.specs.Feeds.{Feeds}
use Rattle.lucy_run.specs.Owes.{most_instants, EndsFor}
use Rattle.lucy_run.specs.Courses.{CourseView, Program, CanBeRunInBlocks, words_of, values, HasFed, IsAlong, IsLastRead, HasStopped, IsCourseOver}
use Rattle.lucy_run.proofs.FedLaws.{read_nothing}
use Rattle.lucy_run.proofs.ReadLaws.{fronts_same, suffice_longer, suffice_earlier, values_front, read_counts, fed_counts}

-- what suffices is a matter of how many items there are
suffice_counted : (words : List Bits) (lists others : List (List ℤ)) (t : ℕ) → ((i : ℕ) → length (list_at lists i) ≡ length (list_at others i)) → Suffice words lists t → Suffice words others t
suffice_counted words lists others t same suffice i word e = let few = suffice i word e in omega (arith, same i)

-- the last horizon of a block is that of the run, where the block is the last one or the horizon is short of it
last_for : (p : Program) (items : List ItemOf) (block most horizon : ℕ) (reader : FeedState) → block ≤ most → (horizon < block) ⊎ (block ≡ most) → IsLastRead p items block horizon reader → IsLastRead p items most horizon reader
last_for p items block most horizon reader l (inr e) last = subst (λ n. IsLastRead p items n horizon reader) e last
last_for p items block most horizon reader l (inl short) last = record {
  within = omega (arith, last.within);
  last = elim last.last [
    | inl e ↦ absurd (omega arith)
    | inr known ↦ inr (
      known.0,
      λ t m suffice. elim (cases_lt block t) [
        | inl past ↦ absurd (let reached : block ≤ horizon = known.1 block (omega arith) (suffice_earlier (words_of p) (values p items) block t (omega arith) suffice) in omega arith)
        | inr before ↦ known.1 t before suffice
      ],
    )
  ];
}

-- the last horizon of a course is that of the run
pub last_of : (p : Program) (first : SeenSource) (items : List ItemOf) (now : SeenSource) (c : CourseView) → IsAlong p first items now c → HasStopped c → IsLastRead p items (most_instants c.given) c.horizon c.reader
last_of p first items now c along (inl short) =
    last_for p items c.target (most_instants c.given) c.horizon c.reader along.early (inl (omega (arith, along.last.within, short))) along.last
last_of p first items now c along (inr all) =
    last_for p items c.target (most_instants c.given) c.horizon c.reader along.early (inr (omega (arith, along.early, all))) along.last

-- the horizon of the items that were read
horizon_is : (p : Program) (items : List ItemOf) (most horizon : ℕ) (reader : FeedState) → IsLastRead p items most horizon reader → Suffice (words_of p) (values p items) horizon → IsHorizon (words_of p) (values p items) most horizon
horizon_is p items most horizon reader last suffice = record {
  within = last.within;
  suffice = suffice;
  greatest = λ t l s. elim last.last [ inl e ↦ omega arith | inr known ↦ known.1 t l s ];
}

ends_done : (words : List Bits) (given : Option ℕ) (lists : List (List ℤ)) → (given ≡ None → ⊥) → EndsFor words given lists None ending.Done
ends_done words (Some n) lists some = refl
ends_done words None lists some = absurd (some refl)

-- there are as many inputs as words of them
pub words_count : (p : Program) → CanBeRunInBlocks p → length p.inputs ≡ length (words_of p)
words_count p can = can.inputs ∙ sym (params_count p.nodes p.clocks)

-- counts of passed items are as many as the words
pub passed_many : (p : Program) → CanBeRunInBlocks p → (aim : ℕ) (first before now : SeenSource) (reader new : FeedState) (items : List ItemOf) → HasFed (words_of p) aim p.inputs first before reader items → PassesMore before now reader new → (words_of p ≡ [] → ⊥) →
    length new.counts ≡ length (words_of p)
passed_many p can aim first before now reader new items fed passes some = many_at p.inputs refl
  where
    many_at : (inputs : List InputSpec) → p.inputs ≡ inputs → length new.counts ≡ length (words_of p)
    many_at [] e = absurd (some (nil_from_length (words_of p) (sym (words_count p can) ∙ ap length e)))
    many_at (input ∷ inputs) e =
        let has = subst (λ xs. HasFed (words_of p) aim xs first before reader items) e fed in
        let (others, bytes, read) = passes (input ∷ inputs) first items has.0 has.1 in
        let counts = read_counts (input ∷ inputs) first now new (items ++ others) (has.0 ++ bytes) read in
        counts.many ∙ sym (ap length e) ∙ words_count p can

module _ (p : Program) (can : CanBeRunInBlocks p) (first : SeenSource) (items : List ItemOf) (before : SeenSource) (c : CourseView) (along : IsAlong p first items before c) (stopped : HasStopped c) where
  last : IsLastRead p items (most_instants c.given) c.horizon c.reader
  last = last_of p first items before c along stopped

  -- a main without inputs is done
  pub over_unread : words_of p ≡ [] → (c.given ≡ None → ⊥) → IsCourseOver p first items c.given c.horizon before ending.Done
  over_unread none some =
      let empty : length p.inputs ≡ 0 = words_count p can ∙ ap length none in
      over_at p.inputs refl empty
    where
      over_at : (inputs : List InputSpec) → p.inputs ≡ inputs → length p.inputs ≡ 0 → IsCourseOver p first items c.given c.horizon before ending.Done
      over_at (input ∷ inputs) e empty = let long = ap length e in absurd (omega arith)
      over_at [] e empty =
          let fed = subst (λ xs. HasFed (words_of p) c.target xs first before c.reader items) e along.fed in
          record {
            taken = [];
            stop = Unread;
            read = subst (λ u. Read most_bytes first u [] Unread) (sym fed.0) (read_nothing first);
            asked = inl refl;
            lists = values p items;
            fault = None;
            feeds = subst (λ xs. Feeds xs [] Unread (values_by_stream (length xs) items) None) (sym e) (refl, refl, refl, refl);
            fronts = fronts_same (values p items);
            suffice = along.suffice;
            horizon_is = horizon_is p items (most_instants c.given) c.horizon c.reader last along.suffice;
            ends = ends_done (words_of p) c.given (values p items) some;
          }

  -- the rest of the input was passed
  module _ (turn : ValuesInTurn) (now : SeenSource) (new : FeedState) (passes : PassesMore before now c.reader new) (ended : new.reader.ended ≡ true) (same : c.reader.reader.ended ≡ true → new ≡ c.reader) (result : Ending)
      (ends : (lists : List (List ℤ)) → ((i : ℕ) → slice_index new.counts i ≡ length (list_at lists i)) → EndsFor (words_of p) c.given lists new.fault result) where
    over_passed : (input : InputSpec) (inputs : List InputSpec) → p.inputs ≡ input ∷ inputs → (others : List ItemOf) (taken : List ℕ) → HasRead (input ∷ inputs) first now new (items ++ others) taken → IsCourseOver p first items c.given c.horizon now result
    over_passed input inputs e others taken (inl going) = absurd (let open_yet : new.reader.ended ≡ false = going.open_yet in cc)
    over_passed input inputs e others taken (inr (stop, halt, over)) =
        let lists : List (List ℤ) = values p (items ++ others) in
        let fronts : AreFronts (values p items) lists = values_front turn (length p.inputs) items others in
        let counted = subst (λ (xs : List InputSpec). (i : ℕ) → slice_index new.counts i ≡ length (list_at (values_by_stream (length xs) (items ++ others)) i)) (sym e) over.counted.each in
        let mine = (fed_counts (words_of p) c.target p.inputs first before c.reader items along.fed).each in
        record {
          taken = taken;
          stop = stop;
          read = over.read;
          asked = subst (λ xs. IsAsked xs taken) (sym e) over.asked;
          lists = lists;
          fault = new.fault;
          feeds = subst (λ xs. Feeds xs taken stop (values_by_stream (length xs) (items ++ others)) new.fault) (sym e) (items ++ others, halt, over.feed);
          fronts = fronts;
          suffice = along.suffice;
          horizon_is = record {
            within = last.within;
            suffice = suffice_longer (words_of p) (values p items) lists c.horizon fronts along.suffice;
            greatest = λ t l s. elim last.last [
              | inl reached ↦ omega arith
              | inr known ↦ known.1 t l (suffice_counted (words_of p) lists (values p items) t (λ i. sym (counted i) ∙ ap (λ (r : FeedState). slice_index r.counts i) (same known.0) ∙ mine i) s)
            ];
          };
          ends = ends lists counted;
        }

    pub over_read : (words_of p ≡ [] → ⊥) → IsCourseOver p first items c.given c.horizon now result
    over_read some = over_at p.inputs refl
      where
        over_at : (inputs : List InputSpec) → p.inputs ≡ inputs → IsCourseOver p first items c.given c.horizon now result
        over_at [] e = absurd (some (nil_from_length (words_of p) (sym (words_count p can) ∙ ap length e)))
        over_at (input ∷ inputs) e =
            let fed = subst (λ xs. HasFed (words_of p) c.target xs first before c.reader items) e along.fed in
            let (others, bytes, read) = passes (input ∷ inputs) first items fed.0 fed.1 in
            over_passed input inputs e others (fed.0 ++ bytes) read
