-- A block more.
use Rattle.std.proofs.Common.{ℕ, ◌≤◌, ◌≡◌, ◌⊎◌, true, List, [], ◌++◌, length, map, ap, sym, ◌∙◌, subst, inl, inr, arith}
use Rattle.std.specs.Prelude.{ℤ, slice_index}
use Rattle.lucy_word.specs.Bits.{ones_to}
use Rattle.lucy_word.specs.Limits.{limit_number}
use Rattle.lucy_word.specs.declared.limit.Limit.TheVariants as limit
use Rattle.lucy_word.proofs.BitsLaws.{ones_to-none}
use Rattle.lucy_stream.specs.Items.{list_at}
use Rattle.lucy_stream.specs.Fronts.{AreFronts}
use Rattle.lucy_lines.specs.Cuts.{ItemOf}
use Rattle.lucy_text.specs.Outside.{SeenSource}
use Rattle.lucy_lines.specs.Feeding.{values_by_stream}
use Rattle.lucy_lines.specs.Resuming.{FeedState, AreMet, HasRead, AreFresh, ValuesInTurn}
use Rattle.lucy_kahn.specs.Horizons.{Suffice, IsHorizon}
use Rattle.lucy_results.specs.Streams.{param_words, later_streams}
use Rattle.lucy_results.specs.Playing.{PlayerView, joined}
use Rattle.lucy_run.specs.Owes.{most_instants}
use Rattle.lucy_run.specs.Courses.{CourseView, Program, words_of, values, HasFed, IsAlong, IsLastRead, IsRunTo, IsNextTarget, IsNextBlock}
use Rattle.lucy_run.specs.Played.{ReadsOn, CountsAllow, PlayerCanGoOn, PlayerHasGoneOn}
use Rattle.lucy_run.specs.Paces.{IsBlock}
use Rattle.lucy_run.proofs.ReadLaws.{suffice_longer, values_count, values_front, values_joined, fed_counts, fed_carried, fed_none, met_suffices}

-- a run before its first instant
pub begin : (p : Program) (c : CourseView) (none : List (List ℤ)) (crew : List (List ℕ)) → ((s : SeenSource) → HasRead p.inputs s s c.reader [] []) → c.reader.reader.inputs ≡ p.inputs → AreFresh p.inputs c.reader [] →
    none ≡ values p [] → c.player ≡ record { nodes = p.nodes; clocks = p.clocks; kinds = p.kinds; inputs = none; instants = 0; before = 0; crew = crew } → c.words ≡ words_of p → c.outputs ≡ p.outputs → c.target ≡ 0 → c.horizon ≡ 0 →
    most_instants c.given ≤ limit_number limit.Instants → IsBlock c.block → (source : SeenSource) → IsAlong p source [] source c
begin p c none crew begun kept fresh empty is words outputs target horizon few block source = record {
  fed = fed_none (words_of p) c.target p.inputs source c.reader begun;
  kept = kept;
  fresh = fresh;
  words = words;
  outputs = outputs;
  run = record {
    nodes = ap (λ (v : PlayerView). v.nodes) is;
    clocks = ap (λ (v : PlayerView). v.clocks) is;
    kinds = ap (λ (v : PlayerView). v.kinds) is;
    inputs = ap (λ (v : PlayerView). v.inputs) is ∙ empty;
    instants = ap (λ (v : PlayerView). v.instants) is ∙ sym horizon;
  };
  suffice = subst (Suffice (words_of p) (values p [])) (sym horizon) (λ i word e. omega (arith, ones_to-none word));
  last = record { within = omega arith; last = inl (horizon ∙ sym target) };
  early = omega (arith, target);
  few = few;
  block = block;
}

-- more was read behind what was read
pub read_behind : (p : Program) (first : SeenSource) (items : List ItemOf) (before : SeenSource) (c : CourseView) → IsAlong p first items before c → (now : SeenSource) (read : FeedState) (target : ℕ) → c.target ≤ target →
    ReadsOn c.words target before now c.reader read →
    (more : List ItemOf) × HasFed (words_of p) target p.inputs first now read (items ++ more) × AreFresh p.inputs read more × (read.reader.inputs ≡ p.inputs)
read_behind p first items before c along now read target ahead reads =
    let here : ReadsOn (words_of p) target before now c.reader read = subst (λ ws. ReadsOn ws target before now c.reader read) along.words reads in
    here p.inputs first items c.target ahead along.fed along.fresh along.kept

module _ (turn : ValuesInTurn) (p : Program) (first : SeenSource) (items : List ItemOf) (before : SeenSource) (c : CourseView) (along : IsAlong p first items before c) (now : SeenSource) (read : FeedState) (more : List ItemOf)
    (target : ℕ) (fed : HasFed (words_of p) target p.inputs first now read (items ++ more)) (fresh : AreFresh p.inputs read more) (kept : read.reader.inputs ≡ p.inputs) (horizon : ℕ) (ahead : c.target ≤ target)
    (allow : CountsAllow c.words read.counts target horizon) where
  counted : (i : ℕ) → slice_index read.counts i ≡ length (list_at (values p (items ++ more)) i)
  counted = (fed_counts (words_of p) target p.inputs first now read (items ++ more) fed).each

  is_horizon : IsHorizon (words_of p) (values p (items ++ more)) target horizon
  is_horizon = subst (λ ws. IsHorizon ws (values p (items ++ more)) target horizon) along.words (allow (values p (items ++ more)) counted)

  fronts : AreFronts (values p items) (values p (items ++ more))
  fronts = values_front turn (length p.inputs) items more

  later : c.horizon ≤ horizon
  later = is_horizon.greatest c.horizon (omega (arith, along.last.within)) (suffice_longer (words_of p) (values p items) (values p (items ++ more)) c.horizon fronts along.suffice)

  joined_is : joined c.player.inputs read.fresh ≡ values p (items ++ more)
  joined_is = ap (λ xs. joined xs read.fresh) along.run.inputs ∙ ap (joined (values p items)) fresh ∙ values_joined turn (length p.inputs) items more

  words_are : param_words c.player.nodes c.player.clocks ≡ words_of p
  words_are = ap (λ ns. param_words ns c.player.clocks) along.run.nodes ∙ ap (param_words p.nodes) along.run.clocks

  -- the program may go on
  pub can_go_on : target ≤ most_instants c.given → PlayerCanGoOn c.player read.fresh horizon
  can_go_on early = record {
    later = omega (arith, later, along.run.instants);
    early = omega (arith, is_horizon.within, along.few);
    inputs = ap length fresh ∙ values_count (length p.inputs) more ∙ sym (ap length along.run.inputs ∙ values_count (length p.inputs) items);
    suffice = subst (λ ws. Suffice ws (joined c.player.inputs read.fresh) horizon) (sym words_are) (subst (λ xs. Suffice (words_of p) xs horizon) (sym joined_is) is_horizon.suffice);
  }

  module _ (last : FeedState) (on : PlayerView) (lists : List (List ℤ)) (gone : PlayerHasGoneOn read c.player last on horizon lists) where
    streams_are : lists ≡ later_streams p.kinds (values p (items ++ more)) p.nodes p.clocks c.horizon horizon
    streams_are =
        gone.lists_are
        ∙ ap (λ ks. later_streams ks (joined c.player.inputs read.fresh) c.player.nodes c.player.clocks c.player.instants horizon) along.run.kinds
        ∙ ap (λ xs. later_streams p.kinds xs c.player.nodes c.player.clocks c.player.instants horizon) joined_is
        ∙ ap (λ ns. later_streams p.kinds (values p (items ++ more)) ns c.player.clocks c.player.instants horizon) along.run.nodes
        ∙ ap (λ cs. later_streams p.kinds (values p (items ++ more)) p.nodes cs c.player.instants horizon) along.run.clocks
        ∙ ap (λ n. later_streams p.kinds (values p (items ++ more)) p.nodes p.clocks n horizon) along.run.instants

    block_last : (read.reader.ended ≡ true) ⊎ AreMet (map (λ word. ones_to word target) c.words) read.counts → IsLastRead p (items ++ more) target horizon last
    block_last (inl ended) = record {
      within = is_horizon.within;
      last = inr (ap (λ (r : FeedState). r.reader.ended) gone.reader_is ∙ ended, is_horizon.greatest);
    }
    block_last (inr met) =
        let all = met_suffices c.words read.counts (values p (items ++ more)) target met counted in
        let reached : target ≤ horizon = is_horizon.greatest target (omega arith) (subst (λ ws. Suffice ws (values p (items ++ more)) target) along.words all) in
        record { within = is_horizon.within; last = inl (omega (arith, is_horizon.within)) }

    run_on : IsRunTo p (values p (items ++ more)) horizon on
    run_on = record {
      nodes = ap (λ (v : PlayerView). v.nodes) gone.player_is ∙ along.run.nodes;
      clocks = ap (λ (v : PlayerView). v.clocks) gone.player_is ∙ along.run.clocks;
      kinds = ap (λ (v : PlayerView). v.kinds) gone.player_is ∙ along.run.kinds;
      inputs = ap (λ (v : PlayerView). v.inputs) gone.player_is ∙ joined_is;
      instants = ap (λ (v : PlayerView). v.instants) gone.player_is;
    }

    -- the block was run
    pub next : (read.reader.ended ≡ true) ⊎ AreMet (map (λ word. ones_to word target) c.words) read.counts → target ≤ most_instants c.given → IsNextTarget p.outputs c.block (most_instants c.given) c.horizon target →
        IsNextBlock p first items now c (record c { reader = last; player = on; target = target; horizon = horizon }) lists
    next enough early goes = record {
      more = more;
      fronts = fronts;
      along = record {
        fed = subst (λ (r : FeedState). HasFed (words_of p) target p.inputs first now r (items ++ more)) (sym gone.reader_is)
            (fed_carried (words_of p) target p.inputs first now read (items ++ more) (values_by_stream (length read.reader.inputs) []) fed);
        kept = ap (λ (r : FeedState). r.reader.inputs) gone.reader_is ∙ kept;
        fresh = ap (λ (r : FeedState). r.fresh) gone.reader_is ∙ ap (λ xs. values_by_stream (length xs) []) kept;
        words = along.words;
        outputs = along.outputs;
        run = run_on;
        suffice = is_horizon.suffice;
        last = block_last enough;
        early = early;
        few = along.few;
        block = along.block;
      };
      later = later;
      goes = goes;
      streams_are = streams_are;
    }
