-- For how many instants items were wanting where bytes were asked for.
use Rattle.std.proofs.Common.{ℕ, ◌≡◌, List, [], ◌∷◌, ◌++◌, true, Bool, length, sym, subst, inl, inr}
use Rattle.lucy_word.specs.Bits.{Bits}
use Rattle.lucy_text.specs.Outside.{SeenSource}
use Rattle.lucy_lines.specs.Cuts.{ItemOf, Stop as Halt, with_more, Cut, whole_input}
use Rattle.lucy_lines.specs.CutLaws.{OneCut, CutInPieces, SomeCut}
use Rattle.lucy_lines.specs.declared.input.InputSpec.{InputSpec}
use Rattle.lucy_lines.specs.Feeding.{values_by_stream, is_closed}
use Rattle.lucy_lines.specs.Resuming.{FeedState, ValuesInTurn}
use Rattle.lucy_kahn.specs.Horizons.{Suffice}
use Rattle.lucy_run.specs.Feeds.{IsNeededFor}
use Rattle.lucy_run.specs.Courses.{HasFed}
use Rattle.lucy_run.proofs.ReadLaws.{suffice_longer, values_front}

module _ (one : OneCut) (some : SomeCut) (pieces : CutInPieces) (turn : ValuesInTurn) (words : List Bits) (aim more : ℕ) where
  -- items that the bytes taken don't have in the end were wanting all along
  needed_for : (inputs : List InputSpec) (taken : List ℕ) (closed : Bool) (items : List ItemOf) (halt : Halt) → Cut inputs closed (whole_input taken) items halt →
      (Suffice words (values_by_stream (length inputs) items) aim → ⊥) → IsNeededFor words more inputs taken → IsNeededFor words aim inputs taken
  needed_for inputs taken closed items halt all few (inl none) = inl none
  needed_for inputs taken closed items halt all few (inr (early, late, before, held, parts, short, cut, wanting)) =
      let (others, end, rest) = some inputs closed (with_more held late) in
      let whole : Cut inputs closed (whole_input (early ++ late)) (before ++ others) end = (pieces inputs closed (whole_input early) late before).1 held others end cut rest in
      let same = one inputs closed (whole_input taken) items (before ++ others) halt end all (subst (λ bs. Cut inputs closed (whole_input bs) (before ++ others) end) (sym parts) whole) in
      inr (
        early,
        late,
        before,
        held,
        parts,
        short,
        cut,
        λ enough. few (subst (λ xs. Suffice words (values_by_stream (length inputs) xs) aim) (sym same.0)
            (suffice_longer words (values_by_stream (length inputs) before) (values_by_stream (length inputs) (before ++ others)) aim (values_front turn (length inputs) before others) enough)),
      )

  -- reading has stopped without the items for so many instants: it was done for these
  pub fed_for : (inputs : List InputSpec) (first now : SeenSource) (reader : FeedState) (items : List ItemOf) → reader.reader.ended ≡ true →
      (Suffice words (values_by_stream (length inputs) items) aim → ⊥) → HasFed words more inputs first now reader items → HasFed words aim inputs first now reader items
  fed_for [] first now reader items ended few fed = fed
  fed_for (input ∷ inputs) first now reader items ended few (taken, inl going, needed) = absurd (let open_yet = going.open_yet in cc)
  fed_for (input ∷ inputs) first now reader items ended few (taken, inr (stop, halt, stopped), needed) =
      (taken, inr (stop, halt, stopped), needed_for (input ∷ inputs) taken (is_closed stop) items halt stopped.feed.cut few needed)
