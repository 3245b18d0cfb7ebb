-- What is known of how full a buffer is.
use Rattle.std.proofs.Common.{ℕ, suc, ◌+◌, ◌-◌, ◌≡◌, ◌≢◌, ◌<◌, List, [], ◌∷◌, ◌++◌, Option, Some, None, length, map, get_or, sym, ap, ◌∙◌, subst, arith, inl, inr}
use Rattle.std.specs.Prelude.{slice_get}
use Rattle.std.specs.Option.{unwrap_or}
use Rattle.std.proofs.lemmas.List.{length_push}
use Rattle.std.proofs.lemmas.List.FromFn.{length-map-range_with_len, get_or-map-range_with_len}
use Rattle.lucy_word.specs.Bits.{Bits, ones_to}
use Rattle.lucy_word.specs.Adaptable.{Precedes, IsSize}
use Rattle.lucy_place.specs.declared.entry.PlaceKind.TheVariants.{Buffer}
use Rattle.lucy_place.specs.declared.placed.PlacedNode.{PlacedNode}
use Rattle.lucy_place.specs.Proper.{IsProperNode, at_one, Stands}
use Rattle.lucy_types.proofs.ListLaws.{get_push}
use Rattle.lucy_need.specs.Meeting.{assigned}
use Rattle.lucy_clock.specs.declared.node_clock.NodeClock.{NodeClock}
use Rattle.lucy_program.specs.Report.{first_operand}
use Rattle.lucy_picture.specs.declared.fill.Fill.{Fill}
use Rattle.lucy_picture.specs.Charts.{instants, marks_of, waiting, TellsFull, IsFill}
use Rattle.lucy_picture.specs.Drawn.{IsDrawn, IsFirstWith}
use Rattle.lucy_picture.proofs.TurnLaws.{operand_is}

module _ (write read : Bits) (size shown : ℕ) (list : List ℕ) (made : list ≡ map (waiting write read) (instants shown)) (precedes : Precedes write read) (is : IsSize write read size) where
  count : length list ≡ shown
  count = ap length made ∙ length-map-range_with_len (waiting write read) 1 shown

  -- how many wait at an instant that is shown
  wait_at : (k i : ℕ) → i ≡ k + 1 → k < shown → get_or list k 0 ≡ ones_to write i - ones_to read i
  wait_at k i e h = ap (λ l. get_or l k 0) made ∙ get_or-map-range_with_len (waiting write read) 1 shown k i 0 h (omega arith)

  -- not as many as the size wait there, which then are fewer
  fewer : (k i : ℕ) → i ≡ k + 1 → k < shown → get_or list k 0 ≢ size → ones_to write i < ones_to read i + size
  fewer k i e h apart =
      let here = wait_at k i e h in
      let most = is.passed i in
      let least = precedes i in omega arith

  pub full_is : (found : Option ℕ) → IsFirstWith list size found → TellsFull write read size shown found
  full_is None none = λ i some most. let all = count in fewer (i - 1) i (omega arith) (omega arith) (none (i - 1) (omega arith))
  full_is (Some at) first =
      let all = count in
      let k = first.0 in
      let next : at ≡ first.0 + 1 = first.1 in
      let within : first.0 < length list = first.2 in
      let here = wait_at first.0 at next (omega arith) in
      let has : get_or list first.0 0 ≡ size = first.3 in
      let least = precedes at in (
        record {
          some = omega arith;
          full = omega arith;
          first = λ i some less. fewer (i - 1) i (omega arith) (omega arith) (first.4 (i - 1) (omega arith));
        },
        omega arith,
      )

-- a buffer by its parts
pub fill_is : (above : List PlacedNode) (n : PlacedNode) (c : NodeClock) (shown number : ℕ) (fill : Fill) (words : List Bits) (write read : Bits) → IsProperNode above n → IsDrawn n c → words ≡ c.words → write ≡ assigned words fill.operand →
    read ≡ assigned words fill.place → fill.buffer ≡ number + 1 → at_one n.buffers (number + 1) ≡ Some fill.place → fill.operand ≡ unwrap_or (first_operand n fill.place) 0 → at_one c.sizes (number + 1) ≡ Some fill.size → fill.written ≡ marks_of write shown →
    fill.read ≡ marks_of read shown → fill.waits ≡ map (waiting write read) (instants shown) → IsFirstWith fill.waits fill.size fill.full → IsFill n c shown (number + 1) fill
fill_is above n c shown number fill words write read proper drawn same write_is read_is numbered place operand size written reading waits found =
    let next : number + 1 ≡ suc number = omega arith in
    let own = proper.buffers (number + 1) fill.place place in
    let reads : Stands n fill.place (Buffer (number + 1) fill.operand) = subst (λ e. Stands n fill.place (Buffer (number + 1) e)) (sym (operand ∙ operand_is n fill.place (number + 1) own.0 own.1)) own.1 in
    let a : Bits = assigned c.words fill.operand in
    let b : Bits = assigned c.words fill.place in
    let write_a : write ≡ a = write_is ∙ ap (λ ws. assigned ws fill.operand) same in
    let read_b : read ≡ b = read_is ∙ ap (λ ws. assigned ws fill.place) same in
    let greatest = drawn.sizes.each number fill.place (number + 1) fill.operand fill.size (subst (λ k. at_one n.buffers k ≡ Some fill.place) next place) (subst (λ k. at_one c.sizes k ≡ Some fill.size) next size) reads in
    let before = drawn.precedes fill.place (number + 1) fill.operand reads in
    let made : fill.waits ≡ map (waiting a b) (instants shown) = waits ∙ ap (λ w. map (waiting w read) (instants shown)) write_a ∙ ap (λ r. map (waiting a r) (instants shown)) read_b in
    record {
      number = numbered;
      place = place;
      reads = reads;
      size = size;
      greatest = greatest;
      written = written ∙ ap (λ w. marks_of w shown) write_a;
      read = reading ∙ ap (λ w. marks_of w shown) read_b;
      waits = made;
      counts = λ i. let h = before i in omega arith;
      full = full_is a b fill.size shown fill.waits made before greatest fill.full found;
    }

-- one buffer more
pub fills_more : (n : PlacedNode) (c : NodeClock) (shown i : ℕ) (old new : List Fill) (fill : Fill) → length old ≡ i → ((k : ℕ) (f : Fill) → slice_get old k ≡ Some f → IsFill n c shown (k + 1) f) → new ≡ old ++ fill ∷ [] → IsFill n c shown (i + 1) fill →
    (length new ≡ i + 1) × ((k : ℕ) (f : Fill) → slice_get new k ≡ Some f → IsFill n c shown (k + 1) f)
fills_more n c shown i old new fill count before more own = (
  (let a = ap length more in let b = length_push old fill in omega arith),
  λ k f at.
      elim (get_push old fill k f (ap (λ l. slice_get l k) (sym more) ∙ at)) [
        | inl x ↦ before k f x.1
        | inr x ↦ subst (λ g. IsFill n c shown (k + 1) g) x.1 (subst (λ j. IsFill n c shown (j + 1) fill) (sym (x.0 ∙ count)) own)
      ],
)
