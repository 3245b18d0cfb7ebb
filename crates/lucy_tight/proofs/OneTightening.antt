-- A buffer of an accepted program has one answer but for the cycle, or one reason why nothing is told.
use Rattle.std.proofs.Common.{◌≡◌, ℕ, suc, List, Some, Result, Ok, Err, inl, inr, sym, ap, ◌∙◌, subst, arith}
use Rattle.std.specs.Prelude.{◌⊎◌, IfOk, IfErr, MatchResult}
use Rattle.std.proofs.lemmas.List.{ext_get_or}
use Rattle.std.proofs.lemmas.Option.{same_Some, slice_get-get_or}
use Rattle.lucy_host.specs.Operators.{Operator}
use Rattle.lucy_word.specs.Bits.{Bits}
use Rattle.lucy_host.proofs.Elements.{get_there}
use Rattle.lucy_place.specs.declared.entry.PlaceKind.TheVariants.{Buffer}
use Rattle.lucy_place.specs.declared.placed.PlacedNode.{PlacedNode}
use Rattle.lucy_place.specs.Standing.{at_one, Stands}
use Rattle.lucy_place.specs.WrittenNodes.{IsWritten}
use Rattle.lucy_need.specs.Meeting.{assigned}
use Rattle.lucy_need.specs.declared.need.Needs.{Needs}
use Rattle.lucy_check.proofs.OneVerdict.{one_size}
use Rattle.lucy_clock.specs.declared.node_clock.NodeClock.{NodeClock}
use Rattle.lucy_clock.specs.NodeClocks.{AreSizes}
use Rattle.lucy_shape.specs.declared.shape.Shape.{Shape}
use Rattle.lucy_rates.specs.Vectors.{IsShapeOf}
use Rattle.lucy_rates.proofs.OneShape.{one_shape}
use Rattle.lucy_program.specs.declared.accepted.Accepted.{Accepted}
use Rattle.lucy_program.specs.declared.options.Options.{Options}
use Rattle.lucy_program.specs.Accepting.{IsAccepted}
use Rattle.lucy_program.proofs.AcceptedLaws.{text_proper}
use Rattle.lucy_tight.specs.declared.answer.Least.{Least}
use Rattle.lucy_tight.specs.declared.answer.TightError.{TightError}
use Rattle.lucy_tight.specs.declared.answer.TightError.TheVariants.{Fixed, Limit as LimitPassed, OutOfMemory}
use Rattle.lucy_tight.specs.Tightening.{needs_at, TheBuffer, AreTight, PassesLimit, IsTightened, RefusesTight, AreAlike}
use Rattle.lucy_tight.proofs.BufferLaws.{operand_one}
use Rattle.lucy_tight.proofs.OneTightest.{alike, kept, only}

-- a node has one list of sizes at its words
sizes_one : (n : PlacedNode) (words : List Bits) (xs ys : List ℕ) → ((k p : ℕ) → at_one n.buffers k ≡ Some p → (e : ℕ) × Stands n p (Buffer k e)) →
    AreSizes n (record { words = words; sizes = xs }) → AreSizes n (record { words = words; sizes = ys }) → xs ≡ ys
sizes_one n words xs ys numbered first second =
    ext_get_or 0 xs ys (first.count ∙ sym second.count) (λ i l.
    let place = get_there n.buffers i (omega (arith, first.count)) in
    let own = numbered (suc i) place.0 place.1 in
    let x = slice_get-get_or xs i 0 l in
    let y = slice_get-get_or ys i 0 (omega (arith, first.count, second.count)) in
    one_size (assigned words own.0) (assigned words place.0) _ _ (first.each i place.0 (suc i) own.0 _ place.1 x own.1) (second.each i place.0 (suc i) own.0 _ place.1 y own.1))

module _ (a : Accepted) (node buffer : ℕ) (x y : TheBuffer a node buffer) where
  pub same_node : x.n ≡ y.n
  same_node = same_Some x.n y.n (sym x.stands ∙ y.stands)

  same_clock : x.c ≡ y.c
  same_clock = same_Some x.c y.c (sym x.clocked ∙ y.clocked)

  pub same_place : x.to ≡ y.to
  same_place = same_Some x.to y.to (sym x.place ∙ ap (λ (n : PlacedNode). at_one n.buffers buffer) same_node ∙ y.place)

  pub same_operand : x.from ≡ y.from
  same_operand =
      operand_one y.n y.to buffer x.from buffer y.from
      (subst (λ p. Stands y.n p (Buffer buffer x.from)) same_place (subst (λ n. Stands n x.to (Buffer buffer x.from)) same_node x.reads)) y.reads

  pub same_size : x.size ≡ y.size
  same_size = same_Some x.size y.size (sym x.printed ∙ ap (λ (c : NodeClock). at_one c.sizes buffer) same_clock ∙ y.printed)

  pub same_needs : needs_at a node x.n ≡ needs_at a node y.n
  same_needs = ap (needs_at a node) same_node

module _ (a : Accepted) (o : Options) (node buffer : ℕ) where
  -- what is told, by the numbers of another finding of the buffer
  moved : (one two : Least) (first : IsTightened a o node buffer one) (second : IsTightened a o node buffer two) → one.needs ≡ two.needs
  moved one two first second = first.needs ∙ same_needs a node buffer first.of second.of ∙ sym second.needs

  shapes : (one two : Least) (first : IsTightened a o node buffer one) (second : IsTightened a o node buffer two) → one.shape ≡ two.shape
  shapes one two first second =
      one_shape two.needs o.scale o.lead one.shape two.shape (subst (λ (x : Needs). IsShapeOf x o.scale o.lead one.shape) (moved one two first second) first.shape) second.shape

  tightest : (one two : Least) (first : IsTightened a o node buffer one) (second : IsTightened a o node buffer two) →
      AreTight two.needs two.shape second.of.from second.of.to one.least one.clocks.words one.diffs one.cycle.items
  tightest one two first second =
      subst (λ (x : Needs). AreTight x two.shape second.of.from second.of.to one.least one.clocks.words one.diffs one.cycle.items) (moved one two first second)
      (subst (λ (s : Shape). AreTight one.needs s second.of.from second.of.to one.least one.clocks.words one.diffs one.cycle.items) (shapes one two first second)
      (subst (λ k. AreTight one.needs one.shape k second.of.to one.least one.clocks.words one.diffs one.cycle.items) (same_operand a node buffer first.of second.of)
      (subst (λ k. AreTight one.needs one.shape first.of.from k one.least one.clocks.words one.diffs one.cycle.items) (same_place a node buffer first.of second.of) first.tightest)))

  pub tightened_alike : (ops : List Operator) (text : List ℕ) → IsAccepted ops o text a → (one two : Least) → IsTightened a o node buffer one → IsTightened a o node buffer two → AreAlike one two
  tightened_alike ops text accepted one two first second =
      let same = alike two.needs two.shape second.of.from second.of.to second.shape.wide.clocks one.least two.least one.clocks.words two.clocks.words one.diffs two.diffs one.cycle.items two.cycle.items (tightest one two first second) second.tightest in
      let proper = text_proper ops o text a.placed accepted.clocked.program.program node second.of.n second.of.stands in
      let sizes : AreSizes second.of.n (record { words = two.clocks.words; sizes = one.clocks.sizes }) =
      subst (λ (ws : List Bits). AreSizes second.of.n (record { words = ws; sizes = one.clocks.sizes })) same.1
      (subst (λ n. AreSizes n one.clocks) (same_node a node buffer first.of second.of) first.sizes) in
      let measured = sizes_one second.of.n two.clocks.words one.clocks.sizes two.clocks.sizes proper.buffers sizes second.sizes in
      record {
        printed = first.printed ∙ same_size a node buffer first.of second.of ∙ sym second.printed;
        least = same.0;
        clocks = ap (λ (ws : List Bits). let r : NodeClock = record { words = ws; sizes = one.clocks.sizes } in r) same.1
            ∙ ap (λ (ss : List ℕ). let r : NodeClock = record { words = two.clocks.words; sizes = ss } in r) measured;
        needs = moved one two first second;
        shape = shapes one two first second;
        diffs = same.2;
      }

  -- a refusal in a shape, by the numbers of another finding of the buffer
  refused_at : (x y : TheBuffer a node buffer) (shape other : Shape) (e : TightError) → IsShapeOf (needs_at a node x.n) o.scale o.lead shape → IsShapeOf (needs_at a node y.n) o.scale o.lead other →
      PassesLimit (needs_at a node x.n) shape x.from x.to e → PassesLimit (needs_at a node y.n) other y.from y.to e
  refused_at x y shape other e is of refused =
      let here = subst (λ (z : Needs). IsShapeOf z o.scale o.lead shape) (same_needs a node buffer x y) is in
      let same = one_shape (needs_at a node y.n) o.scale o.lead shape other here of in
      subst (λ (s : Shape). PassesLimit (needs_at a node y.n) s y.from y.to e) same
      (subst (λ (z : Needs). PassesLimit z shape y.from y.to e) (same_needs a node buffer x y)
      (subst (λ k. PassesLimit (needs_at a node x.n) shape k y.to e) (same_operand a node buffer x y)
      (subst (λ k. PassesLimit (needs_at a node x.n) shape x.from k e) (same_place a node buffer x y) refused)))

  pub tightened_kept : (t : Least) (e : TightError) → IsTightened a o node buffer t → RefusesTight a o node buffer e → ⊥
  tightened_kept t (Fixed size) is refused = is.unwritten (subst IsWritten (same_node a node buffer refused.0 is.of) refused.1)
  tightened_kept t OutOfMemory is refused = refused.4
  tightened_kept t (LimitPassed l) is refused =
      let shape = subst (λ (z : Needs). IsShapeOf z o.scale o.lead t.shape) is.needs is.shape in
      let here = refused_at refused.0 is.of refused.2 t.shape (LimitPassed l) refused.3 shape refused.4 in
      kept t.needs t.shape is.of.from is.of.to is.shape.wide.clocks t.least t.clocks.words t.diffs t.cycle.items (LimitPassed l) is.tightest
      (subst (λ (z : Needs). PassesLimit z t.shape is.of.from is.of.to (LimitPassed l)) (sym is.needs) here)

  pub refused_only : (e f : TightError) → RefusesTight a o node buffer e → RefusesTight a o node buffer f → e ≡ f
  refused_only OutOfMemory f p q = absurd (p.4)
  refused_only (Fixed size) OutOfMemory p q = absurd (q.4)
  refused_only (Fixed size) (Fixed other) p q = ap Fixed (p.2 ∙ same_size a node buffer p.0 q.0 ∙ sym q.2)
  refused_only (Fixed size) (LimitPassed l) p q = absurd (q.1 (subst IsWritten (same_node a node buffer p.0 q.0) p.1))
  refused_only (LimitPassed l) OutOfMemory p q = absurd (q.4)
  refused_only (LimitPassed l) (Fixed size) p q = absurd (p.1 (subst IsWritten (same_node a node buffer q.0 p.0) q.1))
  refused_only (LimitPassed l) (LimitPassed m) p q =
      only (needs_at a node q.0.n) q.2 q.0.from q.0.to q.3.wide.clocks (LimitPassed l) (LimitPassed m) (refused_at p.0 q.0 p.2 q.2 (LimitPassed l) p.3 q.3 p.4) q.4

  -- so where it is refused so, no answer but this or want of memory is right
  pub matched : (r : Result Least TightError) → IfOk r (IsTightened a o node buffer) → IfErr r (λ e. (e ≡ OutOfMemory) ⊎ RefusesTight a o node buffer e) → (e : TightError) → RefusesTight a o node buffer e →
      MatchResult r (λ t. ⊥) (λ f. (f ≡ OutOfMemory) ⊎ (f ≡ e))
  matched (Ok t) ok err e refused = tightened_kept t e ok refused
  matched (Err f) ok (inl none) e refused = inl none
  matched (Err f) ok (inr other) e refused = inr (refused_only f e other refused)
