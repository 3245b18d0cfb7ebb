-- What `tighten` owes of a text is one answer, but for the evidence of a refusal or of a least size.
use Rattle.std.proofs.Common.{ℕ, ◌≡◌, List, Some, take, ap, sym, ◌∙◌, subst, inl, inr}
use Rattle.std.specs.Prelude.{slice_get}
use Rattle.lucy_host.specs.Operators.{Operator}
use Rattle.lucy_need.specs.declared.need.Needs.{Needs}
use Rattle.lucy_place.specs.declared.placed.PlacedNode.{PlacedNode}
use Rattle.lucy_clock.specs.declared.node_clock.NodeClock.{NodeClock}
use Rattle.lucy_clock.specs.NodeClocks.{signatures}
use Rattle.lucy_rates.specs.Vectors.{IsShapeOf}
use Rattle.lucy_program.specs.declared.accepted.Accepted.{Accepted}
use Rattle.lucy_program.specs.declared.options.Options.{Options}
use Rattle.lucy_front.specs.declared.refusal.Refusal.{Refusal}
use Rattle.lucy_program.specs.Accepting.{IsAccepted}
use Rattle.lucy_program.specs.Inferring.{node_needs}
use Rattle.lucy_tight.specs.declared.answer.Least.{Least}
use Rattle.lucy_tight.specs.declared.answer.TightError.TheVariants.{Fixed, Limit as LimitPassed}
use Rattle.lucy_tight.specs.Tightening.{needs_at, TheBuffer, IsTightened, RefusesTight, PassesLimit}
use Rattle.lucy_tight.specs.Report.{tight_lines, fixed_lines}
use Rattle.lucy_tight.specs.Laws.{OneTightest}
use Rattle.lucy_app.specs.Outcomes.{OwesNamed}
use Rattle.lucy_app.specs.Answers.{Answer, AreTightAlike, AreOneBut, printed, limit_passed}
use Rattle.lucy_app.specs.Check.{RefusesCheck}
use Rattle.lucy_app.specs.Tighten.{node_named, HasBuffer, IsTightPrint, OwesSize, OwesBuffer, IsTightOf}
use Rattle.lucy_app.proofs.Checked.{checks_apart, checks_alike}
use Rattle.lucy_app.proofs.OwedPrograms.{IsDecided}
use Rattle.lucy_app.proofs.RunsOnce.{AreSame, accepted_same}

-- what holds of a buffer of one program of a text holds of it in another
module _ (a b : Accepted) (same : AreSame a b) (o : Options) where
  buffer_moves : (node buffer : ℕ) → TheBuffer a node buffer → TheBuffer b node buffer
  buffer_moves node buffer of = record {
    n = of.n;
    stands = subst (λ (ns : List PlacedNode). slice_get ns node ≡ Some of.n) same.nodes of.stands;
    c = of.c;
    clocked = subst (λ (cs : List NodeClock). slice_get cs node ≡ Some of.c) same.clocks of.clocked;
    from = of.from;
    to = of.to;
    place = of.place;
    reads = of.reads;
    size = of.size;
    printed = of.printed;
  }

  needs_move : (node : ℕ) (n : PlacedNode) → needs_at a node n ≡ needs_at b node n
  needs_move node n =
      ap (λ (ns : List PlacedNode). node_needs (signatures (take node ns) (take node a.clocks.items)) n) same.nodes
      ∙ ap (λ (cs : List NodeClock). node_needs (signatures (take node b.placed.nodes) (take node cs)) n) same.clocks

  tight_moves : (node buffer : ℕ) (t : Least) → IsTightened a o node buffer t → IsTightened b o node buffer t
  unfolding buffer_moves
  tight_moves node buffer t is = record {
    of = buffer_moves node buffer is.of;
    unwritten = is.unwritten;
    printed = is.printed;
    needs = is.needs ∙ needs_move node is.of.n;
    shape = is.shape;
    tightest = is.tightest;
    sizes = is.sizes;
  }

  fixed_moves : (node buffer size : ℕ) → RefusesTight a o node buffer (Fixed size) → RefusesTight b o node buffer (Fixed size)
  unfolding buffer_moves
  fixed_moves node buffer size (of, written, is) = (buffer_moves node buffer of, written, is)

  limit_moves : (node buffer : ℕ) (l : _) → RefusesTight a o node buffer (LimitPassed l) → RefusesTight b o node buffer (LimitPassed l)
  unfolding buffer_moves
  limit_moves node buffer l (of, unwritten, shape, is_shape, why) = (
    buffer_moves node buffer of,
    unwritten,
    shape,
    subst (λ (ns : Needs). IsShapeOf ns o.scale o.lead shape) (needs_move node of.n) is_shape,
    subst (λ (ns : Needs). PassesLimit ns shape of.from of.to (LimitPassed l)) (needs_move node of.n) why,
  )

  lines_move : (node buffer : ℕ) (t : Least) → tight_lines a node buffer t ≡ tight_lines b node buffer t
  lines_move node buffer t =
      ap (λ ns. tight_lines (record a { placed = record a.placed { nodes = ns } }) node buffer t) same.nodes
      ∙ ap (λ ts. tight_lines (record a { placed = record a.placed { nodes = b.placed.nodes }; typed = ts }) node buffer t) same.typed

  fixed_move : (node buffer size : ℕ) → fixed_lines a node buffer size ≡ fixed_lines b node buffer size
  fixed_move node buffer size = ap (λ ns. fixed_lines (record a { placed = record a.placed { nodes = ns } }) node buffer size) same.nodes

  print_moves : (node buffer : ℕ) (print : List ℕ) → IsTightPrint a o node buffer print → IsTightPrint b o node buffer print
  print_moves node buffer print (inl (t, is, lines)) = inl (t, tight_moves node buffer t is, lines ∙ lines_move node buffer t)
  print_moves node buffer print (inr (size, is, lines)) = inr (size, fixed_moves node buffer size is, lines ∙ fixed_move node buffer size)

  pub named_moves : (name : List ℕ) (buffer : ℕ) (print : List ℕ) → IsTightPrint a o (node_named a.placed.nodes name) buffer print →
      IsTightPrint b o (node_named b.placed.nodes name) buffer print
  named_moves name buffer print is =
      print_moves (node_named b.placed.nodes name) buffer print
      (subst (λ (ns : List PlacedNode). IsTightPrint a o (node_named ns name) buffer print) same.nodes is)

  size_moves : (node buffer : ℕ) (answer : Answer) → OwesSize a o node buffer answer → OwesSize b o node buffer answer
  size_moves node buffer answer (inl (print, is, told)) = inl (print, print_moves node buffer print is, told)
  size_moves node buffer answer (inr (l, is, told)) = inr (l, limit_moves node buffer l is, told)

  has_moves : (name : List ℕ) (buffer : ℕ) → HasBuffer a.placed.nodes name buffer → HasBuffer b.placed.nodes name buffer
  has_moves name buffer has = subst (λ (ns : List PlacedNode). HasBuffer ns name buffer) same.nodes has

  owes_moves : (name : List ℕ) (buffer : ℕ) (answer : Answer) → OwesBuffer a o name buffer answer → OwesBuffer b o name buffer answer
  owes_moves name buffer answer (inl (lacks, told)) =
      inl (λ has. lacks (subst (λ (ns : List PlacedNode). HasBuffer ns name buffer) (sym same.nodes) has), told)
  owes_moves name buffer answer (inr (has, owes)) = inr (
    has_moves name buffer has,
    size_moves (node_named b.placed.nodes name) buffer answer
        (subst (λ (ns : List PlacedNode). OwesSize a o (node_named ns name) buffer answer) same.nodes owes),
  )

module _ (law : OneTightest) (ops : List Operator) (text : List ℕ) (a : Accepted) (o : Options) (is : IsAccepted ops o text a) where
  -- what is printed of a buffer is alike
  pub print_alike : (node buffer : ℕ) (x y : List ℕ) → IsTightPrint a o node buffer x → IsTightPrint a o node buffer y →
      AreOneBut AreTightAlike (printed x) (printed y)
  print_alike node buffer x y (inl (t, tight, lines)) (inl (u, also, others)) =
      inr (a, node, buffer, t, u, law.alike ops text a o node buffer t u is tight also, ap printed lines, ap printed others)
  print_alike node buffer x y (inl (t, tight, lines)) (inr (size, fixed, others)) =
      absurd (law.kept a o node buffer t (Fixed size) tight fixed)
  print_alike node buffer x y (inr (size, fixed, lines)) (inl (u, also, others)) =
      absurd (law.kept a o node buffer u (Fixed size) also fixed)
  print_alike node buffer x y (inr (size, fixed, lines)) (inr (other, also, others)) =
      let e : Fixed size ≡ Fixed other = law.only a o node buffer (Fixed size) (Fixed other) fixed also in
      let same : size ≡ other = cc e in
      inl (ap printed (lines ∙ ap (fixed_lines a node buffer) same ∙ sym others))

  -- and then no limit is passed
  print_apart : (node buffer : ℕ) (x : List ℕ) (l : _) → IsTightPrint a o node buffer x → RefusesTight a o node buffer (LimitPassed l) → ⊥
  print_apart node buffer x l (inl (t, tight, lines)) refused = law.kept a o node buffer t (LimitPassed l) tight refused
  print_apart node buffer x l (inr (size, fixed, lines)) refused =
      let e : Fixed size ≡ LimitPassed l = law.only a o node buffer (Fixed size) (LimitPassed l) fixed refused in
      cc e

  size_alike : (node buffer : ℕ) (x y : Answer) → OwesSize a o node buffer x → OwesSize a o node buffer y →
      AreOneBut AreTightAlike x y
  size_alike node buffer x y (inl (print, prints, told)) (inl (other, also, tells)) =
      let P : Answer → Type 0 = λ u. AreOneBut AreTightAlike u y in
      let Q : Answer → Type 0 = λ u. AreOneBut AreTightAlike (printed print) u in
      subst P (sym told) (subst Q (sym tells) (print_alike node buffer print other prints also))
  size_alike node buffer x y (inl (print, prints, told)) (inr (l, refused, tells)) = absurd (print_apart node buffer print l prints refused)
  size_alike node buffer x y (inr (l, refused, told)) (inl (other, also, tells)) = absurd (print_apart node buffer other l also refused)
  size_alike node buffer x y (inr (l, refused, told)) (inr (m, also, tells)) =
      let e : LimitPassed l ≡ LimitPassed m = law.only a o node buffer (LimitPassed l) (LimitPassed m) refused also in
      let same : l ≡ m = cc e in
      inl (told ∙ ap limit_passed same ∙ sym tells)

  buffer_alike : (name : List ℕ) (buffer : ℕ) (x y : Answer) → OwesBuffer a o name buffer x → OwesBuffer a o name buffer y →
      AreOneBut AreTightAlike x y
  buffer_alike name buffer x y (inl (lacks, told)) (inl (lack, tells)) = inl (told ∙ sym tells)
  buffer_alike name buffer x y (inl (lacks, told)) (inr (has, owed)) = absurd (lacks has)
  buffer_alike name buffer x y (inr (has, owed)) (inl (lacks, told)) = absurd (lacks has)
  buffer_alike name buffer x y (inr (has, owed)) (inr (holds, owes)) = size_alike (node_named a.placed.nodes name) buffer x y owed owes

-- of a text answers are owed that tell the same of a buffer, but for the cycle
pub tight_decided : OneTightest → (ops : List Operator) (o : Options) (name : List ℕ) (buffer : ℕ) →
    IsDecided AreTightAlike (RefusesCheck ops o) (OwesNamed ops o name buffer)
tight_decided law ops o name buffer = record {
  one = λ text x y h k.
      let same = accepted_same ops o text h.0 k.0 h.1 k.1 in
      buffer_alike law ops text k.0 o k.1 name buffer x y (owes_moves h.0 k.0 same o name buffer x h.2) k.2;
  apart = λ text x r h bad. checks_apart ops o text h.0 r h.1 bad;
  same = λ text r s h k. checks_alike ops o text r s h k;
}

-- a text of which something is printed isn't refused
pub tight_unrefused : (ops : List Operator) (o : Options) (name : List ℕ) (buffer : ℕ) (text print : List ℕ) (r : Refusal) →
    IsTightOf ops o name buffer text print → RefusesCheck ops o text r → ⊥
tight_unrefused ops o name buffer text print r is bad = checks_apart ops o text is.0 r is.1 bad

-- and what is owed of it may be printed
pub tight_printed : OneTightest → (ops : List Operator) (o : Options) (name : List ℕ) (buffer : ℕ) (text print : List ℕ) (answer : Answer) →
    IsTightOf ops o name buffer text print → OwesNamed ops o name buffer text answer →
    (other : List ℕ) × IsTightOf ops o name buffer text other × (answer ≡ printed other)
tight_printed law ops o name buffer text print answer (a, is, has, prints) (b, also, inl (lacks, told)) =
    absurd (lacks (has_moves a b (accepted_same ops o text a b is also) o name buffer has))
tight_printed law ops o name buffer text print answer (a, is, has, prints) (b, also, inr (holds, inl (other, printing, told))) =
    (other, (b, also, holds, printing), told)
tight_printed law ops o name buffer text print answer (a, is, has, prints) (b, also, inr (holds, inr (l, refused, told))) =
    let same = accepted_same ops o text a b is also in
    absurd (print_apart law ops text b o also (node_named b.placed.nodes name) buffer print l
    (named_moves a b same o name buffer print prints) refused)

-- prints of one text are alike
pub prints_alike : OneTightest → (ops : List Operator) (o : Options) (name : List ℕ) (buffer : ℕ) (text x y : List ℕ) →
    IsTightOf ops o name buffer text x → IsTightOf ops o name buffer text y → AreOneBut AreTightAlike (printed x) (printed y)
prints_alike law ops o name buffer text x y (a, is, has, prints) (b, also, holds, printing) =
    let same = accepted_same ops o text a b is also in
    print_alike law ops text b o also (node_named b.placed.nodes name) buffer x y
    (named_moves a b same o name buffer x prints) printing
