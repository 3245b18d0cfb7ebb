-- A written program stands for what it is accepted as alone.
use Rattle.std.proofs.Common.{ℕ, suc, ◌<◌, ◌≡◌, List, [], length, take, Some, slice_get, ap, sym, ◌∙◌, subst, arith}
use Rattle.std.specs.List.{AllByRecursion}
use Rattle.std.proofs.lemmas.List.{take_all}
use Rattle.std.proofs.lemmas.Option.{slice_get_within}
use Rattle.lucy_word.specs.Bits.{Bits}
use Rattle.lucy_word.specs.Shortest.{IsShortest}
use Rattle.lucy_word.specs.Adaptable.{IsSize}
use Rattle.lucy_word.proofs.Lists.{same_entries}
use Rattle.lucy_host.specs.Operators.{Operator}
use Rattle.lucy_host.proofs.Elements.{get_there}
use Rattle.lucy_tree.specs.View.{ProgramTree}
use Rattle.lucy_grammar.specs.Laws.{TextsHaveOneAnswer}
use Rattle.lucy_grammar.specs.Texts.{HasTree}
use Rattle.lucy_place.specs.declared.placed.PlacedNode.{PlacedNode}
use Rattle.lucy_place.specs.Proper.{IsProperNode, AreProper}
use Rattle.lucy_place.specs.WrittenNodes.{IsWritten}
use Rattle.lucy_types.specs.declared.ty.Ty.{Ty}
use Rattle.lucy_types.specs.Programs.{IsTyped}
use Rattle.lucy_types.proofs.ProgramLaws.{typed_unique}
use Rattle.lucy_need.specs.Meeting.{assigned}
use Rattle.lucy_clock.specs.declared.node_clock.NodeClock.{NodeClock}
use Rattle.lucy_clock.specs.Laws.{HandedLaw}
use Rattle.lucy_clock.specs.NodeClocks.{AreSizes}
use Rattle.lucy_check.proofs.OneVerdict.{one_size}
use Rattle.lucy_flat.specs.Clocked.{AreClocked}
use Rattle.lucy_program.specs.declared.accepted.Accepted.{Accepted}
use Rattle.lucy_program.specs.declared.options.Options.{Options}
use Rattle.lucy_program.specs.Accepting.{IsAccepted}
use Rattle.lucy_program.specs.Clocked.{AreClocksOf}
use Rattle.lucy_program.proofs.AcceptedLaws.{text_proper}
use Rattle.lucy_right.specs.Right.{Meaning, StandsFor}
use Rattle.lucy_right.specs.Owed.{meaning_of, AcceptedStand}
use Rattle.lucy_right.specs.Accepted.{WrittenStandForOne}
use Rattle.lucy_right.proofs.ClockLaws.{same_words}
use Rattle.lucy_right.proofs.RefusedLaws.{text_nodes}

-- by the same words a node has the same sizes
module _ (nodes : List PlacedNode) (n : PlacedNode) (proper : IsProperNode nodes n) (c d : NodeClock) (words : c.words ≡ d.words) (x : AreSizes n c) (y : AreSizes n d) where
  size_same : (i s t : ℕ) → slice_get c.sizes i ≡ Some s → slice_get d.sizes i ≡ Some t → s ≡ t
  size_same i s t at of =
      let place = get_there n.buffers i (subst (λ k. i < k) x.count (slice_get_within c.sizes i s at)) in
      let own = proper.buffers (suc i) place.0 place.1 in
      one_size (assigned c.words own.0) (assigned c.words place.0) s t (x.each i place.0 (suc i) own.0 s place.1 at own.1)
      (subst (λ (ws : List Bits). IsSize (assigned ws own.0) (assigned ws place.0) t) (sym words) (y.each i place.0 (suc i) own.0 t place.1 of own.1))

  clock_same : c ≡ d
  clock_same =
      let sizes : c.sizes ≡ d.sizes = same_entries c.sizes d.sizes (x.count ∙ sym y.count) size_same in
      ap (λ (ws : List Bits). let r : NodeClock = record { words = ws; sizes = c.sizes } in r) words
      ∙ ap (λ (ss : List ℕ). let r : NodeClock = record { words = d.words; sizes = ss } in r) sizes

-- written nodes have one list of clocks in shortest form, where one is within the limits
module _ (handed : HandedLaw) (o : Options) (nodes : List PlacedNode) (cs ds : List NodeClock) (proper : AreProper nodes) (written : AllByRecursion IsWritten nodes) (clocked : AreClocked nodes cs)
    (short : AllByRecursion (λ (c : NodeClock). AllByRecursion IsShortest c.words) cs) (other : AreClocked nodes ds) (within : AreClocksOf o nodes ds) where
  here : take (length nodes) nodes ≡ nodes
  here = take_all (length nodes) nodes (omega arith)

  words_at : (i : ℕ) (c d : NodeClock) → slice_get cs i ≡ Some c → slice_get ds i ≡ Some d → c.words ≡ d.words
  words_at i c d of is =
      let all : take (length nodes) cs ≡ cs = take_all (length nodes) cs (omega (arith, clocked.count)) in
      same_words handed o nodes cs proper written clocked short (length nodes) (omega arith) ds (subst (λ ns. AreClocksOf o ns ds) (sym here) within) i c d (ap (λ xs. slice_get xs i) all ∙ of) is

  clock_at : (i : ℕ) (c d : NodeClock) → slice_get cs i ≡ Some c → slice_get ds i ≡ Some d → c ≡ d
  clock_at i c d of is =
      let n = get_there nodes i (omega (arith, slice_get_within cs i c of, clocked.count)) in
      clock_same (take i nodes) n.0 (proper i n.0 n.1) c d (words_at i c d of is) (clocked.each i n.0 c n.1 of).sizes (other.each i n.0 d n.1 is).sizes

  clocks_one : cs ≡ ds
  clocks_one = same_entries cs ds (clocked.count ∙ sym other.count) clock_at

-- the laws below that are called
pub record Laws : Type 0 where
  pub texts : TextsHaveOneAnswer
  pub handed : HandedLaw
  pub stand : AcceptedStand

module _ (laws : Laws) (ops : List Operator) (o : Options) (text : List ℕ) (a : Accepted) (is : IsAccepted ops o text a) where
  -- what it is accepted as, of its nodes
  stands_as : (nodes : List PlacedNode) → a.placed.nodes ≡ nodes → IsTyped nodes a.typed × AreClocked nodes a.clocks.items × AreClocksOf o nodes a.clocks.items × AreProper nodes
  stands_as nodes e =
      let stands = (laws.stand ops o text a is).2 in
      subst (λ ns. IsTyped ns a.typed × AreClocked ns a.clocks.items × AreClocksOf o ns a.clocks.items × AreProper ns) e
      (is.clocked.program.typed, stands.clocked, is.clocked.clocks, text_proper ops o text a.placed is.clocked.program.program)

  meaning_same : (m : Meaning) → m.nodes ≡ a.placed.nodes → m.types ≡ a.typed → m.clocks ≡ a.clocks.items → m ≡ meaning_of a
  meaning_same m nodes types clocks =
      ap (λ (ns : List PlacedNode). let r : Meaning = record { nodes = ns; types = m.types; clocks = m.clocks } in r) nodes
      ∙ ap (λ (ts : List (List Ty)). let r : Meaning = record { nodes = a.placed.nodes; types = ts; clocks = m.clocks } in r) types
      ∙ ap (λ (cs : List NodeClock). let r : Meaning = record { nodes = a.placed.nodes; types = a.typed; clocks = cs } in r) clocks

  meaning_one : (program : ProgramTree) (m : Meaning) → HasTree text program → StandsFor ops program m → AllByRecursion IsWritten m.nodes → m ≡ meaning_of a
  meaning_one program m read stands written =
      let nodes : a.placed.nodes ≡ m.nodes = text_nodes laws.texts ops text program m read stands a.placed is.clocked.program.program in
      let (typed, clocked, within, proper) = stands_as m.nodes nodes in
      meaning_same m (sym nodes) (typed_unique m.nodes m.types a.typed stands.typed typed)
      (clocks_one laws.handed o m.nodes m.clocks a.clocks.items proper written stands.clocked stands.shortest clocked within)

pub one_meaning : Laws → WrittenStandForOne
one_meaning laws ops o text a m is (program, read, stands) written = meaning_one laws ops o text a is program m read stands written
