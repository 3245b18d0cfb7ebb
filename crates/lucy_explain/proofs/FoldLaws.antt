-- Lines one after the other.
use Rattle.std.proofs.Common.{◌≡◌, ℕ, ◌<◌, List, [], ◌∷◌, ◌++◌, length, drop, sym, ap, ◌∙◌, subst, arith}
use Rattle.std.specs.List.{All}
use Rattle.std.proofs.lemmas.List.{append-nil}
use Rattle.std.proofs.lemmas.List.Elements.{All-same, All-drop}
use Rattle.lucy_solve.specs.declared.diffs.Diff.{Diff}
use Rattle.lucy_explain.specs.declared.line.Line.{Line}
use Rattle.lucy_solve.specs.System.{DifferenceSystem}
use Rattle.lucy_need.specs.declared.need.Needs.{Needs}
use Rattle.lucy_shape.specs.declared.shape.Shape.{Shape}
use Rattle.lucy_explain.specs.declared.fold.Folded.{Folded}
use Rattle.lucy_explain.specs.Folds.{Folds, FoldTo, Fold}
use Rattle.lucy_explain.specs.Streams.{AreStreams, variable_streams}
use Rattle.lucy_explain.specs.Folded.{IsOfOneStream, AreOfOneStream, IsLongest, AreLongest, IsFolded}

-- one line more
pub fold_more : (list : List Diff) (positions : List ℕ) (lines : List Line) (rest : List ℕ) (line : Line) → FoldTo list positions lines rest → Folds list rest line →
    FoldTo list positions (lines ++ line ∷ []) (drop line.count rest)
fold_more list positions [] rest line is f = (subst (λ ps. Folds list ps line) (sym is) f, ap (drop line.count) is)
fold_more list positions (first ∷ lines) rest line (g, more) f = (g, fold_more list (drop first.count positions) lines rest line more f)

pub stream_more : (streams : List ℕ) (list : List Diff) (positions : List ℕ) (lines : List Line) (rest : List ℕ) (line : Line) → FoldTo list positions lines rest →
    AreOfOneStream streams list positions lines → IsOfOneStream streams list rest line → AreOfOneStream streams list positions (lines ++ line ∷ [])
stream_more streams list positions [] rest line is all one = (subst (λ ps. IsOfOneStream streams list ps line) (sym is) one, tt)
stream_more streams list positions (first ∷ lines) rest line (g, more) (head, all) one = (head, stream_more streams list (drop first.count positions) lines rest line more all one)

longest_more : (streams : List ℕ) (list : List Diff) (positions : List ℕ) (lines : List Line) (rest : List ℕ) (line : Line) → FoldTo list positions lines rest →
    AreLongest streams list positions lines → IsLongest streams list rest line → AreLongest streams list positions (lines ++ line ∷ [])
longest_more streams list positions [] rest line is all one = (subst (λ ps. IsLongest streams list ps line) (sym is) one, tt)
longest_more streams list positions (first ∷ lines) rest line (g, more) (head, all) one = (head, longest_more streams list (drop first.count positions) lines rest line more all one)

-- one step of the telling
pub lines_step : (list : List Diff) (streams positions : List ℕ) (lines : List Line) (rest : List ℕ) (line : Line) (told : List Line) (next : List ℕ) →
    FoldTo list positions lines rest → AreOfOneStream streams list positions lines → AreLongest streams list positions lines → All (λ p. p < length list) rest → Folds list rest line →
    IsOfOneStream streams list rest line → IsLongest streams list rest line → told ≡ lines ++ line ∷ [] → next ≡ drop line.count rest →
    FoldTo list positions told next × AreOfOneStream streams list positions told × AreLongest streams list positions told × All (λ p. p < length list) next
lines_step list streams positions lines rest line told next fold streamed longest there folds one long is moved = (
  subst (λ (ls : List Line). FoldTo list positions ls next) (sym is)
      (subst (λ (ps : List ℕ). FoldTo list positions (lines ++ line ∷ []) ps) (sym moved) (fold_more list positions lines rest line fold folds)),
  subst (λ (ls : List Line). AreOfOneStream streams list positions ls) (sym is) (stream_more streams list positions lines rest line fold streamed one),
  subst (λ (ls : List Line). AreLongest streams list positions ls) (sym is) (longest_more streams list positions lines rest line fold longest long),
  All-same (λ p. p < length list) next (drop line.count rest) moved (All-drop (λ p. p < length list) line.count rest there),
)

-- a chain is folded as a cycle that is not turned
pub folded_chain : (needs : Needs) (shape : Shape) (diffs : DifferenceSystem) (chain : List ℕ) (told : Folded) (streams found : List ℕ) → AreStreams needs.list needs.clocks streams →
    found ≡ variable_streams needs.clocks streams shape.clocks → told.cycle.items ≡ chain → Fold diffs.list chain told.lines.items → AreOfOneStream found diffs.list chain told.lines.items →
    AreLongest found diffs.list chain told.lines.items → IsFolded needs shape diffs chain told
folded_chain needs shape diffs chain told streams found are is same fold streamed longest =
    let back = sym same in
    record {
      streams = streams;
      are = are;
      turned = (0, omega arith, same ∙ sym (append-nil chain));
      fold = subst (λ (ps : List ℕ). Fold diffs.list ps told.lines.items) back fold;
      stream = subst (λ (ps : List ℕ). AreOfOneStream (variable_streams needs.clocks streams shape.clocks) diffs.list ps told.lines.items) back
          (subst (λ (s : List ℕ). AreOfOneStream s diffs.list chain told.lines.items) is streamed);
      longest = subst (λ (ps : List ℕ). AreLongest (variable_streams needs.clocks streams shape.clocks) diffs.list ps told.lines.items) back
          (subst (λ (s : List ℕ). AreLongest s diffs.list chain told.lines.items) is longest);
    }
