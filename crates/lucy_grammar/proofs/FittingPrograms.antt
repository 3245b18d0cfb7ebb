-- What is printed of a program may stand from the start of a text on.
use Rattle.std.proofs.Common.{◌≡◌, ℕ, ◌+◌, ◌<◌, ◌≤◌, List, [], ◌∷◌, ◌++◌, length, Option, Some, None, map, refl, ap, sym, ◌∙◌, subst, arith, length-append}
use Rattle.std.specs.List.{AllByRecursion}
use Rattle.std.proofs.lemmas.List.{append-nil, length-map}
use Rattle.lucy_word.specs.Bits.{Bits}
use Rattle.lucy_host.specs.declared.data_type.DataType.{DataType}
use Rattle.lucy_host.specs.declared.data_type.DataType.TheVariants as holds
use Rattle.lucy_tree.specs.declared.span.Name as name
use Rattle.lucy_tree.specs.declared.decl.Decl as decl
use Rattle.lucy_tree.specs.Tree.{Tree, literal, variable, operator, host, sampled, merged, followed, buffered, call}
use Rattle.lucy_tree.specs.View.{DefTree, NodeTree, ProgramTree}
use Rattle.lucy_token.specs.declared.mark.Mark.TheVariants as mark
use Rattle.lucy_token.specs.declared.token.Kind.TheVariants as kind
use Rattle.lucy_token.specs.declared.token.What.{What}
use Rattle.lucy_token.specs.declared.token.What.TheVariants as what
use Rattle.lucy_token.specs.declared.state.Side.{Side}
use Rattle.lucy_token.specs.declared.state.Side.TheVariants as side
use Rattle.lucy_token.specs.Before.{precedes_operand}
use Rattle.lucy_token.specs.States.{ScanState, start, after, side_defined}
use Rattle.lucy_token.specs.Printed.{Printed, in_print, whats_of}
use Rattle.lucy_token.proofs.StateLaws.{before_after}
use Rattle.lucy_tree.specs.Shaped.{IsCall, Defines}
use Rattle.lucy_grammar.specs.Printable.{IsPrintableDef, IsPrintableNode, IsPrintableProgram, Anywhere}
use Rattle.lucy_grammar.specs.PrintTokens.{blank, indent, line, the, spaced, words, commas, parens, name_token, printed, printed_decl, printed_left, printed_def, more_defs, printed_body, printed_node, more_nodes, printed_program}
use Rattle.lucy_grammar.specs.PrintTokens as print
use Rattle.lucy_grammar.proofs.Cores.{core, put_after}
use Rattle.lucy_grammar.proofs.Weights.{weight, IsLight, AreLight}
use Rattle.lucy_grammar.proofs.FewEntries.{most, IsFew, IsFewDef, IsFewNode}
use Rattle.lucy_grammar.proofs.Levels.{Keeps, keeps_then, keeps_plain, IsLevel, level_equals, level_and, level_rec, level_let, let_head, still_head, IsStill, opened_still, rec_left, and_left, defined, begins_behind}
use Rattle.lucy_grammar.proofs.Fitting.{deepest, AllFit, IsReady, IsOperand, IsLast, IsDeclared, split_whats, whats_of-after, fits_plain, fits_mark, tail_none, operand_of, tail_declared, later, last_end, tail_plain, declared_plain, declared_one, list_fit}
use Rattle.lucy_grammar.proofs.FittingTrees.{weight-append, call_last, tree_fits, all_alone}

-- declarations and names
declared_of : {at : Side} {e : ℕ} (n : name.Name) (t : Option DataType) (w : Option Bits) → IsDeclared at e (printed_decl (record { name = n; holds = t; word = w }))
declared_of n None None = declared_one [] (what.Name n.text) refl refl refl
declared_of n None (Some w) = declared_plain [] (what.Name n.text) refl refl (declared_plain blank (what.Mark mark.Colons) refl refl (declared_one blank (what.Word w) refl refl refl))
declared_of n (Some holds.Int) None = declared_plain [] (what.Name n.text) refl refl (declared_plain blank (what.Mark mark.Colon) refl refl (declared_one blank (what.Mark mark.Int) refl refl refl))
declared_of n (Some holds.Bool) None = declared_plain [] (what.Name n.text) refl refl (declared_plain blank (what.Mark mark.Colon) refl refl (declared_one blank (what.Mark mark.Bool) refl refl refl))
declared_of n (Some holds.Int) (Some w) =
    declared_plain [] (what.Name n.text) refl refl (declared_plain blank (what.Mark mark.Colon) refl refl (declared_plain blank (what.Mark mark.Int) refl refl (declared_plain blank (what.Mark mark.Colons) refl refl (declared_one blank (what.Word w) refl refl refl))))
declared_of n (Some holds.Bool) (Some w) =
    declared_plain [] (what.Name n.text) refl refl (declared_plain blank (what.Mark mark.Colon) refl refl (declared_plain blank (what.Mark mark.Bool) refl refl (declared_plain blank (what.Mark mark.Colons) refl refl (declared_one blank (what.Word w) refl refl refl))))

decls_fit : (at : Side) (ds : List decl.Decl) → AllByRecursion (IsOperand at 0) (map printed_decl ds)
decls_fit at [] = tt
decls_fit at (d ∷ ds) = (operand_of (tail_declared (declared_of d.name d.holds d.word)), decls_fit at ds)

names_fit : (at : Side) (ns : List name.Name) → AllByRecursion (IsOperand at 0) (map name_token ns)
names_fit at [] = tt
names_fit at (n ∷ ns) = (operand_of (tail_plain [] (what.Name n.text) refl refl tail_none), names_fit at ns)

-- nothing is open
record IsTop (s : ScanState) : Type 0 where
  outer : s.outer ≡ []
  commas : s.level.commas ≡ 0

top_keeps : {s j : ScanState} → IsTop s → Keeps s j → IsTop j
top_keeps t k = record { outer = k.outer ∙ t.outer; commas = k.commas ∙ t.commas }

top_level : {s j : ScanState} → IsTop s → IsLevel s j → IsTop j
top_level t k = record { outer = k.outer ∙ t.outer; commas = k.commas ∙ t.commas }

few_top : (s : ScanState) → IsTop s → s.level.commas < most
few_top s t = omega (arith, t.commas)

ready_top : {at : Side} {e : ℕ} {s : ScanState} → s.side ≡ at → e ≤ deepest → IsTop s → IsReady at e s
ready_top a h t = record { here = a; room = omega (arith, h, ap length t.outer); few = omega (arith, t.commas) }

-- a list where nothing is open
top_list : (at : Side) (xs : List (List Printed)) → AllByRecursion (IsOperand at 0) xs → length xs ≤ most → IsStill at → (s : ScanState) (ws : List What) → s.side ≡ at → IsTop s →
    ((j : ScanState) → j.side ≡ at → IsTop j → j.before ≡ kind.Mark mark.Close → AllFit j ws) → AllFit s (whats_of (parens (commas xs)) ++ ws)
top_list at xs h few still s ws a t k =
    list_fit at 0 xs h few s ws (opened_still s (subst IsStill (sym a) still) ∙ a) (omega (arith, ap length t.outer)) (few_top s t) (λ j b o l c. k j b (record { outer = o ∙ t.outer; commas = ap (λ u. u.commas) l ∙ t.commas }) c)

-- the right side of a definition
right_of : (right : Tree) (j : ScanState) (ws : List What) → weight (printed right) ≤ deepest → IsFew right → j.side ≡ side.Left → side_defined j.before ≡ side.Right → IsTop j → ((i : ScanState) → IsTop i → AllFit i ws) →
    AllFit j (whats_of (in_print blank (what.Mark mark.Equals) ∷ (print.after blank (printed right) ++ [])) ++ ws)
right_of right j ws h few a d t k =
    let q : ScanState = after j (kind.Mark mark.Equals) in
    let at : q.side ≡ side.Right = defined j a ∙ d in
    let top : IsTop q = top_level t (level_equals j) in (
      fits_mark j mark.Equals (few_top j t) (λ g. absurd cc),
      (later (tree_fits right few)).fits q ws (ready_top at h top) (λ g. begins_behind q at (ap precedes_operand (before_after j (kind.Mark mark.Equals)))) (λ i p. k i (top_keeps top p)),
    )

-- the call that defines several names
a_call : (right : Tree) → IsCall right → IsFew right → IsLast side.Called (weight (printed right)) (printed right)
a_call (call n at args) c h = call_last side.Called n at args tt h.0 (all_alone args h.1)
a_call (literal l span) c h = absurd c
a_call (variable n) c h = absurd c
a_call (operator o args span) c h = absurd c
a_call (host n args) c h = absurd c
a_call (sampled flip e w) c h = absurd c
a_call (merged w a b span) c h = absurd c
a_call (followed l e span) c h = absurd c
a_call (buffered most e span) c h = absurd c

called_of : (right : Tree) (j : ScanState) (ws : List What) → weight (printed right) ≤ deepest → IsCall right → IsFew right → j.side ≡ side.Left → j.before ≡ kind.Mark mark.Close → IsTop j → ((i : ScanState) → IsTop i → AllFit i ws) →
    AllFit j (whats_of (in_print blank (what.Mark mark.Equals) ∷ (print.after blank (printed right) ++ [])) ++ ws)
called_of right j ws h c few a b t k =
    let q : ScanState = after j (kind.Mark mark.Equals) in
    let at : q.side ≡ side.Called = defined j a ∙ ap side_defined b in
    let top : IsTop q = top_level t (level_equals j) in (
      fits_mark j mark.Equals (few_top j t) (λ g. absurd cc),
      (last_end (a_call right c few)).fits q ws (ready_top at h top) (λ i d o l. k i (record { outer = o ∙ top.outer; commas = l ∙ top.commas })),
    )

weight_right : (left : List Printed) (right : Tree) → weight (printed right) ≤ weight (left ++ (in_print blank (what.Mark mark.Equals) ∷ (print.after blank (printed right) ++ [])))
weight_right left right =
    let back : List Printed = print.after blank (printed right) ++ [] in
    let e : weight back ≡ weight (printed right) + 0 = ap length (put_after blank (printed right) [] [] refl) ∙ length-append (core (printed right)) [] in
    omega (arith, weight-append left (in_print blank (what.Mark mark.Equals) ∷ back), e)

def_of : (left : List decl.Decl) (right : Tree) → IsFewDef (record { left = left; right = right }) → Defines left right → IsLight (record { left = left; right = right }) → (s : ScanState) (ws : List What) → s.side ≡ side.Left → IsTop s →
    ((j : ScanState) → IsTop j → AllFit j ws) → AllFit s (whats_of (printed_def (record { left = left; right = right })) ++ ws)
def_of [] right few d light s ws a t k = absurd d
def_of (x ∷ []) right few d light s ws a t k =
    let back : List Printed = in_print blank (what.Mark mark.Equals) ∷ (print.after blank (printed right) ++ []) in
    let h : weight (printed right) ≤ deepest = omega (arith, light, weight_right (printed_decl x) right) in
    let one : IsDeclared side.Left 0 (printed_decl x) = declared_of x.name x.holds x.word in
    subst (AllFit s) (sym (split_whats (printed_decl x) back ws))
    (one.fits s (whats_of back ++ ws) (ready_top a (omega arith) t) (λ j p e. right_of right j ws h few.1 (p.at ∙ a) e (top_keeps t p) k))
def_of (x ∷ y ∷ ds) right few d light s ws a t k =
    let back : List Printed = in_print blank (what.Mark mark.Equals) ∷ (print.after blank (printed right) ++ []) in
    let left : List Printed = printed_left (x ∷ y ∷ ds) in
    let h : weight (printed right) ≤ deepest = omega (arith, light, weight_right left right) in
    subst (AllFit s) (sym (split_whats left back ws))
    (top_list side.Left (map printed_decl (x ∷ y ∷ ds)) (decls_fit side.Left (x ∷ y ∷ ds)) (omega (arith, few.0, length-map (x ∷ y ∷ ds) printed_decl)) tt s (whats_of back ++ ws) a t (λ j b u c. called_of right j ws h d few.1 b c u k))

-- a definition behind blanks, and what follows it
def_fits : (blanks : List ℕ) (d : DefTree) (b : List Printed) → IsFewDef d → IsPrintableDef Anywhere d → IsLight d → (s : ScanState) (ws : List What) → s.side ≡ side.Left → IsTop s → ((j : ScanState) → IsTop j → AllFit j (whats_of b ++ ws)) →
    AllFit s (whats_of (print.after blanks (printed_def d) ++ b) ++ ws)
def_fits blanks d b few p light s ws a t k =
    subst (AllFit s) (sym (split_whats (print.after blanks (printed_def d)) b ws ∙ ap (λ u. u ++ (whats_of b ++ ws)) (whats_of-after blanks (printed_def d)))) (def_of d.left d.right few p.defines light s (whats_of b ++ ws) a t k)

defs_fit : (ds : List DefTree) → AllByRecursion IsFewDef ds → AllByRecursion (IsPrintableDef Anywhere) ds → AllByRecursion IsLight ds → (s : ScanState) (ws : List What) → IsTop s → ((j : ScanState) → IsTop j → AllFit j ws) → AllFit s (whats_of (more_defs ds) ++ ws)
defs_fit [] few p light s ws t k = k s t
defs_fit (d ∷ ds) few p light s ws t k = (
  fits_mark s mark.And (few_top s t) (λ g. absurd cc),
  def_fits blank d (more_defs ds) few.0 p.0 light.0 (after s (kind.Mark mark.And)) ws (and_left s) (top_level t (level_and s)) (λ j u. defs_fit ds few.1 p.1 light.1 j ws u k),
)

body_fits : (ds : List DefTree) → AllByRecursion IsFewDef ds → AllByRecursion (IsPrintableDef Anywhere) ds → AllByRecursion IsLight ds → (s : ScanState) (ws : List What) → IsTop s → ((j : ScanState) → IsTop j → AllFit j ws) → AllFit s (whats_of (printed_body ds) ++ ws)
body_fits [] few p light s ws t k = k s t
body_fits (d ∷ ds) few p light s ws t k =
    let m : ScanState = after s (kind.Mark mark.Where) in
    let u : IsTop m = top_keeps t (keeps_plain s (kind.Mark mark.Where) refl) in (
      fits_plain s (what.Mark mark.Where) (few_top s t) refl refl,
      (
        fits_mark m mark.Rec (few_top m u) (λ g. absurd cc),
        def_fits indent d (more_defs ds) few.0 p.0 light.0 (after m (kind.Mark mark.Rec)) ws (rec_left m) (top_level u (level_rec m)) (λ j v. defs_fit ds few.1 p.1 light.1 j ws v k),
      ),
    )

-- nodes
node_fits : (n : NodeTree) → IsFewNode n → IsPrintableNode Anywhere n → AreLight n → (s : ScanState) (ws : List What) → IsTop s → ((j : ScanState) → IsTop j → AllFit j ws) → AllFit s (whats_of (printed_node n) ++ ws)
node_fits n few p light s ws t k =
    let head : List Printed = parens (commas (map printed_decl n.params)) in
    let tail : List Printed = parens (commas (map name_token n.results)) in
    let back : List Printed = in_print blank (what.Mark mark.Equals) ∷ (print.after blank tail ++ []) in
    let vs : List What = whats_of (printed_body n.defs) ++ ws in
    let a : ScanState = after s (kind.Mark mark.Let) in
    let b : ScanState = after a (kind.Mark mark.Node) in
    let c : ScanState = after b kind.Name in
    let top_a : IsTop a = top_level t (level_let s) in
    let keeps_b : Keeps a b = keeps_plain a (kind.Mark mark.Node) refl in
    let keeps_c : Keeps a c = keeps_then keeps_b (keeps_plain b kind.Name refl) in
    let results : (j : ScanState) → j.side ≡ side.Head → IsTop j → j.before ≡ kind.Mark mark.Close → AllFit j (whats_of back ++ vs) = λ j h u e.
    let q : ScanState = after j (kind.Mark mark.Equals) in (
      fits_mark j mark.Equals (few_top j u) (λ g. absurd cc),
      subst (λ w. AllFit q (w ++ vs)) (sym (ap whats_of (append-nil (print.after blank tail)) ∙ whats_of-after blank tail))
          (top_list side.Head (map name_token n.results) (names_fit side.Head n.results) (omega (arith, few.results, length-map n.results name_token)) tt q vs (still_head j h) (top_level u (level_equals j)) (λ i h2 v e2. body_fits n.defs few.defs p.defs light i ws v k)),
    ) in
    let params : AllFit c (whats_of head ++ (whats_of back ++ vs)) = top_list side.Head (map printed_decl n.params) (decls_fit side.Head n.params) (omega (arith, few.params, length-map n.params printed_decl)) tt c (whats_of back ++ vs) (keeps_c.at ∙ let_head s) (top_keeps top_a keeps_c) results in (
      fits_mark s mark.Let (few_top s t) (λ g. absurd cc),
      (
        fits_plain a (what.Mark mark.Node) (few_top a top_a) refl refl,
        (
          fits_plain b (what.Name n.name.text) (few_top b (top_keeps top_a keeps_b)) refl refl,
          subst (AllFit c) (sym (split_whats (print.after blank head ++ back) (printed_body n.defs) ws ∙ split_whats (print.after blank head) back vs ∙ ap (λ u. u ++ (whats_of back ++ vs)) (whats_of-after blank head))) params,
        ),
      ),
    )

nodes_fit : (ns : List NodeTree) → AllByRecursion IsFewNode ns → AllByRecursion (IsPrintableNode Anywhere) ns → AllByRecursion AreLight ns → (s : ScanState) → IsTop s → AllFit s (whats_of (more_nodes ns) ++ [])
nodes_fit [] few p light s t = tt
nodes_fit (n ∷ ns) few p light s t =
    subst (AllFit s) (sym (split_whats (print.after line (printed_node n)) (more_nodes ns) [] ∙ ap (λ u. u ++ (whats_of (more_nodes ns) ++ [])) (whats_of-after line (printed_node n))))
    (node_fits n few.0 p.0 light.0 s (whats_of (more_nodes ns) ++ []) t (λ j u. nodes_fit ns few.1 p.1 light.1 j u))

pub program_fits : (p : ProgramTree) → AllByRecursion IsFewNode p → IsPrintableProgram Anywhere p → AllByRecursion AreLight p → AllFit start (whats_of (printed_program p))
program_fits [] few p light = absurd p
program_fits (n ∷ ns) few p light =
    subst (AllFit start) (sym (split_whats (printed_node n) (more_nodes ns) []) ∙ append-nil (whats_of (printed_program (n ∷ ns))))
    (node_fits n few.0 p.0 light.0 start (whats_of (more_nodes ns) ++ []) (record { outer = refl; commas = refl }) (λ j u. nodes_fit ns few.1 p.1 light.1 j u))
