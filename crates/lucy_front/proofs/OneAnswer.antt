-- A text has one answer of the phases.
use Rattle.std.proofs.Common.{ℕ, ◌≡◌, List, [], Option, Ok, Err, Result, refl, ap, sym, ◌∙◌, subst, inl, inr}
use Rattle.std.specs.Prelude.{◌⊎◌, IfOk, IfErr, MatchResult, Vec}
use Rattle.std.specs.Global.{Global}
use Rattle.lucy_tree.specs.declared.span.Span.{Span}
use Rattle.lucy_host.specs.Operators.{Operator}
use Rattle.lucy_tree.specs.View.{ProgramTree}
use Rattle.lucy_token.specs.declared.stop.SyntaxError.{SyntaxError}
use Rattle.lucy_token.specs.declared.stop.SyntaxError.TheVariants as syntax
use Rattle.lucy_grammar.specs.Texts.{HasTree, IsRefused}
use Rattle.lucy_grammar.proofs.TextLaws.{one_program as one_tree, one_error, tree_or_error}
use Rattle.lucy_naming.specs.declared.error.NameError.{NameError}
use Rattle.lucy_naming.specs.declared.error.NameError.TheVariants as names
use Rattle.lucy_place.specs.declared.placed.PlacedNode.{PlacedNode}
use Rattle.lucy_naming.specs.Faults.{faults, verdict}
use Rattle.lucy_place.specs.PlacedProgram.{PlacedProgram}
use Rattle.lucy_naming.specs.Placing.{IsFirstFault, IsPlaced}
use Rattle.lucy_naming.proofs.NodesLaws.{nodes_one}
use Rattle.lucy_types.specs.declared.ty.Ty.{Ty}
use Rattle.lucy_types.specs.Programs.{IsTyped, IsClash}
use Rattle.lucy_types.proofs.ProgramLaws.{typed_unique, clash_untyped, clash_unique}
use Rattle.lucy_clock.specs.declared.node_clock.NodeClock.{NodeClock}
use Rattle.lucy_program.specs.declared.options.Options.{Options}
use Rattle.lucy_front.specs.declared.fault.NodeFault.{NodeFault}
use Rattle.lucy_front.specs.declared.fault.NodeFault.TheVariants.{NotWritten, Rates, Clocks, Check}
use Rattle.lucy_front.specs.declared.fault.NoClocks.{NoClocks}
use Rattle.lucy_front.specs.declared.fault.NoClocks.TheVariants as why
use Rattle.lucy_front.specs.declared.refusal.Refusal.{Refusal}
use Rattle.lucy_front.specs.declared.refusal.Refusal.TheVariants.{Syntax, Names, Types, Node, Cause, Limit as LimitPassed, OutOfMemory}
use Rattle.lucy_program.specs.Clocked.{AreClocksOf}
use Rattle.lucy_program.specs.Accepting.{IsPlacedText, IsTypedText, IsClockedText}
use Rattle.lucy_front.specs.Refusing.{RefusesSyntax, RefusesText, RefusesPhases, syntax_refusal, names_refusal}
use Rattle.lucy_front.specs.Clocking.{refusal_for}
use Rattle.lucy_front.specs.OneAnswer.{AreFaultsAlike, AreAlike, HaveOneProgram, AreNotRefused, HaveOneRefusal}
use Rattle.lucy_program.proofs.AcceptedLaws.{text_proper}
use Rattle.lucy_front.proofs.OneNode.{AreCausesAlike}
use Rattle.lucy_front.proofs.OneUnclocked.{StandsUnclocked, clocks_one, clocked_all, unclocked_one}

-- a tree has one list of places
placed_one : (ops : List Operator) (p : ProgramTree) (v w : PlacedProgram) → IsPlaced ops p v → IsPlaced ops p w → v ≡ w
placed_one ops p v w x y =
    ap (λ (ns : List PlacedNode). let r : PlacedProgram = record { nodes = ns; unwritten = v.unwritten } in r) (nodes_one ops p v.nodes w.nodes x.nodes y.nodes)
    ∙ ap (λ (ss : List (Option Span)). let r : PlacedProgram = record { nodes = w.nodes; unwritten = ss } in r) (x.unwritten ∙ sym y.unwritten)

-- faults have one that is the first
first_one : (fs : List NameError) (e f : NameError) → IsFirstFault fs e → IsFirstFault fs f → e ≡ f
first_one fs e f h k = let g : ◌≡◌ {A = Result (Unit {0}) NameError} (Err e) (Err f) = sym h ∙ k in cc

-- why a text is refused, phase by phase
record OfSyntax (text : List ℕ) (r : Refusal) : Type 0 where
  error : SyntaxError
  refused : IsRefused text error
  is : r ≡ syntax_refusal error

record OfNames (ops : List Operator) (text : List ℕ) (r : Refusal) : Type 0 where
  tree : ProgramTree
  error : NameError
  read : HasTree text tree
  first : IsFirstFault (faults ops tree) error
  is : r ≡ names_refusal error

record OfTypes (ops : List Operator) (text : List ℕ) (r : Refusal) : Type 0 where
  placed : PlacedProgram
  node : ℕ
  path : Vec ℕ Global
  program : IsPlacedText ops text placed
  told : IsClash placed.nodes node path.items
  is : r ≡ Types placed node path

record OfNode (ops : List Operator) (o : Options) (text : List ℕ) (r : Refusal) : Type 0 where
  placed : PlacedProgram
  tables : List (List Ty)
  node : ℕ
  reason : NoClocks
  program : IsTypedText ops text placed tables
  unclocked : StandsUnclocked o placed placed.nodes node reason
  is : r ≡ refusal_for placed node reason

abbrev OfPhase : List Operator → Options → List ℕ → Refusal → Type 0
OfPhase ops o text r = OfSyntax text r ⊎ OfNames ops text r ⊎ OfTypes ops text r ⊎ OfNode ops o text r

-- a fault is like itself, and so is a refusal
fault_self : (f : NodeFault) → AreFaultsAlike f f
fault_self (NotWritten span) = refl
fault_self (Rates needs walk) = (refl, refl)
fault_self (Clocks needs shape diffs cycle) = (refl, refl, refl)
fault_self (Check needs e) = refl

alike_self : (r : Refusal) → AreAlike r r
alike_self (Types placed node path) = (refl, refl)
alike_self (Syntax e) = refl
alike_self (Names e) = refl
alike_self (Node placed node fault) = (refl, refl, fault_self fault)
alike_self (LimitPassed l) = refl
alike_self (Cause net texts instant items) = (refl, refl)
alike_self OutOfMemory = refl

pub equal_alike : (r s : Refusal) → r ≡ s → AreAlike r s
equal_alike r s e = subst (AreAlike r) e (alike_self r)

-- reasons that are alike are refusals that are
reasons_equal : (placed : PlacedProgram) (node : ℕ) (f g : NoClocks) → f ≡ g → AreAlike (refusal_for placed node f) (refusal_for placed node g)
reasons_equal placed node f g e = equal_alike (refusal_for placed node f) (refusal_for placed node g) (ap (refusal_for placed node) e)

reasons_alike : (placed : PlacedProgram) (node : ℕ) (f g : NoClocks) → AreCausesAlike f g → AreAlike (refusal_for placed node f) (refusal_for placed node g)
reasons_alike placed node (why.Fault f) (why.Fault g) h = (refl, refl, h)
reasons_alike placed node (why.Fault f) (why.Limit l) h = absurd (cc h)
reasons_alike placed node (why.Fault f) why.OutOfMemory h = absurd (cc h)
reasons_alike placed node (why.Limit l) g h = reasons_equal placed node (why.Limit l) g h
reasons_alike placed node why.OutOfMemory g h = reasons_equal placed node why.OutOfMemory g h

-- what refuses a text for its syntax, and for its names
pub syntax_refused : (text : List ℕ) (e : SyntaxError) → RefusesSyntax text (Syntax e) → IsRefused text e
syntax_refused text (syntax.Unexpected place) h = h
syntax_refused text (syntax.BadNumber place) h = h
syntax_refused text (syntax.BadWord place) h = h
syntax_refused text (syntax.TooLarge l) h = absurd h
syntax_refused text syntax.OutOfMemory h = absurd h

pub names_refused : (ops : List Operator) (text : List ℕ) (e : NameError) → RefusesText ops text (Names e) → (p : ProgramTree) × HasTree text p × IsFirstFault (faults ops p) e
names_refused ops text (names.Unknown span) h = h
names_refused ops text (names.Twice span) h = h
names_refused ops text (names.NoResult span) h = h
names_refused ops text (names.Arity span) h = h
names_refused ops text (names.LaterNode span) h = h
names_refused ops text (names.TooMany l) h = absurd h
names_refused ops text names.OutOfMemory h = absurd h

module _ (ops : List Operator) (o : Options) (text : List ℕ) where
  of_syntax : (e : SyntaxError) → IsRefused text e → OfPhase ops o text (syntax_refusal e)
  of_syntax e h = inl (record { error = e; refused = h; is = refl })

  of_names : (p : ProgramTree) (e : NameError) → HasTree text p → IsFirstFault (faults ops p) e → OfPhase ops o text (names_refusal e)
  of_names p e read first = inr (inl (record { tree = p; error = e; read = read; first = first; is = refl }))

  of_node : (placed : PlacedProgram) (tables : List (List Ty)) (node : ℕ) (reason : NoClocks) → IsTypedText ops text placed tables → StandsUnclocked o placed placed.nodes node reason →
      OfPhase ops o text (refusal_for placed node reason)
  of_node placed tables node reason program unclocked = inr (inr (inr (record { placed = placed; tables = tables; node = node; reason = reason; program = program; unclocked = unclocked; is = refl })))

  -- each refusal but want of memory is one of a phase
  phase : (r : Refusal) → RefusesPhases ops o text r → (r ≡ OutOfMemory → ⊥) → OfPhase ops o text r
  phase (Syntax (syntax.Unexpected place)) h some = of_syntax (syntax.Unexpected place) h
  phase (Syntax (syntax.BadNumber place)) h some = of_syntax (syntax.BadNumber place) h
  phase (Syntax (syntax.BadWord place)) h some = of_syntax (syntax.BadWord place) h
  phase (Syntax (syntax.TooLarge l)) h some = absurd h
  phase (Syntax syntax.OutOfMemory) h some = absurd h
  phase (Names (names.Unknown span)) h some = of_names h.0 (names.Unknown span) h.1 h.2
  phase (Names (names.Twice span)) h some = of_names h.0 (names.Twice span) h.1 h.2
  phase (Names (names.NoResult span)) h some = of_names h.0 (names.NoResult span) h.1 h.2
  phase (Names (names.Arity span)) h some = of_names h.0 (names.Arity span) h.1 h.2
  phase (Names (names.LaterNode span)) h some = of_names h.0 (names.LaterNode span) h.1 h.2
  phase (Names (names.TooMany l)) h some = absurd h
  phase (Names names.OutOfMemory) h some = absurd h
  phase (Types placed node path) h some = inr (inr (inl (record { placed = placed; node = node; path = path; program = h.0; told = h.1; is = refl })))
  phase (Node placed node fault) h some = of_node placed h.0 node (why.Fault fault) h.1 h.2
  phase (LimitPassed l) (inl (inl h)) some = of_syntax (syntax.TooLarge l) h
  phase (LimitPassed l) (inl (inr h)) some = of_names h.0 (names.TooMany l) h.1 h.2
  phase (LimitPassed l) (inr h) some = of_node h.0 h.1 h.3 (why.Limit l) h.2 h.4
  phase (Cause net texts instant items) h some = absurd h
  phase OutOfMemory h some = absurd (some refl)

  -- the places of a text are one program
  pub text_one : (v w : PlacedProgram) → IsPlacedText ops text v → IsPlacedText ops text w → v ≡ w
  text_one v w x y = placed_one ops y.tree v w (subst (λ t. IsPlaced ops t v) (one_tree text x.tree y.tree x.read y.read) x.is_placed) y.is_placed

  -- no phase before refuses a text that has places
  placed_read : (v : PlacedProgram) (r : Refusal) → IsPlacedText ops text v → OfSyntax text r → ⊥
  placed_read v r x a = tree_or_error text x.tree a.error x.read a.refused

  placed_named : (v : PlacedProgram) (r : Refusal) → IsPlacedText ops text v → OfNames ops text r → ⊥
  placed_named v r x b =
      let good : faults ops b.tree ≡ [] = subst (λ t. faults ops t ≡ []) (one_tree text x.tree b.tree x.read b.read) x.is_placed.good in
      let h : Ok tt ≡ Err b.error = sym (ap verdict good) ∙ b.first in
      cc

  -- nor one that has types
  typed_kept : (v : PlacedProgram) (tables : List (List Ty)) (r : Refusal) → IsTypedText ops text v tables → OfTypes ops text r → ⊥
  typed_kept v tables r x a =
      let same : a.placed ≡ v = text_one a.placed v a.program x.program in
      clash_untyped v.nodes tables a.node a.path.items (subst (λ w. IsClash w.nodes a.node a.path.items) same a.told) x.typed

  -- a node is refused for another cause than memory, where the text is
  node_told : (r : Refusal) → (r ≡ OutOfMemory → ⊥) → (a : OfNode ops o text r) → a.reason ≡ why.OutOfMemory → ⊥
  node_told r some a e = some (a.is ∙ ap (refusal_for a.placed a.node) e)

  -- no phase refuses a text that has clocks
  clocked_kept : (v : PlacedProgram) (tables : List (List Ty)) (clocks : List NodeClock) (r : Refusal) → IsClockedText ops o text v tables clocks → OfPhase ops o text r → (r ≡ OutOfMemory → ⊥) → ⊥
  clocked_kept v tables clocks r x (inl a) some = placed_read v r x.program.program a
  clocked_kept v tables clocks r x (inr (inl a)) some = placed_named v r x.program.program a
  clocked_kept v tables clocks r x (inr (inr (inl a))) some = typed_kept v tables r x.program a
  clocked_kept v tables clocks r x (inr (inr (inr a))) some =
      let same : a.placed ≡ v = text_one a.placed v a.program.program x.program.program in
      clocked_all v v.nodes clocks a.node a.reason (text_proper ops o text v x.program.program) (node_told r some a) x.clocks (subst (λ w. StandsUnclocked o w w.nodes a.node a.reason) same a.unclocked)

  -- refusals of one phase are alike
  types_alike : (r s : Refusal) → OfTypes ops text r → OfTypes ops text s → AreAlike r s
  types_alike r s a b =
      let same : a.placed ≡ b.placed = text_one a.placed b.placed a.program b.program in
      let moved = subst (λ w. IsClash w.nodes a.node a.path.items) same a.told in
      let one : AreAlike (Types a.placed a.node a.path) (Types b.placed b.node b.path) = (same, clash_unique b.placed.nodes a.node b.node a.path.items b.path.items moved b.told) in
      subst (λ x. AreAlike x s) (sym a.is) (subst (AreAlike (Types a.placed a.node a.path)) (sym b.is) one)

  nodes_alike : (r s : Refusal) → (r ≡ OutOfMemory → ⊥) → (s ≡ OutOfMemory → ⊥) → OfNode ops o text r → OfNode ops o text s → AreAlike r s
  nodes_alike r s some other a b =
      let same : a.placed ≡ b.placed = text_one a.placed b.placed a.program.program b.program.program in
      let one = unclocked_one b.placed (text_proper ops o text b.placed b.program.program) a.node b.node a.reason b.reason (node_told r some a) (node_told s other b)
      (subst (λ w. StandsUnclocked o w w.nodes a.node a.reason) same a.unclocked) b.unclocked in
      let here : r ≡ refusal_for b.placed b.node a.reason = a.is ∙ ap (λ w. refusal_for w a.node a.reason) same ∙ ap (λ k. refusal_for b.placed k a.reason) one.0 in
      subst (λ x. AreAlike x s) (sym here) (subst (AreAlike (refusal_for b.placed b.node a.reason)) (sym b.is) (reasons_alike b.placed b.node a.reason b.reason one.1))

  names_equal : (r s : Refusal) → OfNames ops text r → OfNames ops text s → r ≡ s
  names_equal r s a b =
      let moved = subst (λ t. IsFirstFault (faults ops t) a.error) (one_tree text a.tree b.tree a.read b.read) a.first in
      a.is ∙ ap names_refusal (first_one (faults ops b.tree) a.error b.error moved b.first) ∙ sym b.is

-- a refusal tells of memory or not
pub of_memory : (r : Refusal) → (r ≡ OutOfMemory) ⊎ (r ≡ OutOfMemory → ⊥)
of_memory (Types placed node path) = inr (λ e. cc e)
of_memory (Syntax f) = inr (λ e. cc e)
of_memory (Names f) = inr (λ e. cc e)
of_memory (Node placed node fault) = inr (λ e. cc e)
of_memory (LimitPassed l) = inr (λ e. cc e)
of_memory (Cause net texts instant items) = inr (λ e. cc e)
of_memory OutOfMemory = inl refl

module _ (ops : List Operator) (o : Options) (text : List ℕ) (r s : Refusal) (some : r ≡ OutOfMemory → ⊥) (other : s ≡ OutOfMemory → ⊥) where
  -- refusals of two phases never stand together
  phases_alike : OfPhase ops o text r → OfPhase ops o text s → AreAlike r s
  phases_alike (inl a) (inl b) = equal_alike r s (a.is ∙ ap syntax_refusal (one_error text a.error b.error a.refused b.refused) ∙ sym b.is)
  phases_alike (inl a) (inr (inl b)) = absurd (tree_or_error text b.tree a.error b.read a.refused)
  phases_alike (inl a) (inr (inr (inl b))) = absurd (placed_read ops o text b.placed r b.program a)
  phases_alike (inl a) (inr (inr (inr b))) = absurd (placed_read ops o text b.placed r b.program.program a)
  phases_alike (inr (inl a)) (inl b) = absurd (tree_or_error text a.tree b.error a.read b.refused)
  phases_alike (inr (inl a)) (inr (inl b)) = equal_alike r s (names_equal ops o text r s a b)
  phases_alike (inr (inl a)) (inr (inr (inl b))) = absurd (placed_named ops o text b.placed r b.program a)
  phases_alike (inr (inl a)) (inr (inr (inr b))) = absurd (placed_named ops o text b.placed r b.program.program a)
  phases_alike (inr (inr (inl a))) (inl b) = absurd (placed_read ops o text a.placed s a.program b)
  phases_alike (inr (inr (inl a))) (inr (inl b)) = absurd (placed_named ops o text a.placed s a.program b)
  phases_alike (inr (inr (inl a))) (inr (inr (inl b))) = types_alike ops o text r s a b
  phases_alike (inr (inr (inl a))) (inr (inr (inr b))) = absurd (typed_kept ops o text b.placed b.tables r b.program a)
  phases_alike (inr (inr (inr a))) (inl b) = absurd (placed_read ops o text a.placed s a.program.program b)
  phases_alike (inr (inr (inr a))) (inr (inl b)) = absurd (placed_named ops o text a.placed s a.program.program b)
  phases_alike (inr (inr (inr a))) (inr (inr (inl b))) = absurd (typed_kept ops o text a.placed a.tables s a.program b)
  phases_alike (inr (inr (inr a))) (inr (inr (inr b))) = nodes_alike ops o text r s some other a b

pub one_program : HaveOneProgram
one_program ops o text p q xs ys cs ds x y =
    let same : p ≡ q = text_one ops o text p q x.program.program y.program.program in
    let typed : IsTyped q.nodes xs = subst (λ v. IsTyped v.nodes xs) same x.program.typed in
    let clocked : AreClocksOf o q.nodes cs = subst (λ v. AreClocksOf o v.nodes cs) same x.clocks in
    (same, typed_unique q.nodes xs ys typed y.program.typed, clocks_one q.nodes cs ds (text_proper ops o text q y.program.program) clocked y.clocks)

pub never_both : AreNotRefused
never_both ops o text p xs cs r x h =
    elim (of_memory r) [
      | inl e ↦ e
      | inr some ↦ absurd (clocked_kept ops o text p xs cs r x (phase ops o text r h some) some)
    ]

pub one_refusal : HaveOneRefusal
one_refusal ops o text r s h k =
    elim (of_memory r) [
      | inl e ↦ inl e
      | inr some ↦ elim (of_memory s) [
        | inl e ↦ inr (inl e)
        | inr other ↦ inr (inr (phases_alike ops o text r s some other (phase ops o text r h some) (phase ops o text s k other)))
      ]
    ]

-- an answer that is a program or a refusal, as is said of each, is like the one refusal
pub only_refusal : {A : Type 0} (answer : Result A Refusal) (P : A → Type 0) (Q : Refusal → Type 0) (r : Refusal) → (r ≡ OutOfMemory → ⊥) → ((a : A) → P a → r ≡ OutOfMemory) →
    ((e : Refusal) → Q e → (r ≡ OutOfMemory) ⊎ (e ≡ OutOfMemory) ⊎ AreAlike r e) → IfOk answer P → IfErr answer Q → MatchResult answer (λ _. ⊥) (λ e. (e ≡ OutOfMemory) ⊎ AreAlike r e)
only_refusal (Ok a) P Q r some never one ok refused = some (never a ok)
only_refusal (Err e) P Q r some never one ok refused = elim (one e refused) [ inl f ↦ absurd (some f) | inr h ↦ h ]
