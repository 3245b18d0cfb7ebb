-- How what is asked for comes out of a text.
use Rattle.std.proofs.Common.{ℕ, ◌≡◌, ◌<◌, ◌≤◌, ◌⊎◌, Bool, List, [], ◌∷◌, Option, Some, None, Result, Ok, Err, refl, ap, sym, ◌∙◌, subst, inl, inr}
use Rattle.std.specs.Prelude.{IfSome, IfNone, IsSomeAnd, IsErrAnd, length, slice_get}
use Rattle.std.proofs.lemmas.Option.{slice_get_within}
use Rattle.std.specs.declared.alloc.Global.{Global}
use Rattle.std.specs.declared.vec.Vec.{Vec}
use Rattle.lucy_host.specs.Operators.{Operator}
use Rattle.lucy_text.specs.Sources.{Unread}
use Rattle.lucy_tree.specs.View.{ProgramTree}
use Rattle.lucy_grammar.specs.Texts.{HasTree, IsRefused}
use Rattle.lucy_token.specs.declared.stop.SyntaxError.{SyntaxError}
use Rattle.lucy_token.specs.declared.stop.SyntaxError.TheVariants as syntax
use Rattle.lucy_place.specs.declared.placed.PlacedNode.{PlacedNode}
use Rattle.lucy_program.specs.declared.accepted.Accepted.{Accepted}
use Rattle.lucy_program.specs.declared.options.Options.{Options}
use Rattle.lucy_front.specs.declared.refusal.Refusal.{Refusal}
use Rattle.lucy_program.specs.Accepting.{IsAccepted}
use Rattle.lucy_front.specs.Refusing.{Refuses, syntax_refusal}
use Rattle.lucy_explain.specs.Waits as waits
use Rattle.lucy_app.specs.Answers.{Answer, printed}
use Rattle.lucy_app.specs.Check.{RefusesCheck}
use Rattle.lucy_app.specs.Programs.{OwesText}
use Rattle.lucy_app.specs.Tighten.{node_named, HasBuffer}
use Rattle.lucy_views.specs.declared.failure.Failure.{Failure}
use Rattle.lucy_views.specs.declared.failure.Failure.TheVariants.{OutOfMemory}
use Rattle.lucy_views.specs.Owes.{IsPrinted, node_asked, HasNode, OwesNode, OwesDrawing, OwesNet}
use Rattle.lucy_views.specs.Failures.{failure_answer, program_failure, RefusesProgram, ComesOut}
use Rattle.lucy_views.proofs.Told.{syntax_told}

-- what comes out so comes out where all that is owed so is owed
pub out_more : (Owed More : Answer → Type 0) → ((x : Answer) → Owed x → More x) → (r : Result (Vec ℕ Global) Failure) → ComesOut Owed r → ComesOut More r
out_more Owed More more (Ok v) out = more (printed v.items) out
out_more Owed More more (Err e) (inl out) = inl out
out_more Owed More more (Err e) (inr out) = inr (more (failure_answer e) out)

-- why nothing is printed is owed where such refusals are
pub told_out : (Refuses : List ℕ → Refusal → Type 0) (Owed : List ℕ → Answer → Type 0) (text : List ℕ) (e : Failure) → RefusesProgram (Refuses text) e →
    (e ≡ OutOfMemory) ⊎ OwesText Refuses Owed Unread (Ok text ∷ []) (failure_answer e)
told_out Refuses Owed text e (inl out) = inl out
told_out Refuses Owed text e (inr why) = inr (inl ((why.0, why.1, ap failure_answer why.2), refl))

-- want of memory comes out where it is handed on
pub short_out : (Owed : Answer → Type 0) (r : Result (Vec ℕ Global) Failure) (e : Failure) → IsErrAnd r (λ x. x ≡ e) → e ≡ OutOfMemory → ComesOut Owed r
short_out Owed (Ok v) e is out = absurd is
short_out Owed (Err x) e is out = inl (is ∙ out)

-- a failure that is answered comes out
pub failed_out : (Owed : Answer → Type 0) (r : Result (Vec ℕ Global) Failure) (e f : Failure) → r ≡ Err e → e ≡ f → (f ≡ OutOfMemory) ⊎ Owed (failure_answer f) → ComesOut Owed r
failed_out Owed r e f is so h =
    let Q : Result (Vec ℕ Global) Failure → Type 0 = λ x. ComesOut Owed x in
    subst Q (sym (is ∙ ap Err so)) h

module _ (ops : List Operator) (o : Options) (text : List ℕ) (Owed : (text : List ℕ) → Accepted → Answer → Type 0) where
  -- what is owed of a text that is accepted
  abbrev pub OwesIt : (text : List ℕ) → Answer → Type 0
  OwesIt t told = (a : Accepted) × IsAccepted ops o t a × Owed t a told

  -- and of this one
  abbrev pub OwesOf : Answer → Type 0
  OwesOf answer = OwesText (RefusesCheck ops o) OwesIt Unread (Ok text ∷ []) answer

  -- so it comes out of a text that is accepted
  pub accepted_out : (a : Accepted) (r : Result (Vec ℕ Global) Failure) → IsAccepted ops o text a → ComesOut (Owed text a) r → ComesOut OwesOf r
  accepted_out a r is out = out_more (Owed text a) OwesOf (λ x h. inr (a, is, h)) r out

  -- of one that is refused
  pub refused_out : (e : Failure) → RefusesProgram (RefusesCheck ops o text) e → ComesOut OwesOf (Err e)
  refused_out e h = told_out (RefusesCheck ops o) OwesIt text e h

  -- and of one that has no tree
  pub unread_out : (why : SyntaxError) (e : Failure) → (why ≡ syntax.OutOfMemory) ⊎ IsRefused text why → e ≡ program_failure (syntax_refusal why) →
      ComesOut OwesOf (Err e)
  unread_out why e h so =
      failed_out OwesOf (Err e) e (program_failure (syntax_refusal why)) refl so
      (told_out (RefusesCheck ops o) OwesIt text (program_failure (syntax_refusal why)) (syntax_told ops o text why h))

module _ (nodes : List PlacedNode) (name : Option (List ℕ)) where
  -- what comes out of the node that is asked for comes out
  pub found_out : (Owed : ℕ → Answer → Type 0) (node : ℕ) (r : Result (Vec ℕ Global) Failure) → HasNode nodes name → node ≡ node_asked nodes name →
      ComesOut (Owed node) r → ComesOut (OwesNode nodes name Owed) r
  found_out Owed node r has is out = out_more (Owed node) (OwesNode nodes name Owed) (λ x h. inr (has, subst (λ i. Owed i x) is h)) r out

  -- and what is printed of it is owed
  pub node_printed : (Prints : ℕ → List ℕ → Type 0) (node : ℕ) (print : List ℕ) → HasNode nodes name → node ≡ node_asked nodes name → Prints node print →
      OwesNode nodes name (λ i told. IsPrinted (Prints i) told) (printed print)
  node_printed Prints node print has is out = inr (has, (print, subst (λ i. Prints i print) is out, refl))

-- a drawing by the tree of the text is owed
pub drawing_out : (flat : Bool) (name : Option (List ℕ)) (text : List ℕ) (tree : ProgramTree) (a : Accepted) (r : Result (Vec ℕ Global) Failure) → HasTree text tree →
    ComesOut (OwesDrawing flat name tree a) r → ComesOut (OwesNet flat name text a) r
drawing_out flat name text tree a r read out = out_more (OwesDrawing flat name tree a) (OwesNet flat name text a) (λ x h. (tree, read, h)) r out

-- a buffer of a node that is there, as `why` and as `tighten` say it
pub buffer_there : (nodes : List PlacedNode) (name : List ℕ) (node buffer : ℕ) → node ≡ node_asked nodes (Some name) → waits.HasBuffer nodes node buffer →
    HasBuffer nodes name buffer
buffer_there nodes name node buffer is (n, at, some, few) =
    let P : Option PlacedNode → Type 0 = λ f. IsSomeAnd f (λ (m : PlacedNode). (1 ≤ buffer) × (buffer ≤ length m.buffers)) in
    subst P (sym (ap (λ i. slice_get nodes i) (sym is) ∙ at)) (some, few)

some_there : (nodes : List PlacedNode) (node buffer : ℕ) (found : Option PlacedNode) → slice_get nodes node ≡ found →
    IsSomeAnd found (λ (m : PlacedNode). (1 ≤ buffer) × (buffer ≤ length m.buffers)) → waits.HasBuffer nodes node buffer
some_there nodes node buffer None is h = absurd h
some_there nodes node buffer (Some n) is h = (n, is, h.0, h.1)

pub buffer_back : (nodes : List PlacedNode) (name : List ℕ) (node buffer : ℕ) → node ≡ node_asked nodes (Some name) → HasBuffer nodes name buffer →
    waits.HasBuffer nodes node buffer
buffer_back nodes name node buffer is h = some_there nodes node buffer _ (ap (λ i. slice_get nodes i) is) h

-- where there is no node of the name there is no buffer of it
node_some : (nodes : List PlacedNode) (node buffer : ℕ) (found : Option PlacedNode) → slice_get nodes node ≡ found →
    IsSomeAnd found (λ (m : PlacedNode). (1 ≤ buffer) × (buffer ≤ length m.buffers)) → node < length nodes
node_some nodes node buffer None is h = absurd h
node_some nodes node buffer (Some n) is h = slice_get_within nodes node n is

pub no_buffer : (nodes : List PlacedNode) (name : List ℕ) (buffer : ℕ) → (HasNode nodes (Some name) → ⊥) → HasBuffer nodes name buffer → ⊥
no_buffer nodes name buffer lost h = lost (node_some nodes (node_named nodes name) buffer _ refl h)

-- what holds where there is something, and where there is nothing
pub some_so : {A : Type 0} (X : Type 0) (found : Option A) (x : A) → found ≡ Some x → IfSome found (λ y. X) → X
some_so {A} X found x is h = subst (λ (o : Option A). IfSome o (λ y. X)) is h

pub none_so : {A : Type 0} (X : Type 0) (found : Option A) → found ≡ None → IfNone found X → X
none_so {A} X found is h = subst (λ (o : Option A). IfNone o X) is h
