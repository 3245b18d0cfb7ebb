-- How what is looked for comes out.
use Rattle.std.proofs.Common.{[], ◌++◌, ap, ◌∙◌, None, ℕ, ◌≡◌, ◌⊎◌, List, Option, Some, Result, Err, sym, subst, inr}
use Rattle.std.specs.Prelude.{min, length}
use Rattle.std.specs.declared.alloc.Global.{Global}
use Rattle.std.specs.declared.vec.Vec.{Vec}
use Rattle.lucy_host.specs.Operators.{Operator}
use Rattle.std.specs.Option.{option_map}
use Rattle.std.specs.Borrow.{Bor}
use Rattle.lucy_tree.specs.Tree.{Tree}
use Rattle.lucy_place.specs.declared.entry.PlaceEntry.{PlaceEntry}
use Rattle.lucy_place.specs.declared.placed.PlacedNode.{PlacedNode}
use Rattle.lucy_place.specs.Standing.{at_one}
use Rattle.lucy_picture.specs.Kinds.{entry_text}
use Rattle.lucy_picture.specs.Offsets.{offset_of}
use Rattle.lucy_picture.specs.Spots.{PutsSpot}
use Rattle.lucy_tree.specs.View.{ProgramTree}
use Rattle.lucy_grammar.specs.Texts.{HasTree, IsRefused}
use Rattle.lucy_token.specs.declared.stop.SyntaxError.{SyntaxError}
use Rattle.lucy_token.specs.declared.stop.SyntaxError.TheVariants as syntax
use Rattle.lucy_naming.specs.declared.error.NameError.{NameError}
use Rattle.lucy_place.specs.PlacedProgram.{PlacedProgram}
use Rattle.lucy_naming.specs.Faults.{faults}
use Rattle.lucy_naming.specs.Placing.{IsPlaced, TellsFirstFault}
use Rattle.lucy_front.specs.Refusing.{syntax_refusal, names_refusal}
use Rattle.lucy_asking.specs.declared.ask.Sought.{Sought}
use Rattle.lucy_asking.specs.declared.ask.Sought.TheVariants as sought
use Rattle.lucy_views.specs.declared.failure.Failure.{Failure}
use Rattle.lucy_views.specs.Owes.{OwesNode, OwesPlace, OwesWhere, RefusesSought}
use Rattle.lucy_views.specs.Failures.{program_failure, ComesOut, OwesSought}
use Rattle.lucy_views.proofs.Told.{text_told, names_told}
use Rattle.lucy_views.proofs.Outs.{out_more, told_out, failed_out}

module _ (ops : List Operator) (text : List ℕ) (place : ℕ) (name : Option (List ℕ)) where
  -- a text with such places comes out
  pub placed_out : (tree : ProgramTree) (placed : PlacedProgram) (r : Result (Vec ℕ Global) Failure) → HasTree text tree → IsPlaced ops tree placed →
      ComesOut (OwesNode placed.nodes name (OwesPlace text tree placed.nodes place)) r → ComesOut (OwesSought ops (Some (sought.Place place)) name text) r
  placed_out tree placed r read is out =
      out_more (OwesNode placed.nodes name (OwesPlace text tree placed.nodes place)) (OwesSought ops (Some (sought.Place place)) name text)
      (λ x h. inr (placed, record { tree = tree; read = read; is_placed = is }, h)) r out

  -- so does one that has no tree
  pub syntax_out : (why : SyntaxError) (r : Result (Vec ℕ Global) Failure) (e : Failure) → (why ≡ syntax.OutOfMemory) ⊎ IsRefused text why → r ≡ Err e →
      e ≡ program_failure (syntax_refusal why) → ComesOut (OwesSought ops (Some (sought.Place place)) name text) r
  syntax_out why r e h is so =
      failed_out (OwesSought ops (Some (sought.Place place)) name text) r e (program_failure (syntax_refusal why)) is so
      (told_out (RefusesSought ops (Some (sought.Place place))) (OwesWhere ops (Some (sought.Place place)) name) text (program_failure (syntax_refusal why)) (text_told ops text why h))

  -- and one whose names are bad
  pub names_out : (tree : ProgramTree) (why : NameError) (r : Result (Vec ℕ Global) Failure) (e : Failure) → HasTree text tree → TellsFirstFault (faults ops tree) why →
      r ≡ Err e → e ≡ program_failure (names_refusal why) → ComesOut (OwesSought ops (Some (sought.Place place)) name text) r
  names_out tree why r e read h is so =
      failed_out (OwesSought ops (Some (sought.Place place)) name text) r e (program_failure (names_refusal why)) is so
      (told_out (RefusesSought ops (Some (sought.Place place))) (OwesWhere ops (Some (sought.Place place)) name) text (program_failure (names_refusal why)) (names_told ops text tree why read h))

-- what comes out of an offset comes out where that is looked for
pub offset_out : (ops : List Operator) (text : List ℕ) (name : Option (List ℕ)) (offset : ℕ) (r : Result (Vec ℕ Global) Failure) →
    ComesOut (OwesWhere ops (Some (sought.Offset offset)) name text) r → ComesOut (OwesSought ops (Some (sought.Offset offset)) name text) r
offset_out ops text name offset r out =
    out_more (OwesWhere ops (Some (sought.Offset offset)) name text) (OwesSought ops (Some (sought.Offset offset)) name text) (λ x h. inr h) r out

-- what is looked for is this
pub sought_out : (ops : List Operator) (text : List ℕ) (name : Option (List ℕ)) (s t : Option Sought) (r : Result (Vec ℕ Global) Failure) → s ≡ t →
    ComesOut (OwesSought ops t name text) r → ComesOut (OwesSought ops s name text) r
sought_out ops text name s t r is out =
    let P : Option Sought → Type 0 = λ u. ComesOut (OwesSought ops u name text) r in
    subst P (sym is) out

-- what was put of a place, with the form that stands there
pub place_spot : (text : List ℕ) (n : PlacedNode) (place : ℕ) (entry : PlaceEntry) (form there : Option Tree) (offset : ℕ) (o p q : List ℕ) → form ≡ there → o ≡ [] →
    p ≡ o ++ entry_text n place entry form → offset ≡ min (offset_of entry form) (length text) → PutsSpot text offset p q →
    PutsSpot text (min (offset_of entry there) (length text)) (entry_text n place entry there) q
place_spot text n place entry form there offset o p q is none first at puts =
    let P : Option Tree → Type 0 = λ f. PutsSpot text (min (offset_of entry f) (length text)) (entry_text n place entry f) q in
    let begins : p ≡ entry_text n place entry form = first ∙ ap (λ l. l ++ entry_text n place entry form) none in
    subst P is (subst (λ k. PutsSpot text k (entry_text n place entry form) q) at (subst (λ l. PutsSpot text offset l q) begins puts))

-- no entry, or an entry, stands at a place
pub lacks_entry : (n : PlacedNode) (place : ℕ) (found : Option (Bor PlaceEntry)) → option_map (λ e. e.now) found ≡ at_one n.places place → found ≡ None → at_one n.places place ≡ None
lacks_entry n place found is none = sym is ∙ ap (λ f. option_map (λ e. e.now) f) none
