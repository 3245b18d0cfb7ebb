-- What is known of the text of a place.
use Rattle.std.proofs.Common.{ℕ, ◌≡◌, List, refl}
use Rattle.lucy_tree.specs.View.{ProgramTree}
use Rattle.lucy_place.specs.declared.entry.PlaceKind.{PlaceKind}
use Rattle.lucy_place.specs.declared.entry.PlaceKind.TheVariants as kind
use Rattle.lucy_place.specs.declared.placed.PlacedNode.{PlacedNode}
use Rattle.lucy_diagram.specs.Labels.{unnamed_text, form_there}
use Rattle.lucy_diagram.specs.Drawn.{form_in}

-- where the text of a place says no more than its kind, the form doesn't matter
pub any_form : (program : ProgramTree) (nodes : List PlacedNode) (node : ℕ) (n : PlacedNode) (place : ℕ) (k : PlaceKind) →
    unnamed_text nodes n k (form_in program node place k) ≡ unnamed_text nodes n k (form_there program node place)
any_form program nodes node n place kind.Param = refl
any_form program nodes node n place (kind.Defined e) = refl
any_form program nodes node n place (kind.Lit l) = refl
any_form program nodes node n place (kind.Op op args) = refl
any_form program nodes node n place (kind.Host op a b) = refl
any_form program nodes node n place (kind.When e word) = refl
any_form program nodes node n place (kind.Merge word a b) = refl
any_form program nodes node n place (kind.Fby l e) = refl
any_form program nodes node n place (kind.Buffer k e) = refl
any_form program nodes node n place (kind.Result call j) = refl
