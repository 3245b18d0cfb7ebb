use Rattle.std.proofs.Common.{◌≡◌, Some, subst}
use Rattle.lucy_place.specs.declared.placed.PlacedNode.{PlacedNode}
use Rattle.lucy_place.specs.Standing.{at_one}
use Rattle.lucy_naming.proofs.PartsLaws.{node_same}
use Rattle.lucy_picture.proofs.FormLaws.{form_there}
use Rattle.lucy_picture.proofs.forms.forms_stand_at_their_places.Goals as goal

pub returns : goal.returns
returns c = λ ops above n place entry at behind. form_there ops above n place entry (subst (λ (m : PlacedNode). at_one m.places place ≡ Some entry) (node_same ops above n) at) behind
