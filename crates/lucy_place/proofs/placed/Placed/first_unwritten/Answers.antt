use Rattle.std.proofs.Common.{◌≡◌, ◌<◌, Some, length, slice_get, refl, ap, ◌∙◌, arith}
use Rattle.std.proofs.lemmas.Option.{slice_get_read}
use Rattle.lucy_place.proofs.placed.Placed.first_unwritten.Goals as goal

pub returns-clause-tables : goal.returns-clause-tables
returns-clause-tables c n g =
    let spans = c.self.inside.spans.items in
    let e : c.self.inside.list.items ≡ c.args.self.now.nodes = ap (λ v. v.nodes) c.self.view_is in
    let within : c.args.node < length spans = omega (arith, c.requires, ap length e, c.self.invariant.0) in
    let at : slice_get spans c.args.node ≡ Some c.index.result.now = slice_get_read spans (length spans) c.args.node c.index.result.now refl within c.index.ensures in
    c.self.invariant.5 c.args.node n c.index.result.now (ap (λ ns. slice_get ns c.args.node) e ∙ g) at
