use Rattle.std.proofs.Common.{ℕ, suc, ◌≡◌, ◌-◌, ◌<◌, List, [], length, get_or, refl, ap, sym, ◌∙◌, arith}
use Rattle.std.proofs.lemmas.List.{length-map, get_or-map}
use Rattle.std.proofs.lemmas.Option.{slice_get_read}
use Rattle.lucy_place.specs.Proper.{at_one}
use Rattle.lucy_types.specs.declared.ty.Ty.{Ty}
use Rattle.lucy_types.specs.declared.signature.Signature.{Signature}
use Rattle.lucy_types.specs.Nodes.{tables_of}
use Rattle.lucy_types.specs.Tables.{table_at}
use Rattle.lucy_types.proofs.typed.Typed.type_at.Goals as goal

-- a node that is there, and its types
own_there : (signatures : List Signature) (tables : List (List Ty)) (node : ℕ) → tables_of signatures ≡ tables → node < length tables → node < length signatures
own_there signatures tables node v l = omega (arith, ap (λ (ts : List (List Ty)). length ts) v, length-map signatures (λ (s : Signature). s.tys.items))

own_types : (signatures : List Signature) (tables : List (List Ty)) (node : ℕ) (s : Signature) → tables_of signatures ≡ tables → node < length signatures → s ≡ get_or signatures node s → table_at tables node ≡ s.tys.items
own_types signatures tables node s v l e =
    ap (λ (ts : List (List Ty)). table_at ts node) (sym v) ∙ get_or-map (λ (t : Signature). t.tys.items) signatures node s [] l ∙ ap (λ (t : Signature). t.tys.items) (sym e)

pub index-requires : goal.index-requires
index-requires c = omega (arith, own_there c.self.inside.nodes.items c.args.self.now c.args.node c.self.view_is c.requires.node)

pub index-requires-2 : goal.index-requires-2
index-requires-2 c =
    let l = own_there c.self.inside.nodes.items c.args.self.now c.args.node c.self.view_is c.requires.node in
    let own = own_types c.self.inside.nodes.items c.args.self.now c.args.node c.index.result.now c.self.view_is l c.index.ensures in
    omega (arith, c.requires.first, c.requires.last, ap (λ (ts : List Ty). length ts) own)

pub returns : goal.returns
returns c =
    let l = own_there c.self.inside.nodes.items c.args.self.now c.args.node c.self.view_is c.requires.node in
    let own = own_types c.self.inside.nodes.items c.args.self.now c.args.node c.index.result.now c.self.view_is l c.index.ensures in
    let z : c.args.place ≡ suc (c.args.place - 1) = omega (arith, c.requires.first) in
    let there : c.args.place - 1 < length c.index.result.now.tys.items = omega (arith, c.requires.first, c.requires.last, ap (λ (ts : List Ty). length ts) own) in
    ap (λ (ts : List Ty). at_one ts c.args.place) own ∙ ap (at_one c.index.result.now.tys.items) z
    ∙ slice_get_read c.index.result.now.tys.items (length c.index.result.now.tys.items) (c.args.place - 1) c.index-2.result.now refl there c.index-2.ensures
