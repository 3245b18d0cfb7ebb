use Rattle.std.proofs.Common.{List, length, take, refl, subst, sym}
use Rattle.lucy_host.proofs.Elements.{get_there}
use Rattle.lucy_place.specs.declared.placed.PlacedNode.{PlacedNode}
use Rattle.lucy_types.specs.declared.signature.Signature.{Signature}
use Rattle.lucy_types.specs.Rules.{IsRule}
use Rattle.lucy_types.specs.Typing.{AreTypes}
use Rattle.lucy_types.specs.Clash.{IsClashPath}
use Rattle.lucy_types.specs.Nodes.{tables_of}
use Rattle.lucy_types.proofs.NodeLaws.{types_found, clash_found, types_classes, signature_found, typed_next}
use Rattle.lucy_types.proofs.typing.put_types.Goals as goal

pub signature_of-requires-clause-classes : goal.signature_of-requires-clause-classes
signature_of-requires-clause-classes c =
    let n : PlacedNode = c.node-place.result.now in
    let above : List PlacedNode = take c.args.node c.args.placed.now.nodes in
    types_classes (IsRule above (tables_of c.as_slice.result.now) n) (length n.places) c.in-Types.tys.items
    (types_found (IsRule above (tables_of c.as_slice.result.now) n) (length n.places) c.in_ok-tys.field-0 c.in-Types.tys.items c.in-Types.tys (c.in_ok-tys.ensures n c.node-place.ensures.is) c.in-Types.is refl)

pub returns-in-Clash : goal.returns-in-Clash
returns-in-Clash c =
    let above : List PlacedNode = take c.args.node c.args.placed.now.nodes in
    let n = get_there c.args.placed.now.nodes c.args.node c.requires.node in
    record {
      n = n.0;
      found = n.1;
      known = tables_of c.args.nodes.now.items;
      above = c.requires.above.typed;
      clashes = subst (λ ss. IsClashPath (IsRule above (tables_of ss) n.0) c.in-Clash.path.items) c.as_slice.ensures.value
          (clash_found (IsRule above (tables_of c.as_slice.result.now) n.0) (length n.0.places) c.in_ok-tys.field-0 c.in-Clash.path (c.in_ok-tys.ensures n.0 n.1) c.in-Clash.is);
    }

pub returns-in_ok-push-in-Types : goal.returns-in_ok-push-in-Types
returns-in_ok-push-in-Types c =
    let n : PlacedNode = c.node-place.result.now in
    let s : Signature = c.in_ok-signature-in-Types.signature in
    let above : List PlacedNode = take c.args.node c.args.placed.now.nodes in
    let types : AreTypes (IsRule above (tables_of c.as_slice.result.now) n) (length n.places) c.in-Types.tys.items =
    types_found (IsRule above (tables_of c.as_slice.result.now) n) (length n.places) c.in_ok-tys.field-0 c.in-Types.tys.items c.in-Types.tys (c.in_ok-tys.ensures n c.node-place.ensures.is) c.in-Types.is refl in
    let known = c.in_ok-signature-in-Types.ensures in
    typed_next c.args.placed.now.nodes c.args.node n c.args.nodes.now.items c.push.new.self.items s c.node-place.ensures.is c.requires.above
    (subst (λ ss. AreTypes (IsRule above (tables_of ss) n) (length n.places) s.tys.items) c.as_slice.ensures.value
    (subst (λ ts. AreTypes (IsRule above (tables_of c.as_slice.result.now) n) (length n.places) ts) (sym known.tys) types))
    (signature_found above n c.in-Types.tys.items c.list.result.now s c.node-place.ensures.proper types.all c.list.ensures known.tys known.ports known.heads)
    c.in_ok-push-in-Types.ensures.items
