use Rattle.std.proofs.Common.{◌≡◌, ◌+◌, ◌++◌, ◌∷◌, length, drop, refl, ap, sym, ◌∙◌, arith, append_assoc}
use Rattle.std.proofs.lemmas.List.{drop_more}
use Rattle.std.proofs.lemmas.Option.{slice_get_read}
use Rattle.lucy_place.specs.declared.entry.PlaceEntry.{PlaceEntry}
use Rattle.lucy_types.specs.Rules.{place_rules}
use Rattle.lucy_types.specs.Gathered.{HasArity, own_rules}
use Rattle.lucy_types.proofs.ListLaws.{all_at}
use Rattle.lucy_types.proofs.own.put_own.Goals as goal

pub put_place-requires : goal.put_place-requires
put_place-requires c =
    all_at (λ (entry : PlaceEntry). HasArity entry.kind) c.args.places.now c.each.i c.index-places-i.result c.requires.arities
    (slice_get_read c.args.places.now (length c.args.places.now) c.each.i c.index-places-i.result refl (omega arith) c.index-places-i.is)

pub each-preserved : goal.each-preserved
each-preserved c =
    let x = c.index-places-i.result in
    let later = drop (c.each.i + 1) c.args.places.now in
    let here : drop c.each.i c.args.places.now ≡ x ∷ later = drop_more c.args.places.now c.each.i x (omega arith) ∙ ap (λ y. y ∷ later) (sym c.index-places-i.is) in
    let rest = own_rules (c.each.i + 1 + 1) later in
    ap (λ rs. rs ++ rest) c.in_ok-put_place.ensures ∙ append_assoc c.each.rules.items (place_rules (c.each.i + 1) x) rest
    ∙ ap (λ ps. c.each.rules.items ++ own_rules (c.each.i + 1) ps) (sym here) ∙ c.each.invariant
