use Rattle.std.proofs.Common.{◌≡◌, refl, ap, ◌∙◌, not, ◌++◌, ◌∷◌, [], if◌then◌else◌, true, false, Bool, ℕ, List, Bor}
use Rattle.std.proofs.lemmas.List.{map-append}
use Rattle.std.specs.List.{list_any}
use Rattle.lucy_naming.specs.Texts.{is_in, is_text}
use Rattle.lucy_naming.proofs.TextLaws.{seen, any_seen}
use Rattle.lucy_naming.proofs.scope.Scope.add.Goals as goal

pub returns-clause-new : goal.returns-clause-new
returns-clause-new c =
    c.in_ok-new.ensures.added ∙ ap not (any_seen c.args.name.now c.self.inside.names.keys ∙ ap (λ l. is_in l c.args.name.now) c.self.view_is)

put : (ks : List (Bor (List ℕ))) (k : Bor (List ℕ)) (b : Bool) → seen (if b then ks else ks ++ k ∷ []) ≡ (if b then seen ks else seen ks ++ k.now ∷ [])
put ks k true = refl
put ks k false = map-append (λ (x : Bor (List ℕ)). x.now) ks (k ∷ [])

pub returns-clause-names : goal.returns-clause-names
returns-clause-names c =
    ap seen c.in_ok-new.ensures.keys
    ∙ put c.self.inside.names.keys c.args.name (list_any (λ k. is_text c.args.name.now k.now) c.self.inside.names.keys)
    ∙ ap (λ b. if b then seen c.self.inside.names.keys else seen c.self.inside.names.keys ++ c.args.name.now ∷ [])
    (any_seen c.args.name.now c.self.inside.names.keys)
    ∙ ap (λ l. if is_in l c.args.name.now then l else l ++ c.args.name.now ∷ []) c.self.view_is
