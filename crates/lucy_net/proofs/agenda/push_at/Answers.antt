use Rattle.std.proofs.Common.{ℕ, [], ◌∷◌, ◌++◌, map, set, ap, sym, ◌∙◌, Vec, Global}
use Rattle.std.proofs.lemmas.List.{map-set, get_or-map}
use Rattle.lucy_net.proofs.agenda.push_at.Goals as goal

pub returns : goal.returns
returns c =
    map-set (λ (v : Vec ℕ Global). v.items) c.args.rows.now c.args.row c.push.new.self
    ∙ ap (set (map (λ (v : Vec ℕ Global). v.items) c.args.rows.now) c.args.row) (c.in_ok-push.ensures.items ∙ ap (λ xs. xs ++ c.args.number ∷ []) (sym (get_or-map (λ (v : Vec ℕ Global). v.items) c.args.rows.now c.args.row _ [] c.requires)))
