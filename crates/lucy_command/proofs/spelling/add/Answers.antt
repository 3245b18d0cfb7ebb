use Rattle.std.proofs.Common.{ℕ, List, [], ◌∷◌, ◌++◌, map, string_bytes, ap, ◌∙◌}
use Rattle.std.proofs.lemmas.List.{map-append}
use Rattle.lucy_command.proofs.spelling.add.Goals as goal

pub returns : goal.returns
returns c =
    let old : List (List ℕ) = map string_bytes c.args.words.now.items in
    ap (map string_bytes) c.in_ok-push.ensures.items ∙ map-append string_bytes c.args.words.now.items (c.in_ok-format.field-0 ∷ []) ∙ ap (λ (text : List ℕ). old ++ text ∷ []) (c.in_ok-format.ensures.ok ∙ ap (λ (text : List ℕ). c.args.front.now ++ text) c.or_empty-text.ensures)
