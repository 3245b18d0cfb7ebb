use Rattle.std.proofs.Common.{◌∙◌}
use Rattle.std.proofs.lemmas.Result.{IfOk-at_ok}
use Rattle.lucy_command.specs.Seen.{or_empty, Holds}
use Rattle.lucy_command.proofs.Full.{full_is, texts_are}
use Rattle.lucy_command.proofs.matching.texts_in.Goals as goal

pub returns : goal.returns
returns c t full e =
    let found = IfOk-at_ok (λ m. Holds m t) c.in-Ok.is (c.matches_of.ensures.found t e) in
    texts_are t _ _ _ _ _ _ _ (c.text.ensures (or_empty t.scale) found.scale ∙ full_is t.scale full.scale) (c.text-2.ensures (or_empty t.lead) found.lead ∙ full_is t.lead full.lead)
    (c.text-3.ensures (or_empty t.instants) found.instants ∙ full_is t.instants full.instants) (c.text-4.ensures (or_empty t.workers) found.workers ∙ full_is t.workers full.workers)
    (c.text-5.ensures (or_empty t.block) found.block ∙ full_is t.block full.block) (c.text-6.ensures (or_empty t.first) found.first ∙ full_is t.first full.first)
    (c.text-7.ensures (or_empty t.second) found.second ∙ full_is t.second full.second)
