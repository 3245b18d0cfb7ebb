use Rattle.std.proofs.Common.{[], ◌∷◌, ◌++◌, length, ap, sym, ◌∙◌}
use Rattle.lucy_word.proofs.LimbLaws.{length-unpacked}
use Rattle.lucy_word.proofs.packed.Packed.len.Goals as goal

pub returns-clause-len : goal.returns-clause-len
returns-clause-len c = sym (length-unpacked c.self.inside.len (c.self.inside.whole.items ++ c.self.inside.last ∷ [])) ∙ ap length c.self.view_is
