use Rattle.std.proofs.Common.{Bool, sym, subst}
use Rattle.std.specs.Prelude.{◌↔◌, IsTrue}
use Rattle.lucy_token.specs.Written.{IsNameText}
use Rattle.lucy_token.proofs.NameLaws.{told_name}
use Rattle.lucy_token.proofs.name.is_name.Goals as goal

pub returns-clause-name : goal.returns-clause-name
returns-clause-name c = subst (λ (b : Bool). IsTrue b ↔ IsNameText c.args.bytes.now) (sym c.has_form.ensures) (told_name c.args.bytes.now)
