use Rattle.std.proofs.Common.{ℕ, List, Result, sym, subst, Option}
use Rattle.std.specs.Str.Parse.{ParsesUnsigned, ExplainsUnsignedError, HasUnsignedDigitsIfOk}
use Rattle.lucy_asking.specs.Asks.{Spells}
use Rattle.lucy_asking.proofs.Rows.{parsed_so}
use Rattle.lucy_asking.proofs.words.offset.Goals as goal

pub returns : goal.returns
returns c =
    subst (λ (o : Option ℕ). Spells 64 c.args.text.now o) (sym c.ok.ensures.value)
    (parsed_so 64 (λ (bs : List ℕ) (r : Result ℕ _). ParsesUnsigned 64 10 bs r × ExplainsUnsignedError 10 bs r × HasUnsignedDigitsIfOk bs r) (λ t r h. h.0)
    c.args.text.now c.parse.result c.parse.ensures.value)
