use Rattle.std.proofs.Common.{ℕ, List, Result}
use Rattle.std.specs.Str.Parse.{ParsesUnsigned, ExplainsUnsignedError, HasUnsignedDigitsIfOk}
use Rattle.clap.specs.Matches.{found_of}
use Rattle.lucy_asking.proofs.Rows.{has_number}
use Rattle.lucy_asking.proofs.words.number.Goals as goal

pub returns : goal.returns
returns c =
    has_number 64 (λ (bs : List ℕ) (r : Result ℕ _). ParsesUnsigned 64 10 bs r × ExplainsUnsignedError 10 bs r × HasUnsignedDigitsIfOk bs r) (λ t r h. h.0)
    (found_of c.args.matches.now) c.args.option.now c.get_one.result c.get_one.ensures.none c.get_one.ensures.value
