-- What a need says of the words, rule by rule.
use Rattle.std.proofs.Common.{ℕ, List, [], ◌∷◌, sym, ◌∙◌}
use Rattle.std.specs.List.{AllByRecursion}
use Rattle.lucy_word.specs.Bits.{Bits}
use Rattle.lucy_word.specs.Shortest.{Same}
use Rattle.lucy_word.specs.Always.{always}
use Rattle.lucy_need.specs.Meeting.{Assignment, alone, term, AreEqual, MeetsAll}
use Rattle.lucy_word.proofs.OnLaws.{on_always, always_on}
use Rattle.lucy_need.proofs.TermLaws.{alone_from, alone_to}
use Rattle.lucy_clock.specs.Listing.{operand_needs}

-- a clock is the base on a word
pub base_from : (w : Assignment) (p : ℕ) (word : Bits) → Same (w 0) always → Same (w p) word → AreEqual w (alone p) (term 0 word)
base_from w p word base same i h = on_always (w p) i h ∙ same i h ∙ sym (always_on (w 0) word i base h)

pub base_to : (w : Assignment) (p : ℕ) (word : Bits) → Same (w 0) always → AreEqual w (alone p) (term 0 word) → Same (w p) word
base_to w p word base equal i h = sym (on_always (w p) i h) ∙ equal i h ∙ always_on (w 0) word i base h

-- operands of an operator
pub args_from : (w : Assignment) (p : ℕ) (args : List ℕ) → AllByRecursion (λ arg. Same (w p) (w arg)) args → MeetsAll w (operand_needs p args)
args_from w p [] h = tt
args_from w p (arg ∷ args) h = (alone_from w p arg h.0, args_from w p args h.1)

pub args_to : (w : Assignment) (p : ℕ) (args : List ℕ) → MeetsAll w (operand_needs p args) → AllByRecursion (λ arg. Same (w p) (w arg)) args
args_to w p [] h = tt
args_to w p (arg ∷ args) h = (alone_to w p arg h.0, args_to w p args h.1)
