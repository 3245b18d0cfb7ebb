-- What is printed on a sheet: the text so far, or nothing once memory ran out.
use Rattle.std.specs.Prelude.{ℕ, ◌≡◌, List, ◌∷◌, ◌++◌, Option, Some, None}
use Rattle.lucy_word.specs.Bits.{Bits}
use Rattle.lucy_tree.specs.declared.span.Name.{Name}
use Rattle.lucy_token.specs.declared.mark.Mark.TheVariants as mark
use Rattle.lucy_grammar.specs.PrintTokens.{blank, spaced_text, the, name_token, word_token}

-- the text is put behind what is there, unless memory runs out
pub record Adds (text : List ℕ) (old new : Option (List ℕ)) : Type 0 where
  pub is : (n : List ℕ) → new ≡ Some n → (o : List ℕ) × (old ≡ Some o) × (n ≡ o ++ text)

-- what stands in a call before its arguments
abbrev pub call_front : Name → Option Bits → List ℕ
call_front name None = spaced_text (name_token name) ++ blank
call_front name (Some w) = spaced_text (name_token name) ++ (32 ∷ (spaced_text (the mark.At) ++ (32 ∷ (spaced_text (word_token w) ++ blank))))
