-- Why tokens that are read one by one are refused.
use Rattle.std.specs.Prelude.{◌≡◌, ◌⊎◌, List, [], ◌∷◌, ◌++◌}
use Rattle.lucy_tree.specs.View.{ProgramTree}
use Rattle.lucy_token.specs.declared.token.Token.{Token}
use Rattle.lucy_token.specs.declared.stop.Stop.{Stop}
use Rattle.lucy_token.specs.declared.stop.Stop.TheVariants.{End, Fault}
use Rattle.lucy_token.specs.declared.stop.SyntaxError.{SyntaxError}
use Rattle.lucy_token.specs.declared.stop.SyntaxError.TheVariants.{Unexpected}
use Rattle.lucy_grammar.specs.Programs.{IsProgram, BeginsProgram}
use Rattle.lucy_grammar.specs.Texts.{error_at}

-- a token is the first that doesn't fit: the tokens before it begin a program, and with it they begin none
pub record IsUnexpected (ts : List Token) (e : SyntaxError) : Type 0 where
  pub front : List Token
  pub at : Token
  pub more : List Token
  pub whole : ts ≡ front ++ at ∷ more
  pub fits : BeginsProgram front
  pub stops : BeginsProgram (front ++ at ∷ []) → ⊥
  pub error : e ≡ Unexpected at.span.from

-- the text ends with these tokens, and they are this program
abbrev pub IsWholeProgram : List Token → Stop → ProgramTree → Type 0
IsWholeProgram ts (End n) p = IsProgram ts p
IsWholeProgram ts (Fault e) p = ⊥

-- all tokens fit, and no program stops where they stop
pub record IsStopped (ts : List Token) (stop : Stop) (e : SyntaxError) : Type 0 where
  pub fits : BeginsProgram ts
  pub none : (p : ProgramTree) → IsWholeProgram ts stop p → ⊥
  pub error : e ≡ error_at [] stop

-- why tokens are refused, that stop here
abbrev pub IsWhy : List Token → Stop → SyntaxError → Type 0
IsWhy ts stop e = IsUnexpected ts e ⊎ IsStopped ts stop e
