-- Tokens that are a program, and tokens that begin one.
use Rattle.std.specs.Prelude.{List, [], ◌∷◌, ◌++◌, ◌≡◌}
use Rattle.lucy_tree.specs.View.{ProgramTree}
use Rattle.lucy_token.specs.declared.token.Token.{Token}
use Rattle.lucy_grammar.specs.Symbols.{part, Program}
use Rattle.lucy_grammar.specs.Derivations.{Derives}

-- the tokens are a program, and this is its tree
abbrev pub IsProgram : List Token → ProgramTree → Type 0
IsProgram ts p = Derives (part Program ∷ []) ts (p, tt)

-- some tokens after these make them a program
abbrev pub BeginsProgram : List Token → Type 0
BeginsProgram front = (p : ProgramTree) × (after : List Token) × IsProgram (front ++ after) p

-- The tokens are no program: those before `rest` begin one, and with the first token of `rest` they begin none.
pub record IsFirstUnfit (ts : List Token) (rest : List Token) : Type 0 where
  pub front : List Token
  pub whole : ts ≡ front ++ rest
  pub fits : BeginsProgram front
  pub stops : (t : Token) (more : List Token) → rest ≡ t ∷ more → BeginsProgram (front ++ t ∷ []) → ⊥
  pub none : (p : ProgramTree) → IsProgram ts p → ⊥
