-- Which texts have a tree, and why one is refused.
use Rattle.std.specs.Prelude.{ℕ, ◌<◌, ◌≤◌, ◌≡◌, ◌⊎◌, List, [], ◌∷◌, ◌++◌, length}
use Rattle.lucy_word.specs.Limits.{limit_number}
use Rattle.lucy_word.specs.declared.limit.Limit.TheVariants as limit
use Rattle.lucy_tree.specs.View.{ProgramTree}
use Rattle.lucy_token.specs.declared.token.Token.{Token}
use Rattle.lucy_token.specs.declared.stop.Stop.{Stop}
use Rattle.lucy_token.specs.declared.stop.Stop.TheVariants.{End, Fault}
use Rattle.lucy_token.specs.declared.stop.SyntaxError.{SyntaxError}
use Rattle.lucy_token.specs.declared.stop.SyntaxError.TheVariants.{Unexpected, TooLarge}
use Rattle.lucy_token.specs.Cuts.{Cuts}
use Rattle.lucy_grammar.specs.Programs.{IsProgram, BeginsProgram}

-- the text has this tree: its tokens go on to its end, and are a program
pub record HasTree (text : List ℕ) (p : ProgramTree) : Type 0 where
  pub short : length text ≤ limit_number limit.Text
  pub tokens : List Token
  pub end : ℕ
  pub cut : Cuts 0 [] text tokens (End end)
  pub program : IsProgram tokens p

-- the error where the first of these tokens doesn't fit, or, where there is none, at the place or the fault where tokens stop
abbrev pub error_at : List Token → Stop → SyntaxError
error_at [] (End n) = Unexpected n
error_at [] (Fault e) = e
error_at (t ∷ ts) stop = Unexpected t.span.from

-- the text has no tree: its tokens begin a program up to a place, with one token more they begin none, and the error is the one there
pub record IsUnfitText (text : List ℕ) (e : SyntaxError) : Type 0 where
  pub short : length text ≤ limit_number limit.Text
  pub front : List Token
  pub rest : List Token
  pub stop : Stop
  pub cut : Cuts 0 [] text (front ++ rest) stop
  pub fits : BeginsProgram front
  pub stops : (t : Token) (more : List Token) → rest ≡ t ∷ more → BeginsProgram (front ++ t ∷ []) → ⊥
  pub none : (p : ProgramTree) → HasTree text p → ⊥
  pub error : e ≡ error_at rest stop

-- the text is refused so: it is too long, or else its tokens don't fit
abbrev pub IsRefused : List ℕ → SyntaxError → Type 0
IsRefused text e = ((limit_number limit.Text < length text) × (e ≡ TooLarge limit.Text)) ⊎ IsUnfitText text e
