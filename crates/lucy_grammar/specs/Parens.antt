-- Tokens but for their parentheses.
use Rattle.std.specs.Prelude.{List, [], ◌∷◌, ◌++◌}
use Rattle.lucy_token.specs.declared.mark.Mark.TheVariants as mark
use Rattle.lucy_token.specs.declared.token.What.{What}
use Rattle.lucy_token.specs.declared.token.What.TheVariants as what

-- a token, if it is no parenthesis
abbrev pub kept : What → List What
kept (what.Mark mark.Open) = []
kept (what.Mark mark.Close) = []
kept w = w ∷ []

-- those of the tokens that are no parentheses
abbrev pub without_parens : List What → List What
without_parens [] = []
without_parens (w ∷ ws) = kept w ++ without_parens ws
