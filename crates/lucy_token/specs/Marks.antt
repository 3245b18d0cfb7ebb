-- Keywords and signs, and how they are spelled.
use Rattle.std.specs.Prelude.{ℕ, List, [], ◌∷◌, codes}
use Rattle.lucy_host.specs.declared.op.Op.{Op}
use Rattle.lucy_host.specs.declared.op.Op.TheVariants as op
use Rattle.lucy_token.specs.declared.mark.Mark.{Mark}
use Rattle.lucy_token.specs.declared.mark.Mark.TheVariants as mark

-- how a keyword or a sign is spelled
abbrev pub spelling : Mark → List ℕ
spelling mark.Let = codes "let"
spelling mark.Node = codes "node"
spelling mark.Where = codes "where"
spelling mark.Rec = codes "rec"
spelling mark.And = codes "and"
spelling mark.When = codes "when"
spelling mark.Whenot = codes "whenot"
spelling mark.Merge = codes "merge"
spelling mark.Fby = codes "fby"
spelling mark.Buffer = codes "buffer"
spelling mark.At = codes "at"
spelling mark.Host = codes "host"
spelling mark.If = codes "if"
spelling mark.Then = codes "then"
spelling mark.Else = codes "else"
spelling mark.Not = codes "not"
spelling mark.True = codes "true"
spelling mark.False = codes "false"
spelling mark.Int = codes "int"
spelling mark.Bool = codes "bool"
spelling mark.Open = codes "("
spelling mark.Close = codes ")"
spelling mark.Comma = codes ","
spelling mark.Colon = codes ":"
spelling mark.Colons = codes "::"
spelling mark.Equals = codes "="
spelling mark.Same = codes "=="
spelling mark.Differs = codes "!="
spelling mark.Less = codes "<"
spelling mark.AtMost = codes "<="
spelling mark.Greater = codes ">"
spelling mark.AtLeast = codes ">="
spelling mark.Plus = codes "+"
spelling mark.Minus = codes "-"
spelling mark.Star = codes "*"
spelling mark.Slash = codes "/"
spelling mark.Percent = codes "%"
spelling mark.Both = codes "&&"
spelling mark.Either = codes "||"

-- the keywords
abbrev pub keywords : List Mark
keywords = mark.Let ∷ mark.Node ∷ mark.Where ∷ mark.Rec ∷ mark.And ∷ mark.When ∷ mark.Whenot ∷ mark.Merge ∷ mark.Fby ∷ mark.Buffer ∷ mark.At ∷ mark.Host ∷ mark.If ∷ mark.Then ∷ mark.Else ∷ mark.Not ∷ mark.True ∷ mark.False ∷ mark.Int ∷ mark.Bool ∷ []

-- the signs, those of two bytes before those of one
abbrev pub signs : List Mark
signs = mark.Colons ∷ mark.Same ∷ mark.Differs ∷ mark.AtMost ∷ mark.AtLeast ∷ mark.Both ∷ mark.Either ∷ mark.Open ∷ mark.Close ∷ mark.Comma ∷ mark.Colon ∷ mark.Equals ∷ mark.Less ∷ mark.Greater ∷ mark.Plus ∷ mark.Minus ∷ mark.Star ∷ mark.Slash ∷ mark.Percent ∷ []

-- the sign of an operator, or its first keyword
abbrev pub op_mark : Op → Mark
op_mark op.Add = mark.Plus
op_mark op.Sub = mark.Minus
op_mark op.Mul = mark.Star
op_mark op.Div = mark.Slash
op_mark op.Rem = mark.Percent
op_mark op.Eq = mark.Same
op_mark op.Ne = mark.Differs
op_mark op.Lt = mark.Less
op_mark op.Le = mark.AtMost
op_mark op.Gt = mark.Greater
op_mark op.Ge = mark.AtLeast
op_mark op.And = mark.Both
op_mark op.Or = mark.Either
op_mark op.Not = mark.Not
op_mark op.If = mark.If
