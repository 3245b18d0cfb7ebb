-- The levels at which operators bind, and what is read or refused at each.
use Rattle.std.specs.Prelude.{ℕ, List, ◌≡◌}
use Rattle.lucy_host.specs.declared.op.Op.{Op}
use Rattle.lucy_host.specs.declared.op.Op.TheVariants as op
use Rattle.lucy_tree.specs.declared.span.Span.{Span}
use Rattle.lucy_tree.specs.Tree.{Tree}
use Rattle.lucy_token.specs.declared.mark.Mark.TheVariants as mark
use Rattle.lucy_token.specs.declared.token.Kind.TheVariants as kind
use Rattle.lucy_token.specs.declared.token.Token.{Token}
use Rattle.lucy_token.specs.Tokens.{first}
use Rattle.lucy_grammar.specs.Symbols.{Part}
use Rattle.lucy_grammar.specs.Reading.{Reads, Unfit, IsBegun, Begins}
use Rattle.lucy_syntax.specs.declared.level.Level.{Level}
use Rattle.lucy_syntax.specs.declared.level.Level.TheVariants as level

-- how loosely a level binds
abbrev pub rank : Level → ℕ
rank level.Samp = 0
rank level.Prod = 1
rank level.Sum = 2
rank level.Cmp = 3
rank level.And = 4
rank level.Or = 5

-- the next one
abbrev pub looser : Level → Level
looser level.Samp = level.Prod
looser level.Prod = level.Sum
looser level.Sum = level.Cmp
looser level.Cmp = level.And
looser level.And = level.Or
looser level.Or = level.Or

-- the level after one more operand
abbrev pub behind : Level → Level
behind level.Sum = level.Cmp
behind level.Samp = level.Samp
behind level.Prod = level.Prod
behind level.Cmp = level.Cmp
behind level.And = level.And
behind level.Or = level.Or

-- the part of the level is read
abbrev pub ReadsAt : Level → List Token → Tree → List Token → Type 0
ReadsAt level.Samp ts e rest = Reads Part.Samp ts e rest
ReadsAt level.Prod ts e rest = Reads Part.Prod ts e rest
ReadsAt level.Sum ts e rest = Reads Part.Sum ts e rest
ReadsAt level.Cmp ts e rest = Reads Part.Cmp ts e rest
ReadsAt level.And ts e rest = Reads Part.And ts e rest
ReadsAt level.Or ts e rest = Reads Part.Or ts e rest

-- it is refused
abbrev pub UnfitAt : Level → List Token → List Token → Type 0
UnfitAt level.Samp ts rest = Unfit Part.Samp ts rest
UnfitAt level.Prod ts rest = Unfit Part.Prod ts rest
UnfitAt level.Sum ts rest = Unfit Part.Sum ts rest
UnfitAt level.Cmp ts rest = Unfit Part.Cmp ts rest
UnfitAt level.And ts rest = Unfit Part.And ts rest
UnfitAt level.Or ts rest = Unfit Part.Or ts rest

-- a sign between operands of the level is the first token
abbrev pub SignAt : Level → List Token → Op × Span → List Token → Type 0
SignAt level.Samp ts v rest = IsBegun Part.ProdOp ts × Reads Part.ProdOp ts v rest
SignAt level.Prod ts v rest = IsBegun Part.SumOp ts × Reads Part.SumOp ts v rest
SignAt level.Sum ts v rest = IsBegun Part.CmpOp ts × Reads Part.CmpOp ts v rest
SignAt level.Cmp ts v rest = (t : Token) × Begins ts t (kind.Mark mark.Both) rest × (v.0 ≡ op.And) × (v.1 ≡ t.span)
SignAt level.And ts v rest = (t : Token) × Begins ts t (kind.Mark mark.Either) rest × (v.0 ≡ op.Or) × (v.1 ≡ t.span)
SignAt level.Or ts v rest = ⊥

-- none is
abbrev pub NoSignAt : Level → List Token → Type 0
NoSignAt level.Samp ts = IsBegun Part.ProdOp ts → ⊥
NoSignAt level.Prod ts = IsBegun Part.SumOp ts → ⊥
NoSignAt level.Sum ts = IsBegun Part.CmpOp ts → ⊥
NoSignAt level.Cmp ts = first ts ≡ kind.Mark mark.Both → ⊥
NoSignAt level.And ts = first ts ≡ kind.Mark mark.Either → ⊥
NoSignAt level.Or ts = Unit {0}
