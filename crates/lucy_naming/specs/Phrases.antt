-- An expression as its head and its operands.
use Rattle.std.specs.Prelude.{ℕ, ◌+◌, Bool, List, Option, map}
use Rattle.lucy_word.specs.Bits.{Bits}
use Rattle.lucy_host.specs.declared.op.Op.{Op}
use Rattle.lucy_tree.specs.declared.span.Span.{Span}
use Rattle.lucy_tree.specs.declared.span.Name as names
use Rattle.lucy_tree.specs.declared.expr.Lit.{Lit}
use Rattle.lucy_tree.specs.declared.expr.Expr.{Expr}
use Rattle.lucy_tree.specs.Tree.{Tree, Trees, literal, variable, operator, host, sampled, merged, followed, buffered, call, no_more, more, trees_of}
use Rattle.lucy_tree.specs.View.{tree_of}

-- what an expression is that is no name, but for its operands
pub data Head : Type 0 where
  Literal : Lit → Head
  Applied : Op → Head
  Host : names.Name → Head
  Sampled : Bool → Bits → Head
  Merged : Bits → Head
  Followed : Lit → Head
  Buffered : Option ℕ → Head
  Called : names.Name → Option Bits → Head

-- an expression: a name, or a head with its operands in the order of the text. The span is that of an operand that is no
-- name: of its outermost operator, literal, or name before arguments, and of the operand for `when` and `whenot`
mutual
  pub data Phrase : Type 0 where
    name : names.Name → Phrase
    headed : Head → Span → Phrases → Phrase

  pub data Phrases : Type 0 where
    none : Phrases
    and : Phrase → Phrases → Phrases

-- the span of an operand
abbrev pub span_of : Phrase → Span
span_of (name n) = n.span
span_of (headed h span fs) = span

-- the phrase of a tree
abbrev mutual
  pub phrase_of : Tree → Phrase
  phrase_of (literal l span) = headed (Literal l) span none
  phrase_of (variable n) = name n
  phrase_of (operator op args span) = headed (Applied op) span (phrases_of args)
  phrase_of (host n args) = headed (Host n) n.span (phrases_of args)
  phrase_of (sampled flip e w) = headed (Sampled flip w) (span_of (phrase_of e)) (and (phrase_of e) none)
  phrase_of (merged w a b span) = headed (Merged w) span (and (phrase_of a) (and (phrase_of b) none))
  phrase_of (followed l e span) = headed (Followed l) span (and (phrase_of e) none)
  phrase_of (buffered most e span) = headed (Buffered most) span (and (phrase_of e) none)
  phrase_of (call n at args) = headed (Called n at) n.span (phrases_of args)

  pub phrases_of : Trees → Phrases
  phrases_of no_more = none
  phrases_of (more t ts) = and (phrase_of t) (phrases_of ts)

-- how many operands there are
abbrev pub count : Phrases → ℕ
count none = 0
count (and f fs) = 1 + count fs

-- what is seen of an expression
abbrev pub expr_phrase : Expr → Phrase
expr_phrase e = phrase_of (tree_of e)

-- and of a list of them
abbrev pub expr_phrases : List Expr → Phrases
expr_phrases es = phrases_of (trees_of (map tree_of es))
