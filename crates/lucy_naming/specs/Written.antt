-- When a node is written, and the first span in its text that keeps it from being so.
use Rattle.std.specs.Prelude.{List, [], ◌∷◌, ◌++◌, Option, Some, None, nat_lt, if◌then◌else◌, fold}
use Rattle.std.specs.List.{flat_map}
use Rattle.lucy_word.specs.Bits.{Bits}
use Rattle.lucy_tree.specs.declared.span.Span.{Span}
use Rattle.lucy_tree.specs.declared.decl.Decl.{Decl}
use Rattle.lucy_tree.specs.View.{DefTree, NodeTree}
use Rattle.lucy_naming.specs.Phrases.{Head, Sampled, Buffered, Called, Phrase, Phrases, name, headed, none, and, phrase_of}

-- the span of a name that lacks its word
abbrev pub lacking : Option Bits → Span → List Span
lacking None span = span ∷ []
lacking (Some w) span = []

-- the spans of declared names that lack their words
abbrev pub decl_spans : List Decl → List Span
decl_spans ds = flat_map (λ d. lacking d.word d.name.span) ds

-- the span of an operand that is no name
abbrev pub unnamed_span : Phrase → List Span
unnamed_span (name n) = []
unnamed_span (headed h span fs) = span ∷ []

-- the spans of those of a list
abbrev pub unnamed_spans : Phrases → List Span
unnamed_spans none = []
unnamed_spans (and f fs) = unnamed_span f ++ unnamed_spans fs

-- what keeps a form itself from being written: the operands of `when`, `whenot` and `buffer` and the arguments of a call
-- are to be names, and a call is to have its word
abbrev pub own_spans : Head → Phrases → List Span
own_spans (Sampled flip w) fs = unnamed_spans fs
own_spans (Buffered most) fs = unnamed_spans fs
own_spans (Called n at) fs = lacking at n.span ++ unnamed_spans fs
own_spans h fs = []

-- the spans in an expression that keep its node from being written
abbrev mutual
  pub phrase_spans : Phrase → List Span
  phrase_spans (name n) = []
  phrase_spans (headed h span fs) = own_spans h fs ++ phrases_spans fs

  pub phrases_spans : Phrases → List Span
  phrases_spans none = []
  phrases_spans (and f fs) = phrase_spans f ++ phrases_spans fs

-- the spans in a definition that keep its node from being written
abbrev pub def_spans : DefTree → List Span
def_spans d = decl_spans d.left ++ phrase_spans (phrase_of d.right)

-- all spans that keep a node from being written, in no order: it is written where there is none
abbrev pub unwritten_spans : NodeTree → List Span
unwritten_spans n = decl_spans n.params ++ flat_map def_spans n.defs

-- of two spans the one that begins first
abbrev pub earlier : Option Span → Span → Option Span
earlier None s = Some s
earlier (Some first) s = if nat_lt s.from first.from then Some s else Some first

-- the first span in order of the text that keeps a node from being written
abbrev pub first_unwritten : NodeTree → Option Span
first_unwritten n = fold earlier None (unwritten_spans n)
