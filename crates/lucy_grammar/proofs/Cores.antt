-- Printing changes only the parentheses of a program.
use Rattle.std.proofs.Common.{ℕ, ◌≡◌, List, [], ◌∷◌, ◌++◌, Option, Some, None, map, refl, ap, sym, ◌∙◌, append_assoc}
use Rattle.std.proofs.lemmas.List.{append-nil, map-append}
use Rattle.lucy_word.specs.Bits.{Bits}
use Rattle.std.specs.Prelude.{pos}
use Rattle.lucy_tree.specs.declared.span.Span.{Span}
use Rattle.lucy_tree.specs.Tree.{Tree, literal, variable}
use Rattle.lucy_tree.specs.View.{DefTree}
use Rattle.lucy_token.specs.declared.mark.Mark.TheVariants as mark
use Rattle.lucy_token.specs.declared.token.Kind.{Kind}
use Rattle.lucy_token.specs.declared.token.Kind.TheVariants as kind
use Rattle.lucy_token.specs.declared.token.What.{What}
use Rattle.lucy_token.specs.declared.token.What.TheVariants as what
use Rattle.lucy_token.specs.Printed.{Printed, whats_of}
use Rattle.lucy_token.specs.Marks.{op_mark}
use Rattle.lucy_grammar.specs.Kinds.{sort_kind}
use Rattle.lucy_grammar.specs.Symbols.{Sym, token, part, many, perhaps, Val, Vals, Operation, Part, Program, Node, Title, Params, Results, Names, Ident, MoreName, Body, Decls, MoreDecl, Decl, Typing, TypeName, ClockOf, Defs, Def, MoreDef, Lefts, Expr, Or, MoreAnd, And, MoreCmp, Cmp, Compared, CmpOp, Sum, MoreProd, SumOp, Prod, MoreSamp, ProdOp, Samp, Sampling, Pre, Followed, Form, Buffered, Held, Other, Atom, Small, Lit, Pair, Call, Applied, Base, Args, MoreExpr}
use Rattle.lucy_grammar.specs.Meanings.{name_bytes, token_literal, token_word}
use Rattle.lucy_grammar.specs.Parens.{kept, without_parens}
use Rattle.lucy_grammar.specs.PrintTokens.{blank, the, after, spaced, commas, parens, name_token, lit_token, when_mark, operand, printed, all_printed, type_mark, typing, clock, printed_decl, printed_def, more_defs, printed_body, printed_node, printed_program}

-- the printed tokens but for parentheses
abbrev pub core : List Printed → List What
core ps = without_parens (whats_of ps)

pub without-append : (a b : List What) → without_parens (a ++ b) ≡ without_parens a ++ without_parens b
without-append [] b = refl
without-append (w ∷ a) b = ap (λ u. kept w ++ u) (without-append a b) ∙ sym (append_assoc (kept w) (without_parens a) (without_parens b))

pub core-append : (a b : List Printed) → core (a ++ b) ≡ core a ++ core b
core-append a b = ap without_parens (map-append (λ (t : Printed). t.what) a b) ∙ without-append (whats_of a) (whats_of b)

pub core-after : (blanks : List ℕ) (a : List Printed) → core (after blanks a) ≡ core a
core-after blanks [] = refl
core-after blanks (t ∷ a) = refl

pub core-parens : (a : List Printed) → core (parens a) ≡ core a
core-parens a = core-append a (the mark.Close) ∙ append-nil (core a)

pub core-operand : (t : Tree) (a : List Printed) → core (operand t a) ≡ core a
core-operand (literal l span) a = refl
core-operand (variable n) a = refl
core-operand _ a = core-parens a

-- tokens, with blanks before them or not, and what stands behind them
pub put : (a b : List Printed) (c : List What) → core b ≡ c → core (a ++ b) ≡ core a ++ c
put a b c e = core-append a b ∙ ap (λ u. core a ++ u) e

pub put_after : (blanks : List ℕ) (a b : List Printed) (c : List What) → core b ≡ c → core (after blanks a ++ b) ≡ core a ++ c
put_after blanks a b c e = put (after blanks a) b c e ∙ ap (λ u. u ++ c) (core-after blanks a)

pub put_operand : (t : Tree) (b : List Printed) (c : List What) → core b ≡ c → core (operand t (printed t) ++ b) ≡ core (printed t) ++ c
put_operand t b c e = put (operand t (printed t)) b c e ∙ ap (λ u. u ++ c) (core-operand t (printed t))

pub put_later : (t : Tree) (b : List Printed) (c : List What) → core b ≡ c → core (after blank (operand t (printed t)) ++ b) ≡ core (printed t) ++ c
put_later t b c e = put_after blank (operand t (printed t)) b c e ∙ ap (λ u. u ++ c) (core-operand t (printed t))

pub put_parens : (a b : List Printed) (c : List What) → core b ≡ c → core (after blank (parens a) ++ b) ≡ core a ++ c
put_parens a b c e = put_after blank (parens a) b c e ∙ ap (λ u. u ++ c) (core-parens a)

abbrev pub first_defs : List DefTree → List What
first_defs [] = []
first_defs (d ∷ ds) = core (printed_def d) ++ core (more_defs ds)

abbrev pub based : Option Bits → List What
based None = []
based (Some w) = what.Mark mark.At ∷ what.Word w ∷ []

abbrev pub flat_link : Operation → List What
flat_link l = kept (what.Mark (op_mark l.op)) ++ core (printed l.right)

abbrev pub flat_bound : Option ℕ → List What
flat_bound None = []
flat_bound (Some n) = what.Number (pos n) ∷ []

abbrev pub flat_fby : Option Span → List What
flat_fby None = []
flat_fby (Some span) = what.Mark mark.Fby ∷ []

-- what a part's tokens are but for parentheses, by what it stands for
abbrev pub flat : (X : Part) → Val X → List What
flat Program v = core (printed_program v)
flat Node v = core (printed_node v)
flat Title v = what.Mark mark.Let ∷ what.Mark mark.Node ∷ what.Name v.text ∷ []
flat Params v = core (commas (map printed_decl v))
flat Results v = core (commas (map name_token v))
flat Names v = core (commas (map name_token v))
flat Ident v = what.Name v.text ∷ []
flat MoreName v = what.Mark mark.Comma ∷ what.Name v.text ∷ []
flat Body v = core (printed_body v)
flat Decls v = core (commas (map printed_decl v))
flat MoreDecl v = what.Mark mark.Comma ∷ core (printed_decl v)
flat Decl v = core (printed_decl v)
flat Typing v = core (spaced (typing (Some v)))
flat TypeName v = kept (what.Mark (type_mark v))
flat ClockOf v = core (spaced (clock (Some v)))
flat Defs v = first_defs v
flat Def v = core (printed_def v)
flat MoreDef v = what.Mark mark.And ∷ core (printed_def v)
flat Lefts v = core (commas (map printed_decl v))
flat Expr v = core (printed v)
flat Or v = core (printed v)
flat MoreAnd v = flat_link v
flat And v = core (printed v)
flat MoreCmp v = flat_link v
flat Cmp v = core (printed v)
flat Compared v = flat_link v
flat CmpOp v = kept (what.Mark (op_mark v.0))
flat Sum v = core (printed v)
flat MoreProd v = flat_link v
flat SumOp v = kept (what.Mark (op_mark v.0))
flat Prod v = core (printed v)
flat MoreSamp v = flat_link v
flat ProdOp v = kept (what.Mark (op_mark v.0))
flat Samp v = core (printed v)
flat Sampling v = kept (what.Mark (when_mark v.0)) ++ (what.Word v.1 ∷ [])
flat Pre v = core (printed v)
flat Followed v = what.Mark mark.Fby ∷ core (printed v.1)
flat Form v = core (printed v)
flat Buffered v = flat_bound v.0 ++ core (printed v.1)
flat Held v = flat_fby v.0 ++ core (printed v.1)
flat Other v = core (lit_token v.0)
flat Atom v = core (printed v)
flat Small v = core (printed v)
flat Lit v = core (lit_token v.0)
flat Pair v = core (commas (all_printed v))
flat Call v = core (printed v)
flat Applied v = based v.0 ++ core (commas (all_printed v.1))
flat Base v = what.Mark mark.At ∷ what.Word v ∷ []
flat Args v = core (commas (all_printed v))
flat MoreExpr v = what.Mark mark.Comma ∷ core (printed v)

-- what a token of a kind is
abbrev pub token_of : Kind → What → List What
token_of (kind.Mark m) w = kept (what.Mark m)
token_of kind.Name w = what.Name (name_bytes w) ∷ []
token_of kind.Number w = core (lit_token (token_literal w))
token_of kind.Word w = what.Word (token_word w) ∷ []
token_of kind.End w = []

abbrev pub all_flat : {A : Type 0} → (A → List What) → List A → List What
all_flat f [] = []
all_flat f (x ∷ xs) = f x ++ all_flat f xs

abbrev pub some_flat : {A : Type 0} → (A → List What) → Option A → List What
some_flat f None = []
some_flat f (Some x) = f x

abbrev pub flats : (syms : List Sym) → Vals syms → List What
flats [] vs = []
flats (token s ∷ syms) vs = token_of (sort_kind s) vs.0.what ++ flats syms vs.1
flats (part X ∷ syms) vs = flat X vs.0 ++ flats syms vs.1
flats (many X ∷ syms) vs = all_flat (flat X) vs.0 ++ flats syms vs.1
flats (perhaps X ∷ syms) vs = some_flat (flat X) vs.0 ++ flats syms vs.1
