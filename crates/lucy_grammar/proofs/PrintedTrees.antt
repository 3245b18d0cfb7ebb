-- A printed tree is an expression, and stands for that tree but for places.
use Rattle.std.specs.Prelude.{ℤ, pos}
use Rattle.std.proofs.lemmas.Bool.Decides.{nat_tests}
use Rattle.lucy_tree.specs.Shaped.{most_bound, IsBound}
use Rattle.lucy_token.specs.Marks.{op_mark}
use Rattle.lucy_grammar.specs.Kinds.{is_bound, bound, unbound}
use Rattle.std.proofs.Common.{ℕ, ◌≤◌, arith, Option, Some, None, ◌≡◌, Bool, true, false, List, [], ◌∷◌, length, refl}
use Rattle.lucy_word.specs.Bits.{Bits}
use Rattle.lucy_host.specs.declared.op.Op.{Op}
use Rattle.lucy_host.specs.declared.op.Op.TheVariants as op
use Rattle.lucy_tree.specs.declared.span.Name as name
use Rattle.lucy_tree.specs.declared.expr.Lit as lit_type
use Rattle.lucy_tree.specs.declared.expr.Lit.TheVariants as lit
use Rattle.lucy_tree.specs.Tree.{Tree, Trees, literal, variable, operator, sampled, merged, followed, buffered, no_more, more, list_of}
use Rattle.lucy_token.specs.declared.mark.Mark.TheVariants as mark
use Rattle.lucy_token.specs.declared.token.What.TheVariants as what
use Rattle.lucy_token.specs.Printed.{Printed, in_print}
use Rattle.lucy_grammar.specs.Symbols.{Expr, Or, And, Cmp, CmpOp, Sum, SumOp, Prod, ProdOp, Samp, Sampling, Pre, Form, Buffered, Held, Atom, Small, Lit}
use Rattle.lucy_grammar.specs.Meanings.{two}
use Rattle.lucy_grammar.specs.Grammar.{rules}
use Rattle.lucy_grammar.specs.PrintTokens.{blank, parens, name_token, lit_token, when_mark, operated, operand, printed, operands}
use Rattle.lucy_grammar.specs.Spans.{nowhere, unplaced_name, unplaced, all_unplaced}
use Rattle.lucy_host.specs.Arity.{arity}
use Rattle.lucy_grammar.proofs.Spelling.{Is, spell_end, spell_token, spell_sort, spell_there, spell_alike, spell_after, spell_part, spell_out, spell_once, spell_given, spell_alone, spell_only, spell_rule}

-- from the nearest part to an expression
samp_of : {e : Tree} {ts : List Printed} → Is Pre e ts → Is Samp e ts
unfolding rules
samp_of r = spell_rule 0 refl (spell_alone r)

prod_of : {e : Tree} {ts : List Printed} → Is Samp e ts → Is Prod e ts
unfolding rules
prod_of r = spell_rule 0 refl (spell_alone r)

sum_of : {e : Tree} {ts : List Printed} → Is Prod e ts → Is Sum e ts
unfolding rules
sum_of r = spell_rule 0 refl (spell_alone r)

cmp_of : {e : Tree} {ts : List Printed} → Is Sum e ts → Is Cmp e ts
unfolding rules
cmp_of r = spell_rule 0 refl (spell_only r)

and_of : {e : Tree} {ts : List Printed} → Is Cmp e ts → Is And e ts
unfolding rules
and_of r = spell_rule 0 refl (spell_alone r)

or_of : {e : Tree} {ts : List Printed} → Is And e ts → Is Or e ts
unfolding rules
or_of r = spell_rule 0 refl (spell_alone r)

expr_of : {e : Tree} {ts : List Printed} → Is Or e ts → Is Expr e ts
unfolding rules
expr_of r = spell_rule 1 refl r

from_samp : {e : Tree} {ts : List Printed} → Is Samp e ts → Is Expr e ts
from_samp r = expr_of (or_of (and_of (cmp_of (sum_of (prod_of r)))))

pub from_pre : {e : Tree} {ts : List Printed} → Is Pre e ts → Is Expr e ts
from_pre r = from_samp (samp_of r)

-- from the nearest part to an operand
pub from_form : {e : Tree} {ts : List Printed} → Is Form e ts → Is Pre e ts
unfolding rules
from_form r = spell_rule 1 refl r

form_of : {e : Tree} {ts : List Printed} → Is Atom e ts → Is Form e ts
unfolding rules
form_of r = spell_rule 3 refl r

pub from_atom : {e : Tree} {ts : List Printed} → Is Atom e ts → Is Pre e ts
from_atom r = from_form (form_of r)

-- literals, names and parentheses
a_lit : (l : lit_type.Lit) → Is Lit (l, nowhere) (lit_token l)
unfolding rules
a_lit (lit.Int n) = spell_rule 0 refl (spell_token [] (what.Number n) refl spell_end)
a_lit (lit.Bool true) = spell_rule 1 refl (spell_token [] (what.Mark mark.True) refl spell_end)
a_lit (lit.Bool false) = spell_rule 2 refl (spell_token [] (what.Mark mark.False) refl spell_end)

pub a_literal : (l : lit_type.Lit) → Is Pre (literal l nowhere) (lit_token l)
unfolding rules
a_literal l = spell_rule 0 refl (spell_only (a_lit l))

pub a_variable : (n : name.Name) → Is Pre (variable (unplaced_name n)) (name_token n)
unfolding rules
a_variable n = from_atom (spell_rule 0 refl (spell_token [] (what.Name n.text) refl (spell_out spell_end)))

in_parens : {e : Tree} {ts : List Printed} → Is Expr e ts → Is Pre e (parens ts)
unfolding rules
in_parens r = from_atom (spell_rule 2 refl (spell_token [] (what.Mark mark.Open) refl (spell_part r (spell_token [] (what.Mark mark.Close) refl spell_end))))

an_operand : (t : Tree) → Is Expr (unplaced t) (printed t) → Is Pre (unplaced t) (operand t (printed t))
an_operand (literal l span) r = a_literal l
an_operand (variable n) r = a_variable n
an_operand _ r = in_parens r

a_small : (t : Tree) → Is Expr (unplaced t) (printed t) → Is Small (unplaced t) (operand t (printed t))
unfolding rules
a_small (literal l span) r = spell_rule 0 refl (a_lit l)
a_small (variable n) r = spell_rule 1 refl (spell_token [] (what.Name n.text) refl spell_end)
a_small _ r = spell_rule 2 refl (spell_token [] (what.Mark mark.Open) refl (spell_part r (spell_token [] (what.Mark mark.Close) refl spell_end)))

-- the trees of a list are printed so
abbrev pub AreSpelled : Trees → Type 0
AreSpelled no_more = Unit {0}
AreSpelled (more t ts) = Is Expr (unplaced t) (printed t) × AreSpelled ts

-- a list of one, of two and of three
one_of : (P : Trees → Type 0) → ((a : Tree) → P (more a no_more)) → (args : Trees) → length (list_of args) ≡ 1 → P args
one_of P f no_more e = absurd cc
one_of P f (more a no_more) e = f a
one_of P f (more a (more b ts)) e = absurd cc

pub two_of : (P : Trees → Type 0) → ((a b : Tree) → P (two a b)) → (args : Trees) → length (list_of args) ≡ 2 → P args
two_of P f no_more e = absurd cc
two_of P f (more a no_more) e = absurd cc
two_of P f (more a (more b no_more)) e = f a b
two_of P f (more a (more b (more c ts))) e = absurd cc

three_of : (P : Trees → Type 0) → ((a b c : Tree) → P (more a (two b c))) → (args : Trees) → length (list_of args) ≡ 3 → P args
three_of P f no_more e = absurd cc
three_of P f (more a no_more) e = absurd cc
three_of P f (more a (more b no_more)) e = absurd cc
three_of P f (more a (more b (more c no_more))) e = f a b c
three_of P f (more a (more b (more c (more d ts)))) e = absurd cc

-- operators
abbrev pub Operated : Op → Trees → Type 0
Operated o args = AreSpelled args → Is Expr (operator o (all_unplaced args) nowhere) (operated o (operands args))

a_not : (a : Tree) → Operated op.Not (more a no_more)
unfolding rules
a_not a (r, _) = from_pre (from_form (spell_rule 0 refl (spell_token [] (what.Mark mark.Not) refl (spell_part (spell_after blank (an_operand a r)) spell_end))))

an_if : (a b c : Tree) → Operated op.If (more a (two b c))
unfolding rules
an_if a b c (r, (s, (q, _))) =
    spell_rule 0 refl (spell_token [] (what.Mark mark.If) refl (spell_part (spell_after blank (from_pre (an_operand a r))) (spell_token blank (what.Mark mark.Then) refl (spell_part (spell_after blank (from_pre (an_operand b s))) (spell_token blank (what.Mark mark.Else) refl (spell_part (spell_after blank (from_pre (an_operand c q))) spell_end))))))

an_or : (a b : Tree) → Operated op.Or (two a b)
unfolding rules
an_or a b (r, (s, _)) =
    let left = and_of (cmp_of (sum_of (prod_of (samp_of (an_operand a r))))) in
    let right = and_of (cmp_of (sum_of (prod_of (samp_of (an_operand b s))))) in
    expr_of (spell_rule 0 refl (spell_part left (spell_once (spell_rule 0 refl (spell_token blank (what.Mark mark.Either) refl (spell_part (spell_after blank right) spell_end))))))

an_and : (a b : Tree) → Operated op.And (two a b)
unfolding rules
an_and a b (r, (s, _)) =
    let left = cmp_of (sum_of (prod_of (samp_of (an_operand a r)))) in
    let right = cmp_of (sum_of (prod_of (samp_of (an_operand b s)))) in
    expr_of (or_of (spell_rule 0 refl (spell_part left (spell_once (spell_rule 0 refl (spell_token blank (what.Mark mark.Both) refl (spell_part (spell_after blank right) spell_end)))))))

a_comparison : (o : Op) → Is CmpOp (o, nowhere) (in_print blank (what.Mark (op_mark o)) ∷ []) → (a b : Tree) → Operated o (two a b)
unfolding rules
a_comparison o h a b (r, (s, _)) =
    let left = sum_of (prod_of (samp_of (an_operand a r))) in
    let right = sum_of (prod_of (samp_of (an_operand b s))) in
    expr_of (or_of (and_of (spell_rule 0 refl (spell_part left (spell_given (spell_rule 0 refl (spell_part h (spell_part (spell_after blank right) spell_end))))))))

a_sum : (o : Op) → Is SumOp (o, nowhere) (in_print blank (what.Mark (op_mark o)) ∷ []) → (a b : Tree) → Operated o (two a b)
unfolding rules
a_sum o h a b (r, (s, _)) =
    let left = prod_of (samp_of (an_operand a r)) in
    let right = prod_of (samp_of (an_operand b s)) in
    expr_of (or_of (and_of (cmp_of (spell_rule 0 refl (spell_part left (spell_once (spell_rule 0 refl (spell_part h (spell_part (spell_after blank right) spell_end)))))))))

a_product : (o : Op) → Is ProdOp (o, nowhere) (in_print blank (what.Mark (op_mark o)) ∷ []) → (a b : Tree) → Operated o (two a b)
unfolding rules
a_product o h a b (r, (s, _)) =
    let left = samp_of (an_operand a r) in
    let right = samp_of (an_operand b s) in
    expr_of (or_of (and_of (cmp_of (sum_of (spell_rule 0 refl (spell_part left (spell_once (spell_rule 0 refl (spell_part h (spell_part (spell_after blank right) spell_end))))))))))

pub an_operator : (o : Op) (args : Trees) → length (list_of args) ≡ arity o → Operated o args
unfolding rules
an_operator op.Add args e = two_of (Operated op.Add) (a_sum op.Add (spell_rule 0 refl (spell_token blank (what.Mark mark.Plus) refl spell_end))) args e
an_operator op.Sub args e = two_of (Operated op.Sub) (a_sum op.Sub (spell_rule 1 refl (spell_token blank (what.Mark mark.Minus) refl spell_end))) args e
an_operator op.Mul args e = two_of (Operated op.Mul) (a_product op.Mul (spell_rule 0 refl (spell_token blank (what.Mark mark.Star) refl spell_end))) args e
an_operator op.Div args e = two_of (Operated op.Div) (a_product op.Div (spell_rule 1 refl (spell_token blank (what.Mark mark.Slash) refl spell_end))) args e
an_operator op.Rem args e = two_of (Operated op.Rem) (a_product op.Rem (spell_rule 2 refl (spell_token blank (what.Mark mark.Percent) refl spell_end))) args e
an_operator op.Eq args e = two_of (Operated op.Eq) (a_comparison op.Eq (spell_rule 0 refl (spell_token blank (what.Mark mark.Same) refl spell_end))) args e
an_operator op.Ne args e = two_of (Operated op.Ne) (a_comparison op.Ne (spell_rule 1 refl (spell_token blank (what.Mark mark.Differs) refl spell_end))) args e
an_operator op.Lt args e = two_of (Operated op.Lt) (a_comparison op.Lt (spell_rule 2 refl (spell_token blank (what.Mark mark.Less) refl spell_end))) args e
an_operator op.Le args e = two_of (Operated op.Le) (a_comparison op.Le (spell_rule 3 refl (spell_token blank (what.Mark mark.AtMost) refl spell_end))) args e
an_operator op.Gt args e = two_of (Operated op.Gt) (a_comparison op.Gt (spell_rule 4 refl (spell_token blank (what.Mark mark.Greater) refl spell_end))) args e
an_operator op.Ge args e = two_of (Operated op.Ge) (a_comparison op.Ge (spell_rule 5 refl (spell_token blank (what.Mark mark.AtLeast) refl spell_end))) args e
an_operator op.And args e = two_of (Operated op.And) an_and args e
an_operator op.Or args e = two_of (Operated op.Or) an_or args e
an_operator op.Not args e = one_of (Operated op.Not) a_not args e
an_operator op.If args e = three_of (Operated op.If) an_if args e

-- samplings, merges, `fby` and `buffer`
a_sampling : (flip : Bool) (w : Bits) → Is Sampling (flip, w) (in_print blank (what.Mark (when_mark flip)) ∷ in_print blank (what.Word w) ∷ [])
unfolding rules
a_sampling false w = spell_rule 0 refl (spell_token blank (what.Mark mark.When) refl (spell_token blank (what.Word w) refl spell_end))
a_sampling true w = spell_rule 1 refl (spell_token blank (what.Mark mark.Whenot) refl (spell_token blank (what.Word w) refl spell_end))

pub a_sampled : (flip : Bool) (e : Tree) (w : Bits) → Is Expr (unplaced e) (printed e) → Is Expr (unplaced (sampled flip e w)) (printed (sampled flip e w))
unfolding rules
a_sampled flip e w r = from_samp (spell_rule 0 refl (spell_part (an_operand e r) (spell_once (a_sampling flip w))))

pub a_merge : (w : Bits) (a b : Tree) → Is Expr (unplaced a) (printed a) → Is Expr (unplaced b) (printed b) → Is Pre (merged w (unplaced a) (unplaced b) nowhere) (printed (merged w a b nowhere))
unfolding rules
a_merge w a b r s =
    from_form (spell_rule 2 refl (spell_token [] (what.Mark mark.Merge) refl (spell_token blank (what.Word w) refl (spell_part (spell_after blank (a_small a r)) (spell_part (spell_after blank (a_small b s)) spell_end)))))

pub a_followed : (l : lit_type.Lit) (e : Tree) → Is Expr (unplaced e) (printed e) → Is Pre (followed l (unplaced e) nowhere) (printed (followed l e nowhere))
unfolding rules
a_followed l e r = spell_rule 0 refl (spell_part (a_lit l) (spell_given (spell_rule 0 refl (spell_token blank (what.Mark mark.Fby) refl (spell_part (spell_after blank (an_operand e r)) spell_end)))))

-- behind `buffer`: a number is a bound or none, and all else is no number
held_number : (b : Bool) (n : ℤ) → is_bound (what.Number n) ≡ b → Is Buffered (None, literal (lit.Int n) nowhere) (in_print [] (what.Number n) ∷ [])
unfolding rules
held_number true n e = spell_rule 0 refl (spell_sort bound [] (what.Number n) e (spell_out spell_end))
held_number false n e = spell_rule 1 refl (spell_only (spell_rule 0 refl (spell_sort unbound [] (what.Number n) (refl, e) spell_end)))

held_literal : (l : lit_type.Lit) → Is Buffered (None, literal l nowhere) (lit_token l)
unfolding rules
held_literal (lit.Int n) = held_number (is_bound (what.Number n)) n refl
held_literal (lit.Bool true) = spell_rule 1 refl (spell_only (spell_rule 1 refl (spell_token [] (what.Mark mark.True) refl spell_end)))
held_literal (lit.Bool false) = spell_rule 1 refl (spell_only (spell_rule 2 refl (spell_token [] (what.Mark mark.False) refl spell_end)))

held_atom : {e : Tree} {ts : List Printed} → Is Atom e ts → Is Buffered (None, e) ts
unfolding rules
held_atom r = spell_rule 2 refl (form_of r)

held_operand : (t : Tree) → Is Expr (unplaced t) (printed t) → Is Buffered (None, unplaced t) (operand t (printed t))
unfolding rules
held_operand (literal l span) r = held_literal l
held_operand (variable n) r = held_atom (spell_rule 0 refl (spell_token [] (what.Name n.text) refl (spell_out spell_end)))
held_operand _ r = held_atom (spell_rule 2 refl (spell_token [] (what.Mark mark.Open) refl (spell_part r (spell_token [] (what.Mark mark.Close) refl spell_end))))

in_bounds : (n : ℕ) → n ≤ most_bound → is_bound (what.Number (pos n)) ≡ true
in_bounds n h = grind (arith, nat_tests)

pub a_buffer : (most : Option ℕ) (e : Tree) → IsBound most → Is Expr (unplaced e) (printed e) → Is Pre (buffered most (unplaced e) nowhere) (printed (buffered most e nowhere))
unfolding rules
a_buffer None e h r = from_form (spell_rule 1 refl (spell_token [] (what.Mark mark.Buffer) refl (spell_part (spell_after blank (held_operand e r)) spell_end)))
a_buffer (Some n) e h r =
    let inner : Is Held (None, unplaced e) (parens (printed e)) = spell_rule 1 refl (spell_token [] (what.Mark mark.Open) refl (spell_part r (spell_token [] (what.Mark mark.Close) refl spell_end))) in
    from_form (spell_rule 1 refl (spell_token [] (what.Mark mark.Buffer) refl (spell_alike (spell_rule 0 refl (spell_sort bound blank (what.Number (pos n)) (in_bounds n h) (spell_there (spell_after blank inner) spell_end))))))
