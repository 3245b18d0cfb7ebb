-- What is printed of a tree may stand where an operand begins, if there is room for its parentheses.
use Rattle.std.proofs.Common.{◌≡◌, ℕ, suc, ◌+◌, ◌≤◌, Bool, true, false, List, [], ◌∷◌, ◌++◌, length, Option, Some, None, refl, ap, ◌∙◌, arith, length-append}
use Rattle.std.specs.Prelude.{pos}
use Rattle.std.specs.List.{AllByRecursion}
use Rattle.lucy_word.specs.Bits.{Bits}
use Rattle.lucy_host.specs.declared.op.Op.{Op}
use Rattle.lucy_host.specs.declared.op.Op.TheVariants as op
use Rattle.lucy_tree.specs.declared.span.Name as name
use Rattle.lucy_tree.specs.declared.expr.Lit as lit_type
use Rattle.lucy_tree.specs.declared.expr.Lit.TheVariants as lit
use Rattle.lucy_tree.specs.declared.span.Span.{Span}
use Rattle.lucy_tree.specs.Tree.{Tree, Trees, literal, variable, operator, host, sampled, merged, followed, buffered, call, no_more, more, list_of}
use Rattle.lucy_token.specs.declared.mark.Mark.{Mark}
use Rattle.lucy_token.specs.declared.mark.Mark.TheVariants as mark
use Rattle.lucy_token.specs.declared.token.Kind.TheVariants as kind
use Rattle.lucy_token.specs.declared.token.What.TheVariants as what
use Rattle.lucy_token.specs.declared.state.Side.{Side}
use Rattle.lucy_token.specs.declared.state.Side.TheVariants as side
use Rattle.lucy_token.specs.Before.{precedes_operand}
use Rattle.lucy_token.specs.States.{after}
use Rattle.lucy_token.specs.Printed.{Printed, in_print}
use Rattle.lucy_token.specs.Marks.{op_mark}
use Rattle.lucy_grammar.specs.Parens.{kept}
use Rattle.lucy_grammar.specs.Meanings.{two}
use Rattle.lucy_grammar.specs.PrintTokens.{blank, the, after_commas, commas, parens, name_token, lit_token, when_mark, operand, printed, all_printed}
use Rattle.lucy_grammar.specs.PrintTokens as print
use Rattle.lucy_grammar.proofs.Cores.{core, core-append, put_after, put_operand, put_later, put_parens}
use Rattle.lucy_grammar.proofs.Weights.{weight}
use Rattle.lucy_grammar.proofs.FewEntries.{most, IsFew, AreFew}
use Rattle.lucy_grammar.proofs.Levels.{is_plain, keeps_plain, IsDue, in_list, wanted_name, wanted_number, wanted_true, wanted_false}
use Rattle.lucy_grammar.proofs.Fitting.{IsOperand, IsUnit, IsLast, fits_plain, tail_none, operand_of, operand_unit, tail_last, operand_and, later, operand_after, last_end, tail_plain, last_plain, tail_before, operand_more, unit_more, last_more, unit_parens, last_parens, list_last, tail_merge}

-- weights
pub weight-append : (a b : List Printed) → weight (a ++ b) ≡ weight a + weight b
weight-append a b = ap length (core-append a b) ∙ length-append (core a) (core b)

weight_first : (t : Tree) (b : List Printed) → weight (operand t (printed t) ++ b) ≡ weight (printed t) + weight b
weight_first t b = ap length (put_operand t b (core b) refl) ∙ length-append (core (printed t)) (core b)

weight_later : (t : Tree) (b : List Printed) → weight (print.after blank (operand t (printed t)) ++ b) ≡ weight (printed t) + weight b
weight_later t b = ap length (put_later t b (core b) refl) ∙ length-append (core (printed t)) (core b)

weight_list : (a : List Printed) → weight (print.after blank (parens a) ++ []) ≡ weight a
weight_list a =
    let e : weight (print.after blank (parens a) ++ []) ≡ weight a + 0 = ap length (put_parens a [] [] refl) ∙ length-append (core a) [] in
    omega (arith, e)

weight_mark : (blanks : List ℕ) (m : Mark) (b : List Printed) → kept (what.Mark m) ≡ what.Mark m ∷ [] → weight (in_print blanks (what.Mark m) ∷ b) ≡ suc (weight b)
weight_mark blanks m b e = ap (λ u. length (u ++ core b)) e

kept_op : (o : Op) → kept (what.Mark (op_mark o)) ≡ what.Mark (op_mark o) ∷ []
kept_op op.Add = refl
kept_op o = refl

kept_when : (flip : Bool) → kept (what.Mark (when_mark flip)) ≡ what.Mark (when_mark flip) ∷ []
kept_when true = refl
kept_when false = refl

plain_op : (o : Op) → is_plain (kind.Mark (op_mark o)) ≡ true
plain_op op.Add = refl
plain_op o = refl

before_op : (o : Op) → precedes_operand (kind.Mark (op_mark o)) ≡ true
before_op op.Add = refl
before_op o = refl

plain_when : (flip : Bool) → is_plain (kind.Mark (when_mark flip)) ≡ true
plain_when true = refl
plain_when false = refl

-- the weights of entries, without those of the commas between them
total : List (List Printed) → ℕ
total [] = 0
total (x ∷ xs) = weight x + total xs

total_further : (xs : List (List Printed)) → total xs ≤ weight (after_commas xs)
unfolding total
total_further [] = omega arith
total_further (x ∷ xs) =
    let e : weight (after_commas (x ∷ xs)) ≡ suc (weight x + weight (after_commas xs)) = ap suc (ap length (put_after blank x (after_commas xs) (core (after_commas xs)) refl) ∙ length-append (core x) (core (after_commas xs))) in
    omega (arith, e, total_further xs)

total_commas : (xs : List (List Printed)) → total xs ≤ weight (commas xs)
unfolding total
total_commas [] = omega arith
total_commas (x ∷ xs) = omega (arith, weight-append x (after_commas xs), total_further xs)

abbrev FitsAlone : List Printed → Type 0
FitsAlone x = IsOperand side.Right (weight x) x

all_fit : (e : ℕ) (xs : List (List Printed)) → total xs ≤ e → AllByRecursion FitsAlone xs → AllByRecursion (IsOperand side.Right e) xs
unfolding total
all_fit e [] h k = tt
all_fit e (x ∷ xs) h k = (operand_more e (omega (arith, h)) k.0, all_fit e xs (omega (arith, h)) k.1)

-- single tokens
unit_name : {e : ℕ} (n : name.Name) → IsUnit e (name_token n)
unit_name n = record { fits = λ s ws r b k. (fits_plain s (what.Name n.text) r.few refl refl, k (after s kind.Name) (keeps_plain s kind.Name refl) (wanted_name s)) }

unit_lit : {e : ℕ} (l : lit_type.Lit) → IsUnit e (lit_token l)
unit_lit (lit.Int n) = record {
  fits = λ s ws r b k. (record { room = λ o. absurd cc; in_list = in_list s kind.Number r.few; operand_here = λ g. b }, k (after s kind.Number) (keeps_plain s kind.Number refl) (wanted_number s));
}
unit_lit (lit.Bool true) = record { fits = λ s ws r b k. (fits_plain s (what.Mark mark.True) r.few refl refl, k (after s (kind.Mark mark.True)) (keeps_plain s (kind.Mark mark.True) refl) (wanted_true s)) }
unit_lit (lit.Bool false) = record { fits = λ s ws r b k. (fits_plain s (what.Mark mark.False) r.few refl refl, k (after s (kind.Mark mark.False)) (keeps_plain s (kind.Mark mark.False) refl) (wanted_false s)) }

-- an operand, where there is room for one parenthesis more than it has tokens
unit_of : (t : Tree) (f : ℕ) → suc (weight (printed t)) ≤ f → FitsAlone (printed t) → IsUnit f (operand t (printed t))
unit_of (literal l span) f h x = unit_lit l
unit_of (variable n) f h x = unit_name n
unit_of _ f h x = unit_more f h (unit_parens x)

bare : (t : Tree) (f : ℕ) → suc (weight (printed t)) ≤ f → FitsAlone (printed t) → IsOperand side.Right f (operand t (printed t))
bare t f h x = operand_unit (unit_of t f h x)

-- operators
one_fits : (o : Op) (a : Tree) (s : Span) → FitsAlone (printed a) → FitsAlone (printed (operator o (more a no_more) s))
one_fits o a s x =
    let f : ℕ = weight (printed (operator o (more a no_more) s)) in
    operand_of (tail_before [] (op_mark o) (plain_op o) (before_op o) (later (bare a f (omega (arith, weight_mark [] (op_mark o) (print.after blank (operand a (printed a)) ++ []) (kept_op o), weight_later a [])) x)))

two_fits : (o : Op) (a b : Tree) (s : Span) → FitsAlone (printed a) → FitsAlone (printed b) → FitsAlone (printed (operator o (two a b) s))
two_fits o a b s x y =
    let f : ℕ = weight (printed (operator o (two a b) s)) in
    let back : List Printed = print.after blank (operand b (printed b)) ++ [] in
    let whole : f ≡ weight (printed a) + suc (weight (printed b) + 0) = weight_first a (in_print blank (what.Mark (op_mark o)) ∷ back) ∙ ap (λ n. weight (printed a) + n) (weight_mark blank (op_mark o) back (kept_op o) ∙ ap suc (weight_later b [])) in
    operand_and (bare a f (omega (arith, whole)) x) (tail_before blank (op_mark o) (plain_op o) (before_op o) (later (bare b f (omega (arith, whole)) y)))

three_fits : (o : Op) (a b c : Tree) (ts : Trees) (s : Span) → FitsAlone (printed a) → FitsAlone (printed b) → FitsAlone (printed c) → FitsAlone (printed (operator o (more a (more b (more c ts))) s))
three_fits o a b c ts s x y z =
    let f : ℕ = weight (printed (operator o (more a (more b (more c ts))) s)) in
    let last : List Printed = print.after blank (operand c (printed c)) ++ [] in
    let middle : List Printed = print.after blank (operand b (printed b)) ++ (in_print blank (what.Mark mark.Else) ∷ last) in
    let first : List Printed = print.after blank (operand a (printed a)) ++ (in_print blank (what.Mark mark.Then) ∷ middle) in
    let w3 : weight last ≡ weight (printed c) + 0 = weight_later c [] in
    let w2 : weight middle ≡ weight (printed b) + suc (weight last) = weight_later b (in_print blank (what.Mark mark.Else) ∷ last) in
    let w1 : weight first ≡ weight (printed a) + suc (weight middle) = weight_later a (in_print blank (what.Mark mark.Then) ∷ middle) in
    let whole : f ≡ suc (weight first) = weight_mark [] (op_mark o) first (kept_op o) in
    operand_of
    (tail_before [] (op_mark o) (plain_op o) (before_op o)
    (operand_and (operand_after blank (bare a f (omega (arith, w1, whole)) x))
    (tail_before blank mark.Then refl refl
    (operand_and (operand_after blank (bare b f (omega (arith, w1, w2, whole)) y)) (tail_before blank mark.Else refl refl (later (bare c f (omega (arith, w1, w2, w3, whole)) z)))))))

-- calls
length-printed : (ts : Trees) → length (all_printed ts) ≡ length (list_of ts)
length-printed no_more = refl
length-printed (more t ts) = ap suc (length-printed ts)

args_last : {at : Side} (f : ℕ) (args : Trees) → IsDue at → suc (weight (commas (all_printed args))) ≤ f → length (list_of args) ≤ most → AllByRecursion FitsAlone (all_printed args) → IsLast at f (parens (commas (all_printed args)))
args_last f args due h few x =
    let xs : List (List Printed) = all_printed args in
    last_more f h (list_last (weight (commas xs)) xs due (all_fit (weight (commas xs)) xs (total_commas xs) x) (omega (arith, few, length-printed args)))

pub call_last : (at : Side) (n : name.Name) (b : Option Bits) (args : Trees) → IsDue at → length (list_of args) ≤ most → AllByRecursion FitsAlone (all_printed args) → IsLast at (weight (printed (call n b args))) (printed (call n b args))
call_last at n None args due few x =
    let f : ℕ = weight (printed (call n None args)) in
    let w = weight_list (commas (all_printed args)) in
    last_plain [] (what.Name n.text) refl refl (last_end (args_last f args due (omega (arith, w)) few x))
call_last at n (Some v) args due few x =
    let f : ℕ = weight (printed (call n (Some v) args)) in
    let w = weight_list (commas (all_printed args)) in
    last_plain [] (what.Name n.text) refl refl (last_plain blank (what.Mark mark.At) refl refl (last_plain blank (what.Word v) refl refl (last_end (args_last f args due (omega (arith, w)) few x))))

host_last : (n : name.Name) (args : Trees) → length (list_of args) ≤ most → AllByRecursion FitsAlone (all_printed args) → IsLast side.Right (weight (printed (host n args))) (printed (host n args))
host_last n args few x =
    let f : ℕ = weight (printed (host n args)) in
    let w = weight_list (commas (all_printed args)) in
    last_plain [] (what.Mark mark.Host) refl refl (last_plain blank (what.Name n.text) refl refl (last_end (args_last f args tt (omega (arith, w)) few x)))

-- what is left of the forms
sampled_fits : (flip : Bool) (e : Tree) (w : Bits) → FitsAlone (printed e) → FitsAlone (printed (sampled flip e w))
sampled_fits flip e w x =
    let back : List Printed = in_print blank (what.Mark (when_mark flip)) ∷ in_print blank (what.Word w) ∷ [] in
    let f : ℕ = weight (printed (sampled flip e w)) in
    let whole : f ≡ weight (printed e) + 2 = weight_first e back ∙ ap (λ n. weight (printed e) + n) (weight_mark blank (when_mark flip) (in_print blank (what.Word w) ∷ []) (kept_when flip)) in
    operand_and (bare e f (omega (arith, whole)) x) (tail_plain blank (what.Mark (when_mark flip)) (plain_when flip) refl (tail_plain blank (what.Word w) refl refl tail_none))

merged_fits : (w : Bits) (a b : Tree) (s : Span) → FitsAlone (printed a) → FitsAlone (printed b) → FitsAlone (printed (merged w a b s))
merged_fits w a b s x y =
    let f : ℕ = weight (printed (merged w a b s)) in
    let back : List Printed = print.after blank (operand b (printed b)) ++ [] in
    let w2 : weight back ≡ weight (printed b) + 0 = weight_later b [] in
    let w1 : weight (print.after blank (operand a (printed a)) ++ back) ≡ weight (printed a) + weight back = weight_later a back in
    let whole : f ≡ suc (suc (weight (print.after blank (operand a (printed a)) ++ back))) = refl in
    operand_of (tail_merge (what.Word w) refl refl (unit_of a f (omega (arith, w1, whole)) x) (unit_of b f (omega (arith, w1, w2, whole)) y))

followed_fits : (l : lit_type.Lit) (e : Tree) (s : Span) → FitsAlone (printed e) → FitsAlone (printed (followed l e s))
followed_fits l e s x =
    let f : ℕ = weight (printed (followed l e s)) in
    let back : List Printed = print.after blank (operand e (printed e)) ++ [] in
    let whole : f ≡ weight (lit_token l) + suc (weight (printed e) + 0) = weight-append (lit_token l) (in_print blank (what.Mark mark.Fby) ∷ back) ∙ ap (λ n. weight (lit_token l) + suc n) (weight_later e []) in
    operand_and (operand_unit (unit_lit l)) (tail_before blank mark.Fby refl refl (later (bare e f (omega (arith, whole)) x)))

buffered_fits : (most : Option ℕ) (e : Tree) (s : Span) → FitsAlone (printed e) → FitsAlone (printed (buffered most e s))
buffered_fits None e s x =
    let f : ℕ = weight (printed (buffered None e s)) in
    let whole : f ≡ suc (weight (printed e) + 0) = ap suc (weight_later e []) in
    operand_of (tail_before [] mark.Buffer refl refl (later (bare e f (omega (arith, whole)) x)))
buffered_fits (Some n) e s x =
    let f : ℕ = weight (printed (buffered (Some n) e s)) in
    let w = weight_list (printed e) in
    operand_of (tail_plain [] (what.Mark mark.Buffer) refl refl (tail_plain blank (what.Number (pos n)) refl refl (tail_last (last_end (last_more f (omega (arith, w)) (last_parens x))))))

mutual
  pub tree_fits : (t : Tree) → IsFew t → IsOperand side.Right (weight (printed t)) (printed t)
  tree_fits (literal l span) h = operand_unit (unit_lit l)
  tree_fits (variable n) h = operand_unit (unit_name n)
  tree_fits (operator o no_more span) h = operand_of (tail_plain [] (what.Mark (op_mark o)) (plain_op o) refl tail_none)
  tree_fits (operator o (more a no_more) span) h = one_fits o a span (tree_fits a h.0)
  tree_fits (operator o (more a (more b no_more)) span) h = two_fits o a b span (tree_fits a h.0) (tree_fits b h.1.0)
  tree_fits (operator o (more a (more b (more c ts))) span) h = three_fits o a b c ts span (tree_fits a h.0) (tree_fits b h.1.0) (tree_fits c h.1.1.0)
  tree_fits (host n args) h = operand_of (tail_last (host_last n args h.0 (all_alone args h.1)))
  tree_fits (sampled flip e w) h = sampled_fits flip e w (tree_fits e h)
  tree_fits (merged w a b span) h = merged_fits w a b span (tree_fits a h.0) (tree_fits b h.1)
  tree_fits (followed l e span) h = followed_fits l e span (tree_fits e h)
  tree_fits (buffered most_held e span) h = buffered_fits most_held e span (tree_fits e h)
  tree_fits (call n at args) h = operand_of (tail_last (call_last side.Right n at args tt h.0 (all_alone args h.1)))

  pub all_alone : (ts : Trees) → AreFew ts → AllByRecursion (λ x. IsOperand side.Right (weight x) x) (all_printed ts)
  all_alone no_more h = tt
  all_alone (more t ts) h = (tree_fits t h.0, all_alone ts h.1)
