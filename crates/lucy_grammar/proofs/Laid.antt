-- Only blanks stand between printed tokens, and some wherever two would run together; and what is printed of a definition
-- counts as its own tokens.
use Rattle.std.proofs.Common.{ℕ, suc, ◌≡◌, length, arith, true, false, List, [], ◌∷◌, ◌++◌, Option, Some, None, map, refl, sym, subst, append_assoc}
use Rattle.std.specs.Prelude.{pos, not, ◌&&◌, ◌||◌}
use Rattle.std.specs.List.{AllByRecursion}
use Rattle.std.proofs.lemmas.List.{append-nil}
use Rattle.std.proofs.lemmas.Bool.{and_parts, and_from, or_left, not_from_false}
use Rattle.lucy_word.specs.Bits.{Bits}
use Rattle.lucy_host.specs.declared.op.Op.{Op}
use Rattle.lucy_host.specs.declared.op.Op.TheVariants as op
use Rattle.lucy_host.specs.declared.data_type.DataType.{DataType}
use Rattle.lucy_tree.specs.declared.span.Name as name
use Rattle.lucy_tree.specs.declared.decl.Decl as decl
use Rattle.lucy_tree.specs.declared.expr.Lit as lit_type
use Rattle.lucy_tree.specs.declared.expr.Lit.TheVariants as lit
use Rattle.lucy_tree.specs.Tree.{Tree, Trees, literal, variable, operator, host, sampled, merged, followed, buffered, call, no_more, more, list_of}
use Rattle.lucy_tree.specs.View.{DefTree, NodeTree, ProgramTree}
use Rattle.lucy_token.specs.declared.mark.Mark.{Mark}
use Rattle.lucy_token.specs.declared.mark.Mark.TheVariants as mark
use Rattle.lucy_token.specs.declared.token.What.{What}
use Rattle.lucy_token.specs.declared.token.What.TheVariants as what
use Rattle.lucy_token.specs.Printed.{Printed, in_print}
use Rattle.lucy_token.specs.Spelled.{all_blank, none_of, apart, apart_from, are_apart}
use Rattle.lucy_token.proofs.FollowLaws.{apart_close, apart_comma}
use Rattle.lucy_host.specs.Arity.{arity}
use Rattle.lucy_token.specs.Marks.{op_mark}
use Rattle.lucy_grammar.specs.Printable.{IsPrintable, ArePrintable, IsPrintableDef, IsPrintableNode, IsPrintableProgram, Anywhere}
use Rattle.lucy_grammar.specs.PrintTokens.{blank, indent, line, one, the, after, spaced, words, after_commas, commas, parens, name_token, word_token, lit_token, when_mark, operated, called, operand, printed, all_printed, operands, type_mark, printed_decl, printed_left, printed_def, more_defs, printed_body, printed_node, more_nodes, printed_program}

-- tokens that stand apart, and from every token before them
pub record IsLoose (rest : List Printed) : Type 0 where
  pub apart : are_apart rest ≡ true
  pub clear : (v : What) → apart_from v rest ≡ true

-- tokens that stand apart, whatever loose tokens follow
pub record IsApart (ps : List Printed) : Type 0 where
  pub apart : (rest : List Printed) → IsLoose rest → are_apart (ps ++ rest) ≡ true

-- directly behind a `(` the first of the tokens opens no comment
abbrev pub Starts : List Printed → Type 0
Starts [] = Unit {0}
Starts (t ∷ ts) = (not (none_of t.blanks) || apart (what.Mark mark.Open) t.what) ≡ true

pub record IsLaid (ps : List Printed) : Type 0 where
  pub laid : IsApart ps
  pub starts : Starts ps

-- tokens that are loose before loose ones
pub record IsFree (ps : List Printed) : Type 0 where
  pub loose : (rest : List Printed) → IsLoose rest → IsLoose (ps ++ rest)

pub loose_none : IsLoose []
loose_none = record { apart = refl; clear = λ v. refl }

-- one token, with blanks before it or not
put : (blanks : List ℕ) (w : What) (rest : List Printed) → all_blank blanks ≡ true → apart_from w rest ≡ true → are_apart rest ≡ true → are_apart (in_print blanks w ∷ rest) ≡ true
put blanks w rest e f h = and_from (all_blank blanks && apart_from w rest) (are_apart rest) (and_from (all_blank blanks) (apart_from w rest) e f) h

apart_one : (w : What) → IsApart (one w)
apart_one w = record { apart = λ rest h. put [] w rest refl (h.clear w) h.apart }

laid_one : (w : What) → apart (what.Mark mark.Open) w ≡ true → IsLaid (one w)
laid_one w e = record { laid = apart_one w; starts = e }

apart_none : IsApart []
apart_none = record { apart = λ rest h. h.apart }

laid_none : IsLaid []
laid_none = record { laid = apart_none; starts = tt }

-- behind blanks
blanks_loose : (blanks : List ℕ) (a rest : List Printed) → all_blank blanks ≡ true → none_of blanks ≡ false → IsApart a → IsLoose rest → IsLoose (after blanks a ++ rest)
blanks_loose blanks [] rest e f x h = h
blanks_loose blanks (t ∷ a) rest e f x h =
    let whole = and_parts (all_blank t.blanks && apart_from t.what (a ++ rest)) (are_apart (a ++ rest)) (x.apart rest h) in
    let first = and_parts (all_blank t.blanks) (apart_from t.what (a ++ rest)) whole.0 in
    record {
      apart = put blanks t.what (a ++ rest) e first.1 whole.1;
      clear = λ v. or_left (not (none_of blanks)) (apart v t.what) (not_from_false (none_of blanks) f);
    }

pub free_none : IsFree []
free_none = record { loose = λ rest h. h }

pub free_and : {a b : List Printed} → IsFree a → IsFree b → IsFree (a ++ b)
free_and {a} {b} x y = record { loose = λ rest h. subst IsLoose (sym (append_assoc a b rest)) (x.loose (b ++ rest) (y.loose rest h)) }

pub free_after : {a : List Printed} (blanks : List ℕ) → all_blank blanks ≡ true → none_of blanks ≡ false → IsApart a → IsFree (after blanks a)
free_after {a} blanks e f x = record { loose = λ rest h. blanks_loose blanks a rest e f x h }

free_blank : {a : List Printed} → IsApart a → IsFree (after blank a)
free_blank x = free_after blank refl refl x

free_starts : (b : List Printed) → IsFree b → Starts b
free_starts [] x = tt
free_starts (t ∷ b) x = (x.loose [] loose_none).clear (what.Mark mark.Open)

pub apart_free : {a b : List Printed} → IsApart a → IsFree b → IsApart (a ++ b)
apart_free {a} {b} x y = record {
  apart = λ rest h.
      let P : List Printed → Type 0 = λ u. are_apart u ≡ true in
      subst P (sym (append_assoc a b rest)) (x.apart (b ++ rest) (y.loose rest h));
}

starts_and : (a b : List Printed) → Starts a → Starts b → Starts (a ++ b)
starts_and [] b x y = y
starts_and (t ∷ a) b x y = x

pub laid_free : {a b : List Printed} → IsLaid a → IsFree b → IsLaid (a ++ b)
laid_free {a} {b} x y = record { laid = apart_free x.laid y; starts = starts_and a b x.starts (free_starts b y) }

-- a comma and a closing parenthesis stand apart from everything
free_comma : {b : List Printed} → IsFree b → IsFree (in_print [] (what.Mark mark.Comma) ∷ b)
free_comma {b} y = record {
  loose = λ rest h.
      let l = y.loose rest h in
      record { apart = put [] (what.Mark mark.Comma) (b ++ rest) refl (l.clear (what.Mark mark.Comma)) l.apart; clear = λ v. apart_comma v };
}

free_close : IsFree (the mark.Close)
free_close = record { loose = λ rest h. record { apart = put [] (what.Mark mark.Close) rest refl (h.clear (what.Mark mark.Close)) h.apart; clear = λ v. apart_close v } }

starts_from : (a rest : List Printed) → Starts a → apart_from (what.Mark mark.Open) rest ≡ true → apart_from (what.Mark mark.Open) (a ++ rest) ≡ true
starts_from [] rest x h = h
starts_from (t ∷ a) rest x h = x

pub laid_parens : {a : List Printed} → IsLaid a → IsLaid (parens a)
laid_parens {a} x =
    let y : IsLaid (a ++ the mark.Close) = laid_free x free_close in
    record {
      laid = record { apart = λ rest h. put [] (what.Mark mark.Open) ((a ++ the mark.Close) ++ rest) refl (starts_from (a ++ the mark.Close) rest y.starts (h.clear (what.Mark mark.Open))) (y.laid.apart rest h) };
      starts = refl;
    }

-- lists
free_spaced : (xs : List (List Printed)) → AllByRecursion IsApart xs → IsFree (spaced xs)
free_spaced [] h = free_none
free_spaced (x ∷ xs) h = free_and (free_blank h.0) (free_spaced xs h.1)

laid_words : (x : List Printed) (xs : List (List Printed)) → IsLaid x → AllByRecursion IsApart xs → IsLaid (words (x ∷ xs))
laid_words x xs h k = laid_free h (free_spaced xs k)

free_further : (xs : List (List Printed)) → AllByRecursion IsLaid xs → IsFree (after_commas xs)
free_further [] h = free_none
free_further (x ∷ xs) h = free_comma (free_and (free_blank h.0.laid) (free_further xs h.1))

pub laid_commas : (xs : List (List Printed)) → AllByRecursion IsLaid xs → IsLaid (commas xs)
laid_commas [] h = laid_none
laid_commas (x ∷ xs) h = laid_free h.0 (free_further xs h.1)

-- trees
laid_name : (n : name.Name) → IsLaid (name_token n)
laid_name n = laid_one (what.Name n.text) refl

laid_lit : (l : lit_type.Lit) → IsLaid (lit_token l)
laid_lit (lit.Int n) = laid_one (what.Number n) refl
laid_lit (lit.Bool true) = laid_one (what.Mark mark.True) refl
laid_lit (lit.Bool false) = laid_one (what.Mark mark.False) refl

laid_operand : {a : List Printed} (t : Tree) → IsLaid a → IsLaid (operand t a)
laid_operand (literal l span) x = x
laid_operand (variable n) x = x
laid_operand _ x = laid_parens x

abbrev the_apart : (m : Mark) → IsApart (the m)
the_apart m = apart_one (what.Mark m)

-- an operator that stands first is a keyword, as it is printed with one operand or with three
abbrev IsFirst : Op → List (List Printed) → Type 0
IsFirst o (a ∷ b ∷ []) = Unit {0}
IsFirst o xs = apart (what.Mark mark.Open) (what.Mark (op_mark o)) ≡ true

laid_operated : (o : Op) (xs : List (List Printed)) → IsFirst o xs → AllByRecursion IsLaid xs → IsLaid (operated o xs)
laid_operated o [] f h = laid_one (what.Mark (op_mark o)) f
laid_operated o (a ∷ []) f h = laid_words (the (op_mark o)) (a ∷ []) (laid_one (what.Mark (op_mark o)) f) (h.0.laid, tt)
laid_operated o (a ∷ b ∷ []) f h = laid_words a (the (op_mark o) ∷ b ∷ []) h.0 (the_apart (op_mark o), (h.1.0.laid, tt))
laid_operated o (a ∷ b ∷ c ∷ rest) f h =
    laid_words (the (op_mark o)) (a ∷ the mark.Then ∷ b ∷ the mark.Else ∷ c ∷ []) (laid_one (what.Mark (op_mark o)) f) (h.0.laid, (the_apart mark.Then, (h.1.0.laid, (the_apart mark.Else, (h.1.1.0.laid, tt)))))

laid_called : (n : name.Name) (at : Option Bits) (args : List Printed) → IsLaid args → IsLaid (called n at args)
laid_called n None args x = laid_words (name_token n) (args ∷ []) (laid_name n) (x.laid, tt)
laid_called n (Some w) args x = laid_words (name_token n) (the mark.At ∷ word_token w ∷ args ∷ []) (laid_name n) (the_apart mark.At, (apart_one (what.Word w), (x.laid, tt)))

none_first : (o : Op) → 0 ≡ arity o → ⊥
none_first op.Not e = omega (arith, e)
none_first o e = omega (arith, e)

one_first : (o : Op) → 1 ≡ arity o → apart (what.Mark mark.Open) (what.Mark (op_mark o)) ≡ true
one_first op.Not e = refl
one_first o e = absurd (omega (arith, e))

three_first : (o : Op) (n : ℕ) → suc (suc (suc n)) ≡ arity o → apart (what.Mark mark.Open) (what.Mark (op_mark o)) ≡ true
three_first op.If n e = refl
three_first o n e = absurd (omega (arith, e))

is_first : (o : Op) (ts : Trees) → length (list_of ts) ≡ arity o → IsFirst o (operands ts)
is_first o no_more e = absurd (none_first o e)
is_first o (more a no_more) e = one_first o e
is_first o (more a (more b no_more)) e = tt
is_first o (more a (more b (more c ts))) e = three_first o (length (list_of ts)) e

mutual
  pub laid_tree : (t : Tree) → IsPrintable Anywhere t → IsLaid (printed t)
  laid_tree (literal l span) h = laid_lit l
  laid_tree (variable n) h = laid_name n
  laid_tree (operator o args span) h = laid_operated o (operands args) (is_first o args h.0) (laid_operands args h.1)
  laid_tree (host n args) h =
      laid_words (the mark.Host) (name_token n ∷ parens (commas (all_printed args)) ∷ []) (laid_one (what.Mark mark.Host) refl) ((laid_name n).laid, ((laid_parens (laid_commas (all_printed args) (laid_all args h.1.1))).laid, tt))
  laid_tree (sampled flip e w) h =
      laid_words (operand e (printed e)) (the (when_mark flip) ∷ word_token w ∷ []) (laid_operand e (laid_tree e h.0)) (the_apart (when_mark flip), (apart_one (what.Word w), tt))
  laid_tree (merged w a b span) h =
      laid_words (the mark.Merge) (word_token w ∷ operand a (printed a) ∷ operand b (printed b) ∷ []) (laid_one (what.Mark mark.Merge) refl)
      (apart_one (what.Word w), ((laid_operand a (laid_tree a h.1.0)).laid, ((laid_operand b (laid_tree b h.1.1)).laid, tt)))
  laid_tree (followed l e span) h = laid_words (lit_token l) (the mark.Fby ∷ operand e (printed e) ∷ []) (laid_lit l) (the_apart mark.Fby, ((laid_operand e (laid_tree e h.1)).laid, tt))
  laid_tree (buffered None e span) h = laid_words (the mark.Buffer) (operand e (printed e) ∷ []) (laid_one (what.Mark mark.Buffer) refl) ((laid_operand e (laid_tree e h.1)).laid, tt)
  laid_tree (buffered (Some n) e span) h =
      laid_words (the mark.Buffer) (one (what.Number (pos n)) ∷ parens (printed e) ∷ []) (laid_one (what.Mark mark.Buffer) refl) (apart_one (what.Number (pos n)), ((laid_parens (laid_tree e h.1)).laid, tt))
  laid_tree (call n at args) h = laid_called n at (parens (commas (all_printed args))) (laid_parens (laid_commas (all_printed args) (laid_all args h.1.1)))

  laid_all : (ts : Trees) → ArePrintable Anywhere ts → AllByRecursion IsLaid (all_printed ts)
  laid_all no_more h = tt
  laid_all (more t ts) h = (laid_tree t h.0, laid_all ts h.1)

  laid_operands : (ts : Trees) → ArePrintable Anywhere ts → AllByRecursion IsLaid (operands ts)
  laid_operands no_more h = tt
  laid_operands (more t ts) h = (laid_operand t (laid_tree t h.0), laid_operands ts h.1)

-- declarations
laid_decl_of : (n : name.Name) (t : Option DataType) (w : Option Bits) → IsLaid (printed_decl (record { name = n; holds = t; word = w }))
laid_decl_of n None None = laid_words (name_token n) [] (laid_name n) tt
laid_decl_of n None (Some w) = laid_words (name_token n) (the mark.Colons ∷ word_token w ∷ []) (laid_name n) (the_apart mark.Colons, (apart_one (what.Word w), tt))
laid_decl_of n (Some t) None = laid_words (name_token n) (the mark.Colon ∷ the (type_mark t) ∷ []) (laid_name n) (the_apart mark.Colon, (the_apart (type_mark t), tt))
laid_decl_of n (Some t) (Some w) =
    laid_words (name_token n) (the mark.Colon ∷ the (type_mark t) ∷ the mark.Colons ∷ word_token w ∷ []) (laid_name n) (the_apart mark.Colon, (the_apart (type_mark t), (the_apart mark.Colons, (apart_one (what.Word w), tt))))

laid_decls : (ds : List decl.Decl) → AllByRecursion IsLaid (map printed_decl ds)
laid_decls [] = tt
laid_decls (d ∷ ds) = (laid_decl_of d.name d.holds d.word, laid_decls ds)

laid_names : (ns : List name.Name) → AllByRecursion IsLaid (map name_token ns)
laid_names [] = tt
laid_names (n ∷ ns) = (laid_name n, laid_names ns)

laid_list : (xs : List (List Printed)) → AllByRecursion IsLaid xs → IsLaid (parens (commas xs))
laid_list xs h = laid_parens (laid_commas xs h)

laid_left : (ds : List decl.Decl) → IsLaid (printed_left ds)
laid_left [] = laid_parens laid_none
laid_left (d ∷ []) = laid_decl_of d.name d.holds d.word
laid_left (d ∷ e ∷ ds) = laid_list (map printed_decl (d ∷ e ∷ ds)) (laid_decls (d ∷ e ∷ ds))

-- definitions, nodes and programs
laid_def : (d : DefTree) → IsPrintableDef Anywhere d → IsLaid (printed_def d)
laid_def d h = laid_words (printed_left d.left) (the mark.Equals ∷ printed d.right ∷ []) (laid_left d.left) (the_apart mark.Equals, ((laid_tree d.right h.right).laid, tt))

free_defs : (ds : List DefTree) → AllByRecursion (IsPrintableDef Anywhere) ds → IsFree (more_defs ds)
free_defs [] h = free_none
free_defs (d ∷ ds) h = free_and (free_after indent refl refl (the_apart mark.And)) (free_and (free_blank (laid_def d h.0).laid) (free_defs ds h.1))

free_body : (ds : List DefTree) → AllByRecursion (IsPrintableDef Anywhere) ds → IsFree (printed_body ds)
free_body [] h = free_none
free_body (d ∷ ds) h = free_and (free_spaced (the mark.Where ∷ the mark.Rec ∷ []) (the_apart mark.Where, (the_apart mark.Rec, tt))) (free_and (free_after indent refl refl (laid_def d h.0).laid) (free_defs ds h.1))

laid_node : (n : NodeTree) → IsPrintableNode Anywhere n → IsLaid (printed_node n)
laid_node n h =
    let head = parens (commas (map printed_decl n.params)) in
    let tail = parens (commas (map name_token n.results)) in
    laid_free
    (laid_words (the mark.Let) (the mark.Node ∷ name_token n.name ∷ head ∷ the mark.Equals ∷ tail ∷ []) (laid_one (what.Mark mark.Let) refl)
    (the_apart mark.Node, ((laid_name n.name).laid, ((laid_list (map printed_decl n.params) (laid_decls n.params)).laid, (the_apart mark.Equals, ((laid_list (map name_token n.results) (laid_names n.results)).laid, tt))))))
    (free_body n.defs h.defs)

free_nodes : (ns : List NodeTree) → AllByRecursion (IsPrintableNode Anywhere) ns → IsFree (more_nodes ns)
free_nodes [] h = free_none
free_nodes (n ∷ ns) h = free_and (free_after line refl refl (laid_node n h.0).laid) (free_nodes ns h.1)

pub print_apart : (p : ProgramTree) → IsPrintableProgram Anywhere p → are_apart (printed_program p) ≡ true
print_apart [] h = absurd h
print_apart (n ∷ ns) h =
    let whole : IsApart (printed_program (n ∷ ns)) = apart_free (laid_node n h.0).laid (free_nodes ns h.1) in
    let P : List Printed → Type 0 = λ u. are_apart u ≡ true in
    subst P (append-nil (printed_program (n ∷ ns))) (whole.apart [] loose_none)
