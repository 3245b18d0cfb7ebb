-- Printed calls and host forms, and with them every printed tree.
use Rattle.std.proofs.Common.{◌≡◌, List, [], ◌∷◌, ◌++◌, length, Option, Some, None, refl, ap, sym, ◌∙◌, subst, append_assoc}
use Rattle.std.proofs.lemmas.List.{append-nil}
use Rattle.lucy_word.specs.Bits.{Bits}
use Rattle.lucy_tree.specs.declared.span.Name as name
use Rattle.lucy_tree.specs.Tree.{Tree, Trees, literal, variable, operator, host, sampled, merged, followed, buffered, call, no_more, more, trees_of, list_of}
use Rattle.lucy_token.specs.declared.mark.Mark.TheVariants as mark
use Rattle.lucy_token.specs.declared.token.Kind.{Kind}
use Rattle.lucy_token.specs.declared.token.What.{What}
use Rattle.lucy_token.specs.declared.token.What.TheVariants as what
use Rattle.lucy_token.specs.Printed.{Printed, in_print}
use Rattle.lucy_grammar.specs.Symbols.{many, Expr, Pre, Pair, Call, Applied, Base, Args, MoreExpr}
use Rattle.lucy_grammar.specs.Meanings.{two}
use Rattle.lucy_grammar.specs.Grammar.{rules}
use Rattle.lucy_grammar.specs.PrintTokens.{blank, the, after, after_commas, commas, parens, printed, all_printed}
use Rattle.lucy_grammar.specs.Spans.{unplaced_name, unplaced, all_unplaced}
use Rattle.lucy_grammar.specs.Printable.{IsPrintable, ArePrintable}
use Rattle.lucy_grammar.proofs.Spelling.{Spells, Is, spell_end, spell_token, spell_after, spell_part, spell_again, spell_there, spell_none, spell_out, spell_rule}
use Rattle.lucy_grammar.proofs.PrintedTrees.{AreSpelled, from_pre, from_atom, a_literal, a_variable, an_operator, two_of, a_sampled, a_merge, a_followed, a_buffer}

trees_of-list_of : (ts : Trees) → trees_of (list_of ts) ≡ ts
trees_of-list_of no_more = refl
trees_of-list_of (more t ts) = ap (λ u. more t u) (trees_of-list_of ts)

-- the arguments of a call
more_args : (ts : Trees) → AreSpelled ts → Spells (many MoreExpr ∷ []) (list_of (all_unplaced ts), tt) (after_commas (all_printed ts))
unfolding rules
more_args no_more h = spell_none spell_end
more_args (more t ts) h = spell_again (spell_rule 0 refl (spell_token [] (what.Mark mark.Comma) refl (spell_after blank h.0))) (more_args ts h.1)

some_args : (t : Tree) (ts : Trees) → AreSpelled (more t ts) → Is Args (all_unplaced (more t ts)) (commas (all_printed (more t ts)))
unfolding rules
some_args t ts h =
    let P : Trees → Type 0 = λ u. Is Args (more (unplaced t) u) (commas (all_printed (more t ts))) in
    subst P (trees_of-list_of (all_unplaced ts)) (spell_rule 0 refl (spell_part h.0 (more_args ts h.1)))

a_base : (w : Bits) → Is Base w (in_print blank (what.Mark mark.At) ∷ in_print blank (what.Word w) ∷ [])
unfolding rules
a_base w = spell_rule 0 refl (spell_token blank (what.Mark mark.At) refl (spell_token blank (what.Word w) refl spell_end))

-- what stands behind the name of a call
abbrev behind : Option Bits → Trees → List Printed
behind None args = after blank (parens (commas (all_printed args)))
behind (Some w) args = in_print blank (what.Mark mark.At) ∷ in_print blank (what.Word w) ∷ after blank (parens (commas (all_printed args)))

an_applied : (at : Option Bits) (args : Trees) → AreSpelled args → Is Applied (at, all_unplaced args) (behind at args)
unfolding rules
an_applied None no_more h = spell_rule 0 refl (spell_out (spell_token blank (what.Mark mark.Open) refl (spell_out (spell_token [] (what.Mark mark.Close) refl spell_end))))
an_applied None (more t ts) h = spell_rule 0 refl (spell_out (spell_token blank (what.Mark mark.Open) refl (spell_there (some_args t ts h) (spell_token [] (what.Mark mark.Close) refl spell_end))))
an_applied (Some w) no_more h = spell_rule 0 refl (spell_there (a_base w) (spell_token blank (what.Mark mark.Open) refl (spell_out (spell_token [] (what.Mark mark.Close) refl spell_end))))
an_applied (Some w) (more t ts) h =
    spell_rule 0 refl (spell_there (a_base w) (spell_token blank (what.Mark mark.Open) refl (spell_there (some_args t ts h) (spell_token [] (what.Mark mark.Close) refl spell_end))))

-- a call in an expression, and one that is the right side of several names
a_call : (n : name.Name) (at : Option Bits) (args : Trees) → AreSpelled args → Is Pre (call (unplaced_name n) at (all_unplaced args)) (printed (call n at args))
unfolding rules
a_call n None args h = from_atom (spell_rule 0 refl (spell_token [] (what.Name n.text) refl (spell_there (an_applied None args h) spell_end)))
a_call n (Some w) args h = from_atom (spell_rule 0 refl (spell_token [] (what.Name n.text) refl (spell_there (an_applied (Some w) args h) spell_end)))

pub the_call : (n : name.Name) (at : Option Bits) (args : Trees) → AreSpelled args → Is Call (call (unplaced_name n) at (all_unplaced args)) (printed (call n at args))
unfolding rules
the_call n None args h = spell_rule 0 refl (spell_token [] (what.Name n.text) refl (spell_part (an_applied None args h) spell_end))
the_call n (Some w) args h = spell_rule 0 refl (spell_token [] (what.Name n.text) refl (spell_part (an_applied (Some w) args h) spell_end))

-- a host form
pub pair_pieces : (a b c d : List Printed) → (a ++ (b ++ (c ++ []))) ++ d ≡ a ++ (b ++ (c ++ d))
pair_pieces a b c d = append_assoc a (b ++ (c ++ [])) d ∙ ap (λ u. a ++ u) (append_assoc b (c ++ []) d) ∙ ap (λ u. a ++ (b ++ (u ++ d))) (append-nil c)

a_pair : (a b : Tree) → AreSpelled (two a b) → Is Pair (all_unplaced (two a b)) (after blank (parens (commas (all_printed (two a b)))))
unfolding rules
a_pair a b (r, (s, _)) =
    let P : List Printed → Type 0 = λ u. Is Pair (all_unplaced (two a b)) (in_print blank (what.Mark mark.Open) ∷ u) in
    subst P (sym (pair_pieces (printed a) (the mark.Comma) (after blank (printed b)) (the mark.Close)))
    (spell_rule 0 refl (spell_token blank (what.Mark mark.Open) refl (spell_part r (spell_token [] (what.Mark mark.Comma) refl (spell_part (spell_after blank s) (spell_token [] (what.Mark mark.Close) refl spell_end))))))

a_host : (n : name.Name) (args : Trees) → length (list_of args) ≡ 2 → AreSpelled args → Is Pre (host (unplaced_name n) (all_unplaced args)) (printed (host n args))
unfolding rules
a_host n args e =
    let P : Trees → Type 0 = λ ts. AreSpelled ts → Is Pre (host (unplaced_name n) (all_unplaced ts)) (printed (host n ts)) in
    two_of P (λ a b h. from_atom (spell_rule 1 refl (spell_token [] (what.Mark mark.Host) refl (spell_token blank (what.Name n.text) refl (spell_part (a_pair a b h) spell_end))))) args e

mutual
  -- a printed tree is an expression, and stands for that tree but for places
  pub printed_is : (Q : Kind → What → Type 0) (t : Tree) → IsPrintable Q t → Is Expr (unplaced t) (printed t)
  printed_is Q (literal l span) h = from_pre (a_literal l)
  printed_is Q (variable n) h = from_pre (a_variable n)
  printed_is Q (operator o args span) h = an_operator o args h.0 (all_are Q args h.1)
  printed_is Q (host n args) h = from_pre (a_host n args h.1.0 (all_are Q args h.1.1))
  printed_is Q (sampled flip e w) h = a_sampled flip e w (printed_is Q e h.0)
  printed_is Q (merged w a b span) h = from_pre (a_merge w a b (printed_is Q a h.1.0) (printed_is Q b h.1.1))
  printed_is Q (followed l e span) h = from_pre (a_followed l e (printed_is Q e h.1))
  printed_is Q (buffered None e span) h = from_pre (a_buffer None e tt (printed_is Q e h.1))
  printed_is Q (buffered (Some n) e span) h = from_pre (a_buffer (Some n) e h.0.0 (printed_is Q e h.1))
  printed_is Q (call n at args) h = from_pre (a_call n at args (all_are Q args h.1.1))

  pub all_are : (Q : Kind → What → Type 0) (ts : Trees) → ArePrintable Q ts → AreSpelled ts
  all_are Q no_more h = tt
  all_are Q (more t ts) h = (printed_is Q t h.0, all_are Q ts h.1)
