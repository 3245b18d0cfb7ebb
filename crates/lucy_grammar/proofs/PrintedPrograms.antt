-- A printed program is read again as the same program, but for places.
use Rattle.std.proofs.Common.{ℕ, ◌≡◌, List, [], ◌∷◌, ◌++◌, Option, Some, None, map, refl, ap, sym, ◌∙◌, subst, append_assoc}
use Rattle.std.specs.Prelude.{unwrap_or}
use Rattle.std.specs.List.{AllByRecursion}
use Rattle.lucy_word.specs.Bits.{Bits}
use Rattle.lucy_host.specs.declared.data_type.DataType.{DataType}
use Rattle.lucy_host.specs.declared.data_type.DataType.TheVariants as holds
use Rattle.lucy_tree.specs.declared.span.Name as name
use Rattle.lucy_tree.specs.declared.decl.Decl as decl
use Rattle.lucy_tree.specs.Tree.{Tree, literal, variable, operator, host, sampled, merged, followed, buffered, call}
use Rattle.lucy_tree.specs.View.{DefTree, NodeTree, ProgramTree}
use Rattle.lucy_token.specs.declared.mark.Mark.TheVariants as mark
use Rattle.lucy_token.specs.declared.token.Kind.{Kind}
use Rattle.lucy_token.specs.declared.token.What.{What}
use Rattle.lucy_token.specs.declared.token.What.TheVariants as what
use Rattle.lucy_token.specs.declared.token.Token.{Token}
use Rattle.lucy_token.specs.Printed.{Printed, in_print, whats_of}
use Rattle.lucy_grammar.specs.Symbols.{part, many, perhaps, Program, Node, Title, Params, Results, MoreName, Body, Decls, MoreDecl, Decl, Typing, ClockOf, Def, MoreDef, Lefts, Call}
use Rattle.lucy_grammar.specs.Grammar.{rules}
use Rattle.lucy_grammar.specs.Deriving.{value}
use Rattle.lucy_grammar.specs.Programs.{IsProgram}
use Rattle.lucy_grammar.specs.PrintTokens.{blank, indent, line, the, after, after_commas, commas, parens, name_token, printed, type_mark, printed_decl, printed_left, printed_def, more_defs, printed_body, printed_node, more_nodes, printed_program}
use Rattle.lucy_grammar.specs.Spans.{unplaced_token, unplaced_name, unplaced_decl, unplaced, unplaced_def, unplaced_node, unplaced_program, IsAlike}
use Rattle.lucy_tree.specs.Shaped.{IsCall, Defines}
use Rattle.lucy_grammar.specs.Printable.{MayBeNamed, AllOfSome, IsPrintable, IsPrintableDef, IsPrintableNode, IsPrintableProgram}
use Rattle.lucy_grammar.proofs.Deriving.{of_derivation}
use Rattle.lucy_grammar.proofs.SpanLaws.{placed}
use Rattle.lucy_grammar.proofs.Spelling.{plain, plains, Spells, Is, spell_end, spell_token, spell_after, spell_part, spell_again, spell_there, spell_none, spell_out, spell_given, spell_rule}
use Rattle.lucy_grammar.proofs.PrintedCalls.{printed_is, all_are, the_call, pair_pieces}

-- declarations
a_typing : (t : DataType) → Is Typing t (in_print blank (what.Mark mark.Colon) ∷ after blank (the (type_mark t)))
unfolding rules
a_typing holds.Int = spell_rule 0 refl (spell_token blank (what.Mark mark.Colon) refl (spell_rule 0 refl (spell_token blank (what.Mark mark.Int) refl spell_end)))
a_typing holds.Bool = spell_rule 0 refl (spell_token blank (what.Mark mark.Colon) refl (spell_rule 1 refl (spell_token blank (what.Mark mark.Bool) refl spell_end)))

a_clock : (w : Bits) → Is ClockOf w (in_print blank (what.Mark mark.Colons) ∷ in_print blank (what.Word w) ∷ [])
unfolding rules
a_clock w = spell_rule 0 refl (spell_token blank (what.Mark mark.Colons) refl (spell_token blank (what.Word w) refl spell_end))

a_decl_of : (n : name.Name) (t : Option DataType) (w : Option Bits) → Is Decl (record { name = unplaced_name n; holds = t; word = w }) (printed_decl (record { name = n; holds = t; word = w }))
unfolding rules
a_decl_of n None None = spell_rule 0 refl (spell_token [] (what.Name n.text) refl (spell_out (spell_out spell_end)))
a_decl_of n None (Some w) = spell_rule 0 refl (spell_token [] (what.Name n.text) refl (spell_out (spell_given (a_clock w))))
a_decl_of n (Some t) None = spell_rule 0 refl (spell_token [] (what.Name n.text) refl (spell_there (a_typing t) (spell_out spell_end)))
a_decl_of n (Some t) (Some w) = spell_rule 0 refl (spell_token [] (what.Name n.text) refl (spell_there (a_typing t) (spell_given (a_clock w))))

a_decl : (d : decl.Decl) → Is Decl (unplaced_decl d) (printed_decl d)
a_decl d = a_decl_of d.name d.holds d.word

further_decls : (ds : List decl.Decl) → Spells (many MoreDecl ∷ []) (map unplaced_decl ds, tt) (after_commas (map printed_decl ds))
unfolding rules
further_decls [] = spell_none spell_end
further_decls (d ∷ ds) = spell_again (spell_rule 0 refl (spell_token [] (what.Mark mark.Comma) refl (spell_after blank (a_decl d)))) (further_decls ds)

some_decls : (blanks : List ℕ) (d : decl.Decl) (ds : List decl.Decl) → Is Decls (unplaced_decl d ∷ map unplaced_decl ds) (after blanks (printed_decl d) ++ after_commas (map printed_decl ds))
unfolding rules
some_decls blanks d ds = spell_rule 0 refl (spell_part (spell_after blanks (a_decl d)) (further_decls ds))

the_params : (ds : List decl.Decl) → Is Params (map unplaced_decl ds) (after blank (parens (commas (map printed_decl ds))))
unfolding rules
the_params [] = spell_rule 1 refl (spell_token blank (what.Mark mark.Open) refl (spell_out (spell_token [] (what.Mark mark.Close) refl spell_end)))
the_params (d ∷ ds) = spell_rule 1 refl (spell_token blank (what.Mark mark.Open) refl (spell_there (some_decls [] d ds) (spell_token [] (what.Mark mark.Close) refl spell_end)))

-- results
further_names : (ns : List name.Name) → Spells (many MoreName ∷ []) (map unplaced_name ns, tt) (after_commas (map name_token ns))
unfolding rules
further_names [] = spell_none spell_end
further_names (n ∷ ns) = spell_again (spell_rule 0 refl (spell_token [] (what.Mark mark.Comma) refl (spell_rule 0 refl (spell_token blank (what.Name n.text) refl spell_end)))) (further_names ns)

the_results : (n : name.Name) (ns : List name.Name) → Is Results (unplaced_name n ∷ map unplaced_name ns) (after blank (parens (commas (map name_token (n ∷ ns)))))
unfolding rules
the_results n ns =
    spell_rule 1 refl (spell_token blank (what.Mark mark.Open) refl (spell_part (spell_rule 0 refl (spell_part (spell_rule 0 refl (spell_token [] (what.Name n.text) refl spell_end)) (further_names ns))) (spell_token [] (what.Mark mark.Close) refl spell_end)))

-- definitions
the_lefts : (d e : decl.Decl) (ds : List decl.Decl) → Is Lefts (unplaced_decl d ∷ unplaced_decl e ∷ map unplaced_decl ds) (printed_left (d ∷ e ∷ ds))
unfolding rules
the_lefts d e ds =
    let P : List Printed → Type 0 = λ u. Is Lefts (unplaced_decl d ∷ unplaced_decl e ∷ map unplaced_decl ds) (in_print [] (what.Mark mark.Open) ∷ u) in
    subst P (sym (append_assoc (printed_decl d) (after_commas (map printed_decl (e ∷ ds))) (the mark.Close)))
    (spell_rule 0 refl (spell_token [] (what.Mark mark.Open) refl (spell_part (a_decl d) (spell_token [] (what.Mark mark.Comma) refl (spell_part (some_decls blank e ds) (spell_token [] (what.Mark mark.Close) refl spell_end))))))

the_right : (Q : Kind → What → Type 0) (e : Tree) → IsPrintable Q e → IsCall e → Is Call (unplaced e) (printed e)
the_right Q (call n at args) h c = the_call n at args (all_are Q args h.1.1)
the_right Q (literal l span) h c = absurd c
the_right Q (variable n) h c = absurd c
the_right Q (operator o args span) h c = absurd c
the_right Q (host n args) h c = absurd c
the_right Q (sampled flip e w) h c = absurd c
the_right Q (merged w a b span) h c = absurd c
the_right Q (followed l e span) h c = absurd c
the_right Q (buffered most e span) h c = absurd c

a_def_of : (Q : Kind → What → Type 0) (left : List decl.Decl) (right : Tree) → IsPrintable Q right → Defines left right →
    Is Def (record { left = map unplaced_decl left; right = unplaced right }) (printed_def (record { left = left; right = right }))
unfolding rules
a_def_of Q [] right h f = absurd f
a_def_of Q (d ∷ []) right h f = spell_rule 0 refl (spell_part (a_decl d) (spell_token blank (what.Mark mark.Equals) refl (spell_part (spell_after blank (printed_is Q right h)) spell_end)))
a_def_of Q (d ∷ e ∷ ds) right h f = spell_rule 1 refl (spell_part (the_lefts d e ds) (spell_token blank (what.Mark mark.Equals) refl (spell_part (spell_after blank (the_right Q right h f)) spell_end)))

a_def : (Q : Kind → What → Type 0) (d : DefTree) → IsPrintableDef Q d → Is Def (unplaced_def d) (printed_def d)
a_def Q d h = a_def_of Q d.left d.right h.right h.defines

further_defs : (Q : Kind → What → Type 0) (ds : List DefTree) → AllByRecursion (IsPrintableDef Q) ds → Spells (many MoreDef ∷ []) (map unplaced_def ds, tt) (more_defs ds)
unfolding rules
further_defs Q [] h = spell_none spell_end
further_defs Q (d ∷ ds) h = spell_again (spell_rule 0 refl (spell_token indent (what.Mark mark.And) refl (spell_after blank (a_def Q d h.0)))) (further_defs Q ds h.1)

-- nodes
the_body : (Q : Kind → What → Type 0) (ds : List DefTree) → AllByRecursion (IsPrintableDef Q) ds → (body : Option (List DefTree)) × Spells (perhaps Body ∷ []) (body, tt) (printed_body ds) × (unwrap_or body [] ≡ map unplaced_def ds)
unfolding rules
the_body Q [] h = (None, spell_out spell_end, refl)
the_body Q (d ∷ ds) h = (
  Some (map unplaced_def (d ∷ ds)),
  spell_given (spell_rule 0 refl (spell_token blank (what.Mark mark.Where) refl (spell_token blank (what.Mark mark.Rec) refl (spell_rule 0 refl (spell_part (spell_after indent (a_def Q d h.0)) (further_defs Q ds h.1)))))),
  refl,
)

a_title : (n : name.Name) → Is Title (unplaced_name n) (in_print [] (what.Mark mark.Let) ∷ in_print blank (what.Mark mark.Node) ∷ in_print blank (what.Name n.text) ∷ [])
unfolding rules
a_title n = spell_rule 0 refl (spell_token [] (what.Mark mark.Let) refl (spell_token blank (what.Mark mark.Node) refl (spell_token blank (what.Name n.text) refl spell_end)))

a_node_of : (Q : Kind → What → Type 0) (n : name.Name) (ps : List decl.Decl) (r : name.Name) (rs : List name.Name) (ds : List DefTree) → AllByRecursion (IsPrintableDef Q) ds →
    Is Node (unplaced_node (record { name = n; params = ps; results = r ∷ rs; defs = ds })) (printed_node (record { name = n; params = ps; results = r ∷ rs; defs = ds }))
unfolding rules
a_node_of Q n ps r rs ds h =
    let body = the_body Q ds h in
    let head = after blank (parens (commas (map printed_decl ps))) in
    let tail = after blank (parens (commas (map name_token (r ∷ rs)))) in
    let V : List DefTree → NodeTree = λ u. record { name = unplaced_name n; params = map unplaced_decl ps; results = unplaced_name r ∷ map unplaced_name rs; defs = u } in
    let P : List Printed → Type 0 = λ u. Is Node (V (unwrap_or body.0 [])) (in_print [] (what.Mark mark.Let) ∷ in_print blank (what.Mark mark.Node) ∷ in_print blank (what.Name n.text) ∷ u) in
    let R : List DefTree → Type 0 = λ u. Is Node (V u) (printed_node (record { name = n; params = ps; results = r ∷ rs; defs = ds })) in
    let whole : Is Node (V (unwrap_or body.0 [])) (in_print [] (what.Mark mark.Let) ∷ in_print blank (what.Mark mark.Node) ∷ in_print blank (what.Name n.text) ∷ (head ++ (in_print blank (what.Mark mark.Equals) ∷ (tail ++ printed_body ds)))) =
    spell_rule 0 refl (spell_part (a_title n) (spell_part (the_params ps) (spell_token blank (what.Mark mark.Equals) refl (spell_part (the_results r rs) body.1)))) in
    subst R body.2 (subst P (sym (pair_pieces head (in_print blank (what.Mark mark.Equals) ∷ []) tail (printed_body ds))) whole)

a_node : (Q : Kind → What → Type 0) (n : NodeTree) → IsPrintableNode Q n → Is Node (unplaced_node n) (printed_node n)
a_node Q n h = go n.results h.results
  where
    go : (rs : List name.Name) → AllOfSome (MayBeNamed Q) rs → Is Node (unplaced_node (record { name = n.name; params = n.params; results = rs; defs = n.defs })) (printed_node (record { name = n.name; params = n.params; results = rs; defs = n.defs }))
    go [] f = absurd f
    go (r ∷ rs) f = a_node_of Q n.name n.params r rs n.defs h.defs

further_nodes : (Q : Kind → What → Type 0) (ns : List NodeTree) → AllByRecursion (IsPrintableNode Q) ns → Spells (many Node ∷ []) (map unplaced_node ns, tt) (more_nodes ns)
further_nodes Q [] h = spell_none spell_end
further_nodes Q (n ∷ ns) h = spell_again (spell_after line (a_node Q n h.0)) (further_nodes Q ns h.1)

the_program : (Q : Kind → What → Type 0) (p : ProgramTree) → IsPrintableProgram Q p → Is Program (unplaced_program p) (printed_program p)
unfolding rules
the_program Q [] h = absurd h
the_program Q (n ∷ ns) h = spell_rule 0 refl (spell_part (a_node Q n h.0) (further_nodes Q ns h.1))

-- tokens with these contents are the printed ones but for places
same_tokens : (ts : List Token) (ps : List Printed) → map (λ t. t.what) ts ≡ whats_of ps → plains ps ≡ map unplaced_token ts
same_tokens [] [] e = refl
same_tokens [] (p ∷ ps) e = absurd cc
same_tokens (t ∷ ts) [] e = absurd cc
same_tokens (t ∷ ts) (p ∷ ps) e =
    let one : t.what ≡ p.what = cc in
    let rest : map (λ t. t.what) ts ≡ whats_of ps = cc in
    let both = same_tokens ts ps rest in
    ap (λ w. plain w ∷ plains ps) (sym one) ∙ ap (λ u. unplaced_token t ∷ u) both

pub printed_again : (Q : Kind → What → Type 0) (p : ProgramTree) (ts : List Token) → IsPrintableProgram Q p → map (λ t. t.what) ts ≡ whats_of (printed_program p) →
    (q : ProgramTree) × IsProgram ts q × IsAlike q p
printed_again Q p ts h e =
    let s = the_program Q p h in
    let d = placed (part Program ∷ []) s.deriv ts (s.spells ∙ same_tokens ts (printed_program p) e) in
    ((value d.deriv).0, of_derivation (d.deriv, d.spells, refl), ap (λ (u : ProgramTree × Unit {0}). u.0) (d.means ∙ s.means))
