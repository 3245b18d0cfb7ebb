-- Each production, in a text with no fault, makes lists that have no more entries than they may have.
use Rattle.std.proofs.Common.{◌≡◌, length, refl, ap, sym, ◌∙◌, subst, arith}
use Rattle.lucy_token.specs.declared.mark.Mark.TheVariants as mark
use Rattle.lucy_token.specs.declared.token.Kind.TheVariants as kind
use Rattle.lucy_token.specs.declared.state.Side.TheVariants as side
use Rattle.lucy_token.specs.States.{after, side_defined, begins_entry}
use Rattle.lucy_grammar.specs.Symbols.{Part, Program, Node, Title, Params, Results, Names, Ident, MoreName, Body, Decls, MoreDecl, Decl, Typing, TypeName, ClockOf, Defs, Def, MoreDef, Lefts, Expr, Or, MoreAnd, And, MoreCmp, Cmp, Compared, CmpOp, Sum, MoreProd, SumOp, Prod, MoreSamp, ProdOp, Samp, Sampling, Pre, Followed, Form, Buffered, Held, Other, Atom, Small, Lit, Pair, Call, Applied, Base, Args, MoreExpr}
use Rattle.lucy_grammar.specs.Meanings.{token_name}
use Rattle.lucy_grammar.specs.Grammar.{rules}
use Rattle.lucy_grammar.proofs.Levels.{keeps_then, keeps_plain, IsDue, due_called, one_on, rec_left, and_left, defined, begins_name}
use Rattle.lucy_grammar.proofs.FewEntries.{IsFewDef, IsFewNode, Spec, AllMake}
use Rattle.lucy_grammar.proofs.FewSteps.{chain_all, more_entries, list_read, still_few, more_read, few_opened, params_few, body_few, ended_plain, ended_after, decl_read, lefts_read, few_second, expr_after, link_read, grouped_read, compared_read, sampled_read, literal_read, held_read, named_read, parens_read, length-trees, args_read, applied_read, pair_read, if_read, merge_read}

-- each production makes its part so
pub all_make : (X : Part) → AllMake X (rules X)
unfolding rules
all_make Program = (λ s vs m a j c. (a, chain_all (Spec Node) IsFewNode (λ q x n r. r) m vs.1.0 j c), tt)
all_make Node = (λ s vs i t m ps p n rs j b. record { params = ps; results = rs; defs = body_few n vs.1.1.1.1.0 j b }, tt)
all_make Title = (λ s vs p q r. tt, tt)
all_make Params = (λ s vs p. omega arith, (λ s vs p j c q. params_few s vs.1.0 j c, tt))
all_make Results = (λ s vs p. omega arith, (λ s vs p j c q. omega (arith, (c (few_opened s)).few), tt))
all_make Names = (λ s vs m a j c h. list_read s m j (length vs.1.0) a.1 (more_entries (Spec MoreName) m.side (λ q x n e r. r) m vs.1.0 j refl (still_few s m a.1 h) c), tt)
all_make Ident = (λ s vs p. (p, keeps_plain s kind.Name refl), tt)
all_make MoreName = (λ s vs p j c. more_read s j kind.Name c.0 (begins_name (after s (kind.Mark mark.Comma)).side) c.1, tt)
all_make Body = (λ s vs p q j c. c (rec_left (after s (kind.Mark mark.Where))), tt)
all_make Decls = (λ s vs m a j c h. list_read s m j (length vs.1.0) a.keeps (more_entries (Spec MoreDecl) m.side (λ q x n e r. r) m vs.1.0 j refl (still_few s m a.keeps h) c), tt)
all_make MoreDecl = (λ s vs p j c. more_read s j kind.Name c.first (begins_name (after s (kind.Mark mark.Comma)).side) c.keeps, tt)
all_make Decl = (λ s vs p m t j w. decl_read s m j vs.1.0 vs.1.1.0 p t w, tt)
all_make Typing = (λ s vs p j c. ended_after s (kind.Mark mark.Colon) j refl c, tt)
all_make TypeName = (λ s vs p. ended_plain s (kind.Mark mark.Int) refl refl, (λ s vs p. ended_plain s (kind.Mark mark.Bool) refl refl, tt))
all_make ClockOf = (λ s vs p q. ended_after s (kind.Mark mark.Colons) _ refl (ended_plain (after s (kind.Mark mark.Colons)) kind.Word refl refl), tt)
all_make Defs = (λ s vs m d j c h. (d h, chain_all (Spec MoreDef) IsFewDef (λ q x n r. r) m vs.1.0 j c), tt)
all_make Def = (
  λ s vs m d p j e h. (omega arith, (e (defined m (d.keeps.at ∙ h) ∙ d.named)).few),
  (λ s vs m d p j c h. let l = d h in (l.few, c (due_called _ (defined m l.at ∙ ap side_defined l.before))), tt),
)
all_make MoreDef = (λ s vs p j d. d (and_left s), tt)
all_make Lefts = (λ s vs p m d q j ds r h. lefts_read s m j (length vs.1.1.1.0) d (few_second s m d) (ds (few_second s m d)) h, tt)
all_make Expr = (
  λ s vs p m c q n a t j b r. let x = if_read s m n j vs.1.0 vs.1.1.1.0 vs.1.1.1.1.1.0 r c a b in record { first = (kind.Mark mark.If, p); keeps = x.0; few = x.1 },
  (λ s vs j c. c, tt),
)
all_make Or = (λ s vs m a j c r. grouped_read s m j vs.0 vs.1.0 r (a r) c, tt)
all_make MoreAnd = (λ s vs p j c. expr_after s j vs.1.0 (kind.Mark mark.Either) refl c, tt)
all_make And = (λ s vs m a j c r. grouped_read s m j vs.0 vs.1.0 r (a r) c, tt)
all_make MoreCmp = (λ s vs p j c. expr_after s j vs.1.0 (kind.Mark mark.Both) refl c, tt)
all_make Cmp = (λ s vs m a j c r. compared_read s m j vs.0 vs.1.0 r (a r) c, tt)
all_make Compared = (λ s vs m k j c. link_read s m j vs.1.0 k c, tt)
all_make CmpOp = (
  λ s vs p. keeps_plain s (kind.Mark mark.Same) refl,
  (
    λ s vs p. keeps_plain s (kind.Mark mark.Differs) refl,
    (
      λ s vs p. keeps_plain s (kind.Mark mark.Less) refl,
      (λ s vs p. keeps_plain s (kind.Mark mark.AtMost) refl, (λ s vs p. keeps_plain s (kind.Mark mark.Greater) refl, (λ s vs p. keeps_plain s (kind.Mark mark.AtLeast) refl, tt))),
    ),
  ),
)
all_make Sum = (λ s vs m a j c r. grouped_read s m j vs.0 vs.1.0 r (a r) c, tt)
all_make MoreProd = (λ s vs m k j c. link_read s m j vs.1.0 k c, tt)
all_make SumOp = (λ s vs p. keeps_plain s (kind.Mark mark.Plus) refl, (λ s vs p. keeps_plain s (kind.Mark mark.Minus) refl, tt))
all_make Prod = (λ s vs m a j c r. grouped_read s m j vs.0 vs.1.0 r (a r) c, tt)
all_make MoreSamp = (λ s vs m k j c. link_read s m j vs.1.0 k c, tt)
all_make ProdOp = (λ s vs p. keeps_plain s (kind.Mark mark.Star) refl, (λ s vs p. keeps_plain s (kind.Mark mark.Slash) refl, (λ s vs p. keeps_plain s (kind.Mark mark.Percent) refl, tt)))
all_make Samp = (λ s vs m a j c r. sampled_read s m j vs.0 vs.1.0 (a r) c, tt)
all_make Sampling = (
  λ s vs p q. keeps_then (keeps_plain s (kind.Mark mark.When) refl) (keeps_plain (after s (kind.Mark mark.When)) kind.Word refl),
  (λ s vs p q. keeps_then (keeps_plain s (kind.Mark mark.Whenot) refl) (keeps_plain (after s (kind.Mark mark.Whenot)) kind.Word refl), tt),
)
all_make Pre = (λ s vs m l j f r. literal_read s m j vs.0 vs.1.0 r l f, (λ s vs j c. c, tt))
all_make Followed = (λ s vs p j c. expr_after s j vs.1.0 (kind.Mark mark.Fby) refl c, tt)
all_make Form = (
  λ s vs p j c r. let x = expr_after s j vs.1.0 (kind.Mark mark.Not) refl c r in record { first = (kind.Mark mark.Not, p); keeps = x.0; few = (x.1, tt) },
  (
    λ s vs p j c r.
        let keeps = keeps_plain s (kind.Mark mark.Buffer) refl in
        let x = c (keeps.at ∙ r) in
        record { first = (kind.Mark mark.Buffer, p); keeps = keeps_then keeps x.0; few = x.1 },
    (
      λ s vs p q m a j b r. let x = merge_read s m j vs.1.1.0 vs.1.1.1.0 r a b in record { first = (kind.Mark mark.Merge, p); keeps = x.0; few = x.1 },
      (λ s vs j c. c, tt),
    ),
  ),
)
all_make Buffered = (
  λ s vs p j h r. held_read s j vs.0 vs.1.0 r h,
  (λ s vs m l j f r. let x = literal_read s m j vs.0 vs.1.0 r l f in (x.keeps, x.few), (λ s vs j c r. let x = c r in (x.keeps, x.few), tt)),
)
all_make Held = (λ s vs j c. c, (λ s vs p m c q r. let x = parens_read s m vs.1.0 r p c in (x.keeps, x.few), tt))
all_make Other = (
  λ s vs p. ((kind.Number, p), keeps_plain s kind.Number refl),
  (λ s vs p. ((kind.Mark mark.True, p), keeps_plain s (kind.Mark mark.True) refl), (λ s vs p. ((kind.Mark mark.False, p), keeps_plain s (kind.Mark mark.False) refl), tt)),
)
all_make Atom = (
  λ s vs p j c r. named_read s j (token_name vs.0) vs.1.0 r p c,
  (
    λ s vs p q j c r.
        let k = keeps_then (keeps_plain s (kind.Mark mark.Host) refl) (keeps_plain (after s (kind.Mark mark.Host)) kind.Name refl) in
        let x = c (k.at ∙ r) in
        record { first = (kind.Mark mark.Host, p); keeps = keeps_then k x.0; few = x.1 },
    (λ s vs p m c q r. parens_read s m vs.1.0 r p c, tt),
  ),
)
all_make Small = (
  λ s vs j c r. record { first = c.0; keeps = c.1; few = tt },
  (λ s vs p r. record { first = (kind.Name, p); keeps = keeps_plain s kind.Name refl; few = tt }, (λ s vs p m c q r. parens_read s m vs.1.0 r p c, tt)),
)
all_make Lit = (
  λ s vs p. ((kind.Number, p), keeps_plain s kind.Number refl),
  (λ s vs p. ((kind.Mark mark.True, p), keeps_plain s (kind.Mark mark.True) refl), (λ s vs p. ((kind.Mark mark.False, p), keeps_plain s (kind.Mark mark.False) refl), tt)),
)
all_make Pair = (λ s vs p m a q j b t r. let x = pair_read s m j vs.1.0 vs.1.1.1.0 r a b in (x.0, (omega arith, (x.1.0, (x.1.1, tt)))), tt)
all_make Call = (λ s vs p j c h. let x = c (subst IsDue (sym (keeps_plain s kind.Name refl).at) h) in (x.length, x.few), tt)
all_make Applied = (λ s vs m b p j a q h. applied_read s m j vs.0 vs.1.1.0 h b a, tt)
all_make Base = (λ s vs p q. keeps_then (keeps_plain s (kind.Mark mark.At) refl) (keeps_plain (after s (kind.Mark mark.At)) kind.Word refl), tt)
all_make Args = (
  λ s vs m e j c r z.
      let x = e r in
      let y = args_read s m j vs.0 vs.1.0 r z x c in
      record { at = y.0; outer = y.1; length = omega (arith, y.2, length-trees vs.1.0); few = (x.few, y.3) },
  tt,
)
all_make MoreExpr = (
  λ s vs p j c r.
      let at : (after s (kind.Mark mark.Comma)).side ≡ side.Right = (one_on s).at ∙ r in
      let x = c at in
      (more_read s j x.first.0 x.first.1 (ap (λ a. begins_entry a x.first.0) at) x.keeps, x.few),
  tt,
)
