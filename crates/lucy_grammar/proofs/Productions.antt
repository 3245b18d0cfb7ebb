-- The productions of expressions, as a descent cites them. NAME reads a part by its production, whose symbols are read one
-- after the other, and NAME_n refuses the part where the n-th of them is the first that doesn't fit.
use Rattle.std.proofs.Common.{ℕ, ◌≡◌, true, subst, List, [], ◌∷◌, Option, Some, None, refl, ap, ◌∙◌}
use Rattle.std.specs.Option.{option_map_or}
use Rattle.std.specs.Prelude.{unwrap_or}
use Rattle.lucy_host.specs.declared.op.Op.TheVariants as op
use Rattle.lucy_tree.specs.Tree.{operator, host, buffered, merged, call, literal, variable, no_more, more}
use Rattle.lucy_token.specs.declared.mark.Mark.TheVariants as mark
use Rattle.lucy_token.specs.declared.token.Kind.TheVariants as kind
use Rattle.lucy_token.specs.declared.token.Token.{Token}
use Rattle.lucy_token.specs.Tokens.{first}
use Rattle.lucy_grammar.specs.Symbols.{Val, Expr, Or, MoreAnd, And, MoreCmp, Cmp, Compared, CmpOp, Sum, MoreProd, SumOp, Prod, MoreSamp, ProdOp, Samp, Pre, Followed, Form, Buffered, Held, Other, Atom, Small, Lit, Pair, Call, Applied, Base, Args, MoreExpr}
use Rattle.lucy_grammar.specs.Grammar.{rules}
use Rattle.lucy_grammar.specs.Meanings.{token_name, token_word, two, literal_before, held_by, named, linked, token_bound, token_literal}
use Rattle.lucy_grammar.specs.Reading.{follows, begins, IsBoundAhead, Reads, Unfit, IsBegun, Begins, IsOther, ReadsOptional, UnfitOptional}
use Rattle.lucy_grammar.specs.Sets.{within}
use Rattle.lucy_grammar.specs.Kinds.{ahead, is_bound, bound}
use Rattle.lucy_grammar.proofs.Sets.{within_cases, within_either, within_subset}
use Rattle.lucy_grammar.proofs.Numbers.{IsNone, is_in, not_in}
use Rattle.lucy_grammar.proofs.Rules.{by_first}
use Rattle.lucy_grammar.proofs.Steps.{end, tok, tok_no, tok_bad, sub, sub_no, sub_bad, maybe, maybe_bad, rule, rule_no, sort_tok, sort_tok_no, led_by, led_sort, others}

pub choice : {ts m1 m2 m3 m4 m5 rest : List Token} {i t l : Token} {c : Val Expr} {a : Val Expr} {b : Val Expr} → Begins ts i (kind.Mark mark.If) m1 → Reads Expr m1 c m2 → Begins m2 t (kind.Mark mark.Then) m3 → Reads Expr m3 a m4 → Begins m4 l (kind.Mark mark.Else) m5 → Reads Expr m5 b rest → Reads Expr ts (operator op.If (more c (two a b)) i.span) rest
unfolding rules follows begins
choice h1 h2 h3 h4 h5 h6 = rule 0 refl (led_by 0 refl refl h1) (tok h1 (sub refl h2 (tok h3 (sub refl h4 (tok h5 (sub refl h6 (end _)))))))

pub choice_2 : {ts m1 rest : List Token} {i : Token} → Begins ts i (kind.Mark mark.If) m1 → Unfit Expr m1 rest → Unfit Expr ts rest
unfolding rules follows begins
choice_2 h1 u = rule_no 0 refl (led_by 0 refl refl h1) (tok_no h1 (sub_bad refl u))

pub more_and : {ts m1 rest : List Token} {o : Token} {e : Val And} → Begins ts o (kind.Mark mark.Either) m1 → Reads And m1 e rest → Reads MoreAnd ts (record { op = op.Or; span = o.span; right = e }) rest
unfolding rules follows begins
more_and {ts = ts} h1 h2 = rule 0 refl (others ts 0 refl tt) (tok h1 (sub refl h2 (end _)))

pub more_and_2 : {ts m1 rest : List Token} {o : Token} → Begins ts o (kind.Mark mark.Either) m1 → Unfit And m1 rest → Unfit MoreAnd ts rest
unfolding rules follows begins
more_and_2 {ts = ts} h1 u = rule_no 0 refl (others ts 0 refl tt) (tok_no h1 (sub_bad refl u))

pub more_cmp : {ts m1 rest : List Token} {o : Token} {e : Val Cmp} → Begins ts o (kind.Mark mark.Both) m1 → Reads Cmp m1 e rest → Reads MoreCmp ts (record { op = op.And; span = o.span; right = e }) rest
unfolding rules follows begins
more_cmp {ts = ts} h1 h2 = rule 0 refl (others ts 0 refl tt) (tok h1 (sub refl h2 (end _)))

pub more_cmp_2 : {ts m1 rest : List Token} {o : Token} → Begins ts o (kind.Mark mark.Both) m1 → Unfit Cmp m1 rest → Unfit MoreCmp ts rest
unfolding rules follows begins
more_cmp_2 {ts = ts} h1 u = rule_no 0 refl (others ts 0 refl tt) (tok_no h1 (sub_bad refl u))

pub cmp : {ts m1 rest : List Token} {e : Val Sum} (l : Option (Val Compared)) → Reads Sum ts e m1 → ReadsOptional Compared m1 l rest → Reads Cmp ts (option_map_or (linked e) l e) rest
unfolding rules follows begins
cmp {ts = ts} l h1 h2 = rule 0 refl (others ts 0 refl tt) (sub refl h1 (maybe l refl h2 (end _)))

pub cmp_1 : {ts rest : List Token} → Unfit Sum ts rest → Unfit Cmp ts rest
unfolding rules follows begins
cmp_1 {ts = ts} u = rule_no 0 refl (others ts 0 refl tt) (sub_bad refl u)

pub cmp_2 : {ts m1 rest : List Token} {e : Val Sum} → Reads Sum ts e m1 → UnfitOptional Compared m1 rest → Unfit Cmp ts rest
unfolding rules follows begins
cmp_2 {ts = ts} h1 u = rule_no 0 refl (others ts 0 refl tt) (sub_no refl h1 (maybe_bad refl u))

pub compare : {ts m1 rest : List Token} {o : Val CmpOp} {e : Val Sum} → Reads CmpOp ts o m1 → Reads Sum m1 e rest → Reads Compared ts (record { op = o.0; span = o.1; right = e }) rest
unfolding rules follows begins
compare {ts = ts} h1 h2 = rule 0 refl (others ts 0 refl tt) (sub refl h1 (sub refl h2 (end _)))

pub compare_2 : {ts m1 rest : List Token} {o : Val CmpOp} → Reads CmpOp ts o m1 → Unfit Sum m1 rest → Unfit Compared ts rest
unfolding rules follows begins
compare_2 {ts = ts} h1 u = rule_no 0 refl (others ts 0 refl tt) (sub_no refl h1 (sub_bad refl u))

pub more_prod : {ts m1 rest : List Token} {o : Val SumOp} {e : Val Prod} → Reads SumOp ts o m1 → Reads Prod m1 e rest → Reads MoreProd ts (record { op = o.0; span = o.1; right = e }) rest
unfolding rules follows begins
more_prod {ts = ts} h1 h2 = rule 0 refl (others ts 0 refl tt) (sub refl h1 (sub refl h2 (end _)))

pub more_prod_2 : {ts m1 rest : List Token} {o : Val SumOp} → Reads SumOp ts o m1 → Unfit Prod m1 rest → Unfit MoreProd ts rest
unfolding rules follows begins
more_prod_2 {ts = ts} h1 u = rule_no 0 refl (others ts 0 refl tt) (sub_no refl h1 (sub_bad refl u))

pub more_samp : {ts m1 rest : List Token} {o : Val ProdOp} {e : Val Samp} → Reads ProdOp ts o m1 → Reads Samp m1 e rest → Reads MoreSamp ts (record { op = o.0; span = o.1; right = e }) rest
unfolding rules follows begins
more_samp {ts = ts} h1 h2 = rule 0 refl (others ts 0 refl tt) (sub refl h1 (sub refl h2 (end _)))

pub more_samp_2 : {ts m1 rest : List Token} {o : Val ProdOp} → Reads ProdOp ts o m1 → Unfit Samp m1 rest → Unfit MoreSamp ts rest
unfolding rules follows begins
more_samp_2 {ts = ts} h1 u = rule_no 0 refl (others ts 0 refl tt) (sub_no refl h1 (sub_bad refl u))

pub negation : {ts m1 rest : List Token} {o : Token} {e : Val Pre} → Begins ts o (kind.Mark mark.Not) m1 → Reads Pre m1 e rest → Reads Form ts (operator op.Not (more e no_more) o.span) rest
unfolding rules follows begins
negation h1 h2 = rule 0 refl (led_by 0 refl refl h1) (tok h1 (sub refl h2 (end _)))

pub negation_2 : {ts m1 rest : List Token} {o : Token} → Begins ts o (kind.Mark mark.Not) m1 → Unfit Pre m1 rest → Unfit Form ts rest
unfolding rules follows begins
negation_2 h1 u = rule_no 0 refl (led_by 0 refl refl h1) (tok_no h1 (sub_bad refl u))

pub buffer : {ts m1 rest : List Token} {o : Token} {b : Val Buffered} → Begins ts o (kind.Mark mark.Buffer) m1 → Reads Buffered m1 b rest → Reads Form ts (buffered b.0 b.1 o.span) rest
unfolding rules follows begins
buffer h1 h2 = rule 1 refl (led_by 1 refl refl h1) (tok h1 (sub refl h2 (end _)))

pub buffer_2 : {ts m1 rest : List Token} {o : Token} → Begins ts o (kind.Mark mark.Buffer) m1 → Unfit Buffered m1 rest → Unfit Form ts rest
unfolding rules follows begins
buffer_2 h1 u = rule_no 1 refl (led_by 1 refl refl h1) (tok_no h1 (sub_bad refl u))

pub merge : {ts m1 m2 m3 rest : List Token} {o w : Token} {a : Val Small} {b : Val Small} → Begins ts o (kind.Mark mark.Merge) m1 → Begins m1 w kind.Word m2 → Reads Small m2 a m3 → Reads Small m3 b rest → Reads Form ts (merged (token_word w.what) a b o.span) rest
unfolding rules follows begins
merge h1 h2 h3 h4 = rule 2 refl (led_by 2 refl refl h1) (tok h1 (tok h2 (sub refl h3 (sub refl h4 (end _)))))

pub merge_2 : {ts m1 rest : List Token} {o : Token} → Begins ts o (kind.Mark mark.Merge) m1 → IsOther m1 kind.Word rest → Unfit Form ts rest
unfolding rules follows begins
merge_2 h1 u = rule_no 2 refl (led_by 2 refl refl h1) (tok_no h1 (tok_bad refl u))

pub merge_3 : {ts m1 m2 rest : List Token} {o w : Token} → Begins ts o (kind.Mark mark.Merge) m1 → Begins m1 w kind.Word m2 → Unfit Small m2 rest → Unfit Form ts rest
unfolding rules follows begins
merge_3 h1 h2 u = rule_no 2 refl (led_by 2 refl refl h1) (tok_no h1 (tok_no h2 (sub_bad refl u)))

pub merge_4 : {ts m1 m2 m3 rest : List Token} {o w : Token} {a : Val Small} → Begins ts o (kind.Mark mark.Merge) m1 → Begins m1 w kind.Word m2 → Reads Small m2 a m3 → Unfit Small m3 rest → Unfit Form ts rest
unfolding rules follows begins
merge_4 h1 h2 h3 u = rule_no 2 refl (led_by 2 refl refl h1) (tok_no h1 (tok_no h2 (sub_no refl h3 (sub_bad refl u))))

pub by_literal : {ts m1 rest : List Token} {l : Val Lit} (f : Option (Val Followed)) → IsBegun Lit ts → Reads Lit ts l m1 → ReadsOptional Followed m1 f rest → Reads Pre ts (literal_before l f) rest
unfolding rules follows begins
by_literal f w h1 h2 = rule 0 refl (by_first Pre 0 _ _ refl w) (sub refl h1 (maybe f refl h2 (end _)))

pub by_literal_1 : {ts rest : List Token} → IsBegun Lit ts → Unfit Lit ts rest → Unfit Pre ts rest
unfolding rules follows begins
by_literal_1 w u = rule_no 0 refl (by_first Pre 0 _ _ refl w) (sub_bad refl u)

pub by_literal_2 : {ts m1 rest : List Token} {l : Val Lit} → IsBegun Lit ts → Reads Lit ts l m1 → UnfitOptional Followed m1 rest → Unfit Pre ts rest
unfolding rules follows begins
by_literal_2 w h1 u = rule_no 0 refl (by_first Pre 0 _ _ refl w) (sub_no refl h1 (maybe_bad refl u))

pub follow : {ts m1 rest : List Token} {o : Token} {e : Val Pre} → Begins ts o (kind.Mark mark.Fby) m1 → Reads Pre m1 e rest → Reads Followed ts (o.span, e) rest
unfolding rules follows begins
follow {ts = ts} h1 h2 = rule 0 refl (others ts 0 refl tt) (tok h1 (sub refl h2 (end _)))

pub follow_2 : {ts m1 rest : List Token} {o : Token} → Begins ts o (kind.Mark mark.Fby) m1 → Unfit Pre m1 rest → Unfit Followed ts rest
unfolding rules follows begins
follow_2 {ts = ts} h1 u = rule_no 0 refl (others ts 0 refl tt) (tok_no h1 (sub_bad refl u))

pub name : {ts m1 rest : List Token} {n : Token} (a : Option (Val Applied)) → Begins ts n kind.Name m1 → ReadsOptional Applied m1 a rest → Reads Atom ts (named (token_name n) a) rest
unfolding rules follows begins
name a h1 h2 = rule 0 refl (led_by 0 refl refl h1) (tok h1 (maybe a refl h2 (end _)))

pub name_2 : {ts m1 rest : List Token} {n : Token} → Begins ts n kind.Name m1 → UnfitOptional Applied m1 rest → Unfit Atom ts rest
unfolding rules follows begins
name_2 h1 u = rule_no 0 refl (led_by 0 refl refl h1) (tok_no h1 (maybe_bad refl u))

pub hosted : {ts m1 m2 rest : List Token} {h n : Token} {a : Val Pair} → Begins ts h (kind.Mark mark.Host) m1 → Begins m1 n kind.Name m2 → Reads Pair m2 a rest → Reads Atom ts (host (token_name n) a) rest
unfolding rules follows begins
hosted h1 h2 h3 = rule 1 refl (led_by 1 refl refl h1) (tok h1 (tok h2 (sub refl h3 (end _))))

pub hosted_2 : {ts m1 rest : List Token} {h : Token} → Begins ts h (kind.Mark mark.Host) m1 → IsOther m1 kind.Name rest → Unfit Atom ts rest
unfolding rules follows begins
hosted_2 h1 u = rule_no 1 refl (led_by 1 refl refl h1) (tok_no h1 (tok_bad refl u))

pub hosted_3 : {ts m1 m2 rest : List Token} {h n : Token} → Begins ts h (kind.Mark mark.Host) m1 → Begins m1 n kind.Name m2 → Unfit Pair m2 rest → Unfit Atom ts rest
unfolding rules follows begins
hosted_3 h1 h2 u = rule_no 1 refl (led_by 1 refl refl h1) (tok_no h1 (tok_no h2 (sub_bad refl u)))

pub pair : {ts m1 m2 m3 m4 rest : List Token} {o m s : Token} {a : Val Expr} {b : Val Expr} → Begins ts o (kind.Mark mark.Open) m1 → Reads Expr m1 a m2 → Begins m2 m (kind.Mark mark.Comma) m3 → Reads Expr m3 b m4 → Begins m4 s (kind.Mark mark.Close) rest → Reads Pair ts (two a b) rest
unfolding rules follows begins
pair {ts = ts} h1 h2 h3 h4 h5 = rule 0 refl (others ts 0 refl tt) (tok h1 (sub refl h2 (tok h3 (sub refl h4 (tok h5 (end _))))))

pub pair_1 : {ts rest : List Token} → IsOther ts (kind.Mark mark.Open) rest → Unfit Pair ts rest
unfolding rules follows begins
pair_1 {ts = ts} u = rule_no 0 refl (others ts 0 refl tt) (tok_bad refl u)

pub pair_2 : {ts m1 rest : List Token} {o : Token} → Begins ts o (kind.Mark mark.Open) m1 → Unfit Expr m1 rest → Unfit Pair ts rest
unfolding rules follows begins
pair_2 {ts = ts} h1 u = rule_no 0 refl (others ts 0 refl tt) (tok_no h1 (sub_bad refl u))

pub pair_3 : {ts m1 m2 rest : List Token} {o : Token} {a : Val Expr} → Begins ts o (kind.Mark mark.Open) m1 → Reads Expr m1 a m2 → IsOther m2 (kind.Mark mark.Comma) rest → Unfit Pair ts rest
unfolding rules follows begins
pair_3 {ts = ts} h1 h2 u = rule_no 0 refl (others ts 0 refl tt) (tok_no h1 (sub_no refl h2 (tok_bad refl u)))

pub pair_4 : {ts m1 m2 m3 rest : List Token} {o m : Token} {a : Val Expr} → Begins ts o (kind.Mark mark.Open) m1 → Reads Expr m1 a m2 → Begins m2 m (kind.Mark mark.Comma) m3 → Unfit Expr m3 rest → Unfit Pair ts rest
unfolding rules follows begins
pair_4 {ts = ts} h1 h2 h3 u = rule_no 0 refl (others ts 0 refl tt) (tok_no h1 (sub_no refl h2 (tok_no h3 (sub_bad refl u))))

pub pair_5 : {ts m1 m2 m3 m4 rest : List Token} {o m : Token} {a : Val Expr} {b : Val Expr} → Begins ts o (kind.Mark mark.Open) m1 → Reads Expr m1 a m2 → Begins m2 m (kind.Mark mark.Comma) m3 → Reads Expr m3 b m4 → IsOther m4 (kind.Mark mark.Close) rest → Unfit Pair ts rest
unfolding rules follows begins
pair_5 {ts = ts} h1 h2 h3 h4 u = rule_no 0 refl (others ts 0 refl tt) (tok_no h1 (sub_no refl h2 (tok_no h3 (sub_no refl h4 (tok_bad refl u)))))

pub parens : {ts m1 m2 rest : List Token} {o s : Token} {e : Val Expr} → Begins ts o (kind.Mark mark.Open) m1 → Reads Expr m1 e m2 → Begins m2 s (kind.Mark mark.Close) rest → Reads Atom ts e rest
unfolding rules follows begins
parens h1 h2 h3 = rule 2 refl (led_by 2 refl refl h1) (tok h1 (sub refl h2 (tok h3 (end _))))

pub parens_1 : {ts rest : List Token} → IsNone (first ts) (kind.Name ∷ kind.Mark mark.Host ∷ []) → IsOther ts (kind.Mark mark.Open) rest → Unfit Atom ts rest
unfolding rules follows begins
parens_1 {ts = ts} w u = rule_no 2 refl (others ts 2 refl (not_in ts (kind.Name ∷ []) (w.0, tt), (not_in ts (kind.Mark mark.Host ∷ []) (w.1.0, tt), tt))) (tok_bad refl u)

pub parens_2 : {ts m1 rest : List Token} {o : Token} → Begins ts o (kind.Mark mark.Open) m1 → Unfit Expr m1 rest → Unfit Atom ts rest
unfolding rules follows begins
parens_2 h1 u = rule_no 2 refl (led_by 2 refl refl h1) (tok_no h1 (sub_bad refl u))

pub parens_3 : {ts m1 m2 rest : List Token} {o : Token} {e : Val Expr} → Begins ts o (kind.Mark mark.Open) m1 → Reads Expr m1 e m2 → IsOther m2 (kind.Mark mark.Close) rest → Unfit Atom ts rest
unfolding rules follows begins
parens_3 h1 h2 u = rule_no 2 refl (led_by 2 refl refl h1) (tok_no h1 (sub_no refl h2 (tok_bad refl u)))

pub small_literal : {ts rest : List Token} {l : Val Lit} → IsBegun Lit ts → Reads Lit ts l rest → Reads Small ts (literal l.0 l.1) rest
unfolding rules follows begins
small_literal w h1 = rule 0 refl (by_first Small 0 _ _ refl w) (sub refl h1 (end _))

pub small_literal_1 : {ts rest : List Token} → IsBegun Lit ts → Unfit Lit ts rest → Unfit Small ts rest
unfolding rules follows begins
small_literal_1 w u = rule_no 0 refl (by_first Small 0 _ _ refl w) (sub_bad refl u)

pub small_name : {ts rest : List Token} {n : Token} → Begins ts n kind.Name rest → Reads Small ts (variable (token_name n)) rest
unfolding rules follows begins
small_name h1 = rule 1 refl (led_by 1 refl refl h1) (tok h1 (end _))

pub small_parens : {ts m1 m2 rest : List Token} {o s : Token} {e : Val Expr} → Begins ts o (kind.Mark mark.Open) m1 → Reads Expr m1 e m2 → Begins m2 s (kind.Mark mark.Close) rest → Reads Small ts e rest
unfolding rules follows begins
small_parens h1 h2 h3 = rule 2 refl (led_by 2 refl refl h1) (tok h1 (sub refl h2 (tok h3 (end _))))

pub small_parens_1 : {ts rest : List Token} → (IsBegun Lit ts → ⊥) × (first ts ≡ kind.Name → ⊥) → IsOther ts (kind.Mark mark.Open) rest → Unfit Small ts rest
unfolding rules follows begins
small_parens_1 {ts = ts} w u = rule_no 2 refl (others ts 2 refl (w.0, (not_in ts (kind.Name ∷ []) (w.1, tt), tt))) (tok_bad refl u)

pub small_parens_2 : {ts m1 rest : List Token} {o : Token} → Begins ts o (kind.Mark mark.Open) m1 → Unfit Expr m1 rest → Unfit Small ts rest
unfolding rules follows begins
small_parens_2 h1 u = rule_no 2 refl (led_by 2 refl refl h1) (tok_no h1 (sub_bad refl u))

pub small_parens_3 : {ts m1 m2 rest : List Token} {o : Token} {e : Val Expr} → Begins ts o (kind.Mark mark.Open) m1 → Reads Expr m1 e m2 → IsOther m2 (kind.Mark mark.Close) rest → Unfit Small ts rest
unfolding rules follows begins
small_parens_3 h1 h2 u = rule_no 2 refl (led_by 2 refl refl h1) (tok_no h1 (sub_no refl h2 (tok_bad refl u)))

pub called : {ts m1 rest : List Token} {n : Token} {a : Val Applied} → Begins ts n kind.Name m1 → Reads Applied m1 a rest → Reads Call ts (call (token_name n) a.0 a.1) rest
unfolding rules follows begins
called {ts = ts} h1 h2 = rule 0 refl (others ts 0 refl tt) (tok h1 (sub refl h2 (end _)))

pub called_1 : {ts rest : List Token} → IsOther ts kind.Name rest → Unfit Call ts rest
unfolding rules follows begins
called_1 {ts = ts} u = rule_no 0 refl (others ts 0 refl tt) (tok_bad refl u)

pub called_2 : {ts m1 rest : List Token} {n : Token} → Begins ts n kind.Name m1 → Unfit Applied m1 rest → Unfit Call ts rest
unfolding rules follows begins
called_2 {ts = ts} h1 u = rule_no 0 refl (others ts 0 refl tt) (tok_no h1 (sub_bad refl u))

pub applied : {ts m1 m2 m3 rest : List Token} {o s : Token} (w : Option (Val Base)) (a : Option (Val Args)) → ReadsOptional Base ts w m1 → Begins m1 o (kind.Mark mark.Open) m2 → ReadsOptional Args m2 a m3 → Begins m3 s (kind.Mark mark.Close) rest → Reads Applied ts (w, unwrap_or a no_more) rest
unfolding rules follows begins
applied {ts = ts} w a h1 h2 h3 h4 = rule 0 refl (others ts 0 refl tt) (maybe w refl h1 (tok h2 (maybe a refl h3 (tok h4 (end _)))))

pub applied_1 : {ts rest : List Token} → UnfitOptional Base ts rest → Unfit Applied ts rest
unfolding rules follows begins
applied_1 {ts = ts} u = rule_no 0 refl (others ts 0 refl tt) (maybe_bad refl u)

pub more_expr : {ts m1 rest : List Token} {m : Token} {e : Val Expr} → Begins ts m (kind.Mark mark.Comma) m1 → Reads Expr m1 e rest → Reads MoreExpr ts e rest
unfolding rules follows begins
more_expr {ts = ts} h1 h2 = rule 0 refl (others ts 0 refl tt) (tok h1 (sub refl h2 (end _)))

pub more_expr_2 : {ts m1 rest : List Token} {m : Token} → Begins ts m (kind.Mark mark.Comma) m1 → Unfit Expr m1 rest → Unfit MoreExpr ts rest
unfolding rules follows begins
more_expr_2 {ts = ts} h1 u = rule_no 0 refl (others ts 0 refl tt) (tok_no h1 (sub_bad refl u))

-- no choice begins, so it is the other production
pub expr_or : {ts rest : List Token} {e : Val Or} → (first ts ≡ kind.Mark mark.If → ⊥) → Reads Or ts e rest → Reads Expr ts e rest
unfolding rules follows begins
expr_or {ts = ts} w h1 = rule 1 refl (others ts 1 refl (not_in ts (kind.Mark mark.If ∷ []) (w, tt), tt)) (sub refl h1 (end _))

pub expr_or_1 : {ts rest : List Token} → (first ts ≡ kind.Mark mark.If → ⊥) → Unfit Or ts rest → Unfit Expr ts rest
unfolding rules follows begins
expr_or_1 {ts = ts} w u = rule_no 1 refl (others ts 1 refl (not_in ts (kind.Mark mark.If ∷ []) (w, tt), tt)) (sub_bad refl u)

-- no literal is there
pub by_form : {ts rest : List Token} {e : Val Form} → (IsBegun Lit ts → ⊥) → Reads Form ts e rest → Reads Pre ts e rest
unfolding rules follows begins
by_form {ts = ts} w h1 = rule 1 refl (others ts 1 refl (w, tt)) (sub refl h1 (end _))

pub by_form_1 : {ts rest : List Token} → (IsBegun Lit ts → ⊥) → Unfit Form ts rest → Unfit Pre ts rest
unfolding rules follows begins
by_form_1 {ts = ts} w u = rule_no 1 refl (others ts 1 refl (w, tt)) (sub_bad refl u)

-- no word before an operand is there
abbrev pub IsBare : List Token → Type 0
IsBare ts = IsNone (first ts) (kind.Mark mark.Not ∷ kind.Mark mark.Buffer ∷ kind.Mark mark.Merge ∷ [])

pub bare : {ts rest : List Token} {e : Val Atom} → IsBare ts → Reads Atom ts e rest → Reads Form ts e rest
unfolding rules follows begins
bare {ts = ts} w h1 = rule 3 refl (others ts 3 refl (not_in ts (kind.Mark mark.Not ∷ []) (w.0, tt), (not_in ts (kind.Mark mark.Buffer ∷ []) (w.1.0, tt), (not_in ts (kind.Mark mark.Merge ∷ []) (w.1.1.0, tt), tt)))) (sub refl h1 (end _))

pub bare_1 : {ts rest : List Token} → IsBare ts → Unfit Atom ts rest → Unfit Form ts rest
unfolding rules follows begins
bare_1 {ts = ts} w u = rule_no 3 refl (others ts 3 refl (not_in ts (kind.Mark mark.Not ∷ []) (w.0, tt), (not_in ts (kind.Mark mark.Buffer ∷ []) (w.1.0, tt), (not_in ts (kind.Mark mark.Merge ∷ []) (w.1.1.0, tt), tt)))) (sub_bad refl u)

-- behind `buffer`: a number that may be a bound, another literal, or neither
pub held_bound : {ts m1 rest : List Token} {n : Token} (h : Option (Val Held)) → ts ≡ n ∷ m1 → is_bound n.what ≡ true → ReadsOptional Held m1 h rest → Reads Buffered ts (held_by (token_bound n.what) (token_literal n.what, n.span) h) rest
unfolding rules follows begins
held_bound h e f r = rule 0 refl (led_sort bound 0 refl refl e f) (sort_tok bound e f (maybe h refl r (end _)))

pub held_bound_2 : {ts m1 rest : List Token} {n : Token} → ts ≡ n ∷ m1 → is_bound n.what ≡ true → UnfitOptional Held m1 rest → Unfit Buffered ts rest
unfolding rules follows begins
held_bound_2 e f u = rule_no 0 refl (led_sort bound 0 refl refl e f) (sort_tok_no bound e f (maybe_bad refl u))

-- a literal that is no bound begins here
pub other_begun : (ts : List Token) → IsBegun Lit ts → (IsBoundAhead ts → ⊥) → IsBegun Other ts
unfolding begins
other_begun ts w n =
    within_cases 2 (ahead ts) (43 ∷ 20 ∷ 21 ∷ []) _ w (λ e. subst (λ (k : ℕ). within k (2 ∷ 20 ∷ 21 ∷ []) ≡ true) e refl)
    (λ v. within_either (43 ∷ []) (20 ∷ 21 ∷ []) (ahead ts) _ v (λ u. absurd (n u)) (λ u. within_subset (20 ∷ 21 ∷ []) (2 ∷ 20 ∷ 21 ∷ []) (ahead ts) refl u))

pub held_other : {ts m1 rest : List Token} {l : Val Other} (f : Option (Val Followed)) → IsBegun Other ts → Reads Other ts l m1 → ReadsOptional Followed m1 f rest → Reads Buffered ts (None, literal_before l f) rest
unfolding rules follows begins
held_other f w h1 h2 = rule 1 refl (by_first Buffered 1 _ _ refl w) (sub refl h1 (maybe f refl h2 (end _)))

pub held_other_1 : {ts rest : List Token} → IsBegun Other ts → Unfit Other ts rest → Unfit Buffered ts rest
unfolding rules follows begins
held_other_1 w u = rule_no 1 refl (by_first Buffered 1 _ _ refl w) (sub_bad refl u)

pub held_other_2 : {ts m1 rest : List Token} {l : Val Other} → IsBegun Other ts → Reads Other ts l m1 → UnfitOptional Followed m1 rest → Unfit Buffered ts rest
unfolding rules follows begins
held_other_2 w h1 u = rule_no 1 refl (by_first Buffered 1 _ _ refl w) (sub_no refl h1 (maybe_bad refl u))

pub held_form : {ts rest : List Token} {e : Val Form} → (IsBegun Lit ts → ⊥) → Reads Form ts e rest → Reads Buffered ts (None, e) rest
unfolding rules follows begins
held_form {ts = ts} w h1 =
    rule 2 refl (others ts 2 refl (λ v. w (within_subset (43 ∷ []) (2 ∷ 43 ∷ 20 ∷ 21 ∷ []) (ahead ts) refl v), (λ v. w (within_subset (2 ∷ 20 ∷ 21 ∷ []) (2 ∷ 43 ∷ 20 ∷ 21 ∷ []) (ahead ts) refl v), tt))) (sub refl h1 (end _))

pub held_form_1 : {ts rest : List Token} → (IsBegun Lit ts → ⊥) → Unfit Form ts rest → Unfit Buffered ts rest
unfolding rules follows begins
held_form_1 {ts = ts} w u =
    rule_no 2 refl (others ts 2 refl (λ v. w (within_subset (43 ∷ []) (2 ∷ 43 ∷ 20 ∷ 21 ∷ []) (ahead ts) refl v), (λ v. w (within_subset (2 ∷ 20 ∷ 21 ∷ []) (2 ∷ 43 ∷ 20 ∷ 21 ∷ []) (ahead ts) refl v), tt))) (sub_bad refl u)

-- what may stand behind a bound: an expression in parentheses, or what may stand behind any literal
pub held_parens : {ts m1 m2 rest : List Token} {o c : Token} {e : Val Expr} → Begins ts o (kind.Mark mark.Open) m1 → Reads Expr m1 e m2 → Begins m2 c (kind.Mark mark.Close) rest → ReadsOptional Held ts (Some (None, e)) rest
unfolding rules follows begins
held_parens {ts = ts} h1 h2 h3 = (is_in ts (begins Held) (ap first h1.0 ∙ h1.1) refl, rule 1 refl (led_by 1 refl refl h1) (tok h1 (sub refl h2 (tok h3 (end _)))))

pub held_parens_2 : {ts m1 rest : List Token} {o : Token} → Begins ts o (kind.Mark mark.Open) m1 → Unfit Expr m1 rest → UnfitOptional Held ts rest
unfolding rules follows begins
held_parens_2 {ts = ts} h1 u = (is_in ts (begins Held) (ap first h1.0 ∙ h1.1) refl, rule_no 1 refl (led_by 1 refl refl h1) (tok_no h1 (sub_bad refl u)))

pub held_parens_3 : {ts m1 m2 rest : List Token} {o : Token} {e : Val Expr} → Begins ts o (kind.Mark mark.Open) m1 → Reads Expr m1 e m2 → IsOther m2 (kind.Mark mark.Close) rest → UnfitOptional Held ts rest
unfolding rules follows begins
held_parens_3 {ts = ts} h1 h2 u = (is_in ts (begins Held) (ap first h1.0 ∙ h1.1) refl, rule_no 1 refl (led_by 1 refl refl h1) (tok_no h1 (sub_no refl h2 (tok_bad refl u))))

abbrev pub held_of : Option (Val Followed) → Option (Val Held)
held_of None = None
held_of (Some (fby, e)) = Some (Some fby, e)

pub held_followed : (ts rest : List Token) (f : Option (Val Followed)) → (first ts ≡ kind.Mark mark.Open → ⊥) → ReadsOptional Followed ts f rest → ReadsOptional Held ts (held_of f) rest
unfolding rules follows begins
held_followed ts rest None n r = (λ w. within_either (12 ∷ []) (24 ∷ []) (ahead ts) ⊥ w r.0 (not_in ts (kind.Mark mark.Open ∷ []) (n, tt)), r.1)
held_followed ts rest (Some (fby, e)) n r = (within_subset (12 ∷ []) (12 ∷ 24 ∷ []) (ahead ts) refl r.0, rule 0 refl (by_first Held 0 _ _ refl r.0) (sub refl r.1 (end _)))

pub held_followed_1 : {ts rest : List Token} → UnfitOptional Followed ts rest → UnfitOptional Held ts rest
unfolding rules follows begins
held_followed_1 {ts = ts} u = (within_subset (12 ∷ []) (12 ∷ 24 ∷ []) (ahead ts) refl u.0, rule_no 0 refl (by_first Held 0 _ _ refl u.0) (sub_bad refl u.1))

-- and then the tree is that of the literal
pub held_before : (n : ℕ) (l : Val Lit) (f : Option (Val Followed)) → held_by n l (held_of f) ≡ (None, literal_before l f)
held_before n l None = refl
held_before n l (Some (fby, e)) = refl

-- `fby` behind a literal, or not
pub fby_follows : {ts more rest : List Token} {o : Token} {e : Val Pre} → Begins ts o (kind.Mark mark.Fby) more → Reads Pre more e rest → ReadsOptional Followed ts (Some (o.span, e)) rest
unfolding begins
fby_follows {ts = ts} h2 h3 = (is_in ts (begins Followed) (ap first h2.0 ∙ h2.1) refl, follow h2 h3)

pub fby_follows_2 : {ts more rest : List Token} {o : Token} → Begins ts o (kind.Mark mark.Fby) more → Unfit Pre more rest → UnfitOptional Followed ts rest
unfolding begins
fby_follows_2 {ts = ts} h2 u = (is_in ts (begins Followed) (ap first h2.0 ∙ h2.1) refl, follow_2 h2 u)

pub no_fby : {rest : List Token} → (first rest ≡ kind.Mark mark.Fby → ⊥) → ReadsOptional Followed rest None rest
unfolding begins
no_fby {rest = rest} n = (not_in rest (kind.Mark mark.Fby ∷ []) (n, tt), refl)
