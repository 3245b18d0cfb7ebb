-- The forms of single expressions.
use Rattle.std.proofs.Common.{◌≡◌, ℕ, Bool, Box, Global, Option, ap, sym, ◌∙◌, subst}
use Rattle.lucy_word.specs.Bits.{Bits}
use Rattle.lucy_host.specs.declared.op.Op as ops
use Rattle.lucy_tree.specs.declared.span.Span.{Span}
use Rattle.lucy_tree.specs.declared.span.Name.{Name}
use Rattle.lucy_tree.specs.declared.expr.Lit as lits
use Rattle.lucy_tree.specs.declared.expr.Expr.{Expr}
use Rattle.lucy_tree.specs.declared.expr.Expr.TheOpen as open_
use Rattle.lucy_tree.specs.declared.expr.Expr.TheViews.{out-Expr, roll-Expr, roll-out-Expr}
use Rattle.lucy_tree.specs.declared.expr.Exprs.{Exprs}
use Rattle.lucy_tree.specs.declared.expr.Expr.TheVariants.{Lit, Var, Op, Host, When, Merge, Fby, Buffer, Call, rolls-Lit, rolls-Var, rolls-Op, rolls-Host, rolls-When, rolls-Merge, rolls-Fby, rolls-Buffer, rolls-Call}
use Rattle.lucy_tree.specs.View.{expr_list}
use Rattle.lucy_tree.proofs.Trees.{tree_literal, tree_variable, tree_sampled, tree_merged, tree_followed, tree_buffered, tree_call, tree_operator, tree_host}
use Rattle.lucy_naming.specs.Phrases as phrases
use Rattle.lucy_naming.specs.Phrases.{headed, none, and, phrase_of, expr_phrase, expr_phrases, span_of}
use Rattle.lucy_naming.specs.Drafts.{IsPlain}

pub phrase_literal : (l : lits.Lit) (s : Span) → expr_phrase (Lit l s) ≡ headed (phrases.Literal l) s none
phrase_literal l s = ap phrase_of (tree_literal l s)

pub phrase_variable : (n : Name) → expr_phrase (Var n) ≡ phrases.name n
phrase_variable n = ap phrase_of (tree_variable n)

pub phrase_sampled : (flip : Bool) (inner : Box Expr Global) (w : Bits) → expr_phrase (When flip inner w) ≡ headed (phrases.Sampled flip w) (span_of (expr_phrase inner.value)) (and (expr_phrase inner.value) none)
phrase_sampled flip inner w = ap phrase_of (tree_sampled flip inner w)

pub phrase_merged : (w : Bits) (a b : Box Expr Global) (s : Span) → expr_phrase (Merge w a b s) ≡ headed (phrases.Merged w) s (and (expr_phrase a.value) (and (expr_phrase b.value) none))
phrase_merged w a b s = ap phrase_of (tree_merged w a b s)

pub phrase_followed : (l : lits.Lit) (e : Box Expr Global) (s : Span) → expr_phrase (Fby l e s) ≡ headed (phrases.Followed l) s (and (expr_phrase e.value) none)
phrase_followed l e s = ap phrase_of (tree_followed l e s)

pub phrase_buffered : (most : Option ℕ) (e : Box Expr Global) (s : Span) → expr_phrase (Buffer most e s) ≡ headed (phrases.Buffered most) s (and (expr_phrase e.value) none)
phrase_buffered most e s = ap phrase_of (tree_buffered most e s)

pub phrase_called : (n : Name) (at : Option Bits) (args : Exprs) → expr_phrase (Call n at args) ≡ headed (phrases.Called n at) n.span (expr_phrases (expr_list args))
phrase_called n at args = ap phrase_of (tree_call n at args)

pub phrase_operated : (o : ops.Op) (args : Exprs) (s : Span) → expr_phrase (Op o args s) ≡ headed (phrases.Applied o) s (expr_phrases (expr_list args))
phrase_operated o args s = ap phrase_of (tree_operator o args s)

pub phrase_hosted : (n : Name) (args : Exprs) → expr_phrase (Host n args) ≡ headed (phrases.Host n) n.span (expr_phrases (expr_list args))
phrase_hosted n args = ap phrase_of (tree_host n args)

-- what is neither a name nor a call is a form that is no call
plain_open : (x : open_.Expr-F Expr Exprs) {e : Expr} → roll-Expr x ≡ e → ((n : Name) → e ≡ Var n → ⊥) → ((n : Name) (at : Option Bits) (args : Exprs) → e ≡ Call n at args → ⊥) → IsPlain (expr_phrase e)
plain_open (open_.Lit l s) is no_name no_call = subst IsPlain (sym (ap expr_phrase (sym is ∙ rolls-Lit l s) ∙ phrase_literal l s)) tt
plain_open (open_.Var n) is no_name no_call = absurd (no_name n (sym is ∙ rolls-Var n))
plain_open (open_.Op o args s) is no_name no_call = subst IsPlain (sym (ap expr_phrase (sym is ∙ rolls-Op o args s) ∙ phrase_operated o args s)) tt
plain_open (open_.Host n args) is no_name no_call = subst IsPlain (sym (ap expr_phrase (sym is ∙ rolls-Host n args) ∙ phrase_hosted n args)) tt
plain_open (open_.When flip inner w) is no_name no_call = subst IsPlain (sym (ap expr_phrase (sym is ∙ rolls-When flip inner w) ∙ phrase_sampled flip inner w)) tt
plain_open (open_.Merge w a b s) is no_name no_call = subst IsPlain (sym (ap expr_phrase (sym is ∙ rolls-Merge w a b s) ∙ phrase_merged w a b s)) tt
plain_open (open_.Fby l inner s) is no_name no_call = subst IsPlain (sym (ap expr_phrase (sym is ∙ rolls-Fby l inner s) ∙ phrase_followed l inner s)) tt
plain_open (open_.Buffer most inner s) is no_name no_call = subst IsPlain (sym (ap expr_phrase (sym is ∙ rolls-Buffer most inner s) ∙ phrase_buffered most inner s)) tt
plain_open (open_.Call n at args) is no_name no_call = absurd (no_call n at args (sym is ∙ rolls-Call n at args))

pub plain_else : (e : Expr) → ((n : Name) → e ≡ Var n → ⊥) → ((n : Name) (at : Option Bits) (args : Exprs) → e ≡ Call n at args → ⊥) → IsPlain (expr_phrase e)
plain_else e = plain_open (out-Expr e) (roll-out-Expr e)
