use Rattle.std.proofs.Common.{◌≡◌, ◌+◌, ◌++◌, ◌∷◌, [], List, ℕ, Option, drop, ap, sym, ◌∙◌, subst, append_assoc, append-nil}
use Rattle.std.specs.Result.{OnOk}
use Rattle.lucy_word.proofs.Lists.{drop_next}
use Rattle.lucy_tree.specs.declared.expr.Expr.{Expr}
use Rattle.lucy_naming.specs.Phrases.{expr_phrase, expr_phrases}
use Rattle.lucy_naming.specs.Numbering.{bounds, all_bounds}
use Rattle.lucy_naming.proofs.PhraseLaws.{phrase_sampled, phrase_merged, phrase_followed, phrase_buffered}
use Rattle.lucy_naming.proofs.bounds.+bounds.Goals as goal

pub all_bounds-each-preserved : goal.all_bounds-each-preserved
all_bounds-each-preserved t c =
    let l = c.each in
    let further : List Expr → List (Option ℕ) = λ es. all_bounds (expr_phrases es) in
    let rest = further (drop (l.expr-index + 1) c.args.exprs.now) in
    let next = drop_next c.args.exprs.now l.expr-index c.expr-item.result c.each-test.true c.expr-item.is in
    ap (λ bs. bs ++ rest) c.in_ok-expr_bounds.ensures ∙ append_assoc l.list.items (bounds (expr_phrase c.expr-item.result)) rest
    ∙ ap (λ es. l.list.items ++ further es) (sym next) ∙ l.invariant

pub expr_bounds-returns-in-When : goal.expr_bounds-returns-in-When
expr_bounds-returns-in-When t c =
    let inner = c.in-When.operand in
    let is = ap (λ e. bounds (expr_phrase e)) c.in-When.is ∙ ap bounds (phrase_sampled c.in-When.flip inner c.in-When.word) ∙ append-nil (bounds (expr_phrase inner.value))
    ∙ ap (λ e. bounds (expr_phrase e)) (sym c.deref.ensures) in
    subst (λ bs. OnOk c.expr_bounds.result (c.expr_bounds.new.list.items ≡ c.args.list.now.items ++ bs)) (sym is) c.expr_bounds.ensures

pub expr_bounds-returns-in-Fby : goal.expr_bounds-returns-in-Fby
expr_bounds-returns-in-Fby t c =
    let inner = c.in-Fby.operand in
    let is = ap (λ e. bounds (expr_phrase e)) c.in-Fby.is ∙ ap bounds (phrase_followed c.in-Fby.first inner c.in-Fby.span) ∙ append-nil (bounds (expr_phrase inner.value))
    ∙ ap (λ e. bounds (expr_phrase e)) (sym c.deref-in-Fby.ensures) in
    subst (λ bs. OnOk c.expr_bounds-in-Fby.result (c.expr_bounds-in-Fby.new.list.items ≡ c.args.list.now.items ++ bs)) (sym is) c.expr_bounds-in-Fby.ensures

pub expr_bounds-returns-in_ok-push-in-Buffer : goal.expr_bounds-returns-in_ok-push-in-Buffer
expr_bounds-returns-in_ok-push-in-Buffer t c =
    let inner = c.in-Buffer.operand in
    let old = c.args.list.now.items in
    let is = ap (λ e. bounds (expr_phrase e)) c.in-Buffer.is ∙ ap bounds (phrase_buffered c.in-Buffer.most inner c.in-Buffer.span)
    ∙ ap (λ bs. c.in-Buffer.most ∷ bs) (append-nil (bounds (expr_phrase inner.value)) ∙ ap (λ e. bounds (expr_phrase e)) (sym c.deref-in-Buffer.ensures)) in
    let put = ap (λ bs. bs ++ bounds (expr_phrase c.deref-in-Buffer.result.now)) c.in_ok-push-in-Buffer.ensures.items ∙ append_assoc old (c.in-Buffer.most ∷ []) _ in
    subst (λ bs. OnOk c.expr_bounds-in-Buffer.result (c.expr_bounds-in-Buffer.new.list.items ≡ bs)) (put ∙ ap (λ bs. old ++ bs) (sym is)) c.expr_bounds-in-Buffer.ensures

pub expr_bounds-returns-in_ok-expr_bounds-in-Merge : goal.expr_bounds-returns-in_ok-expr_bounds-in-Merge
expr_bounds-returns-in_ok-expr_bounds-in-Merge t c =
    let m = c.in-Merge in
    let old = c.args.list.now.items in
    let of = λ (e : Expr). bounds (expr_phrase e) in
    let is = ap of m.is ∙ ap bounds (phrase_merged m.word m.one m.zero m.span) ∙ ap (λ bs. of m.one.value ++ bs) (append-nil (of m.zero.value)) in
    let put = ap (λ bs. bs ++ of m.zero.value) (c.in_ok-expr_bounds-in-Merge.ensures ∙ ap (λ e. old ++ of e) c.deref-in-Merge.ensures)
    ∙ append_assoc old (of m.one.value) (of m.zero.value) ∙ ap (λ bs. old ++ bs) (sym is) in
    subst (λ bs. OnOk c.expr_bounds-in-Merge-2.result (c.expr_bounds-in-Merge-2.new.list.items ≡ bs))
    (ap (λ e. c.expr_bounds-in-Merge.new.list.items ++ of e) c.deref-in-Merge-2.ensures ∙ put) c.expr_bounds-in-Merge-2.ensures
