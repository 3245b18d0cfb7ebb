use Rattle.std.proofs.Common.{ℕ, Option, arith, drop, ◌≡◌, ◌+◌, [], ◌∷◌, sym, ap, ◌∙◌}
use Rattle.std.proofs.lemmas.List.{drop_all, drop_more}
use Rattle.lucy_token.specs.declared.mark.Mark.TheVariants as mark
use Rattle.lucy_tree.specs.Tree.{Tree, buffered}
use Rattle.lucy_tree.specs.View.{tree_of, all_trees, expr_list}
use Rattle.lucy_tree.proofs.Trees.{tree_host, tree_call, tree_sampled, tree_merged, tree_followed}
use Rattle.lucy_grammar.specs.PrintTokens.{spaced_text, name_token, word_token, commas, printed, all_printed}
use Rattle.lucy_grammar.specs.Spans.{nowhere}
use Rattle.lucy_grammar.proofs.PrintedText.{listed, text_parens, text_commas, tight_all, text_one, text_two, text_three, text_hosted, text_called, text_sampled, text_merged, text_followed, text_buffered, text_bounded}
use Rattle.lucy_grammar.proofs.Operands.{only_one, only_two, first_three}
use Rattle.lucy_grammar.proofs.Sheets.{behind, adds_as, ended, nothing, led, between, fronted}
use Rattle.lucy_grammar.proofs.expr.+printed.Goals as goal

pub enclosed-returns : goal.enclosed-returns
enclosed-returns t c = adds_as (behind c.mark.ensures (behind c.expr.ensures c.mark-2.ensures)) (sym (text_parens (printed (tree_of c.args.inner.now))))

pub enclosed_all-returns : goal.enclosed_all-returns
enclosed_all-returns t c = adds_as (behind c.mark.ensures (behind c.separated.ensures c.mark-2.ensures)) (sym (text_parens (commas (all_printed (all_trees c.args.list.now)))))

pub expr-returns-in-When : goal.expr-returns-in-When
expr-returns-in-When t c = rw (c.in-When.is, tree_sampled _ _ _, sym c.deref.ensures) c.sampled.ensures

pub sampled-returns : goal.sampled-returns
sampled-returns t c =
    rw (text_sampled _ _ _, sym c.when_mark.ensures) (behind c.operand.ensures (between c.when_mark.result c.between.ensures (ended c.word.ensures)))

pub expr-returns-in-Merge : goal.expr-returns-in-Merge
expr-returns-in-Merge t c =
    rw (c.in-Merge.is, tree_merged _ _ _ _, text_merged _ _ _ _, sym c.deref-in-Merge.ensures, sym c.deref-in-Merge-2.ensures)
    (fronted mark.Merge (spaced_text (word_token c.in-Merge.word)) c.merging.ensures (behind c.operand.ensures (behind c.blank.ensures (ended c.operand-in-Merge.ensures))))

pub expr-returns-in-Fby : goal.expr-returns-in-Fby
expr-returns-in-Fby t c = rw (c.in-Fby.is, tree_followed _ _ _, sym c.deref-in-Fby.ensures) c.followed.ensures

pub followed-returns : goal.followed-returns
followed-returns t c =
    adds_as (behind c.lit.ensures (between mark.Fby c.between.ensures (ended c.operand.ensures))) (sym (text_followed c.args.first (tree_of c.args.later.now) nowhere))

pub expr-returns-in-Host : goal.expr-returns-in-Host
expr-returns-in-Host t c =
    rw (c.in-Host.is, tree_host _ _, text_hosted _ _, sym c.list-in-Host.ensures) (fronted mark.Host (spaced_text (name_token c.in-Host.name)) c.hosted.ensures (ended c.enclosed_all.ensures))

pub expr-returns-in-Call : goal.expr-returns-in-Call
expr-returns-in-Call t c = rw (c.in-Call.is, tree_call _ _ _, sym (text_called c.in-Call.node c.in-Call.at (all_trees (expr_list c.in-Call.args))), sym c.list-in-Call.ensures) (behind c.called.ensures c.enclosed_all-in-Call.ensures)

pub buffered-returns-in-None : goal.buffered-returns-in-None
buffered-returns-in-None t c =
    let e : Tree = tree_of c.args.inner.now in
    let same = ap (λ (m : Option ℕ). spaced_text (printed (buffered m e nowhere))) c.in-None.is ∙ text_buffered e nowhere in
    adds_as (led mark.Buffer c.leading.ensures (ended c.operand.ensures)) (sym same)

pub buffered-returns-in-Some : goal.buffered-returns-in-Some
buffered-returns-in-Some t c =
    let e : Tree = tree_of c.args.inner.now in
    let same = ap (λ (m : Option ℕ). spaced_text (printed (buffered m e nowhere))) c.in-Some.is ∙ text_bounded c.in-Some.most e nowhere in
    adds_as (led mark.Buffer c.leading.ensures (behind c.bound.ensures (behind c.blank.ensures (ended c.enclosed.ensures)))) (sym same)

pub operated-returns-in-len1 : goal.operated-returns-in-len1
operated-returns-in-len1 t c =
    rw (only_one _ _ c.in-len1.len_at_least c.in-len1.len_below c.a-item.is, text_one c.args.op (tree_of c.a-item.result) nowhere, sym c.op_mark-in-len1.ensures)
    (led c.op_mark-in-len1.result c.leading.ensures (ended c.operand.ensures))

pub operated-returns-in-len2 : goal.operated-returns-in-len2
operated-returns-in-len2 t c =
    rw (only_two _ _ _ c.in-len2.len_at_least c.in-len2.len_below c.a-item-then-list-lt3.is c.b-item.is, text_two c.args.op (tree_of c.a-item-then-list-lt3.result) (tree_of c.b-item.result) nowhere, sym c.op_mark-in-len2.ensures)
    (behind c.operand-in-len2.ensures (between c.op_mark-in-len2.result c.between.ensures (ended c.operand-in-len2-2.ensures)))

pub operated-returns-in-len3-up : goal.operated-returns-in-len3-up
operated-returns-in-len3-up t c =
    let a : Tree = tree_of c.a-item-2.result in
    rw (first_three _ _ _ _ c.in-len3-up.len_at_least c.a-item-2.is c.b-item-2.is c.c-item.is, text_three c.args.op a (tree_of c.b-item-2.result) (tree_of c.c-item.result) nowhere, sym c.op_mark-in-len3-up.ensures)
    (led c.op_mark-in-len3-up.result c.leading-in-len3-up.ensures (behind c.operand-in-len3-up.ensures (between mark.Then c.between-in-len3-up.ensures (behind c.operand-in-len3-up-2.ensures (between mark.Else c.between-in-len3-up-2.ensures (ended c.operand-in-len3-up-3.ensures))))))

pub separated-more-preserved : goal.separated-more-preserved
separated-more-preserved t c =
    let l = c.more in
    let x = c.next-item.result in
    let later = drop (l.next-index + 1) c.in-Some.more.now in
    let here : drop l.next-index c.in-Some.more.now ≡ x ∷ later = drop_more c.in-Some.more.now l.next-index x (omega arith) ∙ ap (λ y. y ∷ later) (sym c.next-item.is) in
    λ end h. l.invariant end (adds_as (behind c.comma.ensures (behind c.expr-in-more.ensures h)) (ap (λ es. listed (all_printed (all_trees es))) (sym here)))

pub separated-returns : goal.separated-returns
separated-returns t c =
    let l = c.more in
    let xs = all_printed (all_trees c.in-Some.more.now) in
    let none : drop l.next-index c.in-Some.more.now ≡ [] = drop_all l.next-index c.in-Some.more.now (omega arith) in
    let others = l.invariant l.out (adds_as (nothing l.out) (ap (λ es. listed (all_printed (all_trees es))) (sym none))) in
    adds_as (behind c.expr.ensures others)
    (sym (text_commas (printed (tree_of c.in-Some.first.now)) xs (tight_all (all_trees c.in-Some.more.now))) ∙ ap (λ es. spaced_text (commas (all_printed (all_trees es)))) (sym c.in-Some.ensures.cases.0))
