use Rattle.std.proofs.Common.{◌≡◌, ◌+◌, ◌≤◌, ◌∷◌, [], ℕ, drop, append-nil, refl, ap, sym, ◌∙◌, subst, arith}
use denote.Param.Weighed.{most, at_most}
use Rattle.std.proofs.lemmas.Result.{on_ok_weaker, IfOk-weaker}
use Rattle.lucy_word.proofs.Lists.{drop_next}
use Rattle.lucy_place.specs.declared.entry.PlaceKind.TheVariants as kinds
use Rattle.lucy_tree.specs.declared.expr.Expr.{Expr}
use Rattle.lucy_tree.specs.View.{tree_of}
use Rattle.lucy_tree.proofs.expr.Expr.TheLaws.{the_size}
use Rattle.lucy_tree.proofs.Trees.{tree_literal, tree_variable, tree_call}
use Rattle.lucy_naming.specs.Phrases as phrases
use Rattle.lucy_naming.specs.Phrases.{Phrase, Phrases, headed, none, and, phrase_of, expr_phrase, expr_phrases}
use Rattle.lucy_naming.specs.Numbering.{Next, number, past, past_all}
use Rattle.lucy_naming.specs.Places.{Known}
use Rattle.lucy_naming.specs.Drafts.{next_of, IsSmall, site_of}
use Rattle.lucy_naming.specs.Views.{known_of}
use Rattle.lucy_naming.proofs.ShapeLaws.{shaped_at}
use Rattle.lucy_naming.proofs.PhraseLaws.{plain_else}
use Rattle.lucy_naming.proofs.DraftLaws.{AllDrawn, small_before, small_inside, drawn_start, drawn_step, drawn_all, next_called, called, plain_results, plain_past, plain_number, plain_small, plain_drawn}
use Rattle.lucy_naming.proofs.OperandLaws.{is_operated, is_hosted, is_merged, is_called, operated_smaller, hosted_smaller, called_smaller, one_smaller, zero_smaller, falls_inside, falls_on, falls_among, form_plain, form_shaped, form_small, form_drawn, form_kind, is_over, one_small, one_answered, one_kind, name_drawn, name_number, call_drawn, call_number, place_small, results_small, calls_small, buffers_small, stands, drawn_end, no_answer}
use Rattle.lucy_naming.proofs.numbering.+numbering.Goals as goal

pub all_places-expr_places-requires : goal.all_places-expr_places-requires
all_places-expr_places-requires t c = (falls_among _ _ 2 t within c.decreases, (c.requires.few, (c.requires.nodes, (shaped_at c.args.list.now c.each.expr-index c.expr-item.result (omega arith) c.expr-item.is c.requires.shaped, room))))
  where
    k : Known
    k = known_of c.args.names.now

    f : Phrase
    f = expr_phrase c.expr-item.result

    rest : Phrases
    rest = expr_phrases (drop (c.each.expr-index + 1) c.args.list.now)

    within : the_size c.expr-item.result ≤ most the_size c.args.list.now
    within = subst (λ (x : Expr). the_size x ≤ most the_size c.args.list.now) (sym c.expr-item.is) (at_most the_size c.args.list.now c.each.expr-index c.expr-item.result (omega arith))

    e : expr_phrases (drop c.each.expr-index c.args.list.now) ≡ and f rest
    e = ap expr_phrases (drop_next c.args.list.now c.each.expr-index c.expr-item.result (omega arith) c.expr-item.is)

    room : IsSmall (past (next_of k c.each.draft) 1 f)
    room = small_before (past (next_of k c.each.draft) 1 f) rest (subst IsSmall (sym c.each.invariant.next ∙ ap (past_all (next_of k c.each.draft)) e) c.requires.room)

pub all_places-each-init : goal.all_places-each-init
all_places-each-init t c =
    let k : Known = known_of c.args.names.now in
    let all : Phrases = expr_phrases c.args.list.now in
    subst (λ l. AllDrawn k l c.args.draft.now all c.args.draft.now all) (sym c.new-found.ensures.items) (drawn_start k c.args.draft.now all)

pub all_places-each-preserved : goal.all_places-each-preserved
all_places-each-preserved t c =
    let k : Known = known_of c.args.names.now in
    let f : Phrase = expr_phrase c.expr-item.result in
    let rest : Phrases = expr_phrases (drop (c.each.expr-index + 1) c.args.list.now) in
    let all : Phrases = expr_phrases c.args.list.now in
    let e : expr_phrases (drop c.each.expr-index c.args.list.now) ≡ and f rest =
    ap expr_phrases (drop_next c.args.list.now c.each.expr-index c.expr-item.result (omega arith) c.expr-item.is) in
    let before = subst (λ fs. AllDrawn k c.each.found.items c.each.draft fs c.args.draft.now all) e c.each.invariant in
    drawn_step k c.each.found.items c.push.new.self.items c.each.draft c.expr_places.new.draft f rest c.args.draft.now all c.in_ok-number.number before
    c.in_ok-number.ensures.draws c.in_ok-number.ensures.number c.in_ok-push.ensures.items

pub call_places-all_places-requires : goal.call_places-all_places-requires
call_places-all_places-requires t c =
    let k : Known = known_of c.args.names.now in
    let fs : Phrases = expr_phrases c.args.list.now in
    let s = c.in_ok-site.ensures in
    let room = subst IsSmall
    (sym (ap (λ u. past_all u fs) (next_called k c.args.node.now c.args.at.now c.args.node.now.span fs c.args.results c.args.draft.now c.start_call.new.draft s.places s.calls s.buffers)))
    (small_inside (next_of k c.args.draft.now) c.args.results (phrases.Called c.args.node.now c.args.at.now) c.args.node.now.span fs c.requires.room) in
    (falls_on _ 3 t c.decreases, (c.requires.few, (c.requires.nodes, (c.requires.shaped, room))))

pub call_places-returns-clause-draws : goal.call_places-returns-clause-draws
call_places-returns-clause-draws t c =
    let s = c.in_ok-site.ensures in
    let a = c.in_ok-args.ensures in
    let e = c.settle_call.ensures in
    called (known_of c.args.names.now) c.args.node.now c.args.at.now c.args.node.now.span (expr_phrases c.args.list.now) c.args.results c.args.draft.now c.start_call.new.draft s.places s.calls s.buffers
    c.all_places.new.draft c.settle_call.new.draft c.in_ok-site.site c.in_ok-args.args.items c.in_ok-call_site.field-0 a.draws s.at a.numbers (c.in_ok-call_site.ensures ∙ ap (λ p. site_of (known_of c.args.names.now) c.args.node.now c.args.at.now p c.in_ok-args.args.items) c.next_place-number.ensures) e.calls e.places e.buffers

pub form_places-operand_places-requires : goal.form_places-operand_places-requires
form_places-operand_places-requires t c =
    let o = c.in_ok-own.ensures in
    let room = plain_small (known_of c.args.names.now) (expr_phrase c.args.expr.now) c.args.draft.now c.start.new.draft c.requires.plain o.places o.calls
    (o.buffers ∙ ap (λ n. c.args.draft.now.buffers + n) c.buffers_of.ensures) c.requires.room in
    (falls_on _ 0 t c.decreases, (c.requires.few, (c.requires.nodes, (c.requires.plain, (c.requires.shaped, room)))))

pub form_places-returns-clause-draws : goal.form_places-returns-clause-draws
form_places-returns-clause-draws t c =
    let o = c.in_ok-own.ensures in
    let p = c.in_ok-kind.ensures in
    let s = c.settle.ensures in
    plain_drawn (known_of c.args.names.now) (expr_phrase c.args.expr.now) c.args.draft.now c.start.new.draft c.operand_places.new.draft c.settle.new.draft c.in_ok-own.own c.in_ok-kind.kind
    c.requires.plain o.places o.calls (o.buffers ∙ ap (λ n. c.args.draft.now.buffers + n) c.buffers_of.ensures) p.draws o.at p.kind s.places s.calls s.buffers

-- an operator's operands
pub operand_places-all_places-requires : goal.operand_places-all_places-requires
operand_places-all_places-requires t c =
    let e = c.args.expr.now in
    let is = is_operated c.in-Op.op c.in-Op.args c.in-Op.span c.in-Op.is c.list.ensures in
    let less = operated_smaller c.in-Op.op c.in-Op.args c.in-Op.span c.in-Op.is c.list.ensures in
    (falls_inside _ _ 3 1 0 t refl less c.decreases, (c.requires.few, (c.requires.nodes, ((form_shaped e is c.requires.shaped).1, form_small e is (next_of (known_of c.args.names.now) c.args.draft.now) c.requires.room))))

pub operand_places-returns-in_ok-args-in-Op : goal.operand_places-returns-in_ok-args-in-Op
operand_places-returns-in_ok-args-in-Op t c =
    let k : Known = known_of c.args.names.now in
    let is = is_operated c.in-Op.op c.in-Op.args c.in-Op.span c.in-Op.is c.list.ensures in
    let a = c.in_ok-args-in-Op.ensures in
    record {
      kind = ap (kinds.Op c.in-Op.op) c.new.ensures ∙ form_kind c.args.expr.now is k (next_of k c.args.draft.now) c.args.draft.now.buffers c.in_ok-args-in-Op.args.items a.numbers;
      draws = form_drawn c.args.expr.now is k c.args.draft.now c.all_places.new.draft a.draws;
    }

-- those of the host's
pub operand_places-all_places-requires-in-Host : goal.operand_places-all_places-requires-in-Host
operand_places-all_places-requires-in-Host t c =
    let e = c.args.expr.now in
    let is = is_hosted c.in-Host.name c.in-Host.args c.in-Host.is c.list-in-Host.ensures in
    let less = hosted_smaller c.in-Host.name c.in-Host.args c.in-Host.is c.list-in-Host.ensures in
    (falls_inside _ _ 3 1 0 t refl less c.decreases, (c.requires.few, (c.requires.nodes, ((form_shaped e is c.requires.shaped).1, form_small e is (next_of (known_of c.args.names.now) c.args.draft.now) c.requires.room))))

pub operand_places-returns-in_ok-args-in-Host-clause-draws : goal.operand_places-returns-in_ok-args-in-Host-clause-draws
operand_places-returns-in_ok-args-in-Host-clause-draws t c =
    let is = is_hosted c.in-Host.name c.in-Host.args c.in-Host.is c.list-in-Host.ensures in
    form_drawn c.args.expr.now is (known_of c.args.names.now) c.args.draft.now c.all_places-in-Host.new.draft c.in_ok-args-in-Host.ensures.draws

-- the one of `when`, `whenot`, `fby` and `buffer`
pub operand_places-expr_places-requires-in-When : goal.operand_places-expr_places-requires-in-When
operand_places-expr_places-requires-in-When t c =
    let k : Known = known_of c.args.names.now in
    let over = is_over c.in-When.operand c.in-When.is c.deref-in-When.ensures in
    let room = one_small k (expr_phrase c.args.expr.now) (expr_phrase c.deref-in-When.result.now) over.operands (next_of k c.args.draft.now) c.requires.room in
    (falls_inside _ _ 2 2 0 t refl over.smaller c.decreases, (c.requires.few, (c.requires.nodes, (over.shaped c.requires.shaped, room))))

pub operand_places-single_kind-requires-clause-single : goal.operand_places-single_kind-requires-clause-single
operand_places-single_kind-requires-clause-single t c = (is_over c.in-When.operand c.in-When.is c.deref-in-When.ensures).single

pub operand_places-returns-in_ok-operand-in-When-clause-kind : goal.operand_places-returns-in_ok-operand-in-When-clause-kind
operand_places-returns-in_ok-operand-in-When-clause-kind t c =
    let k : Known = known_of c.args.names.now in
    let over = is_over c.in-When.operand c.in-When.is c.deref-in-When.ensures in
    one_kind k (expr_phrase c.args.expr.now) (expr_phrase c.deref-in-When.result.now) over.operands c.single_kind.result (next_of k c.args.draft.now) c.args.draft.now.buffers c.in_ok-operand-in-When.operand
    c.in_ok-operand-in-When.ensures.number (c.single_kind.ensures k)

pub operand_places-returns-in_ok-operand-in-When-clause-draws : goal.operand_places-returns-in_ok-operand-in-When-clause-draws
operand_places-returns-in_ok-operand-in-When-clause-draws t c =
    let k : Known = known_of c.args.names.now in
    let over = is_over c.in-When.operand c.in-When.is c.deref-in-When.ensures in
    one_answered k (expr_phrase c.args.expr.now) (expr_phrase c.deref-in-When.result.now) over.operands c.single_kind.result c.args.draft.now c.expr_places-in-When.new.draft c.in_ok-operand-in-When.ensures.draws

-- those of `merge`
pub operand_places-expr_places-requires : goal.operand_places-expr_places-requires
operand_places-expr_places-requires t c =
    let e = c.args.expr.now in
    let m = c.in-Merge in
    let is = is_merged m.word m.one m.zero m.span m.is c.deref-in-Merge.ensures refl in
    let less = one_smaller m.word m.one m.zero m.span m.is c.deref-in-Merge.ensures in
    let at : Next = next_of (known_of c.args.names.now) c.args.draft.now in
    let room = small_before (past at 1 (expr_phrase c.deref-in-Merge.result.now)) (and (expr_phrase m.zero.value) none) (form_small e is at c.requires.room) in
    (falls_inside _ _ 2 2 0 t refl less c.decreases, (c.requires.few, (c.requires.nodes, ((form_shaped e is c.requires.shaped).1, room))))

pub operand_places-expr_places-requires-in-Merge : goal.operand_places-expr_places-requires-in-Merge
operand_places-expr_places-requires-in-Merge t c =
    let e = c.args.expr.now in
    let m = c.in-Merge in
    let is = is_merged m.word m.one m.zero m.span m.is c.deref-in-Merge.ensures c.deref-in-Merge-2.ensures in
    let less = zero_smaller m.word m.one m.zero m.span m.is c.deref-in-Merge-2.ensures in
    let b : Phrase = expr_phrase c.deref-in-Merge-2.result.now in
    let room = subst (λ u. IsSmall (past u 1 b)) (sym c.in_ok-one-in-Merge.ensures.draws.next) (form_small e is (next_of (known_of c.args.names.now) c.args.draft.now) c.requires.room) in
    (falls_inside _ _ 2 2 0 t refl less c.decreases, (c.requires.few, (c.requires.nodes, ((form_shaped e is c.requires.shaped).2, room))))

pub operand_places-returns-in_ok-word-in-Merge : goal.operand_places-returns-in_ok-word-in-Merge
operand_places-returns-in_ok-word-in-Merge t c =
    let k : Known = known_of c.args.names.now in
    let a : Phrase = expr_phrase c.deref-in-Merge.result.now in
    let b : Phrase = expr_phrase c.deref-in-Merge-2.result.now in
    let all : Phrases = and a (and b none) in
    let one = c.in_ok-one-in-Merge.ensures in
    let zero = c.in_ok-zero-in-Merge.ensures in
    let n : ℕ = c.in_ok-one-in-Merge.one in
    let m : ℕ = c.in_ok-zero-in-Merge.zero in
    let first = drawn_step k [] (n ∷ []) c.args.draft.now _ a (and b none) c.args.draft.now all n (drawn_start k c.args.draft.now all) one.draws one.number refl in
    let second = drawn_step k (n ∷ []) (n ∷ m ∷ []) _ _ b none c.args.draft.now all m first zero.draws zero.number refl in
    let is = is_merged c.in-Merge.word c.in-Merge.one c.in-Merge.zero c.in-Merge.span c.in-Merge.is c.deref-in-Merge.ensures c.deref-in-Merge-2.ensures in
    record {
      kind = ap (λ w. kinds.Merge w n m) c.in_ok-word-in-Merge.ensures.equal ∙ form_kind c.args.expr.now is k (next_of k c.args.draft.now) c.args.draft.now.buffers (n ∷ m ∷ []) second.numbers;
      draws = form_drawn c.args.expr.now is k c.args.draft.now c.expr_places-in-Merge.new.draft (drawn_all k (n ∷ m ∷ []) _ c.args.draft.now all second);
    }

-- a literal has none, and a name and a call are no such forms
pub operand_places-returns-in-Lit : goal.operand_places-returns-in-Lit
operand_places-returns-in-Lit t c =
    let k : Known = known_of c.args.names.now in
    let is = ap tree_of c.in-Lit.is ∙ tree_literal c.in-Lit.lit c.in-Lit.span in
    record {
      kind = form_kind c.args.expr.now is k (next_of k c.args.draft.now) c.args.draft.now.buffers [] refl;
      draws = form_drawn c.args.expr.now is k c.args.draft.now c.args.draft.now (drawn_all k [] c.args.draft.now c.args.draft.now none (drawn_start k c.args.draft.now none));
    }

pub operand_places-returns-in-Var : goal.operand_places-returns-in-Var
operand_places-returns-in-Var t c = absurd (form_plain c.args.expr.now (ap tree_of c.in-Var.is ∙ tree_variable c.in-Var.name) c.requires.plain)

pub operand_places-returns-in-Call : goal.operand_places-returns-in-Call
operand_places-returns-in-Call t c = absurd (form_plain c.args.expr.now (ap tree_of c.in-Call.is ∙ tree_call c.in-Call.node c.in-Call.at c.in-Call.args) c.requires.plain)

-- where memory runs out
pub all_places-returns-in_err-number-clause-numbers : goal.all_places-returns-in_err-number-clause-numbers
all_places-returns-in_err-number-clause-numbers t c = no_answer c.from_residual.result _ _ c.from_residual.ensures.1

pub all_places-returns-in_err-number-clause-draws : goal.all_places-returns-in_err-number-clause-draws
all_places-returns-in_err-number-clause-draws t c = no_answer c.from_residual.result _ _ c.from_residual.ensures.1

pub all_places-returns-in_err-push-clause-numbers : goal.all_places-returns-in_err-push-clause-numbers
all_places-returns-in_err-push-clause-numbers t c = no_answer c.from_residual-in_err-push.result _ _ c.from_residual-in_err-push.ensures.1

pub all_places-returns-in_err-push-clause-draws : goal.all_places-returns-in_err-push-clause-draws
all_places-returns-in_err-push-clause-draws t c = no_answer c.from_residual-in_err-push.result _ _ c.from_residual-in_err-push.ensures.1

pub call_places-returns-in_err-site-clause-number : goal.call_places-returns-in_err-site-clause-number
call_places-returns-in_err-site-clause-number t c = no_answer c.from_residual.result _ _ c.from_residual.ensures.1

pub call_places-returns-in_err-site-clause-draws : goal.call_places-returns-in_err-site-clause-draws
call_places-returns-in_err-site-clause-draws t c = no_answer c.from_residual.result _ _ c.from_residual.ensures.1

pub call_places-returns-in_err-args-clause-number : goal.call_places-returns-in_err-args-clause-number
call_places-returns-in_err-args-clause-number t c = no_answer c.from_residual-in_err-args.result _ _ c.from_residual-in_err-args.ensures.1

pub call_places-returns-in_err-args-clause-draws : goal.call_places-returns-in_err-args-clause-draws
call_places-returns-in_err-args-clause-draws t c = no_answer c.from_residual-in_err-args.result _ _ c.from_residual-in_err-args.ensures.1

pub call_places-returns-in_err-call_site-clause-number : goal.call_places-returns-in_err-call_site-clause-number
call_places-returns-in_err-call_site-clause-number t c = no_answer c.from_residual-in_err-call_site.result _ _ c.from_residual-in_err-call_site.ensures.1

pub call_places-returns-in_err-call_site-clause-draws : goal.call_places-returns-in_err-call_site-clause-draws
call_places-returns-in_err-call_site-clause-draws t c = no_answer c.from_residual-in_err-call_site.result _ _ c.from_residual-in_err-call_site.ensures.1

pub form_places-returns-in_err-own-clause-number : goal.form_places-returns-in_err-own-clause-number
form_places-returns-in_err-own-clause-number t c = no_answer c.from_residual.result _ _ c.from_residual.ensures.1

pub form_places-returns-in_err-own-clause-draws : goal.form_places-returns-in_err-own-clause-draws
form_places-returns-in_err-own-clause-draws t c = no_answer c.from_residual.result _ _ c.from_residual.ensures.1

pub form_places-returns-in_err-kind-clause-number : goal.form_places-returns-in_err-kind-clause-number
form_places-returns-in_err-kind-clause-number t c = no_answer c.from_residual-in_err-kind.result _ _ c.from_residual-in_err-kind.ensures.1

pub form_places-returns-in_err-kind-clause-draws : goal.form_places-returns-in_err-kind-clause-draws
form_places-returns-in_err-kind-clause-draws t c = no_answer c.from_residual-in_err-kind.result _ _ c.from_residual-in_err-kind.ensures.1

pub operand_places-returns-in_err-args-in-Op-clause-kind : goal.operand_places-returns-in_err-args-in-Op-clause-kind
operand_places-returns-in_err-args-in-Op-clause-kind t c = no_answer c.from_residual.result _ _ c.from_residual.ensures.1

pub operand_places-returns-in_err-args-in-Op-clause-draws : goal.operand_places-returns-in_err-args-in-Op-clause-draws
operand_places-returns-in_err-args-in-Op-clause-draws t c = no_answer c.from_residual.result _ _ c.from_residual.ensures.1

pub operand_places-returns-in_err-args-in-Host-clause-kind : goal.operand_places-returns-in_err-args-in-Host-clause-kind
operand_places-returns-in_err-args-in-Host-clause-kind t c = no_answer c.from_residual-in_err-args-in-Host.result _ _ c.from_residual-in_err-args-in-Host.ensures.1

pub operand_places-returns-in_err-args-in-Host-clause-draws : goal.operand_places-returns-in_err-args-in-Host-clause-draws
operand_places-returns-in_err-args-in-Host-clause-draws t c = no_answer c.from_residual-in_err-args-in-Host.result _ _ c.from_residual-in_err-args-in-Host.ensures.1

pub operand_places-returns-in_err-one-in-Merge-clause-kind : goal.operand_places-returns-in_err-one-in-Merge-clause-kind
operand_places-returns-in_err-one-in-Merge-clause-kind t c = no_answer c.from_residual-in_err-one-in-Merge.result _ _ c.from_residual-in_err-one-in-Merge.ensures.1

pub operand_places-returns-in_err-one-in-Merge-clause-draws : goal.operand_places-returns-in_err-one-in-Merge-clause-draws
operand_places-returns-in_err-one-in-Merge-clause-draws t c = no_answer c.from_residual-in_err-one-in-Merge.result _ _ c.from_residual-in_err-one-in-Merge.ensures.1

pub operand_places-returns-in_err-zero-in-Merge-clause-kind : goal.operand_places-returns-in_err-zero-in-Merge-clause-kind
operand_places-returns-in_err-zero-in-Merge-clause-kind t c = no_answer c.from_residual-in_err-zero-in-Merge.result _ _ c.from_residual-in_err-zero-in-Merge.ensures.1

pub operand_places-returns-in_err-zero-in-Merge-clause-draws : goal.operand_places-returns-in_err-zero-in-Merge-clause-draws
operand_places-returns-in_err-zero-in-Merge-clause-draws t c = no_answer c.from_residual-in_err-zero-in-Merge.result _ _ c.from_residual-in_err-zero-in-Merge.ensures.1

pub operand_places-returns-in_err-word-in-Merge-clause-kind : goal.operand_places-returns-in_err-word-in-Merge-clause-kind
operand_places-returns-in_err-word-in-Merge-clause-kind t c = no_answer c.from_residual-in_err-word-in-Merge.result _ _ c.from_residual-in_err-word-in-Merge.ensures.1

pub operand_places-returns-in_err-word-in-Merge-clause-draws : goal.operand_places-returns-in_err-word-in-Merge-clause-draws
operand_places-returns-in_err-word-in-Merge-clause-draws t c = no_answer c.from_residual-in_err-word-in-Merge.result _ _ c.from_residual-in_err-word-in-Merge.ensures.1

pub operand_places-returns-in_err-operand-in-When-clause-kind : goal.operand_places-returns-in_err-operand-in-When-clause-kind
operand_places-returns-in_err-operand-in-When-clause-kind t c = no_answer c.from_residual-in_err-operand-in-When.result _ _ c.from_residual-in_err-operand-in-When.ensures.1

pub operand_places-returns-in_err-operand-in-When-clause-draws : goal.operand_places-returns-in_err-operand-in-When-clause-draws
operand_places-returns-in_err-operand-in-When-clause-draws t c = no_answer c.from_residual-in_err-operand-in-When.result _ _ c.from_residual-in_err-operand-in-When.ensures.1

-- single steps
pub all_places-returns-clause-numbers : goal.all_places-returns-clause-numbers
all_places-returns-clause-numbers t c =
    let end = drawn_end (known_of c.args.names.now) c.each.found.items c.each.draft c.args.draft.now c.args.list.now c.each.expr-index c.each-test.false c.each.invariant in
    sym (append-nil c.each.found.items) ∙ end.numbers

pub all_places-returns-clause-draws : goal.all_places-returns-clause-draws
all_places-returns-clause-draws t c =
    let k : Known = known_of c.args.names.now in
    drawn_all k c.each.found.items c.each.draft c.args.draft.now (expr_phrases c.args.list.now)
    (drawn_end k c.each.found.items c.each.draft c.args.draft.now c.args.list.now c.each.expr-index c.each-test.false c.each.invariant)

pub call_places-next_place-number-requires : goal.call_places-next_place-number-requires
call_places-next_place-number-requires t c = record {
  small = place_small (next_of (known_of c.args.names.now) c.args.draft.now) c.args.results (headed (phrases.Called c.args.node.now c.args.at.now) c.args.node.now.span (expr_phrases c.args.list.now)) c.requires.room;
}

pub call_places-start_call-requires-clause-few : goal.call_places-start_call-requires-clause-few
call_places-start_call-requires-clause-few t c = results_small (next_of (known_of c.args.names.now) c.args.draft.now) c.args.results c.args.node.now c.args.at.now c.args.node.now.span (expr_phrases c.args.list.now) c.requires.room

pub call_places-start_call-requires-clause-calls : goal.call_places-start_call-requires-clause-calls
call_places-start_call-requires-clause-calls t c = calls_small (next_of (known_of c.args.names.now) c.args.draft.now) c.args.results _ c.args.node.now c.args.at.now c.args.node.now.span (expr_phrases c.args.list.now) refl c.requires.room

pub call_places-call_site-requires : goal.call_places-call_site-requires
call_places-call_site-requires t c = c.requires.nodes

pub call_places-settle_call-requires : goal.call_places-settle_call-requires
call_places-settle_call-requires t c =
    let s = c.in_ok-site.ensures in
    stands c.args.draft.now.calls.items c.start_call.new.draft.calls.items _ _ _ c.in_ok-site.site s.at s.calls c.in_ok-args.ensures.draws.calls

pub call_places-returns-clause-number : goal.call_places-returns-clause-number
call_places-returns-clause-number t c = c.next_place-number.ensures

pub expr_places-stream_place-requires : goal.expr_places-stream_place-requires
expr_places-stream_place-requires t c = record { few = c.requires.few }

pub expr_places-returns-in-Var-clause-number : goal.expr_places-returns-in-Var-clause-number
expr_places-returns-in-Var-clause-number t c = name_number c.in-Var.name c.in-Var.is (known_of c.args.names.now) (next_of (known_of c.args.names.now) c.args.draft.now) c.stream_place.result c.stream_place.ensures

pub expr_places-returns-in-Var-clause-draws : goal.expr_places-returns-in-Var-clause-draws
expr_places-returns-in-Var-clause-draws t c = name_drawn c.in-Var.name c.in-Var.is (known_of c.args.names.now) c.args.results c.args.draft.now

pub expr_places-returns-in-Call-clause-number : goal.expr_places-returns-in-Call-clause-number
expr_places-returns-in-Call-clause-number t c =
    let m = c.in-Call in
    let k : Known = known_of c.args.names.now in
    call_number c.call_places.result c.args.expr.now (is_called m.node m.at m.args m.is c.list.ensures) k (next_of k c.args.draft.now) c.call_places.ensures.number

pub expr_places-returns-in-Call-clause-draws : goal.expr_places-returns-in-Call-clause-draws
expr_places-returns-in-Call-clause-draws t c =
    let m = c.in-Call in
    call_drawn c.call_places.result c.args.expr.now (is_called m.node m.at m.args m.is c.list.ensures) (known_of c.args.names.now) c.args.results c.args.draft.now c.call_places.new.draft c.call_places.ensures.draws

pub form_places-next_place-number-requires : goal.form_places-next_place-number-requires
form_places-next_place-number-requires t c = record { small = place_small (next_of (known_of c.args.names.now) c.args.draft.now) 1 (expr_phrase c.args.expr.now) c.requires.room }

pub form_places-start-requires : goal.form_places-start-requires
form_places-start-requires t c = record { few = buffers_small (next_of (known_of c.args.names.now) c.args.draft.now) (expr_phrase c.args.expr.now) _ _ refl c.buffers_of.ensures c.requires.room }

pub form_places-settle-requires : goal.form_places-settle-requires
form_places-settle-requires t c =
    let o = c.in_ok-own.ensures in
    stands c.args.draft.now.places.items c.start.new.draft.places.items _ _ _ c.in_ok-own.own o.at o.places c.in_ok-kind.ensures.draws.places

pub form_places-returns-clause-number : goal.form_places-returns-clause-number
form_places-returns-clause-number t c = c.next_place-number.ensures

pub operand_places-single_kind-requires-clause-shaped : goal.operand_places-single_kind-requires-clause-shaped
operand_places-single_kind-requires-clause-shaped t c = c.requires.shaped

pub expr_places-call_places-requires : goal.expr_places-call_places-requires
expr_places-call_places-requires t c =
    let k : Known = known_of c.args.names.now in
    let m = c.in-Call in
    let e = c.args.expr.now in
    let is = is_called m.node m.at m.args m.is c.list.ensures in
    let less = called_smaller m.node m.at m.args m.is c.list.ensures in
    let room = subst (λ u. IsSmall (past (next_of k c.args.draft.now) c.args.results (phrase_of u))) is c.requires.room in
    (falls_inside _ _ 4 0 2 t refl less c.decreases, (c.requires.few, (c.requires.nodes, (form_shaped e is c.requires.shaped, room))))

pub expr_places-form_places-requires : goal.expr_places-form_places-requires
expr_places-form_places-requires t c =
    let p = plain_else c.args.expr.now c.in_default.not-Var c.in_default.not-Call in
    let room = plain_past (next_of (known_of c.args.names.now) c.args.draft.now) c.args.results (expr_phrase c.args.expr.now) p c.requires.room in
    (falls_on _ 1 t c.decreases, (c.requires.few, (c.requires.nodes, (p, (c.requires.shaped, room)))))

pub expr_places-returns-in_default-clause-draws : goal.expr_places-returns-in_default-clause-draws
expr_places-returns-in_default-clause-draws t c =
    let p = plain_else c.args.expr.now c.in_default.not-Var c.in_default.not-Call in
    on_ok_weaker c.form_places.result (plain_results (known_of c.args.names.now) c.args.results (expr_phrase c.args.expr.now) c.args.draft.now c.form_places.new.draft p) c.form_places.ensures.draws

pub expr_places-returns-in_default-clause-number : goal.expr_places-returns-in_default-clause-number
expr_places-returns-in_default-clause-number t c =
    let k : Known = known_of c.args.names.now in
    let at : Next = next_of k c.args.draft.now in
    let f : Phrase = expr_phrase c.args.expr.now in
    let p = plain_else c.args.expr.now c.in_default.not-Var c.in_default.not-Call in
    IfOk-weaker c.form_places.result (λ n. n ≡ at.place) (λ n. n ≡ number k at f) (λ n e. e ∙ sym (plain_number k at f p)) c.form_places.ensures.number
