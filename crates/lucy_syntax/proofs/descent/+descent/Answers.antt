use Rattle.std.proofs.Common.{ℕ, ◌≡◌, ◌<◌, List, Option, Some, None, [], ◌∷◌, ◌++◌, refl, ap, sym, arith, ◌∙◌, inl, inr, suc, length}
use Rattle.std.specs.Prelude.{unwrap_or}
use Rattle.lucy_host.specs.declared.op.Op.TheVariants as op
use Rattle.lucy_tree.specs.Tree.{Tree, variable, literal, operator, host, sampled, merged, followed, buffered, call, no_more, more, trees_of}
use Rattle.lucy_token.specs.declared.mark.Mark.TheVariants as mark
use Rattle.lucy_token.specs.declared.token.Kind.TheVariants as kind
use Rattle.lucy_token.specs.Tokens.{first}
use Rattle.lucy_grammar.specs.Symbols.{Part, Val}
use Rattle.lucy_grammar.specs.Meanings.{token_name, token_word, token_bound, two}
use Rattle.lucy_grammar.specs.Reading.{Unfit, IsOther, UnfitOptional}
use Rattle.lucy_grammar.proofs.Steps.{as_value}
use Rattle.lucy_grammar.proofs.Growing.{grown_first, grown_more, grown_bad, grown_refused, grown_ended, samps, args, list_of-trees_of}
use Rattle.lucy_grammar.proofs.LeafProductions.{begun, unbegun, one_expr}
use Rattle.lucy_grammar.proofs.Productions as by
use Rattle.lucy_syntax.specs.Levels.{UnfitAt}
use Rattle.lucy_syntax.specs.Piles.{base_word}
use Rattle.lucy_syntax.specs.Refusals.{UnfitEach, UnfitEnclosed, UnfitOperand}
use Rattle.lucy_syntax.proofs.Leaving.{goes_out, runs_out, hands, hands_only, hands_all, made}
use Rattle.lucy_syntax.proofs.Parts as parts
use Rattle.lucy_syntax.proofs.OnPiles.{over, lies_as, higher, some_there, two_there, puts_as, puts_at, puts_all_as, puts_none}
use Rattle.lucy_syntax.proofs.Facts.{fails, is_first, pair_of}
use Rattle.lucy_syntax.proofs.Climbing.{from_samp, climb_first, climb_up, climb_more, climb_bad, climb_end}
use Rattle.lucy_syntax.proofs.descent.+descent.Goals as goal

pub whole-returns-in_err-rest : goal.whole-returns-in_err-rest
whole-returns-in_err-rest t c =
    goes_out _ (UnfitEach (mark.If ∷ mark.Then ∷ mark.Else ∷ []) c.args.ts.now) _ c.from_residual.result c.from_residual.ensures.1 c.in_err-rest.ensures (λ rest u. parts.choice_no c.args.ts.now rest (is_first c.in-Some.ensures.read.1) u)

pub whole-returns-in-Some : goal.whole-returns-in-Some
whole-returns-in-Some t c =
    let i = c.in-Some.ensures.read in
    let p = c.in_ok-rest.ensures in
    made _ c.operator.result c.operator.ensures
    (λ g. record {
      tree = operator op.If (trees_of p.list) c.in-Some.span;
      reads = as_value (ap (operator op.If (trees_of p.list)) i.2) (parts.choice i.1 p.reads);
      put = g _ p.list (parts.each_length (mark.If ∷ mark.Then ∷ mark.Else ∷ []) _ _ _ p.reads) p.put;
      shorter = omega (arith, p.shorter);
    })

pub whole-returns : goal.whole-returns
whole-returns t c = hands _ _ c.operation.result c.operation.ensures (omega arith) (λ e rest r. by.expr_or c.in_default.ensures.read r) (λ rest u. by.expr_or_1 c.in_default.ensures.read u)

pub each-returns-in_default : goal.each-returns-in_default
each-returns-in_default t c = puts_none (parts.each_none c.args.signs.now c.args.ts.now c.in_default.ensures.cases) (omega (arith, c.in_default.ensures.cases))

pub each-returns-in_err-rest : goal.each-returns-in_err-rest
each-returns-in_err-rest t c =
    goes_out _ (IsOther c.args.ts.now (kind.Mark c.in-Some.sign.now)) _ c.from_residual.result c.from_residual.ensures.1 c.in_err-rest.ensures.refused (λ rest u. parts.each_1 c.in-Some.ensures.cases.0 u)

pub each-returns-in_err-rest-2 : goal.each-returns-in_err-rest-2
each-returns-in_err-rest-2 t c =
    goes_out _ (Unfit Part.Expr c.in_ok-rest.rest.now) _ c.from_residual-in_err-rest-2.result c.from_residual-in_err-rest-2.ensures.1 c.in_err-rest-2.ensures (λ rest u. parts.each_2 c.in-Some.ensures.cases.0 c.in_ok-rest.ensures.ok.1 u)

pub each-returns : goal.each-returns
each-returns t c =
    let p = c.in_ok-rest-2.ensures in
    hands_all c.each.result c.each.ensures
    (λ rest q. record {
      list = p.tree ∷ q.list;
      reads = parts.each_more q.list rest c.in-Some.ensures.cases.0 c.in_ok-rest.ensures.ok.1 p.reads q.reads;
      put = over p.put q.put;
      shorter = omega (arith, q.shorter, p.shorter, c.in_ok-rest.ensures.shorter, ap length c.in-Some.ensures.cases.0);
    })
    (λ rest u. parts.each_3 rest c.in-Some.ensures.cases.0 c.in_ok-rest.ensures.ok.1 p.reads u)

pub enclosed-returns-in_err-rest : goal.enclosed-returns-in_err-rest
enclosed-returns-in_err-rest t c =
    goes_out _ (UnfitEach c.args.signs.now c.args.ts.now) _ c.from_residual.result c.from_residual.ensures.1 c.in_err-rest.ensures (λ rest u. inl u)

pub enclosed-returns-in_err-rest-2 : goal.enclosed-returns-in_err-rest-2
enclosed-returns-in_err-rest-2 t c =
    let p = c.in_ok-rest.ensures in
    goes_out _ (IsOther c.in_ok-rest.rest.now (kind.Mark mark.Close)) _ c.from_residual-in_err-rest-2.result c.from_residual-in_err-rest-2.ensures.1 c.in_err-rest-2.ensures.refused (λ rest u. inr (p.list, c.in_ok-rest.rest.now, p.reads, u))

pub enclosed-returns : goal.enclosed-returns
enclosed-returns t c =
    let p = c.in_ok-rest.ensures in
    let s = c.in_ok-rest-2.ensures in
    record { list = p.list; reads = (c.in_ok-rest.rest.now, s.ok.0, p.reads, s.ok.1); put = p.put; shorter = omega (arith, p.shorter, s.shorter) }

pub operation-returns-in_err-over : goal.operation-returns-in_err-over
operation-returns-in_err-over t c =
    goes_out _ (Unfit Part.Samp c.args.ts.now) _ c.from_residual.result c.from_residual.ensures.1 c.in_err-over.ensures (λ rest u. from_samp c.args.wanted u)

pub operation-up-init : goal.operation-up-init
operation-up-init t c =
    let p = c.in_ok-over.ensures in
    puts_as p (omega arith) (λ r. climb_first c.args.wanted r p.shorter)

pub operation-up-preserved-in_default : goal.operation-up-preserved-in_default
operation-up-preserved-in_default t c = puts_as c.up.invariant (omega arith) (λ r. climb_up c.args.wanted c.up.level r (c.is_below.ensures.0 c.up-test.true) c.in_default.ensures.read c.looser-level.ensures)

pub operation-returns-in_err-rest : goal.operation-returns-in_err-rest
operation-returns-in_err-rest t c =
    goes_out _ (UnfitAt c.up.level c.in-Some.rest.now) _ c.from_residual-in_err-rest.result c.from_residual-in_err-rest.ensures.1 c.in_err-rest.ensures
    (λ rest u. climb_bad c.args.wanted c.up.level _ rest _ c.up.invariant.reads (c.is_below.ensures.0 c.up-test.true) c.in-Some.ensures.read u)

pub operation-returns-in_err-over-2 : goal.operation-returns-in_err-over-2
operation-returns-in_err-over-2 t c = runs_out _ _ _ c.from_residual-in_err-over-2.result c.from_residual-in_err-over-2.ensures.1 c.in_err-over-2.ensures

pub operation-up-preserved : goal.operation-up-preserved
operation-up-preserved t c =
    let i = c.up.invariant in
    let p = c.in_ok-rest.ensures in
    let made = c.in_ok-over-2.ensures in
    let less : length c.in_ok-rest.rest.now < length c.up.over.now = omega (arith, p.shorter, c.in-Some.ensures.shorter) in
    puts_at made.1
    (record {
      tree = operator c.in-Some.op (two i.tree p.tree) c.in-Some.span;
      reads = climb_more c.args.wanted c.up.level _ i.reads (c.is_below.ensures.0 c.up-test.true) c.in-Some.ensures.read p.reads less refl c.behind-level.ensures;
      put = made.0 _ (i.tree ∷ p.tree ∷ []) refl (over i.put p.put);
      shorter = omega (arith, i.shorter, less);
    })

pub operation-returns : goal.operation-returns
operation-returns t c = puts_as c.up.invariant (omega arith) (λ r. climb_end c.args.wanted c.up.level r (fails c.is_below.ensures.1 c.up-test.false))

pub samp-returns-in_err-over : goal.samp-returns-in_err-over
samp-returns-in_err-over t c =
    goes_out _ (UnfitOperand c.args.ts.now) _ c.from_residual.result c.from_residual.ensures.1 c.in_err-over.ensures (λ rest u. grown_bad samps u.operand)

pub samp-more-init : goal.samp-more-init
samp-more-init t c =
    let p = c.in_ok-over.ensures in
    puts_as p (omega arith) (λ r. grown_first samps refl r.operand p.shorter)

pub samp-sampled-requires : goal.samp-sampled-requires
samp-sampled-requires t c = some_there c.more.invariant.put

pub samp-returns-in_err-over-2 : goal.samp-returns-in_err-over-2
samp-returns-in_err-over-2 t c =
    goes_out _ (Unfit Part.Sampling c.more.over.now) _ c.from_residual-in_err-over-2.result c.from_residual-in_err-over-2.ensures.1 c.in_err-over-2.ensures (λ rest u. grown_refused samps c.more.invariant.reads (c.at_sampling.ensures.0 c.more-test.true) u)

pub samp-more-preserved : goal.samp-more-preserved
samp-more-preserved t c =
    let i = c.more.invariant in
    let p = c.in_ok-over-2.ensures in
    record {
      tree = sampled p.0.0 i.tree p.0.1;
      reads = grown_more samps i.reads refl (c.at_sampling.ensures.0 c.more-test.true) p.1 p.3;
      put = p.2 _ i.tree i.put;
      shorter = omega (arith, i.shorter, p.3);
    }

pub samp-returns : goal.samp-returns
samp-returns t c = puts_as c.more.invariant (omega arith) (λ r. grown_ended samps r (fails c.at_sampling.ensures.1 c.more-test.false))

pub pre-returns-in-Some : goal.pre-returns-in-Some
pre-returns-in-Some t c =
    let i = c.in-Some.ensures.read in
    hands _ _ c.behind_literal.result c.behind_literal.ensures (omega (arith, c.in-Some.ensures.shorter))
    (λ e rest r. record { operand = as_value r.2 (by.by_literal r.0 i.begun i.reads r.1); behind_buffer = λ n. as_value (pair_of refl r.2) (parts.held_literal r.0 i n r.1) })
    (λ rest u. record { operand = by.by_literal_2 i.begun i.reads u; behind_buffer = λ n. parts.held_literal_no i u })

pub pre-returns : goal.pre-returns
pre-returns t c =
    let n = c.in_default.ensures.read in
    hands _ _ c.form.result c.form.ensures (omega arith) (λ e rest r. record { operand = by.by_form n r; behind_buffer = λ _. by.held_form n r }) (λ rest u. record { operand = by.by_form_1 n u; behind_buffer = λ _. by.held_form_1 n u })

pub behind_literal-returns-in_err-rest : goal.behind_literal-returns-in_err-rest
behind_literal-returns-in_err-rest t c =
    goes_out _ (UnfitOperand c.in-Some.rest.now) _ c.from_residual.result c.from_residual.ensures.1 c.in_err-rest.ensures (λ rest u. by.fby_follows_2 c.in-Some.ensures.read.1 u.operand)

pub behind_literal-followed-requires : goal.behind_literal-followed-requires
behind_literal-followed-requires t c = some_there c.in_ok-rest.ensures.put

pub behind_literal-returns-in-Some : goal.behind_literal-returns-in-Some
behind_literal-returns-in-Some t c =
    let fby = c.in-Some.ensures.read in
    let p = c.in_ok-rest.ensures in
    made _ c.followed.result c.followed.ensures
    (λ g. record {
      tree = followed c.args.lit p.tree c.in-Some.fby;
      reads = (Some (fby.0.span, p.tree), by.fby_follows fby.1 p.reads.operand, ap (followed c.args.lit p.tree) fby.2);
      put = g _ p.tree p.put;
      shorter = omega (arith, p.shorter, c.in-Some.ensures.shorter);
    })

pub behind_literal-returns : goal.behind_literal-returns
behind_literal-returns t c = made _ c.literal.result c.literal.ensures (λ g. record { tree = literal c.args.lit c.args.span; reads = (None, by.no_fby c.in_default.ensures.read, refl); put = g; shorter = omega arith })

pub form-returns-in_err-rest : goal.form-returns-in_err-rest
form-returns-in_err-rest t c =
    goes_out _ (UnfitOperand c.in-Some.rest.now) _ c.from_residual.result c.from_residual.ensures.1 c.in_err-rest.ensures (λ rest u. by.negation_2 c.in-Some.ensures.read.1 u.operand)

pub form-returns-in-Some : goal.form-returns-in-Some
form-returns-in-Some t c =
    let s = c.in-Some.ensures.read in
    let p = c.in_ok-rest.ensures in
    made _ c.operator.result c.operator.ensures
    (λ g. record {
      tree = operator op.Not (more p.tree no_more) c.in-Some.span;
      reads = as_value (ap (operator op.Not (more p.tree no_more)) s.2) (by.negation s.1 p.reads.operand);
      put = g _ (p.tree ∷ []) refl p.put;
      shorter = omega (arith, p.shorter, c.in-Some.ensures.shorter);
    })

pub form-returns-in-Some-take : goal.form-returns-in-Some-take
form-returns-in-Some-take t c =
    let s = c.in-Some-take.ensures.read in
    hands _ _ c.buffered.result c.buffered.ensures (omega (arith, c.in-Some-take.ensures.shorter)) (λ e rest r. as_value (r.2 ∙ ap (buffered r.0.0 r.0.1) s.2) (by.buffer s.1 r.1)) (λ rest u. by.buffer_2 s.1 u)

pub form-returns-in_err-word : goal.form-returns-in_err-word
form-returns-in_err-word t c =
    goes_out _ (IsOther c.in-Some-take-2.rest.now kind.Word) _ c.from_residual-in_err-word.result c.from_residual-in_err-word.ensures.1 c.in_err-word.ensures.refused (λ rest u. by.merge_2 c.in-Some-take-2.ensures.read.1 u)

pub form-returns-in_err-rest-2 : goal.form-returns-in_err-rest-2
form-returns-in_err-rest-2 t c =
    goes_out _ (Unfit Part.Small c.in_ok-word.rest.now) _ c.from_residual-in_err-rest-2.result c.from_residual-in_err-rest-2.ensures.1 c.in_err-rest-2.ensures (λ rest u. by.merge_3 c.in-Some-take-2.ensures.read.1 c.in_ok-word.ensures.ok u)

pub form-returns-in_err-rest-3 : goal.form-returns-in_err-rest-3
form-returns-in_err-rest-3 t c =
    goes_out _ (Unfit Part.Small c.in_ok-rest-2.rest.now) _ c.from_residual-in_err-rest-3.result c.from_residual-in_err-rest-3.ensures.1 c.in_err-rest-3.ensures
    (λ rest u. by.merge_4 c.in-Some-take-2.ensures.read.1 c.in_ok-word.ensures.ok c.in_ok-rest-2.ensures.reads u)

pub form-returns-in-Some-take-2 : goal.form-returns-in-Some-take-2
form-returns-in-Some-take-2 t c =
    let s = c.in-Some-take-2.ensures.read in
    let w = c.in_ok-word.ensures in
    let a = c.in_ok-rest-2.ensures in
    let b = c.in_ok-rest-3.ensures in
    let word = token_word c.in_ok-word.word.now.what in
    made _ c.merged.result c.merged.ensures
    (λ g. record {
      tree = merged word a.tree b.tree c.in-Some-take-2.span;
      reads = as_value (ap (merged word a.tree b.tree) s.2) (by.merge s.1 w.ok a.reads b.reads);
      put = g _ a.tree b.tree (over a.put b.put);
      shorter = omega (arith, b.shorter, a.shorter, w.shorter, c.in-Some-take-2.ensures.shorter);
    })

pub form-returns : goal.form-returns
form-returns t c =
    let bare : by.IsBare c.args.ts.now = (c.in_default.ensures.read, (c.in_default-take.ensures.read, (c.in_default-take-2.ensures.read, tt))) in
    hands _ _ c.atom.result c.atom.ensures (omega arith) (λ e rest r. by.bare bare r) (λ rest u. by.bare_1 bare u)

pub buffered-returns-in_err-rest : goal.buffered-returns-in_err-rest
buffered-returns-in_err-rest t c =
    let b = c.in-Some.ensures.read in
    goes_out _ (UnfitEnclosed (mark.Open ∷ []) c.in-Some.rest.now) _ c.from_residual.result c.from_residual.ensures.1 c.in_err-rest.ensures (λ rest u. parts.held_no b.1 b.2 b.4 u)

pub buffered-returns-in-Some : goal.buffered-returns-in-Some
buffered-returns-in-Some t c =
    let b = c.in-Some.ensures.read in
    let p = c.in_ok-rest.ensures in
    let h = parts.held b.1 b.2 p.reads in
    made _ c.buffered.result c.buffered.ensures
    (λ g. record {
      tree = buffered (Some c.in-Some.most) h.0 c.args.span;
      reads = ((Some (token_bound b.0.what), h.0), h.2, ap (λ (n : ℕ). buffered (Some n) h.0 c.args.span) b.3);
      put = g _ h.0 (lies_as p.put h.1);
      shorter = omega (arith, p.shorter, c.in-Some.ensures.shorter);
    })

pub buffered-returns-in_err-rest-2 : goal.buffered-returns-in_err-rest-2
buffered-returns-in_err-rest-2 t c =
    goes_out _ (UnfitOperand c.args.ts.now) _ c.from_residual-in_err-rest-2.result c.from_residual-in_err-rest-2.ensures.1 c.in_err-rest-2.ensures (λ rest u. u.behind_buffer c.in_default.ensures.read)

pub buffered-returns : goal.buffered-returns
buffered-returns t c =
    let p = c.in_ok-rest-2.ensures in
    made _ c.buffered-2.result c.buffered-2.ensures
    (λ g. record { tree = buffered None p.tree c.args.span; reads = ((None, p.tree), p.reads.behind_buffer c.in_default.ensures.read, refl); put = g _ p.tree p.put; shorter = p.shorter })

pub atom-returns-then-at_applied : goal.atom-returns-then-at_applied
atom-returns-then-at_applied t c =
    let begun = c.at_applied.ensures.0 c.if-at_applied.true in
    hands _ _ c.applied.result c.applied.ensures (omega (arith, c.in-Some.ensures.shorter)) (λ e rest r. as_value r.2 (by.name (Some r.0) c.in-Some.ensures.read (begun, r.1))) (λ rest u. by.name_2 c.in-Some.ensures.read (begun, u))

pub atom-returns-in-Some : goal.atom-returns-in-Some
atom-returns-in-Some t c =
    made _ c.variable.result c.variable.ensures
    (λ g. record { tree = variable (token_name c.in-Some.name.now); reads = by.name None c.in-Some.ensures.read (fails c.at_applied.ensures.1 c.if-at_applied.false, refl); put = g; shorter = c.in-Some.ensures.shorter })

pub atom-returns-in_err-name : goal.atom-returns-in_err-name
atom-returns-in_err-name t c =
    goes_out _ (IsOther c.in-Some-take.rest.now kind.Name) _ c.from_residual.result c.from_residual.ensures.1 c.in_err-name.ensures.refused (λ rest u. by.hosted_2 c.in-Some-take.ensures.read.1 u)

pub atom-returns-in_err-rest : goal.atom-returns-in_err-rest
atom-returns-in_err-rest t c =
    goes_out _ (UnfitEnclosed (mark.Open ∷ mark.Comma ∷ []) c.in_ok-name.rest.now) _ c.from_residual-in_err-rest.result c.from_residual-in_err-rest.ensures.1 c.in_err-rest.ensures
    (λ rest u. by.hosted_3 c.in-Some-take.ensures.read.1 c.in_ok-name.ensures.ok (parts.pair_no c.in_ok-name.rest.now rest u))

pub atom-returns-in-Some-take : goal.atom-returns-in-Some-take
atom-returns-in-Some-take t c =
    let p = c.in_ok-rest.ensures in
    let two_of = parts.pair p.reads in
    made _ c.hosted.result c.hosted.ensures
    (λ g. record {
      tree = host (token_name c.in_ok-name.name.now) (two two_of.0 two_of.1);
      reads = by.hosted c.in-Some-take.ensures.read.1 c.in_ok-name.ensures.ok two_of.3;
      put = g _ two_of.0 two_of.1 (lies_as p.put two_of.2);
      shorter = omega (arith, p.shorter, c.in_ok-name.ensures.shorter, c.in-Some-take.ensures.shorter);
    })

pub atom-returns : goal.atom-returns
atom-returns t c =
    let name : first c.args.ts.now ≡ kind.Name → ⊥ = λ e. let end = c.in_default.ensures.read e in cc in
    hands_only _ _ _ c.enclosed-2.result c.enclosed-2.ensures
    (λ es rest r. let i = parts.in_parens r in (i.e, i.is, by.parens i.from i.inner i.to))
    (λ rest u. parts.atom_inner_no c.args.ts.now rest name c.in_default-take.ensures.read u)

pub small-returns-in-Some : goal.small-returns-in-Some
small-returns-in-Some t c =
    let l = c.in-Some.ensures.read in
    made _ c.literal-in-Some.result c.literal-in-Some.ensures (λ g. record { tree = literal c.in-Some.lit c.in-Some.span; reads = by.small_literal l.begun l.reads; put = g; shorter = c.in-Some.ensures.shorter })

pub small-returns-in-Some-next : goal.small-returns-in-Some-next
small-returns-in-Some-next t c =
    made _ c.variable.result c.variable.ensures (λ g. record { tree = variable (token_name c.in-Some-next.name.now); reads = by.small_name c.in-Some-next.ensures.read; put = g; shorter = c.in-Some-next.ensures.shorter })

pub small-returns : goal.small-returns
small-returns t c =
    let name : first c.args.ts.now ≡ kind.Name → ⊥ = λ e. let end = c.in_default-next.ensures.read e in cc in
    hands_only _ _ _ c.enclosed.result c.enclosed.ensures
    (λ es rest r. let i = parts.in_parens r in (i.e, i.is, by.small_parens i.from i.inner i.to))
    (λ rest u. parts.small_inner_no c.args.ts.now rest c.in_default.ensures.read name u)

pub applied-returns-in_err-base : goal.applied-returns-in_err-base
applied-returns-in_err-base t c =
    goes_out _ (UnfitOptional Part.Base c.args.ts.now) _ c.from_residual.result c.from_residual.ensures.1 c.in_err-base.ensures.refused (λ rest u. by.applied_1 u)

pub applied-returns-in_err-rest : goal.applied-returns-in_err-rest
applied-returns-in_err-rest t c =
    goes_out _ (IsOther c.in_ok-base.rest.now (kind.Mark mark.Open)) _ c.from_residual-in_err-rest.result c.from_residual-in_err-rest.ensures.1 c.in_err-rest.ensures.refused (λ rest u. parts.applied_2 _ c.in_ok-base.ensures.ok u)

pub applied-returns-in_err-rest-2 : goal.applied-returns-in_err-rest-2
applied-returns-in_err-rest-2 t c =
    goes_out _ (UnfitOptional Part.Args c.in_ok-rest.rest.now) _ c.from_residual-in_err-rest-2.result c.from_residual-in_err-rest-2.ensures.1 c.in_err-rest-2.ensures
    (λ rest u. parts.applied_3 _ c.in_ok-base.ensures.ok c.in_ok-rest.ensures.ok.1 u)

pub applied-returns-in_err-rest-3 : goal.applied-returns-in_err-rest-3
applied-returns-in_err-rest-3 t c =
    let p = c.in_ok-rest-2.ensures in
    goes_out _ (IsOther c.in_ok-rest-2.rest.now (kind.Mark mark.Close)) _ c.from_residual-in_err-rest-3.result c.from_residual-in_err-rest-3.ensures.1 c.in_err-rest-3.ensures.refused
    (λ rest u. parts.applied_4 _ p.reads.0 c.in_ok-base.ensures.ok c.in_ok-rest.ensures.ok.1 p.reads.1 u)

pub applied-called-requires-clause-within : goal.applied-called-requires-clause-within
applied-called-requires-clause-within t c = omega (arith, c.len-from.ensures, higher c.in_ok-rest-2.ensures.put)

pub applied-returns : goal.applied-returns
applied-returns t c =
    let p = c.in_ok-rest-2.ensures in
    let at = base_word c.in_ok-base.base in
    made _ c.called.result c.called.ensures
    (λ g. record {
      tree = call (token_name c.args.name.now) at (trees_of p.list);
      reads = ((at, unwrap_or p.reads.0 no_more), by.applied at p.reads.0 c.in_ok-base.ensures.ok c.in_ok-rest.ensures.ok.1 p.reads.1 c.in_ok-rest-3.ensures.ok.1, ap (call (token_name c.args.name.now) at) p.reads.2);
      put = g _ p.list (omega (arith, c.len-from.ensures, higher p.put)) p.put;
      shorter = omega (arith, c.in_ok-rest-3.ensures.shorter, p.shorter, c.in_ok-rest.ensures.shorter, c.in_ok-base.ensures.shorter);
    })

pub args-returns-then-not-at_expr : goal.args-returns-then-not-at_expr
args-returns-then-not-at_expr t c = puts_none (None, (fails c.at_expr.ensures.1 c.if-not-at_expr.true, refl), refl) (omega arith)

pub args-returns-in_err-over : goal.args-returns-in_err-over
args-returns-in_err-over t c =
    goes_out _ (Unfit Part.Expr c.args.ts.now) _ c.from_residual.result c.from_residual.ensures.1 c.in_err-over.ensures (λ rest u. (c.at_expr.ensures.0 c.if-not-at_expr.false, grown_bad args u))

pub args-more-init : goal.args-more-init
args-more-init t c =
    let p = c.in_ok-over.ensures in
    record { list = p.tree ∷ []; reads = grown_first args refl p.reads p.shorter; put = p.put; shorter = p.shorter }

pub args-returns-in_err-over-2 : goal.args-returns-in_err-over-2
args-returns-in_err-over-2 t c =
    goes_out _ (Unfit Part.Expr c.in-Some.rest.now) _ c.from_residual-in_err-over-2.result c.from_residual-in_err-over-2.ensures.1 c.in_err-over-2.ensures
    (λ rest u. (c.at_expr.ensures.0 c.if-not-at_expr.false, grown_refused args c.more.invariant.reads (begun c.more.over.now one_expr (is_first c.in-Some.ensures.read.1)) (by.more_expr_2 c.in-Some.ensures.read.1 u)))

pub args-more-preserved : goal.args-more-preserved
args-more-preserved t c =
    let i = c.more.invariant in
    let p = c.in_ok-over-2.ensures in
    let less : length c.in_ok-over-2.over.now < length c.more.over.now = omega (arith, p.shorter, c.in-Some.ensures.shorter) in
    let same = ap (λ u. trees_of (u ++ p.tree ∷ [])) (sym (list_of-trees_of i.list)) in
    record {
      list = i.list ++ p.tree ∷ [];
      reads = grown_more args i.reads same (begun c.more.over.now one_expr (is_first c.in-Some.ensures.read.1)) (by.more_expr c.in-Some.ensures.read.1 p.reads) less;
      put = over i.put p.put;
      shorter = omega (arith, i.shorter, less);
    }

pub args-returns : goal.args-returns
args-returns t c =
    let i = c.more.invariant in
    puts_all_as i (omega arith) (λ r. (Some (trees_of i.list), (c.at_expr.ensures.0 c.if-not-at_expr.false, grown_ended args r (unbegun c.more.over.now one_expr c.in_default.ensures.read)), refl))
