use Rattle.std.proofs.Common.{◌≡◌, ◌+◌, ◌∷◌, drop, arith, ap, ◌∙◌, sym, subst}
use Rattle.lucy_token.specs.declared.front.Front.TheVariants.{Gap}
use Rattle.lucy_token.specs.States.{ScanState, after}
use Rattle.lucy_token.specs.Steps.{IsReadToken, IsBounded}
use Rattle.lucy_token.specs.Scans.{scanned_front}
use Rattle.lucy_token.proofs.CutSteps.{at_rest, rest_some, gap_bounds, token_bounds, passed_gap, passed_token, passed_last, passed_fault, passed_all}
use Rattle.lucy_token.proofs.Bounds.{after_bounded, bounded_more}
use Rattle.lucy_token.proofs.scan.tokens.Goals as goal

pub overflow_add-from : goal.overflow_add-from
overflow_add-from c =
    let k = c.text.invariant.here in
    let h : scanned_front k.0 (drop c.text.from c.args.text.now) ≡ Gap c.in-Gap.n = at_rest _ _ _ _ _ _ c.skip.ensures c.in-Gap.is (c.next_step.ensures k.0 k.1) in
    let b = gap_bounds c.text.from k.0 c.args.text.now c.in-Gap.n c.text-test.true h in
    omega (arith, b.1, c.requires)

pub text-smaller-in-Gap : goal.text-smaller-in-Gap
text-smaller-in-Gap c =
    let k = c.text.invariant.here in
    let h : scanned_front k.0 (drop c.text.from c.args.text.now) ≡ Gap c.in-Gap.n = at_rest _ _ _ _ _ _ c.skip.ensures c.in-Gap.is (c.next_step.ensures k.0 k.1) in
    let b = gap_bounds c.text.from k.0 c.args.text.now c.in-Gap.n c.text-test.true h in
    omega (arith, b.0, b.1)

pub text-preserved-in-Gap : goal.text-preserved-in-Gap
text-preserved-in-Gap c =
    let k = c.text.invariant.here in
    let h : scanned_front k.0 (drop c.text.from c.args.text.now) ≡ Gap c.in-Gap.n = at_rest _ _ _ _ _ _ c.skip.ensures c.in-Gap.is (c.next_step.ensures k.0 k.1) in
    let b = gap_bounds c.text.from k.0 c.args.text.now c.in-Gap.n c.text-test.true h in
    record {
      within = b.1;
      here = (k.0, k.1, passed_gap c.args.text.now c.text.list.items c.text.from k.0 c.in-Gap.n k.2 (rest_some c.args.text.now c.text.from c.text-test.true) h);
      bounded = bounded_more c.text.from (c.text.from + c.in-Gap.n) c.text.context (omega arith) c.text.invariant.bounded;
    }

pub text-smaller : goal.text-smaller
text-smaller c =
    let k = c.text.invariant.here in
    let h : IsReadToken c.text.from k.0 (drop c.text.from c.args.text.now) c.in-Token.token c.in-Token.kind c.in-Token.n = at_rest _ _ _ _ _ _ c.skip.ensures c.in-Token.is (c.next_step.ensures k.0 k.1) in
    let b = token_bounds c.text.from k.0 c.args.text.now c.in-Token.kind c.in-Token.n c.text-test.true h.front in
    omega (arith, b.0, b.1)

pub text-preserved : goal.text-preserved
text-preserved c =
    let k = c.text.invariant.here in
    let h : IsReadToken c.text.from k.0 (drop c.text.from c.args.text.now) c.in-Token.token c.in-Token.kind c.in-Token.n = at_rest _ _ _ _ _ _ c.skip.ensures c.in-Token.is (c.next_step.ensures k.0 k.1) in
    let b = token_bounds c.text.from k.0 c.args.text.now c.in-Token.kind c.in-Token.n c.text-test.true h.front in
    let Q : ScanState → Type 0 = IsBounded (c.text.from + c.in-Token.n) in
    record {
      within = b.1;
      here = (
        c.in-Token.kind ∷ k.0,
        c.in_ok-pass-in-Token.ensures ∙ ap (λ s. after s c.in-Token.kind) k.1,
        passed_token c.args.text.now c.text.list.items c.push.new.self.items c.text.from k.0 c.in-Token.token c.in-Token.kind c.in-Token.n k.2
            (rest_some c.args.text.now c.text.from c.text-test.true) h c.in_ok-push-in-Token.ensures.items,
      );
      bounded = subst Q (sym c.in_ok-pass-in-Token.ensures) (bounded_more (c.text.from + 1) (c.text.from + c.in-Token.n) _ (omega (arith, b.0)) (after_bounded c.text.from c.text.context c.in-Token.kind c.text.invariant.bounded));
    }

pub returns : goal.returns
returns c = let k = c.text.invariant.here in passed_all c.args.text.now c.text.list.items c.text.from k.0 k.2 c.text-test.false

pub returns-in-Last : goal.returns-in-Last
returns-in-Last c =
    let k = c.text.invariant.here in
    passed_last c.args.text.now c.text.list.items c.push-in-Last.new.self.items c.text.from k.0 c.in-Last.token c.in-Last.error k.2
    (at_rest _ _ _ _ _ _ c.skip.ensures c.in-Last.is (c.next_step.ensures k.0 k.1)) c.in_ok-push-in-Last.ensures.items

pub returns-in-Stopped : goal.returns-in-Stopped
returns-in-Stopped c =
    let k = c.text.invariant.here in
    passed_fault c.args.text.now c.text.list.items c.text.from k.0 c.in-Stopped.error k.2
    (at_rest _ _ _ _ _ _ c.skip.ensures c.in-Stopped.is (c.next_step.ensures k.0 k.1))
