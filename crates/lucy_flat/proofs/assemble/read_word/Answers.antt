use Rattle.std.proofs.Common.{◌≡◌, sym, subst, inl, inr}
use Rattle.std.specs.Prelude.{◌⊎◌}
use Rattle.std.proofs.lemmas.Result.{IfOk-weaker, IfErr-weaker}
use Rattle.lucy_word.specs.Sampling.{IsOn, IsOnTooLong}
use Rattle.lucy_word.specs.declared.limit.Limit.TheVariants as lim
use Rattle.lucy_flat.specs.declared.error.FlatError.TheVariants as err
use Rattle.lucy_flat.specs.Assembly.{IsReadOn, ReadsTooLong}
use Rattle.lucy_flat.proofs.AssemblyLaws.{read_other, long_other, long_back}
use Rattle.lucy_flat.proofs.KindLaws.{reads_else, short_else}
use Rattle.lucy_flat.proofs.assemble.read_word.Goals as goal

pub returns-in_ok-other-in-Merge-2-clause-ok : goal.returns-in_ok-other-in-Merge-2-clause-ok
returns-in_ok-other-in-Merge-2-clause-ok c =
    let own = c.args.taker.now.word in
    IfOk-weaker c.sampled-in-Merge-2.result (IsOn own c.in_ok-other-in-Merge-2.other) (IsReadOn c.args.taker.now.kind c.args.operand own c.args.write.now)
    (λ w is. read_other c.args.taker.now.kind c.args.operand c.in-Merge-2.word own c.args.write.now w c.in-Merge-2.is c.if-operand-eq0.false (subst (λ v. IsOn own v w) c.in_ok-other-in-Merge-2.ensures.is is))
    c.sampled-in-Merge-2.ensures.ok

pub returns-in_ok-other-in-Merge-2-clause-fits : goal.returns-in_ok-other-in-Merge-2-clause-fits
returns-in_ok-other-in-Merge-2-clause-fits c =
    let own = c.args.taker.now.word in
    IfOk-weaker c.sampled-in-Merge-2.result (λ w. IsOnTooLong own c.in_ok-other-in-Merge-2.other → ⊥) (λ w. ReadsTooLong c.args.taker.now.kind c.args.operand own → ⊥)
    (λ w no is. no (subst (IsOnTooLong own) (sym c.in_ok-other-in-Merge-2.ensures.is) (long_back c.args.taker.now.kind c.args.operand c.in-Merge-2.word own c.in-Merge-2.is c.if-operand-eq0.false is)))
    c.sampled-in-Merge-2.ensures.fits

pub returns-in_ok-other-in-Merge-2-clause-refused : goal.returns-in_ok-other-in-Merge-2-clause-refused
returns-in_ok-other-in-Merge-2-clause-refused c =
    let own = c.args.taker.now.word in
    IfErr-weaker c.sampled-in-Merge-2.result (λ e. (e ≡ err.OutOfMemory) ⊎ ((e ≡ err.Limit lim.Word) × IsOnTooLong own c.in_ok-other-in-Merge-2.other))
    (λ e. (e ≡ err.OutOfMemory) ⊎ ((e ≡ err.Limit lim.Word) × ReadsTooLong c.args.taker.now.kind c.args.operand own))
    (λ e why. elim why [
      | inl l ↦ inl l
      | inr r ↦ inr (r.0, long_other c.args.taker.now.kind c.args.operand c.in-Merge-2.word own c.in-Merge-2.is c.if-operand-eq0.false (subst (IsOnTooLong own) c.in_ok-other-in-Merge-2.ensures.is r.1))
    ])
    c.sampled-in-Merge-2.ensures.refused

pub returns-in_ok-copy-in_default-clause-ok : goal.returns-in_ok-copy-in_default-clause-ok
returns-in_ok-copy-in_default-clause-ok c =
    let kind = c.args.taker.now.kind in
    let own = c.args.taker.now.word in
    subst (IsReadOn kind c.args.operand own c.args.write.now) (sym c.in_ok-copy-in_default.ensures.equal) (reads_else c.args.operand own kind c.args.write.now c.in_default.not-When c.in_default.not-Merge)

pub returns-in_ok-copy-in_default-clause-fits : goal.returns-in_ok-copy-in_default-clause-fits
returns-in_ok-copy-in_default-clause-fits c = short_else c.args.operand c.args.taker.now.word c.args.taker.now.kind c.in_default.not-Merge
