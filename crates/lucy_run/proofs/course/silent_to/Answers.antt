use Rattle.std.proofs.Common.{◌≡◌, refl, sym, ◌∙◌, subst, ap, inl, inr, arith}
use Rattle.std.specs.Prelude.{slice_get}
use Rattle.std.proofs.lemmas.Bool.{cases_lt}
use Rattle.std.proofs.lemmas.Option.{same_Some, slice_get_read, slice_get_within}
use Rattle.lucy_word.specs.Bits.{ones_to}
use Rattle.lucy_lines.specs.declared.output.OutputSpec.{OutputSpec}
use Rattle.lucy_run.proofs.SilentLaws.{still_earlier}
use Rattle.lucy_run.proofs.course.silent_to.Goals as goal

pub each-preserved : goal.each-preserved
each-preserved c =
    let x = c.each.invariant in
    let now = c.still_to-last.ensures in
    let there = slice_get_read c.args.outputs.now _ c.each.output-index c.output-item.result refl c.each-test.true c.output-item.is in
    record {
      from = now.from;
      most = omega (arith, now.most, x.most);
      silent = λ i o m e. elim (cases_lt i c.each.output-index) [
        | inl before ↦ still_earlier o.word c.args.from c.still_to-last.result c.each.last now.from now.most (x.silent i o before e)
        | inr last ↦
            let here : i ≡ c.each.output-index = omega arith in
            let one : c.output-item.result ≡ o = same_Some c.output-item.result o (sym there ∙ ap (slice_get c.args.outputs.now) (sym here) ∙ e) in
            subst (λ (p : OutputSpec). ones_to p.word c.still_to-last.result ≡ ones_to p.word c.args.from) one (now.still c.still_to-last.result now.from (omega arith))
      ];
    }

pub returns-clause-silent : goal.returns-clause-silent
returns-clause-silent c = λ i o e.
    let within = slice_get_within c.args.outputs.now i o e in
    c.each.invariant.silent i o (omega (arith, within, c.each-test.false)) e
