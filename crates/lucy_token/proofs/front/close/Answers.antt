use Rattle.std.proofs.Common.{sym, ◌∙◌, arith}
use Rattle.lucy_token.proofs.Comments.{close-step}
use Rattle.lucy_token.proofs.front.close.Goals as goal

pub bytes-preserved : goal.bytes-preserved
bytes-preserved c = record {
  value = close-step c.bytes.n c.in-Some.c.now c.in-Some.more.now c.bytes.rest.now c.args.text.now c.in-Some.ensures.cases.0 (sym c.closes.ensures ∙ c.if-closes.false) c.bytes.invariant.value;
  within = omega (arith, c.in-Some.ensures.cases.1, c.bytes.invariant.within);
}
