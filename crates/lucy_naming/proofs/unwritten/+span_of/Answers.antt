use Rattle.std.proofs.Common.{sym, ap, ◌∙◌}
use Rattle.lucy_naming.specs.Phrases.{expr_phrase, span_of}
use Rattle.lucy_naming.proofs.PhraseLaws.{phrase_literal, phrase_variable, phrase_operated, phrase_hosted, phrase_merged, phrase_followed, phrase_buffered, phrase_called}
use Rattle.lucy_naming.proofs.unwritten.+span_of.Goals as goal

pub returns-in-Lit : goal.returns-in-Lit
returns-in-Lit t c = sym (ap (λ e. span_of (expr_phrase e)) c.in-Lit.is ∙ ap span_of (phrase_literal _ _))

pub returns-in-Var : goal.returns-in-Var
returns-in-Var t c = sym (ap (λ e. span_of (expr_phrase e)) c.in-Var.is ∙ ap span_of (phrase_variable _))

pub returns-in-Op : goal.returns-in-Op
returns-in-Op t c = sym (ap (λ e. span_of (expr_phrase e)) c.in-Op.is ∙ ap span_of (phrase_operated _ _ _))

pub returns-in-Host : goal.returns-in-Host
returns-in-Host t c = sym (ap (λ e. span_of (expr_phrase e)) c.in-Host.is ∙ ap span_of (phrase_hosted _ _))

pub returns-in-Merge : goal.returns-in-Merge
returns-in-Merge t c = sym (ap (λ e. span_of (expr_phrase e)) c.in-Merge.is ∙ ap span_of (phrase_merged _ _ _ _))

pub returns-in-Fby : goal.returns-in-Fby
returns-in-Fby t c = sym (ap (λ e. span_of (expr_phrase e)) c.in-Fby.is ∙ ap span_of (phrase_followed _ _ _))

pub returns-in-Buffer : goal.returns-in-Buffer
returns-in-Buffer t c = sym (ap (λ e. span_of (expr_phrase e)) c.in-Buffer.is ∙ ap span_of (phrase_buffered _ _ _))

pub returns-in-Call : goal.returns-in-Call
returns-in-Call t c = sym (ap (λ e. span_of (expr_phrase e)) c.in-Call.is ∙ ap span_of (phrase_called _ _ _))
