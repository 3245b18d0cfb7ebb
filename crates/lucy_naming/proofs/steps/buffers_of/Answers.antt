use Rattle.std.proofs.Common.{sym, ap, ◌∙◌}
use Rattle.lucy_naming.specs.Phrases.{expr_phrase}
use Rattle.lucy_naming.specs.Drafts.{buffers_of}
use Rattle.lucy_naming.proofs.PhraseLaws.{phrase_buffered, phrase_literal, phrase_variable, phrase_operated, phrase_hosted, phrase_sampled, phrase_merged, phrase_followed, phrase_called}
use Rattle.lucy_naming.proofs.steps.buffers_of.Goals as goal

pub returns-in-Buffer : goal.returns-in-Buffer
returns-in-Buffer c = sym (ap (λ e. buffers_of (expr_phrase e)) c.in-Buffer.is ∙ ap buffers_of (phrase_buffered _ _ _))

pub returns-in-Lit : goal.returns-in-Lit
returns-in-Lit c = sym (ap (λ e. buffers_of (expr_phrase e)) c.in-Lit.is ∙ ap buffers_of (phrase_literal _ _))

pub returns-in-Var : goal.returns-in-Var
returns-in-Var c = sym (ap (λ e. buffers_of (expr_phrase e)) c.in-Var.is ∙ ap buffers_of (phrase_variable _))

pub returns-in-Op : goal.returns-in-Op
returns-in-Op c = sym (ap (λ e. buffers_of (expr_phrase e)) c.in-Op.is ∙ ap buffers_of (phrase_operated _ _ _))

pub returns-in-Host : goal.returns-in-Host
returns-in-Host c = sym (ap (λ e. buffers_of (expr_phrase e)) c.in-Host.is ∙ ap buffers_of (phrase_hosted _ _))

pub returns-in-When : goal.returns-in-When
returns-in-When c = sym (ap (λ e. buffers_of (expr_phrase e)) c.in-When.is ∙ ap buffers_of (phrase_sampled _ _ _))

pub returns-in-Merge : goal.returns-in-Merge
returns-in-Merge c = sym (ap (λ e. buffers_of (expr_phrase e)) c.in-Merge.is ∙ ap buffers_of (phrase_merged _ _ _ _))

pub returns-in-Fby : goal.returns-in-Fby
returns-in-Fby c = sym (ap (λ e. buffers_of (expr_phrase e)) c.in-Fby.is ∙ ap buffers_of (phrase_followed _ _ _))

pub returns-in-Call : goal.returns-in-Call
returns-in-Call c = sym (ap (λ e. buffers_of (expr_phrase e)) c.in-Call.is ∙ ap buffers_of (phrase_called _ _ _))
