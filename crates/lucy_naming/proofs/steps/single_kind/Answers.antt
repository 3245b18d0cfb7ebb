use Rattle.std.proofs.Common.{◌∷◌, [], subst, ap, sym, ◌∙◌}
use Rattle.lucy_tree.specs.Shaped.{IsShaped}
use Rattle.lucy_tree.specs.View.{tree_of}
use Rattle.lucy_tree.proofs.Trees.{tree_sampled}
use Rattle.lucy_place.specs.declared.entry.PlaceKind.TheVariants as kinds
use Rattle.lucy_naming.specs.Phrases.{expr_phrase}
use Rattle.lucy_naming.specs.Drafts.{kind_of}
use Rattle.lucy_naming.proofs.PhraseLaws.{phrase_sampled, phrase_followed, phrase_buffered}
use Rattle.lucy_naming.proofs.OperandLaws.{not_single}
use Rattle.lucy_naming.proofs.steps.single_kind.Goals as goal

pub sampling_word-requires : goal.sampling_word-requires
sampling_word-requires c = record { zero = (subst IsShaped (ap tree_of c.in-When.is ∙ tree_sampled _ _ _) c.requires.shaped).0 }

pub returns-in_ok-sampling_word-in-When : goal.returns-in_ok-sampling_word-in-When
returns-in_ok-sampling_word-in-When c = λ k.
    ap (kinds.When c.args.operand) c.in_ok-sampling_word-in-When.ensures ∙ sym (ap (λ e. kind_of k c.args.buffer (expr_phrase e) (c.args.operand ∷ [])) c.in-When.is ∙ ap (λ f. kind_of k c.args.buffer f (c.args.operand ∷ [])) (phrase_sampled _ _ _))

pub returns-in-Fby : goal.returns-in-Fby
returns-in-Fby c = λ k. sym (ap (λ e. kind_of k c.args.buffer (expr_phrase e) (c.args.operand ∷ [])) c.in-Fby.is ∙ ap (λ f. kind_of k c.args.buffer f (c.args.operand ∷ [])) (phrase_followed _ _ _))

pub returns-in-Buffer : goal.returns-in-Buffer
returns-in-Buffer c = λ k. sym (ap (λ e. kind_of k c.args.buffer (expr_phrase e) (c.args.operand ∷ [])) c.in-Buffer.is ∙ ap (λ f. kind_of k c.args.buffer f (c.args.operand ∷ [])) (phrase_buffered _ _ _))

pub unreachable-requires : goal.unreachable-requires
unreachable-requires c = not_single c.args.expr.now c.in_default.not-When c.in_default.not-Fby c.in_default.not-Buffer c.requires.single
