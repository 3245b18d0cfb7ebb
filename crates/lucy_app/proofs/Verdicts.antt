-- A text is printed in one way, or refused in ways that are alike.
use Rattle.std.proofs.Common.{ℕ, ◌≡◌, List, [], ap, sym, ◌∙◌, subst, inl, inr}
use Rattle.lucy_tree.specs.View.{ProgramTree}
use Rattle.lucy_host.specs.Operators.{Operator}
use Rattle.lucy_token.specs.declared.stop.SyntaxError.TheVariants as syntax
use Rattle.lucy_grammar.specs.Print.{program_text}
use Rattle.lucy_grammar.specs.Texts.{HasTree}
use Rattle.lucy_grammar.proofs.TextLaws.{one_program, tree_or_error}
use Rattle.lucy_front.specs.declared.refusal.Refusal.{Refusal}
use Rattle.lucy_front.specs.declared.refusal.Refusal.TheVariants.{Syntax, Limit as LimitPassed, OutOfMemory}
use Rattle.lucy_front.specs.Refusing.{RefusesPhases, RefusesSyntax}
use Rattle.lucy_front.specs.OneAnswer.{AreAlike}
use Rattle.lucy_front.proofs.OneAnswer.{one_refusal, syntax_refused}
use Rattle.lucy_app.specs.Commands.{written_options}
use Rattle.lucy_app.specs.Show.{IsPrintOf}

-- a text has one print, or none and refusals that are alike
pub record IsVerdict (Prints : List ℕ → List ℕ → Type 0) (Refuses : List ℕ → Refusal → Type 0) : Type 0 where
  pub one : (text print other : List ℕ) → Prints text print → Prints text other → print ≡ other
  pub apart : (text print : List ℕ) (refusal : Refusal) → Prints text print → Refuses text refusal → ⊥
  pub same : (text : List ℕ) (refusal other : Refusal) → Refuses text refusal → Refuses text other → AreAlike refusal other

-- refusals by phases, none of them for want of memory, are alike
pub phases_alike : (ops : List Operator) (Refuses : List ℕ → Refusal → Type 0) (text : List ℕ) (r s : Refusal) → ((x : Refusal) → Refuses text x → RefusesPhases ops written_options text x) → (Refuses text OutOfMemory → ⊥) →
    Refuses text r → Refuses text s → AreAlike r s
phases_alike ops Refuses text r s phases some h k =
    elim (one_refusal ops written_options text r s (phases r h) (phases s k)) [
      | inl e ↦ absurd (some (subst (Refuses text) e h))
      | inr (inl e) ↦ absurd (some (subst (Refuses text) e k))
      | inr (inr alike) ↦ alike
    ]

syntax_phases : (text : List ℕ) (r : Refusal) → RefusesSyntax text r → RefusesPhases [] written_options text r
syntax_phases text (Syntax e) h = h
syntax_phases text (LimitPassed l) h = inl (inl h)
syntax_phases text r h = absurd h

syntax_equal : (text : List ℕ) (r s : Refusal) → RefusesSyntax text r → AreAlike r s → r ≡ s
syntax_equal text (Syntax e) s h alike = alike
syntax_equal text (LimitPassed l) s h alike = alike
syntax_equal text r s h alike = absurd h

-- a text has no tree for one reason
pub one_syntax : (text : List ℕ) (r s : Refusal) → RefusesSyntax text r → RefusesSyntax text s → r ≡ s
one_syntax text r s h k = syntax_equal text r s h (phases_alike [] RefusesSyntax text r s (syntax_phases text) (λ out. out) h k)

-- a text that has a tree is not refused
tree_is_not_refused : (text : List ℕ) (p : ProgramTree) (r : Refusal) → HasTree text p → RefusesSyntax text r → ⊥
tree_is_not_refused text p (Syntax e) tree h = tree_or_error text p e tree (syntax_refused text e h)
tree_is_not_refused text p (LimitPassed l) tree h = tree_or_error text p (syntax.TooLarge l) tree h
tree_is_not_refused text p r tree h = absurd h

pub show_verdict : IsVerdict IsPrintOf RefusesSyntax
show_verdict = record {
  one = λ text print other a b. a.2 ∙ ap program_text (one_program text a.0 b.0 a.1 b.1) ∙ sym b.2;
  apart = λ text print refusal a is. tree_is_not_refused text a.0 refusal a.1 is;
  same = λ text r s h k. phases_alike [] RefusesSyntax text r s (syntax_phases text) (λ out. out) h k;
}
