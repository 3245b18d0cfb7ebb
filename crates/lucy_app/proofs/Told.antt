-- A refusal by a phase is told as a refusal of the program.
use Rattle.lucy_program.specs.declared.options.Options.{Options}
use Rattle.std.proofs.Common.{ℕ, ◌≡◌, ◌⊎◌, List, refl, ap, sym, subst, inl, inr}
use Rattle.lucy_text.specs.declared.shelf.ShelfError.{ShelfError}
use Rattle.lucy_text.specs.declared.shelf.ShelfError.TheVariants as shelf
use Rattle.lucy_host.specs.Operators.{Operator}
use Rattle.lucy_tree.specs.View.{ProgramTree}
use Rattle.lucy_token.specs.declared.stop.SyntaxError.{SyntaxError}
use Rattle.lucy_token.specs.declared.stop.SyntaxError.TheVariants as syntax
use Rattle.lucy_grammar.specs.Texts.{HasTree, IsRefused}
use Rattle.lucy_naming.specs.declared.error.NameError.{NameError}
use Rattle.lucy_naming.specs.declared.error.NameError.TheVariants as names
use Rattle.lucy_naming.specs.Faults.{faults}
use Rattle.lucy_naming.specs.Placing.{TellsFirstFault}
use Rattle.lucy_front.specs.declared.refusal.Refusal.{Refusal as Reason}
use Rattle.lucy_front.specs.declared.refusal.Refusal.TheVariants as front
use Rattle.lucy_front.specs.Refusing.{Refuses, syntax_refusal, names_refusal, RefusesSyntax, RefusesText}
use Rattle.lucy_front.specs.Refusals.{IsTellable}
use Rattle.lucy_front.proofs.TellableLaws.{tellable}
use Rattle.lucy_app.specs.Commands.{written_options}
use Rattle.lucy_app.specs.Check.{RefusesCheck}
use Rattle.lucy_app.specs.Outcomes.{RefusesProgram, RefusesInput, Tellable, fetch_refusal, program_refusal}
use Rattle.lucy_app.specs.declared.input_refusal.InputCause.{InputCause}
use Rattle.lucy_app.specs.declared.refusal.Refusal.{Refusal}
use Rattle.lucy_app.proofs.Typed.{text_phases}

-- a refusal of a syntax
pub syntax_told : (text : List ℕ) (e : SyntaxError) → (e ≡ syntax.OutOfMemory) ⊎ IsRefused text e → RefusesProgram (RefusesSyntax text) (program_refusal (syntax_refusal e))
syntax_told text e (inl out) = inl (ap (λ x. program_refusal (syntax_refusal x)) out)
syntax_told text (syntax.Unexpected place) (inr is) = inr (_, is, refl)
syntax_told text (syntax.BadNumber place) (inr is) = inr (_, is, refl)
syntax_told text (syntax.BadWord place) (inr is) = inr (_, is, refl)
syntax_told text (syntax.TooLarge l) (inr is) = inr (_, is, refl)
syntax_told text syntax.OutOfMemory (inr is) = inl refl

-- is one of a text for `types` too
syntax_of_text : (ops : List Operator) (text : List ℕ) (r : Reason) → RefusesSyntax text r → RefusesText ops text r
syntax_of_text ops text (front.Syntax e) h = h
syntax_of_text ops text (front.Limit l) h = inl h
syntax_of_text ops text r h = absurd h

pub text_told : (ops : List Operator) (text : List ℕ) (e : SyntaxError) → (e ≡ syntax.OutOfMemory) ⊎ IsRefused text e → RefusesProgram (RefusesText ops text) (program_refusal (syntax_refusal e))
text_told ops text e h = elim (syntax_told text e h) [ inl out ↦ inl out | inr why ↦ inr (why.0, syntax_of_text ops text why.0 why.1, why.2) ]

-- a refusal of names
pub names_told : (ops : List Operator) (text : List ℕ) (p : ProgramTree) (e : NameError) → HasTree text p → TellsFirstFault (faults ops p) e → RefusesProgram (RefusesText ops text) (program_refusal (names_refusal e))
names_told ops text p e tree (inl out) = inl (ap (λ x. program_refusal (names_refusal x)) out)
names_told ops text p (names.Unknown span) tree (inr is) = inr (_, (p, tree, is), refl)
names_told ops text p (names.Twice span) tree (inr is) = inr (_, (p, tree, is), refl)
names_told ops text p (names.NoResult span) tree (inr is) = inr (_, (p, tree, is), refl)
names_told ops text p (names.Arity span) tree (inr is) = inr (_, (p, tree, is), refl)
names_told ops text p (names.LaterNode span) tree (inr is) = inr (_, (p, tree, is), refl)
names_told ops text p (names.TooMany l) tree (inr is) = inr (_, inr (p, tree, is), refl)
names_told ops text p names.OutOfMemory tree (inr is) = inl refl

-- a refusal of acceptance
pub check_told : (ops : List Operator) (o : Options) (text : List ℕ) (r : Reason) → Refuses ops o text r → RefusesProgram (RefusesCheck ops o text) (program_refusal r)
check_told ops o text (front.Syntax e) h = inr (_, (h, λ is. cc is), refl)
check_told ops o text (front.Names e) h = inr (_, (h, λ is. cc is), refl)
check_told ops o text (front.Types placed node path) h = inr (_, (h, λ is. cc is), refl)
check_told ops o text (front.Node placed node fault) h = inr (_, (h, λ is. cc is), refl)
check_told ops o text (front.Cause net names instant items) h = inr (_, (h, λ is. cc is), refl)
check_told ops o text (front.Limit l) h = inr (_, (h, λ is. cc is), refl)
check_told ops o text front.OutOfMemory h = inl refl

-- what is told has a text
program_tellable : (Refuses : Reason → Type 0) (e : Refusal) → ((r : Reason) → Refuses r → IsTellable r) → RefusesProgram Refuses e → Tellable e
program_tellable Refuses e tells (inl out) = subst Tellable (sym out) tt
program_tellable Refuses e tells (inr why) = subst Tellable (sym why.2) (tells why.0 why.1)

show_tells : (text : List ℕ) (r : Reason) → RefusesSyntax text r → IsTellable r
show_tells text (front.Syntax e) h = tt
show_tells text (front.Limit l) h = tt
show_tells text r h = absurd h

pub show_tellable : (text : List ℕ) (e : Refusal) → RefusesProgram (RefusesSyntax text) e → Tellable e
show_tellable text e h = program_tellable (RefusesSyntax text) e (show_tells text) h

pub types_tellable : (ops : List Operator) (text : List ℕ) (e : Refusal) → RefusesProgram (RefusesText ops text) e → Tellable e
types_tellable ops text e h = program_tellable (RefusesText ops text) e (λ r is. tellable ops written_options text r (inl (text_phases ops text r is))) h

pub check_tellable : (ops : List Operator) (o : Options) (text : List ℕ) (e : Refusal) → RefusesProgram (RefusesCheck ops o text) e → Tellable e
check_tellable ops o text e h = program_tellable (RefusesCheck ops o text) e (λ r is. tellable ops o text r is.0) h

pub fetch_tellable : (e : ShelfError) → Tellable (fetch_refusal e)
fetch_tellable shelf.Failed = tt
fetch_tellable shelf.Missing = tt
fetch_tellable shelf.TooLong = tt
fetch_tellable shelf.OutOfMemory = tt

pub input_tellable : (Refuses : InputCause → Type 0) (e : Refusal) → RefusesInput Refuses e → Tellable e
input_tellable Refuses e (inl out) = subst Tellable (sym out) tt
input_tellable Refuses e (inr why) = subst Tellable (sym why.2) tt
