-- A refusal by a phase is told as a refusal of the program.
use Rattle.std.proofs.Common.{ℕ, ◌≡◌, ◌⊎◌, List, refl, ap, sym, subst, inl, inr}
use Rattle.lucy_word.specs.declared.limit.Limit.TheVariants as limit
use Rattle.lucy_host.specs.Operators.{Operator}
use Rattle.lucy_text.specs.declared.shelf.ShelfError.{ShelfError}
use Rattle.lucy_text.specs.declared.shelf.ShelfError.TheVariants as shelf
use Rattle.lucy_text.specs.Sources.{Unread}
use Rattle.lucy_tree.specs.View.{ProgramTree}
use Rattle.lucy_token.specs.declared.stop.SyntaxError.{SyntaxError}
use Rattle.lucy_token.specs.declared.stop.SyntaxError.TheVariants as syntax
use Rattle.lucy_grammar.specs.Texts.{HasTree, IsRefused}
use Rattle.lucy_naming.specs.declared.error.NameError.{NameError}
use Rattle.lucy_naming.specs.declared.error.NameError.TheVariants as names
use Rattle.lucy_naming.specs.Faults.{faults}
use Rattle.lucy_naming.specs.Placing.{TellsFirstFault}
use Rattle.lucy_program.specs.declared.options.Options.{Options}
use Rattle.lucy_front.specs.declared.refusal.Refusal.{Refusal}
use Rattle.lucy_front.specs.declared.refusal.Refusal.TheVariants as front
use Rattle.lucy_front.specs.Refusing.{Refuses, syntax_refusal, names_refusal}
use Rattle.lucy_front.specs.Refusals.{IsTellable}
use Rattle.lucy_app.specs.Check.{RefusesCheck}
use Rattle.lucy_app.specs.Programs.{OwesUnfetched}
use Rattle.lucy_views.specs.declared.failure.Failure.{Failure}
use Rattle.lucy_views.specs.declared.failure.Failure.TheVariants.{OutOfMemory}
use Rattle.lucy_views.specs.Owes.{RefusesNames}
use Rattle.lucy_views.specs.Failures.{RefusesProgram, Tellable, failure_answer, fetch_failure, program_failure}

-- a fetch that gave no text: memory ran out, or that is owed; of a text nothing is
pub fetch_owed : (e : ShelfError) →
    (fetch_failure e ≡ OutOfMemory) ⊎ ((OwesUnfetched limit.Text e (failure_answer (fetch_failure e)) × (Unread ≡ Unread)) ⊎ ⊥)
fetch_owed shelf.Failed = inr (inl (refl, refl))
fetch_owed shelf.Missing = inr (inl (refl, refl))
fetch_owed shelf.TooLong = inr (inl (refl, refl))
fetch_owed shelf.OutOfMemory = inl refl

-- a refusal of a syntax is one of acceptance
pub syntax_told : (ops : List Operator) (o : Options) (text : List ℕ) (e : SyntaxError) → (e ≡ syntax.OutOfMemory) ⊎ IsRefused text e →
    RefusesProgram (RefusesCheck ops o text) (program_failure (syntax_refusal e))
syntax_told ops o text e (inl out) = inl (ap (λ x. program_failure (syntax_refusal x)) out)
syntax_told ops o text (syntax.Unexpected place) (inr is) = inr (front.Syntax (syntax.Unexpected place), (inl is, λ out. cc out), refl)
syntax_told ops o text (syntax.BadNumber place) (inr is) = inr (front.Syntax (syntax.BadNumber place), (inl is, λ out. cc out), refl)
syntax_told ops o text (syntax.BadWord place) (inr is) = inr (front.Syntax (syntax.BadWord place), (inl is, λ out. cc out), refl)
syntax_told ops o text (syntax.TooLarge l) (inr is) = inr (front.Limit l, (inl (inl (inl is)), λ out. cc out), refl)
syntax_told ops o text syntax.OutOfMemory (inr is) = inl refl

-- and one of names
pub text_told : (ops : List Operator) (text : List ℕ) (e : SyntaxError) → (e ≡ syntax.OutOfMemory) ⊎ IsRefused text e →
    RefusesProgram (RefusesNames ops text) (program_failure (syntax_refusal e))
text_told ops text e (inl out) = inl (ap (λ x. program_failure (syntax_refusal x)) out)
text_told ops text (syntax.Unexpected place) (inr is) = inr (front.Syntax (syntax.Unexpected place), is, refl)
text_told ops text (syntax.BadNumber place) (inr is) = inr (front.Syntax (syntax.BadNumber place), is, refl)
text_told ops text (syntax.BadWord place) (inr is) = inr (front.Syntax (syntax.BadWord place), is, refl)
text_told ops text (syntax.TooLarge l) (inr is) = inr (front.Limit l, inl is, refl)
text_told ops text syntax.OutOfMemory (inr is) = inl refl

-- a refusal of names
pub names_told : (ops : List Operator) (text : List ℕ) (p : ProgramTree) (e : NameError) → HasTree text p → TellsFirstFault (faults ops p) e →
    RefusesProgram (RefusesNames ops text) (program_failure (names_refusal e))
names_told ops text p e tree (inl out) = inl (ap (λ x. program_failure (names_refusal x)) out)
names_told ops text p (names.Unknown span) tree (inr is) = inr (front.Names (names.Unknown span), (p, tree, is), refl)
names_told ops text p (names.Twice span) tree (inr is) = inr (front.Names (names.Twice span), (p, tree, is), refl)
names_told ops text p (names.NoResult span) tree (inr is) = inr (front.Names (names.NoResult span), (p, tree, is), refl)
names_told ops text p (names.Arity span) tree (inr is) = inr (front.Names (names.Arity span), (p, tree, is), refl)
names_told ops text p (names.LaterNode span) tree (inr is) = inr (front.Names (names.LaterNode span), (p, tree, is), refl)
names_told ops text p (names.TooMany l) tree (inr is) = inr (front.Limit l, inr (p, tree, is), refl)
names_told ops text p names.OutOfMemory tree (inr is) = inl refl

-- a refusal of acceptance
pub check_told : (ops : List Operator) (o : Options) (text : List ℕ) (r : Refusal) → Refuses ops o text r →
    RefusesProgram (RefusesCheck ops o text) (program_failure r)
check_told ops o text (front.Syntax e) h = inr (front.Syntax e, (h, λ out. cc out), refl)
check_told ops o text (front.Names e) h = inr (front.Names e, (h, λ out. cc out), refl)
check_told ops o text (front.Types placed node path) h = inr (front.Types placed node path, (h, λ out. cc out), refl)
check_told ops o text (front.Node placed node fault) h = inr (front.Node placed node fault, (h, λ out. cc out), refl)
check_told ops o text (front.Cause net names instant items) h = inr (front.Cause net names instant items, (h, λ out. cc out), refl)
check_told ops o text (front.Limit l) h = inr (front.Limit l, (h, λ out. cc out), refl)
check_told ops o text front.OutOfMemory h = inl refl

-- what is told of a refusal has a text
pub failure_tellable : (r : Refusal) → IsTellable r → Tellable (program_failure r)
failure_tellable (front.Syntax e) h = h
failure_tellable (front.Names e) h = h
failure_tellable (front.Types placed node path) h = h
failure_tellable (front.Node placed node fault) h = h
failure_tellable (front.Cause net names instant items) h = h
failure_tellable (front.Limit l) h = h
failure_tellable front.OutOfMemory h = tt

syntax_has_text : (e : SyntaxError) → Tellable (program_failure (syntax_refusal e))
syntax_has_text (syntax.Unexpected place) = tt
syntax_has_text (syntax.BadNumber place) = tt
syntax_has_text (syntax.BadWord place) = tt
syntax_has_text (syntax.TooLarge l) = tt
syntax_has_text syntax.OutOfMemory = tt

names_have_text : (e : NameError) → Tellable (program_failure (names_refusal e))
names_have_text (names.Unknown span) = tt
names_have_text (names.Twice span) = tt
names_have_text (names.NoResult span) = tt
names_have_text (names.Arity span) = tt
names_have_text (names.LaterNode span) = tt
names_have_text (names.TooMany l) = tt
names_have_text names.OutOfMemory = tt

pub fetch_tellable : (e : ShelfError) → Tellable (fetch_failure e)
fetch_tellable shelf.Failed = tt
fetch_tellable shelf.Missing = tt
fetch_tellable shelf.TooLong = tt
fetch_tellable shelf.OutOfMemory = tt

pub syntax_tellable : (e : SyntaxError) (f : Failure) → f ≡ program_failure (syntax_refusal e) → Tellable f
syntax_tellable e f is = subst Tellable (sym is) (syntax_has_text e)

pub names_tellable : (e : NameError) (f : Failure) → f ≡ program_failure (names_refusal e) → Tellable f
names_tellable e f is = subst Tellable (sym is) (names_have_text e)

pub program_tellable : (r : Refusal) (f : Failure) → f ≡ program_failure r → IsTellable r → Tellable f
program_tellable r f is h = subst Tellable (sym is) (failure_tellable r h)
