-- Refusals of the phases are refusals of the text.
use Rattle.std.proofs.Common.{ℕ, ◌≡◌, List, inl, inr}
use Rattle.std.specs.Prelude.{◌⊎◌}
use Rattle.lucy_host.specs.Operators.{Operator}
use Rattle.lucy_tree.specs.View.{ProgramTree}
use Rattle.lucy_token.specs.declared.stop.SyntaxError.{SyntaxError}
use Rattle.lucy_token.specs.declared.stop.SyntaxError.TheVariants as syntax
use Rattle.lucy_grammar.specs.Texts.{HasTree, IsRefused}
use Rattle.lucy_naming.specs.declared.error.NameError.{NameError}
use Rattle.lucy_naming.specs.declared.error.NameError.TheVariants as names
use Rattle.lucy_naming.specs.Faults.{faults}
use Rattle.lucy_naming.specs.Placing.{TellsFirstFault}
use Rattle.lucy_place.specs.PlacedProgram.{PlacedProgram}
use Rattle.lucy_types.specs.declared.ty.Ty.{Ty}
use Rattle.lucy_program.specs.declared.options.Options.{Options}
use Rattle.lucy_front.specs.declared.fault.NoClocks.{NoClocks}
use Rattle.lucy_front.specs.declared.fault.NoClocks.TheVariants.{Fault, Limit, OutOfMemory}
use Rattle.lucy_front.specs.declared.fault.Unclocked.{Unclocked}
use Rattle.lucy_front.specs.Unclocked.{IsUnclocked}
use Rattle.lucy_program.specs.Accepting.{IsTypedText}
use Rattle.lucy_front.specs.Refusing.{RefusesPhases, syntax_refusal, names_refusal}
use Rattle.lucy_front.specs.Clocking.{HasNoClocks, IsFirstUnclocked, refusal_for, clock_refusal}

pub syntax_refuses : (ops : List Operator) (o : Options) (text : List ℕ) (e : SyntaxError) → (e ≡ syntax.OutOfMemory) ⊎ IsRefused text e → RefusesPhases ops o text (syntax_refusal e)
syntax_refuses ops o text (syntax.Unexpected place) (inl f) = absurd (cc f)
syntax_refuses ops o text (syntax.Unexpected place) (inr h) = h
syntax_refuses ops o text (syntax.BadNumber place) (inl f) = absurd (cc f)
syntax_refuses ops o text (syntax.BadNumber place) (inr h) = h
syntax_refuses ops o text (syntax.BadWord place) (inl f) = absurd (cc f)
syntax_refuses ops o text (syntax.BadWord place) (inr h) = h
syntax_refuses ops o text (syntax.TooLarge l) (inl f) = absurd (cc f)
syntax_refuses ops o text (syntax.TooLarge l) (inr h) = inl (inl h)
syntax_refuses ops o text syntax.OutOfMemory h = tt

pub names_refuse : (ops : List Operator) (o : Options) (text : List ℕ) (p : ProgramTree) (e : NameError) → HasTree text p → TellsFirstFault (faults ops p) e → RefusesPhases ops o text (names_refusal e)
names_refuse ops o text p (names.Unknown span) read (inl f) = absurd (cc f)
names_refuse ops o text p (names.Unknown span) read (inr h) = (p, read, h)
names_refuse ops o text p (names.Twice span) read (inl f) = absurd (cc f)
names_refuse ops o text p (names.Twice span) read (inr h) = (p, read, h)
names_refuse ops o text p (names.NoResult span) read (inl f) = absurd (cc f)
names_refuse ops o text p (names.NoResult span) read (inr h) = (p, read, h)
names_refuse ops o text p (names.Arity span) read (inl f) = absurd (cc f)
names_refuse ops o text p (names.Arity span) read (inr h) = (p, read, h)
names_refuse ops o text p (names.LaterNode span) read (inl f) = absurd (cc f)
names_refuse ops o text p (names.LaterNode span) read (inr h) = (p, read, h)
names_refuse ops o text p (names.TooMany l) read (inl f) = absurd (cc f)
names_refuse ops o text p (names.TooMany l) read (inr h) = inl (inr (p, read, h))
names_refuse ops o text p names.OutOfMemory read h = tt

-- a program whose node has no clocks is refused
why_refuses : (ops : List Operator) (o : Options) (text : List ℕ) (placed : PlacedProgram) (tables : List (List Ty)) (node : ℕ) (why : NoClocks) → IsTypedText ops text placed tables →
    IsUnclocked o placed.nodes node (λ above n. HasNoClocks o placed node above n why) → RefusesPhases ops o text (refusal_for placed node why)
why_refuses ops o text placed tables node (Fault f) typed is = (tables, typed, is)
why_refuses ops o text placed tables node (Limit l) typed is = inr (placed, tables, typed, node, is)
why_refuses ops o text placed tables node OutOfMemory typed is = tt

pub clocks_refuse : (ops : List Operator) (o : Options) (text : List ℕ) (placed : PlacedProgram) (tables : List (List Ty)) (u : Unclocked) → IsTypedText ops text placed tables → IsFirstUnclocked o placed u →
    RefusesPhases ops o text (clock_refusal placed u)
clocks_refuse ops o text placed tables u typed h = why_refuses ops o text placed tables u.node u.why typed h
