-- Laws of the grammar, of texts and of what is printed.
use Rattle.std.specs.Prelude.{◌≡◌, ◌++◌, ℕ, List, [], length, map}
use Rattle.lucy_tree.specs.View.{ProgramTree}
use Rattle.lucy_token.specs.declared.token.Token.{Token}
use Rattle.lucy_token.specs.declared.stop.Stop.TheVariants.{End}
use Rattle.lucy_token.specs.declared.stop.SyntaxError.{SyntaxError}
use Rattle.lucy_token.specs.Cuts.{Cuts}
use Rattle.lucy_token.specs.Printed.{whats_of}
use Rattle.lucy_grammar.specs.Parens.{without_parens}
use Rattle.lucy_grammar.specs.Print.{program_text}
use Rattle.lucy_grammar.specs.Printable.{IsPrintableProgram, Anywhere}
use Rattle.lucy_grammar.specs.PrintTokens.{line, printed_program, spaced_text}
use Rattle.lucy_grammar.specs.Programs.{IsProgram, BeginsProgram, IsFirstUnfit}
use Rattle.lucy_grammar.specs.Spans.{IsAlike}
use Rattle.lucy_grammar.specs.Texts.{HasTree, IsRefused}

-- tokens are at most one program
abbrev pub OneTree : Type 0
OneTree = (ts : List Token) (p q : ProgramTree) → IsProgram ts p → IsProgram ts q → p ≡ q

-- of tokens that are no program at most one is the first that doesn't fit, and of a program none is; a front of what begins a program
-- begins one
pub record OneRefusal : Type 0 where
  pub place : (ts a b : List Token) → IsFirstUnfit ts a → IsFirstUnfit ts b → a ≡ b
  pub or_program : (ts : List Token) (p : ProgramTree) (rest : List Token) → IsProgram ts p → IsFirstUnfit ts rest → ⊥
  pub fronts : (front back : List Token) → BeginsProgram (front ++ back) → BeginsProgram front

-- the bytes of a program's tokens in print, and the end of a line, are its printed text; every program can be printed, by its own tokens but for
-- parentheses; and tokens that are the printed ones are that program again, but for places
pub record PrintedAgain : Type 0 where
  pub text : (p : ProgramTree) → spaced_text (printed_program p) ++ line ≡ program_text p
  pub printable : (ts : List Token) (p : ProgramTree) → IsProgram ts p → IsPrintableProgram Anywhere p
  pub parens : (ts : List Token) (p : ProgramTree) → IsProgram ts p →
      without_parens (map (λ t. t.what) ts) ≡ without_parens (whats_of (printed_program p))
  pub again : (p : ProgramTree) (ts : List Token) → IsPrintableProgram Anywhere p → map (λ t. t.what) ts ≡ whats_of (printed_program p) →
      (q : ProgramTree) × IsProgram ts q × IsAlike q p

-- the text that is printed of a program read from a text is cut into tokens up to its end, and they are that program again, but for
-- places
abbrev pub ReadAgain : Type 0
ReadAgain = (text : List ℕ) (ts : List Token) (n : ℕ) (p : ProgramTree) → Cuts 0 [] text ts (End n) → IsProgram ts p →
    (us : List Token) × (q : ProgramTree) × Cuts 0 [] (program_text p) us (End (length (program_text p))) × IsProgram us q × IsAlike q p

-- a text has at most one tree and at most one refusal, never both, and no text has neither
pub record TextsHaveOneAnswer : Type 0 where
  pub one_tree : (text : List ℕ) (p q : ProgramTree) → HasTree text p → HasTree text q → p ≡ q
  pub one_refusal : (text : List ℕ) (e f : SyntaxError) → IsRefused text e → IsRefused text f → e ≡ f
  pub never_both : (text : List ℕ) (p : ProgramTree) (e : SyntaxError) → HasTree text p → IsRefused text e → ⊥
  pub never_neither : (text : List ℕ) → ((p : ProgramTree) → HasTree text p → ⊥) → ((e : SyntaxError) → IsRefused text e → ⊥) → ⊥
