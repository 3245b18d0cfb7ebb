use Rattle.std.proofs.Common.{inr, List, map, sym, subst}
use Rattle.lucy_tree.specs.View.{node_tree}
use Rattle.lucy_token.specs.declared.token.Token.{Token}
use Rattle.lucy_token.specs.declared.stop.Stop.{Stop}
use Rattle.lucy_token.specs.declared.stop.SyntaxError.{SyntaxError}
use Rattle.lucy_grammar.specs.Symbols.{Program}
use Rattle.lucy_grammar.specs.Reading.{Reads, Unfit}
use Rattle.lucy_grammar.proofs.Whole.{is_program, is_followed, is_unfit}
use Rattle.lucy_syntax.specs.Refusals.{RefusedBy}
use Rattle.lucy_syntax.specs.declared.refusal.Refusal.{Refusal}
use Rattle.lucy_syntax.proofs.Facts.{is_none, is_some}
use Rattle.lucy_grammar.specs.Why.{IsWholeProgram, IsWhy}
use Rattle.lucy_syntax.proofs.TextLaws.{refused_at, refused_behind}
use Rattle.lucy_syntax.proofs.reading.whole.Goals as goal

pub returns-in-Err-At-clause-refused : goal.returns-in-Err-At-clause-refused
returns-in-Err-At-clause-refused c =
    let P : Refusal → Type 0 = λ r. RefusedBy (Unfit Program c.args.ts.now) r in
    let Q : SyntaxError → Type 0 = λ e. IsWhy c.args.ts.now c.args.stop e in
    inr (subst Q (sym c.error_at.ensures) (refused_at _ _ c.args.stop (is_unfit (subst P c.in-Err-At.field-0-is c.in-Err-At.ensures.refused))))

pub returns-then-not-is_empty-clause-refused : goal.returns-then-not-is_empty-clause-refused
returns-then-not-is_empty-clause-refused c =
    let Q : SyntaxError → Type 0 = λ e. IsWhy c.args.ts.now c.args.stop e in
    inr (subst Q (sym c.error_at-then-not-is_empty.ensures) (refused_at _ _ c.args.stop (is_followed c.in-Ok.ensures.ok (is_some _ c.if-not-is_empty.ensures))))

pub returns-in-Fault-clause-refused : goal.returns-in-Fault-clause-refused
returns-in-Fault-clause-refused c =
    let P : List Token → Type 0 = λ rest. Reads Program c.args.ts.now (map node_tree c.in-Ok.read.0.items) rest in
    inr (refused_behind _ _ _ _ c.in-Fault.is (is_program (subst P (is_none _ c.if-not-is_empty.ensures) c.in-Ok.ensures.ok)))

pub returns-in-End-clause-ok : goal.returns-in-End-clause-ok
returns-in-End-clause-ok c =
    let P : List Token → Type 0 = λ rest. Reads Program c.args.ts.now (map node_tree c.in-Ok.read.0.items) rest in
    let Q : Stop → Type 0 = λ s. IsWholeProgram c.args.ts.now s (map node_tree c.in-Ok.read.0.items) in
    subst Q (sym c.in-End.is) (is_program (subst P (is_none _ c.if-not-is_empty.ensures) c.in-Ok.ensures.ok))
