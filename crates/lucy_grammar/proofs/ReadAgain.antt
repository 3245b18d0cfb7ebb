-- The text of a program that was read has that program as its tree, but for places.
use Rattle.std.proofs.Common.{ℕ, ◌≡◌, ◌≤◌, List, length, sym, subst}
use Rattle.lucy_word.specs.Limits.{limit_number}
use Rattle.lucy_word.specs.declared.limit.Limit.TheVariants as limit
use Rattle.lucy_tree.specs.View.{ProgramTree}
use Rattle.lucy_grammar.specs.Print.{program_text}
use Rattle.lucy_grammar.specs.Spans.{IsAlike}
use Rattle.lucy_grammar.specs.Texts.{HasTree}
use Rattle.lucy_grammar.proofs.RoundTrip.{read_again}

pub read_again_text : (from text : List ℕ) (p : ProgramTree) → HasTree from p → text ≡ program_text p → length text ≤ limit_number limit.Text → (q : ProgramTree) × HasTree text q × IsAlike q p
read_again_text from text p h is short =
    let back = read_again from h.tokens h.end p h.cut h.program in
    let P : List ℕ → Type 0 = λ u. length u ≤ limit_number limit.Text in
    let Q : List ℕ → Type 0 = λ u. HasTree u back.1 in
    (back.1, subst Q (sym is) (record { short = subst P is short; tokens = back.0; end = length (program_text p); cut = back.2; program = back.3 }), back.4)
