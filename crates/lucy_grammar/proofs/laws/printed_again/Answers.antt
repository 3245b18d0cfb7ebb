use Rattle.lucy_token.specs.declared.token.Kind.TheVariants as kind
use Rattle.lucy_grammar.specs.Printable.{Anywhere}
use Rattle.lucy_grammar.proofs.PrintableLaws.{printable, all_stand}
use Rattle.lucy_grammar.proofs.CoreLaws.{same_core}
use Rattle.lucy_grammar.proofs.PrintedBytes.{program_bytes}
use Rattle.lucy_grammar.proofs.PrintedPrograms as printed
use Rattle.lucy_grammar.proofs.laws.printed_again.Goals as goal

pub returns : goal.returns
returns c = record {
  text = program_bytes;
  printable = λ ts p h. printable Anywhere kind.End ts p h (all_stand kind.End ts);
  parens = same_core;
  again = λ p ts h e. printed.printed_again Anywhere p ts h e;
}
