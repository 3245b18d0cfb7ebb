use Rattle.std.proofs.Common.{sym, arith, rules, length}
use Rattle.std.proofs.lemmas.List.Sums.{prefix_len_is}
use Rattle.lucy_lines.specs.Fields.{is_space}
use Rattle.lucy_lines.proofs.field.blanks.Goals as goal

pub returns-then-not-is_blank-clause-blanks : goal.returns-then-not-is_blank-clause-blanks
returns-then-not-is_blank-clause-blanks c = sym (prefix_len_is is_space c.args.line.now c.loop-i.i 0 (omega arith) c.loop-i.invariant (λ h. search rules))

pub returns-clause-blanks : goal.returns-clause-blanks
returns-clause-blanks c = sym (prefix_len_is is_space c.args.line.now (length c.args.line.now) 0 (omega arith) (λ k h. c.loop-i.invariant k (omega arith)) (λ h. absurd (omega arith)))
