use Rattle.std.proofs.Common.{sym, subst}
use Rattle.lucy_tree.specs.View.{program_tree}
use Rattle.lucy_front.specs.Refusing.{RefusesPhases}
use Rattle.lucy_front.proofs.AcceptLaws.{clocks_refuse}
use Rattle.lucy_front.proofs.accepting.phases.Goals as goal

pub returns-clause-refused : goal.returns-clause-refused
returns-clause-refused c =
    subst (RefusesPhases c.args.ops.now c.args.options.now c.args.text.now) (sym c.refusal.ensures)
    (clocks_refuse c.args.ops.now c.args.options.now c.args.text.now c.in_ok-placed.placed c.in-Ok.typed c.in-Err.unclocked
    (record {
      program = record { tree = program_tree c.in_ok-program.program; read = c.in_ok-program.ensures.ok; is_placed = c.in_ok-placed.ensures.ok };
      typed = c.in-Ok.ensures.ok;
    })
    c.in-Err.ensures.refused)
