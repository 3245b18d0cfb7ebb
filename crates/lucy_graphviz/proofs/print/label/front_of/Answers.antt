use Rattle.std.proofs.Common.{sym, arith}
use Rattle.std.proofs.lemmas.List.{length-take-le}
use Rattle.lucy_graphviz.proofs.print.label.front_of.Goals as goal

pub slice_bounds-put-end : goal.slice_bounds-put-end
slice_bounds-put-end c = sym (length-take-le 60 c.args.text.now (omega (arith, c.requires)))
