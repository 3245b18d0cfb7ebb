use Rattle.std.proofs.Common.{◌≡◌, ◌+◌, ◌++◌, List, map, drop, ap, sym, ◌∙◌, subst, arith}
use Rattle.lucy_word.proofs.Lists.{drop_next}
use Rattle.lucy_word.proofs.Results.{leaves}
use Rattle.lucy_tree.specs.View.{def_tree}
use Rattle.lucy_tree.specs.declared.span.Name.{Name}
use Rattle.lucy_naming.specs.Streams.{declared, def_names}
use Rattle.lucy_naming.specs.Views.{text_of}
use Rattle.lucy_naming.specs.Faults.{repeats}
use Rattle.lucy_naming.specs.Placing.{TellsFirstFault}
use Rattle.lucy_naming.proofs.VerdictLaws.{tells_front, repeats_append, define_more}
use Rattle.lucy_naming.proofs.streams.define.Goals as goal

pub returns-in_err-declare-clause-refused : goal.returns-in_err-declare-clause-refused
returns-in_err-declare-clause-refused c =
    let l : List Name = declared c.list.result.now in
    let r : List Name = def_names (map def_tree (drop (c.each.def-index + 1) c.args.defs.now)) in
    let e : def_names (map def_tree (drop c.each.def-index c.args.defs.now)) ≡ l ++ r =
    ap (λ ds. def_names (map def_tree ds)) (drop_next c.args.defs.now c.each.def-index c.def-item.result (omega arith) c.def-item.is)
    ∙ ap (λ ds. declared ds ++ r) (sym c.list.ensures) in
    leaves (TellsFirstFault (repeats c.each.scope l)) _ _ c.from_residual.result c.from_residual.ensures.1 c.in_err-declare.ensures.refused
    (λ y t.
    subst (λ fs. TellsFirstFault fs y) (sym (repeats_append c.each.scope l r) ∙ ap (repeats c.each.scope) (sym e) ∙ c.each.invariant.0)
    (tells_front (repeats c.each.scope l) (repeats (c.each.scope ++ map text_of l) r) t))

pub each-preserved : goal.each-preserved
each-preserved c =
    let l : List Name = declared c.list.result.now in
    let r : List Name = def_names (map def_tree (drop (c.each.def-index + 1) c.args.defs.now)) in
    let e : def_names (map def_tree (drop c.each.def-index c.args.defs.now)) ≡ l ++ r =
    ap (λ ds. def_names (map def_tree ds)) (drop_next c.args.defs.now c.each.def-index c.def-item.result (omega arith) c.def-item.is)
    ∙ ap (λ ds. declared ds ++ r) (sym c.list.ensures) in
    let m = define_more c.each.scope c.declare.new.scope l r c.in_ok-declare.ensures.ok.0 c.in_ok-declare.ensures.ok.1 in (
      m.0 ∙ ap (repeats c.each.scope) (sym e) ∙ c.each.invariant.0,
      m.1 ∙ ap (λ ns. c.each.scope ++ map text_of ns) (sym e) ∙ c.each.invariant.1,
    )
