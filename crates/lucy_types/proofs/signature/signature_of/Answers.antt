use Rattle.std.proofs.Common.{◌≤◌, length, ap, sym, ◌∙◌, arith}
use Rattle.std.specs.Prelude.{slice_get}
use Rattle.lucy_types.specs.Ports.{port_types}
use Rattle.lucy_types.proofs.PortLaws.{port_classes}
use Rattle.lucy_types.proofs.signature.signature_of.Goals as goal

pub heads-requires-clause-classes : goal.heads-requires-clause-classes
heads-requires-clause-classes c = λ i k e.
    let ports = c.deref-2.ensures.value ∙ c.in_ok-ports.ensures ∙ ap (port_types c.args.params c.args.results.now) c.deref.ensures.value in
    let h : k ≤ length c.args.tys.items = port_classes (length c.args.tys.items) c.args.params c.args.results.now c.args.tys.items c.requires.classes i k (sym (ap (λ ts. slice_get ts i) ports) ∙ e) in
    omega arith
