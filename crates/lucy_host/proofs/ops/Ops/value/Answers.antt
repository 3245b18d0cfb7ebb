use Rattle.std.proofs.Common.{rules, ◌≡◌, ap, sym, ◌∙◌, to_z-of_z, FitsSigned, w64}
use Rattle.std.proofs.lemmas.Option.{get_or_from_slice_get}
use Rattle.lucy_host.specs.HostValue.{host_value}
use Rattle.lucy_host.specs.declared.kind.HostKind.TheVariants.{Min}
use Rattle.lucy_host.specs.Operators.{kinds_of}
use Rattle.lucy_host.proofs.ops.Ops.value.Goals as goal

pub returns : goal.returns
returns c =
    let is : c.host_value.result ≡ host_value c.kind.result.now c.args.a c.args.b = search (rules, c.host_value.ensures, to_z-of_z) in
    let kind = ap (λ kind. host_value kind c.args.a c.args.b) (sym (get_or_from_slice_get (kinds_of c.args.self.now) c.args.op c.kind.result.now Min c.kind.ensures)) in
    let fits : FitsSigned w64 c.host_value.result = search rules in
    to_z-of_z fits ∙ is ∙ kind
