use Rattle.std.proofs.Common.{◌≡◌, ◌++◌, drop, map}
use Rattle.lucy_naming.specs.Streams.{declared}
use Rattle.lucy_naming.specs.Views.{text_of}
use Rattle.lucy_naming.specs.Faults.{repeats}
use Rattle.lucy_naming.proofs.streams.declare.Given as goal

abbrev pub invariant-each : goal.invariant-each
invariant-each l =
    (repeats l.scope (declared (drop l.decl-index l.decls)) ≡ repeats l.initial.scope (declared l.decls))
    × (l.scope ++ map text_of (declared (drop l.decl-index l.decls)) ≡ l.initial.scope ++ map text_of (declared l.decls))
