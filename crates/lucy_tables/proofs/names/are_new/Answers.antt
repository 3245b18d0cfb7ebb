use Rattle.std.specs.Prelude.{◌↔◌, IsTrue}
use Rattle.std.proofs.lemmas.Result.{IfOk-weaker}
use Rattle.std.specs.List.{IsDistinct}
use Rattle.std.specs.Str.{bytes_eq}
use Rattle.lucy_host.specs.Operators.{names_of}
use Rattle.lucy_tables.specs.Named.{names_named}
use Rattle.lucy_tables.proofs.NameLaws.{new_from_free, free_from_new, once_from_new}
use Rattle.lucy_tables.proofs.names.are_new.Goals as goal

pub returns-then-not-are_free : goal.returns-then-not-are_free
returns-then-not-are_free c = (
  λ e. cc e,
  λ new. let free : IsTrue c.are_free.result = c.are_free.ensures.1 (free_from_new (names_of c.args.ops.now) c.args.tables.now new) in cc,
)

pub returns : goal.returns
returns c =
    let free = c.are_free.ensures.0 c.if-not-are_free.false in
    IfOk-weaker c.are_distinct.result (λ b. IsTrue b ↔ IsDistinct bytes_eq (names_named c.args.tables.now)) _
    (λ b h. (
      (λ e. new_from_free (names_of c.args.ops.now) c.args.tables.now free (h.0 e)),
      (λ new. h.1 (once_from_new (names_of c.args.ops.now) c.args.tables.now new)),
    )) c.are_distinct.ensures
