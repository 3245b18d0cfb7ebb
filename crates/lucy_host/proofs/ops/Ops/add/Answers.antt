use Rattle.std.proofs.Common.{◌++◌, ◌∷◌, [], Contains, refl, ap, sym, ◌∙◌, subst}
use Rattle.std.proofs.lemmas.List.{map-append}
use Rattle.lucy_host.specs.Operators.{Operator, names_of}
use Rattle.lucy_host.specs.Entries.{operator_of, operators_of}
use Rattle.lucy_host.specs.declared.ops.Entry.{Entry}
use Rattle.lucy_host.proofs.OpsLaws.{is_held, is_lacking, not_twice}
use Rattle.lucy_host.proofs.ops.Ops.add.Goals as goal

pub returns-then-is_some-clause-twice : goal.returns-then-is_some-clause-twice
returns-then-is_some-clause-twice c = (
  λ e. subst (Contains (names_of c.args.self.now)) c.as_bytes.ensures.value (is_held (names_of c.args.self.now) c.as_bytes.result.now c.find.result c.find.ensures.is (sym c.is_some.ensures ∙ c.if-is_some.true)),
  λ h. refl,
)

pub returns-in_err-name-clause-twice : goal.returns-in_err-name-clause-twice
returns-in_err-name-clause-twice c = (
  λ e. absurd (not_twice c.from_residual.result c.from_residual.ensures.1 e),
  λ h. absurd (is_lacking c.find.result c.find.ensures.none (sym c.is_some.ensures ∙ c.if-is_some.false) (subst (Contains (names_of c.args.self.now)) (sym c.as_bytes.ensures.value) h)),
)

pub returns-in_err-push-clause-twice : goal.returns-in_err-push-clause-twice
returns-in_err-push-clause-twice c = (
  λ e. absurd (not_twice c.from_residual-in_err-push.result c.from_residual-in_err-push.ensures.1 e),
  λ h. absurd (is_lacking c.find.result c.find.ensures.none (sym c.is_some.ensures ∙ c.if-is_some.false) (subst (Contains (names_of c.args.self.now)) (sym c.as_bytes.ensures.value) h)),
)

pub returns-clause-twice : goal.returns-clause-twice
returns-clause-twice c = (
  λ e. cc,
  λ h. absurd (is_lacking c.find.result c.find.ensures.none (sym c.is_some.ensures ∙ c.if-is_some.false) (subst (Contains (names_of c.args.self.now)) (sym c.as_bytes.ensures.value) h)),
)

pub returns-clause-ok : goal.returns-clause-ok
returns-clause-ok c =
    let entry : Entry = record { name = c.in_ok-name.name; kind = c.args.kind } in
    let bytes = c.in_ok-name.ensures.items_if_clones_equal (λ y e h. h) ∙ c.as_bytes-2.ensures.value in
    ap operators_of c.in_ok-push.ensures.items ∙ map-append operator_of c.self.inside.list.items (entry ∷ []) ∙ ap (λ l. l ++ operator_of entry ∷ []) c.self.view_is
    ∙ ap (λ n. let o : Operator = record { name = n; kind = c.args.kind } in c.args.self.now ++ o ∷ []) bytes
