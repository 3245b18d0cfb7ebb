use Rattle.std.proofs.Common.{◌+◌, ◌-◌, List, [], ◌∷◌, length, replicate, map, ap, sym, ◌∙◌, subst, arith, rules}
use Rattle.std.specs.Prelude.{ℤ}
use Rattle.std.specs.Result.{IfOk, IfErr}
use Rattle.std.specs.Int.{w64}
use mir.Val.{SFits}
use Rattle.std.proofs.lemmas.Int.{to_z-of_z}
use Rattle.lucy_host.specs.Host.{lent}
use Rattle.lucy_host.specs.HostValue.{hosted_value}
use Rattle.lucy_host.specs.Operators.{kinds_of}
use Rattle.lucy_stream.specs.Forms.{Pointwise}
use Rattle.lucy_stream.specs.Lists.{item_by_item, kept, form_list}
use Rattle.lucy_stream.specs.Merges.{merged}
use Rattle.lucy_place.specs.Reads.{operands_of}
use Rattle.lucy_place.specs.Literals.{literal_value}
use Rattle.lucy_kahn.specs.Outcomes.{IsWholeList, Overflows}
use Rattle.lucy_kahn.specs.Turns.{AreThere, own_at, own_list}
use Rattle.lucy_kahn.proofs.OwnLaws.{short_at, operands_law}
use Rattle.lucy_kahn.proofs.own.own_list.Goals as goal

pub read-requires : goal.read-requires
read-requires g c = subst (λ k. AreThere c.args.own.now (operands_of k)) c.in-Defined.is c.requires.there

pub read-requires-in-Buffer : goal.read-requires-in-Buffer
read-requires-in-Buffer g c = subst (λ k. AreThere c.args.own.now (operands_of k)) c.in-Buffer.is c.requires.there

pub read-requires-in-Host : goal.read-requires-in-Host
read-requires-in-Host g c = (let all = subst (λ k. AreThere c.args.own.now (operands_of k)) c.in-Host.is c.requires.there in (all.0, tt))

pub read-requires-in-Host-2 : goal.read-requires-in-Host-2
read-requires-in-Host-2 g c = (let all = subst (λ k. AreThere c.args.own.now (operands_of k)) c.in-Host.is c.requires.there in all.1)

pub read-requires-in-When : goal.read-requires-in-When
read-requires-in-When g c = subst (λ k. AreThere c.args.own.now (operands_of k)) c.in-When.is c.requires.there

pub read-requires-in-Merge : goal.read-requires-in-Merge
read-requires-in-Merge g c = (let all = subst (λ k. AreThere c.args.own.now (operands_of k)) c.in-Merge.is c.requires.there in (all.0, tt))

pub read-requires-in-Merge-2 : goal.read-requires-in-Merge-2
read-requires-in-Merge-2 g c = (let all = subst (λ k. AreThere c.args.own.now (operands_of k)) c.in-Merge.is c.requires.there in all.1)

pub read-requires-in-Fby : goal.read-requires-in-Fby
read-requires-in-Fby g c = subst (λ k. AreThere c.args.own.now (operands_of k)) c.in-Fby.is c.requires.there

pub merged-requires-clause-first : goal.merged-requires-clause-first
merged-requires-clause-first g c = omega (arith, ap (λ (xs : List ℤ). length xs) c.read-in-Merge.ensures, short_at c.args.own.now (c.in-Merge.a - 1) c.requires.short)

pub merged-requires-clause-second : goal.merged-requires-clause-second
merged-requires-clause-second g c = omega (arith, ap (λ (xs : List ℤ). length xs) c.read-in-Merge-2.ensures, short_at c.args.own.now (c.in-Merge.b - 1) c.requires.short)

pub returns-in-Lit-clause-ok : goal.returns-in-Lit-clause-ok
returns-in-Lit-clause-ok g c =
    let fits : SFits w64 c.literal_value.result = search rules in
    subst (λ xs. IfOk c.repeated.result (λ made. IsWholeList xs made.items)) (ap (λ x. replicate (c.args.number + 1) x) c.literal_value.ensures ∙ sym (ap (own_list (kinds_of (lent c.args.host.now)) c.args.number c.args.own.now) c.in-Lit.is)) (simp to_z-of_z at c.repeated.ensures.ok)

pub returns-in-Lit-clause-limit : goal.returns-in-Lit-clause-limit
returns-in-Lit-clause-limit g c =
    let fits : SFits w64 c.literal_value.result = search rules in
    subst (λ xs. IfErr c.repeated.result (Overflows xs)) (ap (λ x. replicate (c.args.number + 1) x) c.literal_value.ensures ∙ sym (ap (own_list (kinds_of (lent c.args.host.now)) c.args.number c.args.own.now) c.in-Lit.is)) (simp to_z-of_z at c.repeated.ensures.limit)

pub returns-in-Defined-clause-ok : goal.returns-in-Defined-clause-ok
returns-in-Defined-clause-ok g c = subst (λ xs. IfOk c.copied.result (λ made. IsWholeList xs made.items)) (c.read.ensures ∙ sym (ap (own_list (kinds_of (lent c.args.host.now)) c.args.number c.args.own.now) c.in-Defined.is)) c.copied.ensures.ok

pub returns-in-Defined-clause-limit : goal.returns-in-Defined-clause-limit
returns-in-Defined-clause-limit g c = subst (λ xs. IfErr c.copied.result (Overflows xs)) (c.read.ensures ∙ sym (ap (own_list (kinds_of (lent c.args.host.now)) c.args.number c.args.own.now) c.in-Defined.is)) c.copied.ensures.limit

pub returns-in-Buffer-clause-ok : goal.returns-in-Buffer-clause-ok
returns-in-Buffer-clause-ok g c = subst (λ xs. IfOk c.copied-in-Buffer.result (λ made. IsWholeList xs made.items)) (c.read-in-Buffer.ensures ∙ sym (ap (own_list (kinds_of (lent c.args.host.now)) c.args.number c.args.own.now) c.in-Buffer.is)) c.copied-in-Buffer.ensures.ok

pub returns-in-Buffer-clause-limit : goal.returns-in-Buffer-clause-limit
returns-in-Buffer-clause-limit g c = subst (λ xs. IfErr c.copied-in-Buffer.result (Overflows xs)) (c.read-in-Buffer.ensures ∙ sym (ap (own_list (kinds_of (lent c.args.host.now)) c.args.number c.args.own.now) c.in-Buffer.is)) c.copied-in-Buffer.ensures.limit

pub returns-in-Op-clause-ok : goal.returns-in-Op-clause-ok
returns-in-Op-clause-ok g c =
    let e = operands_law (kinds_of (lent c.args.host.now)) c.args.number c.in-Op.op (map (own_at c.args.own.now) c.list-args.result.now) c.operand-a.result.now c.operand-b.result.now c.operand-c.result.now
    c.operand-a.ensures c.operand-b.ensures c.operand-c.ensures in
    let same = ap (λ as_list. form_list (kinds_of (lent c.args.host.now)) [] c.args.number (Pointwise c.in-Op.op) (map (own_at c.args.own.now) as_list)) c.list-args.ensures in
    subst (λ xs. IfOk c.pointwise.result (λ made. IsWholeList xs made.items)) (e ∙ same ∙ sym (ap (own_list (kinds_of (lent c.args.host.now)) c.args.number c.args.own.now) c.in-Op.is)) c.pointwise.ensures.ok

pub returns-in-Op-clause-limit : goal.returns-in-Op-clause-limit
returns-in-Op-clause-limit g c =
    let e = operands_law (kinds_of (lent c.args.host.now)) c.args.number c.in-Op.op (map (own_at c.args.own.now) c.list-args.result.now) c.operand-a.result.now c.operand-b.result.now c.operand-c.result.now
    c.operand-a.ensures c.operand-b.ensures c.operand-c.ensures in
    let same = ap (λ as_list. form_list (kinds_of (lent c.args.host.now)) [] c.args.number (Pointwise c.in-Op.op) (map (own_at c.args.own.now) as_list)) c.list-args.ensures in
    subst (λ xs. IfErr c.pointwise.result (Overflows xs)) (e ∙ same ∙ sym (ap (own_list (kinds_of (lent c.args.host.now)) c.args.number c.args.own.now) c.in-Op.is)) c.pointwise.ensures.limit

pub returns-in-Host-clause-ok : goal.returns-in-Host-clause-ok
returns-in-Host-clause-ok g c =
    subst (λ xs. IfOk c.hosted.result (λ made. IsWholeList xs made.items)) (ap (λ x. item_by_item 2 (λ a b d. hosted_value (kinds_of (lent c.args.host.now)) c.in-Host.op a b) (x ∷ c.read-in-Host-2.result.now ∷ [])) c.read-in-Host.ensures ∙ ap (λ x. item_by_item 2 (λ a b d. hosted_value (kinds_of (lent c.args.host.now)) c.in-Host.op a b) (own_at c.args.own.now c.in-Host.a ∷ x ∷ [])) c.read-in-Host-2.ensures ∙ sym (ap (own_list (kinds_of (lent c.args.host.now)) c.args.number c.args.own.now) c.in-Host.is)) c.hosted.ensures.ok

pub returns-in-Host-clause-limit : goal.returns-in-Host-clause-limit
returns-in-Host-clause-limit g c =
    subst (λ xs. IfErr c.hosted.result (Overflows xs)) (ap (λ x. item_by_item 2 (λ a b d. hosted_value (kinds_of (lent c.args.host.now)) c.in-Host.op a b) (x ∷ c.read-in-Host-2.result.now ∷ [])) c.read-in-Host.ensures ∙ ap (λ x. item_by_item 2 (λ a b d. hosted_value (kinds_of (lent c.args.host.now)) c.in-Host.op a b) (own_at c.args.own.now c.in-Host.a ∷ x ∷ [])) c.read-in-Host-2.ensures ∙ sym (ap (own_list (kinds_of (lent c.args.host.now)) c.args.number c.args.own.now) c.in-Host.is)) c.hosted.ensures.limit

pub returns-in-When-clause-ok : goal.returns-in-When-clause-ok
returns-in-When-clause-ok g c =
    subst (λ xs. IfOk c.kept.result (λ made. IsWholeList xs made.items)) (ap (λ x. kept c.in-When.word x) c.read-in-When.ensures ∙ sym (ap (own_list (kinds_of (lent c.args.host.now)) c.args.number c.args.own.now) c.in-When.is)) c.kept.ensures.ok

pub returns-in-When-clause-limit : goal.returns-in-When-clause-limit
returns-in-When-clause-limit g c =
    subst (λ xs. IfErr c.kept.result (Overflows xs)) (ap (λ x. kept c.in-When.word x) c.read-in-When.ensures ∙ sym (ap (own_list (kinds_of (lent c.args.host.now)) c.args.number c.args.own.now) c.in-When.is)) c.kept.ensures.limit

pub returns-in-Merge-clause-ok : goal.returns-in-Merge-clause-ok
returns-in-Merge-clause-ok g c =
    subst (λ xs. IfOk c.merged.result (λ made. IsWholeList xs made.items)) (ap (λ x. merged c.in-Merge.word x c.read-in-Merge-2.result.now) c.read-in-Merge.ensures ∙ ap (λ x. merged c.in-Merge.word (own_at c.args.own.now c.in-Merge.a) x) c.read-in-Merge-2.ensures ∙ sym (ap (own_list (kinds_of (lent c.args.host.now)) c.args.number c.args.own.now) c.in-Merge.is)) c.merged.ensures.ok

pub returns-in-Merge-clause-limit : goal.returns-in-Merge-clause-limit
returns-in-Merge-clause-limit g c =
    subst (λ xs. IfErr c.merged.result (Overflows xs)) (ap (λ x. merged c.in-Merge.word x c.read-in-Merge-2.result.now) c.read-in-Merge.ensures ∙ ap (λ x. merged c.in-Merge.word (own_at c.args.own.now c.in-Merge.a) x) c.read-in-Merge-2.ensures ∙ sym (ap (own_list (kinds_of (lent c.args.host.now)) c.args.number c.args.own.now) c.in-Merge.is)) c.merged.ensures.limit

pub returns-in-Fby-clause-ok : goal.returns-in-Fby-clause-ok
returns-in-Fby-clause-ok g c =
    let fits : SFits w64 c.literal_value-in-Fby.result = search rules in
    subst (λ xs. IfOk c.delayed.result (λ made. IsWholeList xs made.items)) (ap (λ x. x ∷ c.read-in-Fby.result.now) c.literal_value-in-Fby.ensures ∙ ap (λ y. literal_value c.in-Fby.lit ∷ y) c.read-in-Fby.ensures ∙ sym (ap (own_list (kinds_of (lent c.args.host.now)) c.args.number c.args.own.now) c.in-Fby.is)) (simp to_z-of_z at c.delayed.ensures.ok)

pub returns-in-Fby-clause-limit : goal.returns-in-Fby-clause-limit
returns-in-Fby-clause-limit g c =
    let fits : SFits w64 c.literal_value-in-Fby.result = search rules in
    subst (λ xs. IfErr c.delayed.result (Overflows xs)) (ap (λ x. x ∷ c.read-in-Fby.result.now) c.literal_value-in-Fby.ensures ∙ ap (λ y. literal_value c.in-Fby.lit ∷ y) c.read-in-Fby.ensures ∙ sym (ap (own_list (kinds_of (lent c.args.host.now)) c.args.number c.args.own.now) c.in-Fby.is)) (simp to_z-of_z at c.delayed.ensures.limit)
