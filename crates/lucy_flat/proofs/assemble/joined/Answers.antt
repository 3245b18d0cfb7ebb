use Rattle.std.proofs.Common.{ap, sym, ◌∙◌, subst, length}
use Rattle.lucy_net.specs.declared.net.Net.{Net}
use Rattle.lucy_flat.specs.Assembly.{AreGiven, AreActorsOf, IsAssembled}
use Rattle.lucy_flat.proofs.GivingLaws.{count_all, given_kinds, given_all, assembled}
use Rattle.lucy_flat.proofs.assemble.joined.Goals as goal

pub actors-requires-clause-kinds : goal.actors-requires-clause-kinds
actors-requires-clause-kinds c = given_kinds c.args.drafts.items c.hand_out.new.drafts.items c.deref.result.now c.in_ok-hand_out.ensures.ok c.requires.ready

pub actors-requires-clause-all : goal.actors-requires-clause-all
actors-requires-clause-all c =
    let old = c.args.drafts.items in
    let rings = c.args.rings.items in
    let are = c.requires.rings in
    given_all old c.hand_out.new.drafts.items c.deref.result.now c.in_ok-hand_out.ensures.ok ∙ sym (count_all old) ∙ sym are.count ∙ ap length (sym c.deref-2.ensures.value)

pub returns-clause-ok : goal.returns-clause-ok
returns-clause-ok c =
    let old = c.args.drafts.items in
    let rings = c.args.rings.items in
    let drafts = c.hand_out.new.drafts.items in
    let actors = c.in_ok-actors.actors.items in
    let are = c.requires.rings in
    let given = subst (λ t. AreGiven old t (length t) drafts) c.deref.ensures.value c.in_ok-hand_out.ensures.ok in
    let all = subst (λ t. AreActorsOf t drafts actors) c.deref-2.ensures.value c.in_ok-actors.ensures.ok in
    subst (λ t. let net : Net = record { actors = c.new.result; rings = t } in IsAssembled old net) (sym c.new-2.ensures)
    (subst (λ t. let net : Net = record { actors = t; rings = rings } in IsAssembled old net) (sym c.new.ensures) (assembled old drafts rings given actors are all))
