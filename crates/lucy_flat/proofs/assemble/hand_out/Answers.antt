use Rattle.std.proofs.Common.{◌≡◌, ◌+◌, ap, refl, ◌∙◌, subst, length, get_or, set, arith}
use Rattle.std.specs.Prelude.{slice_get}
use Rattle.std.proofs.lemmas.Option.{slice_get_read}
use Rattle.lucy_net.specs.declared.net.RingSpec.{RingSpec}
use Rattle.lucy_flat.specs.declared.draft.Draft.{Draft}
use Rattle.lucy_flat.specs.Assembly.{AreGiven}
use Rattle.lucy_flat.proofs.GivingLaws.{ring_source, given_more}
use Rattle.lucy_flat.proofs.assemble.hand_out.Goals as goal

pub each-init : goal.each-init
each-init c = record { count = refl; each = λ a draft e. (draft, e, record { kind = refl; word = refl; reads = refl; gives = c.requires.ready.gives a draft e }) }

pub index_mut-requires : goal.index_mut-requires
index_mut-requires c =
    let rings = c.args.rings.now in
    let ring = c.index-rings-r.result in
    let at = slice_get_read rings (length rings) c.each.r ring refl c.each-test.true c.index-rings-r.is in
    let low = ring_source c.args.drafts.now.items rings c.each.r ring c.requires.rings at in
    let same : ring.from ≡ (get_or rings c.each.r ring).from = ap (λ (t : RingSpec). t.from) c.index-rings-r.is in
    let count = c.each.invariant.count in
    omega arith

pub each-preserved : goal.each-preserved
each-preserved c =
    let rings = c.args.rings.now in
    let ring = c.index-rings-r.result in
    let at = slice_get_read rings (length rings) c.each.r ring refl c.each-test.true c.index-rings-r.is in
    let low = ring_source c.args.drafts.now.items rings c.each.r ring c.requires.rings at in
    let same : ring.from ≡ (get_or rings c.each.r ring).from = ap (λ (t : RingSpec). t.from) c.index-rings-r.is in
    let count = c.each.invariant.count in
    let d = c.index_mut.result.now in
    let got = slice_get_read c.each.drafts.items (length c.each.drafts.items) (get_or rings c.each.r ring).from d refl (omega arith) c.index_mut.ensures.value in
    let next : Draft = record { kind = d.kind; word = d.word; reads = d.reads; size = d.size; gives = c.push.new.self } in
    subst (λ n. AreGiven c.args.drafts.now.items rings (c.each.r + 1) (set c.each.drafts.items n next)) same
    (given_more c.args.drafts.now.items rings c.each.r c.each.drafts.items ring d next c.each.invariant at (ap (slice_get c.each.drafts.items) same ∙ got) refl refl refl c.in_ok-push.ensures.items)
