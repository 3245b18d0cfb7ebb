use Rattle.std.proofs.Common.{ℕ, ◌≡◌, ◌<◌, length, refl, sym, ap, ◌∙◌, arith}
use Rattle.std.proofs.lemmas.Option.{slice_get_read, same_Some}
use Rattle.lucy_types.specs.declared.flood.Reached.{Reached as Step}
use Rattle.lucy_types.proofs.PathLaws.{trail_more, trail_ends}
use Rattle.lucy_types.proofs.path.path_to.Goals as goal

pub back-preserved : goal.back-preserved
back-preserved c =
    let r : Step = c.index-in-back-2.result.now in
    let size : ℕ = length c.args.flood.now.queue.items in
    let one = slice_get_read c.args.flood.now.queue.items size c.back.i c.index-in-back.result.now refl c.back.invariant.0 c.index-in-back.ensures in
    let two = slice_get_read c.args.flood.now.queue.items size c.back.i r refl c.back.invariant.0 c.index-in-back-2.ensures in
    let same : c.index-in-back.result.now ≡ r = same_Some c.index-in-back.result.now r (sym one ∙ two) in
    let from : c.index-in-back.result.now.from ≡ r.from = ap (λ (s : Step). s.from) same in
    let i : c.back.i < size = c.back.invariant.0 in
    let less : r.from < c.back.i = omega arith in
    let inside : r.from < size = omega arith in
    let three = slice_get_read c.args.flood.now.queue.items size r.from c.index-in-back-3.result.now refl inside c.index-in-back-3.ensures in (
      inside,
      trail_more c.args.graph.now c.args.flood.now c.back.i r c.index-in-back-3.result.now c.back.path.items c.push-in-back.new.self.items c.requires.flood c.back.invariant.1 two less three
          c.in_ok-push-2.ensures.items,
    )

pub returns : goal.returns
returns c =
    let size : ℕ = length c.args.flood.now.queue.items in
    let one = slice_get_read c.args.flood.now.queue.items size c.back.i c.index-in-back.result.now refl c.back.invariant.0 c.index-in-back.ensures in
    trail_ends c.args.graph.now c.args.flood.now c.back.i c.index-in-back.result.now c.back.path.items c.reverse.new.self.items c.requires.flood c.back.invariant.1 one c.back-test.false c.reverse.ensures.items
