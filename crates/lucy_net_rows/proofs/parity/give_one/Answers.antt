use Rattle.std.proofs.Common.{◌≡◌, ◌<◌, Some, length, ap, sym, refl, ◌∙◌, arith}
use Rattle.std.proofs.lemmas.Option.{slice_get-get_or}
use Rattle.lucy_worker.specs.declared.part.Part.{Part}
use Rattle.lucy_net_rows.proofs.HandLaws.{giver_gained}
use Rattle.lucy_net_rows.proofs.parity.give_one.Goals as goal

pub returns : goal.returns
returns c =
    let p : Part = c.index_mut-one.result.now in
    let there : c.args.part < length c.args.parts.now.items = omega arith in
    let number : c.len-number.result ≡ length p.givers.items = omega arith in
    giver_gained c.args.parts.now.items c.args.part c.len-number.result p (record p { givers = c.push.new.list }) c.args.giver c.requires.begun c.requires.new
    (slice_get-get_or c.args.parts.now.items c.args.part p there ∙ ap Some (sym c.index_mut-one.ensures.value)) (record { rest = refl; on = c.in_ok-push.ensures; number = number })
