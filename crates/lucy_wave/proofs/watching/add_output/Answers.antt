use Rattle.std.proofs.Common.{◌-◌, ◌++◌, ◌∷◌, [], ◌≡◌, length, refl, ap, ◌∙◌, arith}
use Rattle.lucy_word.proofs.Lists.{written_back}
use Rattle.lucy_wave.specs.Watching.{give_at, output_on}
use Rattle.lucy_wave.specs.Seen.{net_of}
use Rattle.lucy_wave.proofs.GiveLaws.{give_length, output_made}
use Rattle.lucy_wave.proofs.watching.add_output.Goals as goal

pub returns : goal.returns
returns c =
    let draft = c.args.draft.now in
    let actors = draft.actors in
    let to : c.len-to.result ≡ length actors.items = omega (arith, c.len-to.ensures) in
    let ring : c.len-ring.result ≡ length draft.rings.items = omega (arith, c.len-ring.ensures) in
    let new = c.give.new.actors in
    let given : new ≡ give_at (c.args.place - 1) c.len-ring.result actors.items = c.in_ok-give.ensures ∙ ap (give_at (c.args.place - 1) c.len-ring.result) c.deref_mut.ensures.value in
    let long : length new ≡ length actors.items = ap length given ∙ give_length (c.args.place - 1) c.len-ring.result actors.items in
    let output = output_on c.args.output c.len-ring.result c.args.word.now in
    let pushed : c.add_actor.new.actors.items ≡ new ++ output ∷ [] =
    c.in_ok-add_actor.ensures ∙ ap (λ xs. xs ++ output ∷ []) (written_back actors.len new actors.items long (omega (arith, actors.ok))) in
    output_made (net_of draft) c.len-to.result c.len-ring.result c.args.output c.args.place c.args.word.now output _ new c.add_actor.new.actors.items c.add_ring.new.rings.items to ring refl refl given pushed
    c.in_ok-add_ring.ensures
