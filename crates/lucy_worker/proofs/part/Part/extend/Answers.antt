use Rattle.std.proofs.Common.{◌≡◌, ◌∙◌, ◌≤◌, refl, arith}
use Rattle.lucy_word.specs.Bits.{ones_to}
use Rattle.lucy_word.proofs.BitsLaws.{ones_to-le}
use Rattle.lucy_worker.proofs.part.Part.extend.Goals as goal

pub raise-requires-clause-few : goal.raise-requires-clause-few
raise-requires-clause-few c =
    let few : ones_to c.args.self.now.actor.firing c.args.instants ≤ c.args.instants = ones_to-le c.args.self.now.actor.firing c.args.instants in
    let quota : c.ones-quota.result ≡ ones_to c.args.self.now.actor.firing c.args.instants = c.ones-quota.ensures in
    let early = c.requires.can.early in
    omega arith

pub returns : goal.returns
returns c = record {
  rest = refl;
  input = c.append.ensures;
  output = c.empty.ensures.none;
  output_room = c.empty.ensures.room;
  quota = c.raise.ensures.quota ∙ c.ones-quota.ensures;
  fired = c.raise.ensures.fired;
  state = λ before n took is. c.raise.ensures.state before c.args.instants n took c.ones-quota.ensures is;
}
