use Rattle.std.proofs.Common.{◌++◌, ◌∷◌, [], length, ap, ◌∙◌, arith}
use Rattle.lucy_word.specs.Packing.{limb_bits}
use Rattle.lucy_word.proofs.LimbLaws.{length-unpacked}
use Rattle.lucy_word.proofs.PackedLaws.{push_within, push_over}
use Rattle.lucy_word.proofs.packed.Packed.push.Goals as goal

pub invariant_of-self : goal.invariant_of-self
invariant_of-self c = (
  omega (arith, length-unpacked c.self.inside.len (c.self.inside.whole.items ++ c.self.inside.last ∷ []), ap length c.self.view_is),
  (push_within c.self.inside.len c.args.n c.args.limb c.self.inside.whole.items c.self.inside.last c.self.invariant.1 c.requires.small c.if-at-n-lt-WIDTH.true).0,
)

pub returns-then-at-n-lt-WIDTH : goal.returns-then-at-n-lt-WIDTH
returns-then-at-n-lt-WIDTH c =
    (push_within c.self.inside.len c.args.n c.args.limb c.self.inside.whole.items c.self.inside.last c.self.invariant.1 c.requires.small c.if-at-n-lt-WIDTH.true).1
    ∙ ap (λ l. l ++ limb_bits c.args.n c.args.limb) c.self.view_is

pub invariant_of-self-2 : goal.invariant_of-self-2
invariant_of-self-2 c = (
  omega (arith, length-unpacked c.self.inside.len (c.self.inside.whole.items ++ c.self.inside.last ∷ []), ap length c.self.view_is),
  (push_over c.self.inside.len c.args.n c.args.limb c.self.inside.whole.items c.push.new.self.items c.self.inside.last c.self.invariant.1 c.requires.few c.requires.small c.if-at-n-lt-WIDTH.false
      c.in_ok-push.ensures.items).0,
)

pub returns : goal.returns
returns c =
    (push_over c.self.inside.len c.args.n c.args.limb c.self.inside.whole.items c.push.new.self.items c.self.inside.last c.self.invariant.1 c.requires.few c.requires.small c.if-at-n-lt-WIDTH.false
    c.in_ok-push.ensures.items).1
    ∙ ap (λ l. l ++ limb_bits c.args.n c.args.limb) c.self.view_is
