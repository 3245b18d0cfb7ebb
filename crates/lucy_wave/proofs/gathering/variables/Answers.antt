use Rattle.std.proofs.Common.{length, sym, ◌∙◌, subst, arith}
use Rattle.std.specs.List.{AllByRecursion}
use Rattle.lucy_wave.specs.Waves.{inner_of}
use Rattle.lucy_wave.specs.Seen.{IsWithin}
use Rattle.lucy_wave.proofs.VariableLaws.{inner_named, named_within}
use Rattle.lucy_wave.proofs.gathering.variables.Goals as goal

pub put_inner-requires-clause-within : goal.put_inner-requires-clause-within
put_inner-requires-clause-within c =
    let n = c.args.node.now in
    subst (AllByRecursion (IsWithin (length n.places) (length c.args.words.now))) (sym (c.deref.ensures.value ∙ c.in_ok-places.ensures.places))
    (named_within n (length n.places) (length c.args.words.now) (inner_of n) (omega arith) (omega (arith, c.requires.words)) (inner_named n))
