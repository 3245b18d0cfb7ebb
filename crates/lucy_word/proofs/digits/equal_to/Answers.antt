use Rattle.std.proofs.Common.{ℕ, eqb, false, map, ap, ◌∙◌, arith, w8}
use Rattle.std.proofs.lemmas.Simd.{bitmask_splat}
use Rattle.std.proofs.lemmas.List.{get_or-map}
use Rattle.lucy_word.specs.Packing.{is_set}
use Rattle.lucy_word.proofs.DigitLaws.{set_mask}
use Rattle.lucy_word.proofs.digits.equal_to.Goals as goal

pub returns : goal.returns
returns c i h =
    let p = λ (x : ℕ). eqb x c.args.byte in
    ap (λ n. is_set n i) (bitmask_splat w8 eqb c.args.bytes 64 c.args.byte c.fits-bytes.0 (omega arith)) ∙ set_mask (map p c.args.bytes) i
    ∙ get_or-map p c.args.bytes i 0 false (omega (arith, c.fits-bytes.0))
