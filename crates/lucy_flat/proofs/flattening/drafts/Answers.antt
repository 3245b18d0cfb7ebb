use Rattle.std.proofs.Common.{◌<◌, sym, refl, subst, inr, arith}
use Rattle.std.specs.Prelude.{sum_by}
use Rattle.lucy_word.specs.Limits.{limit_number}
use Rattle.lucy_word.specs.declared.limit.Limit.TheVariants as lim
use Rattle.lucy_flat.specs.declared.kept.Kept.{Kept}
use Rattle.lucy_flat.specs.Drafts.{draft_bits, AreDrafts}
use Rattle.lucy_flat.proofs.KeptLaws.{kept_none}
use Rattle.lucy_flat.proofs.PastLaws.{drafts_past}
use Rattle.lucy_flat.proofs.flattening.drafts.Goals as goal

pub put_all-requires-clause-none : goal.put_all-requires-clause-none
put_all-requires-clause-none c = let first : Kept = record { drafts = c.new.result; bits = 0 } in kept_none first c.new.ensures.items refl

pub returns-then-bits-number-clause-refused : goal.returns-then-bits-number-clause-refused
returns-then-bits-number-clause-refused c =
    let nodes = c.args.program.placed.now.nodes in
    let clocks = c.args.program.clocks.now in
    let all = c.in_ok-put_all.ensures.ok in
    let number = c.number.ensures in
    let past = c.if-bits-number.true in
    let most = all.keeps.most in
    let more : limit_number lim.Bits < sum_by draft_bits all.drafts = omega arith in
    inr (inr (
      refl,
      record {
        drafts = all.drafts;
        are = all.are;
        fits = c.in_ok-put_all.ensures.fits;
        past = drafts_past nodes clocks c.requires.program.proper c.requires.program.clocked all.drafts all.are c.requires.small all.keeps.stored more;
      },
    ))

pub returns-clause-ok : goal.returns-clause-ok
returns-clause-ok c =
    let all = c.in_ok-put_all.ensures.ok in
    let number = c.number.ensures in
    let few = c.if-bits-number.false in
    let same = (all.keeps.all (omega arith)).0 in
    subst (AreDrafts c.args.program.placed.now.nodes c.args.program.clocks.now) (sym same) all.are
