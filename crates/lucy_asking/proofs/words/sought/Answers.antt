use Rattle.std.proofs.Common.{inl, inr, arith}
use Rattle.std.proofs.lemmas.Str.Pattern.{strip_prefix_char}
use Rattle.lucy_asking.proofs.Rows.{behind_hash, no_hash}
use Rattle.lucy_asking.proofs.words.sought.Goals as goal

pub returns-in-Some : goal.returns-in-Some
returns-in-Some c =
    let cut = strip_prefix_char 35 c.args.word.now c.strip_prefix.result c.strip_prefix.ensures.cases (omega arith) in
    inl (
      c.in-Some.number.now,
      c.place_number.result,
      behind_hash c.args.word.now c.strip_prefix.result c.in-Some.number c.in-Some.is cut,
      c.place_number.ensures,
      c.place_sought.ensures,
    )

pub returns-in-None : goal.returns-in-None
returns-in-None c =
    let cut = strip_prefix_char 35 c.args.word.now c.strip_prefix.result c.strip_prefix.ensures.cases (omega arith) in
    inr (c.offset.result, no_hash c.args.word.now c.strip_prefix.result c.in-None.is cut, c.offset.ensures, c.offset_sought.ensures)
