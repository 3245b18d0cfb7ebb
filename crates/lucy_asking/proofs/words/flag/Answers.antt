use Rattle.std.proofs.Common.{◌∙◌}
use Rattle.clap.specs.Matches.{found_of}
use Rattle.clap.proofs.WalkLemmas.{one_text-rows}
use Rattle.lucy_asking.proofs.words.flag.Goals as goal

pub returns : goal.returns
returns c =
    let same = one_text-rows (found_of c.args.matches.now) c.args.flag.now in
    (λ on. c.get_flag.ensures.value (same ∙ on), λ off. c.get_flag.ensures.other (same ∙ off), λ none. c.get_flag.ensures.none (same ∙ none))
