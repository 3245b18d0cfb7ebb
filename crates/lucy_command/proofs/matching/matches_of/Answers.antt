use Rattle.std.proofs.Common.{ap, ap₂, codes, ◌∙◌}
use Rattle.std.proofs.lemmas.Result.{IfErr-weaker, IfOk-weaker}
use Rattle.clap.specs.Walk.{first_of}
use Rattle.clap.specs.Matches.{found_of}
use Rattle.clap.specs.Simple.{is_simple, matches_of}
use Rattle.clap.specs.Takes.{takes}
use Rattle.clap.proofs.WalkLemmas.{first_value-rows}
use Rattle.lucy_command.proofs.Canonical.{scale_is, lead_is, instants_is, workers_is, block_is, first_is, second_is, taken}
use Rattle.lucy_command.proofs.matching.matches_of.Goals as goal

pub returns : goal.returns
returns c =
    let app_is = c.in_ok-command.ensures in
    let parse = c.try_get_matches_from in
    record {
      found = λ t e. IfOk-weaker parse.result _ _ (λ m h.
          let rows = (h (ap is_simple app_is)).0 ∙ ap₂ matches_of app_is e in record {
            scale = first_value-rows (found_of m) (codes "scale") ∙ ap (first_of (codes "scale")) rows ∙ scale_is t;
            lead = first_value-rows (found_of m) (codes "lead") ∙ ap (first_of (codes "lead")) rows ∙ lead_is t;
            instants = first_value-rows (found_of m) (codes "instants") ∙ ap (first_of (codes "instants")) rows ∙ instants_is t;
            workers = first_value-rows (found_of m) (codes "workers") ∙ ap (first_of (codes "workers")) rows ∙ workers_is t;
            block = first_value-rows (found_of m) (codes "block") ∙ ap (first_of (codes "block")) rows ∙ block_is t;
            first = first_value-rows (found_of m) (codes "first") ∙ ap (first_of (codes "first")) rows ∙ first_is t;
            second = first_value-rows (found_of m) (codes "second") ∙ ap (first_of (codes "second")) rows ∙ second_is t;
          }) parse.ensures.matches;
      err = λ t e. IfErr-weaker parse.result _ _ (λ x h. h (ap₂ takes app_is e ∙ taken t)) parse.ensures.passes;
    }
