use Rattle.std.proofs.Common.{◌≡◌, refl}
use Rattle.std.specs.Option.{option_map}
use Rattle.lucy_asking.specs.Asks.{buffer_in}
use Rattle.lucy_asking.proofs.Rows.{of_text}
use Rattle.lucy_asking.proofs.words.why.Goals as goal

pub returns-clause-says : goal.returns-clause-says
returns-clause-says c = record {
  name_is = refl;
  says = (
    c.in_ok-file_words.ensures.says,
    of_text _ c.in_ok-text.field-0.now (λ t. option_map (λ b. (b.0.now, b.1)) c.buffer_named.result ≡ buffer_in t) c.in_ok-text.ensures
        c.buffer_named.ensures,
  );
  within = c.in_ok-file_words.ensures.within;
}
