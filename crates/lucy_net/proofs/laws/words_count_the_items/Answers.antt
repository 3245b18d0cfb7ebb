use Rattle.lucy_net.proofs.NetLaws.{given_by_word, taken_by_word, within_before, is_instant}
use Rattle.lucy_net.proofs.laws.words_count_the_items.Goals as goal

pub returns : goal.returns
returns c = record {
  given = given_by_word;
  taken = taken_by_word;
  within = within_before;
  instant = is_instant;
}
