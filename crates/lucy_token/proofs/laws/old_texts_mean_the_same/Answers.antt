use Rattle.std.proofs.Common.{◌≤◌, refl, arith}
use Rattle.lucy_word.specs.Bits.{most_written}
use Rattle.lucy_token.specs.Laws.{most_before}
use Rattle.lucy_token.proofs.OldTexts.{begins_are, form_is, read_is, digits_form, digits_begin, front_is, digits_front, digits_read, words_are}
use Rattle.lucy_token.proofs.laws.old_texts_mean_the_same.Goals as goal

pub returns : goal.returns
returns c =
    let spell = c.digits_spell_words.ensures in
    record {
      forms = λ bytes v none. (form_is bytes v none, digits_form spell bytes v);
      begins = λ bytes none. (begins_are bytes none, digits_begin spell bytes);
      fronts = λ text front none. (front_is spell text front none, digits_front spell text front none);
      reads = λ bytes w none. (read_is bytes w none, digits_read spell most_written bytes w (omega arith));
      still = λ bytes w read. digits_read spell most_before bytes w (let few : 4096 ≤ 65536 = omega arith in few) read;
      words = λ text ts stop cut. words_are cut text refl;
    }
