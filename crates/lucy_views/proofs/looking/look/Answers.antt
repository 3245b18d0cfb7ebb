use Rattle.std.proofs.Common.{map, string_bytes, refl}
use Rattle.clap.specs.Values.{kind_of}
use Rattle.lucy_views.proofs.Sinks.{words_said, words_lost, at_words, looks_so, asks_named, never_named, left_alone}
use Rattle.lucy_views.proofs.looking.look.Goals as goal

pub returns-in-Err-clause-looks : goal.returns-in-Err-clause-looks
returns-in-Err-clause-looks g c =
    let words = map string_bytes c.args.words.now in
    at_words words _ _ _ refl refl
    (words_said words (kind_of c.in-Err.error) _ _ _ _ _ c.in-Err.ensures.refused c.tell_words.ensures.ends c.tell_words.ensures.short)

pub returns-in-Ok-None-clause-looks : goal.returns-in-Ok-None-clause-looks
returns-in-Ok-None-clause-looks g c =
    let words = map string_bytes c.args.words.now in
    at_words words _ _ _ refl refl
    (words_lost words _ _ _ _ _ c.in-Ok-None.ensures.taken (rw c.in-Ok-None.field-0-is at c.in-Ok-None.ensures.none) refl c.refuse.ensures.told)

pub returns-in-Ok-Some-clause-looks : goal.returns-in-Ok-Some-clause-looks
returns-in-Ok-Some-clause-looks g c =
    looks_so (map string_bytes c.args.words.now) c.in-Ok-Some.ask _ _ _ c.in-Ok-Some.ensures.taken (rw c.in-Ok-Some.field-0-is at c.in-Ok-Some.ensures.asks)
    c.answer.ensures.ends

pub returns-in-Ok-Some-clause-shelf : goal.returns-in-Ok-Some-clause-shelf
returns-in-Ok-Some-clause-shelf g c =
    never_named _ c.in-Ok-Some.ask _ _ (asks_named (map string_bytes c.args.words.now) c.in-Ok-Some.ask (rw c.in-Ok-Some.field-0-is at c.in-Ok-Some.ensures.asks))

pub returns-in-Ok-Some-clause-source : goal.returns-in-Ok-Some-clause-source
returns-in-Ok-Some-clause-source g c =
    left_alone _ c.in-Ok-Some.ask _ _ (asks_named (map string_bytes c.args.words.now) c.in-Ok-Some.ask (rw c.in-Ok-Some.field-0-is at c.in-Ok-Some.ensures.asks)) c.answer.ensures.source

pub returns-in-Ok-Some-clause-refused_shelf : goal.returns-in-Ok-Some-clause-refused_shelf
returns-in-Ok-Some-clause-refused_shelf g c = λ refused. absurd (refused c.in-Ok-Some.ensures.taken)

pub returns-in-Ok-Some-clause-refused_source : goal.returns-in-Ok-Some-clause-refused_source
returns-in-Ok-Some-clause-refused_source g c = λ refused. absurd (refused c.in-Ok-Some.ensures.taken)
