use Rattle.lucy_need.specs.Meeting.{assigned}
use Rattle.lucy_clock.proofs.ReaderLaws.{one_read, unnamed_of, next_named, next_handed}
use Rattle.lucy_clock.proofs.ResultLaws.{from_both}
use Rattle.lucy_clock.proofs.words.next_word.Goals as goal

pub handed_word-requires-clause-unnamed : goal.handed_word-requires-clause-unnamed
handed_word-requires-clause-unnamed c =
    let here = one_read c.list.result.now c.args.node.now.places c.args.place c.index-list-place.result c.list.ensures c.requires.place.0 c.requires.place.1 c.index-list-place.is in
    unnamed_of c.args.node.now c.requires.handing.written c.args.place c.index-list-place.result here c.in-None.is

pub returns-in_ok-copy-in-Some-clause-ok : goal.returns-in_ok-copy-in-Some-clause-ok
returns-in_ok-copy-in-Some-clause-ok c =
    let here = one_read c.list.result.now c.args.node.now.places c.args.place c.index-list-place.result c.list.ensures c.requires.place.0 c.requires.place.1 c.index-list-place.is in
    next_named c.args.node.now c.requires.handing.labels c.args.place c.index-list-place.result c.in-Some.word c.in_ok-copy-in-Some.field-0 (assigned c.args.words.now) here c.in-Some.is c.in_ok-copy-in-Some.ensures.equal c.in_ok-copy-in-Some.ensures.stored

pub returns-in-None-clause-ok : goal.returns-in-None-clause-ok
returns-in-None-clause-ok c =
    let here = one_read c.list.result.now c.args.node.now.places c.args.place c.index-list-place.result c.list.ensures c.requires.place.0 c.requires.place.1 c.index-list-place.is in
    let un = unnamed_of c.args.node.now c.requires.handing.written c.args.place c.index-list-place.result here c.in-None.is in
    from_both c.handed_word.result _ _ _ c.handed_word.ensures.ok c.handed_word.ensures.stored
    (λ w hands stored. next_handed c.args.node.now c.requires.handing.labels c.args.place w (assigned c.args.words.now) un hands stored)
