use Rattle.std.proofs.Common.{◌+◌, length, ap, refl, sym, subst, arith}
use Rattle.lucy_place.specs.declared.entry.PlaceEntry.{PlaceEntry}
use Rattle.lucy_need.specs.Meeting.{assigned}
use Rattle.lucy_clock.specs.Reading.{HasStoredWord}
use Rattle.lucy_clock.proofs.ReaderLaws.{index_read, unnamed_of, next_named}
use Rattle.lucy_clock.proofs.UnmadeLaws.{next_bounds, next_there}
use Rattle.lucy_clock.proofs.words.has_word.Goals as goal

pub overflow_sub-reader : goal.overflow_sub-reader
overflow_sub-reader c =
    let n = c.args.node.now in
    let here =
    index_read c.list-places.result.now n.places c.args.i c.index-places-i.result c.list-places.ensures c.requires.within c.index-places-i.is in
    let un = unnamed_of n c.requires.handing.written (c.args.i + 1) c.index-places-i.result here c.in-None.is in
    (next_bounds n c.args.readers.now c.requires.handing c.args.i un).0

pub bounds-places-reader : goal.bounds-places-reader
bounds-places-reader c =
    let n = c.args.node.now in
    let here =
    index_read c.list-places.result.now n.places c.args.i c.index-places-i.result c.list-places.ensures c.requires.within c.index-places-i.is in
    let un = unnamed_of n c.requires.handing.written (c.args.i + 1) c.index-places-i.result here c.in-None.is in
    let b = next_bounds n c.args.readers.now c.requires.handing c.args.i un in
    let low = b.0 in
    let high = b.1 in
    let len = ap length c.list-places.ensures in
    omega arith

pub returns-in-Some : goal.returns-in-Some
returns-in-Some c = λ words far.
    let n = c.args.node.now in
    let word = c.in-Some.word in
    let here =
    index_read c.list-places.result.now n.places c.args.i c.index-places-i.result c.list-places.ensures c.requires.within c.index-places-i.is in (
      word,
      next_named n c.requires.handing.labels (c.args.i + 1) c.index-places-i.result word word (assigned words) here c.in-Some.is refl
          c.words_are_stored.ensures,
    )

pub returns-in-None : goal.returns-in-None
returns-in-None c = λ words far.
    let n = c.args.node.now in
    let here =
    index_read c.list-places.result.now n.places c.args.i c.index-places-i.result c.list-places.ensures c.requires.within c.index-places-i.is in
    let un = unnamed_of n c.requires.handing.written (c.args.i + 1) c.index-places-i.result here c.in-None.is in
    let stored = subst (λ (x : PlaceEntry). HasStoredWord x.kind) (sym c.index-places-reader.is) c.word_is_stored.ensures in
    next_there n c.args.readers.now c.requires.handing c.args.i un c.list-places.result.now c.index-places-reader.result
    c.list-places.ensures c.index-places-reader.is stored words far
