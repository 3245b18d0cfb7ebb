use Rattle.std.proofs.Common.{length, ap, sym, subst, inl, inr, arith}
use Rattle.std.proofs.lemmas.Result.{IfOk-weaker, IfErr-weaker}
use Rattle.lucy_place.specs.declared.entry.PlaceEntry.{PlaceEntry}
use Rattle.lucy_need.specs.Meeting.{assigned}
use Rattle.lucy_clock.specs.HandedDown.{Hands}
use Rattle.lucy_clock.specs.Reading.{HasTurned}
use Rattle.lucy_clock.proofs.ReaderLaws.{one, reader_bounds, reader_entry, reader_word, reader_among, reader_once, reader_all, reader_long}
use Rattle.lucy_clock.proofs.words.handed_word.Goals as goal

pub overflow_sub-reader-2 : goal.overflow_sub-reader-2
overflow_sub-reader-2 c = (reader_bounds c.args.node.now c.requires.handing.written c.requires.handing.once c.args.place c.requires.unnamed c.args.readers.now c.requires.handing.beside).0

pub bounds-places-reader : goal.bounds-places-reader
bounds-places-reader c =
    let b = reader_bounds c.args.node.now c.requires.handing.written c.requires.handing.once c.args.place c.requires.unnamed c.args.readers.now c.requires.handing.beside in
    let low = b.0 in
    let high = b.1 in
    let len = ap length c.list-places.ensures in
    omega arith

pub bounds-words-reader : goal.bounds-words-reader
bounds-words-reader c =
    let b = reader_bounds c.args.node.now c.requires.handing.written c.requires.handing.once c.args.place c.requires.unnamed c.args.readers.now c.requires.handing.beside in
    let before = b.2 in
    let count = c.requires.count in
    omega arith

pub handed-requires-clause-zero : goal.handed-requires-clause-zero
handed-requires-clause-zero c =
    let o = one c.args.node.now c.requires.handing.written c.requires.handing.once c.args.place c.requires.unnamed c.args.readers.now c.requires.handing.beside in
    let e = reader_entry c.args.node.now c.requires.handing.written c.requires.handing.once c.args.place c.requires.unnamed c.args.readers.now c.requires.handing.beside c.list-places.result.now c.index-places-reader.result c.list-places.ensures in
    subst (λ (x : PlaceEntry). HasTurned x.kind) (sym e) (c.requires.handing.turned o.reader o.reads.entry o.reads.stands)

pub handed-requires-clause-among : goal.handed-requires-clause-among
handed-requires-clause-among c =
    reader_among c.args.node.now c.requires.handing.written c.requires.handing.once c.args.place c.requires.unnamed c.args.readers.now c.requires.handing.beside _
    (reader_entry c.args.node.now c.requires.handing.written c.requires.handing.once c.args.place c.requires.unnamed c.args.readers.now c.requires.handing.beside c.list-places.result.now c.index-places-reader.result c.list-places.ensures)

pub handed-requires-clause-once : goal.handed-requires-clause-once
handed-requires-clause-once c =
    reader_once c.args.node.now c.requires.handing.written c.requires.handing.once c.args.place c.requires.unnamed c.args.readers.now c.requires.handing.beside _
    (reader_entry c.args.node.now c.requires.handing.written c.requires.handing.once c.args.place c.requires.unnamed c.args.readers.now c.requires.handing.beside c.list-places.result.now c.index-places-reader.result c.list-places.ensures)

pub returns-clause-ok : goal.returns-clause-ok
returns-clause-ok c =
    let b = reader_bounds c.args.node.now c.requires.handing.written c.requires.handing.once c.args.place c.requires.unnamed c.args.readers.now c.requires.handing.beside in
    let before = b.2 in
    let count = c.requires.count in
    let e = reader_entry c.args.node.now c.requires.handing.written c.requires.handing.once c.args.place c.requires.unnamed c.args.readers.now c.requires.handing.beside c.list-places.result.now c.index-places-reader.result c.list-places.ensures in
    let f = reader_word c.args.node.now c.requires.handing.written c.requires.handing.once c.args.place c.requires.unnamed c.args.readers.now c.requires.handing.beside c.args.words.now c.index-words-reader.result (omega arith) c.index-words-reader.is in
    IfOk-weaker c.handed.result _ _
    (λ w h. reader_all c.args.node.now c.requires.handing.written c.requires.handing.once c.args.place c.requires.unnamed c.args.readers.now c.requires.handing.beside (λ kind k own. Hands kind k own w) (assigned c.args.words.now) _ _ e f h)
    c.handed.ensures.ok

pub returns-clause-refused : goal.returns-clause-refused
returns-clause-refused c =
    let b = reader_bounds c.args.node.now c.requires.handing.written c.requires.handing.once c.args.place c.requires.unnamed c.args.readers.now c.requires.handing.beside in
    let before = b.2 in
    let count = c.requires.count in
    let e = reader_entry c.args.node.now c.requires.handing.written c.requires.handing.once c.args.place c.requires.unnamed c.args.readers.now c.requires.handing.beside c.list-places.result.now c.index-places-reader.result c.list-places.ensures in
    let f = reader_word c.args.node.now c.requires.handing.written c.requires.handing.once c.args.place c.requires.unnamed c.args.readers.now c.requires.handing.beside c.args.words.now c.index-words-reader.result (omega arith) c.index-words-reader.is in
    IfErr-weaker c.handed.result _ _
    (λ x h. elim h [
      | inl none ↦ inl none
      | inr long ↦ inr (long.0, reader_long c.args.node.now c.requires.handing.written c.requires.handing.once c.args.place c.requires.unnamed c.args.readers.now c.requires.handing.beside (assigned c.args.words.now) _ _ e f long.1)
    ])
    c.handed.ensures.refused
