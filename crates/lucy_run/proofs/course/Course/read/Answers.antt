use Rattle.std.proofs.Common.{◌≡◌, [], length, ap, sym, ◌∙◌, subst, inr}
use Rattle.lucy_word.proofs.Results.{on_err}
use Rattle.lucy_lines.specs.Resuming.{AreMet}
use Rattle.lucy_lines.specs.Feeding.{values_by_stream}
use Rattle.lucy_run.specs.Feeds.{IsShortOf}
use Rattle.lucy_run.specs.Courses.{CourseView, GivesUpBehind}
use Rattle.lucy_run.specs.Played.{ReadsOn}
use Rattle.lucy_run.proofs.ReadLaws.{fronts_same, feeds_less, fed_feeds, gives_up, reads_on, met_none}
use Rattle.lucy_run.proofs.course.Course.read.Goals as goal

pub returns-in_err-wanted-clause-gives_up : goal.returns-in_err-wanted-clause-gives_up
returns-in_err-wanted-clause-gives_up g c =
    let given_up : GivesUpBehind c.args.self.now.words c.args.self.now.target (g.I.Source.seen c.args.source.now) (g.I.Source.seen c.args.source.now) c.args.self.now.reader = λ inputs first items fed fresh kept.
    feeds_less (IsShortOf c.args.self.now.words c.args.self.now.target inputs) inputs first (g.I.Source.seen c.args.source.now) (values_by_stream (length inputs) items) (values_by_stream (length inputs) items)
    (fronts_same (values_by_stream (length inputs) items))
    (fed_feeds c.values_in_turn.ensures c.args.self.now.words c.args.self.now.target inputs first (g.I.Source.seen c.args.source.now) c.args.self.now.reader items fed) in
    on_err _ _ given_up

pub returns-in_err-read_to-clause-gives_up : goal.returns-in_err-read_to-clause-gives_up
returns-in_err-read_to-clause-gives_up g c =
    let x = c.self.inside in
    let many : length x.words.now ≡ length x.reader.reader.inputs = subst (λ (v : CourseView). length v.words ≡ length v.reader.reader.inputs) (sym c.self.view_is) c.requires in
    let none : x.reader.reader.inputs ≡ [] → ⊥ = λ (empty : x.reader.reader.inputs ≡ []).
    (let met : AreMet c.deref.result.now x.reader.counts = met_none x.words.now x.reader.reader.inputs c.deref.result.now x.reader.counts c.args.instants (c.deref.ensures.value ∙ c.in_ok-wanted.ensures) many empty in
    let told = (c.in_err-read_to.ensures.unread (inr met)).0 in
    cc) in
    on_err _ _ (subst (λ (v : CourseView). GivesUpBehind v.words v.target (g.I.Source.seen c.args.source.now) (g.I.Source.seen c.read_to.new.source) v.reader) c.self.view_is
    (gives_up c.values_in_turn.ensures x.words.now x.target _ _ x.reader none c.in_err-read_to.ensures.gives_up))

pub returns-clause-reads : goal.returns-clause-reads
returns-clause-reads g c =
    let x = c.self.inside in
    let many : length x.words.now ≡ length x.reader.reader.inputs = subst (λ (v : CourseView). length v.words ≡ length v.reader.reader.inputs) (sym c.self.view_is) c.requires in
    subst (λ (v : CourseView). ReadsOn v.words c.args.instants (g.I.Source.seen c.args.source.now) (g.I.Source.seen c.read_to.new.source) v.reader c.read_to.new.self) c.self.view_is
    (reads_on x.words.now c.args.instants c.deref.result.now (c.deref.ensures.value ∙ c.in_ok-wanted.ensures) _ _ x.reader c.read_to.new.self
    (λ empty.
    let met : AreMet c.deref.result.now x.reader.counts = met_none x.words.now x.reader.reader.inputs c.deref.result.now x.reader.counts c.args.instants (c.deref.ensures.value ∙ c.in_ok-wanted.ensures) many empty in
    let told = c.in_ok-read_to.ensures.unread (inr met) in
    (ap g.I.Source.seen told.1, told.2))
    c.in_ok-read_to.ensures.inputs c.in_ok-read_to.ensures.reads)
