use Rattle.std.proofs.Common.{◌≤◌, length, ap, sym, ◌∙◌, subst, arith}
use Rattle.lucy_word.proofs.Results.{on_err}
use Rattle.lucy_run.specs.Courses.{CourseView, words_of, IsNextTarget, IsNextBlock}
use Rattle.lucy_run.specs.Played.{CountsAllow, PlayerCanGoOn, PlayerHasGoneOn}
use Rattle.lucy_run.specs.Owes.{most_instants}
use Rattle.lucy_run.proofs.ReadLaws.{fed_counts, gives_up_on}
use Rattle.lucy_run.proofs.OverLaws.{words_count}
use Rattle.lucy_run.proofs.CourseLaws.{read_behind, can_go_on, next}
use Rattle.lucy_run.proofs.course.Course.next_block.Goals as goal

pub read-requires : goal.read-requires
read-requires g c =
    let (p, first, items, can, along) = c.requires.under_way in
    ap length along.words ∙ sym (words_count p can) ∙ sym (ap length along.kept)

pub next_target-target-requires : goal.next_target-target-requires
next_target-target-requires g c =
    let (p, first, items, can, along) = c.requires.under_way in
    record { early = along.early; few = along.few; block = along.block }

pub allowed-horizon-requires : goal.allowed-horizon-requires
allowed-horizon-requires g c =
    let (p, first, items, can, along) = c.requires.under_way in
    let ahead : c.args.self.now.target ≤ c.next_target-target.result = omega (arith, c.next_target-target.ensures.ahead c.requires.more.1) in
    let (more, fed, fresh, kept) = read_behind p first items (g.I.Source.seen c.args.source.now) c.args.self.now along (g.I.Source.seen c.read.new.source) c.read.new.self.reader
    c.next_target-target.result ahead c.in_ok-read.ensures.reads in
    let many = (fed_counts (words_of p) c.next_target-target.result p.inputs first (g.I.Source.seen c.read.new.source) c.read.new.self.reader _ fed).many in
    many ∙ words_count p can ∙ sym (ap length along.words) ∙ sym (ap (λ (x : CourseView). length x.words) c.in_ok-read.ensures.rest)

pub go_on-requires-clause-kinds : goal.go_on-requires-clause-kinds
go_on-requires-clause-kinds g c κs within = c.requires.kinds ∙ sym (ap (λ (x : CourseView). x.player.kinds) c.in_ok-read.ensures.rest)

pub go_on-requires-clause-can : goal.go_on-requires-clause-can
go_on-requires-clause-can g c κs within =
    let (p, first, items, can, along) = c.requires.under_way in
    let ahead : c.args.self.now.target ≤ c.next_target-target.result = omega (arith, c.next_target-target.ensures.ahead c.requires.more.1) in
    let (more, fed, fresh, kept) = read_behind p first items (g.I.Source.seen c.args.source.now) c.args.self.now along (g.I.Source.seen c.read.new.source) c.read.new.self.reader
    c.next_target-target.result ahead c.in_ok-read.ensures.reads in
    let early : c.next_target-target.result ≤ most_instants c.args.self.now.given = c.next_target-target.ensures.goes.within in
    let words = ap (λ (x : CourseView). x.words) c.in_ok-read.ensures.rest in
    let allow : CountsAllow c.args.self.now.words c.read.new.self.reader.counts c.next_target-target.result c.allowed-horizon.result =
    subst (λ ws. CountsAllow ws c.read.new.self.reader.counts c.next_target-target.result c.allowed-horizon.result) words c.allowed-horizon.ensures in
    subst (λ v. PlayerCanGoOn v c.read.new.self.reader.fresh c.allowed-horizon.result) (sym (ap (λ (x : CourseView). x.player) c.in_ok-read.ensures.rest))
    (can_go_on c.values_in_turn.ensures p first items (g.I.Source.seen c.args.source.now) c.args.self.now along (g.I.Source.seen c.read.new.source) c.read.new.self.reader more
    c.next_target-target.result fed fresh kept c.allowed-horizon.result ahead allow early)

pub returns-in_err-streams-clause-gives_up : goal.returns-in_err-streams-clause-gives_up
returns-in_err-streams-clause-gives_up g c =
    let ahead : c.args.self.now.target ≤ c.next_target-target.result = omega (arith, c.next_target-target.ensures.ahead c.requires.more.1) in
    on_err _ _ (gives_up_on c.values_in_turn.ensures c.args.self.now.words c.args.self.now.target c.next_target-target.result ahead _ _ c.args.self.now.reader c.read.new.self.reader c.in_ok-read.ensures.reads)

pub returns-clause-goes_on : goal.returns-clause-goes_on
returns-clause-goes_on g c = λ p first items can along.
    let ahead : c.args.self.now.target ≤ c.next_target-target.result = omega (arith, c.next_target-target.ensures.ahead c.requires.more.1) in
    let (more, fed, fresh, kept) = read_behind p first items (g.I.Source.seen c.args.source.now) c.args.self.now along (g.I.Source.seen c.read.new.source) c.read.new.self.reader
    c.next_target-target.result ahead c.in_ok-read.ensures.reads in
    let early : c.next_target-target.result ≤ most_instants c.args.self.now.given = c.next_target-target.ensures.goes.within in
    let by_outputs = subst (λ os. IsNextTarget os c.args.self.now.block (most_instants c.args.self.now.given) c.args.self.now.target c.next_target-target.result) along.outputs
    c.next_target-target.ensures.goes in
    let goes = subst (λ last. IsNextTarget p.outputs c.args.self.now.block (most_instants c.args.self.now.given) last c.next_target-target.result) (sym c.requires.more.0) by_outputs in
    let words = ap (λ (x : CourseView). x.words) c.in_ok-read.ensures.rest in
    let allow : CountsAllow c.args.self.now.words c.read.new.self.reader.counts c.next_target-target.result c.allowed-horizon.result =
    subst (λ ws. CountsAllow ws c.read.new.self.reader.counts c.next_target-target.result c.allowed-horizon.result) words c.allowed-horizon.ensures in
    let gone : PlayerHasGoneOn c.read.new.self.reader c.args.self.now.player c.go_on.new.self.reader c.go_on.new.self.player c.allowed-horizon.result c.in_ok-streams.streams =
    subst (λ v. PlayerHasGoneOn c.read.new.self.reader v c.go_on.new.self.reader c.go_on.new.self.player c.allowed-horizon.result c.in_ok-streams.streams)
    (ap (λ (x : CourseView). x.player) c.in_ok-read.ensures.rest) c.in_ok-streams.ensures.gone in
    let all = c.in_ok-streams.ensures.rest ∙ ap (λ (x : CourseView). record x { reader = c.go_on.new.self.reader; player = c.go_on.new.self.player }) c.in_ok-read.ensures.rest in
    subst (λ (x : CourseView). IsNextBlock p first items (g.I.Source.seen c.read.new.source) c.args.self.now x c.in_ok-streams.streams)
    (sym (c.stand_at.ensures ∙ ap (λ (x : CourseView). record x { target = c.next_target-target.result; horizon = c.allowed-horizon.result }) all))
    (next c.values_in_turn.ensures p first items (g.I.Source.seen c.args.source.now) c.args.self.now along (g.I.Source.seen c.read.new.source) c.read.new.self.reader more
    c.next_target-target.result fed fresh kept c.allowed-horizon.result ahead allow c.go_on.new.self.reader c.go_on.new.self.player c.in_ok-streams.streams gone c.in_ok-read.ensures.enough early goes)
