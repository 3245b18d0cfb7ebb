use Rattle.std.proofs.Common.{◌≡◌, ◌+◌, [], List, ℕ, None, length, ap, sym, ◌∙◌, subst}
use Rattle.std.specs.Prelude.{ℤ, ◌↔◌, IsTrue, slice_index, Option}
use Rattle.std.proofs.lemmas.Bool.{eqb-true, eqb-false}
use Rattle.std.proofs.lemmas.List.{nil_from_length}
use Rattle.lucy_word.specs.Bits.{Bits}
use Rattle.lucy_stream.specs.Items.{list_at}
use Rattle.lucy_lines.specs.declared.reader.TextFault.{TextFault}
use Rattle.lucy_kahn.specs.Horizons.{Suffice}
use Rattle.lucy_run.specs.declared.ending.Ending.TheVariants as ending
use Rattle.lucy_run.specs.Owes.{EndsFor, AllowsMore}
use Rattle.lucy_run.specs.Courses.{CourseView, words_of, IsCourseUnderWay, EndsOver}
use Rattle.lucy_run.proofs.OverLaws.{passed_many, over_unread, over_read}
use Rattle.lucy_run.proofs.course.Course.end.Goals as goal

pub returns-then-is_empty-clause-over : goal.returns-then-is_empty-clause-over
returns-then-is_empty-clause-over g c =
    let x = c.self.inside in
    let v : CourseView = record { words = x.words.now; outputs = x.outputs.now; reader = x.reader; player = x.player; given = x.given; block = x.block; target = x.target; horizon = x.horizon } in
    let given : x.words.now ≡ [] → x.given ≡ None → ⊥ = subst (λ (w : CourseView). w.words ≡ [] → w.given ≡ None → ⊥) (sym c.self.view_is) c.requires.given in
    let none = nil_from_length x.words.now (eqb-true _ _ (sym c.is_empty.ensures ∙ c.if-is_empty.true)) in
    subst (λ (w : CourseView). EndsOver (g.I.Source.seen c.args.source.now) (g.I.Source.seen c.args.source.now) w ending.Done) c.self.view_is
    (λ p first items can along stopped. over_unread p can first items (g.I.Source.seen c.args.source.now) v along stopped (sym along.words ∙ none) (given none))

pub allows_more-more-requires-clause-counts : goal.allows_more-more-requires-clause-counts
allows_more-more-requires-clause-counts g c =
    let x = c.self.inside in
    let (p, first, items, can, along) = subst (λ (w : CourseView). IsCourseUnderWay (g.I.Source.seen c.args.source.now) w) (sym c.self.view_is) c.requires.under_way in
    let some : words_of p ≡ [] → ⊥ =
    λ (e : words_of p ≡ []). (let empty : length x.words.now ≡ 0 = ap length (along.words ∙ e) in eqb-false _ _ (sym c.is_empty.ensures ∙ c.if-is_empty.false) empty) in
    let many = passed_many p can x.target first (g.I.Source.seen c.args.source.now) (g.I.Source.seen c.pass_rest.new.source) x.reader c.pass_rest.new.self items along.fed c.pass_rest.ensures.reads some in
    ap length c.counts.ensures ∙ many ∙ sym (ap length along.words)

pub returns-clause-over : goal.returns-clause-over
returns-clause-over g c =
    let x = c.self.inside in
    let v : CourseView = record { words = x.words.now; outputs = x.outputs.now; reader = x.reader; player = x.player; given = x.given; block = x.block; target = x.target; horizon = x.horizon } in
    subst (λ (w : CourseView). EndsOver (g.I.Source.seen c.args.source.now) (g.I.Source.seen c.pass_rest.new.source) w c.ending_for.result) c.self.view_is (λ p first items can along stopped.
    let some : words_of p ≡ [] → ⊥ =
    λ (e : words_of p ≡ []). (let empty : length x.words.now ≡ 0 = ap length (along.words ∙ e) in eqb-false _ _ (sym c.is_empty.ensures ∙ c.if-is_empty.false) empty) in
    let ends : (lists : List (List ℤ)) → ((i : ℕ) → slice_index c.pass_rest.new.self.counts i ≡ length (list_at lists i)) → EndsFor (words_of p) x.given lists c.pass_rest.new.self.fault c.ending_for.result =
    λ lists are.
    (let counted = subst (λ (ks : List ℕ). (i : ℕ) → slice_index ks i ≡ length (list_at lists i)) (sym c.counts.ensures) are in
    let allow = c.allows_more-more.ensures lists counted in
    let here = subst (λ (n : ℕ). IsTrue c.allows_more-more.result ↔ Suffice x.words.now lists (n + 1)) c.number.ensures allow in
    let words = subst (λ (ws : List Bits). IsTrue c.allows_more-more.result ↔ AllowsMore ws lists) along.words here in
    subst (λ (f : Option TextFault). EndsFor (words_of p) x.given lists f c.ending_for.result) c.fault.ensures (c.ending_for.ensures (words_of p) lists words)) in
    over_read p can first items (g.I.Source.seen c.args.source.now) v along stopped c.values_in_turn.ensures (g.I.Source.seen c.pass_rest.new.source) c.pass_rest.new.self
    c.pass_rest.ensures.reads c.pass_rest.ensures.stopped (λ ended. (c.pass_rest.ensures.unread ended).1) c.ending_for.result ends some)
