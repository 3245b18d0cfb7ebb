use Rattle.std.proofs.Common.{ℕ, ◌≡◌, ◌+◌, ◌-◌, ◌++◌, List, length, take, drop, ap, sym, subst, ◌∙◌, arith}
use Rattle.std.proofs.lemmas.List.{take_at}
use Rattle.lucy_word.proofs.Results.{on_err}
use Rattle.lucy_lines.specs.Outputs.{lines_after}
use Rattle.lucy_text.specs.Outside.{Writes, Fails}
use Rattle.lucy_lines.specs.Writing.{WriterState}
use Rattle.lucy_lines.specs.Walks.{WalkState, AreAt, FitRoom, IsBetweenBlocks}
use Rattle.lucy_lines.proofs.RunLaws.{standing}
use Rattle.lucy_lines.proofs.writer.OutputWriter.write.Goals as goal

pub put_block-requires : goal.put_block-requires
put_block-requires g c =
    let stands = standing c.self.inside.broken _ _ _ _ (ap (λ s. s.broken) c.self.view_is ∙ c.requires.whole) c.self.invariant.1 in
    let value = c.deref_mut.ensures.value in
    let P : List WalkState → Type 0 = λ walks. FitRoom walks c.self.inside.lines.room in
    let same = ap length value in
    let many = stands.at.count in
    let few = c.self.invariant.0 in
    let lists = c.requires.lists in
    let outputs = ap (λ s. length s.outputs) c.self.view_is in
    record { fit = subst P (sym value) stands.fit; few = omega arith; lists = omega arith; none = stands.none }

pub returns-clause-ok : goal.returns-clause-ok
returns-clause-ok g c =
    let stands = standing c.self.inside.broken _ _ _ _ (ap (λ s. s.broken) c.self.view_is ∙ c.requires.whole) c.self.invariant.1 in
    let P : List WalkState → Type 0 = λ walks. AreAt c.self.inside.instants c.self.inside.outputs.now walks in
    let at = subst P (sym c.deref_mut.ensures.value) stands.at in
    let Q : WriterState → Type 0 = λ s. Writes (g.K.Sink.seen c.args.sink.now)
    (g.K.Sink.seen c.put_block.new.sink) (lines_after s.outputs c.args.lists.now s.instants c.args.instants) in
    subst Q c.self.view_is (c.in_ok-put_block.ensures.ok c.self.inside.instants c.self.inside.outputs.now at)

pub returns-in_err-put_block-clause-failed : goal.returns-in_err-put_block-clause-failed
returns-in_err-put_block-clause-failed g c =
    let stands = standing c.self.inside.broken _ _ _ _ (ap (λ s. s.broken) c.self.view_is ∙ c.requires.whole) c.self.invariant.1 in
    let P : List WalkState → Type 0 = λ walks. AreAt c.self.inside.instants c.self.inside.outputs.now walks in
    let at = subst P (sym c.deref_mut.ensures.value) stands.at in
    let Q : WriterState → Type 0 = λ s. Fails (g.K.Sink.seen c.args.sink.now)
    (g.K.Sink.seen c.put_block.new.sink) (lines_after s.outputs c.args.lists.now s.instants c.args.instants) in
    on_err c.from_residual.result _ (subst Q c.self.view_is (c.in_err-put_block.ensures.failed c.self.inside.instants c.self.inside.outputs.now at))

pub invariant_of-self-2 : goal.invariant_of-self-2
invariant_of-self-2 g c =
    let stands = standing c.self.inside.broken _ _ _ _ (ap (λ s. s.broken) c.self.view_is ∙ c.requires.whole) c.self.invariant.1 in
    let P : List WalkState → Type 0 = λ walks. AreAt c.self.inside.instants c.self.inside.outputs.now walks in
    let at = subst P (sym c.deref_mut.ensures.value) stands.at in
    let e = c.in_ok-put_block.ensures in
    let whole : take c.self.inside.walks.len (c.put_block.new.walks ++ drop (length c.put_block.new.walks) c.self.inside.walks.items) ≡ c.put_block.new.walks =
    take_at c.put_block.new.walks _ c.self.inside.walks.len (omega (arith, c.put_block.auto.walks, c.deref_mut.ensures.len)) in
    let later = c.requires.later in
    let instants = ap (λ s. s.instants) c.self.view_is in
    let end : c.self.inside.instants + (c.args.instants - c.self.inside.instants) ≡ c.args.instants = omega arith in
    let R : ℕ → Type 0 = λ t. AreAt t c.self.inside.outputs.now c.put_block.new.walks in
    let S : List WalkState → Type 0 = λ walks. IsBetweenBlocks c.args.instants c.self.inside.outputs.now walks c.put_block.new.lines in
    (c.self.invariant.0, λ none. subst S (sym whole) (record { at = subst R end (e.at c.self.inside.instants c.self.inside.outputs.now at); fit = e.fit; none = e.none }))
