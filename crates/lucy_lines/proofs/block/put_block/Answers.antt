use Rattle.std.proofs.Common.{ℕ, ◌≡◌, ◌+◌, List, ap, sym, subst, ◌∙◌, arith}
use Rattle.lucy_word.proofs.Results.{on_err}
use Rattle.lucy_lines.specs.Outputs.{more_lines}
use Rattle.lucy_text.specs.Outside.{Writes, Fails}
use Rattle.lucy_lines.specs.Walks.{AreAt, AreWalked, FitRoom}
use Rattle.lucy_lines.proofs.OutputLaws.{no_more_lines}
use Rattle.lucy_lines.proofs.SinkLaws.{nothing_gathered, gathered_untouched, gathered_empty, waiting_fails, gathered_written}
use Rattle.lucy_lines.proofs.WalkLaws.{lists_begin, fit_begun, all_left_later, fit_later, walked_at}
use Rattle.lucy_lines.proofs.RunLaws.{enough_lists, instant_gathered, run_fails, empty_before, nothing_waits}
use Rattle.lucy_lines.proofs.block.put_block.Goals as goal

pub instants-init : goal.instants-init
instants-init g c = record {
  long = c.begin_lists.auto.walks;
  left = λ before outputs at.
      let P : ℕ → Type 0 = λ t. AreWalked before t outputs c.args.lists.now c.begin_lists.new.walks in
      let e : before ≡ before + 0 = omega arith in
      subst P e (lists_begin before outputs c.args.lists.now c.args.walks.now c.begin_lists.new.walks c.begin_lists.auto.walks at c.begin_lists.ensures);
  fit = fit_begun c.args.walks.now c.begin_lists.new.walks c.args.lines.now.room c.begin_lists.auto.walks c.requires.fit c.begin_lists.ensures;
  gathered = λ before outputs at. nothing_gathered _ _ c.args.lines.now _ (c.requires.none ∙ sym (no_more_lines outputs c.args.lists.now before));
  count = omega arith;
}

pub put_instant-requires : goal.put_instant-requires
put_instant-requires g c = record {
  fit = c.instants.invariant.fit;
  few = (let long = c.instants.invariant.long in let few = c.requires.few in omega arith);
  lists = (let long = c.instants.invariant.long in let lists = c.requires.lists in omega arith);
}

pub returns-in_err-put_instant-clause-failed : goal.returns-in_err-put_instant-clause-failed
returns-in_err-put_instant-clause-failed g c = on_err c.from_residual.result _ (λ before outputs at.
    run_fails _ _ _ _ _ _ outputs c.args.lists.now c.instants.walks before c.instants.counter c.args.more
    (enough_lists before outputs c.args.walks.now c.args.lists.now at c.requires.lists) (c.instants.invariant.left before outputs at) (omega arith)
    (c.instants.invariant.gathered before outputs at) c.in_err-put_instant.ensures.failed)

pub returns-in_err-put_instant-clause-untouched : goal.returns-in_err-put_instant-clause-untouched
returns-in_err-put_instant-clause-untouched g c = λ before outputs at empty.
    c.in_err-put_instant.ensures.untouched
    (nothing_waits _ _ _ _ _ outputs c.args.lists.now c.instants.walks before c.instants.counter c.args.more
    (enough_lists before outputs c.args.walks.now c.args.lists.now at c.requires.lists) (c.instants.invariant.left before outputs at) (omega arith)
    (c.instants.invariant.gathered before outputs at) empty)
    ∙ gathered_untouched _ _ _ _ _ _ (c.instants.invariant.gathered before outputs at) (empty_before outputs c.args.lists.now before c.instants.counter c.args.more (omega arith) empty)

pub instants-preserved : goal.instants-preserved
instants-preserved g c =
    let i = c.instants.invariant in
    let e = c.in_ok-put_instant.ensures in
    let T : ℕ → Type 0 = λ room. FitRoom c.put_instant.new.walks room in
    record {
      long = c.put_instant.auto.walks ∙ i.long;
      left = λ before outputs at.
          let P : ℕ → Type 0 = λ t. AreWalked before t outputs c.args.lists.now c.put_instant.new.walks in
          let later : before + c.instants.counter + 1 ≡ before + (c.instants.counter + 1) = omega arith in
          subst P later (all_left_later before (before + c.instants.counter) outputs c.args.lists.now c.instants.walks c.put_instant.new.walks (omega arith) c.put_instant.auto.walks (i.left before outputs at) e.steps);
      fit = subst T (sym e.room) (fit_later c.args.lists.now c.instants.walks c.put_instant.new.walks c.instants.lines.room c.put_instant.auto.walks i.fit e.steps);
      gathered = λ before outputs at. instant_gathered _ _ _ _ _ _ _ _ outputs c.args.lists.now c.instants.walks before c.instants.counter
          (enough_lists before outputs c.args.walks.now c.args.lists.now at c.requires.lists) (i.left before outputs at) (i.gathered before outputs at) e.ok;
      count = omega (arith, e.count, i.count);
    }

pub returns-in_err-write_all-clause-failed : goal.returns-in_err-write_all-clause-failed
returns-in_err-write_all-clause-failed g c = on_err c.from_residual-in_err-write_all.result _ (λ before outputs at.
    let end : c.instants.counter ≡ c.args.more = omega arith in
    let P : ℕ → Type 0 = λ n. Fails (g.K.Sink.seen c.args.sink.now) (g.K.Sink.seen c.write_all.new.sink)
    (more_lines outputs c.args.lists.now before n) in
    let Q : List ℕ → Type 0 = λ bytes. Fails (g.K.Sink.seen c.instants.sink) (g.K.Sink.seen c.write_all.new.sink) bytes in
    subst P end (waiting_fails _ _ _ _ _ c.instants.lines _ (c.instants.invariant.gathered before outputs at) (subst Q c.bytes.ensures c.in_err-write_all.ensures.failed)))

pub returns-in_err-write_all-clause-untouched : goal.returns-in_err-write_all-clause-untouched
returns-in_err-write_all-clause-untouched g c = λ before outputs at empty.
    let none = empty_before outputs c.args.lists.now before c.instants.counter c.args.more (omega arith) empty in
    c.in_err-write_all.ensures.untouched (c.bytes.ensures ∙ gathered_empty _ _ _ _ _ _ (c.instants.invariant.gathered before outputs at) none)
    ∙ gathered_untouched _ _ _ _ _ _ (c.instants.invariant.gathered before outputs at) none

pub returns-clause-ok : goal.returns-clause-ok
returns-clause-ok g c = λ before outputs at.
    let end : c.instants.counter ≡ c.args.more = omega arith in
    let P : ℕ → Type 0 = λ n. Writes (g.K.Sink.seen c.args.sink.now) (g.K.Sink.seen c.write_all.new.sink)
    (more_lines outputs c.args.lists.now before n) in
    let Q : List ℕ → Type 0 = λ bytes. Writes (g.K.Sink.seen c.instants.sink) (g.K.Sink.seen c.write_all.new.sink) bytes in
    subst P end (gathered_written _ _ _ _ _ c.instants.lines _ (c.instants.invariant.gathered before outputs at) (subst Q c.bytes.ensures c.in_ok-write_all.ensures.ok))

pub returns-clause-at : goal.returns-clause-at
returns-clause-at g c = λ before outputs at.
    let end : before + c.instants.counter ≡ before + c.args.more = omega arith in
    let P : ℕ → Type 0 = λ t. AreAt t outputs c.instants.walks in
    subst P end (walked_at before (before + c.instants.counter) outputs c.args.lists.now c.instants.walks (c.instants.invariant.left before outputs at))

pub returns-clause-fit : goal.returns-clause-fit
returns-clause-fit g c =
    let P : ℕ → Type 0 = λ room. FitRoom c.instants.walks room in
    subst P (sym (ap (λ lines. lines.room) c.clear.ensures)) c.instants.invariant.fit

pub returns-clause-untouched : goal.returns-clause-untouched
returns-clause-untouched g c = λ before outputs at empty.
    let none = empty_before outputs c.args.lists.now before c.instants.counter c.args.more (omega arith) empty in
    c.in_ok-write_all.ensures.untouched (c.bytes.ensures ∙ gathered_empty _ _ _ _ _ _ (c.instants.invariant.gathered before outputs at) none)
    ∙ gathered_untouched _ _ _ _ _ _ (c.instants.invariant.gathered before outputs at) none
