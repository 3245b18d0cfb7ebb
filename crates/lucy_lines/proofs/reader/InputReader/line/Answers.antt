use Rattle.std.proofs.Common.{◌≡◌, ◌+◌, List, ℕ, length, ap, sym, subst, arith, length-drop}
use Rattle.std.proofs.lemmas.List.{length-take-le}
use Rattle.lucy_lines.specs.declared.front.Front.TheVariants.{Line}
use Rattle.lucy_lines.specs.Fronts.{front_of}
use Rattle.lucy_lines.specs.Cuts.{bytes_taken}
use Rattle.lucy_lines.specs.Reading.{ReaderState}
use Rattle.lucy_lines.proofs.FrontLaws.{line_within, WithinBytes}
use Rattle.lucy_lines.proofs.ReaderLaws.{line_steps, kind_same, steps_same}
use Rattle.lucy_lines.proofs.reader.InputReader.line.Goals as goal

-- the line stands within what is held
within : (r s : ReaderState) (content n : ℕ) → s ≡ r → front_of r.closed r.held.used r.held.rest ≡ Line content n → WithinBytes s.held.rest content n
within r s content n e f =
    let P : ReaderState → Type 0 = λ u. front_of u.closed u.held.used u.held.rest ≡ Line content n in
    line_within s.closed s.held.used s.held.rest content n (subst P (sym e) f)

pub slice_bounds-kind_of-end : goal.slice_bounds-kind_of-end
slice_bounds-kind_of-end c =
    let w = within _ _ _ _ c.self.view_is c.requires.line in
    let same = ap length c.rest.ensures in
    sym (length-take-le c.args.content c.rest.result.now (omega arith))

pub pass-requires : goal.pass-requires
pass-requires c = let w = within _ _ _ _ c.self.view_is c.requires.line in w.whole

pub overflow_add-self : goal.overflow_add-self
overflow_add-self c = let w = within _ _ _ _ c.self.view_is c.requires.line in let i = c.self.invariant in omega arith

pub invariant_of-self : goal.invariant_of-self
invariant_of-self c =
    let w = within _ _ _ _ c.self.view_is c.requires.line in
    let i = c.self.invariant in
    let a = ap length c.pass.ensures in
    let b = length-drop c.args.length c.self.inside.buffer.held in
    (i.0, omega arith, omega arith, omega arith)

pub returns-clause-counted : goal.returns-clause-counted
returns-clause-counted c =
    let w = within _ _ _ _ c.self.view_is c.requires.line in
    let whole = w.whole in
    let a = ap length c.pass.ensures in
    let b = length-drop c.args.length c.self.inside.buffer.held in
    let same = ap (λ r. bytes_taken r.held) c.self.view_is in
    omega arith

pub returns-clause-step : goal.returns-clause-step
returns-clause-step c =
    let r : ReaderState = c.args.self.now in
    let s : ReaderState = record { inputs = c.self.inside.inputs.items; held = record { lines = c.self.inside.lines; used = c.self.inside.used; rest = c.self.inside.buffer.held }; closed = c.self.inside.closed; ended = c.self.inside.ended } in
    let e : s ≡ r = c.self.view_is in
    let d = c.deref.ensures.value in let b = c.rest.ensures in
    let f : List ℕ → ReaderState = λ u. record { inputs = c.self.inside.inputs.items; held = record { lines = c.self.inside.lines + 1; used = c.self.inside.used + c.args.length; rest = u }; closed = c.self.inside.closed; ended = c.self.inside.ended } in
    let P : ReaderState → Type 0 = λ u. front_of u.closed u.held.used u.held.rest ≡ Line c.args.content c.args.length in
    steps_same s r _ _ _ e (sym c.step_of.ensures)
    (line_steps s (f c.pass.new.self.held) c.args.content c.args.length c.kind_of-said.result (subst P (sym e) c.requires.line)
    (kind_same _ _ _ _ c.args.content c.kind_of-said.result d b c.kind_of-said.ensures) (ap f c.pass.ensures))
