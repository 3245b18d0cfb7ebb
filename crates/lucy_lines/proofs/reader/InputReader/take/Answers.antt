use Rattle.std.proofs.Common.{◌≡◌, ◌≤◌, ◌++◌, ℕ, List, false, length, length-append, ap, sym, subst, arith}
use Rattle.lucy_lines.specs.declared.front.Front.TheVariants.{Open}
use Rattle.lucy_lines.specs.Fronts.{front_of, run}
use Rattle.lucy_lines.specs.Reading.{ReaderState}
use Rattle.lucy_lines.proofs.FrontLaws.{open_within, run_open, IsOpen}
use Rattle.lucy_lines.proofs.reader.InputReader.take.Goals as goal

within : (s r : ReaderState) → s ≡ r → front_of false r.held.used r.held.rest ≡ Open → IsOpen s.held.used s.held.rest
within s r e h =
    let P : ReaderState → Type 0 = λ u. front_of false u.held.used u.held.rest ≡ Open in
    open_within false s.held.used s.held.rest (subst P (sym e) h)

pub fill-requires-clause-some : goal.fill-requires-clause-some
fill-requires-clause-some g c = let w = within _ _ c.self.view_is c.requires in let b = ap length c.rest-held.ensures in omega arith

pub fill-requires-clause-room : goal.fill-requires-clause-room
fill-requires-clause-room g c = let w = within _ _ c.self.view_is c.requires in omega arith

pub invariant_of-self-2 : goal.invariant_of-self-2
invariant_of-self-2 g c =
    let w = within _ _ c.self.view_is c.requires in
    let held : List ℕ = c.self.inside.buffer.held in
    let seen = ap length c.rest-held.ensures in
    let i = c.self.invariant in
    let t = c.in_ok-n.ensures.ok in
    let long = ap length t.3 in
    let two = length-append held t.0 in
    let later : length held ≤ run (held ++ t.0) = run_open held t.0 w.dark in
    let now : run c.fill.new.self.held ≡ run (held ++ t.0) = ap run t.3 in
    (i.0, i.1, omega arith, omega arith)
