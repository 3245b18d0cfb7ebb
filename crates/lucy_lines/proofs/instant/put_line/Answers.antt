use Rattle.std.proofs.Common.{◌++◌, ◌≤◌, ◌≡◌, length, ap, ◌∙◌, w64, arith}
use Rattle.std.proofs.Math.Facts.{to_z-of_z}
use mir.Val.{to_z, of_z}
use Rattle.lucy_lines.specs.Written.{line_of}
use Rattle.lucy_lines.proofs.SinkLaws.{nothing_gathered, piece_gathered, if_put, if_not_put, first_put}
use Rattle.lucy_lines.proofs.WalkLaws.{line_of-short}
use Rattle.lucy_lines.proofs.instant.put_line.Goals as goal

pub returns-in_ok-write_all-clause-ok : goal.returns-in_ok-write_all-clause-ok
returns-in_ok-write_all-clause-ok g c =
    let value : to_z w64 (of_z w64 c.args.value) ≡ c.args.value = to_z-of_z c.ranges.value in
    let line = ap (λ v. line_of c.args.name.now c.args.holds v) value in
    let short : length (line_of c.args.name.now c.args.holds (to_z w64 (of_z w64 c.args.value))) ≤ c.push.new.self.room =
    omega (arith, ap length line, line_of-short c.args.name.now c.args.holds c.args.value c.ranges.value, ap (λ lines. lines.room) c.push.ensures.lines) in
    piece_gathered _ _ _ _ c.push-then-not-push.new.self c.bytes.result.now c.args.lines.now.bytes _
    c.in_ok-write_all.ensures.ok
    c.in_ok-write_all.ensures.untouched
    (c.bytes.ensures ∙ if_not_put c.push.result _ _ _ (ap (λ lines. lines.bytes) c.push.ensures.lines) c.if-not-push.true)
    (first_put c.clear.new.self c.push-then-not-push.new.self c.push.new.self.room _ c.push-then-not-push.result c.clear.ensures short c.push-then-not-push.ensures.fits.1
    (ap (λ lines. lines.bytes) c.push-then-not-push.ensures.lines) ∙ line)

pub returns-else-not-push-clause-ok : goal.returns-else-not-push-clause-ok
returns-else-not-push-clause-ok g c =
    let value : to_z w64 (of_z w64 c.args.value) ≡ c.args.value = to_z-of_z c.ranges.value in
    nothing_gathered _ _ c.push.new.self _
    (if_put c.push.result _ _ _ (ap (λ lines. lines.bytes) c.push.ensures.lines) c.if-not-push.false
    ∙ ap (λ v. c.args.lines.now.bytes ++ line_of c.args.name.now c.args.holds v) value)
