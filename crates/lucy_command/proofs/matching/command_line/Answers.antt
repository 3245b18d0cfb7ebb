use Rattle.std.proofs.Common.{◌≡◌, List, [], ◌∷◌, ap, ap₂, sym, ◌∙◌, subst}
use Rattle.std.proofs.lemmas.Result.{IfOk-weaker}
use Rattle.clap.specs.Built.{AddsArg, AddsInTurn}
use Rattle.clap.specs.Simple.{app_of, with_rule}
use Rattle.clap.specs.declared.builder.arg.Arg.{Arg}
use Rattle.lucy_command.proofs.matching.command_line.Goals as goal

pub returns : goal.returns
returns c = IfOk-weaker c.args-2.result _ _ (λ command added.
    let all : List Arg = c.option.result ∷ c.option-2.result ∷ c.option-3.result ∷ c.option-4.result ∷ c.option-5.result ∷ c.new.result ∷ c.new-2.result ∷ [] in
    let is : c.in_ok-all.all.items ≡ all = c.in_ok-all.ensures.items in
    let (m1, s1, r1) = subst (λ xs. AddsInTurn AddsArg c.new-3.result xs command) is added in
    let (m2, s2, r2) = r1 in
    let (m3, s3, r3) = r2 in
    let (m4, s4, r4) = r3 in
    let (m5, s5, r5) = r4 in
    let (m6, s6, r6) = r5 in
    let (m7, s7, r7) = r6 in
    let one = s1.shape c.option.ensures.local ∙ ap₂ with_rule c.new-3.ensures.app c.option.ensures.rule in
    let two = s2.shape c.option-2.ensures.local ∙ ap₂ with_rule one c.option-2.ensures.rule in
    let three = s3.shape c.option-3.ensures.local ∙ ap₂ with_rule two c.option-3.ensures.rule in
    let four = s4.shape c.option-4.ensures.local ∙ ap₂ with_rule three c.option-4.ensures.rule in
    let five = s5.shape c.option-5.ensures.local ∙ ap₂ with_rule four c.option-5.ensures.rule in
    let six = s6.shape c.new.ensures.optional.1 ∙ ap₂ with_rule five c.new.ensures.rule in
    let seven = s7.shape c.new-2.ensures.optional.1 ∙ ap₂ with_rule six c.new-2.ensures.rule in
    ap app_of (sym r7) ∙ seven) c.args-2.ensures
