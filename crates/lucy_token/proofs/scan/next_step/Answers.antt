use Rattle.std.proofs.Common.{◌≡◌, false, [], ◌∷◌, None, arith, sym, ◌∙◌, subst}
use Rattle.std.proofs.lemmas.List.{length-take-le}
use Rattle.lucy_token.specs.declared.front.Front.TheVariants.{Token, Bad}
use Rattle.lucy_token.specs.declared.token.What.{What}
use Rattle.lucy_token.specs.declared.stop.Stop.TheVariants.{Fault}
use Rattle.lucy_token.specs.declared.stop.SyntaxError.TheVariants.{TooLarge}
use Rattle.lucy_word.specs.declared.limit.Limit.TheVariants as limit
use Rattle.lucy_token.specs.Before.{limit_at, is_entry_past}
use Rattle.lucy_token.proofs.CutSteps.{read_step, fault_step}
use Rattle.lucy_token.proofs.StateLaws.{front_at, limit_there, entry_there, nearest_there}
use Rattle.lucy_token.specs.Cuts.{token_at}
use Rattle.lucy_token.specs.Scans as scans
use Rattle.lucy_token.proofs.FrontLaws.{IsFront, of_front_in}
use Rattle.lucy_token.proofs.scan.next_step.Goals as goal

pub overflow_add-result : goal.overflow_add-result
overflow_add-result c =
    let f : IsFront c.args.text.now (Bad c.in-Bad.n) = of_front_in _ _ _ c.requires.some c.in-Bad.ensures in
    omega (arith, f, c.requires.short)

pub returns-in-Bad : goal.returns-in-Bad
returns-in-Bad c ks e = scans.bad c.requires.some (front_at _ ks _ _ e c.in-Bad.ensures)

pub returns-in-Some : goal.returns-in-Some
returns-in-Some c ks e = scans.passed c.requires.some (front_at _ ks _ _ e c.in-Token.ensures) (limit_there _ ks _ _ e c.in-Some.ensures)

pub slice_bounds-bytes-end : goal.slice_bounds-bytes-end
slice_bounds-bytes-end c =
    let f : IsFront c.args.text.now (Token c.in-Token.kind c.in-Token.n) = of_front_in _ _ _ c.requires.some c.in-Token.ensures in
    sym (length-take-le c.in-Token.n c.args.text.now f.1)

pub overflow_add-span : goal.overflow_add-span
overflow_add-span c =
    let f : IsFront c.args.text.now (Token c.in-Token.kind c.in-Token.n) = of_front_in _ _ _ c.requires.some c.in-Token.ensures in
    omega (arith, f.1, c.requires.short)

pub overflow_cast-span-2 : goal.overflow_cast-span-2
overflow_cast-span-2 c =
    let f : IsFront c.args.text.now (Token c.in-Token.kind c.in-Token.n) = of_front_in _ _ _ c.requires.some c.in-Token.ensures in
    omega (arith, f.1, c.requires.short)

pub content-requires : goal.content-requires
content-requires c =
    let f : IsFront c.args.text.now (Token c.in-Token.kind c.in-Token.n) = of_front_in _ _ _ c.requires.some c.in-Token.ensures in
    f.2

pub returns-then-is_past_last : goal.returns-then-is_past_last
returns-then-is_past_last c ks e =
    let P : What → Type 0 = λ w. scans.Scans c.args.from ks c.args.text.now (token_at w c.args.from c.in-Token.n ∷ []) (Fault (TooLarge limit.Names)) in
    subst P (sym c.unread-what.ensures)
    (scans.past_last c.requires.some (front_at _ ks _ _ e c.in-Token.ensures) (limit_there _ ks _ _ e (sym (sym c.limit_passed.ensures ∙ c.in_default.is)))
    (entry_there _ ks _ _ e (sym (sym c.is_past_last.ensures ∙ c.if-is_past_last.true))))

pub returns-in-Err : goal.returns-in-Err
returns-in-Err c ks e =
    let f : limit_at ks c.in-Token.kind ≡ None = limit_there _ ks _ _ e (sym (sym c.limit_passed.ensures ∙ c.in_default.is)) in
    let g : is_entry_past ks c.in-Token.kind ≡ false = entry_there _ ks _ _ e (sym (sym c.is_past_last.ensures ∙ c.if-is_past_last.false)) in
    fault_step _ _ _ _ _ _ _ c.requires.some (front_at _ ks _ _ e c.in-Token.ensures) f g (nearest_there _ ks _ e c.before-2.ensures) c.in-Err.ensures

pub returns-in-Ok : goal.returns-in-Ok
returns-in-Ok c ks e =
    let f : limit_at ks c.in-Token.kind ≡ None = limit_there _ ks _ _ e (sym (sym c.limit_passed.ensures ∙ c.in_default.is)) in
    let g : is_entry_past ks c.in-Token.kind ≡ false = entry_there _ ks _ _ e (sym (sym c.is_past_last.ensures ∙ c.if-is_past_last.false)) in
    read_step _ _ _ _ _ _ _ (front_at _ ks _ _ e c.in-Token.ensures) f g (nearest_there _ ks _ e c.before-2.ensures) c.in-Ok.ensures

pub returns-in-Gap : goal.returns-in-Gap
returns-in-Gap c ks e = front_at _ ks _ _ e c.in-Gap.ensures
