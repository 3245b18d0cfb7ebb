use Rattle.std.proofs.Common.{ℕ, List, ◌++◌, ap, ◌∙◌, append_assoc}
use Rattle.std.specs.Prelude.{codes}
use Rattle.std.specs.Fmt.{decimal}
use Rattle.std.proofs.lemmas.Result.{on_ok_weaker}
use Rattle.lucy_word.proofs.Lists.{three}
use Rattle.lucy_page.specs.Pages.{linked}
use Rattle.lucy_page.proofs.node.put_begin.Goals as goal

pub returns : goal.returns
returns c =
    let a : List ℕ = codes "<section id=\"n" ++ (decimal c.args.number ++ codes "\"><h2>Node ") in
    let b : List ℕ = linked (codes "t" ++ decimal c.args.number) c.args.name.now in
    let d : List ℕ = codes "</h2>\n" in
    let first = c.in_ok-put.ensures ∙ ap (λ l. c.args.out.now.items ++ l) (c.deref.ensures ∙ c.in_ok-format.ensures.ok) in
    let second = c.in_ok-put_link.ensures ∙ ap (λ t. c.put.new.out.items ++ linked t c.args.name.now) (c.deref-2.ensures ∙ c.in_ok-format-2.ensures.ok) in
    on_ok_weaker c.put-2.result
    (λ puts.
    three c.args.out.now.items c.put.new.out.items c.put_link.new.out.items c.put-2.new.out.items a b d first second puts
    ∙ ap (λ l. c.args.out.now.items ++ (codes "<section id=\"n" ++ l)) (append_assoc (decimal c.args.number) (codes "\"><h2>Node ") (b ++ d)))
    c.put-2.ensures
