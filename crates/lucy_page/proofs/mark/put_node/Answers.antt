use Rattle.std.proofs.Common.{ℕ, List, ◌++◌}
use Rattle.std.specs.Prelude.{codes}
use Rattle.std.proofs.lemmas.Result.{on_ok_weaker}
use Rattle.lucy_word.proofs.Lists.{three}
use Rattle.lucy_svg.specs.Escaping.{escaped}
use Rattle.lucy_page.proofs.ReadLaws.{reads_node}
use Rattle.lucy_page.proofs.mark.put_node.Goals as goal

pub returns : goal.returns
returns c =
    let a : List ℕ = codes "<a class=\"node\" id=\"" in
    let b : List ℕ = escaped c.as_bytes.result.now in
    let d : List ℕ = codes "\" href=\"#" ++ (escaped c.args.place.now ++ codes "\">") in
    on_ok_weaker c.put_value.result
    (λ puts. record {
      html = a ++ (b ++ d);
      puts = three c.args.out.now.items c.put.new.out.items c.put_escaped.new.out.items c.put_value.new.out.items a b d c.in_ok-put.ensures c.in_ok-put_escaped.ensures puts;
      reads = reads_node c.as_bytes.result.now c.args.place.now;
    })
    c.put_value.ensures
