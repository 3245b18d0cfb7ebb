use Rattle.std.proofs.Common.{ap, ◌∙◌}
use Rattle.lucy_svg.specs.Ones.{joined}
use Rattle.lucy_svg.proofs.JoinLaws.{joins_are}
use Rattle.lucy_svg.proofs.flow.flow_of.Goals as goal

pub returns : goal.returns
returns c = λ write read shown of_write of_read.
    let marks_in = c.list-written.ensures ∙ of_write in
    let marks_out = c.list-read.ensures ∙ of_read in
    let writes = c.in_ok-writes.ensures write shown marks_in in
    let reads = c.in_ok-reads.ensures read shown marks_out in
    let joins = c.in_ok-new.ensures ∙ ap (λ l. joined l c.deref-2.result.now) c.deref.ensures.value
    ∙ ap (joined c.in_ok-writes.writes.items) c.deref-2.ensures.value in
    record {
      joins = joins_are write read shown _ _ writes reads _ joins;
      goes_in = c.new-2.ensures ∙ c.in_ok-counts_in.ensures write shown marks_in;
      comes_out = c.new-3.ensures ∙ c.in_ok-counts_out.ensures read shown marks_out;
    }
