use Rattle.std.proofs.Common.{[], ℕ, ◌+◌, ◌≡◌, length, subst, arith}
use Rattle.lucy_token.specs.Written.{InOrder}
use Rattle.lucy_token.proofs.OneCut.{one_cut}
use Rattle.lucy_token.proofs.SomeCut.{some_cut}
use Rattle.lucy_token.proofs.WrittenLaws.{spans_rise, tokens_written, end_of_text}
use Rattle.lucy_token.proofs.laws.texts_have_one_cut.Goals as goal

pub returns : goal.returns
returns c = record {
  one = λ text ts us a b p q. one_cut p q;
  some = λ text none. some_cut (length text) 0 [] text (omega arith) none;
  rise = λ text ts a q.
      let same : 0 + length text ≡ length text = omega arith in
      let P : ℕ → Type 0 = λ to. InOrder 0 ts to in
      subst P same (spans_rise q);
  written = λ text ts n q. tokens_written q;
  end = λ text ts n q. let e : n ≡ 0 + length text = end_of_text q in omega arith;
}
