use Rattle.std.proofs.Common.{ℕ, ◌≡◌, List, length, refl, subst, arith}
use Rattle.std.specs.Prelude.{ℤ, slice_index}
use Rattle.std.proofs.lemmas.Option.{slice_get_read, slice_get_within}
use Rattle.lucy_stream.specs.Items.{list_at}
use Rattle.lucy_results.proofs.HorizonLaws.{IsLast, suffice_more, suffice_up_to}
use Rattle.lucy_results.proofs.instants.horizon.Goals as goal

pub each-preserved : goal.each-preserved
each-preserved c =
    let e = c.last_within-last.ensures in
    let word = c.index-words-i.result in
    let got = slice_get_read c.args.words.now _ c.each.i word refl c.each-test.true c.index-words-i.is in
    let last : IsLast word (slice_index c.args.counts.now c.each.i) c.each.last c.last_within-last.result = record { within = e.within; exact = e.exact } in
    let here = λ (inputs : List (List ℤ)) (are : (i : ℕ) → slice_index c.args.counts.now i ≡ length (list_at inputs i)).
    subst (λ (n : ℕ). IsLast word n c.each.last c.last_within-last.result) (are c.each.i) last in
    record {
      within = omega (arith, e.within, c.each.invariant.within);
      suffice = λ inputs are. suffice_more c.args.words.now inputs c.each.i c.each.last c.last_within-last.result word got (here inputs are) (c.each.invariant.suffice inputs are);
      greatest = λ inputs are. suffice_up_to c.args.words.now inputs c.each.i c.args.most c.each.last c.last_within-last.result word got (here inputs are) (c.each.invariant.greatest inputs are);
    }

pub returns : goal.returns
returns c = λ inputs are.
    let i = c.each.invariant in
    let past = c.each-test.false in
    record {
      within = i.within;
      suffice = λ k word e. i.suffice inputs are k word (let there = slice_get_within c.args.words.now k word e in omega arith) e;
      greatest = λ u l suffice. i.greatest inputs are u l (λ k word m e. suffice k word e);
    }
