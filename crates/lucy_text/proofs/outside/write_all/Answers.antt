use Rattle.std.proofs.Common.{◌≡◌, ℕ, ◌+◌, ◌-◌, ◌≤◌, List, length, drop, take, ◌++◌, refl, ap, sym, ◌∙◌, arith, false, length-drop}
use Rattle.std.proofs.lemmas.List.{take_rest}
use Rattle.std.proofs.Math.Seq.{take-add}
use Rattle.lucy_text.proofs.OutsideLaws.{appended_more, goes_on}
use Rattle.lucy_text.specs.Outside.{appended}
use Rattle.lucy_text.proofs.outside.write_all.Goals as goal

-- a front of the bytes, and then a front of those from there on
fronts : (bytes : List ℕ) (at n : ℕ) →
    take at bytes ++ take n (take (length bytes - at) (drop at bytes)) ≡ take (at + n) bytes
fronts bytes at n = ap (λ u. take at bytes ++ take n u) (take_rest bytes at) ∙ sym (take-add at n bytes)

-- no more is taken than there is from there on
fits : (bytes : List ℕ) (at n : ℕ) → at ≤ length bytes →
    n ≤ length (take (length bytes - at) (drop at bytes)) → at + n ≤ length bytes
fits bytes at n h m = omega (arith, ap length (take_rest bytes at), length-drop at bytes)

pub loop-done-preserved : goal.loop-done-preserved
loop-done-preserved g c =
    let before = c.loop-done.invariant in
    let taken = c.in_ok-done.ensures in
    let start = (g.K.Sink.seen c.args.sink.now).written in
    record {
      within = fits _ _ _ before.within taken.within;
      written = appended_more _ _ _ _ _ before.written taken.bytes ∙ ap (appended start) (fronts _ _ _);
      kept = taken.cause.kept ∙ before.kept;
      going = λ none. goes_on _ _ false taken.counted refl (before.going none);
      untouched = λ zero. absurd (omega (arith, taken.some, zero));
    }
