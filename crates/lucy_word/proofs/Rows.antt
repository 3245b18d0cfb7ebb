-- The definitions on small words.
use Rattle.std.proofs.Common.{true, false, [], ◌∷◌, ◌≡◌, map, refl, lit<, arith}
use Rattle.std.proofs.Math.Nat.{dvd-mul_left, dvd_refl, le_of_dvd}
use Rattle.std.specs.Prelude.{codes}
use Rattle.lucy_word.specs.Bits.{Bits, bit_at, ones_to}
use Rattle.std.specs.Fmt.{digits}
use Rattle.lucy_word.specs.Items.{alone}
use Rattle.std.specs.Prelude.{Some}
use Rattle.lucy_word.specs.Spelling.{text_of, Spells}
use Rattle.lucy_word.specs.Forms.{IsBadAt}
use Rattle.lucy_word.specs.Partials.{going, digit, count}
use Rattle.lucy_word.specs.declared.form.Stage.TheVariants as stage
use Rattle.lucy_word.proofs.Checking.{Checked, bad_end, bad_zero}
use Rattle.lucy_word.specs.Complement.{turned}
use Rattle.lucy_word.specs.Always.{always}
use Rattle.lucy_word.specs.Sampling.{bit_on, AreComputedLengths}
use Rattle.lucy_word.proofs.IndexLaws.{IsIndex-none}

-- 0(01)
late : Bits
late = record { prefix = false ∷ []; period = false ∷ true ∷ [] }

-- 11(01)
early : Bits
early = record { prefix = true ∷ true ∷ []; period = false ∷ true ∷ [] }

bits_of_late : map (bit_at late) (1 ∷ 2 ∷ 3 ∷ 4 ∷ 5 ∷ []) ≡ false ∷ false ∷ true ∷ false ∷ true ∷ []
unfolding late bit_at
bits_of_late = refl

ones_of_late : map (ones_to late) (0 ∷ 1 ∷ 2 ∷ 3 ∷ 4 ∷ 5 ∷ []) ≡ 0 ∷ 0 ∷ 0 ∷ 1 ∷ 1 ∷ 2 ∷ []
unfolding late ones_to bit_at
ones_of_late = refl

ones_of_early : map (ones_to early) (1 ∷ 2 ∷ 3 ∷ 4 ∷ 5 ∷ 6 ∷ []) ≡ 1 ∷ 2 ∷ 2 ∷ 3 ∷ 3 ∷ 4 ∷ []
unfolding early ones_to bit_at
ones_of_early = refl

late_is_spelled : Spells (codes "0(01)") late
unfolding late
late_is_spelled = record {
  form = record { prefix = alone false ∷ []; period = alone false ∷ alone true ∷ [] };
  is_form = record { prefix = (tt, tt); period = (tt, (tt, tt)); nonempty = lit< tt };
  counts = record { prefix = (lit< tt, tt); period = (lit< tt, (lit< tt, tt)) };
  shape = refl;
  bits = refl;
}

-- `(0` breaks its form at its end, and the count of `(1{0})` is 0
bad_at_end : IsBadAt (codes "(0") 2
bad_at_end =
    let k : Checked (codes "(0") 2 0 false (stage.Digit true) =
    record { within = omega arith; state = going (Some []) [] (digit false); reads = refl; staged = refl; some = (tt, tt); pending = refl } in
    bad_end (codes "(0") 0 false (stage.Digit true) 2 k refl (λ e. absurd cc)

bad_count : IsBadAt (codes "(1{0})") 3
bad_count =
    let k : Checked (codes "(1{0})") 4 3 true (stage.Count true) =
    record { within = omega arith; state = going (Some []) [] (count true (48 ∷ [])); reads = refl; staged = refl; some = (tt, tt); pending = (refl, refl) } in
    bad_zero (codes "(1{0})") 4 3 (stage.Count true) (stage.Item true true) k (omega arith) refl refl

-- runs of more than four have a count, each part by itself
runs_of_a_part : text_of (record { prefix = true ∷ true ∷ true ∷ true ∷ true ∷ []; period = false ∷ true ∷ true ∷ true ∷ true ∷ true ∷ false ∷ false ∷ false ∷ false ∷ false ∷ [] }) ≡ codes "1{5}(01{5}0{5})"
unfolding digits
runs_of_a_part = refl

runs_of_four : text_of (record { prefix = []; period = true ∷ true ∷ true ∷ true ∷ false ∷ [] }) ≡ codes "(11110)"
runs_of_four = refl

-- (10)
alternate : Bits
alternate = record { prefix = []; period = true ∷ false ∷ [] }

-- (10) on (10) is (1000): the second word is read at the ones of the first
alternate_on_itself : map (bit_on alternate alternate) (1 ∷ 2 ∷ 3 ∷ 4 ∷ 5 ∷ 6 ∷ 7 ∷ 8 ∷ []) ≡ true ∷ false ∷ false ∷ false ∷ true ∷ false ∷ false ∷ false ∷ []
unfolding alternate bit_at ones_to
alternate_on_itself = refl

-- and four bits of period are computed for it
four_bits : AreComputedLengths alternate alternate 0 4
unfolding alternate
four_bits = record {
  place = 0;
  last_read = IsIndex-none alternate;
  of_prefix = refl;
  ones = 2;
  common = record { of_left = dvd-mul_left 1 2; of_right = dvd_refl 2; positive = lit< tt; least = λ n some by_one by_two. le_of_dvd some by_two };
  of_period = refl;
}

-- 0(01) turned is 1(10)
late_turned : turned late ≡ record { prefix = true ∷ []; period = true ∷ false ∷ [] }
unfolding late
late_turned = refl

-- (10) on not (10) is (0010): what (10) on (10) leaves of (10)
alternate_on_turned : map (bit_on alternate (turned alternate)) (1 ∷ 2 ∷ 3 ∷ 4 ∷ 5 ∷ 6 ∷ 7 ∷ 8 ∷ []) ≡ false ∷ false ∷ true ∷ false ∷ false ∷ false ∷ true ∷ false ∷ []
unfolding alternate bit_at ones_to
alternate_on_turned = refl

ones_of_always : map (ones_to always) (0 ∷ 1 ∷ 2 ∷ 3 ∷ []) ≡ 0 ∷ 1 ∷ 2 ∷ 3 ∷ []
unfolding ones_to bit_at
ones_of_always = refl
