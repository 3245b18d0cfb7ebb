-- What is known of the items of a buffer.
use Rattle.std.proofs.Common.{ℕ, ◌+◌, ◌-◌, ◌≡◌, ◌<◌, List, Some, length, get_or, min, sym, ap, ◌∙◌, subst, arith}
use Rattle.std.proofs.lemmas.List.FromFn.{length-map-range_with_len, get_or-map-range_with_len}
use Rattle.std.proofs.lemmas.Option.{slice_get_within, slice_get-get_or, get_or_from_slice_get}
use Rattle.lucy_word.specs.Bits.{Bits}
use Rattle.lucy_word.specs.Index.{IsIndex}
use Rattle.lucy_word.proofs.IndexLaws.{IsIndex-there, IsIndex-one}
use Rattle.lucy_svg.specs.declared.join.Join.{Join}
use Rattle.lucy_svg.specs.Joins.{IsJoin, AreJoins}
use Rattle.lucy_svg.specs.Ones.{AreOnes, join_at, joined}

module _ (write read : Bits) (shown : ℕ) (writes reads : List ℕ) (of_write : AreOnes write shown writes) (of_read : AreOnes read shown reads) where
  both : ℕ
  both = min (length writes) (length reads)

  -- the item of a number is that of the ones of this number
  join_is : (k : ℕ) (join : Join) → k < length writes → k < length reads → join ≡ join_at writes reads k →
      IsJoin write read shown (k + 1) join
  join_is k join less fewer is =
      let w = of_write.each k (get_or writes k 0) (slice_get-get_or writes k 0 less) in
      let r = of_read.each k (get_or reads k 0) (slice_get-get_or reads k 0 fewer) in
      subst (λ j. IsJoin write read shown (k + 1) j) (sym is)
      (record { some = omega arith; goes_in = w.0; comes_out = r.0; write_shown = w.1; read_shown = r.1 })

  -- and there is no other
  join_there : (k number : ℕ) (join : Join) → number ≡ k + 1 → k < length writes → k < length reads →
      IsJoin write read shown number join → join_at writes reads k ≡ join
  join_there k number join next less fewer is =
      let w = of_write.each k (get_or writes k 0) (slice_get-get_or writes k 0 less) in
      let r = of_read.each k (get_or reads k 0) (slice_get-get_or reads k 0 fewer) in
      let same_write : get_or writes k 0 ≡ join.written =
      IsIndex-one write (k + 1) (get_or writes k 0) join.written w.0 (subst (λ n. IsIndex write n join.written) next is.goes_in) in
      let same_read : get_or reads k 0 ≡ join.read =
      IsIndex-one read (k + 1) (get_or reads k 0) join.read r.0 (subst (λ n. IsIndex read n join.read) next is.comes_out) in
      let f : ℕ → ℕ → Join = λ a b. record { written = a; read = b } in
      ap (λ a. f a (get_or reads k 0)) same_write ∙ ap (λ b. f join.written b) same_read

  pub joins_are : (joins : List Join) → joins ≡ joined writes reads → AreJoins write read shown joins
  unfolding both
  joins_are joins made =
      let count : length joins ≡ both = ap length made ∙ length-map-range_with_len (join_at writes reads) 0 both in
      record {
        each = λ k join at.
            let within = slice_get_within joins k join at in
            let item : join ≡ join_at writes reads k =
            sym (get_or_from_slice_get joins k join join at) ∙ ap (λ l. get_or l k join) made
            ∙ get_or-map-range_with_len (join_at writes reads) 0 both k k join (omega arith) (omega arith) in
            join_is k join (omega arith) (omega arith) item;
        all = λ number join is.
            let some = is.some in
            let k : ℕ = number - 1 in
            let next : number ≡ k + 1 = omega arith in
            let in_writes = IsIndex-there write number join.written shown is.goes_in is.write_shown in
            let in_reads = IsIndex-there read number join.read shown is.comes_out is.read_shown in
            let less : k < length writes = omega (arith, of_write.all) in
            let fewer : k < length reads = omega (arith, of_read.all) in
            let item : get_or joins k join ≡ join_at writes reads k =
            ap (λ l. get_or l k join) made ∙ get_or-map-range_with_len (join_at writes reads) 0 both k k join (omega arith) (omega arith) in
            slice_get-get_or joins k join (omega arith) ∙ ap Some (item ∙ join_there k number join next less fewer is);
      }
