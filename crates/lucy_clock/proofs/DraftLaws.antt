-- Laws of needs whose words are lent.
use Rattle.std.proofs.Common.{ℕ, ◌+◌, ◌<◌, ◌≡◌, ◌∷◌, ◌++◌, [], Bool, true, false, List, length, get_or, take, map, ap, refl, ◌∙◌, append_assoc, length-append, subst, inl, inr, arith}
use Rattle.std.specs.Prelude.{if◌then◌else◌, IfErr, OnOk, Result}
use Rattle.std.proofs.lemmas.Result.{on_ok_weaker}
use Rattle.std.proofs.lemmas.List.{map-append}
use Rattle.std.proofs.lemmas.List.Sums.{sum_by-cons, sum_by-append}
use Rattle.lucy_word.specs.Bits.{bit_count}
use Rattle.lucy_word.proofs.Lists.{take_next}
use Rattle.lucy_need.specs.declared.need.Term.{Term}
use Rattle.lucy_need.specs.declared.need.Need.{Need}
use Rattle.lucy_need.specs.declared.need.Need.TheVariants.{Equal, Adapt}
use Rattle.lucy_need.specs.Meeting.{need_bits, all_bits}
use Rattle.lucy_clock.specs.declared.error.ClockError.{ClockError}
use Rattle.lucy_clock.specs.declared.side.Draft.{Draft}
use Rattle.lucy_clock.specs.Drafts.{side_term, seen, IsPast}

-- how many bits the words of a draft have
pub seen_bits : (d : Draft) → need_bits (seen d) ≡ bit_count (side_term d.left).word + bit_count (side_term d.right).word
seen_bits d = of_terms d.adapt (side_term d.left) (side_term d.right)
  where
    of_terms : (adapt : Bool) (s t : Term) → need_bits (if adapt then Adapt s t else Equal s t) ≡ bit_count s.word + bit_count t.word
    of_terms true s t = refl
    of_terms false s t = refl

pub seen_next : (xs : List Draft) (i : ℕ) (x : Draft) → i < length xs → x ≡ get_or xs i x → map seen (take (i + 1) xs) ≡ map seen (take i xs) ++ seen x ∷ []
seen_next xs i x h e = ap (map seen) (take_next xs i x h e) ∙ map-append seen (take i xs) (x ∷ [])

pub bits_next : (xs : List Draft) (i : ℕ) (x : Draft) → i < length xs → x ≡ get_or xs i x →
    all_bits (map seen (take (i + 1) xs)) ≡ all_bits (map seen (take i xs)) + (bit_count (side_term x.left).word + bit_count (side_term x.right).word)
bits_next xs i x h e =
    let a : all_bits (map seen (take (i + 1) xs)) ≡ all_bits (map seen (take i xs) ++ seen x ∷ []) = ap all_bits (seen_next xs i x h e) in
    let b = sum_by-append need_bits (map seen (take i xs)) (seen x ∷ []) in
    let c = sum_by-cons need_bits (seen x) [] in
    let d = seen_bits x in
    omega arith

-- two more needs, put one after the other
pub merged_ok : {T : Type 0} (drafts mid new : List Need) (a b : Need) (r : Result T ClockError) → mid ≡ drafts ++ a ∷ [] → OnOk r (new ≡ mid ++ b ∷ []) → OnOk r (new ≡ drafts ++ a ∷ b ∷ [])
merged_ok drafts mid new a b r is = on_ok_weaker r (λ (e : new ≡ mid ++ b ∷ []). e ∙ ap (λ (m : List Need). m ++ b ∷ []) is ∙ append_assoc drafts (a ∷ []) (b ∷ []))

pub merged_refused : {T : Type 0} (drafts mid : List Need) (a b : Need) (r : Result T ClockError) → mid ≡ drafts ++ a ∷ [] → IfErr r (IsPast (mid ++ b ∷ [])) → IfErr r (IsPast (drafts ++ a ∷ b ∷ []))
merged_refused drafts mid a b r is = subst (λ (l : List Need). IfErr r (IsPast l)) (ap (λ (m : List Need). m ++ b ∷ []) is ∙ append_assoc drafts (a ∷ []) (b ∷ []))

-- where one is too many, two are
pub past_more : (drafts : List Need) (a b : Need) (e : ClockError) → IsPast (drafts ++ a ∷ []) e → IsPast (drafts ++ a ∷ b ∷ []) e
past_more drafts a b e (inl h) = inl h
past_more drafts a b e (inr h) = inr (h.0, omega (arith, h.1, length-append drafts (a ∷ []), length-append drafts (a ∷ b ∷ [])))
