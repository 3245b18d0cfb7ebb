-- Of drafts no more are kept than are allowed.
use Rattle.std.proofs.Common.{ℕ, suc, zero, ◌+◌, ◌<◌, ◌≤◌, ◌≡◌, List, [], ◌∷◌, ◌++◌, Some, ap, ◌∙◌, subst, arith}
use Rattle.std.specs.Prelude.{All, sum_by, slice_get}
use Rattle.std.proofs.lemmas.List.Elements.{All-append, All-cons, All-nil, All-head, All-tail}
use Rattle.std.proofs.lemmas.List.Sums.{sum_by_push}
use Rattle.std.proofs.lemmas.Option.{same_Some}
use Rattle.lucy_word.specs.Limits.{limit_number}
use Rattle.lucy_word.specs.declared.limit.Limit.TheVariants as limit
use Rattle.lucy_word.specs.Stored.{IsStored}
use Rattle.lucy_flat.specs.declared.draft.Draft.{Draft}
use Rattle.lucy_flat.specs.declared.kept.Kept.{Kept}
use Rattle.lucy_flat.specs.Drafts.{draft_bits, AreKept}

abbrev pub HasStored : Draft → Type 0
HasStored draft = IsStored draft.word

-- one draft more, which is kept or not
stored_push : (drafts : List Draft) (next : Draft) → All HasStored drafts → IsStored next.word → All HasStored (drafts ++ next ∷ [])
stored_push drafts next all word = All-append HasStored drafts (next ∷ []) all (All-cons HasStored next [] word (All-nil HasStored))

pub kept_past : (drafts : List Draft) (old new : Kept) (next : Draft) → AreKept drafts old → IsStored next.word → new.bits ≤ old.bits + draft_bits next → limit_number limit.Bits < new.bits → new.drafts.items ≡ old.drafts.items →
    AreKept (drafts ++ next ∷ []) new
kept_past drafts old new next are word most past same = record {
  stored = stored_push drafts next are.stored word;
  most = (let before = are.most in let sum = sum_by_push draft_bits drafts next in omega arith);
  all = λ l. absurd (omega (arith, l));
  few = (let before = are.few in let sum = ap (sum_by draft_bits) same in omega arith);
}

pub kept_push : (drafts : List Draft) (old new : Kept) (next : Draft) → AreKept drafts old → IsStored next.word → new.bits ≡ old.bits + draft_bits next → new.bits ≤ limit_number limit.Bits → new.drafts.items ≡ old.drafts.items ++ next ∷ [] →
    AreKept (drafts ++ next ∷ []) new
kept_push drafts old new next are word is few put =
    let before = are.all (omega arith) in
    let same : new.drafts.items ≡ drafts ++ next ∷ [] = put ∙ ap (λ t. t ++ next ∷ []) before.0 in
    let old_bits = before.1 in
    let sum = sum_by_push draft_bits drafts next in
    let new_sum = ap (sum_by draft_bits) same in
    record { stored = stored_push drafts next are.stored word; most = omega arith; all = λ l. (same, omega arith); few = omega arith }

pub kept_none : (kept : Kept) → kept.drafts.items ≡ [] → kept.bits ≡ 0 → AreKept [] kept
kept_none kept none bits = record { stored = All-nil HasStored; most = omega arith; all = λ l. (none, bits); few = (let sum = ap (sum_by draft_bits) none in omega arith) }

-- the word of each is as words are in memory
pub stored_at : (drafts : List Draft) → All (λ (draft : Draft). IsStored draft.word) drafts → (a : ℕ) (d : Draft) → slice_get drafts a ≡ Some d → IsStored d.word
stored_at [] all a d e = absurd (cc e)
stored_at (x ∷ drafts) all zero d e = subst HasStored (same_Some x d e) (All-head HasStored x drafts all)
stored_at (x ∷ drafts) all (suc a) d e = stored_at drafts (All-tail HasStored x drafts all) a d e
