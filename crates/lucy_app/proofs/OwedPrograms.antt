-- What a command owes of a text is one answer, but for the evidence of a refusal.
use Rattle.std.proofs.Common.{ℕ, ◌⊎◌, List, [], ◌∷◌, Result, Ok, Err, ap, sym, ◌∙◌, inl, inr}
use Rattle.lucy_text.specs.declared.shelf.ShelfError.{ShelfError}
use Rattle.lucy_text.specs.declared.shelf.ShelfError.TheVariants as shelf
use Rattle.lucy_text.specs.Sources.{ReadStop}
use Rattle.lucy_front.specs.declared.refusal.Refusal.{Refusal}
use Rattle.lucy_front.specs.OneAnswer.{AreAlike}
use Rattle.lucy_app.specs.Commands.{HasText}
use Rattle.lucy_app.specs.Answers.{Answer, AreOneBut, AreRefusedAlike, printed}
use Rattle.lucy_app.specs.Programs.{OwesRefusal, OwesText, OwesPrint}
use Rattle.lucy_app.proofs.Verdicts.{IsVerdict}

-- of a text one answer is owed, or answers that differ so, or refusals that are alike
pub record IsDecided (Differ : Answer → Answer → Type 0) (Refuses : List ℕ → Refusal → Type 0)
    (Owed : List ℕ → Answer → Type 0) : Type 0 where
  pub one : (text : List ℕ) (a b : Answer) → Owed text a → Owed text b → AreOneBut Differ a b
  pub apart : (text : List ℕ) (a : Answer) (refusal : Refusal) → Owed text a → Refuses text refusal → ⊥
  pub same : (text : List ℕ) (refusal other : Refusal) → Refuses text refusal → Refuses text other → AreAlike refusal other

pub print_decided : (Differ : Answer → Answer → Type 0) (Prints : List ℕ → List ℕ → Type 0) (Refuses : List ℕ → Refusal → Type 0) →
    IsVerdict Prints Refuses → IsDecided Differ Refuses (OwesPrint Prints)
print_decided Differ Prints Refuses v = record {
  one = λ text a b is also. inl (is.2 ∙ ap printed (v.one text is.0 also.0 is.1 also.1) ∙ sym also.2);
  apart = λ text a r is bad. v.apart text is.0 r is.1 bad;
  same = v.same;
}

module _ (Differ : Answer → Answer → Type 0) (Refuses : List ℕ → Refusal → Type 0) (Owed : List ℕ → Answer → Type 0)
    (d : IsDecided Differ Refuses Owed) where
  refusals_alike : (Other : Answer → Answer → Type 0) (fetched : List (Result (List ℕ) ShelfError)) (a b : Answer) →
      OwesRefusal Refuses fetched a → OwesRefusal Refuses fetched b → AreOneBut Other a b ⊎ AreRefusedAlike a b
  refusals_alike Other [] a b h k = absurd h
  refusals_alike Other (Ok text ∷ more) a b h k = inr (h.0, k.0, d.same text h.0 k.0 h.1 k.1, h.2, k.2)
  refusals_alike Other (Err shelf.Failed ∷ more) a b h k = inl (inl (h ∙ sym k))
  refusals_alike Other (Err shelf.Missing ∷ more) a b h k = inl (inl (h ∙ sym k))
  refusals_alike Other (Err shelf.TooLong ∷ more) a b h k = inl (inl (h ∙ sym k))
  refusals_alike Other (Err shelf.OutOfMemory ∷ more) a b h k = absurd h

  pub unrefused : (fetched : List (Result (List ℕ) ShelfError)) (a b : Answer) → HasText fetched (λ text. Owed text a) → OwesRefusal Refuses fetched b → ⊥
  unrefused [] a b h k = h
  unrefused (Ok text ∷ more) a b h k = d.apart text a k.0 h k.1
  unrefused (Err e ∷ more) a b h k = h

  pub owed_one : (fetched : List (Result (List ℕ) ShelfError)) (a b : Answer) → HasText fetched (λ text. Owed text a) →
      HasText fetched (λ text. Owed text b) → AreOneBut Differ a b
  owed_one [] a b h k = absurd h
  owed_one (Ok text ∷ more) a b h k = d.one text a b h k
  owed_one (Err e ∷ more) a b h k = absurd h

  -- so it is of what was fetched, where answers that are owed of it differ otherwise
  pub text_owes_but : (Other : Answer → Answer → Type 0) (stop : ReadStop) (fetched : List (Result (List ℕ) ShelfError)) →
      ((a b : Answer) → HasText fetched (λ text. Owed text a) → HasText fetched (λ text. Owed text b) → AreOneBut Other a b) →
      (a b : Answer) → OwesText Refuses Owed stop fetched a → OwesText Refuses Owed stop fetched b → AreOneBut Other a b ⊎ AreRefusedAlike a b
  text_owes_but Other stop fetched one a b (inl h) (inl k) = refusals_alike Other fetched a b h.0 k.0
  text_owes_but Other stop fetched one a b (inl h) (inr k) = absurd (unrefused fetched b a k h.0)
  text_owes_but Other stop fetched one a b (inr h) (inl k) = absurd (unrefused fetched a b h k.0)
  text_owes_but Other stop fetched one a b (inr h) (inr k) = inl (one a b h k)

  pub text_owes_one : (stop : ReadStop) (fetched : List (Result (List ℕ) ShelfError)) (a b : Answer) →
      OwesText Refuses Owed stop fetched a → OwesText Refuses Owed stop fetched b → AreOneBut Differ a b ⊎ AreRefusedAlike a b
  text_owes_one stop fetched a b h k = text_owes_but Differ stop fetched (owed_one fetched) a b h k
