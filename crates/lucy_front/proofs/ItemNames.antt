-- The names of items, one more.
use Rattle.std.proofs.Common.{ℕ, ◌+◌, ◌≡◌, List, [], ◌∷◌, ◌++◌, length, take, Some, ap, sym, ◌∙◌, subst, inl, inr, arith}
use Rattle.std.specs.Prelude.{◌⊎◌, slice_get}
use Rattle.std.proofs.lemmas.List.{take_more, length_push}
use Rattle.std.proofs.lemmas.Option.{slice_get_within, get_or_from_slice_get}
use Rattle.lucy_word.proofs.Lists.{get_push}
use Rattle.lucy_place.specs.declared.placed.PlacedNode.{PlacedNode}
use Rattle.lucy_net.specs.declared.error.Item.{Item}
use Rattle.lucy_front.specs.Items.{IsActorName, AreNamesOf}

pub names_more : (nodes : List PlacedNode) (items : List Item) (i : ℕ) (item : Item) (names : List (List ℕ)) (name : List ℕ) (new : List (List ℕ)) → AreNamesOf nodes (take i items) names → slice_get items i ≡ Some item →
    IsActorName nodes item.actor name → new ≡ names ++ name ∷ [] → AreNamesOf nodes (take (i + 1) items) new
names_more nodes items i item names name new are at is put = record {
  count = (let a = ap length put in let b = length_push names name in let e = ap length next in let d = length_push (take i items) item in omega (arith, are.count));
  each = λ k x text at_x at_text. pick k x text (get_push (take i items) item k x (sym (ap (λ l. slice_get l k) next) ∙ at_x)) (get_push names name k text (sym (ap (λ l. slice_get l k) put) ∙ at_text));
}
  where
    next : take (i + 1) items ≡ take i items ++ item ∷ []
    next = take_more items i item (slice_get_within items i item at) ∙ ap (λ x. take i items ++ x ∷ []) (get_or_from_slice_get items i item item at)

    pick : (k : ℕ) (x : Item) (text : List ℕ) → (slice_get (take i items) k ≡ Some x) ⊎ ((k ≡ length (take i items)) × (item ≡ x)) → (slice_get names k ≡ Some text) ⊎ ((k ≡ length names) × (name ≡ text)) → IsActorName nodes x.actor text
    pick k x text (inl f) (inl g) = are.each k x text f g
    pick k x text (inl f) (inr g) = absurd (let w = slice_get_within (take i items) k x f in omega (arith, w, g.0, are.count))
    pick k x text (inr f) (inl g) = absurd (let w = slice_get_within names k text g in omega (arith, w, f.0, are.count))
    pick k x text (inr f) (inr g) = subst (λ y. IsActorName nodes y.actor text) f.1 (subst (IsActorName nodes item.actor) g.1 is)
