-- A node has clocks or one refusal.
use Rattle.std.proofs.Common.{ℕ, ◌≡◌, List, Some, refl, ap, sym, ◌∙◌, subst, inl, inr, arith}
use Rattle.lucy_word.specs.Bits.{Bits}
use Rattle.lucy_word.specs.declared.limit.Limit.{Limit as LimitOf}
use Rattle.lucy_place.specs.declared.placed.PlacedNode.{PlacedNode}
use Rattle.lucy_place.specs.PlacedProgram.{PlacedProgram}
use Rattle.lucy_place.specs.Proper.{IsProperNode}
use Rattle.lucy_place.specs.WrittenNodes.{IsWritten}
use Rattle.lucy_need.specs.declared.need.Need.{Need}
use Rattle.lucy_need.specs.Meeting.{assigned}
use Rattle.lucy_clock.specs.declared.signature.Signature.{Signature}
use Rattle.lucy_clock.specs.declared.node_clock.NodeClock.{NodeClock}
use Rattle.lucy_clock.specs.declared.error.ClockError.TheVariants as error
use Rattle.lucy_clock.specs.Clocks.{AreSignatures}
use Rattle.lucy_clock.specs.Listing.{needs_of, RefusesNeeds}
use Rattle.lucy_clock.specs.HandedDown.{RefusesWords, word_bits}
use Rattle.lucy_clock.proofs.NeedLaws.{rules_law}
use Rattle.lucy_need.specs.declared.need.Needs.{Needs}
use Rattle.lucy_check.specs.declared.fault.CheckFault.{CheckFault}
use Rattle.lucy_check.specs.declared.fault.CheckFault.TheVariants as fault
use Rattle.lucy_check.specs.Passing.{IsFirstRefusal}
use Rattle.lucy_check.proofs.OneAnswer.{refusal_one, all_held}
use Rattle.lucy_front.specs.declared.fault.NodeFault.{NodeFault}
use Rattle.lucy_front.specs.declared.fault.NodeFault.TheVariants.{NotWritten, Rates, Clocks, Check}
use Rattle.lucy_front.specs.declared.fault.NoClocks.{NoClocks}
use Rattle.lucy_front.specs.declared.fault.NoClocks.TheVariants.{Fault, Limit, OutOfMemory}
use Rattle.lucy_program.specs.declared.options.Options.{Options}
use Rattle.lucy_inference.specs.declared.refusal.Uninferred.{Uninferred}
use Rattle.lucy_inference.specs.declared.refusal.Uninferred.TheVariants as uninferred
use Rattle.lucy_inference.specs.Refusals.{AreAlike as AreReasonsAlike}
use Rattle.lucy_program.specs.Inferring.{node_needs}
use Rattle.lucy_front.specs.Unclocked.{IsShut, IsUninferred}
use Rattle.lucy_program.specs.Clocked.{AreFewNeeds, AreNodeWords, IsClocked}
use Rattle.lucy_front.specs.Unclocked.{FailsCheck, AreItsNeeds, PassesNodeLimit, RefusesNode}
use Rattle.lucy_front.specs.Clocking.{AreItsClocks, IsTold, HasNoClocks}
use Rattle.lucy_front.specs.OneAnswer.{AreFaultsAlike}
use Rattle.lucy_front.proofs.ClockedLaws.{check_told}
use Rattle.lucy_front.proofs.OneClock.{words_one}
use Rattle.lucy_inference.proofs.OneAnswer.{inference_kept, refusals_alike}
use Rattle.lucy_front.proofs.InferredLaws.{open_unshut}

-- needs pass one limit, or none
needs_few : (above : List Signature) (n : PlacedNode) (l : LimitOf) → AreFewNeeds above n → RefusesNeeds (needs_of above n) (error.Limit l) → ⊥
needs_few above n l few (inl h) = omega (arith, few.count, h.1)
needs_few above n l few (inr h) = omega (arith, few.bits, h.2)

needs_one : (needs : List Need) (l m : LimitOf) → RefusesNeeds needs (error.Limit l) → RefusesNeeds needs (error.Limit m) → l ≡ m
needs_one needs l m (inl h) (inl k) = h.0 ∙ sym k.0
needs_one needs l m (inl h) (inr k) = absurd (omega (arith, h.1, k.1))
needs_one needs l m (inr h) (inl k) = absurd (omega (arith, h.1, k.1))
needs_one needs l m (inr h) (inr k) = h.0 ∙ sym k.0

-- words pass one limit
words_limit : (n : PlacedNode) (l m : LimitOf) → RefusesWords n (error.Limit l) → RefusesWords n (error.Limit m) → l ≡ m
words_limit n l m (inl h) (inl k) = h.0 ∙ sym k.0
words_limit n l m (inl h) (inr k) = absurd (k.1 h.1)
words_limit n l m (inr h) (inl k) = absurd (h.1 k.1)
words_limit n l m (inr h) (inr k) = h.0 ∙ sym k.0

module _ (nodes : List PlacedNode) (above : List Signature) (n : PlacedNode) (proper : IsProperNode nodes n) (ports : AreSignatures nodes above) where
  module _ (is_written : IsWritten n) where
    -- or none
    words_few : (l : LimitOf) (words : List Bits) → AreNodeWords n words → RefusesWords n (error.Limit l) → ⊥
    words_few l words are (inl h) = are.fit h.1
    words_few l words are (inr h) =
        let same : word_bits h.2 ≡ word_bits words = ap word_bits (words_one nodes n proper is_written h.2 words h.3 are.of) in
        omega (arith, same, are.bits, h.4)

    -- what the checker tells is one
    told_one : (xs ys : List Bits) (e f : CheckFault) → AreNodeWords n xs → AreNodeWords n ys → IsFirstRefusal (assigned xs) (needs_of above n) e → IsFirstRefusal (assigned ys) (needs_of above n) f → e ≡ f
    told_one xs ys e f x y first second =
        refusal_one (assigned ys) (needs_of above n) e f (subst (λ ws. IsFirstRefusal (assigned ws) (needs_of above n) e) (words_one nodes n proper is_written xs ys x.of y.of) first) second

  -- what inference tells is one
  uninferred_one : (o : Options) (e f : Uninferred) → AreFewNeeds above n → IsUninferred o above n e → IsUninferred o above n f → AreReasonsAlike e f
  uninferred_one o e f few h k = refusals_alike (node_needs above n) o.scale o.lead e f h.1 k.1

  -- and the words that the checker refuses pass no limit of their own
  fails_few : (e : CheckFault) (l : LimitOf) → FailsCheck above n e → RefusesWords n (error.Limit l) → ⊥
  fails_few e l p q = words_few p.0 l p.1 p.2 q

  fails_one : (e f : CheckFault) → FailsCheck above n e → FailsCheck above n f → e ≡ f
  fails_one e f p q = told_one p.0 p.1 q.1 e f p.2 q.2 p.3 q.3

  limit_one : (o : Options) (l m : LimitOf) → PassesNodeLimit o above n l → PassesNodeLimit o above n m → l ≡ m
  limit_one o l m (inl p) (inl q) = needs_one (needs_of above n) l m p.1 q.1
  limit_one o l m (inl p) (inr q) = absurd (needs_few above n l q.0 p.1)
  limit_one o l m (inr p) (inl q) = absurd (needs_few above n m p.0 q.1)
  limit_one o l m (inr (few, inl p)) (inr (too, inl q)) = words_limit n l m p.1 q.1
  limit_one o l m (inr (few, inl p)) (inr (too, inr (inl q))) = absurd (fails_few (fault.Limit q.0 m) l q.1 p.1)
  limit_one o l m (inr (few, inl p)) (inr (too, inr (inr q))) = absurd (q.0.1 p.0)
  limit_one o l m (inr (few, inr (inl p))) (inr (too, inl q)) = absurd (fails_few (fault.Limit p.0 l) m p.1 q.1)
  limit_one o l m (inr (few, inr (inl p))) (inr (too, inr (inl q))) = let same : fault.Limit p.0 l ≡ fault.Limit q.0 m = fails_one (fault.Limit p.0 l) (fault.Limit q.0 m) p.1 q.1 in cc
  limit_one o l m (inr (few, inr (inl p))) (inr (too, inr (inr q))) = absurd (q.0.1 p.1.0)
  limit_one o l m (inr (few, inr (inr p))) (inr (too, inl q)) = absurd (p.0.1 q.0)
  limit_one o l m (inr (few, inr (inr p))) (inr (too, inr (inl q))) = absurd (p.0.1 q.1.0)
  limit_one o l m (inr (few, inr (inr p))) (inr (too, inr (inr q))) = uninferred_one o (uninferred.Limit l) (uninferred.Limit m) few p q

  -- a node that isn't well clocked passes no limit
  fails_limit : (o : Options) (e : CheckFault) (l : LimitOf) → AreFewNeeds above n → FailsCheck above n e → IsTold e → PassesNodeLimit o above n l → ⊥
  fails_limit o e l few p told (inl q) = needs_few above n l few q.1
  fails_limit o e l few p told (inr (too, inl q)) = fails_few e l p q.1
  fails_limit o e l few p told (inr (too, inr (inl q))) = subst IsTold (fails_one e (fault.Limit q.0 l) p q.1) told
  fails_limit o e l few p told (inr (too, inr (inr q))) = q.0.1 p.0

  -- the checker refuses no words by which the node is well clocked within the limits
  clocked_told : (o : Options) (c : NodeClock) (e : CheckFault) → IsClocked o above n c → FailsCheck above n e → ⊥
  clocked_told o c e clocked (is_written, words, are, first) =
      all_held (assigned c.words) (needs_of above n) e ((rules_law (assigned c.words) nodes above n proper ports clocked.well.words clocked.well.base).1 clocked.well) clocked.within
      (subst (λ ws. IsFirstRefusal (assigned ws) (needs_of above n) e) (words_one nodes n proper is_written words c.words are.of (its_handed clocked.its).of) first)
    where
      its_handed : AreItsClocks o above n c → AreNodeWords n c.words
      its_handed (inl h) = h.1
      its_handed (inr h) = absurd (h.is_open.1 is_written)

  -- and inference refuses none that it gives
  clocked_uninferred : (o : Options) (c : NodeClock) (e : Uninferred) → IsClocked o above n c → IsUninferred o above n e → ⊥
  clocked_uninferred o c e clocked h = by_kind clocked.its
    where
      by_kind : AreItsClocks o above n c → ⊥
      by_kind (inl k) = h.0.1 k.0
      by_kind (inr k) = inference_kept (node_needs above n) o.scale o.lead c.words k.sizes e k.inferred h.1

  clocked_limit : (o : Options) (c : NodeClock) (l : LimitOf) → IsClocked o above n c → PassesNodeLimit o above n l → ⊥
  clocked_limit o c l clocked (inl q) = needs_few above n l clocked.needs q.1
  clocked_limit o c l clocked (inr (few, inl q)) = handed_few clocked.its
    where
      handed_few : AreItsClocks o above n c → ⊥
      handed_few (inl h) = words_few q.0 l c.words h.1 q.1
      handed_few (inr h) = h.is_open.1 q.0
  clocked_limit o c l clocked (inr (few, inr (inl q))) = clocked_told o c (fault.Limit q.0 l) clocked q.1
  clocked_limit o c l clocked (inr (few, inr (inr q))) = clocked_uninferred o c (uninferred.Limit l) clocked q

-- reasons why a node has no clocks that tell the same of it
abbrev pub AreCausesAlike : NoClocks → NoClocks → Type 0
AreCausesAlike (Fault f) (Fault g) = AreFaultsAlike f g
AreCausesAlike f g = f ≡ g

module _ (nodes : List PlacedNode) (above : List Signature) (n : PlacedNode) (proper : IsProperNode nodes n) (ports : AreSignatures nodes above) (o : Options) (placed : PlacedProgram) (node : ℕ) where
  -- a node that has to be written and isn't is refused for nothing else
  shut_limit : (l : LimitOf) → IsShut o n → PassesNodeLimit o above n l → ⊥
  shut_limit l shut (inl q) = q.0 shut
  shut_limit l shut (inr (few, inl q)) = shut.1 q.0
  shut_limit l shut (inr (few, inr (inl q))) = shut.1 q.1.0
  shut_limit l shut (inr (few, inr (inr q))) = open_unshut o n q.0 shut

  -- nor is one that is inferred
  uninferred_limit : (e : Uninferred) (l : LimitOf) → AreFewNeeds above n → IsUninferred o above n e → PassesNodeLimit o above n l → AreReasonsAlike e (uninferred.Limit l)
  uninferred_limit e l few h (inl q) = absurd (needs_few above n l few q.1)
  uninferred_limit e l few h (inr (too, inl q)) = absurd (h.0.1 q.0)
  uninferred_limit e l few h (inr (too, inr (inl q))) = absurd (h.0.1 q.1.0)
  uninferred_limit e l few h (inr (too, inr (inr q))) = uninferred_one nodes above n proper ports o e (uninferred.Limit l) few h q

  told : (x : Needs) (e : CheckFault) → RefusesNode o placed node (Check x e) above n → AreItsNeeds above n x × FailsCheck above n e × IsTold e
  told x e h = check_told o placed node x e above n h

  -- a node that is refused passes no limit
  fault_limit : (f : NodeFault) (l : LimitOf) → RefusesNode o placed node f above n → PassesNodeLimit o above n l → ⊥
  fault_limit (NotWritten s) l h k = shut_limit l h.1 k
  fault_limit (Rates x walk) l h k = uninferred_limit (uninferred.Rates walk) l h.0.1 h.1 k
  fault_limit (Clocks x shape diffs cycle) l h k = uninferred_limit (uninferred.Clocks shape diffs cycle) l h.0.1 h.1 k
  fault_limit (Check x e) l h k = let (needs, fails, is) = told x e h in fails_limit nodes above n proper ports o e l needs.1 fails is k

  -- and is so in one way
  fault_one : (f g : NodeFault) → RefusesNode o placed node f above n → RefusesNode o placed node g above n → AreFaultsAlike f g
  fault_one (NotWritten s) (NotWritten t) h k = let e : Some (Some s) ≡ Some (Some t) = sym h.0 ∙ k.0 in cc
  fault_one (NotWritten s) (Rates x walk) h k = absurd (open_unshut o n k.1.0 h.1)
  fault_one (NotWritten s) (Clocks x shape diffs cycle) h k = absurd (open_unshut o n k.1.0 h.1)
  fault_one (NotWritten s) (Check x e) h k = absurd (h.1.1 (told x e k).1.0)
  fault_one (Rates x walk) (NotWritten t) h k = absurd (open_unshut o n h.1.0 k.1)
  fault_one (Rates x walk) (Rates y way) h k = (h.0.0 ∙ sym k.0.0, uninferred_one nodes above n proper ports o (uninferred.Rates walk) (uninferred.Rates way) h.0.1 h.1 k.1)
  fault_one (Rates x walk) (Clocks y shape diffs cycle) h k =
      absurd (uninferred_one nodes above n proper ports o (uninferred.Rates walk) (uninferred.Clocks shape diffs cycle) h.0.1 h.1 k.1)
  fault_one (Rates x walk) (Check y f) h k = absurd (h.1.0.1 (told y f k).1.0)
  fault_one (Clocks x shape diffs cycle) (NotWritten t) h k = absurd (open_unshut o n h.1.0 k.1)
  fault_one (Clocks x shape diffs cycle) (Rates y way) h k =
      absurd (uninferred_one nodes above n proper ports o (uninferred.Clocks shape diffs cycle) (uninferred.Rates way) h.0.1 h.1 k.1)
  fault_one (Clocks x shape diffs cycle) (Clocks y like these round) h k =
      let same = uninferred_one nodes above n proper ports o (uninferred.Clocks shape diffs cycle) (uninferred.Clocks like these round) h.0.1 h.1 k.1 in
      (h.0.0 ∙ sym k.0.0, same.0, same.1)
  fault_one (Clocks x shape diffs cycle) (Check y f) h k = absurd (h.1.0.1 (told y f k).1.0)
  fault_one (Check x e) (NotWritten t) h k = absurd (k.1.1 (told x e h).1.0)
  fault_one (Check x e) (Rates y way) h k = absurd (k.1.0.1 (told x e h).1.0)
  fault_one (Check x e) (Clocks y shape diffs cycle) h k = absurd (k.1.0.1 (told x e h).1.0)
  fault_one (Check x e) (Check y f) h k =
      let (needs, fails, is) = told x e h in
      let (those, failed, also) = told y f k in
      ap (λ r. Check r e) (needs.0 ∙ sym those.0) ∙ ap (Check y) (fails_one nodes above n proper ports e f fails failed)

  -- a node has no clocks for one reason
  pub refused_one : (f g : NoClocks) → (f ≡ OutOfMemory → ⊥) → (g ≡ OutOfMemory → ⊥) → HasNoClocks o placed node above n f → HasNoClocks o placed node above n g → AreCausesAlike f g
  refused_one OutOfMemory g some other h k = absurd (some refl)
  refused_one (Fault f) OutOfMemory some other h k = absurd (other refl)
  refused_one (Limit l) OutOfMemory some other h k = absurd (other refl)
  refused_one (Fault f) (Fault g) some other h k = fault_one f g h k
  refused_one (Fault f) (Limit m) some other h k = absurd (fault_limit f m h k)
  refused_one (Limit l) (Fault g) some other h k = absurd (fault_limit g l k h)
  refused_one (Limit l) (Limit m) some other h k = ap Limit (limit_one nodes above n proper ports o l m h k)

  -- and none that has clocks is refused
  fault_kept : (f : NodeFault) (c : NodeClock) → RefusesNode o placed node f above n → IsClocked o above n c → ⊥
  fault_kept (NotWritten s) c h clocked = shut_its clocked.its
    where
      shut_its : AreItsClocks o above n c → ⊥
      shut_its (inl k) = h.1.1 k.0
      shut_its (inr k) = open_unshut o n k.is_open h.1
  fault_kept (Rates x walk) c h clocked = clocked_uninferred nodes above n proper ports o c (uninferred.Rates walk) clocked h.1
  fault_kept (Clocks x shape diffs cycle) c h clocked = clocked_uninferred nodes above n proper ports o c (uninferred.Clocks shape diffs cycle) clocked h.1
  fault_kept (Check x e) c h clocked = clocked_told nodes above n proper ports o c e clocked (told x e h).1

  pub clocked_kept : (f : NoClocks) (c : NodeClock) → (f ≡ OutOfMemory → ⊥) → HasNoClocks o placed node above n f → IsClocked o above n c → ⊥
  clocked_kept (Fault f) c some h clocked = fault_kept f c h clocked
  clocked_kept (Limit l) c some h clocked = clocked_limit nodes above n proper ports o c l clocked h
  clocked_kept OutOfMemory c some h clocked = some refl
