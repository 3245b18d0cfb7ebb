-- One node more has types.
use Rattle.std.proofs.Common.{Vec, Global, ℕ, zero, suc, ◌≡◌, ◌+◌, ◌<◌, ◌≤◌, ◌++◌, ◌∷◌, [], List, Some, length, take, arith, ap, sym, ◌∙◌, subst, inl, inr, refl}
use Rattle.std.specs.Prelude.{slice_get, ◌⊎◌, Result, Ok, Err, IsOk, IfOk, IfErr}
use Rattle.std.specs.List.{Contains}
use Rattle.std.proofs.lemmas.List.{take_more, take-append-le, take_at, map_push, length_push}
use Rattle.std.proofs.lemmas.Option.{slice_get_within, get_or_from_slice_get, none-some}
use Rattle.lucy_host.proofs.Elements.{get_there}
use Rattle.lucy_place.specs.declared.placed.PlacedNode.{PlacedNode}
use Rattle.lucy_place.specs.Proper.{at_one, IsProperNode}
use Rattle.lucy_types.specs.declared.ty.Ty.{Ty}
use Rattle.lucy_types.specs.declared.ty.Ty.TheVariants as ty
use Rattle.lucy_types.specs.declared.rule.Rule.{Rule}
use Rattle.lucy_types.specs.declared.rule.Rule.TheVariants.{Is}
use Rattle.lucy_types.specs.declared.signature.Signature.{Signature}
use Rattle.lucy_types.specs.declared.solve.Solution.{Solution}
use Rattle.lucy_types.specs.declared.solve.Solution.TheVariants.{Types, Clash}
use Rattle.lucy_types.specs.declared.error.TypeError.{TypeError}
use Rattle.lucy_types.specs.declared.error.TypeError.TheVariants as error
use Rattle.lucy_types.specs.Rules.{IsRule}
use Rattle.lucy_types.specs.Typing.{IsTyping, AreNumbered, AreTypes}
use Rattle.lucy_types.specs.Clash.{IsClashPath}
use Rattle.lucy_types.specs.Graphs.{AllFit}
use Rattle.lucy_types.specs.Ports.{ArePlacesOf, HaveClasses, AreHeads, port_types}
use Rattle.lucy_types.specs.Nodes.{tables_of, IsSignature, AreSignatures, AreTyped, StandFor, Solves}
use Rattle.lucy_types.specs.Programs.{IsTyped, HaveTypings, IsClash, RefusesTypes, AnswersTypes, AnswersClash}
use Rattle.lucy_types.proofs.ListLaws.{get_old, get_push}
use Rattle.lucy_types.proofs.TypingLaws.{same_typings, clash_refutes, clash_weaker, touch_weaker}
use Rattle.lucy_types.proofs.RuleLaws.{rule_fits}
use Rattle.lucy_types.proofs.ProgramLaws.{typed_above, typed_unique, clash_untyped, clash_unique}

-- what solves the rules that stand for others solves those
pub stands_solved : (Rules : Rule → Type 0) (list : List Rule) (n : ℕ) (s : Solution) → StandFor Rules list → Solves (Contains list) n s → Solves Rules n s
stands_solved Rules list n (Types tys) h t = same_typings (Contains list) Rules h.complete (λ a m rule c. m rule (h.sound rule c)) n tys.items t
stands_solved Rules list n (Clash path) h c =
    clash_weaker (Contains list) Rules (λ p t. h.sound (Is p t)) (touch_weaker (Contains list) Rules h.sound) path.items c

-- rules that stand for those of a proper node fit
pub stands_fit : (above : List PlacedNode) (known : List (List Ty)) (n : PlacedNode) (list : List Rule) (places : ℕ) → IsProperNode above n → StandFor (IsRule above known n) list
    → places ≡ length n.places → AllFit (places + 1) list
stands_fit above known n list places h s e =
    subst (λ m. AllFit (m + 1) list) (sym e) (λ rule c. rule_fits above known n h rule (s.sound rule c))

-- a class is at most the place where it stands
class_most : (tys : List Ty) → AreNumbered tys → (k p : ℕ) → at_one tys p ≡ Some (ty.Open k) → k ≤ p
class_most tys n zero p e = omega arith
class_most tys n (suc zero) zero e = absurd (none-some (ty.Open 1) e)
class_most tys n (suc zero) (suc p) e = omega arith
class_most tys n (suc (suc k)) p e =
    let o = n.in_order p k e in
    let b : suc k ≤ o.0 = class_most tys n (suc k) o.0 o.2 in
    let l : o.0 < p = o.1 in
    omega arith

pub types_classes : (Rules : Rule → Type 0) (n : ℕ) (tys : List Ty) → AreTypes Rules n tys → HaveClasses (length tys) tys
types_classes Rules n tys t i k e =
    let b : k ≤ suc i = class_most tys t.numbered k (suc i) e in
    let l : i < length tys = slice_get_within tys i (ty.Open k) e in
    omega arith

pub types_results : (above : List PlacedNode) (n : PlacedNode) (tys : List Ty) → IsProperNode above n → length tys ≡ length n.places → ArePlacesOf (length tys) n.results
types_results above n tys h e = subst (λ m. ArePlacesOf m n.results) (sym e) h.results

next_nodes : (nodes : List PlacedNode) (i : ℕ) (n : PlacedNode) → slice_get nodes i ≡ Some n → take (i + 1) nodes ≡ take i nodes ++ n ∷ []
next_nodes nodes i n e = take_more nodes i n (slice_get_within nodes i n e) ∙ ap (λ m. take i nodes ++ m ∷ []) (get_or_from_slice_get nodes i n n e)

-- the signatures of one node more
pub signatures_more : (nodes : List PlacedNode) (i : ℕ) (n : PlacedNode) (signatures : List Signature) (s : Signature) → slice_get nodes i ≡ Some n → AreSignatures (take i nodes) signatures
    → IsSignature n s → AreSignatures (take (i + 1) nodes) (signatures ++ s ∷ [])
signatures_more nodes i n signatures s e a h =
    subst (λ ns. AreSignatures ns (signatures ++ s ∷ [])) (sym (next_nodes nodes i n e)) record {
      all = length_push signatures s ∙ ap (λ m. m + 1) a.all ∙ sym (length_push (take i nodes) n);
      each = λ j m t f g. elim (get_push (take i nodes) n j m f) [
        | inl u ↦ elim (get_push signatures s j t g) [
          | inl v ↦ a.each j m t u.1 v.1
          | inr v ↦ absurd (let x : j < length (take i nodes) = u.0 in let y : j ≡ length signatures = v.0 in let z : length signatures ≡ length (take i nodes) = a.all in omega arith)
        ]
        | inr u ↦ elim (get_push signatures s j t g) [
          | inl v ↦ absurd (let x : j ≡ length (take i nodes) = u.0 in let y : j < length signatures = v.0 in let z : length signatures ≡ length (take i nodes) = a.all in omega arith)
          | inr v ↦ subst (λ x. IsSignature x t) u.1 (subst (λ x. IsSignature n x) v.1 h)
        ]
      ];
    }

-- the tables of one node more
pub typed_more : (nodes : List PlacedNode) (i : ℕ) (n : PlacedNode) (tables : List (List Ty)) (tys : List Ty) → slice_get nodes i ≡ Some n → IsTyped (take i nodes) tables
    → AreTypes (IsRule (take i nodes) tables n) (length n.places) tys → IsTyped (take (i + 1) nodes) (tables ++ tys ∷ [])
typed_more nodes i n tables tys e t h =
    subst (λ ns. IsTyped ns (tables ++ tys ∷ [])) (sym (next_nodes nodes i n e)) record {
      all = length_push tables tys ∙ ap (λ m. m + 1) t.all ∙ sym (length_push above n);
      each = λ j m us f g. elim (get_push above n j m f) [
        | inl u ↦
            let x : j < length above = u.0 in
            let y : length tables ≡ length above = t.all in
            let old = t.each j m us u.1 (sym (get_old tables tys j (omega arith)) ∙ g) in
            subst (λ ns. AreTypes (IsRule ns (take j (tables ++ tys ∷ [])) m) (length m.places) us) (sym (take-append-le j above (n ∷ []) (omega arith)))
            (subst (λ ts. AreTypes (IsRule (take j above) ts m) (length m.places) us) (sym (take-append-le j tables (tys ∷ []) (omega arith))) old)
        | inr u ↦
            let x : j ≡ length above = u.0 in
            let y : length tables ≡ length above = t.all in
            let last : tys ≡ us = elim (get_push tables tys j us g) [ inl v ↦ absurd (let z : j < length tables = v.0 in omega arith) | inr v ↦ v.1 ] in
            let one = subst (λ ns. AreTypes (IsRule ns tables n) (length n.places) tys) (sym (take_at above (n ∷ []) j (sym x))) h in
            let two = subst (λ ts. AreTypes (IsRule (take j (above ++ n ∷ [])) ts n) (length n.places) tys) (sym (take_at tables (tys ∷ []) j (omega arith))) one in
            subst (λ z. AreTypes (IsRule (take j (above ++ n ∷ [])) (take j (tables ++ tys ∷ [])) z) (length z.places) us) u.1
            (subst (λ ts. AreTypes (IsRule (take j (above ++ n ∷ [])) (take j (tables ++ tys ∷ [])) n) (length n.places) ts) last two)
      ];
    }
  where
    above : List PlacedNode
    above = take i nodes

-- the signatures and the types of one node more
pub typed_next : (nodes : List PlacedNode) (i : ℕ) (n : PlacedNode) (signatures new : List Signature) (s : Signature) → slice_get nodes i ≡ Some n → AreTyped nodes i signatures
    → AreTypes (IsRule (take i nodes) (tables_of signatures) n) (length n.places) s.tys.items → IsSignature n s → new ≡ signatures ++ s ∷ [] → AreTyped nodes (i + 1) new
typed_next nodes i n signatures new s e a t h w = record {
  signed = subst (AreSignatures (take (i + 1) nodes)) (sym w) (signatures_more nodes i n signatures s e a.signed h);
  typed = subst (IsTyped (take (i + 1) nodes)) (sym (ap tables_of w ∙ map_push (λ (x : Signature). x.tys.items) signatures s)) (typed_more nodes i n (tables_of signatures) s.tys.items e a.typed t);
}

-- whatever is answered rightly is the one answer
pub accepted : (nodes : List PlacedNode) (r : Result (List (List Ty)) TypeError) → IfOk r (IsTyped nodes) → IfErr r (RefusesTypes nodes)
    → (tables : List (List Ty)) → IsTyped nodes tables → AnswersTypes tables r
accepted nodes (Ok found) o e tables t = typed_unique nodes found tables o t
accepted nodes (Err error.OutOfMemory) o e tables t = refl
accepted nodes (Err (error.Clash node path)) o e tables t = absurd (clash_untyped nodes tables node path.items e t)

-- it has types exactly where each node has a typing
pub has_typings : (nodes : List PlacedNode) (r : Result (List (List Ty)) TypeError) → IfOk r (IsTyped nodes) → IsOk r → HaveTypings nodes
has_typings nodes (Ok tables) o h = λ i n e.
    let l : i < length nodes = slice_get_within nodes i n e in
    let m : length tables ≡ length nodes = o.all in
    let u = get_there tables i (omega arith) in
    let t = o.each i n u.0 e u.1 in
    (take i tables, typed_above nodes tables i (omega arith) o, t.typing, t.meets)
has_typings nodes (Err e) o h = cc

pub typings_suffice : (nodes : List PlacedNode) (r : Result (List (List Ty)) TypeError) → IfErr r (RefusesTypes nodes) → HaveTypings nodes → (r ≡ Err error.OutOfMemory) ⊎ IsOk r
typings_suffice nodes (Ok found) e h = inr refl
typings_suffice nodes (Err error.OutOfMemory) e h = inl refl
typings_suffice nodes (Err (error.Clash node path)) e h =
    let t = h node e.n e.found in
    let same : t.0 ≡ e.known = typed_unique (take node nodes) t.0 e.known t.1 e.above in
    absurd (clash_refutes (IsRule (take node nodes) e.known e.n) path.items e.clashes t.2 (subst (λ known. IsTyping (IsRule (take node nodes) known e.n) t.2) same t.3))

pub rejected : (nodes : List PlacedNode) (r : Result (List (List Ty)) TypeError) → IfOk r (IsTyped nodes) → IfErr r (RefusesTypes nodes)
    → (node : ℕ) (path : List ℕ) → IsClash nodes node path → AnswersClash node r
rejected nodes (Ok found) o e node path c = clash_untyped nodes found node path c o
rejected nodes (Err error.OutOfMemory) o e node path c = inl refl
rejected nodes (Err (error.Clash other way)) o e node path c = inr (clash_unique nodes other node way.items path e c)

-- the types and the signature of a node as they are found
pub types_found : (Rules : Rule → Type 0) (places : ℕ) (s : Solution) (tys : List Ty) (list : Vec Ty Global) → Solves Rules places s → s ≡ Types list → list.items ≡ tys → AreTypes Rules places tys
types_found Rules places s tys list h e w = subst (AreTypes Rules places) w (subst (Solves Rules places) e h)

pub clash_found : (Rules : Rule → Type 0) (places : ℕ) (s : Solution) (list : Vec ℕ Global) → Solves Rules places s → s ≡ Clash list → IsClashPath Rules list.items
clash_found Rules places s list h e = subst (Solves Rules places) e h

pub signature_found : (above : List PlacedNode) (n : PlacedNode) (tys : List Ty) (results : List ℕ) (s : Signature) → IsProperNode above n → length tys ≡ length n.places → results ≡ n.results
    → s.tys.items ≡ tys → s.ports.items ≡ port_types n.params results tys → AreHeads s.ports.items s.heads.items → IsSignature n s
signature_found above n tys results s h l e w p a = record {
  all = ap length w ∙ l;
  params = subst (λ ts. n.params ≤ length ts) (sym w) (let b : n.params ≤ length n.places = h.params in omega arith);
  results = subst (λ ts. ArePlacesOf (length ts) n.results) (sym w) (types_results above n tys h l);
  ports = p ∙ ap (λ rs. port_types n.params rs tys) e ∙ ap (port_types n.params n.results) (sym w);
  heads = a;
}
