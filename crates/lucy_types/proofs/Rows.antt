-- The definitions, run on small programs.
use Rattle.std.proofs.Common.{ℕ, zero, suc, ◌≡◌, true, List, [], ◌∷◌, Some, None, refl, sym, ◌∙◌, inl, inr, arith}
use Rattle.std.specs.Prelude.{codes, pos}
use Rattle.std.proofs.lemmas.Option.{none-some}
use Rattle.lucy_host.specs.declared.data_type.DataType.{DataType}
use Rattle.lucy_host.specs.declared.data_type.DataType.TheVariants.{Int, Bool}
use Rattle.lucy_host.specs.declared.op.Op.TheVariants as op
use Rattle.lucy_tree.specs.declared.span.Name.{Name}
use Rattle.lucy_tree.specs.declared.expr.Lit.TheVariants as lit
use Rattle.lucy_place.specs.declared.entry.PlaceEntry.{PlaceEntry}
use Rattle.lucy_place.specs.declared.entry.PlaceKind.{PlaceKind}
use Rattle.lucy_place.specs.declared.entry.PlaceKind.TheVariants as kind
use Rattle.lucy_place.specs.declared.entry.CallSite.{CallSite}
use Rattle.lucy_place.specs.declared.placed.PlacedNode.{PlacedNode}
use Rattle.lucy_place.specs.Proper.{at_one}
use Rattle.lucy_types.specs.declared.ty.Ty.{Ty}
use Rattle.lucy_types.specs.declared.ty.Ty.TheVariants as ty
use Rattle.lucy_types.specs.declared.rule.Rule.TheVariants.{Is, Alike}
use Rattle.lucy_types.specs.Rules.{IsRule}
use Rattle.lucy_types.specs.Typing.{Typing, MeetsRule, IsTyping, SaysType, AreTypes, as_ty}
use Rattle.lucy_types.specs.Gathered.{own_rules}
use Rattle.lucy_types.specs.Programs.{IsClash}
use Rattle.lucy_types.proofs.ListLaws.{contains_at}
use Rattle.lucy_types.proofs.RuleLaws.{all_contains, own_complete}

abbrev bare : PlaceKind → PlaceEntry
bare k = record { name = None; holds = None; word = None; kind = k }

abbrev called : List ℕ → Name
called text = record { text = text; span = record { from = 0; to = 0 } }

-- let node t x = y where rec y = x + (x == 1)
t : PlacedNode
t = record {
  name = called (codes "t");
  params = 1;
  places = bare kind.Param ∷ bare (kind.Defined 3) ∷ bare (kind.Op op.Add (1 ∷ 4 ∷ [])) ∷ bare (kind.Op op.Eq (1 ∷ 5 ∷ [])) ∷ bare (kind.Lit (lit.Int (pos 1))) ∷ [];
  results = 2 ∷ [];
  buffers = [];
  bounds = [];
  calls = [];
}

t_rules : own_rules 1 t.places ≡ Alike 2 3 ∷ Is 1 Int ∷ Is 4 Int ∷ Is 3 Int ∷ Alike 1 5 ∷ Is 4 Bool ∷ Is 5 Int ∷ []
unfolding t
t_rules = refl

-- int against bool: #4
t_clash : IsClash (t ∷ []) 0 (4 ∷ [])
unfolding t
t_clash = record {
  n = t;
  found = refl;
  known = [];
  above = record { all = refl; each = λ i n tys e f. absurd (none-some n e) };
  clashes = (
    inl record { place = 3; entry = bare (kind.Op op.Add (1 ∷ 4 ∷ [])); stands = refl; says = contains_at (Is 1 Int ∷ Is 4 Int ∷ Is 3 Int ∷ []) 1 (Is 4 Int) refl },
    inl record { place = 4; entry = bare (kind.Op op.Eq (1 ∷ 5 ∷ [])); stands = refl; says = contains_at (Alike 1 5 ∷ Is 4 Bool ∷ []) 1 (Is 4 Bool) refl },
  );
}

-- let node id x = y where rec y = x
id : PlacedNode
id = record { name = called (codes "id"); params = 1; places = bare kind.Param ∷ bare (kind.Defined 1) ∷ []; results = 2 ∷ []; buffers = []; bounds = []; calls = [] }

abbrev id_types : List Ty
id_types = ty.Open 1 ∷ ty.Open 1 ∷ []

id_alike : IsRule [] [] id (Alike 2 1)
unfolding id
id_alike = inl record { place = 2; entry = bare (kind.Defined 1); stands = refl; says = contains_at (Alike 2 1 ∷ []) 0 (Alike 2 1) refl }

id_meets : (u : DataType) → IsTyping (IsRule [] [] id) (λ p. u)
unfolding id
id_meets u rule (inl r) = all_contains (MeetsRule (λ p. u)) (own_rules 1 id.places) rule (refl, tt) (own_complete id rule r)
id_meets u rule (inr r) = absurd (none-some r.callee r.called)

id_open : (p k : ℕ) → at_one id_types p ≡ Some (ty.Open k) → (k ≡ 1) × ((a : Typing) → IsTyping (IsRule [] [] id) a → a p ≡ a 1)
id_open zero k e = absurd (none-some (ty.Open k) e)
id_open (suc zero) k e = (cc, λ a m. refl)
id_open (suc (suc zero)) k e = (cc, λ a m. m (Alike 2 1) id_alike)
id_open (suc (suc (suc p))) k e = absurd (none-some (ty.Open k) e)

id_fixed : (p : ℕ) (u : Ty) → at_one id_types p ≡ Some u → u ≡ ty.Open 1
id_fixed zero u e = absurd (none-some u e)
id_fixed (suc zero) u e = cc
id_fixed (suc (suc zero)) u e = cc
id_fixed (suc (suc (suc p))) u e = absurd (none-some u e)

id_untold : (p : ℕ) (t : DataType) → at_one id_types p ≡ Some (as_ty t) → ⊥
id_untold p Int e = let h : ty.Int ≡ ty.Open 1 = id_fixed p ty.Int e in cc
id_untold p Bool e = let h : ty.Bool ≡ ty.Open 1 = id_fixed p ty.Bool e in cc

-- x : '1, y : '1
id_typed : AreTypes (IsRule [] [] id) 2 id_types
id_typed = record {
  typing = λ p. Int;
  meets = id_meets Int;
  all = refl;
  told = λ p t e. absurd (id_untold p t e);
  untold = λ p k t e. ((λ q. t), id_meets t, refl);
  classes = λ p q k l e f. ((λ h a m. (id_open p k e).1 a m ∙ sym ((id_open q l f).1 a m)), (λ h. (id_open p k e).0 ∙ sym (id_open q l f).0));
  numbered = record {
    from_one = λ p e. let h : 0 ≡ 1 = (id_open p 0 e).0 in absurd (omega arith);
    in_order = λ p k e. let h : suc (suc k) ≡ 1 = (id_open p (suc (suc k)) e).0 in absurd (omega arith);
  };
}

-- let node m a = b where rec b = id (a) && true
abbrev site : CallSite
site = record { node = 0; at = None; first = 4; args = 1 ∷ [] }

m : PlacedNode
m = record {
  name = called (codes "m");
  params = 1;
  places = bare kind.Param ∷ bare (kind.Defined 3) ∷ bare (kind.Op op.And (4 ∷ 5 ∷ [])) ∷ bare (kind.Result 1 0) ∷ bare (kind.Lit (lit.Bool true)) ∷ [];
  results = 2 ∷ [];
  buffers = [];
  bounds = [];
  calls = site ∷ [];
}

-- the argument and the result are alike, since the callee's parameter and result are of one class
m_call : IsRule (id ∷ []) (id_types ∷ []) m (Alike 1 4)
unfolding id m
m_call = inr record {
  call = 1;
  site = site;
  calls = refl;
  callee = id;
  called = refl;
  tys = id_types;
  typed = refl;
  carries = (1, 2, 1, inl refl, inr (0, refl, (bare (kind.Result 1 0), refl, refl)), refl, refl);
}

-- a : bool
m_bool : SaysType (IsRule (id ∷ []) (id_types ∷ []) m) 1 Bool
unfolding m
m_bool a h =
    h (Alike 1 4) m_call
    ∙ h (Is 4 Bool) (inl record { place = 3; entry = bare (kind.Op op.And (4 ∷ 5 ∷ [])); stands = refl; says = contains_at (Is 4 Bool ∷ Is 5 Bool ∷ Is 3 Bool ∷ []) 0 (Is 4 Bool) refl })
