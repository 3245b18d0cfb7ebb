-- Several clauses on one result.
use Rattle.std.proofs.Common.{Result, Ok, Err}
use Rattle.std.specs.Prelude.{IfOk, OnOk}

pub from_both : {T E : Type 0} (r : Result T E) (A B C : T → Type 0) → IfOk r A → IfOk r B → ((x : T) → A x → B x → C x) → IfOk r C
from_both (Ok x) A B C a b f = f x a b
from_both (Err e) A B C a b f = tt

pub on_both : {T E : Type 0} (r : Result T E) (A B C : Type 0) → OnOk r A → OnOk r B → (A → B → C) → OnOk r C
on_both (Ok x) A B C a b f = f a b
on_both (Err e) A B C a b f = tt
