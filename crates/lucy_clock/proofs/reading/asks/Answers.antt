use Rattle.std.proofs.Common.{true, refl, sym, subst, arith}
use Rattle.std.specs.Prelude.{◌↔◌, IsTrue}
use Rattle.lucy_place.specs.declared.entry.PlaceKind.{PlaceKind}
use Rattle.lucy_clock.specs.Reading.{AsksFor}
use Rattle.lucy_clock.proofs.LastLaws.{asks_from, asks_other}
use Rattle.lucy_clock.proofs.reading.asks.Goals as goal

pub returns-then-last-gt0 : goal.returns-then-last-gt0
returns-then-last-gt0 c = (λ t. asks_from c.args.kind.now c.args.last (let some = c.if-last-gt0.true in omega arith), λ asks. refl)

pub returns-in-Merge : goal.returns-in-Merge
returns-in-Merge c = subst (λ (kind : PlaceKind). IsTrue true ↔ AsksFor kind c.args.last) (sym c.in-Merge.is) (λ t. tt, λ asks. refl)

pub returns-in_default : goal.returns-in_default
returns-in_default c = (
  λ t. absurd (cc t),
  λ asks. absurd (let some = asks_other c.args.kind.now c.args.last c.in_default.not-Merge asks in let none = c.if-last-gt0.false in omega arith),
)
