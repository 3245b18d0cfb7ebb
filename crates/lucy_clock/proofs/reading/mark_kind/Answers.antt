use Rattle.std.proofs.Common.{sym, subst}
use Rattle.lucy_place.specs.declared.entry.PlaceKind.{PlaceKind}
use Rattle.lucy_place.specs.Reads.{operands_of}
use Rattle.lucy_clock.specs.Reading.{IsAmong}
use Rattle.lucy_clock.proofs.reading.mark_kind.Goals as goal

pub mark-requires : goal.mark-requires
mark-requires c = λ q m. c.requires q (subst (λ (kind : PlaceKind). IsAmong (operands_of kind) q) (sym c.in-Defined.is) m)

pub mark-requires-in-Op : goal.mark-requires-in-Op
mark-requires-in-Op c = λ q m. c.requires q (subst (λ (kind : PlaceKind). IsAmong (operands_of kind) q) (sym c.in-Op.is) (subst (λ l. IsAmong l q) c.list.ensures m))

pub mark-requires-in-Host : goal.mark-requires-in-Host
mark-requires-in-Host c = λ q m. c.requires q (subst (λ (kind : PlaceKind). IsAmong (operands_of kind) q) (sym c.in-Host.is) m)

pub mark-requires-in-Merge : goal.mark-requires-in-Merge
mark-requires-in-Merge c = λ q m. c.requires q (subst (λ (kind : PlaceKind). IsAmong (operands_of kind) q) (sym c.in-Merge.is) m)

pub mark-requires-in-Fby : goal.mark-requires-in-Fby
mark-requires-in-Fby c = λ q m. c.requires q (subst (λ (kind : PlaceKind). IsAmong (operands_of kind) q) (sym c.in-Fby.is) m)

pub mark-requires-in-When : goal.mark-requires-in-When
mark-requires-in-When c = λ q m. c.requires q (subst (λ (kind : PlaceKind). IsAmong (operands_of kind) q) (sym c.in-When.is) m)

pub mark-requires-in-Buffer : goal.mark-requires-in-Buffer
mark-requires-in-Buffer c = λ q m. c.requires q (subst (λ (kind : PlaceKind). IsAmong (operands_of kind) q) (sym c.in-Buffer.is) m)
