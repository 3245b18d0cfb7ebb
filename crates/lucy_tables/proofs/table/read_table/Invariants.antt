use Rattle.std.proofs.Common.{◌≡◌, ◌≤◌, ◌++◌, length, map, Ok}
use Rattle.lucy_fields.specs.Numbers.{int_of}
use Rattle.lucy_fields.specs.Readings.{reading}
use Rattle.lucy_tables.specs.Tables.{numbers_of, most_items}
use Rattle.lucy_tables.proofs.table.read_table.Given as goal

-- what was read so far, before what is left
abbrev pub invariant-fields : goal.invariant-fields
invariant-fields l = record {
  read : numbers_of l.text ≡ map (λ v. Ok v) l.list.items ++ map (reading int_of) l.fields;
  short : length l.list.items ≤ most_items;
}

abbrev pub decreases-fields : goal.decreases-fields
decreases-fields l = length l.fields
