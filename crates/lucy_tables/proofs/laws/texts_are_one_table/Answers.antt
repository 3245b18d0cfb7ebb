use Rattle.lucy_tables.proofs.TableLaws.{one_table, one_refusal, table_or_refusal}
use Rattle.lucy_tables.proofs.laws.texts_are_one_table.Goals as goal

pub returns : goal.returns
returns c = record { table = one_table; refused = one_refusal; apart = table_or_refusal }
