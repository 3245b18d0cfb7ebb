use Rattle.std.proofs.Common.{inr}
use Rattle.lucy_tables.proofs.RefusalLaws.{many_refused}
use Rattle.lucy_tables.proofs.loading.read.Goals as goal

pub returns-in-Err-Limit : goal.returns-in-Err-Limit
returns-in-Err-Limit c =
    inr (many_refused c.args.name.now c.deref.result.now c.args.fetched c.in-Ok.text c.in-Err-Limit.limit c.in-Ok.is c.deref.ensures.value (rw c.in-Err-Limit.field-0-is at c.in-Err-Limit.ensures.refused))
