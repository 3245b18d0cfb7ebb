use Rattle.std.proofs.Common.{inl}
use Rattle.lucy_tables.proofs.RefusalLaws.{explained, as_refused}
use Rattle.lucy_tables.proofs.refusal.refuse.Goals as goal

pub returns-in-Words-clause-told : goal.returns-in-Words-clause-told
returns-in-Words-clause-told g c = as_refused _ _ _ _ _ c.in-Words.is (inl c.tell.ensures.told)

pub returns-in-ReadFault-clause-told : goal.returns-in-ReadFault-clause-told
returns-in-ReadFault-clause-told g c = as_refused _ _ _ _ _ c.in-ReadFault.is (inl c.tell-in-ReadFault.ensures.told)

pub returns-in-BadNumber-clause-told : goal.returns-in-BadNumber-clause-told
returns-in-BadNumber-clause-told g c =
    as_refused _ _ _ _ _ c.in-BadNumber.is (explained c.number_line.result _ _ _ _ _ c.number_line.ensures c.explain.ensures.ok c.explain.ensures.err)

pub returns-in-Limit-clause-told : goal.returns-in-Limit-clause-told
returns-in-Limit-clause-told g c =
    as_refused _ _ _ _ _ c.in-Limit.is
    (explained c.refusal_text.result _ _ _ _ _ c.refusal_text.ensures c.explain-in-Limit.ensures.ok c.explain-in-Limit.ensures.err)
