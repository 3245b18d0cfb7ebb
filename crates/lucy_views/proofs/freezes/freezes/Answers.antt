use Rattle.std.proofs.Common.{refl}
use Rattle.lucy_views.specs.Meets.{options_of}
use Rattle.lucy_views.proofs.Told.{program_tellable}
use Rattle.lucy_views.proofs.Texts.{frozen_out, not_accepted_out, not_frozen_out, differs_out}
use Rattle.lucy_views.proofs.freezes.freezes.Goals as goal

pub returns-in-Ok-clause-outcome : goal.returns-in-Ok-clause-outcome
returns-in-Ok-clause-outcome c =
    frozen_out c.args.ops.now c.options.result (options_of c.args.words) c.options.ensures.is c.args.text.now c.in-Ok.frozen.text c.in-Ok.frozen.program c.in-Ok.ensures.ok

pub returns-in-Err-Program-clause-outcome : goal.returns-in-Err-Program-clause-outcome
returns-in-Err-Program-clause-outcome c =
    let why = rw c.in-Err-Program.field-0-is at c.in-Err-Program.ensures.refused in
    not_accepted_out c.args.ops.now c.options.result (options_of c.args.words) c.options.ensures.is c.args.text.now c.in-Err-Program.reason _ _ why.0 refl c.from.ensures

pub returns-in-Err-Program-clause-told : goal.returns-in-Err-Program-clause-told
returns-in-Err-Program-clause-told c =
    let why = rw c.in-Err-Program.field-0-is at c.in-Err-Program.ensures.refused in
    program_tellable c.in-Err-Program.reason _ c.from.ensures why.1

pub returns-in-Err-Text-clause-outcome : goal.returns-in-Err-Text-clause-outcome
returns-in-Err-Text-clause-outcome c =
    let why = rw c.in-Err-Text.field-0-is at c.in-Err-Text.ensures.refused in
    not_frozen_out c.args.ops.now c.options.result (options_of c.args.words) c.options.ensures.is c.args.text.now why.0 c.in-Err-Text.reason _ _ why.1 why.2 refl
    c.from-in-Err-Text.ensures

pub returns-in-Err-Text-clause-told : goal.returns-in-Err-Text-clause-told
returns-in-Err-Text-clause-told c =
    let why = rw c.in-Err-Text.field-0-is at c.in-Err-Text.ensures.refused in
    program_tellable c.in-Err-Text.reason _ c.from-in-Err-Text.ensures why.2

pub returns-in-Err-Differs-clause-outcome : goal.returns-in-Err-Differs-clause-outcome
returns-in-Err-Differs-clause-outcome c =
    let why = rw c.in-Err-Differs.field-0-is at c.in-Err-Differs.ensures.refused in
    differs_out c.args.ops.now c.options.result (options_of c.args.words) c.options.ensures.is c.args.text.now why.0 why.1
