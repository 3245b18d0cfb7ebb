use Rattle.std.proofs.Common.{◌≤◌, List, length, Ok, Err, refl, sym, ◌∙◌, subst}
use Rattle.std.proofs.Math.Nat.{le_refl}
use Rattle.std.proofs.lemmas.List.{length-map}
use Rattle.lucy_host.specs.Operators.{Operator}
use Rattle.lucy_tables.specs.Words.{most_tables}
use Rattle.lucy_tables.specs.Named.{table_named, tables_named}
use Rattle.lucy_tables.specs.Seen.{Loads}
use Rattle.lucy_tables.specs.declared.words.TableWords.{TableWords}
use Rattle.lucy_tables.proofs.LendingLaws.{tables_fit, come_to_nothing, come_to_refusal, come_unrefused, come_to_bad_file, come_to_operators}
use Rattle.lucy_tables.proofs.lending.operators.Goals as goal

few_named : (tables : List TableWords) → length tables ≤ most_tables → length (tables_named tables) ≤ most_tables
few_named tables few = subst (λ n. n ≤ most_tables) (sym (length-map tables table_named)) few

-- where there is no memory for the program's own
pub returns-in_err-ops-clause-begun : goal.returns-in_err-ops-clause-begun
returns-in_err-ops-clause-begun g c = come_to_nothing _ _ _ c.from_residual.result c.from_residual.ensures.1

pub returns-in_err-ops-clause-refused : goal.returns-in_err-ops-clause-refused
returns-in_err-ops-clause-refused g c = λ answer why. refl

pub returns-in_err-ops-clause-none : goal.returns-in_err-ops-clause-none
returns-in_err-ops-clause-none g c = λ is. refl

pub returns-in_err-ops-clause-count : goal.returns-in_err-ops-clause-count
returns-in_err-ops-clause-count g c = le_refl _

-- where the words are refused
pub returns-in-Err-clause-begun : goal.returns-in-Err-clause-begun
returns-in-Err-clause-begun g c = come_to_refusal _ _ _ _ c.in_ok-ops.ensures c.in-Err.refusal c.in-Err.ensures.refused

pub returns-in-Err-clause-refused : goal.returns-in-Err-clause-refused
returns-in-Err-clause-refused g c = λ answer why. refl

pub returns-in-Err-clause-none : goal.returns-in-Err-clause-none
returns-in-Err-clause-none g c = λ is. refl

pub returns-in-Err-clause-count : goal.returns-in-Err-clause-count
returns-in-Err-clause-count g c = le_refl _

pub load-requires : goal.load-requires
load-requires g c = tables_fit c.in_ok-ops.ops c.in_ok-ops.ensures c.deref.result.now _ c.deref.ensures.value c.in_default.ensures.ok.1

-- where a file is
pub returns-in_err-load-clause-begun : goal.returns-in_err-load-clause-begun
returns-in_err-load-clause-begun g c =
    let before = g.S.Shelf.seen c.args.shelf.now in
    let after = g.S.Shelf.seen c.load.new.shelf in
    let ok = c.in_default.ensures.ok in
    let loads = subst (λ (ts : List TableWords). Loads (tables_named ts) before after c.in_ok-ops.ops c.load.new.ops {T = List Operator} (Err c.in_err-load.field-0.0)) c.deref.ensures.value c.in_err-load.ensures.loads in
    come_to_bad_file _ _ before _ c.in_ok-ops.ensures ok.0 (few_named _ ok.1) after c.load.new.ops c.in_err-load.field-0.0 c.from_residual-in_err-load.result loads c.from_residual-in_err-load.ensures.1

pub returns-in_err-load-clause-refused : goal.returns-in_err-load-clause-refused
returns-in_err-load-clause-refused g c = λ answer why.
    let ok = c.in_default.ensures.ok in
    absurd (come_unrefused _ _ (g.S.Shelf.seen c.args.shelf.now) _ c.in_ok-ops.ensures ok.0 (few_named _ ok.1) answer why)

pub returns-in_err-load-clause-none : goal.returns-in_err-load-clause-none
returns-in_err-load-clause-none g c = λ is. c.in_err-load.ensures.none (c.deref.ensures.value ∙ is)

pub returns-in_err-load-clause-count : goal.returns-in_err-load-clause-count
returns-in_err-load-clause-count g c = c.in_err-load.ensures.count

-- where the tables are lent
pub returns-clause-begun : goal.returns-clause-begun
returns-clause-begun g c =
    let before = g.S.Shelf.seen c.args.shelf.now in
    let after = g.S.Shelf.seen c.load.new.shelf in
    let ok = c.in_default.ensures.ok in
    let loads = subst (λ (ts : List TableWords). Loads (tables_named ts) before after c.in_ok-ops.ops c.load.new.ops (Ok c.load.new.ops)) c.deref.ensures.value c.in_ok-load.ensures.loads in
    come_to_operators _ _ before _ c.in_ok-ops.ensures ok.0 (few_named _ ok.1) after c.load.new.ops loads

pub returns-clause-refused : goal.returns-clause-refused
returns-clause-refused g c = λ answer why.
    let ok = c.in_default.ensures.ok in
    absurd (come_unrefused _ _ (g.S.Shelf.seen c.args.shelf.now) _ c.in_ok-ops.ensures ok.0 (few_named _ ok.1) answer why)

pub returns-clause-none : goal.returns-clause-none
returns-clause-none g c = λ is. c.in_ok-load.ensures.none (c.deref.ensures.value ∙ is)

pub returns-clause-count : goal.returns-clause-count
returns-clause-count g c = c.in_ok-load.ensures.count
