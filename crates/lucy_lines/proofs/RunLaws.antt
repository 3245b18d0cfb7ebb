-- Laws of the lines of a block that are written instant by instant.
use Rattle.std.proofs.Common.{ℕ, Bool, false, ◌+◌, ◌≤◌, ◌≡◌, ℤ, List, [], ◌++◌, length, ap, sym, ◌∙◌, subst, arith}
use Rattle.lucy_word.proofs.Lists.{front_empty, back_empty}
use Rattle.lucy_lines.specs.Written.{LinesState}
use Rattle.lucy_lines.specs.declared.output.OutputSpec.{OutputSpec}
use Rattle.lucy_lines.specs.Outputs.{more_lines}
use Rattle.lucy_text.specs.Outside.{SeenSink, Fails}
use Rattle.lucy_lines.specs.Walks.{WalkState, next_lines, AreAt, AreWalked, Gathers, IsBetweenBlocks}
use Rattle.lucy_lines.proofs.OutputLaws.{one_instant_on, more_lines-grow}
use Rattle.lucy_lines.proofs.SinkLaws.{gathered_empty, fails_longer, gathers_more, gathered_fails}
use Rattle.lucy_lines.proofs.WalkLaws.{next_lines-is}

-- there are lists enough where there are for all that is walked along
pub enough_lists : (before : ℕ) (outputs : List OutputSpec) (walks : List WalkState) (lists : List (List ℤ)) → AreAt before outputs walks → length walks ≤ length lists → length outputs ≤ length lists
enough_lists before outputs walks lists at enough = omega (arith, at.count)

-- the lines of one instant more
text_more : (outputs : List OutputSpec) (lists : List (List ℤ)) (walks : List WalkState) (before n : ℕ) → length outputs ≤ length lists → AreWalked before (before + n) outputs lists walks →
    more_lines outputs lists before n ++ next_lines walks lists ≡ more_lines outputs lists before (n + 1)
text_more outputs lists walks before n enough left =
    ap (λ lines. more_lines outputs lists before n ++ lines) (next_lines-is before (before + n) outputs lists walks (omega arith) enough left) ∙ sym (one_instant_on outputs lists before n)

-- one instant more was gathered
pub instant_gathered : {K : Type 0} (k l m : K) (s t u : SeenSink) (lines waits : LinesState) (outputs : List OutputSpec) (lists : List (List ℤ)) (walks : List WalkState) (before n : ℕ) →
    length outputs ≤ length lists → AreWalked before (before + n) outputs lists walks → Gathers k l s t lines (more_lines outputs lists before n) →
    Gathers l m t u waits (lines.bytes ++ next_lines walks lists) → Gathers k m s u waits (more_lines outputs lists before (n + 1))
instant_gathered k l m s t u lines waits outputs lists walks before n enough left p q =
    let P : List ℕ → Type 0 = λ text. Gathers k m s u waits text in
    subst P (text_more outputs lists walks before n enough left) (gathers_more k l m s t u lines waits (more_lines outputs lists before n) (next_lines walks lists) p q)

-- a write failed within an instant
pub run_fails : {K : Type 0} (k l : K) (s t u : SeenSink) (lines : LinesState) (outputs : List OutputSpec) (lists : List (List ℤ)) (walks : List WalkState) (before n more : ℕ) →
    length outputs ≤ length lists → AreWalked before (before + n) outputs lists walks → n + 1 ≤ more → Gathers k l s t lines (more_lines outputs lists before n) →
    Fails t u (lines.bytes ++ next_lines walks lists) → Fails s u (more_lines outputs lists before more)
run_fails k l s t u lines outputs lists walks before n more enough left le p q =
    let rest = more_lines-grow outputs lists before (n + 1) more le in
    let P : List ℕ → Type 0 = λ text. Fails s u text in
    let here : Fails s u (more_lines outputs lists before (n + 1)) =
    subst P (text_more outputs lists walks before n enough left) (gathered_fails k l s t u lines (more_lines outputs lists before n) (next_lines walks lists) p q) in
    subst P (sym rest.1) (fails_longer s u (more_lines outputs lists before (n + 1)) rest.0 here)

-- where a block has no lines, there were none before
pub empty_before : (outputs : List OutputSpec) (lists : List (List ℤ)) (before n more : ℕ) → n ≤ more → more_lines outputs lists before more ≡ [] → more_lines outputs lists before n ≡ []
empty_before outputs lists before n more le empty =
    let rest = more_lines-grow outputs lists before n more le in
    front_empty (more_lines outputs lists before n) rest.0 (sym rest.1 ∙ empty)

-- and nothing waits or comes
pub nothing_waits : {K : Type 0} (k l : K) (s t : SeenSink) (lines : LinesState) (outputs : List OutputSpec) (lists : List (List ℤ)) (walks : List WalkState) (before n more : ℕ) →
    length outputs ≤ length lists → AreWalked before (before + n) outputs lists walks → n + 1 ≤ more → Gathers k l s t lines (more_lines outputs lists before n) →
    more_lines outputs lists before more ≡ [] → lines.bytes ++ next_lines walks lists ≡ []
nothing_waits k l s t lines outputs lists walks before n more enough left le p empty =
    let waits = gathered_empty k l s t lines (more_lines outputs lists before n) p (empty_before outputs lists before n more (omega arith) empty) in
    let comes = back_empty (more_lines outputs lists before n) (next_lines walks lists) (text_more outputs lists walks before n enough left ∙ empty_before outputs lists before (n + 1) more le empty) in
    ap (λ bytes. bytes ++ next_lines walks lists) waits ∙ comes

-- what holds between blocks, where no block was broken off
pub standing : (broken : Bool) (instants : ℕ) (outputs : List OutputSpec) (walks : List WalkState) (lines : LinesState) → broken ≡ false →
    (broken ≡ false → IsBetweenBlocks instants outputs walks lines) → IsBetweenBlocks instants outputs walks lines
standing broken instants outputs walks lines whole stands = stands whole
