-- The text of a program that was read is cut into tokens up to its end, and they are the program again, but for places.
use Rattle.std.proofs.Common.{◌≡◌, ℕ, ◌+◌, List, [], ◌∷◌, ◌++◌, length, map, refl, ap, sym, ◌∙◌, subst, arith, append_assoc}
use Rattle.lucy_tree.specs.View.{ProgramTree}
use Rattle.lucy_token.specs.declared.token.Kind.{Kind}
use Rattle.lucy_token.specs.declared.token.Kind.TheVariants as kind
use Rattle.lucy_token.specs.declared.token.What.{What}
use Rattle.lucy_token.specs.declared.token.What.TheVariants as what
use Rattle.lucy_token.specs.declared.token.Token.{Token}
use Rattle.lucy_token.specs.declared.stop.Stop.TheVariants.{End}
use Rattle.lucy_token.specs.Tokens.{kind_of}
use Rattle.lucy_token.specs.Before.{nearest, wants_word}
use Rattle.lucy_token.specs.States.{start, state_of}
use Rattle.lucy_token.specs.Cuts.{Cuts}
use Rattle.lucy_token.specs.Written.{IsWritten, AreWritten}
use Rattle.lucy_token.specs.Printed.{text_of_what, bytes_of, whats_of, Printed}
use Rattle.lucy_token.specs.Spelled.{placed, is_word, IsSpelled, MayStandHere, AllStand, PrintsBehind}
use Rattle.lucy_token.proofs.StateLaws.{limit_same, entry_past_same, operand_same}
use Rattle.lucy_token.proofs.WrittenLaws.{tokens_written}
use Rattle.lucy_token.proofs.FollowLaws.{placed_whats}
use Rattle.lucy_token.proofs.WordAgain.{spelled_again}
use Rattle.lucy_token.proofs.PrintLaws.{cut_printed}
use Rattle.lucy_grammar.specs.Programs.{IsProgram}
use Rattle.lucy_grammar.specs.Parens.{without_parens}
use Rattle.lucy_grammar.specs.Print.{program_text}
use Rattle.lucy_grammar.specs.PrintTokens.{line, printed_program}
use Rattle.lucy_grammar.specs.Printable.{StandAfter, MayFollow, AllMayFollow, IsPrintableProgram, Anywhere}
use Rattle.lucy_grammar.specs.Spans.{IsAlike}
use Rattle.lucy_grammar.proofs.PrintableLaws.{printable, all_stand}
use Rattle.lucy_grammar.proofs.PrintedOrder.{printed_order}
use Rattle.lucy_grammar.proofs.PrintedPrograms.{printed_again}
use Rattle.lucy_grammar.proofs.PrintedBytes.{program_bytes}
use Rattle.lucy_grammar.proofs.CoreLaws.{same_core}
use Rattle.lucy_grammar.proofs.CutLimits.{AllPass, tokens_pass}
use Rattle.lucy_grammar.proofs.Counts.{Count, count_of, AllCount, counted_on, none_passed, all_count, count_core, core_count}
use Rattle.lucy_grammar.proofs.FewLaws.{few_entries}
use Rattle.lucy_grammar.proofs.Weights.{light_program}
use Rattle.lucy_grammar.proofs.Laid.{print_apart}
use Rattle.lucy_grammar.proofs.Fitting.{AllFit}
use Rattle.lucy_grammar.proofs.FittingPrograms.{program_fits}

-- tokens as they may be written, each behind the one before it
pub stand_written : (before : Kind) (ts : List Token) → AreWritten before ts → StandAfter IsWritten before ts
stand_written before [] h = tt
stand_written before (t ∷ ts) h = (h.0, stand_written (kind_of t.what) ts h.1)

word_here : (before : Kind) (w : What) → MayFollow IsWritten before w → wants_word before ≡ is_word w
word_here before (what.Mark m) h = h
word_here before (what.Name bytes) h = h.0
word_here before (what.Number n) h = h.0
word_here before (what.Word w) h = h.0

is_spelled : (before : Kind) (w : What) → MayFollow IsWritten before w → IsSpelled before w
is_spelled before (what.Mark m) h = tt
is_spelled before (what.Name bytes) h = h.1.1
is_spelled before (what.Number n) h = h.1.1
is_spelled before (what.Word w) h = spelled_again before (what.Word w) h

all_stand_here : (ks : List Kind) (ws : List What) → AllMayFollow IsWritten (nearest ks) ws → AllCount (count_of (state_of ks)) ws → AllFit (state_of ks) ws → AllStand ks ws
all_stand_here ks [] order count fit = tt
all_stand_here ks (w ∷ ws) order count fit =
    let k : Kind = kind_of w in
    let Q : Count → Type 0 = λ c. AllCount c ws in
    let here : MayStandHere ks w = record {
      passes = sym (limit_same ks k) ∙ none_passed (state_of ks) k count.0 fit.0.room;
      in_list = sym (entry_past_same ks k) ∙ fit.0.in_list;
      word_here = word_here (nearest ks) w order.0;
      operand_here = λ e. sym (operand_same ks) ∙ fit.0.operand_here e;
      spelled = is_spelled (nearest ks) w order.0;
    } in
    (here, all_stand_here (k ∷ ks) ws order.1 (subst Q (sym (counted_on (state_of ks) k)) count.1) fit.1)

-- the bytes of tokens in print, and those behind them
bytes-behind : (ps : List Printed) (rest : List ℕ) → bytes_of ps rest ≡ bytes_of ps [] ++ rest
bytes-behind [] rest = refl
bytes-behind (p ∷ ps) rest =
    ap (λ u. p.blanks ++ (text_of_what p.what ++ u)) (bytes-behind ps rest)
    ∙ ap (λ u. p.blanks ++ u) (sym (append_assoc (text_of_what p.what) (bytes_of ps []) rest))
    ∙ sym (append_assoc p.blanks (text_of_what p.what ++ bytes_of ps []) rest)

-- what is printed of a program that was read may be counted
core_counts : (text : List ℕ) (ts : List Token) (n : ℕ) (p : ProgramTree) → Cuts 0 [] text ts (End n) → IsProgram ts p → AllCount (count_of start) (without_parens (whats_of (printed_program p)))
core_counts text ts n p q d =
    let P : List What → Type 0 = λ u. AllCount (count_of start) u in
    subst P (same_core ts p d) (count_core (count_of start) (map (λ t. t.what) ts) (all_count start ts (tokens_pass q)))

pub print_counts : (text : List ℕ) (ts : List Token) (n : ℕ) (p : ProgramTree) → Cuts 0 [] text ts (End n) → IsProgram ts p → AllCount (count_of start) (whats_of (printed_program p))
print_counts text ts n p q d = core_count (count_of start) (whats_of (printed_program p)) (core_counts text ts n p q d)

-- it is printed of tokens as they may be written
pub written_program : (text : List ℕ) (ts : List Token) (n : ℕ) (p : ProgramTree) → Cuts 0 [] text ts (End n) → IsProgram ts p → IsPrintableProgram IsWritten p
written_program text ts n p q d = printable IsWritten kind.End ts p d (stand_written kind.End ts (tokens_written q))

-- what is printed of a program that was read may stand so
print_follows : (text : List ℕ) (ts : List Token) (n : ℕ) (p : ProgramTree) → Cuts 0 [] text ts (End n) → IsProgram ts p → PrintsBehind [] (printed_program p)
print_follows text ts n p q d =
    let ws : List What = whats_of (printed_program p) in
    let pass : AllPass start ts = tokens_pass q in
    let can : IsPrintableProgram Anywhere p = printable Anywhere kind.End ts p d (all_stand kind.End ts) in
    let order : AllMayFollow IsWritten kind.End ws = printed_order IsWritten p (written_program text ts n p q d) in
    let fit : AllFit start ws = program_fits p (few_entries start ts p d pass) can (light_program (count_of start) p (core_counts text ts n p q d)) in
    record {
      stand = all_stand_here [] ws order (print_counts text ts n p q d) fit;
      apart = print_apart p can;
    }

pub read_again : (text : List ℕ) (ts : List Token) (n : ℕ) (p : ProgramTree) → Cuts 0 [] text ts (End n) → IsProgram ts p →
    (us : List Token) × (q : ProgramTree) × Cuts 0 [] (program_text p) us (End (length (program_text p))) × IsProgram us q × IsAlike q p
read_again text ts n p q d =
    let ps : List Printed = printed_program p in
    let us : List Token = placed 0 ps in
    let P : List ℕ → Type 0 = λ u. Cuts 0 [] u us (End (0 + length u)) in
    let Q : ℕ → Type 0 = λ to. Cuts 0 [] (program_text p) us (End to) in
    let same : map (λ t. t.what) us ≡ whats_of ps = placed_whats 0 ps in
    let r = printed_again Anywhere p us (printable Anywhere kind.End ts p d (all_stand kind.End ts)) same in
    let cut : Q (0 + length (program_text p)) = subst P (bytes-behind ps line ∙ program_bytes p) (cut_printed 0 [] ps line (print_follows text ts n p q d) refl) in
    (us, r.0, subst Q (let e : 0 + length (program_text p) ≡ length (program_text p) = omega arith in e) cut, r.1, r.2)
