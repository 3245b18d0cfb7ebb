-- The names of an accepted program have name bytes alone.
use Rattle.std.proofs.Common.{ℕ, suc, zero, ◌+◌, ◌-◌, ◌≡◌, List, [], ◌∷◌, ◌++◌, Option, Some, None, length, map, take, ap, sym, refl, ◌∙◌, subst, arith}
use Rattle.std.specs.Prelude.{slice_get, codes}
use Rattle.std.specs.Option.{option_and_then, option_map, unwrap_or}
use Rattle.std.specs.List.{AllByRecursion, AllPass}
use Rattle.std.specs.Fmt.{decimal}
use Rattle.lucy_word.specs.Bits.{Bits}
use Rattle.lucy_word.proofs.Lists.{all_at}
use Rattle.lucy_host.specs.Operators.{Operator}
use Rattle.lucy_lines.specs.declared.output.OutputSpec.{OutputSpec}
use Rattle.lucy_tree.specs.declared.span.Name.{Name}
use Rattle.lucy_tree.specs.declared.decl.Decl.{Decl}
use Rattle.lucy_tree.specs.View.{DefTree, NodeTree, ProgramTree}
use Rattle.lucy_token.specs.declared.token.Kind.TheVariants as kind
use Rattle.lucy_token.specs.declared.token.Token.{Token}
use Rattle.lucy_token.specs.declared.stop.Stop.TheVariants.{End}
use Rattle.lucy_token.specs.Cuts.{Cuts}
use Rattle.lucy_token.specs.Fronts.{is_name_byte}
use Rattle.lucy_token.specs.Written.{IsWritten, AreWritten}
use Rattle.lucy_grammar.specs.Texts.{HasTree}
use Rattle.lucy_grammar.specs.Printable.{MayBeNamed as IsNamedSo, AllOfSome, IsPrintableDecl, IsPrintableDef, IsPrintableNode}
use Rattle.lucy_grammar.proofs.PrintableLaws.{printable}
use Rattle.lucy_grammar.proofs.RoundTrip.{stand_written}
use Rattle.lucy_place.specs.declared.entry.PlaceEntry.{PlaceEntry}
use Rattle.lucy_place.specs.declared.entry.PlaceKind.TheVariants as place_kind
use Rattle.lucy_place.specs.declared.placed.PlacedNode.{PlacedNode}
use Rattle.lucy_naming.specs.Phrases.{Head, Literal, Applied, Host, Sampled, Merged, Followed, Buffered, Called, Phrase, Phrases, name, headed, none, and, phrase_of}
use Rattle.lucy_naming.specs.Faults.{faults}
use Rattle.lucy_naming.specs.Streams.{result_count}
use Rattle.lucy_naming.specs.Numbering.{Next, past, inside, number, numbers, entries, all_entries, own_entries}
use Rattle.lucy_naming.specs.Places.{Known, results_from, declared_entry, left_entries, known_in}
use Rattle.lucy_naming.specs.Nodes.{past_def, defined, rights, first_next, node_entries, placed_node}
use Rattle.lucy_place.specs.Standing.{at_one, IsNamed, AreNamed}
use Rattle.lucy_place.specs.Proper.{AreProper}
use Rattle.lucy_naming.proofs.NodesLaws.{are_placed}
use Rattle.lucy_naming.proofs.ProperPrograms.{tree_at}
use Rattle.lucy_types.specs.declared.ty.Ty.{Ty}
use Rattle.lucy_kahn.specs.Spots.{main_of}
use Rattle.lucy_flat.specs.Instances.{words_in}
use Rattle.lucy_types.specs.Tables.{table_at}
use Rattle.lucy_program.specs.declared.accepted.Accepted.{Accepted}
use Rattle.lucy_program.specs.declared.options.Options.{Options}
use Rattle.lucy_program.specs.Accepting.{IsAccepted}
use Rattle.lucy_program.specs.Names.{of_one, name_at, place_name}
use Rattle.lucy_program.specs.Scheduled.{main_output}
use Rattle.lucy_wave.specs.Waves.{bytes_of, written_name}
use Rattle.lucy_wave.proofs.BackLaws.{IsPlain, NamesArePlain}

-- a cut text has tokens as they may be written
abbrev pub AreCut : Type 0
AreCut = (text : List ℕ) (ts : List Token) (n : ℕ) → Cuts 0 [] text ts (End n) → AreWritten kind.End ts

-- the nodes of accepted programs are proper
abbrev pub ProgramsAreProper : Type 0
ProgramsAreProper = (ops : List Operator) (o : Options) (text : List ℕ) (a : Accepted) → IsAccepted ops o text a → AreProper a.placed.nodes

all_plain : (bytes : List ℕ) → AllPass is_name_byte bytes → IsPlain bytes
all_plain [] all = tt
all_plain (x ∷ xs) all = (all 0 0 (omega arith), all_plain xs (λ k d l. all (suc k) d (omega arith)))

named_plain : (n : Name) → IsNamedSo IsWritten n → IsPlain n.text
named_plain n named = all_plain n.text named.1.name_bytes

-- the name of a place, where it has one
abbrev IsPlainEntry : PlaceEntry → Type 0
IsPlainEntry entry = IsPlain (bytes_of entry.name)

abbrev ArePlainEntries : List PlaceEntry → Type 0
ArePlainEntries entries = AllByRecursion IsPlainEntry entries

plain_join : (es fs : List PlaceEntry) → ArePlainEntries es → ArePlainEntries fs → ArePlainEntries (es ++ fs)
plain_join [] fs a b = b
plain_join (e ∷ es) fs a b = (a.0, plain_join es fs a.1 b)

params_plain : (ds : List Decl) → AllByRecursion (IsPrintableDecl IsWritten) ds → ArePlainEntries (map (declared_entry place_kind.Param) ds)
params_plain [] all = tt
params_plain (d ∷ ds) all = (named_plain d.name all.0.0, params_plain ds all.1)

lefts_plain : (right : ℕ) (ds : List Decl) → AllByRecursion (IsPrintableDecl IsWritten) ds → ArePlainEntries (left_entries right ds)
lefts_plain right [] all = tt
lefts_plain right (d ∷ ds) all = (named_plain d.name all.0.0, lefts_plain (right + 1) ds all.1)

defined_plain : (k : Known) (at : Next) (ds : List DefTree) → AllByRecursion (IsPrintableDef IsWritten) ds → ArePlainEntries (defined k at ds)
defined_plain k at [] all = tt
defined_plain k at (d ∷ ds) all =
    plain_join (left_entries (number k at (phrase_of d.right)) d.left) (defined k (past_def at d) ds) (lefts_plain (number k at (phrase_of d.right)) d.left all.0.left) (defined_plain k (past_def at d) ds all.1)

results_plain : (call first m : ℕ) → ArePlainEntries (results_from call first m)
results_plain call first zero = tt
results_plain call first (suc m) = (tt, results_plain call (first + 1) m)

own_plain : (k : Known) (at : Next) (r : ℕ) (h : Head) (args : List ℕ) → ArePlainEntries (own_entries k at r h args)
own_plain k at r (Literal l) args = (tt, tt)
own_plain k at r (Applied o) args = (tt, tt)
own_plain k at r (Host t) args = (tt, tt)
own_plain k at r (Sampled flip w) args = (tt, tt)
own_plain k at r (Merged w) args = (tt, tt)
own_plain k at r (Followed l) args = (tt, tt)
own_plain k at r (Buffered most) args = (tt, tt)
own_plain k at r (Called t base) args = results_plain at.call 0 r

mutual
  phrase_plain : (k : Known) (at : Next) (r : ℕ) (f : Phrase) → ArePlainEntries (entries k at r f)
  phrase_plain k at r (name t) = tt
  phrase_plain k at r (headed h span fs) =
      let in_ : Next = inside at r h in
      plain_join (own_entries k at r h (numbers k in_ fs)) (all_entries k in_ fs) (own_plain k at r h (numbers k in_ fs)) (phrases_plain k in_ fs)

  phrases_plain : (k : Known) (at : Next) (fs : Phrases) → ArePlainEntries (all_entries k at fs)
  phrases_plain k at none = tt
  phrases_plain k at (and f fs) = plain_join (entries k at 1 f) (all_entries k (past at 1 f) fs) (phrase_plain k at 1 f) (phrases_plain k (past at 1 f) fs)

rights_plain : (k : Known) (at : Next) (ds : List DefTree) → ArePlainEntries (rights k at ds)
rights_plain k at [] = tt
rights_plain k at (d ∷ ds) =
    plain_join (entries k at (result_count d.left) (phrase_of d.right)) (rights k (past_def at d) ds) (phrase_plain k at (result_count d.left) (phrase_of d.right)) (rights_plain k (past_def at d) ds)

entries_plain : (k : Known) (t : NodeTree) → IsPrintableNode IsWritten t → ArePlainEntries (node_entries k t)
entries_plain k t is =
    plain_join (map (declared_entry place_kind.Param) t.params) (defined k (first_next t) t.defs ++ rights k (first_next t) t.defs) (params_plain t.params is.params)
    (plain_join (defined k (first_next t) t.defs) (rights k (first_next t) t.defs) (defined_plain k (first_next t) t.defs is.defs) (rights_plain k (first_next t) t.defs))

-- the written name of each place
at_plain : (n : PlacedNode) → ArePlainEntries n.places → (place : ℕ) → IsPlain (written_name n place)
at_plain n all place = of (at_one n.places place) refl
  where
    there_plain : (p : ℕ) (entry : PlaceEntry) → at_one n.places p ≡ Some entry → IsPlainEntry entry
    there_plain zero entry e = absurd (cc e)
    there_plain (suc i) entry e = all_at IsPlainEntry n.places i entry all e

    of : (o : Option PlaceEntry) → at_one n.places place ≡ o → IsPlain (bytes_of (option_and_then (λ entry. entry.name) o))
    of None e = tt
    of (Some entry) e = there_plain place entry e

-- a place with a name is printed by it
pub named_at : (n : PlacedNode) (place : ℕ) → IsNamed n place → place_name n place ≡ written_name n place
named_at n place named =
    let is : name_at n place ≡ Some named.1 = ap (option_and_then (λ entry. entry.name)) named.2 ∙ named.3 in
    ap (λ o. unwrap_or (option_map (λ x. x.text) o) (codes "#" ++ decimal place)) is ∙ sym (ap bytes_of is)

outputs_plain : (n : PlacedNode) (types : List Ty) (words : List Bits) (results : List ℕ) → AreNamed n results → ((place : ℕ) → IsPlain (written_name n place)) →
    AllByRecursion (λ (o : OutputSpec). IsPlain o.name) (map (main_output n types words) results)
outputs_plain n types words [] named plain = tt
outputs_plain n types words (p ∷ results) named plain = (subst IsPlain (sym (named_at n p named.0)) (plain p), outputs_plain n types words results named.1 plain)

-- the tree of main
pub record IsTreeOf (ops : List Operator) (text : List ℕ) (main : PlacedNode) : Type 0 where
  pub program : ProgramTree
  pub read : HasTree text program
  pub good : faults ops program ≡ []
  pub index : ℕ
  pub tree : NodeTree
  pub found : slice_get program index ≡ Some tree
  pub is : main ≡ placed_node ops ([] ++ take index program) tree

pub main_tree : (ops : List Operator) (o : Options) (text : List ℕ) (a : Accepted) (main : PlacedNode) → IsAccepted ops o text a → main_of a.placed.nodes ≡ Some main → IsTreeOf ops text main
main_tree ops o text a main is e =
    let placed = is.clocked.program.program in
    let found = tree_at ops [] placed.tree (length a.placed.nodes - 1) main (ap (λ ns. slice_get ns (length a.placed.nodes - 1)) (sym (are_placed ops placed.tree a.placed.nodes placed.is_placed.nodes)) ∙ e) in
    record { program = placed.tree; read = placed.read; good = placed.is_placed.good; index = length a.placed.nodes - 1; tree = found.0; found = found.1; is = found.2 }

some_of : {A : Type 0} (P : A → Type 0) (xs : List A) (i : ℕ) (x : A) → AllOfSome P xs → slice_get xs i ≡ Some x → P x
some_of P [] i x all e = absurd all
some_of P (y ∷ xs) i x all e = all_at P (y ∷ xs) i x (all.0, all.1) e

pub names_plain : AreCut → ProgramsAreProper → NamesArePlain
names_plain cut proper ops o text a main is e =
    let of = main_tree ops o text a main is e in
    let written = stand_written kind.End of.read.tokens (cut text of.read.tokens of.read.end of.read.cut) in
    let node = some_of (IsPrintableNode IsWritten) of.program of.index of.tree (printable IsWritten kind.End of.read.tokens of.program of.read.program written) of.found in
    let above : ProgramTree = [] ++ take of.index of.program in
    let entries_are : ArePlainEntries main.places = subst (λ (n : PlacedNode). ArePlainEntries n.places) (sym of.is) (entries_plain (known_in ops above of.tree) of.tree node) in
    let last : ℕ = length a.placed.nodes - 1 in
    let main_types : List Ty = table_at a.typed last in
    let words : List Bits = words_in (slice_get a.clocks.items last) in
    let outputs_are : a.outputs.items ≡ map (main_output main main_types words) main.results =
    is.outputs ∙ ap (λ m. of_one (λ (n : PlacedNode). map (main_output n main_types words) n.results) m) e in
    record {
      own = subst (λ (n : PlacedNode). IsPlain n.name.text) (sym of.is) (named_plain of.tree.name node.name);
      places = at_plain main entries_are;
      outer = subst (λ os. AllByRecursion (λ (s : OutputSpec). IsPlain s.name) os) (sym outputs_are)
          (outputs_plain main main_types words main.results (proper ops o text a is last main e).named (at_plain main entries_are));
    }
