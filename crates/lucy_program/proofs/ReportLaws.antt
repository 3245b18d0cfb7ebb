-- The lines of a report, one step on.
use Rattle.std.proofs.Common.{ℕ, ◌+◌, ◌<◌, ◌≤◌, ◌≡◌, Bool, List, [], ◌∷◌, ◌++◌, length, drop, get_or, Some, nat_eq, refl, ap, sym, ◌∙◌, subst, arith, add-one, append_assoc, length-drop, eq-eqb}
use Rattle.std.specs.Prelude.{slice_get}
use Rattle.std.specs.List.{AllByRecursion}
use Rattle.std.proofs.lemmas.List.{drop_more}
use Rattle.std.proofs.lemmas.Bool.{ne_eqb}
use Rattle.std.proofs.lemmas.Option.{slice_get_within, get_or_from_slice_get, slice_get-get_or}
use Rattle.lucy_word.proofs.Lists.{drop_next, four}
use Rattle.lucy_place.specs.declared.entry.PlaceEntry.{PlaceEntry}
use Rattle.lucy_place.specs.declared.entry.CallSite.{CallSite}
use Rattle.lucy_place.specs.declared.placed.PlacedNode.{PlacedNode}
use Rattle.lucy_place.specs.Standing.{at_one}
use Rattle.lucy_place.specs.Proper.{IsProperNode}
use Rattle.lucy_types.specs.declared.ty.Ty.{Ty}
use Rattle.lucy_types.specs.Tables.{table_at}
use Rattle.lucy_need.specs.Meeting.{Assignment}
use Rattle.lucy_clock.specs.declared.node_clock.NodeClock.{NodeClock}
use Rattle.lucy_clock.specs.Clocks.{call_clock}
use Rattle.lucy_program.specs.Report.{name_line, name_lines, buffer_line, buffer_lines, call_line, call_lines, node_lines, node_reports}

-- what is left of a list from an entry on
pub drop_at : {A : Type 0} (xs : List A) (i : ℕ) (x : A) → slice_get xs i ≡ Some x → drop i xs ≡ x ∷ drop (i + 1) xs
drop_at xs i x is = drop_more xs i x (slice_get_within xs i x is) ∙ ap (λ y. y ∷ drop (i + 1) xs) (get_or_from_slice_get xs i x x is)

-- the types of a node are its table
pub table_found : (tables : List (List Ty)) (i : ℕ) → i < length tables → slice_get tables i ≡ Some (table_at tables i)
table_found tables i h = slice_get-get_or tables i [] h

-- a line more, of lines that stand behind others
pub line_more : (a b line rest all : List ℕ) → b ≡ a ++ line → a ++ (line ++ rest) ≡ all → b ++ rest ≡ all
line_more a b line rest all more before = ap (λ u. u ++ rest) more ∙ append_assoc a line rest ∙ before

number_next : (i : ℕ) → 1 + i + 1 ≡ 1 + (i + 1)
number_next i = omega arith

-- one more place
pub names_more : (main : Bool) (said : ℕ → List ℕ) (es : List PlaceEntry) (ts : List Ty) (i : ℕ) (e : PlaceEntry) (t : Ty) (a b all : List ℕ) → i < length es → e ≡ get_or es i e → at_one ts (i + 1) ≡ Some t →
    b ≡ a ++ name_line main e.name t (said (i + 1)) → a ++ name_lines main said (1 + i) (drop i es) (drop i ts) ≡ all → b ++ name_lines main said (1 + (i + 1)) (drop (i + 1) es) (drop (i + 1) ts) ≡ all
names_more main said es ts i e t a b all h is typed more before =
    let rest : List ℕ = name_lines main said (1 + (i + 1)) (drop (i + 1) es) (drop (i + 1) ts) in
    let here : drop i es ≡ e ∷ drop (i + 1) es = drop_next es i e h is in
    let P : ℕ → Type 0 = λ n. at_one ts n ≡ Some t in
    let there : drop i ts ≡ t ∷ drop (i + 1) ts = drop_at ts i t (subst P (add-one i) typed) in
    let z : 1 + i ≡ i + 1 = omega arith in
    let step : name_lines main said (1 + i) (drop i es) (drop i ts) ≡ name_line main e.name t (said (i + 1)) ++ rest =
    ap (λ l. name_lines main said (1 + i) l (drop i ts)) here ∙ ap (λ l. name_lines main said (1 + i) (e ∷ drop (i + 1) es) l) there
    ∙ ap (λ k. name_line main e.name t (said k) ++ name_lines main said (1 + i + 1) (drop (i + 1) es) (drop (i + 1) ts)) z
    ∙ ap (λ k. name_line main e.name t (said (i + 1)) ++ name_lines main said k (drop (i + 1) es) (drop (i + 1) ts)) (number_next i) in
    line_more a b (name_line main e.name t (said (i + 1))) rest all more (ap (λ u. a ++ u) (sym step) ∙ before)

-- one more buffer
pub buffers_more : (n : PlacedNode) (w : Assignment) (ps ss : List ℕ) (i p s : ℕ) (a b all : List ℕ) → i < length ps → p ≡ get_or ps i p → i < length ss → s ≡ get_or ss i s →
    b ≡ a ++ buffer_line n w (i + 1) p s → a ++ buffer_lines n w (1 + i) (drop i ps) (drop i ss) ≡ all → b ++ buffer_lines n w (1 + (i + 1)) (drop (i + 1) ps) (drop (i + 1) ss) ≡ all
buffers_more n w ps ss i p s a b all h is k of more before =
    let rest : List ℕ = buffer_lines n w (1 + (i + 1)) (drop (i + 1) ps) (drop (i + 1) ss) in
    let here : drop i ps ≡ p ∷ drop (i + 1) ps = drop_next ps i p h is in
    let there : drop i ss ≡ s ∷ drop (i + 1) ss = drop_next ss i s k of in
    let z : 1 + i ≡ i + 1 = omega arith in
    let step : buffer_lines n w (1 + i) (drop i ps) (drop i ss) ≡ buffer_line n w (i + 1) p s ++ rest =
    ap (λ l. buffer_lines n w (1 + i) l (drop i ss)) here ∙ ap (λ l. buffer_lines n w (1 + i) (p ∷ drop (i + 1) ps) l) there
    ∙ ap (λ j. buffer_line n w j p s ++ buffer_lines n w (1 + i + 1) (drop (i + 1) ps) (drop (i + 1) ss)) z
    ∙ ap (λ j. buffer_line n w (i + 1) p s ++ buffer_lines n w j (drop (i + 1) ps) (drop (i + 1) ss)) (number_next i) in
    line_more a b (buffer_line n w (i + 1) p s) rest all more (ap (λ u. a ++ u) (sym step) ∙ before)

-- one more call
pub calls_more : (nodes : List PlacedNode) (n : PlacedNode) (w : Assignment) (sites : List CallSite) (i clock : ℕ) (site : CallSite) (a b all : List ℕ) → i < length sites → site ≡ get_or sites i site → clock ≡ call_clock n (i + 1) →
    b ≡ a ++ call_line nodes (i + 1) site (w clock) → a ++ call_lines nodes n w (1 + i) (drop i sites) ≡ all → b ++ call_lines nodes n w (1 + (i + 1)) (drop (i + 1) sites) ≡ all
calls_more nodes n w sites i clock site a b all h is at more before =
    let rest : List ℕ = call_lines nodes n w (1 + (i + 1)) (drop (i + 1) sites) in
    let here : drop i sites ≡ site ∷ drop (i + 1) sites = drop_next sites i site h is in
    let z : 1 + i ≡ i + 1 = omega arith in
    let step : call_lines nodes n w (1 + i) (drop i sites) ≡ call_line nodes (i + 1) site (w clock) ++ rest =
    ap (call_lines nodes n w (1 + i)) here
    ∙ ap (λ j. call_line nodes j site (w (call_clock n j)) ++ call_lines nodes n w (1 + i + 1) (drop (i + 1) sites)) z
    ∙ ap (λ c. call_line nodes (i + 1) site (w c) ++ call_lines nodes n w (1 + i + 1) (drop (i + 1) sites)) (sym at)
    ∙ ap (λ j. call_line nodes (i + 1) site (w clock) ++ call_lines nodes n w j (drop (i + 1) sites)) (number_next i) in
    line_more a b (call_line nodes (i + 1) site (w clock)) rest all more (ap (λ u. a ++ u) (sym step) ∙ before)

-- a node is main where none is behind it
pub main_is : (nodes rest : List PlacedNode) (i count : ℕ) → drop (i + 1) nodes ≡ rest → count ≡ length nodes → i < length nodes → nat_eq (i + 1) count ≡ nat_eq (length rest) 0
main_is nodes [] i count is all h = eq-eqb (i + 1) count (omega (arith, length-drop (i + 1) nodes, ap length is))
main_is nodes (n ∷ ns) i count is all h =
    ne_eqb (i + 1) count (λ e. omega (arith, length-drop (i + 1) nodes, ap length is, e)) ∙ sym (ne_eqb (length (n ∷ ns)) 0 (λ e. omega (arith, e)))

-- one more node
pub report_more : (all_nodes nodes : List PlacedNode) (tables : List (List Ty)) (clocks : List NodeClock) (i count : ℕ) (n : PlacedNode) (c : NodeClock) (a b all : List ℕ) → slice_get nodes i ≡ Some n → length tables ≡ length nodes →
    i < length clocks → c ≡ get_or clocks i c → count ≡ length nodes → b ≡ a ++ node_lines all_nodes (nat_eq (i + 1) count) n (table_at tables i) c →
    a ++ node_reports all_nodes (drop i nodes) (drop i tables) (drop i clocks) ≡ all → b ++ node_reports all_nodes (drop (i + 1) nodes) (drop (i + 1) tables) (drop (i + 1) clocks) ≡ all
report_more all_nodes nodes tables clocks i count n c a b all at same l is counted more before =
    let h : i < length nodes = slice_get_within nodes i n at in
    let k : i < length tables = omega (arith, h, same) in
    let ts : List Ty = table_at tables i in
    let rest : List ℕ = node_reports all_nodes (drop (i + 1) nodes) (drop (i + 1) tables) (drop (i + 1) clocks) in
    let here : drop i nodes ≡ n ∷ drop (i + 1) nodes = drop_at nodes i n at in
    let there : drop i tables ≡ ts ∷ drop (i + 1) tables = drop_at tables i ts (table_found tables i k) in
    let of : drop i clocks ≡ c ∷ drop (i + 1) clocks = drop_next clocks i c l is in
    let main : Bool = nat_eq (length (drop (i + 1) nodes)) 0 in
    let step : node_reports all_nodes (drop i nodes) (drop i tables) (drop i clocks) ≡ node_lines all_nodes main n ts c ++ rest =
    ap (λ xs. node_reports all_nodes xs (drop i tables) (drop i clocks)) here ∙ ap (λ xs. node_reports all_nodes (n ∷ drop (i + 1) nodes) xs (drop i clocks)) there
    ∙ ap (λ xs. node_reports all_nodes (n ∷ drop (i + 1) nodes) (ts ∷ drop (i + 1) tables) xs) of in
    let line : b ≡ a ++ node_lines all_nodes main n ts c = more ∙ ap (λ m. a ++ node_lines all_nodes m n ts c) (main_is nodes _ i count refl counted h) in
    line_more a b (node_lines all_nodes main n ts c) rest all line (ap (λ u. a ++ u) (sym step) ∙ before)

-- four parts, one put behind the other
pub four_new : (s t u v n b c d e : List ℕ) → n ≡ [] → b ≡ n ++ s → c ≡ b ++ t → d ≡ c ++ u → e ≡ d ++ v → e ≡ s ++ (t ++ (u ++ v))
four_new s t u v n b c d e none f g h i = four n b c d e s t u v f g h i ∙ ap (λ x. x ++ (s ++ (t ++ (u ++ v)))) none

pub five_new : (s t u v x n b c d e f : List ℕ) → n ≡ [] → b ≡ n ++ s → c ≡ b ++ t → d ≡ c ++ u → e ≡ d ++ v → f ≡ e ++ x → f ≡ s ++ (t ++ (u ++ (v ++ x)))
five_new s t u v x n b c d e f none g h i j k =
    k ∙ ap (λ y. y ++ x) (four_new s t u v n b c d e none g h i j) ∙ append_assoc s (t ++ (u ++ v)) x ∙ ap (λ y. s ++ y) (append_assoc t (u ++ v) x ∙ ap (λ y. t ++ y) (append_assoc u v x))

-- the nodes that are called are there
pub sites_there : (above : List PlacedNode) (n : PlacedNode) (count : ℕ) → IsProperNode above n → length above ≤ count → AllByRecursion (λ site. site.node < count) n.calls
sites_there above n count proper most = each n.calls (λ i site at. let is = proper.calls (i + 1) site (from i site at) in omega (arith, slice_get_within above site.node is.callee is.found, most))
  where
    from : (i : ℕ) (site : CallSite) → slice_get n.calls i ≡ Some site → at_one n.calls (i + 1) ≡ Some site
    from i site at = (let P : ℕ → Type 0 = λ k. at_one n.calls k ≡ Some site in subst P (sym (add-one i)) at)

    each : (sites : List CallSite) → ((i : ℕ) (site : CallSite) → slice_get sites i ≡ Some site → site.node < count) → AllByRecursion (λ site. site.node < count) sites
    each [] h = tt
    each (site ∷ sites) h = (h 0 site refl, each sites (λ i x at. h (i + 1) x (let P : ℕ → Type 0 = λ k. slice_get (site ∷ sites) k ≡ Some x in subst P (sym (add-one i)) at)))
