-- How what is put last goes on.
use Rattle.std.proofs.Common.{ℕ, ◌+◌, ◌≤◌, ◌≡◌, List, [], ◌++◌, Option, Some, None, sym, ap, ◌∙◌, subst, refl, append_assoc, append-nil, length, take, drop}
use Rattle.std.specs.Prelude.{slice_get, slice_range}
use Rattle.std.proofs.lemmas.List.{drop_all}
use Rattle.std.proofs.lemmas.List.Folds.{drop_split}
use Rattle.lucy_place.specs.declared.placed.PlacedNode.{PlacedNode}
use Rattle.lucy_program.proofs.ReportLaws.{drop_at}
use Rattle.lucy_svg.specs.Escaping.{escaped}
use Rattle.lucy_page.specs.Reading.{read_html}
use Rattle.lucy_page.specs.Pages.{section_end, node_begin, page_end, PutsSection, PutsBoth, AreSections, HasBoth}
use Rattle.lucy_page.specs.Puts.{Reads, PutsTag, PutsOn, PutsNode}
use Rattle.lucy_page.proofs.ReadLaws.{reads_nil, reads_more, reads_escaped}

-- nothing is put
pub on_none : (text : List ℕ) (at : ℕ) (old : List ℕ) → PutsOn text at at old old
on_none text at old = record { html = []; shown = []; puts = sym (append-nil old); reads = reads_nil; goes_on = refl }

-- a tag
pub on_tag : (text : List ℕ) (at : ℕ) (old new : List ℕ) → PutsTag old new → PutsOn text at at old new
on_tag text at old new tag = record { html = tag.html; shown = []; puts = tag.puts; reads = tag.reads; goes_on = refl }

-- a part of the text
pub on_text : (text : List ℕ) (at to : ℕ) (old new : List ℕ) → at ≤ to → new ≡ old ++ escaped (slice_range text at to) → PutsOn text at to old new
on_text text at to old new h puts = record {
  html = escaped (slice_range text at to);
  shown = slice_range text at to;
  puts = puts;
  reads = reads_escaped (slice_range text at to);
  goes_on = drop_split text at to h;
}

-- one behind the other
pub on_more : (text : List ℕ) (a b c : ℕ) (o p q : List ℕ) → PutsOn text a b o p → PutsOn text b c p q → PutsOn text a c o q
on_more text a b c o p q x y = record {
  html = x.html ++ y.html;
  shown = x.shown ++ y.shown;
  puts = y.puts ∙ ap (λ l. l ++ y.html) x.puts ∙ append_assoc o x.html y.html;
  reads = reads_more x.html y.html x.shown y.shown x.reads y.reads;
  goes_on = x.goes_on ∙ ap (λ l. x.shown ++ l) y.goes_on ∙ sym (append_assoc x.shown y.shown (drop c text));
}

-- a text that was put from its front to its end is read
pub reads_all : (text : List ℕ) (to : ℕ) (old new : List ℕ) → length text ≤ to → (on : PutsOn text 0 to old new) → read_html on.html ≡ Some text
reads_all text to old new h on =
    let none : drop to text ≡ [] = drop_all to text h in
    let shown : on.shown ≡ text = sym (append-nil on.shown) ∙ ap (λ l. on.shown ++ l) (sym none) ∙ sym on.goes_on in
    ap read_html (sym (append-nil on.html)) ∙ on.reads [] [] refl ∙ ap (λ u. Some u) (append-nil on.shown ∙ shown)

-- a section
pub is_section : (begin text : List ℕ) (to : ℕ) (o p q new : List ℕ) → length text ≤ to → p ≡ o ++ begin → PutsOn text 0 to p q → new ≡ q ++ section_end → PutsSection begin text o new
is_section begin text to o p q new h first on last = record {
  html = on.html;
  puts =
      last ∙ ap (λ l. l ++ section_end) (on.puts ∙ ap (λ l. l ++ on.html) first)
      ∙ append_assoc (o ++ begin) on.html section_end ∙ append_assoc o begin (on.html ++ section_end);
  reads = reads_all text to p q h on;
}

-- two sections
pub are_both : (begin text next told o p q : List ℕ) → PutsSection begin text o p → PutsSection next told p q → PutsBoth begin text next told o q
are_both begin text next told o p q x y = record { between = p; first = x; second = y }

-- a page with both
pub has_both : (begin text next told : List ℕ) (Behind : List ℕ → Type 0) (head whole sections page : List ℕ) → PutsBoth begin text next told head whole → Behind sections →
    page ≡ whole ++ (sections ++ page_end) → HasBoth begin text next told Behind page
has_both begin text next told Behind head whole sections page both behind is = record {
  head = head;
  whole = whole;
  sections = sections;
  both = both;
  behind = behind;
  is = is;
}

-- whatever sections of the nodes from a number on come behind, all stand there
abbrev pub Goes : List PlacedNode → (number : ℕ) (out : List ℕ) → Type 0
Goes nodes number out = (rest : List ℕ) → AreSections number (drop number nodes) rest → AreSections 0 nodes (out ++ rest)

-- one more
goes_more : (nodes : List PlacedNode) (i : ℕ) (n : PlacedNode) (old new : List ℕ) → slice_get nodes i ≡ Some n → Goes nodes i old → PutsNode i (Some n) old new → Goes nodes (i + 1) new
goes_more nodes i n old new is goes (body, puts) rest h =
    let P : List PlacedNode → Type 0 = λ ns. AreSections i ns (node_begin i n.name.text ++ (body ++ rest)) in
    let Q : List ℕ → Type 0 = λ l. AreSections 0 nodes l in
    let same : old ++ (node_begin i n.name.text ++ (body ++ rest)) ≡ new ++ rest =
    ap (λ l. old ++ l) (sym (append_assoc (node_begin i n.name.text) body rest)) ∙ sym (append_assoc old (node_begin i n.name.text ++ body) rest)
    ∙ ap (λ l. l ++ rest) (sym puts) in
    subst Q same (goes (node_begin i n.name.text ++ (body ++ rest)) (subst P (sym (drop_at nodes i n is)) (body, rest, refl, h)))

pub goes_further : (nodes : List PlacedNode) (i : ℕ) (found : Option PlacedNode) (old new : List ℕ) → slice_get nodes i ≡ found → Goes nodes i old → PutsNode i found old new → Goes nodes (i + 1) new
goes_further nodes i None old new is goes puts = absurd puts
goes_further nodes i (Some n) old new is goes puts = goes_more nodes i n old new is goes puts

-- all of them
pub goes_all : (nodes : List PlacedNode) (i : ℕ) (out : List ℕ) → length nodes ≤ i → Goes nodes i out → AreSections 0 nodes out
goes_all nodes i out h goes =
    let P : List PlacedNode → Type 0 = λ ns. AreSections i ns [] in
    let Q : List ℕ → Type 0 = λ l. AreSections 0 nodes l in
    subst Q (append-nil out) (goes [] (subst P (sym (drop_all i nodes h)) refl))

-- the section of a node that stands there
pub puts_node : (number : ℕ) (found : Option PlacedNode) (n : PlacedNode) (old p new name body : List ℕ) → found ≡ Some n → name ≡ n.name.text → p ≡ old ++ node_begin number name → new ≡ p ++ body →
    PutsNode number found old new
puts_node number found n old p new name body is same x y =
    let P : Option PlacedNode → Type 0 = λ f. PutsNode number f old new in
    let begins : p ≡ old ++ node_begin number n.name.text = x ∙ ap (λ t. old ++ node_begin number t) same in
    subst P (sym is) (body, y ∙ ap (λ l. l ++ body) begins ∙ append_assoc old (node_begin number n.name.text) body)
