-- How escaped texts and tags are read.
use Rattle.std.proofs.Common.{ℕ, ◌≡◌, ◌≢◌, false, true, List, [], ◌∷◌, ◌++◌, Some, None, sym, ap, ◌∙◌, subst, refl, inl, inr, append_assoc}
use Rattle.std.specs.Prelude.{◌==◌, codes, if◌then◌else◌}
use Rattle.std.proofs.lemmas.Bool.{cases_eq, ne_eqb}
use Rattle.lucy_svg.specs.Escaping.{name_of, written, escaped_byte, escaped, before, plain, read_on, unescaped}
use Rattle.lucy_svg.proofs.EscapeLaws.{no_name_of}
use Rattle.lucy_page.specs.Reading.{without_tags, read_html}
use Rattle.lucy_page.specs.Puts.{Reads}

-- a byte that is no mark of XML
record IsPlain (byte : ℕ) : Type 0 where
  no_and : (byte == 38) ≡ false
  no_begin : (byte == 60) ≡ false
  no_end : (byte == 62) ≡ false
  no_name : name_of byte ≡ None

-- what holds of a byte, by the marks
by_mark : (P : ℕ → Type 0) → P 34 → P 38 → P 39 → P 60 → P 62 → ((byte : ℕ) → IsPlain byte → P byte) → (byte : ℕ) → P byte
by_mark P a b c d e others byte =
    elim (cases_eq byte 34) [
      | inl is ↦ subst P (sym is) a
      | inr v ↦ elim (cases_eq byte 38) [
        | inl is ↦ subst P (sym is) b
        | inr w ↦ elim (cases_eq byte 39) [
          | inl is ↦ subst P (sym is) c
          | inr x ↦ elim (cases_eq byte 60) [
            | inl is ↦ subst P (sym is) d
            | inr y ↦ elim (cases_eq byte 62) [
              | inl is ↦ subst P (sym is) e
              | inr z ↦ others byte (record {
                no_and = ne_eqb byte 38 w;
                no_begin = ne_eqb byte 60 y;
                no_end = ne_eqb byte 62 z;
                no_name = no_name_of byte (ne_eqb byte 34 v) (ne_eqb byte 38 w) (ne_eqb byte 39 x) (ne_eqb byte 60 y) (ne_eqb byte 62 z);
              })
            ]
          ]
        ]
      ]
    ]

-- a byte that is no mark stands by itself
stands : (byte : ℕ) → IsPlain byte → escaped_byte byte ≡ byte ∷ []
stands byte is = ap (written byte) is.no_name

-- outside of tags a byte is read as itself
reads_byte : (rest more : List ℕ) → read_html rest ≡ Some more → (byte : ℕ) → read_html (escaped_byte byte ++ rest) ≡ Some (byte ∷ more)
reads_byte rest more is =
    by_mark (λ byte. read_html (escaped_byte byte ++ rest) ≡ Some (byte ∷ more)) (ap (before 34) is) (ap (before 38) is) (ap (before 39) is) (ap (before 60) is) (ap (before 62) is)
    (λ byte p.
    ap (λ l. read_html (l ++ rest)) (stands byte p)
    ∙ ap (λ b. read_on None (if b then without_tags true rest else (byte ∷ without_tags false rest))) p.no_begin
    ∙ ap (λ b. if b then read_on (Some []) (without_tags false rest) else plain byte (name_of byte) (read_html rest)) p.no_and
    ∙ ap (λ name. plain byte name (read_html rest)) p.no_name
    ∙ ap (before byte) is)

-- inside of one it is passed
passes_byte : (rest : List ℕ) (byte : ℕ) → without_tags true (escaped_byte byte ++ rest) ≡ without_tags true rest
passes_byte rest =
    by_mark (λ byte. without_tags true (escaped_byte byte ++ rest) ≡ without_tags true rest) refl refl refl refl refl
    (λ byte p.
    ap (λ l. without_tags true (l ++ rest)) (stands byte p)
    ∙ ap (λ b. if b then without_tags false rest else without_tags true rest) p.no_end)

pub reads_escaped : (text : List ℕ) → Reads (escaped text) text
reads_escaped [] rest more is = is
reads_escaped (byte ∷ text) rest more is =
    ap read_html (append_assoc (escaped_byte byte) (escaped text) rest)
    ∙ reads_byte (escaped text ++ rest) (text ++ more) (reads_escaped text rest more is) byte

pub passes_escaped : (text rest : List ℕ) → without_tags true (escaped text ++ rest) ≡ without_tags true rest
passes_escaped [] rest = refl
passes_escaped (byte ∷ text) rest =
    ap (without_tags true) (append_assoc (escaped_byte byte) (escaped text) rest) ∙ passes_byte (escaped text ++ rest) byte ∙ passes_escaped text rest

pub reads_nil : Reads [] []
reads_nil rest more is = is

pub reads_more : (a b x y : List ℕ) → Reads a x → Reads b y → Reads (a ++ b) (x ++ y)
reads_more a b x y p q rest more is =
    ap read_html (append_assoc a b rest) ∙ p (b ++ rest) (y ++ more) (q rest more is) ∙ ap (λ u. Some u) (sym (append_assoc x y more))

-- an attribute's text up to its quote, inside of a tag
passes_value : (value rest : List ℕ) → without_tags true ((escaped value ++ codes "\">") ++ rest) ≡ without_tags false rest
passes_value value rest =
    ap (without_tags true) (append_assoc (escaped value) (codes "\">") rest) ∙ passes_escaped value (codes "\">" ++ rest)

pub reads_link : (place : List ℕ) → Reads (codes "<a href=\"#" ++ (escaped place ++ codes "\">")) []
reads_link place rest more is = ap (read_on None) (passes_value place rest) ∙ is

pub reads_definition : (id : List ℕ) → Reads (codes "<a class=\"def\" id=\"" ++ (escaped id ++ codes "\">")) []
reads_definition id rest more is = ap (read_on None) (passes_value id rest) ∙ is

pub reads_node : (id place : List ℕ) → Reads (codes "<a class=\"node\" id=\"" ++ (escaped id ++ (codes "\" href=\"#" ++ (escaped place ++ codes "\">")))) []
reads_node id place rest more is =
    ap (λ l. read_on None (without_tags true l)) (append_assoc (escaped id) (codes "\" href=\"#" ++ (escaped place ++ codes "\">")) rest)
    ∙ ap (read_on None) (passes_escaped id ((codes "\" href=\"#" ++ (escaped place ++ codes "\">")) ++ rest) ∙ passes_value place rest) ∙ is

pub reads_mark : Reads (codes "<mark>") []
reads_mark rest more is = is

pub reads_mark_end : Reads (codes "</mark>") []
reads_mark_end rest more is = is

pub reads_link_end : Reads (codes "</a>") []
reads_link_end rest more is = is
