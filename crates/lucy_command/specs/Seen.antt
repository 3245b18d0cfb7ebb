-- What the parts of the body hand on: the texts that were found, and the list of words that they are spelled as.
use Rattle.std.specs.Prelude.{ℕ, ◌≡◌, List, [], ◌∷◌, ◌++◌, Option, Some, None, IfSome, codes, if◌then◌else◌}
use Rattle.std.specs.Option.{option_map, option_and_then}
use Rattle.std.specs.Borrow.{Bor}
use Rattle.clap.specs.Walk.{Rule}
use Rattle.clap.specs.Simple.{App, new_app, new_rule, with_rule}
use Rattle.clap.specs.Matches.{found_of, first_value}
use Rattle.clap.specs.declared.parser.matches.ArgMatches.{ArgMatches}
use Rattle.lucy_command.specs.declared.names.Name.{Name}
use Rattle.lucy_command.specs.Names.{allowed}
use Rattle.lucy_command.specs.Parts.{Operand, Given, is_dashed, halves, parts, Texts, with_part, with_parts}
use Rattle.lucy_command.specs.declared.texts.Texts as found

-- a text that the body has found
abbrev pub seen_text : Option (Bor (List ℕ)) → Option (List ℕ)
seen_text text = option_map (λ t. t.now) text

-- these texts
abbrev pub texts : (scale lead instants workers block first second : Option (List ℕ)) → Texts
texts scale lead instants workers block first second = record { scale = scale; lead = lead; instants = instants; workers = workers; block = block; first = first; second = second }

-- the texts that the body has found
abbrev pub seen : found.Texts → Texts
seen t = texts (seen_text t.scale) (seen_text t.lead) (seen_text t.instants) (seen_text t.workers) (seen_text t.block) (seen_text t.first) (seen_text t.second)

-- the texts with those of the words
abbrev pub texts_with : Name → Texts → (words : List (List ℕ)) → Option Texts
texts_with name t words = option_and_then (with_parts t) (parts name words)

-- the texts with that of the option of the command which a word is
abbrev pub with_named : Name → Texts → (option text : List ℕ) → Option Texts
with_named name t option text = option_and_then (λ setting. with_part t (Given setting text)) (allowed name option)

-- the texts with that of the option at the front of a word and the rest, and how many words of the rest it takes
abbrev pub given_first : Name → Texts → (word : List ℕ) → Option (List ℕ × List ℕ) → (rest : List (List ℕ)) → Option (Texts × ℕ)
given_first name t word (Some (option, text)) rest = option_map (λ u. (u, 0)) (with_named name t option text)
given_first name t word None [] = None
given_first name t word None (text ∷ more) = option_map (λ u. (u, 1)) (with_named name t word text)

-- and with that of the part there
abbrev pub first_part : Name → Texts → (word : List ℕ) (rest : List (List ℕ)) → Option (Texts × ℕ)
first_part name t word rest = if is_dashed word then given_first name t word (halves word) rest else option_map (λ u. (u, 0)) (with_part t (Operand word))

-- a text is not empty
abbrev pub IsFull : List ℕ → Type 0
IsFull [] = ⊥
IsFull (byte ∷ more) = Unit {0}

-- no text is empty
pub record AreFull (t : Texts) : Type 0 where
  pub scale : IfSome t.scale IsFull
  pub lead : IfSome t.lead IsFull
  pub instants : IfSome t.instants IsFull
  pub workers : IfSome t.workers IsFull
  pub block : IfSome t.block IsFull
  pub first : IfSome t.first IsFull
  pub second : IfSome t.second IsFull

-- the text in a word that is empty where there is none
abbrev pub or_empty : Option (List ℕ) → List ℕ
or_empty None = []
or_empty (Some text) = text

-- the text, where it is not empty
abbrev pub if_full : List ℕ → Option (List ℕ)
if_full [] = None
if_full (byte ∷ more) = Some (byte ∷ more)

-- the words that `clap` is given for these texts
abbrev pub canonical : Texts → List (List ℕ)
canonical t =
    codes "lucy" ∷ (codes "--scale=" ++ or_empty t.scale) ∷ (codes "--lead=" ++ or_empty t.lead) ∷ (codes "--instants=" ++ or_empty t.instants) ∷ (codes "--workers=" ++ or_empty t.workers)
    ∷ (codes "--block=" ++ or_empty t.block) ∷ codes "--" ∷ or_empty t.first ∷ or_empty t.second ∷ []

-- an option of this name, as `clap` reads it
abbrev pub option_rule : (name : List ℕ) → Rule
option_rule name = record (new_rule name) { long = Some name }

-- the command whose words are all options and both operands
abbrev pub app : App
app = with_rule (with_rule (with_rule (with_rule (with_rule (with_rule (with_rule (new_app (codes "lucy")) (option_rule (codes "scale"))) (option_rule (codes "lead"))) (option_rule (codes "instants"))) (option_rule (codes "workers")))
    (option_rule (codes "block"))) (new_rule (codes "first"))) (new_rule (codes "second"))

-- `clap` has found these texts
pub record Holds (m : ArgMatches) (t : Texts) : Type 0 where
  pub scale : first_value (found_of m) (codes "scale") ≡ Some (or_empty t.scale)
  pub lead : first_value (found_of m) (codes "lead") ≡ Some (or_empty t.lead)
  pub instants : first_value (found_of m) (codes "instants") ≡ Some (or_empty t.instants)
  pub workers : first_value (found_of m) (codes "workers") ≡ Some (or_empty t.workers)
  pub block : first_value (found_of m) (codes "block") ≡ Some (or_empty t.block)
  pub first : first_value (found_of m) (codes "first") ≡ Some (or_empty t.first)
  pub second : first_value (found_of m) (codes "second") ≡ Some (or_empty t.second)
