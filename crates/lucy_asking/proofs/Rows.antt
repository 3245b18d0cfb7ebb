-- What `clap` found, as the words say it.
use Rattle.std.proofs.Common.{ℕ, ◌≡◌, ◌≢◌, List, ◌∷◌, ◌++◌, Option, Some, None, Result, Ok, Err, codes, refl, ap, sym, ◌∙◌, subst, inl, inr}
use Rattle.std.specs.Prelude.{IsSomeAnd, IfNone, IsErrAnd, IfErr, MatchOption}
use Rattle.std.specs.Result.{result_ok}
use Rattle.std.specs.Borrow.{Bor}
use Rattle.std.specs.Option.{option_map}
use Rattle.std.specs.Str.Parse.{ParsesUnsigned}
use Rattle.clap.specs.Walk.{Row, rows_of, first_of, one_of}
use Rattle.clap.specs.Simple.{subcommand_rows_of}
use Rattle.clap.specs.Matches.{ReadsOne, one_text, subcommand_name_of}
use Rattle.clap.specs.declared.parser.matches.Found.{Found}
use Rattle.clap.specs.declared.parser.matches.ArgMatches.{ArgMatches}
use Rattle.clap.specs.declared.parser.matches.ArgMatches.TheViews.{out-ArgMatches}
use Rattle.clap.proofs.WalkLemmas.{one_text-rows}
use Rattle.lucy_asking.specs.declared.name.Name.{Name}
use Rattle.lucy_asking.specs.declared.name.Name.TheVariants as name
use Rattle.lucy_asking.specs.declared.ask.Picture.TheVariants.{Time, Net, Where, Page, Explain, Why, Freeze}
use Rattle.lucy_asking.specs.declared.ask.Ask.{Ask}
use Rattle.lucy_asking.specs.declared.ask.Ask.TheVariants as ask
use Rattle.lucy_asking.specs.Asks.{asked_name, name_of, buffer_in, Spells, Seeks, Says, AsksBy}
use Rattle.lucy_asking.specs.Saying.{IsLacking}

module _ {E : Type 0} (bits : ℕ) (gives : List ℕ → Result ℕ E → Type 0) (parses : (t : List ℕ) (r : Result ℕ E) → gives t r → ParsesUnsigned bits 10 t r) where
  reads_so : (t : List ℕ) (number : Option ℕ) → ReadsOne gives t number → Spells bits t number
  reads_so t None (e, h) = (tt, parses t (Err e) h)
  reads_so t (Some n) h = parses t (Ok n) h

  -- what was parsed
  pub parsed_so : (t : List ℕ) (r : Result ℕ E) → gives t r → Spells bits t (result_ok r)
  parsed_so t (Ok n) h = parses t (Ok n) h
  parsed_so t (Err e) h = (tt, parses t (Err e) h)

  number_so : (found : Option (List ℕ)) (number : Option ℕ) → (found ≡ None → number ≡ None) → ((t : List ℕ) → found ≡ Some t → ReadsOne gives t number) →
      MatchOption found (number ≡ None) (λ t. Spells bits t number)
  number_so None number none value = none refl
  number_so (Some t) number none value = reads_so t number (value t refl)

  -- what was parsed of an option
  pub has_number : (f : Found) (option : List ℕ) (number : Option ℕ) → (one_text f option ≡ None → number ≡ None) →
      ((t : List ℕ) → one_text f option ≡ Some t → ReadsOne gives t number) → MatchOption (one_of option (rows_of f)) (number ≡ None) (λ t. Spells bits t number)
  has_number f option number none value =
      subst (λ (o : Option (List ℕ)). MatchOption o (number ≡ None) (λ t. Spells bits t number)) (one_text-rows f option)
      (number_so (one_text f option) number none value)

-- what stands behind a `#`
pub behind_hash : (text : List ℕ) (found : Option (Bor (List ℕ))) (rest : Bor (List ℕ)) → found ≡ Some rest →
    MatchOption found ((rest : List ℕ) → text ≢ 35 ∷ rest) (λ rest. text ≡ 35 ∷ rest.now) → text ≡ codes "#" ++ rest.now
behind_hash text found rest is h =
    let P : Option (Bor (List ℕ)) → Type 0 = λ f. MatchOption f ((rest : List ℕ) → text ≢ 35 ∷ rest) (λ rest. text ≡ 35 ∷ rest.now) in
    subst P is h

-- and where no `#` stands at the front
pub no_hash : (text : List ℕ) (found : Option (Bor (List ℕ))) → found ≡ None →
    MatchOption found ((rest : List ℕ) → text ≢ 35 ∷ rest) (λ rest. text ≡ 35 ∷ rest.now) → (rest : List ℕ) → text ≢ codes "#" ++ rest
no_hash text found is h =
    let P : Option (Bor (List ℕ)) → Type 0 = λ f. MatchOption f ((rest : List ℕ) → text ≢ 35 ∷ rest) (λ rest. text ≡ 35 ∷ rest.now) in
    subst P is h

-- what holds of a text that stands there
pub of_text : (found : Option (List ℕ)) (text : List ℕ) (P : List ℕ → Type 0) → Some text ≡ found → P text → IsSomeAnd found P
of_text found text P is h = subst (λ (f : Option (List ℕ)). IsSomeAnd f P) is h

clash : (f : Option (List ℕ)) (x : List ℕ) → f ≡ None → Some x ≡ f → ⊥
clash f x none some = let both : Some x ≡ None = some ∙ none in cc

missing_there : (f : Option (List ℕ)) (P : List ℕ → Type 0) → f ≡ None → IsSomeAnd f P → ⊥
missing_there f P none some = subst (λ (o : Option (List ℕ)). IsSomeAnd o P) none some

-- where FILE is missing nothing is asked for
lacks_file : (rows : List Row) (a : Ask) → first_of (codes "FILE") rows ≡ None → Says rows a → ⊥
lacks_file rows (ask.Wave w) none says = clash _ _ none says.0.0
lacks_file rows (ask.Picture (Time w)) none says = clash _ _ none says.0.0
lacks_file rows (ask.Picture (Net w)) none says = clash _ _ none says.0.0
lacks_file rows (ask.Picture (Where w)) none says = clash _ _ none says.0
lacks_file rows (ask.Picture (Page w)) none says = clash _ _ none says.0.0
lacks_file rows (ask.Picture (Explain w)) none says = clash _ _ none says.0
lacks_file rows (ask.Picture (Why w)) none says = clash _ _ none says.0.0
lacks_file rows (ask.Picture (Freeze w)) none says = clash _ _ none says.0

lacks_place : (rows : List Row) (a : Ask) → asked_name a ≡ name.Where → first_of (codes "AT") rows ≡ None → Says rows a → ⊥
lacks_place rows (ask.Picture (Where w)) is none says = missing_there _ (λ text. Seeks text w.sought) none says.2
lacks_place rows (ask.Wave w) is none says = cc
lacks_place rows (ask.Picture (Time w)) is none says = cc
lacks_place rows (ask.Picture (Net w)) is none says = cc
lacks_place rows (ask.Picture (Page w)) is none says = cc
lacks_place rows (ask.Picture (Explain w)) is none says = cc
lacks_place rows (ask.Picture (Why w)) is none says = cc
lacks_place rows (ask.Picture (Freeze w)) is none says = cc

lacks_buffer : (rows : List Row) (a : Ask) → asked_name a ≡ name.Why → first_of (codes "BUFFER") rows ≡ None → Says rows a → ⊥
lacks_buffer rows (ask.Picture (Why w)) is none says = missing_there _ (λ text. option_map (λ b. (b.0.now, b.1)) w.buffer ≡ buffer_in text) none says.1
lacks_buffer rows (ask.Wave w) is none says = cc
lacks_buffer rows (ask.Picture (Time w)) is none says = cc
lacks_buffer rows (ask.Picture (Net w)) is none says = cc
lacks_buffer rows (ask.Picture (Where w)) is none says = cc
lacks_buffer rows (ask.Picture (Page w)) is none says = cc
lacks_buffer rows (ask.Picture (Explain w)) is none says = cc
lacks_buffer rows (ask.Picture (Freeze w)) is none says = cc

pub lacks : (n : Name) (rows : List Row) (a : Ask) → asked_name a ≡ n → IsLacking n rows → Says rows a → ⊥
lacks name.Where rows a is (inl none) = lacks_file rows a none
lacks name.Where rows a is (inr none) = lacks_place rows a is none
lacks name.Why rows a is (inl none) = lacks_file rows a none
lacks name.Why rows a is (inr none) = lacks_buffer rows a is none
lacks name.Time rows a is none = lacks_file rows a none
lacks name.Net rows a is none = lacks_file rows a none
lacks name.Wave rows a is none = lacks_file rows a none
lacks name.Page rows a is none = lacks_file rows a none
lacks name.Explain rows a is none = lacks_file rows a none
lacks name.Freeze rows a is none = lacks_file rows a none

fused : {A B C : Type 0} (g : B → C) (f : A → B) (o : Option A) → option_map g (option_map f o) ≡ option_map (λ x. g (f x)) o
fused g f None = refl
fused g f (Some x) = refl

-- the name and the rows of the subcommand that was met
pub met_is : (m : ArgMatches) (word : List ℕ) (rows : List Row) → Some word ≡ subcommand_name_of m → Some rows ≡ option_map (λ p. p.1) (subcommand_rows_of m) →
    subcommand_rows_of m ≡ Some (word, rows)
met_is m word rows name is = pair_is (subcommand_rows_of m) word rows (fused (λ p. p.0) _ (out-ArgMatches m).subcommand ∙ sym name) (sym is)
  where
    pair_is : (found : Option (List ℕ × List Row)) (word : List ℕ) (rows : List Row) → option_map (λ p. p.0) found ≡ Some word →
        option_map (λ p. p.1) found ≡ Some rows → found ≡ Some (word, rows)
    pair_is None word rows e f = cc
    pair_is (Some p) word rows e f =
        let a : p.0 ≡ word = cc in
        let b : p.1 ≡ rows = cc in
        ap (λ (w : List ℕ). Some (w, p.1)) a ∙ ap (λ (r : List Row). Some (word, r)) b

-- where an operand of its command is missing nothing is asked for
pub none_asked : (found : Option (List ℕ × List Row)) (word : List ℕ) (rows : List Row) (n : Name) → found ≡ Some (word, rows) → name_of word ≡ Some n →
    IsLacking n rows → (a : Ask) → AsksBy found a → ⊥
none_asked found word rows n is named lacking a (s, also, name, says) =
    let same : Some s ≡ Some (word, rows) = sym also ∙ is in
    let pair : s ≡ (word, rows) = cc in
    let both : Some (asked_name a) ≡ Some n = sym name ∙ ap name_of (ap (λ (p : List ℕ × List Row). p.0) pair) ∙ named in
    let names : asked_name a ≡ n = cc in
    lacks n rows a names lacking (subst (λ (r : List Row). Says r a) (ap (λ (p : List ℕ × List Row). p.1) pair) says)

-- what holds where there is none
pub if_none : {X : Type 0} (found : Option Ask) → (found ≡ None → X) → IfNone found X
if_none None none = none refl
if_none (Some a) none = tt

-- an error that was handed on as it is
pub err_same : {T E : Type 0} (r : Result T E) (e : E) (P : E → Type 0) → IsErrAnd r (λ x. x ≡ e) → P e → IfErr r P
err_same (Ok x) e P is h = tt
err_same (Err x) e P is h = subst P (sym is) h
