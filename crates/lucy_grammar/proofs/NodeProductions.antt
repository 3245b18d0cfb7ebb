-- The productions of nodes, declarations and definitions, as a descent cites them. NAME reads a part by its production, and
-- NAME_n refuses the part where the n-th symbol is the first that doesn't fit.
use Rattle.std.proofs.Common.{◌≡◌, List, [], ◌∷◌, Option, refl}
use Rattle.std.specs.Prelude.{None, unwrap_or}
use Rattle.lucy_host.specs.declared.data_type.DataType.TheVariants as holds
use Rattle.lucy_token.specs.declared.mark.Mark.TheVariants as mark
use Rattle.lucy_token.specs.declared.token.Kind.TheVariants as kind
use Rattle.lucy_token.specs.declared.token.Token.{Token}
use Rattle.lucy_token.specs.Tokens.{first}
use Rattle.lucy_grammar.specs.Symbols.{Val, Node, Title, Params, Results, Names, Ident, MoreName, Body, Decls, MoreDecl, Decl, Typing, TypeName, ClockOf, Defs, Def, MoreDef, Lefts, Expr, Call}
use Rattle.lucy_grammar.specs.Grammar.{rules}
use Rattle.lucy_grammar.specs.Meanings.{token_name, token_word}
use Rattle.lucy_grammar.specs.Reading.{follows, begins, Reads, Unfit, Begins, IsOther, ReadsOptional, UnfitOptional}
use Rattle.lucy_grammar.proofs.Numbers.{IsNone, not_in}
use Rattle.lucy_grammar.proofs.Steps.{end, tok, tok_no, tok_bad, sub, sub_no, sub_bad, maybe, maybe_no, maybe_bad, rule, rule_no, led, led_by, others}

pub title : {ts m1 m2 rest : List Token} {l d n : Token} → Begins ts l (kind.Mark mark.Let) m1 → Begins m1 d (kind.Mark mark.Node) m2 → Begins m2 n kind.Name rest → Reads Title ts (token_name n) rest
unfolding rules follows begins
title {ts = ts} h1 h2 h3 = rule 0 refl (others ts 0 refl tt) (tok h1 (tok h2 (tok h3 (end _))))

pub title_1 : {ts rest : List Token} → IsOther ts (kind.Mark mark.Let) rest → Unfit Title ts rest
unfolding rules follows begins
title_1 {ts = ts} u = rule_no 0 refl (others ts 0 refl tt) (tok_bad refl u)

pub title_2 : {ts m1 rest : List Token} {l : Token} → Begins ts l (kind.Mark mark.Let) m1 → IsOther m1 (kind.Mark mark.Node) rest → Unfit Title ts rest
unfolding rules follows begins
title_2 {ts = ts} h1 u = rule_no 0 refl (others ts 0 refl tt) (tok_no h1 (tok_bad refl u))

pub title_3 : {ts m1 m2 rest : List Token} {l d : Token} → Begins ts l (kind.Mark mark.Let) m1 → Begins m1 d (kind.Mark mark.Node) m2 → IsOther m2 kind.Name rest → Unfit Title ts rest
unfolding rules follows begins
title_3 {ts = ts} h1 h2 u = rule_no 0 refl (others ts 0 refl tt) (tok_no h1 (tok_no h2 (tok_bad refl u)))

pub node : {ts m1 m2 m3 m4 rest : List Token} {q : Token} {n : Val Title} {ps : Val Params} {rs : Val Results} (ds : Option (Val Body)) → Reads Title ts n m1 → Reads Params m1 ps m2 → Begins m2 q (kind.Mark mark.Equals) m3 → Reads Results m3 rs m4 → ReadsOptional Body m4 ds rest → Reads Node ts (record { name = n; params = ps; results = rs; defs = unwrap_or ds [] }) rest
unfolding rules follows begins
node {ts = ts} ds h1 h2 h3 h4 h5 = rule 0 refl (others ts 0 refl tt) (sub refl h1 (sub refl h2 (tok h3 (sub refl h4 (maybe ds refl h5 (end _))))))

pub node_1 : {ts rest : List Token} → Unfit Title ts rest → Unfit Node ts rest
unfolding rules follows begins
node_1 {ts = ts} u = rule_no 0 refl (others ts 0 refl tt) (sub_bad refl u)

pub node_2 : {ts m1 rest : List Token} {n : Val Title} → Reads Title ts n m1 → Unfit Params m1 rest → Unfit Node ts rest
unfolding rules follows begins
node_2 {ts = ts} h1 u = rule_no 0 refl (others ts 0 refl tt) (sub_no refl h1 (sub_bad refl u))

pub node_3 : {ts m1 m2 rest : List Token} {n : Val Title} {ps : Val Params} → Reads Title ts n m1 → Reads Params m1 ps m2 → IsOther m2 (kind.Mark mark.Equals) rest → Unfit Node ts rest
unfolding rules follows begins
node_3 {ts = ts} h1 h2 u = rule_no 0 refl (others ts 0 refl tt) (sub_no refl h1 (sub_no refl h2 (tok_bad refl u)))

pub node_4 : {ts m1 m2 m3 rest : List Token} {q : Token} {n : Val Title} {ps : Val Params} → Reads Title ts n m1 → Reads Params m1 ps m2 → Begins m2 q (kind.Mark mark.Equals) m3 → Unfit Results m3 rest → Unfit Node ts rest
unfolding rules follows begins
node_4 {ts = ts} h1 h2 h3 u = rule_no 0 refl (others ts 0 refl tt) (sub_no refl h1 (sub_no refl h2 (tok_no h3 (sub_bad refl u))))

pub node_5 : {ts m1 m2 m3 m4 rest : List Token} {q : Token} {n : Val Title} {ps : Val Params} {rs : Val Results} → Reads Title ts n m1 → Reads Params m1 ps m2 → Begins m2 q (kind.Mark mark.Equals) m3 → Reads Results m3 rs m4 → UnfitOptional Body m4 rest → Unfit Node ts rest
unfolding rules follows begins
node_5 {ts = ts} h1 h2 h3 h4 u = rule_no 0 refl (others ts 0 refl tt) (sub_no refl h1 (sub_no refl h2 (tok_no h3 (sub_no refl h4 (maybe_bad refl u)))))

pub param : {ts rest : List Token} {n : Token} → Begins ts n kind.Name rest → Reads Params ts (record { name = token_name n; holds = None; word = None } ∷ []) rest
unfolding rules follows begins
param h1 = rule 0 refl (led_by 0 refl refl h1) (tok h1 (end _))

pub params : {ts m1 m2 rest : List Token} {o s : Token} (ds : Option (Val Decls)) → Begins ts o (kind.Mark mark.Open) m1 → ReadsOptional Decls m1 ds m2 → Begins m2 s (kind.Mark mark.Close) rest → Reads Params ts (unwrap_or ds []) rest
unfolding rules follows begins
params ds h1 h2 h3 = rule 1 refl (led_by 1 refl refl h1) (tok h1 (maybe ds refl h2 (tok h3 (end _))))

pub params_1 : {ts rest : List Token} → (first ts ≡ kind.Name → ⊥) → IsOther ts (kind.Mark mark.Open) rest → Unfit Params ts rest
unfolding rules follows begins
params_1 {ts = ts} w u = rule_no 1 refl (others ts 1 refl (not_in ts (kind.Name ∷ []) (w, tt), tt)) (tok_bad refl u)

pub params_2 : {ts m1 rest : List Token} {o : Token} → Begins ts o (kind.Mark mark.Open) m1 → UnfitOptional Decls m1 rest → Unfit Params ts rest
unfolding rules follows begins
params_2 h1 u = rule_no 1 refl (led_by 1 refl refl h1) (tok_no h1 (maybe_bad refl u))

pub params_3 : {ts m1 m2 rest : List Token} {o : Token} (ds : Option (Val Decls)) → Begins ts o (kind.Mark mark.Open) m1 → ReadsOptional Decls m1 ds m2 → IsOther m2 (kind.Mark mark.Close) rest → Unfit Params ts rest
unfolding rules follows begins
params_3 ds h1 h2 u = rule_no 1 refl (led_by 1 refl refl h1) (tok_no h1 (maybe_no ds refl h2 (tok_bad refl u)))

pub result : {ts rest : List Token} {n : Token} → Begins ts n kind.Name rest → Reads Results ts (token_name n ∷ []) rest
unfolding rules follows begins
result h1 = rule 0 refl (led_by 0 refl refl h1) (tok h1 (end _))

pub results : {ts m1 m2 rest : List Token} {o s : Token} {ns : Val Names} → Begins ts o (kind.Mark mark.Open) m1 → Reads Names m1 ns m2 → Begins m2 s (kind.Mark mark.Close) rest → Reads Results ts ns rest
unfolding rules follows begins
results h1 h2 h3 = rule 1 refl (led_by 1 refl refl h1) (tok h1 (sub refl h2 (tok h3 (end _))))

pub results_1 : {ts rest : List Token} → (first ts ≡ kind.Name → ⊥) → IsOther ts (kind.Mark mark.Open) rest → Unfit Results ts rest
unfolding rules follows begins
results_1 {ts = ts} w u = rule_no 1 refl (others ts 1 refl (not_in ts (kind.Name ∷ []) (w, tt), tt)) (tok_bad refl u)

pub results_2 : {ts m1 rest : List Token} {o : Token} → Begins ts o (kind.Mark mark.Open) m1 → Unfit Names m1 rest → Unfit Results ts rest
unfolding rules follows begins
results_2 h1 u = rule_no 1 refl (led_by 1 refl refl h1) (tok_no h1 (sub_bad refl u))

pub results_3 : {ts m1 m2 rest : List Token} {o : Token} {ns : Val Names} → Begins ts o (kind.Mark mark.Open) m1 → Reads Names m1 ns m2 → IsOther m2 (kind.Mark mark.Close) rest → Unfit Results ts rest
unfolding rules follows begins
results_3 h1 h2 u = rule_no 1 refl (led_by 1 refl refl h1) (tok_no h1 (sub_no refl h2 (tok_bad refl u)))

pub ident : {ts rest : List Token} {n : Token} → Begins ts n kind.Name rest → Reads Ident ts (token_name n) rest
unfolding rules follows begins
ident {ts = ts} h1 = rule 0 refl (others ts 0 refl tt) (tok h1 (end _))

pub ident_1 : {ts rest : List Token} → IsOther ts kind.Name rest → Unfit Ident ts rest
unfolding rules follows begins
ident_1 {ts = ts} u = rule_no 0 refl (others ts 0 refl tt) (tok_bad refl u)

pub more_name : {ts m1 rest : List Token} {m : Token} {n : Val Ident} → Begins ts m (kind.Mark mark.Comma) m1 → Reads Ident m1 n rest → Reads MoreName ts n rest
unfolding rules follows begins
more_name {ts = ts} h1 h2 = rule 0 refl (others ts 0 refl tt) (tok h1 (sub refl h2 (end _)))

pub more_name_2 : {ts m1 rest : List Token} {m : Token} → Begins ts m (kind.Mark mark.Comma) m1 → Unfit Ident m1 rest → Unfit MoreName ts rest
unfolding rules follows begins
more_name_2 {ts = ts} h1 u = rule_no 0 refl (others ts 0 refl tt) (tok_no h1 (sub_bad refl u))

pub body : {ts m1 m2 rest : List Token} {w r : Token} {ds : Val Defs} → Begins ts w (kind.Mark mark.Where) m1 → Begins m1 r (kind.Mark mark.Rec) m2 → Reads Defs m2 ds rest → Reads Body ts ds rest
unfolding rules follows begins
body {ts = ts} h1 h2 h3 = rule 0 refl (others ts 0 refl tt) (tok h1 (tok h2 (sub refl h3 (end _))))

pub body_2 : {ts m1 rest : List Token} {w : Token} → Begins ts w (kind.Mark mark.Where) m1 → IsOther m1 (kind.Mark mark.Rec) rest → Unfit Body ts rest
unfolding rules follows begins
body_2 {ts = ts} h1 u = rule_no 0 refl (others ts 0 refl tt) (tok_no h1 (tok_bad refl u))

pub body_3 : {ts m1 m2 rest : List Token} {w r : Token} → Begins ts w (kind.Mark mark.Where) m1 → Begins m1 r (kind.Mark mark.Rec) m2 → Unfit Defs m2 rest → Unfit Body ts rest
unfolding rules follows begins
body_3 {ts = ts} h1 h2 u = rule_no 0 refl (others ts 0 refl tt) (tok_no h1 (tok_no h2 (sub_bad refl u)))

pub more_decl : {ts m1 rest : List Token} {m : Token} {d : Val Decl} → Begins ts m (kind.Mark mark.Comma) m1 → Reads Decl m1 d rest → Reads MoreDecl ts d rest
unfolding rules follows begins
more_decl {ts = ts} h1 h2 = rule 0 refl (others ts 0 refl tt) (tok h1 (sub refl h2 (end _)))

pub more_decl_2 : {ts m1 rest : List Token} {m : Token} → Begins ts m (kind.Mark mark.Comma) m1 → Unfit Decl m1 rest → Unfit MoreDecl ts rest
unfolding rules follows begins
more_decl_2 {ts = ts} h1 u = rule_no 0 refl (others ts 0 refl tt) (tok_no h1 (sub_bad refl u))

pub decl : {ts m1 rest : List Token} {n : Token} (m2 : List Token) (t : Option (Val Typing)) (w : Option (Val ClockOf)) → Begins ts n kind.Name m1 → ReadsOptional Typing m1 t m2 → ReadsOptional ClockOf m2 w rest → Reads Decl ts (record { name = token_name n; holds = t; word = w }) rest
unfolding rules follows begins
decl {ts = ts} m2 t w h1 h2 h3 = rule 0 refl (others ts 0 refl tt) (tok h1 (maybe t refl h2 (maybe w refl h3 (end _))))

pub decl_1 : {ts rest : List Token} → IsOther ts kind.Name rest → Unfit Decl ts rest
unfolding rules follows begins
decl_1 {ts = ts} u = rule_no 0 refl (others ts 0 refl tt) (tok_bad refl u)

pub typing : {ts m1 rest : List Token} {o : Token} {t : Val TypeName} → Begins ts o (kind.Mark mark.Colon) m1 → Reads TypeName m1 t rest → Reads Typing ts t rest
unfolding rules follows begins
typing {ts = ts} h1 h2 = rule 0 refl (others ts 0 refl tt) (tok h1 (sub refl h2 (end _)))

pub typing_2 : {ts m1 rest : List Token} {o : Token} → Begins ts o (kind.Mark mark.Colon) m1 → Unfit TypeName m1 rest → Unfit Typing ts rest
unfolding rules follows begins
typing_2 {ts = ts} h1 u = rule_no 0 refl (others ts 0 refl tt) (tok_no h1 (sub_bad refl u))

pub int : {ts rest : List Token} {t : Token} → Begins ts t (kind.Mark mark.Int) rest → Reads TypeName ts holds.Int rest
unfolding rules follows begins
int h1 = rule 0 refl (led_by 0 refl refl h1) (tok h1 (end _))

pub bool : {ts rest : List Token} {t : Token} → Begins ts t (kind.Mark mark.Bool) rest → Reads TypeName ts holds.Bool rest
unfolding rules follows begins
bool h1 = rule 1 refl (led_by 1 refl refl h1) (tok h1 (end _))

pub bool_1 : {ts rest : List Token} → (first ts ≡ kind.Mark mark.Int → ⊥) → IsOther ts (kind.Mark mark.Bool) rest → Unfit TypeName ts rest
unfolding rules follows begins
bool_1 {ts = ts} w u = rule_no 1 refl (others ts 1 refl (not_in ts (kind.Mark mark.Int ∷ []) (w, tt), tt)) (tok_bad refl u)

pub clock : {ts m1 rest : List Token} {o w : Token} → Begins ts o (kind.Mark mark.Colons) m1 → Begins m1 w kind.Word rest → Reads ClockOf ts (token_word w.what) rest
unfolding rules follows begins
clock {ts = ts} h1 h2 = rule 0 refl (others ts 0 refl tt) (tok h1 (tok h2 (end _)))

pub clock_2 : {ts m1 rest : List Token} {o : Token} → Begins ts o (kind.Mark mark.Colons) m1 → IsOther m1 kind.Word rest → Unfit ClockOf ts rest
unfolding rules follows begins
clock_2 {ts = ts} h1 u = rule_no 0 refl (others ts 0 refl tt) (tok_no h1 (tok_bad refl u))

pub def : {ts m1 m2 rest : List Token} {q : Token} {d : Val Decl} {e : Val Expr} → IsNone (first ts) (kind.Mark mark.Open ∷ []) → Reads Decl ts d m1 → Begins m1 q (kind.Mark mark.Equals) m2 → Reads Expr m2 e rest → Reads Def ts (record { left = d ∷ []; right = e }) rest
unfolding rules follows begins
def {ts = ts} w h1 h2 h3 = rule 0 refl (others ts 0 refl (not_in ts (kind.Mark mark.Open ∷ []) w, tt)) (sub refl h1 (tok h2 (sub refl h3 (end _))))

pub def_1 : {ts rest : List Token} → IsNone (first ts) (kind.Mark mark.Open ∷ []) → Unfit Decl ts rest → Unfit Def ts rest
unfolding rules follows begins
def_1 {ts = ts} w u = rule_no 0 refl (others ts 0 refl (not_in ts (kind.Mark mark.Open ∷ []) w, tt)) (sub_bad refl u)

pub def_2 : {ts m1 rest : List Token} {d : Val Decl} → IsNone (first ts) (kind.Mark mark.Open ∷ []) → Reads Decl ts d m1 → IsOther m1 (kind.Mark mark.Equals) rest → Unfit Def ts rest
unfolding rules follows begins
def_2 {ts = ts} w h1 u = rule_no 0 refl (others ts 0 refl (not_in ts (kind.Mark mark.Open ∷ []) w, tt)) (sub_no refl h1 (tok_bad refl u))

pub def_3 : {ts m1 m2 rest : List Token} {q : Token} {d : Val Decl} → IsNone (first ts) (kind.Mark mark.Open ∷ []) → Reads Decl ts d m1 → Begins m1 q (kind.Mark mark.Equals) m2 → Unfit Expr m2 rest → Unfit Def ts rest
unfolding rules follows begins
def_3 {ts = ts} w h1 h2 u = rule_no 0 refl (others ts 0 refl (not_in ts (kind.Mark mark.Open ∷ []) w, tt)) (sub_no refl h1 (tok_no h2 (sub_bad refl u)))

pub several : {ts m1 m2 rest : List Token} {q : Token} {ds : Val Lefts} {e : Val Call} → first ts ≡ kind.Mark mark.Open → Reads Lefts ts ds m1 → Begins m1 q (kind.Mark mark.Equals) m2 → Reads Call m2 e rest → Reads Def ts (record { left = ds; right = e }) rest
unfolding rules follows begins
several w h1 h2 h3 = rule 1 refl (led _ 1 refl refl w) (sub refl h1 (tok h2 (sub refl h3 (end _))))

pub several_1 : {ts rest : List Token} → first ts ≡ kind.Mark mark.Open → Unfit Lefts ts rest → Unfit Def ts rest
unfolding rules follows begins
several_1 w u = rule_no 1 refl (led _ 1 refl refl w) (sub_bad refl u)

pub several_2 : {ts m1 rest : List Token} {ds : Val Lefts} → first ts ≡ kind.Mark mark.Open → Reads Lefts ts ds m1 → IsOther m1 (kind.Mark mark.Equals) rest → Unfit Def ts rest
unfolding rules follows begins
several_2 w h1 u = rule_no 1 refl (led _ 1 refl refl w) (sub_no refl h1 (tok_bad refl u))

pub several_3 : {ts m1 m2 rest : List Token} {q : Token} {ds : Val Lefts} → first ts ≡ kind.Mark mark.Open → Reads Lefts ts ds m1 → Begins m1 q (kind.Mark mark.Equals) m2 → Unfit Call m2 rest → Unfit Def ts rest
unfolding rules follows begins
several_3 w h1 h2 u = rule_no 1 refl (led _ 1 refl refl w) (sub_no refl h1 (tok_no h2 (sub_bad refl u)))

pub more_def : {ts m1 rest : List Token} {m : Token} {d : Val Def} → Begins ts m (kind.Mark mark.And) m1 → Reads Def m1 d rest → Reads MoreDef ts d rest
unfolding rules follows begins
more_def {ts = ts} h1 h2 = rule 0 refl (others ts 0 refl tt) (tok h1 (sub refl h2 (end _)))

pub more_def_2 : {ts m1 rest : List Token} {m : Token} → Begins ts m (kind.Mark mark.And) m1 → Unfit Def m1 rest → Unfit MoreDef ts rest
unfolding rules follows begins
more_def_2 {ts = ts} h1 u = rule_no 0 refl (others ts 0 refl tt) (tok_no h1 (sub_bad refl u))

pub lefts : {ts m1 m2 m3 m4 rest : List Token} {o m s : Token} {d : Val Decl} {ds : Val Decls} → Begins ts o (kind.Mark mark.Open) m1 → Reads Decl m1 d m2 → Begins m2 m (kind.Mark mark.Comma) m3 → Reads Decls m3 ds m4 → Begins m4 s (kind.Mark mark.Close) rest → Reads Lefts ts (d ∷ ds) rest
unfolding rules follows begins
lefts {ts = ts} h1 h2 h3 h4 h5 = rule 0 refl (others ts 0 refl tt) (tok h1 (sub refl h2 (tok h3 (sub refl h4 (tok h5 (end _))))))

pub lefts_1 : {ts rest : List Token} → IsOther ts (kind.Mark mark.Open) rest → Unfit Lefts ts rest
unfolding rules follows begins
lefts_1 {ts = ts} u = rule_no 0 refl (others ts 0 refl tt) (tok_bad refl u)

pub lefts_2 : {ts m1 rest : List Token} {o : Token} → Begins ts o (kind.Mark mark.Open) m1 → Unfit Decl m1 rest → Unfit Lefts ts rest
unfolding rules follows begins
lefts_2 {ts = ts} h1 u = rule_no 0 refl (others ts 0 refl tt) (tok_no h1 (sub_bad refl u))
