-- Trees and tokens but for the places from which they were read.
use Rattle.std.specs.Prelude.{map, ◌≡◌}
use Rattle.lucy_tree.specs.declared.span.Span.{Span}
use Rattle.lucy_tree.specs.declared.span.Name.{Name}
use Rattle.lucy_tree.specs.declared.decl.Decl.{Decl}
use Rattle.lucy_tree.specs.Tree.{Tree, Trees, literal, variable, operator, host, sampled, merged, followed, buffered, call, no_more, more}
use Rattle.lucy_tree.specs.View.{DefTree, NodeTree, ProgramTree}
use Rattle.lucy_token.specs.declared.token.Token.{Token}

-- the place that stands for all
abbrev pub nowhere : Span
nowhere = record { from = 0; to = 0 }

-- a token without its place
abbrev pub unplaced_token : Token → Token
unplaced_token t = record { what = t.what; span = nowhere }

-- a name without its place
abbrev pub unplaced_name : Name → Name
unplaced_name n = record { text = n.text; span = nowhere }

-- a declaration without places
abbrev pub unplaced_decl : Decl → Decl
unplaced_decl d = record { name = unplaced_name d.name; holds = d.holds; word = d.word }

abbrev mutual
  -- a tree without places
  pub unplaced : Tree → Tree
  unplaced (literal l span) = literal l nowhere
  unplaced (variable name) = variable (unplaced_name name)
  unplaced (operator op args span) = operator op (all_unplaced args) nowhere
  unplaced (host name args) = host (unplaced_name name) (all_unplaced args)
  unplaced (sampled flip e w) = sampled flip (unplaced e) w
  unplaced (merged w a b span) = merged w (unplaced a) (unplaced b) nowhere
  unplaced (followed l e span) = followed l (unplaced e) nowhere
  unplaced (buffered most e span) = buffered most (unplaced e) nowhere
  unplaced (call name at args) = call (unplaced_name name) at (all_unplaced args)

  -- trees without places
  pub all_unplaced : Trees → Trees
  all_unplaced no_more = no_more
  all_unplaced (more t ts) = more (unplaced t) (all_unplaced ts)

-- a definition without places
abbrev pub unplaced_def : DefTree → DefTree
unplaced_def d = record { left = map unplaced_decl d.left; right = unplaced d.right }

-- a node without places
abbrev pub unplaced_node : NodeTree → NodeTree
unplaced_node n = record { name = unplaced_name n.name; params = map unplaced_decl n.params; results = map unplaced_name n.results; defs = map unplaced_def n.defs }

-- a program without places
abbrev pub unplaced_program : ProgramTree → ProgramTree
unplaced_program p = map unplaced_node p

-- two programs are the same but for places
abbrev pub IsAlike : ProgramTree → ProgramTree → Type 0
IsAlike p q = unplaced_program p ≡ unplaced_program q
