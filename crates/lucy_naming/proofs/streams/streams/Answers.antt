use Rattle.std.proofs.Common.{◌≡◌, ◌++◌, ℕ, List, [], map, ap, sym, ◌∙◌, subst}
use Rattle.lucy_word.proofs.Results.{leaves}
use Rattle.lucy_tree.specs.View.{def_tree}
use Rattle.lucy_tree.specs.declared.span.Name.{Name}
use Rattle.lucy_naming.specs.Streams.{declared, def_names}
use Rattle.lucy_naming.specs.Views.{text_of}
use Rattle.lucy_naming.specs.Faults.{repeats}
use Rattle.lucy_naming.specs.Placing.{TellsFirstFault}
use Rattle.lucy_naming.proofs.VerdictLaws.{tells_front, repeats_append, define_more}
use Rattle.lucy_naming.proofs.streams.streams.Goals as goal

pub returns-in_err-declare-clause-refused : goal.returns-in_err-declare-clause-refused
returns-in_err-declare-clause-refused c =
    let s : List (List ℕ) = c.new-scope.result in
    let l : List Name = declared c.list.result.now in
    let r : List Name = def_names (map def_tree c.args.node.now.defs) in
    leaves (TellsFirstFault (repeats s l)) _ _ c.from_residual.result c.from_residual.ensures.1 c.in_err-declare.ensures.refused
    (λ y t.
    subst (λ fs. TellsFirstFault fs y)
    (sym (repeats_append s l r) ∙ ap (λ b. repeats b (l ++ r)) c.new-scope.ensures ∙ ap (λ ds. repeats [] (declared ds ++ r)) c.list.ensures)
    (tells_front (repeats s l) (repeats (s ++ map text_of l) r) t))

pub returns-in_err-define-clause-refused : goal.returns-in_err-define-clause-refused
returns-in_err-define-clause-refused c =
    let s : List (List ℕ) = c.new-scope.result in
    let l : List Name = declared c.list.result.now in
    let r : List Name = def_names (map def_tree c.list-2.result.now) in
    let m = define_more s c.declare.new.scope l r c.in_ok-declare.ensures.ok.0 c.in_ok-declare.ensures.ok.1 in
    leaves (TellsFirstFault (repeats c.declare.new.scope r)) _ _ c.from_residual-in_err-define.result c.from_residual-in_err-define.ensures.1 c.in_err-define.ensures.refused
    (λ y t.
    subst (λ fs. TellsFirstFault fs y)
    (m.0 ∙ ap (λ b. repeats b (l ++ r)) c.new-scope.ensures ∙ ap (λ ds. repeats [] (declared ds ++ r)) c.list.ensures
    ∙ ap (λ ds. repeats [] (declared c.args.node.now.params ++ def_names (map def_tree ds))) c.list-2.ensures)
    t)

pub returns-clause-ok : goal.returns-clause-ok
returns-clause-ok c =
    let s : List (List ℕ) = c.new-scope.result in
    let l : List Name = declared c.list.result.now in
    let r : List Name = def_names (map def_tree c.list-2.result.now) in
    let m = define_more s c.declare.new.scope l r c.in_ok-declare.ensures.ok.0 c.in_ok-declare.ensures.ok.1 in
    let P : List Name = declared c.args.node.now.params in
    let e : l ++ r ≡ P ++ def_names (map def_tree c.args.node.now.defs) =
    ap (λ ds. declared ds ++ r) c.list.ensures ∙ ap (λ ds. P ++ def_names (map def_tree ds)) c.list-2.ensures in (
      ap (repeats []) (sym e) ∙ ap (λ b. repeats b (l ++ r)) (sym c.new-scope.ensures) ∙ sym m.0 ∙ c.in_ok-define.ensures.ok.0,
      c.in_ok-define.ensures.ok.1 ∙ m.1 ∙ ap (λ b. b ++ map text_of (l ++ r)) c.new-scope.ensures ∙ ap (map text_of) e,
    )
