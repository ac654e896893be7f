-- The declarations in a type of data, and those that hold objects.
use Rattle.std.proofs.Common.{◌≡◌, ℕ, Bool, List, ◌++◌, Ok, Err, sym, ap, ◌∙◌, append_assoc}
use Rattle.std.specs.Prelude.{Result, OnOk}
use Rattle.std.specs.declared.alloc.Global.{Global}
use Rattle.std.specs.declared.vec.Vec.{Vec}
use Rattle.abs_graph.specs.Graphs.{Graph, reach_marked}
use Rattle.abs_program.specs.Holdings.{declaration_of, declarations_in, declarations_in_all, holdings, are_interfaces, holders}
use Rattle.abs_tree.specs.Names.{name_of}
use Rattle.abs_program.specs.NameSpaces.{NameSpaces}
use Rattle.abs_tree.specs.Syntax.{Name, TypeTree, DeclTree}
use Rattle.abs_tree.specs.SyntaxViews.{type_tree, type_trees}
use Rattle.abs_program.specs.Tables.{meaning_of}
use Rattle.abs_tree.specs.declared.place.Place.{Place}
use Rattle.abs_tree.specs.declared.symbol.Symbol.{Symbol}
use Rattle.abs_tree.specs.declared.syntax.types.TypeTerm as code
use Rattle.abs_tree.specs.declared.syntax.types.TypeTerm.{TypeTerm}
use Rattle.abs_tree.proofs.FormLemmas.{data_tree}

-- the declaration of its name, and then those in its arguments, were added to a list
pub data_added : {E : Type 0} {term : TypeTerm} {between : List ℕ} (spaces : NameSpaces) (names : List Name)
    (start end : List ℕ) (place : Place) (name : Symbol) (arguments : Vec TypeTerm Global) (items : List TypeTerm)
    (result : Result Unit E)
    → term ≡ code.Data place name arguments → items ≡ arguments.items
    → between ≡ start ++ declaration_of (meaning_of spaces.types (name_of names name))
    → OnOk result (end ≡ between ++ declarations_in_all spaces (type_trees names items))
    → OnOk result (end ≡ start ++ declarations_in spaces (type_tree names term))
data_added {E} {term} spaces names start end place name arguments items (Ok x) is items_are one all =
    let own = declaration_of (meaning_of spaces.types (name_of names name)) in
    let inner = declarations_in_all spaces (type_trees names items) in
    all
    ∙ (ap (λ (xs : List ℕ). xs ++ inner) one
    ∙ (append_assoc start own inner
    ∙ ap (λ (tree : TypeTree). start ++ declarations_in spaces tree)
    (sym (data_tree names term place name arguments items is items_are))))
data_added spaces names start end place name arguments items (Err e) is items_are one all = tt

-- those that lead to an interface in the graph of what declarations hold are the holders
pub holders_are : {graph : Graph} {marked : List Bool} (declarations : List DeclTree) → graph ≡ holdings declarations
    → marked ≡ are_interfaces declarations → reach_marked graph marked ≡ holders declarations
unfolding holders
holders_are {graph} {marked} declarations is are =
    ap (λ (g : Graph). reach_marked g marked) is ∙ ap (reach_marked (holdings declarations)) are
