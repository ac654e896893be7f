-- The trees of types with arguments.
use Rattle.std.proofs.Common.{◌≡◌, ◌⊎◌, List, [], ◌∷◌, ◌++◌, inl, inr, refl, sym, ap, ◌∙◌}
use Rattle.std.specs.declared.alloc.Global.{Global}
use Rattle.std.specs.declared.vec.Vec.{Vec}
use Rattle.abs_tree.proofs.SyntaxLemmas.{type_tree-data, type_tree-unresolved}
use Rattle.abs_tree.specs.Names.{name_of}
use Rattle.abs_tree.specs.Syntax.{Name, DataType, UnresolvedType}
use Rattle.abs_tree.specs.SyntaxViews.{type_tree, type_trees}
use Rattle.abs_tree.specs.declared.place.Place.{Place}
use Rattle.abs_tree.specs.declared.symbol.Symbol.{Symbol}
use Rattle.abs_tree.specs.declared.syntax.types.TypeTerm as code
use Rattle.abs_tree.specs.declared.syntax.types.TypeTerm.{TypeTerm}
use Rattle.abs_types.specs.PlainTypes.{PlainType, PlainData, applied_to, plain, plains}
use Rattle.abs_tree.proofs.FormLemmas.{data_tree, unresolved_tree}

-- the plain type of a type of data, or of an unresolved one
pub plain_data : {term : TypeTerm} {name : Symbol} {items : List TypeTerm} (names : List Name)
    (arguments : Vec TypeTerm Global)
    → ((place : Place) × term ≡ code.Unresolved place name arguments)
    ⊎ ((place : Place) × term ≡ code.Data place name arguments)
    → items ≡ arguments.items
    → plain (type_tree names term) ≡ applied_to (PlainData (name_of names name)) (plains (type_trees names items))
plain_data names arguments (inl (place, is)) items_are = ap plain (unresolved_tree names _ _ _ arguments _ is items_are)
plain_data names arguments (inr (place, is)) items_are = ap plain (data_tree names _ _ _ arguments _ is items_are)

-- a copy of a type of data has its tree
pub data_copied : {term : TypeTerm} {place : Place} {name : Symbol} {items : List TypeTerm} (names : List Name)
    (arguments copies : Vec TypeTerm Global) → term ≡ code.Data place name arguments → items ≡ arguments.items
    → type_trees names copies.items ≡ type_trees names items
    → type_tree names (code.Data place name copies) ≡ type_tree names term
data_copied {term} {place} {name} {items} names arguments copies is items_are same =
    type_tree-data names place name copies
    ∙ (ap (DataType place (name_of names name)) same ∙ sym (data_tree names _ _ _ arguments _ is items_are))

-- the same of an unresolved type
pub unresolved_copied : {term : TypeTerm} {place : Place} {name : Symbol} {items : List TypeTerm} (names : List Name)
    (arguments copies : Vec TypeTerm Global) → term ≡ code.Unresolved place name arguments → items ≡ arguments.items
    → type_trees names copies.items ≡ type_trees names items
    → type_tree names (code.Unresolved place name copies) ≡ type_tree names term
unresolved_copied {term} {place} {name} {items} names arguments copies is items_are same =
    type_tree-unresolved names place name copies
    ∙ (ap (UnresolvedType place (name_of names name)) same ∙ sym (unresolved_tree names _ _ _ arguments _ is items_are))

-- the plain type of new data
pub plain_new_data : (names : List Name) (place : Place) (name : Symbol) (arguments : Vec TypeTerm Global)
    → plain (type_tree names (code.Data place name arguments))
    ≡ applied_to (PlainData (name_of names name)) (plains (type_trees names arguments.items))
plain_new_data names place name arguments = ap plain (type_tree-data names place name arguments)

-- the plain types of a list with one more type
pub plains_push : (names : List Name) (items : List TypeTerm) (item : TypeTerm)
    → plains (type_trees names (items ++ item ∷ []))
    ≡ plains (type_trees names items) ++ plain (type_tree names item) ∷ []
plains_push names [] item = refl
plains_push names (first ∷ others) item =
    ap (λ (types : List PlainType). plain (type_tree names first) ∷ types) (plains_push names others item)

-- the plain type of a type of data, or of an unresolved one, at a known place
pub plain_data_at : {term : TypeTerm} {place : Place} {name : Symbol} {items : List TypeTerm} (names : List Name)
    (arguments : Vec TypeTerm Global)
    → (term ≡ code.Unresolved place name arguments) ⊎ (term ≡ code.Data place name arguments)
    → items ≡ arguments.items
    → plain (type_tree names term) ≡ applied_to (PlainData (name_of names name)) (plains (type_trees names items))
plain_data_at names arguments (inl is) items_are = ap plain (unresolved_tree names _ _ _ arguments _ is items_are)
plain_data_at names arguments (inr is) items_are = ap plain (data_tree names _ _ _ arguments _ is items_are)
