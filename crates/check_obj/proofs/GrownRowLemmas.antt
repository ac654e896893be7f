-- Rows of methods that grow method by method.
--
--   `names_in`, `methods_before`   the names of a checker's program, and the methods among the members before an index
--   `GrownRow`                     a row has these methods, if it had none
--   `grown_none`                   it has none before the first one
--   `signatures_next`              it has one more method of an interface
--   `method_next`, `field_next`    it has one more method among the members of a class, and none more for a field
--   `signatures_grown`, ..         it has all of them
use Rattle.std.proofs.Common.{◌≡◌, ℕ, ◌+◌, ◌<◌, ◌≤◌, List, [], ◌∷◌, ◌++◌, get_or, length, map, take, refl, sym, ap, ◌∙◌, subst}
use Rattle.std.proofs.lemmas.List.{append-nil, map_more, take_all}
use Rattle.std.proofs.lemmas.List.Elements.{All-nil}
use Rattle.abs_tree.specs.Syntax.{Name, MemberTree, FieldTree, MethodTree, SignatureTree}
use Rattle.abs_tree.specs.SyntaxViews.{member_tree, signature_tree}
use Rattle.abs_tree.specs.declared.syntax.declaration.Member.{Member}
use Rattle.abs_tree.specs.declared.syntax.declaration.Signature.{Signature}
use Rattle.abs_types.specs.Methods.{first_of_each, member_signatures}
use Rattle.abs_types.specs.TypeTables.{types_in}
use Rattle.abs_types.specs.declared.table.TypeTable.{TypeTable}
use Rattle.abs_types.specs.declared.table.shape.TypeIndex.{TypeIndex}
use Rattle.check_fun.proofs.ContextLemmas.{stays_reflexive, stays_transitive}
use Rattle.check_fun.specs.Contexts.{Stays}
use Rattle.check_fun.specs.declared.checker.Checker.{Checker}
use Rattle.check_obj.proofs.FirstLemmas.{named_all, named_members}
use Rattle.check_obj.proofs.MethodRowLemmas.{IsEntry}
use Rattle.check_obj.specs.MethodRows.{AreNamed, IsRow}

-- the names of a checker's program
abbrev pub names_in : Checker → List Name
names_in checker = checker.table.program.now.symbols

-- A row has these methods, if it had none.
pub record GrownRow (start now : Checker) (done : List SignatureTree) (was is : List (ℕ × TypeIndex)) : Type 0 where
  pub first : now.first ≡ start.first
  pub stays : Stays start now
  pub row : was ≡ [] → IsRow now.table (first_of_each done) is

-- no methods are in no entries
no_row : (table : TypeTable) → IsRow table [] []
no_row table = record { among = All-nil (IsEntry (types_in table)); are = refl }

-- a row has none before the first one
pub grown_none : {start : Checker} {was : List (ℕ × TypeIndex)} → GrownRow start start [] was was
grown_none {start} = record {
  first = refl;
  stays = stays_reflexive;
  row = λ none. subst (λ (row : List (ℕ × TypeIndex)). IsRow start.table [] row) (sym none) (no_row start.table);
}

-- What one more method does to a row.
abbrev pub Grows : Checker → Checker → Signature → List (ℕ × TypeIndex) → List (ℕ × TypeIndex) → Type 0
Grows now next signature is after =
    (done : List SignatureTree) → AreNamed (names_in now) done → IsRow now.table (first_of_each done) is
    → IsRow next.table (first_of_each (done ++ signature_tree (names_in now) signature ∷ [])) after

-- a row has one more method
grown_next : {start now next : Checker} {done : List SignatureTree} {was is after : List (ℕ × TypeIndex)}
    (signature : Signature) → GrownRow start now done was is → AreNamed (names_in start) done
    → next.first ≡ now.first → Stays now next → Grows now next signature is after
    → GrownRow start next (done ++ signature_tree (names_in start) signature ∷ []) was after
grown_next {start} {now} {next} {done} {was} {is} {after} signature so named first stays grows =
    let same : names_in start ≡ names_in now = ap (λ (program : _). program.now.symbols) (sym so.stays.keeps.program_is)
    in record {
      first = first ∙ so.first;
      stays = stays_transitive so.stays stays;
      row = λ none. subst (λ (names : List Name).
          IsRow next.table (first_of_each (done ++ signature_tree names signature ∷ [])) after) (sym same)
          (grows done (subst (λ (names : List Name). AreNamed names done) same named) (so.row none));
    }

-- a row has one more method of an interface
pub signatures_next : {start now next : Checker} {was is after : List (ℕ × TypeIndex)} (signatures : List Signature)
    (index : ℕ) (signature : Signature)
    → GrownRow start now (map (signature_tree (names_in start)) (take index signatures)) was is
    → index < length signatures → signature ≡ get_or signatures index signature → next.first ≡ now.first
    → Stays now next → Grows now next signature is after
    → GrownRow start next (map (signature_tree (names_in start)) (take (index + 1) signatures)) was after
signatures_next {start} {now} {next} {was} {is} {after} signatures index signature so there same first stays grows =
    let tree = signature_tree (names_in start) in
    subst (λ (done : List SignatureTree). GrownRow start next done was after)
    (sym (map_more tree signatures index signature there
    ∙ ap (λ (one : Signature). map tree (take index signatures) ++ tree one ∷ []) (sym same)))
    (grown_next signature so (named_all (names_in start) (take index signatures)) first stays grows)

-- a row has all methods of an interface
pub signatures_grown : {start now : Checker} {was is : List (ℕ × TypeIndex)} (signatures : List Signature) (index : ℕ)
    → GrownRow start now (map (signature_tree (names_in start)) (take index signatures)) was is
    → length signatures ≤ index → was ≡ []
    → IsRow now.table (first_of_each (map (signature_tree (names_in start)) signatures)) is
signatures_grown {start} {now} {was} {is} signatures index so over none =
    subst (λ (all : List Signature). IsRow now.table (first_of_each (map (signature_tree (names_in start)) all)) is)
    (take_all index signatures over) (so.row none)

-- the methods among members and more members
members_append : (members more : List MemberTree)
    → member_signatures (members ++ more) ≡ member_signatures members ++ member_signatures more
members_append [] more = refl
members_append (FieldTree type name initial ∷ others) more = members_append others more
members_append (MethodTree signature end body ∷ others) more =
    ap (λ (rest : List SignatureTree). signature ∷ rest) (members_append others more)

-- the methods among the members of a class before an index
abbrev pub methods_before : Checker → List Member → ℕ → List SignatureTree
methods_before checker members index = member_signatures (map (member_tree (names_in checker)) (take index members))

-- the methods among one more member
methods_more : (checker : Checker) (members : List Member) (index : ℕ) (member : Member) → index < length members
    → member ≡ get_or members index member
    → methods_before checker members (index + 1)
    ≡ methods_before checker members index ++ member_signatures (member_tree (names_in checker) member ∷ [])
methods_more checker members index member there same =
    let tree = member_tree (names_in checker) in
    ap member_signatures (map_more tree members index member there
    ∙ ap (λ (one : Member). map tree (take index members) ++ tree one ∷ []) (sym same))
    ∙ members_append (map tree (take index members)) (tree member ∷ [])

-- a row has one more method among the members of a class
pub method_next : {start now next : Checker} {was is after : List (ℕ × TypeIndex)} (members : List Member) (index : ℕ)
    (member : Member) (signature : Signature) → GrownRow start now (methods_before start members index) was is
    → index < length members → member ≡ get_or members index member
    → member_signatures (member_tree (names_in start) member ∷ [])
    ≡ signature_tree (names_in start) signature ∷ [] → next.first ≡ now.first → Stays now next
    → Grows now next signature is after
    → GrownRow start next (methods_before start members (index + 1)) was after
method_next {start} {now} {next} {was} {is} {after} members index member signature so there same one first stays grows =
    subst (λ (done : List SignatureTree). GrownRow start next done was after)
    (sym (methods_more start members index member there same
    ∙ ap (λ (more : List SignatureTree). methods_before start members index ++ more) one))
    (grown_next signature so (named_members (names_in start) (take index members)) first stays grows)

-- a row has none more for a field
pub field_next : {start now : Checker} {was is : List (ℕ × TypeIndex)} (members : List Member) (index : ℕ)
    (member : Member) → GrownRow start now (methods_before start members index) was is
    → index < length members → member ≡ get_or members index member
    → member_signatures (member_tree (names_in start) member ∷ []) ≡ []
    → GrownRow start now (methods_before start members (index + 1)) was is
field_next {start} {now} {was} {is} members index member so there same none =
    subst (λ (done : List SignatureTree). GrownRow start now done was is)
    (sym (methods_more start members index member there same
    ∙ (ap (λ (more : List SignatureTree). methods_before start members index ++ more) none
    ∙ append-nil (methods_before start members index)))) so

-- a row has all methods among the members of a class
pub members_grown : {start now : Checker} {was is : List (ℕ × TypeIndex)} (members : List Member) (index : ℕ)
    → GrownRow start now (methods_before start members index) was is → length members ≤ index → was ≡ []
    → IsRow now.table (first_of_each (member_signatures (map (member_tree (names_in start)) members))) is
members_grown {start} {now} {was} {is} members index so over none =
    subst (λ (all : List Member).
    IsRow now.table (first_of_each (member_signatures (map (member_tree (names_in start)) all))) is)
    (take_all index members over) (so.row none)
