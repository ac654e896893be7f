-- What a name means stays when more is declared.
--
--   `added_means`              a name that is added to a table for the first time means this
--   `types_stay`               what the name of a type means
--   `constructors_stay`        what the name of a constructor means
use Rattle.std.proofs.Common.{◌≡◌, ℕ, ◌+◌, Bool, true, false, List, [], ◌∷◌, refl, ap, ◌∙◌, cond}
use Rattle.std.specs.Prelude.{Some, is_some}
use Rattle.std.specs.Str.{bytes_eq}
use Rattle.std.proofs.lemmas.Slice.Eq.{bytes_eq-Decides}
use Rattle.abs_program.specs.NameSpaces.{NameSpaces, with_constructor, with_constructors, with_declaration, with_declarations}
use Rattle.abs_program.specs.Tables.{Table, meaning_of}
use Rattle.abs_program.specs.declared.name_spaces.ConstructorMeaning.{ConstructorMeaning}
use Rattle.abs_program.specs.declared.name_spaces.TypeMeaning.{TypeMeaning}
use Rattle.abs_tree.specs.Syntax.{Name, ConstructorTree, DeclTree, DataTree, FunctionTree, InterfaceTree, ClassTree}

-- a name that has a meaning keeps it where another entry is added only for a name without a meaning
entry_stays : {A : Type 0} (known : Table A) (name new : Name) (meaning other : A) (b : Bool)
    → bytes_eq new name ≡ b → meaning_of known name ≡ Some meaning → is_some (meaning_of known new) ≡ false
    → (cond b (Some other) (meaning_of known name)) ≡ Some meaning
entry_stays known name new meaning other true same found free =
    let is : new ≡ name = (bytes_eq-Decides new name).0 same in
    let there : is_some (meaning_of known new) ≡ true =
    ap is_some (ap (meaning_of known) is ∙ found) in
    absurd cc
entry_stays known name new meaning other false same found free = found

first_stays : {A : Type 0} (known : Table A) (name new : Name) (meaning other : A) (b : Bool)
    → is_some (meaning_of known new) ≡ b → meaning_of known name ≡ Some meaning
    → meaning_of (cond b known ((new, other) ∷ known)) name ≡ Some meaning
first_stays known name new meaning other true has found = found
first_stays known name new meaning other false free found =
    entry_stays known name new meaning other (bytes_eq new name) refl found free

-- a name that is added to a table for the first time
pub added_means : {A : Type 0} (known : Table A) (name : Name) (meaning : A) → is_some (meaning_of known name) ≡ false
    → meaning_of (cond (is_some (meaning_of known name)) known ((name, meaning) ∷ known)) name ≡ Some meaning
added_means {A} known name meaning free =
    ap (λ (b : Bool). meaning_of (cond b known ((name, meaning) ∷ known)) name) free
    ∙ ap (λ (b : Bool). cond b (Some meaning) (meaning_of known name)) ((bytes_eq-Decides name name).1 refl)

-- what the name of a type means
type_stays : (index : ℕ) (known : NameSpaces) (declaration : DeclTree) (name : Name) (meaning : TypeMeaning)
    → meaning_of known.types name ≡ Some meaning
    → meaning_of (with_declaration index known declaration).types name ≡ Some meaning
type_stays index known (DataTree place declared type_params constructors) name meaning found =
    first_stays known.types name declared.name meaning _ (is_some (meaning_of known.types declared.name)) refl found
type_stays index known (FunctionTree place result declared type_params params value) name meaning found = found
type_stays index known (InterfaceTree place declared extended signatures) name meaning found =
    first_stays known.types name declared.name meaning _ (is_some (meaning_of known.types declared.name)) refl found
type_stays index known (ClassTree place declared params implemented members) name meaning found = found

pub types_stay : (index : ℕ) (known : NameSpaces) (declarations : List DeclTree) (name : Name) (meaning : TypeMeaning)
    → meaning_of known.types name ≡ Some meaning
    → meaning_of (with_declarations index known declarations).types name ≡ Some meaning
types_stay index known [] name meaning found = found
types_stay index known (declaration ∷ others) name meaning found =
    types_stay (index + 1) (with_declaration index known declaration) others name meaning
    (type_stays index known declaration name meaning found)

-- what the name of a constructor means
own_constructors_stay : (owner index : ℕ) (known : Table ConstructorMeaning) (constructors : List ConstructorTree)
    (name : Name) (meaning : ConstructorMeaning) → meaning_of known name ≡ Some meaning
    → meaning_of (with_constructors owner index known constructors) name ≡ Some meaning
own_constructors_stay owner index known [] name meaning found = found
own_constructors_stay owner index known (constructor ∷ others) name meaning found =
    own_constructors_stay owner (index + 1) (with_constructor owner index known constructor) others name meaning
    (first_stays known name constructor.name.name meaning _ (is_some (meaning_of known constructor.name.name)) refl
    found)

constructor_stays : (index : ℕ) (known : NameSpaces) (declaration : DeclTree) (name : Name)
    (meaning : ConstructorMeaning) → meaning_of known.constructors name ≡ Some meaning
    → meaning_of (with_declaration index known declaration).constructors name ≡ Some meaning
constructor_stays index known (DataTree place declared type_params constructors) name meaning found =
    own_constructors_stay index 0 known.constructors constructors name meaning found
constructor_stays index known (FunctionTree place result declared type_params params value) name meaning found = found
constructor_stays index known (InterfaceTree place declared extended signatures) name meaning found = found
constructor_stays index known (ClassTree place declared params implemented members) name meaning found = found

pub constructors_stay : (index : ℕ) (known : NameSpaces) (declarations : List DeclTree) (name : Name)
    (meaning : ConstructorMeaning) → meaning_of known.constructors name ≡ Some meaning
    → meaning_of (with_declarations index known declarations).constructors name ≡ Some meaning
constructors_stay index known [] name meaning found = found
constructors_stay index known (declaration ∷ others) name meaning found =
    constructors_stay (index + 1) (with_declaration index known declaration) others name meaning
    (constructor_stays index known declaration name meaning found)
