-- How declared names, constructors, heads of methods and declarations are resolved, each in a list.
use Rattle.std.proofs.Common.{[], refl}
use Rattle.abs_program.specs.NameSpaces.{NameSpaces, means_interface}
use Rattle.abs_tree.specs.Syntax.{DeclaredTree, ConstructorTree, SignatureTree, DeclTree}
use Rattle.abs_tree.specs.SyntaxViews.{declared, constructor_tree, signature_tree, decl_tree}
use Rattle.abs_program.specs.Tables.{meaning_of}
use Rattle.abs_tree.specs.declared.syntax.declaration.Constructor.{Constructor}
use Rattle.abs_tree.specs.declared.syntax.declaration.Decl.{Decl}
use Rattle.abs_tree.specs.declared.syntax.declaration.Declared.{Declared}
use Rattle.abs_tree.specs.declared.syntax.declaration.Signature.{Signature}
use Rattle.abs_names.specs.NameOffences.{interfaces_offences, constructor_types_offences, signature_offences, signatures_offences, declaration_offences, declarations_offences}
use Rattle.abs_names.specs.Resolution.{resolved_constructors, resolved_signature, resolved_signatures, resolved_declaration, resolved_declarations}
use Rattle.abs_names.specs.Single.{unknown}
use Rattle.abs_names.specs.TypeNames.{types_offences, resolved_types}
use Rattle.abs_names.specs.Visible.{Names, Visible}
use Rattle.abs_names.proofs.InPlaceLemmas.{ItemResolution}

-- declared names keep their trees
abbrev pub kept_resolution : ItemResolution Declared DeclaredTree Names
kept_resolution = record {
  before = λ names. declared names.before;
  after = λ names. declared names.after;
  resolved = λ names count tree. tree;
  all_resolved = λ names count trees. trees;
  offences = λ names count tree. [];
  all_offences = λ names count trees. [];
  next = λ names count tree. count;
  none_resolved = λ names count. refl;
  more_resolved = λ names count tree trees. refl;
  none_offend = λ names count. refl;
  more_offend = λ names count tree trees. refl;
}

-- so do those after `extends` or `implements`, which offend unless they are those of interfaces
abbrev pub interface_resolution : ItemResolution Declared DeclaredTree Visible
interface_resolution = record {
  before = λ v. declared v.names.before;
  after = λ v. declared v.names.after;
  resolved = λ v count tree. tree;
  all_resolved = λ v count trees. trees;
  offences = λ v count tree. unknown (means_interface (meaning_of v.scope.around.spaces.types tree.name)) tree.place;
  all_offences = λ v count trees. interfaces_offences v.scope.around trees;
  next = λ v count tree. count;
  none_resolved = λ v count. refl;
  more_resolved = λ v count tree trees. refl;
  none_offend = λ v count. refl;
  more_offend = λ v count tree trees. refl;
}

-- constructors
abbrev pub constructor_resolution : ItemResolution Constructor ConstructorTree Visible
constructor_resolution = record {
  before = λ v. constructor_tree v.names.before;
  after = λ v. constructor_tree v.names.after;
  resolved = λ v count tree. record { name = tree.name; types = resolved_types v.scope.around tree.types };
  all_resolved = λ v count trees. resolved_constructors v.scope.around trees;
  offences = λ v count tree. types_offences v.scope.around tree.types;
  all_offences = λ v count trees. constructor_types_offences v.scope.around trees;
  next = λ v count tree. count;
  none_resolved = λ v count. refl;
  more_resolved = λ v count tree trees. refl;
  none_offend = λ v count. refl;
  more_offend = λ v count tree trees. refl;
}

-- heads of methods
abbrev pub signature_resolution : ItemResolution Signature SignatureTree Visible
signature_resolution = record {
  before = λ v. signature_tree v.names.before;
  after = λ v. signature_tree v.names.after;
  resolved = λ v count tree. resolved_signature v.scope.around tree;
  all_resolved = λ v count trees. resolved_signatures v.scope.around trees;
  offences = λ v count tree. signature_offences v.scope.around tree;
  all_offences = λ v count trees. signatures_offences v.scope.around trees;
  next = λ v count tree. count;
  none_resolved = λ v count. refl;
  more_resolved = λ v count tree trees. refl;
  none_offend = λ v count. refl;
  more_offend = λ v count tree trees. refl;
}

-- What stays the same from one declaration to the next: the names, and what is declared.
pub record Declarations : Type 0 where
  pub names : Names
  pub spaces : NameSpaces

abbrev pub in_declarations : Visible → Declarations
in_declarations v = record { names = v.names; spaces = v.scope.around.spaces }

-- declarations
abbrev pub declaration_resolution : ItemResolution Decl DeclTree Declarations
declaration_resolution = record {
  before = λ c. decl_tree c.names.before;
  after = λ c. decl_tree c.names.after;
  resolved = λ c count tree. resolved_declaration c.spaces tree;
  all_resolved = λ c count trees. resolved_declarations c.spaces trees;
  offences = λ c count tree. declaration_offences c.spaces tree;
  all_offences = λ c count trees. declarations_offences c.spaces trees;
  next = λ c count tree. count;
  none_resolved = λ c count. refl;
  more_resolved = λ c count tree trees. refl;
  none_offend = λ c count. refl;
  more_offend = λ c count tree trees. refl;
}
