-- The contracts of the code without their memory.
--
--   `reads_tree`, `objects_tree`, `accepts_tree`, `term_tree`      the parts of a term, and a term
--   `MethodTree`, `method_tree`, `ClassTree`, `class_tree`         those of a method and of a class
--   `class_if`, `method_if`, `methods_if`                          those that are there
--   `main_in`, `class_in`, `method_in`                             those of main, of a class and of a method in a program
--   `reached_in`, `made_in`                                        what is reached, and the classes made at a place
use Rattle.std.specs.Map.{lookup}
use Rattle.std.specs.Prelude.{ℕ, Bool, false, ◌||◌, List, [], map, nat_eq, slice_get, Option, Some, None, option_map}
use Rattle.std.specs.declared.alloc.Global.{Global}
use Rattle.std.specs.declared.vec.Vec.{Vec}
use Rattle.abs_graph.specs.Graphs.{Graph, reaches}
use Rattle.abs_tree.specs.Names.{name_of}
use Rattle.abs_tree.specs.Syntax.{Name}
use Rattle.abs_tree.specs.declared.symbol.Symbol.{Symbol}
use Rattle.contract_terms.specs.Accepts.{ObjectsTree, NoObject, OfClass, Implementing, AllObjects, AcceptsTree}
use Rattle.contract_terms.specs.Reading.{ReadsTree}
use Rattle.contract_terms.specs.Terms.{TermTree}
use Rattle.contract_terms.specs.declared.accepts.Accepts.{Accepts}
use Rattle.contract_terms.specs.declared.accepts.Objects.{Objects}
use Rattle.contract_terms.specs.declared.accepts.Objects.TheVariants as objects
use Rattle.contract_terms.specs.declared.term.ClassTerms.{ClassTerms}
use Rattle.contract_terms.specs.declared.term.MethodTerms.{MethodTerms}
use Rattle.contract_terms.specs.declared.term.Reads.{Reads}
use Rattle.contract_terms.specs.declared.term.Term.{Term}
use Rattle.contract_terms.specs.declared.terms.Terms.{Terms}

-- what an expression reads
abbrev pub reads_tree : Reads → ReadsTree
reads_tree reads = record { slots = reads.slots.items; fields = reads.fields.items; this = reads.this }

-- the objects that are let in, with their names written out
abbrev pub objects_tree : List Name → Objects → ObjectsTree
objects_tree names objects.None = NoObject
objects_tree names (objects.Of class) = OfClass (name_of names class)
objects_tree names (objects.Implementing interface) = Implementing (name_of names interface)
objects_tree names objects.All = AllObjects

abbrev pub accepts_tree : List Name → Accepts → AcceptsTree
accepts_tree names accepts =
    record { objects = objects_tree names accepts.objects; futures = accepts.futures }

-- a contract term
abbrev pub term_tree : List Name → Term → TermTree
term_tree names term = record {
  index = term.index;
  reads = map reads_tree term.reads.items;
  accepts = accepts_tree names term.accepts;
  receiver = option_map (objects_tree names) term.receiver;
  settled = term.settled.items;
}

-- the contract of a method: what its parameters and its result let in, and its terms
pub record MethodTree : Type 0 where
  pub params : List AcceptsTree
  pub result : AcceptsTree
  pub terms : List TermTree

abbrev pub method_tree : List Name → MethodTerms → MethodTree
method_tree names method = record {
  params = map (accepts_tree names) method.params.items;
  result = accepts_tree names method.result;
  terms = map (term_tree names) method.terms.items;
}

-- the contract of a class by itself: what its fields let in, and what their initial values read
pub record ClassTree : Type 0 where
  pub fields : List AcceptsTree
  pub initials : List ReadsTree

abbrev pub class_tree : List Name → ClassTerms → ClassTree
class_tree names class = record {
  fields = map (accepts_tree names) class.fields.items;
  initials = map reads_tree class.initials.items;
}

-- the terms of main
unfoldable pub main_in : List Name → Terms → List TermTree
main_in names terms = map (term_tree names) terms.main.items

-- the contract of a class, where there is one
abbrev pub class_if : List Name → Option (Option ClassTerms) → Option ClassTree
class_if names (Some (Some class)) = Some (class_tree names class)
class_if names _ = None

unfoldable pub class_in : List Name → Terms → ℕ → Option ClassTree
class_in names terms class = class_if names (slice_get terms.classes.items class)

-- the contract of the method at an index among the members, where there is one
abbrev pub method_if : List Name → Option (Option MethodTerms) → Option MethodTree
method_if names (Some (Some method)) = Some (method_tree names method)
method_if names _ = None

abbrev pub methods_if : List Name → Option (Option ClassTerms) → ℕ → Option MethodTree
methods_if names (Some (Some class)) member = method_if names (slice_get class.methods.items member)
methods_if names _ member = None

unfoldable pub method_in : List Name → Terms → ℕ → ℕ → Option MethodTree
method_in names terms class member = methods_if names (slice_get terms.classes.items class) member

-- whether a graph of calls leads from one member to another
abbrev pub leads_to : ℕ → ℕ → Option Graph → Bool
leads_to one other None = false
leads_to one other (Some calls) = reaches calls one other

abbrev pub leads_in : ℕ → ℕ → Option (Option ClassTerms) → Bool
leads_in one other (Some (Some class)) = leads_to one other class.calls
leads_in one other _ = false

-- whether a method of a class is another one, or calls on `this` lead from that to it
unfoldable pub reached_in : Terms → ℕ → ℕ → ℕ → Bool
reached_in terms class one other = nat_eq one other || leads_in one other (slice_get terms.classes.items class)

-- classes, by their names
abbrev pub class_names : List Name → Option (Vec Symbol Global) → List Name
class_names names None = []
class_names names (Some classes) = map (name_of names) classes.items

-- the classes made at a place
unfoldable pub made_in : List Name → Terms → ℕ → List Name
made_in names terms place = class_names names (lookup (nat_eq place) terms.made.entries)
