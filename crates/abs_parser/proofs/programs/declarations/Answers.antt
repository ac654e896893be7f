use Rattle.std.proofs.Common.{arith, sym, ◌∙◌}
use Rattle.abs_parser.specs.Views.{spot}
use Rattle.abs_parser.proofs.grammar.FirstPlaceLemmas.{found_fewer}
use Rattle.abs_parser.proofs.reader.ResultLemmas.{error_passed_on}
use Rattle.abs_parser.proofs.reader.DeclarationListSteps.{no_declaration_yet, next_declaration, refused_declaration, declarations_found}
use Rattle.abs_parser.proofs.programs.declarations.Goals as goal

pub loop-alloc-init : goal.loop-alloc-init
loop-alloc-init c = record {
  read =
      no_declaration_yet c.args.symbols.now c.args.index (spot c.args.from) c.new-declarations.ensures.items;
}

pub declaration-requires-clause-names : goal.declaration-requires-clause-names
declaration-requires-clause-names c = let few = c.loop-alloc.invariant.read.read.few in omega arith

pub declaration-requires-clause-few : goal.declaration-requires-clause-few
declaration-requires-clause-few c = let few = c.loop-alloc.invariant.read.few in omega arith

pub returns-in_err-next-clause-refused : goal.returns-in_err-next-clause-refused
returns-in_err-next-clause-refused c =
    error_passed_on _ c.from_residual.result c.from_residual.ensures.1
    (refused_declaration _ c.loop-alloc.invariant.read (sym c.is.ensures ∙ c.loop-alloc-test.true)
    c.in_err-next.ensures.parses)

pub loop-alloc-smaller : goal.loop-alloc-smaller
loop-alloc-smaller c = let shorter = found_fewer c.in_ok-next.ensures.parses in omega arith

pub loop-alloc-preserved : goal.loop-alloc-preserved
loop-alloc-preserved c =
    let next = c.in_ok-next.ensures in
    record {
      read = next_declaration c.in_ok-next.next c.in_ok-push.ensures.items c.loop-alloc.invariant.read
          next.parses next.free next.few;
    }

pub returns-clause-found : goal.returns-clause-found
returns-clause-found c = declarations_found c.loop-alloc.invariant.read (sym c.is.ensures ∙ c.loop-alloc-test.false)

pub returns-clause-free : goal.returns-clause-free
returns-clause-free c = c.loop-alloc.invariant.read.is_free

pub returns-clause-few : goal.returns-clause-few
returns-clause-few c = c.loop-alloc.invariant.read.few
