use Rattle.std.proofs.Common.{arith}
use Rattle.abs_parser.specs.Views.{spot}
use Rattle.abs_parser.proofs.reader.DeclarationListSteps.{refused_no_declaration, no_declaration_at_end, no_declaration_kind, no_declaration_keyword}
use Rattle.abs_parser.proofs.reader.ResultLemmas.{passed_on}
use Rattle.abs_parser.proofs.reader.FoundLemmas.{found_shorter, found_weaker}
use Rattle.abs_parser.proofs.programs.declaration.Goals.{in-Data+in_ok-data-in-Data, in-Def+in_ok-function-in-Def, in-Interface+in_ok-decl-in-Interface}
use Rattle.abs_parser.proofs.programs.declaration.Goals as goal

pub returns-in_default-clause-parses : goal.returns-in_default-clause-parses
returns-in_default-clause-parses c =
    refused_no_declaration (spot c.args.from) _ c.wrong.ensures
    (no_declaration_at_end (spot c.args.from) c.in_default.ensures.none)

pub returns-in_default-kind-clause-parses : goal.returns-in_default-kind-clause-parses
returns-in_default-kind-clause-parses c =
    let none = no_declaration_kind c.in-Some.ensures.some c.in_default-kind.not-Keyword in
    refused_no_declaration (spot c.args.from) _ c.wrong-in_default-kind.ensures none

pub returns-in_default-keyword-clause-parses : goal.returns-in_default-keyword-clause-parses
returns-in_default-keyword-clause-parses c =
    let other = c.in_default-keyword in
    let none = no_declaration_keyword c.in-Keyword.keyword c.in-Some.ensures.some c.in-Keyword.is
    (other.not-Data, (other.not-Def, (other.not-Interface, (other.not-Class, tt)))) in
    refused_no_declaration (spot c.args.from) _ c.wrong-in_default-keyword.ensures none

pub returns-in_err-data-in-Data-clause-parses : goal.returns-in_err-data-in-Data-clause-parses
returns-in_err-data-in-Data-clause-parses c =
    passed_on _ _ c.from_residual.result c.from_residual.ensures.1 c.in_err-data-in-Data.ensures.parses

pub returns-in_err-function-in-Def-clause-parses : goal.returns-in_err-function-in-Def-clause-parses
returns-in_err-function-in-Def-clause-parses c =
    passed_on _ _ c.from_residual-in_err-function-in-Def.result c.from_residual-in_err-function-in-Def.ensures.1
    c.in_err-function-in-Def.ensures.parses

pub returns-in_err-decl-in-Interface-clause-parses : goal.returns-in_err-decl-in-Interface-clause-parses
returns-in_err-decl-in-Interface-clause-parses c =
    passed_on _ _ c.from_residual-in_err-decl-in-Interface.result c.from_residual-in_err-decl-in-Interface.ensures.1
    c.in_err-decl-in-Interface.ensures.parses

pub returns-clause-parses : goal.returns-clause-parses
returns-clause-parses c =
    elim c.match-keyword.branch [
      | in-Data+in_ok-data-in-Data w ↦
          rw (w.symbols-is, w.decl-is) (found_weaker w.in_ok-data-in-Data.ensures.parses
          (λ names more read. read c.args.index))
      | in-Def+in_ok-function-in-Def w ↦
          rw (w.symbols-is, w.decl-is) (found_weaker w.in_ok-function-in-Def.ensures.parses
          (λ names more read. read c.args.index))
      | in-Interface+in_ok-decl-in-Interface w ↦
          rw (w.symbols-is, w.decl-is) (found_weaker w.in_ok-decl-in-Interface.ensures.parses
          (λ names more read. read c.args.index))
    ]

pub returns-clause-free : goal.returns-clause-free
returns-clause-free c names =
    elim c.match-keyword.branch [
      | in-Data+in_ok-data-in-Data w ↦ rw w.decl-is (omega (arith, w.in_ok-data-in-Data.ensures.none names))
      | in-Def+in_ok-function-in-Def w ↦ rw w.decl-is (omega (arith, w.in_ok-function-in-Def.ensures.none names))
      | in-Interface+in_ok-decl-in-Interface w ↦
          rw w.decl-is (omega (arith, w.in_ok-decl-in-Interface.ensures.none names))
    ]

pub returns-clause-few : goal.returns-clause-few
returns-clause-few c =
    elim c.match-keyword.branch [
      | in-Data+in_ok-data-in-Data w ↦
          rw w.decl-is (let few = found_shorter w.in_ok-data-in-Data.ensures.parses in omega arith)
      | in-Def+in_ok-function-in-Def w ↦
          rw w.decl-is (let few = found_shorter w.in_ok-function-in-Def.ensures.parses in omega arith)
      | in-Interface+in_ok-decl-in-Interface w ↦
          rw w.decl-is (let few = found_shorter w.in_ok-decl-in-Interface.ensures.parses in omega arith)
    ]
