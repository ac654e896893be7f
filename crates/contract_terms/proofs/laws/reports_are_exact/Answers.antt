use Rattle.contract_terms.proofs.ReportLemmas.{reports_same, report_empty, listed_after, listed_all}
use Rattle.std.proofs.Common.{[]}
use Rattle.contract_terms.proofs.laws.reports_are_exact.Goals as goal

pub returns-clause-one : goal.returns-clause-one
returns-clause-one c program pairs chains others one other = reports_same program pairs pairs [] chains others one other

pub returns-clause-empty : goal.returns-clause-empty
returns-clause-empty c program pairs chains report = report_empty program pairs chains report

pub returns-clause-lists : goal.returns-clause-lists
returns-clause-lists c program pairs before after chain report = listed_after program pairs before after chain report

pub returns-clause-all : goal.returns-clause-all
returns-clause-all c program pairs chains chain report circular one get step held =
    listed_all program pairs chains chain report circular one get step held
