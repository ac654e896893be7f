use Rattle.abs_command.proofs.FindingsLemmas.{findings_once, tells_chains}
use Rattle.abs_command.proofs.analysis.findings_are_exact.Goals as goal

pub returns-clause-chains : goal.returns-clause-chains
returns-clause-chains c program depth facts pairs report findings =
    tells_chains c.reports_are_exact.ensures.empty c.reports_are_exact.ensures.lists program findings.found report
    findings.report_is

pub returns-clause-one : goal.returns-clause-one
returns-clause-one c program depth facts pairs facts' pairs' report report' one other =
    findings_once c.reports_are_exact.ensures.one program depth facts pairs facts' pairs' report report' one other
