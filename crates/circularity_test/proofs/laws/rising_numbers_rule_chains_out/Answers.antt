use Rattle.std.proofs.Common.{[]}
use Rattle.circularity_test.proofs.RisingLemmas.{chain_level, climbing_ends, climbing_free, report_kept}
use Rattle.circularity_test.proofs.laws.rising_numbers_rule_chains_out.Goals as goal

pub returns-clause-no_way_back : goal.returns-clause-no_way_back
returns-clause-no_way_back c = climbing_ends

pub returns-clause-in_no_chain : goal.returns-clause-in_no_chain
returns-clause-in_no_chain c = climbing_free

pub returns-clause-level : goal.returns-clause-level
returns-clause-level c = chain_level

pub returns-clause-report : goal.returns-clause-report
returns-clause-report c program pairs numbers rising chains report =
    report_kept program pairs numbers rising pairs [] chains report
