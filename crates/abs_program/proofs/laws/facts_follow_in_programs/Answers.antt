use Rattle.abs_program.proofs.ProgramFactLemmas.{program_follows, program_starts, facts_at_program_points}
use Rattle.abs_program.proofs.laws.facts_follow_in_programs.Goals as goal

pub returns : goal.returns
returns c = record {
  follow = λ flow may before program index point fact point_is fact_is.
      program_follows flow before may program index point fact point_is fact_is;
  starts = λ flow may before program body is. program_starts flow before may program body is;
  count = λ flow before program. facts_at_program_points flow before program;
}
