use Rattle.step_rules.proofs.OneClassLemmas.{rule_of_used, rule_of_class, rule_of_main, class_in_both, main_in_both}
use Rattle.step_rules.proofs.laws.local_rules_use_one_class.Goals as goal

pub returns : goal.returns
returns c = record {
  used = λ one other frame others fields results names points bodies.
      rule_of_used one other names bodies frame others fields results points;
  class = λ program config frame others fields results name class is own class_is.
      rule_of_class program name class class_is config frame own is others fields results;
  main = λ program config frame others fields results is none.
      rule_of_main program config frame none is others fields results;
  same_class = λ one other config frame others fields results name class names here there is own.
      class_in_both one other names config frame is others fields results name class here there own;
  same_main = λ one other config frame others fields results names same is none.
      main_in_both one other names config frame is others fields results same none;
}
