-- Each getter reads what the words give, and each number is in the range of its option.
use Rattle.std.proofs.Common.{◌∙◌, codes, refl, ap, arith, unwrap_or}
use Rattle.abs_options.specs.CommandLine.{asks_check, asks_trace, workers_of, depth_of, steps_of, facts_of}
use Rattle.abs_options.proofs.GetterLemmas.{flag-read, unwrap_or-within}
use Rattle.abs_options.proofs.words.asked.Goals as goal

pub overflow_cast-result : goal.overflow_cast-result
overflow_cast-result c =
    let read = c.number_given.ensures c.requires.0 16 c.requires.1 refl in
    let range = unwrap_or-within 16 4 c.unwrap_or.result c.number_given.result read.1 (omega arith) (omega arith) c.unwrap_or.ensures in
    omega arith

pub overflow_cast-result-2 : goal.overflow_cast-result-2
overflow_cast-result-2 c =
    let read = c.number_given-2.ensures c.requires.0 3 c.requires.1 refl in
    let range = unwrap_or-within 3 1 c.unwrap_or-2.result c.number_given-2.result read.1 (omega arith) (omega arith) c.unwrap_or-2.ensures in
    omega arith

pub returns-clause-options : goal.returns-clause-options
unfolding asks_check asks_trace workers_of depth_of steps_of facts_of
returns-clause-options c = λ words are.
    let m = c.args.matches.now in
    record {
      check = flag-read words m are (codes "check") c.get_flag.result refl c.get_flag.ensures.none c.get_flag.ensures.value c.get_flag.ensures.other;
      trace = flag-read words m are (codes "trace") c.get_flag-2.result refl c.get_flag-2.ensures.none c.get_flag-2.ensures.value c.get_flag-2.ensures.other;
      workers = c.unwrap_or.ensures ∙ ap (λ o. unwrap_or o 4) (c.number_given.ensures words 16 are refl).0;
      depth = c.unwrap_or-2.ensures ∙ ap (λ o. unwrap_or o 1) (c.number_given-2.ensures words 3 are refl).0;
      steps = c.unwrap_or-3.ensures ∙ ap (λ o. unwrap_or o 100000) (c.number_given-3.ensures words 10000000 are refl).0;
      facts = c.unwrap_or-4.ensures ∙ ap (λ o. unwrap_or o 1000000) (c.number_given-4.ensures words 4000000 are refl).0;
      input = c.in_ok-input.ensures.input words are;
    }

pub returns-clause-in_range : goal.returns-clause-in_range
returns-clause-in_range c =
    let words = c.requires.0 in
    let are = c.requires.1 in
    record {
      workers = unwrap_or-within 16 4 _ _ (c.number_given.ensures words 16 are refl).1 (omega arith) (omega arith) c.unwrap_or.ensures;
      depth = unwrap_or-within 3 1 _ _ (c.number_given-2.ensures words 3 are refl).1 (omega arith) (omega arith) c.unwrap_or-2.ensures;
      steps = unwrap_or-within 10000000 100000 _ _ (c.number_given-3.ensures words 10000000 are refl).1 (omega arith) (omega arith) c.unwrap_or-3.ensures;
      facts = unwrap_or-within 4000000 1000000 _ _ (c.number_given-4.ensures words 4000000 are refl).1 (omega arith) (omega arith) c.unwrap_or-4.ensures;
      make = c.in_ok-input.ensures.in_range;
    }
