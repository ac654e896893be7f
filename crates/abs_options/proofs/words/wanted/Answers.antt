-- What is read is the one input of the words.
use Rattle.std.proofs.Common.{◌≡◌, ◌∙◌, codes, refl, sym, arith, true≢false}
use Rattle.abs_options.specs.CommandLine.{file_of, made_of}
use Rattle.abs_options.specs.CommandLine.IsInput.{file, make}
use Rattle.abs_options.proofs.GetterLemmas.{first_value-given, of_command, one_input}
use Rattle.abs_options.proofs.words.wanted.Goals as goal
use Rattle.abs_options.proofs.words.wanted.Goals.{in_default-via-in-Some+in_default, in_default-via-in-None+in_default}

pub overflow_cast-result : goal.overflow_cast-result
overflow_cast-result c =
    let read = c.number_given.ensures c.requires.0 2000 c.requires.1 refl in
    let range = rw c.in-None-Some.is-1 at read.1 in
    omega arith

pub returns-in-Ok-clause-of_command : goal.returns-in-Ok-clause-of_command
returns-in-Ok-clause-of_command c = λ words are.
    of_command words c.args.matches.now are c.get_str.result c.number_given.result c.get_str.ensures (c.number_given.ensures words 2000 are refl).0
    (rw (c.in-Some-None.is-0, c.in-Some-None.is-1) refl)

pub returns-in-Ok-clause-input : goal.returns-in-Ok-clause-input
unfolding file_of
returns-in-Ok-clause-input c = λ words are.
    let text = first_value-given words c.args.matches.now are (codes "file") in
    let name = c.new.ensures ∙ c.in-Ok.ensures.ok in
    file c.new.result (sym text ∙ sym c.get_str.ensures ∙ rw (c.in-Some-None.is-0, name) refl)

pub returns-in-None-Some-clause-of_command : goal.returns-in-None-Some-clause-of_command
returns-in-None-Some-clause-of_command c = λ words are.
    of_command words c.args.matches.now are c.get_str.result c.number_given.result c.get_str.ensures (c.number_given.ensures words 2000 are refl).0
    (rw (c.in-None-Some.is-0, c.in-None-Some.is-1) refl)

pub returns-in-None-Some-clause-input : goal.returns-in-None-Some-clause-input
unfolding made_of
returns-in-None-Some-clause-input c = λ words are.
    make c.in-None-Some.count (sym (c.number_given.ensures words 2000 are refl).0 ∙ c.in-None-Some.is-1)

pub returns-in-None-Some-clause-in_range : goal.returns-in-None-Some-clause-in_range
returns-in-None-Some-clause-in_range c = λ count same.
    let read = c.number_given.ensures c.requires.0 2000 c.requires.1 refl in
    let range = rw c.in-None-Some.is-1 at read.1 in
    let one : c.in-None-Some.count ≡ count = cc in
    rw (← one) range

pub returns-in_default-clause-usage : goal.returns-in_default-clause-usage
returns-in_default-clause-usage c = λ words are _ h.
    let one = one_input words c.args.matches.now are c.get_str.result c.number_given.result c.get_str.ensures (c.number_given.ensures words 2000 are refl).0 h in
    elim c.in_default.branch [
      | in_default-via-in-Some+in_default w ↦ true≢false (rw (w.in_default.is-0, w.in_default.is-1) at one)
      | in_default-via-in-None+in_default w ↦ true≢false (sym (rw (w.in_default.is-0, w.in_default.is-1) at one))
    ]
