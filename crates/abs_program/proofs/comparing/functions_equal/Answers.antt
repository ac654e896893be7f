use Rattle.abs_program.proofs.comparing.functions_equal.Goals as goal

pub returns : goal.returns
returns c =
    rw (← c.deref.ensures.value) (rw (← c.deref-2.ensures.value) (
      λ reported. (c.same_names.ensures.0 c.if-not-same_names.false, c.same_functions.ensures.0 reported),
      λ same. c.same_functions.ensures.1 same.1,
    ))
