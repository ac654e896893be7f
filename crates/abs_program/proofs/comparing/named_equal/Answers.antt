use Rattle.abs_program.proofs.comparing.named_equal.Goals as goal

pub returns-clause-same : goal.returns-clause-same
returns-clause-same c = (
  λ reported. (c.same_names.ensures.0 c.if-not-same_names.false, c.sources_equal.ensures.0 reported),
  λ same. c.sources_equal.ensures.1 same.1,
)

pub returns-clause-tree : goal.returns-clause-tree
returns-clause-tree c =
    let same_names = c.same_names.ensures.0 c.if-not-same_names.false in
    λ reported i. record { names = same_names i; source = c.sources_equal.ensures.0 reported (same_names i) i }
