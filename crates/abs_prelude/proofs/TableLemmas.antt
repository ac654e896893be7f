-- The table of codes stands for the declarations of the prelude.
use Rattle.std.proofs.Common.{◌≡◌, refl}
use Rattle.abs_prelude.specs.Codes.{trees_of, with_code, left, last, final}
use Rattle.abs_prelude.specs.Prelude.{prelude, prelude_names}
use Rattle.abs_prelude.specs.declared.table.TheConstants.{CODES}

pub table_trees : trees_of CODES.now ≡ prelude
unfolding trees_of left last final prelude prelude_names
table_trees = refl
