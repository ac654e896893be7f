-- What a source over the system's files has counted, and which file it reads.
--
--   `under_name`, `left_of`            what it tells of its bytes: nothing
--   `missing_of`, `faults_of`          how many names were missing, and how many reads failed
--   `selected_of`, `reported_by`       the selected file, and what that file tells of its bytes
use Rattle.std.specs.Prelude.{ℕ, List, [], Option, Some, None}
use Rattle.abs_outside.specs.Names.{Under}
use Rattle.abs_outside.specs.Names.Under.{Unstated}
use Rattle.abs_outside.specs.declared.file_source.FileSource.{FileSource}

-- what it holds under a name is not reported, since a file may change at any time
abbrev pub under_name : {R F D : Type 0} → FileSource R F D → List ℕ → Under
under_name source name = Unstated

-- nor are the bytes that are left
abbrev pub left_of : {R F D : Type 0} → FileSource R F D → Option (List ℕ)
left_of source = None

-- how many names were missing
abbrev pub missing_of : {R F D : Type 0} → FileSource R F D → ℕ
missing_of source = source.missing

-- how many reads failed
abbrev pub faults_of : {R F D : Type 0} → FileSource R F D → ℕ
faults_of source = source.faults

-- the file that is selected
abbrev pub selected_of : {R F D : Type 0} → FileSource R F D → Option F
selected_of source = source.selected

-- the bytes that the selected file tells that it has left; if no file is selected, none are left
abbrev pub reported_by : {F : Type 0} → (F → Option (List ℕ)) → Option F → Option (List ℕ)
reported_by tells None = Some []
reported_by tells (Some file) = tells file
