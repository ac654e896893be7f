-- What a source over memory holds and what it has counted.
--
--   `files_of`, `under_name`           its files, and what it holds under a name
--   `options_of`                       how its reads go
--   `left_of`                          the bytes that are left to read
--   `reads_of`, `faults_of`            how many reads there were, and how many failed
--   `missing_of`                       how many names were missing
use Rattle.std.specs.Prelude.{ℕ, List, drop}
use Rattle.abs_outside.specs.Names.{Under}
use Rattle.abs_outside.specs.Files.{first_named, selected_content}
use Rattle.abs_outside.specs.declared.call_options.CallOptions.{CallOptions}
use Rattle.abs_outside.specs.declared.memory_source.NamedBytes.{NamedBytes}
use Rattle.abs_outside.specs.declared.memory_source.MemorySource.{MemorySource}

-- the files that the source holds
abbrev pub files_of : MemorySource → List NamedBytes
files_of source = source.files.items

-- how its reads go: the most bytes that one hands over, and which fail
abbrev pub options_of : MemorySource → CallOptions
options_of source = source.options

-- how many reads there were
abbrev pub reads_of : MemorySource → ℕ
reads_of source = source.reads

-- how many reads failed
abbrev pub faults_of : MemorySource → ℕ
faults_of source = source.faults

-- how many names were missing
abbrev pub missing_of : MemorySource → ℕ
missing_of source = source.missing

-- what the source holds under a name
abbrev pub under_name : MemorySource → List ℕ → Under
under_name source name = first_named (files_of source) name

-- the bytes of the selected file that are left to read
abbrev pub left_of : MemorySource → List ℕ
left_of source = drop source.position (selected_content source.files.items source.selected)
