-- Files in memory, each a name and its bytes.
--
--   `has_name`, `first_named`          the first file of a name, and what it holds
--   `content`, `selected_content`      the bytes of a file, given by itself or by its index
use Rattle.std.specs.Prelude.{ℕ, Bool, List, [], Option, Some, None, find, slice_get, bytes_eq}
use Rattle.abs_outside.specs.Names.{Under}
use Rattle.abs_outside.specs.Names.Under.{Absent, Holding}
use Rattle.abs_outside.specs.declared.memory_source.NamedBytes.{NamedBytes}

-- whether the file has this name
abbrev pub has_name : List ℕ → NamedBytes → Bool
has_name name file = bytes_eq file.name.items name

-- what a source holds under a name, given the file that was found for the name
abbrev pub found : Option NamedBytes → Under
found None = Absent
found (Some file) = Holding file.content.items

-- what a source holds under a name: the content of the first file of that name
abbrev pub first_named : List NamedBytes → List ℕ → Under
first_named files name = found (find (has_name name) files)

-- the bytes of a file; without a file none
abbrev pub content : Option NamedBytes → List ℕ
content None = []
content (Some file) = file.content.items

-- the bytes of the file at an index; without an index none
abbrev pub selected_content : List NamedBytes → Option ℕ → List ℕ
selected_content files None = []
selected_content files (Some index) = content (slice_get files index)
