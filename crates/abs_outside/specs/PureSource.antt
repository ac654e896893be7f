-- What a source of one content holds.
--
--   `content_of`, `under_name`         its content, under every name
--   `left_of`                          the bytes that are left to read
--   `missing_of`, `faults_of`          no name is missing, and no read fails
use Rattle.std.specs.Prelude.{ℕ, List, drop}
use Rattle.abs_outside.specs.Names.{Under}
use Rattle.abs_outside.specs.Names.Under.{Holding}
use Rattle.abs_outside.specs.declared.pure_source.PureSource.{PureSource}

-- the bytes that it holds under every name
abbrev pub content_of : PureSource → List ℕ
content_of source = source.content.items

-- what it holds under a name: the one content
abbrev pub under_name : PureSource → List ℕ → Under
under_name source name = Holding (content_of source)

-- the bytes that are left to read
abbrev pub left_of : PureSource → List ℕ
left_of source = drop source.position source.content.items

-- no name is ever missing
abbrev pub missing_of : PureSource → ℕ
missing_of source = 0

-- no read ever fails
abbrev pub faults_of : PureSource → ℕ
faults_of source = 0
