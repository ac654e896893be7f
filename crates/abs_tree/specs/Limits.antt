-- The limits of sources, of programs and of runs, each defined once. The code has the same numbers as constants.
--
--   `source_limit`         the bytes of a source                                            1,048,576
--   `nesting_limit`        the counted nonterminals in which a token may be nested               100
--   `table_limit`          the names of a program, its statements, the slots of a body,
--                          the fields of a class                                          268,435,456
--   `parsed_table_limit`   the names, statements and variables of a parsed source           4,194,304
--   `event_limit`          the events of a run                                                100,000
--   `level_limit`          the levels of evaluation                                             2,000
--   `application_limit`    the function applications of a statement                         1,000,000
--   `string_limit`         the bytes of a string that a run makes                              65,536
--   `node_limit`           the nodes of a value                                               100,000
--   `depth_limit`          the nodes of a value that are nested                                 5,000
use Rattle.std.specs.Prelude.{ℕ}

-- the bytes that a source may have
abbrev pub source_limit : ℕ
source_limit = 1048576

-- the counted nonterminals in which a token may be nested
abbrev pub nesting_limit : ℕ
nesting_limit = 100

-- the names and the statements that a program may have, the slots of a body, and the fields of a class
abbrev pub table_limit : ℕ
table_limit = 268435456

-- the names, the statements and the variables that a parsed source has at most
abbrev pub parsed_table_limit : ℕ
parsed_table_limit = 4194304

-- the events that a run may have
abbrev pub event_limit : ℕ
event_limit = 100000

-- the levels of evaluation, of which a statement's own expression has the first
abbrev pub level_limit : ℕ
level_limit = 2000

-- the function applications that a statement may make
abbrev pub application_limit : ℕ
application_limit = 1000000

-- the bytes that a string made by a run may have
abbrev pub string_limit : ℕ
string_limit = 65536

-- the nodes that a value may have
abbrev pub node_limit : ℕ
node_limit = 100000

-- the nodes of a value that may be nested
abbrev pub depth_limit : ℕ
depth_limit = 5000
