-- The printed form of a value.
--
--   `printed_form`                         the form of a whole value, in which a string is itself
--   `inner_form`, `parts_form`             the form inside data, in which a string has quotes, and that of parts
--   `escaped`                              a string with its escapes
use Rattle.std.specs.Prelude.{ℕ, List, [], ◌∷◌, ◌++◌, codes, decimal, flat_map, nat_eq, if◌then◌else◌}
use Rattle.std.specs.Fmt.{signed_decimal}
use Rattle.abs_tree.specs.Names.{name_of}
use Rattle.abs_tree.specs.Syntax.{Name}
use Rattle.abs_values.specs.ValueTrees.{ValueTree, IntValue, StringValue, BuiltValue, ObjectValue, FutureValue, NullValue, ValueTrees, NoPart, NextPart}

-- a byte inside quotes: a quote, a backslash, a line feed, a tab and a carriage return are escaped
abbrev pub escaped_byte : ℕ → List ℕ
escaped_byte byte =
    if nat_eq byte 34 then codes "\\\""
    else if nat_eq byte 92 then codes "\\\\"
    else if nat_eq byte 10 then codes "\\n"
    else if nat_eq byte 9 then codes "\\t"
    else if nat_eq byte 13 then codes "\\r"
    else byte ∷ []

-- a string with its escapes
abbrev pub escaped : List ℕ → List ℕ
escaped string = flat_map escaped_byte string

unfoldable mutual
  -- the form inside data
  pub inner_form : List Name → ValueTree → List ℕ
  inner_form names (IntValue number) = signed_decimal number
  inner_form names (StringValue string) = codes "\"" ++ (escaped string ++ codes "\"")
  inner_form names (BuiltValue constructor parts) =
      name_of names (record { 0 = constructor }) ++ parts_form names parts
  inner_form names (ObjectValue object) = codes "object " ++ decimal object
  inner_form names (FutureValue task) = codes "future " ++ decimal task
  inner_form names NullValue = codes "null"

  -- the parts of a constructor in parentheses; nothing without parts
  pub parts_form : List Name → ValueTrees → List ℕ
  parts_form names NoPart = []
  parts_form names (NextPart first others) = codes "(" ++ (inner_form names first ++ others_form names others)

  -- the parts after the first one, and the closing parenthesis
  pub others_form : List Name → ValueTrees → List ℕ
  others_form names NoPart = codes ")"
  others_form names (NextPart first others) = codes ", " ++ (inner_form names first ++ others_form names others)

-- the form of a whole value: a string is itself
abbrev pub printed_form : List Name → ValueTree → List ℕ
printed_form names (StringValue string) = string
printed_form names (IntValue number) = inner_form names (IntValue number)
printed_form names (BuiltValue constructor parts) = inner_form names (BuiltValue constructor parts)
printed_form names (ObjectValue object) = inner_form names (ObjectValue object)
printed_form names (FutureValue task) = inner_form names (FutureValue task)
printed_form names NullValue = inner_form names NullValue
