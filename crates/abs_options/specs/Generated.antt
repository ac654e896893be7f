-- The text of a generated program: a row of N stages, each a class of its own, which hand a number on from the last to
-- the first and its result back.
--
--   `class_lines`              the classes 1 to N
--   `stage_lines`              the stages 1 to N, which main makes
--   `made_text`                the whole program
use Rattle.std.specs.Prelude.{ℕ, zero, suc, List, [], ◌++◌, codes, decimal}

-- the class of a stage: it adds 1, and lets the next stage go on
abbrev pub class_line : ℕ → List ℕ
class_line number = codes "class C" ++ (decimal number ++ codes
    "(Stage next) implements Stage { Int go(Int x) { Int r = x + 1; if (next != null) { Fut<Int> f = next!go(r); await f?; r = f.get; } return r; } }\n")

-- the classes 1 to N
unfoldable pub class_lines : ℕ → List ℕ
class_lines zero = []
class_lines (suc before) = class_lines before ++ class_line (suc before)

-- what the stage after these goes on with: the last of them, or nothing
abbrev pub next_name : ℕ → List ℕ
next_name zero = codes "null"
next_name (suc before) = codes "s" ++ decimal (suc before)

-- the stage after these
abbrev pub stage_line : ℕ → List ℕ
stage_line before = codes "  Stage s" ++ (decimal (suc before) ++ (codes " = new cog C" ++ (decimal (suc before)
    ++ (codes "(" ++ (next_name before ++ codes ");\n")))))

-- the stages 1 to N
unfoldable pub stage_lines : ℕ → List ℕ
stage_lines zero = []
stage_lines (suc before) = stage_lines before ++ stage_line before

-- the program of N classes
unfoldable pub made_text : ℕ → List ℕ
made_text count = codes "interface Stage { Int go(Int x); }\n" ++ (class_lines count ++ (codes "{\n" ++ (stage_lines count
    ++ (codes "  Fut<Int> f = s" ++ (decimal count
    ++ codes "!go(0);\n  await f?;\n  Int x = f.get;\n  println(toString(x));\n}\n")))))
