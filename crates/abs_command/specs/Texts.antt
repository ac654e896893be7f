-- The bytes of the output of the command, but for reports and refusals. Each line ends with a line feed.
--
--   `usage_line`, `too_large_line`     the lines for other words, and for a source that is too large
--   `too_many_line`                    the line for a program of which too many facts are derived
--   `heading`                          the lines before the report of a generated program
--   `end_text`                         what a run printed, how it ended, and the faults of its tasks
--   `trace_text`                       the task of each event of a run
--   `first_piece`, `last_piece`        what is written before the run, and what is written after it
use Rattle.std.specs.Prelude.{ℕ, ◌+◌, Bool, true, false, List, [], ◌∷◌, ◌++◌, length, Option, Some, None, codes, decimal, count_by, is_none}
use Rattle.std.specs.List.{flat_map}
use Rattle.abs_options.specs.CommandLine.{asks_trace, made_of}
use Rattle.abs_tree.specs.Syntax.{ProgramTree}
use Rattle.abs_values.specs.Results.{Result, Gives, Fails}
use Rattle.abs_values.specs.Faults.{fault_name}
use Rattle.config_state.specs.Configurations.{TaskState}
use Rattle.contract_terms.specs.declared.pair.Pair.{Pair}
use Rattle.report_printer.specs.ReportTexts.{report_lines}
use Rattle.step_rules.specs.declared.kind.End.{End}
use Rattle.step_rules.specs.declared.kind.End.TheVariants.{Done, Stalled, Spent}

-- the line for words that are not a valid command line
abbrev pub usage_line : List ℕ
usage_line =
    codes "usage: abs [--check] [--trace] [--workers N] [--depth N] [--steps N] [--facts N] (FILE | --make N)\n"

-- the line for a source that is too large
abbrev pub too_large_line : List ℕ
too_large_line = codes "too large: source\n"

-- the line for a program of which too many facts are derived
abbrev pub too_many_line : List ℕ
too_many_line = codes "too large: facts\n"

-- how many classes a generated program has, how many facts are derived of it, and how many pairs these give
abbrev pub heading : Option ℕ → (facts pairs : ℕ) → List ℕ
heading None facts pairs = []
heading (Some count) facts pairs =
    codes "made: " ++ (decimal count ++ (codes " classes\nfacts: " ++ (decimal facts
    ++ (codes "\npairs: " ++ (decimal pairs ++ codes "\n")))))

-- the printed strings, a line each
abbrev pub lines_text : List (List ℕ) → List ℕ
lines_text lines = flat_map (λ line. line ++ codes "\n") lines

-- the tasks that have no result
abbrev pub unfinished_of : List TaskState → ℕ
unfinished_of tasks = count_by (λ task. is_none task.outcome) tasks

-- how the run ended, and how many tasks it had; if it stalled or was spent, how many of them are unfinished; if it was
-- spent, how many events it had
abbrev pub end_line : End → ℕ → List TaskState → List ℕ
end_line Done events tasks = codes "done: " ++ (decimal (length tasks) ++ codes " tasks\n")
end_line Stalled events tasks =
    codes "stalled: " ++ (decimal (length tasks)
    ++ (codes " tasks, " ++ (decimal (unfinished_of tasks) ++ codes " unfinished\n")))
end_line Spent events tasks =
    codes "spent: " ++ (decimal events
    ++ (codes " events, " ++ (decimal (length tasks)
    ++ (codes " tasks, " ++ (decimal (unfinished_of tasks) ++ codes " unfinished\n")))))

-- the line of the task of this index, if it ended by a fault
abbrev pub fault_line : ℕ → Option Result → List ℕ
fault_line number None = []
fault_line number (Some (Gives value)) = []
fault_line number (Some (Fails cause)) =
    codes "fault: task " ++ (decimal number ++ (codes ": " ++ (fault_name cause ++ codes "\n")))

-- the lines of the tasks that ended by a fault, in the order of the tasks, the first of which has this index
abbrev pub fault_lines : ℕ → List TaskState → List ℕ
fault_lines number [] = []
fault_lines number (task ∷ tasks) = fault_line number task.outcome ++ fault_lines (number + 1) tasks

-- what a run printed, how it ended, and the faults of its tasks
abbrev pub end_text : List (List ℕ) → End → ℕ → List TaskState → List ℕ
end_text lines end events tasks = lines_text lines ++ (end_line end events tasks ++ fault_lines 0 tasks)

-- the number of each task, a line each
abbrev pub tasks_lines : List ℕ → List ℕ
tasks_lines tasks = flat_map (λ task. decimal task ++ codes "\n") tasks

-- how many events a run had, and the task of each
unfoldable pub trace_text : List ℕ → List ℕ
trace_text tasks = codes "trace: " ++ (decimal (length tasks) ++ (codes " events\n" ++ tasks_lines tasks))

-- the trace, where it is asked for
abbrev pub trace_if : Bool → List ℕ → List ℕ
trace_if false tasks = []
trace_if true tasks = trace_text tasks

-- what is written before the run: the heading of a generated program, and the report
abbrev pub first_piece : List (List ℕ) → List ℕ → ProgramTree → (facts pairs : ℕ) → List (List Pair) → List ℕ
first_piece words bytes program facts pairs report =
    heading (made_of words) facts pairs ++ report_lines bytes program report

-- what is written after the run, of these lines, this end and this history: and the trace, where the words ask for it
abbrev pub last_piece : List (List ℕ) → List (List ℕ) → End → List ℕ → List TaskState → List ℕ
last_piece words lines end history tasks =
    end_text lines end (length history) tasks ++ trace_if (asks_trace words) history
