-- Which calls of a source or a sink over memory fail.
--
--   `NextFails`            the next call is one of those that fail
use Rattle.std.specs.Prelude.{ℕ, Contains}
use Rattle.abs_outside.specs.Calls.{one_more}
use Rattle.abs_outside.specs.declared.call_options.CallOptions.{CallOptions}

-- after this many calls, the number of the next one is among those that fail
abbrev pub NextFails : CallOptions → ℕ → Type 0
NextFails options calls = Contains options.failing.items (one_more calls)
