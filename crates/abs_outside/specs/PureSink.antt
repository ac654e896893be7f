-- What a sink that keeps nothing tells.
--
--   `written_of`, `faults_of`          its bytes are not reported, and no write fails
use Rattle.std.specs.Prelude.{ℕ, List, Option, None}
use Rattle.abs_outside.specs.declared.pure_sink.PureSink.{PureSink}

-- the bytes that were written are not reported, since it keeps none
abbrev pub written_of : PureSink → Option (List ℕ)
written_of sink = None

-- no write ever fails
abbrev pub faults_of : PureSink → ℕ
faults_of sink = 0
