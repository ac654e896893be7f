-- What an error of the lexer means.
--
--   `RefusesText`          why the lexer returns no tokens
--   `RefusesLexing`        a refusal is that of the source's first lexical offence
use Rattle.std.specs.Prelude.{◌≡◌, ℕ, List}
use Rattle.abs_tree.specs.declared.refusal.Offence.{Offence}
use Rattle.abs_tree.specs.declared.refusal.Refusal.{Refusal}
use Rattle.abs_tree.specs.declared.source_error.SourceError.{SourceError}
use Rattle.abs_tree.specs.Refusals.{refusal_of}
use Rattle.abs_tree.specs.SourceErrors.{HasCause}
use Rattle.abs_lexer.specs.Offences.{IsFirstLexical}

-- the refusal is that of the source's first lexical offence
pub record RefusesLexing (source : List ℕ) (refusal : Refusal) : Type 0 where
  pub first : Offence
  pub is_first : IsFirstLexical source first
  pub refusal_is : refusal ≡ refusal_of first

-- a refusal is that of the first lexical offence; out of memory needs no cause
abbrev pub RefusesText : SourceError → List ℕ → Type 0
RefusesText error source = HasCause (RefusesLexing source) error
