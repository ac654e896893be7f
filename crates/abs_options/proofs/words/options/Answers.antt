-- The matches are those of the words, and a refusal of `clap` that is not for memory names a fault.
use Rattle.std.proofs.Common.{◌≡◌, ◌∙◌, List, [], map, ap, ap₂, sym, subst, inl, inr, true, string_bytes}
use denote.Enum.Bare.{same_false}
use Rattle.clap.specs.contracts.error.kind.ErrorKind.{the_type}
use Rattle.clap.specs.Faults.{fault_of, is_simple_and_free}
use Rattle.clap.specs.Kinds.{IsAmong}
use Rattle.clap.specs.Simple.{App, HasMatchesOf, is_simple, matches_of}
use Rattle.clap.specs.Walk.{Text}
use Rattle.clap.specs.declared.error.kind.ErrorKind.TheVariants.{OutOfMemory}
use Rattle.clap.specs.declared.parser.matches.ArgMatches.{ArgMatches}
use Rattle.abs_options.specs.CommandLine.{AreMatchesOf, command_line, spelled}
use Rattle.abs_options.proofs.words.options.Goals as goal

are_matches : (app : App) (texts words : List Text) (m : ArgMatches) → app ≡ command_line → texts ≡ words → HasMatchesOf app texts m
    → (is_simple_and_free app ≡ true → fault_of app texts ≡ []) → AreMatchesOf words m
are_matches app texts words m is same matches kinds = record {
  faultless = sym (ap₂ fault_of is same) ∙ kinds (ap is_simple_and_free is);
  rows = (matches (ap is_simple is)).0 ∙ ap₂ matches_of is same;
}

pub asked-requires : goal.asked-requires
asked-requires c =
    let parse = c.in-Ok-try_get_matches_from in
    let words = spelled c.args.words.now in
    (words, are_matches _ _ words parse.matches c.in-Ok.ensures (ap (map string_bytes) c.as_slice.ensures.value) parse.ensures.matches parse.ensures.kinds)

pub returns-in-Ok-try_get_matches_from : goal.returns-in-Ok-try_get_matches_from
returns-in-Ok-try_get_matches_from c =
    let parse = c.in-Ok-try_get_matches_from in
    let words = spelled c.args.words.now in
    let are = are_matches _ _ words parse.matches c.in-Ok.ensures (ap (map string_bytes) c.as_slice.ensures.value) parse.ensures.matches parse.ensures.kinds in
    record {
      of_command = c.asked.ensures.of_command words are;
      options = c.asked.ensures.options words are;
      in_range = c.asked.ensures.in_range;
      usage = c.asked.ensures.usage words are;
    }

pub returns-in-Err-2-clause-usage : goal.returns-in-Err-2-clause-usage
returns-in-Err-2-clause-usage c = λ _ of_command.
    let texts : map string_bytes c.as_slice.result.now ≡ spelled c.args.words.now = ap (map string_bytes) c.as_slice.ensures.value in
    let none = ap₂ fault_of c.in-Ok.ensures texts ∙ of_command.faultless in
    elim (c.in-Err.ensures.kinds (ap is_simple_and_free c.in-Ok.ensures)) [
      | inl memory ↦ same_false the_type c.kind.result OutOfMemory (sym c.eq.ensures ∙ c.if-eq.false) (c.kind.ensures ∙ memory)
      | inr among ↦ subst (IsAmong _) none among
    ]
