-- From what a read left of the source to what was taken from it.
use Rattle.std.proofs.Common.{◌≡◌, ℕ, ◌+◌, ◌≤◌, List, [], ◌++◌, refl, sym, ap, subst, ◌∙◌, length, take, inl, inr, arith, nat_le}
use Rattle.std.proofs.lemmas.Bool.Decides.{nat_tests}
use Rattle.std.proofs.Math.Seq.{take-append_seam}
use Rattle.std.proofs.lemmas.List.{append-nil, take_all}
use Rattle.std.proofs.lemmas.Option.{same_Some}
use Rattle.std.specs.Prelude.{Option, Some, None, ◌⊎◌, Bool, true, false}
use Rattle.std.specs.Io.KnownBytes.{Consumes}
use Rattle.abs_options.specs.CommandLine.{AreCommandWords, made_of}
use Rattle.abs_options.specs.Generated.{made_text}
use Rattle.abs_outside.specs.Names.{Under, Unstated, Absent, Holding}
use Rattle.abs_command.specs.declared.command.Status.{Status}
use Rattle.abs_command.specs.declared.command.Status.TheVariants as status
use Rattle.abs_tree.specs.Limits.{source_limit}
use Rattle.abs_command.specs.Bytes.{TakesWhole}
use Rattle.abs_command.specs.Promises.{IsGiven, BytesIn}
use Rattle.abs_command.specs.Views.{SourceView}
use Rattle.abs_command.specs.Statuses.{WasRead}
use Rattle.abs_command.specs.Taking.{TookWhole, TookSome}
use Rattle.abs_command.specs.Words.{Makes, Names}
use Rattle.abs_command.proofs.AnswerLemmas.{named_once}
use Rattle.abs_command.proofs.InputLemmas.{none_made, not_both}

few_or_many : (n : ℕ) → n ≤ source_limit + 1 → (n ≤ source_limit) ⊎ (n ≡ source_limit + 1)
few_or_many n h = by (nat_le n source_limit) refl
  where
    by : (b : Bool) → nat_le n source_limit ≡ b → (n ≤ source_limit) ⊎ (n ≡ source_limit + 1)
    by true e = inl (grind (arith, nat_tests))
    by false e = inr (grind (arith, nat_tests))

-- All bytes were taken, or one more than a source may have.
taken_by : (content bytes rest : List ℕ) → content ≡ bytes ++ rest → (length bytes ≤ source_limit → rest ≡ [])
    → (length bytes ≤ source_limit) ⊎ (length bytes ≡ source_limit + 1)
    → bytes ≡ take (source_limit + 1) content
taken_by content bytes rest e whole (inl few) =
    let all : content ≡ bytes = e ∙ (ap (λ (more : List ℕ). bytes ++ more) (whole few) ∙ append-nil bytes) in
    let short : length bytes ≤ source_limit + 1 = omega arith in
    sym (take_all (source_limit + 1) bytes short) ∙ ap (take (source_limit + 1)) (sym all)
taken_by content bytes rest e whole (inr many) =
    sym (take-append_seam bytes rest)
    ∙ (ap (λ (n : ℕ). take n (bytes ++ rest)) many ∙ ap (take (source_limit + 1)) (sym e))

taken_whole : (content : List ℕ) (left : Option (List ℕ)) (bytes : List ℕ) → TakesWhole (Some content) left bytes
    → bytes ≡ take (source_limit + 1) content
taken_whole content None bytes h = absurd h.taken
taken_whole content (Some rest) bytes h =
    taken_by content bytes rest h.taken h.all_of_it (few_or_many (length bytes) h.at_most)

most_taken : (under : Under) (left : Option (List ℕ)) (bytes : List ℕ) → TookWhole under left bytes
    → length bytes ≤ source_limit + 1
most_taken Unstated left bytes h = h
most_taken Absent left bytes h = absurd h
most_taken (Holding content) left bytes h = h.at_most

-- the content that the source tells is that of the file that was read
reported : (words : List (List ℕ)) (source : SourceView) (file content : List ℕ) → Names words file
    → IsGiven words source content → source.under file ≡ Holding content
reported words source file content named given =
    ap source.under (named_once words file given.file named given.named) ∙ given.held

-- The file was read to its end, or past the limit.
pub read_whole : (words : List (List ℕ)) (source source' : SourceView) (file bytes : List ℕ) (came : Status)
    → Names words file
    → TookWhole (source.under file) source'.left bytes → source'.missing ≡ source.missing
    → ((name : List ℕ) → source'.under name ≡ source.under name)
    → BytesIn words source source' bytes came
read_whole words source source' file bytes came named took missing same = record {
  made = λ count makes. absurd (not_both words file count named makes);
  at_most = λ other names. most_taken (source.under file) source'.left bytes took;
  taken = λ content given. inl (subst (λ (u : Under). TookWhole u source'.left bytes)
      (reported words source file content named given) took).taken;
  whole = λ content given read. taken_whole content source'.left bytes
      (subst (λ (u : Under). TookWhole u source'.left bytes) (reported words source file content named given) took);
  absent = λ other names gone read.
      subst (λ (u : Under). TookWhole u source'.left bytes)
      (ap source.under (named_once words file other named names) ∙ gone) took;
  missing = λ read. missing;
  same_names = same;
}

-- some bytes that were taken before a read failed
pub record SomeTaken (under : Under) (left : Option (List ℕ)) : Type 0 where
  pub bytes : List ℕ
  pub at_most : length bytes ≤ source_limit + 1
  pub taken : (content : List ℕ) → under ≡ Holding content → Consumes (Some content) left bytes

pub some_taken : (under : Under) (old new : Option (List ℕ)) → TookSome under old new → SomeTaken under new
some_taken Unstated old new h = record { bytes = []; at_most = omega arith; taken = λ content e. absurd (cc) }
some_taken Absent old new h = record { bytes = []; at_most = omega arith; taken = λ content e. absurd (cc) }
some_taken (Holding held) old new h = record {
  bytes = h.bytes;
  at_most = h.at_most;
  taken = λ content e. let same : held ≡ content =
      cc in subst (λ (c : List ℕ). Consumes (Some c) new h.bytes) same h.taken;
}

-- The file was not read to its end.
pub read_in_part : (words : List (List ℕ)) (source source' : SourceView) (file : List ℕ) (came : Status)
    → Names words file → (WasRead came → ⊥)
    → (part : SomeTaken (source.under file) source'.left) → ((name : List ℕ) → source'.under name ≡ source.under name)
    → BytesIn words source source' part.bytes came
read_in_part words source source' file came named failed part same = record {
  made = λ count makes. absurd (not_both words file count named makes);
  at_most = λ other names. part.at_most;
  taken = λ content given. inl (part.taken content (reported words source file content named given));
  whole = λ content given read. absurd (failed read);
  absent = λ other names gone read. failed read;
  missing = λ read. absurd (failed read);
  same_names = same;
}

-- Nothing was read, since the words name no file, and these bytes are the text of the program that they make.
nothing_taken : (words : List (List ℕ)) (source : SourceView) (bytes : List ℕ) (came : Status)
    → ((file : List ℕ) → Names words file → ⊥) → ((count : ℕ) → Makes words count → bytes ≡ made_text count)
    → BytesIn words source source bytes came
nothing_taken words source bytes came none is = record {
  made = is;
  at_most = λ file names. absurd (none file names);
  taken = λ content given. absurd (none given.file given.named);
  whole = λ content given read. absurd (none given.file given.named);
  absent = λ file names gone read. none file names;
  missing = λ read. refl;
  same_names = λ name. refl;
}

-- The words are not of the command, and nothing was read.
pub nothing_read : (words : List (List ℕ)) (source : SourceView) (came : Status) → (AreCommandWords words → ⊥)
    → BytesIn words source source [] came
nothing_read words source came none =
    nothing_taken words source [] came (λ file names. none names.of_command) (λ count makes. absurd (none makes.of_command))

-- The words ask for a generated program, and nothing was read.
pub text_made : (words : List (List ℕ)) (source : SourceView) (count : ℕ) (came : Status) → Makes words count
    → BytesIn words source source (made_text count) came
text_made words source count came makes =
    nothing_taken words source (made_text count) came (λ file names. not_both words file count names makes)
    (λ other others. ap made_text (same_Some _ _ (sym makes.is ∙ others.is)))

-- the text of the generated program, where the words ask for one
text_for : Option ℕ → List ℕ
text_for None = []
text_for (Some count) = made_text count

-- the bytes of a call that came to nothing before the words were read
pub unread_text : List (List ℕ) → List ℕ
unread_text words = text_for (made_of words)

-- Memory ran out while the words were read.
pub nothing_called : (words : List (List ℕ)) (source : SourceView) (came : Status) → came ≡ status.Memory
    → BytesIn words source source (unread_text words) came
unfolding unread_text text_for
nothing_called words source came memory = record {
  made = λ count makes. ap text_for makes.is;
  at_most = λ file names. subst (λ (made : Option ℕ). length (text_for made) ≤ source_limit + 1)
      (sym (none_made words file names)) (omega arith);
  taken = λ content given. inr (memory, refl);
  whole = λ content given read. absurd (subst WasRead memory read);
  absent = λ file names gone read. subst WasRead memory read;
  missing = λ read. refl;
  same_names = λ name. refl;
}
