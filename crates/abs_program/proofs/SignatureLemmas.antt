-- The rows of the table of signatures, and how they grow.
use Rattle.std.proofs.Common.{◌≡◌, ◌≢◌, ℕ, ◌+◌, ◌-◌, ◌<◌, ◌≤◌, Bool, true, false, List, [], ◌∷◌, ◌++◌, inl, inr, refl, sym, ap, ◌∙◌, not, length, get_or, set, drop, map, replicate, append_assoc, true≢false, arith, nat_eq}
use Rattle.std.specs.Prelude.{slice_get, if◌then◌else◌}
use Rattle.std.specs.Str.{bytes_eq}
use Rattle.std.specs.declared.alloc.Global.{Global}
use Rattle.std.specs.declared.vec.Vec.{Vec}
use Rattle.std.proofs.Math.Seq.{get_or-append_seam}
use Rattle.std.proofs.lemmas.Bool.Decides.{Decides-eqb, eqb_tells}
use Rattle.std.proofs.lemmas.List.{append-nil, drop_all, length-append, length-map, length-replicate, length-set, map-set, get_or-map, get_or-replicate, get_or-set_same, get_or-set_other, get_or_past}
use Rattle.std.proofs.lemmas.List.Sums.{prefix_len-le-length}
use Rattle.std.proofs.lemmas.Option.{slice_get-get_or}
use Rattle.std.proofs.lemmas.Slice.Eq.{bytes_eq-Decides}
use Rattle.abs_tree.proofs.NumberLemmas.{numbers_tell_names}
use Rattle.abs_program.specs.KeptMembers.{signatures_at}
use Rattle.abs_program.specs.Members.{signature_among, signature_in, signatures_from, signatures_of}
use Rattle.abs_tree.specs.Names.{name_of, number_of_name}
use Rattle.abs_program.specs.SignatureRows.{row_at, is_of, is_last_of, with_first, HasRows, RowGrows, RowsGrow}
use Rattle.abs_tree.specs.Syntax.{Name, SignatureTree, DeclTree, DataTree, FunctionTree, InterfaceTree, ClassTree}
use Rattle.abs_tree.specs.SyntaxViews.{signature_tree, decl_tree}
use Rattle.abs_program.specs.TableFacts.{AreSignatures}
use Rattle.abs_tree.specs.declared.symbol.Symbol.{Symbol}
use Rattle.abs_tree.specs.declared.syntax.declaration.Decl.{Decl}
use Rattle.abs_tree.specs.declared.syntax.declaration.Signature.{Signature}
use Rattle.abs_program.specs.declared.tables.members.SignatureAt.{SignatureAt}
use Rattle.abs_program.specs.declared.tables.signatures.Signatures.{Signatures}
use Rattle.list_facts.proofs.EntryLemmas.{drop_item}

-- the entries of a row
abbrev entries : Vec SignatureAt Global → List SignatureAt
entries row = row.items

-- the row of a number is the one of the table there
pub row_is : (rows : List (Vec SignatureAt Global)) (number : ℕ) (row : Vec SignatureAt Global) → number < length rows
    → row ≡ get_or rows number row
    → row.items ≡ row_at rows number
row_is rows number row there is = ap entries is ∙ sym (get_or-map entries rows number row [] there)

-- a number for which the table has no row has no signature
pub no_row : (rows : List (Vec SignatureAt Global)) (number : ℕ) → length rows ≤ number → row_at rows number ≡ []
no_row rows number past = get_or_past (map entries rows) number [] (omega (arith, past, length-map rows entries))

-- the row of a name grows by an entry that is written to it
pub row_grows : (rows : List (Vec SignatureAt Global)) (number : ℕ) (at : SignatureAt) (row after : Vec SignatureAt Global)
    → number < length rows → row ≡ get_or rows number row
    → after.items ≡ with_first at.interface row.items (at ∷ [])
    → RowGrows number at rows (set rows number after)
row_grows rows number at row after there is added = record {
  size = length-set rows number after;
  own =
      let many : number < length (map entries rows) = omega (arith, there, length-map rows entries) in
      ap (λ (rs : List (List SignatureAt)). get_or rs number []) (map-set entries rows number after)
      ∙ (get_or-set_same (map entries rows) number after.items [] many
      ∙ (added
      ∙ ap (λ (r : List SignatureAt). with_first at.interface r (at ∷ [])) (row_is rows number row there is)));
  others = λ other apart.
      ap (λ (rs : List (List SignatureAt)). get_or rs other []) (map-set entries rows number after)
      ∙ get_or-set_other (map entries rows) number other after.items [] apart;
}

-- what the last entry of a row is after one is added
is_last_added : (interface : ℕ) (row : List SignatureAt) (at : SignatureAt)
    → is_last_of interface (row ++ at ∷ []) ≡ nat_eq at.interface interface
is_last_added interface row at =
    let all = row ++ at ∷ [] in
    let size : length all - 1 ≡ length row = omega (arith, length-append row (at ∷ [])) in
    ap (λ (n : ℕ). is_of interface (slice_get all n)) size
    ∙ (ap (is_of interface) (slice_get-get_or all (length row) at (omega (arith, length-append row (at ∷ []))))
    ∙ ap (λ (one : SignatureAt). nat_eq one.interface interface) (get_or-append_seam row at [] at))

-- an entry of the interface is there already
with_first_there : (interface : ℕ) (row found : List SignatureAt) → is_last_of interface row ≡ true
    → with_first interface row found ≡ row
with_first_there interface row found is = ap (λ (b : Bool). if b then row else row ++ found) is

-- no entry of the interface is there yet
with_first_new : (interface : ℕ) (row found : List SignatureAt) → is_last_of interface row ≡ false
    → with_first interface row found ≡ row ++ found
with_first_new interface row found is = ap (λ (b : Bool). if b then row else row ++ found) is

-- nothing is found
with_none_at : (b : Bool) (row : List SignatureAt) → (if b then row else row ++ []) ≡ row
with_none_at true row = refl
with_none_at false row = append-nil row

with_none : (interface : ℕ) (row : List SignatureAt) → with_first interface row [] ≡ row
with_none interface row = with_none_at (is_last_of interface row) row

-- after an entry of the interface is added, no more is added
with_first_again : (at : SignatureAt) (row found : List SignatureAt) (b : Bool) → is_last_of at.interface row ≡ b
    → with_first at.interface (with_first at.interface row (at ∷ [])) found ≡ with_first at.interface row (at ∷ [])
with_first_again at row found true is =
    let kept = with_first_there at.interface row (at ∷ []) is in
    ap (λ (r : List SignatureAt). with_first at.interface r found) kept
    ∙ (with_first_there at.interface row found is ∙ sym kept)
with_first_again at row found false is =
    let added = with_first_new at.interface row (at ∷ []) is in
    let last = is_last_added at.interface row at ∙ (Decides-eqb at.interface at.interface).1 refl in
    ap (λ (r : List SignatureAt). with_first at.interface r found) added
    ∙ (with_first_there at.interface (row ++ at ∷ []) found last ∙ sym added)

-- what is found of an interface from a signature on, by whether it has the name
among_same : (interface index : ℕ) (signature : SignatureTree) (others : List SignatureTree) (name : Name)
    → bytes_eq signature.name.name name ≡ true
    → signature_among interface index (signature ∷ others) name
    ≡ record { interface = interface; index = index } ∷ []
among_same interface index signature others name is =
    ap (λ (b : Bool). if b then record { interface = interface; index = index } ∷ []
    else signature_among interface (index + 1) others name) is

among_other : (interface index : ℕ) (signature : SignatureTree) (others : List SignatureTree) (name : Name)
    → bytes_eq signature.name.name name ≡ false
    → signature_among interface index (signature ∷ others) name ≡ signature_among interface (index + 1) others name
among_other interface index signature others name is =
    ap (λ (b : Bool). if b then record { interface = interface; index = index } ∷ []
    else signature_among interface (index + 1) others name) is

-- what the table has for a number
pub found_row : (signatures : Signatures) (rows : List (Vec SignatureAt Global)) (number : ℕ)
    (row : Vec SignatureAt Global) → rows ≡ signatures.rows.items → number < length rows
    → row ≡ get_or rows number row
    → row.items ≡ signatures_at signatures number
unfolding signatures_at
found_row signatures rows number row are there is =
    row_is rows number row there is ∙ ap (λ (rs : List (Vec SignatureAt Global)). row_at rs number) are

pub missing_row : (signatures : Signatures) (rows : List (Vec SignatureAt Global)) (number : ℕ)
    → rows ≡ signatures.rows.items → length rows ≤ number
    → [] ≡ signatures_at signatures number
unfolding signatures_at
missing_row signatures rows number are past =
    sym (no_row rows number past) ∙ ap (λ (rs : List (Vec SignatureAt Global)). row_at rs number) are

-- The signatures of an interface before an index were added: with those of the rest the rows have got all.
pub record AmongSoFar (names : List Name) (interface : ℕ) (signatures : List Signature) (index : ℕ)
    (before now : List (Vec SignatureAt Global)) : Type 0 where
  pub size : length now ≡ length before
  pub so_far : (symbol : Symbol)
      → with_first interface (row_at now (number_of_name names (name_of names symbol)))
      (signature_among interface index (map (signature_tree names) (drop index signatures)) (name_of names symbol))
      ≡ with_first interface (row_at before (number_of_name names (name_of names symbol)))
      (signature_among interface 0 (map (signature_tree names) signatures) (name_of names symbol))

-- the row of a name after one more signature, by whether the signature has the name
row_after : (names : List Name) (index number : ℕ) (at : SignatureAt) (own symbol : Symbol)
    (signature : SignatureTree) (others : List SignatureTree) (now after : List (Vec SignatureAt Global)) (b : Bool)
    → bytes_eq (name_of names own) (name_of names symbol) ≡ b → signature.name.name ≡ name_of names own
    → number ≡ number_of_name names (name_of names own) → at.index ≡ index → RowGrows number at now after
    → with_first at.interface (row_at after (number_of_name names (name_of names symbol)))
    (signature_among at.interface (index + 1) others (name_of names symbol))
    ≡ with_first at.interface (row_at now (number_of_name names (name_of names symbol)))
    (signature_among at.interface index (signature ∷ others) (name_of names symbol))
row_after names index number at own symbol signature others now after true same is numbered indexed grows =
    let name = name_of names symbol in
    let equal : name_of names own ≡ name = (bytes_eq-Decides (name_of names own) name).0 same in
    let number_is : number_of_name names name ≡ number = sym (numbered ∙ ap (number_of_name names) equal) in
    let row = row_at now number in
    let rest = signature_among at.interface (index + 1) others name in
    let found : signature_among at.interface index (signature ∷ others) name ≡ at ∷ [] =
    among_same at.interface index signature others name (ap (λ (n : Name). bytes_eq n name) is ∙ same)
    ∙ ap (λ (i : ℕ). record { interface = at.interface; index = i } ∷ []) (sym indexed) in
    ap (λ (n : ℕ). with_first at.interface (row_at after n) rest) number_is
    ∙ (ap (λ (r : List SignatureAt). with_first at.interface r rest) grows.own
    ∙ (with_first_again at row rest (is_last_of at.interface row) refl
    ∙ (ap (λ (xs : List SignatureAt). with_first at.interface row xs) (sym found)
    ∙ ap (λ (n : ℕ). with_first at.interface (row_at now n)
    (signature_among at.interface index (signature ∷ others) name)) (sym number_is))))
row_after names index number at own symbol signature others now after false same is numbered indexed grows =
    let name = name_of names symbol in
    let apart : number_of_name names name ≢ number = λ equal.
    true≢false (sym ((bytes_eq-Decides (name_of names own) name).1
    ((numbers_tell_names names own symbol).0 (sym (equal ∙ numbered)))) ∙ same) in
    ap (λ (r : List SignatureAt). with_first at.interface r (signature_among at.interface (index + 1) others name))
    (grows.others (number_of_name names name) apart)
    ∙ ap (λ (xs : List SignatureAt). with_first at.interface (row_at now (number_of_name names name)) xs)
    (sym (among_other at.interface index signature others name (ap (λ (n : Name). bytes_eq n name) is ∙ same)))

-- no signature was added
pub among_start : (names : List Name) (interface : ℕ) (signatures : List Signature)
    (rows : List (Vec SignatureAt Global)) → AmongSoFar names interface signatures 0 rows rows
among_start names interface signatures rows = record { size = refl; so_far = λ symbol. refl }

-- one more signature was added
pub among_step : {names : List Name} {signatures : List Signature} {index : ℕ}
    {before now after : List (Vec SignatureAt Global)} (signature : Signature) (number : ℕ) (at : SignatureAt)
    → AmongSoFar names at.interface signatures index before now → index < length signatures
    → signature ≡ get_or signatures index signature
    → number ≡ number_of_name names (name_of names signature.name.name) → at.index ≡ index
    → RowGrows number at now after
    → AmongSoFar names at.interface signatures (index + 1) before after
among_step {names} {signatures} {index} {before} {now} {after} signature number at h there is numbered indexed grows =
    record {
      size = grows.size ∙ h.size;
      so_far = λ symbol.
          let own = signature.name.name in
          let name = name_of names symbol in
          let row = row_at now (number_of_name names name) in
          let tree = signature_tree names in
          row_after names index number at own symbol (tree signature) (map tree (drop (index + 1) signatures)) now after
          (bytes_eq (name_of names own) name) refl refl numbered indexed grows
          ∙ (ap (λ (ss : List Signature). with_first at.interface row
          (signature_among at.interface index (map tree ss) name)) (sym (drop_item signatures index signature there is))
          ∙ h.so_far symbol);
    }

-- all signatures of an interface were added
pub among_done : {names : List Name} {interface : ℕ} {signatures : List Signature} {index : ℕ}
    {before now : List (Vec SignatureAt Global)} → AmongSoFar names interface signatures index before now
    → length signatures ≤ index
    → RowsGrow names interface (signature_among interface 0 (map (signature_tree names) signatures)) before now
among_done {names} {interface} {signatures} {index} {before} {now} h over = record {
  size = h.size;
  rows = λ symbol.
      let name = name_of names symbol in
      let row = row_at now (number_of_name names name) in
      sym (with_none interface row)
      ∙ (ap (λ (ss : List Signature). with_first interface row
      (signature_among interface index (map (signature_tree names) ss) name)) (sym (drop_all index signatures over))
      ∙ h.so_far symbol);
}

-- there is a row for the number of a name
pub has_row : (names : List Name) (rows now : List (Vec SignatureAt Global)) (name : Name) (number : ℕ)
    → HasRows names rows → length now ≡ length rows → number ≡ number_of_name names name
    → number < length now
has_row names rows now name number has size numbered =
    omega (arith, has.rows_are, size, numbered, prefix_len-le-length (λ (other : Name). not (bytes_eq name other)) names)

-- The declarations before an index were looked at: with the signatures of the rest each row has all.
pub record SignaturesSoFar (names : List Name) (declarations : List Decl) (index : ℕ)
    (rows : List (Vec SignatureAt Global)) : Type 0 where
  pub has : HasRows names rows
  pub so_far : (symbol : Symbol)
      → row_at rows (number_of_name names (name_of names symbol))
      ++ signatures_from index (map (decl_tree names) (drop index declarations)) (name_of names symbol)
      ≡ signatures_from 0 (map (decl_tree names) declarations) (name_of names symbol)
  pub none_later : (symbol : Symbol) (later : ℕ) → index ≤ later
      → is_last_of later (row_at rows (number_of_name names (name_of names symbol))) ≡ false

-- what is found of an interface is not of a later one
either_earlier : (later : ℕ) (at : SignatureAt) (row rest : List SignatureAt) (b : Bool)
    → nat_eq at.interface later ≡ false → is_last_of later (row ++ rest) ≡ false
    → is_last_of later (row ++ (if b then at ∷ [] else rest)) ≡ false
either_earlier later at row rest true apart is = is_last_added later row at ∙ apart
either_earlier later at row rest false apart is = is

among_earlier : (interface later index : ℕ) (signatures : List SignatureTree) (name : Name) (row : List SignatureAt)
    → nat_eq interface later ≡ false → is_last_of later row ≡ false
    → is_last_of later (row ++ signature_among interface index signatures name) ≡ false
among_earlier interface later index [] name row apart is = ap (is_last_of later) (append-nil row) ∙ is
among_earlier interface later index (signature ∷ others) name row apart is =
    either_earlier later (record { interface = interface; index = index }) row
    (signature_among interface (index + 1) others name) (bytes_eq signature.name.name name) apart
    (among_earlier interface later (index + 1) others name row apart is)

in_earlier : (interface later : ℕ) (declaration : DeclTree) (name : Name) (row : List SignatureAt)
    → nat_eq interface later ≡ false → is_last_of later row ≡ false
    → is_last_of later (row ++ signature_in interface declaration name) ≡ false
in_earlier interface later (InterfaceTree place own extended signatures) name row apart is =
    among_earlier interface later 0 signatures name row apart is
in_earlier interface later (DataTree place own type_params constructors) name row apart is =
    ap (is_last_of later) (append-nil row) ∙ is
in_earlier interface later (FunctionTree place result own type_params params value) name row apart is =
    ap (is_last_of later) (append-nil row) ∙ is
in_earlier interface later (ClassTree place own params implemented members) name row apart is =
    ap (is_last_of later) (append-nil row) ∙ is

-- two numbers are apart
not_same : (one other : ℕ) → one < other → nat_eq one other ≡ false
not_same one other less = elim (eqb_tells one other) [
  | inl same ↦ absurd (omega (arith, less, same.1))
  | inr apart ↦ apart.0
]

-- no declaration was looked at
pub signatures_start : {names : List Name} {rows : List (Vec SignatureAt Global)} (declarations : List Decl)
    → map (λ (row : Vec SignatureAt Global). row.items) rows ≡ replicate (length names + 1) []
    → SignaturesSoFar names declarations 0 rows
signatures_start {names} {rows} declarations empty =
    let size : length rows ≡ length names + 1 =
    sym (length-map rows entries)
    ∙ (ap length empty ∙ length-replicate (length names + 1) []) in
    let none : (symbol : Symbol) → row_at rows (number_of_name names (name_of names symbol)) ≡ [] = λ symbol.
    let name = name_of names symbol in
    ap (λ (rs : List (List SignatureAt)). get_or rs (number_of_name names name) []) empty
    ∙ get_or-replicate (length names + 1) (number_of_name names name) [] []
    (omega (arith, prefix_len-le-length (λ (other : Name). not (bytes_eq name other)) names)) in
    record {
      has = record { rows_are = size };
      so_far = λ symbol.
          ap (λ (row : List SignatureAt). row
          ++ signatures_from 0 (map (decl_tree names) declarations) (name_of names symbol)) (none symbol);
      none_later = λ symbol later from. ap (is_last_of later) (none symbol);
    }

-- one more declaration was looked at
pub signatures_step : {names : List Name} {declarations : List Decl} {index : ℕ}
    {rows after : List (Vec SignatureAt Global)} (declaration : Decl) (interface : ℕ)
    → SignaturesSoFar names declarations index rows → index < length declarations
    → declaration ≡ get_or declarations index declaration → interface ≡ index
    → RowsGrow names interface (signature_in interface (decl_tree names declaration)) rows after
    → SignaturesSoFar names declarations (index + 1) after
signatures_step {names} {declarations} {index} {rows} {after} declaration interface h there is same grows =
    let tree = decl_tree names in
    let added : (symbol : Symbol) → row_at after (number_of_name names (name_of names symbol))
    ≡ row_at rows (number_of_name names (name_of names symbol))
    ++ signature_in index (tree declaration) (name_of names symbol) = λ symbol.
    let name = name_of names symbol in
    let row = row_at rows (number_of_name names name) in
    grows.rows symbol
    ∙ (ap (λ (i : ℕ). with_first i row (signature_in i (tree declaration) name)) same
    ∙ with_first_new index row (signature_in index (tree declaration) name)
    (h.none_later symbol index (omega arith))) in
    record {
      has = record { rows_are = grows.size ∙ h.has.rows_are };
      so_far = λ symbol.
          let name = name_of names symbol in
          let row = row_at rows (number_of_name names name) in
          let own = signature_in index (tree declaration) name in
          let others = signatures_from (index + 1) (map tree (drop (index + 1) declarations)) name in
          ap (λ (r : List SignatureAt). r ++ others) (added symbol)
          ∙ (append_assoc row own others
          ∙ (ap (λ (ds : List Decl). row ++ signatures_from index (map tree ds) name)
          (sym (drop_item declarations index declaration there is))
          ∙ h.so_far symbol));
      none_later = λ symbol later from.
          let name = name_of names symbol in
          let row = row_at rows (number_of_name names name) in
          ap (is_last_of later) (added symbol)
          ∙ in_earlier index later (tree declaration) name row (not_same index later (omega (arith, from)))
          (h.none_later symbol later (omega (arith, from)));
    }

-- all declarations were looked at, and so each signature is found
pub signatures_done : {names : List Name} {declarations : List Decl} {index : ℕ} (signatures : Signatures)
    → SignaturesSoFar names declarations index signatures.rows.items → length declarations ≤ index
    → AreSignatures names (map (decl_tree names) declarations) signatures
unfolding signatures_at signatures_of
signatures_done {names} {declarations} {index} signatures h over = record {
  finds = λ symbol.
      let name = name_of names symbol in
      let row = row_at signatures.rows.items (number_of_name names name) in
      sym (append-nil row)
      ∙ (ap (λ (ds : List Decl). row ++ signatures_from index (map (decl_tree names) ds) name)
      (sym (drop_all index declarations over))
      ∙ h.so_far symbol);
}
