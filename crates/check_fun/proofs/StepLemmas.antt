-- Steps of a check, one after the other.
--
--   `noted_since`, `noted_between`     the first offence is the same before or after a step
--   `scheme_there`                     a scheme that is found has types of the table
use Rattle.std.proofs.Common.{◌≡◌, List, Option, refl, ◌∙◌, subst, option_map}
use Rattle.abs_tree.specs.declared.refusal.Offence.{Offence}
use Rattle.abs_types.specs.Schemes.{Scheme}
use Rattle.abs_types.specs.TypeTables.{types_in}
use Rattle.check_fun.proofs.FoundLemmas.{knows_own}
use Rattle.check_fun.specs.Contexts.{context_in, scheme_at, Context, FindsScheme, Knows, Noted}
use Rattle.check_fun.specs.declared.checker.Checker.{Checker}
use Rattle.check_fun.specs.declared.schemes.TypeScheme.{TypeScheme}

-- a step that notes nothing comes after
pub noted_since : {before between now : Option Offence} {offences : List Offence} → Noted before offences between
    → now ≡ between → Noted before offences now
noted_since noted same = record { is = same ∙ noted.is }

-- steps that note nothing come before and after
pub noted_between : {before start now after : Option Offence} {offences : List Offence} → start ≡ before
    → Noted start offences now → after ≡ now → Noted before offences after
noted_between {after = after} {offences} same noted later =
    subst (λ (first : Option Offence). Noted first offences after) same (noted_since noted later)

-- a scheme that is found where a context is known stands for its own scheme
pub scheme_there : {before now : Checker} {found : Option TypeScheme} {scheme : Context → Option Scheme}
    → ((context : Context) → Knows before context → FindsScheme now found (scheme context))
    → FindsScheme now found (option_map (scheme_at (types_in now.table)) found)
scheme_there {before} finds = record { among = (finds (context_in before) knows_own).among; is = refl }
