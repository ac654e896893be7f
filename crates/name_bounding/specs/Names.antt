-- Names of cogs. A name is a list of places, the youngest first. That of the cog of main has none.
--
--   `bound_name`           the name of a cog, by the place where it is made, that of its maker, and the depth of names
--   `cog_of`               the name of the cog in which tasks of a kind are
use Rattle.std.specs.Prelude.{ℕ, List, [], ◌∷◌, take}
use Rattle.name_bounding.specs.declared.kind.Kind.{Kind}
use Rattle.name_bounding.specs.declared.kind.Kind.TheVariants.{Main, Method}

-- the first places, as many as the depth says, of the place of a cog and the name of the one that made it
abbrev pub bound_name : ℕ → ℕ → List ℕ → List ℕ
bound_name depth place parent = take depth (place ∷ parent)

-- the name of the cog in which tasks of a kind are
abbrev pub cog_of : Kind → List ℕ
cog_of Main = []
cog_of (Method sign method) = sign.cog
