-- The keywords before lists of interfaces, and the nonterminal of each with its list.
use Rattle.abs_parser.specs.declared.names.Heading.{Heading}
use Rattle.abs_parser.specs.declared.names.Heading.TheVariants as heading
use Rattle.abs_parser.specs.Productions.{Nonterminal, Extends, Implements}

abbrev pub nonterminal_of : Heading → Nonterminal
nonterminal_of heading.Extends = Extends
nonterminal_of heading.Implements = Implements
