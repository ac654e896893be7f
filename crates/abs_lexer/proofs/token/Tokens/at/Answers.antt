use Rattle.std.proofs.Common.{◌<◌, length, sym, subst, ap, arith}
use Rattle.std.proofs.lemmas.List.{length-map}
use Rattle.abs_lexer.specs.declared.token.Token.{Token}
use Rattle.abs_lexer.specs.Tokens.{TokenList, IsWellFormed}
use Rattle.abs_lexer.specs.Views.{lexed}
use Rattle.abs_lexer.proofs.token.Tokens.at.Goals as goal

pub returns-clause-well_formed : goal.returns-clause-well_formed
returns-clause-well_formed c =
    let view = ap (λ (list : TokenList). length list.tokens) c.self.view_is in
    let few : c.args.index < length c.self.inside.list.items =
    omega (arith, c.requires, view, length-map c.self.inside.list.items lexed) in
    subst (λ (token : Token). IsWellFormed (lexed token)) (sym c.index.ensures)
    (c.self.invariant.1 c.args.index c.index.result.now few)
