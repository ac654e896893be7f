-- The bodies of kinds: by what is known in them, and by their indices.
--
--   `ContextOf`                            what is known in a body
--   `FoundBody`, `body_found`              a body of a kind has an index
--   `body_of_index`                        a body of a kind by its index is one by what is known in it
--   `terms_are`, `params_are`              the terms of a body, and what its parameters let in
--   `context_by_terms`, `context_by_params`    a body with a term or a parameter is there
--   `param_lets_in`, `let_in_param`        a parameter of a kind lets in an atom
use Rattle.std.proofs.Common.{◌≡◌, ℕ, Some, None, refl, sym, ap, subst, ◌∙◌}
use Rattle.std.specs.Prelude.{Option, slice_get}
use Rattle.std.proofs.lemmas.Option.{none-some, same_Some}
use Rattle.abs_tree.specs.Syntax.{SourceTree, ProgramTree}
use Rattle.contract_terms.specs.Accepts.{AcceptsTree}
use Rattle.contract_terms.specs.Asks.{LetInParam, params_accept}
use Rattle.contract_terms.specs.BodyContexts.{BodyContext, main_context, method_context}
use Rattle.contract_terms.specs.KindBodies.{KindBody}
use Rattle.contract_terms.specs.KindBodies.KindBody.{of_main, of_method}
use Rattle.contract_terms.specs.ProgramTerms.{IsMethodContract, IsMethodAt, AreTermsOf}
use Rattle.contract_terms.specs.Terms.{TermTree, AreTerms}
use Rattle.contract_terms.specs.Views.{MethodTree, method_in}
use Rattle.contract_terms.specs.declared.fact.Atom.{Atom}
use Rattle.contract_terms.specs.declared.terms.Terms.{Terms}
use Rattle.name_bounding.specs.declared.kind.Kind.{Kind}
use Rattle.saturation.specs.Rows.{HasBody, ParamLetsIn}
use Rattle.saturation.specs.Rows.HasBody.{main_block, a_method}
use Rattle.saturation.specs.Uses.{terms_if, params_if, body_terms, body_params}
use Rattle.saturation.specs.declared.body.Body.{Body}
use Rattle.saturation.specs.declared.body.Body.TheVariants as body

-- What is known in a body.
pub data ContextOf (program : ProgramTree) : Body → BodyContext → Type 0 where
  in_main : ContextOf program body.Main (main_context program.source)
  in_method : (class member : ℕ) (context : BodyContext)
      → method_context program.source.declarations class member ≡ Some context
      → ContextOf program (body.Method class member) context

-- A body of a kind with what is known in it.
pub record FoundBody (program : ProgramTree) (kind : Kind) (context : BodyContext) : Type 0 where
  pub own : Body
  pub has : HasBody program kind own
  pub context_of : ContextOf program own context

module _ (program : ProgramTree) where
  -- A body of a kind has an index.
  pub body_found : (kind : Kind) (context : BodyContext) → KindBody program kind context
      → FoundBody program kind context
  body_found _ _ of_main = record { own = body.Main; has = main_block; context_of = in_main }
  body_found _ _ (of_method sign method context body_is) =
      let own = body.Method body_is.taking.declaration body_is.member in
      record {
        own = own;
        has = a_method sign method body_is.class own body_is.made
            (record {
              index = body_is.taking.declaration;
              class_is = record { taking = body_is.taking; named = body_is.named; is = refl };
              member = body_is.member;
              found = body_is.found;
              is = refl;
            });
        context_of = in_method body_is.taking.declaration body_is.member context body_is.body_is;
      }

  -- what is known in a method is that of its class and its index
  context_in_method : (class member : ℕ) (context : BodyContext) → ContextOf program (body.Method class member) context
      → method_context program.source.declarations class member ≡ Some context
  context_in_method _ _ _ (in_method class member context there) = there

  -- A body of a kind by its index is one by what is known in it.
  pub body_of_index : (kind : Kind) (own : Body) (context : BodyContext) → HasBody program kind own
      → ContextOf program own context → KindBody program kind context
  body_of_index _ _ _ main_block in_main = of_main
  body_of_index _ _ context (a_method sign method class own made method_is) context_of =
      of_method sign method context
      (record {
        class = class;
        made = made;
        taking = method_is.class_is.taking;
        named = method_is.class_is.named;
        member = method_is.member;
        found = rw method_is.class_is.is method_is.found;
        body_is = rw method_is.class_is.is
            (context_in_method method_is.index method_is.member context
            (subst (λ one. ContextOf program one context) method_is.is context_of));
      })

-- a contract is that of what is known in a method
contract_known : (source : SourceTree) (context : Option BodyContext) (found : Option MethodTree) (one : BodyContext)
    → IsMethodAt source context found → context ≡ Some one
    → (method : MethodTree) × (found ≡ Some method) × IsMethodContract source one method
contract_known source (Some context) (Some method) one are is =
    (method, refl, subst (λ known. IsMethodContract source known method) (same_Some context one is) are)
contract_known source (Some context) None one are is = absurd are
contract_known source None found one are is = absurd (none-some one is)

-- where there is a contract, something is known
known_by_contract : (source : SourceTree) (context : Option BodyContext) (found : Option MethodTree)
    → IsMethodAt source context found → (method : MethodTree) → found ≡ Some method
    → (one : BodyContext) × (context ≡ Some one)
known_by_contract source (Some context) found are method is = (context, refl)
known_by_contract source None (Some method) are one is = absurd are
known_by_contract source None None are one is = absurd (none-some one is)

-- a term or a parameter is that of a contract
contract_by_term : (found : Option MethodTree) (place : ℕ) (term : TermTree)
    → slice_get (terms_if found) place ≡ Some term → (method : MethodTree) × (found ≡ Some method)
contract_by_term None place term is = absurd (none-some term is)
contract_by_term (Some method) place term is = (method, refl)

contract_by_param : (found : Option MethodTree) (place : ℕ) (accepts : AcceptsTree)
    → slice_get (params_if found) place ≡ Some accepts → (method : MethodTree) × (found ≡ Some method)
contract_by_param None place accepts is = absurd (none-some accepts is)
contract_by_param (Some method) place accepts is = (method, refl)

module _ (program : ProgramTree) (terms : Terms) (are : AreTermsOf program terms) where
  -- The terms of a body are those of what is known in it.
  pub terms_are : (own : Body) (context : BodyContext) → ContextOf program own context
      → AreTerms program.source context (body_terms program.names terms own)
  unfolding body_terms
  terms_are _ _ in_main = are.main
  terms_are _ _ (in_method class member context there) =
      let found = contract_known program.source (method_context program.source.declarations class member)
      (method_in program.names terms class member) context (are.methods class member) there in
      rw found.1 found.2.terms

  -- Its parameters let in what its first slots do.
  pub params_are : (own : Body) (context : BodyContext) → ContextOf program own context
      → body_params program.names terms own ≡ params_accept program.source.declarations context
  unfolding body_params
  params_are _ _ in_main = refl
  params_are _ _ (in_method class member context there) =
      let found = contract_known program.source (method_context program.source.declarations class member)
      (method_in program.names terms class member) context (are.methods class member) there in
      ap params_if found.1 ∙ found.2.params

  -- A body with a term is there.
  pub context_by_terms : (own : Body) (place : ℕ) (term : TermTree)
      → slice_get (body_terms program.names terms own) place ≡ Some term
      → (context : BodyContext) × ContextOf program own context
  unfolding body_terms
  context_by_terms body.Main place term is = (main_context program.source, in_main)
  context_by_terms (body.Method class member) place term is =
      let method = contract_by_term (method_in program.names terms class member) place term is in
      let known = known_by_contract program.source (method_context program.source.declarations class member)
      (method_in program.names terms class member) (are.methods class member) method.0 method.1 in
      (known.0, in_method class member known.0 known.1)
  context_by_terms (body.Initials class) place term is = absurd (none-some term is)

  -- A body with a parameter is there.
  pub context_by_params : (own : Body) (param : ℕ) (accepts : AcceptsTree)
      → slice_get (body_params program.names terms own) param ≡ Some accepts
      → (context : BodyContext) × ContextOf program own context
  unfolding body_params
  context_by_params body.Main param accepts is = absurd (none-some accepts is)
  context_by_params (body.Method class member) param accepts is =
      let method = contract_by_param (method_in program.names terms class member) param accepts is in
      let known = known_by_contract program.source (method_context program.source.declarations class member)
      (method_in program.names terms class member) (are.methods class member) method.0 method.1 in
      (known.0, in_method class member known.0 known.1)
  context_by_params (body.Initials class) param accepts is = absurd (none-some accepts is)

  module _ (kind : Kind) (param : ℕ) (atom : Atom) where
    -- A parameter of a kind that lets in an atom by the definition does so by the contract.
    pub param_lets_in : LetInParam program kind param atom → ParamLetsIn program terms kind param atom
    param_lets_in let_in =
        let found = body_found program kind let_in.context let_in.body_is in
        record {
          own = found.own;
          has = found.has;
          accepts = let_in.accepts;
          there = rw (params_are found.own let_in.context found.context_of) let_in.there;
          let_in = let_in.let_in;
        }

    -- One that does so by the contract does so by the definition.
    pub let_in_param : ParamLetsIn program terms kind param atom → LetInParam program kind param atom
    let_in_param lets_in =
        let known = context_by_params lets_in.own param lets_in.accepts lets_in.there in
        record {
          context = known.0;
          body_is = body_of_index program kind lets_in.own known.0 lets_in.has known.1;
          accepts = lets_in.accepts;
          there = rw (sym (params_are lets_in.own known.0 known.1)) lets_in.there;
          let_in = lets_in.let_in;
        }
