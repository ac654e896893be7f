-- Where kinds lead, and what that says of links.
--
--   `are_led`                  by the cog that a kind needs and by the kinds that it reaches
--   `leads_as_linked`          the target of a pair leads to the node of another just where the pair is linked to it in a
--                              component
use Rattle.std.proofs.Common.{◌≡◌, ◌∙◌, inl, inr, ⊎_elim, ◌↔◌, ℕ, List, [], Contains, slice_get, Some, refl, sym, ap, subst, arith}
use Rattle.abs_tree.specs.Syntax.{ProgramTree}
use Rattle.circularity_test.specs.Adding.{Adds, OfEach}
use Rattle.circularity_test.specs.Network.{AreLed, IsCogNode, IsLed, IsNodeReached, LeadsTo, group_by, group_of, node_by, node_of}
use Rattle.circularity_test.specs.declared.network.Node.{Node}
use Rattle.circularity_test.specs.declared.network.Node.TheVariants as node
use Rattle.contract_terms.proofs.ChainLemmas.{link_into_await, link_into_get}
use Rattle.contract_terms.specs.PairLinks.{IsLinked, IsReachedByCalls}
use Rattle.contract_terms.specs.PairLinks.IsReachedByCalls.{itself, by_calls}
use Rattle.contract_terms.specs.declared.pair.Mode.{Mode}
use Rattle.contract_terms.specs.declared.pair.Mode.TheVariants.{Get, Await}
use Rattle.contract_terms.specs.declared.pair.Pair.{Pair}
use Rattle.name_bounding.specs.Names.{cog_of}
use Rattle.name_bounding.specs.declared.kind.Kind.{Kind}

-- calls on `this` lead to kinds of the same group
same_group : (program : ProgramTree) (component : ℕ) (from to : Kind) → IsReachedByCalls program from to
    → group_by to component ≡ group_by from component
same_group program component from to (itself kind) = refl
same_group program component from to (by_calls sign one other class member reached begins ends leads) = refl

module _ (program : ProgramTree) (nodes : List Node) (kind : Kind) (component : ℕ) (among between numbers : List ℕ)
    (cog : Adds (IsCogNode nodes kind component) [] between)
    (reached : Adds (OfEach (IsNodeReached program nodes kind component) among) between numbers)
    (complete : (number : ℕ) (one : Node) → slice_get nodes number ≡ Some one
    → group_of one ≡ group_by kind component → Contains among number)
  where
    -- the node of the cog that a kind needs, and of a kind that it reaches, was added
    led_added : (number : ℕ) (one : Node) → slice_get nodes number ≡ Some one → LeadsTo program kind component one
        → Contains numbers number
    led_added number (node.Cog name its) there leads =
        reached.kept number (cog.all number (there ∙ (ap (λ it. Some (node.Cog it its)) (sym leads.0)
        ∙ ap (λ it. Some (node.Cog (cog_of kind) it)) (sym leads.1))))
    led_added number (node.Waiting other its) there leads =
        let here : slice_get nodes number ≡ Some (node.Waiting other component) =
        there ∙ ap (λ it. Some (node.Waiting other it)) (sym leads.1) in
        reached.all number (record {
          from = number;
          inside = complete number (node.Waiting other component) here
              (same_group program component kind other leads.0);
          is = record { same = refl; reaches = record { other = other; there = here; reached = leads.0 } };
        })

    -- what was added is where a kind leads
    pub are_led : AreLed program nodes kind component numbers
    are_led number = (
      (λ inside. ⊎_elim
          (λ earlier. ⊎_elim
          (λ none. absurd (omega (arith, none.1)))
          (λ is. record { one = node.Cog (cog_of kind) component; there = is; leads = (refl, refl) })
          (cog.only number earlier))
          (λ each. subst (IsLed program nodes kind component) each.is.same (record {
            one = node.Waiting each.is.reaches.other component;
            there = each.is.reaches.there;
            leads = (each.is.reaches.reached, refl);
          }))
          (reached.only number inside)),
      (λ led. led_added number led.one led.there led.leads),
    )

-- the target of a pair leads to the node of another just where the pair is linked to it and both are in one component
pub leads_as_linked : (program : ProgramTree) (component : Pair → ℕ) (one other : Pair)
    → LeadsTo program one.target (component one) (node_of component other)
    ↔ (IsLinked program one other × (component one ≡ component other))
leads_as_linked program component one other = by other.mode refl
  where
    by : (mode : Mode) → other.mode ≡ mode
        → LeadsTo program one.target (component one) (node_by mode other.source (component other))
        ↔ (IsLinked program one other × (component one ≡ component other))
    by Get is = (
      (λ leads. (inr (is, sym leads.0), leads.1)),
      (λ linked. (sym (link_into_get program one other is linked.0).1, linked.1)),
    )
    by Await is = (
      (λ leads. (inl leads.0, leads.1)),
      (λ linked. (link_into_await program one other is linked.0, linked.1)),
    )
