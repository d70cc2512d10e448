use Rattle.std.proofs.Common.{map, sym, subst, refl, ◌∙◌, ap, arith, [], ◌∷◌}
use Rattle.std.proofs.lemmas.List.{length-map}
use Rattle.std.proofs.lemmas.Result.{on_ok_weaker, IfErr-weaker}
use Rattle.plural_syntax.specs.declared.tree.Order.{Order}
use Rattle.script_model.specs.Orders.{items_of}
use Rattle.script_values.specs.Gives.{Stops}
use Rattle.script_rings.specs.Walks.{walked, ordered}
use Rattle.script_rings.proofs.Walking.{walked-end}
use Rattle.script_rings.proofs.blocks.push_order.Goals as goal

pub returns-in_ok-_left-in-One-clause-goes_on : goal.returns-in_ok-_left-in-One-clause-goes_on
returns-in_ok-_left-in-One-clause-goes_on c = λ n some.
    ap (λ (o : Order). walked c.args.bytes.now n c.args.blocks.now.items (items_of o)) c.in-One.is
    ∙ c.in_ok-_left-in-One.ensures.goes_on n [] some refl ∙ walked-end c.args.bytes.now n c.push_item.new.blocks.items

pub returns-in_ok-left-in-Many-clause-goes_on : goal.returns-in_ok-left-in-Many-clause-goes_on
returns-in_ok-left-in-Many-clause-goes_on c =
    let bytes = c.args.bytes.now in
    let more = c.as_slice-more.result.now in
    on_ok_weaker c.push_items.result
    (λ end n some.
    ap (λ (o : Order). walked bytes n c.args.blocks.now.items (items_of o)) c.in-Many.is
    ∙ ap (λ ms. walked bytes n c.args.blocks.now.items (c.in-Many.items.first ∷ map (λ a. a.item) ms)) (sym c.as_slice-more.ensures)
    ∙ c.in_ok-left-in-Many.ensures.goes_on n (map (λ a. a.item) more) some (length-map more (λ a. a.item))
    ∙ end n (omega (arith, some, c.in_ok-left-in-Many.ensures.left)))
    c.push_items.ensures.goes_on

pub returns-in_ok-left-in-Many-clause-refused : goal.returns-in_ok-left-in-Many-clause-refused
returns-in_ok-left-in-Many-clause-refused c =
    let bytes = c.args.bytes.now in
    let more = c.as_slice-more.result.now in
    IfErr-weaker c.push_items.result _ _
    (λ e fails n some.
    subst (λ o. Stops e (ordered o))
    (sym (ap (λ (o : Order). walked bytes n c.args.blocks.now.items (items_of o)) c.in-Many.is
    ∙ ap (λ ms. walked bytes n c.args.blocks.now.items (c.in-Many.items.first ∷ map (λ a. a.item) ms)) (sym c.as_slice-more.ensures)
    ∙ c.in_ok-left-in-Many.ensures.goes_on n (map (λ a. a.item) more) some (length-map more (λ a. a.item))))
    (fails n (omega (arith, some, c.in_ok-left-in-Many.ensures.left))))
    c.push_items.ensures.refused
