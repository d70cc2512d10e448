use Rattle.std.proofs.Common.{◌≡◌, None, sym, subst, ◌∙◌, ap, map, length, string_bytes, arith}
use Rattle.std.proofs.lemmas.List.{length-map}
use Rattle.std.proofs.lemmas.Result.{err_from_is_err_and}
use Rattle.monomials.specs.Polynomials.{Each}
use Rattle.plural_text.specs.Names.{IsName}
use Rattle.script_model.specs.Orders.{blocks_of}
use Rattle.script_model.specs.Statements as spec
use Rattle.script_values.specs.Gives.{Stops}
use Rattle.script_rings.specs.Walks.{ordered}
use Rattle.script_rings.proofs.NewRing.{refused_order, ring_remains}
use Rattle.script_rings.proofs.Repeats.{none_repeated}
use Rattle.script_rings.proofs.commuting.new_ring.Goals as goal

pub returns-in_err-blocks : goal.returns-in_err-blocks
returns-in_err-blocks c =
    let bytes = c.args.bytes.now in
    let names = spec.names_of bytes c.args.vars.now in
    let e = c.in_err-blocks.field-0.0 in
    let are : map string_bytes c.deref.result.now ≡ names = ap (map string_bytes) c.deref.ensures.value ∙ c.in_ok-names.ensures in
    let items : length c.in_ok-names.names.items ≡ length names = sym (length-map c.in_ok-names.names.items string_bytes) ∙ ap length c.in_ok-names.ensures in
    let count : c.len.result ≡ length names = omega (arith, c.len.ensures, c.in_ok-names.names.ok, items) in
    let p = err_from_is_err_and c.from_residual-in_err-blocks.result c.from_residual-in_err-blocks.ensures.1 in
    rw (p.1, p.2)
    (subst (Stops e)
    (sym (ring_remains bytes c.args.characteristic names c.args.order.now c.in_ok-field.ensures.listed (sym (c.too_many.ensures bytes) ∙ c.if-too_many.false)
    (ap spec.repeated (sym are) ∙ c.in_ok-different.ensures.different)))
    (refused_order e c.args.characteristic names (blocks_of bytes (length names) c.args.order.now)
    (subst (λ n. Stops e (ordered (blocks_of bytes n c.args.order.now))) count c.in_err-blocks.ensures.refused)))

pub ring_of-requires-clause-names : goal.ring_of-requires-clause-names
ring_of-requires-clause-names c =
    let different : spec.repeated (map string_bytes c.in_ok-names.names.items) ≡ None =
    ap (λ ns. spec.repeated (map string_bytes ns)) (sym c.deref.ensures.value) ∙ c.in_ok-different.ensures.different in
    record {
      count = length-map c.in_ok-names.names.items string_bytes;
      each = subst (Each IsName) (sym c.in_ok-names.ensures) c.requires.names;
      different = none_repeated (map string_bytes c.in_ok-names.names.items) different;
    }
