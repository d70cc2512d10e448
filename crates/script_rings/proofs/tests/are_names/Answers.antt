use Rattle.std.proofs.Common.{map, sym, subst}
use Rattle.monomials.specs.Polynomials.{Each}
use Rattle.plural_syntax.specs.Words.{text_of}
use Rattle.plural_syntax.specs.declared.tree.Vars.{Vars}
use Rattle.plural_text.specs.Names.{IsName}
use Rattle.script_model.specs.Statements as spec
use Rattle.script_rings.proofs.tests.are_names.Goals as goal

pub returns-then-is_name : goal.returns-then-is_name
returns-then-is_name c = λ h.
    let bytes = c.args.bytes.now in
    subst (λ (v : Vars). Each IsName (spec.names_of bytes v)) (sym c.in-Many.is) (
      subst IsName c.text-in-Many.ensures (c.is_name-in-Many.ensures c.if-is_name.true),
      subst (λ ms. Each IsName (map (text_of bytes) (map (λ a. a.token) ms))) c.as_slice.ensures (c.more_names.ensures h),
    )
