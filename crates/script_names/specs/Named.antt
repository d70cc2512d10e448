-- That the variables of a statement have names.
use Rattle.std.specs.Prelude.{List, ℕ}
use Rattle.monomials.specs.Polynomials.{Each}
use Rattle.plural_syntax.specs.declared.tree.Statement.{Statement}
use Rattle.plural_syntax.specs.declared.tree.Statement.TheVariants as statement
use Rattle.plural_text.specs.Names.{IsName}
use Rattle.script_model.specs.Statements.{names_of}

-- the variables of a ring have names
abbrev pub HasNames : List ℕ → Statement → Type 0
HasNames bytes (statement.Ring keyword name equals characteristic comma variables second_comma order semicolon) = Each IsName (names_of bytes variables)
HasNames bytes _ = Unit {0}
