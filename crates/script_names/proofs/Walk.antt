-- From the tokens of a script to the variables of its rings, along the derivation of its tree.
use Rattle.std.proofs.Common.{◌≡◌, ℕ, List, [], ◌∷◌, ◌++◌, map, Ok}
use Rattle.monomials.specs.Polynomials.{Each}
use Rattle.monomials.proofs.Keys.{Each-first, Each-second}
use Rattle.plural_lexer.specs.declared.token.Token.{Token}
use Rattle.plural_lexer.specs.Tokens.{AreTokensOf}
use Rattle.plural_syntax.specs.declared.word.Word.TheVariants as w
use Rattle.plural_syntax.specs.declared.tree.TokenAfter.{TokenAfter}
use Rattle.plural_syntax.specs.declared.tree.TokenList.{TokenList}
use Rattle.plural_syntax.specs.declared.tree.TokenGroup.{TokenGroup}
use Rattle.plural_syntax.specs.declared.tree.Vars.{Vars}
use Rattle.plural_syntax.specs.declared.tree.Statement.{Statement}
use Rattle.plural_syntax.specs.declared.tree.Script.{Script}
use Rattle.plural_syntax.specs.Words.{Lexeme, word, text_of, lexemes}
use Rattle.plural_syntax.specs.Grammar.{Repeated, IsTokenAfter, IsTokenList, IsTokenGroup, IsVars, IsStatement, IsScript}
use Rattle.plural_syntax.specs.Grammar.Repeated.{no_more, one_more}
use Rattle.plural_syntax.specs.Grammar.IsTokenAfter.{token_after}
use Rattle.plural_syntax.specs.Grammar.IsTokenList.{token_list}
use Rattle.plural_syntax.specs.Grammar.IsTokenGroup.{token_group}
use Rattle.plural_syntax.specs.Grammar.IsVars.{one_name, many_names}
use Rattle.plural_syntax.specs.Grammar.{IsStatement as is_statement}
use Rattle.plural_syntax.specs.Grammar.IsScript.{script}
use Rattle.plural_syntax.specs.Outcome.{Answers}
use Rattle.plural_text.specs.Names.{IsName}
use Rattle.script_model.specs.Orders.{tokens_of}
use Rattle.script_model.specs.Statements.{names_of}
use Rattle.script_names.specs.Named.{HasNames}
use Rattle.script_names.proofs.Spellings.{kind_is_name}
use Rattle.script_names.proofs.TokenTexts.{HasName, tokens-named}

-- what is a name to the grammar has a name's text
abbrev IsNamed : List ℕ → Lexeme → Type 0
IsNamed bytes l = word l ≡ w.Name → IsName (text_of bytes l.token)

lexemes-named : (bytes : List ℕ) (ts : List Token) → Each (HasName bytes) ts → Each (IsNamed bytes) (lexemes bytes ts)
lexemes-named bytes [] h = tt
lexemes-named bytes (t ∷ ts) h = (λ e. h.0 (kind_is_name t.kind (text_of bytes t) e), lexemes-named bytes ts h.1)

module _ (bytes : List ℕ) where
  abbrev AreNamed : List Lexeme → Type 0
  AreNamed ls = Each (IsNamed bytes) ls

  more-named : (more : List TokenAfter) (ls : List Lexeme) → Repeated (IsTokenAfter w.Name) more ls → AreNamed ls → Each IsName (map (text_of bytes) (map (λ (a : TokenAfter). a.token) more))
  more-named _ _ no_more n = tt
  more-named _ _ (one_more _ more _ ys (token_after c t h k) m) n = (n.1.0 k, more-named more ys m n.1.1)

  list-named : (l : TokenList) (ls : List Lexeme) → IsTokenList w.Name l ls → AreNamed ls → Each IsName (map (text_of bytes) (tokens_of l))
  list-named _ _ (token_list t more ms h m) n = (n.0 h, more-named more ms m n.1)

  group-named : (g : TokenGroup) (ls : List Lexeme) → IsTokenGroup w.Name g ls → AreNamed ls → Each IsName (map (text_of bytes) (tokens_of g.list))
  group-named _ _ (token_group a b l ls h m k) n = list-named l ls m (Each-first (IsNamed bytes) ls (b ∷ []) n.1)

  vars-named : (v : Vars) (ls : List Lexeme) → IsVars v ls → AreNamed ls → Each IsName (names_of bytes v)
  vars-named _ _ (one_name t h) n = (n.0 h, tt)
  vars-named _ _ (many_names g gs m) n = group-named g gs m n

  statement-named : (s : Statement) (ls : List Lexeme) → IsStatement s ls → AreNamed ls → HasNames bytes s
  statement-named _ _ (is_statement.ring a b e p c k s v o vs os h i j l m q r t u) n = vars-named v vs q (Each-first (IsNamed bytes) vs (k ∷ (os ++ s ∷ [])) n.1.1.1.1.1)
  statement-named _ _ _ n = tt

  statements-named : (ss : List Statement) (ls : List Lexeme) → Repeated IsStatement ss ls → AreNamed ls → Each (HasNames bytes) ss
  statements-named _ _ no_more n = tt
  statements-named _ _ (one_more s more xs ys d m) n =
      (statement-named s xs d (Each-first (IsNamed bytes) xs ys n), statements-named more ys m (Each-second (IsNamed bytes) xs ys n))

  script-named : (s : Script) (ls : List Lexeme) → IsScript s ls → AreNamed ls → Each (HasNames bytes) s.statements
  script-named _ _ (script e ss xs m h) n = statements-named ss xs m (Each-first (IsNamed bytes) xs (e ∷ []) n)

pub variables_named : (bytes : List ℕ) (ts : List Token) (s : Script) → AreTokensOf bytes ts → Answers (lexemes bytes ts) (Ok s) → Each (HasNames bytes) s.statements
variables_named bytes ts s d a = script-named bytes s (lexemes bytes ts) a.spells (lexemes-named bytes ts (tokens-named bytes ts d))
