-- The rules of expressions: each is read and found as the grammar has it.
use Rattle.std.proofs.Common.{◌≡◌, ℕ, zero, suc, Bool, true, false, [], ◌∷◌, ◌++◌, List, Option, Some, None, inl, inr, refl, ap, subst, ◌∙◌, append_assoc, append-nil}
use Rattle.std.specs.Option.{option_map}
use Rattle.plural_lexer.specs.declared.token.Token.{Token}
use Rattle.plural_syntax.specs.declared.word.Word.{Word}
use Rattle.plural_syntax.specs.declared.word.Word.TheVariants as w
use Rattle.plural_syntax.specs.Words.{Lexeme, word, is, is_either, head_is, names_function}
use Rattle.plural_syntax.specs.Levels.{Step}
use Rattle.plural_syntax.specs.Grammar.{Lang, Repeated, Optional, IsTokenAfter, IsTokenList, IsTokenGroup, IsIndex, IsPower, IsBase, IsFactor, IsScaled, AreScaled, IsTerm, IsAdded, AreAdded, IsExpr, IsExprAfter, AreExprsAfter, IsList, IsExprPair}
use Rattle.plural_syntax.specs.Grammar.Repeated.{no_more, one_more}
use Rattle.plural_syntax.specs.Grammar.Optional.{absent}
use Rattle.plural_syntax.specs.Grammar.IsTokenAfter.{token_after as is_token_after}
use Rattle.plural_syntax.specs.Grammar.IsTokenList.{token_list as is_token_list}
use Rattle.plural_syntax.specs.Grammar.IsTokenGroup.{token_group as is_token_group}
use Rattle.plural_syntax.specs.Grammar.IsIndex.{index as is_index}
use Rattle.plural_syntax.specs.Grammar.IsPower.{power as is_power}
use Rattle.plural_syntax.specs.Grammar.IsBase.{int, name, group, call}
use Rattle.plural_syntax.specs.Grammar.IsFactor.{factor}
use Rattle.plural_syntax.specs.Grammar.IsScaled.{times, over}
use Rattle.plural_syntax.specs.Grammar.AreScaled.{no_scaled, scaled_more}
use Rattle.plural_syntax.specs.Grammar.IsTerm.{term}
use Rattle.plural_syntax.specs.Grammar.IsAdded.{added}
use Rattle.plural_syntax.specs.Grammar.AreAdded.{no_added, added_more}
use Rattle.plural_syntax.specs.Grammar.IsExpr.{unsigned, signed}
use Rattle.plural_syntax.specs.Grammar.IsExprAfter.{expr_after}
use Rattle.plural_syntax.specs.Grammar.AreExprsAfter.{no_expr, expr_more}
use Rattle.plural_syntax.specs.Grammar.IsList.{list}
use Rattle.plural_syntax.specs.Grammar.IsExprPair.{expr_pair}
use Rattle.plural_syntax.specs.declared.tree.Function.{Function}
use Rattle.plural_syntax.specs.declared.tree.FunctionName.{FunctionName}
use Rattle.plural_syntax.specs.declared.tree.Base.{Base}
use Rattle.plural_syntax.specs.declared.tree.Base.TheVariants as base
use Rattle.plural_syntax.specs.declared.tree.Scaled.{Scaled}
use Rattle.plural_syntax.specs.declared.tree.Scaled.TheVariants as scaled
use Rattle.plural_syntax.specs.declared.tree.Factor.{Factor, roll-Factor}
use Rattle.plural_syntax.specs.declared.tree.Term.{Term, roll-Term}
use Rattle.plural_syntax.specs.declared.tree.Added.{Added, roll-Added}
use Rattle.plural_syntax.specs.declared.tree.Expr.{Expr, roll-Expr}
use Rattle.plural_syntax.specs.declared.tree.ExprAfter.{ExprAfter, roll-ExprAfter}
use Rattle.plural_syntax.specs.declared.tree.ExprList.{ExprList, roll-ExprList}
use Rattle.plural_syntax.specs.declared.tree.Power.{Power}
use Rattle.plural_syntax.specs.declared.tree.Index.{Index}
use Rattle.plural_syntax.specs.declared.tree.TokenAfter.{TokenAfter}
use Rattle.plural_syntax.specs.declared.tree.TokenList.{TokenList}
use Rattle.plural_syntax.specs.declared.tree.TokenGroup.{TokenGroup}
use Rattle.plural_syntax.specs.declared.tree.ExprPair.{ExprPair}
use Rattle.plural_syntax.specs.Inside.Reading.{Parser, maybe, many, token_after, token_list, token_group, second, index, power, expr_after_with, list_with, pair_with, called_with, base_with, factor_with, scaled_with, term_with, added_with, sum_with, expr_with, resumed_with, expr, inside}
use Rattle.plural_syntax.proofs.Words.{sample, word-sample, is_word, is_one_of_two, each_function}
use Rattle.plural_syntax.proofs.Readers.{Begins, Seq, Takes, Names, Nothing}
use Rattle.plural_syntax.proofs.Readers.Seq.{seq}
use Rattle.plural_syntax.proofs.Readers.Takes.{takes}
use Rattle.plural_syntax.proofs.Readers.Names.{names}
use Rattle.plural_syntax.proofs.Readers.Nothing.{nothing}
use Rattle.plural_syntax.proofs.Finders.{Or}
use Rattle.plural_syntax.proofs.Rules.{Rule, Starts, Avoids, in_set, covers_is, covers_either, covers_set, apart_is, apart_either, rule_from, rule_more, rule_bind, rule_then, done, tok, yields, last, head_takes, into, rule_when, rule_many, rule_maybe, OneOf, rule_name, rule_either, starts_takes, starts_either, avoids_nothing, avoids_many, avoids_maybe}
use Rattle.plural_syntax.proofs.Rules.OneOf.{one_of}
use Rattle.plural_syntax.proofs.Strict.{strict, Levelled, Inner, rule_level, levelled_head}
use Rattle.plural_syntax.proofs.Strict.Levelled.{levelled}

-- a token, and the rest
pub tk : {B : Type 0} {v : Word} {S : Token → Lang B} {b : B} {ls : List Lexeme} (a : Lexeme) → word a ≡ v → S a.token b ls → Seq (Takes v) S b (a ∷ ls)
tk {b = b} {ls = ls} a e s = seq a.token b (a ∷ []) ls (takes a e) s

-- a tree, and what is made of it
pub fin : {A B : Type 0} {R : Lang A} {f : A → B} {xs : List Lexeme} (a : A) → R a xs → Seq R (λ x. Nothing (f x)) (f a) xs
fin {R = R} {f = f} {xs = xs} a r = subst (Seq R (λ x. Nothing (f x)) (f a)) (append-nil xs) (seq a (f a) xs [] r nothing)

-- ---- what goes on with a base, a factor, a term, an expression, a list

abbrev pub goes_base : List Word
goes_base = w.OpenIndex ∷ []

abbrev pub goes_factor : List Word
goes_factor = w.Power ∷ w.OpenIndex ∷ []

abbrev pub goes_term : List Word
goes_term = w.Times ∷ w.Over ∷ w.Power ∷ w.OpenIndex ∷ []

abbrev pub goes_expr : List Word
goes_expr = w.Plus ∷ w.Minus ∷ w.Times ∷ w.Over ∷ w.Power ∷ w.OpenIndex ∷ []

abbrev pub goes_list : List Word
goes_list = w.Comma ∷ w.Plus ∷ w.Minus ∷ w.Times ∷ w.Over ∷ w.Power ∷ w.OpenIndex ∷ []

-- ---- names and numbers

abbrev TokensAfter : Word → Lang TokenAfter
TokensAfter v = Seq (Takes w.Comma) (λ c. Seq (Takes v) (λ t. Nothing (record { comma = c; token = t })))

to_token_after : (v : Word) (x : TokenAfter) (ls : List Lexeme) → TokensAfter v x ls → IsTokenAfter v x ls
to_token_after v _ _ (seq _ _ _ _ (takes c h) (seq _ _ _ _ (takes t k) nothing)) = is_token_after c t h k

from_token_after : (v : Word) (x : TokenAfter) (ls : List Lexeme) → IsTokenAfter v x ls → TokensAfter v x ls
from_token_after v _ _ (is_token_after c t h k) = tk c h (tk t k nothing)

pub rule_token_after : {T : Type 0} (step : Step T) (d : T) (v : Word) → step d w.Comma ≡ Some d → step d v ≡ Some d → Rule step d d (token_after v) (IsTokenAfter v) []
unfolding token_after
rule_token_after step d v k e = rule_from (IsTokenAfter v) (to_token_after v) (from_token_after v) (tok w.Comma k (λ c. tok v e (λ t. yields)))

pub token_after_starts : (v : Word) → Starts (is w.Comma) (IsTokenAfter v)
token_after_starts v _ _ rest (is_token_after c t h k) = is_word w.Comma (word c) refl h

abbrev TokenLists : Word → Lang TokenList
TokenLists v = Seq (Takes v) (λ t. Seq (Repeated (IsTokenAfter v)) (λ m. Nothing (record { first = t; more = m })))

to_token_list : (v : Word) (x : TokenList) (ls : List Lexeme) → TokenLists v x ls → IsTokenList v x ls
to_token_list v _ _ (seq _ _ _ _ (takes t h) (seq m _ ms _ k nothing)) = rw (append-nil ms) (is_token_list t m ms h k)

from_token_list : (v : Word) (x : TokenList) (ls : List Lexeme) → IsTokenList v x ls → TokenLists v x ls
from_token_list v _ _ (is_token_list t m ms h k) = tk t h (fin _ k)

pub rule_tokens : (d : ℕ) (v : Word) → strict d v ≡ Some d → Rule strict d d (many (is w.Comma) (token_after v)) (Repeated (IsTokenAfter v)) (w.Comma ∷ [])
rule_tokens d v e = rule_many (is w.Comma) (w.Comma ∷ []) (token_after_starts v) (apart_is [] w.Comma refl) (covers_is (w.Comma ∷ []) w.Comma refl) refl (rule_token_after strict d v refl e)

pub rule_token_list : (d : ℕ) (v : Word) → strict d v ≡ Some d → Rule strict d d (token_list v) (IsTokenList v) (w.Comma ∷ [])
unfolding token_list
rule_token_list d v e = rule_from (IsTokenList v) (to_token_list v) (from_token_list v) (tok v e (λ t. last (rule_tokens d v e)))

abbrev TokenGroups : Word → Lang TokenGroup
TokenGroups v = Seq (Takes w.Open) (λ a. Seq (IsTokenList v) (λ l. Seq (Takes w.Close) (λ b. Nothing (record { opening = a; list = l; closing = b }))))

to_token_group : (v : Word) (x : TokenGroup) (ls : List Lexeme) → TokenGroups v x ls → IsTokenGroup v x ls
to_token_group v _ _ (seq _ _ _ _ (takes a h) (seq l _ xs _ k (seq _ _ _ _ (takes b m) nothing))) = is_token_group a b l xs h k m

from_token_group : (v : Word) (x : TokenGroup) (ls : List Lexeme) → IsTokenGroup v x ls → TokenGroups v x ls
from_token_group v _ _ (is_token_group a b l xs h k m) = tk a h (seq l _ xs (b ∷ []) k (tk b m nothing))

pub rule_token_group : (d : ℕ) (v : Word) → strict d v ≡ Some d → Rule strict (suc d) (suc d) (token_group v) (IsTokenGroup v) []
unfolding token_group
rule_token_group d v e = rule_from (IsTokenGroup v) (to_token_group v) (from_token_group v) (tok w.Open refl (λ a. into w.Close refl (rule_token_list d v e) (λ l. tok w.Close refl (λ b. yields))))

pub token_group_starts : (v : Word) → Starts (is w.Open) (IsTokenGroup v)
token_group_starts v _ _ rest (is_token_group a b l xs h k m) = is_word w.Open (word a) refl h

-- ---- indices and powers

abbrev Indices : Lang Index
Indices = Seq (Takes w.OpenIndex) (λ a. Seq (Takes w.Int) (λ n. Seq (Optional (IsTokenAfter w.Int)) (λ m. Seq (Takes w.CloseIndex) (λ b. Nothing (record { opening = a; first = n; second = m; closing = b })))))

to_index : (x : Index) (ls : List Lexeme) → Indices x ls → IsIndex x ls
to_index _ _ (seq _ _ _ _ (takes a h) (seq _ _ _ _ (takes n k) (seq m _ ms _ o (seq _ _ _ _ (takes b q) nothing)))) = is_index a n b m ms h k o q

from_index : (x : Index) (ls : List Lexeme) → IsIndex x ls → Indices x ls
from_index _ _ (is_index a n b m ms h k o q) = tk a h (tk n k (seq m _ ms (b ∷ []) o (tk b q nothing)))

pub rule_index : (d : ℕ) → Rule strict d d index IsIndex []
unfolding index second
rule_index d = rule_from IsIndex to_index from_index (tok w.OpenIndex refl (λ a. tok w.Int refl (λ n. into w.CloseIndex refl (rule_maybe w.Comma (w.Comma ∷ []) (token_after_starts w.Int) refl refl (rule_token_after strict d w.Int refl refl)) (λ m. tok w.CloseIndex refl (λ b. yields)))))

pub index_starts : Starts (is w.OpenIndex) IsIndex
index_starts _ _ rest (is_index a n b m ms h k o q) = is_word w.OpenIndex (word a) refl h

pub rule_maybe_index : (d : ℕ) → Rule strict d d (maybe w.OpenIndex index) (Optional IsIndex) goes_base
rule_maybe_index d = rule_maybe w.OpenIndex goes_base index_starts refl refl (rule_index d)

abbrev Powers : Lang Power
Powers = Seq (Takes w.Power) (λ a. Seq (Takes w.Int) (λ n. Nothing (record { sign = a; exponent = n })))

to_power : (x : Power) (ls : List Lexeme) → Powers x ls → IsPower x ls
to_power _ _ (seq _ _ _ _ (takes a h) (seq _ _ _ _ (takes n k) nothing)) = is_power a n h k

from_power : (x : Power) (ls : List Lexeme) → IsPower x ls → Powers x ls
from_power _ _ (is_power a n h k) = tk a h (tk n k nothing)

pub rule_power : (d : ℕ) → Rule strict d d power IsPower []
unfolding power
rule_power d = rule_from IsPower to_power from_power (tok w.Power refl (λ a. tok w.Int refl (λ n. yields)))

pub power_starts : Starts (is w.Power) IsPower
power_starts _ _ rest (is_power a n h k) = is_word w.Power (word a) refl h

-- ---- lists of expressions

abbrev ExprsAfter : Lang ExprAfter
ExprsAfter = Seq (Takes w.Comma) (λ a. Seq IsExpr (λ e. Nothing (roll-ExprAfter (record { comma = a; expr = e }))))

to_expr_after : (x : ExprAfter) (ls : List Lexeme) → ExprsAfter x ls → IsExprAfter x ls
to_expr_after _ _ (seq _ _ _ _ (takes a h) (seq e _ es zs k n)) = done (λ b q. IsExprAfter b (a ∷ q)) _ _ es zs n (expr_after a e es h k)

from_expr_after : (x : ExprAfter) (ls : List Lexeme) → IsExprAfter x ls → ExprsAfter x ls
from_expr_after _ _ (expr_after a e es h k) = tk a h (fin _ k)

pub rule_expr_after : (d : ℕ) (p : Parser Expr) → Rule strict d d p IsExpr goes_expr → Rule strict d d (expr_after_with p) IsExprAfter goes_expr
unfolding expr_after_with
rule_expr_after d p r = rule_from IsExprAfter to_expr_after from_expr_after (tok w.Comma refl (λ a. last r))

pub expr_after_starts : Starts (is w.Comma) IsExprAfter
expr_after_starts _ _ rest (expr_after a e es h k) = is_word w.Comma (word a) refl h

to_exprs : (x : List ExprAfter) (ls : List Lexeme) → Repeated IsExprAfter x ls → AreExprsAfter x ls
to_exprs _ _ no_more = no_expr
to_exprs _ _ (one_more a more xs ys r m) = expr_more a more xs ys r (to_exprs more ys m)

from_exprs : (x : List ExprAfter) (ls : List Lexeme) → AreExprsAfter x ls → Repeated IsExprAfter x ls
from_exprs _ _ no_expr = no_more
from_exprs _ _ (expr_more a more xs ys r m) = one_more a more xs ys r (from_exprs more ys m)

abbrev Lists : Lang ExprList
Lists = Seq IsExpr (λ e. Seq (Repeated IsExprAfter) (λ m. Nothing (roll-ExprList (record { first = e; more = m }))))

to_list : (x : ExprList) (ls : List Lexeme) → Lists x ls → IsList x ls
to_list _ _ (seq e _ es _ h (seq m _ ms zs k n)) = done (λ b q. IsList b (es ++ q)) _ _ ms zs n (list e m es ms h (to_exprs m ms k))

from_list : (x : ExprList) (ls : List Lexeme) → IsList x ls → Lists x ls
from_list _ _ (list e m es ms h k) = seq e _ es ms h (fin _ (from_exprs m ms k))

pub rule_list : (d : ℕ) (p : Parser Expr) → Rule strict d d p IsExpr goes_expr → Rule strict d d (list_with p) IsList goes_list
unfolding list_with
rule_list d p r = rule_from IsList to_list from_list
    (rule_bind r (λ e. last (rule_many (is w.Comma) goes_list expr_after_starts (apart_is goes_expr w.Comma refl) (covers_is goes_list w.Comma refl) refl (rule_expr_after d p r)))
    (λ e. avoids_many goes_list (is w.Comma) (in_set goes_expr) expr_after_starts (apart_is goes_expr w.Comma refl) (λ m. avoids_nothing (in_set goes_expr) goes_list (covers_set goes_list goes_expr refl))))

abbrev Pairs : Lang ExprPair
Pairs = Seq IsExpr (λ e. Seq (Takes w.Comma) (λ c. Seq IsExpr (λ f. Nothing (record { first = e; comma = c; second = f }))))

to_pair : (x : ExprPair) (ls : List Lexeme) → Pairs x ls → IsExprPair x ls
to_pair _ _ (seq e _ es _ h (seq _ _ _ _ (takes c k) (seq f _ fs _ m nothing))) = rw (append-nil fs) (expr_pair c e f es fs h k m)

from_pair : (x : ExprPair) (ls : List Lexeme) → IsExprPair x ls → Pairs x ls
from_pair _ _ (expr_pair c e f es fs h k m) = seq e _ es (c ∷ fs) h (tk c k (fin _ m))

pub rule_pair : (d : ℕ) (p : Parser Expr) → Rule strict d d p IsExpr goes_expr → Rule strict d d (pair_with p) IsExprPair goes_expr
unfolding pair_with
rule_pair d p r = rule_from IsExprPair to_pair from_pair (into w.Comma refl r (λ e. tok w.Comma refl (λ c. last r)))

-- ---- an expression, and what begins

pub expr_begins : Begins IsExpr []
expr_begins = (_, _, unsigned _ [] _ [] (term _ [] _ [] (factor _ None _ [] (int (sample w.Int) (word-sample w.Int)) absent) no_scaled) no_added)

list_begins : Begins IsExpr [] → Begins IsList []
list_begins b = (roll-ExprList (record { first = b.0; more = [] }), b.1 ++ [], list b.0 [] b.1 [] b.2 no_expr)

pair_begins : Begins IsExpr [] → Begins IsExprPair []
pair_begins b = (record { first = b.0; comma = (sample w.Comma).token; second = b.0 }, b.1 ++ sample w.Comma ∷ b.1, expr_pair (sample w.Comma) b.0 b.0 b.1 b.1 b.2 (word-sample w.Comma) b.2)

pub inner_list : (d : ℕ) (inner : Option (Parser Expr)) → Inner d inner IsExpr goes_expr → Inner d (option_map list_with inner) IsList goes_list
inner_list zero None b = list_begins b
inner_list zero (Some p) b = b
inner_list (suc d) None b = b
inner_list (suc d) (Some p) r = rule_list d p r

pub inner_pair : (d : ℕ) (inner : Option (Parser Expr)) → Inner d inner IsExpr goes_expr → Inner d (option_map pair_with inner) IsExprPair goes_expr
inner_pair zero None b = pair_begins b
inner_pair zero (Some p) b = b
inner_pair (suc d) None b = b
inner_pair (suc d) (Some p) r = rule_pair d p r

-- ---- the alternatives of a base

abbrev pub AsInt : Lang Base
AsInt = Seq (Takes w.Int) (λ a. Nothing (base.Int a))

abbrev pub AsName : Lang Base
AsName = Seq (Takes w.Name) (λ a. Seq (Optional IsIndex) (λ i. Nothing (base.Name a i)))

abbrev pub Called : FunctionName → Lang Base
Called f = Seq (Levelled IsList) (λ g. Nothing (base.Call f g.0 g.1 g.2))

abbrev pub AsCall : Lang Base
AsCall = Seq Names Called

abbrev pub AsGroup : Lang Base
AsGroup = Seq (Levelled IsExpr) (λ g. Nothing (base.Group g.0 g.1 g.2))

abbrev pub named : Lexeme → Function → FunctionName
named t f = record { token = t.token; function = f }

to_base : (b : Base) (ls : List Lexeme) → Or AsInt (Or AsName (Or AsCall AsGroup)) b ls → IsBase b ls
to_base _ _ (inl (seq _ _ _ _ (takes a h) nothing)) = int a h
to_base _ _ (inr (inl (seq _ _ _ _ (takes a h) (seq i _ xs zs k n)))) = done (λ b q. IsBase b (a ∷ q)) _ _ xs zs n (name a i xs h k)
to_base _ _ (inr (inr (inl (seq _ _ _ _ (names t f h) (seq _ _ _ zs (levelled a b l ls i k m) n))))) = done (λ x q. IsBase x (t ∷ q)) _ _ (a ∷ (ls ++ b ∷ [])) zs n (call t a b f l ls h i k m)
to_base _ _ (inr (inr (inr (seq _ _ _ zs (levelled a b e es h k m) n)))) = done IsBase _ _ (a ∷ (es ++ b ∷ [])) zs n (group a b e es h k m)

from_base : (b : Base) (ls : List Lexeme) → IsBase b ls → Or AsInt (Or AsName (Or AsCall AsGroup)) b ls
from_base _ _ (int a h) = inl (tk a h nothing)
from_base _ _ (name a i xs h k) = inr (inl (tk a h (fin _ k)))
from_base _ _ (call t a b f l ls h i k m) = inr (inr (inl (seq (named t f) _ (t ∷ []) (a ∷ (ls ++ b ∷ [])) (names t f h) (fin _ (levelled a b l ls i k m)))))
from_base _ _ (group a b e es h k m) = inr (inr (inr (fin _ (levelled a b e es h k m))))

call_head : (t : Word → Bool) (c : Bool) → ((f : Function) → t (w.Function f) ≡ c) → (b : Base) (xs rest : List Lexeme) → AsCall b xs → head_is t (xs ++ rest) ≡ c
call_head t c e _ _ rest (seq _ _ _ _ (names l f h) s) = ap t h ∙ e f

call_starts : Starts names_function AsCall
call_starts b xs rest r = call_head names_function true (λ f. refl) b xs rest r

not_int : Avoids (is w.Int) (Or AsName (Or AsCall AsGroup)) goes_base
not_int b xs rest (inl h) e = head_takes (is w.Int) w.Name false refl b xs rest h
not_int b xs rest (inr (inl h)) e = call_head (is w.Int) false (each_function (λ f. is w.Int (w.Function f) ≡ false) refl refl refl refl refl refl refl refl refl refl) b xs rest h
not_int b xs rest (inr (inr h)) e = levelled_head (is w.Int) false refl b xs rest h

not_name : Avoids (is w.Name) (Or AsCall AsGroup) goes_base
not_name b xs rest (inl h) e = call_head (is w.Name) false (each_function (λ f. is w.Name (w.Function f) ≡ false) refl refl refl refl refl refl refl refl refl refl) b xs rest h
not_name b xs rest (inr h) e = levelled_head (is w.Name) false refl b xs rest h

-- ---- what stands first

pub record Firsts (t : Word → Bool) (c : Bool) : Type 0 where
  pub at_int : t w.Int ≡ c
  pub at_name : t w.Name ≡ c
  pub at_function : (f : Function) → t (w.Function f) ≡ c
  pub at_open : t w.Open ≡ c

base_head : (t : Word → Bool) (c : Bool) → Firsts t c → (b : Base) (xs rest : List Lexeme) → IsBase b xs → head_is t (xs ++ rest) ≡ c
base_head t c f _ _ rest (int a h) = ap t h ∙ f.at_int
base_head t c f _ _ rest (name a i xs h k) = ap t h ∙ f.at_name
base_head t c f _ _ rest (group a b e es h k m) = ap t h ∙ f.at_open
base_head t c f _ _ rest (call n a b g l ls h i k m) = ap t h ∙ f.at_function g

term_head : (t : Word → Bool) (c : Bool) → Firsts t c → (x : Term) (xs rest : List Lexeme) → IsTerm x xs → head_is t (xs ++ rest) ≡ c
term_head t c f _ _ rest (term _ more _ ms (factor b p bs ps h k) m) = ap (head_is t) (append_assoc (bs ++ ps) ms rest ∙ append_assoc bs ps (ms ++ rest)) ∙ base_head t c f b bs (ps ++ (ms ++ rest)) h

pub expr_head : (t : Word → Bool) (c : Bool) → Firsts t c → t w.Plus ≡ c → t w.Minus ≡ c → (e : Expr) (es rest : List Lexeme) → IsExpr e es → head_is t (es ++ rest) ≡ c
expr_head t c f p m _ _ rest (signed a u more xs ys (inl h) r k) = ap t h ∙ p
expr_head t c f p m _ _ rest (signed a u more xs ys (inr h) r k) = ap t h ∙ m
expr_head t c f p m _ _ rest (unsigned u more xs ys r k) = ap (head_is t) (append_assoc xs ys rest) ∙ term_head t c f u xs (ys ++ rest) r

-- ---- expressions

abbrev Factors : Lang Factor
Factors = Seq IsBase (λ b. Seq (Optional IsPower) (λ p. Nothing (roll-Factor (record { base = b; power = p }))))

to_factor : (x : Factor) (ls : List Lexeme) → Factors x ls → IsFactor x ls
to_factor _ _ (seq b _ bs _ h (seq p _ ps _ k nothing)) = rw (append-nil ps) (factor b p bs ps h k)

from_factor : (x : Factor) (ls : List Lexeme) → IsFactor x ls → Factors x ls
from_factor _ _ (factor b p bs ps h k) = seq b _ bs ps h (fin _ k)

abbrev AsTimes : Lang Scaled
AsTimes = Seq (Takes w.Times) (λ a. Seq IsFactor (λ f. Nothing (scaled.Times a f)))

abbrev AsOver : Lang Scaled
AsOver = Seq (Takes w.Over) (λ a. Seq (Takes w.Int) (λ n. Nothing (scaled.Over a n)))

to_scaled : (x : Scaled) (ls : List Lexeme) → Or AsTimes AsOver x ls → IsScaled x ls
to_scaled _ _ (inl (seq _ _ _ _ (takes a h) (seq f _ fs _ k nothing))) = rw (append-nil fs) (times a f fs h k)
to_scaled _ _ (inr (seq _ _ _ _ (takes a h) (seq _ _ _ _ (takes n k) nothing))) = over a n h k

from_scaled : (x : Scaled) (ls : List Lexeme) → IsScaled x ls → Or AsTimes AsOver x ls
from_scaled _ _ (times a f fs h k) = inl (tk a h (fin _ k))
from_scaled _ _ (over a n h k) = inr (tk a h (tk n k nothing))

pub scaled_starts : Starts (is_either w.Times w.Over) IsScaled
scaled_starts _ _ rest (times a f fs h k) = is_one_of_two w.Times w.Over (word a) refl refl (inl h)
scaled_starts _ _ rest (over a n h k) = is_one_of_two w.Times w.Over (word a) refl refl (inr h)

pub to_all_scaled : (x : List Scaled) (ls : List Lexeme) → Repeated IsScaled x ls → AreScaled x ls
to_all_scaled _ _ no_more = no_scaled
to_all_scaled _ _ (one_more a more xs ys r m) = scaled_more a more xs ys r (to_all_scaled more ys m)

pub from_all_scaled : (x : List Scaled) (ls : List Lexeme) → AreScaled x ls → Repeated IsScaled x ls
from_all_scaled _ _ no_scaled = no_more
from_all_scaled _ _ (scaled_more a more xs ys r m) = one_more a more xs ys r (from_all_scaled more ys m)

abbrev Terms : Lang Term
Terms = Seq IsFactor (λ f. Seq (Repeated IsScaled) (λ m. Nothing (roll-Term (record { first = f; more = m }))))

to_term : (x : Term) (ls : List Lexeme) → Terms x ls → IsTerm x ls
to_term _ _ (seq f _ fs _ h (seq m _ ms _ k nothing)) = rw (append-nil ms) (term f m fs ms h (to_all_scaled m ms k))

from_term : (x : Term) (ls : List Lexeme) → IsTerm x ls → Terms x ls
from_term _ _ (term f m fs ms h k) = seq f _ fs ms h (fin _ (from_all_scaled m ms k))

abbrev Addeds : Lang Added
Addeds = Seq (OneOf w.Plus w.Minus) (λ a. Seq IsTerm (λ t. Nothing (roll-Added (record { sign = a; term = t }))))

to_added : (x : Added) (ls : List Lexeme) → Addeds x ls → IsAdded x ls
to_added _ _ (seq _ _ _ _ (one_of a h) (seq t _ ts _ k nothing)) = rw (append-nil ts) (added a t ts h k)

from_added : (x : Added) (ls : List Lexeme) → IsAdded x ls → Addeds x ls
from_added _ _ (added a t ts h k) = seq a.token _ (a ∷ []) ts (one_of a h) (fin _ k)

pub added_starts : Starts (is_either w.Plus w.Minus) IsAdded
added_starts _ _ rest (added a t ts h k) = is_one_of_two w.Plus w.Minus (word a) refl refl h

pub to_all_added : (x : List Added) (ls : List Lexeme) → Repeated IsAdded x ls → AreAdded x ls
to_all_added _ _ no_more = no_added
to_all_added _ _ (one_more a more xs ys r m) = added_more a more xs ys r (to_all_added more ys m)

pub from_all_added : (x : List Added) (ls : List Lexeme) → AreAdded x ls → Repeated IsAdded x ls
from_all_added _ _ no_added = no_more
from_all_added _ _ (added_more a more xs ys r m) = one_more a more xs ys r (from_all_added more ys m)

abbrev Sums : Option Token → Lang Expr
Sums s = Seq IsTerm (λ t. Seq (Repeated IsAdded) (λ m. Nothing (roll-Expr (record { sign = s; first = t; more = m }))))

abbrev Signed : Lang Expr
Signed = Seq (OneOf w.Plus w.Minus) (λ a. Sums (Some a))

to_expr : (x : Expr) (ls : List Lexeme) → Or Signed (Sums None) x ls → IsExpr x ls
to_expr _ _ (inl (seq _ _ _ _ (one_of a i) (seq t _ ts _ h (seq m _ ms zs k n)))) = done (λ x q. IsExpr x (a ∷ (ts ++ q))) _ _ ms zs n (signed a t m ts ms i h (to_all_added m ms k))
to_expr _ _ (inr (seq t _ ts _ h (seq m _ ms zs k n))) = done (λ x q. IsExpr x (ts ++ q)) _ _ ms zs n (unsigned t m ts ms h (to_all_added m ms k))

from_expr : (x : Expr) (ls : List Lexeme) → IsExpr x ls → Or Signed (Sums None) x ls
from_expr _ _ (signed a t m ts ms i h k) = inl (seq a.token _ (a ∷ []) (ts ++ ms) (one_of a i) (seq t _ ts ms h (fin _ (from_all_added m ms k))))
from_expr _ _ (unsigned t m ts ms h k) = inr (seq t _ ts ms h (fin _ (from_all_added m ms k)))

not_signed : Avoids (is_either w.Plus w.Minus) (Sums None) goes_expr
not_signed _ _ rest (seq t _ ts ms h k) e = ap (head_is (is_either w.Plus w.Minus)) (append_assoc ts ms rest) ∙ term_head (is_either w.Plus w.Minus) false (record { at_int = refl; at_name = refl; at_function = each_function (λ f. is_either w.Plus w.Minus (w.Function f) ≡ false) refl refl refl refl refl refl refl refl refl refl; at_open = refl }) t ts (ms ++ rest) h

-- an expression without a sign, behind its first base
abbrev pub resumed_expr : Base → Option Power → List Scaled → List Added → Expr
resumed_expr b p ts m = roll-Expr (record { sign = None; first = roll-Term (record { first = roll-Factor (record { base = b; power = p }); more = ts }); more = m })

abbrev pub Resumed : Base → Lang Expr
Resumed b = Seq (Optional IsPower) (λ p. Seq (Repeated IsScaled) (λ ts. Seq (Repeated IsAdded) (λ m. Nothing (resumed_expr b p ts m))))

module _ (d : ℕ) (inner : Option (Parser Expr)) (i : Inner d inner IsExpr goes_expr) where
  pub rule_called : (f : FunctionName) → Rule strict d d (called_with inner f) (Called f) []
  unfolding called_with
  rule_called f = last (rule_level d (option_map list_with inner) IsList goes_list refl (inner_list d inner i))

  pub rule_base : Rule strict d d (base_with inner) IsBase goes_base
  unfolding base_with
  rule_base = rule_from IsBase to_base from_base
      (rule_when (is w.Int) (starts_takes w.Int) not_int (tok w.Int refl (λ a. yields))
      (rule_when (is w.Name) (starts_takes w.Name) not_name (tok w.Name refl (λ a. last (rule_maybe_index d)))
      (rule_when names_function call_starts (λ b xs rest h e. levelled_head names_function false refl b xs rest h)
      (rule_then (rule_name (each_function (λ f. strict d (w.Function f) ≡ Some d) refl refl refl refl refl refl refl refl refl refl)) (λ f. rule_more goes_base refl (rule_called f)))
      (rule_more goes_base refl (last (rule_level d inner IsExpr goes_expr refl i))))))

  pub rule_factor : Rule strict d d (factor_with inner) IsFactor goes_factor
  unfolding factor_with
  rule_factor = rule_from IsFactor to_factor from_factor
      (rule_bind rule_base (λ b. last (rule_maybe w.Power goes_factor power_starts refl refl (rule_power d)))
      (λ b. avoids_maybe goes_factor (is w.Power) (in_set goes_base) power_starts (apart_is goes_base w.Power refl) (λ p. avoids_nothing (in_set goes_base) goes_factor (covers_set goes_factor goes_base refl))))

  pub rule_scaled : Rule strict d d (scaled_with inner) IsScaled goes_factor
  unfolding scaled_with
  rule_scaled = rule_from IsScaled to_scaled from_scaled
      (rule_when (is w.Times) (starts_takes w.Times) (λ b xs rest h e. head_takes (is w.Times) w.Over false refl b xs rest h)
      (tok w.Times refl (λ a. last rule_factor))
      (tok w.Over refl (λ a. tok w.Int refl (λ n. yields))))

  pub rule_all_scaled : Rule strict d d (many (is_either w.Times w.Over) (scaled_with inner)) (Repeated IsScaled) goes_term
  rule_all_scaled = rule_many (is_either w.Times w.Over) goes_term scaled_starts (apart_either goes_factor w.Times w.Over refl refl) (covers_either goes_term w.Times w.Over refl refl) refl rule_scaled

  pub rule_term : Rule strict d d (term_with inner) IsTerm goes_term
  unfolding term_with
  rule_term = rule_from IsTerm to_term from_term
      (rule_bind rule_factor (λ f. last rule_all_scaled)
      (λ f. avoids_many goes_term (is_either w.Times w.Over) (in_set goes_factor) scaled_starts (apart_either goes_factor w.Times w.Over refl refl) (λ m. avoids_nothing (in_set goes_factor) goes_term (covers_set goes_term goes_factor refl))))

  pub rule_added : Rule strict d d (added_with inner) IsAdded goes_term
  unfolding added_with
  rule_added = rule_from IsAdded to_added from_added (rule_then (rule_either w.Plus w.Minus refl refl refl) (λ a. last rule_term))

  pub rule_all_added : Rule strict d d (many (is_either w.Plus w.Minus) (added_with inner)) (Repeated IsAdded) goes_expr
  rule_all_added = rule_many (is_either w.Plus w.Minus) goes_expr added_starts (apart_either goes_term w.Plus w.Minus refl refl) (covers_either goes_expr w.Plus w.Minus refl refl) refl rule_added

  rule_sum : (s : Option Token) → Rule strict d d (sum_with inner s) (Sums s) goes_expr
  unfolding sum_with
  rule_sum s = rule_bind rule_term (λ t. last rule_all_added)
      (λ t. avoids_many goes_expr (is_either w.Plus w.Minus) (in_set goes_term) added_starts (apart_either goes_term w.Plus w.Minus refl refl) (λ m. avoids_nothing (in_set goes_term) goes_expr (covers_set goes_expr goes_term refl)))

  pub rule_expr_with : Rule strict d d (expr_with inner) IsExpr goes_expr
  unfolding expr_with
  rule_expr_with = rule_from IsExpr to_expr from_expr
      (rule_when (is_either w.Plus w.Minus) (starts_either w.Plus w.Minus) not_signed
      (rule_then (rule_either w.Plus w.Minus refl refl refl) (λ a. rule_sum (Some a)))
      (rule_sum None))

  pub rule_resumed : (b : Base) → Rule strict d d (resumed_with inner b) (Resumed b) goes_expr
  unfolding resumed_with
  rule_resumed b =
      rule_bind (rule_maybe w.Power (w.Power ∷ []) power_starts refl refl (rule_power d))
      (λ p. rule_bind rule_all_scaled (λ ts. last rule_all_added)
      (λ ts. avoids_many goes_expr (is_either w.Plus w.Minus) (in_set goes_term) added_starts (apart_either goes_term w.Plus w.Minus refl refl) (λ m. avoids_nothing (in_set goes_term) goes_expr (covers_set goes_expr goes_term refl))))
      (λ p. avoids_many goes_expr (is_either w.Times w.Over) (in_set (w.Power ∷ [])) scaled_starts (apart_either (w.Power ∷ []) w.Times w.Over refl refl)
      (λ ts. avoids_many goes_expr (is_either w.Plus w.Minus) (in_set (w.Power ∷ [])) added_starts (apart_either (w.Power ∷ []) w.Plus w.Minus refl refl)
      (λ m. avoids_nothing (in_set (w.Power ∷ [])) goes_expr (covers_set goes_expr (w.Power ∷ []) refl))))

-- ---- at each number of levels

pub rule_expr : (d : ℕ) → Rule strict d d (expr d) IsExpr goes_expr
unfolding expr
rule_expr zero = rule_expr_with zero None expr_begins
rule_expr (suc d) = rule_expr_with (suc d) (Some (expr d)) (rule_expr d)

pub inside_ok : (d : ℕ) → Inner d (inside d) IsExpr goes_expr
unfolding inside
inside_ok zero = expr_begins
inside_ok (suc d) = rule_expr d
