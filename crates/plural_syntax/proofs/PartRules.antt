-- The rules of the parts of statements.
use Rattle.std.proofs.Common.{◌≡◌, ℕ, suc, Bool, true, false, [], ◌∷◌, ◌++◌, List, Option, inl, inr, refl, ap, ◌∙◌, append_assoc}
use Rattle.plural_syntax.specs.declared.word.Word.{Word}
use Rattle.plural_syntax.specs.declared.word.Word.TheVariants as w
use Rattle.plural_syntax.specs.Words.{Lexeme, word, is, head_is}
use Rattle.plural_syntax.specs.Grammar.{Lang, Repeated, Optional, IsTokenGroup, IsExpr, IsList, IsVars, IsItem, IsItemAfter, IsItemList, IsOrder, IsValue, IsValues, IsSide}
use Rattle.plural_syntax.specs.Grammar.IsTokenGroup.{token_group as is_token_group}
use Rattle.plural_syntax.specs.Grammar.IsVars.{one_name, many_names}
use Rattle.plural_syntax.specs.Grammar.IsItem.{item as is_item}
use Rattle.plural_syntax.specs.Grammar.IsItemAfter.{item_after as is_item_after}
use Rattle.plural_syntax.specs.Grammar.IsItemList.{item_list as is_item_list}
use Rattle.plural_syntax.specs.Grammar.IsOrder.{one_item, many_items}
use Rattle.plural_syntax.specs.Grammar.IsValue.{value as is_value}
use Rattle.plural_syntax.specs.Grammar.IsValues.{values as is_values}
use Rattle.plural_syntax.specs.Grammar.IsSide.{side as is_side}
use Rattle.plural_syntax.specs.declared.tree.Vars.{Vars}
use Rattle.plural_syntax.specs.declared.tree.Vars.TheVariants as vars
use Rattle.plural_syntax.specs.declared.tree.Order.{Order}
use Rattle.plural_syntax.specs.declared.tree.Order.TheVariants as order
use Rattle.plural_syntax.specs.declared.tree.Expr.{Expr}
use Rattle.plural_syntax.specs.declared.tree.TokenGroup.{TokenGroup}
use Rattle.plural_syntax.specs.declared.tree.Item.{Item}
use Rattle.plural_syntax.specs.declared.tree.ItemAfter.{ItemAfter}
use Rattle.plural_syntax.specs.declared.tree.ItemList.{ItemList}
use Rattle.plural_syntax.specs.declared.tree.Value.{Value}
use Rattle.plural_syntax.specs.declared.tree.Values.{Values}
use Rattle.plural_syntax.specs.declared.tree.Side.{Side}
use Rattle.plural_syntax.specs.Inside.Reading.{Parser, maybe, expr_with, read_vars, item, item_after, item_list, read_order, side, value_with, values_with}
use Rattle.plural_syntax.proofs.Words.{is_word}
use Rattle.plural_syntax.proofs.Readers.{Seq, Takes, Nothing}
use Rattle.plural_syntax.proofs.Readers.Seq.{seq}
use Rattle.plural_syntax.proofs.Readers.Takes.{takes}
use Rattle.plural_syntax.proofs.Readers.Nothing.{nothing}
use Rattle.plural_syntax.proofs.Finders.{Or}
use Rattle.plural_syntax.proofs.Rules.{Rule, Starts, in_set, covers_is, covers_set, apart_is, rule_from, rule_bind, done, tok, yields, last, head_takes, into, rule_when, rule_many, rule_maybe, starts_takes, avoids_nothing, avoids_many}
use Rattle.plural_syntax.proofs.Strict.{strict, Inner}
use Rattle.plural_syntax.proofs.ExprRules.{tk, fin, goes_expr, goes_list, rule_token_group, token_group_starts, rule_expr_with, rule_list}

-- ---- variables

abbrev OneName : Lang Vars
OneName = Seq (Takes w.Name) (λ n. Nothing (vars.One n))

abbrev ManyNames : Lang Vars
ManyNames = Seq (IsTokenGroup w.Name) (λ g. Nothing (vars.Many g))

to_vars : (x : Vars) (ls : List Lexeme) → Or OneName ManyNames x ls → IsVars x ls
to_vars _ _ (inl (seq _ _ _ _ (takes n h) nothing)) = one_name n h
to_vars _ _ (inr (seq g _ gs zs h n)) = done IsVars _ _ gs zs n (many_names g gs h)

from_vars : (x : Vars) (ls : List Lexeme) → IsVars x ls → Or OneName ManyNames x ls
from_vars _ _ (one_name n h) = inl (tk n h nothing)
from_vars _ _ (many_names g gs h) = inr (fin _ h)

group_first : (t : Word → Bool) (v : Word) → t w.Open ≡ false → (g : TokenGroup) (xs rest : List Lexeme) → IsTokenGroup v g xs → head_is t (xs ++ rest) ≡ false
group_first t v e _ _ rest (is_token_group a b l xs h k m) = ap t h ∙ e

group_head : {B : Type 0} {S : TokenGroup → Lang B} (t : Word → Bool) (v : Word) → t w.Open ≡ false → (b : B) (xs rest : List Lexeme) → Seq (IsTokenGroup v) S b xs → head_is t (xs ++ rest) ≡ false
group_head t v e _ _ rest (seq g b xs ys h s) = ap (head_is t) (append_assoc xs ys rest) ∙ group_first t v e g xs (ys ++ rest) h

pub rule_vars : (d : ℕ) → Rule strict (suc d) (suc d) read_vars IsVars []
unfolding read_vars
rule_vars d = rule_from IsVars to_vars from_vars
    (rule_when (is w.Name) (starts_takes w.Name) (λ b xs rest h e. group_head (is w.Name) w.Name refl b xs rest h)
    (tok w.Name refl (λ n. yields))
    (last (rule_token_group d w.Name refl)))

-- ---- orders

abbrev AsItem : Lang Item
AsItem = Seq (Takes w.Name) (λ n. Seq (Optional (IsTokenGroup w.Int)) (λ g. Nothing (record { name = n; numbers = g })))

to_item : (x : Item) (ls : List Lexeme) → AsItem x ls → IsItem x ls
to_item _ _ (seq _ _ _ _ (takes n h) (seq g _ gs zs k z)) = done (λ x q. IsItem x (n ∷ q)) _ _ gs zs z (is_item n g gs h k)

from_item : (x : Item) (ls : List Lexeme) → IsItem x ls → AsItem x ls
from_item _ _ (is_item n g gs h k) = tk n h (fin _ k)

pub rule_item : (d : ℕ) → Rule strict (suc d) (suc d) item IsItem (w.Open ∷ [])
unfolding item
rule_item d = rule_from IsItem to_item from_item (tok w.Name refl (λ n. last (rule_maybe w.Open (w.Open ∷ []) (token_group_starts w.Int) refl refl (rule_token_group d w.Int refl))))

item_first : (t : Word → Bool) (c : Bool) → t w.Name ≡ c → (x : Item) (xs rest : List Lexeme) → IsItem x xs → head_is t (xs ++ rest) ≡ c
item_first t c e _ _ rest (is_item n g gs h k) = ap t h ∙ e

abbrev ItemsAfter : Lang ItemAfter
ItemsAfter = Seq (Takes w.Comma) (λ c. Seq IsItem (λ i. Nothing (record { comma = c; item = i })))

to_item_after : (x : ItemAfter) (ls : List Lexeme) → ItemsAfter x ls → IsItemAfter x ls
to_item_after _ _ (seq _ _ _ _ (takes c h) (seq i _ xs zs k z)) = done (λ x q. IsItemAfter x (c ∷ q)) _ _ xs zs z (is_item_after c i xs h k)

from_item_after : (x : ItemAfter) (ls : List Lexeme) → IsItemAfter x ls → ItemsAfter x ls
from_item_after _ _ (is_item_after c i xs h k) = tk c h (fin _ k)

pub rule_item_after : (d : ℕ) → Rule strict (suc d) (suc d) item_after IsItemAfter (w.Open ∷ [])
unfolding item_after
rule_item_after d = rule_from IsItemAfter to_item_after from_item_after (tok w.Comma refl (λ c. last (rule_item d)))

pub item_after_starts : Starts (is w.Comma) IsItemAfter
item_after_starts _ _ rest (is_item_after c i xs h k) = is_word w.Comma (word c) refl h

abbrev goes_items : List Word
goes_items = w.Comma ∷ w.Open ∷ []

abbrev ItemLists : Lang ItemList
ItemLists = Seq IsItem (λ i. Seq (Repeated IsItemAfter) (λ m. Nothing (record { first = i; more = m })))

to_item_list : (x : ItemList) (ls : List Lexeme) → ItemLists x ls → IsItemList x ls
to_item_list _ _ (seq i _ xs _ h (seq m _ ms zs k z)) = done (λ x q. IsItemList x (xs ++ q)) _ _ ms zs z (is_item_list i m xs ms h k)

from_item_list : (x : ItemList) (ls : List Lexeme) → IsItemList x ls → ItemLists x ls
from_item_list _ _ (is_item_list i m xs ms h k) = seq i _ xs ms h (fin _ k)

pub rule_item_list : (d : ℕ) → Rule strict (suc d) (suc d) item_list IsItemList goes_items
unfolding item_list
rule_item_list d = rule_from IsItemList to_item_list from_item_list
    (rule_bind (rule_item d) (λ i. last (rule_many (is w.Comma) goes_items item_after_starts (apart_is (w.Open ∷ []) w.Comma refl) (covers_is goes_items w.Comma refl) refl (rule_item_after d)))
    (λ i. avoids_many goes_items (is w.Comma) (in_set (w.Open ∷ [])) item_after_starts (apart_is (w.Open ∷ []) w.Comma refl) (λ m. avoids_nothing (in_set (w.Open ∷ [])) goes_items (covers_set goes_items (w.Open ∷ []) refl))))

abbrev OneItem : Lang Order
OneItem = Seq IsItem (λ i. Nothing (order.One i))

abbrev ManyItems : Lang Order
ManyItems = Seq (Takes w.Open) (λ a. Seq IsItemList (λ l. Seq (Takes w.Close) (λ b. Nothing (order.Many a l b))))

to_order : (x : Order) (ls : List Lexeme) → Or OneItem ManyItems x ls → IsOrder x ls
to_order _ _ (inl (seq i _ xs zs h z)) = done IsOrder _ _ xs zs z (one_item i xs h)
to_order _ _ (inr (seq _ _ _ _ (takes a h) (seq l _ xs _ k (seq _ _ _ _ (takes b m) nothing)))) = many_items a b l xs h k m

from_order : (x : Order) (ls : List Lexeme) → IsOrder x ls → Or OneItem ManyItems x ls
from_order _ _ (one_item i xs h) = inl (fin _ h)
from_order _ _ (many_items a b l xs h k m) = inr (tk a h (seq l _ xs (b ∷ []) k (tk b m nothing)))

one_item_starts : Starts (is w.Name) OneItem
one_item_starts _ _ rest (seq i b xs ys h s) = ap (head_is (is w.Name)) (append_assoc xs ys rest) ∙ item_first (is w.Name) true refl i xs (ys ++ rest) h

pub rule_order : (d : ℕ) → Rule strict (suc (suc d)) (suc (suc d)) read_order IsOrder (w.Open ∷ [])
unfolding read_order
rule_order d = rule_from IsOrder to_order from_order
    (rule_when (is w.Name) one_item_starts (λ b xs rest h e. head_takes (is w.Name) w.Open false refl b xs rest h)
    (last (rule_item (suc d)))
    (tok w.Open refl (λ a. into w.Close refl (rule_item_list d) (λ l. tok w.Close refl (λ b. yields)))))

-- ---- sizes and values

abbrev Sides : Lang Side
Sides = Seq (Takes w.OpenIndex) (λ a. Seq (Takes w.Int) (λ n. Seq (Takes w.CloseIndex) (λ b. Nothing (record { opening = a; number = n; closing = b }))))

to_side : (x : Side) (ls : List Lexeme) → Sides x ls → IsSide x ls
to_side _ _ (seq _ _ _ _ (takes a h) (seq _ _ _ _ (takes n k) (seq _ _ _ _ (takes b m) nothing))) = is_side a n b h k m

from_side : (x : Side) (ls : List Lexeme) → IsSide x ls → Sides x ls
from_side _ _ (is_side a n b h k m) = tk a h (tk n k (tk b m nothing))

pub rule_side : (d : ℕ) → Rule strict d d side IsSide []
unfolding side
rule_side d = rule_from IsSide to_side from_side (tok w.OpenIndex refl (λ a. tok w.Int refl (λ n. tok w.CloseIndex refl (λ b. yields))))

abbrev AsValue : Lang Value
AsValue = Seq (Takes w.Equals) (λ a. Seq IsExpr (λ e. Nothing (record { equals = a; expr = e })))

to_value : (x : Value) (ls : List Lexeme) → AsValue x ls → IsValue x ls
to_value _ _ (seq _ _ _ _ (takes a h) (seq e _ xs zs k z)) = done (λ x q. IsValue x (a ∷ q)) _ _ xs zs z (is_value a e xs h k)

from_value : (x : Value) (ls : List Lexeme) → IsValue x ls → AsValue x ls
from_value _ _ (is_value a e xs h k) = tk a h (fin _ k)

value_starts : Starts (is w.Equals) IsValue
value_starts _ _ rest (is_value a e xs h k) = is_word w.Equals (word a) refl h

abbrev AsValues : Lang Values
AsValues = Seq (Takes w.Equals) (λ a. Seq IsList (λ l. Nothing (record { equals = a; list = l })))

to_values : (x : Values) (ls : List Lexeme) → AsValues x ls → IsValues x ls
to_values _ _ (seq _ _ _ _ (takes a h) (seq e _ xs zs k z)) = done (λ x q. IsValues x (a ∷ q)) _ _ xs zs z (is_values a e xs h k)

from_values : (x : Values) (ls : List Lexeme) → IsValues x ls → AsValues x ls
from_values _ _ (is_values a e xs h k) = tk a h (fin _ k)

values_starts : Starts (is w.Equals) IsValues
values_starts _ _ rest (is_values a e xs h k) = is_word w.Equals (word a) refl h

abbrev pub goes_value : List Word
goes_value = w.Equals ∷ w.Plus ∷ w.Minus ∷ w.Times ∷ w.Over ∷ w.Power ∷ w.OpenIndex ∷ []

abbrev pub goes_values : List Word
goes_values = w.Equals ∷ w.Comma ∷ w.Plus ∷ w.Minus ∷ w.Times ∷ w.Over ∷ w.Power ∷ w.OpenIndex ∷ []

module _ (d : ℕ) (inner : Option (Parser Expr)) (i : Inner d inner IsExpr goes_expr) where
  rule_value : Rule strict d d (value_with inner) IsValue goes_expr
  unfolding value_with
  rule_value = rule_from IsValue to_value from_value (tok w.Equals refl (λ e. last (rule_expr_with d inner i)))

  rule_values : Rule strict d d (values_with inner) IsValues goes_list
  unfolding values_with
  rule_values = rule_from IsValues to_values from_values (tok w.Equals refl (λ e. last (rule_list d (expr_with inner) (rule_expr_with d inner i))))

  pub rule_maybe_value : Rule strict d d (maybe w.Equals (value_with inner)) (Optional IsValue) goes_value
  rule_maybe_value = rule_maybe w.Equals goes_value value_starts refl refl rule_value

  pub rule_maybe_values : Rule strict d d (maybe w.Equals (values_with inner)) (Optional IsValues) goes_values
  rule_maybe_values = rule_maybe w.Equals goes_values values_starts refl refl rule_values
