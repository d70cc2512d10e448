-- The leaves of a tree are the tokens that spell it.
use Rattle.std.proofs.Common.{◌≡◌, ℕ, zero, suc, ◌≤◌, List, [], ◌∷◌, ◌++◌, map, flat_map, Option, Some, None, ◌⊎◌, inl, inr, refl, sym, ap, subst, ◌∙◌, arith}
use Rattle.std.proofs.lemmas.List.{map-append}
use Rattle.plural_lexer.specs.declared.token.Token.{Token}
use Rattle.plural_syntax.specs.declared.word.Word.{Word}
use Rattle.plural_syntax.specs.declared.word.Word.TheVariants as w
use Rattle.plural_syntax.specs.declared.tree.Function.{Function}
use Rattle.plural_syntax.specs.declared.tree.FunctionName.{FunctionName}
use Rattle.plural_syntax.specs.declared.tree.Base.{Base, out-Base}
use Rattle.plural_syntax.specs.declared.tree.Base.TheVariants as base
use Rattle.plural_syntax.specs.declared.tree.Base.TheOpen.{Base-F, Scaled-F}
use Rattle.plural_syntax.specs.declared.tree.Base.TheViews.{out-roll-Base, out-roll-Scaled, out-roll-Factor, out-roll-Term, out-roll-Added, out-roll-Expr, out-roll-ExprAfter, out-roll-ExprList}
use Rattle.plural_syntax.specs.declared.tree.Scaled.{Scaled, out-Scaled}
use Rattle.plural_syntax.specs.declared.tree.Scaled.TheVariants as scaled
use Rattle.plural_syntax.specs.declared.tree.Factor.{Factor, roll-Factor}
use Rattle.plural_syntax.specs.declared.tree.Term.{Term, roll-Term}
use Rattle.plural_syntax.specs.declared.tree.Added.{Added, roll-Added}
use Rattle.plural_syntax.specs.declared.tree.Expr.{Expr, roll-Expr}
use Rattle.plural_syntax.specs.declared.tree.ExprAfter.{ExprAfter, roll-ExprAfter}
use Rattle.plural_syntax.specs.declared.tree.ExprList.{ExprList, roll-ExprList}
use Rattle.plural_syntax.specs.declared.tree.Power.{Power}
use Rattle.plural_syntax.specs.declared.tree.Index.{Index}
use Rattle.plural_syntax.specs.declared.tree.TokenAfter.{TokenAfter}
use Rattle.plural_syntax.specs.declared.tree.TokenList.{TokenList}
use Rattle.plural_syntax.specs.declared.tree.TokenGroup.{TokenGroup}
use Rattle.plural_syntax.specs.declared.tree.Item.{Item}
use Rattle.plural_syntax.specs.declared.tree.ItemAfter.{ItemAfter}
use Rattle.plural_syntax.specs.declared.tree.ItemList.{ItemList}
use Rattle.plural_syntax.specs.declared.tree.Vars.{Vars}
use Rattle.plural_syntax.specs.declared.tree.Order.{Order}
use Rattle.plural_syntax.specs.declared.tree.Value.{Value}
use Rattle.plural_syntax.specs.declared.tree.Values.{Values}
use Rattle.plural_syntax.specs.declared.tree.Side.{Side}
use Rattle.plural_syntax.specs.declared.tree.ExprPair.{ExprPair}
use Rattle.plural_syntax.specs.declared.tree.Statement.{Statement}
use Rattle.plural_syntax.specs.declared.tree.Script.{Script}
use Rattle.plural_syntax.specs.Words.{Lexeme, word}
use Rattle.plural_syntax.specs.Levels.{on_some, walk, levels}
use Rattle.plural_syntax.specs.Grammar.{Lang, Repeated, Optional, IsTokenAfter, IsTokenList, IsTokenGroup, IsIndex, IsPower, IsSumSign, IsBase, IsFactor, IsScaled, AreScaled, IsTerm, IsAdded, AreAdded, IsExpr, IsExprAfter, AreExprsAfter, IsList, IsExprPair, IsVars, IsItem, IsItemAfter, IsItemList, IsOrder, IsValue, IsValues, IsSide, IsStatement, IsScript}
use Rattle.plural_syntax.specs.Grammar.Repeated.{no_more, one_more}
use Rattle.plural_syntax.specs.Grammar.Optional.{absent, present}
use Rattle.plural_syntax.specs.Grammar.IsTokenAfter.{token_after}
use Rattle.plural_syntax.specs.Grammar.IsTokenList.{token_list}
use Rattle.plural_syntax.specs.Grammar.IsTokenGroup.{token_group}
use Rattle.plural_syntax.specs.Grammar.IsIndex.{index}
use Rattle.plural_syntax.specs.Grammar.IsPower.{power}
use Rattle.plural_syntax.specs.Grammar.IsBase.{int, name, group, call}
use Rattle.plural_syntax.specs.Grammar.IsFactor.{factor}
use Rattle.plural_syntax.specs.Grammar.IsScaled.{times, over}
use Rattle.plural_syntax.specs.Grammar.AreScaled.{no_scaled, scaled_more}
use Rattle.plural_syntax.specs.Grammar.IsTerm.{term}
use Rattle.plural_syntax.specs.Grammar.IsAdded.{added}
use Rattle.plural_syntax.specs.Grammar.AreAdded.{no_added, added_more}
use Rattle.plural_syntax.specs.Grammar.IsExpr.{unsigned, signed}
use Rattle.plural_syntax.specs.Grammar.IsExprAfter.{expr_after}
use Rattle.plural_syntax.specs.Grammar.AreExprsAfter.{no_expr, expr_more}
use Rattle.plural_syntax.specs.Grammar.IsList.{list}
use Rattle.plural_syntax.specs.Grammar.IsExprPair.{expr_pair}
use Rattle.plural_syntax.specs.Grammar.IsVars.{one_name, many_names}
use Rattle.plural_syntax.specs.Grammar.IsItem.{item}
use Rattle.plural_syntax.specs.Grammar.IsItemAfter.{item_after}
use Rattle.plural_syntax.specs.Grammar.IsItemList.{item_list}
use Rattle.plural_syntax.specs.Grammar.IsOrder.{one_item, many_items}
use Rattle.plural_syntax.specs.Grammar.IsValue.{value}
use Rattle.plural_syntax.specs.Grammar.IsValues.{values}
use Rattle.plural_syntax.specs.Grammar.IsSide.{side}
use Rattle.plural_syntax.specs.Grammar.{IsStatement as is_statement}
use Rattle.plural_syntax.specs.Grammar.IsScript.{script}
use Rattle.plural_syntax.specs.Leaves.{tokens_of, optional_leaves, token_after_leaves, token_list_leaves, token_group_leaves, index_leaves, power_leaves, side_leaves, vars_leaves, item_leaves, item_after_leaves, item_list_leaves, order_leaves, expr_after_leaves, list_leaves, base_layer_leaves, base_leaves, factor_leaves, scaled_layer_leaves, scaled_leaves, term_leaves, added_leaves, expr_leaves, expr_leaves_within, value_leaves, values_leaves, pair_leaves, statement_leaves, leaves_within}
use Rattle.plural_syntax.proofs.Words.{each_function}
use Rattle.plural_syntax.proofs.Readers.{walk-append}

-- what the tokens lead to from d levels is u levels, and the leaves are they
record Spans (d u : ℕ) (ts : List Token) (ls : List Lexeme) : Type 0 where
  at : (m : ℕ) → walk levels d ls ≡ Some m → (m ≡ u) × (ts ≡ tokens_of ls)

-- ---- joined

end : (d : ℕ) → Spans d d [] []
end d = record { at = λ m e. let h : m ≡ d = cc in (h, refl) }

tk : {d u t : ℕ} {v : Word} {ts : List Token} {ls : List Lexeme} (l : Lexeme) → word l ≡ v → levels d v ≡ Some u → Spans u t ts ls → Spans d t (l.token ∷ ts) (l ∷ ls)
tk {d = d} {u = u} {ls = ls} l e k s = record {
  at = λ m h.
      let there : walk levels u ls ≡ Some m = sym (ap (λ o. on_some o (λ x. walk levels x ls)) (ap (levels d) e ∙ k)) ∙ h in
      let r = s.at m there in
      (r.0, ap (λ x. l.token ∷ x) r.1);
}

joined : (d u t : ℕ) (ts us : List Token) (xs ys : List Lexeme) (o : Option ℕ) → walk levels d xs ≡ o → Spans d u ts xs → Spans u t us ys → (m : ℕ) → on_some o (λ k. walk levels k ys) ≡ Some m → (m ≡ t) × (ts ++ us ≡ tokens_of (xs ++ ys))
joined d u t ts us xs ys None h p q m e = cc
joined d u t ts us xs ys (Some k) h p q m e =
    let a = p.at k h in
    let b = q.at m (subst (λ j. walk levels j ys ≡ Some m) a.0 e) in
    (b.0, ap (λ l. l ++ us) a.1 ∙ ap (λ l. tokens_of xs ++ l) b.1 ∙ sym (map-append (λ (l : Lexeme). l.token) xs ys))

then_on : {d u t : ℕ} {ts us : List Token} {xs ys : List Lexeme} → Spans d u ts xs → Spans u t us ys → Spans d t (ts ++ us) (xs ++ ys)
then_on {d = d} {u = u} {t = t} {ts = ts} {us = us} {xs = xs} {ys = ys} p q = record { at = λ m e. joined d u t ts us xs ys (walk levels d xs) refl p q m (sym (walk-append levels d xs ys) ∙ e) }

-- the leaves of a tree that is opened
opened : {d : ℕ} {ts us : List Token} {ls : List Lexeme} → ts ≡ us → Spans d d us ls → Spans d d ts ls
opened {d = d} {ls = ls} e s = subst (λ x. Spans d d x ls) (sym e) s

-- at no level nothing is opened
levelled : (d : ℕ) {ts us : List Token} {es ys : List Lexeme} (a b : Lexeme) → word a ≡ w.Open → ((k : ℕ) → d ≡ suc k → Spans k k ts es) → word b ≡ w.Close → Spans d d us ys → Spans d d (a.token ∷ (ts ++ b.token ∷ us)) (a ∷ (es ++ b ∷ ys))
levelled zero {es = es} {ys = ys} a b e h f s = record {
  at = λ m k.
      let blocked : None ≡ Some m = sym (ap (λ v. on_some (levels 0 v) (λ t. walk levels t (es ++ b ∷ ys))) e) ∙ k in
      cc;
}
levelled (suc k) a b e h f s = tk a e refl (then_on (h k refl) (tk b f refl s))

-- at each number of levels
abbrev Spelled : {A : Type 0} → Lang A → (A → List Token) → ℕ → Type 0
Spelled {A} R f d = (a : A) (ls : List Lexeme) → R a ls → Spans d d (f a) ls

each : {A : Type 0} {d : ℕ} (R : Lang A) (f : A → List Token) → Spelled R f d → Spelled (Repeated R) (flat_map f) d
each {d = d} R f s _ _ no_more = end d
each {d = d} R f s _ _ (one_more a more xs ys r m) = then_on (s a xs r) (each R f s more ys m)

optional : {A : Type 0} {d : ℕ} (R : Lang A) (f : A → List Token) → Spelled R f d → Spelled (Optional R) (optional_leaves f) d
optional {d = d} R f s _ _ absent = end d
optional {d = d} R f s _ _ (present a ls r) = s a ls r

-- ---- parts without expressions

abbrev Plain : Word → Type 0
Plain v = (d : ℕ) → levels d v ≡ Some d

tokens_after : (v : Word) → Plain v → (d : ℕ) → Spelled (IsTokenAfter v) token_after_leaves d
tokens_after v p d _ _ (token_after c t h k) = tk c h refl (tk t k (p d) (end d))

token_lists : (v : Word) → Plain v → (d : ℕ) → Spelled (IsTokenList v) token_list_leaves d
token_lists v p d _ _ (token_list t more ms h k) = tk t h (p d) (each (IsTokenAfter v) token_after_leaves (tokens_after v p d) more ms k)

token_groups : (v : Word) → Plain v → (d : ℕ) → Spelled (IsTokenGroup v) token_group_leaves d
token_groups v p d _ _ (token_group a b l ls h k m) = levelled d a b h (λ u e. token_lists v p u l ls k) m (end d)

indices : (d : ℕ) → Spelled IsIndex index_leaves d
indices d _ _ (index a n b m ms h k o f) = tk a h refl (tk n k refl (then_on (optional (IsTokenAfter w.Int) token_after_leaves (tokens_after w.Int (λ u. refl) d) m ms o) (tk b f refl (end d))))

powers : (d : ℕ) → Spelled IsPower power_leaves d
powers d _ _ (power a n h k) = tk a h refl (tk n k refl (end d))

sum_sign : {d : ℕ} {ts : List Token} {ls : List Lexeme} (a : Lexeme) → IsSumSign a → Spans d d ts ls → Spans d d (a.token ∷ ts) (a ∷ ls)
sum_sign a (inl e) s = tk a e refl s
sum_sign a (inr e) s = tk a e refl s

function_plain : (f : Function) (d : ℕ) → levels d (w.Function f) ≡ Some d
function_plain f d = each_function (λ g. levels d (w.Function g) ≡ Some d) refl refl refl refl refl refl refl refl refl refl f

-- ---- trees that are opened

module _ (inner : Expr → List Token) where
  open_int : (n : Token) → base_leaves inner (base.Int n) ≡ n ∷ []
  unfolding Rattle.plural_syntax.specs.declared.tree.Base.TheViews.roll-Base out-Base denote.Hole.Carrier.roll
  open_int n = ap (base_layer_leaves inner) (out-roll-Base (Base-F.Int n))

  open_name : (n : Token) (i : Option Index) → base_leaves inner (base.Name n i) ≡ n ∷ optional_leaves index_leaves i
  unfolding Rattle.plural_syntax.specs.declared.tree.Base.TheViews.roll-Base out-Base denote.Hole.Carrier.roll
  open_name n i = ap (base_layer_leaves inner) (out-roll-Base (Base-F.Name n i))

  open_group : (a b : Token) (e : Expr) → base_leaves inner (base.Group a e b) ≡ a ∷ (inner e ++ b ∷ [])
  unfolding Rattle.plural_syntax.specs.declared.tree.Base.TheViews.roll-Base out-Base denote.Hole.Carrier.roll
  open_group a b e = ap (base_layer_leaves inner) (out-roll-Base (Base-F.Group a e b))

  open_call : (n : FunctionName) (a b : Token) (l : ExprList) → base_leaves inner (base.Call n a l b) ≡ n.token ∷ a ∷ (list_leaves inner l ++ b ∷ [])
  unfolding Rattle.plural_syntax.specs.declared.tree.Base.TheViews.roll-Base out-Base denote.Hole.Carrier.roll
  open_call n a b l = ap (base_layer_leaves inner) (out-roll-Base (Base-F.Call n a l b))

  open_factor : (b : Base) (p : Option Power) → factor_leaves inner (roll-Factor (record { base = b; power = p })) ≡ base_leaves inner b ++ optional_leaves power_leaves p
  open_factor b p = ap (λ r. base_leaves inner r.base ++ optional_leaves power_leaves r.power) (out-roll-Factor (record { base = b; power = p }))

  open_times : (a : Token) (f : Factor) → scaled_leaves inner (scaled.Times a f) ≡ a ∷ factor_leaves inner f
  unfolding Rattle.plural_syntax.specs.declared.tree.Base.TheViews.roll-Scaled out-Scaled denote.Hole.Carrier.roll
  open_times a f = ap (scaled_layer_leaves inner) (out-roll-Scaled (Scaled-F.Times a f))

  open_over : (a n : Token) → scaled_leaves inner (scaled.Over a n) ≡ a ∷ n ∷ []
  unfolding Rattle.plural_syntax.specs.declared.tree.Base.TheViews.roll-Scaled out-Scaled denote.Hole.Carrier.roll
  open_over a n = ap (scaled_layer_leaves inner) (out-roll-Scaled (Scaled-F.Over a n))

  open_term : (f : Factor) (more : List Scaled) → term_leaves inner (roll-Term (record { first = f; more = more })) ≡ factor_leaves inner f ++ flat_map (scaled_leaves inner) more
  open_term f more = ap (λ r. factor_leaves inner r.first ++ flat_map (scaled_leaves inner) r.more) (out-roll-Term (record { first = f; more = more }))

  open_added : (a : Token) (t : Term) → added_leaves inner (roll-Added (record { sign = a; term = t })) ≡ a ∷ term_leaves inner t
  open_added a t = ap (λ r. r.sign ∷ term_leaves inner r.term) (out-roll-Added (record { sign = a; term = t }))

  open_expr : (s : Option Token) (t : Term) (more : List Added) → expr_leaves inner (roll-Expr (record { sign = s; first = t; more = more })) ≡ optional_leaves (λ a. a ∷ []) s ++ (term_leaves inner t ++ flat_map (added_leaves inner) more)
  open_expr s t more = ap (λ r. optional_leaves (λ a. a ∷ []) r.sign ++ (term_leaves inner r.first ++ flat_map (added_leaves inner) r.more)) (out-roll-Expr (record { sign = s; first = t; more = more }))

  open_after : (a : Token) (e : Expr) → expr_after_leaves inner (roll-ExprAfter (record { comma = a; expr = e })) ≡ a ∷ inner e
  open_after a e = ap (λ r. r.comma ∷ inner r.expr) (out-roll-ExprAfter (record { comma = a; expr = e }))

  open_list : (e : Expr) (more : List ExprAfter) → list_leaves inner (roll-ExprList (record { first = e; more = more })) ≡ inner e ++ flat_map (expr_after_leaves inner) more
  open_list e more = ap (λ r. inner r.first ++ flat_map (expr_after_leaves inner) r.more) (out-roll-ExprList (record { first = e; more = more }))

-- ---- lists of expressions

after : (inner : Expr → List Token) (d : ℕ) → Spelled IsExpr inner d → Spelled IsExprAfter (expr_after_leaves inner) d
after inner d s _ _ (expr_after a e es h k) = opened (open_after inner a.token e) (tk a h refl (s e es k))

all_after : (inner : Expr → List Token) (d : ℕ) → Spelled IsExpr inner d → Spelled AreExprsAfter (flat_map (expr_after_leaves inner)) d
all_after inner d s _ _ no_expr = end d
all_after inner d s _ _ (expr_more t more ts ms k m) = then_on (after inner d s t ts k) (all_after inner d s more ms m)

lists : (inner : Expr → List Token) (d : ℕ) → Spelled IsExpr inner d → Spelled IsList (list_leaves inner) d
lists inner d s _ _ (list e more es ms h k) = opened (open_list inner e more) (then_on (s e es h) (all_after inner d s more ms k))

-- ---- expressions, from those of a level less

abbrev Inner : (Expr → List Token) → ℕ → Type 0
Inner inner d = (k : ℕ) → d ≡ suc k → Spelled IsExpr inner k

module _ (inner : Expr → List Token) (d : ℕ) (below : Inner inner d) where
  bases : Spelled IsBase (base_leaves inner) d
  bases _ _ (int a h) = opened (open_int inner a.token) (tk a h refl (end d))
  bases _ _ (name a i is h k) = opened (open_name inner a.token i) (tk a h refl (optional IsIndex index_leaves (indices d) i is k))
  bases _ _ (group a b e es h k m) = opened (open_group inner a.token b.token e) (levelled d a b h (λ u f. below u f e es k) m (end d))
  bases _ _ (call n a b f l ls g h k m) = opened (open_call inner (record { token = n.token; function = f }) a.token b.token l) (tk n g (function_plain f d) (levelled d a b h (λ u p. lists inner u (below u p) l ls k) m (end d)))

  factors : Spelled IsFactor (factor_leaves inner) d
  factors _ _ (factor b p bs ps h k) = opened (open_factor inner b p) (then_on (bases b bs h) (optional IsPower power_leaves (powers d) p ps k))

  scaled_one : Spelled IsScaled (scaled_leaves inner) d
  scaled_one _ _ (times a f fs h k) = opened (open_times inner a.token f) (tk a h refl (factors f fs k))
  scaled_one _ _ (over a n h k) = opened (open_over inner a.token n.token) (tk a h refl (tk n k refl (end d)))

  scaled_all : Spelled AreScaled (flat_map (scaled_leaves inner)) d
  scaled_all _ _ no_scaled = end d
  scaled_all _ _ (scaled_more t more ts ms k m) = then_on (scaled_one t ts k) (scaled_all more ms m)

  terms : Spelled IsTerm (term_leaves inner) d
  terms _ _ (term f more fs ms h k) = opened (open_term inner f more) (then_on (factors f fs h) (scaled_all more ms k))

  added_one : Spelled IsAdded (added_leaves inner) d
  added_one _ _ (added a t ts h k) = opened (open_added inner a.token t) (sum_sign a h (terms t ts k))

  added_all : Spelled AreAdded (flat_map (added_leaves inner)) d
  added_all _ _ no_added = end d
  added_all _ _ (added_more t more ts ms k m) = then_on (added_one t ts k) (added_all more ms m)

  exprs : Spelled IsExpr (expr_leaves inner) d
  exprs _ _ (unsigned t more ts ms h k) = opened (open_expr inner None t more) (then_on (terms t ts h) (added_all more ms k))
  exprs _ _ (signed a t more ts ms s h k) = opened (open_expr inner (Some a.token) t more) (sum_sign a s (then_on (terms t ts h) (added_all more ms k)))

no_level : (inner : Expr → List Token) → Inner inner zero
no_level inner k e = cc

next_level : (inner : Expr → List Token) (d : ℕ) → Spelled IsExpr inner d → Inner inner (suc d)
next_level inner d s k e = let h : d ≡ k = cc e in subst (λ j. Spelled IsExpr inner j) h s

exprs_within : (d n : ℕ) → d ≤ n → Spelled IsExpr (expr_leaves_within n) d
exprs_within zero zero h = exprs (λ e. []) zero (no_level (λ e. []))
exprs_within zero (suc n) h = exprs (expr_leaves_within n) zero (no_level (expr_leaves_within n))
exprs_within (suc d) zero h = absurd (omega arith)
exprs_within (suc d) (suc n) h = exprs (expr_leaves_within n) (suc d) (next_level (expr_leaves_within n) d (exprs_within d n (omega arith)))

inner_within : (d : ℕ) → Inner (expr_leaves_within d) d
inner_within d k e = exprs_within k d (omega (arith, e))

-- ---- statements

all_vars : (d : ℕ) → Spelled IsVars vars_leaves d
all_vars d _ _ (one_name n h) = tk n h refl (end d)
all_vars d _ _ (many_names g gs h) = token_groups w.Name (λ u. refl) d g gs h

items : (d : ℕ) → Spelled IsItem item_leaves d
items d _ _ (item n g gs h k) = tk n h refl (optional (IsTokenGroup w.Int) token_group_leaves (token_groups w.Int (λ u. refl) d) g gs k)

items_after : (d : ℕ) → Spelled IsItemAfter item_after_leaves d
items_after d _ _ (item_after c i is h k) = tk c h refl (items d i is k)

item_lists : (d : ℕ) → Spelled IsItemList item_list_leaves d
item_lists d _ _ (item_list i more is ms h k) = then_on (items d i is h) (each IsItemAfter item_after_leaves (items_after d) more ms k)

orders : (d : ℕ) → Spelled IsOrder order_leaves d
orders d _ _ (one_item i is h) = items d i is h
orders d _ _ (many_items a b l ls h k m) = levelled d a b h (λ u e. item_lists u l ls k) m (end d)

sides : (d : ℕ) → Spelled IsSide side_leaves d
sides d _ _ (side a n b h k m) = tk a h refl (tk n k refl (tk b m refl (end d)))

module _ (inside : Expr → List Token) (d : ℕ) (spelled : Spelled IsExpr inside d) (below : Inner inside d) where
  one_value : Spelled IsValue (value_leaves inside) d
  one_value _ _ (value a e es h k) = tk a h refl (spelled e es k)

  all_values : Spelled IsValues (values_leaves inside) d
  all_values _ _ (values a l ls h k) = tk a h refl (lists inside d spelled l ls k)

  optional_value : Spelled (Optional IsValue) (optional_leaves (value_leaves inside)) d
  optional_value = optional IsValue (value_leaves inside) one_value

  optional_values : Spelled (Optional IsValues) (optional_leaves (values_leaves inside)) d
  optional_values = optional IsValues (values_leaves inside) all_values

  pairs : (k : ℕ) → d ≡ suc k → Spelled IsExprPair (pair_leaves inside) k
  pairs k p _ _ (expr_pair c e f es fs h m o) = then_on (below k p e es h) (tk c m refl (below k p f fs o))

  statements : Spelled IsStatement (statement_leaves inside) d
  statements _ _ (is_statement.empty s h) = tk s h refl (end d)
  statements _ _ (is_statement.ring a n e p c k s v o vs os h1 h2 h3 h4 h5 hv h6 ho h7) = tk a h1 refl (tk n h2 refl (tk e h3 refl (tk p h4 refl (tk c h5 refl (then_on (all_vars d v vs hv) (tk k h6 refl (then_on (orders d o os ho) (tk s h7 refl (end d)))))))))
  statements _ _ (is_statement.set_ring a n s h1 h2 h3) = tk a h1 refl (tk n h2 refl (tk s h3 refl (end d)))
  statements _ _ (is_statement.nc_algebra a n e k o c s x xs h1 h2 h3 h4 h5 hx h6 h7) = tk a h1 refl (tk n h2 refl (tk e h3 refl (tk k h4 refl (levelled d o c h5 (λ u p. pairs u p x xs hx) h6 (tk s h7 refl (end d))))))
  statements _ _ (is_statement.def a n e s x xs h1 h2 h3 hx h4) = tk a h1 refl (tk n h2 refl (tk e h3 refl (then_on (spelled x xs hx) (tk s h4 refl (end d)))))
  statements _ _ (is_statement.poly a n s v vs h1 h2 hv h3) = tk a h1 refl (tk n h2 refl (then_on (optional_value v vs hv) (tk s h3 refl (end d))))
  statements _ _ (is_statement.ideal a n s v vs h1 h2 hv h3) = tk a h1 refl (tk n h2 refl (then_on (optional_values v vs hv) (tk s h3 refl (end d))))
  statements _ _ (is_statement.«module» a n s v vs h1 h2 hv h3) = tk a h1 refl (tk n h2 refl (then_on (optional_value v vs hv) (tk s h3 refl (end d))))
  statements _ _ (is_statement.matrix a n s r c v rs cs vs h1 h2 hr hc hv h3) = tk a h1 refl (tk n h2 refl (then_on (sides d r rs hr) (then_on (sides d c cs hc) (then_on (optional_values v vs hv) (tk s h3 refl (end d))))))
  statements _ _ (is_statement.option a s g gs h1 hg h2) = tk a h1 refl (then_on (token_groups w.Name (λ u. refl) d g gs hg) (tk s h2 refl (end d)))
  statements _ _ (is_statement.short a e n s h1 h2 h3 h4) = tk a h1 refl (tk e h2 refl (tk n h3 refl (tk s h4 refl (end d))))
  statements _ _ (is_statement.quit a s h1 h2) = tk a h1 refl (tk s h2 refl (end d))
  statements _ _ (is_statement.assign n e s l ls h1 h2 hl h3) = tk n h1 refl (tk e h2 refl (then_on (lists inside d spelled l ls hl) (tk s h3 refl (end d))))
  statements _ _ (is_statement.assign_entry n o i c j k e s x xs h1 h2 h3 h4 h5 h6 h7 hx h8) = tk n h1 refl (tk o h2 refl (tk i h3 refl (tk c h4 refl (tk j h5 refl (tk k h6 refl (tk e h7 refl (then_on (spelled x xs hx) (tk s h8 refl (end d)))))))))
  statements _ _ (is_statement.print s x xs hx h1) = then_on (spelled x xs hx) (tk s h1 refl (end d))

scripts : (d : ℕ) → Spelled IsScript (leaves_within d) d
scripts d _ _ (script e ss xs h k) = then_on (each IsStatement (statement_leaves (expr_leaves_within d)) (statements (expr_leaves_within d) d (exprs_within d d (omega arith)) (inner_within d)) ss xs h) (tk e k refl (end d))

-- where the tokens open no level beyond d
pub leaves_are_tokens : (d : ℕ) (ls : List Lexeme) (s : Script) → IsScript s ls → walk levels d ls ≡ Some d → leaves_within d s ≡ tokens_of ls
leaves_are_tokens d ls s h e = ((scripts d s ls h).at d e).1
