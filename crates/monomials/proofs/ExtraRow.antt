-- An order with a row in front, as code keeps it.
use Rattle.std.proofs.Common.{◌≡◌, true, false, ℕ, List, [], ◌∷◌, map, sym, ◌∙◌, ap, subst, pos}
use Rattle.std.proofs.lemmas.List.Elements.{All-cons}
use Rattle.monomials.specs.Separating.{IsSeparating}
use Rattle.monomials.specs.Lexicographic.{IsLexicographic}
use Rattle.monomials.specs.ExtraRows.{with_rows}
use Rattle.monomials.specs.Rows.{row_entries, IsWithin, kept_order, IsOrder}
use Rattle.monomials.specs.declared.row.Row.{Row}
use Rattle.monomials.specs.declared.order.Order.TheInside.{Inside}
use Rattle.monomials.proofs.Separation.{separates_with_rows}
use Rattle.monomials.proofs.LexicographicOrders.{rows_lexicographic}

module _ (o new : Inside) (row : Row) (ws : List ℕ) (same : new.vars ≡ o.vars) (items : new.rows.items ≡ row ∷ o.rows.items)
    (entries : row_entries o.vars row ≡ map pos ws) where
  -- it is the order with these weights in front
  pub kept_with_row : kept_order new ≡ with_rows (ws ∷ []) (kept_order o)
  kept_with_row =
      let rows : map (row_entries new.vars) new.rows.items ≡ map pos ws ∷ map (row_entries o.vars) o.rows.items =
      (λ i. map (row_entries (same i)) (items i)) ∙ ap (λ r. r ∷ map (row_entries o.vars) o.rows.items) entries in
      λ i. record { vars = same i; rows = rows i }

  -- and what holds of orders holds of it
  pub with_row_kept : IsOrder o → IsWithin o.vars row → new.graded ≡ false → IsOrder new
  with_row_kept h within by_rows = record {
    not_empty = rw same h.not_empty;
    fits = rw same h.fits;
    within = rw (same, items) (All-cons (IsWithin o.vars) row o.rows.items within h.within);
    separates = subst IsSeparating (sym kept_with_row) (separates_with_rows (ws ∷ []) (kept_order o) h.separates);
    lexicographic = subst IsLexicographic (sym kept_with_row) (rows_lexicographic (ws ∷ []) (kept_order o) h.lexicographic);
    graded = λ t. let f : false ≡ true = sym by_rows ∙ t in cc;
  }
