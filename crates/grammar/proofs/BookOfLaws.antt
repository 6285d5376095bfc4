-- The book of a formula is accepted, with that formula and those bounds. Assumes nothing.
use Rattle.std.specs.Prelude.{◌≡◌, ℕ, suc, ◌+◌, ◌-◌, ◌≤◌, ◌<◌, zero, ◌*◌, length, get_or}
use Rattle.std.proofs.Math.Path.{refl}
use Rattle.std.proofs.Common.{sym, ap, ◌∙◌, subst, subst₂}
use mathlib.Core.List.{List, [], ◌∷◌, append-nil}
use native.Mathlib.Omega.{arith}
use Rattle.std.proofs.Math.ListN.{length-append}
use Rattle.std.proofs.Math.Seq.{take_all}
use Rattle.logic.specs.Book.{most, most_nodes, size, stretch, vars_of, formula_of, nodes, root, book_formula, contents_checks, body_checks, node_checks, use_checks, table_checks, Accepted, head_of}
use Rattle.logic.proofs.CheckLaws.{passes_then, passes_none, passes_more}
use Rattle.logic.specs.Checks.{Checks, upto, Passes}
use Rattle.logic.specs.Formula.{Form}
use Rattle.logic.specs.Table.{uses, tree, Sound}
use Rattle.logic.proofs.BookLaws.{laid_passes}
use Rattle.grammar.specs.Listing.{size_of, listing, book_of}
use Rattle.logic.proofs.BookLaws.{laid_passes}
use Rattle.grammar.specs.ListingLaws.{Has, Within}
use Rattle.grammar.proofs.ListingLaws.{size_some, listing_long, has_listing}
use Rattle.grammar.proofs.FormulaLaws.{tree_has, ok_has}
use Rattle.grammar.proofs.TreeLaws.{tree_of}

passes_all : (f : ℕ → Checks) (n : ℕ) → ((k : ℕ) → k < n → Passes (f k)) → Passes (upto f n)
passes_all f zero h = passes_none f
passes_all f (suc n) h = passes_more f n (passes_all f n (λ k l. h k (omega arith))) (h n (omega arith))

module _ (v n p : ℕ) (F : Form) (few : size_of F ≤ most_nodes) where
  f : List ℕ
  f = listing 0 F

  book_long : length (book_of v n p F) ≡ 14 + 3 * size_of F
  unfolding book_of
  book_long = length-append (head_of 2 v n p (3 * size_of F)) (listing 0 F) ∙ omega (arith, listing_long 0 F)

  size_is : size (book_of v n p F) 1 ≡ 3 * size_of F
  unfolding book_of
  size_is = omega arith

  pub formula_is : formula_of (book_of v n p F) ≡ listing 0 F
  unfolding book_of
  formula_is = take_all (size (book_of v n p F) 1) (listing 0 F) (omega (arith, listing_long 0 F, size_is))

  pub bounds_are : stretch (book_of v n p F) 0 ≡ v ∷ n ∷ p ∷ []
  unfolding book_of
  bounds_are = refl

  nodes_are : nodes (listing 0 F) ≡ size_of F
  nodes_are = omega (arith, listing_long 0 F)

  has : Has (listing 0 F) 0 F
  has = subst (λ (z : List ℕ). Has z 0 F) (append-nil (listing 0 F)) (has_listing F 0 [] [] (omega arith))

  pub formula_of_book : book_formula (book_of v n p F) ≡ F
  formula_of_book =
      ap (λ (z : List ℕ). tree z (root z)) formula_is
      ∙ ap (λ (k : ℕ). tree (listing 0 F) (k - 1)) nodes_are ∙ tree_has (listing 0 F) F has

  module _ (lv : v ≤ most) (ln : n ≤ most) (lp : p ≤ most) (within : Within v F) where
    contents : Passes (contents_checks (book_of v n p F))
    unfolding book_of
    contents =
        laid_passes (book_of v n p F) (
          (omega (arith, book_long), omega (arith, book_long)),
          record { entries = refl; bounds_kind = refl; formula_kind = refl; first = refl; second = refl; ends = omega (arith, book_long, size_is) },
        )

    bodies : Passes (body_checks (v ∷ n ∷ p ∷ []) (listing 0 F))
    unfolding Passes
    bodies = (
      record { three = refl; vars = lv; locs = ln; path = lp },
      ((omega (arith, listing_long 0 F, size_some F), omega (arith, listing_long 0 F)), tt),
    )

    sound : Sound v (listing 0 F) (size_of F)
    sound k l = ok_has v (listing 0 F) F 0 within has k (omega arith) (omega arith)

    table : Passes (table_checks v (listing 0 F))
    unfolding Passes
    table =
        passes_then (upto (node_checks v (listing 0 F)) (nodes (listing 0 F))) (upto (use_checks (listing 0 F)) (root (listing 0 F)))
        (passes_all (node_checks v (listing 0 F)) (nodes (listing 0 F)) (λ k l. let q = sound k (omega (arith, nodes_are)) in (q.operator, (q.operands, tt))))
        (passes_all (use_checks (listing 0 F)) (root (listing 0 F)) (λ k l. (subst (λ (z : ℕ). uses (listing 0 F) z k ≡ 1) (sym nodes_are) (tree_of (listing 0 F) F has k (omega (arith, nodes_are))), tt)))

    pub book_accepted : Accepted (book_of v n p F)
    unfolding Accepted
    book_accepted =
        passes_then (contents_checks (book_of v n p F)) _ contents
        (passes_then (body_checks (stretch (book_of v n p F) 0) (formula_of (book_of v n p F))) (table_checks (vars_of (book_of v n p F)) (formula_of (book_of v n p F)))
        (subst₂ (λ (b g : List ℕ). Passes (body_checks b g)) (sym bounds_are) (sym formula_is) bodies)
        (subst₂ (λ (b g : List ℕ). Passes (table_checks (get_or b 0 0) g)) (sym bounds_are) (sym formula_is) table))
