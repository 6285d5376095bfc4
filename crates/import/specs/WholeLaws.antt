-- What is read of a whole text is what the text means, and what is written is its book. Assumes nothing.
use Rattle.std.specs.Prelude.{◌≡◌, Ok, Err, ℕ, ◌+◌, ◌*◌, ◌≤◌, ◌<◌, get_or, take}
use Rattle.std.proofs.Math.Path.{refl, sym, ap, ap₂}
use Rattle.std.proofs.Common.{◌∙◌, subst, subst₂, arith, drop-drop}
use mathlib.Core.List.{List, [], ◌++◌, append_assoc}
use Rattle.std.proofs.Math.Nat.{zero-add}
use Rattle.std.proofs.Math.ListN.{length, drop, length-append}
use Rattle.std.proofs.Math.Seq.{paste, drop-append-add}
use Rattle.grammar.specs.Steps.{onward}
use Rattle.grammar.proofs.Steps.{looks, ended, skip_over}
use Rattle.logic.specs.declared.Answer.{Answer}
use Rattle.logic.specs.Numbers.{answer, yes_number, bounds, output_length}
use Rattle.logic.specs.Book.{most, most_nodes, head_of}
use Rattle.grammar.specs.Machine.{item, step as next, bad, alive, ending, over}
use Rattle.grammar.specs.Outcome.{outcome}
use Rattle.grammar.specs.Verdicts.{Taken, Settled}
use Rattle.grammar.proofs.Verdicts.{settled}
use Rattle.grammar.specs.Listing.{size_of, listing, book_of}
use Rattle.grammar.proofs.ListingLaws.{listing_long}
use Rattle.grammar.specs.Meaning.{names_of, number_of, form_of, meaning, book_for}
use Rattle.grammar.specs.Import.{Good, Imports}
use Rattle.grammar.proofs.ImportLaws.{imports_bounds, imports_refused, imports_short, imports_written}
use Rattle.leaves.specs.declared.Refusal.{Refusal}
use Rattle.leaves.specs.declared.Refusal.TheVariants.{BadText as not_text, BookLength, Contents, Bounds, FormulaLength, Operator, Operand, TreeShape, ModelLength, ModelValue, NotEncodable, OutputLength, AssignmentLength, AssignmentValue, EntryKind, EntryStretch, StrayVariable, ManyNodes, ManyNames}
use Rattle.leaves.specs.Refusals.{refused as told}
use Rattle.leaves.proofs.Refusals.{never_zero}
use Rattle.words.specs.Words.{Skipped}
use Rattle.names.specs.Names.{held}
use Rattle.names.specs.NameLaws.{names_long}
use Rattle.items.specs.declared.Draft.{Draft}
use Rattle.items.specs.Readings.{draft, Step, step, form_in, bytes_of, Read, ReadIs}
use Rattle.import.specs.Wholes.{Whole, WholeIs, written}

-- ---- the text

module _ (s t l : List ℕ) (h : length t ≡ 3 * most_nodes) (f : 0 ≤ most_nodes) (i : length l ≡ most) (g : 0 ≤ most) where
  pub whole_refused : (x : Refusal) (d : Draft) → ReadIs s item 0 0 (draft t 0 h f l 0 i g) (step (Err x) d) → WholeIs s (Err x)
  whole_refused x d h = h.refuses (never_zero x) [] refl

  module _ (b : Step) (q : Read s item 0 0 (draft t 0 h f l 0 i g) b) (j : ℕ) (k : Skipped s b.at j) where
    -- something stands behind the formula
    pub whole_open : j < length s → WholeIs s (Err (not_text j))
    unfolding outcome next alive
    whole_open m =
        let stopped : onward s (over q.phrase) j ≡ bad j = looks s (over q.phrase) (m, refl) ∙ rw (k.next (get_or s j 0) (m, refl)) in
        q.goes [] refl ∙ ap (outcome (held b.draft.names) b.draft.nodes.count) (skip_over s q.phrase k.blanks ∙ stopped)

    pub whole_read : length s ≤ j → WholeIs s (Ok b.draft)
    unfolding outcome ending
    whole_read m =
        let F = q.phrase in
        let end : j ≡ length s = omega (arith, k.inside) in
        let form : form_in b.draft F ≡ meaning F = ap (λ (ns : List (List ℕ)). form_of (number_of ns) F) q.names in
        record {
          phrase = F;
          fine = q.fine;
          names = q.names;
          nodes = q.nodes ∙ zero-add (size_of (form_in b.draft F)) ∙ ap size_of form;
          bytes = q.bytes ∙ ap (listing 0) form;
          takes = q.goes [] refl ∙ ap (outcome (held b.draft.names) b.draft.nodes.count) (skip_over s F k.blanks ∙ ap (onward s (over F)) end ∙ ended s (over F));
        }

-- ---- the book

-- the draft of a text is its book
module _ (s : List ℕ) (n p : ℕ) (d : Draft) (w : Whole s d) where
  count_is : d.names.count ≡ length (names_of w.phrase)
  count_is =
      let f = w.fine.names in
      sym (names_long d.names.letters d.names.count 0 (omega (arith, f.long, f.few))) ∙ ap length w.names

  book_long : length (book_for n p w.phrase) ≡ 14 + 3 * d.nodes.count
  unfolding book_of
  book_long =
      let F = w.phrase in
      length-append (head_of 2 (length (names_of F)) n p (3 * size_of (meaning F))) (listing 0 (meaning F)) ∙ omega (arith, listing_long 0 (meaning F), w.nodes)

  book_written : (o : List ℕ) → written d n p o ≡ book_for n p w.phrase ++ drop (length (book_for n p w.phrase)) o
  unfolding book_of
  book_written o =
      let F = w.phrase in
      let H = head_of 2 (length (names_of F)) n p (3 * size_of (meaning F)) in
      ap (λ (v : ℕ). head_of 2 v n p (3 * d.nodes.count) ++ (bytes_of d ++ drop (14 + 3 * d.nodes.count) o)) count_is
      ∙ ap (λ (m : ℕ). head_of 2 (length (names_of F)) n p (3 * m) ++ (bytes_of d ++ drop (14 + 3 * d.nodes.count) o)) w.nodes
      ∙ ap₂ (λ (x : List ℕ) (i : ℕ). H ++ (x ++ drop i o)) w.bytes (sym book_long)
      ∙ sym (append_assoc H (listing 0 (meaning F)) (drop (length (book_for n p F)) o))

  good : Good s w.phrase
  good =
      let t : Taken s (held d.names) d.nodes.count w.phrase = subst (Settled s) w.takes (settled s) in
      record { events = t.events; means = t.means; none = t.none }

  module _ (ln : n ≤ most) (lp : p ≤ most) (o : List ℕ) (a : Answer) where
    pub import_short : a ≡ answer output_length 0 → length o < 14 + 3 * d.nodes.count → Imports s n p o a o
    import_short e l = subst (λ (x : Answer). Imports s n p o x o) (sym e) (imports_short s n p o ln lp w.phrase good (omega (arith, l, book_long)))

    pub import_written : (x : List ℕ) → a ≡ answer yes_number 0 → 14 + 3 * d.nodes.count ≤ length o → x ≡ written d n p o → Imports s n p o a x
    import_written x e l h =
        subst₂ (λ (y : Answer) (z : List ℕ). Imports s n p o y z) (sym e) (sym (h ∙ book_written o)) (imports_written s n p o ln lp w.phrase good (omega (arith, l, book_long)))

-- ---- refusals

-- a refusal tries nothing
told_is : (x : Refusal) → told x ≡ answer (told x).number (told x).place
told_is BookLength = refl
told_is Contents = refl
told_is Bounds = refl
told_is FormulaLength = refl
told_is (Operator k) = refl
told_is (Operand k) = refl
told_is (TreeShape k) = refl
told_is ModelLength = refl
told_is (ModelValue i) = refl
told_is NotEncodable = refl
told_is OutputLength = refl
told_is AssignmentLength = refl
told_is (AssignmentValue i) = refl
told_is (EntryKind e) = refl
told_is (EntryStretch e) = refl
told_is (StrayVariable x) = refl
told_is (not_text i) = refl
told_is (ManyNodes i) = refl
told_is (ManyNames i) = refl

module _ (s : List ℕ) (n p : ℕ) (o : List ℕ) (a : Answer) where
  pub import_bounds : ¬ ((n ≤ most) × (p ≤ most)) → a ≡ answer bounds 0 → Imports s n p o a o
  import_bounds f e = subst (λ (x : Answer). Imports s n p o x o) (sym e) (imports_bounds s n p o f)

  pub import_refused : n ≤ most → p ≤ most → (x : Refusal) → WholeIs s (Err x) → a ≡ told x → Imports s n p o a o
  import_refused ln lp x h e =
      subst (λ (y : Answer). Imports s n p o y o) (sym (e ∙ told_is x)) (imports_refused s n p o ln lp (told x).number (told x).place (subst (Settled s) h (settled s)))

-- ---- writing

-- the nodes behind the head
pub head_nodes : (kind v n p size : ℕ) (t o : List ℕ) (k : ℕ) → paste (head_of kind v n p size ++ drop 14 o) 14 t k ≡ head_of kind v n p size ++ (take k t ++ drop (14 + k) o)
head_nodes kind v n p size t o k = ap (λ (x : List ℕ). head_of kind v n p size ++ (take k t ++ x)) (drop-append-add (head_of kind v n p size) (drop 14 o) k ∙ drop-drop k 14 o)
