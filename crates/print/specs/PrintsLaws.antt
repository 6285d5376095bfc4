-- For a book one thing alone is printed, and leaves one output; and how it comes about. Assumes nothing.
use Rattle.std.specs.Prelude.{◌≡◌, refl, ℕ, ◌+◌, ◌-◌, ◌*◌, ◌<◌, ◌≤◌, length, drop}
use Rattle.std.proofs.Common.{sym, ap₂, ◌∙◌, arith, length-append}
use Rattle.std.proofs.Math.Path.{ap}
use mathlib.Core.List.{List, ◌++◌}
use Rattle.std.proofs.Math.Logic.{⊎_elim}
use Rattle.std.proofs.Math.Decide.{ℕ_discrete}
use Rattle.std.proofs.Math.ListN.{get_or, get_or-append}
use Rattle.std.proofs.lemmas.List.{get_or-replicate}
use Rattle.logic.specs.declared.Profile.TheVariants.{Strong}
use Rattle.logic.specs.declared.Answer.{Answer}
use Rattle.logic.specs.Numbers.{answer, yes_number}
use Rattle.logic.specs.Book.{most, vars_of, locs_of, formula_of, Accepted, Reads, Bodies, Opens}
use Rattle.logic.proofs.BookLaws.{accepted_whole, reads_no}
use Rattle.logic.proofs.OpenLaws.{opened, vars_low, locs_low}
use Rattle.logic.specs.Checks.{Passes}
use Rattle.logic.proofs.CheckLaws.{passes_at}
use Rattle.logic.specs.Tests.{heap_of}
use Rattle.logic.proofs.Agree.{heap_of_heap}
use Rattle.logic.specs.Model.{byte_checks}
use Rattle.logic.specs.Candidates.{stack_of, model_of}
use Rattle.logic.proofs.CandidateLaws.{stack_of_stack, model_long, model_in_range}
use Rattle.logic.specs.Search.{Searches}
use Rattle.logic.proofs.SearchLaws.{searches_single}
use Rattle.logic.proofs.RefusalLaws.{searches_answered}
use Rattle.lines.specs.Printed.{Locations, printed}
use Rattle.lines.specs.PrintedLaws.{printed_no}
use Rattle.print.specs.Prints.{budget, blank, Prints, PutsPrinted}

pub prints_single : (s x y : List ℕ) → Prints s x → Prints s y → x ≡ y
prints_single s x y p q =
    let same = searches_single Strong s budget blank p.answer q.answer p.model q.model p.search q.search in
    p.shows ∙ ap₂ (λ (a : Answer) (m : List ℕ). printed a (vars_of s) (locs_of s) m) same.0 same.1 ∙ sym q.shows

-- two results that the statement allows are equal
pub puts_printed_single : (s o : List ℕ) (r k : ℕ) (x y : List ℕ) → PutsPrinted s o r x → PutsPrinted s o k y → (r ≡ k) × (x ≡ y)
puts_printed_single s o r k x y p q =
    let same = prints_single s p.lines q.lines p.prints q.prints in
    let long : r ≡ k = p.size ∙ ap length same ∙ sym q.size in
    (long, p.output ∙ ap₂ (λ (t : List ℕ) (n : ℕ). t ++ drop n o) same long ∙ sym q.output)

pub printed_within : {s o : List ℕ} {r : ℕ} {o' : List ℕ} → PutsPrinted s o r o' → r ≤ length o'
printed_within {s} {o} {r} p = omega (arith, p.size, ap length p.output, length-append p.lines (drop r o))

-- a search whose model was found, and the book opened beside it
module _ (s : List ℕ) (a : Answer) (m : List ℕ) (q : Searches Strong s budget blank a m) (e : a.number ≡ yes_number) where
  found_accepted : Accepted s
  found_accepted = (searches_answered Strong s budget blank a m q (omega arith)).accepted

  -- the stack's bytes of the model are locations
  found_locations : Locations (vars_of s) m
  unfolding Passes
  found_locations i l =
      let v = vars_of s in
      let n = locs_of s in
      let k = a.tried - 1 in
      let bytes = model_of v n k in
      let range = model_in_range v n (stack_of v n k) (heap_of n k) (stack_of_stack v n k) (heap_of_heap n k) in
      let long = model_long v n (stack_of v n k) (heap_of n k) in
      let same : get_or m i 0 ≡ get_or bytes i 0 = ap (λ (r : List ℕ). get_or r i 0) (q.wrote e) ∙ get_or-append bytes (drop (v + n) blank) 0 i (omega arith) in
      let few = (accepted_whole s found_accepted).bounds.locs in
      ⊎_elim (λ x. omega arith) (λ x. absurd (omega (arith, x.0))) (passes_at (byte_checks v n bytes) (v + n) range.1 i (omega arith)).0

  found_bounds : (b : Answer) (v n p : ℕ) → Opens s b v n p → (v ≡ vars_of s) × (n ≡ locs_of s)
  found_bounds b v n p o = go (ℕ_discrete b.number yes_number)
    where
      go : Dec (b.number ≡ yes_number) → (v ≡ vars_of s) × (n ≡ locs_of s)
      go (yes z) = ((o.bounds z).0, (o.bounds z).1)
      go (no f) = absurd (reads_no s b o.answer f found_accepted)

-- what a book that was opened, or refused, tells
pub opens_given : {s f : List ℕ} {v n p : ℕ} → Reads s (answer yes_number 0) → Bodies s f v n p → Opens s (answer yes_number 0) v n p
opens_given r b = record { answer = r; bounds = λ _. (b.vars, b.locs, b.path); none = λ g. absurd (g refl) }

pub opens_none : {s : List ℕ} {b : Answer} → Reads s b → ¬ (b.number ≡ yes_number) → Opens s b 0 0 0
opens_none r g = record { answer = r; bounds = λ z. absurd (g z); none = λ _. (refl, refl, refl) }

-- an opened book's bounds are in range, accepted or not
pub bounds_low : (s : List ℕ) (b : Answer) (v n p : ℕ) → Opens s b v n p → (v ≤ most) × (n ≤ most)
bounds_low s b v n p o = go (ℕ_discrete b.number yes_number)
  where
    go : Dec (b.number ≡ yes_number) → (v ≤ most) × (n ≤ most)
    go (yes z) =
        let q = opened s (formula_of s) b v n p o z refl in
        (vars_low s (formula_of s) v n p q, locs_low s (formula_of s) v n p q)
    go (no f) = (omega (arith, (o.none f).0), omega (arith, (o.none f).1))

module _ (s : List ℕ) (a : Answer) (m : List ℕ) (q : Searches Strong s budget blank a m) (b : Answer) (v n p : ℕ) (o : Opens s b v n p) where
  -- the model's first bytes are locations, found or not: the output before the search has 0 everywhere
  pub searched_locations : Locations v m
  searched_locations i l = go (ℕ_discrete a.number yes_number)
    where
      go : Dec (a.number ≡ yes_number) → get_or m i 0 < 255
      go (yes e) = found_locations s a m q e i (omega (arith, (found_bounds s a m q e b v n p o).0))
      go (no f) =
          let low = (bounds_low s b v n p o).0 in
          omega (arith, ap (λ (r : List ℕ). get_or r i 0) (q.kept f), get_or-replicate {A = ℕ} (2 * most) i 0 0 (omega arith))

  -- without a model the bounds do not matter, and with one they are the book's
  same_bounds : printed a v n m ≡ printed a (vars_of s) (locs_of s) m
  same_bounds = go (ℕ_discrete a.number yes_number)
    where
      go : Dec (a.number ≡ yes_number) → printed a v n m ≡ printed a (vars_of s) (locs_of s) m
      go (yes e) = let k = found_bounds s a m q e b v n p o in ap₂ (λ (x y : ℕ). printed a x y m) k.0 k.1
      go (no f) = sym (printed_no a v n m f) ∙ printed_no a (vars_of s) (locs_of s) m f

  -- the answer's lines, written at the front, are what is printed for the book
  pub printed_at_front : {out out' : List ℕ} {r : ℕ}
      → (r ≡ length (printed a v n m)) × (out' ≡ printed a v n m ++ drop (length (printed a v n m)) out) → PutsPrinted s out r out'
  printed_at_front {out} w =
      let t = printed a v n m in
      record {
        lines = t;
        prints = record { answer = a; model = m; search = q; shows = same_bounds };
        size = w.0;
        output = w.1 ∙ ap (λ (k : ℕ). t ++ drop k out) (sym w.0);
      }
