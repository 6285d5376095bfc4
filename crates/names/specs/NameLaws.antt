-- Names are numbered as they first appear. Assumes nothing.
use Rattle.std.specs.Prelude.{◌≡◌, ◌==◌, refl, Bool, true, false, not, cond, Option, None, Some, Ok, Err, eqb, ltb, length, set, take, position as place}
use Rattle.std.specs.List.{position_or_len}
use Rattle.std.proofs.lemmas.List.Sums.{prefix_len-le-length}
use Rattle.std.proofs.Common.{sym, ◌∙◌, add-one, arith, length-take-le, take-suc-set}
use Rattle.std.proofs.Math.Path.{ap}
use mathlib.Core.List.{List, [], ◌∷◌, ◌++◌, map}
use Prim.Native.Nat.{ℕ, suc, ◌+◌, ◌≤◌, ◌<◌}
use Rattle.std.proofs.lemmas.List.{length-map}
use borrow.Author.Tests.{eqb-true, eq-eqb, lt-ltb, le-ltb, ltb-true, ltb-false}
use Rattle.grammar.specs.Steps.{onward}
use Rattle.grammar.proofs.Steps.{skip_arg}
use Rattle.logic.specs.Numbers.{many_names}
use Rattle.leaves.specs.declared.Refusal.TheVariants.{BadText as bad_text, ManyNames as too_many}
use Rattle.logic.specs.Book.{most}
use Rattle.logic.specs.Tests.{andb}
use Rattle.logic.proofs.Reflect.{false_true}
use Rattle.grammar.specs.Phrase.{nil_term, name_term, choose}
use Rattle.grammar.specs.Machine.{Frame, Spot, arg, termed, emits}
use Rattle.grammar.specs.Places.{known, note}
use Rattle.grammar.specs.Meaning.{position}
use Rattle.grammar.proofs.NumberLaws.{known_place, position_new}
use Rattle.grammar.specs.Outcome.{Outcome, outcome, refused}
use Rattle.words.specs.Words.{Skipped}
use Rattle.terms.specs.Letters.{letters_of}
use Rattle.terms.specs.LetterLaws.{same_letters}
use Rattle.terms.specs.Terms.{last_of, TermIs}
use Rattle.words.specs.declared.BadText.{BadText}
use Rattle.names.specs.declared.Names.{Names}
use Rattle.names.specs.Names.{names, names_in, taken, held, Fine, NotedIs, OperandIs}

-- ---- places

module _ (l : List ℕ) (k w : ℕ) where
  pub names_long : k ≤ length l → length (names_in l k) ≡ k
  names_long h = length-map (take k l) letters_of ∙ length-take-le k l h

-- the place of a name is that of the number that holds it
place_is : (ls : List ℕ) (w : ℕ) → position (map letters_of ls) (letters_of w) ≡ position_or_len (λ l. l == w) ls
unfolding position
place_is [] w = refl
place_is (l ∷ ls) w = rw (same_letters l w) (go (eqb l w) (place_is ls w))
  where
    go : (c : Bool) → position (map letters_of ls) (letters_of w) ≡ position_or_len (λ x. x == w) ls
        → choose c 0 (suc (position (map letters_of ls) (letters_of w))) ≡ cond (not c) (1 + position_or_len (λ x. x == w) ls) 0
    go true e = refl
    go false e = omega (arith, e)

pub place_found : (ls : List ℕ) (w i : ℕ) → place (λ l. l == w) ls ≡ Some i → (i < length ls) × (i ≡ position (map letters_of ls) (letters_of w))
place_found ls w i e = go (ltb (position_or_len (λ l. l == w) ls) (length ls)) refl e
  where
    go : (c : Bool) → ltb (position_or_len (λ l. l == w) ls) (length ls) ≡ c → cond c (Some (position_or_len (λ l. l == w) ls)) None ≡ Some i
        → (i < length ls) × (i ≡ position (map letters_of ls) (letters_of w))
    go true h e =
        let q : position_or_len (λ l. l == w) ls ≡ i = cc in
        (omega (arith, q, ltb-true (position_or_len (λ l. l == w) ls) (length ls) h), omega (arith, q, place_is ls w))
    go false h e = absurd (cc)

pub place_none : (ls : List ℕ) (w : ℕ) → place (λ l. l == w) ls ≡ None → length ls ≡ position (map letters_of ls) (letters_of w)
place_none ls w e = go (ltb (position_or_len (λ l. l == w) ls) (length ls)) refl e
  where
    go : (c : Bool) → ltb (position_or_len (λ l. l == w) ls) (length ls) ≡ c → cond c (Some (position_or_len (λ l. l == w) ls)) None ≡ None
        → length ls ≡ position (map letters_of ls) (letters_of w)
    go true h e = absurd (cc)
    go false h e =
        omega (arith, ltb-false (position_or_len (λ l. l == w) ls) (length ls) h, prefix_len-le-length (λ l. not (l == w)) ls, place_is ls w)

-- ---- one more name

-- all names fit their array: their type says so
pub all_fine : (n : Names) → Fine n
all_fine n = record { long = n.long; few = n.few }

some_is : {k v : ℕ} → Some k ≡ Some v → v ≡ k
some_is e = cc

module _ (n : Names) (w i : ℕ) (p : i ≡ position (held n) (letters_of w)) where
  long : length (held n) ≡ n.count
  long = names_long n.letters n.count w (omega (arith, n.long, n.few))

  known_is : (c : Bool) → ltb i n.count ≡ c → known (held n) (letters_of w) ≡ c
  known_is c e = known_place (held n) (letters_of w) ∙ ap (λ (j : ℕ). ltb j (length (held n))) (sym p) ∙ ap (ltb i) long ∙ e

  -- it is one of them
  pub noted_known : i < n.count → NotedIs n (letters_of w) (Some (i + 1)) n
  noted_known l =
      let k : known (held n) (letters_of w) ≡ true = known_is true (lt-ltb i n.count l) in
      record {
        over = λ e. absurd (cc);
        fine = all_fine n;
        noted = λ v e. rw k;
        number = λ v e. some_is e ∙ add-one i ∙ ap suc p;
        under = λ v e q. false_true (sym q.0 ∙ k);
      }

  -- it is one too many
  pub noted_over : n.count ≤ i → most ≤ n.count → NotedIs n (letters_of w) None n
  noted_over l m =
      record {
        over = λ e. (known_is false (le-ltb i n.count l), omega (arith, long, n.few));
        fine = all_fine n;
        noted = λ v e. absurd (cc);
        number = λ v e. absurd (cc);
        under = λ v e. absurd (cc);
      }

  -- it is the next
  pub noted_new : n.count ≤ i → n.count < most → (h : length (set n.letters n.count w) ≡ most) → (g : n.count + 1 ≤ most) → NotedIs n (letters_of w) (Some (n.count + 1)) (names (set n.letters n.count w) (n.count + 1) h g)
  noted_new l m h g =
      let k : known (held n) (letters_of w) ≡ false = known_is false (le-ltb i n.count l) in
      let grown : names_in (set n.letters n.count w) (n.count + 1) ≡ held n ++ (letters_of w ∷ []) =
      ap (names_in (set n.letters n.count w)) (add-one n.count)
      ∙ ap (map letters_of) (take-suc-set n.letters n.count w (omega (arith, n.long, m))) ∙ map_last (take n.count n.letters) in
      record {
        over = λ e. absurd (cc);
        fine = record { long = h; few = g };
        noted = λ v e. grown ∙ rw k;
        number = λ v e. some_is e ∙ add-one n.count ∙ ap suc (sym long ∙ sym (position_new (held n) (letters_of w) k) ∙ ap (λ (ns : List (List ℕ)). position ns (letters_of w)) (sym grown));
        under = λ v e q. omega (arith, q.1, long, m);
      }
    where
      map_last : (x : List ℕ) → map letters_of (x ++ (w ∷ [])) ≡ map letters_of x ++ (letters_of w ∷ [])
      map_last [] = refl
      map_last (b ∷ x) = ap (λ (ns : List (List ℕ)). letters_of b ∷ ns) (map_last x)

-- ---- a term with its number

module _ (s : List ℕ) (last : Bool) (i j : ℕ) (n : Names) (k : Skipped s i j) where
  -- no term stands at j
  pub operand_wrong : (p : BadText) (m : Names) → TermIs s last j (Err p) → OperandIs s last i n (taken (Err (bad_text p.at))) m
  unfolding outcome
  operand_wrong p m q =
      record {
        took = λ z. absurd (omega (arith, z));
        refuses = λ _ d t h σ. ap (outcome (held n) d) (skip_arg s t σ k.blanks ∙ q t h σ);
      }

  -- `sep.nil`
  pub operand_nil : (e : ℕ) → TermIs s last j (Ok (e, None)) → OperandIs s last i n (taken (Ok (e, 0))) n
  unfolding emits
  operand_nil e q =
      record {
        took = λ _.
            record {
              term = nil_term;
              from = omega (arith, k.from, q.0);
              inside = q.1;
              fine = all_fine n;
              noted = refl;
              number = refl;
              goes = λ d t h σ. ap (outcome (held n) d) (skip_arg s t σ k.blanks ∙ q.2 t h σ);
            };
        refuses = λ y. absurd (y refl);
      }

  module _ (e w : ℕ) (q : TermIs s last j (Ok (e, Some w))) (r : Option ℕ) (m : Names) (g : NotedIs n (letters_of w) r m) where
    -- the name is looked up as it ends
    named_there : (d : ℕ) (t : Spot) → last_of t ≡ last → (σ : List Frame)
        → outcome (held n) d (onward s (arg t σ) i)
        ≡ choose (andb (not (known (held n) (letters_of w))) (eqb (length (held n)) most)) (refused many_names j) (outcome (note (held n) (letters_of w)) d (onward s (termed (name_term (letters_of w)) t σ) e))
    unfolding outcome emits
    named_there d t h σ =
        ap (outcome (held n) d) (skip_arg s t σ k.blanks ∙ q.2 t h σ)

    -- a name that is one too many
    pub operand_over : (b : Names) → r ≡ None → OperandIs s last i n (taken (Err (too_many j))) b
    operand_over b z =
        let o = g.over z in
        record {
          took = λ y. absurd (omega (arith, y));
          refuses = λ _ d t h σ. named_there d t h σ ∙ rw (o.0, eq-eqb (length (held n)) most o.1);
        }

    -- a name
    pub operand_name : (v : ℕ) → r ≡ Some v → OperandIs s last i n (taken (Ok (e, v))) m
    operand_name v z =
        record {
          took = λ _.
              record {
                term = name_term (letters_of w);
                from = omega (arith, k.from, q.0);
                inside = q.1;
                fine = g.fine;
                noted = g.noted v z;
                number = g.number v z;
                goes = λ d t h σ.
                    named_there d t h σ ∙ under (known (held n) (letters_of w)) refl (eqb (length (held n)) most) refl (outcome (note (held n) (letters_of w)) d (onward s (termed (name_term (letters_of w)) t σ) e))
                    ∙ ap (λ (ns : List (List ℕ)). outcome ns d (onward s (termed (name_term (letters_of w)) t σ) e)) (sym (g.noted v z));
              };
          refuses = λ y. absurd (y refl);
        }
      where
        under : (p : Bool) → known (held n) (letters_of w) ≡ p → (u : Bool) → eqb (length (held n)) most ≡ u → (o : Outcome) → choose (andb (not p) u) (refused many_names j) o ≡ o
        under false d true u o = absurd (g.under v z (d, eqb-true (length (held n)) most u))
        under true d u h o = refl
        under false d false u o = refl
