-- A written formula that is read at all is not too deep, and is read as what was written. Assumes nothing.
use Rattle.std.specs.Prelude.{◌≡◌, refl, Bool, true, false, List, [], ◌∷◌, ◌++◌, ℕ, suc, ◌+◌, ◌<◌, ◌≤◌, leb, length}
use Rattle.std.proofs.Common.{sym, ap, ◌∙◌, zero-le, arith, leb-true}
use Prim.Native.Char.{code}
use Rattle.logic.proofs.Reflect.{false_true, is_and, is_self}
use Rattle.logic.specs.Tests.{andb}
use Rattle.grammar.specs.Phrase.{choose, Word, joins, denies, relates, Phrase, emp, join, deny, relate, spelling}
use Rattle.grammar.specs.Grammar.{Event, deepest, Means}
use Rattle.grammar.specs.Machine.{Frame, only_one, first_of, second_of, Mode, item, head, word, past, dead, step, out, emits, alive, run}
use Rattle.grammar.specs.Traces.{whole}
use Rattle.grammar.proofs.Traces.{whole_emits, whole_alive}
use Rattle.grammar.specs.Steps.{waits}
use Rattle.grammar.specs.Forward.{lettered}
use Rattle.grammar.proofs.Forward.{one_meaning}
use Rattle.grammar.proofs.Back.{whole_means}
use Rattle.grammar.specs.Halts.{after, lives}
use Rattle.writing.specs.Writing.{term_text, ending, list, pair, write, depth_of}
use Rattle.writing.specs.WritingLaws.{Walks, Plain, EachTerm}
use Rattle.writing.proofs.WritingLaws.{spoken_word, space, between, walks, write_means}

-- a text that is read to its end may stand byte by byte
whole_lives : (m : Mode) (i : ℕ) (x : List ℕ) → whole (run m i x) ≡ true → lives m x ≡ true
unfolding run lives
whole_lives m i [] h = refl
whole_lives m i (b ∷ x) h =
    let t = emits (out m b i) (run (step m b) (suc i) x) in
    let q = whole_alive (alive (step m b)) t i h in
    rw q.0 (whole_lives (step m b) (suc i) x (sym (whole_emits (out m b i) (run (step m b) (suc i) x)) ∙ q.1))

lives_both : (m : Mode) (x y : List ℕ) → lives m (x ++ y) ≡ true → (lives m x ≡ true) × (lives (after m x) y ≡ true)
unfolding lives after
lives_both m [] y h = (refl, h)
lives_both m (b ∷ x) y h =
    let r = (is_and (alive (step m b)) (lives (step m b) (x ++ y)) (is_self (alive (step m b))) (is_self (lives (step m b) (x ++ y)))).to h in
    let q = lives_both (step m b) x y r.1 in
    (rw r.0 q.0, q.1)

-- behind bytes that lead from m to n
lives_on : (m n : Mode) (x y : List ℕ) → Walks m x n → lives m (x ++ y) ≡ true → lives n y ≡ true
lives_on m n x y w h = ap (λ (k : Mode). lives k y) (sym w.to) ∙ (lives_both m x y h).1

-- a list that may stand is not too deep, and its items may stand
list_lives : (c : Word) (σ : List Frame) (x : List ℕ) → lives (item σ) (list c x) ≡ true → (length σ < deepest) × (lives (waits c σ) x ≡ true)
unfolding lives step alive
list_lives c σ x h = go (leb (suc (length σ)) deepest) refl h
  where
    go : (t : Bool) → leb (suc (length σ)) deepest ≡ t → andb (alive (choose t (head σ) dead)) (lives (choose t (head σ) dead) (spelling c ++ (code " " ∷ (x ++ ending)))) ≡ true
        → (length σ < deepest) × (lives (waits c σ) x ≡ true)
    go true e k = (
      leb-true (suc (length σ)) deepest e,
      (lives_both (waits c σ) x ending
          (lives_on (word c [] σ) (waits c σ) (code " " ∷ []) (x ++ ending) (space c σ)
          (lives_on (head σ) (word c [] σ) (spelling c) (code " " ∷ (x ++ ending)) (spoken_word c σ) k))).0,
    )
    go false e k = false_true k

lives_deep : (F : Phrase) (σ : List Frame) → EachTerm Plain F → length σ ≤ deepest → lives (item σ) (write F) ≡ true → length σ + depth_of F ≤ deepest
unfolding write depth_of EachTerm
lives_deep emp σ p l h = omega arith
lives_deep (join c F G) σ p l h =
    let q = list_lives (joins c) σ (pair (write F) (write G)) h in
    let m : length (first_of c ∷ σ) ≤ deepest = omega (arith, q.0) in
    let r = lives_both (item (first_of c ∷ σ)) (write F) (code " " ∷ write G) q.1 in
    let a = lives_deep F (first_of c ∷ σ) p.0 m r.0 in
    let u = lives_on (item (first_of c ∷ σ)) (past (lettered F) F (first_of c ∷ σ)) (write F) (code " " ∷ write G) (walks F (first_of c ∷ σ) p.0 a) q.1 in
    let b = lives_deep G (second_of c F ∷ σ) p.1 m (lives_on (past (lettered F) F (first_of c ∷ σ)) (item (second_of c F ∷ σ)) (code " " ∷ []) (write G) (between c F σ) u) in
    omega (arith, a, b)
lives_deep (deny F) σ p l h =
    let q = list_lives denies σ (write F) h in
    let m : length (only_one ∷ σ) ≤ deepest = omega (arith, q.0) in
    omega (arith, lives_deep F (only_one ∷ σ) p m q.1)
lives_deep (relate c x y) σ p l h = omega (arith, (list_lives (relates c) σ (pair (term_text x) (term_text y)) h).0)

pub read_deep : (F G : Phrase) (es : List Event) → EachTerm Plain F → Means (write F) G es → depth_of F ≤ deepest
read_deep F G es p m = omega (arith, lives_deep F [] p zero-le (whole_lives (item []) 0 (write F) (whole_means (write F) G es m)))

pub read_same : (F G : Phrase) (es : List Event) → EachTerm Plain F → Means (write F) G es → G ≡ F
read_same F G es p m = let w = write_means F p (read_deep F G es p m) in (one_meaning (write F) G F es w.0 m w.1).0
