-- What may still come, by the mode of the machine. The text is w. Assumes nothing.
use Rattle.std.specs.Prelude.{◌≡◌, Bool, true, false, List, [], ◌∷◌, ◌++◌, ◌⊎◌, eqb, length}
use Rattle.std.proofs.Math.Path.{refl}
use Rattle.std.proofs.Common.{◌∙◌, eqb-true}
use Prim.Native.Nat.{ℕ, suc, ◌<◌}
use Rattle.grammar.specs.Phrase.{Word, joins, denies, relates, Term, Phrase, join, deny, relate, spelling, sep_nil, Name, choose}
use Rattle.grammar.specs.Grammar.{Event, deepest, Byte, Spelt, Blanks, Edge, Stands, Reads}
use Rattle.grammar.specs.Grammar.Blanks.{no_blank}
use Rattle.grammar.specs.Grammar.Reads.{a_join, a_denial, a_relation}
use Rattle.grammar.specs.Machine.{Frame, only_one, first_of, second_of, Spot, start, later, Mode, item, gap, empty, head, word, arg, name, nil, shut, over, dead}
use Rattle.grammar.specs.Forward.{lettered}

module _ (w : List ℕ) where
  -- what may follow a formula from i on, where the lists σ are open; true: the formula ended in a letter
  unfoldable pub Tail : Bool → List Frame → ℕ → Type 0
  Tail e [] i = Blanks w i (length w)
  Tail e (only_one ∷ σ) i = (m : ℕ) × Blanks w i m × Byte w 41 m × Tail false σ (suc m)
  Tail e (second_of c G ∷ σ) i = (m : ℕ) × Blanks w i m × Byte w 41 m × Tail false σ (suc m)
  Tail e (first_of c ∷ σ) i =
      (F : Phrase) × (es : List Event) × (k : ℕ) × (l : ℕ) × (m : ℕ) × (e ≡ true → Edge w i) × Blanks w i k × Reads w (suc (length σ)) F k l es × Blanks w l m × Byte w 41 m × Tail false σ (suc m)

  -- where a formula may begin
  pub record Item (σ : List Frame) (i : ℕ) : Type 0 where
    pub form : Phrase
    pub events : List Event
    pub from : ℕ
    pub upto : ℕ
    pub skip : Blanks w i from
    pub body : Reads w (length σ) form from upto events
    pub rest : Tail (lettered form) σ upto

  -- a closing bracket
  abbrev pub Closes : List Frame → ℕ → Type 0
  Closes σ i = (m : ℕ) × Blanks w i m × Byte w 41 m × Tail false σ (suc m)

  -- what may follow a term
  abbrev pub Rest : Spot → List Frame → ℕ → Type 0
  Rest (start c) σ i = (y : Term) × (n : ℕ) × (l : ℕ) × (i < n) × Blanks w i n × Stands w y n l × Closes σ l
  Rest (later c x) σ i = Closes σ i

  abbrev pub Arg : Spot → List Frame → ℕ → Type 0
  Arg p σ i = (x : Term) × (k : ℕ) × (j : ℕ) × Blanks w i k × Stands w x k j × Rest p σ j

  abbrev pub Said : Word → List Frame → ℕ → Type 0
  Said (relates c) σ i = Edge w i × Arg (start c) σ i
  Said (joins c) σ i = Edge w i × Item (first_of c ∷ σ) i
  Said denies σ i = Edge w i × Item (only_one ∷ σ) i

  -- the letters y make a name of x, or sep.nil
  abbrev pub Named : List ℕ → Spot → List Frame → ℕ → Type 0
  Named x p σ i = (y : List ℕ) × (j : ℕ) × (Name (x ++ y) ⊎ (x ++ y ≡ sep_nil)) × Spelt w y i j × Rest p σ j

  abbrev pub Awaits : Mode → ℕ → Type 0
  Awaits (item σ) i = Item σ i
  Awaits (gap σ) i = Edge w i × Item σ i
  Awaits (empty c r σ) i = (j : ℕ) × Spelt w (c ∷ r) i j × Edge w j × Tail true σ j
  Awaits (head σ) i = (c : Word) × (k : ℕ) × (j : ℕ) × Blanks w i k × Spelt w (spelling c) k j × Said c σ j
  Awaits (word c r σ) i = (j : ℕ) × Spelt w r i j × Said c σ j
  Awaits (arg p σ) i = Arg p σ i
  Awaits (name x p σ) i = Named x p σ i
  Awaits (nil r p σ) i = (j : ℕ) × Spelt w r i j × Rest p σ j
  Awaits (shut F σ) i = Closes σ i
  Awaits (over F) i = Blanks w i (length w)
  Awaits dead i = ⊥

  pub by_pick : {T : Type 0} (c : Bool) (A B : Mode) (i : ℕ) → (c ≡ true → Awaits A i → T) → (c ≡ false → Awaits B i → T) → Awaits (choose c A B) i → T
  by_pick true A B i f g h = f refl h
  by_pick false A B i f g h = g refl h

  -- the last test
  pub by_only : {T : Type 0} (c : Bool) (A : Mode) (i : ℕ) → (c ≡ true → Awaits A i → T) → Awaits (choose c A dead) i → T
  by_only true A i f h = f refl h
  by_only false A i f h = absurd h

  pub as_byte : {b i : ℕ} (c : ℕ) → Byte w b i → eqb b c ≡ true → Byte w c i
  as_byte {b} c q e = (q.0, q.1 ∙ eqb-true b c e)

  -- ---- a list that begins at i

  pub listed : (σ : List Frame) (c : Word) (i k j : ℕ) → length σ < deepest → Byte w 40 i → Blanks w (suc i) k → Spelt w (spelling c) k j → Said c σ j → Item σ i
  unfolding Tail
  listed σ (joins c) i k j h q b s (e, it) =
      let r = it.rest in
      record {
        form = join c it.form r.0;
        events = _;
        from = i;
        upto = suc r.4;
        skip = no_blank;
        body = a_join (record { depth = h; opens = q; begins = k; ends = j; before = b; word = s; edge = e; between = it.skip; shuts = r.4; after = r.8; closes = r.9; last = refl }) it.body r.6 r.7;
        rest = r.10;
      }
  listed σ denies i k j h q b s (e, it) =
      let r = it.rest in
      record {
        form = deny it.form;
        events = _;
        from = i;
        upto = suc r.0;
        skip = no_blank;
        body = a_denial (record { depth = h; opens = q; begins = k; ends = j; before = b; word = s; edge = e; between = it.skip; shuts = r.0; after = r.1; closes = r.2; last = refl }) it.body;
        rest = r.3;
      }
  listed σ (relates c) i k j h q b s (e, a) =
      let r = a.5 in
      let z = r.6 in
      record {
        form = relate c a.0 r.0;
        events = _;
        from = i;
        upto = suc z.0;
        skip = no_blank;
        body = a_relation (record { depth = h; opens = q; begins = k; ends = j; before = b; word = s; edge = e; between = a.3; shuts = z.0; after = z.1; closes = z.2; last = refl }) a.4 r.3 r.4 r.5;
        rest = z.3;
      }
