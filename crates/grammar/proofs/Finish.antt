-- What was read up to any byte, and could stand there, can be made a well-formed text. Assumes nothing.
use Rattle.std.specs.Prelude.{◌≡◌, refl, Bool, true, false, List, [], ◌∷◌, ◌++◌, ℕ, suc, eqb}
use Rattle.std.proofs.Common.{sym, ◌∙◌, subst, eq-eqb}
use Rattle.logic.proofs.Reflect.{false_true, is_same_bytes}
use Rattle.logic.specs.Tests.{same_bytes}
use Rattle.grammar.specs.Phrase.{Word, joins, denies, relates, Term, nil_term, name_term, Phrase, emp, join, deny, relate, spelling, Atom, bytes, choose}
use Rattle.grammar.specs.Phrase.Join.{and_word, or_word, sep_word, wand_word}
use Rattle.grammar.specs.Phrase.Atom.{equal_word, distinct_word, pto_word, ls_word}
use Rattle.grammar.specs.Machine.{Frame, only_one, first_of, second_of, Spot, start, later, Mode, item, gap, empty, head, word, arg, name, nil, shut, over, words, among, reserved, viable, past, begun, step, out, ending, alive, run, dead}
use Rattle.grammar.specs.Traces.{whole}
use Rattle.grammar.proofs.Traces.{whole_emits}
use Rattle.grammar.proofs.Steps.{past_alive}
use Rattle.grammar.specs.Begun.{Fine}
use Rattle.grammar.specs.Finish.{closing_bytes, after_term, after_word, finish}

-- from mode m the text s is read to its end
abbrev Ends : Mode → List ℕ → Type 0
Ends m s = (i : ℕ) → whole (run m i s) ≡ true

-- one byte
by : (m n : Mode) (b : ℕ) (s : List ℕ) → step m b ≡ n → alive n ≡ true → Ends n s → Ends m (b ∷ s)
unfolding run
by m n b s e a h i = rw (e, a) (whole_emits (out m b i) (run n (suc i) s) ∙ h (suc i))

same_byte : (c : ℕ) → eqb c c ≡ true
same_byte c = eq-eqb c c refl

by_close : (F : Phrase) (σ : List Frame) (s : List ℕ) → Ends (past false F σ) s → Ends (shut F σ) (41 ∷ s)
unfolding step
by_close F σ s h = by (shut F σ) (past false F σ) 41 s refl (past_alive false F σ) h

by_letters : (σ : List Frame) (c : ℕ) (r s : List ℕ) → Ends (past true emp σ) s → Ends (empty c r σ) (c ∷ (r ++ s))
unfolding step alive
by_letters σ c [] s h = by (empty c [] σ) (past true emp σ) c s (rw (same_byte c)) (past_alive true emp σ) h
by_letters σ c (d ∷ r) s h = by (empty c (d ∷ r) σ) (empty d r σ) c (d ∷ (r ++ s)) (rw (same_byte c)) refl (by_letters σ d r s h)

by_emp : (σ : List Frame) (s : List ℕ) → Ends (past true emp σ) s → Ends (item σ) (115 ∷ 101 ∷ 112 ∷ 46 ∷ 101 ∷ 109 ∷ 112 ∷ s)
unfolding step alive
by_emp σ s h = by (item σ) (empty 101 (bytes "p.emp") σ) 115 _ refl refl (by_letters σ 101 (bytes "p.emp") s h)

end_over : (F : Phrase) → Ends (over F) []
unfolding run ending whole
end_over F i = refl

end_past : (e : Bool) (F : Phrase) (σ : List Frame) → Ends (past e F σ) (closing_bytes σ)
unfolding closing_bytes step alive
end_past e F [] = end_over F
end_past e F (only_one ∷ σ) = by_close (deny F) σ (closing_bytes σ) (end_past false (deny F) σ)
end_past e F (second_of c G ∷ σ) = by_close (join c G F) σ (closing_bytes σ) (end_past false (join c G F) σ)
end_past true F (first_of c ∷ σ) =
    by (gap (second_of c F ∷ σ)) (item (second_of c F ∷ σ)) 32 _ refl refl
    (by_emp (second_of c F ∷ σ) (41 ∷ closing_bytes σ) (by_close (join c F emp) σ (closing_bytes σ) (end_past false (join c F emp) σ)))
end_past false F (first_of c ∷ σ) =
    by (item (second_of c F ∷ σ)) (item (second_of c F ∷ σ)) 32 _ refl refl
    (by_emp (second_of c F ∷ σ) (41 ∷ closing_bytes σ) (by_close (join c F emp) σ (closing_bytes σ) (end_past false (join c F emp) σ)))

end_item : (σ : List Frame) → Ends (item σ) (finish (item σ))
end_item σ = by_emp σ (closing_bytes σ) (end_past true emp σ)

-- a word that is no name goes on to a name
word_among : (cs : List Word) (x : List ℕ) → among cs x ≡ true → (c : Word) × (spelling c ≡ x)
unfolding among
word_among [] x h = false_true h
word_among (c ∷ cs) x h = go (same_bytes (spelling c) x) refl (word_among cs x)
  where
    go : (b : Bool) → same_bytes (spelling c) x ≡ b → (among cs x ≡ true → (d : Word) × (spelling d ≡ x)) → (d : Word) × (spelling d ≡ x)
    go true e f = (c, (is_same_bytes (spelling c) x).to e)
    go false e f = f (rw e at h)

longer : (c : Word) → viable (spelling c) ≡ true → (viable (spelling c ++ (97 ∷ [])) ≡ true) × (reserved (spelling c ++ (97 ∷ [])) ≡ false)
unfolding among same_bytes
longer (joins and_word) v = (refl, refl)
longer (joins or_word) v = (refl, refl)
longer (joins sep_word) v = (refl, refl)
longer (joins wand_word) v = (refl, refl)
longer denies v = (refl, refl)
longer (relates equal_word) v = (refl, refl)
longer (relates distinct_word) v = false_true v
longer (relates pto_word) v = (refl, refl)
longer (relates ls_word) v = (refl, refl)

goes_on : (x : List ℕ) → viable x ≡ true → reserved x ≡ true → (viable (x ++ (97 ∷ [])) ≡ true) × (reserved (x ++ (97 ∷ [])) ≡ false)
goes_on x v r =
    let c = word_among words x r in
    subst (λ (z : List ℕ). (viable (z ++ (97 ∷ [])) ≡ true) × (reserved (z ++ (97 ∷ [])) ≡ false)) c.1
    (longer c.0 (subst (λ (z : List ℕ). viable z ≡ true) (sym c.1) v))

end_second : (c : Atom) (x : Term) (σ : List Frame) → Ends (arg (later c x) σ) (97 ∷ 41 ∷ closing_bytes σ)
unfolding step alive among same_bytes
end_second c x σ =
    by (arg (later c x) σ) (name (97 ∷ []) (later c x) σ) 97 _ refl refl
    (by (name (97 ∷ []) (later c x) σ) (past false (relate c x (name_term (97 ∷ []))) σ) 41 _ refl (past_alive false (relate c x (name_term (97 ∷ []))) σ)
    (end_past false (relate c x (name_term (97 ∷ []))) σ))

end_name : (x : List ℕ) (p : Spot) (σ : List Frame) → reserved x ≡ false → Ends (name x p σ) (after_term p σ)
unfolding step alive
end_name x (start c) σ r = by (name x (start c) σ) (arg (later c (name_term x)) σ) 32 _ (rw r) refl (end_second c (name_term x) σ)
end_name x (later c y) σ r =
    by (name x (later c y) σ) (past false (relate c y (name_term x)) σ) 41 _ (rw r) (past_alive false (relate c y (name_term x)) σ)
    (end_past false (relate c y (name_term x)) σ)

end_viable : (x : List ℕ) (p : Spot) (σ : List Frame) → viable x ≡ true → (c : Bool) → reserved x ≡ c → Ends (name x p σ) (choose c (97 ∷ after_term p σ) (after_term p σ))
unfolding step alive
end_viable x p σ v false r = end_name x p σ r
end_viable x p σ v true r =
    let g = goes_on x v r in
    by (name x p σ) (name (x ++ (97 ∷ [])) p σ) 97 _ (rw g.0) refl (end_name (x ++ (97 ∷ [])) p σ g.1)

end_arg : (p : Spot) (σ : List Frame) → Ends (arg p σ) (97 ∷ after_term p σ)
unfolding step alive among same_bytes
end_arg p σ = by (arg p σ) (name (97 ∷ []) p σ) 97 _ refl refl (end_name (97 ∷ []) p σ refl)

end_nil : (r : List ℕ) (p : Spot) (σ : List Frame) → Ends (nil r p σ) (r ++ after_term p σ)
unfolding step alive
end_nil (c ∷ r) p σ = by (nil (c ∷ r) p σ) (nil r p σ) c _ (rw (same_byte c)) refl (end_nil r p σ)
end_nil [] (start c) σ = by (nil [] (start c) σ) (arg (later c nil_term) σ) 32 _ refl refl (end_second c nil_term σ)
end_nil [] (later c y) σ =
    by (nil [] (later c y) σ) (past false (relate c y nil_term) σ) 41 _ refl (past_alive false (relate c y nil_term) σ) (end_past false (relate c y nil_term) σ)

end_word : (c : Word) (r : List ℕ) (σ : List Frame) → Ends (word c r σ) (r ++ after_word c σ)
unfolding step alive
end_word c (d ∷ r) σ = by (word c (d ∷ r) σ) (word c r σ) d _ (rw (same_byte d)) refl (end_word c r σ)
end_word (relates c) [] σ = by (word (relates c) [] σ) (arg (start c) σ) 32 _ refl refl (end_arg (start c) σ)
end_word (joins c) [] σ = by (word (joins c) [] σ) (item (first_of c ∷ σ)) 32 _ refl refl (end_item (first_of c ∷ σ))
end_word denies [] σ = by (word denies [] σ) (item (only_one ∷ σ)) 32 _ refl refl (end_item (only_one ∷ σ))

-- every mode that is not dead can be finished
pub can_finish : (m : Mode) → Fine m → alive m ≡ true → (i : ℕ) → whole (run m i (finish m)) ≡ true
unfolding step alive begun
can_finish dead v a = false_true a
can_finish (over F) v a = end_over F
can_finish (item σ) v a = end_item σ
can_finish (gap σ) v a = by (gap σ) (item σ) 32 _ refl refl (end_item σ)
can_finish (empty c r σ) v a = by_letters σ c r (closing_bytes σ) (end_past true emp σ)
can_finish (head σ) v a = by (head σ) (word denies (111 ∷ 116 ∷ []) σ) 110 _ refl refl (end_word denies (111 ∷ 116 ∷ []) σ)
can_finish (word c r σ) v a = end_word c r σ
can_finish (arg p σ) v a = end_arg p σ
can_finish (name x p σ) v a = end_viable x p σ v.can (reserved x) refl
can_finish (nil r p σ) v a = end_nil r p σ
can_finish (shut F σ) v a = by_close F σ (closing_bytes σ) (end_past false F σ)
