-- What is read is what the machine comes to: refusals, `sep.emp`, and the end of a list. Assumes nothing.
use Rattle.std.specs.Prelude.{◌≡◌, refl, true, false, Option, None, Some, Result, Ok, Err, List, [], ◌∷◌, ◌++◌, ℕ, ◌+◌, ◌-◌, ◌≤◌, ◌<◌, length}
use Rattle.std.proofs.Common.{sym, ap₂, ◌∙◌, subst, inl, inr, arith, le-leb}
use Rattle.std.proofs.Math.Path.{ap}
use Rattle.std.proofs.lemmas.Bool.{lt-leb}
use Rattle.logic.specs.Book.{most_nodes}
use Rattle.logic.specs.Numbers.{bad_text, many_nodes}
use Rattle.grammar.specs.Phrase.{Phrase, emp}
use Rattle.grammar.specs.Grammar.{finished, Edge}
use Rattle.grammar.specs.Machine.{Frame, Mode, item, shut, past, own, Trace, bad, emits}
use Rattle.grammar.specs.Steps.{onward}
use Rattle.grammar.specs.Listing.{size_of, listing}
use Rattle.grammar.proofs.ListingLaws.{size_some}
use Rattle.grammar.specs.Meaning.{collect, form_of}
use Rattle.grammar.specs.Outcome.{outcome, refused}
use Rattle.words.specs.Words.{EmpIs, ShutIs}
use Rattle.words.specs.WordLaws.{emp_edge, emp_no_edge}
use Rattle.words.specs.declared.BadText.{BadText}
use Rattle.leaves.specs.declared.Refusal.{Refusal}
use Rattle.leaves.specs.declared.Refusal.TheVariants.{ManyNodes as too_many}
use Rattle.draft.specs.declared.Nodes.{Nodes}
use Rattle.names.specs.Names.{held, Fine as FineNames}
use Rattle.names.specs.NameLaws.{all_fine}
use Rattle.draft.specs.Drafts.{NodesIs}
use Rattle.items.specs.declared.Draft.{Draft}
use Rattle.items.specs.Readings.{Step, step, FinishedIs, ClosedIs, form_in, bytes_of, Read, ReadIs}

-- ---- an item is finished, or refused at its last byte

pub finished_fits : {i e : ℕ} {n : Option (Unit {0})} → FinishedIs i n (Ok e) → n ≡ Some tt
finished_fits {n = n} f = go n refl
  where
    go : (k : Option (Unit {0})) → n ≡ k → n ≡ Some tt
    go (Some x) z = z
    go None z = let e = f.passes z in absurd (cc)

pub finished_passes : {i : ℕ} {n : Option (Unit {0})} {x : Refusal} → FinishedIs i n (Err x) → (n ≡ None) × (x ≡ too_many (i - 1))
finished_passes {i = i} {n = n} {x = x} f = go n refl
  where
    go : (k : Option (Unit {0})) → n ≡ k → (n ≡ None) × (x ≡ too_many (i - 1))
    go (Some u) z = let e = f.done z in absurd (cc)
    go None z = let e = f.passes z in (z, cc)

-- ---- nodes are added, within the most or past them

module _ {d u : Nodes} {k : ℕ} {bs : List ℕ} {r : Option (Unit {0})} (h : NodesIs d k bs r u) (ns : List (List ℕ)) (i : ℕ) (x : Trace) where
  within : r ≡ Some tt → outcome ns d.count (emits (finished (i - 1) k ∷ []) x) ≡ outcome ns u.count x
  unfolding outcome emits
  within z = let q = h.fits z in rw (le-leb (d.count + k) most_nodes (omega (arith, q.ready.few, q.nodes))) (ap (λ (m : ℕ). outcome ns m x) (sym q.nodes))

  passed : r ≡ None → outcome ns d.count (emits (finished (i - 1) k ∷ []) x) ≡ refused many_nodes (i - 1)
  unfolding outcome emits
  passed z = rw (lt-leb (d.count + k) most_nodes (h.passes z))

module _ (s : List ℕ) (depth i : ℕ) (d : Draft) where
  -- ---- refusals

  pub refuses_as : {m : List Frame → Mode} {r : Step} (k p : ℕ) → 0 < k → r.number ≡ k → r.at ≡ p
      → ((σ : List Frame) → length σ ≡ depth → outcome (held d.names) d.nodes.count (onward s (m σ) i) ≡ refused k p) → ReadIs s m depth i d r
  refuses_as k p l e a f = record { read = λ z. absurd (omega (arith, e, z)); refuses = λ _ σ t. f σ t ∙ ap₂ refused (sym e) (sym a) }

  -- 26 at p
  pub stops_at : {m : List Frame → Mode} {r : Step} (p : ℕ) → r.number ≡ bad_text → r.at ≡ p → ((σ : List Frame) → length σ ≡ depth → onward s (m σ) i ≡ bad p) → ReadIs s m depth i d r
  unfolding outcome
  stops_at p e a f = refuses_as bad_text p (omega arith) e a (λ σ t. ap (outcome (held d.names) d.nodes.count) (f σ t))

  -- ---- what is read from j on is what is read from i on

  pub moved : {m : List Frame → Mode} (m' : List Frame → Mode) (j : ℕ) {r : Step} → i ≤ j → ((σ : List Frame) → length σ ≡ depth → onward s (m σ) i ≡ onward s (m' σ) j) → ReadIs s m' depth j d r → ReadIs s m depth i d r
  moved m' j l f h =
      record {
        read = λ z.
            let q = h.read z in
            record {
              phrase = q.phrase;
              from = omega (arith, q.from);
              inside = q.inside;
              fine = q.fine;
              names = q.names;
              nodes = q.nodes;
              bytes = q.bytes;
              goes = λ σ e. ap (outcome (held d.names) d.nodes.count) (f σ e) ∙ q.goes σ e;
            };
        refuses = λ z σ e. ap (outcome (held d.names) d.nodes.count) (f σ e) ∙ h.refuses z σ e;
      }

  -- what is read has nodes
  pub more_nodes : (m : List Frame → Mode) (r : Step) → Read s m depth i d r → d.nodes.count < r.draft.nodes.count
  more_nodes m r q = omega (arith, q.nodes, size_some (form_in r.draft q.phrase))

  -- ---- `sep.emp`

  module _ (e : ℕ) (q : EmpIs s i (Ok e)) {n : Option (Unit {0})} {u : Nodes} (h : NodesIs d.nodes 1 (1 ∷ 0 ∷ 0 ∷ []) n u) where
    pub emp_passes : n ≡ None → {r : Step} → r.number ≡ many_nodes → r.at ≡ e - 1 → ReadIs s item depth i d r
    emp_passes z w a =
        refuses_as many_nodes (e - 1) (omega arith) w a (λ σ l. ap (outcome (held d.names) d.nodes.count) (q.2 σ) ∙ passed h (held d.names) e (onward s (past true emp σ) e) z)

    reach : n ≡ Some tt → (σ : List Frame) → outcome (held d.names) d.nodes.count (onward s (item σ) i) ≡ outcome (held d.names) u.count (onward s (past true emp σ) e)
    reach z σ = ap (outcome (held d.names) d.nodes.count) (q.2 σ) ∙ within h (held d.names) e (onward s (past true emp σ) e) z

    pub emp_open : n ≡ Some tt → ¬ Edge s e → {r : Step} → r.number ≡ bad_text → r.at ≡ e → ReadIs s item depth i d r
    unfolding outcome
    emp_open z g w a = refuses_as bad_text e (omega arith) w a (λ σ l. reach z σ ∙ ap (outcome (held d.names) u.count) (emp_no_edge s σ e g q.1))

    pub emp_read : n ≡ Some tt → Edge s e → ReadIs s item depth i d (step (Ok e) (record { nodes = u; names = d.names }))
    unfolding collect form_of listing size_of
    emp_read z g =
        let c = h.fits z in
        record {
          read = λ _.
              record {
                phrase = emp;
                from = q.0;
                inside = q.1;
                fine = record { ready = c.ready; names = all_fine d.names };
                names = refl;
                nodes = c.nodes;
                bytes = c.bytes;
                goes = λ σ l. reach z σ ∙ ap (outcome (held d.names) u.count) (emp_edge s σ e g);
              };
          refuses = λ y. absurd (y refl);
        }

  -- ---- the end of a list

  -- the formulas or terms of the list P are read: the draft is b, and its closing bracket is awaited from j on
  module _ (m : List Frame → Mode) (P : Phrase) (b : Draft) (j : ℕ) (l : i ≤ j)
      (reach : (σ : List Frame) → length σ ≡ depth → outcome (held d.names) d.nodes.count (onward s (m σ) i) ≡ outcome (held b.names) b.nodes.count (onward s (shut P σ) j)) where
    list_open : (p : BadText) → ShutIs s j (Err p) → {r : Step} → r.number ≡ bad_text → r.at ≡ p.at → ReadIs s m depth i d r
    unfolding outcome
    list_open p q w a = refuses_as bad_text p.at (omega arith) w a (λ σ t. reach σ t ∙ ap (outcome (held b.names) b.nodes.count) (q P σ))

    module _ {bs : List ℕ} {n : Option (Unit {0})} {u : Nodes} (h : NodesIs b.nodes (own P) bs n u)
        (fine : FineNames b.names) (names : held b.names ≡ collect (held d.names) P)
        (size : b.nodes.count + own P ≡ d.nodes.count + size_of (form_in b P)) (bytes : bytes_of b ++ bs ≡ bytes_of d ++ listing d.nodes.count (form_in b P)) where
      list_done : (e : ℕ) → ShutIs s j (Ok e) → n ≡ Some tt → ReadIs s m depth i d (step (Ok e) (record { nodes = u; names = b.names }))
      list_done e q z =
          let c = h.fits z in
          record {
            read = λ _.
                record {
                  phrase = P;
                  from = omega (arith, q.0);
                  inside = q.1;
                  fine = record { ready = c.ready; names = fine };
                  names = names;
                  nodes = c.nodes ∙ size;
                  bytes = c.bytes ∙ bytes;
                  goes = λ σ t. reach σ t ∙ ap (outcome (held b.names) b.nodes.count) (q.2 P σ) ∙ within h (held b.names) e (onward s (past false P σ) e) z;
                };
            refuses = λ y. absurd (y refl);
          }

      pub list_closed : (r : Result ℕ Refusal) → ClosedIs s j n r → ReadIs s m depth i d (step r (record { nodes = u; names = b.names }))
      list_closed r (inr (p, q, e)) = subst (λ (x : Result ℕ Refusal). ReadIs s m depth i d (step x (record { nodes = u; names = b.names }))) (sym e) (list_open p q refl refl)
      list_closed r (inl (e, q, f)) = go n refl
        where
          go : (k : Option (Unit {0})) → n ≡ k → ReadIs s m depth i d (step r (record { nodes = u; names = b.names }))
          go (Some x) z = subst (λ (x : Result ℕ Refusal). ReadIs s m depth i d (step x (record { nodes = u; names = b.names }))) (sym (f.done z)) (list_done e q z)
          go None z =
              subst (λ (x : Result ℕ Refusal). ReadIs s m depth i d (step x (record { nodes = u; names = b.names }))) (sym (f.passes z))
              (refuses_as many_nodes (e - 1) (omega arith) refl refl
              (λ σ t. reach σ t ∙ ap (outcome (held b.names) b.nodes.count) (q.2 P σ) ∙ passed h (held b.names) e (onward s (past false P σ) e) z))
