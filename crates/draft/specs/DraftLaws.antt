-- How nodes are added to a table. Assumes nothing.
use Rattle.std.specs.Prelude.{◌≡◌, refl, Option, None, Some, ℕ, suc, ◌+◌, ◌-◌, ◌*◌, ◌<◌, ◌≤◌, length, take, set}
use Rattle.std.proofs.Common.{sym, ap, ◌∙◌, arith, length-set, take-suc-set}
use Rattle.std.proofs.Math.Path.{subst}
use mathlib.Core.List.{List, [], ◌∷◌, ◌++◌, append_assoc}
use Rattle.logic.specs.Book.{most_nodes}
use Rattle.grammar.specs.Phrase.{joins, relates}
use Rattle.grammar.specs.Phrase.Atom.{equal_word, distinct_word, pto_word, ls_word}
use Rattle.grammar.specs.Grammar.{adds}
use Rattle.grammar.specs.Listing.{listing, size_of}
use Rattle.grammar.specs.Meaning.{atom_form}
use Rattle.words.specs.declared.Join.{Join as Joined}
use Rattle.words.specs.declared.Atom.{Atom as Related}
use Rattle.words.specs.Words.{join_of, atom_of}
use Rattle.draft.specs.declared.Nodes.{Nodes}
use Rattle.draft.specs.Drafts.{join_tail, any_tail, bytes_in, Adds, NodesIs}

-- three bytes behind the first k of a table
three : (t : List ℕ) (k a b c : ℕ) → k + 2 < length t → take (suc (suc (suc k))) (set (set (set t k a) (k + 1) b) (k + 2) c) ≡ take k t ++ (a ∷ b ∷ c ∷ [])
three t k a b c h =
    let e : k + 1 ≡ suc k = omega arith in
    let f : k + 2 ≡ suc (suc k) = omega arith in
    rw (e, f)
    (take-suc-set (set (set t k a) (suc k) b) (suc (suc k)) c (omega (arith, length-set (set t k a) (suc k) b, length-set t k a))
    ∙ ap (λ (x : List ℕ). x ++ (c ∷ [])) (take-suc-set (set t k a) (suc k) b (omega (arith, length-set t k a)) ∙ ap (λ (x : List ℕ). x ++ (b ∷ [])) (take-suc-set t k a (omega arith)))
    ∙ append_assoc (take k t ++ (a ∷ [])) (b ∷ []) (c ∷ []) ∙ append_assoc (take k t) (a ∷ []) (b ∷ c ∷ []))

pub one_more_node : (d : Nodes) (op a b : ℕ) → d.count < most_nodes → (g : length (set (set (set d.table (3 * d.count) op) (3 * d.count + 1) a) (3 * d.count + 2) b) ≡ 3 * most_nodes) → (f : d.count + 1 ≤ most_nodes)
    → Adds d 1 (op ∷ a ∷ b ∷ []) (record { table = set (set (set d.table (3 * d.count) op) (3 * d.count + 1) a) (3 * d.count + 2) b; count = d.count + 1; long = g; few = f })
one_more_node d op a b l g f =
    let t = d.table in
    let n = d.count in
    let k : 3 * (n + 1) ≡ suc (suc (suc (3 * n))) = omega arith in
    let u = set (set (set t (3 * n) op) (3 * n + 1) a) (3 * n + 2) b in
    record {
      ready = record {
        long = g;
        few = f;
      };
      nodes = refl;
      bytes = ap (λ (m : ℕ). take m u) k ∙ three t (3 * n) op a b (omega (arith, d.long, l));
    }

-- nodes behind nodes
pub adds_adds : {d u w : Nodes} {k l : ℕ} {bs cs : List ℕ} → Adds d k bs u → Adds u l cs w → Adds d (k + l) (bs ++ cs) w
adds_adds {d} {u} {w} {k} {l} {bs} {cs} p q =
    record {
      ready = q.ready;
      nodes = omega (arith, q.nodes, p.nodes);
      bytes = q.bytes ∙ ap (λ (x : List ℕ). x ++ cs) p.bytes ∙ append_assoc (bytes_in d) bs cs;
    }

pub added : {d u : Nodes} {k : ℕ} {bs : List ℕ} → Adds d k bs u → NodesIs d k bs (Some tt) u
added q = record { fits = λ _. q; passes = λ e. absurd (cc) }

pub too_many : {d u : Nodes} {k : ℕ} {bs : List ℕ} → most_nodes < d.count + k → NodesIs d k bs None u
too_many l = record { fits = λ e. absurd (cc); passes = λ _. l }

-- which list it is
pub join_nodes : {d u : Nodes} {r : Option (Unit {0})} (m : ℕ) (k w : Joined) → w ≡ k → NodesIs d (adds (joins (join_of k))) (join_tail (join_of k) m d.count) r u
    → NodesIs d (adds (joins (join_of w))) (join_tail (join_of w) m d.count) r u
join_nodes {d} {u} {r} m k w e h = subst (λ (x : Joined). NodesIs d (adds (joins (join_of x))) (join_tail (join_of x) m d.count) r u) (sym e) h

pub atom_nodes : {d u : Nodes} {r : Option (Unit {0})} (x y : ℕ) (k w : Related) → w ≡ k → NodesIs d (adds (relates (atom_of k))) (listing d.count (atom_form (atom_of k) x y)) r u
    → NodesIs d (adds (relates (atom_of w))) (listing d.count (atom_form (atom_of w) x y)) r u
atom_nodes {d} {u} {r} x y k w e h = subst (λ (z : Related). NodesIs d (adds (relates (atom_of z))) (listing d.count (atom_form (atom_of z) x y)) r u) (sym e) h

any_bytes : (op n x y : ℕ) → op ∷ x ∷ y ∷ 2 ∷ 0 ∷ 0 ∷ 8 ∷ (n + 1 + 1 - 1) ∷ 0 ∷ 9 ∷ (n + 1 - 1) ∷ (n + 1 + 2 - 1) ∷ [] ≡ any_tail op x y n
any_bytes op n x y =
    let a : n + 1 + 1 - 1 ≡ n + 1 = omega arith in
    let b : n + 1 - 1 ≡ n = omega arith in
    let c : n + 1 + 2 - 1 ≡ n + 2 = omega arith in
    rw (a, b, c)

module _ (x y : ℕ) {d u : Nodes} {r : Option (Unit {0})} where
  -- `=` and `distinct`
  pub equal_nodes : NodesIs d 4 (any_tail 1 x y d.count) r u → NodesIs d 4 (listing d.count (atom_form equal_word x y)) r u
  unfolding listing size_of
  equal_nodes h = subst (λ (bs : List ℕ). NodesIs d 4 bs r u) (sym (any_bytes 1 d.count x y)) h

  pub distinct_nodes : NodesIs d 4 (any_tail 2 x y d.count) r u → NodesIs d 4 (listing d.count (atom_form distinct_word x y)) r u
  unfolding listing size_of
  distinct_nodes h = subst (λ (bs : List ℕ). NodesIs d 4 bs r u) (sym (any_bytes 2 d.count x y)) h

  -- `pto` and `ls`
  pub pto_nodes : NodesIs d 1 (3 ∷ x ∷ y ∷ []) r u → NodesIs d 1 (listing d.count (atom_form pto_word x y)) r u
  unfolding listing
  pto_nodes h = h

  pub ls_nodes : NodesIs d 1 (4 ∷ x ∷ y ∷ []) r u → NodesIs d 1 (listing d.count (atom_form ls_word x y)) r u
  unfolding listing
  ls_nodes h = h
