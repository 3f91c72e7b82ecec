-- The lists that were lent, behind what was read. Assumes nothing.
use Rattle.std.proofs.Common.{◌≡◌, refl, ap, subst, ℕ, ◌-◌, ◌*◌, ◌/◌, ◌≤◌, min, List, ◌++◌, length, take, drop, replicate, arith, IfSome, Option, Some, None, ◌∙◌}
use Rattle.std.specs.Prelude.{Float}
use Rattle.std.proofs.lemmas.List.{take-append-le}
use denote.Ref.{Bor}
use Rattle.text.specs.Given.{at_most, limits}
use Rattle.text.specs.Read.{mesh_from}
use Rattle.reading_lines.specs.Lines.{read_by}
use Rattle.reading.specs.declared.Counts.{Counts}
use lib.Seq.{drop_at, length-take-le}
use Rattle.reading.specs.declared.MeshLists.{MeshLists}
use Rattle.reading.specs.Seen.{mesh_seen, Within, SameLists, Zeroed, MeshRest}

-- what is read into the fronts of lists is read of the lists
module _ (s : List ℕ) (cs cs' : List Float) (ls ls' ns ns' es es' ks ks' fs fs' : List ℕ) (p l e n : ℕ)
    (hp : length cs ≡ p) (hl : length ls ≡ l) (hn : length ns ≡ n) (he : length es ≡ e) (hk : e ≤ length ks) (hf : e ≤ length fs) where
  shown : (r : Option (Counts × Bor (List ℕ))) → IfSome r (λ q. (2 * q.0.points ≤ p) × (q.0.points ≤ l) × (q.0.cells ≤ e) × (q.0.entries ≤ n))
      → read_by (λ c. mesh_seen c (cs ++ cs') (ls ++ ls') (ns ++ ns') (es ++ es') (ks ++ ks') (fs ++ fs')) r ≡ read_by (λ c. mesh_seen c cs ls ns es ks fs) r
  shown None h = refl
  shown (Some (c, t)) (hc, hm, hi, hj) =
      rw (
        take-append-le (2 * c.points) cs cs' (omega arith),
        take-append-le c.points ls ls' (omega arith),
        take-append-le c.entries ns ns' (omega arith),
        take-append-le c.cells es es' (omega arith),
        take-append-le c.cells ks ks' (omega arith),
        take-append-le c.cells fs fs' (omega arith),
      )

  pub read_fronts : (r : Option (Counts × Bor (List ℕ))) → IfSome r (λ q. (2 * q.0.points ≤ p) × (q.0.points ≤ l) × (q.0.cells ≤ e) × (q.0.entries ≤ n))
      → (a m b d k f : ℕ) → p / 2 ≡ min 512 (min (a / 2) m) → n ≡ min 2048 b → e ≡ min 512 (min d (min k f))
      → read_by (λ c. mesh_seen c cs ls ns es ks fs) r ≡ mesh_from (at_most (p / 2) e n) s
      → read_by (λ c. mesh_seen c (cs ++ cs') (ls ++ ls') (ns ++ ns') (es ++ es') (ks ++ ks') (fs ++ fs')) r ≡ mesh_from (limits a m b d k f) s
  unfolding limits
  read_fronts r h a m b d k f lp ln le g = shown r h ∙ g ∙ rw (lp, ln, le)

-- a list with z from n on
from_on : {A : Type 0} (z : A) (n : ℕ) (l m new : List A) → n ≤ length l → length m ≡ length l → new ≡ take n m ++ replicate (length m - n) z → drop n new ≡ replicate (length l - n) z
from_on z n l m new h long e =
    ap (drop n) e ∙ drop_at (take n m) (replicate (length m - n) z) n (length-take-le n m (omega (arith, h, long))) ∙ ap (λ k. replicate (k - n) z) long

-- zeros after a mesh of so many, in the lists that were lent
pub rest_zeroed : (c d : Counts) (l m n : MeshLists) → d ≡ c → Within c l → SameLists m l → Zeroed d m n → MeshRest c l n
rest_zeroed c d l m n e w s z₁ =
    let z = subst (λ c. Zeroed c m n) e z₁ in
    record {
      within = w;
      coords = from_on _ (2 * c.points) l.coords.now m.coords.now n.coords.now w.points s.coords.long z.coords;
      layers = from_on _ c.points l.layers.now m.layers.now n.layers.now w.to_layers s.layers.long z.layers;
      nodes = from_on _ c.entries l.nodes.now m.nodes.now n.nodes.now w.entries s.nodes.long z.nodes;
      ends = from_on _ c.cells l.ends.now m.ends.now n.ends.now w.to_ends s.ends.long z.ends;
      kinds = from_on _ c.cells l.kinds.now m.kinds.now n.kinds.now w.to_kinds s.kinds.long z.kinds;
      families = from_on _ c.cells l.families.now m.families.now n.families.now w.to_families s.families.long z.families;
    }
