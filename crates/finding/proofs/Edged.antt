-- The edges of a mesh, written behind its entries. Assumes nothing.
use mathlib.Core.Path.{◌≡◌, ap, ap₂, ◌∙◌}
use mathlib.Core.List.{List, ◌++◌}
use Prim.Native.Nat.{ℕ, ◌+◌, ◌*◌, ◌≤◌, ◌<◌}
use native.Mathlib.Omega.{arith}
use lib.ListN.{length, take, drop, length-drop}
use Rattle.lists.specs.Regions.{front, put}
use Rattle.cutting.specs.Edges.{Edge}
use Rattle.cutting.specs.Lent.{flat_edges}
use Rattle.entry.specs.Mesh.{Rising}
use Rattle.rules.specs.Neighbours.{compute_descending}
use Rattle.regions.specs.declared.Run.{Run}
use Rattle.regions.specs.Runs.{run_in}
use Rattle.regions.proofs.Parts.{run_of_front}
use Rattle.finding.specs.Nets.{with_edges, edges_from, EdgesAsk}
use Rattle.finding.proofs.Cells.{cells_in}

module _ (w ends : List ℕ) (entries : Run) (from h n : ℕ) (ok : EdgesAsk w ends entries from h n) (before edges : List ℕ) (before-is : before ≡ take from w) (edges-are : edges ≡ drop from w)
    (ns : List ℕ) (ns-are : ns ≡ run_in before entries) where
  same : ns ≡ run_in w entries
  same = ns-are ∙ run_of_front w before from entries before-is (omega (arith, ok.room)) ok.lies

  -- what `compute_descending` asks
  pub asked : (2 * length ns ≤ length edges) × (length ns ≤ n) × (length ns ≤ 65536) × (0 < h) × Rising ends (length ns)
  asked = (
    omega (arith, ap length same, ok.room, ap length edges-are, length-drop from w),
    omega (arith, ap length same, ok.links),
    omega (arith, ap length same, ok.most),
    ok.some,
    rw same ok.rising,
  )

  pub written : (k : ℕ) (edges' : List ℕ) → k ≡ length (compute_descending (cells_in ns ends)) → edges' ≡ front edges (flat_edges (compute_descending (cells_in ns ends)))
      → (record { edges = record { from = from; end = from + 2 * k }; entries = entries } ≡ with_edges entries from (edges_from w ends entries))
      × (before ++ edges' ≡ put w from (flat_edges (edges_from w ends entries)))
  unfolding put
  written k edges' e f =
      let es : compute_descending (cells_in ns ends) ≡ edges_from w ends entries = ap (λ (l : List ℕ). compute_descending (cells_in l ends)) same in (
        ap (λ (j : ℕ). record { edges = record { from = from; end = from + 2 * j }; entries = entries }) (e ∙ ap length es),
        ap₂ (λ (u v : List ℕ). u ++ v) before-is (f ∙ ap₂ (λ (u : List ℕ) (l : List Edge). front u (flat_edges l)) edges-are es),
      )
