-- Document 01, module 7 (overlay.rs, `to_sorted_intersections`), and refusal 9: the nodes on an edge. Assumes nothing.
use Rattle.std.specs.Prelude.{Bool, false, cond, not, ◌&&◌, ◌||◌, List, [], ◌∷◌, ◌++◌, map, ℕ, ltb, eqb, length, Float, None, Some}
use Rattle.std.specs.Float.Ieee as Ieee
use Rattle.std.specs.Float.{nan, inf, fin}
use Rattle.lists.specs.Search.{has}
use Rattle.lists.specs.Gather.{passing, joined, slim}
use Rattle.lists.specs.Sort.{sorted}
use Rattle.grid.specs.Grid.{Grid}
use Rattle.plane.specs.Plane.{between, dot, point_at}
use Rattle.cutting.specs.Edges.{Edge, edge_at, key, same_key}
use Rattle.rules.specs.Meetings.{Scene}

-- ---- the order along an edge

-- "total order (−0 before +0)", of floats that are numbers; projections are (`projections_ordered`, coordinates/proofs/Finite.antt)
abbrev pub sign_bit : Float → Bool
sign_bit nan = false
sign_bit (inf s) = s
sign_bit (fin s m e) = s

abbrev pub total_before : Float → Float → Bool
total_before x y = Ieee.lt x y || (Ieee.eq x y && (sign_bit x && not (sign_bit y)))

pub record Projected : Type 0 where
  pub projection : Float
  pub node : ℕ

-- how far the node n lies along the key k, from its first node towards its second
abbrev pub projected : List Float → Edge → ℕ → Projected
projected coords k n =
    let p = point_at coords k.0 in
    record { projection = dot (between p (point_at coords k.1)) (between p (point_at coords n)); node = n }

-- nearer the key's first node
abbrev pub by_projection : Projected → Projected → Bool
by_projection p q = total_before p.projection q.projection

-- the nodes ns by their projections, equal ones in that order
abbrev pub by_projections : List Float → Edge → List ℕ → List ℕ
by_projections coords k ns = map (λ p. p.node) (sorted by_projection (map (projected coords k) ns))

-- neither of the key's nodes
abbrev pub inner_of : Edge → ℕ → Bool
inner_of k n = not (eqb n k.0 || eqb n k.1)

-- The key's first node and those collected, by their projections. W6: "With a grid a key's first node is put first, unsorted, as its second is put last,
-- and their other entries are dropped".
unfoldable pub before_last : Grid → List Float → Edge → List ℕ → List ℕ
before_last None coords k ns = by_projections coords k (k.0 ∷ ns)
before_last (Some i) coords k ns = k.0 ∷ by_projections coords k (passing (inner_of k) ns)

-- "the key's second node put last unsorted, adjacent equals dropped"
unfoldable pub along_edge : Grid → List Float → Edge → List ℕ → List ℕ
along_edge g coords k ns = slim eqb (before_last g coords k ns ++ k.1 ∷ [])

-- ---- the nodes collected under a key

module _ (sc : Scene) where
  -- under the key of e: by its meetings as a subject edge, then by those as a cutter edge; repeats and met ends too
  unfoldable pub collected : Edge → List ℕ
  collected e =
      joined (λ m. cond (same_key (edge_at sc.subject.edges m.subject_edge) e) m.nodes []) sc.met
      ++ joined (λ m. cond (same_key (edge_at sc.cutter.edges m.cutter_edge) e) m.nodes []) sc.met

  -- refusal 9: over 256 nodes collected under one edge key
  abbrev pub overfull : List Edge → Bool
  overfull es = has (λ i. ltb 256 (length (collected (edge_at es i)))) (length es)

  unfoldable pub crowded : Bool
  crowded = overfull sc.subject.edges || overfull sc.cutter.edges

  abbrev pub unless_none : Edge → List ℕ → List ℕ
  unless_none e [] = []
  unless_none e (n ∷ ns) = along_edge sc.grid sc.coords (key e) (n ∷ ns)

  -- the sorted nodes of an edge's key; none where nothing was collected under it
  unfoldable pub sorted_nodes : Edge → List ℕ
  sorted_nodes e = unless_none e (collected e)
