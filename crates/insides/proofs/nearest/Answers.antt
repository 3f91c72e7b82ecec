-- `insides::nearest` meets its contract: the closest place is kept from edge to edge. Assumes nothing.
use mathlib.Core.Path.{refl, ap, ◌∙◌}
use Prim.Native.Nat.{ℕ}
use lib.Ieee.{of_bits}
use lib.ListN.{length}
use Rattle.std.specs.List.{fold, enumerate_from}
use Rattle.std.proofs.Common.{rules}
use Rattle.std.proofs.lemmas.Iterator.Consumers.{fold_from_yields_List, YieldsList-from_first, YieldsList-from_enumerate, YieldsList-at}
use Rattle.plane.specs.declared.Point.{Point}
use Rattle.corners.specs.Ring.{as_read, edge_at, edges, edges_left}
use Rattle.corners.proofs.Steps.{fold_counted}
use Rattle.insides.specs.Inside.{ortho_dist2, settle, nearer_edge, nearest_among, nearest}
use Rattle.insides.specs.declared.Near.{Near}
use Rattle.insides.proofs.nearest.Goals as goal

pub returns : goal.returns
unfolding nearest nearest_among nearer_edge of_bits
returns c =
    let r = c.args.ring in
    let h : Near → ℕ × (Point × Point) → Near = λ b e. settle c.len-n.result e.0 (ortho_dist2 c.args.p e.1.0 e.1.1) b in
    fold_from_yields_List _ h _ _ c.fold.ensures.ran
    (YieldsList-from_enumerate (YieldsList-at c.enumerate.ensures.source (YieldsList-from_first (λ x. x) edges_left _ c.edges.ensures)) c.enumerate.ensures.count) (λ s e t f k. search rules)
    ∙ ap (λ m. fold (λ b e. settle m e.0 (ortho_dist2 c.args.p e.1.0 e.1.1) b) (nearest_among 0 r.coords.now (as_read r) c.args.p) (enumerate_from 0 (edges r))) c.len-n.ensures
    ∙ fold_counted (λ k. nearest_among k r.coords.now (as_read r) c.args.p) (λ b e. settle (length (as_read r)) e.0 (ortho_dist2 c.args.p e.1.0 e.1.1) b) (edge_at r) (λ k. refl) (length (as_read r))
