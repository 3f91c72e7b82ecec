use mathlib.Core.Path.{ap, ◌∙◌}
use native.Mathlib.Omega.{arith}
use mathlib.Core.List.{[], ◌∷◌}
use Rattle.cutting.specs.Edges.{key}
use Rattle.cutting.proofs.Chunks.{chunk_at}
use Rattle.edge_nodes.proofs.sides.key_at.Goals as goal

pub returns : goal.returns
returns c =
    let pair = c.unwrap_or.ensures ∙ rw (c.copied.ensures) (c.get.ensures.lookup.4 (omega arith) (0 ∷ 0 ∷ [])) in
    c.new.ensures ∙ ap key (chunk_at c.args.edges.now _ c.args.e _ c.as_chunks.ensures.front pair)
