-- Too many nodes under the key of some edge, by edges as arrays of two. Assumes nothing.
use mathlib.Core.Path.{◌≡◌, refl, sym, ap, ap₂, ◌∙◌}
use mathlib.Core.Bool.{Bool, ◌||◌}
use mathlib.Core.List.{List, [], ◌∷◌, map}
use Prim.Native.Nat.{ℕ, ◌/◌}
use lib.Dec.{ltb}
use lib.ListN.{length}
use Rattle.std.specs.List.{list_any}
use Rattle.std.specs.Simd.{first_chunks}
use Rattle.lists.specs.Search.{has}
use Rattle.lists.proofs.Library.{has_list}
use Rattle.cutting.specs.Edges.{Edge, key}
use Rattle.cutting.specs.Lent.{pairs, pair_of}
use Rattle.cutting.proofs.Chunks.{chunked}
use Rattle.cutting.proofs.Pairs.{pairs_length}
use Rattle.edge_nodes.specs.Lent.{collected_in, most_nodes, crowded_at}
use Rattle.edge_nodes.proofs.InRegions.{key_collected}

module _ (subject cutter : List Edge) (met : List ℕ) where
  abbrev crowded : Edge → Bool
  crowded e = ltb most_nodes (length (collected_in subject cutter met e))

  by_keys : (es : List (List ℕ)) → list_any (λ x. crowded (key (pair_of x))) es ≡ list_any crowded (map pair_of es)
  by_keys [] = refl
  by_keys (x ∷ es) =
      ap₂ (λ (s t : Bool). s || t) (ap (λ (ns : List ℕ). ltb most_nodes (length ns)) (key_collected subject cutter met (pair_of x))) (by_keys es)

  pub crowded_pairs : (r : Bool) (edges : List ℕ) (es : List (List ℕ)) → es ≡ first_chunks 2 (length edges / 2) edges
      → r ≡ list_any (λ x. ltb most_nodes (length (collected_in subject cutter met (key (pair_of x))))) es → r ≡ has (crowded_at (pairs edges) subject cutter met) (length edges / 2)
  crowded_pairs r edges es e is =
      is ∙ by_keys es ∙ ap (list_any crowded) (ap (map pair_of) e ∙ chunked edges) ∙ sym (has_list crowded (pairs edges) (0, 0))
      ∙ ap (has (crowded_at (pairs edges) subject cutter met)) (pairs_length edges)
