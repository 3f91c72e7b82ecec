-- W7: an answer has the layer of the subject edge's first node under the number of each new point. Assumes nothing.
use mathlib.Core.Path.{◌≡◌, sym, ap, ◌∙◌, subst}
use mathlib.Core.Logic.{◌⊎◌, inl, inr}
use mathlib.Core.List.Memᴰ
use mathlib.Core.List.{List, [], ◌∷◌, ◌++◌, append_assoc, Memᴰ}
use Prim.Native.Nat.{ℕ, ◌+◌, ◌*◌, ◌<◌}
use native.Mathlib.Omega.{arith}
use lib.Dec.{eqb}
use lib.ListN.{length, get_or, get_or-append, length-append}
use lib.Seq.{get_or-append-add}
use lib.Ieee.{Float}
use Rattle.lists.specs.Gather.{joined}
use Rattle.lists.proofs.Gather.{joined_append}
use Rattle.lists.proofs.Regions.{front_in}
use Rattle.segments.specs.declared.Meeting.{Meeting}
use Rattle.segments.specs.declared.Meeting.TheVariants.{Apart, Existing, New, Overlap}
use Rattle.cutting.specs.Edges.{edge_at}
use Rattle.cutting.specs.Edition.{ours}
use Rattle.grid.specs.Grid.{Grid}
use Rattle.settings.specs.declared.Settings.{Settings}
use Rattle.entry.specs.Mesh.{Mesh}
use Rattle.entry.specs.Passed.{Passed}
use Rattle.entry.proofs.Passed.{passed}
use Rattle.rules.specs.Neighbours.{Net, subject_net, cutter_net}
use Rattle.rules.specs.Meetings.{Met, recorded, meetings, scene_of}
use Rattle.rules.specs.Layers.{layer_added, layers_of}
use Rattle.rules.specs.Operations.{scene_for}
use Rattle.rules.specs.Overlay.{Lists, Result, written, answered_with, overlay_of}
use Rattle.rules.specs.Demand3.{Accepted}
use Rattle.rules.proofs.Accepts.{accepted}
use Rattle.rules.proofs.EdgePairs.{next_node, PairKeeps, meetings_keep}
use Rattle.rules.proofs.Lengths.{Pairs, pairs_append, pairs_recorded, layers_added}

-- what holds of x holds of all in a list of x alone
only : (P : Met → Type 0) (x : Met) → P x → (m : Met) → Memᴰ m (x ∷ []) → P m
only P x h m q = go (Memᴰ.cases_cons q)
  where
    go : (m ≡ x) ⊎ Memᴰ m [] → P m
    go (inl e) = subst P (sym e) h
    go (inr r) = absurd (Memᴰ.not-nil r)

module _ (g : Grid) (coords : List Float) (s c : Net) (ls cs : List ℕ) (lent : length coords ≡ 2 * (length ls + length cs)) where
  abbrev added : List Met → List ℕ
  added ms = joined (layer_added ls s.edges) ms

  -- the layers with the meetings ms
  abbrev all : List Met → List ℕ
  all ms = ls ++ (cs ++ added ms)

  -- where a meeting brings a point, the layer stands under its number
  abbrev At : List Met → Met → Type 0
  At ms m = length m.point ≡ 2 → (get_or m.nodes 0 0 < length (all ms)) × (get_or (all ms) (get_or m.nodes 0 0) 0 ≡ get_or ls (edge_at s.edges m.subject_edge).0 0)

  record AllAt (ms : List Met) : Type 0 where
    pairs : Pairs ms
    at : (m : Met) → Memᴰ m ms → At ms m

  all_append : (ms ns : List Met) → all (ms ++ ns) ≡ all ms ++ added ns
  all_append ms ns =
      ap (λ (v : List ℕ). ls ++ (cs ++ v)) (joined_append (layer_added ls s.edges) ms ns)
      ∙ ap (λ (v : List ℕ). ls ++ v) (sym (append_assoc cs (added ms) (added ns))) ∙ sym (append_assoc ls (cs ++ added ms) (added ns))

  stays : (ms ns : List Met) (m : Met) → At ms m → At (ms ++ ns) m
  stays ms ns m h p =
      let r = h p in
      let e = all_append ms ns in (
        omega (arith, r.0, ap length e, length-append (all ms) (added ns)),
        ap (λ (v : List ℕ). get_or v (get_or m.nodes 0 0) 0) e ∙ get_or-append (all ms) (added ns) 0 (get_or m.nodes 0 0) r.0 ∙ r.1,
      )

  -- the next number is behind all of them
  next_is : (ms : List Met) → Pairs ms → next_node g coords s c ms ≡ length (all ms) + 0
  next_is ms h = omega (arith, lent, length-append ls (cs ++ added ms), length-append cs (added ms), layers_added ls s.edges ms h)

  new_at : (ms : List Met) (i j : ℕ) (x y : Float) → Pairs ms
      → (let m : Met = record { subject_edge = i; cutter_edge = j; nodes = next_node g coords s c ms ∷ []; point = x ∷ y ∷ [] } in At (ms ++ m ∷ []) m)
  unfolding joined
  new_at ms i j x y h p =
      let next = next_node g coords s c ms in
      let m : Met = record { subject_edge = i; cutter_edge = j; nodes = next ∷ []; point = x ∷ y ∷ [] } in
      let layer = get_or ls (edge_at s.edges i).0 0 in
      let e : all (ms ++ m ∷ []) ≡ all ms ++ layer ∷ [] = all_append ms (m ∷ []) in (
        omega (arith, next_is ms h, ap length e, length-append (all ms) (layer ∷ [])),
        ap (λ (v : List ℕ). get_or v next 0) e ∙ ap (λ (k : ℕ). get_or (all ms ++ layer ∷ []) k 0) (next_is ms h) ∙ get_or-append-add (all ms) (layer ∷ []) 0 0,
      )

  kept : PairKeeps g coords s c AllAt
  kept i j ms r k e h = record { pairs = pairs_append ms (news r) h.pairs (pairs_recorded i j _ _ _ r); at = λ m q. go m (Memᴰ.append_cases ms q) }
    where
      news : Meeting → List Met
      news x = recorded i j (next_node g coords s c ms) (edge_at s.edges i) (edge_at c.edges j) x

      by : (x : Meeting) (m : Met) → Memᴰ m (news x) → At (ms ++ news x) m
      by Apart m q = absurd (Memᴰ.not-nil q)
      by (Existing p) m q = only (At (ms ++ news (Existing p))) _ (λ z. absurd (omega (arith, z))) m q
      by (New x y) m q = only (At (ms ++ news (New x y))) _ (new_at ms i j x y h.pairs) m q
      by (Overlap p t) m q = only (At (ms ++ news (Overlap p t))) _ (λ z. absurd (omega (arith, z))) m q

      go : (m : Met) → Memᴰ m ms ⊎ Memᴰ m (news r) → At (ms ++ news r) m
      go m (inl q) = stays ms (news r) m (h.at m q)
      go m (inr q) = by r m q

  pub met_at : (m : Met) → Memᴰ m (meetings g coords s c) → length m.point ≡ 2
      → (let ls' : List ℕ = ls ++ (cs ++ joined (layer_added ls s.edges) (meetings g coords s c)) in
      (get_or m.nodes 0 0 < length ls') × (get_or ls' (get_or m.nodes 0 0) 0 ≡ get_or ls (edge_at s.edges m.subject_edge).0 0))
  met_at = (meetings_keep g coords s c AllAt (record { pairs = tt; at = λ m q. absurd (Memᴰ.not-nil q) }) kept).at

scene_at : (o : Settings) (s c : Mesh) (w : ℕ) → Passed o s c w → (m : Met) → Memᴰ m (scene_for o s c).met → length m.point ≡ 2
    → (let ls : List ℕ = layers_of (scene_for o s c) s c in
    (get_or m.nodes 0 0 < length ls) × (get_or ls (get_or m.nodes 0 0) 0 ≡ get_or s.layers (edge_at (scene_for o s c).subject.edges m.subject_edge).0 0))
unfolding scene_of layers_of
scene_at o s c w ok =
    met_at o.grid (s.coords ++ c.coords) (subject_net s) (cutter_net (eqb o.op 5) s c) s.layers c.layers
    (omega (arith, length-append s.coords c.coords, ok.subject.even, ok.cutter.even, ok.subject.layers_long, ok.cutter.layers_long))

-- "A new point takes the layer of the subject edge's first node": the point of a meeting, by its node.
pub point_layer : (o : Settings) (s c : Mesh) (l : Lists) → Accepted o s c l → (m : Met) → Memᴰ m (scene_for o s c).met → length m.point ≡ 2
    → get_or (overlay_of o s c l).lists.layers (get_or m.nodes 0 0) 0 ≡ get_or s.layers (edge_at (scene_for o s c).subject.edges m.subject_edge).0 0
unfolding answered_with written
point_layer o s c l h m q p =
    let t = accepted ours o s c l h in
    let r = scene_at o s c (length l.work) (passed o s c (length l.work) t.entry) m q p in
    ap (λ (x : Result). get_or x.lists.layers (get_or m.nodes 0 0) 0) t.answer ∙ front_in l.layers (layers_of (scene_for o s c) s c) (get_or m.nodes 0 0) 0 r.0 ∙ r.1
