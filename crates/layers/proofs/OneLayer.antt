-- With one layer throughout, all nodes of an answer are of that layer. Assumes nothing.
use mathlib.Core.Path.{◌≡◌, refl, sym, ap, ap₂, ◌∙◌}
use mathlib.Core.Bool.{false}
use mathlib.Core.List.{List, [], ◌∷◌, ◌++◌, Memᴰ}
use Prim.Native.Nat.{ℕ, ◌/◌}
use native.Mathlib.Omega.{arith}
use lib.Dec.{eqb}
use lib.ListN.{length, get_or, replicate, length-append, length-replicate, get_or-replicate}
use Rattle.std.proofs.lemmas.List.{replicate-append-replicate}
use Rattle.lists.specs.Gather.{joined}
use Rattle.lists.proofs.Gather.{in_list}
use Rattle.cutting.specs.Edges.{Edge, edge_at}
use Rattle.lists.specs.Regions.{front}
use Rattle.cutting.specs.Edition.{ours}
use Rattle.settings.specs.declared.Settings.{Settings}
use Rattle.entry.specs.Mesh.{Mesh, node_count}
use Rattle.entry.specs.Refused.{entry_of}
use Rattle.entry.proofs.Passed.{passed}
use Rattle.rules.specs.Neighbours.{subject_net, cutter_net}
use Rattle.rules.specs.Meetings.{Met, scene_of}
use Rattle.rules.specs.Layers.{layer_added, layers_of, InLayer}
use Rattle.rules.specs.Operations.{scene_for}
use Rattle.rules.specs.Overlay.{Lists, Result, answered_with, written, overlay_of}
use Rattle.rules.specs.Demand3.{Accepted}
use Rattle.rules.proofs.Accepts.{accepted}
use Rattle.rules.proofs.Lengths.{layers_long}
use Rattle.coordinates.proofs.Points.{edges_under}
use Rattle.coordinates.proofs.Meetings.{meetings_origin, origin_close}

-- all numbers of a list are k
abbrev All : ℕ → List ℕ → Type 0
All k xs = xs ≡ replicate (length xs) k

all_more : (n k : ℕ) → All k (replicate n k)
all_more n k = ap (λ (m : ℕ). replicate m k) (sym (length-replicate n k))

all_append : (k : ℕ) (xs ys : List ℕ) → All k xs → All k ys → All k (xs ++ ys)
all_append k xs ys a b =
    ap₂ (λ (us vs : List ℕ). us ++ vs) a b ∙ replicate-append-replicate (length xs) (length ys) k ∙ ap (λ (n : ℕ). replicate n k) (sym (length-append xs ys))

all_added : (k : ℕ) (ls : List ℕ) (es : List Edge) (ms : List Met) → ((m : Met) → Memᴰ m ms → get_or ls (edge_at es m.subject_edge).0 0 ≡ k) → All k (joined (layer_added ls es) ms)
unfolding joined
all_added k ls es [] h = refl
all_added k ls es (m ∷ ms) h =
    all_append k (layer_added ls es m) (joined (layer_added ls es) ms) own (all_added k ls es ms (λ n q. h n (Memᴰ.tail q)))
  where
    own : All k (layer_added ls es m)
    own = rw (h m (Memᴰ.head refl)) (all_more (length m.point / 2) k)

module _ (o : Settings) (s c : Mesh) (w k : ℕ) (pass : entry_of o s c w ≡ 0) (es : InLayer k s) (ec : InLayer k c) where
  -- the subject's edges lead between nodes of the subject
  first_in : (m : Met) → Memᴰ m (scene_for o s c).met → get_or s.layers (edge_at (scene_for o s c).subject.edges m.subject_edge).0 0 ≡ k
  unfolding scene_of
  first_in m q =
      let net = subject_net s in
      let close = origin_close o.grid (s.coords ++ c.coords) net (cutter_net (eqb o.op 5) s c) m (meetings_origin o.grid (s.coords ++ c.coords) net (cutter_net (eqb o.op 5) s c) m q) in
      let ends = edges_under false s (passed o s c w pass).subject (edge_at net.edges m.subject_edge) (in_list net.edges m.subject_edge close.subject (0, 0)) in
      ap (λ (ls : List ℕ). get_or ls (edge_at net.edges m.subject_edge).0 0) es ∙ get_or-replicate (node_count s) (edge_at net.edges m.subject_edge).0 k 0 ends.0

  -- So is each node that the answer lists.
  pub all_of_one_layer : layers_of (scene_for o s c) s c ≡ replicate (length (scene_for o s c).coords / 2) k
  unfolding layers_of
  all_of_one_layer =
      let sc = scene_for o s c in
      let more = joined (layer_added s.layers sc.subject.edges) sc.met in
      let all = all_append k s.layers (c.layers ++ more) (in_one s es) (all_append k c.layers more (in_one c ec) (all_added k s.layers sc.subject.edges sc.met first_in)) in
      let long : length (s.layers ++ (c.layers ++ more)) ≡ length sc.coords / 2 = omega (arith, layers_long o s c w (passed o s c w pass)) in
      all ∙ ap (λ (n : ℕ). replicate n k) long
    where
      in_one : (m : Mesh) → InLayer k m → All k m.layers
      in_one m e = e ∙ ap (λ (n : ℕ). replicate n k) (sym (ap length e ∙ length-replicate (node_count m) k))

-- and the answer's list has them in front
pub one_layer_listed : (o : Settings) (s c : Mesh) (l : Lists) (k : ℕ) → Accepted o s c l → InLayer k s → InLayer k c
    → (overlay_of o s c l).lists.layers ≡ front l.layers (replicate (length (scene_for o s c).coords / 2) k)
unfolding answered_with written
one_layer_listed o s c l k h es ec =
    let taken = accepted ours o s c l h in
    ap (λ (r : Result). r.lists.layers) taken.answer ∙ ap (front l.layers) (all_of_one_layer o s c (length l.work) k taken.entry es ec)
