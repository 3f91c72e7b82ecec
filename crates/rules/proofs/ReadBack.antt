-- An answer's pieces can be read back from its lists, as a mesh's cells are. Assumes nothing.
use mathlib.Core.Path.{◌≡◌, refl, ap, ap₂, ◌∙◌}
use mathlib.Core.List.{List, [], ◌∷◌, ◌++◌, map, append_assoc}
use Prim.Native.Nat.{ℕ, zero, suc, ◌+◌, ◌-◌, ◌≤◌, ◌<◌}
use native.Mathlib.Omega.{arith}
use lib.ListN.{length, get_or, take, drop, length-map, get_or-map}
use lib.Seq.{take_at, drop-append-add}
use Rattle.lists.specs.Regions.{front, run}
use Rattle.cutting.specs.Outcome.{flat, stops}
use Rattle.cutting.specs.Edition.{ours}
use Rattle.settings.specs.declared.Settings.{Settings}
use Rattle.entry.specs.Mesh.{Mesh, prior}
use Rattle.rules.specs.Mesh.{cell_at, side_number}
use Rattle.rules.specs.Operations.{Piece, listing}
use Rattle.rules.specs.Overlay.{Lists, overlay_of, answered, answered_with, written}
use Rattle.rules.specs.Demand3.{Accepted, WrittenAt}
use Rattle.lists.proofs.Regions.{front_in}
use Rattle.lists.proofs.Gather.{get_or_any}
use Rattle.rules.proofs.Accepts.{accepted}

-- where run j starts, the first at k
abbrev start : ℕ → List ℕ → ℕ → ℕ
start k es zero = k
start k es (suc j) = get_or es j 0

start_shift : (k k' : ℕ) (es : List ℕ) (j : ℕ) → start k (k' ∷ es) (suc j) ≡ start k' es j
start_shift k k' es zero = refl
start_shift k k' es (suc j) = refl

start_above : (k : ℕ) (ps : List (List ℕ)) (rest : List ℕ) (j : ℕ) → j < length ps → k ≤ start k (stops k ps ++ rest) j
unfolding stops
start_above k [] rest j h = absurd (omega (arith, h))
start_above k (p ∷ ps) rest zero h = omega arith
start_above k (p ∷ ps) rest (suc j) h =
    let ih = start_above (k + length p) ps rest j (omega (arith, h)) in
    omega (arith, ih, start_shift k (k + length p) (stops (k + length p) ps ++ rest) j)

-- run j stands between its start and its end
run_back : (k : ℕ) (ps : List (List ℕ)) (es tail : List ℕ) (j : ℕ) → j < length ps
    → take (get_or (stops k ps ++ es) j 0 - start k (stops k ps ++ es) j) (drop (start k (stops k ps ++ es) j - k) (flat ps ++ tail)) ≡ get_or ps j []
unfolding stops flat
run_back k [] es tail j h = absurd (omega (arith, h))
run_back k (p ∷ ps) es tail zero h =
    let none : k - k ≡ 0 = omega arith in
    let size : k + length p - k ≡ length p = omega arith in
    ap₂ (λ (a b : ℕ). take a (drop b (p ++ flat ps ++ tail))) size none ∙ ap (take (length p)) (append_assoc p (flat ps) tail) ∙ take_at p (flat ps ++ tail) (length p) refl
run_back k (p ∷ ps) es tail (suc j) h =
    let k' = k + length p in
    let below = start_above k' ps es j (omega (arith, h)) in
    let at : start k (k' ∷ (stops k' ps ++ es)) (suc j) ≡ start k' (stops k' ps ++ es) j = start_shift k k' (stops k' ps ++ es) j in
    let off : start k' (stops k' ps ++ es) j - k ≡ length p + (start k' (stops k' ps ++ es) j - k') = omega (arith, below) in
    ap (λ (a : ℕ). take (get_or (stops k' ps ++ es) j 0 - a) (drop (a - k) (p ++ flat ps ++ tail))) at
    ∙ ap₂ (λ (b : ℕ) (l : List ℕ). take (get_or (stops k' ps ++ es) j 0 - start k' (stops k' ps ++ es) j) (drop b l)) off (append_assoc p (flat ps) tail)
    ∙ ap (take (get_or (stops k' ps ++ es) j 0 - start k' (stops k' ps ++ es) j)) (drop-append-add p (flat ps ++ tail) (start k' (stops k' ps ++ es) j - k'))
    ∙ run_back k' ps es tail j (omega (arith, h))

-- a field of the pieces at the front of a list
field_back : {A : Type 0} (f : Piece → A) (ps : List Piece) (w : List A) (k : ℕ) (d : Piece) (z : A) → k < length ps → get_or (front w (map f ps)) k z ≡ f (get_or ps k d)
field_back f ps w k d z h =
    let size : k < length (map f ps) = omega (arith, h, length-map ps f) in
    front_in w (map f ps) k z size ∙ get_or_any (map f ps) k z (f d) size ∙ get_or-map f ps k d

prior_start : (es : List ℕ) (j : ℕ) → prior es j ≡ start 0 es j
unfolding prior
prior_start es zero = refl
prior_start es (suc j) = refl

-- the answer at k is the listing's piece k
module _ (o : Settings) (s c : Mesh) (l : Lists) where
  answer_at : (k : ℕ) → k < length (listing o s c) → (d : Piece) → WrittenAt (answered o s c l) k (get_or (listing o s c) k d)
  unfolding answered_with written cell_at run front
  answer_at k h d = record {
    below = h;
    kind = field_back (λ p. p.kind) ps l.kinds k d 0 h;
    family = field_back (λ p. p.family) ps l.families k d 0 h;
    mesh = field_back (λ p. side_number p.mesh) ps l.meshes k d 0 h;
    cell = field_back (λ p. p.cell) ps l.cells k d 0 h;
    nodes =
        ap (λ (a : ℕ). take (get_or ends k 0 - a) (drop a nodes)) (prior_start ends k)
        ∙ ap (λ (a : ℕ). take (get_or ends k 0 - start 0 ends k) (drop a nodes)) zero_off
        ∙ run_back 0 runs (drop (length (stops 0 runs)) l.ends) (drop (length (flat runs)) l.nodes) k size
        ∙ get_or_any runs k [] d.nodes size
        ∙ get_or-map (λ (p : Piece). p.nodes) ps k d;
  }
    where
      ps : List Piece
      ps = listing o s c

      runs : List (List ℕ)
      runs = map (λ p. p.nodes) ps

      ends : List ℕ
      ends = front l.ends (stops 0 runs)

      nodes : List ℕ
      nodes = front l.nodes (flat runs)

      size : k < length runs
      size = omega (arith, h, length-map ps (λ (p : Piece). p.nodes))

      zero_off : start 0 ends k ≡ start 0 ends k - 0
      zero_off = omega arith

  pub answered_pieces : (answered o s c l).pieces ≡ length (listing o s c)
  unfolding answered_with
  answered_pieces = refl

  pub read_back : Accepted o s c l → (k : ℕ) → k < length (listing o s c) → (d : Piece) → WrittenAt (overlay_of o s c l) k (get_or (listing o s c) k d)
  read_back h k b d = rw (accepted ours o s c l h).answer (answer_at k b d)
