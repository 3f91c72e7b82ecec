-- The node entries of pieces, and where they stand in an answer's lists. Assumes nothing.
use mathlib.Core.Path.{◌≡◌, refl, sym, ap, ◌∙◌, subst}
use mathlib.Core.Logic.{◌⊎◌, inl, inr}
use mathlib.Core.List.Memᴰ
use mathlib.Core.List.{
  List,
  [],
  ◌∷◌,
  ◌++◌,
  map,
  Memᴰ,
}
use Prim.Native.Nat.{ℕ, ◌+◌, ◌<◌}
use native.Mathlib.Omega.{arith}
use lib.ListN.{length, get_or, drop, length-append, length-map}
use Rattle.lists.specs.Regions.{front}
use Rattle.lists.proofs.Gather.{in_list, mem_at}
use Rattle.lists.proofs.Regions.{front_in}
use Rattle.cutting.specs.Outcome.{flat, stops}
use Rattle.settings.specs.declared.Settings.{Settings}
use Rattle.entry.specs.Mesh.{Mesh, prior}
use Rattle.rules.specs.Operations.{Piece, listing}
use Rattle.rules.specs.Overlay.{Lists, answered, answered_with, written}
use Rattle.new_points.specs.Counted.{entry_count, Entered}

-- ---- the entries of pieces

abbrev pub entries_of : List Piece → List ℕ
entries_of ps = flat (map (λ p. p.nodes) ps)

-- an entry is a corner of a piece
pub entry_is_corner : (ps : List Piece) (n : ℕ) → Memᴰ n (entries_of ps) → (p : Piece) × Memᴰ p ps × Memᴰ n p.nodes
unfolding flat
entry_is_corner [] n m = absurd (Memᴰ.not-nil m)
entry_is_corner (p ∷ ps) n m = go (entry_is_corner ps n) (Memᴰ.append_cases p.nodes m)
  where
    go : (Memᴰ n (entries_of ps) → (q : Piece) × Memᴰ q ps × Memᴰ n q.nodes)
        → Memᴰ n p.nodes ⊎ Memᴰ n (entries_of ps) → (q : Piece) × Memᴰ q (p ∷ ps) × Memᴰ n q.nodes
    go ih (inl h) = (p, Memᴰ.head refl, h)
    go ih (inr h) = let r = ih h in (r.0, Memᴰ.tail r.1, r.2)

-- and a corner of a piece an entry
pub corner_is_entry : (ps : List Piece) (p : Piece) (n : ℕ) → Memᴰ p ps → Memᴰ n p.nodes → Memᴰ n (entries_of ps)
unfolding flat
corner_is_entry [] p n m h = absurd (Memᴰ.not-nil m)
corner_is_entry (q ∷ qs) p n m h = go (λ k. corner_is_entry qs p n k h) (Memᴰ.cases_cons m)
  where
    go : (Memᴰ p qs → Memᴰ n (entries_of qs)) → (p ≡ q) ⊎ Memᴰ p qs → Memᴰ n (q.nodes ++ entries_of qs)
    go ih (inl e) = Memᴰ.append_left (entries_of qs) (subst (λ (x : Piece). Memᴰ n x.nodes) e h)
    go ih (inr k) = Memᴰ.append_right q.nodes (ih k)

-- ---- in an answer's lists

-- where the last of some runs ends, the one before the first ending at k
last_stop : (k : ℕ) (runs : List (List ℕ)) (rest : List ℕ) → get_or (k ∷ (stops k runs ++ rest)) (length runs) 0 ≡ k + length (flat runs)
unfolding stops flat
last_stop k [] rest = omega arith
last_stop k (p ∷ ps) rest = last_stop (k + length p) ps rest ∙ (let e : k + length p + length (flat ps) ≡ k + length (p ++ flat ps) = omega (arith, length-append p (flat ps)) in e)

-- the first starting at 0
all_stop : (runs : List (List ℕ)) (rest : List ℕ) → prior (stops 0 runs ++ rest) (length runs) ≡ length (flat runs)
unfolding stops flat prior
all_stop [] rest = refl
all_stop (p ∷ ps) rest = last_stop (0 + length p) ps rest ∙ (let e : 0 + length p + length (flat ps) ≡ length (p ++ flat ps) = omega (arith, length-append p (flat ps)) in e)

module _ (o : Settings) (s c : Mesh) (l : Lists) where
  abbrev ps : List Piece
  ps = listing o s c

  entries_counted : entry_count (answered o s c l) ≡ length (entries_of ps)
  unfolding answered_with written front
  entries_counted =
      let runs = map (λ (p : Piece). p.nodes) ps in
      ap (prior (answered o s c l).lists.ends) (sym (length-map ps (λ (p : Piece). p.nodes))) ∙ all_stop runs (drop (length (stops 0 runs)) l.ends)

  entry_at : (i : ℕ) → i < length (entries_of ps) → get_or (answered o s c l).lists.nodes i 0 ≡ get_or (entries_of ps) i 0
  unfolding answered_with written
  entry_at i h = front_in l.nodes (entries_of ps) i 0 h

  -- the entries of the answer's node list are those of the listed pieces
  pub entered_in : (n : ℕ) → Entered (answered o s c l) n → Memᴰ n (entries_of (listing o s c))
  entered_in n (i, h, e) =
      let k : i < length (entries_of ps) = omega (arith, h, entries_counted) in
      subst (λ (x : ℕ). Memᴰ x (entries_of ps)) (sym (entry_at i k) ∙ e) (in_list (entries_of ps) i k 0)

  pub in_entered : (n : ℕ) → Memᴰ n (entries_of (listing o s c)) → Entered (answered o s c l) n
  in_entered n m =
      let r = mem_at (entries_of ps) n m in
      (r.0, omega (arith, r.1, entries_counted), entry_at r.0 r.1 ∙ r.2 0)
