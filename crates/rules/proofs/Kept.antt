-- W1, W14, W6 and W7: which overlays keep the answer that they had before. Assumes nothing.
use mathlib.Core.Path.{◌≡◌, refl, sym, ap, ap₂, ◌∙◌, subst}
use mathlib.Core.Logic.{◌⊎◌, inl, inr}
use mathlib.Core.Bool.{Bool, true, false, cond}
use mathlib.Core.List.{List, [], ◌∷◌, ◌++◌, append_assoc}
use Prim.Native.Nat.{ℕ, zero, suc, ◌-◌, ◌/◌, ◌≤◌, ◌<◌}
use native.Mathlib.Omega.{arith}
use native.Mathlib.Decide.{dec_le}
use lib.Dec.{leb}
use lib.ListN.{length, replicate, length-append}
use Rattle.lists.specs.Gather.{gathered, joined}
use Rattle.cutting.specs.Edition.{Edition, base}
use Rattle.cutting.specs.Cell.{doubled}
use Rattle.cutting.specs.Outcome.{Outcome, refusal}
use Rattle.cutting.proofs.Turning.{outcome_turned}
use Rattle.cutting.proofs.Before.{outcome_kept, copy_kept}
use Rattle.std.specs.Prelude.{None}
use Rattle.grid.specs.Grid.{Grid}
use Rattle.settings.specs.declared.Settings.{Settings}
use Rattle.entry.specs.Mesh.{Mesh}
use Rattle.entry.specs.Refused.{entry_of}
use Rattle.rules.specs.Mesh.{Side, the_subject, the_cutter, other}
use Rattle.rules.specs.Meetings.{Scene, net_of}
use Rattle.rules.specs.Layers.{InLayer}
use Rattle.rules.specs.Nodes.{crowded}
use Rattle.rules.specs.Cell.{darts_of, near_edges, near_of, treated_by, treated, outcome_with, table_with, cell_of}
use Rattle.rules.specs.Operations.{cuts, scene_for, kept_with, over_cells, doubled_cells}
use Rattle.rules.specs.Refusals.{Event, meeting, point, piece, stop, of_meeting, of_cell, course_with, first_refusal}
use Rattle.rules.specs.Overlay.{Lists, Result, result_of, cleared, answered_with, state_with, seen_by, overlay_with, overlay_of, but_layers}
use Rattle.rules.specs.Demand3.{AcceptedWith}
use Rattle.rules.proofs.Editions.{third, cut_as, answer_as, state_as, cell_as}
use Rattle.rules.proofs.OneLayer.{result_one_layer}
use Rattle.rules.proofs.Endings.{told, overlay_told, Ending, input, state_met, success, ending, input_refused, state_refused, succeeds}
use Rattle.rules.proofs.Accepts.{Made, all_made, accepted}

-- an edition, with layers
abbrev layered : Edition → Edition
layered v = record { turning = v.turning; once = v.once; grids = v.grids; layers = true }

module _ (u₀ v₀ : Edition) (o : Settings) (s c : Mesh) (l : Lists) where
  abbrev u : Edition
  u = layered u₀

  abbrev v : Edition
  v = layered v₀

  -- where both editions see the settings o, and layers
  overlay_as : ((w : Side) → cuts o.op w ≡ true → (i : ℕ) → i < length (net_of (scene_for o s c) w).cells
      → outcome_with u (scene_for o s c) w i ≡ outcome_with v (scene_for o s c) w i)
      → (x : Settings) → seen_by u x ≡ o → seen_by v x ≡ o → third u v o s c l u ≡ third u v o s c l v → overlay_with u x s c l ≡ overlay_with v x s c l
  overlay_as same x a b e =
      overlay_told u x s c l
      ∙ ap (λ (y : Settings). told l (entry_of y s c (length l.work)) (state_with u y s c l) (answered_with u y s c l)) a
      ∙ ap₂ (told l (entry_of o s c (length l.work))) (state_as u v o s c l same) (answer_as u v o s c l same e)
      ∙ sym (ap (λ (y : Settings). told l (entry_of y s c (length l.work)) (state_with v y s c l) (answered_with v y s c l)) b)
      ∙ sym (overlay_told v x s c l)

-- ---- events that are the same up to a stop 11

-- es goes as far as a stop 11, and fs as far as there the same way
record Parted (es fs : List Event) : Type 0 where
  common : List Event
  left : List Event
  right : List Event
  here : es ≡ common ++ stop 11 ∷ left
  there : fs ≡ common ++ right

abbrev Until : List Event → List Event → Type 0
Until es fs = (es ≡ fs) ⊎ Parted es fs

until_append : (es fs es' fs' : List Event) → Until es fs → Until es' fs' → Until (es ++ es') (fs ++ fs')
until_append es fs es' fs' (inl e) (inl e') = inl (ap₂ (λ (x y : List Event). x ++ y) e e')
until_append es fs es' fs' (inl e) (inr d) = inr (record {
  common = es ++ d.common;
  left = d.left;
  right = d.right;
  here = ap (λ (x : List Event). es ++ x) d.here ∙ sym (append_assoc es d.common (stop 11 ∷ d.left));
  there = ap₂ (λ (x y : List Event). x ++ y) (sym e) d.there ∙ sym (append_assoc es d.common d.right);
})
until_append es fs es' fs' (inr d) h = inr (record {
  common = d.common;
  left = d.left ++ es';
  right = d.right ++ fs';
  here = ap (λ (x : List Event). x ++ es') d.here ∙ append_assoc d.common (stop 11 ∷ d.left) es';
  there = ap (λ (x : List Event). x ++ fs') d.there ∙ append_assoc d.common d.right fs';
})

until_gathered : (n : ℕ) (f g : ℕ → List Event) → ((i : ℕ) → Until (f i) (g i)) → Until (gathered n f) (gathered n g)
unfolding gathered
until_gathered zero f g h = inl refl
until_gathered (suc n) f g h = until_append (gathered n f) (gathered n g) (f n) (g n) (until_gathered n f g h) (h n)

-- what is refused before a stop 11 is refused whatever comes in its place
first_before : (ds bs cs : List Event) (m p q n : ℕ) → (first_refusal m p q n (ds ++ stop 11 ∷ bs) ≡ 11 → ⊥)
    → first_refusal m p q n (ds ++ cs) ≡ first_refusal m p q n (ds ++ stop 11 ∷ bs)
unfolding first_refusal
first_before [] bs cs m p q n h = absurd (h refl)
first_before (meeting ∷ ds) bs cs zero p q n h = refl
first_before (meeting ∷ ds) bs cs (suc m) p q n h = first_before ds bs cs m p q n h
first_before (point ∷ ds) bs cs m zero q n h = refl
first_before (point ∷ ds) bs cs m (suc p) q n h = first_before ds bs cs m p q n h
first_before (piece k ∷ ds) bs cs m p zero n h = refl
first_before (piece k ∷ ds) bs cs m p (suc q) n h = go (leb k n) (λ f. first_before ds bs cs m p q (n - k) f) h
  where
    rest : List Event → ℕ
    rest es = first_refusal m p q (n - k) (ds ++ es)

    by : Bool → List Event → ℕ
    by t es = elim t [ true ↦ rest es | false ↦ 12 ]

    go : (t : Bool) → ((rest (stop 11 ∷ bs) ≡ 11 → ⊥) → rest cs ≡ rest (stop 11 ∷ bs)) → (by t (stop 11 ∷ bs) ≡ 11 → ⊥) → by t cs ≡ by t (stop 11 ∷ bs)
    go true ih f = ih f
    go false ih f = refl
first_before (stop r ∷ ds) bs cs m p q n h = refl

first_until : (es fs : List Event) (m p q n : ℕ) → Until es fs → (first_refusal m p q n es ≡ 11 → ⊥) → first_refusal m p q n fs ≡ first_refusal m p q n es
first_until es fs m p q n (inl e) h = ap (first_refusal m p q n) (sym e)
first_until es fs m p q n (inr d) h =
    let first = first_refusal m p q n in
    ap first d.there ∙ first_before d.common d.left d.right m p q n (λ e. h (ap first d.here ∙ e)) ∙ ap first (sym d.here)

-- ---- W1: a walk may turn back, or not

cell_turned : (once grids : Bool) (sc : Scene) (w : Side) (i : ℕ)
    → let by : Bool → Outcome = λ turning. outcome_with (record { turning = turning; once = once; grids = grids; layers = true }) sc w i in (by false ≡ refusal 11) ⊎ (by true ≡ by false)
unfolding treated
cell_turned once grids sc w i = go (near_of sc w i)
  where
    by : Bool → List ℕ → Outcome
    by turning js = (treated_by sc w i js).outcome (record { turning = turning; once = once; grids = grids; layers = true })

    go : (js : List ℕ) → (by false js ≡ refusal 11) ⊎ (by true js ≡ by false js)
    go [] = inr refl
    go (j ∷ js) = outcome_turned (treated_by sc w i (j ∷ js)).outline ((treated_by sc w i (j ∷ js)).table once) once grids true

module _ (once grids : Bool) (settings : Settings) (s c : Mesh) (l : Lists) where
  -- with and without turning back
  abbrev forth : Edition
  forth = record { turning = false; once = once; grids = grids; layers = true }

  abbrev back : Edition
  back = record { turning = true; once = once; grids = grids; layers = true }

  -- as both see them
  abbrev o : Settings
  o = seen_by forth settings

  abbrev scene : Scene
  scene = scene_for o s c

  abbrev cut : Edition → Side → ℕ → List Event
  cut v w i = of_cell (outcome_with v scene w i) (kept_with v scene w o.op i)

  cut_until : (w : Side) (i : ℕ) → Until (cut forth w i) (cut back w i)
  cut_until w i = go (cell_turned once grids scene w i)
    where
      go : (outcome_with forth scene w i ≡ refusal 11) ⊎ (outcome_with back scene w i ≡ outcome_with forth scene w i) → Until (cut forth w i) (cut back w i)
      go (inl e) = inr (record { common = []; left = []; right = cut back w i; here = ap (λ (x : Outcome). of_cell x (kept_with forth scene w o.op i)) e; there = refl })
      go (inr e) = inl (sym (cut_as back forth o s c l w i e))

  over_until : (w : Side) → Until (over_cells o.op scene w (cut forth w)) (over_cells o.op scene w (cut back w))
  over_until w = go (cuts o.op w)
    where
      all : Edition → List Event
      all v = gathered (length (net_of scene w).cells) (cut v w)

      go : (t : Bool) → Until (cond t (all forth) []) (cond t (all back) [])
      go true = until_gathered (length (net_of scene w).cells) (cut forth w) (cut back w) (cut_until w)
      go false = inl refl

  courses : Until (course_with forth o s c) (course_with back o s c)
  unfolding course_with
  courses =
      until_append found found (over forth the_subject ++ over forth the_cutter) (over back the_subject ++ over back the_cutter) (inl refl)
      (until_append (over forth the_subject) (over back the_subject) (over forth the_cutter) (over back the_cutter) (over_until the_subject) (over_until the_cutter))
    where
      found : List Event
      found = replicate (length (s.coords ++ c.coords) / 2) point ++ joined of_meeting scene.met ++ cond (crowded scene) (stop 9 ∷ []) []

      over : Edition → Side → List Event
      over v w = over_cells o.op scene w (cut v w)

  states : (state_with forth o s c l ≡ 11 → ⊥) → state_with back o s c l ≡ state_with forth o s c l
  unfolding state_with
  states h = first_until (course_with forth o s c) (course_with back o s c) o.m _ _ _ courses h

  answers : state_with forth o s c l ≡ 0 → answered_with back o s c l ≡ answered_with forth o s c l
  answers h = answer_as back forth o s c l outcomes refl
    where
      outcomes : (w : Side) → cuts o.op w ≡ true → (i : ℕ) → i < length (net_of scene w).cells → outcome_with back scene w i ≡ outcome_with forth scene w i
      outcomes w e i k = go (cell_turned once grids scene w i) (all_made forth o s c l h w e i k)
        where
          go : (outcome_with forth scene w i ≡ refusal 11) ⊎ (outcome_with back scene w i ≡ outcome_with forth scene w i) → Made (outcome_with forth scene w i)
              → outcome_with back scene w i ≡ outcome_with forth scene w i
          go (inl f) made = absurd (subst Made f made)
          go (inr f) made = f

  -- For all settings, meshes and lists: unless the overlay without turning back is refused 11, the one with it gives the same result, that
  -- is the same code, counts and lists.
  pub result_turned : ((overlay_with forth settings s c l).code ≡ 11 → ⊥) → overlay_with back settings s c l ≡ overlay_with forth settings s c l
  result_turned h = go (ending forth settings s c l)
    where
      code : (r : Result) → overlay_with forth settings s c l ≡ r → r.code ≡ 11 → ⊥
      code r e f = h (ap (λ (x : Result). x.code) e ∙ f)

      go : Ending forth settings s c l → overlay_with back settings s c l ≡ overlay_with forth settings s c l
      go (input n) = input_refused back settings s c l n ∙ sym (input_refused forth settings s c l n)
      go (state_met e n) =
          let met = state_refused forth settings s c l e n in
          let same = states (code _ met) in
          state_refused back settings s c l e (λ z. n (sym same ∙ z)) ∙ ap (λ (x : ℕ). result_of x 0 0 0 0 (cleared l)) same ∙ sym met
      go (success e f) =
          let done = succeeds forth settings s c l e f in
          let same = states (λ z. omega (arith, f, z)) in
          succeeds back settings s c l e (same ∙ f) ∙ answers f ∙ sym done

-- ---- W14: an edge is in a table once, or not

-- a cell whose table before names no neighbour twice
cell_undoubled : (turning grids : Bool) (sc : Scene) (w : Side) (i : ℕ) → doubled (table_with sc w i false) ≡ false
    → let by : Bool → Outcome = λ once. outcome_with (record { turning = turning; once = once; grids = grids; layers = true }) sc w i in by true ≡ by false
unfolding treated
cell_undoubled turning grids sc w i clean = go (near_of sc w i) clean
  where
    cell : List ℕ
    cell = cell_of sc w i

    by : Bool → List ℕ → Outcome
    by once js = (treated_by sc w i js).outcome (record { turning = turning; once = once; grids = grids; layers = true })

    go : (js : List ℕ) → doubled ((treated_by sc w i js).table false) ≡ false → by true js ≡ by false js
    go [] h = copy_kept cell h
    go (j ∷ js) h = outcome_kept sc.coords (darts_of sc cell) (near_edges sc (net_of sc (other w)).edges (j ∷ js)) h turning grids true

-- no list among those that make up an empty one has an element
none_either : {A : Type 0} (xs ys : List A) → length (xs ++ ys) ≡ 0 → (length xs ≡ 0) × (length ys ≡ 0)
none_either xs ys h = (omega (arith, h, length-append xs ys), omega (arith, h, length-append xs ys))

none_gathered : {A : Type 0} (n : ℕ) (f : ℕ → List A) → length (gathered n f) ≡ 0 → (i : ℕ) → i < n → length (f i) ≡ 0
unfolding gathered
none_gathered zero f h i k = absurd (omega (arith, k))
none_gathered (suc n) f h i k = go (dec_le (suc i) n) (λ l. none_gathered n f (none_either (gathered n f) (f n) h).0 i l)
  where
    go : Dec (suc i ≤ n) → (i < n → length (f i) ≡ 0) → length (f i) ≡ 0
    go (yes l) ih = ih l
    go (no l) ih =
        let last : i ≡ n = omega (arith, k, l) in
        ap (λ (j : ℕ). length (f j)) last ∙ (none_either (gathered n f) (f n) h).1

module _ (o : Settings) (s c : Mesh) (l : Lists) (none : length (doubled_cells o s c) ≡ 0) where
  abbrev scene₀ : Scene
  scene₀ = scene_for o s c

  undoubled : (w : Side) → cuts o.op w ≡ true → (i : ℕ) → i < length (net_of scene₀ w).cells → doubled (table_with scene₀ w i false) ≡ false
  unfolding doubled_cells
  undoubled w e i k = one (doubled (table_with scene₀ w i false)) (none_gathered (length (net_of scene₀ w).cells) (twice w) (whole w e) i k)
    where
      twice : Side → ℕ → List ℕ
      twice w i = cond (doubled (table_with scene₀ w i false)) (i ∷ []) []

      parts : (length (over_cells o.op scene₀ the_subject (twice the_subject)) ≡ 0) × (length (over_cells o.op scene₀ the_cutter (twice the_cutter)) ≡ 0)
      parts = none_either (over_cells o.op scene₀ the_subject (twice the_subject)) (over_cells o.op scene₀ the_cutter (twice the_cutter)) none

      over : (w : Side) → length (over_cells o.op scene₀ w (twice w)) ≡ 0
      over the_subject = parts.0
      over the_cutter = parts.1

      whole : (w : Side) → cuts o.op w ≡ true → length (gathered (length (net_of scene₀ w).cells) (twice w)) ≡ 0
      whole w e = ap (λ (t : Bool). length (cond t (gathered (length (net_of scene₀ w).cells) (twice w)) [])) (sym e) ∙ over w

      one : (t : Bool) → length (cond t (i ∷ []) []) ≡ 0 → t ≡ false
      one true h = absurd (omega (arith, h))
      one false h = refl

  -- For all settings, meshes and lists: where no cell that the operation cuts was doubled (so no outline repeats), the overlay gives the result that it
  -- gave before W14, that is the same code, counts (the second one W5's on both sides) and lists.
  pub result_undoubled : (turning grids : Bool) (x : Settings) → let by : Bool → Edition = λ once. record { turning = turning; once = once; grids = grids; layers = true } in
      seen_by (by true) x ≡ o → overlay_with (by true) x s c l ≡ overlay_with (by false) x s c l
  result_undoubled turning grids x e =
      overlay_as (record { turning = turning; once = true; grids = grids; layers = true }) (record { turning = turning; once = false; grids = grids; layers = true }) o s c l
      (λ w e i k. cell_undoubled turning grids (scene_for o s c) w i (undoubled w e i k)) x e e (sym none)

-- ---- W6: new points are booked on a grid, or not

-- an edition that sees no grid sees what is set without one
seen_whole : (o : Settings) → o.grid ≡ None → record { op = o.op; m = o.m; grid = None } ≡ o
seen_whole o none = ap (λ (g : Grid). record { op = o.op; m = o.m; grid = g }) (sym none)

module _ (turning once : Bool) (o : Settings) (s c : Mesh) (l : Lists) where
  -- "Without a grid every answer is the one of before": the same code, counts and lists.
  pub result_without_grid : let by : Bool → Edition = λ grids. record { turning = turning; once = once; grids = grids; layers = true } in
      o.grid ≡ None → overlay_with (by true) o s c l ≡ overlay_with (by false) o s c l
  result_without_grid none =
      overlay_as (record { turning = turning; once = once; grids = true; layers = true }) (record { turning = turning; once = once; grids = false; layers = true }) o s c l
      (λ w e i k. cell_as turning once true false true true (scene_for o s c) w i) o refl (seen_whole o none) refl

-- ---- all of them

module _ (o : Settings) (s c : Mesh) (l : Lists) where
  -- "Every overlay answered before keeps its answer": where the overlay without turning back is accepted.
  pub answers_kept : let forth : Edition = record { turning = false; once = true; grids = true; layers = true } in
      AcceptedWith forth o s c l → overlay_of o s c l ≡ overlay_with forth o s c l
  answers_kept h = result_turned true true o s c l (λ e. omega (arith, h, e))

  -- document 01 by itself, with layers
  abbrev base_layered : Edition
  base_layered = record { turning = false; once = false; grids = false; layers = true }

  result_before : o.grid ≡ None → length (doubled_cells o s c) ≡ 0 → ((overlay_with base_layered o s c l).code ≡ 11 → ⊥)
      → overlay_of o s c l ≡ overlay_with base_layered o s c l
  result_before none single h =
      result_without_grid true true o s c l none
      ∙ result_undoubled o s c l single true false o (seen_whole o none)
      ∙ result_turned false false o s c l h

  -- "The Rust stays the measure for cells without repeats", "overlays without a grid are the ones set against the Rust", and "with one layer throughout, the
  -- overlay is still set against the Rust": by document 01 alone, where the overlay has no grid, one layer with room for each point, and no doubled cell,
  -- and isn't refused 11.
  module _ (none : o.grid ≡ None) (k : ℕ) (es : InLayer k s) (ec : InLayer k c) (layers_room : length l.coords / 2 ≤ length l.layers) where
    one_layer : but_layers (overlay_with base_layered o s c l) ≡ but_layers (overlay_with base o s c l)
    one_layer = result_one_layer false false false o s c l k es ec layers_room

    pub result_kept : length (doubled_cells o s c) ≡ 0 → ((overlay_with base o s c l).code ≡ 11 → ⊥) → but_layers (overlay_of o s c l) ≡ but_layers (overlay_with base o s c l)
    result_kept single h = ap but_layers (result_before none single (λ e. h (sym (ap (λ (r : Result). r.code) one_layer) ∙ e))) ∙ one_layer

    -- So an overlay without a grid that document 01 by itself accepts with the third count 0 keeps its answer, whole but for the layers, of which document
    -- 01 has none; the second count is W5's on both sides.
    pub accepted_kept : AcceptedWith base o s c l → (overlay_with base o s c l).doubled ≡ 0 → but_layers (overlay_of o s c l) ≡ but_layers (overlay_with base o s c l)
    unfolding answered_with
    accepted_kept h d =
        let code : (overlay_with base_layered o s c l).code ≡ 0 = ap (λ (r : Result). r.code) one_layer ∙ h in
        let doubled : (overlay_with base_layered o s c l).doubled ≡ 0 = ap (λ (r : Result). r.doubled) one_layer ∙ d in
        result_kept
        (ap (λ (x : Settings). length (doubled_cells x s c)) (sym (seen_whole o none))
        ∙ sym (ap (λ (r : Result). r.doubled) (accepted base_layered o s c l code).answer) ∙ doubled) (λ e. omega (arith, h, e))
