-- What it means that an overlay is accepted: its answer, and that no refusal stands in the course of it. Assumes nothing.
use mathlib.Core.Path.{◌≡◌, refl, sym, ap, ◌∙◌}
use mathlib.Core.Bool.{Bool, true, false, cond, not, ◌&&◌, ◌||◌}
use mathlib.Core.List.{List, [], ◌∷◌, ◌++◌, map}
use Prim.Native.Nat.{ℕ, zero, suc, ◌-◌, ◌/◌, ◌≤◌, ◌<◌}
use native.Mathlib.Omega.{arith}
use native.Mathlib.Decide.{dec_le}
use lib.Dec.{leb}
use lib.ListN.{length, replicate}
use Rattle.lists.specs.Gather.{gathered, joined}
use Rattle.cutting.specs.Edges.{Edge, ring, rings}
use Rattle.cutting.specs.Edition.{Edition}
use Rattle.cutting.specs.Cell.{repeats, doubled}
use Rattle.cutting.specs.declared.Slot.{Slot}
use Rattle.cutting.specs.Walk.{Next, more, closed, stuck, broken, walk_with}
use Rattle.cutting.specs.Outcome.{Outcome, refusal, pieces, of_walk, too_many, closes_up, after_walk, cut_outcome_with, copied_outcome_with}
use Rattle.settings.specs.declared.Settings.{Settings}
use Rattle.entry.specs.Mesh.{Mesh}
use Rattle.entry.specs.Refused.{entry_of}
use Rattle.rules.specs.Mesh.{Side, the_subject, the_cutter}
use Rattle.rules.specs.Meetings.{Met, Scene, net_of}
use Rattle.rules.specs.Nodes.{crowded}
use Rattle.rules.specs.Cell.{near_of, treated_by, treated, outcome_with, cell_of}
use Rattle.rules.specs.Operations.{cuts, scene_for, kept_with, over_cells, Piece, outcome_pieces}
use Rattle.rules.specs.Refusals.{Event, meeting, point, piece, stop, of_meeting, of_cell, course_with, first_refusal}
use Rattle.rules.specs.Overlay.{Lists, Result, answered_with, state_with, seen_by, mesh_seen, lists_seen, overlay_with}
use Rattle.rules.specs.Demand3.{AcceptedWith}
use Rattle.rules.proofs.Endings.{Ending, input, state_met, success, ending, input_refused, state_refused, succeeds}

-- ---- an accepted overlay gives the answer, and its state no refusal

pub record Taken (v : Edition) (o : Settings) (s c : Mesh) (l : Lists) : Type 0 where
  pub entry : entry_of (seen_by v o) (mesh_seen v s) (mesh_seen v c) (length (lists_seen v l).work) ≡ 0
  pub answer : overlay_with v o s c l ≡ answered_with v (seen_by v o) (mesh_seen v s) (mesh_seen v c) (lists_seen v l)
  pub state : state_with v (seen_by v o) (mesh_seen v s) (mesh_seen v c) (lists_seen v l) ≡ 0

pub accepted : (v : Edition) (o : Settings) (s c : Mesh) (l : Lists) → AcceptedWith v o s c l → Taken v o s c l
accepted v o s c l h = go (ending v o s c l)
  where
    -- the code of what an overlay comes to
    code : (r : Result) → overlay_with v o s c l ≡ r → r.code ≡ 0
    code r e = ap (λ (x : Result). x.code) (sym e) ∙ h

    go : Ending v o s c l → Taken v o s c l
    go (input n) = absurd (n (code _ (input_refused v o s c l n)))
    go (state_met e n) = absurd (n (code _ (state_refused v o s c l e n)))
    go (success e f) = record { entry = e; answer = succeeds v o s c l e f; state = f }

-- ---- no refusal among events

-- no stop has the number k
abbrev pub Without : ℕ → List Event → Type 0
Without k [] = Unit {0}
Without k (meeting ∷ es) = Without k es
Without k (point ∷ es) = Without k es
Without k (piece n ∷ es) = Without k es
Without k (stop r ∷ es) = (r ≡ k → ⊥) × Without k es

-- there is no stop
abbrev pub Calm : List Event → Type 0
Calm [] = Unit {0}
Calm (meeting ∷ es) = Calm es
Calm (point ∷ es) = Calm es
Calm (piece k ∷ es) = Calm es
Calm (stop r ∷ es) = ⊥

never : {A : Type 0} (n : ℕ) → suc n ≡ 0 → A
never n e = absurd (omega (arith, e))

calm : (es : List Event) (m p q n : ℕ) → Without 0 es → first_refusal m p q n es ≡ 0 → Calm es
unfolding first_refusal
calm [] m p q n h e = tt
calm (meeting ∷ es) zero p q n h e = never 7 e
calm (meeting ∷ es) (suc m) p q n h e = calm es m p q n h e
calm (point ∷ es) m zero q n h e = never 11 e
calm (point ∷ es) m (suc p) q n h e = calm es m p q n h e
calm (piece k ∷ es) m p zero n h e = never 11 e
calm (piece k ∷ es) m p (suc q) n h e = go (leb k n) (λ f. calm es m p q (n - k) h f) e
  where
    go : (t : Bool) → (first_refusal m p q (n - k) es ≡ 0 → Calm es) → (let r : ℕ = elim t [ true ↦ first_refusal m p q (n - k) es | false ↦ 12 ] in r ≡ 0) → Calm es
    go true ih f = ih f
    go false ih f = never 11 f
calm (stop r ∷ es) m p q n h e = h.0 e

without_append : (k : ℕ) (es fs : List Event) → Without k es → Without k fs → Without k (es ++ fs)
without_append k [] fs g h = h
without_append k (meeting ∷ es) fs g h = without_append k es fs g h
without_append k (point ∷ es) fs g h = without_append k es fs g h
without_append k (piece n ∷ es) fs g h = without_append k es fs g h
without_append k (stop r ∷ es) fs g h = (g.0, without_append k es fs g.1 h)

pub calm_left : (es fs : List Event) → Calm (es ++ fs) → Calm es
calm_left [] fs h = tt
calm_left (meeting ∷ es) fs h = calm_left es fs h
calm_left (point ∷ es) fs h = calm_left es fs h
calm_left (piece n ∷ es) fs h = calm_left es fs h
calm_left (stop r ∷ es) fs h = h

pub calm_right : (es fs : List Event) → Calm (es ++ fs) → Calm fs
calm_right [] fs h = h
calm_right (meeting ∷ es) fs h = calm_right es fs h
calm_right (point ∷ es) fs h = calm_right es fs h
calm_right (piece n ∷ es) fs h = calm_right es fs h
calm_right (stop r ∷ es) fs h = absurd h

without_places : (k n : ℕ) → Without k (replicate n point)
without_places k zero = tt
without_places k (suc n) = without_places k n

without_met : (k : ℕ) (ms : List Met) → Without k (joined of_meeting ms)
unfolding joined
without_met k [] = tt
without_met k (m ∷ ms) = without_append k (replicate (length m.point / 2) point) (joined of_meeting ms) (without_places k (length m.point / 2)) (without_met k ms)

without_nine : (k : ℕ) (t : Bool) → (9 ≡ k → ⊥) → Without k (cond t (stop 9 ∷ []) [])
without_nine k true h = (h, tt)
without_nine k false h = tt

without_lists : (k : ℕ) (ps : List Piece) → Without k (map (λ p. piece (length p.nodes)) ps)
without_lists k [] = tt
without_lists k (p ∷ ps) = without_lists k ps

without_gathered : (k n : ℕ) (f : ℕ → List Event) → ((i : ℕ) → i < n → Without k (f i)) → Without k (gathered n f)
unfolding gathered
without_gathered k zero f h = tt
without_gathered k (suc n) f h = without_append k (gathered n f) (f n) (without_gathered k n f (λ i l. h i (omega (arith, l)))) (h n (omega arith))

pub calm_gathered : (n : ℕ) (f : ℕ → List Event) → Calm (gathered n f) → (i : ℕ) → i < n → Calm (f i)
unfolding gathered
calm_gathered zero f h i k = absurd (omega (arith, k))
calm_gathered (suc n) f h i k = go (dec_le (suc i) n) (λ l. calm_gathered n f (calm_left (gathered n f) (f n) h) i l)
  where
    go : Dec (suc i ≤ n) → (i < n → Calm (f i)) → Calm (f i)
    go (yes l) ih = ih l
    go (no l) ih =
        let same : i ≡ n = omega (arith, k, l) in
        rw same (calm_right (gathered n f) (f n) h)

-- ---- a cell's outcome: a refusal is 19, 10 or 11, and where there is none the walk closed

abbrev pub Sound : Outcome → Type 0
Sound (refusal r) = r ≡ 0 → ⊥
Sound (pieces ps) = Unit {0}

abbrev pub Made : Outcome → Type 0
Made (refusal r) = ⊥
Made (pieces ps) = Unit {0}

pub sound_cut : (v : Edition) (outline : List Edge) (t : List Slot) → Sound (cut_outcome_with v outline t)
unfolding cut_outcome_with
sound_cut v outline t = go (v.once && repeats outline) (too_many (length t)) (not v.once && doubled t) (walk_with v.turning outline t)
  where
    done : (ps : List (List ℕ)) (b : Bool) → Sound (cond b (pieces ps) (refusal 11))
    done ps true = tt
    done ps false = never 10

    go : (a b u : Bool) (x : Next) → Sound (cond a (refusal 19) (cond b (refusal 10) (after_walk outline u (of_walk x))))
    go true b u x = never 18
    go false true u x = never 9
    go false false u (closed ps) = done ps (u || closes_up outline (rings ps))
    go false false u stuck = never 10
    go false false u broken = never 10
    go false false u (more s) = never 10

pub sound_copy : (once : Bool) (cell : List ℕ) → Sound (copied_outcome_with once cell)
sound_copy once cell = go (once && repeats (ring cell))
  where
    go : (a : Bool) → Sound (cond a (refusal 19) (pieces (cell ∷ [])))
    go true = never 18
    go false = tt

pub sound : (v : Edition) (sc : Scene) (w : Side) (i : ℕ) → Sound (outcome_with v sc w i)
unfolding treated
sound v sc w i = go (near_of sc w i)
  where
    go : (js : List ℕ) → Sound ((treated_by sc w i js).outcome v)
    go [] = sound_copy v.once (cell_of sc w i)
    go (j ∷ js) = sound_cut v (treated_by sc w i (j ∷ js)).outline ((treated_by sc w i (j ∷ js)).table v.once)

-- where there is no refusal the outcome is its pieces
pub made_is : (x : Outcome) → Made x → x ≡ pieces (outcome_pieces x)
made_is (refusal r) h = absurd h
made_is (pieces ps) h = refl

-- ---- every cell that an accepted overlay cuts has pieces

sound_not : (x : Outcome) → Sound x → x ≡ refusal 0 → ⊥
sound_not (refusal r) h e = h cc
sound_not (pieces ps) h e = let z : ◌≡◌ {A = ℕ} 1 0 = cc in never 0 z

without_cell : (k : ℕ) (x : Outcome) (ps : List Piece) → (x ≡ refusal k → ⊥) → Without k (of_cell x ps)
without_cell k (refusal r) ps h = (λ e. h (ap refusal e), tt)
without_cell k (pieces qs) ps h = without_lists k ps

made_cell : (x : Outcome) (ps : List Piece) → Calm (of_cell x ps) → Made x
made_cell (refusal r) ps h = h
made_cell (pieces qs) ps h = tt

module _ (v : Edition) (o : Settings) (s c : Mesh) where
  abbrev sc : Scene
  sc = scene_for o s c

  abbrev cut : Side → ℕ → List Event
  cut w i = of_cell (outcome_with v sc w i) (kept_with v sc w o.op i)

  without_over : (k : ℕ) (w : Side) (t : Bool) → (t ≡ true → (i : ℕ) → i < length (net_of sc w).cells → Without k (cut w i))
      → Without k (cond t (gathered (length (net_of sc w).cells) (cut w)) [])
  without_over k w true h = without_gathered k (length (net_of sc w).cells) (cut w) (h refl)
  without_over k w false h = tt

  -- where no cell that is cut is refused with the number k, other than 9, no stop has it
  pub without_course : (k : ℕ) → (9 ≡ k → ⊥) → ((w : Side) → cuts o.op w ≡ true → (i : ℕ) → i < length (net_of sc w).cells → outcome_with v sc w i ≡ refusal k → ⊥)
      → Without k (course_with v o s c)
  unfolding course_with
  without_course k nine h =
      without_append k (replicate (length (s.coords ++ c.coords) / 2) point ++ joined of_meeting sc.met ++ cond (crowded sc) (stop 9 ∷ []) []) _
      (without_append k (replicate (length (s.coords ++ c.coords) / 2) point ++ joined of_meeting sc.met) _
      (without_append k (replicate (length (s.coords ++ c.coords) / 2) point) _ (without_places k (length (s.coords ++ c.coords) / 2)) (without_met k sc.met))
      (without_nine k (crowded sc) nine))
      (without_append k (over_cells o.op sc the_subject (cut the_subject)) _ (over the_subject) (over the_cutter))
    where
      over : (w : Side) → Without k (over_cells o.op sc w (cut w))
      over w = without_over k w (cuts o.op w) (λ e i l. without_cell k (outcome_with v sc w i) (kept_with v sc w o.op i) (h w e i l))

  made_over : (w : Side) (t : Bool) → t ≡ true → Calm (cond t (gathered (length (net_of sc w).cells) (cut w)) []) → (i : ℕ) → i < length (net_of sc w).cells → Calm (cut w i)
  made_over w true e h i k = calm_gathered (length (net_of sc w).cells) (cut w) h i k
  made_over w false e h i k = never 0 (ap bool_number (sym e))
    where
      bool_number : Bool → ℕ
      bool_number true = 1
      bool_number false = 0

  pub calm_course : (l : Lists) → state_with v o s c l ≡ 0 → Calm (course_with v o s c)
  unfolding state_with
  calm_course l h = calm (course_with v o s c) o.m _ _ _ (without_course 0 (never 8) (λ w e i k. sound_not (outcome_with v sc w i) (sound v sc w i))) h

  pub all_made : (l : Lists) → state_with v o s c l ≡ 0 → (w : Side) → cuts o.op w ≡ true → (i : ℕ) → i < length (net_of sc w).cells → Made (outcome_with v sc w i)
  unfolding course_with
  all_made l h w e i k = made_cell (outcome_with v sc w i) (kept_with v sc w o.op i) (go w e k)
    where
      cells : Calm (over_cells o.op sc the_subject (cut the_subject) ++ over_cells o.op sc the_cutter (cut the_cutter))
      cells = calm_right (replicate (length (s.coords ++ c.coords) / 2) point ++ joined of_meeting sc.met ++ cond (crowded sc) (stop 9 ∷ []) [])
          (over_cells o.op sc the_subject (cut the_subject) ++ over_cells o.op sc the_cutter (cut the_cutter)) (calm_course l h)

      go : (v : Side) → cuts o.op v ≡ true → i < length (net_of sc v).cells → Calm (cut v i)
      go the_subject f j = made_over the_subject (cuts o.op the_subject) f
          (calm_left (over_cells o.op sc the_subject (cut the_subject)) (over_cells o.op sc the_cutter (cut the_cutter)) cells) i j
      go the_cutter f j = made_over the_cutter (cuts o.op the_cutter) f (calm_right (over_cells o.op sc the_subject (cut the_subject)) (over_cells o.op sc the_cutter (cut the_cutter)) cells) i j
