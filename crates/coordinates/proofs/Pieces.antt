-- The corners of pieces are nodes of the scene. Assumes nothing.
use mathlib.Core.Path.{◌≡◌, refl, sym, subst}
use mathlib.Core.Bool.{Bool, true, false, cond, not, ◌&&◌, ◌||◌}
use mathlib.Core.List.{List, [], ◌∷◌, ◌++◌, Memᴰ}
use Prim.Native.Nat.{ℕ, suc, ◌+◌, ◌*◌, ◌<◌}
use lib.Dec.{ltb}
use lib.ListN.{length, get_or}
use lib.Ieee.{Float}
use borrow.Author.Tests.{ltb-true, ltb-false}
use Rattle.lists.specs.Gather.{joined}
use Rattle.lists.proofs.Gather.{in_list}
use Rattle.std.proofs.lemmas.List.{get_or_past}
use Rattle.cutting.specs.Edges.{Edge, edge_at, ring, rings}
use Rattle.cutting.specs.Edition.{Edition, ours}
use Rattle.cutting.specs.Cell.{Laid, or_whole, near_darts, repeats, edge_slots, reverse_mark, table, is_new, new_to, inner_with, stands_before, cell_table_with, doubled}
use Rattle.cutting.specs.declared.Slot.{Slot}
use Rattle.cutting.specs.Walk.{Phase, resting, on_slot, State, Next, more, closed, stuck, broken, walk_steps, starts, walk_from, srcs, dsts, walk_with}
use Rattle.cutting.proofs.Ways.{Way, ends, missing, passes, begins, lost, closes, goes, stops, Led, steps_keep}
use Rattle.cutting.specs.Outcome.{Outcome, refusal, pieces, of_walk, too_many, closes_up, after_walk, cut_outcome_with, copied_outcome_with}
use Rattle.rules.specs.Mesh.{Side, other}
use Rattle.rules.specs.Meetings.{Met, Scene, net_of}
use Rattle.rules.specs.Nodes.{sorted_nodes}
use Rattle.rules.specs.Cell.{laid, treated_by, treated, cell_of, near_of}
use Rattle.rules.specs.Operations.{outcome_pieces, pieces_of}
use Rattle.coordinates.proofs.Points.{Each, each_join, each_none, each_cons, hops_each, Under, Both}
use Rattle.coordinates.proofs.Nodes.{each_joined, each_map, each_sorted, edge_any, key_under, sorted_under, darts_under}

-- ---- a walk only names nodes of its table

module _ (n : ℕ) (some : 0 < n) where
  any_under : (xs : List ℕ) → Each (Under n) xs → (i : ℕ) → get_or xs i 0 < n
  any_under xs h i = pick (ltb i (length xs)) refl
    where
      pick : (b : Bool) → ltb i (length xs) ≡ b → get_or xs i 0 < n
      pick true e = h (get_or xs i 0) (in_list xs i (ltb-true i (length xs) e) 0)
      pick false e = subst (Under n) (sym (get_or_past xs i 0 (ltb-false i (length xs) e))) some

  abbrev Runs : List (List ℕ) → Type 0
  Runs ps = Each (λ (p : List ℕ). Each (Under n) p) ps

  abbrev Fine : Phase → Type 0
  Fine resting = Unit {0}
  Fine (on_slot start mid i) = (start < n) × Each (Under n) mid

  abbrev Goes : ℕ → State → Type 0
  Goes k s = Runs s.done × Fine s.phase

  abbrev Good : Next → Type 0
  Good (more s) = Unit {0}
  Good (closed ps) = Runs ps
  Good stuck = Unit {0}
  Good broken = Unit {0}

  module _ (turning : Bool) (k : ℕ) (src dst : List ℕ) (hs : Each (Under n) src) (hd : Each (Under n) dst) where
    step_good : (m : ℕ) {s : State} {t : Next} → Way turning k src dst s t → Goes (suc m) s → Led Goes Good m t
    step_good m ends h = h.0
    step_good m (missing l) h = tt
    step_good m (passes i< e) h = (h.0, tt)
    step_good m (begins {i = i} i< e) h = (h.0, (any_under src hs i, each_none (Under n)))
    step_good m (lost l) h = tt
    step_good m (closes {done = done} {start = start} {mid = mid} r< back) h = (
      each_join done ((start ∷ mid) ∷ []) h.0
          (each_cons (start ∷ mid) [] (each_cons start mid h.1.0 h.1.1) (each_none (λ (p : List ℕ). Each (Under n) p))),
      tt,
    )
    step_good m (goes {start = start} {i = i} {mid = mid} r< apart found j<) h =
        (h.0, (h.1.0, each_join mid (get_or dst i 0 ∷ []) h.1.1 (each_cons (get_or dst i 0) [] (any_under dst hd i) (each_none (Under n)))))
    step_good m (stops r< apart none) h = tt

    steps_good : (m : ℕ) (s : State) → Goes m s → Good (walk_steps turning k src dst m s)
    steps_good = steps_keep turning k src dst Goes Good (λ m s t w h. step_good m w h) (λ s h. tt)

  -- ---- a table's slots

  abbrev SlotUnder : Slot → Type 0
  SlotUnder s = (s.src < n) × (s.dst < n)

  slots_under : (back : Bool) (es : List Edge) → Each (Both n) es → Each SlotUnder (edge_slots back es)
  unfolding edge_slots
  slots_under back [] h = each_none SlotUnder
  slots_under back (e ∷ es) h =
      let u = h e (Memᴰ.head refl) in
      each_cons _ _ (u.0, u.1) (each_cons _ _ (u.1, u.0) (slots_under back es (λ f m. h f (Memᴰ.tail m))))

  new_under : (t : List Slot) (es : List Edge) → Each (Both n) es → Each (Both n) (new_to t es)
  unfolding new_to
  new_under t [] h = each_none (Both n)
  new_under t (e ∷ es) h =
      pick (is_new t e) (new_under (edge_slots false (e ∷ []) ++ t) es (λ f m. h f (Memᴰ.tail m))) (new_under t es (λ f m. h f (Memᴰ.tail m)))
    where
      pick : (b : Bool) → Each (Both n) (new_to (edge_slots false (e ∷ []) ++ t) es) → Each (Both n) (new_to t es)
          → let r : List Edge = elim b [ true ↦ e ∷ new_to (edge_slots false (e ∷ []) ++ t) es | false ↦ new_to t es ] in Each (Both n) r
      pick true i j = each_cons e _ (h e (Memᴰ.head refl)) i
      pick false i j = j

  table_under : (coords : List Float) (outline : List Edge) (near : List Laid) → Each (Both n) outline → Each (λ (l : Laid). Each (Both n) (near_darts l)) near
      → Each SlotUnder (cell_table_with true coords outline near)
  unfolding cell_table_with inner_with table
  table_under coords outline near h k =
      each_sorted SlotUnder (stands_before coords) [] _ (each_none SlotUnder)
      (each_join _ _ (slots_under reverse_mark outline h) (slots_under false _ (new_under (table outline []) (joined near_darts near) (each_joined (Both n) near_darts near k))))

  walk_good : (turning : Bool) (outline : List Edge) (t : List Slot) → Each SlotUnder t → Good (walk_with turning outline t)
  unfolding walk_with walk_from
  walk_good turning outline t h =
      steps_good turning (length t) (srcs t) (dsts t) (each_map (Under n) (λ (s : Slot). s.src) t (λ s m. (h s m).0)) (each_map (Under n) (λ (s : Slot). s.dst) t (λ s m. (h s m).1))
      (2 * length t + length (starts (length t) (srcs t) (dsts t) outline []) + 1) _ (each_none (λ (p : List ℕ). Each (Under n) p), tt)

  -- ---- what a cell comes to

  abbrev Known : Outcome → Type 0
  Known x = Runs (outcome_pieces x)

  none_known : (r : ℕ) → Known (refusal r)
  none_known r = each_none (λ (p : List ℕ). Each (Under n) p)

  walked_known : (x : Next) → Good x → Known (of_walk x)
  walked_known (more s) g = none_known 11
  walked_known (closed ps) g = g
  walked_known stuck g = none_known 11
  walked_known broken g = none_known 11

  after_known : (outline : List Edge) (b : Bool) (x : Outcome) → Known x → Known (after_walk outline b x)
  after_known outline b (refusal r) h = none_known r
  after_known outline b (pieces ps) h = pick (b || closes_up outline (rings ps))
    where
      pick : (c : Bool) → Known (cond c (pieces ps) (refusal 11))
      pick true = h
      pick false = none_known 11

  cut_known : (v : Edition) (outline : List Edge) (t : List Slot) → Each SlotUnder t → Known (cut_outcome_with v outline t)
  unfolding cut_outcome_with
  cut_known v outline t h =
      let x = walk_with v.turning outline t in
      let unasked = not v.once && doubled t in
      pick (v.once && repeats outline) (too_many (length t)) (after_walk outline unasked (of_walk x))
      (after_known outline unasked (of_walk x) (walked_known x (walk_good v.turning outline t h)))
    where
      pick : (a b : Bool) (x : Outcome) → Known x → Known (cond a (refusal 19) (cond b (refusal 10) x))
      pick true b x k = none_known 19
      pick false true x k = none_known 10
      pick false false x k = k

  copied_known : (cell : List ℕ) → Each (Under n) cell → Known (copied_outcome_with true cell)
  copied_known cell h = pick (repeats (ring cell))
    where
      pick : (b : Bool) → Known (cond b (refusal 19) (pieces (cell ∷ [])))
      pick true = none_known 19
      pick false = each_cons cell [] h (each_none (λ (p : List ℕ). Each (Under n) p))

  module _ (sc : Scene) (met : (m : Met) → Memᴰ m sc.met → Each (Under n) m.nodes) (w : Side) (edges : Each (Both n) (net_of sc (other w)).edges) where
    near_under : (e : Edge) → Both n e → Each (Both n) (near_darts (laid sc e))
    unfolding near_darts
    near_under e h = pick (sorted_nodes sc e) (sorted_under sc n met e h)
      where
        pick : (ns : List ℕ) → Each (Under n) ns → Each (Both n) (or_whole e ns)
        pick [] a = each_cons _ [] (key_under sc n met e h) (each_none (Both n))
        pick (x ∷ ns) a = hops_each (Under n) x ns (a x (Memᴰ.head refl)) (λ z m. a z (Memᴰ.tail m))

    -- the pieces of a cell whose corners are below n
    pub pieces_under : (i : ℕ) → Each (Under n) (cell_of sc w i) → Each (λ (p : List ℕ). Each (Under n) p) (pieces_of sc w i)
    unfolding treated
    pieces_under i h = pick (near_of sc w i)
      where
        pick : (js : List ℕ) → Known ((treated_by sc w i js).outcome ours)
        pick [] = copied_known (cell_of sc w i) h
        pick (j ∷ js) = cut_known ours _ _ (table_under sc.coords _ _ (darts_under sc n met (cell_of sc w i) h)
            (each_map (λ (l : Laid). Each (Both n) (near_darts l)) (λ (k : ℕ). laid sc (edge_at (net_of sc (other w)).edges k)) (j ∷ js)
            (λ k m. near_under (edge_at (net_of sc (other w)).edges k) (edge_any n (net_of sc (other w)).edges edges some k))))
