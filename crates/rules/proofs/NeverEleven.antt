-- Where every edge of the cells that are cut is forward, refusal 11 doesn't come. Assumes nothing.
use mathlib.Core.Path.{◌≡◌, refl, sym, ap, ◌∙◌}
use mathlib.Core.Bool.{Bool, true, false, not, ◌&&◌, cond}
use mathlib.Core.List.{List, [], ◌∷◌}
use Prim.Native.Nat.{ℕ, zero, suc, ◌-◌}
use native.Mathlib.Omega.{arith}
use lib.Dec.{leb, eqb}
use lib.ListN.{length}
use lib.Ieee.{Float}
use Rattle.std.specs.Prelude.{Some}
use Rattle.lists.specs.Gather.{all}
use Rattle.grid.specs.Grid.{Grid}
use Rattle.cutting.specs.Edges.{Edge, ring}
use Rattle.cutting.specs.Cell.{Laid, cell_table, repeats}
use Rattle.cutting.specs.Walk.{Next}
use Rattle.cutting.specs.Outcome.{refusal, pieces, of_walk, too_many, cut_outcome}
use Rattle.cutting.specs.Areas.{Round}
use Rattle.cutting.proofs.Closing.{round_closes, without_test}
use Rattle.cutting.specs.Edition.{ours}
use Rattle.settings.specs.declared.Settings.{Settings}
use Rattle.entry.specs.Mesh.{Mesh, node_count}
use Rattle.entry.specs.Refused.{call_ok, grid_ok, shape_ok, coords_ok, kinds_ok, nodes_ok, cells_ok, work_ok, entry_of}
use Rattle.rules.specs.Mesh.{Side, other}
use Rattle.rules.specs.Meetings.{Scene, net_of, scene_of}
use Rattle.rules.specs.Cell.{darts_of, near_edges, cell_of, near_of, treated_by, treated, outcome_of}
use Rattle.rules.specs.Operations.{scene_for}
use Rattle.rules.specs.Refusals.{Event, meeting, point, piece, stop, course, first_refusal}
use Rattle.rules.specs.Overlay.{Lists, Result, state_with, overlay_of}
use Rattle.rules.specs.Forward.{forward_on, forward_edge, forward_cell, Forward}
use Rattle.rules.proofs.Endings.{Ending, input, state_met, success, ending, input_refused, state_refused, succeeds, no_refusal}
use Rattle.rules.proofs.Accepts.{Without, without_course}
use Rattle.rules.proofs.Closing.{cells_lent}
use Rattle.rules.proofs.Rounds.{forward_round}

-- ---- a cell

-- one whose outline leads round comes to pieces, or to 19 or 10
round_cut : (coords : List Float) (outline : List Edge) (near : List Laid) → Round outline → cut_outcome outline (cell_table coords outline near) ≡ refusal 11 → ⊥
round_cut coords outline near round e =
    let t = cell_table coords outline near in
    let w = round_closes coords outline near round in
    go w.0 (repeats outline) (too_many (length t))
    (sym (ap (λ (x : Next). cond (repeats outline) (refusal 19) (cond (too_many (length t)) (refusal 10) (of_walk x))) w.1) ∙ sym (without_test coords outline near) ∙ e)
  where
    go : (ps : List (List ℕ)) (a b : Bool) → cond a (refusal 19) (cond b (refusal 10) (pieces ps)) ≡ refusal 11 → ⊥
    go ps true b f = let z : ◌≡◌ {A = ℕ} 19 11 = cc in omega (arith, z)
    go ps false true f = let z : ◌≡◌ {A = ℕ} 10 11 = cc in omega (arith, z)
    go ps false false f = let z : ◌≡◌ {A = ℕ} 0 1 = cc in omega (arith, z)

-- A cell all of whose edges are forward isn't refused with 11.
pub forward_cell_lem : (sc : Scene) (w : Side) (i : ℕ) → forward_cell sc w i ≡ true → outcome_of sc w i ≡ refusal 11 → ⊥
unfolding forward_cell treated
forward_cell_lem sc w i h e = go (near_of sc w i) e
  where
    cell : List ℕ
    cell = cell_of sc w i

    es : List Edge
    es = (net_of sc (other w)).edges

    copied : (b : Bool) → cond b (refusal 19) (pieces (cell ∷ [])) ≡ refusal 11 → ⊥
    copied true f = let z : ◌≡◌ {A = ℕ} 19 11 = cc in omega (arith, z)
    copied false f = let z : ◌≡◌ {A = ℕ} 0 1 = cc in omega (arith, z)

    go : (js : List ℕ) → (treated_by sc w i js).outcome ours ≡ refusal 11 → ⊥
    go [] f = copied (repeats (ring cell)) f
    go (j ∷ js) f = round_cut sc.coords (darts_of sc cell) (near_edges sc es (j ∷ js)) (forward_round sc cell h) f

-- ---- the overlay

-- the scan of events itself gives 0, 8 or 12
first_without : (es : List Event) (m p q n : ℕ) → Without 11 es → first_refusal m p q n es ≡ 11 → ⊥
unfolding first_refusal
first_without [] m p q n h e = omega (arith, e)
first_without (meeting ∷ es) zero p q n h e = omega (arith, e)
first_without (meeting ∷ es) (suc m) p q n h e = first_without es m p q n h e
first_without (point ∷ es) m zero q n h e = omega (arith, e)
first_without (point ∷ es) m (suc p) q n h e = first_without es m p q n h e
first_without (piece k ∷ es) m p zero n h e = omega (arith, e)
first_without (piece k ∷ es) m p (suc q) n h e = go (leb k n) (λ f. first_without es m p q (n - k) h f) e
  where
    go : (t : Bool) → (first_refusal m p q (n - k) es ≡ 11 → ⊥) → (let r : ℕ = elim t [ true ↦ first_refusal m p q (n - k) es | false ↦ 12 ] in r ≡ 11) → ⊥
    go true ih f = ih f
    go false ih f = omega (arith, f)
first_without (stop r ∷ es) m p q n h e = h.0 e

-- a refusal because of the input is none of 8 to 12
entry_low : (o : Settings) (s c : Mesh) (w : ℕ) → entry_of o s c w ≡ 11 → ⊥
unfolding entry_of
entry_low o s c w =
    go (call_ok o.op o.m) (grid_ok o.grid) (shape_ok s && shape_ok c) (coords_ok s.coords && coords_ok c.coords) (kinds_ok false s.kinds s.ends && kinds_ok (eqb o.op 5) c.kinds c.ends)
    (nodes_ok s.nodes (node_count s) && nodes_ok c.nodes (node_count c)) (cells_ok s.nodes s.ends && cells_ok c.nodes c.ends) (work_ok o.m s c w)
  where
    first : (t g u v x y z k : Bool) → ℕ
    first t g u v x y z k = cond (not t) 1 (cond (not g) 13 (cond (not u) 2 (cond (not v) 3 (cond (not x) 4 (cond (not y) 5 (cond (not z) 6 (cond (not k) 7 0)))))))

    go : (t g u v x y z k : Bool) → first t g u v x y z k ≡ 11 → ⊥
    go false g u v x y z k e = omega (arith, e)
    go true false u v x y z k e = omega (arith, e)
    go true true false v x y z k e = omega (arith, e)
    go true true true false x y z k e = omega (arith, e)
    go true true true true false y z k e = omega (arith, e)
    go true true true true true false z k e = omega (arith, e)
    go true true true true true true false k e = omega (arith, e)
    go true true true true true true true false e = omega (arith, e)
    go true true true true true true true true e = omega (arith, e)

-- For all settings, meshes and lists: if in every cell of a mesh that the operation cuts all edges are forward, then the overlay isn't
-- refused with 11.
pub never_eleven : (o : Settings) (s c : Mesh) (l : Lists) → Forward o s c → (overlay_of o s c l).code ≡ 11 → ⊥
unfolding state_with
never_eleven o s c l h e = go (ending ours o s c l)
  where
    code : (r : Result) → overlay_of o s c l ≡ r → r.code ≡ 11
    code r f = ap (λ (x : Result). x.code) (sym f) ∙ e

    calm : Without 11 (course o s c)
    calm = without_course ours o s c 11 (λ f. omega (arith, f)) (λ w f i k. forward_cell_lem (scene_for o s c) w i (h w f i (omega (arith, k, cells_lent o.grid (eqb o.op 5) s c w))))

    go : Ending ours o s c l → ⊥
    go (input n) = entry_low o s c (length l.work) (code _ (input_refused ours o s c l n))
    go (state_met f n) = first_without (course o s c) o.m _ _ _ calm (code _ (state_refused ours o s c l f n))
    go (success f g) = omega (arith, code _ (succeeds ours o s c l f g), no_refusal ours o s c l)

-- On a grid they are, since each key's first node is put first (W6).
forward_on_grid : (k : ℕ) (sc : Scene) (e : Edge) → sc.grid ≡ Some k → forward_edge sc e ≡ true
unfolding forward_on
forward_on_grid k sc e grid = ap (λ (g : Grid). forward_on g sc e) grid

all_pass : (p : Edge → Bool) (es : List Edge) → ((e : Edge) → p e ≡ true) → all p es ≡ true
unfolding all
all_pass p [] h = refl
all_pass p (e ∷ es) h = rw (all, h e) (all_pass p es h)

-- So an overlay with a grid is never refused with 11.
pub never_on_grid : (o : Settings) (s c : Mesh) (l : Lists) (k : ℕ) → o.grid ≡ Some k → (overlay_of o s c l).code ≡ 11 → ⊥
unfolding scene_of forward_cell
never_on_grid o s c l k grid = never_eleven o s c l
    (λ w e i h. all_pass (forward_edge (scene_for o s c)) (ring (cell_of (scene_for o s c) w i)) (λ f. forward_on_grid k (scene_for o s c) f grid))
