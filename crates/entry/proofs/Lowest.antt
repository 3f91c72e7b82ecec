-- The entry's number: that of the settings, else the lower of the two meshes', mesh by mesh, else that of the working list. Assumes nothing.
use mathlib.Core.Path.{◌≡◌, refl, sym, ap, ◌∙◌}
use mathlib.Core.Logic.{◌⊎◌, inl, inr}
use mathlib.Core.Bool.{Bool, true, false, ◌&&◌, not, cond}
use Prim.Native.Nat.{ℕ, zero, suc, ◌+◌, ◌*◌, ◌≤◌, ◌<◌}
use native.Mathlib.Nat.{suc-ne-zero}
use native.Mathlib.Omega.{arith}
use lib.Dec.{eqb}
use lib.ListN.{length}
use borrow.Author.Tests.{eq-eqb, ne_eqb, le-leb, lt-leb}
use Rattle.std.specs.Ordering.{ord_min}
use Rattle.refusals.specs.declared.Refusal.{Refusal}
use Rattle.refusals.specs.Numbers.{number}
use Rattle.refusals.specs.contracts.RefusalOrd.TheImpl as order
use Rattle.refusals.proofs.Numbers.{number_positive}
use Rattle.refusals.proofs.Order.{lower_number}
use Rattle.settings.specs.declared.Settings.{Settings}
use Rattle.entry.specs.Mesh.{Mesh, node_count}
use Rattle.entry.specs.Refused.{call_ok, grid_ok, shape_ok, coords_ok, kinds_ok, nodes_ok, cells_ok, work_ok, entry_of}
use Rattle.entry.specs.ByMesh.{settings_refusal, mesh_refusal, lower_refusal}

-- none, or above k
abbrev Over : ℕ → ℕ → Type 0
Over k x = (x ≡ 0) ⊎ (k < x)

over : (t : Bool) (k j x : ℕ) → k < j → Over k x → Over k (cond (not t) j x)
over true k j x h o = o
over false k j x h o = inr h

lower_left : (k y : ℕ) → 0 < k → Over k y → lower_refusal k y ≡ k
unfolding lower_refusal
lower_left k y h (inl e) = rw (ne_eqb k 0 (λ z. omega (arith, z, h)), eq-eqb y 0 e)
lower_left k y h (inr l) = rw (ne_eqb k 0 (λ z. omega (arith, z, h)), ne_eqb y 0 (λ z. omega (arith, z, l)), le-leb k y (omega (arith, l)))

lower_right : (k x : ℕ) → 0 < k → Over k x → lower_refusal x k ≡ k
unfolding lower_refusal
lower_right k x h (inl e) = rw (eq-eqb x 0 e)
lower_right k x h (inr l) = rw (ne_eqb x 0 (λ z. omega (arith, z, l)), ne_eqb k 0 (λ z. omega (arith, z, h)), lt-leb x k l)

lower_same : (k : ℕ) → 0 < k → lower_refusal k k ≡ k
unfolding lower_refusal
lower_same k h = rw (ne_eqb k 0 (λ z. omega (arith, z, h)), le-leb k k (omega arith))

lower_none : lower_refusal 0 0 ≡ 0
unfolding lower_refusal
lower_none = refl

-- a test of both meshes, with what is asked after it
level : (a b : Bool) (k x y : ℕ) → 0 < k → Over k x → Over k y → lower_refusal (cond (not a) k x) (cond (not b) k y) ≡ cond (not (a && b)) k (lower_refusal x y)
level true true k x y h o q = refl
level true false k x y h o q = lower_right k x h o
level false true k x y h o q = lower_left k y h q
level false false k x y h o q = lower_same k h

-- the tests 2 to 6, then z
abbrev chain : Bool → Bool → Bool → Bool → Bool → ℕ → ℕ
chain a b c d e z = cond (not a) 2 (cond (not b) 3 (cond (not c) 4 (cond (not d) 5 (cond (not e) 6 z))))

lower_chain : (a b c d e a' b' c' d' e' : Bool) → lower_refusal (chain a b c d e 0) (chain a' b' c' d' e' 0) ≡ chain (a && a') (b && b') (c && c') (d && d') (e && e') 0
lower_chain a b c d e a' b' c' d' e' =
    level a a' 2 _ _ (omega arith) (three 2 b c d e (omega arith)) (three 2 b' c' d' e' (omega arith))
    ∙ ap (λ (x : ℕ). cond (not (a && a')) 2 x) (level b b' 3 _ _ (omega arith) (four 3 c d e (omega arith)) (four 3 c' d' e' (omega arith))
    ∙ ap (λ (x : ℕ). cond (not (b && b')) 3 x) (level c c' 4 _ _ (omega arith) (five 4 d e (omega arith)) (five 4 d' e' (omega arith))
    ∙ ap (λ (x : ℕ). cond (not (c && c')) 4 x) (level d d' 5 _ _ (omega arith) (six 5 e (omega arith)) (six 5 e' (omega arith))
    ∙ ap (λ (x : ℕ). cond (not (d && d')) 5 x) (level e e' 6 0 0 (omega arith) (inl refl) (inl refl) ∙ ap (λ (x : ℕ). cond (not (e && e')) 6 x) lower_none))))
  where
    six : (k : ℕ) (e : Bool) → k < 6 → Over k (cond (not e) 6 0)
    six k e h = over e k 6 0 h (inl refl)

    five : (k : ℕ) (d e : Bool) → k < 5 → Over k (cond (not d) 5 (cond (not e) 6 0))
    five k d e h = over d k 5 _ h (six k e (omega arith))

    four : (k : ℕ) (c d e : Bool) → k < 4 → Over k (cond (not c) 4 (cond (not d) 5 (cond (not e) 6 0)))
    four k c d e h = over c k 4 _ h (five k d e (omega arith))

    three : (k : ℕ) (b c d e : Bool) → k < 3 → Over k (cond (not b) 3 (cond (not c) 4 (cond (not d) 5 (cond (not e) 6 0))))
    three k b c d e h = over b k 3 _ h (four k c d e (omega arith))

chain_end : (a b c d e : Bool) (z : ℕ) → chain a b c d e z ≡ cond (eqb (chain a b c d e 0) 0) z (chain a b c d e 0)
chain_end false b c d e z = refl
chain_end true false c d e z = refl
chain_end true true false d e z = refl
chain_end true true true false e z = refl
chain_end true true true true false z = refl
chain_end true true true true true z = refl

-- beside none
pub lower_first : (a : ℕ) → lower_refusal a 0 ≡ a
unfolding lower_refusal
lower_first zero = refl
lower_first (suc n) = rw (ne_eqb (suc n) 0 (suc-ne-zero n))

pub lower_second : (b : ℕ) → lower_refusal 0 b ≡ b
unfolding lower_refusal
lower_second b = refl

-- the lower of two refusals by their own order
pub lower_two : {t : Refusal} (r s : Refusal) → t ≡ ord_min (order.ghosts).cmp r s → number t ≡ lower_refusal (number r) (number s)
unfolding lower_refusal
lower_two r s e =
    ap number e ∙ lower_number r s
    ∙ sym (rw (ne_eqb (number r) 0 (λ z. omega (arith, z, number_positive r)), ne_eqb (number s) 0 (λ z. omega (arith, z, number_positive s))))

-- the tests 1 and 13, then z
settings_end : (a b : Bool) (z : ℕ) → cond (not a) 1 (cond (not b) 13 z) ≡ cond (eqb (cond (not a) 1 (cond (not b) 13 0)) 0) z (cond (not a) 1 (cond (not b) 13 0))
settings_end false b z = refl
settings_end true false z = refl
settings_end true true z = refl

-- ---- the entry's answers

pub at_call : (o : Settings) → call_ok o.op o.m ≡ false → settings_refusal o ≡ 1
unfolding settings_refusal
at_call o h = rw h

pub at_grid : (o : Settings) → call_ok o.op o.m ≡ true → grid_ok o.grid ≡ false → settings_refusal o ≡ 13
unfolding settings_refusal
at_grid o call h = rw (call, h)

pub settings_passed : (o : Settings) → call_ok o.op o.m ≡ true → grid_ok o.grid ≡ true → settings_refusal o ≡ 0
unfolding settings_refusal
settings_passed o call h = rw (call, h)

module _ (o : Settings) (s c : Mesh) (w : ℕ) where
  -- the lower of what the two meshes are refused for
  abbrev pub of_meshes : ℕ
  of_meshes = lower_refusal (mesh_refusal false s) (mesh_refusal (eqb o.op 5) c)

  abbrev room : ℕ
  room = 16 * ((node_count s + node_count c) + (length s.nodes + length c.nodes) + o.m) + 64

  by_mesh : entry_of o s c w ≡ cond (eqb (settings_refusal o) 0) (cond (eqb of_meshes 0) (cond (not (work_ok o.m s c w)) 7 0) of_meshes) (settings_refusal o)
  unfolding entry_of settings_refusal mesh_refusal
  by_mesh =
      settings_end (call_ok o.op o.m) (grid_ok o.grid) _
      ∙ ap (λ (x : ℕ). cond (eqb (settings_refusal o) 0) x (settings_refusal o))
      (chain_end (shape_ok s && shape_ok c) (coords_ok s.coords && coords_ok c.coords) (kinds_ok false s.kinds s.ends && kinds_ok (eqb o.op 5) c.kinds c.ends)
      (nodes_ok s.nodes (node_count s) && nodes_ok c.nodes (node_count c)) (cells_ok s.nodes s.ends && cells_ok c.nodes c.ends) (cond (not (work_ok o.m s c w)) 7 0)
      ∙ ap (λ (x : ℕ). cond (eqb x 0) (cond (not (work_ok o.m s c w)) 7 0) x)
      (sym (lower_chain (shape_ok s) (coords_ok s.coords) (kinds_ok false s.kinds s.ends) (nodes_ok s.nodes (node_count s)) (cells_ok s.nodes s.ends)
      (shape_ok c) (coords_ok c.coords) (kinds_ok (eqb o.op 5) c.kinds c.ends) (nodes_ok c.nodes (node_count c)) (cells_ok c.nodes c.ends))))

  pub at_settings : (settings_refusal o ≡ 0 → ⊥) → entry_of o s c w ≡ settings_refusal o
  at_settings h = by_mesh ∙ rw (ne_eqb (settings_refusal o) 0 h)

  pub at_mesh : settings_refusal o ≡ 0 → (of_meshes ≡ 0 → ⊥) → entry_of o s c w ≡ of_meshes
  at_mesh set h = by_mesh ∙ rw (eq-eqb (settings_refusal o) 0 set, ne_eqb of_meshes 0 h)

  pub at_work : settings_refusal o ≡ 0 → of_meshes ≡ 0 → w < room → entry_of o s c w ≡ 7
  unfolding work_ok
  at_work set h l = by_mesh ∙ rw (eq-eqb (settings_refusal o) 0 set, eq-eqb of_meshes 0 h, lt-leb room w l)

  pub passed_all : settings_refusal o ≡ 0 → of_meshes ≡ 0 → room ≤ w → entry_of o s c w ≡ 0
  unfolding work_ok
  passed_all set h l = by_mesh ∙ rw (eq-eqb (settings_refusal o) 0 set, eq-eqb of_meshes 0 h, le-leb room w l)
