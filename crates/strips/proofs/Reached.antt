-- A thing whose box meets a box is on one of the chains that a search goes over. Assumes nothing.
use mathlib.Core.Path.{◌≡◌, refl, ap, ap₂, ◌∙◌}
use mathlib.Core.Bool.{Bool, true, false, cond, ◌&&◌}
use mathlib.Core.List.Memᴰ
use mathlib.Core.List.{List, [], ◌∷◌, ◌++◌, Memᴰ}
use Prim.Native.Nat.{ℕ, zero, suc, ◌+◌, ◌*◌, ◌-◌, ◌/◌, ◌≤◌, ◌<◌, max}
use native.Mathlib.Nat.{le-max_left, le-max_right}
use native.Mathlib.Decide.{ℕ_discrete}
use native.Mathlib.Omega.{arith}
use lib.Dec.{ltb}
use lib.ListN.{length, get_or}
use lib.Ieee.{Float, le}
use borrow.Author.Tests.{ltb-false, eq-eqb}
use Rattle.lists.proofs.Search.{and_true, or_false}
use Rattle.lists.proofs.Gather.{in_gathered}
use Rattle.rules.specs.declared.Bounds.{Bounds}
use Rattle.rules.specs.SpatialIndex.{boxes_meet}
use Rattle.strips.specs.declared.squares.Axis.{Axis}
use Rattle.strips.specs.declared.squares.Axis.TheVariants.{X, Y}
use Rattle.strips.specs.declared.squares.Span.{Span}
use Rattle.strips.specs.Squares.{coordinate_of, strip_of, span_of, halved, is_wide, narrowed, square_chain}
use Rattle.strips.specs.Index.{on_chain, above}
use Rattle.strips.specs.Gathering.{on_chains, in_row, in_level, in_levels}
use Rattle.strips.proofs.Strips.{strip_mono, strip_to}
use Rattle.strips.proofs.Spans.{wide_far, narrowed_wide, narrowed_here}

-- ---- strips in reach of each other

-- the strips of s and of t touch, on one level
pub record Touch (s t : Span) : Type 0 where
  pub x_low : s.x0 ≤ t.x1
  pub x_high : t.x0 ≤ s.x1
  pub y_low : s.y0 ≤ t.y1
  pub y_high : t.y0 ≤ s.y1
  pub at_same : s.at ≡ t.at
  pub side_same : s.side ≡ t.side

touch_halved : (s t : Span) → Touch s t → Touch (halved s) (halved t)
touch_halved s t h =
    record {
      x_low = omega (arith, h.x_low);
      x_high = omega (arith, h.x_high);
      y_low = omega (arith, h.y_low);
      y_high = omega (arith, h.y_high);
      at_same = ap₂ (λ (a d : ℕ). a + d * d) h.at_same h.side_same;
      side_same = ap (λ (d : ℕ). (d + 1) / 2) h.side_same;
    }

module _ (coords : List Float) (xs ys : List ℕ) (some_x : 0 < length xs) (some_y : 0 < length ys) where
  mono : (bounds : List ℕ) (axis : Axis) (v w : Float) → 0 < length bounds → le v w ≡ true → strip_of coords bounds axis v ≤ strip_of coords bounds axis w
  unfolding strip_of
  mono bounds axis v w some h = strip_mono (length bounds) (λ i. coordinate_of coords axis (get_or bounds i 0)) v w 0 (length bounds) some h

  -- boxes that meet
  pub touch_start : (e b : Bounds) → boxes_meet e b ≡ true → Touch (span_of coords xs ys e) (span_of coords xs ys b)
  unfolding boxes_meet span_of
  touch_start e b meets =
      let three = and_true (le e.left b.right && le b.left e.right && le e.low b.high) (le b.low e.high) meets in
      let two = and_true (le e.left b.right && le b.left e.right) (le e.low b.high) three.0 in
      let one = and_true (le e.left b.right) (le b.left e.right) two.0 in
      record {
        x_low = mono xs X e.left b.right some_x one.0;
        x_high = mono xs X b.left e.right some_x one.1;
        y_low = mono ys Y e.low b.high some_y two.1;
        y_high = mono ys Y b.low e.high some_y three.1;
        at_same = refl;
        side_same = refl;
      }

  pub reach_small : (e : Bounds) → ((span_of coords xs ys e).x1 < length xs) × ((span_of coords xs ys e).y1 < length ys)
  unfolding span_of strip_of
  reach_small e = (
    omega (arith, strip_to (length xs) (λ i. coordinate_of coords X (get_or xs i 0)) e.right 0 (length xs) some_x),
    omega (arith, strip_to (length ys) (λ i. coordinate_of coords Y (get_or ys i 0)) e.high 0 (length ys) some_y),
  )

-- ---- on a chain that is gone over

-- not wide: over no more than one strip beyond the first
not_wide : (s : Span) → is_wide s ≡ false → (s.x1 ≤ s.x0 + 1) × (s.y1 ≤ s.y0 + 1)
not_wide s e =
    let b = or_false (ltb (s.x0 + 1) s.x1) (ltb (s.y0 + 1) s.y1) e in
    (omega (arith, ltb-false (s.x0 + 1) s.x1 b.0), omega (arith, ltb-false (s.y0 + 1) s.y1 b.1))

narrowed_zero : (s : Span) → narrowed zero s ≡ s
unfolding narrowed
narrowed_zero s = refl

-- levels only rise
level_rises : (f : ℕ) (s : Span) → s.level ≤ (narrowed f s).level
unfolding narrowed
level_rises zero s = omega arith
level_rises (suc f) s = go (is_wide s) (level_rises f (halved s))
  where
    go : (t : Bool) → (halved s).level ≤ (narrowed f (halved s)).level → (let u : Span = elim t [ true ↦ narrowed f (halved s) | false ↦ s ] in s.level ≤ u.level)
    go true ih = omega (arith, ih)
    go false ih = omega arith

module _ (f : ℕ → ℕ) (n h j : ℕ) (low : j < n) where
  on_chain_lem : (c : ℕ) → f j ≡ c → Memᴰ j (on_chains f n c)
  on_chain_lem c e = in_gathered n (λ i. cond (on_chain f c i) (i ∷ []) []) j j low (rw (eq-eqb (f j) c e) (Memᴰ.head refl))

  -- on this level
  on_level : (s t : Span) → Touch s t → is_wide s ≡ false → f j ≡ square_chain h s s.x0 s.y0 → Memᴰ j (in_level f n h t)
  unfolding in_level in_row square_chain
  on_level s t touch narrow e =
      let w = not_wide s narrow in
      let i : ℕ = s.x0 - (t.x0 - 1) in
      let k : ℕ = s.y0 - (t.y0 - 1) in
      let x : s.x0 ≡ t.x0 - 1 + i = omega (arith, touch.x_high, w.0) in
      let y : s.y0 ≡ t.y0 - 1 + k = omega (arith, touch.y_high, w.1) in
      let place : s.at + s.y0 * s.side + s.x0 ≡ t.at + (t.y0 - 1 + k) * t.side + (t.x0 - 1 + i) =
      ap₂ (λ (a d : ℕ). a + s.y0 * d + s.x0) touch.at_same touch.side_same ∙ ap₂ (λ (p q : ℕ). t.at + p * t.side + q) y x in
      in_gathered (t.y1 + 1 - (t.y0 - 1)) (λ m. in_row f n h t (t.y0 - 1 + m)) j k (omega (arith, touch.y_low, touch.y_high, w.1))
      (in_gathered (t.x1 + 1 - (t.x0 - 1)) (λ m. on_chains f n (square_chain h t (t.x0 - 1 + m) (t.y0 - 1 + k))) j i (omega (arith, touch.x_low, touch.x_high, w.0))
      (on_chain_lem (square_chain h t (t.x0 - 1 + i) (t.y0 - 1 + k)) (e ∙ ap (λ (c : ℕ). cond (ltb c h) c 0) place)))

  -- on one of the next m levels
  pub on_levels : (fuel m : ℕ) (s t : Span) → s.x1 + s.y1 ≤ fuel → Touch s t → (narrowed fuel s).level < s.level + m
      → f j ≡ square_chain h (narrowed fuel s) (narrowed fuel s).x0 (narrowed fuel s).y0 → Memᴰ j (in_levels f n h t m)
  unfolding in_levels
  on_levels fuel zero s t far touch l e = absurd (omega (arith, l, level_rises fuel s))
  on_levels zero (suc m) s t far touch l e = Memᴰ.append_left (in_levels f n h (halved t) m)
      (on_level s t touch (flat (is_wide s) refl) (e ∙ ap (λ (u : Span). square_chain h u u.x0 u.y0) (narrowed_zero s)))
    where
      flat : (b : Bool) → is_wide s ≡ b → is_wide s ≡ false
      flat false w = w
      flat true w = absurd (omega (arith, far, wide_far s w))
  on_levels (suc fuel) (suc m) s t far touch l e = go (is_wide s) refl (λ a b c d. on_levels fuel m (halved s) (halved t) a b c d)
    where
      go : (b : Bool) → is_wide s ≡ b
          → ((halved s).x1 + (halved s).y1 ≤ fuel → Touch (halved s) (halved t) → (narrowed fuel (halved s)).level < (halved s).level + m
          → f j ≡ square_chain h (narrowed fuel (halved s)) (narrowed fuel (halved s)).x0 (narrowed fuel (halved s)).y0 → Memᴰ j (in_levels f n h (halved t) m))
          → Memᴰ j (in_level f n h t ++ in_levels f n h (halved t) m)
      go false w ih =
          Memᴰ.append_left (in_levels f n h (halved t) m) (on_level s t touch w (e ∙ ap (λ (u : Span). square_chain h u u.x0 u.y0) (narrowed_here (suc fuel) s w)))
      go true w ih =
          let down : narrowed (suc fuel) s ≡ narrowed fuel (halved s) = narrowed_wide fuel s w in
          Memᴰ.append_right (in_level f n h t) (ih (omega (arith, far, wide_far s w)) (touch_halved s t touch) (omega (arith, l, ap (λ (u : Span). u.level) down))
          (e ∙ ap (λ (u : Span). square_chain h u u.x0 u.y0) down))

-- each level of a thing is counted
pub above_each : (g : ℕ → ℕ) (k m j : ℕ) → k ≤ j → j < k + m → g j < above g k m
unfolding above
above_each g k zero j h l = absurd (omega arith)
above_each g k (suc m) j h l = go (ℕ_discrete j k) (λ a. above_each g (suc k) m j a (omega arith))
  where
    go : Dec (j ≡ k) → (suc k ≤ j → g j < above g (suc k) m) → g j < max (g k + 1) (above g (suc k) m)
    go (yes e) ih = omega (arith, ap g e, le-max_left (g k + 1) (above g (suc k) m))
    go (no e) ih = omega (arith, ih (omega (arith, e, h)), le-max_right (g k + 1) (above g (suc k) m))
