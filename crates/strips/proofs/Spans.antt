-- Spans and their squares: narrowed level by level, and small. Assumes nothing.
use mathlib.Core.Path.{◌≡◌, refl, sym, ap, ◌∙◌}
use mathlib.Core.Bool.{Bool, true, false, ◌||◌, true≢false}
use mathlib.Core.List.{List}
use Prim.Native.Nat.{ℕ, zero, suc, ◌+◌, ◌*◌, ◌-◌, ◌≤◌, ◌<◌}
use native.Mathlib.Nat.{mul-le-mul}
use native.Mathlib.Omega.{arith}
use lib.Dec.{ltb}
use lib.ListN.{length}
use lib.Ieee.{Float}
use borrow.Author.Tests.{lt-ltb, le-ltb, ltb-true}
use Rattle.rules.specs.declared.Bounds.{Bounds}
use Rattle.strips.specs.declared.squares.Axis.TheVariants.{X, Y}
use Rattle.strips.specs.declared.squares.Span.{Span}
use Rattle.strips.specs.Squares.{strip_of, span_of, halved, is_wide, narrowed, square_chain, Small}

-- ---- small numbers

pub square_small : (a b : ℕ) → a ≤ 256 → b ≤ 256 → a * b ≤ 65536
square_small a b h l = mul-le-mul {n₁ = a} {m₁ = b} {n₂ = 256} {m₂ = 256} h l

pub halved_small : (s : Span) → Small s → s.level < 1024 → Small (halved s)
halved_small s h l =
    record {
      x0_small = omega (arith, h.x0_small);
      x1_small = omega (arith, h.x1_small);
      y0_small = omega (arith, h.y0_small);
      y1_small = omega (arith, h.y1_small);
      side_small = omega (arith, h.side_small);
      at_small = omega (arith, h.at_small, square_small s.side s.side h.side_small h.side_small);
      level_small = omega (arith, l);
    }

-- the strips of a box, one by one
module _ (coords : List Float) (xs ys : List ℕ) (b : Bounds) (x0 x1 y0 y1 : ℕ) where
  pub span_made : (x0 ≡ strip_of coords xs X b.left) × (x0 < length xs) → (x1 ≡ strip_of coords xs X b.right) × (x1 < length xs)
      → (y0 ≡ strip_of coords ys Y b.low) × (y0 < length ys) → (y1 ≡ strip_of coords ys Y b.high) × (y1 < length ys)
      → length ys ≡ length xs → length xs ≤ 256 → (s : Span)
      → s ≡ record { x0 = x0; x1 = x1; y0 = y0; y1 = y1; at = 0; side = length xs; level = 0 } → (s ≡ span_of coords xs ys b) × Small s × (s.level ≡ 0)
  unfolding span_of
  span_made a c d e l h s s_is = rw s_is (
    rw (← a.0, ← c.0, ← d.0, ← e.0),
    record {
      x0_small = omega (arith, a.1, h);
      x1_small = omega (arith, c.1, h);
      y0_small = omega (arith, d.1, l, h);
      y1_small = omega (arith, e.1, l, h);
      side_small = h;
      at_small = omega arith;
      level_small = omega arith;
    },
    refl,
  )

-- ---- the chain of a square

module _ (h : ℕ) (s : Span) (x y : ℕ) where
  pub chain_there : s.at + y * s.side + x < h → s.at + y * s.side + x ≡ square_chain h s x y
  unfolding square_chain
  chain_there l = rw (lt-ltb (s.at + y * s.side + x) h l)

  pub chain_none : h ≤ s.at + y * s.side + x → 0 ≡ square_chain h s x y
  unfolding square_chain
  chain_none l = rw (le-ltb (s.at + y * s.side + x) h l)

-- ---- narrowed

-- r is on the way from s, and k levels are left
pub record OnWay (s r : Span) : Type 0 where
  pub small : Small r
  pub low : r.level ≤ 512
  pub left : r.x1 + r.y1 ≤ 512 - r.level
  pub same : narrowed (512 - r.level) r ≡ narrowed 512 s

pub way_start : (s : Span) → Small s → s.level ≡ 0 → OnWay s s
way_start s h l =
    let z : 512 - s.level ≡ 512 = omega (arith, l) in
    record { small = h; low = omega (arith, l); left = omega (arith, l, h.x1_small, h.y1_small); same = ap (λ (f : ℕ). narrowed f s) z }

pub narrowed_wide : (f : ℕ) (r : Span) → is_wide r ≡ true → narrowed (suc f) r ≡ narrowed f (halved r)
unfolding narrowed
narrowed_wide f r w = ap (λ (t : Bool). let u : Span = elim t [ true ↦ narrowed f (halved r) | false ↦ r ] in u) w

pub narrowed_here : (f : ℕ) (r : Span) → is_wide r ≡ false → narrowed f r ≡ r
unfolding narrowed
narrowed_here zero r w = refl
narrowed_here (suc f) r w = ap (λ (t : Bool). let u : Span = elim t [ true ↦ narrowed f (halved r) | false ↦ r ] in u) w

-- what is wide reaches further than a strip
pub wide_far : (r : Span) → is_wide r ≡ true → 2 ≤ r.x1 + r.y1
wide_far r w = go (ltb (r.x0 + 1) r.x1) refl (ltb (r.y0 + 1) r.y1) refl w
  where
    go : (a : Bool) → ltb (r.x0 + 1) r.x1 ≡ a → (b : Bool) → ltb (r.y0 + 1) r.y1 ≡ b → a || b ≡ true → 2 ≤ r.x1 + r.y1
    go true e b f z = omega (arith, ltb-true (r.x0 + 1) r.x1 e)
    go false e true f z = omega (arith, ltb-true (r.y0 + 1) r.y1 f)
    go false e false f z = absurd (true≢false (sym z))

pub way_turn : (s r t : Span) → OnWay s r → is_wide r ≡ true → t ≡ halved r → Small t → OnWay s t
way_turn s r t way w e small =
    let far : 2 ≤ r.x1 + r.y1 = wide_far r w in
    let k : 512 - r.level ≡ suc (512 - (r.level + 1)) = omega (arith, way.left) in
    let here : OnWay s (halved r) =
    record {
      small = rw (sym e) small;
      low = omega (arith, way.left);
      left = omega (arith, way.left);
      same = sym (narrowed_wide (512 - (r.level + 1)) r w) ∙ ap (λ (f : ℕ). narrowed f r) (sym k) ∙ way.same;
    } in
    rw e here

pub way_end : (s r : Span) → OnWay s r → is_wide r ≡ false → r ≡ narrowed 512 s
way_end s r way w = sym (narrowed_here (512 - r.level) r w) ∙ way.same
